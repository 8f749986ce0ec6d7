-- The table against the sections of a problem.
use Rattle.std.proofs.Common.{◌≡◌, ℕ, zero, suc, ◌+◌, ◌-◌, ◌<◌, ◌≤◌, Bool, true, false, cond, List, [], ◌∷◌, ◌++◌, length, Some, None, Ok, Err, refl, sym, ap, ◌∙◌, arith, append_assoc}
use Rattle.std.specs.Prelude.{◌&&◌, is_some}
use Rattle.plus_tokens.specs.declared.token.Kind.{Kind}
use Rattle.plus_tokens.specs.declared.token.Kind.TheVariants as kinds
use Rattle.plus_tokens.specs.declared.span.Span.{Span}
use Rattle.plus_tree.specs.declared.names.Spelled.{Spelled}
use Rattle.plus_tree.specs.declared.faults.TextFault.TheVariants as faults
use Rattle.plus_parser.specs.declared.phrases.words.Allowed.TheVariants as allows
use Rattle.plus_tokens.specs.Items.{Piece, Item, tok}
use Rattle.plus_parser.specs.Phrases.Reading.{◌>>=◌, Read, next_of, is_open}
use Rattle.plus_parser.specs.Phrases.Words.{is_keyword, look}
use Rattle.plus_parser.specs.Phrases.Grammar.{bare_of, spelled_of, open_of, close_of, name_of, until_close, form_step, list_of}
use Rattle.plus_parser.specs.Forms.ReadingForms.{cond_at}
use Rattle.plus_parser.specs.declared.parts.ProblemParts.{ProblemParts}
use Rattle.plus_parser.specs.declared.keywords.ProblemWord.{ProblemWord}
use Rattle.plus_parser.specs.declared.keywords.ProblemWord.TheVariants as problems
use Rattle.plus_parser.specs.Keywords.{problem_words, problem_part_of}
use Rattle.plus_parser.specs.Balanced.{skip_with, skip, skipped}
use Rattle.plus_parser.specs.ReadingDomain.{requirement_step, section_step}
use Rattle.plus_parser.specs.ReadingProblem.{init_at, problem_part_with, problem_part, all_found, problem_step}
use Rattle.plus_parser.proofs.PhraseLemmas.Names.{keyword_is, keyword_says}
use Rattle.plus_parser.proofs.PhraseLemmas.Level.{is_flat}
use Rattle.plus_parser.proofs.PhraseLemmas.Tokens.{bind_ok, ok_is, next_ok, next_some, open_kind, refused}
use Rattle.plus_places.specs.declared.symbols.Met.{Met}
use Rattle.plus_places.specs.declared.symbols.Symbol.{Symbol}
use Rattle.plus_places.specs.declared.symbols.Symbol.TheVariants as sy
use Rattle.plus_places.specs.Table.{accept, once, all_met, none_missing, section_of, step}
use Rattle.plus_places.proofs.Goes.{room_next, Rest, taken, goes}
use Rattle.plus_places.proofs.Follows.{bind_assoc, bind_same, looks, Follows, follows_token, follows_open, follows_close, flat_room}
use Rattle.plus_places.proofs.Turns.{after, in_turn, past_close, not_close, no_more, follows_length, Steps, Less, until_follows, forms_follow}
use Rattle.plus_places.proofs.Lists.{name_follow, list_follow}
use Rattle.plus_places.proofs.Conds.{cond_inside_follow}
use Rattle.plus_places.proofs.Inits.{init_inside_follow}
use Rattle.plus_places.proofs.Finish.{late}

-- ---- requirements

requirement_steps : (room : ℕ) (st : List Symbol) → Steps requirement_step room (λ xs. sy.Requirements) st (λ x. goes (suc room) st x.1)
unfolding requirement_step
requirement_steps room st xs p rest c left =
    ap (λ w. taken w p (after room p st rest)) (not_close p.kind (accept (is_keyword p.kind) (sy.Requirements ∷ [])) c) ∙ at_test (is_keyword p.kind) refl
  where
    at_test : (b : Bool) → is_keyword p.kind ≡ b → taken (accept b (sy.Requirements ∷ [])) p (after room p st rest) ≡ (cond {A = Read (List Spelled)} b (Ok (xs ++ bare_of p ∷ [], rest)) (Err (faults.Form p.span)) >>= λ x. goes room (sy.Requirements ∷ st) x.1)
    at_test true e = ap (λ r. goes r (sy.Requirements ∷ st) rest) (flat_room p.kind room (ap is_flat (keyword_is p.kind e)))
    at_test false e = refl

requirement_less : (room : ℕ) (st : List Symbol) → Less requirement_step room (λ xs. sy.Requirements) st (λ x. goes (suc room) st x.1)
unfolding requirement_step
requirement_less room st xs xs' p r r' left e = at_test (is_keyword p.kind) e
  where
    at_test : (b : Bool) → cond {A = Read (List Spelled)} b (Ok (xs ++ bare_of p ∷ [], r)) (Err (faults.Form p.span)) ≡ Ok (xs', r') → length r' ≤ length r
    at_test true e = no_more r r' (ap (λ (x : List Spelled × List Item). x.1) (ok_is (xs ++ bare_of p ∷ [], r) (xs', r') e))
    at_test false e = absurd cc

pub requirements_follow : (room : ℕ) → Follows room (suc room) (sy.Requirements ∷ []) (λ items. until_close requirement_step room (length items) [] items)
requirements_follow room st items =
    until_follows requirement_step room (λ xs. sy.Requirements) st (λ x. goes (suc room) st x.1)
    (λ xs p rest c. past_close room st p rest (accept (is_keyword p.kind) (sy.Requirements ∷ [])) c)
    (requirement_steps room st) (requirement_less room st) (length items) [] items (omega arith)

-- ---- tokens without meaning

abbrev many : ℕ → List Symbol → List Symbol
many zero st = sy.Balanced ∷ st
many (suc n) st = sy.Balanced ∷ many n st

skip_follow : (turns room n sum : ℕ) (st : List Symbol) (items : List Item) → room + n ≡ sum → length items ≤ turns → goes room (many n st) items ≡ (skip turns room n items >>= λ x. goes (suc sum) st x.1)
unfolding skip goes
skip_follow zero room zero sum st [] s le = refl
skip_follow zero room (suc n) sum st [] s le = refl
skip_follow zero room n sum st (i ∷ items) s le = absurd (omega (arith, le))
skip_follow (suc turns) room n sum st items s le =
    front n
    ∙ bind_same (next_of room items) (λ p. taken (step sy.Balanced p.0) p.0 (λ ks. goes (room_next p.0.kind room) (ks ++ behind n) p.1)) (λ p. skip_with p.0.kind (skip turns) room n p.0.span p.1 >>= λ x. goes (suc sum) st x.1) (λ p e.
    let less : length p.1 ≤ turns = (let same : length items ≡ length (tok p.0 ∷ p.1) = ap length (next_ok room items p.0 p.1 e) in omega (arith, le, same)) in
    at_kind p.0 p.1 (λ r m q. skip_follow turns r m sum st p.1 q less) (next_some room items p.0 p.1 e) p.0.kind refl n refl)
    ∙ sym (bind_assoc (next_of room items) (λ p. skip_with p.0.kind (skip turns) room n p.0.span p.1) (λ x. goes (suc sum) st x.1))
  where
    behind : ℕ → List Symbol
    behind zero = st
    behind (suc n) = many n st

    front : (n : ℕ) → goes room (many n st) items ≡ (next_of room items >>= λ p. taken (step sy.Balanced p.0) p.0 (λ ks. goes (room_next p.0.kind room) (ks ++ behind n) p.1))
    front zero = looks room sy.Balanced st items
    front (suc n) = looks room sy.Balanced (many n st) items

    same_many : (n : ℕ) → (let x : List Symbol = sy.Balanced ∷ behind n in x) ≡ many n st
    same_many zero = refl
    same_many (suc n) = refl

    at_kind :
        (p : Piece) (rest : List Item) → ((r m : ℕ) → r + m ≡ sum → goes r (many m st) rest ≡ (skip turns r m rest >>= λ x. goes (suc sum) st x.1)) → (is_open p.kind ≡ true → 0 < room)
        → (k : Kind) → p.kind ≡ k → (m : ℕ) → n ≡ m → taken (step sy.Balanced (record p { kind = k })) p (λ ks. goes (room_next k room) (ks ++ behind m) rest) ≡ (skip_with k (skip turns) room m p.span rest >>= λ x. goes (suc sum) st x.1)
    at_kind p rest again left kinds.Open e m z =
        let lt : 0 < room = left (ap is_open e) in
        ap (λ ks. goes (room - 1) (sy.Balanced ∷ ks) rest) (same_many m) ∙ again (room - 1) (suc m) (omega (arith, s, lt, z))
    at_kind p rest again left kinds.Close e zero z =
        let over : room ≡ sum = omega (arith, s, z) in ap (λ r. goes (suc r) st rest) over
    at_kind p rest again left kinds.Close e (suc m) z =
        let plus : suc room ≡ room + 1 = omega arith in
        ap (λ r. goes r (many m st) rest) plus ∙ again (room + 1) m (omega (arith, s, z))
    at_kind p rest again left k e m z = ap (λ ks. goes room ks rest) (same_many m) ∙ again room m (omega (arith, s, z))

skipped_follow : (room : ℕ) → Follows room (suc room) (sy.Balanced ∷ []) (skipped room)
skipped_follow room st items = skip_follow (length items) room 0 room st items (omega arith) (omega arith)

-- ---- one section

abbrev pub met_of : ProblemParts → Met
met_of ps = record { domain = is_some ps.domain; requirements = is_some ps.requirements; objects = is_some ps.objects; init = is_some ps.init; goal = is_some ps.goal; metric = ps.metric }

-- what a section reads, which leaves these sections met
record Part (room : ℕ) (ks : List Symbol) (met : Met) (read : List Item → Read ProblemParts) : Type 0 where
  follows : Follows room (suc room) ks read
  meets : (items : List Item) (ps : ProblemParts) (rest : List Item) → read items ≡ Ok (ps, rest) → met_of ps ≡ met

abbrev puts : {V : Type 0} → (V → ProblemParts) → V × List Item → Read ProblemParts
puts put v = Ok (put v.0, v.1)

abbrev puts_closed : {V : Type 0} → ℕ → (V → ProblemParts) → V × List Item → Read ProblemParts
puts_closed room put v = close_of room v.1 >>= λ e. Ok (put v.0, e.1)

-- a thing that is read, and the sections with it
made : {V : Type 0} (room : ℕ) (s : Symbol) (read : List Item → Read V) (put : V → ProblemParts) (met : Met) → Follows room (suc room) (s ∷ []) read → ((v : V) → met_of (put v) ≡ met) → Part room (s ∷ []) met (λ items. read items >>= puts put)
made {V} room s read put met F h = record {
  follows = λ st items. in_turn room (suc room) s st items read (puts put) (λ x. goes (suc room) st x.1) F (λ v. refl);
  meets = λ items ps rest e. put_is (read items) ps rest e;
}
  where
    put_is : (r : Read V) (ps : ProblemParts) (rest : List Item) → (r >>= puts put) ≡ Ok (ps, rest) → met_of ps ≡ met
    put_is (Ok v) ps rest e = ap (λ (x : ProblemParts × List Item). met_of x.0) (sym (ok_is (put v.0, v.1) (ps, rest) e)) ∙ h v.0
    put_is (Err d) ps rest e = absurd cc

-- the same, with a closing parenthesis behind the thing
made_closed : {V : Type 0} (room : ℕ) (s : Symbol) (read : List Item → Read V) (put : V → ProblemParts) (met : Met) → Follows room room (s ∷ []) read → ((v : V) → met_of (put v) ≡ met) → Part room (s ∷ sy.Close ∷ []) met (λ items. read items >>= puts_closed room put)
made_closed {V} room s read put met F h = record {
  follows = λ st items. in_turn room room s (sy.Close ∷ st) items read (puts_closed room put) (λ x. goes (suc room) st x.1) F (λ v. follows_close room st v.1 (λ e. Ok (put v.0, e.1)) (λ x. goes (suc room) st x.1) (λ e rest. refl));
  meets = λ items ps rest e.
      let a = bind_ok (read items) (puts_closed room put) (ps, rest) e in
      let b = bind_ok (close_of room a.0.1) (λ e. Ok (put a.0.0, e.1)) (ps, rest) a.2 in
      ap (λ (x : ProblemParts × List Item). met_of x.0) (sym (ok_is (put a.0.0, b.0.1) (ps, rest) b.2)) ∙ h a.0.0;
}

goal_part : (room : ℕ) (ps : ProblemParts) → Part room (sy.Cond ∷ sy.Close ∷ []) (record (met_of ps) { goal = true }) (λ items. open_of room items >>= λ o. cond_at room o.0.span o.1 >>= λ c. close_of room c.1 >>= λ e. Ok (record ps { goal = Some c.0 }, e.1))
goal_part room ps = record {
  follows = λ st items.
      follows_open room sy.Cond (sy.CondInside ∷ []) (sy.Close ∷ st) items (λ o. cond_at room o.0.span o.1 >>= λ c. close_of room c.1 >>= λ e. Ok (record ps { goal = Some c.0 }, e.1)) (λ x. goes (suc room) st x.1) (λ p. refl) (λ lt o rest.
      in_turn (room - 1) room sy.CondInside (sy.Close ∷ st) rest (cond_at room o.span) (λ c. close_of room c.1 >>= λ e. Ok (record ps { goal = Some c.0 }, e.1)) (λ x. goes (suc room) st x.1) (cond_inside_follow room lt o.span) (λ c.
      follows_close room st c.1 (λ e. Ok (record ps { goal = Some c.0 }, e.1)) (λ x. goes (suc room) st x.1) (λ e rest. refl)));
  meets = λ items qs rest e.
      let a = bind_ok (open_of room items) (λ o. cond_at room o.0.span o.1 >>= λ c. close_of room c.1 >>= λ e. Ok (record ps { goal = Some c.0 }, e.1)) (qs, rest) e in
      let b = bind_ok (cond_at room a.0.0.span a.0.1) (λ c. close_of room c.1 >>= λ e. Ok (record ps { goal = Some c.0 }, e.1)) (qs, rest) a.2 in
      let d = bind_ok (close_of room b.0.1) (λ e. Ok (record ps { goal = Some b.0.0 }, e.1)) (qs, rest) b.2 in
      ap (λ (x : ProblemParts × List Item). met_of x.0) (sym (ok_is (record ps { goal = Some b.0.0 }, d.0.1) (qs, rest) d.2));
}

-- a section of any word: the symbols for it, and what is met then
record AnyPart (room : ℕ) (w : ProblemWord) (front : Span) (ps : ProblemParts) (q : Piece) : Type 0 where
  ks : List Symbol
  met : Met
  body : List Item → Read ProblemParts
  there : Bool
  wanted : section_of (met_of ps) w ≡ once there (ks ++ sy.Sections met ∷ [])
  reads : (rest : List Item) → problem_part_with w room ps front q rest ≡ cond there (Err (faults.Form q.span)) (body rest)
  part : Part room ks met body

abbrev any_part : (room : ℕ) (w : ProblemWord) (front : Span) (ps : ProblemParts) (q : Piece) → AnyPart room w front ps q
any_part room problems.Domain front ps q = record {
  ks = sy.Name ∷ sy.Close ∷ [];
  met = record (met_of ps) { domain = true };
  body = λ rest. name_of room rest >>= λ n. close_of room n.1 >>= λ e. Ok (record ps { domain = Some (spelled_of n.0) }, e.1);
  there = is_some ps.domain;
  wanted = refl;
  reads = λ rest. refl;
  part = made_closed room sy.Name (name_of room) (λ n. record ps { domain = Some (spelled_of n) }) (record (met_of ps) { domain = true }) (name_follow room) (λ v. refl);
}
any_part room problems.Requirements front ps q = record {
  ks = sy.Requirements ∷ [];
  met = record (met_of ps) { requirements = true };
  body = λ rest. until_close requirement_step room (length rest) [] rest >>= λ xs. Ok (record ps { requirements = Some xs.0.0 }, xs.1);
  there = is_some ps.requirements;
  wanted = refl;
  reads = λ rest. refl;
  part = made room sy.Requirements (λ rest. until_close requirement_step room (length rest) [] rest) (λ xs. record ps { requirements = Some xs.0 }) (record (met_of ps) { requirements = true }) (requirements_follow room) (λ v. refl);
}
any_part room problems.Objects front ps q = record {
  ks = sy.Listed allows.Names false ∷ [];
  met = record (met_of ps) { objects = true };
  body = λ rest. list_of allows.Names room rest >>= λ xs. Ok (record ps { objects = Some xs.0.0 }, xs.1);
  there = is_some ps.objects;
  wanted = refl;
  reads = λ rest. refl;
  part = made room (sy.Listed allows.Names false) (list_of allows.Names room) (λ xs. record ps { objects = Some xs.0 }) (record (met_of ps) { objects = true }) (list_follow allows.Names room) (λ v. refl);
}
any_part room problems.Init front ps q = record {
  ks = sy.Inits ∷ [];
  met = record (met_of ps) { init = true };
  body = λ rest. until_close (form_step (init_at room)) room (length rest) [] rest >>= λ xs. Ok (record ps { init = Some xs.0.0 }, xs.1);
  there = is_some ps.init;
  wanted = refl;
  reads = λ rest. refl;
  part = made room sy.Inits (λ rest. until_close (form_step (init_at room)) room (length rest) [] rest) (λ xs. record ps { init = Some xs.0 }) (record (met_of ps) { init = true }) (forms_follow sy.Inits sy.InitInside (λ p. refl) room (init_at room) (init_inside_follow room)) (λ v. refl);
}
any_part room problems.Goal front ps q = record {
  ks = sy.Cond ∷ sy.Close ∷ [];
  met = record (met_of ps) { goal = true };
  body = λ rest. open_of room rest >>= λ o. cond_at room o.0.span o.1 >>= λ c. close_of room c.1 >>= λ e. Ok (record ps { goal = Some c.0 }, e.1);
  there = is_some ps.goal;
  wanted = refl;
  reads = λ rest. refl;
  part = goal_part room ps;
}
any_part room problems.Metric front ps q = record {
  ks = sy.Balanced ∷ [];
  met = record (met_of ps) { metric = true };
  body = λ rest. skipped room rest >>= λ e. Ok (record ps { metric = true }, e.1);
  there = ps.metric;
  wanted = refl;
  reads = λ rest. refl;
  part = made room sy.Balanced (skipped room) (λ e. record ps { metric = true }) (record (met_of ps) { metric = true }) (skipped_follow room) (λ v. refl);
}
any_part room problems.Other front ps q = record {
  ks = sy.Cond ∷ sy.Close ∷ [];
  met = record (met_of ps) { goal = true };
  body = λ rest. open_of room rest >>= λ o. cond_at room o.0.span o.1 >>= λ c. close_of room c.1 >>= λ e. Ok (record ps { goal = Some c.0 }, e.1);
  there = true;
  wanted = refl;
  reads = λ rest. refl;
  part = goal_part room ps;
}

-- ---- the sections

word_flat : (q : Piece) (w : ProblemWord) → problem_part_of q ≡ w → (problems.Other ≡ w → ⊥) → is_flat q.kind ≡ true
word_flat q w e n = ap is_flat (keyword_says problem_part_of problems.Other (λ p k. ap (λ b. cond b (look p.word problem_words problems.Other) problems.Other) k) q w e n)

-- a section that is there, or one that may not come
there_flat : (room : ℕ) (front : Span) (ps : ProblemParts) (q : Piece) (w : ProblemWord) → problem_part_of q ≡ w → (any_part room w front ps q).there ≡ false → is_flat q.kind ≡ true
there_flat room front ps q problems.Other e t = absurd cc
there_flat room front ps q problems.Domain e t = word_flat q problems.Domain e (λ z. cc)
there_flat room front ps q problems.Requirements e t = word_flat q problems.Requirements e (λ z. cc)
there_flat room front ps q problems.Objects e t = word_flat q problems.Objects e (λ z. cc)
there_flat room front ps q problems.Init e t = word_flat q problems.Init e (λ z. cc)
there_flat room front ps q problems.Goal e t = word_flat q problems.Goal e (λ z. cc)
there_flat room front ps q problems.Metric e t = word_flat q problems.Metric e (λ z. cc)

module _ (room : ℕ) (st : List Symbol) where
  abbrev to_sections : ProblemParts × List Item → Rest
  to_sections x = goes (suc room) (sy.Sections (met_of x.0) ∷ st) x.1

  part_follow : (front : Span) (ps : ProblemParts) (q : Piece) (rest : List Item) → taken (section_of (met_of ps) (problem_part_of q)) q (after room q st rest) ≡ (problem_part room ps front q rest >>= to_sections)
  unfolding problem_part
  part_follow front ps q rest =
      let a = any_part room (problem_part_of q) front ps q in
      ap (λ w. taken w q (after room q st rest)) a.wanted
      ∙ at_there a a.there (there_flat room front ps q (problem_part_of q) refl)
      ∙ ap (λ (r : Read ProblemParts). r >>= to_sections) (sym (a.reads rest))
    where
      at_there : (a : AnyPart room (problem_part_of q) front ps q) (b : Bool) → (b ≡ false → is_flat q.kind ≡ true) → taken (once b (a.ks ++ sy.Sections a.met ∷ [])) q (after room q st rest) ≡ (cond {A = Read ProblemParts} b (Err (faults.Form q.span)) (a.body rest) >>= to_sections)
      at_there a true f = refl
      at_there a false f =
          ap (λ r. goes r ((a.ks ++ sy.Sections a.met ∷ []) ++ st) rest) (flat_room q.kind room (f refl))
          ∙ ap (λ ks. goes room ks rest) (append_assoc a.ks (sy.Sections a.met ∷ []) st)
          ∙ a.part.follows (sy.Sections a.met ∷ st) rest
          ∙ bind_same (a.body rest) (λ x. goes (suc room) (sy.Sections a.met ∷ st) x.1) to_sections (λ x e. ap (λ m. goes (suc room) (sy.Sections m ∷ st) x.1) (sym (a.part.meets rest x.0 x.1 e)))

part_less : (room : ℕ) (front : Span) (ps ps' : ProblemParts) (q : Piece) (r r' : List Item) → problem_part room ps front q r ≡ Ok (ps', r') → length r' ≤ length r
unfolding problem_part
part_less room front ps ps' q r r' e =
    let a = any_part room (problem_part_of q) front ps q in
    let w = refused a.there (faults.Form q.span) (a.body r) (ps', r') (sym (a.reads r) ∙ e) in
    follows_length room (suc room) a.ks a.body a.part.follows r ps' r' w.1

-- a reading of the same sections
reorder : (d r o i g m : Bool) → (((((d && r) && o) && i) && g) && m) ≡ (m && (r && (o && (d && (i && g)))))
reorder false r o i g m = sym (late m r o)
reorder true false o i g true = refl
reorder true false o i g false = refl
reorder true true false i g true = refl
reorder true true false i g false = refl
reorder true true true false g true = refl
reorder true true true false g false = refl
reorder true true true true false true = refl
reorder true true true true false false = refl
reorder true true true true true true = refl
reorder true true true true true false = refl

module _ (room : ℕ) (st : List Symbol) (k : (ProblemParts × Span) × List Item → Rest) where
  abbrev pub of : ProblemParts → Symbol
  of ps = sy.Sections (met_of ps)

  pub sections_steps : Steps (problem_step room) room of st k
  unfolding section_step
  sections_steps ps p rest c left =
      ap (λ b. taken (cond b (accept (none_missing (met_of ps)) []) (cond (is_open p.kind) (once (all_met (met_of ps)) (sy.Section (met_of ps) ∷ [])) None)) p (after room p st rest)) c
      ∙ at_open (is_open p.kind) refl
    where
      at_full : (b : Bool) → is_open p.kind ≡ true → all_met (met_of ps) ≡ b → taken (once b (sy.Section (met_of ps) ∷ [])) p (after room p st rest) ≡ (cond {A = Read ProblemParts} b (Err (faults.Form p.span)) (next_of (room - 1) rest >>= λ q. problem_part (room - 1) ps p.span q.0 q.1) >>= λ x. goes room (of x.0 ∷ st) x.1)
      at_full true o f = refl
      at_full false o f =
          let lt : 0 < room = left o in
          let same : suc (room - 1) ≡ room = omega (arith, lt) in
          ap (λ n. goes (room_next n room) (sy.Section (met_of ps) ∷ st) rest) (open_kind p.kind o)
          ∙ follows_token (room - 1) (sy.Section (met_of ps)) st rest (λ q. problem_part (room - 1) ps p.span q.0 q.1) (λ x. goes room (of x.0 ∷ st) x.1) (λ q rest e.
          ap (λ b. taken (cond b (Some (of ps ∷ [])) (section_of (met_of ps) (problem_part_of q))) q (after (room - 1) q st rest)) f
          ∙ part_follow (room - 1) st p.span ps q rest
          ∙ ap (λ n. problem_part (room - 1) ps p.span q rest >>= λ x. goes n (of x.0 ∷ st) x.1) same)

      at_open : (b : Bool) → is_open p.kind ≡ b → taken (cond b (once (all_met (met_of ps)) (sy.Section (met_of ps) ∷ [])) None) p (after room p st rest)
          ≡ (cond {A = Read ProblemParts} b (cond {A = Read ProblemParts} (all_found ps) (Err (faults.Form p.span)) (next_of (room - 1) rest >>= λ q. problem_part (room - 1) ps p.span q.0 q.1)) (Err (faults.Form p.span)) >>= λ x. goes room (of x.0 ∷ st) x.1)
      at_open true o =
          at_full (all_met (met_of ps)) o refl
          ∙ ap (λ b. cond {A = Read ProblemParts} b (Err (faults.Form p.span)) (next_of (room - 1) rest >>= λ q. problem_part (room - 1) ps p.span q.0 q.1) >>= λ x. goes room (of x.0 ∷ st) x.1)
          (sym (reorder (is_some ps.domain) (is_some ps.requirements) (is_some ps.objects) (is_some ps.init) (is_some ps.goal) ps.metric))
      at_open false o = refl

  pub sections_less : Less (problem_step room) room of st k
  unfolding section_step
  sections_less ps ps' p r r' left e = at_open (is_open p.kind) e
    where
      at_full : (b : Bool) → cond {A = Read ProblemParts} b (Err (faults.Form p.span)) (next_of (room - 1) r >>= λ q. problem_part (room - 1) ps p.span q.0 q.1) ≡ Ok (ps', r') → length r' ≤ length r
      at_full true e = absurd cc
      at_full false e =
          let a = bind_ok (next_of (room - 1) r) (λ q. problem_part (room - 1) ps p.span q.0 q.1) (ps', r') e in
          let le = part_less (room - 1) p.span ps ps' a.0.0 a.0.1 r' a.2 in
          let same : length r ≡ length (tok a.0.0 ∷ a.0.1) = ap length (next_ok (room - 1) r a.0.0 a.0.1 a.1) in
          omega (arith, le, same)

      at_open : (b : Bool) → cond {A = Read ProblemParts} b (cond {A = Read ProblemParts} (all_found ps) (Err (faults.Form p.span)) (next_of (room - 1) r >>= λ q. problem_part (room - 1) ps p.span q.0 q.1)) (Err (faults.Form p.span)) ≡ Ok (ps', r') → length r' ≤ length r
      at_open true e = at_full (all_found ps) e
      at_open false e = absurd cc
