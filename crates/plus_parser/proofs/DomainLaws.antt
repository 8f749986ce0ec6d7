-- A domain that is read is spelled so, and one that is spelled is read.
use Rattle.std.proofs.Common.{◌≡◌, ℕ, suc, ◌-◌, Bool, true, false, cond, List, [], ◌∷◌, ◌++◌, length, Some, None, Result, Ok, Err, refl, sym, ap, ◌∙◌, subst, inl, arith}
use Rattle.std.specs.Prelude.{◌&&◌, map, is_some, codes}
use Rattle.std.proofs.lemmas.Bool.{cond-false, cond-true, and_parts}
use Rattle.plus_tokens.specs.declared.span.Span.{Span}
use Rattle.plus_tree.specs.declared.names.Spelled.{Spelled}
use Rattle.plus_tree.specs.declared.terms.TypedName.{TypedName}
use Rattle.plus_tree.specs.declared.trees.Head.{Head}
use Rattle.plus_tree.specs.declared.trees.Schema.{Schema}
use Rattle.plus_tree.specs.declared.trees.Domain.{Domain}
use Rattle.plus_tree.specs.declared.faults.TextFault.{TextFault}
use Rattle.plus_tree.specs.declared.faults.TextFault.TheVariants as faults
use Rattle.plus_tree.specs.Cond.{Cond}
use Rattle.plus_tree.specs.Effect.{Effect}
use Rattle.plus_parser.specs.declared.parts.Keys.{Keys}
use Rattle.plus_parser.specs.declared.parts.DomainParts.{DomainParts}
use Rattle.plus_parser.specs.declared.parts.Functions.{Functions}
use Rattle.plus_parser.specs.declared.keywords.KeyWord.{KeyWord}
use Rattle.plus_parser.specs.declared.keywords.KeyWord.TheVariants as keys
use Rattle.plus_parser.specs.declared.keywords.DomainWord.{DomainWord}
use Rattle.plus_parser.specs.declared.keywords.DomainWord.TheVariants as domains
use Rattle.plus_tokens.specs.Items.{Piece, Item, tok}
use Rattle.plus_parser.specs.Phrases.Reading.{◌>>=◌, Read, is_open}
use Rattle.plus_parser.specs.Phrases.Words.{is_close, is_keyword, is_plain, is_word, is_minus}
use Rattle.plus_parser.specs.Keywords.{key_of, domain_part_of}
use Rattle.plus_parser.specs.Phrases.Grammar.{around, spelled_of, open_of, name_of, plain_of, word_of, until_close, form_step, bare_of, Listing, no_names, list_step, list_of, variables_of}
use Rattle.plus_parser.specs.declared.phrases.words.Allowed.TheVariants as allows
use Rattle.plus_parser.specs.Forms.ReadingForms.{cond_at, effect_at}
use Rattle.plus_parser.specs.ReadingDomain.{requirement_step, predicate_at, no_functions, number_type, function_step, no_keys, key_with, key_step, schema_made, schema_of, no_parts, domain_part_with, domain_part, never_full, end_of, front_of, domain_made, domain_step, domain_in, types_of}
use Rattle.plus_parser.specs.Phrases.Spells.{IsClose, with_last, room_after}
use Rattle.plus_parser.specs.Forms.SpellsForms.{SpellsCond, SpellsEffect}
use Rattle.plus_parser.specs.SpellsDomain.{SpellsRequirement, SpellsHead, f_head, f_number, SpellsFunctionPart, with_function, k_parameters, k_condition, k_effect, SpellsKey, with_key, SpellsSchema, d_requirements, d_types, d_constants, d_predicates, d_functions, d_action, d_process, d_event, SpellsDomainPart, with_domain_part, DomainTokens}
use Rattle.plus_parser.proofs.PhraseLemmas.Tokens.{toks, toks_last, toks_all, enough, bind_ok, ok_is, next_again, next_open, wanted, refused, open_kind, token_takes}
use Rattle.plus_parser.proofs.PhraseLemmas.Names.{plain_name, keyword_is, word_is}
use Rattle.plus_parser.proofs.PhraseLemmas.Level.{Even, Level, is_flat, after_flat, level_flat, level_at, level_wrapped, even_open}
use Rattle.plus_parser.proofs.FormLemmas.FormLevels.{level_cond}
use Rattle.plus_parser.proofs.PhraseLemmas.Flat.{IsFlat, keyword_flat, name_flat, says_flat, flat_next, flat_level}
use Rattle.plus_parser.proofs.PhraseLemmas.UntilTakes.{Took, Takes, until_takes}
use Rattle.plus_parser.proofs.PhraseLemmas.UntilAgain.{Again, Levels, level_chain, until_again}
use Rattle.plus_parser.proofs.PhraseLemmas.Forms.{FormTook, FormTakes, FormAgain, Begins, close_took, enters, form_takes, form_again, let_through, some_is, list_takes, list_again}
use Rattle.plus_parser.proofs.PhraseLemmas.TypedLists.{minus_is, level_listing, level_list, level_variables, listing_takes, listing_again, list_takes as names_takes, list_again as names_again, variables_takes, variables_again}
use Rattle.plus_parser.proofs.PhraseLemmas.Starts.{plain_again, opened_takes, opened_again}
use Rattle.plus_parser.proofs.FormLemmas.ConditionLaws.{cond_takes, cond_again, cond_begins}
use Rattle.plus_parser.proofs.FormLemmas.EffectLaws.{effect_takes, effect_again, effect_begins, level_effect}
use Rattle.plus_parser.proofs.Sections.{name_taken, name_read, word_read, PartTook, PartTakes, Shapes, PartAgain, section_takes, section_levels, section_again, end_takes, end_again, front_takes, framed, frame_even, frame_shape, front_again}

-- ---- requirements

pub requirement_takes : (room : ℕ) → Takes SpellsRequirement with_last requirement_step room
unfolding requirement_step
requirement_takes room s s' p r r' left e =
    let w = wanted (is_keyword p.kind) (faults.Form p.span) (Ok (s ++ bare_of p ∷ [], r)) (s', r') e in
    let both = ok_is (s ++ bare_of p ∷ [], r) (s', r') w.1 in
    let is = keyword_is p.kind w.0 in
    record {
      thing = bare_of p;
      inner = [];
      whole = ap (λ (x : List Spelled × List Item). x.1) both;
      spelled = (p, is, refl, refl);
      adds = ap (λ (x : List Spelled × List Item). Some x.0) both;
      even = (keyword_flat p is).room room [];
    }

pub requirement_levels : (room : ℕ) → Levels SpellsRequirement with_last requirement_step room
requirement_levels room x ts h = level_at ts (h.0 ∷ []) h.3 (flat_level h.0 [] (keyword_flat h.0 h.1) (λ r. inl refl))

pub requirement_again : (room : ℕ) → Again SpellsRequirement with_last requirement_step room
unfolding requirement_step
requirement_again room s s' x ts rest h ev a =
    let f = keyword_flat h.0 h.1 in
    let same : s ++ x ∷ [] ≡ s' = some_is (s ++ x ∷ []) s' a in
    record {
      first = h.0;
      inner = [];
      whole = h.3;
      next = flat_next room h.0 rest f;
      goes = f.close;
      steps =
          cond-true (is_keyword h.0.kind) (Ok (s ++ bare_of h.0 ∷ [], rest)) (Err (faults.Form h.0.span)) (ap is_keyword h.1)
          ∙ (λ i. Ok (s ++ sym h.2 i ∷ [], rest))
          ∙ ap (λ (xs : List Spelled). Ok (xs, rest)) same;
    }

-- ---- predicates

predicate_takes : (room : ℕ) → FormTakes SpellsHead room (predicate_at room)
unfolding predicate_at
predicate_takes room s items h rest some e =
    let made = λ (n : Piece) (vs : List TypedName) (k : Span). let x : Head = record { name = spelled_of n; params = vs; span = around s k } in x in
    let a = bind_ok (plain_of (room - 1) items) (λ n. list_of allows.Variables (room - 1) n.1 >>= λ vs. Ok (made n.0 vs.0.0 vs.0.1, vs.1)) (h, rest) e in
    let b = bind_ok (list_of allows.Variables (room - 1) a.0.1) (λ vs. Ok (made a.0.0 vs.0.0 vs.0.1, vs.1)) (h, rest) a.2 in
    let both = ok_is (made a.0.0 b.0.0.0 b.0.0.1, b.0.1) (h, rest) b.2 in
    let n = token_takes is_plain (room - 1) a.0.0 items a.0.1 a.1 in
    let t = names_takes allows.Variables (room - 1) a.0.1 b.0.0.0 b.0.0.1 b.0.1 b.1 in
    let shape : (let x : Head × List Item = (made a.0.0 b.0.0.0 t.last.span, b.0.1) in x) ≡ (h, rest) = (λ i. (made a.0.0 b.0.0.0 (t.place i), b.0.1)) ∙ both in
    subst (λ (x : Head × List Item). FormTook SpellsHead room x.0 s items x.1) shape
    (close_took SpellsHead room (room - 1) (omega (arith, some)) (made a.0.0 b.0.0.0 t.last.span) s (a.0.0 ∷ t.inner) t.last items b.0.1 t.closes
    (n.whole ∙ ap (λ (is : List Item). tok a.0.0 ∷ is) t.whole)
    ((name_flat a.0.0 (plain_name a.0.0 n.fits)).room (room - 1) t.inner ∙ t.even)
    (λ first opens place w. (a.0.0, t.inner, n.fits, w, refl, t.spelled)))

predicate_begins : (room : ℕ) → Begins SpellsHead room
predicate_begins room h ts e = let w = e.3 in (w.first, (e.0 ∷ e.1) ++ w.last ∷ [], w.opens, w.whole)

predicate_body : (x : Head) (ts : List Piece) (h : SpellsHead x ts) → Level (h.0 ∷ h.1)
predicate_body x ts h = flat_level h.0 h.1 (name_flat h.0 (plain_name h.0 h.2)) (level_list allows.Variables 0 x.params h.1 h.5)

predicate_levels : (room : ℕ) → Levels SpellsHead with_last (form_step (predicate_at room)) room
predicate_levels room x ts h = level_wrapped x.span (h.0 ∷ h.1) ts h.3 (predicate_body x ts h)

predicate_step : (room : ℕ) (front : Span) (n : Piece) (vs : List TypedName) (k : Span) (items r1 r2 : List Item) → plain_of (room - 1) items ≡ Ok (n, r1) → list_of allows.Variables (room - 1) r1 ≡ Ok ((vs, k), r2) → predicate_at room front items ≡ Ok (record { name = spelled_of n; params = vs; span = around front k }, r2)
unfolding predicate_at
predicate_step room front n vs k items r1 r2 e e1 = rw (e, e1) refl

predicate_again : (room : ℕ) → FormAgain SpellsHead room (predicate_at room)
predicate_again room x ts first inner rest h e ev =
    let n = h.0 in
    let w = h.3 in
    let vs = h.1 in
    let left = toks vs (tok w.last ∷ rest) in
    enters SpellsHead room (predicate_at room) x x.span (n ∷ vs) ts w first inner rest e (predicate_body x ts h) ev (λ r under er.
    let same : r ≡ room - 1 = omega (arith, under) in
    let inside : Even (room - 1) vs = subst (λ n. Even n vs) same (sym ((name_flat n (plain_name n h.2)).room r vs) ∙ er) in
    predicate_step room w.first.span n x.params w.last.span (tok n ∷ left) left rest (plain_again (room - 1) n left h.2) (names_again allows.Variables (room - 1) x.params vs w.last rest h.5 inside w.closes)
    ∙ (λ i. Ok (record { name = sym h.4 i; params = x.params; span = sym w.place i }, rest)))

-- ---- functions

-- what a test let through
kept : {S : Type 0} (b : Bool) (x y : S) → cond b (Some x) None ≡ Some y → (b ≡ true) × (x ≡ y)
kept true x y e = (refl, cc)
kept false x y e = absurd cc

function_takes : (room : ℕ) → Takes SpellsFunctionPart with_function (function_step room) room
unfolding function_step
function_takes room s s' p r r' left e = at_open (is_open p.kind) refl e
  where
    at_minus : (b : Bool) → (is_minus p.kind && s.untyped) ≡ b → cond b (number_type room s r) (Err (faults.Form p.span)) ≡ Ok (s', r') → Took SpellsFunctionPart with_function (function_step room) room s s' p r r'
    at_minus false m e = absurd cc
    at_minus true m e =
        let both = and_parts (is_minus p.kind) s.untyped m in
        let made = record s { untyped = false } in
        let a = bind_ok (word_of (codes "number") room r) (λ n. Ok (made, n.1)) (s', r') e in
        let done = ok_is (made, a.0.1) (s', r') a.2 in
        let w = token_takes (is_word (codes "number")) room a.0.0 r a.0.1 a.1 in
        let is = word_is (codes "number") a.0.0 w.fits in
        let sign = minus_is p.kind both.0 in
        record {
          thing = f_number;
          inner = a.0.0 ∷ [];
          whole = w.whole ∙ ap (λ (x : Functions × List Item). tok a.0.0 ∷ x.1) done;
          spelled = (p, a.0.0, sign, is, refl);
          adds = cond-true s.untyped (Some made) None both.1 ∙ ap (λ (x : Functions × List Item). Some x.0) done;
          even = after_flat room p (a.0.0 ∷ []) (ap is_flat sign) ∙ (name_flat a.0.0 is.0).room room [];
        }

    at_open : (b : Bool) → is_open p.kind ≡ b
        → cond b (predicate_at room p.span r >>= λ h. Ok (record { heads = s.heads ++ h.0 ∷ []; untyped = true }, h.1)) (cond (is_minus p.kind && s.untyped) (number_type room s r) (Err (faults.Form p.span))) ≡ Ok (s', r')
        → Took SpellsFunctionPart with_function (function_step room) room s s' p r r'
    at_open false o e = at_minus (is_minus p.kind && s.untyped) refl e
    at_open true o e =
        let made = λ (h : Head). let x : Functions = record { heads = s.heads ++ h ∷ []; untyped = true } in x in
        let a = bind_ok (predicate_at room p.span r) (λ h. Ok (made h.0, h.1)) (s', r') e in
        let both = ok_is (made a.0.0, a.0.1) (s', r') a.2 in
        let t = predicate_takes room p.span r a.0.0 a.0.1 (left o) a.1 in
        let opens = open_kind p.kind o in
        record {
          thing = f_head a.0.0;
          inner = t.inner;
          whole = t.whole ∙ ap (λ (x : Functions × List Item). toks t.inner x.1) both;
          spelled = t.spelled p opens refl;
          adds = ap (λ (x : Functions × List Item). Some x.0) both;
          even = t.even p opens;
        }

function_levels : (room : ℕ) → Levels SpellsFunctionPart with_function (function_step room) room
function_levels room (f_head x) ts h = predicate_levels room x ts h
function_levels room f_number ts h =
    level_at ts (h.0 ∷ h.1 ∷ []) h.4 (level_flat h.0 (h.1 ∷ []) (ap is_flat h.2) (flat_level h.1 [] (name_flat h.1 h.3.0) (λ r. inl refl)))

function_again : (room : ℕ) → Again SpellsFunctionPart with_function (function_step room) room
unfolding function_step
function_again room s s' (f_head x) ts rest h ev a =
    let made = λ (h : Head). let y : Functions = record { heads = s.heads ++ h ∷ []; untyped = true } in y in
    let b = predicate_begins room x ts h in
    let same : made x ≡ s' = some_is (made x) s' a in
    let left = toks b.1 rest in
    record {
      first = b.0;
      inner = b.1;
      whole = b.3;
      next = next_open room b.0 left b.2 (even_open room b.0 b.1 b.2 (ap (room_after room) (sym b.3) ∙ ev));
      goes = ap is_close b.2;
      steps =
          cond-true (is_open b.0.kind) (predicate_at room b.0.span left >>= λ h. Ok (made h.0, h.1)) (cond (is_minus b.0.kind && s.untyped) (number_type room s left) (Err (faults.Form b.0.span))) (ap is_open b.2)
          ∙ ap (λ (q : Read Head). q >>= λ h. Ok (made h.0, h.1)) (predicate_again room x ts b.0 b.1 rest h b.3 ev)
          ∙ ap (λ (fs : Functions). Ok (fs, rest)) same;
    }
function_again room s s' f_number ts rest h ev a =
    let m = h.0 in
    let n = h.1 in
    let made = record s { untyped = false } in
    let g = kept s.untyped made s' a in
    let left = tok n ∷ rest in
    let opened : Read Functions = predicate_at room m.span left >>= λ h. Ok (record { heads = s.heads ++ h.0 ∷ []; untyped = true }, h.1) in
    record {
      first = m;
      inner = n ∷ [];
      whole = h.4;
      next = next_again room m left (ap is_open h.2);
      goes = ap is_close h.2;
      steps =
          cond-false (is_open m.kind) opened (cond (is_minus m.kind && s.untyped) (number_type room s left) (Err (faults.Form m.span))) (ap is_open h.2)
          ∙ cond-true (is_minus m.kind && s.untyped) (number_type room s left) (Err (faults.Form m.span)) (ap (λ k. is_minus k && s.untyped) h.2 ∙ g.0)
          ∙ ap (λ (q : Read Piece). q >>= λ n. Ok (made, n.1)) (word_read (codes "number") room n rest h.3)
          ∙ ap (λ (fs : Functions). Ok (fs, rest)) g.1;
    }

-- ---- actions

key_flat : (p : Piece) (h : KeyWord) → key_of p ≡ h → (keys.Other ≡ h → ⊥) → IsFlat p
key_flat p h e apart = says_flat key_of keys.Other (λ q k. cond-false (is_keyword q.kind) _ keys.Other k) p h e apart

key_takes : (room : ℕ) → Takes SpellsKey with_key (key_step room) room
unfolding key_step
key_takes room s s' p r r' left e = at_key (key_of p) refl e
  where
    at_key : (h : KeyWord) → key_of p ≡ h → key_with room s p r h ≡ Ok (s', r') → Took SpellsKey with_key (key_step room) room s s' p r r'
    at_key keys.Parameters is e =
        let made = λ (vs : List TypedName). record s { parameters = Some vs } in
        let g = refused (is_some s.parameters) (faults.Form p.span) (variables_of room r >>= λ vs. Ok (made vs.0, vs.1)) (s', r') e in
        let a = bind_ok (variables_of room r) (λ vs. Ok (made vs.0, vs.1)) (s', r') g.1 in
        let both = ok_is (made a.0.0, a.0.1) (s', r') a.2 in
        let t = variables_takes room r a.0.0 a.0.1 a.1 in
        record {
          thing = k_parameters a.0.0;
          inner = t.inner;
          whole = t.whole ∙ ap (λ (x : Keys × List Item). toks t.inner x.1) both;
          spelled = (p, t.inner, is, t.spelled, refl);
          even = (key_flat p keys.Parameters is (λ e. cc)).room room t.inner ∙ t.even;
          adds = cond-false (is_some s.parameters) None (Some (made a.0.0)) g.0 ∙ ap (λ (x : Keys × List Item). Some x.0) both;
        }
    at_key keys.Precondition is e =
        let made = λ (c : Cond). record s { condition = Some c } in
        let g = refused (is_some s.condition) (faults.Form p.span) (open_of room r >>= λ o. cond_at room o.0.span o.1 >>= λ c. Ok (made c.0, c.1)) (s', r') e in
        let a = bind_ok (open_of room r) (λ o. cond_at room o.0.span o.1 >>= λ c. Ok (made c.0, c.1)) (s', r') g.1 in
        let b = bind_ok (cond_at room a.0.0.span a.0.1) (λ c. Ok (made c.0, c.1)) (s', r') a.2 in
        let both = ok_is (made b.0.0, b.0.1) (s', r') b.2 in
        let t = opened_takes SpellsCond room (cond_at room) (cond_takes room) a.0.0 b.0.0 r a.0.1 b.0.1 a.1 b.1 in
        record {
          thing = k_condition b.0.0;
          inner = t.inner;
          whole = t.whole ∙ ap (λ (x : Keys × List Item). toks t.inner x.1) both;
          spelled = (p, t.inner, is, t.spelled, refl);
          even = (key_flat p keys.Precondition is (λ e. cc)).room room t.inner ∙ t.even;
          adds = cond-false (is_some s.condition) None (Some (made b.0.0)) g.0 ∙ ap (λ (x : Keys × List Item). Some x.0) both;
        }
    at_key keys.Effect is e =
        let made = λ (c : Effect). record s { effect = Some c } in
        let g = refused (is_some s.effect) (faults.Form p.span) (open_of room r >>= λ o. effect_at room o.0.span o.1 >>= λ c. Ok (made c.0, c.1)) (s', r') e in
        let a = bind_ok (open_of room r) (λ o. effect_at room o.0.span o.1 >>= λ c. Ok (made c.0, c.1)) (s', r') g.1 in
        let b = bind_ok (effect_at room a.0.0.span a.0.1) (λ c. Ok (made c.0, c.1)) (s', r') a.2 in
        let both = ok_is (made b.0.0, b.0.1) (s', r') b.2 in
        let t = opened_takes SpellsEffect room (effect_at room) (effect_takes room) a.0.0 b.0.0 r a.0.1 b.0.1 a.1 b.1 in
        record {
          thing = k_effect b.0.0;
          inner = t.inner;
          whole = t.whole ∙ ap (λ (x : Keys × List Item). toks t.inner x.1) both;
          spelled = (p, t.inner, is, t.spelled, refl);
          even = (key_flat p keys.Effect is (λ e. cc)).room room t.inner ∙ t.even;
          adds = cond-false (is_some s.effect) None (Some (made b.0.0)) g.0 ∙ ap (λ (x : Keys × List Item). Some x.0) both;
        }
    at_key keys.Other is e = absurd cc

key_levels : (room : ℕ) → Levels SpellsKey with_key (key_step room) room
key_levels room (k_parameters vs) ts h = level_at ts (h.0 ∷ h.1) h.4 (flat_level h.0 h.1 (key_flat h.0 keys.Parameters h.2 (λ e. cc)) (level_variables vs h.1 h.3))
key_levels room (k_condition c) ts h = level_at ts (h.0 ∷ h.1) h.4 (flat_level h.0 h.1 (key_flat h.0 keys.Precondition h.2 (λ e. cc)) (level_cond c h.1 h.3))
key_levels room (k_effect c) ts h = level_at ts (h.0 ∷ h.1) h.4 (flat_level h.0 h.1 (key_flat h.0 keys.Effect h.2 (λ e. cc)) (level_effect c h.1 h.3))

key_again : (room : ℕ) → Again SpellsKey with_key (key_step room) room
unfolding key_step
key_again room s s' (k_parameters vs) ts rest h ev a =
    let f = key_flat h.0 keys.Parameters h.2 (λ e. cc) in
    let inside : Even room h.1 = sym (f.room room h.1) ∙ ap (room_after room) (sym h.4) ∙ ev in
    let g = let_through (is_some s.parameters) (record s { parameters = Some vs }) s' a in
    let left = toks h.1 rest in
    record {
      first = h.0;
      inner = h.1;
      whole = h.4;
      next = flat_next room h.0 left f;
      goes = f.close;
      steps =
          ap (key_with room s h.0 left) h.2
          ∙ cond-false (is_some s.parameters) (Err (faults.Form h.0.span)) (variables_of room left >>= λ vs. Ok (record s { parameters = Some vs.0 }, vs.1)) g.0
          ∙ ap (λ (q : Read (List TypedName)). q >>= λ vs. Ok (record s { parameters = Some vs.0 }, vs.1)) (variables_again room vs h.1 rest h.3 inside)
          ∙ ap (λ (ks : Keys). Ok (ks, rest)) g.1;
    }
key_again room s s' (k_condition c) ts rest h ev a =
    let f = key_flat h.0 keys.Precondition h.2 (λ e. cc) in
    let inside : Even room h.1 = sym (f.room room h.1) ∙ ap (room_after room) (sym h.4) ∙ ev in
    let o = opened_again SpellsCond room (cond_at room) (cond_begins room) (cond_again room) c h.1 rest h.3 inside in
    let g = let_through (is_some s.condition) (record s { condition = Some c }) s' a in
    record {
      first = h.0;
      inner = h.1;
      whole = h.4;
      next = flat_next room h.0 (toks h.1 rest) f;
      goes = f.close;
      steps =
          ap (key_with room s h.0 (toks h.1 rest)) h.2
          ∙ cond-false (is_some s.condition) (Err (faults.Form h.0.span)) (open_of room (toks h.1 rest) >>= λ o. cond_at room o.0.span o.1 >>= λ c. Ok (record s { condition = Some c.0 }, c.1)) g.0
          ∙ ap (λ (q : Read Piece). q >>= λ o. cond_at room o.0.span o.1 >>= λ c. Ok (record s { condition = Some c.0 }, c.1)) o.2
          ∙ ap (λ (q : Read Cond). q >>= λ c. Ok (record s { condition = Some c.0 }, c.1)) o.3
          ∙ ap (λ (ks : Keys). Ok (ks, rest)) g.1;
    }
key_again room s s' (k_effect c) ts rest h ev a =
    let f = key_flat h.0 keys.Effect h.2 (λ e. cc) in
    let inside : Even room h.1 = sym (f.room room h.1) ∙ ap (room_after room) (sym h.4) ∙ ev in
    let o = opened_again SpellsEffect room (effect_at room) (effect_begins room) (effect_again room) c h.1 rest h.3 inside in
    let g = let_through (is_some s.effect) (record s { effect = Some c }) s' a in
    record {
      first = h.0;
      inner = h.1;
      whole = h.4;
      next = flat_next room h.0 (toks h.1 rest) f;
      goes = f.close;
      steps =
          ap (key_with room s h.0 (toks h.1 rest)) h.2
          ∙ cond-false (is_some s.effect) (Err (faults.Form h.0.span)) (open_of room (toks h.1 rest) >>= λ o. effect_at room o.0.span o.1 >>= λ c. Ok (record s { effect = Some c.0 }, c.1)) g.0
          ∙ ap (λ (q : Read Piece). q >>= λ o. effect_at room o.0.span o.1 >>= λ c. Ok (record s { effect = Some c.0 }, c.1)) o.2
          ∙ ap (λ (q : Read Effect). q >>= λ c. Ok (record s { effect = Some c.0 }, c.1)) o.3
          ∙ ap (λ (ks : Keys). Ok (ks, rest)) g.1;
    }

-- an action behind its keyword
record SchemaTook (room : ℕ) (x : Schema) (front : Span) (items rest : List Item) : Type 0 where
  body : List Piece
  last : Piece
  closes : IsClose last
  whole : items ≡ toks body (tok last ∷ rest)
  place : x.span ≡ around front last.span
  spelled : SpellsSchema x body
  even : Even room body

schema_takes : (room : ℕ) (front : Span) (x : Schema) (items rest : List Item) → schema_of room front items ≡ Ok (x, rest) → SchemaTook room x front items rest
unfolding schema_of
schema_takes room front x items rest e =
    let made = λ (n : Piece) (ks : Keys) (k : Span). schema_made (spelled_of n) ks (around front k) in
    let a = bind_ok (name_of room items) (λ n. until_close (key_step room) room (length n.1) no_keys n.1 >>= λ ks. Ok (made n.0 ks.0.0 ks.0.1, ks.1)) (x, rest) e in
    let b = bind_ok (until_close (key_step room) room (length a.0.1) no_keys a.0.1) (λ ks. Ok (made a.0.0 ks.0.0 ks.0.1, ks.1)) (x, rest) a.2 in
    let both = ok_is (made a.0.0 b.0.0.0 b.0.0.1, b.0.1) (x, rest) b.2 in
    let n = name_taken room a.0.0 items a.0.1 a.1 in
    let t = until_takes SpellsKey with_key (key_step room) room (key_takes room) (length a.0.1) no_keys b.0.0.0 b.0.0.1 a.0.1 b.0.1 b.1 in
    let same : made a.0.0 b.0.0.0 b.0.0.1 ≡ x = ap (λ (y : Schema × List Item). y.0) both in
    let spot : around front b.0.0.1 ≡ x.span = ap (λ (y : Schema). y.span) same in
    record {
      body = a.0.0 ∷ t.inner;
      last = t.last;
      closes = t.closes;
      whole = n.1 ∙ ap (λ (is : List Item). tok a.0.0 ∷ is) (t.whole ∙ ap (λ (y : Schema × List Item). toks t.inner (tok t.last ∷ y.1)) both);
      even = (name_flat a.0.0 n.0).room room t.inner ∙ t.even;
      place = sym spot ∙ ap (around front) (sym t.place);
      spelled = record {
        name = a.0.0;
        body = t.inner;
        keys = t.things;
        found = b.0.0.0;
        is_name = n.0;
        spelled = t.spelled;
        once = t.adds;
        whole = refl;
        is = sym same ∙ ap (schema_made (spelled_of a.0.0) b.0.0.0) spot;
      };
    }

schema_level : (x : Schema) (ts : List Piece) → SpellsSchema x ts → Level ts
schema_level x ts h =
    level_at ts (h.name ∷ h.body) h.whole (flat_level h.name h.body (name_flat h.name h.is_name) (level_chain SpellsKey with_key (key_step 0) 0 (key_levels 0) h.keys h.body h.spelled))

schema_again : (room : ℕ) (front : Span) (x : Schema) (ts : List Piece) (last : Piece) (rest : List Item) → SpellsSchema x ts → Even room ts → IsClose last → x.span ≡ around front last.span → schema_of room front (toks ts (tok last ∷ rest)) ≡ Ok (x, rest)
unfolding schema_of
schema_again room front x ts last rest h ev close place =
    let made = λ (n : Piece) (ks : Keys) (k : Span). schema_made (spelled_of n) ks (around front k) in
    let f = name_flat h.name h.is_name in
    let inside : Even room h.body = sym (f.room room h.body) ∙ ap (room_after room) (sym h.whole) ∙ ev in
    let left = toks h.body (tok last ∷ rest) in
    let loop = until_again SpellsKey with_key (key_step room) room (key_levels room) (key_again room) (length left) no_keys h.found h.keys h.body last rest h.spelled inside h.once close (enough h.body last rest) in
    ap (λ (ps : List Piece). schema_of room front (toks ps (tok last ∷ rest))) h.whole
    ∙ ap (λ (q : Read Piece). q >>= λ n. until_close (key_step room) room (length n.1) no_keys n.1 >>= λ ks. Ok (made n.0 ks.0.0 ks.0.1, ks.1)) (name_read room h.name left h.is_name)
    ∙ ap (λ (q : Read (Keys × Span)). q >>= λ ks. Ok (made h.name ks.0.0 ks.0.1, ks.1)) loop
    ∙ ap (λ (s : Span). Ok (schema_made (spelled_of h.name) h.found s, rest)) (sym place)
    ∙ ap (λ (y : Schema). Ok (y, rest)) (sym h.is)

-- ---- sections

part_flat : (p : Piece) (h : DomainWord) → domain_part_of p ≡ h → (domains.Other ≡ h → ⊥) → IsFlat p
part_flat p h e apart = says_flat domain_part_of domains.Other (λ q k. cond-false (is_keyword q.kind) _ domains.Other k) p h e apart

part_takes : PartTakes SpellsDomainPart with_domain_part domain_part
unfolding domain_part
part_takes r s s' front q rest rest' e = at_word (domain_part_of q) refl e
  where
    at_word : (h : DomainWord) → domain_part_of q ≡ h → domain_part_with h r s front q rest ≡ Ok (s', rest') → PartTook SpellsDomainPart with_domain_part domain_part r s s' front q rest rest'
    at_word domains.Requirements is e =
        let t = list_takes SpellsRequirement requirement_step r (is_some s.requirements) (λ xs. record s { requirements = Some xs }) q.span (requirement_takes r) s' rest rest' e in
        record {
          thing = d_requirements t.things;
          body = t.body;
          last = t.last;
          flat = part_flat q domains.Requirements is (λ e. cc);
          closes = t.closes;
          whole = t.whole;
          even = t.even;
          spelled = λ ts w. (around front t.last.span, q, t.body, is, w, t.spelled);
          adds = cond-false (is_some s.requirements) None (Some (record s { requirements = Some t.things })) t.fresh ∙ ap Some t.is;
        }
    at_word domains.Types is e =
        let step = list_step allows.Names r in
        let made = λ (l : Listing). record s { types = Some (types_of l) } in
        let g = refused (is_some s.types) (faults.Form q.span) (until_close step r (length rest) no_names rest >>= λ l. Ok (made l.0.0, l.1)) (s', rest') e in
        let a = bind_ok (until_close step r (length rest) no_names rest) (λ l. Ok (made l.0.0, l.1)) (s', rest') g.1 in
        let both = ok_is (made a.0.0.0, a.0.1) (s', rest') a.2 in
        let t = listing_takes allows.Names r rest a.0.0.0 a.0.0.1 a.0.1 a.1 in
        record {
          thing = d_types (types_of a.0.0.0);
          body = t.inner;
          last = t.last;
          flat = part_flat q domains.Types is (λ e. cc);
          closes = t.closes;
          whole = t.whole ∙ ap (λ (x : DomainParts × List Item). toks t.inner (tok t.last ∷ x.1)) both;
          even = t.even;
          spelled = λ ts w. (around front t.last.span, q, t.inner, is, w, (a.0.0.0, t.spelled, refl));
          adds = cond-false (is_some s.types) None (Some (made a.0.0.0)) g.0 ∙ ap (λ (x : DomainParts × List Item). Some x.0) both;
        }
    at_word domains.Constants is e =
        let made = λ (xs : List TypedName). record s { constants = Some xs } in
        let g = refused (is_some s.constants) (faults.Form q.span) (list_of allows.Names r rest >>= λ xs. Ok (made xs.0.0, xs.1)) (s', rest') e in
        let a = bind_ok (list_of allows.Names r rest) (λ xs. Ok (made xs.0.0, xs.1)) (s', rest') g.1 in
        let both = ok_is (made a.0.0.0, a.0.1) (s', rest') a.2 in
        let t = names_takes allows.Names r rest a.0.0.0 a.0.0.1 a.0.1 a.1 in
        record {
          thing = d_constants a.0.0.0;
          body = t.inner;
          last = t.last;
          flat = part_flat q domains.Constants is (λ e. cc);
          closes = t.closes;
          whole = t.whole ∙ ap (λ (x : DomainParts × List Item). toks t.inner (tok t.last ∷ x.1)) both;
          even = t.even;
          spelled = λ ts w. (around front t.last.span, q, t.inner, is, w, t.spelled);
          adds = cond-false (is_some s.constants) None (Some (made a.0.0.0)) g.0 ∙ ap (λ (x : DomainParts × List Item). Some x.0) both;
        }
    at_word domains.Predicates is e =
        let t = list_takes SpellsHead (form_step (predicate_at r)) r (is_some s.predicates) (λ xs. record s { predicates = Some xs }) q.span (form_takes SpellsHead r (predicate_at r) (predicate_takes r)) s' rest rest' e in
        record {
          thing = d_predicates t.things;
          body = t.body;
          last = t.last;
          flat = part_flat q domains.Predicates is (λ e. cc);
          closes = t.closes;
          whole = t.whole;
          even = t.even;
          spelled = λ ts w. (around front t.last.span, q, t.body, is, w, t.spelled);
          adds = cond-false (is_some s.predicates) None (Some (record s { predicates = Some t.things })) t.fresh ∙ ap Some t.is;
        }
    at_word domains.Functions is e =
        let step = function_step r in
        let made = λ (hs : List Head). record s { functions = Some hs } in
        let g = refused (is_some s.functions) (faults.Form q.span) (until_close step r (length rest) no_functions rest >>= λ xs. Ok (made xs.0.0.heads, xs.1)) (s', rest') e in
        let a = bind_ok (until_close step r (length rest) no_functions rest) (λ xs. Ok (made xs.0.0.heads, xs.1)) (s', rest') g.1 in
        let both = ok_is (made a.0.0.0.heads, a.0.1) (s', rest') a.2 in
        let t = until_takes SpellsFunctionPart with_function step r (function_takes r) (length rest) no_functions a.0.0.0 a.0.0.1 rest a.0.1 a.1 in
        record {
          thing = d_functions a.0.0.0.heads;
          body = t.inner;
          last = t.last;
          flat = part_flat q domains.Functions is (λ e. cc);
          closes = t.closes;
          whole = t.whole ∙ ap (λ (x : DomainParts × List Item). toks t.inner (tok t.last ∷ x.1)) both;
          even = t.even;
          spelled = λ ts w. (around front t.last.span, q, t.inner, is, w, record { parts = t.things; found = a.0.0.0; spelled = t.spelled; typed = t.adds; are = refl });
          adds = cond-false (is_some s.functions) None (Some (made a.0.0.0.heads)) g.0 ∙ ap (λ (x : DomainParts × List Item). Some x.0) both;
        }
    at_word domains.Action is e =
        let made = λ (x : Schema). record s { actions = s.actions ++ x ∷ [] } in
        let a = bind_ok (schema_of r front rest) (λ x. Ok (made x.0, x.1)) (s', rest') e in
        let both = ok_is (made a.0.0, a.0.1) (s', rest') a.2 in
        let t = schema_takes r front a.0.0 rest a.0.1 a.1 in
        record {
          thing = d_action a.0.0;
          body = t.body;
          last = t.last;
          flat = part_flat q domains.Action is (λ e. cc);
          closes = t.closes;
          whole = t.whole ∙ ap (λ (x : DomainParts × List Item). toks t.body (tok t.last ∷ x.1)) both;
          even = t.even;
          spelled = λ ts w. (around front t.last.span, q, t.body, is, w, t.spelled, t.place);
          adds = ap (λ (x : DomainParts × List Item). Some x.0) both;
        }
    at_word domains.Process is e =
        let made = λ (x : Schema). record s { processes = s.processes ++ x ∷ [] } in
        let a = bind_ok (schema_of r front rest) (λ x. Ok (made x.0, x.1)) (s', rest') e in
        let both = ok_is (made a.0.0, a.0.1) (s', rest') a.2 in
        let t = schema_takes r front a.0.0 rest a.0.1 a.1 in
        record {
          thing = d_process a.0.0;
          body = t.body;
          last = t.last;
          flat = part_flat q domains.Process is (λ e. cc);
          closes = t.closes;
          whole = t.whole ∙ ap (λ (x : DomainParts × List Item). toks t.body (tok t.last ∷ x.1)) both;
          even = t.even;
          spelled = λ ts w. (around front t.last.span, q, t.body, is, w, t.spelled, t.place);
          adds = ap (λ (x : DomainParts × List Item). Some x.0) both;
        }
    at_word domains.Event is e =
        let made = λ (x : Schema). record s { events = s.events ++ x ∷ [] } in
        let a = bind_ok (schema_of r front rest) (λ x. Ok (made x.0, x.1)) (s', rest') e in
        let both = ok_is (made a.0.0, a.0.1) (s', rest') a.2 in
        let t = schema_takes r front a.0.0 rest a.0.1 a.1 in
        record {
          thing = d_event a.0.0;
          body = t.body;
          last = t.last;
          flat = part_flat q domains.Event is (λ e. cc);
          closes = t.closes;
          whole = t.whole ∙ ap (λ (x : DomainParts × List Item). toks t.body (tok t.last ∷ x.1)) both;
          even = t.even;
          spelled = λ ts w. (around front t.last.span, q, t.body, is, w, t.spelled, t.place);
          adds = ap (λ (x : DomainParts × List Item). Some x.0) both;
        }
    at_word domains.Other is e = absurd cc

part_shape : Shapes SpellsDomainPart with_domain_part domain_part
part_shape (d_requirements xs) ts h = record {
  span = h.0;
  keyword = h.1;
  body = h.2;
  wrapped = h.4;
  flat = part_flat h.1 domains.Requirements h.3 (λ e. cc);
  level = level_chain SpellsRequirement with_last requirement_step 0 (requirement_levels 0) xs h.2 h.5;
}
part_shape (d_types xs) ts h = record {
  span = h.0;
  keyword = h.1;
  body = h.2;
  wrapped = h.4;
  flat = part_flat h.1 domains.Types h.3 (λ e. cc);
  level = level_listing allows.Names 0 h.5.0 h.2 h.5.1;
}
part_shape (d_constants xs) ts h = record {
  span = h.0;
  keyword = h.1;
  body = h.2;
  wrapped = h.4;
  flat = part_flat h.1 domains.Constants h.3 (λ e. cc);
  level = level_list allows.Names 0 xs h.2 h.5;
}
part_shape (d_predicates hs) ts h = record {
  span = h.0;
  keyword = h.1;
  body = h.2;
  wrapped = h.4;
  flat = part_flat h.1 domains.Predicates h.3 (λ e. cc);
  level = level_chain SpellsHead with_last (form_step (predicate_at 0)) 0 (predicate_levels 0) hs h.2 h.5;
}
part_shape (d_functions hs) ts h = record {
  span = h.0;
  keyword = h.1;
  body = h.2;
  wrapped = h.4;
  flat = part_flat h.1 domains.Functions h.3 (λ e. cc);
  level = level_chain SpellsFunctionPart with_function (function_step 0) 0 (function_levels 0) h.5.parts h.2 h.5.spelled;
}
part_shape (d_action x) ts h = record {
  span = h.0;
  keyword = h.1;
  body = h.2;
  wrapped = h.4;
  flat = part_flat h.1 domains.Action h.3 (λ e. cc);
  level = schema_level x h.2 h.5;
}
part_shape (d_process x) ts h = record {
  span = h.0;
  keyword = h.1;
  body = h.2;
  wrapped = h.4;
  flat = part_flat h.1 domains.Process h.3 (λ e. cc);
  level = schema_level x h.2 h.5;
}
part_shape (d_event x) ts h = record {
  span = h.0;
  keyword = h.1;
  body = h.2;
  wrapped = h.4;
  flat = part_flat h.1 domains.Event h.3 (λ e. cc);
  level = schema_level x h.2 h.5;
}

part_again : PartAgain SpellsDomainPart with_domain_part domain_part part_shape
unfolding domain_part part_shape
part_again r s s' (d_requirements xs) ts rest h ev a =
    let g = let_through (is_some s.requirements) (record s { requirements = Some xs }) s' a in
    let w = h.4 in
    ap (λ (word : DomainWord). domain_part_with word r s w.first.span h.1 (toks h.2 (tok w.last ∷ rest))) h.3
    ∙ list_again SpellsRequirement requirement_step r (is_some s.requirements) (λ xs. record s { requirements = Some xs }) h.1.span (requirement_levels r) (requirement_again r) xs h.2 w.last rest g.0 h.5 ev w.closes
    ∙ ap (λ (ps : DomainParts). Ok (ps, rest)) g.1
part_again r s s' (d_types xs) ts rest h ev a =
    let g = let_through (is_some s.types) (record s { types = Some xs }) s' a in
    let w = h.4 in
    let step = list_step allows.Names r in
    let left = toks h.2 (tok w.last ∷ rest) in
    let made = λ (l : Listing). record s { types = Some (types_of l) } in
    ap (λ (word : DomainWord). domain_part_with word r s w.first.span h.1 left) h.3
    ∙ cond-false (is_some s.types) (Err (faults.Form h.1.span)) (until_close step r (length left) no_names left >>= λ l. Ok (made l.0.0, l.1)) g.0
    ∙ ap (λ (q : Read (Listing × Span)). q >>= λ l. Ok (made l.0.0, l.1)) (listing_again allows.Names r h.5.0 h.2 w.last rest h.5.1 ev w.closes)
    ∙ (λ i. Ok (record s { types = Some (h.5.2 i) }, rest))
    ∙ ap (λ (ps : DomainParts). Ok (ps, rest)) g.1
part_again r s s' (d_constants xs) ts rest h ev a =
    let g = let_through (is_some s.constants) (record s { constants = Some xs }) s' a in
    let w = h.4 in
    let left = toks h.2 (tok w.last ∷ rest) in
    let made = λ (xs : List TypedName). record s { constants = Some xs } in
    ap (λ (word : DomainWord). domain_part_with word r s w.first.span h.1 left) h.3
    ∙ cond-false (is_some s.constants) (Err (faults.Form h.1.span)) (list_of allows.Names r left >>= λ xs. Ok (made xs.0.0, xs.1)) g.0
    ∙ ap (λ (q : Read (List TypedName × Span)). q >>= λ xs. Ok (made xs.0.0, xs.1)) (names_again allows.Names r xs h.2 w.last rest h.5 ev w.closes)
    ∙ ap (λ (ps : DomainParts). Ok (ps, rest)) g.1
part_again r s s' (d_predicates hs) ts rest h ev a =
    let g = let_through (is_some s.predicates) (record s { predicates = Some hs }) s' a in
    let w = h.4 in
    ap (λ (word : DomainWord). domain_part_with word r s w.first.span h.1 (toks h.2 (tok w.last ∷ rest))) h.3
    ∙ list_again SpellsHead (form_step (predicate_at r)) r (is_some s.predicates) (λ xs. record s { predicates = Some xs }) h.1.span (predicate_levels r) (form_again SpellsHead r (predicate_at r) (predicate_begins r) (predicate_again r)) hs h.2 w.last rest g.0 h.5 ev w.closes
    ∙ ap (λ (ps : DomainParts). Ok (ps, rest)) g.1
part_again r s s' (d_functions hs) ts rest h ev a =
    let g = let_through (is_some s.functions) (record s { functions = Some hs }) s' a in
    let w = h.4 in
    let f = h.5 in
    let step = function_step r in
    let left = toks h.2 (tok w.last ∷ rest) in
    let made = λ (hs : List Head). record s { functions = Some hs } in
    let loop = until_again SpellsFunctionPart with_function step r (function_levels r) (function_again r) (length left) no_functions f.found f.parts h.2 w.last rest f.spelled ev f.typed w.closes (enough h.2 w.last rest) in
    ap (λ (word : DomainWord). domain_part_with word r s w.first.span h.1 left) h.3
    ∙ cond-false (is_some s.functions) (Err (faults.Form h.1.span)) (until_close step r (length left) no_functions left >>= λ xs. Ok (made xs.0.0.heads, xs.1)) g.0
    ∙ ap (λ (q : Read (Functions × Span)). q >>= λ xs. Ok (made xs.0.0.heads, xs.1)) loop
    ∙ (λ i. Ok (made (f.are i), rest))
    ∙ ap (λ (ps : DomainParts). Ok (ps, rest)) g.1
part_again r s s' (d_action x) ts rest h ev a =
    let w = h.4 in
    let same : record s { actions = s.actions ++ x ∷ [] } ≡ s' = some_is (record s { actions = s.actions ++ x ∷ [] }) s' a in
    ap (λ (word : DomainWord). domain_part_with word r s w.first.span h.1 (toks h.2 (tok w.last ∷ rest))) h.3
    ∙ ap (λ (q : Read Schema). q >>= λ y. Ok (record s { actions = s.actions ++ y.0 ∷ [] }, y.1)) (schema_again r w.first.span x h.2 w.last rest h.5 ev w.closes (h.6 ∙ w.place))
    ∙ ap (λ (ps : DomainParts). Ok (ps, rest)) same
part_again r s s' (d_process x) ts rest h ev a =
    let w = h.4 in
    let same : record s { processes = s.processes ++ x ∷ [] } ≡ s' = some_is (record s { processes = s.processes ++ x ∷ [] }) s' a in
    ap (λ (word : DomainWord). domain_part_with word r s w.first.span h.1 (toks h.2 (tok w.last ∷ rest))) h.3
    ∙ ap (λ (q : Read Schema). q >>= λ y. Ok (record s { processes = s.processes ++ y.0 ∷ [] }, y.1)) (schema_again r w.first.span x h.2 w.last rest h.5 ev w.closes (h.6 ∙ w.place))
    ∙ ap (λ (ps : DomainParts). Ok (ps, rest)) same
part_again r s s' (d_event x) ts rest h ev a =
    let w = h.4 in
    let same : record s { events = s.events ++ x ∷ [] } ≡ s' = some_is (record s { events = s.events ++ x ∷ [] }) s' a in
    ap (λ (word : DomainWord). domain_part_with word r s w.first.span h.1 (toks h.2 (tok w.last ∷ rest))) h.3
    ∙ ap (λ (q : Read Schema). q >>= λ y. Ok (record s { events = s.events ++ y.0 ∷ [] }, y.1)) (schema_again r w.first.span x h.2 w.last rest h.5 ev w.closes (h.6 ∙ w.place))
    ∙ ap (λ (ps : DomainParts). Ok (ps, rest)) same

domain_step_takes : (room : ℕ) → Takes SpellsDomainPart with_domain_part (domain_step room) room
domain_step_takes room = section_takes SpellsDomainPart with_domain_part domain_part never_full part_takes room

domain_step_levels : (room : ℕ) → Levels SpellsDomainPart with_domain_part (domain_step room) room
domain_step_levels room = section_levels SpellsDomainPart with_domain_part domain_part part_shape never_full room

domain_step_again : (room : ℕ) → Again SpellsDomainPart with_domain_part (domain_step room) room
domain_step_again room =
    section_again SpellsDomainPart with_domain_part domain_part never_full (λ s s' x e. refl) part_shape part_again room

-- ---- the domain

-- the tokens that were read spell the domain
pub domain_takes : (room : ℕ) (items : List Item) (d : Domain) → domain_in room items ≡ Ok d → (ts : List Piece) × (items ≡ map tok ts) × DomainTokens d ts × Even (suc (suc room)) ts
unfolding domain_in
domain_takes room items d e =
    let made = λ (f : Spelled × Span) (ps : DomainParts) (k : Span). domain_made f.0 ps (around f.1 k) in
    let step = domain_step (suc room) in
    let a = bind_ok (front_of (codes "domain") room items) (λ f. until_close step (suc room) (length f.1) no_parts f.1 >>= λ ps. end_of ps.1 >>= λ e. Ok (made f.0 ps.0.0 ps.0.1)) d e in
    let b = bind_ok (until_close step (suc room) (length a.0.1) no_parts a.0.1) (λ ps. end_of ps.1 >>= λ e. Ok (made a.0.0 ps.0.0 ps.0.1)) d a.2 in
    let c = bind_ok (end_of b.0.1) (λ e. Ok (made a.0.0 b.0.0.0 b.0.0.1)) d b.2 in
    let f = front_takes (codes "domain") room a.0.0 items a.0.1 a.1 in
    let t = until_takes SpellsDomainPart with_domain_part step (suc room) (domain_step_takes (suc room)) (length a.0.1) no_parts b.0.0.0 b.0.0.1 a.0.1 b.0.1 b.1 in
    let ts = f.first ∷ f.define ∷ f.inner ∷ f.kind ∷ f.named ∷ f.close ∷ (t.inner ++ t.last ∷ []) in
    let frame = framed (codes "domain") a.0.0 items a.0.1 f t.inner t.last t.closes in
    let same : domain_made a.0.0.0 b.0.0.0 (around a.0.0.1 t.last.span) ≡ d = (λ i. domain_made a.0.0.0 b.0.0.0 (around a.0.0.1 (t.place i))) ∙ ok_is (made a.0.0 b.0.0.0 b.0.0.1) d c.2 in (
      ts,
      f.whole ∙ ap (toks (f.first ∷ f.define ∷ f.inner ∷ f.kind ∷ f.named ∷ f.close ∷ [])) (t.whole ∙ toks_last t.inner t.last b.0.1 ∙ ap (toks (t.inner ++ t.last ∷ [])) (end_takes b.0.1 c.0 c.1)) ∙ toks_all ts,
      subst (λ (x : Domain). DomainTokens x ts) same (record { body = t.inner; parts = t.things; found = b.0.0.0; frame = frame; spelled = t.spelled; once = t.adds; is = refl }),
      frame_even (codes "domain") a.0.0.0 (around a.0.0.1 t.last.span) t.inner ts frame room t.even,
    )

pub domain_level : (d : Domain) (ts : List Piece) (h : DomainTokens d ts) → Level h.body
domain_level d ts h = level_chain SpellsDomainPart with_domain_part (domain_step 0) 0 (domain_step_levels 0) h.parts h.body h.spelled

pub domain_again : (room : ℕ) (d : Domain) (ts : List Piece) (h : DomainTokens d ts) → Even (suc room) h.body → domain_in room (map tok ts) ≡ Ok d
unfolding domain_in
domain_again room d ts h ev =
    let made = λ (f : Spelled × Span) (ps : DomainParts) (k : Span). domain_made f.0 ps (around f.1 k) in
    let g = h.frame in
    let step = domain_step (suc room) in
    let left = toks h.body (tok g.last ∷ []) in
    let loop = until_again SpellsDomainPart with_domain_part step (suc room) (domain_step_levels (suc room)) (domain_step_again (suc room)) (length left) no_parts h.found h.parts h.body g.last [] h.spelled ev h.once g.closes.1 (enough h.body g.last []) in
    ap (domain_in room) (sym (toks_all ts) ∙ frame_shape (codes "domain") d.name d.span h.body ts g)
    ∙ ap (λ (q : Read (Spelled × Span)). q >>= λ f. until_close step (suc room) (length f.1) no_parts f.1 >>= λ ps. end_of ps.1 >>= λ e. Ok (made f.0 ps.0.0 ps.0.1)) (front_again (codes "domain") d.name d.span h.body ts g room)
    ∙ ap (λ (q : Read (DomainParts × Span)). q >>= λ ps. end_of ps.1 >>= λ e. Ok (made (spelled_of g.named, g.first.span) ps.0.0 ps.0.1)) loop
    ∙ ap (λ (q : Result (List Item) TextFault). q >>= λ e. Ok (made (spelled_of g.named, g.first.span) h.found g.last.span)) end_again
    ∙ (λ i. Ok (domain_made (sym g.name_is i) h.found (sym g.place i)))
    ∙ ap Ok (sym h.is)
