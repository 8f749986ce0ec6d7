-- A problem that is read is spelled so, and one that is spelled is read.
use Rattle.std.proofs.Common.{◌≡◌, ℕ, suc, ◌-◌, Bool, true, false, List, [], ◌∷◌, ◌++◌, length, Option, Some, None, Result, Ok, Err, refl, sym, ap, ◌∙◌, subst, inl, arith, ◌+◌}
use Rattle.std.specs.Prelude.{◌&&◌, map, is_some, unwrap_or, option_and_then, codes}
use Rattle.std.proofs.lemmas.Bool.{cond-false, and_parts, and_right}
use Rattle.plus_tokens.specs.declared.span.Span.{Span}
use Rattle.plus_tree.specs.declared.names.Spelled.{Spelled}
use Rattle.plus_tree.specs.declared.terms.TypedName.{TypedName}
use Rattle.plus_tree.specs.declared.terms.Use.{Use}
use Rattle.plus_tree.specs.declared.trees.Init.{Init}
use Rattle.plus_tree.specs.declared.trees.Init.TheVariants.{Holds, Absent, Value, At, AtNot}
use Rattle.plus_tree.specs.declared.terms.Literal.{Literal}
use Rattle.plus_tree.specs.declared.terms.Comparison.TheVariants.{Equal}
use Rattle.plus_parser.specs.declared.phrases.words.Allowed.TheVariants as allows
use Rattle.plus_parser.specs.declared.phrases.words.HeadWord.{HeadWord}
use Rattle.plus_parser.specs.declared.phrases.words.HeadWord.TheVariants.{Not, Compare, Plain}
use Rattle.plus_tree.specs.declared.trees.Problem.{Problem}
use Rattle.plus_tree.specs.declared.faults.TextFault.{TextFault}
use Rattle.plus_tree.specs.declared.faults.TextFault.TheVariants as faults
use Rattle.plus_tree.specs.Cond.{Cond}
use Rattle.plus_parser.specs.declared.parts.ProblemParts.{ProblemParts}
use Rattle.plus_parser.specs.declared.keywords.ProblemWord.{ProblemWord}
use Rattle.plus_parser.specs.declared.keywords.ProblemWord.TheVariants as problems
use Rattle.plus_tokens.specs.Items.{Piece, Item, tok}
use Rattle.plus_parser.specs.Phrases.Reading.{◌>>=◌, Read, next_of, is_open}
use Rattle.plus_parser.specs.Phrases.Words.{is_keyword, head_of, is_word, is_time, word_head, kind_head}
use Rattle.plus_parser.specs.Keywords.{problem_part_of}
use Rattle.plus_parser.specs.Phrases.Grammar.{around, time_ahead, spelled_of, open_of, close_of, name_of, until_close, form_step, use_of, use_end, use_form, list_of}
use Rattle.plus_parser.specs.Balanced.{skipped}
use Rattle.plus_parser.proofs.Skips.{skip_takes, skip_again, level_balanced}
use Rattle.plus_parser.specs.Forms.ReadingForms.{cond_at}
use Rattle.plus_parser.specs.ReadingDomain.{requirement_step, end_of, front_of}
use Rattle.plus_parser.specs.ReadingProblem.{literal_next, timed_of, plain_init, init_with, init_at, no_problem_parts, problem_part_with, problem_part, all_found, problem_step, problem_made, or_early, problem_in}
use Rattle.plus_parser.specs.Phrases.Spells.{IsWord, with_last, SpellsUse}
use Rattle.plus_parser.specs.Forms.SpellsForms.{SpellsCond}
use Rattle.plus_parser.specs.SpellsDomain.{SpellsRequirement, Framed}
use Rattle.plus_parser.specs.SpellsProblem.{SpellsTimed, SpellsInit, ProblemPart, p_domain, p_requirements, p_objects, p_init, p_goal, p_metric, SpellsProblemPart, with_problem_part, ProblemTokens}
use Rattle.plus_parser.proofs.PhraseLemmas.Tokens.{toks, toks_last, toks_all, enough, bind_ok, ok_is, next_ok, next_again, refused}
use Rattle.plus_parser.proofs.PhraseLemmas.Names.{plain_name, word_is, word_fits}
use Rattle.plus_parser.proofs.PhraseLemmas.Level.{Even, Level, is_flat, after_flat, number_flat, level_flat, level_append, level_wrapped, level_name, level_use, level_args, even_append, split_append}
use Rattle.plus_parser.proofs.FormLemmas.FormLevels.{level_cond}
use Rattle.plus_parser.proofs.PhraseLemmas.Flat.{IsFlat, name_flat, says_flat, flat_level}
use Rattle.plus_parser.proofs.PhraseLemmas.UntilTakes.{Takes, until_takes}
use Rattle.plus_parser.proofs.PhraseLemmas.UntilAgain.{Again, Levels, level_chain, until_again}
use Rattle.plus_parser.proofs.PhraseLemmas.Forms.{FormTook, FormTakes, FormAgain, Begins, close_took, enters, form_takes, form_again, let_through, some_is, list_takes, list_again}
use Rattle.plus_parser.proofs.PhraseLemmas.Heads.{worded, compare_is, plain_is, plain_head, word_heads, sign_heads}
use Rattle.plus_parser.proofs.PhraseLemmas.TypedLists.{level_list, list_takes as names_takes, list_again as names_again}
use Rattle.plus_parser.proofs.PhraseLemmas.Starts.{name_again, close_again, opened_takes, opened_again, use_takes, use_again, use_spelled, use_made, use_form_takes, use_form_again}
use Rattle.plus_parser.proofs.FormLemmas.ConditionLaws.{cond_takes, cond_again, cond_begins}
use Rattle.plus_parser.proofs.DomainLaws.{requirement_takes, requirement_levels, requirement_again}
use Rattle.plus_parser.proofs.TimedLaws.{number_takes, number_again, number_level, time_number, names_no_time, SpellsFalse, not_level, timed_takes, TimedAgain, at_again, at_not_again}
use Rattle.plus_parser.proofs.Sections.{name_taken, close_taken, name_read, PartTook, PartTakes, Shapes, PartAgain, section_takes, section_levels, section_again, end_takes, end_again, front_takes, framed, frame_even, frame_shape, front_again}

-- ---- the first state

init_takes : (room : ℕ) → FormTakes SpellsInit room (init_at room)
unfolding init_at
init_takes room s items x rest some e =
    let a = bind_ok (next_of (room - 1) items) (λ p. init_with (room - 1) s p.0 p.1 (head_of p.0)) (x, rest) e in
    at_head a.0.0 a.0.1 (next_ok (room - 1) items a.0.0 a.0.1 a.1) (head_of a.0.0) refl a.2
  where
    at_head : (p : Piece) (r : List Item) → items ≡ tok p ∷ r → (h : HeadWord) → head_of p ≡ h → init_with (room - 1) s p r h ≡ Ok (x, rest) → FormTook SpellsInit room x s items rest
    at_head p r whole Plain h e = at_time (is_word (codes "at") p && time_ahead (room - 1) r) refl e
      where
        at_time : (b : Bool) → (is_word (codes "at") p && time_ahead (room - 1) r) ≡ b → plain_init b (room - 1) s p r ≡ Ok (x, rest) → FormTook SpellsInit room x s items rest
        at_time true b e =
            let both = and_parts (is_word (codes "at") p) (time_ahead (room - 1) r) b in
            let word = word_is (codes "at") p both.0 in
            let t = timed_takes (room - 1) s r x rest e in
            let behind = toks t.inner (tok t.last ∷ rest) in
            let time : is_time t.time ≡ true = sym (time_number (room - 1) t.time t.number behind t.is) ∙ ap (time_ahead (room - 1)) (sym t.whole) ∙ both.1 in
            close_took SpellsInit room (room - 1) (omega (arith, some)) x s (p ∷ t.time ∷ t.inner) t.last items rest t.closes
            (whole ∙ ap (λ (is : List Item). tok p ∷ is) t.whole)
            ((name_flat p word.0).room (room - 1) (t.time ∷ t.inner) ∙ after_flat (room - 1) t.time t.inner (number_flat t.time t.number t.is) ∙ t.even)
            (λ first opens place w. t.spelled p (first ∷ ((p ∷ t.time ∷ t.inner) ++ t.last ∷ [])) word time w)
        at_time false b e =
            let a = bind_ok (use_end allows.Names (room - 1) s p r) (λ u. Ok (Holds u.0, u.1)) (x, rest) e in
            let u = use_takes allows.Names (room - 1) s p r a.0.0 a.0.1 a.1 in
            let plain = plain_is p h in
            subst (λ (y : Init × List Item). FormTook SpellsInit room y.0 s items y.1) (ok_is (Holds a.0.0, a.0.1) (x, rest) a.2)
            (close_took SpellsInit room (room - 1) (omega (arith, some)) (Holds a.0.0) s (p ∷ u.inner) u.last items a.0.1 u.closes
            (whole ∙ ap (λ (is : List Item). tok p ∷ is) u.whole)
            ((name_flat p (plain_name p plain)).room (room - 1) u.inner ∙ u.even)
            (λ first opens place w. use_spelled allows.Names a.0.0 s p u.last first u.args u.inner u.is plain opens u.closes place u.spelled))
    at_head p r whole Not h e =
        let made = λ (u : Use) (k : Span). let y : Init = Absent u (around s k) in y in
        let a = bind_ok (use_form allows.Names (room - 1) r) (λ u. close_of (room - 1) u.1 >>= λ k. Ok (made u.0 k.0.span, k.1)) (x, rest) e in
        let d = bind_ok (close_of (room - 1) a.0.1) (λ k. Ok (made a.0.0 k.0.span, k.1)) (x, rest) a.2 in
        let t = use_form_takes allows.Names (room - 1) r a.0.0 a.0.1 a.1 in
        let k = close_taken (room - 1) d.0.0 a.0.1 d.0.1 d.1 in
        let is = worded p Not h refl in
        subst (λ (y : Init × List Item). FormTook SpellsInit room y.0 s items y.1) (ok_is (made a.0.0 d.0.0.span, d.0.1) (x, rest) d.2)
        (close_took SpellsInit room (room - 1) (omega (arith, some)) (made a.0.0 d.0.0.span) s (p ∷ t.inner) d.0.0 items d.0.1 k.0
        (whole ∙ ap (λ (is : List Item). tok p ∷ is) (t.whole ∙ ap (toks t.inner) k.1))
        ((name_flat p is.0).room (room - 1) t.inner ∙ t.even)
        (λ first opens place w. (p, t.inner, is, w, t.spelled)))
    at_head p r whole (Compare Equal) h e =
        let made = λ (u : Use) (n : Literal) (k : Span). let y : Init = Value u n (around s k) in y in
        let a = bind_ok (use_form allows.Names (room - 1) r) (λ u. literal_next (room - 1) u.1 >>= λ n. close_of (room - 1) n.1 >>= λ k. Ok (made u.0 n.0 k.0.span, k.1)) (x, rest) e in
        let b = bind_ok (literal_next (room - 1) a.0.1) (λ n. close_of (room - 1) n.1 >>= λ k. Ok (made a.0.0 n.0 k.0.span, k.1)) (x, rest) a.2 in
        let d = bind_ok (close_of (room - 1) b.0.1) (λ k. Ok (made a.0.0 b.0.0 k.0.span, k.1)) (x, rest) b.2 in
        let t = use_form_takes allows.Names (room - 1) r a.0.0 a.0.1 a.1 in
        let n = number_takes (room - 1) a.0.1 b.0.0 b.0.1 b.1 in
        let k = close_taken (room - 1) d.0.0 b.0.1 d.0.1 d.1 in
        let is = compare_is p Equal h in
        let body = t.inner ++ n.token ∷ [] in
        subst (λ (y : Init × List Item). FormTook SpellsInit room y.0 s items y.1) (ok_is (made a.0.0 b.0.0 d.0.0.span, d.0.1) (x, rest) d.2)
        (close_took SpellsInit room (room - 1) (omega (arith, some)) (made a.0.0 b.0.0 d.0.0.span) s (p ∷ body) d.0.0 items d.0.1 k.0
        (whole ∙ ap (λ (is : List Item). tok p ∷ is) (t.whole ∙ ap (toks t.inner) (n.whole ∙ ap (λ (is : List Item). tok n.token ∷ is) k.1) ∙ toks_last t.inner n.token (tok d.0.0 ∷ d.0.1)))
        (after_flat (room - 1) p body (ap is_flat is) ∙ even_append (room - 1) t.inner (n.token ∷ []) t.even (after_flat (room - 1) n.token [] (number_flat n.token b.0.0 n.is)))
        (λ first opens place w. (p, t.inner, n.token, is, w, t.spelled, n.is)))
    at_head p r whole (Compare _) h e = absurd cc
    at_head p r whole _ h e = absurd cc

init_begins : (room : ℕ) → Begins SpellsInit room
init_begins room (Holds u) ts h = let w = h.3 in (w.first, (h.0 ∷ h.1) ++ w.last ∷ [], w.opens, w.whole)
init_begins room (Absent u s) ts h = let w = h.3 in (w.first, (h.0 ∷ h.1) ++ w.last ∷ [], w.opens, w.whole)
init_begins room (At t u s) ts h = let w = h.5 in (w.first, (h.0 ∷ h.1 ∷ h.2) ++ w.last ∷ [], w.opens, w.whole)
init_begins room (AtNot t u s) ts h = let w = h.5 in (w.first, (h.0 ∷ h.1 ∷ h.2) ++ w.last ∷ [], w.opens, w.whole)
init_begins room (Value u n s) ts h = let w = h.4 in (w.first, (h.0 ∷ (h.1 ++ h.2 ∷ [])) ++ w.last ∷ [], w.opens, w.whole)

timed_level : (P : Use → List Piece → Type 0) → ((u : Use) (ts : List Piece) → P u ts → Level ts) → (t : Literal) (u : Use) (s : Span) (ts : List Piece) → SpellsTimed t s (P u) ts → Level ts
timed_level P level t u s ts h =
    level_wrapped s (h.0 ∷ h.1 ∷ h.2) ts h.5 (level_name h.0 (h.1 ∷ h.2) h.3.0 (level_flat h.1 h.2 (number_flat h.1 t h.4.0) (level u h.2 h.6)))

false_level : (u : Use) (ts : List Piece) → SpellsFalse u ts → Level ts
false_level u ts h = not_level allows.Terms u h.0 ts h.1

init_levels : (room : ℕ) → Levels SpellsInit with_last (form_step (init_at room)) room
init_levels room (Holds u) ts h = level_use allows.Names u ts h
init_levels room (Absent u s) ts h = not_level allows.Names u s ts h
init_levels room (At t u s) ts h = timed_level (SpellsUse allows.Terms) (level_use allows.Terms) t u s ts h
init_levels room (AtNot t u s) ts h = timed_level SpellsFalse false_level t u s ts h
init_levels room (Value u n s) ts h =
    level_wrapped s (h.0 ∷ (h.1 ++ h.2 ∷ [])) ts h.4 (level_flat h.0 (h.1 ++ h.2 ∷ []) (ap is_flat h.3) (level_append h.1 (h.2 ∷ []) (level_use allows.Names u h.1 h.5) (number_level h.2 n h.6)))

holds_turn :
    (room : ℕ) (front : Span) (p : Piece) (u : Use) (items r1 r2 : List Item) → next_of (room - 1) items ≡ Ok (p, r1) → head_of p ≡ Plain → (is_word (codes "at") p && time_ahead (room - 1) r1) ≡ false
    → use_end allows.Names (room - 1) front p r1 ≡ Ok (u, r2) → init_at room front items ≡ Ok (Holds u, r2)
unfolding init_at
holds_turn room front p u items r1 r2 e plain none e1 = rw (e, plain, none, e1) refl

timed_turn :
    (room : ℕ) (front : Span) (p : Piece) (x : Init) (items r1 r2 : List Item) → next_of (room - 1) items ≡ Ok (p, r1) → head_of p ≡ Plain → is_word (codes "at") p ≡ true → time_ahead (room - 1) r1 ≡ true
    → timed_of (room - 1) front r1 ≡ Ok (x, r2) → init_at room front items ≡ Ok (x, r2)
unfolding init_at
timed_turn room front p x items r1 r2 e plain word time e1 = rw (e, plain, word, time) e1

absent_turn : (room : ℕ) (front : Span) (p k : Piece) (u : Use) (items r1 r2 r3 : List Item) → next_of (room - 1) items ≡ Ok (p, r1) → head_of p ≡ Not → use_form allows.Names (room - 1) r1 ≡ Ok (u, r2) → close_of (room - 1) r2 ≡ Ok (k, r3) → init_at room front items ≡ Ok (Absent u (around front k.span), r3)
unfolding init_at
absent_turn room front p k u items r1 r2 r3 e h e1 e2 = rw (e, h, e1, e2) refl

value_turn : (room : ℕ) (front : Span) (p k : Piece) (u : Use) (n : Literal) (items r1 r2 r3 r4 : List Item) → next_of (room - 1) items ≡ Ok (p, r1) → head_of p ≡ Compare Equal → use_form allows.Names (room - 1) r1 ≡ Ok (u, r2) → literal_next (room - 1) r2 ≡ Ok (n, r3) → close_of (room - 1) r3 ≡ Ok (k, r4) → init_at room front items ≡ Ok (Value u n (around front k.span), r4)
unfolding init_at
value_turn room front p k u n items r1 r2 r3 r4 e h e1 e2 e3 = rw (e, h, e1, e2, e3) refl

-- `at` begins no form of another kind
at_plain : (p : Piece) → IsWord (codes "at") p → head_of p ≡ Plain
at_plain p h = ap (λ k. kind_head k p.word) h.0 ∙ ap word_head h.1

timed_again :
    (P : Use → List Piece → Type 0) (made : Literal → Use → Span → Init) → ((u : Use) (ts : List Piece) → P u ts → Level ts) → TimedAgain P made
    → (room : ℕ) (t : Literal) (u : Use) (s : Span) (ts : List Piece) (first : Piece) (inner : List Piece) (rest : List Item) → SpellsTimed t s (P u) ts → ts ≡ first ∷ inner → Even room ts
    → init_at room first.span (toks inner rest) ≡ Ok (made t u s, rest)
timed_again P made level again room t u s ts first inner rest h e ev =
    let a = h.0 in
    let time = h.1 in
    let body = h.2 in
    let w = h.5 in
    let flat = number_flat time t h.4.0 in
    enters SpellsInit room (init_at room) (made t u s) s (a ∷ time ∷ body) ts w first inner rest e (level_name a (time ∷ body) h.3.0 (level_flat time body flat (level u body h.6))) ev (λ r under er.
    let same : r ≡ room - 1 = omega (arith, under) in
    let eb : Even (room - 1) body = subst (λ n. Even n body) same (sym (after_flat r time body flat) ∙ sym ((name_flat a h.3.0).room r (time ∷ body)) ∙ er) in
    let behind = toks body (tok w.last ∷ rest) in
    timed_turn room w.first.span a (made t u (around w.first.span w.last.span)) (tok a ∷ tok time ∷ behind) (tok time ∷ behind) rest (name_again (room - 1) a (tok time ∷ behind) h.3.0) (at_plain a h.3) (word_fits (codes "at") a h.3)
    (time_number (room - 1) time t behind h.4.0 ∙ h.4.1) (again (room - 1) w.first.span t u time w.last body rest h.4.0 h.6 eb w.closes)
    ∙ (λ i. Ok (made t u (sym w.place i), rest)))

init_again : (room : ℕ) → FormAgain SpellsInit room (init_at room)
init_again room (Holds u) ts first inner rest h e ev =
    let a = h.0 in
    let args = h.1 in
    let w = h.3 in
    let name = plain_name a h.2 in
    let left = toks args (tok w.last ∷ rest) in
    enters SpellsInit room (init_at room) (Holds u) u.span (a ∷ args) ts w first inner rest e (level_name a args name (level_args allows.Names u.args args h.5)) ev (λ r under er.
    holds_turn room w.first.span a (use_of a u.args (around w.first.span w.last.span)) (tok a ∷ left) left rest (name_again (room - 1) a left name) (plain_head a h.2)
    (and_right (is_word (codes "at") a) (time_ahead (room - 1) left) (names_no_time (room - 1) u.args args w.last rest w.closes h.5)) (use_again allows.Names (room - 1) w.first.span a w.last u.args args rest w.closes h.5)
    ∙ ap (λ (v : Use). Ok (Holds v, rest)) (use_made allows.Names u ts h))
init_again room (At t u s) ts first inner rest h e ev = timed_again (SpellsUse allows.Terms) (λ t u s. At t u s) (level_use allows.Terms) at_again room t u s ts first inner rest h e ev
init_again room (AtNot t u s) ts first inner rest h e ev = timed_again SpellsFalse (λ t u s. AtNot t u s) false_level at_not_again room t u s ts first inner rest h e ev
init_again room (Absent u s) ts first inner rest h e ev =
    let a = h.0 in
    let w = h.3 in
    enters SpellsInit room (init_at room) (Absent u s) s (a ∷ h.1) ts w first inner rest e (level_name a h.1 h.2.0 (level_use allows.Names u h.1 h.4)) ev (λ r under er.
    let same : r ≡ room - 1 = omega (arith, under) in
    let eb : Even (room - 1) h.1 = subst (λ n. Even n h.1) same (sym ((name_flat a h.2.0).room r h.1) ∙ er) in
    let k = tok w.last ∷ rest in
    absent_turn room w.first.span a w.last u (tok a ∷ toks h.1 k) (toks h.1 k) k rest (name_again (room - 1) a (toks h.1 k) h.2.0) (word_heads a Not h.2 refl) (use_form_again allows.Names (room - 1) u h.1 k h.4 eb) (close_again (room - 1) w.last rest w.closes)
    ∙ (λ i. Ok (Absent u (sym w.place i), rest)))
init_again room (Value u n s) ts first inner rest h e ev =
    let a = h.0 in
    let w = h.4 in
    let p = h.2 in
    let body = h.1 ++ p ∷ [] in
    enters SpellsInit room (init_at room) (Value u n s) s (a ∷ body) ts w first inner rest e (level_flat a body (ap is_flat h.3) (level_append h.1 (p ∷ []) (level_use allows.Names u h.1 h.5) (number_level p n h.6))) ev (λ r under er.
    let same : r ≡ room - 1 = omega (arith, under) in
    let eb : Even (room - 1) body = subst (λ n. Even n body) same (sym (after_flat r a body (ap is_flat h.3)) ∙ er) in
    let evens = split_append (room - 1) h.1 (p ∷ []) (level_use allows.Names u h.1 h.5) eb in
    let k = tok w.last ∷ rest in
    ap (λ (is : List Item). init_at room w.first.span (tok a ∷ is)) (sym (toks_last h.1 p k))
    ∙ value_turn room w.first.span a w.last u n (tok a ∷ toks h.1 (tok p ∷ k)) (toks h.1 (tok p ∷ k)) (tok p ∷ k) k rest (next_again (room - 1) a (toks h.1 (tok p ∷ k)) (ap is_open h.3)) (sign_heads a Equal h.3)
    (use_form_again allows.Names (room - 1) u h.1 (tok p ∷ k) h.5 evens.0) (number_again (room - 1) p n k h.6) (close_again (room - 1) w.last rest w.closes)
    ∙ (λ i. Ok (Value u n (sym w.place i), rest)))

-- ---- sections

part_flat : (p : Piece) (h : ProblemWord) → problem_part_of p ≡ h → (problems.Other ≡ h → ⊥) → IsFlat p
part_flat p h e apart = says_flat problem_part_of problems.Other (λ q k. cond-false (is_keyword q.kind) _ problems.Other k) p h e apart

part_takes : PartTakes SpellsProblemPart with_problem_part problem_part
unfolding problem_part
part_takes r s s' front q rest rest' e = at_word (problem_part_of q) refl e
  where
    at_word : (h : ProblemWord) → problem_part_of q ≡ h → problem_part_with h r s front q rest ≡ Ok (s', rest') → PartTook SpellsProblemPart with_problem_part problem_part r s s' front q rest rest'
    at_word problems.Domain is e =
        let made = λ (n : Piece). record s { domain = Some (spelled_of n) } in
        let g = refused (is_some s.domain) (faults.Form q.span) (name_of r rest >>= λ n. close_of r n.1 >>= λ e. Ok (made n.0, e.1)) (s', rest') e in
        let a = bind_ok (name_of r rest) (λ n. close_of r n.1 >>= λ e. Ok (made n.0, e.1)) (s', rest') g.1 in
        let b = bind_ok (close_of r a.0.1) (λ e. Ok (made a.0.0, e.1)) (s', rest') a.2 in
        let both = ok_is (made a.0.0, b.0.1) (s', rest') b.2 in
        let n = name_taken r a.0.0 rest a.0.1 a.1 in
        let k = close_taken r b.0.0 a.0.1 b.0.1 b.1 in
        record {
          thing = p_domain (spelled_of a.0.0);
          body = a.0.0 ∷ [];
          last = b.0.0;
          flat = part_flat q problems.Domain is (λ e. cc);
          closes = k.0;
          whole = n.1 ∙ ap (λ (is : List Item). tok a.0.0 ∷ is) (k.1 ∙ ap (λ (x : ProblemParts × List Item). tok b.0.0 ∷ x.1) both);
          even = (name_flat a.0.0 n.0).room r [];
          spelled = λ ts w. (around front b.0.0.span, q, a.0.0, is, w, n.0, refl);
          adds = cond-false (is_some s.domain) None (Some (made a.0.0)) g.0 ∙ ap (λ (x : ProblemParts × List Item). Some x.0) both;
        }
    at_word problems.Requirements is e =
        let t = list_takes SpellsRequirement requirement_step r (is_some s.requirements) (λ xs. record s { requirements = Some xs }) q.span (requirement_takes r) s' rest rest' e in
        record {
          thing = p_requirements t.things;
          body = t.body;
          last = t.last;
          flat = part_flat q problems.Requirements is (λ e. cc);
          closes = t.closes;
          whole = t.whole;
          even = t.even;
          spelled = λ ts w. (around front t.last.span, q, t.body, is, w, t.spelled);
          adds = cond-false (is_some s.requirements) None (Some (record s { requirements = Some t.things })) t.fresh ∙ ap Some t.is;
        }
    at_word problems.Objects is e =
        let made = λ (xs : List TypedName). record s { objects = Some xs } in
        let g = refused (is_some s.objects) (faults.Form q.span) (list_of allows.Names r rest >>= λ xs. Ok (made xs.0.0, xs.1)) (s', rest') e in
        let a = bind_ok (list_of allows.Names r rest) (λ xs. Ok (made xs.0.0, xs.1)) (s', rest') g.1 in
        let both = ok_is (made a.0.0.0, a.0.1) (s', rest') a.2 in
        let t = names_takes allows.Names r rest a.0.0.0 a.0.0.1 a.0.1 a.1 in
        record {
          thing = p_objects a.0.0.0;
          body = t.inner;
          last = t.last;
          flat = part_flat q problems.Objects is (λ e. cc);
          closes = t.closes;
          whole = t.whole ∙ ap (λ (x : ProblemParts × List Item). toks t.inner (tok t.last ∷ x.1)) both;
          even = t.even;
          spelled = λ ts w. (around front t.last.span, q, t.inner, is, w, t.spelled);
          adds = cond-false (is_some s.objects) None (Some (made a.0.0.0)) g.0 ∙ ap (λ (x : ProblemParts × List Item). Some x.0) both;
        }
    at_word problems.Init is e =
        let t = list_takes SpellsInit (form_step (init_at r)) r (is_some s.init) (λ xs. record s { init = Some xs }) q.span (form_takes SpellsInit r (init_at r) (init_takes r)) s' rest rest' e in
        record {
          thing = p_init t.things;
          body = t.body;
          last = t.last;
          flat = part_flat q problems.Init is (λ e. cc);
          closes = t.closes;
          whole = t.whole;
          even = t.even;
          spelled = λ ts w. (around front t.last.span, q, t.body, is, w, t.spelled);
          adds = cond-false (is_some s.init) None (Some (record s { init = Some t.things })) t.fresh ∙ ap Some t.is;
        }
    at_word problems.Goal is e =
        let made = λ (c : Cond). record s { goal = Some c } in
        let g = refused (is_some s.goal) (faults.Form q.span) (open_of r rest >>= λ o. cond_at r o.0.span o.1 >>= λ c. close_of r c.1 >>= λ e. Ok (made c.0, e.1)) (s', rest') e in
        let a = bind_ok (open_of r rest) (λ o. cond_at r o.0.span o.1 >>= λ c. close_of r c.1 >>= λ e. Ok (made c.0, e.1)) (s', rest') g.1 in
        let b = bind_ok (cond_at r a.0.0.span a.0.1) (λ c. close_of r c.1 >>= λ e. Ok (made c.0, e.1)) (s', rest') a.2 in
        let d = bind_ok (close_of r b.0.1) (λ e. Ok (made b.0.0, e.1)) (s', rest') b.2 in
        let both = ok_is (made b.0.0, d.0.1) (s', rest') d.2 in
        let t = opened_takes SpellsCond r (cond_at r) (cond_takes r) a.0.0 b.0.0 rest a.0.1 b.0.1 a.1 b.1 in
        let k = close_taken r d.0.0 b.0.1 d.0.1 d.1 in
        record {
          thing = p_goal b.0.0;
          body = t.inner;
          last = d.0.0;
          flat = part_flat q problems.Goal is (λ e. cc);
          closes = k.0;
          whole = t.whole ∙ ap (toks t.inner) (k.1 ∙ ap (λ (x : ProblemParts × List Item). tok d.0.0 ∷ x.1) both);
          even = t.even;
          spelled = λ ts w. (around front d.0.0.span, q, t.inner, is, w, t.spelled);
          adds = cond-false (is_some s.goal) None (Some (made b.0.0)) g.0 ∙ ap (λ (x : ProblemParts × List Item). Some x.0) both;
        }
    at_word problems.Metric is e =
        let made = record s { metric = true } in
        let g = refused s.metric (faults.Form q.span) (skipped r rest >>= λ e. Ok (made, e.1)) (s', rest') e in
        let a = bind_ok (skipped r rest) (λ e. Ok (made, e.1)) (s', rest') g.1 in
        let both = ok_is (made, a.0.1) (s', rest') a.2 in
        let t = skip_takes (length rest) r 0 a.0.0 rest a.0.1 a.1 in
        let sum : r + 0 ≡ r = omega arith in
        record {
          thing = p_metric;
          body = t.inner;
          last = t.last;
          flat = part_flat q problems.Metric is (λ e. cc);
          closes = t.closes;
          whole = t.whole ∙ ap (λ (x : ProblemParts × List Item). toks t.inner (tok t.last ∷ x.1)) both;
          even = t.even ∙ ap Some sum;
          spelled = λ ts w. (around front t.last.span, q, t.inner, is, w, t.balanced);
          adds = cond-false s.metric None (Some made) g.0 ∙ ap (λ (x : ProblemParts × List Item). Some x.0) both;
        }
    at_word problems.Other is e = absurd cc

part_shape : Shapes SpellsProblemPart with_problem_part problem_part
part_shape (p_domain x) ts h = record {
  span = h.0;
  keyword = h.1;
  body = h.2 ∷ [];
  wrapped = h.4;
  flat = part_flat h.1 problems.Domain h.3 (λ e. cc);
  level = flat_level h.2 [] (name_flat h.2 h.5) (λ r. inl refl);
}
part_shape (p_requirements xs) ts h = record {
  span = h.0;
  keyword = h.1;
  body = h.2;
  wrapped = h.4;
  flat = part_flat h.1 problems.Requirements h.3 (λ e. cc);
  level = level_chain SpellsRequirement with_last requirement_step 0 (requirement_levels 0) xs h.2 h.5;
}
part_shape (p_objects xs) ts h = record {
  span = h.0;
  keyword = h.1;
  body = h.2;
  wrapped = h.4;
  flat = part_flat h.1 problems.Objects h.3 (λ e. cc);
  level = level_list allows.Names 0 xs h.2 h.5;
}
part_shape (p_init xs) ts h = record {
  span = h.0;
  keyword = h.1;
  body = h.2;
  wrapped = h.4;
  flat = part_flat h.1 problems.Init h.3 (λ e. cc);
  level = level_chain SpellsInit with_last (form_step (init_at 0)) 0 (init_levels 0) xs h.2 h.5;
}
part_shape (p_goal c) ts h = record {
  span = h.0;
  keyword = h.1;
  body = h.2;
  wrapped = h.4;
  flat = part_flat h.1 problems.Goal h.3 (λ e. cc);
  level = level_cond c h.2 h.5;
}
part_shape p_metric ts h = record {
  span = h.0;
  keyword = h.1;
  body = h.2;
  wrapped = h.4;
  flat = part_flat h.1 problems.Metric h.3 (λ e. cc);
  level = level_balanced h.2 h.5;
}

part_again : PartAgain SpellsProblemPart with_problem_part problem_part part_shape
unfolding problem_part part_shape
part_again r s s' (p_domain x) ts rest h ev a =
    let g = let_through (is_some s.domain) (record s { domain = Some x }) s' a in
    let w = h.4 in
    let made = λ (n : Piece). record s { domain = Some (spelled_of n) } in
    let left = tok h.2 ∷ tok w.last ∷ rest in
    ap (λ (word : ProblemWord). problem_part_with word r s w.first.span h.1 left) h.3
    ∙ cond-false (is_some s.domain) (Err (faults.Form h.1.span)) (name_of r left >>= λ n. close_of r n.1 >>= λ e. Ok (made n.0, e.1)) g.0
    ∙ ap (λ (q : Read Piece). q >>= λ n. close_of r n.1 >>= λ e. Ok (made n.0, e.1)) (name_read r h.2 (tok w.last ∷ rest) h.5)
    ∙ ap (λ (q : Read Piece). q >>= λ e. Ok (made h.2, e.1)) (close_again r w.last rest w.closes)
    ∙ (λ i. Ok (record s { domain = Some (sym h.6 i) }, rest))
    ∙ ap (λ (ps : ProblemParts). Ok (ps, rest)) g.1
part_again r s s' (p_requirements xs) ts rest h ev a =
    let g = let_through (is_some s.requirements) (record s { requirements = Some xs }) s' a in
    let w = h.4 in
    ap (λ (word : ProblemWord). problem_part_with word r s w.first.span h.1 (toks h.2 (tok w.last ∷ rest))) h.3
    ∙ list_again SpellsRequirement requirement_step r (is_some s.requirements) (λ xs. record s { requirements = Some xs }) h.1.span (requirement_levels r) (requirement_again r) xs h.2 w.last rest g.0 h.5 ev w.closes
    ∙ ap (λ (ps : ProblemParts). Ok (ps, rest)) g.1
part_again r s s' (p_objects xs) ts rest h ev a =
    let g = let_through (is_some s.objects) (record s { objects = Some xs }) s' a in
    let w = h.4 in
    let left = toks h.2 (tok w.last ∷ rest) in
    let made = λ (xs : List TypedName). record s { objects = Some xs } in
    ap (λ (word : ProblemWord). problem_part_with word r s w.first.span h.1 left) h.3
    ∙ cond-false (is_some s.objects) (Err (faults.Form h.1.span)) (list_of allows.Names r left >>= λ xs. Ok (made xs.0.0, xs.1)) g.0
    ∙ ap (λ (q : Read (List TypedName × Span)). q >>= λ xs. Ok (made xs.0.0, xs.1)) (names_again allows.Names r xs h.2 w.last rest h.5 ev w.closes)
    ∙ ap (λ (ps : ProblemParts). Ok (ps, rest)) g.1
part_again r s s' (p_init xs) ts rest h ev a =
    let g = let_through (is_some s.init) (record s { init = Some xs }) s' a in
    let w = h.4 in
    ap (λ (word : ProblemWord). problem_part_with word r s w.first.span h.1 (toks h.2 (tok w.last ∷ rest))) h.3
    ∙ list_again SpellsInit (form_step (init_at r)) r (is_some s.init) (λ xs. record s { init = Some xs }) h.1.span (init_levels r) (form_again SpellsInit r (init_at r) (init_begins r) (init_again r)) xs h.2 w.last rest g.0 h.5 ev w.closes
    ∙ ap (λ (ps : ProblemParts). Ok (ps, rest)) g.1
part_again r s s' (p_goal c) ts rest h ev a =
    let g = let_through (is_some s.goal) (record s { goal = Some c }) s' a in
    let w = h.4 in
    let made = λ (c : Cond). record s { goal = Some c } in
    let left = toks h.2 (tok w.last ∷ rest) in
    let o = opened_again SpellsCond r (cond_at r) (cond_begins r) (cond_again r) c h.2 (tok w.last ∷ rest) h.5 ev in
    ap (λ (word : ProblemWord). problem_part_with word r s w.first.span h.1 left) h.3
    ∙ cond-false (is_some s.goal) (Err (faults.Form h.1.span)) (open_of r left >>= λ o. cond_at r o.0.span o.1 >>= λ c. close_of r c.1 >>= λ e. Ok (made c.0, e.1)) g.0
    ∙ ap (λ (q : Read Piece). q >>= λ o. cond_at r o.0.span o.1 >>= λ c. close_of r c.1 >>= λ e. Ok (made c.0, e.1)) o.2
    ∙ ap (λ (q : Read Cond). q >>= λ c. close_of r c.1 >>= λ e. Ok (made c.0, e.1)) o.3
    ∙ ap (λ (q : Read Piece). q >>= λ e. Ok (made c, e.1)) (close_again r w.last rest w.closes)
    ∙ ap (λ (ps : ProblemParts). Ok (ps, rest)) g.1
part_again r s s' p_metric ts rest h ev a =
    let g = let_through s.metric (record s { metric = true }) s' a in
    let w = h.4 in
    let left = toks h.2 (tok w.last ∷ rest) in
    let made = record s { metric = true } in
    let sum : r ≡ r + 0 = omega arith in
    ap (λ (word : ProblemWord). problem_part_with word r s w.first.span h.1 left) h.3
    ∙ cond-false s.metric (Err (faults.Form h.1.span)) (skipped r left >>= λ e. Ok (made, e.1)) g.0
    ∙ ap (λ (q : Read Span). q >>= λ e. Ok (made, e.1)) (skip_again (length left) r 0 h.2 w.last rest h.5 (ev ∙ ap Some sum) w.closes (enough h.2 w.last rest))
    ∙ ap (λ (ps : ProblemParts). Ok (ps, rest)) g.1

-- where a section may be added, not all were found
and_false : (b : Bool) → (b && false) ≡ false
and_false true = refl
and_false false = refl

not_full : (s s' : ProblemParts) (x : ProblemPart) → with_problem_part s x ≡ Some s' → all_found s ≡ false
not_full s s' (p_domain x) e = ap (λ b. ((((b && is_some s.requirements) && is_some s.objects) && is_some s.init) && is_some s.goal) && s.metric) (let_through (is_some s.domain) (record s { domain = Some x }) s' e).0
not_full s s' (p_requirements xs) e = ap (λ b. ((((is_some s.domain && b) && is_some s.objects) && is_some s.init) && is_some s.goal) && s.metric) (let_through (is_some s.requirements) (record s { requirements = Some xs }) s' e).0 ∙ ap (λ b. (((b && is_some s.objects) && is_some s.init) && is_some s.goal) && s.metric) (and_false (is_some s.domain))
not_full s s' (p_objects xs) e = ap (λ b. ((((is_some s.domain && is_some s.requirements) && b) && is_some s.init) && is_some s.goal) && s.metric) (let_through (is_some s.objects) (record s { objects = Some xs }) s' e).0 ∙ ap (λ b. ((b && is_some s.init) && is_some s.goal) && s.metric) (and_false (is_some s.domain && is_some s.requirements))
not_full s s' (p_init xs) e = ap (λ b. ((((is_some s.domain && is_some s.requirements) && is_some s.objects) && b) && is_some s.goal) && s.metric) (let_through (is_some s.init) (record s { init = Some xs }) s' e).0 ∙ ap (λ b. (b && is_some s.goal) && s.metric) (and_false ((is_some s.domain && is_some s.requirements) && is_some s.objects))
not_full s s' (p_goal c) e = ap (λ b. ((((is_some s.domain && is_some s.requirements) && is_some s.objects) && is_some s.init) && b) && s.metric) (let_through (is_some s.goal) (record s { goal = Some c }) s' e).0 ∙ ap (λ b. b && s.metric) (and_false (((is_some s.domain && is_some s.requirements) && is_some s.objects) && is_some s.init))
not_full s s' p_metric e = ap (λ b. ((((is_some s.domain && is_some s.requirements) && is_some s.objects) && is_some s.init) && is_some s.goal) && b) (let_through s.metric (record s { metric = true }) s' e).0 ∙ and_false ((((is_some s.domain && is_some s.requirements) && is_some s.objects) && is_some s.init) && is_some s.goal)

problem_step_takes : (room : ℕ) → Takes SpellsProblemPart with_problem_part (problem_step room) room
problem_step_takes room = section_takes SpellsProblemPart with_problem_part problem_part all_found part_takes room

problem_step_levels : (room : ℕ) → Levels SpellsProblemPart with_problem_part (problem_step room) room
problem_step_levels room = section_levels SpellsProblemPart with_problem_part problem_part part_shape all_found room

problem_step_again : (room : ℕ) → Again SpellsProblemPart with_problem_part (problem_step room) room
problem_step_again room = section_again SpellsProblemPart with_problem_part problem_part all_found not_full part_shape part_again room

-- ---- the problem

early_ok : {A : Type 0} (last : Span) (o : Option A) (x : A) → or_early last o ≡ Ok x → o ≡ Some x
early_ok last None x e = absurd cc
early_ok last (Some y) x e = ap Some (ok_is y x e)

-- the name and the place of a problem are those that it was made with
made_name : (n : Spelled) (ps : ProblemParts) (s : Span) (p : Problem) → problem_made n ps s ≡ Some p → (n ≡ p.name) × (s ≡ p.span)
made_name n ps s p e = at_parts ps.domain ps.init ps.goal e
  where
    at_parts : (d : Option Spelled) (i : Option (List Init)) (g : Option Cond) → option_and_then (λ d. option_and_then (λ i. option_and_then (λ g. Some (record { name = n; domain = d; requirements = unwrap_or ps.requirements []; objects = unwrap_or ps.objects []; init = i; goal = g; span = s })) g) i) d ≡ Some p → (n ≡ p.name) × (s ≡ p.span)
    at_parts None i g e = absurd cc
    at_parts (Some d) None g e = absurd cc
    at_parts (Some d) (Some i) None e = absurd cc
    at_parts (Some d) (Some i) (Some g) e =
        let made : Problem = record { name = n; domain = d; requirements = unwrap_or ps.requirements []; objects = unwrap_or ps.objects []; init = i; goal = g; span = s } in
        let same : made ≡ p = some_is made p e in
        (ap (λ (x : Problem). x.name) same, ap (λ (x : Problem). x.span) same)

-- the tokens that were read spell the problem
pub problem_takes : (room : ℕ) (items : List Item) (p : Problem) → problem_in room items ≡ Ok p → (ts : List Piece) × (items ≡ map tok ts) × ProblemTokens p ts × Even (suc (suc room)) ts
unfolding problem_in
problem_takes room items p e =
    let made = λ (f : Spelled × Span) (ps : ProblemParts) (k : Span). problem_made f.0 ps (around f.1 k) in
    let step = problem_step (suc room) in
    let a = bind_ok (front_of (codes "problem") room items) (λ f. until_close step (suc room) (length f.1) no_problem_parts f.1 >>= λ ps. or_early ps.0.1 (made f.0 ps.0.0 ps.0.1) >>= λ x. end_of ps.1 >>= λ e. Ok x) p e in
    let b = bind_ok (until_close step (suc room) (length a.0.1) no_problem_parts a.0.1) (λ ps. or_early ps.0.1 (made a.0.0 ps.0.0 ps.0.1) >>= λ x. end_of ps.1 >>= λ e. Ok x) p a.2 in
    let m = bind_ok (or_early b.0.0.1 (made a.0.0 b.0.0.0 b.0.0.1)) (λ x. end_of b.0.1 >>= λ e. Ok x) p b.2 in
    let c = bind_ok (end_of b.0.1) (λ e. Ok m.0) p m.2 in
    let f = front_takes (codes "problem") room a.0.0 items a.0.1 a.1 in
    let t = until_takes SpellsProblemPart with_problem_part step (suc room) (problem_step_takes (suc room)) (length a.0.1) no_problem_parts b.0.0.0 b.0.0.1 a.0.1 b.0.1 b.1 in
    let ts = f.first ∷ f.define ∷ f.inner ∷ f.kind ∷ f.named ∷ f.close ∷ (t.inner ++ t.last ∷ []) in
    let span = around a.0.0.1 t.last.span in
    let frame = framed (codes "problem") a.0.0 items a.0.1 f t.inner t.last t.closes in
    let is : problem_made a.0.0.0 b.0.0.0 span ≡ Some p = (λ i. problem_made a.0.0.0 b.0.0.0 (around a.0.0.1 (t.place i))) ∙ early_ok b.0.0.1 (made a.0.0 b.0.0.0 b.0.0.1) m.0 m.1 ∙ ap Some (ok_is m.0 p c.2) in
    let names = made_name a.0.0.0 b.0.0.0 span p is in (
      ts,
      f.whole ∙ ap (toks (f.first ∷ f.define ∷ f.inner ∷ f.kind ∷ f.named ∷ f.close ∷ [])) (t.whole ∙ toks_last t.inner t.last b.0.1 ∙ ap (toks (t.inner ++ t.last ∷ [])) (end_takes b.0.1 c.0 c.1)) ∙ toks_all ts,
      record {
        body = t.inner;
        parts = t.things;
        found = b.0.0.0;
        frame = subst (λ (x : Spelled × Span). Framed (codes "problem") x.0 x.1 t.inner ts) (λ i. (names.0 i, names.1 i)) frame;
        spelled = t.spelled;
        once = t.adds;
        is = sym (λ i. problem_made (names.0 i) b.0.0.0 (names.1 i)) ∙ is;
      },
      frame_even (codes "problem") a.0.0.0 span t.inner ts frame room t.even,
    )

pub problem_level : (p : Problem) (ts : List Piece) (h : ProblemTokens p ts) → Level h.body
problem_level p ts h = level_chain SpellsProblemPart with_problem_part (problem_step 0) 0 (problem_step_levels 0) h.parts h.body h.spelled

pub problem_again : (room : ℕ) (p : Problem) (ts : List Piece) (h : ProblemTokens p ts) → Even (suc room) h.body → problem_in room (map tok ts) ≡ Ok p
unfolding problem_in
problem_again room p ts h ev =
    let made = λ (f : Spelled × Span) (ps : ProblemParts) (k : Span). problem_made f.0 ps (around f.1 k) in
    let g = h.frame in
    let step = problem_step (suc room) in
    let left = toks h.body (tok g.last ∷ []) in
    let loop = until_again SpellsProblemPart with_problem_part step (suc room) (problem_step_levels (suc room)) (problem_step_again (suc room)) (length left) no_problem_parts h.found h.parts h.body g.last [] h.spelled ev h.once g.closes.1 (enough h.body g.last []) in
    let is : made (spelled_of g.named, g.first.span) h.found g.last.span ≡ Some p = (λ i. problem_made (sym g.name_is i) h.found (sym g.place i)) ∙ h.is in
    ap (problem_in room) (sym (toks_all ts) ∙ frame_shape (codes "problem") p.name p.span h.body ts g)
    ∙ ap (λ (q : Read (Spelled × Span)). q >>= λ f. until_close step (suc room) (length f.1) no_problem_parts f.1 >>= λ ps. or_early ps.0.1 (made f.0 ps.0.0 ps.0.1) >>= λ x. end_of ps.1 >>= λ e. Ok x) (front_again (codes "problem") p.name p.span h.body ts g room)
    ∙ ap (λ (q : Read (ProblemParts × Span)). q >>= λ ps. or_early ps.0.1 (made (spelled_of g.named, g.first.span) ps.0.0 ps.0.1) >>= λ x. end_of ps.1 >>= λ e. Ok x) loop
    ∙ ap (λ (o : Option Problem). or_early g.last.span o >>= λ x. end_of [] >>= λ e. Ok x) is
    ∙ ap (λ (q : Result (List Item) TextFault). q >>= λ e. Ok p) end_again
