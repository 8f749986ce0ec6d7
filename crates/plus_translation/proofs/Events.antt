-- All events of the translation together: their conditions, what they do, and their marks.
use Rattle.std.proofs.Common.{◌≡◌, ℕ, suc, ◌+◌, true, false, ◌&&◌, ◌||◌, List, [], ◌∷◌, ◌++◌, map, length, refl, ap, ap₂, sym, subst, ◌∙◌, arith, append_assoc, length-append, flat_map, All}
use Rattle.std.specs.List.{list_any}
use Rattle.std.specs.Str.{bytes_eq}
use Rattle.std.proofs.lemmas.List.{map-append}
use Rattle.std.proofs.lemmas.List.Elements.{All-head, All-tail}
use Rattle.std.proofs.lemmas.Grind.{flat_map-append}
use Rattle.plus_model.specs.Terms.{Event, State}
use Rattle.plus_model.specs.Value.{holds}
use Rattle.plus_tree.specs.declared.trees.Schema.{Schema}
use Rattle.plus_tree.specs.Cond.{Cond, c_not, c_atom}
use Rattle.plus_types.specs.Faults.{Context}
use Rattle.plus_expansion.specs.Objects.{extents_of, tuples}
use Rattle.plus_expansion.specs.Numbers.{ground_names, head_names}
use Rattle.plus_expansion.specs.Environments.{Environment, environments, atom_number}
use Rattle.plus_expansion.specs.Expansion.{condition_meant, effects_meant, event_meant, instances_of}
use Rattle.plus_expansion.proofs.WellTyped.{SchemaTyped}
use Rattle.plus_steps.specs.Translation.{negated, fires_from, clears_from, fresh_from}
use Rattle.plus_steps.proofs.Same.{Same, same_refl, same_equal, same_trans, same_append}
use Rattle.plus_translation.specs.Renamed.{nowhere, renamed_event, renamed_from}
use Rattle.plus_translation.specs.Leaves.{some}
use Rattle.plus_translation.specs.Translated.{both, mark_name, mark_of, mark_heads, none_hold, none_repeats, clears, event_fires, fires}
use Rattle.plus_translation.proofs.Meant.{Contexts}
use Rattle.plus_translation.proofs.MarkNumbers.{instances_before}
use Rattle.plus_translation.proofs.Blocks.{fires_append, clears_append, fires_block, clears_block, conditions_are, marks_indexed, many, same_many}
use Rattle.plus_translation.proofs.Truths.{all_hold, some_hold, all_append, some_append, over_holds, some_holds, none_instances, some_instances, fresh_instances, fresh_append}

length_map : {X Y : Type 0} (f : X → Y) (xs : List X) → length (map f xs) ≡ length xs
length_map f [] = refl
length_map f (x ∷ xs) = ap suc (length_map f xs)

module _ (d c c' : Context) (w : Contexts d c c') (all : List Schema)
    (marks : c'.predicates ≡ c.predicates ++ mark_heads 1 (renamed_from 1 all))
    (new : (k : ℕ) → list_any (bytes_eq (mark_name k)) (head_names c.predicates) ≡ false) (out : Environment) where
  abbrev pub base : ℕ
  base = length (ground_names c' c.predicates)

  before_more : (pre : List Schema) (a : Schema) → instances_before c' (pre ++ a ∷ []) ≡ instances_before c' pre + length (tuples (extents_of c' a.params))
  before_more [] a = omega arith
  before_more (p ∷ pre) a = let h = before_more pre a in omega (arith, h)

  -- the events from the next on
  abbrev Rest : List Schema → List Schema → Type 0
  Rest pre rest = renamed_from 1 all ≡ pre ++ renamed_from (1 + length pre) rest

  next_place : (pre : List Schema) (a : Schema) → suc (1 + length pre) ≡ 1 + length (pre ++ a ∷ [])
  next_place pre a = let l = length-append pre (a ∷ []) in omega (arith, l)

  rest_more : (pre : List Schema) (a : Schema) (more : List Schema) → Rest pre (a ∷ more) → Rest (pre ++ renamed_event (1 + length pre) a ∷ []) more
  rest_more pre a more e =
      e ∙ ap (λ (k : ℕ). pre ++ renamed_event (1 + length pre) a ∷ renamed_from k more) (next_place pre (renamed_event (1 + length pre) a))
      ∙ sym (append_assoc pre (renamed_event (1 + length pre) a ∷ []) (renamed_from (1 + length (pre ++ renamed_event (1 + length pre) a ∷ [])) more))

  marks_at : (pre : List Schema) (a : Schema) (more : List Schema) → Rest pre (a ∷ more) → c'.predicates ≡ c.predicates ++ mark_heads 1 (pre ++ renamed_event (1 + length pre) a ∷ renamed_from (suc (1 + length pre)) more)
  marks_at pre a more e = marks ∙ ap (λ x. c.predicates ++ mark_heads 1 x) e

  module _ (pre : List Schema) (a : Schema) (more : List Schema) (e : Rest pre (a ∷ more)) (typed : SchemaTyped d false a) where
    abbrev here : ℕ
    here = base + instances_before c' pre

    next_start : here + 0 + length (map (event_meant c a) (environments c a.params [])) ≡ base + instances_before c' (pre ++ renamed_event (1 + length pre) a ∷ [])
    next_start =
        let m = many d c c' w pre (renamed_from (suc (1 + length pre)) more) a typed (marks_at pre a more e) (new (1 + length pre)) out in
        let n = same_many d c c' w pre (renamed_from (suc (1 + length pre)) more) a typed (marks_at pre a more e) (new (1 + length pre)) out in
        let l = length_map (event_meant c a) (environments c a.params []) in
        let b = before_more pre (renamed_event (1 + length pre) a) in
        omega (arith, m, n, l, b)

  fires_rest : (pre rest : List Schema) → Rest pre rest → All (SchemaTyped d false) rest → Same (flat_map (effects_meant c' out) (fires (1 + length pre) (renamed_from (1 + length pre) rest))) (fires_from (base + instances_before c' pre) (instances_of c (event_meant c) rest))
  fires_rest pre [] e t = same_refl []
  fires_rest pre (a ∷ more) e t =
      let typed = All-head (SchemaTyped d false) a more t in
      let block = map (event_meant c a) (environments c a.params []) in
      let start0 : base + instances_before c' pre + 0 ≡ base + instances_before c' pre = omega arith in
      same_trans _ _ _
      (same_equal _ _ (flat_map-append (effects_meant c' out) (event_fires (1 + length pre) (renamed_event (1 + length pre) a)) (fires (suc (1 + length pre)) (renamed_from (suc (1 + length pre)) more))))
      (same_trans _ _ _
      (same_append _ _ _ _
      (fires_block d c c' w pre (renamed_from (suc (1 + length pre)) more) a typed (marks_at pre a more e) (new (1 + length pre)) out)
      (subst (λ (k : ℕ). Same (flat_map (effects_meant c' out) (fires k (renamed_from k more))) (fires_from (base + instances_before c' pre + 0 + length block) (instances_of c (event_meant c) more)))
      (sym (next_place pre (renamed_event (1 + length pre) a)))
      (subst (λ (k : ℕ). Same (flat_map (effects_meant c' out) (fires (1 + length (pre ++ renamed_event (1 + length pre) a ∷ [])) (renamed_from (1 + length (pre ++ renamed_event (1 + length pre) a ∷ [])) more))) (fires_from k (instances_of c (event_meant c) more)))
      (sym (next_start pre a more e typed))
      (fires_rest (pre ++ renamed_event (1 + length pre) a ∷ []) more (rest_more pre a more e) (All-tail (SchemaTyped d false) a more t)))))
      (same_equal _ _ (sym (fires_append (base + instances_before c' pre + 0) block (instances_of c (event_meant c) more)) ∙ ap (λ (k : ℕ). fires_from k (block ++ instances_of c (event_meant c) more)) start0)))

  clears_rest : (pre rest : List Schema) → Rest pre rest → All (SchemaTyped d false) rest → flat_map (effects_meant c' out) (clears (1 + length pre) (renamed_from (1 + length pre) rest)) ≡ clears_from (base + instances_before c' pre) (instances_of c (event_meant c) rest)
  clears_rest pre [] e t = refl
  clears_rest pre (a ∷ more) e t =
      let typed = All-head (SchemaTyped d false) a more t in
      let block = map (event_meant c a) (environments c a.params []) in
      let start0 : base + instances_before c' pre + 0 ≡ base + instances_before c' pre = omega arith in
      ap₂ (λ x y. x ++ y)
      (clears_block d c c' w pre (renamed_from (suc (1 + length pre)) more) a typed (marks_at pre a more e) (new (1 + length pre)) out)
      (ap (λ (k : ℕ). flat_map (effects_meant c' out) (clears k (renamed_from k more))) (next_place pre (renamed_event (1 + length pre) a))
      ∙ clears_rest (pre ++ renamed_event (1 + length pre) a ∷ []) more (rest_more pre a more e) (All-tail (SchemaTyped d false) a more t)
      ∙ ap (λ (k : ℕ). clears_from k (instances_of c (event_meant c) more)) (sym (next_start pre a more e typed)))
      ∙ sym (clears_append (base + instances_before c' pre + 0) block (instances_of c (event_meant c) more)) ∙ ap (λ (k : ℕ). clears_from k (block ++ instances_of c (event_meant c) more)) start0

  none_rest : (t : State) (pre rest : List Schema) → Rest pre rest → All (SchemaTyped d false) rest → all_hold t (map (condition_meant c' out true) (none_hold (renamed_from (1 + length pre) rest))) ≡ all_hold t (map (λ (e : Event). negated e.condition) (instances_of c (event_meant c) rest))
  none_rest t pre [] e ts = refl
  none_rest t pre (a ∷ more) e ts =
      let typed = All-head (SchemaTyped d false) a more ts in
      let block = map (event_meant c a) (environments c a.params []) in
      ap₂ (λ x y. x && y)
      (over_holds c' out t (renamed_event (1 + length pre) a).params (c_not (renamed_event (1 + length pre) a).condition nowhere)
      ∙ ap (all_hold t) (conditions_are d c c' w pre (renamed_from (suc (1 + length pre)) more) a typed (marks_at pre a more e) (new (1 + length pre)) out false)
      ∙ none_instances c t a (environments c a.params []))
      (ap (λ (k : ℕ). all_hold t (map (condition_meant c' out true) (none_hold (renamed_from k more)))) (next_place pre (renamed_event (1 + length pre) a))
      ∙ none_rest t (pre ++ renamed_event (1 + length pre) a ∷ []) more (rest_more pre a more e) (All-tail (SchemaTyped d false) a more ts))
      ∙ sym (ap (all_hold t) (map-append (λ (e : Event). negated e.condition) block (instances_of c (event_meant c) more)) ∙ all_append t (map (λ (e : Event). negated e.condition) block) (map (λ (e : Event). negated e.condition) (instances_of c (event_meant c) more)))

  abbrev some_conds : List Schema → List Cond
  some_conds events = map (λ a. some a.params a.condition) events

  some_rest : (t : State) (pre rest : List Schema) → Rest pre rest → All (SchemaTyped d false) rest → some_hold t (map (condition_meant c' out true) (some_conds (renamed_from (1 + length pre) rest))) ≡ some_hold t (map (λ (e : Event). e.condition) (instances_of c (event_meant c) rest))
  some_rest t pre [] e ts = refl
  some_rest t pre (a ∷ more) e ts =
      let typed = All-head (SchemaTyped d false) a more ts in
      let block = map (event_meant c a) (environments c a.params []) in
      ap₂ (λ x y. x || y)
      (some_holds c' out t (renamed_event (1 + length pre) a).params (renamed_event (1 + length pre) a).condition
      ∙ ap (some_hold t) (conditions_are d c c' w pre (renamed_from (suc (1 + length pre)) more) a typed (marks_at pre a more e) (new (1 + length pre)) out true)
      ∙ some_instances c t a (environments c a.params []))
      (ap (λ (k : ℕ). some_hold t (map (condition_meant c' out true) (some_conds (renamed_from k more)))) (next_place pre (renamed_event (1 + length pre) a))
      ∙ some_rest t (pre ++ renamed_event (1 + length pre) a ∷ []) more (rest_more pre a more e) (All-tail (SchemaTyped d false) a more ts))
      ∙ sym (ap (some_hold t) (map-append (λ (e : Event). e.condition) block (instances_of c (event_meant c) more)) ∙ some_append t (map (λ (e : Event). e.condition) block) (map (λ (e : Event). e.condition) (instances_of c (event_meant c) more)))

  fresh_rest : (t : State) (pre rest : List Schema) → Rest pre rest → All (SchemaTyped d false) rest → all_hold t (map (condition_meant c' out true) (none_repeats (1 + length pre) (renamed_from (1 + length pre) rest))) ≡ holds (fresh_from (base + instances_before c' pre) (instances_of c (event_meant c) rest)) t
  fresh_rest t pre [] e ts = refl
  fresh_rest t pre (a ∷ more) e ts =
      let typed = All-head (SchemaTyped d false) a more ts in
      let block = map (event_meant c a) (environments c a.params []) in
      let start0 : base + instances_before c' pre + 0 ≡ base + instances_before c' pre = omega arith in
      let post = renamed_from (suc (1 + length pre)) more in
      let at = marks_at pre a more e in
      ap₂ (λ x y. x && y)
      (over_holds c' out t (renamed_event (1 + length pre) a).params (c_not (both ((renamed_event (1 + length pre) a).condition ∷ c_atom (mark_of (1 + length pre) (renamed_event (1 + length pre) a)) nowhere ∷ [])) nowhere)
      ∙ fresh_instances c t a (λ e'. condition_meant c' e' false (renamed_event (1 + length pre) a).condition) (λ e'. atom_number c' e' (mark_of (1 + length pre) (renamed_event (1 + length pre) a)))
      (base + instances_before c' pre + 0) (environments c' (renamed_event (1 + length pre) a).params out) (environments c a.params [])
      (conditions_are d c c' w pre post a typed at (new (1 + length pre)) out false) (marks_indexed d c c' w pre post a typed at (new (1 + length pre)) out))
      (ap (λ (k : ℕ). all_hold t (map (condition_meant c' out true) (none_repeats k (renamed_from k more)))) (next_place pre (renamed_event (1 + length pre) a))
      ∙ fresh_rest t (pre ++ renamed_event (1 + length pre) a ∷ []) more (rest_more pre a more e) (All-tail (SchemaTyped d false) a more ts)
      ∙ ap (λ (k : ℕ). holds (fresh_from k (instances_of c (event_meant c) more)) t) (sym (next_start pre a more e typed)))
      ∙ sym (fresh_append t (base + instances_before c' pre + 0) block (instances_of c (event_meant c) more)) ∙ ap (λ (k : ℕ). holds (fresh_from k (block ++ instances_of c (event_meant c) more)) t) start0

  -- ---- of all events
  module _ (typed : All (SchemaTyped d false) all) where
    base0 : base + 0 ≡ base
    base0 = omega arith

    pub all_fires : Same (flat_map (effects_meant c' out) (fires 1 (renamed_from 1 all))) (fires_from base (instances_of c (event_meant c) all))
    all_fires = subst (λ (k : ℕ). Same (flat_map (effects_meant c' out) (fires 1 (renamed_from 1 all))) (fires_from k (instances_of c (event_meant c) all))) base0 (fires_rest [] all refl typed)

    pub all_clears : flat_map (effects_meant c' out) (clears 1 (renamed_from 1 all)) ≡ clears_from base (instances_of c (event_meant c) all)
    all_clears = clears_rest [] all refl typed ∙ ap (λ (k : ℕ). clears_from k (instances_of c (event_meant c) all)) base0

    pub all_none : (t : State) → all_hold t (map (condition_meant c' out true) (none_hold (renamed_from 1 all))) ≡ all_hold t (map (λ (e : Event). negated e.condition) (instances_of c (event_meant c) all))
    all_none t = none_rest t [] all refl typed

    pub all_some : (t : State) → some_hold t (map (condition_meant c' out true) (some_conds (renamed_from 1 all))) ≡ some_hold t (map (λ (e : Event). e.condition) (instances_of c (event_meant c) all))
    all_some t = some_rest t [] all refl typed

    pub all_fresh : (t : State) → all_hold t (map (condition_meant c' out true) (none_repeats 1 (renamed_from 1 all))) ≡ holds (fresh_from base (instances_of c (event_meant c) all)) t
    all_fresh t = fresh_rest t [] all refl typed ∙ ap (λ (k : ℕ). holds (fresh_from k (instances_of c (event_meant c) all)) t) base0
