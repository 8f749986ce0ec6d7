-- The events of the translation, one after the other: the instances of each, with their marks.
use Rattle.std.proofs.Common.{◌≡◌, ℕ, suc, ◌<◌, ◌≤◌, ◌+◌, Bool, true, false, List, [], ◌∷◌, ◌++◌, map, length, refl, ap, ap₂, sym, subst, ◌∙◌, arith, append_assoc, append-nil, flat_map, All}
use Rattle.std.specs.List.{list_any, position_or_len}
use Rattle.std.specs.Str.{bytes_eq}
use Rattle.std.proofs.lemmas.List.{append_cancel_left}
use Rattle.std.proofs.lemmas.List.Elements.{All-nil, All-cons, All-weaker, All-head, All-tail}
use Rattle.std.proofs.lemmas.List.Folds.{flat_map-map}
use Rattle.std.proofs.lemmas.Grind.{flat_map-append}
use Rattle.std.proofs.lemmas.List.Concat.{flat_map_single}
use Rattle.plus_model.specs.Terms as model
use Rattle.plus_model.specs.Terms.{Condition, Always, Effect, Event, State}
use Rattle.plus_tree.specs.declared.trees.Schema.{Schema}
use Rattle.plus_tree.specs.declared.trees.LeafNode.TheVariants.{Add, Delete}
use Rattle.plus_tree.specs.Effect as effects
use Rattle.plus_tree.specs.Effect.{Effects, e_when, effects_of}
use Rattle.plus_types.specs.Types.{bindings_of}
use Rattle.plus_types.specs.Faults.{Context}
use Rattle.plus_expansion.specs.Objects.{extents_of, tuples}
use Rattle.plus_expansion.specs.Numbers.{ground_names, head_names, number_of}
use Rattle.plus_expansion.specs.Environments.{Environment, environments, term_object, use_objects, atom_number}
use Rattle.plus_expansion.specs.Expansion.{condition_meant, effects_meant, event_meant}
use Rattle.plus_expansion.proofs.WellTyped.{SchemaTyped}
use Rattle.plus_steps.specs.Translation.{whenever, fires_with, fires_from, clears_from}
use Rattle.plus_steps.proofs.Same.{Same, same_refl, same_equal, same_trans, same_append, same_middle, flat_swap}
use Rattle.plus_translation.specs.Renamed.{nowhere, scope_with, bindings_in, renamed_event}
use Rattle.plus_translation.specs.Leaves.{over_effect, nested, Placed, leaves_of}
use Rattle.plus_translation.specs.Translated.{leaf, writes, variable_of, mark_name, mark_of, mark_heads, event_guard}
use Rattle.plus_translation.proofs.Meant.{Contexts, AreRenamed, renamed-later, condition_same, quantified_map}
use Rattle.plus_translation.proofs.Nests.{over_meant, quantified_alike, nest_same}
use Rattle.plus_translation.proofs.MarkNumbers.{Indexed, indexed_map, placed_indexed, tuples_placed, extents_apart, environments_objects, objects, seen, seen_objects, instances_before, mark_number}

-- ---- numbers in a row
pub indexed_below : {X : Type 0} (f : X → ℕ) (k n : ℕ) (xs : List X) → Indexed f k xs → k + length xs ≤ n → All (λ x. f x < n) xs
indexed_below f k n [] i l = All-nil (λ x. f x < n)
indexed_below f k n (x ∷ xs) i l = All-cons (λ x. f x < n) x xs (let e = i.0 in omega arith) (indexed_below f (suc k) n xs i.1 (omega arith))

pub indexed_from : {X : Type 0} (f g : X → ℕ) (base k : ℕ) (xs : List X) → All (λ x. g x ≡ base + f x) xs → Indexed f k xs → Indexed g (base + k) xs
indexed_from f g base k [] a i = tt
indexed_from f g base k (x ∷ xs) a i =
    let one : base + suc k ≡ suc (base + k) = omega arith in (
      All-head (λ x. g x ≡ base + f x) x xs a ∙ ap (λ (n : ℕ). base + n) i.0,
      subst (λ (n : ℕ). Indexed g n xs) one (indexed_from f g base (suc k) xs (All-tail (λ x. g x ≡ base + f x) x xs a) i.1),
    )

cancelled : {X : Type 0} (f g : X → List ℕ) (pre : List ℕ) (xs : List X) (ts : List (List ℕ)) → All (λ x. f x ≡ pre ++ g x) xs → map f xs ≡ map (λ t. pre ++ t) ts → map g xs ≡ ts
cancelled f g pre [] [] a e = refl
cancelled f g pre [] (t ∷ ts) a e = cc
cancelled f g pre (x ∷ xs) [] a e = cc
cancelled f g pre (x ∷ xs) (t ∷ ts) a e =
    let h : f x ≡ pre ++ t = cc in
    let r : map f xs ≡ map (λ t. pre ++ t) ts = cc in
    ap₂ (λ y ys. y ∷ ys) (append_cancel_left pre (g x) t (sym (All-head (λ x. f x ≡ pre ++ g x) x xs a) ∙ h)) (cancelled f g pre xs ts (All-tail (λ x. f x ≡ pre ++ g x) x xs a) r)

-- ---- effects of marks
abbrev pub sets_from : ℕ → List Event → List Effect
sets_from n [] = []
sets_from n (e ∷ es) = whenever e.condition (model.Add n) ∷ sets_from (suc n) es

fires_split : (n : ℕ) (es : List Event) → Same (flat_map (λ e. map (fires_with e) e.effects) es ++ sets_from n es) (fires_from n es)
fires_split n [] = same_refl []
fires_split n (e ∷ es) =
    same_trans _ _ _ (same_middle (map (fires_with e) e.effects) (flat_map (λ e. map (fires_with e) e.effects) es) (whenever e.condition (model.Add n) ∷ []) (sets_from (suc n) es))
    (same_append _ _ _ _ (same_refl (map (fires_with e) e.effects ++ whenever e.condition (model.Add n) ∷ [])) (fires_split (suc n) es))

pub fires_append : (n : ℕ) (xs ys : List Event) → fires_from n (xs ++ ys) ≡ fires_from n xs ++ fires_from (n + length xs) ys
fires_append n [] ys = let e : n ≡ n + 0 = omega arith in ap (λ (k : ℕ). fires_from k ys) e
fires_append n (x ∷ xs) ys =
    let e : suc n + length xs ≡ n + suc (length xs) = omega arith in
    let first = map (fires_with x) x.effects ++ whenever x.condition (model.Add n) ∷ [] in
    ap (λ zs. first ++ zs) (fires_append (suc n) xs ys ∙ ap (λ (k : ℕ). fires_from (suc n) xs ++ fires_from k ys) e) ∙ sym (append_assoc first (fires_from (suc n) xs) (fires_from (n + suc (length xs)) ys))

pub clears_append : (n : ℕ) (xs ys : List Event) → clears_from n (xs ++ ys) ≡ clears_from n xs ++ clears_from (n + length xs) ys
clears_append n [] ys = let e : n ≡ n + 0 = omega arith in ap (λ (k : ℕ). clears_from k ys) e
clears_append n (x ∷ xs) ys =
    let e : suc n + length xs ≡ n + suc (length xs) = omega arith in
    ap (λ zs. whenever Always (model.Delete n) ∷ zs) (clears_append (suc n) xs ys ∙ ap (λ (k : ℕ). clears_from (suc n) xs ++ clears_from k ys) e)

sets_are : {X : Type 0} (f : X → Condition) (g : X → ℕ) (n : ℕ) (xs : List X) (es : List Event) → map f xs ≡ map (λ e. e.condition) es → Indexed g n xs → map (λ x. whenever (f x) (model.Add (g x))) xs ≡ sets_from n es
sets_are f g n [] [] m i = refl
sets_are f g n [] (e ∷ es) m i = cc
sets_are f g n (x ∷ xs) [] m i = cc
sets_are f g n (x ∷ xs) (e ∷ es) m i =
    let h : f x ≡ e.condition = cc in
    let t : map f xs ≡ map (λ e. e.condition) es = cc in
    ap₂ (λ y ys. y ∷ ys) (ap₂ (λ y (k : ℕ). whenever y (model.Add k)) h i.0) (sets_are f g (suc n) xs es t i.1)

clears_are : {X : Type 0} (g : X → ℕ) (n : ℕ) (xs : List X) (es : List Event) → length xs ≡ length es → Indexed g n xs → map (λ x. whenever Always (model.Delete (g x))) xs ≡ clears_from n es
clears_are g n [] [] m i = refl
clears_are g n [] (e ∷ es) m i = absurd (omega (arith, m))
clears_are g n (x ∷ xs) [] m i = absurd (omega (arith, m))
clears_are g n (x ∷ xs) (e ∷ es) m i = ap₂ (λ y ys. y ∷ ys) (ap (λ (k : ℕ). whenever Always (model.Delete k)) i.0) (clears_are g (suc n) xs es (omega (arith, m)) i.1)

length_map : {X Y : Type 0} (f : X → Y) (xs : List X) → length (map f xs) ≡ length xs
length_map f [] = refl
length_map f (x ∷ xs) = ap suc (length_map f xs)

map_map : {X Y Z : Type 0} (g : Y → Z) (f : X → Y) (xs : List X) → map g (map f xs) ≡ map (λ x. g (f x)) xs
map_map g f [] = refl
map_map g f (x ∷ xs) = ap (λ ys. g (f x) ∷ ys) (map_map g f xs)

-- ---- one event, inside any variables of other names
module _ (d : Context) (c c' : Context) (w : Contexts d c c') (pre post : List Schema) (a : Schema) (typed : SchemaTyped d false a)
    (marks : c'.predicates ≡ c.predicates ++ mark_heads 1 (pre ++ renamed_event (1 + length pre) a ∷ post))
    (new : list_any (bytes_eq (mark_name (1 + length pre))) (head_names c.predicates) ≡ false) (out : Environment) where
  abbrev i : ℕ
  i = 1 + length pre

  abbrev start : ℕ
  start = length (ground_names c' c.predicates) + instances_before c' pre

  abbrev envs : List Environment
  envs = environments c a.params []

  abbrev envs' : List Environment
  envs' = environments c' (renamed_event (1 + length pre) a).params out

  abbrev mark : Environment → ℕ
  mark e' = atom_number c' e' (mark_of (1 + length pre) (renamed_event (1 + length pre) a))

  abbrev tuples' : List (List ℕ)
  tuples' = tuples (extents_of c' (renamed_event (1 + length pre) a).params)

  abbrev own_objects : Environment → List ℕ
  own_objects e' = seen c' (length c'.objects) (1 + length pre) e' (renamed_event (1 + length pre) a).params

  abbrev place : Environment → ℕ
  place e' = position_or_len (bytes_eq (seen c' (length c'.objects) (1 + length pre) e' (renamed_event (1 + length pre) a).params)) (tuples (extents_of c' (renamed_event (1 + length pre) a).params))

  own_tuples : map own_objects envs' ≡ tuples'
  own_tuples = cancelled objects own_objects (objects out) envs' tuples' (seen_objects c' (length c'.objects) (1 + length pre) a.params 1 out) (environments_objects c' (renamed_event (1 + length pre) a).params out)

  pub many : length envs' ≡ length (tuples (extents_of c' (renamed_event (1 + length pre) a).params))
  many = sym (length_map own_objects envs') ∙ ap length own_tuples

  places : Indexed place 0 envs'
  places = indexed_map own_objects (λ t. position_or_len (bytes_eq t) tuples') 0 envs' tuples' own_tuples (placed_indexed [] tuples' tuples' (tuples_placed (extents_of c' (renamed_event (1 + length pre) a).params) (extents_apart c' (renamed_event (1 + length pre) a).params)) refl)

  mark_place : (e' : Environment) → place e' < length tuples' → mark e' ≡ start + place e'
  mark_place e' h =
      let os : use_objects c' e' (mark_of (1 + length pre) (renamed_event (1 + length pre) a)) ≡ own_objects e' = map_map (term_object c' e') variable_of (renamed_event (1 + length pre) a).params in
      ap₂ (λ heads xs. number_of c' heads (mark_name (1 + length pre)) xs) marks os
      ∙ mark_number c' c.predicates 1 pre post (renamed_event (1 + length pre) a) (own_objects e') new h
      ∙ (let e : length (ground_names c' c.predicates) + (instances_before c' pre + place e') ≡ start + place e' = omega arith in e)

  pub marks_indexed : Indexed mark (start + 0) envs'
  marks_indexed =
      indexed_from place mark start 0 envs'
      (All-weaker (λ e'. place e' < length tuples') (λ e'. mark e' ≡ start + place e') mark_place envs'
      (indexed_below place 0 (length tuples') envs' places (let m = many in omega (arith, m)))) places

  nothing_renamed : AreRenamed (1 + length pre) 1 (length c.objects) [] [] [] out
  nothing_renamed x kind e = cc

  -- its condition, instance by instance
  pub conditions_are : (positive : Bool) → map (λ e'. condition_meant c' e' positive (renamed_event (1 + length pre) a).condition) envs' ≡ map (λ e. condition_meant c e positive a.condition) envs
  conditions_are positive =
      quantified_map d c c' w (1 + length pre) (λ e. condition_meant c e positive a.condition) (λ e'. condition_meant c' e' positive (renamed_event (1 + length pre) a).condition) a.params 1 [] [] [] out tt typed.variables nothing_renamed
      (λ e e' s r. condition_same d c c' w (1 + length pre) a.condition (bindings_of a.params) (scope_with (1 + length pre) 1 a.params []) e e' (1 + length a.params) positive s r typed.condition)

  pub same_many : length envs' ≡ length envs
  same_many = sym (length_map (λ e'. condition_meant c' e' true (renamed_event (1 + length pre) a).condition) envs') ∙ ap length (conditions_are true) ∙ length_map (λ e. condition_meant c e true a.condition) envs

  abbrev instances : List Event
  instances = map (event_meant c a) envs

  -- what clears its marks
  pub clears_block : effects_meant c' out (over_effect (renamed_event (1 + length pre) a).params (writes (leaf (Delete (mark_of (1 + length pre) (renamed_event (1 + length pre) a)))))) ≡ clears_from (start + 0) instances
  clears_block =
      over_meant c' out (renamed_event (1 + length pre) a).params (writes (leaf (Delete (mark_of (1 + length pre) (renamed_event (1 + length pre) a)))))
      ∙ flat_map_single (λ e'. whenever Always (model.Delete (mark e'))) envs'
      ∙ clears_are mark (start + 0) envs' instances (same_many ∙ sym (length_map (event_meant c a) envs)) marks_indexed

  -- its mark
  sets_block : effects_meant c' out (over_effect (renamed_event (1 + length pre) a).params (e_when (renamed_event (1 + length pre) a).condition (leaf (Add (mark_of (1 + length pre) (renamed_event (1 + length pre) a))) ∷ []) nowhere)) ≡ sets_from (start + 0) instances
  sets_block =
      over_meant c' out (renamed_event (1 + length pre) a).params (e_when (renamed_event (1 + length pre) a).condition (leaf (Add (mark_of (1 + length pre) (renamed_event (1 + length pre) a))) ∷ []) nowhere)
      ∙ flat_map_single (λ e'. whenever (condition_meant c' e' true (renamed_event (1 + length pre) a).condition) (model.Add (mark e'))) envs'
      ∙ sets_are (λ e'. condition_meant c' e' true (renamed_event (1 + length pre) a).condition) mark (start + 0) envs' instances (conditions_are true ∙ sym (map_map (λ (e : Event). e.condition) (event_meant c a) envs)) marks_indexed

  -- what it does
  abbrev put_here : Placed → effects.Effect
  put_here p = over_effect (renamed_event (1 + length pre) a).params (nested p.lists (e_when (event_guard (renamed_event (1 + length pre) a).condition p.guards) (p.leaf ∷ []) nowhere))

  abbrev put_at : Environment → Placed → List Effect
  put_at e' p = effects_meant c' e' (nested p.lists (e_when (event_guard (renamed_event (1 + length pre) a).condition p.guards) (p.leaf ∷ []) nowhere))

  over_each : (ps : List Placed) → flat_map (λ p. effects_meant c' out (put_here p)) ps ≡ flat_map (λ p. flat_map (λ e'. put_at e' p) envs') ps
  over_each [] = refl
  over_each (p ∷ ps) = ap₂ (λ x y. x ++ y) (over_meant c' out (renamed_event (1 + length pre) a).params (nested p.lists (e_when (event_guard (renamed_event (1 + length pre) a).condition p.guards) (p.leaf ∷ []) nowhere))) (over_each ps)

  deeds_block : Same (flat_map (λ p. effects_meant c' out (put_here p)) (leaves_of (renamed_event (1 + length pre) a).effect)) (flat_map (λ (e : Event). map (fires_with e) e.effects) instances)
  deeds_block =
      same_trans _ _ _ (same_equal _ _ (over_each (leaves_of (renamed_event (1 + length pre) a).effect)))
      (same_trans _ _ _ (flat_swap (λ p e'. put_at e' p) (leaves_of (renamed_event (1 + length pre) a).effect) envs')
      (same_trans _ _ _
      (quantified_alike d c c' w (1 + length pre) (λ e. Unit {0}) 0 (λ e m o l k. tt) (λ e. map (fires_with (event_meant c a e)) (effects_meant c e a.effect)) (λ e'. flat_map (put_at e') (leaves_of (renamed_event (1 + length pre) a).effect))
      a.params 1 [] [] [] out (omega arith) tt tt typed.variables nothing_renamed
      (λ e e' u s r. nest_same d c c' w (1 + length pre) a.condition (bindings_of a.params) (scope_with (1 + length pre) 1 a.params []) e (1 + length a.params) s typed.condition
      a.effect (bindings_of a.params) (scope_with (1 + length pre) 1 a.params []) e e' (1 + length a.params + bindings_in a.condition) (omega arith) r s
      (renamed-later (1 + length pre) (1 + length a.params) (1 + length a.params + bindings_in a.condition) (length c.objects) (bindings_of a.params) (scope_with (1 + length pre) 1 a.params []) e e' (omega arith) r) typed.effect))
      (same_equal _ _ (sym (flat_map-map (λ (e : Event). map (fires_with e) e.effects) (event_meant c a) envs)))))

  pub fires_block : Same (flat_map (effects_meant c' out) (map put_here (leaves_of (renamed_event (1 + length pre) a).effect) ++ over_effect (renamed_event (1 + length pre) a).params (e_when (renamed_event (1 + length pre) a).condition (leaf (Add (mark_of (1 + length pre) (renamed_event (1 + length pre) a))) ∷ []) nowhere) ∷ [])) (fires_from (start + 0) instances)
  fires_block =
      same_trans _ _ _
      (same_equal _ _ (flat_map-append (effects_meant c' out) (map put_here (leaves_of (renamed_event (1 + length pre) a).effect)) (over_effect (renamed_event (1 + length pre) a).params (e_when (renamed_event (1 + length pre) a).condition (leaf (Add (mark_of (1 + length pre) (renamed_event (1 + length pre) a))) ∷ []) nowhere) ∷ [])
      ∙ ap₂ (λ x y. x ++ y) (flat_map-map (effects_meant c' out) put_here (leaves_of (renamed_event (1 + length pre) a).effect)) (append-nil _ ∙ sets_block)))
      (same_trans _ _ _ (same_append _ _ _ _ deeds_block (same_refl (sets_from (start + 0) instances))) (fires_split (start + 0) instances))
