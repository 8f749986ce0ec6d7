-- A translation is within where its frame is, and what it takes over.
use Rattle.std.specs.Prelude.{Bool, true, false, ◌&&◌, map}
use Rattle.std.specs.List.{list_all}
use Rattle.std.proofs.Common.{◌≡◌, ℕ, List, [], ◌∷◌, ◌++◌, ◌∙◌, ap, sym, refl}
use Rattle.std.specs.List.{flat_map}
use Rattle.std.proofs.Math.Bool.{and_assoc}
use Rattle.std.proofs.lemmas.List.Folds.{list_all-append}
use Rattle.plus_fraction.specs.Fraction.{Fraction}
use Rattle.plus_tree.specs.declared.trees.Schema.{Schema}
use Rattle.plus_tree.specs.declared.trees.Domain.{Domain}
use Rattle.plus_tree.specs.declared.trees.Problem.{Problem}
use Rattle.plus_tree.specs.declared.trees.Init.{Init}
use Rattle.plus_tree.specs.declared.trees.Init.TheVariants.{Holds, Absent, Value, At, AtNot}
use Rattle.plus_tree.specs.Cond.{Cond, conds_of}
use Rattle.plus_tree.specs.Effect.{Effect, effects_of}
use Rattle.plus_translation.specs.Depth.{cond_within, conds_within, effect_within, effects_within, schema_within, init_within, problem_within, pair_within}
use Rattle.plus_translation.specs.Translated.{Due, length_of_step, none_hold, clears, flows, clock_effects, old_translated, init_translated, domain_translated, problem_translated}
use Rattle.plus_translate.specs.Parts.{step_of}
use Rattle.plus_translate_command.specs.Printer.Frame.{frame_of, own_within, spliced_within}

-- ---- truths

right_false : (b : Bool) → (b && false) ≡ false
right_false true = refl
right_false false = refl

right_true : (b : Bool) → (b && true) ≡ b
right_true true = refl
right_true false = refl

both_left : (a b : Bool) → (a && b) ≡ true → a ≡ true
both_left true b h = refl
both_left false b h = absurd (cc h)

both_right : (a b : Bool) → (a && b) ≡ true → b ≡ true
both_right true b h = h
both_right false b h = absurd (cc h)

-- The step holds all that is shared, so where it is within, an old action is as deep as its own parts.
core :
    (A O S G N I : Bool) → (S ≡ true → (A ≡ O) × (N ≡ true)) → I ≡ true
    → (((A && S) && true) && (I && (G && N))) ≡ ((S && true) && (O && G))
core A O false G N I h i = ap (λ b. (b && true) && (I && (G && N))) (right_false A)
core A O true G N I h i =
    ap (λ b. (b && true) && (I && (G && N))) (right_true A)
    ∙ ap (λ b. b && (I && (G && N))) (right_true A)
    ∙ ap (λ b. A && (b && (G && N))) i
    ∙ ap (λ b. A && (G && b)) (h refl).1
    ∙ ap (λ b. A && b) (right_true G)
    ∙ ap (λ b. b && G) (h refl).0

-- ---- lists

effects_joined : (n : ℕ) (xs ys : List Effect) → effects_within n (effects_of (xs ++ ys)) ≡ (effects_within n (effects_of xs) && effects_within n (effects_of ys))
effects_joined n [] ys = refl
effects_joined n (x ∷ xs) ys =
    ap (λ b. effect_within n x && b) (effects_joined n xs ys)
    ∙ sym (and_assoc (effect_within n x) (effects_within n (effects_of xs)) (effects_within n (effects_of ys)))

-- no member of `:init` is deep
init_shallow : (i : Init) → init_within 62 i ≡ true
init_shallow (Holds u) = refl
init_shallow (Absent u s) = refl
init_shallow (Value u l s) = refl
init_shallow (At t u s) = refl
init_shallow (AtNot t u s) = refl

inits_shallow : (xs : List Init) → list_all (init_within 62) xs ≡ true
inits_shallow [] = refl
inits_shallow (x ∷ xs) = ap (λ b. b && list_all (init_within 62) xs) (init_shallow x) ∙ inits_shallow xs

-- ---- actions

old_own : (none : List Cond) (clear : List Effect) (a : Schema) → conds_within 61 (conds_of none) ≡ true → effects_within 61 (effects_of clear) ≡ true
    → schema_within 63 (old_translated none clear a) ≡ own_within a
old_own none clear a n c =
    ap (λ b. (cond_within 61 a.condition && b) && (effect_within 61 a.effect && effects_within 61 (effects_of clear))) n
    ∙ ap (λ b. (cond_within 61 a.condition && true) && (effect_within 61 a.effect && b)) c
    ∙ ap (λ b. b && (effect_within 61 a.effect && true)) (right_true (cond_within 61 a.condition))
    ∙ ap (λ b. cond_within 61 a.condition && b) (right_true (effect_within 61 a.effect))

olds_own : (none : List Cond) (clear : List Effect) (xs : List Schema) → conds_within 61 (conds_of none) ≡ true → effects_within 61 (effects_of clear) ≡ true
    → list_all (schema_within 63) (map (old_translated none clear) xs) ≡ list_all own_within xs
olds_own none clear [] n c = refl
olds_own none clear (x ∷ xs) n c =
    ap (λ b. b && list_all (schema_within 63) (map (old_translated none clear) xs)) (old_own none clear x n c)
    ∙ ap (λ b. own_within x && b) (olds_own none clear xs n c)

module _ (q : Fraction) (events : List Schema) (due : List Due) (d : Domain) (p : Problem) where
  step_none : schema_within 63 (step_of (length_of_step q) events due d.processes) ≡ true → conds_within 61 (conds_of (none_hold events)) ≡ true
  step_none h = both_left _ _ h

  step_clears : schema_within 63 (step_of (length_of_step q) events due d.processes) ≡ true → effects_within 61 (effects_of (clears 1 events)) ≡ true
  step_clears h =
      let all : effects_within 61 (effects_of (flat_map (flows (length_of_step q)) d.processes ++ (clock_effects due ++ clears 1 events))) ≡ true
      = both_right (conds_within 61 (conds_of (none_hold events))) _ h in
      let more : effects_within 61 (effects_of (clock_effects due ++ clears 1 events)) ≡ true
      = both_right (effects_within 61 (effects_of (flat_map (flows (length_of_step q)) d.processes))) _
      (sym (effects_joined 61 (flat_map (flows (length_of_step q)) d.processes) (clock_effects due ++ clears 1 events)) ∙ all) in
      both_right (effects_within 61 (effects_of (clock_effects due))) _ (sym (effects_joined 61 (clock_effects due) (clears 1 events)) ∙ more)

  shared_within :
      list_all (schema_within 63) (frame_of q events due d p).actions ≡ true
      → (list_all (schema_within 63) (map (old_translated (none_hold events) (clears 1 events)) d.actions) ≡ list_all own_within d.actions)
      × (conds_within 61 (conds_of (none_hold events)) ≡ true)
  shared_within h =
      let s : schema_within 63 (step_of (length_of_step q) events due d.processes) ≡ true = both_left _ _ h in
      (olds_own (none_hold events) (clears 1 events) d.actions (step_none s) (step_clears s), step_none s)

  pub spliced_is_within : spliced_within (frame_of q events due d p) d p ≡ pair_within (domain_translated q events due d p) (problem_translated events due p)
  spliced_is_within =
      sym
      (ap (λ b. (b && true) && problem_within 64 (problem_translated events due p))
      (list_all-append (schema_within 63) (map (old_translated (none_hold events) (clears 1 events)) d.actions) (frame_of q events due d p).actions)
      ∙ core (list_all (schema_within 63) (map (old_translated (none_hold events) (clears 1 events)) d.actions)) (list_all own_within d.actions)
      (list_all (schema_within 63) (frame_of q events due d p).actions) (cond_within 61 p.goal) (conds_within 61 (conds_of (none_hold events)))
      (list_all (init_within 62) (init_translated due p.init)) shared_within (inits_shallow (init_translated due p.init)))
