-- The woven text is the canonical text.
use Rattle.std.specs.Prelude.{codes, map}
use Rattle.std.specs.List.{flat_map}
use Rattle.std.proofs.Common.{◌≡◌, ℕ, List, [], ◌∷◌, ◌++◌, ◌∙◌, ap, sym, refl, append_assoc}
use Rattle.plus_fraction.specs.Fraction.{Fraction}
use Rattle.plus_tree.specs.declared.trees.Schema.{Schema}
use Rattle.plus_tree.specs.declared.trees.Domain.{Domain}
use Rattle.plus_tree.specs.declared.trees.Problem.{Problem}
use Rattle.plus_tree.specs.Cond.{Cond, conds_of}
use Rattle.plus_tree.specs.Effect.{Effect, effects_of}
use Rattle.plus_printer.specs.Words.{word, domain_opening, precondition_key, variables_text}
use Rattle.plus_printer.specs.Canon.{cond_text, conds_text, effect_text, effects_text, keys_text, schema_text, schemas_text, heads_text, declared_text, happening_text, domain_text}
use Rattle.plus_translation.specs.Translated.{Due, none_hold, clears, old_translated, domain_translated}
use Rattle.plus_translate_command.specs.Printer.Woven.{opening_text, heading_text, condition_part, effect_part, own_parts, woven_old, woven}
use Rattle.plus_translate_command.specs.Printer.Frame.{frame_of}

-- ---- old actions

closing : codes "))\n" ≡ word (codes ")") ++ word (codes ")\n")
unfolding word
closing = refl

regroup :
    (a n p v k w s c none r e f clear l z : List ℕ) → z ≡ r ++ l
    → ((((a ++ (n ++ (p ++ v))) ++ (k ++ (w ++ (s ++ c)))) ++ none) ++ ((r ++ (e ++ (w ++ (s ++ f)))) ++ clear)) ++ z
    ≡ a ++ (n ++ (p ++ ((v ++ (k ++ ((w ++ (((s ++ c) ++ none) ++ r)) ++ (e ++ (w ++ (((s ++ f) ++ clear) ++ r)))))) ++ l)))
regroup a n p v k w s c none r e f clear l z i =
    ap (λ y. ((((a ++ (n ++ (p ++ v))) ++ (k ++ (w ++ (s ++ c)))) ++ none) ++ ((r ++ (e ++ (w ++ (s ++ f)))) ++ clear)) ++ y) i ∙ simp append_assoc

old_is : (none : List Cond) (clear : List Effect) (a : Schema)
    → woven_old (conds_text (conds_of none)) (effects_text (effects_of clear)) (own_parts a) ≡ schema_text (codes " (:action ") (old_translated none clear a)
unfolding heading_text condition_part effect_part schema_text keys_text
old_is none clear a =
    regroup (word (codes " (:action ")) a.name.name (word (codes " :parameters ")) (variables_text a.params) precondition_key (word (codes "(and")) (word (codes " "))
    (cond_text a.condition) (conds_text (conds_of none)) (word (codes ")")) (word (codes " :effect ")) (effect_text a.effect) (effects_text (effects_of clear))
    (word (codes ")\n")) (codes "))\n") closing

olds_are : (none : List Cond) (clear : List Effect) (xs : List Schema)
    → flat_map (woven_old (conds_text (conds_of none)) (effects_text (effects_of clear))) (map own_parts xs) ≡ schemas_text (codes " (:action ") (map (old_translated none clear) xs)
olds_are none clear [] = refl
olds_are none clear (x ∷ xs) =
    ap (λ t. t ++ flat_map (woven_old (conds_text (conds_of none)) (effects_text (effects_of clear))) (map own_parts xs)) (old_is none clear x)
    ∙ ap (λ t. schema_text (codes " (:action ") (old_translated none clear x) ++ t) (olds_are none clear xs)

schemas_joined : (first : List ℕ) (xs ys : List Schema) → schemas_text first (xs ++ ys) ≡ schemas_text first xs ++ schemas_text first ys
schemas_joined first [] ys = refl
schemas_joined first (x ∷ xs) ys = ap (λ t. schema_text first x ++ t) (schemas_joined first xs ys) ∙ sym (append_assoc (schema_text first x) (schemas_text first xs) (schemas_text first ys))

-- ---- the domain

opened : (a b c d x y : List ℕ) → ((a ++ (b ++ (c ++ d))) ++ x) ++ y ≡ a ++ (b ++ (c ++ (d ++ (x ++ y))))
opened a b c d x y = simp append_assoc

module _ (q : Fraction) (events : List Schema) (due : List Due) (d : Domain) (p : Problem) where
  declared_is : declared_text (frame_of q events due d p) ≡ declared_text (domain_translated q events due d p)
  unfolding declared_text heads_text
  declared_is = refl

  acting_is : flat_map (woven_old (conds_text (conds_of (none_hold events))) (effects_text (effects_of (clears 1 events)))) (map own_parts d.actions) ++ happening_text (frame_of q events due d p)
      ≡ happening_text (domain_translated q events due d p)
  unfolding happening_text
  acting_is =
      ap (λ t. t ++ happening_text (frame_of q events due d p)) (olds_are (none_hold events) (clears 1 events) d.actions)
      ∙ sym (append_assoc (schemas_text (codes " (:action ") (map (old_translated (none_hold events) (clears 1 events)) d.actions)) (schemas_text (codes " (:action ") (frame_of q events due d p).actions) (word (codes ")\n")))
      ∙ ap (λ t. t ++ word (codes ")\n"))
      (sym (schemas_joined (codes " (:action ") (map (old_translated (none_hold events) (clears 1 events)) d.actions) (frame_of q events due d p).actions))

  pub woven_is : woven (opening_text (frame_of q events due d p)) (conds_text (conds_of (none_hold events))) (effects_text (effects_of (clears 1 events))) (map own_parts d.actions) (happening_text (frame_of q events due d p))
      ≡ domain_text (domain_translated q events due d p)
  unfolding opening_text domain_text
  woven_is =
      opened domain_opening d.name.name (word (codes ")\n")) (declared_text (frame_of q events due d p))
      (flat_map (woven_old (conds_text (conds_of (none_hold events))) (effects_text (effects_of (clears 1 events)))) (map own_parts d.actions)) (happening_text (frame_of q events due d p))
      ∙ ap (λ t. domain_opening ++ (d.name.name ++ (word (codes ")\n") ++ (t ++ (flat_map (woven_old (conds_text (conds_of (none_hold events))) (effects_text (effects_of (clears 1 events)))) (map own_parts d.actions) ++ happening_text (frame_of q events due d p)))))) declared_is
      ∙ ap (λ t. domain_opening ++ (d.name.name ++ (word (codes ")\n") ++ (declared_text (domain_translated q events due d p) ++ t)))) acting_is
