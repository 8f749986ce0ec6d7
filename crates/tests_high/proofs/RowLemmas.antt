-- Conditions and effects of a few members fit where their members do.
use Rattle.std.proofs.Common.{◌≡◌, ◌<◌, ◌^◌, List, [], ◌∷◌, ◌++◌, ap, subst, sym, ◌∙◌, refl, arith}
use Rattle.std.specs.Prelude.{map, Vec}
use Rattle.std.specs.declared.alloc.Global.{Global}
use Rattle.plus_fraction.specs.Fraction.{Fraction}
use Rattle.plus_state.specs.declared.term.Cond.{Cond, All}
use Rattle.plus_state.specs.declared.term.Effect.{Effect}
use Rattle.plus_state.specs.View.{condition_of, effect_of, write_of}
use Rattle.plus_state.specs.Fits.{Fits, AllEffectsFit, WriteFits, comparisons}
use Rattle.plus_state.proofs.TestsLemmas.{all_view}

pub two_items : {A : Type 0} (none one two : List A) (x y : A) → none ≡ [] → one ≡ none ++ x ∷ [] → two ≡ one ++ y ∷ [] → two ≡ x ∷ y ∷ []
two_items none one two x y e f g = g ∙ ap (λ xs. xs ++ y ∷ []) (f ∙ ap (λ xs. xs ++ x ∷ []) e)

module _ {Q : Type 0} (v : Q → Fraction) (members : Vec (Cond Q) Global) where
  pub both_fit : (c d : Cond Q) → members.items ≡ c ∷ d ∷ [] → Fits 1 1 (condition_of v c) → Fits 1 1 (condition_of v d) → Fits 1 1 (condition_of v (All members))
  both_fit c d e f g = subst (Fits 1 1) (all_view v (All members) members (c ∷ d ∷ []) refl (sym e)) (f, (g, tt))

  pub both_few : (c d : Cond Q) → members.items ≡ c ∷ d ∷ [] → comparisons (condition_of v c) < 2 → comparisons (condition_of v d) < 2 → comparisons (condition_of v (All members)) < 2 ^ 32
  both_few c d e f g = subst (λ k. comparisons k < 2 ^ 32) (all_view v (All members) members (c ∷ d ∷ []) refl (sym e)) (omega arith)

  none_fits : members.items ≡ [] → Fits 1 1 (condition_of v (All members))
  none_fits e = subst (Fits 1 1) (all_view v (All members) members [] refl (sym e)) tt

  pub one_effect_fits :
      (effect : Effect Q) (effects : List (Effect Q)) → effect.guard ≡ All members → members.items ≡ [] → WriteFits 1 1 (write_of v effect.write)
      → effects ≡ effect ∷ [] → AllEffectsFit 1 1 (map (effect_of v) effects)
  one_effect_fits effect effects g e w k =
      subst (λ es. AllEffectsFit 1 1 (map (effect_of v) es)) (sym k) ((subst (λ c. Fits 1 1 (condition_of v c)) (sym g) (none_fits e), w), tt)
