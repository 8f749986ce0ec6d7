-- What the rows share: roots of a fluent that falls, and which processes show that a set does not confirm itself.
use Rattle.std.proofs.Common.{◌≡◌, ℕ, true, false, Bool, List, [], ◌∷◌, refl, ap, sym, subst, ◌∙◌, pos, negsuc}
use Rattle.plus_fraction.specs.Fraction.{Fraction, whole, ◌+ℚ◌, ◌-ℚ◌, ◌*ℚ◌, ◌<ℚ◌}
use Rattle.plus_fraction.proofs.FractionOrder.{<ℚ_irrefl}
use Rattle.plus_fraction.proofs.Ring.{var, num, ◌⊕◌, ◌⊖◌, ◌⊗◌}
use Rattle.plus_fraction.proofs.FractionRing.{ringℚ}
use Rattle.plus_model.specs.Terms.{State, Problem}
use Rattle.plus_model.specs.Firing.{is_in}
use Rattle.plus_model.specs.Breach.{Differs}
use Rattle.plus_model.proofs.Decide.{running_after}
use Rattle.rows.proofs.ModelLemmas.Runs.{StraightProcesses, goes}

abbrev pub down : Fraction
down = whole (negsuc 0)

-- x falls by 1 from v: it comes to w after v - w
root_is : (v w r : Fraction) → v +ℚ down *ℚ r ≡ w +ℚ whole (pos 0) *ℚ r → r ≡ v -ℚ w
root_is v w r h =
    ringℚ (v ∷ r ∷ []) (var 1) (var 0 ⊖ (var 0 ⊕ num (negsuc 0) ⊗ var 1)) refl
    ∙ ap (λ z. v -ℚ z) h
    ∙ ringℚ (v ∷ w ∷ r ∷ []) (var 0 ⊖ (var 1 ⊕ num (pos 0) ⊗ var 2)) (var 0 ⊖ var 1) refl

-- and not before, and not after
pub falls_not_before : (v w r b : Fraction) → b ≡ v -ℚ w → r <ℚ b → v +ℚ down *ℚ r ≡ w +ℚ whole (pos 0) *ℚ r → ⊥
falls_not_before v w r b e l h = <ℚ_irrefl b (subst (λ z. z <ℚ b) (root_is v w r h ∙ sym e) l)

pub falls_not_after : (v w r a : Fraction) → a ≡ v -ℚ w → a <ℚ r → v +ℚ down *ℚ r ≡ w +ℚ whole (pos 0) *ℚ r → ⊥
falls_not_after v w r a e l h = <ℚ_irrefl a (subst (λ z. a <ℚ z) (root_is v w r h ∙ sym e) l)

same_truth : (a b : Bool) → (a ≡ true → b ≡ true) → (b ≡ true → a ≡ true) → a ≡ b
same_truth true b f g = sym (f refl)
same_truth false true f g = g refl
same_truth false false f g = refl

-- membership is not what the test of values and slopes finds, or it is
pub differs : (P : Problem) (s : State) (R : List ℕ) (rs : List Fraction) (p : ℕ) → StraightProcesses P.processes s rs → (is_in R p ≡ is_in (running_after P s rs) p → ⊥) → Differs P s R rs p
differs P s R rs p h d e =
    let m = (goes P s rs (running_after P s rs) h refl).members p in
    d (same_truth _ _ (λ i. m.1 (e.0 i)) (λ i. e.1 (m.0 i)))

pub agrees : (P : Problem) (s : State) (R : List ℕ) (rs : List Fraction) (p : ℕ) → StraightProcesses P.processes s rs → is_in R p ≡ is_in (running_after P s rs) p → Differs P s R rs p → ⊥
agrees P s R rs p h e d =
    let m = (goes P s rs (running_after P s rs) h refl).members p in
    d (λ i. m.0 (sym e ∙ i), λ r. e ∙ m.1 r)
