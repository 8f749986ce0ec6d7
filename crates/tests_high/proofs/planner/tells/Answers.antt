use Rattle.std.proofs.Common.{◌≡◌, ◌<◌, ◌^◌, ℕ, zero, suc, List, [], ◌∷◌, All, length, map, refl, sym, subst, arith}
use Rattle.std.specs.Prelude.{Some, slice_get, pos}
use Rattle.plus_fraction.specs.Fraction.{Fraction, whole, ◌<ℚ◌}
use Rattle.plus_fraction.proofs.JustAfter.{one_above}
use Rattle.plus_model.specs.Terms.{Action}
use Rattle.plus_state.specs.Fits.{ActionFits}
use Rattle.tests_high.proofs.planner.tells.Goals as goal

at_all : {A B : Type 0} (f : A → B) (P : B → Type 0) (xs : List A) (k : ℕ) (b : B) → All (λ a. P (f a)) xs → slice_get (map f xs) k ≡ Some b → P b
at_all f P [] k b h e = absurd (cc e)
at_all f P (x ∷ xs) zero b h e = (let same : f x ≡ b = cc e in subst P same (h 0 x (omega arith)))
at_all f P (x ∷ xs) (suc k) b h e = at_all f P xs k b (λ i d l. h (suc i) d (omega arith)) e

fit_in : (atoms fluents : ℕ) (a : Action) → atoms ≡ 1 → fluents ≡ 1 → ActionFits 1 1 a → ActionFits atoms fluents a
fit_in atoms fluents a e f h = subst (λ n. ActionFits n fluents a) (sym e) (subst (λ n. ActionFits 1 n a) (sym f) h)

two_few : {A B : Type 0} (f : A → B) (xs : List A) → length xs ≡ 2 → suc (length (map f xs)) < 2 ^ 32
two_few f [] e = absurd (omega arith)
two_few f (x ∷ []) e = absurd (omega arith)
two_few f (x ∷ y ∷ []) e = omega arith
two_few f (x ∷ y ∷ z ∷ xs) e = absurd (omega arith)

pub new-planner-requires : goal.new-planner-requires
new-planner-requires g c = record {
  can = record {
    above = subst (λ (q : Fraction). whole (pos 0) <ℚ q) (sym c.one.ensures) one_above;
    fit = λ k a e. fit_in (length c.problem.result.atoms.items) (length c.problem.result.fluents.items) a c.problem.ensures.atoms c.problem.ensures.fluents
        (at_all _ (ActionFits 1 1) c.actions.result.items k a c.actions.ensures.fit e);
    few = two_few _ c.actions.result.items c.actions.ensures.few;
    some = refl;
  };
}
