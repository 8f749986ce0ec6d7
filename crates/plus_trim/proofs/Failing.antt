-- On one plan one test is the first that fails, and none on a plan that is valid inside the limits.
use Rattle.std.proofs.Common.{◌≡◌, inl, inr, ℕ, List, [], ◌∷◌, ◌++◌, sym, subst, ◌∙◌, append-nil}
use Rattle.plus_fraction.specs.Fraction.{Fraction}
use Rattle.plus_model.specs.Terms.{Problem}
use Rattle.plus_model.specs.Plan.{Plan}
use Rattle.plus_model.specs.History.{Part}
use Rattle.plus_model.specs.Laws.{Begins}
use Rattle.plus_model.proofs.Paths.{one_path}
use Rattle.plus_model.proofs.Longest.{worked_is_longest}
use Rattle.plus_state.proofs.Testing.{one_test}
use Rattle.plus_stretch.specs.Tests.{Test, Passes, AllPass, FirstFailing, IsLimit}
use Rattle.plus_planner.specs.Grid.{asked_in}
use Rattle.plus_planner.specs.Standing.{FailsAt, IsNoLimit}
use Rattle.plus_trim.specs.Judging.{IsInside, Fails}
use Rattle.plus_trim.specs.Laws.{InsideOrFails, LimitOrBreach}

pub none_inside : (fits : Fraction → Type 0) (P : Problem) (most : ℕ) (L : Plan) (Kind : Test → Type 0) → IsInside fits P most L → Fails fits P most L Kind → ⊥
none_inside fits P most L Kind a b =
    let w = (worked_is_longest P L a.history a.happens.prefix a.happens.worked).longest b.history b.fails.prefix in
    at_rest w.rest w.is
  where
    at_rest : (rest : List Part) → a.history ≡ b.history ++ rest → ⊥
    at_rest [] e = (one_test (Passes fits)).none (asked_in P L most b.history) b.fails.test (subst (λ x. AllPass fits (asked_in P L most x)) (e ∙ append-nil b.history) a.passes) b.fails.first
    at_rest (r ∷ rest) e = (one_test (Passes fits)).none (asked_in P L most b.history) b.fails.test (a.clear b.history r rest b.fails.prefix e) b.fails.first

before_other : (fits : Fraction → Type 0) (P : Problem) (most : ℕ) (L : Plan) (Kind Kind' : Test → Type 0) (h g : List Part) (a : FailsAt fits P L most Kind h) (b : FailsAt fits P L most Kind' g) → Begins h g → a.test ≡ b.test
before_other fits P most L Kind Kind' h g a b c = at_rest c.rest c.is
  where
    at_rest : (rest : List Part) → g ≡ h ++ rest → a.test ≡ b.test
    at_rest [] e =
        (one_test (Passes fits)).one (asked_in P L most h) a.test b.test a.first
        (subst (λ x. FirstFailing fits (asked_in P L most x) b.test) (e ∙ append-nil h) b.first)
    at_rest (r ∷ rest) e = absurd ((one_test (Passes fits)).none (asked_in P L most h) a.test (b.clear h r rest a.prefix e) a.first)

pub inside_or_fails : (fits : Fraction → Type 0) → InsideOrFails fits
inside_or_fails fits P most L a b = none_inside fits P most L (λ t. Unit {0}) a b

one_fails : (fits : Fraction → Type 0) (P : Problem) (most : ℕ) (L : Plan) (Kind Kind' : Test → Type 0) (a : Fails fits P most L Kind) (b : Fails fits P most L Kind') → a.fails.test ≡ b.fails.test
one_fails fits P most L Kind Kind' a b = elim (one_path P L a.history b.history a.fails.prefix b.fails.prefix) [
  | inl c ↦ before_other fits P most L Kind Kind' a.history b.history a.fails b.fails c
  | inr c ↦ sym (before_other fits P most L Kind' Kind b.history a.history b.fails a.fails c)
]

pub limit_or_breach : (fits : Fraction → Type 0) → LimitOrBreach fits
limit_or_breach fits P most L a b = b.fails.kind (subst IsLimit (one_fails fits P most L IsLimit IsNoLimit a b) a.fails.kind)
