-- Between two neighbouring roots no condition changes its truth.
use Rattle.std.proofs.Common.{◌≡◌, ℕ, zero, suc, List, [], ◌∷◌, subst}
use Rattle.std.specs.Prelude.{Some, None, slice_get}
use Rattle.plus_fraction.specs.Fraction.{Fraction, ◌<ℚ◌}
use Rattle.plus_model.specs.Terms.{Condition, Event, Process, State, Problem}
use Rattle.plus_crossing.specs.Asked as crossing
use Rattle.plus_crossing.specs.Next.{cross_asks, LiveRoot, IsNext}
use Rattle.plus_crossing.proofs.Steady.{one_truth_until_next}
use Rattle.plus_stretch.specs.Tests.{Whose, event, process, Passes, AllPass}
use Rattle.plus_stretch.specs.StretchTests.{owned, root_tests_in, root_tests}
use Rattle.plus_stretch.specs.Laws.{NothingChangesBetween}
use Rattle.plus_state.proofs.Testing.{pass_left, pass_right, carry_back}
use Rattle.plus_stretch.proofs.Layers.{asks_carry}
use Rattle.plus_stretch.proofs.Roots.{event_listed, process_listed}

list_pass : {A : Type 0} (fits : Fraction → Type 0) (whose : ℕ → Whose) (condition : A → Condition) (j : ℕ) (xs : List A) (s : State) (rs : List Fraction) (k : ℕ) (a : A) → slice_get xs k ≡ Some a → AllPass fits (root_tests_in whose condition j xs s rs) → crossing.AllPass fits (cross_asks 0 (condition a) s rs)
list_pass fits whose condition j [] s rs k a g h = cc
list_pass fits whose condition j (d ∷ xs) s rs zero a g h =
    subst (λ c. crossing.AllPass fits (cross_asks 0 (condition c) s rs)) (let q : d ≡ a = cc in q) (carry_back (asks_carry fits (whose j)) (cross_asks 0 (condition d) s rs) (pass_left (Passes fits) _ _ h))
list_pass fits whose condition j (d ∷ xs) s rs (suc k) a g h = list_pass fits whose condition (suc j) xs s rs k a g (pass_right (Passes fits) (owned (whose j) (cross_asks 0 (condition d) s rs)) _ h)

module _ (fits : Fraction → Type 0) (P : Problem) (s : State) (rs : List Fraction) where
  pub event_pass : (k : ℕ) (e : Event) → slice_get P.events k ≡ Some e → AllPass fits (root_tests P s rs) → crossing.AllPass fits (cross_asks 0 e.condition s rs)
  unfolding root_tests
  event_pass k e g h = list_pass fits event (λ (e : Event). e.condition) 0 P.events s rs k e g (pass_left (Passes fits) (root_tests_in event (λ (e : Event). e.condition) 0 P.events s rs) _ h)

  pub process_pass : (k : ℕ) (p : Process) → slice_get P.processes k ≡ Some p → AllPass fits (root_tests P s rs) → crossing.AllPass fits (cross_asks 0 p.condition s rs)
  unfolding root_tests
  process_pass k p g h = list_pass fits process (λ (p : Process). p.condition) 0 P.processes s rs k p g (pass_right (Passes fits) (root_tests_in event (λ (e : Event). e.condition) 0 P.events s rs) _ h)

pub none_next : (Q : Fraction → Type 0) (a b : Fraction) → ((x : Fraction) → a <ℚ x → x <ℚ b → Q x → ⊥) → IsNext Q a b None
unfolding IsNext
none_next Q a b f = f

pub nothing_changes_between : (fits : Fraction → Type 0) → NothingChangesBetween fits
nothing_changes_between fits P s rs a b low pass none = (
  λ k e g x y ax xb ay yb. one_truth_until_next fits e.condition s rs a b None low (event_pass fits P s rs k e g pass)
      (none_next (LiveRoot e.condition s rs) a b (λ z i j r. none z i j (event_listed P s rs k e z g r))) x y ax xb ay yb,
  λ k p g x y ax xb ay yb. one_truth_until_next fits p.condition s rs a b None low (process_pass fits P s rs k p g pass)
      (none_next (LiveRoot p.condition s rs) a b (λ z i j r. none z i j (process_listed P s rs k p z g r))) x y ax xb ay yb,
)
