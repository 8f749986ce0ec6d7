-- How far the roots of a list of conditions are gathered.
use Rattle.std.proofs.Common.{◌≡◌, ℕ, ◌+◌, suc, false, List, [], ◌∷◌, ◌++◌, refl, ap, sym, subst, ◌∙◌, arith, append_assoc}
use Rattle.std.proofs.lemmas.List.{append-nil}
use Rattle.std.proofs.lemmas.List.Elements.{All-head, All-tail}
use Rattle.std.specs.List.{All}
use Rattle.plus_fraction.specs.Fraction.{Fraction}
use Rattle.plus_model.specs.Terms.{Condition, Event, Process, State, Problem}
use Rattle.plus_state.specs.declared.outcome.Owner.{Owner}
use Rattle.plus_state.proofs.Testing.{pass_none, pass_append, fail_left, fail_right, carry_pass, carry_fail}
use Rattle.plus_crossing.specs.declared.node.CondStop.TheVariants as cond
use Rattle.plus_crossing.specs.declared.listing.RootsStop.{RootsStop}
use Rattle.plus_crossing.specs.declared.listing.RootsStop.TheVariants as stops
use Rattle.plus_crossing.specs.Asked as crossing
use Rattle.plus_crossing.specs.Next.{cross_asks}
use Rattle.plus_crossing.specs.Listed.{live_roots, RootsStops}
use Rattle.plus_stretch.specs.Tests.{Whose, event, process, Test, straight, Passes, AllPass, FirstFailing, whose as owned_by}
use Rattle.plus_stretch.specs.Crossings.{roots_in}
use Rattle.plus_stretch.specs.StretchTests.{owned, root_tests_in, root_tests}
use Rattle.plus_stretch.specs.declared.halt.Halt.{Halt}
use Rattle.plus_stretch.specs.Told.{HaltTold, Never}
use Rattle.plus_stretch.specs.Collected.{of_roots}
use Rattle.plus_stretch.proofs.Layers.{asks_carry}
use Rattle.plus_stretch.proofs.Halts.{halt_left, halt_right}

-- what is gathered, and what is left
pub record Collecting {A : Type 0} (fits : Fraction → Type 0) (Fit : A → Type 0) (whose : ℕ → Whose) (condition : A → Condition) (s : State) (rs : List Fraction) (found start : List Fraction) (k : ℕ) (rest whole : List A) : Type 0 where
  pub inside : All Fit rest
  pub so_far : found ++ roots_in condition rest s rs ≡ start ++ roots_in condition whole s rs
  pub pass : AllPass fits (root_tests_in whose condition k rest s rs) → AllPass fits (root_tests_in whose condition 0 whole s rs)
  pub stop : (m : Test) → FirstFailing fits (root_tests_in whose condition k rest s rs) m → FirstFailing fits (root_tests_in whose condition 0 whole s rs) m

pub collecting_start : {A : Type 0} (fits : Fraction → Type 0) (Fit : A → Type 0) (whose : ℕ → Whose) (condition : A → Condition) (s : State) (rs : List Fraction) (start : List Fraction) (whole : List A) → All Fit whole → Collecting fits Fit whose condition s rs start start 0 whole whole
collecting_start fits Fit whose condition s rs start whole h = record { inside = h; so_far = refl; pass = λ a. a; stop = λ m u. u }

module _ {A : Type 0} (fits : Fraction → Type 0) (Fit : A → Type 0) (whose : ℕ → Whose) (condition : A → Condition) (s : State) (rs : List Fraction) (found start : List Fraction) (k : ℕ) (a : A) (rest whole : List A) (h : Collecting fits Fit whose condition s rs found start k (a ∷ rest) whole) where
  pub collecting_inside : Fit a
  collecting_inside = All-head Fit a rest h.inside

  pub collecting_next : (new : List Fraction) → crossing.AllPass fits (cross_asks 0 (condition a) s rs) → new ≡ found ++ live_roots (condition a) s rs → Collecting fits Fit whose condition s rs new start (k + 1) rest whole
  collecting_next new p e =
      let one : suc k ≡ k + 1 = omega arith in
      let here : AllPass fits (owned (whose k) (cross_asks 0 (condition a) s rs)) = carry_pass (asks_carry fits (whose k)) _ p in
      subst (λ (i : ℕ). Collecting fits Fit whose condition s rs new start i rest whole) one (record {
        inside = All-tail Fit a rest h.inside;
        so_far = ap (λ (xs : List Fraction). xs ++ roots_in condition rest s rs) e ∙ append_assoc found (live_roots (condition a) s rs) (roots_in condition rest s rs) ∙ h.so_far;
        pass = λ r. h.pass (pass_append (Passes fits) _ _ here r);
        stop = λ m u. h.stop m (fail_right (Passes fits) _ _ m here u);
      })

  -- the stop of the condition
  pub collecting_stop : {Q : Type 0} (v : Q → Fraction) (owner : Owner) (stop : RootsStop Q) → whose k ≡ owned_by owner → RootsStops v fits (cross_asks 0 (condition a) s rs) stop → HaltTold v fits (root_tests_in whose condition 0 whole s rs) Never (of_roots owner stop)
  collecting_stop v owner (stops.Condition (cond.Number o)) e u = h.stop _ (fail_left (Passes fits) _ _ _ (carry_fail (asks_carry fits (whose k)) _ _ u))
  collecting_stop v owner (stops.Condition (cond.Nonlinear c)) e u =
      h.stop _ (subst (λ (w : Whose). FirstFailing fits (root_tests_in whose condition k (a ∷ rest) s rs) (straight w c false)) e (fail_left (Passes fits) _ _ _ (carry_fail (asks_carry fits (whose k)) _ _ u)))
  collecting_stop v owner stops.Memory e u = tt

pub collecting_end : {A : Type 0} (fits : Fraction → Type 0) (Fit : A → Type 0) (whose : ℕ → Whose) (condition : A → Condition) (s : State) (rs : List Fraction) (found start : List Fraction) (k : ℕ) (whole : List A) → Collecting fits Fit whose condition s rs found start k [] whole → AllPass fits (root_tests_in whose condition 0 whole s rs) × (found ≡ start ++ roots_in condition whole s rs)
collecting_end fits Fit whose condition s rs found start k whole h = (h.pass (pass_none (Passes fits)), sym (append-nil found) ∙ h.so_far)

-- ---- events, and then processes
module _ (P : Problem) (s : State) (rs : List Fraction) where
  abbrev events_asked : List Test
  events_asked = root_tests_in event (λ (e : Event). e.condition) 0 P.events s rs

  abbrev processes_asked : List Test
  processes_asked = root_tests_in process (λ (p : Process). p.condition) 0 P.processes s rs

  pub roots_pass : (fits : Fraction → Type 0) → AllPass fits events_asked → AllPass fits processes_asked → AllPass fits (root_tests P s rs)
  unfolding root_tests
  roots_pass fits a b = pass_append (Passes fits) _ _ a b

  pub events_halt : {Q : Type 0} (v : Q → Fraction) (fits : Fraction → Type 0) (h : Halt Q) → HaltTold v fits events_asked Never h → HaltTold v fits (root_tests P s rs) Never h
  unfolding root_tests
  events_halt v fits h u = halt_left v fits _ _ Never Never h (λ e t m. m) u

  pub processes_halt : {Q : Type 0} (v : Q → Fraction) (fits : Fraction → Type 0) (h : Halt Q) → AllPass fits events_asked → HaltTold v fits processes_asked Never h → HaltTold v fits (root_tests P s rs) Never h
  unfolding root_tests
  processes_halt v fits h a u = halt_right v fits _ _ Never Never h a (λ e t m. m) u
