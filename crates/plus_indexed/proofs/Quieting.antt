-- What the tests of a moment tell of all events: those that fire aside, each is known not to hold.
use Rattle.std.proofs.Common.{◌≡◌, ℕ, ◌+◌, zero, suc, Bool, List, [], ◌∷◌, refl, ap, sym, subst, ◌∙◌, arith}
use Rattle.std.specs.Prelude.{Some, None, slice_get, if◌then◌else◌}
use Rattle.plus_fraction.specs.Fraction.{Fraction, ◌<ℚ◌}
use Rattle.plus_model.specs.Terms.{Condition, Event, State, Problem}
use Rattle.plus_model.specs.Value.{holds}
use Rattle.plus_model.specs.Firing.{numbers_of, firing, is_in}
use Rattle.plus_model.specs.History.{View}
use Rattle.plus_state.specs.Asked.{NodeFits, AllFit}
use Rattle.plus_state.specs.Tests.{tests_of}
use Rattle.plus_state.specs.Walk.{event_conditions, process_conditions, all_asked}
use Rattle.plus_state.specs.Looked.{OthersPass}
use Rattle.plus_state.proofs.Testing.{pass_left, pass_right, carry_back}
use Rattle.plus_state.proofs.LookingLemmas.{numbers_by}
use Rattle.plus_reads.specs.Quiet.{OthersQuiet}
use Rattle.plus_cascade.specs.Steps.{condition_nodes}
use Rattle.plus_stretch.specs.Tests.{Passes, AllPass}
use Rattle.plus_stretch.proofs.Layers.{nodes_carry}
use Rattle.plus_timeline.specs.Asked.{round_tests, count_tests, closing_tests, advance_tests}
use Rattle.plus_stretch.specs.Tests.{Test}
use Rattle.plus_stretch.specs.StretchTests.{if_empty}
use Rattle.plus_stretch.proofs.HereLemmas.{settle_carry}
use Rattle.plus_stretch.proofs.Rising.{to_below}
use Rattle.plus_settle.specs.Settles as settle
use Rattle.plus_settle.specs.Steps as settle_steps
use Rattle.plus_settle.proofs.StepsLemmas.{nodes_carry as node_steps_carry}
use Rattle.plus_timeline.proofs.Rounds.{at_moment}
use Rattle.plus_settle.proofs.ShortLemmas.{collected}

-- a number is collected where its member passes
pub fires_where : (P : Problem) (s : State) (k : ℕ) (c : Condition) → slice_get (event_conditions P) k ≡ Some c → is_in (firing P s) k ≡ holds c s
unfolding firing
fires_where P s k c g =
    let n : k ≡ 0 + k = omega arith in
    ap (λ (ns : List ℕ). is_in ns k) (sym (numbers_by (λ (e : Event). e.condition) s 0 P.events))
    ∙ ap (is_in (numbers_of (λ (x : Condition). holds x s) 0 (event_conditions P))) n ∙ collected (λ (x : Condition). holds x s) 0 (event_conditions P) k c g

module _ (fits : Fraction → Type 0) where
  pub asked_one : (cs : List Condition) (s : State) (k : ℕ) (c : Condition) → slice_get cs k ≡ Some c → AllFit fits (all_asked cs s) → AllFit fits (tests_of c s)
  asked_one [] s k c e a = cc
  asked_one (d ∷ cs) s zero c e a = let h : d ≡ c = cc in subst (λ (x : Condition). AllFit fits (tests_of x s)) h (pass_left (NodeFits fits) (tests_of d s) (all_asked cs s) a)
  asked_one (d ∷ cs) s (suc k) c e a = asked_one cs s k c e (pass_right (NodeFits fits) (tests_of d s) (all_asked cs s) a)

  asked_fit : (P : Problem) (fired : List ℕ) (s : State) → AllPass fits (round_tests P fired s) → AllFit fits (condition_nodes P.events s)
  unfolding round_tests
  asked_fit P fired s a = carry_back (nodes_carry fits) (condition_nodes P.events s) (pass_left (Passes fits) _ _ a)

  quiet_but_fired : (P : Problem) (s : State) (fired : List ℕ) → AllFit fits (condition_nodes P.events s) → fired ≡ firing P s → OthersQuiet fits (event_conditions P) s fired
  quiet_but_fired P s fired a e = record {
    pass = λ k c g n. asked_one (event_conditions P) s k c g a;
    silent = λ k c g n. sym (fires_where P s k c g) ∙ ap (λ (ns : List ℕ). is_in ns k) (sym e) ∙ n;
  }

  -- at a moment whose tests pass
  pub moment_quiet : (P : Problem) (most entries : ℕ) (u : Fraction) (v : View) (fired : List ℕ) → v.running ≡ None → AllPass fits (advance_tests P most entries u v) → fired ≡ firing P v.state → OthersQuiet fits (event_conditions P) v.state fired
  moment_quiet P most entries u v fired m a e =
      quiet_but_fired P v.state fired (asked_fit P v.fired v.state (pass_left (Passes fits) (round_tests P v.fired v.state) _ (subst (AllPass fits) (at_moment P most entries u v m) a))) e

  pub rest_quiet : (P : Problem) (fired : List ℕ) (s : State) → AllPass fits (round_tests P fired s) → firing P s ≡ [] → OthersQuiet fits (event_conditions P) s []
  rest_quiet P fired s a e = quiet_but_fired P s [] (asked_fit P fired s a) (sym e)

  -- where the entry is closed, what the conditions of all processes ask passes
  unit_empty : (es : List ℕ) (ts : List Test) → es ≡ [] → if_empty es ts ≡ ts
  unit_empty [] ts e = refl
  unit_empty (x ∷ es) ts e = absurd (let h : x ∷ es ≡ [] = e in cc)

  closing_fit : (P : Problem) (most entries : ℕ) (s : State) → AllPass fits (closing_tests P most entries s) → AllFit fits (settle.condition_nodes P.processes s)
  unfolding closing_tests settle.settle_steps
  closing_fit P most entries s a =
      carry_back (node_steps_carry fits) (settle.condition_nodes P.processes s) (pass_left (settle_steps.Passes fits) _ _ (carry_back (settle_carry fits) (settle.settle_steps P s) (pass_right (Passes fits) (count_tests most entries) _ a)))

  pub closing_rests : (P : Problem) (most entries : ℕ) (u : Fraction) (v : View) → v.running ≡ None → firing P v.state ≡ [] → v.time <ℚ u → AllPass fits (advance_tests P most entries u v) → OthersPass fits (process_conditions P) v.state []
  closing_rests P most entries u v m still later a k c g n =
      let b = to_below v.time u later in
      let rest = pass_right (Passes fits) (round_tests P v.fired v.state) _ (subst (AllPass fits) (at_moment P most entries u v m) a) in
      let closing : AllPass fits (closing_tests P most entries v.state) =
      subst (AllPass fits) (unit_empty (firing P v.state) _ still ∙ ap (λ (c : Bool). if c then closing_tests P most entries v.state else []) b) rest in
      asked_one (process_conditions P) v.state k c g (closing_fit P most entries v.state closing)
