-- The ids of each refusal are those of the problem.
use Rattle.std.proofs.Common.{◌≡◌, ◌≢◌, ℕ, ◌<◌, Bool, true, false, List, sym, subst, inl, inr}
use Rattle.std.specs.Prelude.{Result, Ok, Err, IsErrAnd, IfErr}
use Rattle.plus_fraction.specs.Fraction.{Fraction, ◌-ℚ◌}
use Rattle.plus_model.specs.Terms.{Action, State, Problem}
use Rattle.plus_model.specs.Value.{holds}
use Rattle.plus_model.specs.Joint as joint
use Rattle.plus_model.specs.Joint.{Fault}
use Rattle.plus_model.specs.Firing.{firing}
use Rattle.plus_model.specs.Running.{moved, holding}
use Rattle.plus_model.specs.History.{View}
use Rattle.plus_model.specs.Breach.{RatesFail}
use Rattle.plus_number.specs.declared.frac.Frac64.{Frac64}
use Rattle.plus_number.specs.Frac.{fraction_of, IsFrac64}
use Rattle.plus_state.specs.Fits.{AllEffectsFit, ProblemFits}
use Rattle.plus_state.specs.declared.outcome.Breach.{Breach}
use Rattle.plus_state.specs.declared.outcome.Breach.TheVariants as breaches
use Rattle.plus_state.specs.declared.outcome.Limit.{Limit}
use Rattle.plus_state.specs.declared.outcome.Limit.TheVariants as limits
use Rattle.plus_state.specs.declared.outcome.Owner.TheVariants as owners
use Rattle.plus_timeline.specs.Timeline.{TimelineView}
use Rattle.plus_timeline.specs.Advance.{Advances, RoundFails, BreaksOff, AdvanceTold}
use Rattle.plus_timeline.specs.Act.{DoesAct, BreaksAct, ActTold}
use Rattle.plus_timeline.specs.Finish.{BreaksFinish, FinishTold}
use Rattle.plus_timeline.specs.Told.{Told}
use Rattle.plus_timeline.specs.Stops.{IsGoing}
use Rattle.plus_timeline.specs.Asked.{act_tests, goal_tests, advance_tests}
use Rattle.plus_stretch.specs.Tests.{Test, of_limit}
use Rattle.plus_model.specs.Trajectory.{least}
use Rattle.plus_validator.proofs.Numbers.{set_below, repeats_below, after_below, round_fits, differs_below, coupled_below, rates_below}
use Rattle.plus_validator.proofs.Owned.{IsOwned, act_owned, goal_owned, advance_owned}
use Rattle.plus_timeline.specs.declared.stop.Stop.{Stop}
use Rattle.plus_timeline.specs.declared.stop.Stop.TheVariants as stops
use Rattle.plus_report.specs.Verdicts.{LimitFits, BreachFits}
use Rattle.plus_validator.specs.declared.halt.Halt.{Halt}
use Rattle.plus_validator.specs.Halts.{stop_halt, NamesOf, HaltFits}
use Rattle.plus_instances.proofs.Faults.{conflict_in, no_value_in}

by_stop : (P : Problem) (stop : Stop Frac64) (halt : Halt) → halt ≡ stop_halt stop → NamesOf P (stop_halt stop) → HaltFits P halt
by_stop P stop halt e f = record { names = subst (NamesOf P) (sym e) f }

-- the owner that a limit names is one of the problem
limit_fits : (P : Problem) (l : Limit Frac64) → IsOwned P (of_limit fraction_of l) → LimitFits P l
limit_fits P (limits.Happenings n) f = tt
limit_fits P (limits.Number w) f = tt
limit_fits P (limits.Nonlinear (owners.Event e) k) f = f
limit_fits P (limits.Nonlinear (owners.Process p) k) f = f

-- a timeline that is going does not answer that it has ended
not_ended : {Q A : Type 0} (value : Q → Fraction) (fits : Fraction → Type 0) (acted : ℕ) (ended : Bool) (tests : List Test) (Does : A → Type 0) (Means : Breach Q → Type 0) (stop : Stop Q) → ended ≡ false → Told value fits acted ended tests Does Means (Err stop) → stop ≢ stops.Ended
not_ended value fits acted ended tests Does Means (stops.Breach b) g t e = cc e
not_ended value fits acted ended tests Does Means (stops.Limit l) g t e = cc e
not_ended value fits acted ended tests Does Means stops.Ended g t e = cc (g, t)
not_ended value fits acted ended tests Does Means stops.Memory g t e = cc e

pub advance_goes_on : (P : Problem) (u : Fraction) (old new : TimelineView) (stop : Stop Frac64) → IsGoing old → AdvanceTold fraction_of IsFrac64 P u old new (Err stop) → stop ≢ stops.Ended
advance_goes_on P u old new stop g t =
    not_ended fraction_of IsFrac64 old.now.acted old.ended (advance_tests P old.most old.entries (least old.now.time u P.timed) old.now) (Advances fraction_of P u old new) (BreaksOff fraction_of P (least old.now.time u P.timed) old.now) stop g t

pub act_goes_on : (P : Problem) (action : Action) (line : ℕ) (old new : TimelineView) (stop : Stop Frac64) → IsGoing old → ActTold {A = Unit {0}} fraction_of IsFrac64 P action line old new (Err stop) → stop ≢ stops.Ended
act_goes_on P action line old new stop g t =
    not_ended {A = Unit {0}} fraction_of IsFrac64 old.now.acted old.ended (act_tests old.now.acted action old.now.state) (λ _. DoesAct P action old new) (BreaksAct action line old.now.state) stop g t

pub finish_goes_on : (P : Problem) (v : TimelineView) (stop : Stop Frac64) → IsGoing v → FinishTold {A = Unit {0}} fraction_of IsFrac64 P v (Err stop) → stop ≢ stops.Ended
finish_goes_on P v stop g t =
    not_ended {A = Unit {0}} fraction_of IsFrac64 v.now.acted v.ended (goal_tests P v.now.state) (λ _. holds P.goal v.now.state ≡ true) (BreaksFinish P v.now.state) stop g t

-- ---- a refusal of `advance`

round_fault : (P : Problem) (v : View) (why : Fault) → ProblemFits P → (r : RoundFails P v why) → AllEffectsFit P.atoms P.fluents r.effects
round_fault P v why f r = subst (AllEffectsFit P.atoms P.fluents) (sym r.due.effects_is) (round_fits P (firing P v.state) f)

rates_fault : (P : Problem) (u : Fraction) (v : View) (f : ℕ) → ProblemFits P → RatesFail P u v f → f < P.fluents
rates_fault P u v f k r = elim r.fail [
  | inl e ↦ rates_below P v.state (holding P v.state) f k e
  | inr c ↦ rates_below P v.state c.0 f k c.2
]

advance_breach : (P : Problem) (u : Fraction) (v : View) (b : Breach Frac64) → ProblemFits P → BreaksOff fraction_of P u v b → BreachFits P b
advance_breach P u v (breaches.UnknownAction line name) f r = tt
advance_breach P u v (breaches.WrongArguments line name) f r = tt
advance_breach P u v (breaches.Precondition line label) f r = tt
advance_breach P u v (breaches.TimeGoesBack line) f r = tt
advance_breach P u v (breaches.AfterEnd line) f r = tt
advance_breach P u v (breaches.Conflict g) f r = conflict_in r.effects v.state P.atoms P.fluents g.0 (round_fault P v (joint.Conflict g.0) f r) r.fails
advance_breach P u v (breaches.NoValue g) f r = elim r [
  | inl k ↦ no_value_in k.effects v.state P.atoms P.fluents g.0 (round_fault P v (joint.NoValue g.0) f k) k.fails
  | inr k ↦ rates_fault P u v g.0 f k
]
advance_breach P u v (breaches.Repeats e) f r = repeats_below P v.state v.fired e.0 r.1
advance_breach P u v (breaches.Unsettled p) f r = differs_below P v.state r.own r.running p.0 (set_below P v.state r.chosen.first r.running r.chosen.chosen) r.first.has
advance_breach P u v (breaches.Coupled p g) f r = coupled_below P r.running r.own p.0 g.0 f (set_below P v.state r.own r.running r.settled.confirmed) r.first
advance_breach P u v (breaches.NoFirstMoment e t) f r = after_below P (moved v.state r.rate (fraction_of t -ℚ v.time)) r.rate e.0 r.first.has
advance_breach P u v breaches.Goal f r = tt

pub advance_halts : (P : Problem) (u : Fraction) (old new : TimelineView) (stop : Stop Frac64) (halt : Halt) → ProblemFits P → halt ≡ stop_halt stop → AdvanceTold fraction_of IsFrac64 P u old new (Err stop) → HaltFits P halt
advance_halts P u old new (stops.Breach b) halt s e f = by_stop P (stops.Breach b) halt e (advance_breach P (least old.now.time u P.timed) old.now b s f.means)
advance_halts P u old new (stops.Limit l) halt s e f = by_stop P (stops.Limit l) halt e (limit_fits P l (advance_owned P old.most old.entries (least old.now.time u P.timed) old.now (of_limit fraction_of l) f.first))
advance_halts P u old new stops.Ended halt s e f = by_stop P stops.Ended halt e tt
advance_halts P u old new stops.Memory halt s e f = by_stop P stops.Memory halt e tt

-- ---- of `act` and of `finish`

act_breach : (P : Problem) (action : Action) (line : ℕ) (s : State) (b : Breach Frac64) (n : ℕ) → AllEffectsFit n P.fluents action.effects → BreaksAct action line s b → BreachFits P b
act_breach P action line s (breaches.Precondition m label) n f r = tt
act_breach P action line s (breaches.Conflict g) n f r = conflict_in action.effects s n P.fluents g.0 f r.fails
act_breach P action line s (breaches.NoValue g) n f r = no_value_in action.effects s n P.fluents g.0 f r.fails
act_breach P action line s (breaches.UnknownAction m name) n f r = tt
act_breach P action line s (breaches.WrongArguments m name) n f r = tt
act_breach P action line s (breaches.TimeGoesBack m) n f r = tt
act_breach P action line s (breaches.AfterEnd m) n f r = tt
act_breach P action line s (breaches.Repeats x) n f r = absurd r
act_breach P action line s (breaches.Unsettled x) n f r = absurd r
act_breach P action line s (breaches.Coupled x y) n f r = absurd r
act_breach P action line s (breaches.NoFirstMoment x t) n f r = absurd r
act_breach P action line s breaches.Goal n f r = tt

pub act_halts : (P : Problem) (action : Action) (line : ℕ) (old new : TimelineView) (stop : Stop Frac64) (halt : Halt) (n : ℕ) → AllEffectsFit n P.fluents action.effects → halt ≡ stop_halt stop → ActTold {A = Unit {0}} fraction_of IsFrac64 P action line old new (Err stop) → HaltFits P halt
act_halts P action line old new (stops.Breach b) halt n f e t = by_stop P (stops.Breach b) halt e (act_breach P action line old.now.state b n f t.means)
act_halts P action line old new (stops.Limit l) halt n f e t = by_stop P (stops.Limit l) halt e (limit_fits P l (act_owned P old.now.acted action old.now.state (of_limit fraction_of l) t.first))
act_halts P action line old new stops.Ended halt n f e t = by_stop P stops.Ended halt e tt
act_halts P action line old new stops.Memory halt n f e t = by_stop P stops.Memory halt e tt

finish_breach : (P : Problem) (s : State) (b : Breach Frac64) → BreaksFinish P s b → BreachFits P b
finish_breach P s breaches.Goal r = tt
finish_breach P s (breaches.Precondition m label) r = tt
finish_breach P s (breaches.Conflict g) r = absurd r
finish_breach P s (breaches.NoValue g) r = absurd r
finish_breach P s (breaches.UnknownAction m name) r = tt
finish_breach P s (breaches.WrongArguments m name) r = tt
finish_breach P s (breaches.TimeGoesBack m) r = tt
finish_breach P s (breaches.AfterEnd m) r = tt
finish_breach P s (breaches.Repeats x) r = absurd r
finish_breach P s (breaches.Unsettled x) r = absurd r
finish_breach P s (breaches.Coupled x y) r = absurd r
finish_breach P s (breaches.NoFirstMoment x t) r = absurd r

pub finish_halts : (P : Problem) (v : TimelineView) (stop : Stop Frac64) (halt : Halt) → halt ≡ stop_halt stop → FinishTold {A = Unit {0}} fraction_of IsFrac64 P v (Err stop) → HaltFits P halt
finish_halts P v (stops.Breach b) halt e f = by_stop P (stops.Breach b) halt e (finish_breach P v.now.state b f.means)
finish_halts P v (stops.Limit l) halt e f = by_stop P (stops.Limit l) halt e (limit_fits P l (goal_owned P v.now.state (of_limit fraction_of l) f.first))
finish_halts P v stops.Ended halt e f = by_stop P stops.Ended halt e tt
finish_halts P v stops.Memory halt e f = by_stop P stops.Memory halt e tt

-- the error that `?` hands on
pub from_err : {T E : Type 0} (r : Result T E) (G Q : E → Type 0) → IsErrAnd r G → ((e : E) → G e → Q e) → IfErr r Q
from_err (Ok x) G Q h f = tt
from_err (Err e) G Q h f = f e h
