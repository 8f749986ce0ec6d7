-- Where a plan text is refused at a line, no plan plays on behind that line with all that is asked passing.
use Rattle.std.proofs.Common.{◌≡◌, ℕ, Bool, false, List, [], ◌∷◌, ◌++◌, refl, ap, subst, ◌∙◌, append_assoc, append-nil}
use Rattle.plus_fraction.specs.Fraction.{Fraction, ◌<ℚ◌}
use Rattle.plus_model.specs.Terms.{Problem}
use Rattle.plus_model.specs.Plan as model
use Rattle.plus_model.specs.Plan.{ActLine, EndLine, time_of, IsInOrder}
use Rattle.plus_model.specs.History.{Part}
use Rattle.plus_model.specs.Trajectory.{HasBegun, Prefix}
use Rattle.plus_model.specs.Laws.{Begins}
use Rattle.plus_model.proofs.Moments.{not_below}
use Rattle.plus_model.proofs.Later.{prefix_goes_on}
use Rattle.plus_model.proofs.Longest.{worked_is_longest}
use Rattle.plus_number.specs.declared.frac.Frac64.{Frac64}
use Rattle.plus_number.specs.Frac.{IsFrac64}
use Rattle.plus_plan.specs.declared.forms.Line.{Line}
use Rattle.plus_plan.specs.declared.forms.Time.{Time}
use Rattle.plus_plan.specs.TimeValue.{value_of}
use Rattle.plus_report.specs.declared.verdicts.Verdict.{Verdict}
use Rattle.plus_report.specs.declared.verdicts.Verdict.TheVariants.{Other}
use Rattle.plus_report.specs.declared.refusals.Early.TheVariants.{Literal}
use Rattle.plus_report.specs.declared.refusals.Text.TheVariants as texts
use Rattle.plus_stretch.specs.Tests.{Test}
use Rattle.plus_validator.specs.Plans.{Pair, line_meant, lines_meant, plan_of, HasTime, HasValue}
use Rattle.plus_timeline.specs.Played.{asked_at}
use Rattle.plus_validator.specs.Asking.{instances_of, NoneFails, Fails, IsClear}
use Rattle.plus_validator.specs.Refused.{AreDone, TimeFault, after_end, no_value, goes_back, number_in}
use Rattle.plus_validator.proofs.Asking.{none_fails}
use Rattle.plus_validator.proofs.CalledTests.{instances_agree}
use Rattle.plus_validator.proofs.Longer.{fails_longer}
use Rattle.plus_validator.proofs.TextStops.{goes_on, lines_meant-more, begun_more}

-- ---- a line out of its place

no_back : (before : List model.Line) (last line : model.Line) (more : List model.Line) → time_of line <ℚ time_of last → IsInOrder ((before ++ last ∷ []) ++ line ∷ more) → ⊥
no_back [] (ActLine t c) line more h o = not_below _ _ h o.0
no_back [] (EndLine t) line more h o = o
no_back (EndLine t ∷ []) last line more h o = o
no_back (EndLine t ∷ y ∷ ys) last line more h o = o
no_back (ActLine t c ∷ []) last line more h o = no_back [] last line more h o.1
no_back (ActLine t c ∷ y ∷ ys) last line more h o = no_back (y ∷ ys) last line more h o.1

pub no_after : (before : List model.Line) (t : Fraction) (line : model.Line) (more : List model.Line) → IsInOrder ((before ++ EndLine t ∷ []) ++ line ∷ more) → ⊥
no_after [] t line more o = o
no_after (EndLine u ∷ []) t line more o = o
no_after (EndLine u ∷ y ∷ ys) t line more o = o
no_after (ActLine u c ∷ []) t line more o = no_after [] t line more o.1
no_after (ActLine u c ∷ y ∷ ys) t line more o = no_after (y ∷ ys) t line more o.1

-- no plan whose lines are in order has such a line there, but for a time that is no value
pub place_excluded : (d : Pair) (P : Problem) (before more : List Line) (line : Line) (h : List Part) (meant : model.Line) (time : Time) (v : Verdict Frac64) → line_meant d line ≡ meant ∷ [] → ((IsFrac64 (value_of time) → ⊥) → v ≡ Other (Literal texts.Plan time.span.start time.span.«end») → ⊥) → TimeFault P (plan_of d before false) h (number_in line) meant time v → IsInOrder (lines_meant d ((before ++ line ∷ []) ++ more)) → ⊥
place_excluded d P before more line h meant time v e a f o =
    let is : lines_meant d ((before ++ line ∷ []) ++ more) ≡ lines_meant d before ++ meant ∷ lines_meant d more =
    lines_meant-more d (before ++ line ∷ []) more
    ∙ ap (λ ls. ls ++ lines_meant d more) (lines_meant-more d before (line ∷ []) ∙ ap (λ ls. lines_meant d before ++ ls) (append-nil (line_meant d line) ∙ e))
    ∙ append_assoc (lines_meant d before) (meant ∷ []) (lines_meant d more) in
    let order : IsInOrder (lines_meant d before ++ meant ∷ lines_meant d more) = subst IsInOrder is o in
    elim f [
      | after_end b x ↦ (let k = b.breach in no_after k.0 k.1 meant (lines_meant d more) (subst (λ (ls : List model.Line). IsInOrder (ls ++ meant ∷ lines_meant d more)) k.2.lines order))
      | no_value b n x ↦ a n x
      | goes_back b n x ↦ (let k = b.breach in no_back k.0 (ActLine k.1 k.2) meant (lines_meant d more) k.4 (subst (λ (ls : List model.Line). IsInOrder (ls ++ meant ∷ lines_meant d more)) k.3.lines order))
    ]

-- no plan whose lines are in order and have values has such a line there
pub time_excluded : (d : Pair) (P : Problem) (before more : List Line) (line : Line) (h : List Part) (meant : model.Line) (time : Time) (v : Verdict Frac64) → line_meant d line ≡ meant ∷ [] → HasTime line time → TimeFault P (plan_of d before false) h (number_in line) meant time v → HasValue line → IsInOrder (lines_meant d ((before ++ line ∷ []) ++ more)) → ⊥
time_excluded d P before more line h meant time v e k f w o = place_excluded d P before more line h meant time v e (λ n x. n (w.fits time k)) f o

-- ---- a test that fails on the way

-- these lines are worked, and all that is asked passes, at the end and before it, for them and for a plan that goes on
pub record PlaysOn (d : Pair) (P : Problem) (most : ℕ) (ls : List Line) : Type 0 where
  pub closed : Bool
  pub front : List Part
  pub prefix : Prefix P (plan_of d ls closed) front
  pub done : AreDone P (plan_of d ls closed) most (instances_of d ls) front
  pub more : List Line
  pub closed' : Bool
  pub ordered : IsInOrder (lines_meant d (ls ++ more))
  pub clear : IsClear P (plan_of d (ls ++ more) closed') most (instances_of d (ls ++ more)) front

module _ (d : Pair) (P : Problem) (most : ℕ) (ls more : List Line) (k : PlaysOn d P most (ls ++ more)) (h : List Part) (t : Test) (p : Prefix P (plan_of d ls false) h) (begun : HasBegun (plan_of d ls false)) (f : Fails P (plan_of d ls false) most (instances_of d ls) h t) where
  on_front : (rest : List Part) → k.front ≡ h ++ rest → ⊥
  on_front [] e =
      let here : k.front ≡ h = e ∙ append-nil h in
      none_fails (asked_at P (plan_of d (ls ++ more) k.closed) most (instances_of d (ls ++ more)) h) t
      (subst (NoneFails P (plan_of d (ls ++ more) k.closed) most (instances_of d (ls ++ more))) here k.done.passed)
      (fails_longer P (plan_of d ls false) (plan_of d (ls ++ more) k.closed) most (instances_of d ls) (instances_of d (ls ++ more)) h t (goes_on d ls more false k.closed) (instances_agree d ls more) refl p f)
  on_front (x ∷ rest) e =
      let all = ls ++ (more ++ k.more) in
      let same : (ls ++ more) ++ k.more ≡ all = append_assoc ls more k.more in
      let clear : IsClear P (plan_of d all k.closed') most (instances_of d all) k.front =
      subst (λ (ks : List Line). IsClear P (plan_of d ks k.closed') most (instances_of d ks) k.front) same k.clear in
      let ordered : IsInOrder (lines_meant d all) = subst (λ (ks : List Line). IsInOrder (lines_meant d ks)) same k.ordered in
      let there : Prefix P (plan_of d all k.closed') h =
      prefix_goes_on P (plan_of d ls false) (plan_of d all k.closed') h p (goes_on d ls (more ++ k.more) false k.closed') ordered (begun_more d ls (more ++ k.more) k.closed' begun) in
      none_fails (asked_at P (plan_of d all k.closed') most (instances_of d all) h) t (clear h x rest there e)
      (fails_longer P (plan_of d ls false) (plan_of d all k.closed') most (instances_of d ls) (instances_of d all) h t (goes_on d ls (more ++ k.more) false k.closed') (instances_agree d ls (more ++ k.more)) refl p f)

  -- so no test fails for these lines
  pub none_between : ⊥
  none_between =
      let there : Prefix P (plan_of d (ls ++ more) k.closed) h =
      prefix_goes_on P (plan_of d ls false) (plan_of d (ls ++ more) k.closed) h p (goes_on d ls more false k.closed) k.prefix.ordered (begun_more d ls more k.closed begun) in
      let b : Begins h k.front = (worked_is_longest P (plan_of d (ls ++ more) k.closed) k.front k.prefix k.done.worked).longest h there in
      on_front b.rest b.is
