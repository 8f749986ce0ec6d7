-- A line that cannot be played after those that are worked.
use Rattle.std.proofs.Common.{◌≡◌, ℕ, ◌<◌, true, false, List, [], ◌∷◌, ◌++◌, refl, sym, subst, ◌∙◌, inl, inr, arith, pos}
use Rattle.std.proofs.lemmas.Int.{ints}
use Rattle.plus_fraction.specs.Fraction.{Fraction, whole, over, ◌<ℚ◌, ◌≤ℚ◌}
use Rattle.plus_fraction.proofs.FractionLaws.{Is-over}
use Rattle.plus_fraction.proofs.FractionOrder.{le_by}
use Rattle.plus_model.specs.Terms.{Problem}
use Rattle.plus_model.specs.Plan as model
use Rattle.plus_model.specs.Plan.{ActLine, EndLine, Plan}
use Rattle.plus_model.specs.History.{Part}
use Rattle.plus_model.specs.Trajectory.{IsWorked, is_below, view_of}
use Rattle.plus_model.specs.Breach.{BreaksBy, TimeGoesBack, AfterEnd}
use Rattle.plus_model.proofs.Moments.{not_below, from_below}
use Rattle.plus_number.specs.declared.frac.Frac64.{Frac64}
use Rattle.plus_number.specs.Frac.{fraction_of, IsFrac64}
use Rattle.plus_state.specs.declared.outcome.Breach.TheVariants as breaches
use Rattle.plus_plan.specs.declared.forms.Time.{Time}
use Rattle.plus_plan.specs.TimeValue.{value_of}
use Rattle.plus_report.specs.declared.verdicts.Verdict.TheVariants.{Invalid, Other}
use Rattle.plus_report.specs.declared.refusals.Early.TheVariants.{Literal}
use Rattle.plus_report.specs.declared.refusals.Text.TheVariants as texts
use Rattle.plus_validator.specs.Account.{Progress}
use Rattle.plus_validator.specs.declared.halt.Halt.{Halt}
use Rattle.plus_validator.specs.declared.halt.Halt.TheVariants.{Refused}
use Rattle.plus_validator.specs.Playing.{Readied}
use Rattle.plus_validator.specs.Standing.{EndsBy}
use Rattle.plus_validator.specs.Refused.{IsWaiting, after_end, no_value, goes_back}
use Rattle.plus_validator.specs.Stopped.{TimeHalts, HaltsAtMoment}
use Rattle.plus_validator.specs.Told.{Telling}
use Rattle.plus_stretch.specs.Tests.{AllPass, Test}
use Rattle.plus_timeline.proofs.Played.{asked_same}

-- what is ready for a line waits for it
pub waits : {V : Type 0} (P : Problem) (T : Telling P V) (L : Plan) (instance : ℕ → List Test) (h : List Part) (run : Progress V) → Readied P T L instance h run → IsWaiting P L run.timeline.line.most instance h
waits P T L instance h run r = elim r.worked [
  | inl e ↦ inl e
  | inr w ↦ inr (record {
    worked = subst (IsWorked P L) r.played.now w.worked;
    passed = subst (AllPass IsFrac64) (asked_same r.played) w.passed;
  })
]

none_is_one : (ls : List model.Line) (line : model.Line) → [] ≡ ls ++ line ∷ [] → ⊥
none_is_one [] line e = cc
none_is_one (x ∷ ls) line e = cc

-- after some line the lines are worked
worked_after : {V : Type 0} (P : Problem) (T : Telling P V) (L : Plan) (instance : ℕ → List Test) (h : List Part) (run : Progress V) (before : List model.Line) (line : model.Line) → Readied P T L instance h run → L.lines ≡ before ++ line ∷ [] → IsWorked P L (view_of P h)
worked_after P T L instance h run before line r e = elim (waits P T L instance h run r) [
  | inl n ↦ absurd (none_is_one before line (sym n ∙ e))
  | inr w ↦ w.worked
]

-- the last of these lines is the one
two_lasts : (xs ys : List model.Line) (x y : model.Line) → xs ++ x ∷ [] ≡ ys ++ y ∷ [] → x ≡ y
two_lasts [] [] x y e = cc
two_lasts [] (b ∷ []) x y e = cc
two_lasts [] (b ∷ c ∷ ys) x y e = cc
two_lasts (a ∷ []) [] x y e = cc
two_lasts (a ∷ c ∷ xs) [] x y e = cc
two_lasts (a ∷ xs) (b ∷ ys) x y e = two_lasts xs ys x y (let f : xs ++ x ∷ [] ≡ ys ++ y ∷ [] = cc e in f)

no_end : (lines before : List model.Line) (time t : Fraction) → EndsBy lines false time → lines ≡ before ++ EndLine t ∷ [] → ⊥
no_end lines before time t (inl n) e = none_is_one before (EndLine t) (sym n.0 ∙ e)
no_end lines before time t (inr a) e =
    let k : ActLine time a.1 ≡ EndLine t = two_lasts a.0 before (ActLine time a.1) (EndLine t) (sym a.2 ∙ e) in
    cc k

ends_by : {V : Type 0} (P : Problem) (T : Telling P V) (L : Plan) (instance : ℕ → List Test) (h : List Part) (run : Progress V) → run.ended ≡ false → Readied P T L instance h run → EndsBy L.lines false run.timeline.line.now.time
ends_by P T L instance h run e r = subst (λ b. EndsBy L.lines b run.timeline.line.now.time) e r.last

no_break_by_end : {V : Type 0} (P : Problem) (T : Telling P V) (L : Plan) (instance : ℕ → List Test) (h : List Part) (run : Progress V) (meant : model.Line) → run.ended ≡ false → Readied P T L instance h run → BreaksBy P L h meant AfterEnd → ⊥
no_break_by_end P T L instance h run meant e r k =
    let b = k.breach in
    no_end L.lines b.0 run.timeline.line.now.time b.1 (ends_by P T L instance h run e r) b.2.lines

-- times are at 0 or later
at_zero_or_later : (top bottom : ℕ) → 0 < bottom → whole (pos 0) ≤ℚ over (pos top) bottom
at_zero_or_later top bottom k = le_by (Is-over (pos 0) 1 (omega arith)) (Is-over (pos top) bottom k) (omega (arith, ints))

-- ---- the three faults of a time

pub halts_after_end : {V : Type 0} (P : Problem) (T : Telling P V) (run : Progress V) (n : ℕ) (time : Time) (halt : Halt) → run.ended ≡ true → halt ≡ Refused (Invalid (breaches.AfterEnd n)) → HaltsAtMoment P T n time run halt
halts_after_end P T run n time halt e k = record {
  refused = λ L instance h meant r t.
      let last = subst (λ b. EndsBy L.lines b run.timeline.line.now.time) e r.last in
      subst (TimeHalts P L h n meant time) (sym k)
      (after_end
      (record {
        prefix = r.played.prefix;
        breach = (
          last.0,
          run.timeline.line.now.time,
          record {
            worked = worked_after P T L instance h run last.0 (EndLine run.timeline.line.now.time) r last.1;
            open_yet = r.not_closed;
            lines = last.1;
          },
        );
      })
      refl);
}

pub halts_without_value : {V : Type 0} (P : Problem) (T : Telling P V) (run : Progress V) (n : ℕ) (time : Time) (halt : Halt) → run.ended ≡ false → (IsFrac64 (value_of time) → ⊥) → halt ≡ Refused (Other (Literal texts.Plan time.span.start time.span.«end»)) → HaltsAtMoment P T n time run halt
halts_without_value P T run n time halt e f k = record {
  refused = λ L instance h meant r t.
      subst (TimeHalts P L h n meant time) (sym k) (no_value (no_break_by_end P T L instance h run meant e r) f refl);
}

goes_back_by : {V : Type 0} (P : Problem) (T : Telling P V) (L : Plan) (instance : ℕ → List Test) (h : List Part) (run : Progress V) (meant : model.Line) (time : Time) → 0 < time.bottom → EndsBy L.lines false run.timeline.line.now.time → Readied P T L instance h run → model.time_of meant ≡ value_of time → value_of time <ℚ run.timeline.line.now.time → BreaksBy P L h meant TimeGoesBack
goes_back_by P T L instance h run meant time k (inl n) r t l =
    absurd (not_below (value_of time) (whole (pos 0)) (subst (λ x. value_of time <ℚ x) n.1 l) (at_zero_or_later time.top time.bottom k))
goes_back_by P T L instance h run meant time k (inr a) r t l = record {
  prefix = r.played.prefix;
  breach = (
    a.0,
    run.timeline.line.now.time,
    a.1,
    record {
      worked = worked_after P T L instance h run a.0 (ActLine run.timeline.line.now.time a.1) r a.2;
      open_yet = r.not_closed;
      lines = a.2;
    },
    subst (λ x. x <ℚ run.timeline.line.now.time) (sym t) l,
  );
}

pub halts_going_back : {V : Type 0} (P : Problem) (T : Telling P V) (run : Progress V) (n : ℕ) (time : Time) (at : Frac64) (halt : Halt) → 0 < time.bottom → run.ended ≡ false → fraction_of at ≡ value_of time → is_below (fraction_of at) run.timeline.line.now.time ≡ true → halt ≡ Refused (Invalid (breaches.TimeGoesBack n)) → HaltsAtMoment P T n time run halt
halts_going_back P T run n time at halt b e i l k = record {
  refused = λ L instance h meant r t.
      subst (TimeHalts P L h n meant time) (sym k)
      (goes_back
      (goes_back_by P T L instance h run meant time b (ends_by P T L instance h run e r) r t
      (subst (λ x. x <ℚ run.timeline.line.now.time) i (from_below (fraction_of at) run.timeline.line.now.time l)))
      (subst IsFrac64 i (at.top_fits, at.bottom_fits))
      refl);
}
