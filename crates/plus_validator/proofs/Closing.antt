-- The beginning and the end of a run.
use Rattle.std.proofs.Common.{◌≡◌, ℕ, ◌≤◌, true, false, List, [], ◌∷◌, ◌++◌, refl, ap, sym, subst, ◌∙◌, append-nil, inl, inr, pos, arith}
use Rattle.std.specs.Prelude.{length, if◌then◌else◌}
use Rattle.plus_fraction.specs.Fraction.{Fraction, whole}
use Rattle.plus_model.specs.Terms.{Problem}
use Rattle.plus_model.specs.Plan.{Plan, IsInOrder}
use Rattle.plus_model.specs.Trajectory.{IsWorked, first_part, literals}
use Rattle.plus_model.specs.Value.{holds}
use Rattle.plus_model.proofs.Paths.{prefix_begins}
use Rattle.plus_number.specs.declared.frac.Frac64.{Frac64}
use Rattle.plus_number.specs.Frac.{fraction_of, IsFrac64}
use Rattle.plus_state.specs.View.{Labels}
use Rattle.plus_timeline.specs.Timeline as timeline
use Rattle.plus_timeline.specs.Timeline.{TimelineView, begun}
use Rattle.plus_indexed.specs.Knows.{Knows}
use Rattle.plus_timeline.specs.declared.next.Next.TheVariants.{Entry}
use Rattle.plus_report.specs.Report.{report_of, report_from}
use Rattle.plus_report.specs.Text.{entry_text, literals_text}
use Rattle.plus_validator.specs.Account.{Account, Progress}
use Rattle.plus_validator.specs.Standing.{IsTold, CanGoOn, IsReached, next_text, EndsBy, AllActed}
use Rattle.plus_validator.specs.Told.{Telling}
use Rattle.plus_validator.specs.Running.{IsOnWay, Reaches}
use Rattle.plus_validator.specs.Playing.{Closes, Begins, closed}
use Rattle.plus_timeline.proofs.Played.{clear_first, asked_same}
use Rattle.plus_validator.proofs.Steps.{literals_shown}
use Rattle.plus_validator.proofs.Lines.{close_played, close_target, close_worked}
use Rattle.plus_stretch.specs.Tests.{AllPass}
use Rattle.plus_validator.specs.Asking.{IsClear, NoneFails}
use Rattle.plus_validator.proofs.Asking.{goal_passes}
use Rattle.plus_timeline.specs.Asked.{goal_tests}

-- the first entry is written
first_report : (N : Labels) (P : Problem) (L : Plan) (most : ℕ) (time : Frac64) → fraction_of time ≡ whole (pos 0) → next_text fraction_of N P (begun P most) (Entry time) ≡ report_of N P L (first_part P ∷ [])
unfolding report_of report_from
first_report N P L most time e =
    ap (λ x. entry_text N x P.initial P.initial ++ (if timeline.has_literal P (whole (pos 0)) then literals_text N P.initial (literals P (whole (pos 0)) P.initial) else [])) e
    ∙ ap (λ x. entry_text N (whole (pos 0)) P.initial P.initial ++ x) (literals_shown N P (whole (pos 0)) P.initial (literals P (whole (pos 0)) P.initial))
    ∙ sym (append-nil _)

pub report_begins : (N : Labels) (P : Problem) (most : ℕ) (time : Frac64) (t : TimelineView) (told : List ℕ) → t ≡ begun P most → fraction_of time ≡ t.now.time → told ≡ next_text fraction_of N P t (Entry time) → (L : Plan) → told ≡ report_of N P L (first_part P ∷ [])
report_begins N P most time t told e n r = λ L.
    r ∙ ap (λ v. next_text fraction_of N P v (Entry time)) e ∙ first_report N P L most time (n ∙ ap (λ v. v.now.time) e)

pub begins : {V : Type 0} (P : Problem) (T : Telling P V) (most : ℕ) (run : Progress V) → 1 ≤ most → run.timeline.line ≡ begun P most → Knows IsFrac64 P run.timeline → run.ended ≡ false → ((L : Plan) → T.Tells L (first_part P ∷ []) run.account.told) → run.account.entries ≡ 1 → run.account.firings ≡ 0 → Begins P T most run
begins P T most run some e k n r one none_fired =
    record {
      rests = record {
        can = record {
          knows = k;
          going = ap (λ v. v.ended) e;
          within = (let a : run.timeline.line.entries ≡ 1 = ap (λ v. v.entries) e in let b : run.timeline.line.most ≡ most = ap (λ v. v.most) e in omega arith);
        };
        moment = ap (λ v. v.now.running) e;
        most_is = ap (λ v. v.most) e;
      };
      ready = λ L instance none open_yet. (
        first_part P ∷ [],
        record {
          played = record {
            prefix = prefix_begins P L (subst IsInOrder (sym none) tt);
            now = ap (λ v. v.now) e;
            entries = ap (λ v. v.entries) e;
            beside = record { tells = r L; entries = one; firings = none_fired };
            clear = clear_first IsFrac64 P L run.timeline.line.most instance;
          };
          not_closed = open_yet;
          last = subst (λ b. EndsBy L.lines b run.timeline.line.now.time) (sym n) (inl (none, ap (λ v. v.now.time) e));
          acted = subst (λ b. AllActed L.lines b run.timeline.line.now.acted) (sym n) (ap (λ v. v.now.acted) e ∙ ap length (sym none));
          moment = ap (λ v. v.now.running) e;
          worked = inl none;
        },
      );
    }

-- the text is at its end, and the goal holds
pub closes : {V : Type 0} (P : Problem) (T : Telling P V) (old mid new : Progress V) (now : Fraction) → now ≡ old.timeline.line.now.time → CanGoOn P old.timeline → Reaches P T now old mid → AllPass IsFrac64 (goal_tests P mid.timeline.line.now.state) → holds P.goal mid.timeline.line.now.state ≡ true → new.account ≡ mid.account → Closes P T old new
closes {V} P T old mid new now e c r a g w = record {
  ends = λ L instance h ready.
      let on_way : IsOnWay P T (closed L) instance now old.timeline.line.now.acted h old = record {
        played = close_played P T L instance old.ended h old.timeline.line old.account ready;
        target_is = close_target P T L instance old.ended h old.timeline.line old.account ready ∙ sym e;
        acted_is = refl;
      } in
      let there = r.reached (closed L) instance old.timeline.line.now.acted h (inr refl) on_way in
      let there_now : IsReached P T (closed L) instance old.timeline.line.now.acted old.timeline.line.now.time there.0 mid.timeline.line mid.account =
      subst (λ x. IsReached P T (closed L) instance old.timeline.line.now.acted x there.0 mid.timeline.line mid.account) e there.1 in
      let worked : IsWorked P (closed L) mid.timeline.line.now = close_worked P T L instance old.ended h there.0 old.timeline.line mid.timeline.line old.account mid.account ready there_now in
      let passed : NoneFails P (closed L) mid.timeline.line.most instance there.0 =
      subst (AllPass IsFrac64) (asked_same there.1.played)
      (goal_passes P (closed L) mid.timeline.line.most instance mid.timeline.line.entries mid.timeline.line.now refl worked.acted there.1.present there.1.over there.1.passed a) in
      let within = r.can.within in
      let most = r.most in
      let entries = there.1.played.entries in (
        there.0,
        record {
          happens = record {
            prefix = there.1.played.prefix;
            closed = refl;
            worked = subst (IsWorked P (closed L)) there.1.played.now worked;
            goal = subst (λ v. holds P.goal v.state ≡ true) there.1.played.now g;
          };
          few = omega arith;
          clear = subst (λ (m : ℕ). IsClear P (closed L) m instance there.0) r.most there.1.played.clear;
          passed = subst (λ (m : ℕ). NoneFails P (closed L) m instance there.0) r.most passed;
          told = subst (λ (x : Account V). IsTold P T (closed L) x there.0) (sym w) there.1.played.beside;
        },
      );
}
