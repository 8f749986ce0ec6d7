-- Runs that are on their way to a time, step by step.
use Rattle.std.proofs.Common.{◌≡◌, ℕ, List, [], ◌∷◌, ◌++◌, refl, ap, sym, subst, ◌∙◌, add-zero}
use Rattle.plus_fraction.specs.Fraction.{Fraction}
use Rattle.plus_model.specs.Terms.{Problem}
use Rattle.plus_model.specs.Plan.{Plan}
use Rattle.plus_model.specs.History.{Part}
use Rattle.plus_model.specs.Trajectory.{HasBegun}
use Rattle.plus_number.specs.declared.frac.Frac64.{Frac64}
use Rattle.plus_number.specs.Frac.{fraction_of, IsFrac64}
use Rattle.plus_stretch.specs.Tests.{Test, AllPass}
use Rattle.plus_timeline.specs.Timeline.{TimelineView}
use Rattle.plus_timeline.specs.Advance.{Advances, IsThere}
use Rattle.plus_timeline.specs.declared.next.Next.{Next}
use Rattle.plus_indexed.specs.Knows.{Knows}
use Rattle.plus_timeline.specs.declared.next.Next.TheVariants.{Round, Run as run_answer, Entry, There}
use Rattle.plus_timeline.specs.StepsLeft.{IsMore, a_round, a_run, an_entry}
use Rattle.plus_validator.specs.Standing.{IsTold, CanReach, is_there, AccountsNext}
use Rattle.plus_validator.specs.Told.{Telling}
use Rattle.plus_validator.specs.Account.{Account, Progress}
use Rattle.plus_validator.specs.Running.{IsOnWay, StepsOn, Reaches, Steps}
use Rattle.plus_timeline.proofs.StepsLeft.{step_goes, step_most, step_less}
use Rattle.plus_timeline.proofs.Played.{part_of, way_tests, step_way, step_done}
use Rattle.plus_validator.proofs.Steps.{account_by, step_told}

-- what a step says by its answer
step_more : {V : Type 0} (P : Problem) (T : Telling P V) (u : Fraction) (old new : Progress V) (answer : Next Frac64) → IsMore answer → CanReach P u old.timeline → Advances fraction_of P u old.timeline.line new.timeline.line answer → AllPass IsFrac64 (way_tests P u old.timeline.line) → new.ended ≡ old.ended → AccountsNext P T old.timeline.line new.timeline.line answer old.account new.account → Knows IsFrac64 P new.timeline → StepsOn P T u old new
step_more P T u old new answer m c a x e r k = record {
  can = step_goes fraction_of (Knows IsFrac64 P old.timeline) (Knows IsFrac64 P new.timeline) P u old.timeline.line new.timeline.line answer c a k;
  less = step_less fraction_of P u old.timeline.line new.timeline.line answer c.goes.knows.serves.events c.room m a;
  most = step_most fraction_of P u old.timeline.line new.timeline.line answer a;
  ended = e;
  on_way = λ L instance acted h b w. (
    h ++ part_of new.timeline.line answer ∷ [],
    step_way fraction_of IsFrac64 P L instance (IsTold P T L old.account) (IsTold P T L new.account) u acted h old.timeline.line new.timeline.line answer m b w a x
        (step_told P T L instance h old.timeline.line new.timeline.line answer old.account new.account m w.played r),
  );
}

-- where nothing is left to do, nothing is told
same_account : {V : Type 0} (P : Problem) (T : Telling P V) (old new : TimelineView) (before after : Account V) → AccountsNext {Q = Frac64} P T old new There before after → after ≡ before
same_account P T old new before after r = account_by r.tells (r.entries ∙ add-zero before.entries) (r.firings ∙ add-zero before.firings)

step_there : {V : Type 0} (P : Problem) (T : Telling P V) (u : Fraction) (old new : Progress V) → CanReach P u old.timeline → IsThere P u old.timeline.line new.timeline.line → AllPass IsFrac64 (way_tests P u old.timeline.line) → new.ended ≡ old.ended → AccountsNext {Q = Frac64} P T old.timeline.line new.timeline.line There old.account new.account → Knows IsFrac64 P new.timeline → Reaches P T u old new
step_there {V} P T u old new c a x e r k = record {
  can = (step_goes fraction_of (Knows IsFrac64 P old.timeline) (Knows IsFrac64 P new.timeline) P u old.timeline.line new.timeline.line There c a k).goes;
  paused = record { there = ap (λ v. v.answer) a.is; fresh = ap (λ v. v.acted) a.is };
  moment = ap (λ v. v.now.running) a.is ∙ a.moment;
  most = ap (λ v. v.most) a.is;
  ended = e;
  reached = λ L instance acted h b w. (
    h,
    step_done IsFrac64 P L instance (IsTold P T L old.account) (IsTold P T L new.account) u acted h old.timeline.line new.timeline.line w a x
        (subst (λ (k : Account V). IsTold P T L k h) (sym (same_account P T old.timeline.line new.timeline.line old.account new.account r)) w.played.beside),
  );
}

pub step_says : {V : Type 0} (P : Problem) (T : Telling P V) (u : Fraction) (old new : Progress V) (answer : Next Frac64) → CanReach P u old.timeline → Advances fraction_of P u old.timeline.line new.timeline.line answer → AllPass IsFrac64 (way_tests P u old.timeline.line) → new.ended ≡ old.ended → AccountsNext P T old.timeline.line new.timeline.line answer old.account new.account → Knows IsFrac64 P new.timeline → Steps P T u old new (is_there answer)
step_says P T u old new Round c a x e r k = step_more P T u old new Round a_round c a x e r k
step_says P T u old new run_answer c a x e r k = step_more P T u old new run_answer a_run c a x e r k
step_says P T u old new (Entry t) c a x e r k = step_more P T u old new (Entry t) (an_entry t) c a x e r k
step_says P T u old new There c a x e r k = step_there P T u old new c a x e r k

-- ---- several steps

pub record Along {V : Type 0} (P : Problem) (T : Telling P V) (u : Fraction) (start run : Progress V) : Type 0 where
  pub can : CanReach P u run.timeline
  pub most : run.timeline.line.most ≡ start.timeline.line.most
  pub ended : run.ended ≡ start.ended
  pub on_way :
      (L : Plan) (instance : ℕ → List Test) (acted : ℕ) (h : List Part) → HasBegun L → IsOnWay P T L instance u acted h start
      → (h' : List Part) × IsOnWay P T L instance u acted h' run

pub along_start : {V : Type 0} (P : Problem) (T : Telling P V) (u : Fraction) (run : Progress V) → CanReach P u run.timeline → Along P T u run run
along_start P T u run c = record { can = c; most = refl; ended = refl; on_way = λ L instance acted h b w. (h, w) }

pub along_step : {V : Type 0} (P : Problem) (T : Telling P V) (u : Fraction) (start run new : Progress V) → Along P T u start run → StepsOn P T u run new → Along P T u start new
along_step P T u start run new a s = record {
  can = s.can;
  most = s.most ∙ a.most;
  ended = s.ended ∙ a.ended;
  on_way = λ L instance acted h b w. (let x = a.on_way L instance acted h b w in s.on_way L instance acted x.0 b x.1);
}

pub along_done : {V : Type 0} (P : Problem) (T : Telling P V) (u : Fraction) (start run new : Progress V) → Along P T u start run → Reaches P T u run new → Reaches P T u start new
along_done P T u start run new a s = record {
  can = s.can;
  paused = s.paused;
  moment = s.moment;
  most = s.most ∙ a.most;
  ended = s.ended ∙ a.ended;
  reached = λ L instance acted h b w. (let x = a.on_way L instance acted h b w in s.reached L instance acted x.0 b x.1);
}
