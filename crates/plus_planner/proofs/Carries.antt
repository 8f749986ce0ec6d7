-- A timeline that is carried to a time, step by step.
use Rattle.std.proofs.Common.{◌≡◌, ◌≢◌, ℕ, Bool, false, List, [], ◌∷◌, ◌++◌, refl, ap, subst, ◌∙◌}
use Rattle.std.specs.Prelude.{Some, None, IsSomeAnd, Option, Err}
use Rattle.plus_fraction.specs.Fraction.{Fraction}
use Rattle.plus_model.specs.Terms.{Problem}
use Rattle.plus_model.specs.Breach as model
use Rattle.plus_model.specs.Plan.{Plan}
use Rattle.plus_model.specs.History.{Part}
use Rattle.plus_model.specs.Trajectory.{HasBegun}
use Rattle.plus_search.specs.declared.spaces.Fate.{Fate}
use Rattle.plus_search.specs.declared.spaces.Fate.TheVariants.{Alive, Broken, Beyond}
use Rattle.plus_state.specs.declared.outcome.Limit.{Limit}
use Rattle.plus_state.specs.declared.outcome.Limit.TheVariants as limits
use Rattle.plus_stretch.specs.Tests.{Test, breach, AllPass, FirstFailing, IsLimit, of_limit, breach_of}
use Rattle.plus_timeline.specs.Timeline.{TimelineView}
use Rattle.plus_state.specs.declared.outcome.Breach as outcome
use Rattle.plus_timeline.specs.Advance.{Advances, IsThere, AdvanceTold}
use Rattle.plus_timeline.specs.Told.{Told}
use Rattle.plus_timeline.specs.declared.next.Next.{Next}
use Rattle.plus_timeline.specs.declared.next.Next.TheVariants.{Round, Run, Entry, There}
use Rattle.plus_timeline.specs.declared.stop.Stop.{Stop}
use Rattle.plus_timeline.specs.declared.stop.Stop.TheVariants as stops
use Rattle.plus_planner.specs.Standing.{CanReach, IsOnWay, Arrives, FailsAt, FailsOnWay, IsNoLimit, Carried, StepsOn, Steps, fate_by, refused_by}
use Rattle.plus_timeline.specs.Serving.{Serves}
use Rattle.plus_timeline.specs.StepsLeft.{IsMore, a_round, a_run, an_entry}
use Rattle.plus_timeline.proofs.Serving.{advance_serves}
use Rattle.plus_timeline.proofs.StepsLeft.{step_goes, step_most, step_less}
use Rattle.plus_timeline.proofs.Played.{part_of, way_tests, asked_same, way_fails, step_way, step_done}

-- what a step says by its answer
step_more : {Q : Type 0} (value : Q → Fraction) (fits : Fraction → Type 0) (P : Problem) (u : Fraction) (old new : TimelineView) (answer : Next Q) → IsMore answer → CanReach P u old → Advances value P u old new answer → AllPass fits (way_tests P u old) → StepsOn fits P u old new
step_more value fits P u old new answer m c a x = record {
  can = step_goes value (Serves P old) (Serves P new) P u old new answer c a (advance_serves value P u old new answer a c.goes.knows);
  less = step_less value P u old new answer c.goes.knows.events c.room m a;
  most = step_most value P u old new answer a;
  on_way = λ L acted h b w. (
    h ++ part_of new answer ∷ [],
    step_way value fits P L (λ i. []) (λ g. Unit {0}) (λ g. Unit {0}) u acted h old new answer m b w a x tt,
  );
}

step_there : {Q : Type 0} (value : Q → Fraction) (fits : Fraction → Type 0) (P : Problem) (u : Fraction) (old new : TimelineView) → CanReach P u old → IsThere P u old new → AllPass fits (way_tests P u old) → Arrives fits P u old new
step_there {Q} value fits P u old new c a x = record {
  can = (step_goes {Q = Q} value (Serves P old) (Serves P new) P u old new There c a (advance_serves {Q = Q} value P u old new There a c.goes.knows)).goes;
  paused = record { there = ap (λ v. v.answer) a.is; fresh = ap (λ v. v.acted) a.is };
  moment = ap (λ v. v.now.running) a.is ∙ a.moment;
  most = ap (λ v. v.most) a.is;
  reached = λ L acted h b w. (h, step_done fits P L (λ i. []) (λ g. Unit {0}) (λ g. Unit {0}) u acted h old new w a x tt);
}

pub step_says : {Q : Type 0} (value : Q → Fraction) (fits : Fraction → Type 0) (P : Problem) (u : Fraction) (old new : TimelineView) (answer : Next Q) → CanReach P u old → Advances value P u old new answer → AllPass fits (way_tests P u old) → Steps fits P u old new (fate_by answer)
step_says value fits P u old new Round c a x = step_more value fits P u old new Round a_round c a x
step_says value fits P u old new Run c a x = step_more value fits P u old new Run a_run c a x
step_says value fits P u old new (Entry t) c a x = step_more value fits P u old new (Entry t) (an_entry t) c a x
step_says value fits P u old new There c a x = step_there value fits P u old new c a x

-- ---- a refusal

-- the history at which a test fails that `advance` asks
fails_here : (fits : Fraction → Type 0) (P : Problem) (u : Fraction) (old : TimelineView) (Kind : Test → Type 0) (test : Test) → FirstFailing fits (way_tests P u old) test → Kind test → FailsOnWay fits P u old Kind
fails_here fits P u old Kind test f k = record {
  fails = λ L acted h b w. (h, record { prefix = w.played.prefix; clear = w.played.clear; test = test; first = subst (λ (ts : List Test). FirstFailing fits ts test) (asked_same w.played) (way_fails fits P L (λ i. []) u old test w.target_is f); kind = k });
}

breach_fails : (fits : Fraction → Type 0) (P : Problem) (u : Fraction) (old : TimelineView) (o : Option model.Breach) → IsSomeAnd o (λ c. FirstFailing fits (way_tests P u old) (breach c)) → FailsOnWay fits P u old IsNoLimit
breach_fails fits P u old None h = absurd h
breach_fails fits P u old (Some c) h = fails_here fits P u old IsNoLimit (breach c) h (λ l. l)

pub limit_kind : {Q : Type 0} (value : Q → Fraction) (l : Limit Q) → IsLimit (of_limit value l)
limit_kind value (limits.Happenings n) = tt
limit_kind value (limits.Number o) = tt
limit_kind value (limits.Nonlinear w k) = tt

pub refusal_says : {Q : Type 0} (value : Q → Fraction) (fits : Fraction → Type 0) (P : Problem) (u : Fraction) (old new : TimelineView) (stop : Stop Q) (fate : Fate) → refused_by stop ≡ Some fate → AdvanceTold value fits P u old new (Err stop) → Carried fits P u old new fate
refusal_says value fits P u old new (stops.Breach b) fate e t =
    let f : Broken ≡ fate = cc e in
    subst (Carried fits P u old new) f (breach_fails fits P u old (breach_of value old.now.acted b) t.first)
refusal_says value fits P u old new (stops.Limit l) fate e t =
    let f : Beyond ≡ fate = cc e in
    subst (Carried fits P u old new) f (fails_here fits P u old IsLimit (of_limit value l) t.first (limit_kind value l))
refusal_says value fits P u old new stops.Ended fate e t = absurd (cc e)
refusal_says value fits P u old new stops.Memory fate e t = absurd (cc e)

-- ---- several steps

pub record Along (fits : Fraction → Type 0) (P : Problem) (u : Fraction) (start now : TimelineView) : Type 0 where
  pub can : CanReach P u now
  pub most : now.most ≡ start.most
  pub on_way :
      (L : Plan) (acted : ℕ) (h : List Part) → HasBegun L → IsOnWay fits P L u acted h start
      → (h' : List Part) × IsOnWay fits P L u acted h' now

pub along_start : (fits : Fraction → Type 0) (P : Problem) (u : Fraction) (t : TimelineView) → CanReach P u t → Along fits P u t t
along_start fits P u t c = record { can = c; most = refl; on_way = λ L acted h b w. (h, w) }

pub along_step : (fits : Fraction → Type 0) (P : Problem) (u : Fraction) (start now new : TimelineView) → Along fits P u start now → StepsOn fits P u now new → Along fits P u start new
along_step fits P u start now new a s = record {
  can = s.can;
  most = s.most ∙ a.most;
  on_way = λ L acted h b w. (let x = a.on_way L acted h b w in s.on_way L acted x.0 b x.1);
}

along_fails : (fits : Fraction → Type 0) (P : Problem) (u : Fraction) (start now : TimelineView) (Kind : Test → Type 0) → Along fits P u start now → FailsOnWay fits P u now Kind → FailsOnWay fits P u start Kind
along_fails fits P u start now Kind a s = record {
  fails = λ L acted h b w. (let x = a.on_way L acted h b w in
      subst (λ k. (h' : List Part) × FailsAt fits P L k Kind h') a.most (s.fails L acted x.0 b x.1));
}

pub along_done : (fits : Fraction → Type 0) (P : Problem) (u : Fraction) (start now new : TimelineView) (fate : Fate) → Along fits P u start now → Carried fits P u now new fate → Carried fits P u start new fate
along_done fits P u start now new Alive a s = record {
  can = s.can;
  paused = s.paused;
  moment = s.moment;
  most = s.most ∙ a.most;
  reached = λ L acted h b w. (let x = a.on_way L acted h b w in s.reached L acted x.0 b x.1);
}
along_done fits P u start now new Broken a s = along_fails fits P u start now IsNoLimit a s
along_done fits P u start now new Beyond a s = along_fails fits P u start now IsLimit a s

-- a timeline that is going does not answer that it has ended
pub goes_on : {Q A : Type 0} (value : Q → Fraction) (fits : Fraction → Type 0) (acted : ℕ) (ended : Bool) (tests : List Test) (Does : A → Type 0) (Means : outcome.Breach Q → Type 0) (stop : Stop Q) → ended ≡ false → Told value fits acted ended tests Does Means (Err stop) → stop ≢ stops.Ended
goes_on value fits acted ended tests Does Means (stops.Breach b) g t e = cc e
goes_on value fits acted ended tests Does Means (stops.Limit l) g t e = cc e
goes_on value fits acted ended tests Does Means stops.Ended g t e = cc (g, t)
goes_on value fits acted ended tests Does Means stops.Memory g t e = cc e
