-- A timeline that is carried to a time, and what stands where it is not.
use Rattle.std.proofs.Common.{◌≡◌, ℕ, List, [], refl, ap, subst, ◌∙◌}
use Rattle.std.specs.Prelude.{Some, None, IsSomeAnd, Option, Err}
use Rattle.plus_fraction.specs.Fraction.{Fraction}
use Rattle.plus_model.specs.Terms.{Problem}
use Rattle.plus_model.specs.Breach as model
use Rattle.plus_model.specs.History.{View}
use Rattle.plus_model.specs.Trajectory.{least}
use Rattle.plus_search.specs.declared.spaces.Fate.TheVariants.{Alive}
use Rattle.plus_state.specs.declared.outcome.Breach as outcome
use Rattle.plus_state.specs.declared.outcome.Breach.TheVariants.{Precondition}
use Rattle.plus_stretch.specs.Tests.{Test, breach, AllPass, FirstFailing, of_limit, breach_of}
use Rattle.plus_timeline.specs.declared.stop.Stop.{Stop}
use Rattle.plus_timeline.specs.declared.stop.Stop.TheVariants.{Breach, Limit, Ended, Memory}
use Rattle.plus_timeline.specs.declared.next.Next.{Next}
use Rattle.plus_timeline.specs.declared.next.Next.TheVariants.{Round, Run, Entry, There}
use Rattle.plus_timeline.specs.Timeline.{TimelineView}
use Rattle.plus_timeline.specs.Advance.{Advances, AdvanceTold, BreaksOff}
use Rattle.plus_timeline.proofs.Played.{way_tests, asked_same, way_fails}
use Rattle.plus_planner.specs.Standing.{CanReach}
use Rattle.plus_planner.proofs.Carries.{Along, along_step, along_done, step_says}
use Rattle.plus_trim.specs.Judging.{IsPlaced, Named, HaltsBy}
use Rattle.plus_trim.specs.Standing.{HaltsOnWay, WayHalts, Comes, GoesOn, there_by, StepTold}

-- the breach that a code of a breach names
pub named_breach : {Q : Type 0} (v : Q → Fraction) (fits : Fraction → Type 0) (acted : ℕ) (tests : List Test) (b : outcome.Breach Q) (o : Option model.Breach) → IsPlaced acted b → breach_of v acted b ≡ o → IsSomeAnd o (λ c. FirstFailing fits tests (breach c)) → (test : Test) × FirstFailing fits tests test × Named v acted (Breach b) test
named_breach v fits acted tests b None p e h = absurd h
named_breach v fits acted tests b (Some c) p e h = (breach c, h, record { means = c; means_is = e; test_is = refl; placed = p })

-- no breach on the way is by an action
off_placed : {Q : Type 0} (v : Q → Fraction) (P : Problem) (u : Fraction) (w : View) (acted : ℕ) (b : outcome.Breach Q) → BreaksOff v P u w b → IsPlaced acted b
off_placed v P u w acted (Precondition line label) h = absurd h
off_placed v P u w acted b h = tt

halts_here : {Q : Type 0} (v : Q → Fraction) (fits : Fraction → Type 0) (P : Problem) (u : Fraction) (old : TimelineView) (stop : Stop Q) (test : Test) → FirstFailing fits (way_tests P u old) test → Named v old.now.acted stop test → HaltsOnWay v fits P u old stop
halts_here v fits P u old stop test f n = record {
  halts = λ L acted h b w. record {
    history = h;
    fails = record {
      prefix = w.played.prefix;
      clear = w.played.clear;
      test = test;
      first = subst (λ (ts : List Test). FirstFailing fits ts test) (asked_same w.played) (way_fails fits P L (λ i. []) u old test w.target_is f);
      kind = subst (λ k. Named v k stop test) (ap (λ x. x.acted) w.played.now) n;
    };
  };
}

pub refusal_halts : {Q : Type 0} (v : Q → Fraction) (fits : Fraction → Type 0) (P : Problem) (u : Fraction) (old new : TimelineView) (stop : Stop Q) → CanReach P u old → AdvanceTold v fits P u old new (Err stop) → WayHalts v fits P u old stop
refusal_halts v fits P u old new (Breach b) c t =
    let p = off_placed v P (least old.now.time u P.timed) old.now old.now.acted b t.means in
    let n = named_breach v fits old.now.acted (way_tests P u old) b (breach_of v old.now.acted b) p refl t.first in
    halts_here v fits P u old (Breach b) n.0 n.1 n.2
refusal_halts v fits P u old new (Limit l) c t = halts_here v fits P u old (Limit l) (of_limit v l) t.first refl
refusal_halts v fits P u old new Ended c t = (let g = c.goes.going in cc (g, t))
refusal_halts v fits P u old new Memory c t = tt

along_halts : {Q : Type 0} (v : Q → Fraction) (fits : Fraction → Type 0) (P : Problem) (u : Fraction) (start now : TimelineView) (stop : Stop Q) → Along fits P u start now → HaltsOnWay v fits P u now stop → HaltsOnWay v fits P u start stop
along_halts v fits P u start now stop a h = record {
  halts = λ L acted g b w. (let x = a.on_way L acted g b w in
      subst (λ k. HaltsBy v fits P k L stop) a.most (h.halts L acted x.0 b x.1));
}

pub way_halts : {Q : Type 0} (v : Q → Fraction) (fits : Fraction → Type 0) (P : Problem) (u : Fraction) (start now : TimelineView) (stop : Stop Q) → Along fits P u start now → WayHalts v fits P u now stop → WayHalts v fits P u start stop
way_halts v fits P u start now (Breach b) a h = along_halts v fits P u start now (Breach b) a h
way_halts v fits P u start now (Limit l) a h = along_halts v fits P u start now (Limit l) a h
way_halts v fits P u start now Ended a h = h
way_halts v fits P u start now Memory a h = h

pub step_tells : {Q : Type 0} (v : Q → Fraction) (fits : Fraction → Type 0) (P : Problem) (u : Fraction) (old new : TimelineView) (answer : Next Q) → CanReach P u old → Advances v P u old new answer → AllPass fits (way_tests P u old) → StepTold fits P u old new (there_by answer)
step_tells v fits P u old new Round c a x = record { steps = step_says v fits P u old new Round c a x; acted_is = ap (λ z. z.now.acted) a.is }
step_tells v fits P u old new Run c a x = record { steps = step_says v fits P u old new Run c a x; acted_is = ap (λ z. z.now.acted) a.is }
step_tells v fits P u old new (Entry t) c a x = record { steps = step_says v fits P u old new (Entry t) c a x; acted_is = ap (λ z. z.now.acted) a.is }
step_tells v fits P u old new There c a x = record {
  arrives = step_says v fits P u old new There c a x;
  acted_is = ap (λ z. z.now.acted) a.is;
  time_is = ap (λ z. z.now.time) a.is ∙ a.time;
}

-- several steps, in which no action was done
pub record OnTheWay (fits : Fraction → Type 0) (P : Problem) (u : Fraction) (start now : TimelineView) : Type 0 where
  pub along : Along fits P u start now
  pub acted_is : now.now.acted ≡ start.now.acted

pub way_goes : (fits : Fraction → Type 0) (P : Problem) (u : Fraction) (start now new : TimelineView) → OnTheWay fits P u start now → GoesOn fits P u now new → OnTheWay fits P u start new
way_goes fits P u start now new a s = record { along = along_step fits P u start now new a.along s.steps; acted_is = s.acted_is ∙ a.acted_is }

pub way_comes : (fits : Fraction → Type 0) (P : Problem) (u : Fraction) (start now new : TimelineView) → OnTheWay fits P u start now → Comes fits P u now new → Comes fits P u start new
way_comes fits P u start now new a s = record {
  arrives = along_done fits P u start now new Alive a.along s.arrives;
  acted_is = s.acted_is ∙ a.acted_is;
  time_is = s.time_is;
}
