-- How a timeline stands in what happens of a plan, and how far it may be carried.
use Rattle.std.specs.Prelude.{◌≡◌, ℕ, ◌<◌, List, [], Option, Some, None}
use Rattle.plus_fraction.specs.Fraction.{Fraction}
use Rattle.plus_model.specs.Terms.{Problem}
use Rattle.plus_model.specs.Plan.{Plan}
use Rattle.plus_model.specs.History.{Part}
use Rattle.plus_model.specs.Trajectory.{HasBegun, Prefix}
use Rattle.plus_search.specs.declared.spaces.Fate.{Fate}
use Rattle.plus_search.specs.declared.spaces.Fate.TheVariants.{Alive, Broken, Beyond}
use Rattle.plus_stretch.specs.Tests.{Test, FirstFailing, IsLimit}
use Rattle.plus_timeline.specs.declared.next.Next.{Next}
use Rattle.plus_timeline.specs.declared.next.Next.TheVariants.{Round, Run, Entry, There}
use Rattle.plus_timeline.specs.declared.stop.Stop.{Stop}
use Rattle.plus_timeline.specs.declared.stop.Stop.TheVariants as stops
use Rattle.plus_timeline.specs.Timeline.{TimelineView}
use Rattle.plus_timeline.specs.Serving.{Serves}
use Rattle.plus_timeline.specs.Finish.{IsPaused}
use Rattle.plus_timeline.specs.Played as played
use Rattle.plus_timeline.specs.StepsLeft as steps
use Rattle.plus_timeline.specs.StepsLeft.{steps_left}
use Rattle.plus_planner.specs.Grid.{asked_in, IsClearIn}

-- the timeline is that of this history of the plan, and all that is asked before passes. Nothing is told beside it.
abbrev pub IsPlayed : (Fraction → Type 0) → Problem → Plan → List Part → TimelineView → Type 0
IsPlayed fits P L h t = played.IsPlayed fits P L (λ i. []) (λ g. Unit {0}) h t

-- the timeline goes on, with this problem
abbrev pub CanGoOn : Problem → TimelineView → Type 0
CanGoOn P t = steps.CanGoOn (Serves P t) t

-- it may be carried up to this time
abbrev pub CanReach : Problem → Fraction → TimelineView → Type 0
CanReach P u t = steps.CanReach (Serves P t) u t

-- ---- what it comes to. Each is said for every plan whose next line has the time that is aimed at

-- the timeline is on its way to the time u, by a history of the plan; so many actions are done
abbrev pub IsOnWay : (Fraction → Type 0) → Problem → Plan → Fraction → ℕ → List Part → TimelineView → Type 0
IsOnWay fits P L u acted h t = played.IsOnWay fits P L (λ i. []) (λ g. Unit {0}) u acted h t

-- up to the time of the next line nothing is left to do
abbrev pub IsReached : (Fraction → Type 0) → Problem → Plan → Fraction → ℕ → List Part → TimelineView → Type 0
IsReached fits P L u acted h t = played.IsReached fits P L (λ i. []) (λ g. Unit {0}) u acted h t

-- the time is reached, and nothing is due there
pub record Arrives (fits : Fraction → Type 0) (P : Problem) (u : Fraction) (old new : TimelineView) : Type 0 where
  pub can : CanGoOn P new
  pub paused : IsPaused new
  pub moment : new.now.running ≡ None
  pub most : new.most ≡ old.most
  pub reached :
      (L : Plan) (acted : ℕ) (h : List Part) → HasBegun L → IsOnWay fits P L u acted h old
      → (h' : List Part) × IsReached fits P L u acted h' new

-- the first test of this kind that fails stands at this history of the plan, and none before it
pub record FailsAt (fits : Fraction → Type 0) (P : Problem) (L : Plan) (most : ℕ) (Kind : Test → Type 0) (h : List Part) : Type 0 where
  pub prefix : Prefix P L h
  pub clear : IsClearIn fits P L most h
  pub test : Test
  pub first : FirstFailing fits (asked_in P L most h) test
  pub kind : Kind test

-- on the way a test of this kind fails
pub record FailsOnWay (fits : Fraction → Type 0) (P : Problem) (u : Fraction) (old : TimelineView) (Kind : Test → Type 0) : Type 0 where
  pub fails :
      (L : Plan) (acted : ℕ) (h : List Part) → HasBegun L → IsOnWay fits P L u acted h old
      → (h' : List Part) × FailsAt fits P L old.most Kind h'

-- a test that is no limit is a breach
abbrev pub IsNoLimit : Test → Type 0
IsNoLimit t = IsLimit t → ⊥

-- what becomes of a timeline that is carried to the time u
abbrev pub Carried : (Fraction → Type 0) → Problem → Fraction → TimelineView → TimelineView → Fate → Type 0
Carried fits P u old new Alive = Arrives fits P u old new
Carried fits P u old new Broken = FailsOnWay fits P u old IsNoLimit
Carried fits P u old new Beyond = FailsOnWay fits P u old IsLimit

-- ---- one step

-- one more step, after which the timeline is on its way still
pub record StepsOn (fits : Fraction → Type 0) (P : Problem) (u : Fraction) (old new : TimelineView) : Type 0 where
  pub can : CanReach P u new
  pub less : steps_left new < steps_left old
  pub most : new.most ≡ old.most
  pub on_way :
      (L : Plan) (acted : ℕ) (h : List Part) → HasBegun L → IsOnWay fits P L u acted h old
      → (h' : List Part) × IsOnWay fits P L u acted h' new

-- what a step comes to, where it is the last
abbrev pub Steps : (Fraction → Type 0) → Problem → Fraction → TimelineView → TimelineView → Option Fate → Type 0
Steps fits P u old new None = StepsOn fits P u old new
Steps fits P u old new (Some fate) = Carried fits P u old new fate

-- the answer of a step as a fate, where it is the last
abbrev pub fate_by : {Q : Type 0} → Next Q → Option Fate
fate_by Round = None
fate_by Run = None
fate_by (Entry t) = None
fate_by There = Some Alive

-- the fate by a refusal, where it is one
abbrev pub refused_by : {Q : Type 0} → Stop Q → Option Fate
refused_by (stops.Breach b) = Some Broken
refused_by (stops.Limit l) = Some Beyond
refused_by stops.Ended = None
refused_by stops.Memory = None
