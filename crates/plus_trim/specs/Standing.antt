-- How a timeline stands behind lines, whatever lines follow.
use Rattle.std.specs.Prelude.{◌≡◌, ℕ, suc, Bool, true, false, List, ◌++◌, length, None}
use Rattle.plus_fraction.specs.Fraction.{Fraction}
use Rattle.plus_model.specs.Terms.{Problem}
use Rattle.plus_model.specs.Plan.{Line, Plan, IsInOrder}
use Rattle.plus_model.specs.History.{Part}
use Rattle.plus_model.specs.Trajectory.{HasBegun}
use Rattle.plus_timeline.specs.declared.stop.Stop.{Stop}
use Rattle.plus_timeline.specs.declared.stop.Stop.TheVariants.{Breach, Limit, Ended, Memory}
use Rattle.plus_timeline.specs.declared.next.Next.{Next}
use Rattle.plus_timeline.specs.declared.next.Next.TheVariants.{Round, Run, Entry, There}
use Rattle.plus_timeline.specs.Timeline.{TimelineView}
use Rattle.plus_planner.specs.Laws.{last_time}
use Rattle.plus_planner.specs.Standing.{CanGoOn, IsPlayed, IsOnWay, Arrives, StepsOn}
use Rattle.plus_trim.specs.Judging.{HaltsBy}

-- a plan in order that begins with these lines
pub record Continues (lines : List Line) (L : Plan) : Type 0 where
  pub begun : HasBegun L
  pub ordered : IsInOrder L.lines
  pub more : List Line
  pub is : L.lines ≡ lines ++ more

-- the timeline stands right behind these lines: after the last action, before what follows from it. So it stands there in each
-- plan that begins with them.
pub record StandsBehind (fits : Fraction → Type 0) (P : Problem) (lines : List Line) (t : TimelineView) : Type 0 where
  pub can : CanGoOn P t
  pub moment : t.now.running ≡ None
  pub acted : t.now.acted ≡ length lines
  pub time : t.now.time ≡ last_time lines
  pub played : (L : Plan) → Continues lines L → (h : List Part) × IsPlayed fits P L h t

-- the timeline came to the time u, at which nothing is due
pub record Comes (fits : Fraction → Type 0) (P : Problem) (u : Fraction) (old new : TimelineView) : Type 0 where
  pub arrives : Arrives fits P u old new
  pub acted_is : new.now.acted ≡ old.now.acted
  pub time_is : new.now.time ≡ u

-- the stop stands on the way to the time u
pub record HaltsOnWay {Q : Type 0} (v : Q → Fraction) (fits : Fraction → Type 0) (P : Problem) (u : Fraction) (old : TimelineView) (stop : Stop Q) : Type 0 where
  pub halts :
      (L : Plan) (acted : ℕ) (h : List Part) → HasBegun L → IsOnWay fits P L u acted h old → HaltsBy v fits P old.most L stop

abbrev pub WayHalts : {Q : Type 0} → (Q → Fraction) → (Fraction → Type 0) → Problem → Fraction → TimelineView → Stop Q → Type 0
WayHalts v fits P u old (Breach b) = HaltsOnWay v fits P u old (Breach b)
WayHalts v fits P u old (Limit l) = HaltsOnWay v fits P u old (Limit l)
WayHalts v fits P u old Ended = ⊥
WayHalts v fits P u old Memory = Unit {0}

-- one more step, after which it is on its way still
pub record GoesOn (fits : Fraction → Type 0) (P : Problem) (u : Fraction) (old new : TimelineView) : Type 0 where
  pub steps : StepsOn fits P u old new
  pub acted_is : new.now.acted ≡ old.now.acted

-- the answer of a step says that the time is reached
abbrev pub there_by : {Q : Type 0} → Next Q → Bool
there_by Round = false
there_by Run = false
there_by (Entry t) = false
there_by There = true

abbrev pub StepTold : (Fraction → Type 0) → Problem → Fraction → TimelineView → TimelineView → Bool → Type 0
StepTold fits P u old new true = Comes fits P u old new
StepTold fits P u old new false = GoesOn fits P u old new

-- the timeline goes on, at a moment
pub record Rests (P : Problem) (t : TimelineView) : Type 0 where
  pub can : CanGoOn P t
  pub moment : t.now.running ≡ None

-- an action was done at the time u: the timeline rests there
pub record ActsAt (P : Problem) (u : Fraction) (old new : TimelineView) : Type 0 where
  pub rests : Rests P new
  pub most : new.most ≡ old.most
  pub time : new.now.time ≡ u
  pub acted : new.now.acted ≡ suc old.now.acted
