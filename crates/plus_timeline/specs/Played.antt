-- When a timeline is that of a history of a plan, and how far it has come. What else is kept of the history, as a report of it, stands
-- beside: `Beside` says that it is kept of this history.
use Rattle.std.specs.Prelude.{◌≡◌, ℕ, suc, List, [], ◌∷◌, ◌++◌}
use Rattle.plus_fraction.specs.Fraction.{Fraction}
use Rattle.plus_model.specs.Terms.{Problem}
use Rattle.plus_model.specs.Plan.{Plan}
use Rattle.plus_model.specs.History.{Part, Enter, Round, Act, Run}
use Rattle.plus_model.specs.Trajectory.{target, until, Prefix, view_of}
use Rattle.plus_model.specs.Breach.{IsPresent}
use Rattle.plus_stretch.specs.Tests.{Test, AllPass}
use Rattle.plus_timeline.specs.Timeline.{TimelineView}
use Rattle.plus_timeline.specs.Asked.{advance_tests, asked}

-- ---- what is asked at a history

-- how many moments a history enters
abbrev pub entries_of : List Part → ℕ
entries_of [] = 0
entries_of (Enter t a s ∷ h) = suc (entries_of h)
entries_of (Round events s ∷ h) = entries_of h
entries_of (Act i s ∷ h) = entries_of h
entries_of (Run running ∷ h) = entries_of h

-- what is asked there; `instance` gives what is asked of the instance of each action of the plan
abbrev pub asked_at : Problem → Plan → ℕ → (ℕ → List Test) → List Part → List Test
asked_at P L most instance h = asked P L most instance (entries_of h) (view_of P h)

-- all of it passes
abbrev pub NoneFails : (Fraction → Type 0) → Problem → Plan → ℕ → (ℕ → List Test) → List Part → Type 0
NoneFails fits P L most instance h = AllPass fits (asked_at P L most instance h)

-- all that is asked at each shorter history passes
abbrev pub IsClear : (Fraction → Type 0) → Problem → Plan → ℕ → (ℕ → List Test) → List Part → Type 0
IsClear fits P L most instance h =
    (g : List Part) (part : Part) (rest : List Part) → Prefix P L g → h ≡ g ++ part ∷ rest → NoneFails fits P L most instance g

-- ---- the timeline

-- the timeline is that of this history of the plan, so is what stands beside it, and all that is asked before passes
pub record IsPlayed (fits : Fraction → Type 0) (P : Problem) (L : Plan) (instance : ℕ → List Test) (Beside : List Part → Type 0) (h : List Part) (t : TimelineView) : Type 0 where
  pub prefix : Prefix P L h
  pub now : t.now ≡ view_of P h
  pub entries : t.entries ≡ entries_of h
  pub beside : Beside h
  pub clear : IsClear fits P L t.most instance h

-- by this history it is on its way to the time u, which is that of the next line; so many actions are done
pub record IsOnWay (fits : Fraction → Type 0) (P : Problem) (L : Plan) (instance : ℕ → List Test) (Beside : List Part → Type 0) (u : Fraction) (acted : ℕ) (h : List Part) (t : TimelineView) : Type 0 where
  pub played : IsPlayed fits P L instance Beside h t
  pub target_is : target L t.now ≡ u
  pub acted_is : t.now.acted ≡ acted

-- up to the time u of the next line nothing is left to do
pub record IsReached (fits : Fraction → Type 0) (P : Problem) (L : Plan) (instance : ℕ → List Test) (Beside : List Part → Type 0) (u : Fraction) (acted : ℕ) (h : List Part) (t : TimelineView) : Type 0 where
  pub played : IsPlayed fits P L instance Beside h t
  pub present : IsPresent P t.now
  pub over : until P L t.now ≡ t.now.time
  pub passed : AllPass fits (advance_tests P t.most t.entries (until P L t.now) t.now)
  pub acted_is : t.now.acted ≡ acted
  pub time_is : t.now.time ≡ u
