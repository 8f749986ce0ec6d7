-- How a run of a plan stands: its timeline and what it tells are those of one history of the lines read.
use Rattle.std.specs.Prelude.{◌≡◌, ◌⊎◌, ℕ, ◌+◌, ◌<◌, Bool, true, false, List, [], ◌∷◌, ◌++◌, length, Some, None, pos, All, if◌then◌else◌}
use Rattle.plus_fraction.specs.Fraction.{Fraction, whole}
use Rattle.plus_model.specs.Terms.{Action, Problem}
use Rattle.plus_model.specs.Plan.{Called, Instance, Line, ActLine, EndLine, Plan}
use Rattle.plus_model.specs.History as history
use Rattle.plus_model.specs.History.{Part}
use Rattle.plus_model.specs.Trajectory.{next_line, IsWorked, Prefix, view_of}
use Rattle.plus_state.specs.View.{Labels}
use Rattle.plus_timeline.specs.Timeline.{TimelineView, begun}
use Rattle.plus_timeline.specs.Advance.{Advances}
use Rattle.plus_timeline.specs.Serving.{Serves}
use Rattle.plus_indexed.specs.Indexed.{IndexedView}
use Rattle.plus_indexed.specs.Knows.{Knows}
use Rattle.plus_report.specs.Text.{entry_text, literals_text, round_text, run_text}
use Rattle.plus_timeline.specs.declared.next.Next.{Next}
use Rattle.plus_timeline.specs.declared.next.Next.TheVariants.{Round, Run, Entry, There}
use Rattle.plus_number.specs.declared.frac.Frac64.{Frac64}
use Rattle.plus_number.specs.Frac.{fraction_of, IsFrac64}
use Rattle.plus_stretch.specs.Tests.{Test, AllPass}
use Rattle.plus_timeline.specs.Asked.{asked}
use Rattle.plus_timeline.specs.Played as played
use Rattle.plus_timeline.specs.Played.{entries_of}
use Rattle.plus_timeline.specs.StepsLeft as steps
use Rattle.plus_validator.specs.Account.{Account}
use Rattle.plus_validator.specs.Asking.{firings_of}
use Rattle.plus_validator.specs.Told.{Telling}

-- this is what is told of the history
pub record IsTold {V : Type 0} (P : Problem) (T : Telling P V) (L : Plan) (account : Account V) (h : List Part) : Type 0 where
  pub tells : T.Tells L h account.told
  pub entries : account.entries ≡ entries_of h
  pub firings : account.firings ≡ firings_of h

-- the timeline and what is told are those of this history of the plan, and all that is asked before passes
abbrev pub IsPlayed : {V : Type 0} (P : Problem) → Telling P V → Plan → (ℕ → List Test) → List Part → TimelineView → Account V → Type 0
IsPlayed P T L instance h t account = played.IsPlayed IsFrac64 P L instance (IsTold P T L account) h t

-- the timeline goes on, with this problem
abbrev pub CanGoOn : Problem → IndexedView → Type 0
CanGoOn P t = steps.CanGoOn (Knows IsFrac64 P t) t.line

-- the timeline may go on up to this time
abbrev pub CanReach : Problem → Fraction → IndexedView → Type 0
CanReach P until t = steps.CanReach (Knows IsFrac64 P t) until t.line

-- what a step adds to the report
abbrev pub next_text : {Q : Type 0} → (Q → Fraction) → Labels → Problem → TimelineView → Next Q → List ℕ
next_text value N P t Round = round_text N P t.events t.before t.now.state
next_text value N P t Run = run_text P t.running
next_text value N P t (Entry time) =
    entry_text N (value time) t.before t.arrival ++ (if t.literal then literals_text N t.arrival t.now.state else [])
next_text value N P t There = []

-- how many moments a step enters
abbrev pub entries_in : {Q : Type 0} → Next Q → ℕ
entries_in Round = 0
entries_in Run = 0
entries_in (Entry time) = 1
entries_in There = 0

-- how many events fire in a step
abbrev pub firings_in : {Q : Type 0} → TimelineView → Next Q → ℕ
firings_in t Round = length t.events
firings_in t Run = 0
firings_in t (Entry time) = 0
firings_in t There = 0

-- what is told after one part more, which comes where the timeline stood so
abbrev pub TellsPart : {V : Type 0} (P : Problem) → Telling P V → TimelineView → Part → V → V → Type 0
TellsPart P T old part before after =
    (L : Plan) (h : List Part) → Prefix P L h → old.now ≡ view_of P h → T.Tells L h before → T.Tells L (h ++ part ∷ []) after

-- by a step, which may add none
abbrev pub TellsNext : {Q V : Type 0} (P : Problem) → Telling P V → TimelineView → TimelineView → Next Q → V → V → Type 0
TellsNext P T old new Round before after = TellsPart P T old (history.Round new.events new.now.state) before after
TellsNext P T old new Run before after = TellsPart P T old (history.Run new.running) before after
TellsNext P T old new (Entry time) before after = TellsPart P T old (history.Enter new.now.time new.arrival new.now.state) before after
TellsNext P T old new There before after = after ≡ before

-- by any step that leads here from a timeline of the problem
abbrev pub TellsStep : {V : Type 0} (P : Problem) → Telling P V → TimelineView → Next Frac64 → V → V → Type 0
TellsStep P T new next before after =
    (old : TimelineView) (u : Fraction) → Serves P old → Advances fraction_of P u old new next → TellsNext P T old new next before after

-- by an action, in each plan in which it is due
abbrev pub TellsAct : {V : Type 0} (P : Problem) → Telling P V → Action → TimelineView → TimelineView → V → V → Type 0
TellsAct P T action old new before after =
    (L : Plan) (h : List Part) → Prefix P L h → old.now ≡ view_of P h → next_line L old.now ≡ Some (ActLine old.now.time (Instance action))
    → T.Tells L h before → T.Tells L (h ++ history.Act old.now.acted new.now.state ∷ []) after

-- and what is counted in a step
pub record AccountsNext {Q V : Type 0} (P : Problem) (T : Telling P V) (old new : TimelineView) (next : Next Q) (before after : Account V) : Type 0 where
  pub tells : TellsNext P T old new next before.told after.told
  pub entries : after.entries ≡ before.entries + entries_in next
  pub firings : after.firings ≡ before.firings + firings_in new next

-- whether an end was read, and the time of the last line, which is 0 where there is none
abbrev pub EndsBy : List Line → Bool → Fraction → Type 0
EndsBy lines true time = (before : List Line) × (lines ≡ before ++ EndLine time ∷ [])
EndsBy lines false time =
    ((lines ≡ []) × (time ≡ whole (pos 0)))
    ⊎ ((before : List Line) × (call : Called) × (lines ≡ before ++ ActLine time call ∷ []))

-- every action read is acted
abbrev pub AllActed : List Line → Bool → ℕ → Type 0
AllActed lines true acted = acted + 1 ≡ length lines
AllActed lines false acted = acted ≡ length lines

-- all lines read are worked, and all that is asked there passes
pub record HasWorked (P : Problem) (L : Plan) (instance : ℕ → List Test) (t : TimelineView) : Type 0 where
  pub worked : IsWorked P L t.now
  pub passed : AllPass IsFrac64 (asked P L t.most instance t.entries t.now)

-- so it is, or none is read
pub record IsReady {V : Type 0} (P : Problem) (T : Telling P V) (L : Plan) (instance : ℕ → List Test) (ended : Bool) (h : List Part) (t : TimelineView) (account : Account V) : Type 0 where
  pub played : IsPlayed P T L instance h t account
  pub not_closed : L.closed ≡ false
  pub last : EndsBy L.lines ended t.now.time
  pub acted : AllActed L.lines ended t.now.acted
  pub moment : t.now.running ≡ None
  pub worked : (L.lines ≡ []) ⊎ HasWorked P L instance t

-- up to the time of the next line nothing is left to do
abbrev pub IsReached : {V : Type 0} (P : Problem) → Telling P V → Plan → (ℕ → List Test) → ℕ → Fraction → List Part → TimelineView → Account V → Type 0
IsReached P T L instance acted time h t account = played.IsReached IsFrac64 P L instance (IsTold P T L account) time acted h t

-- whether the answer is `There`
abbrev pub is_there : {Q : Type 0} → Next Q → Bool
is_there Round = false
is_there Run = false
is_there (Entry t) = false
is_there There = true

-- the timeline is one of a ground problem that fits
pub record CanShow (P : Problem) (t : TimelineView) : Type 0 where
  pub atoms : t.atoms ≡ P.atoms
  pub fluents : t.fluents ≡ P.fluents

-- along the stretch before an entry fluents alone move, and its literals change atoms alone
pub record MovesThenChanges (t : TimelineView) : Type 0 where
  pub atoms : t.arrival.atoms ≡ t.before.atoms
  pub fluents : t.now.state.fluents ≡ t.arrival.fluents

-- what is to be written of the step are events or processes of the problem, or the two halves of an entry
abbrev pub IsShown : {Q : Type 0} → Problem → TimelineView → Next Q → Type 0
IsShown P t Round = All (λ e. e < length P.events) t.events
IsShown P t Run = All (λ p. p < length P.processes) t.running
IsShown P t (Entry time) = MovesThenChanges t
IsShown P t There = Unit {0}

-- the timeline has begun
abbrev pub IsBegun : Problem → TimelineView → Type 0
IsBegun P t = (most : ℕ) × (t ≡ begun P most)

-- it took this step, from somewhere and toward some time
pub record IsStep (P : Problem) (new : TimelineView) (next : Next Frac64) : Type 0 where
  pub old : TimelineView
  pub until : Fraction
  pub serves : Serves P old
  pub does : Advances fraction_of P until old new next
