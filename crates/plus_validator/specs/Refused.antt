-- Where a plan text is refused: the history that its lines before tell, why it goes on no further, and which verdict says so.
use Rattle.std.specs.Prelude.{◌≡◌, ◌≢◌, ◌⊎◌, ℕ, ◌+◌, ◌≤◌, Bool, true, false, List, [], ◌∷◌, ◌++◌, length, map, All, Result, Ok, Err, IsSomeAnd, nat_lt, if◌then◌else◌}
use Rattle.plus_model.specs.Terms.{Problem}
use Rattle.plus_model.specs.Plan as plan
use Rattle.plus_model.specs.Plan.{Plan}
use Rattle.plus_model.specs.History.{Part}
use Rattle.plus_model.specs.Trajectory.{HasBegun, next_line, IsWorked, Prefix, Trajectory, view_of}
use Rattle.plus_model.specs.Breach as model
use Rattle.plus_model.specs.Breach.{Breaks, BreaksBy, TimeGoesBack, AfterEnd}
use Rattle.plus_model.specs.Laws.{Begins, IsLongest}
use Rattle.plus_number.specs.declared.frac.Frac64.{Frac64}
use Rattle.plus_number.specs.Frac.{fraction_of, IsFrac64}
use Rattle.plus_state.specs.declared.outcome.Breach.{Breach}
use Rattle.plus_state.specs.declared.outcome.Breach.TheVariants as breaches
use Rattle.plus_tree.specs.declared.trees.Domain.{Domain}
use Rattle.plus_tree.specs.declared.trees.Problem as tree
use Rattle.plus_plan.specs.declared.forms.Time.{Time}
use Rattle.plus_plan.specs.declared.forms.Line.{Line}
use Rattle.plus_plan.specs.declared.forms.Line.TheVariants.{Blank, Act, End, Step}
use Rattle.plus_plan.specs.declared.forms.PlanForm.TheVariants.{Timed}
use Rattle.plus_plan.specs.declared.faults.PlanFault.{PlanFault}
use Rattle.plus_plan.specs.declared.faults.PlanFault.TheVariants as faults
use Rattle.plus_plan.specs.Lines.{plan_lines}
use Rattle.plus_plan.specs.Spells.{line_limit}
use Rattle.plus_plan.specs.TimeValue.{value_of}
use Rattle.plus_expansion.specs.Expansion.{expanded, labels_meant}
use Rattle.plus_expansion.specs.Counting.{most_nodes, IsGroundable}
use Rattle.plus_stretch.specs.Tests.{Test, too_many_nodes, no_number, breach, of_limit, breach_of}
use Rattle.plus_report.specs.declared.verdicts.Verdict.{Verdict}
use Rattle.plus_report.specs.declared.verdicts.Verdict.TheVariants.{Valid, Invalid, Beyond, Other}
use Rattle.plus_report.specs.declared.refusals.Early.{Early}
use Rattle.plus_report.specs.declared.refusals.Early.TheVariants.{BadLine, TooLong, LineTooLong, Literal, TooMany}
use Rattle.plus_report.specs.declared.refusals.Kinds.TheVariants as kinds
use Rattle.plus_report.specs.declared.refusals.Text.TheVariants as texts
use Rattle.plus_report.specs.Report.{called_label, report_of}
use Rattle.plus_report.specs.Verdicts.{verdict_text}
use Rattle.plus_validator.specs.declared.judge.Outcome.{Outcome}
use Rattle.plus_timeline.specs.Played.{entries_of}
use Rattle.plus_validator.specs.Asking.{instances_of, NoneFails, Fails, IsClear}
use Rattle.plus_validator.specs.Outcomes.{outcome_of}
use Rattle.plus_validator.specs.Plans.{Pair, pair, line_meant, plan_of, Reading, reading_of, plan_in, HasTime, HasValue}

-- ---- a verdict stands at a history of the lines read

-- the plan breaks there by this breach, which is the first test that fails
pub record IsBroken (P : Problem) (L : Plan) (most : ℕ) (instance : ℕ → List Test) (h : List Part) (b : model.Breach) : Type 0 where
  pub breaks : Breaks P L h b
  pub first : Fails P L most instance h (breach b)

-- a limit of the instance that is due is the first test that fails
abbrev pub StandsEarly : Problem → Plan → ℕ → (ℕ → List Test) → List Part → Early → Type 0
StandsEarly P L most instance h (TooMany kind n) = (kind ≡ kinds.Nodes) × (n ≡ most_nodes) × Fails P L most instance h (too_many_nodes n)
StandsEarly P L most instance h (Literal texts.Domain start last) = Fails P L most instance h (no_number start last)
StandsEarly P L most instance h _ = ⊥

-- it is the first test that fails there: a breach by which the plan breaks, or a limit
abbrev pub Stands : Problem → Plan → ℕ → (ℕ → List Test) → List Part → Verdict Frac64 → Type 0
Stands P L most instance h (Invalid b) = IsSomeAnd (breach_of fraction_of (view_of P h).acted b) (IsBroken P L most instance h)
Stands P L most instance h (Beyond l) = Fails P L most instance h (of_limit fraction_of l)
Stands P L most instance h (Other early) = StandsEarly P L most instance h early
Stands P L most instance h Valid = ⊥

-- the line that a breach names, if any, has this number, and its action this label
abbrev pub BreachNames : ℕ → List ℕ → Breach Frac64 → Type 0
BreachNames n label (breaches.UnknownAction line name) = line ≡ n
BreachNames n label (breaches.WrongArguments line name) = line ≡ n
BreachNames n label (breaches.Precondition line whose) = (line ≡ n) × (whose ≡ label)
BreachNames n label (breaches.TimeGoesBack line) = ⊥
BreachNames n label (breaches.AfterEnd line) = ⊥
BreachNames n label _ = Unit {0}

abbrev pub NamesLine : ℕ → List ℕ → Verdict Frac64 → Type 0
NamesLine n label (Invalid b) = BreachNames n label b
NamesLine n label _ = Unit {0}

-- no line is named
abbrev pub NamesNone : Breach Frac64 → Type 0
NamesNone (breaches.UnknownAction line name) = ⊥
NamesNone (breaches.WrongArguments line name) = ⊥
NamesNone (breaches.Precondition line whose) = ⊥
NamesNone (breaches.TimeGoesBack line) = ⊥
NamesNone (breaches.AfterEnd line) = ⊥
NamesNone _ = Unit {0}

abbrev pub NamesNoLine : Verdict Frac64 → Type 0
NamesNoLine (Invalid b) = NamesNone b
NamesNoLine _ = Unit {0}

-- ---- why a plan is refused

-- all lines read are worked, and all that is asked there passes
pub record AreDone (P : Problem) (L : Plan) (most : ℕ) (instance : ℕ → List Test) (h : List Part) : Type 0 where
  pub worked : IsWorked P L (view_of P h)
  pub passed : NoneFails P L most instance h

-- so it is, or none is read
abbrev pub IsWaiting : Problem → Plan → ℕ → (ℕ → List Test) → List Part → Type 0
IsWaiting P L most instance h = (L.lines ≡ []) ⊎ AreDone P L most instance h

-- the verdict on a line that is none: its number, and where it is refused
abbrev pub NamesFault : PlanFault → Verdict Frac64 → Type 0
NamesFault (faults.NotLine n start last) v = v ≡ Other (BadLine n start last)
NamesFault (faults.LineTooLong n) v = v ≡ Other (LineTooLong n)
NamesFault faults.Memory v = ⊥

-- the lines before are worked, and the next is none
pub record IsBadLine (d : Pair) (P : Problem) (most : ℕ) (before : List Line) (fault : PlanFault) (reading : Reading) (h : List Part) (v : Verdict Frac64) : Type 0 where
  pub reads : reading ≡ reading_of before false
  pub waits : IsWaiting P (plan_of d before false) most (instances_of d before) h
  pub names : NamesFault fault v

-- the number of a line in its text, where it is one of a plan
abbrev pub number_in : Line → ℕ
number_in Blank = 0
number_in (Act n time call) = n
number_in (End n time) = n
number_in (Step n call) = n

-- why a line cannot be played after those that are worked: it stands after an end; or its time is no
-- value; or its time is before that of the last line
pub data TimeFault (P : Problem) (L : Plan) (h : List Part) (n : ℕ) (meant : plan.Line) (time : Time) (v : Verdict Frac64) : Type 0 where
  after_end : BreaksBy P L h meant AfterEnd → v ≡ Invalid (breaches.AfterEnd n) → TimeFault P L h n meant time v
  no_value :
      (BreaksBy P L h meant AfterEnd → ⊥) → (IsFrac64 (value_of time) → ⊥)
      → v ≡ Other (Literal texts.Plan time.span.start time.span.«end») → TimeFault P L h n meant time v
  goes_back :
      BreaksBy P L h meant TimeGoesBack → IsFrac64 (value_of time)
      → v ≡ Invalid (breaches.TimeGoesBack n) → TimeFault P L h n meant time v

-- the lines before are worked, and the next cannot be played because of its place or its time
pub record IsTimeRefused (d : Pair) (P : Problem) (most : ℕ) (before : List Line) (line : Line) (reading : Reading) (h : List Part) (v : Verdict Frac64) : Type 0 where
  pub reads : reading ≡ reading_of before false
  pub waits : IsWaiting P (plan_of d before false) most (instances_of d before) h
  pub meant : plan.Line
  pub meant_is : line_meant d line ≡ meant ∷ []
  pub time : Time
  pub time_is : HasTime line time
  pub why : TimeFault P (plan_of d before false) h (number_in line) meant time v

-- these lines are worked in a beginning of the history
pub record AreWorked (d : Pair) (P : Problem) (most : ℕ) (lines : List Line) (h : List Part) : Type 0 where
  pub front : List Part
  pub prefix : Prefix P (plan_of d lines false) front
  pub waits : IsWaiting P (plan_of d lines false) most (instances_of d lines) front
  pub begins : Begins front h

-- Of the whole lines of a text the first are played, or all, and then its end may be: those before the last are worked in a
-- beginning of the history, and so is the last unless the history stops on the way that it tells.
pub record IsPlayedOn (d : Pair) (P : Problem) (most : ℕ) (goes_on : Bool) (whole : List ℕ) (reading : Reading) (h : List Part) : Type 0 where
  pub before : List Line  -- those that are worked
  pub last : List Line
  pub are : reading.lines ≡ before ++ last
  pub one : length last ≤ 1
  pub rest : List (Result Line PlanFault)
  pub read : plan_lines Timed whole ≡ map Ok reading.lines ++ rest
  pub all_read : reading.closed ≡ true → (last ≡ []) × (rest ≡ []) × (goes_on ≡ false)
  pub times : All HasValue reading.lines
  pub worked : AreWorked d P most before h

-- the lines before are worked, the next has its place and its time, and then a breach or a limit stands on the way to it or
-- in it
pub record IsStopped (d : Pair) (P : Problem) (most : ℕ) (before : List Line) (line : Line) (reading : Reading) (h : List Part) (v : Verdict Frac64) : Type 0 where
  pub reads : reading ≡ reading_of (before ++ line ∷ []) false
  pub begun : HasBegun (plan_of d (before ++ line ∷ []) false)
  pub value : HasValue line
  pub worked : AreWorked d P most before h
  pub stands : Stands P (plan_of d (before ++ line ∷ []) false) most (instances_of d (before ++ line ∷ [])) h v
  pub names : NamesLine (number_in line) (called_label (next_line (plan_of d (before ++ line ∷ []) false) (view_of P h))) v

-- all lines are read and worked, and then a breach or a limit stands at the end
pub record IsStoppedAtEnd (d : Pair) (P : Problem) (most : ℕ) (before : List Line) (reading : Reading) (h : List Part) (v : Verdict Frac64) : Type 0 where
  pub reads : reading ≡ reading_of before true
  pub worked : AreWorked d P most before h
  pub stands : Stands P (plan_of d before true) most (instances_of d before) h v
  pub names : NamesNoLine v

-- which limit a text is over whose last line, of this number, is cut off behind so many bytes
abbrev pub cut_verdict : ℕ → ℕ → Early
cut_verdict n size = if nat_lt line_limit size then LineTooLong n else TooLong texts.Plan

-- all whole lines are worked, and the text goes on behind the limit
pub record IsCutOff (d : Pair) (P : Problem) (most : ℕ) (before : List Line) (piece : List ℕ) (reading : Reading) (h : List Part) (v : Verdict Frac64) : Type 0 where
  pub reads : reading ≡ reading_of before false
  pub waits : IsWaiting P (plan_of d before false) most (instances_of d before) h
  pub is : v ≡ Other (cut_verdict (length before + 1) (length piece))

abbrev pub EndRefused : Pair → Problem → ℕ → Bool → List ℕ → List Line → Reading → List Part → Verdict Frac64 → Type 0
EndRefused d P most false piece before reading h v = IsStoppedAtEnd d P most before reading h v
EndRefused d P most true piece before reading h v = IsCutOff d P most before piece reading h v

-- why the plan goes on no further, by what is left of the text behind the lines accepted
abbrev pub Cause : Pair → Problem → ℕ → Bool → List ℕ → List Line → List (Result Line PlanFault) → Reading → List Part → Verdict Frac64 → Type 0
Cause d P most goes_on piece before [] reading h v = EndRefused d P most goes_on piece before reading h v
Cause d P most goes_on piece before (Err fault ∷ rest) reading h v = IsBadLine d P most before fault reading h v
Cause d P most goes_on piece before (Ok line ∷ rest) reading h v =
    IsTimeRefused d P most before line reading h v ⊎ IsStopped d P most before line reading h v

-- ---- what follows for every plan that begins so

-- no plan that begins with these lines has a trajectory
abbrev pub NonePlays : Pair → Problem → List Line → Type 0
NonePlays d P lines = (more : List Line) (closed : Bool) (h : List Part) → Trajectory P (plan_of d (lines ++ more) closed) h → ⊥

-- a breach tells this, and a goal that fails that these lines alone have none
abbrev pub BreachRefutes : Pair → Problem → List Line → Breach Frac64 → Type 0
BreachRefutes d P lines breaches.Goal = (h : List Part) → Trajectory P (plan_of d lines true) h → ⊥
BreachRefutes d P lines _ = NonePlays d P lines

abbrev pub Refutes : Pair → Problem → List Line → Verdict Frac64 → Type 0
Refutes d P lines (Invalid b) = BreachRefutes d P lines b
Refutes d P lines _ = Unit {0}

-- the line that is read next, where it is one
abbrev pub line_next : List (Result Line PlanFault) → List Line
line_next [] = []
line_next (Ok line ∷ rest) = line ∷ []
line_next (Err fault ∷ rest) = []

-- a text refused is no limit of what happens, and an instance that is over a limit is one
abbrev pub IsOfText : Early → Type 0
IsOfText (TooMany kind most) = ⊥
IsOfText (Literal texts.Domain start last) = ⊥
IsOfText _ = Unit {0}

-- the verdict is no limit of what happens
abbrev pub IsNoLimit : Verdict Frac64 → Type 0
IsNoLimit (Beyond l) = ⊥
IsNoLimit (Other early) = IsOfText early
IsNoLimit _ = Unit {0}

-- ---- a refusal

-- how far the lines of a text are played, and the verdict on them
pub record Refusal (d : Pair) (P : Problem) (most : ℕ) (goes_on : Bool) (whole piece : List ℕ) (v : Verdict Frac64) : Type 0 where
  pub before : List Line  -- read and accepted
  pub rest : List (Result Line PlanFault)
  pub read : plan_lines Timed whole ≡ map Ok before ++ rest
  pub times : All HasValue before
  pub reading : Reading  -- the lines played: those accepted, and perhaps the next
  pub history : List Part  -- what happens before the refusal
  pub prefix : Prefix P (plan_in d reading) history
  pub few : entries_of history ≤ most
  -- no limit stands before
  pub clear : IsClear P (plan_in d reading) most (instances_of d reading.lines) history
  pub cause : Cause d P most goes_on piece before rest reading history v
  -- it is the one longest before which none stands, and where no limit is named the one longest that these lines tell
  pub furthest :
      (other : List Part) → Prefix P (plan_in d reading) other
      → IsClear P (plan_in d reading) most (instances_of d reading.lines) other → Begins other history
  pub longest : IsNoLimit v → IsLongest P (plan_in d reading) history
  pub final : Refutes d P (before ++ line_next rest) v

-- a text whose end is cut off, behind its last LF: its whole lines, and a piece of one
pub record IsCut (text whole piece : List ℕ) : Type 0 where
  pub is : text ≡ whole ++ piece
  pub in_one_line : All (λ b. b ≢ 10) piece
  pub at_line : (whole ≡ []) ⊎ (front : List ℕ) × (whole ≡ front ++ 10 ∷ [])

-- the whole lines of a text that is read to its end, or goes on
abbrev pub WholeLines : Bool → List ℕ → List ℕ → List ℕ → Type 0
WholeLines false text whole piece = whole ≡ text
WholeLines true text whole piece = IsCut text whole piece

-- the pair is inside the limits, the text is refused with this outcome, and these bytes are its report and its verdict line
pub record IsRefused (d : Domain) (p : tree.Problem) (most : ℕ) (text : List ℕ) (goes_on : Bool) (outcome : Outcome) (bytes : List ℕ) : Type 0 where
  pub groundable : IsGroundable IsFrac64 d p
  pub whole : List ℕ
  pub piece : List ℕ
  pub cut : WholeLines goes_on text whole piece
  pub verdict : Verdict Frac64
  pub outcome_is : outcome ≡ outcome_of verdict
  pub refusal : Refusal (pair d p) (expanded d p) most goes_on whole piece verdict
  pub written :
      bytes
      ≡ report_of (labels_meant d p) (expanded d p) (plan_in (pair d p) refusal.reading) refusal.history
      ++ verdict_text fraction_of (labels_meant d p) (expanded d p) verdict
