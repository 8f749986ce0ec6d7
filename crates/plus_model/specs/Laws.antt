-- The laws over the definitions alone. Each is the contract of a function of `src/laws.rt`, and so
-- proved. First: what happens is determined. Of two prefixes of one plan one begins the other, a
-- plan has at most one trajectory, and at most one breach. Second: what a reader of a plan's first
-- lines may rely on. A prefix stays one whatever lines follow, a breach is final, and time never
-- passes the next line. Third: what a search for the next moment may rely on.
use Rattle.std.specs.Prelude.{◌≡◌, ◌≢◌, ◌⊎◌, ◌↔◌, Bool, true, List, [], ◌∷◌, ◌++◌, Some, None, slice_get, pos}
use Rattle.plus_fraction.specs.Fraction.{Fraction, whole, ◌<ℚ◌, ◌≤ℚ◌}
use Rattle.plus_model.specs.Terms.{Condition, State, Problem}
use Rattle.plus_model.specs.Value.{holds}
use Rattle.plus_model.specs.Running.{moved, JustAfter}
use Rattle.plus_model.specs.Piece.{after, IsStraight, NoRoot}
use Rattle.plus_model.specs.Live.{live}
use Rattle.plus_model.specs.Plan.{Called, Line, ActLine, time_of, Plan, IsInOrder}
use Rattle.plus_model.specs.History.{Part, View, view_after}
use Rattle.plus_model.specs.Trajectory.{next_line, time_or, until, HasBegun, IsWorked, Next, Prefix, Trajectory, first_part, view_of}
use Rattle.plus_model.specs.Breach.{Breach, Goal, LineBreach, IsBreach, Breaks, IsLineBreach, BreaksBy}

-- h is the first parts of h'
pub record Begins (h h' : List Part) : Type 0 where
  pub rest : List Part
  pub is : h' ≡ h ++ rest

-- a plan whose lines begin with those of L
pub record GoesOnFrom (L L' : Plan) : Type 0 where
  pub more : List Line
  pub lines : L'.lines ≡ L.lines ++ more

-- the first line is at 0 or later
abbrev pub BeginsInTime : Plan → Type 0
BeginsInTime L = whole (pos 0) ≤ℚ time_or (slice_get L.lines 0) (whole (pos 0))

-- no prefix is longer: each is a beginning of this one
pub record IsLongest (P : Problem) (L : Plan) (h : List Part) : Type 0 where
  pub prefix : Prefix P L h
  pub longest : (h' : List Part) → Prefix P L h' → Begins h' h

-- ---- what happens is determined

-- of two prefixes one begins the other
abbrev pub OnePath : Type 0
OnePath =
    (P : Problem) (L : Plan) (h h' : List Part) → Prefix P L h → Prefix P L h' → Begins h h' ⊎ Begins h' h

-- there is at most one trajectory
abbrev pub OneTrajectory : Type 0
OneTrajectory =
    (P : Problem) (L : Plan) (h h' : List Part) → Trajectory P L h → Trajectory P L h' → h ≡ h'

-- at a view one breach stands at most
abbrev pub OneBreach : Type 0
OneBreach =
    (P : Problem) (L : Plan) (v : View) (b c : Breach) → IsBreach P L v b → IsBreach P L v c → b ≡ c

-- a line that is read next has one breach at most
abbrev pub OneLineBreach : Type 0
OneLineBreach =
    (P : Problem) (L : Plan) (v : View) (line : Line) (b c : LineBreach)
    → IsLineBreach P L v line b → IsLineBreach P L v line c → b ≡ c

-- where such a breach stands, no other does
abbrev pub LineBreachIsAlone : Type 0
LineBreachIsAlone =
    (P : Problem) (L : Plan) (v : View) (line : Line) (b : LineBreach) (c : Breach)
    → IsLineBreach P L v line b → IsBreach P L v c → ⊥

-- there is at most one longest prefix
abbrev pub OneLongest : Type 0
OneLongest = (P : Problem) (L : Plan) (h h' : List Part) → IsLongest P L h → IsLongest P L h' → h ≡ h'

-- where a breach stands, no prefix is longer
abbrev pub BreachIsLongest : Type 0
BreachIsLongest =
    (P : Problem) (L : Plan) (h : List Part) (b : Breach) → Breaks P L h b → IsLongest P L h

-- where the lines are worked, no prefix is longer
abbrev pub WorkedIsLongest : Type 0
WorkedIsLongest =
    (P : Problem) (L : Plan) (h : List Part) → Prefix P L h → IsWorked P L (view_of P h) → IsLongest P L h

-- before the plan has begun, no prefix is longer than the first part
abbrev pub UnbegunIsLongest : Type 0
UnbegunIsLongest =
    (P : Problem) (L : Plan) (h : List Part) → Prefix P L h → (HasBegun L → ⊥) → IsLongest P L h

-- a plan breaks at one history at most, and by one breach
abbrev pub OneBrokenPrefix : Type 0
OneBrokenPrefix =
    (P : Problem) (L : Plan) (h h' : List Part) (b c : Breach)
    → Breaks P L h b → Breaks P L h' c → (h ≡ h') × (b ≡ c)

-- a plan that breaks has no trajectory, whatever the breach
abbrev pub BreachIsNoTrajectory : Type 0
BreachIsNoTrajectory =
    (P : Problem) (L : Plan) (h h' : List Part) (b : Breach) → Breaks P L h b → Trajectory P L h' → ⊥

-- a prefix with this property, none of whose proper first parts has it
pub record StopsFirst (Stop : List Part → Type 0) (P : Problem) (L : Plan) (h : List Part) : Type 0 where
  pub prefix : Prefix P L h
  pub stops : Stop h
  pub none_before : (g : List Part) → Prefix P L g → Begins g h → g ≢ h → Stop g → ⊥

-- there is one such prefix at most, whatever the property
abbrev pub OneFirstStop : Type 1
OneFirstStop =
    (Stop : List Part → Type 0) (P : Problem) (L : Plan) (h h' : List Part)
    → StopsFirst Stop P L h → StopsFirst Stop P L h' → h ≡ h'

-- the same where a test tells the property
abbrev pub OneFirstStopByTest : Type 0
OneFirstStopByTest =
    (stop : List Part → Bool) (P : Problem) (L : Plan) (h h' : List Part)
    → StopsFirst (λ g. stop g ≡ true) P L h → StopsFirst (λ g. stop g ≡ true) P L h' → h ≡ h'

-- ---- what the first lines of a plan tell

-- the first part alone is a prefix
abbrev pub PrefixBegins : Type 0
PrefixBegins = (P : Problem) (L : Plan) → IsInOrder L.lines → Prefix P L (first_part P ∷ [])

-- a prefix and a part that may come next are a prefix, and this is its view
abbrev pub PrefixGrows : Type 0
PrefixGrows =
    (P : Problem) (L : Plan) (h : List Part) (part : Part)
    → HasBegun L → Prefix P L h → Next P L (view_of P h) part
    → Prefix P L (h ++ part ∷ []) × (view_of P (h ++ part ∷ []) ≡ view_after (view_of P h) part)

-- a line whose time is not below that of the last, which is no end, may follow lines in order
abbrev pub OrderGrows : Type 0
OrderGrows =
    (before : List Line) (t : Fraction) (call : Called) (line : Line)
    → IsInOrder (before ++ ActLine t call ∷ []) → t ≤ℚ time_of line
    → IsInOrder ((before ++ ActLine t call ∷ []) ++ line ∷ [])

-- where all lines read are acted, the line that is read next is the next to act
abbrev pub NextIsRead : Type 0
NextIsRead =
    (P : Problem) (L L' : Plan) (h : List Part) (line : Line) (more : List Line)
    → Prefix P L h → next_line L (view_of P h) ≡ None → L'.lines ≡ L.lines ++ line ∷ more
    → next_line L' (view_of P h) ≡ Some line

-- a prefix is one for every plan in order whose lines begin with those read, and for the same lines
-- at the text's end
abbrev pub PrefixGoesOn : Type 0
PrefixGoesOn =
    (P : Problem) (L L' : Plan) (h : List Part)
    → Prefix P L h → GoesOnFrom L L' → IsInOrder L'.lines → HasBegun L' → Prefix P L' h

-- on every prefix of a plan that begins at 0 or later, time has not passed the moment up to which
-- it may go
abbrev pub UntilIsAhead : Type 0
UntilIsAhead =
    (P : Problem) (L : Plan) (h : List Part)
    → BeginsInTime L → Prefix P L h → (view_of P h).time ≤ℚ until P L (view_of P h)

-- a breach but Goal is final whatever lines follow: no plan whose lines begin with these has a
-- trajectory
abbrev pub BreachIsFinal : Type 0
BreachIsFinal =
    (P : Problem) (L : Plan) (h : List Part) (b : Breach) → Breaks P L h b → b ≢ Goal
    → (L' : Plan) (h' : List Part) → GoesOnFrom L L' → Trajectory P L' h' → ⊥

-- where the next line has such a breach, no plan that has it there has a trajectory
abbrev pub LineBreachIsFinal : Type 0
LineBreachIsFinal =
    (P : Problem) (L : Plan) (h : List Part) (line : Line) (b : LineBreach) → BreaksBy P L h line b
    → (L' : Plan) (h' : List Part) (more : List Line)
    → L'.lines ≡ L.lines ++ line ∷ more → Trajectory P L' h' → ⊥

-- ---- what a search for the next moment may rely on

-- where no live comparison of a condition has a root strictly between a and b, it has one truth
-- there
abbrev pub OneTruthBetween : Type 0
OneTruthBetween =
    (c : Condition) (s : State) (rs : List Fraction) (a b : Fraction) → NoRoot (live c s) s rs a b
    → (x y : Fraction) → a <ℚ x → x <ℚ b → a <ℚ y → y <ℚ b → holds c (moved s rs x) ≡ holds c (moved s rs y)

-- the test of values and slopes tells what holds just after
abbrev pub AfterTells : Type 0
AfterTells =
    (c : Condition) (s : State) (rs : List Fraction)
    → IsStraight c s rs → JustAfter s rs c ↔ (after c s rs ≡ true)
