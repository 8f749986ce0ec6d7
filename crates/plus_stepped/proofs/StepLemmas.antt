-- Calls in two parts: the second begins where the first ends.
use Rattle.std.proofs.Common.{◌≡◌, ℕ, zero, suc, ◌+◌, ◌-◌, ◌<◌, ◌≤◌, min, Bool, List, [], ◌∷◌, ◌++◌, length, map, take, drop, refl, ap, sym, subst, ◌∙◌, ◌⊎◌, inl, inr, arith, pos}
use Rattle.std.proofs.lemmas.List.{take_all, drop_all, length-map}
use Rattle.std.proofs.lemmas.List.Elements.{All-head, All-tail, All-take, All-drop}
use Rattle.std.specs.List.{All}
use Rattle.std.specs.Prelude.{Option, None, Result, Ok, Err, IfSome, slice_get}
use Rattle.plus_fraction.specs.Fraction.{Fraction, whole, ◌<ℚ◌, ◌≤ℚ◌}
use Rattle.plus_model.specs.Terms.{Action, State, Problem, Timed}
use Rattle.plus_model.specs.Joint.{Fault, Change, new_atoms, joint}
use Rattle.plus_model.specs.Running.{rates, holding}
use Rattle.plus_model.specs.Trajectory.{literals, literal_changes}
use Rattle.plus_state.proofs.Testing.{pass_append, fail_left, fail_right}
use Rattle.plus_steps.specs.Stepped.{Does, Rests, Ticked, time_of_step}
use Rattle.plus_stepped.specs.declared.stop.StepStop.{StepStop}
use Rattle.plus_stepped.specs.declared.stop.StepStop.TheVariants.{Precondition, Repeats, Conflict, NoValue, Number, GoalFails, Memory}
use Rattle.plus_stepped.specs.Tests as tests
use Rattle.plus_stepped.specs.Tests.{StepTest, AllPass, FirstFailing}
use Rattle.plus_stepped.specs.Asked.{where_ok, action_tests, cascade_tests}
use Rattle.plus_stepped.specs.Ticks.{begin_tests, act_tests, moving_tests, at_end, tick_tests}
use Rattle.plus_stepped.specs.Told.{Told, Passed}
use Rattle.plus_stepped.specs.Never.{CannotDo, CannotRest}
use Rattle.plus_stepped.specs.Moving.{MovesTo, CannotMove}
use Rattle.plus_stepped.specs.Grid.{OnGrid, AllOnGrid, InTime, IsAt, UpTo, From, changes_of, run_of}
use Rattle.plus_stepped.specs.declared.literals.Upcoming.{Upcoming}
use Rattle.plus_stepped.specs.Coming.{ComesNext}
use Rattle.plus_state.specs.Fits.{StateFits}
use Rattle.plus_steps.proofs.Sized.{sized_literals}
use Rattle.plus_stepped.specs.Steps.{HasGrid, ActsTo, CannotTick, CannotAct}
use Rattle.plus_stepped.proofs.GridLemmas.{step_from_zero}
use Rattle.plus_stepped.proofs.LiteralLemmas.{get_none, run_changes}

module _ {Q A B : Type 0} (v : Q → Fraction) (fits : Fraction → Type 0) (Done : A → Type 0) (Done' : B → Type 0) (Never Never' : Type 0) (on : Never → Never') where
  abbrev First : List StepTest → StepStop Q → Type 0
  First ts stop = Told v fits ts Done Never (let r : Result A (StepStop Q) = Err stop in r)

  abbrev Whole : List StepTest → StepStop Q → Type 0
  Whole ts stop = Told v fits ts Done' Never' (let r : Result B (StepStop Q) = Err stop in r)

  -- the first part is refused
  pub refused_left : (xs ys : List StepTest) (stop : StepStop Q) → First xs stop → Whole (xs ++ ys) stop
  refused_left xs ys Precondition h = record { first = fail_left (tests.Passes fits) xs ys _ h.first; never = on h.never }
  refused_left xs ys (Repeats e) h = record { first = fail_left (tests.Passes fits) xs ys _ h.first; never = on h.never }
  refused_left xs ys (Conflict f) h = record { first = fail_left (tests.Passes fits) xs ys _ h.first; never = on h.never }
  refused_left xs ys (NoValue f) h = record { first = fail_left (tests.Passes fits) xs ys _ h.first; never = on h.never }
  refused_left xs ys (Number o) h = fail_left (tests.Passes fits) xs ys _ h
  refused_left xs ys GoalFails h = record { first = fail_left (tests.Passes fits) xs ys _ h.first; never = on h.never }
  refused_left xs ys Memory h = tt

  -- the only part is refused
  pub refused_as : (xs : List StepTest) (stop : StepStop Q) → First xs stop → Whole xs stop
  refused_as xs Precondition h = record { first = h.first; never = on h.never }
  refused_as xs (Repeats e) h = record { first = h.first; never = on h.never }
  refused_as xs (Conflict f) h = record { first = h.first; never = on h.never }
  refused_as xs (NoValue f) h = record { first = h.first; never = on h.never }
  refused_as xs (Number o) h = h
  refused_as xs GoalFails h = record { first = h.first; never = on h.never }
  refused_as xs Memory h = tt

  -- the second part is refused
  pub refused_right : (xs ys : List StepTest) (stop : StepStop Q) → AllPass fits xs → First ys stop → Whole (xs ++ ys) stop
  refused_right xs ys Precondition a h = record { first = fail_right (tests.Passes fits) xs ys _ a h.first; never = on h.never }
  refused_right xs ys (Repeats e) a h = record { first = fail_right (tests.Passes fits) xs ys _ a h.first; never = on h.never }
  refused_right xs ys (Conflict f) a h = record { first = fail_right (tests.Passes fits) xs ys _ a h.first; never = on h.never }
  refused_right xs ys (NoValue f) a h = record { first = fail_right (tests.Passes fits) xs ys _ a h.first; never = on h.never }
  refused_right xs ys (Number o) a h = fail_right (tests.Passes fits) xs ys _ a h
  refused_right xs ys GoalFails a h = record { first = fail_right (tests.Passes fits) xs ys _ a h.first; never = on h.never }
  refused_right xs ys Memory a h = tt

-- ---- an action
state_or : State → Result State Fault → State
state_or d (Ok s) = s
state_or d (Err e) = d

one_joint : (s t : State) → (let r : Result State Fault = Ok s in r) ≡ Ok t → s ≡ t
unfolding state_or
one_joint s t h = ap (state_or s) h

rates_or : Result (List Fraction) ℕ → List Fraction
rates_or (Ok rs) = rs
rates_or (Err f) = []

one_rates : (rs ss : List Fraction) → (let r : Result (List Fraction) ℕ = Ok rs in r) ≡ Ok ss → rs ≡ ss
unfolding rates_or
one_rates rs ss h = ap rates_or h

module _ {Q : Type 0} (v : Q → Fraction) (fits : Fraction → Type 0) (P : Problem) (a : Action) (s : State) where
  -- what is asked behind the action
  abbrev then_rests : Result State Fault → List StepTest
  then_rests r = where_ok r (cascade_tests P)

  pub act_refused : {A : Type 0} (Done : A → Type 0) (stop : StepStop Q) → Told v fits (action_tests a s) Done (CannotDo a s) (let r : Result A (StepStop Q) = Err stop in r)
      → Told v fits (act_tests P a s) (λ last. ActsTo P a s last) (CannotAct P a s) (Err stop)
  unfolding act_tests
  act_refused Done stop h = refused_left v fits Done (λ last. ActsTo P a s last) (CannotDo a s) (CannotAct P a s) (λ n last k. n k.now k.does) (action_tests a s) (then_rests (joint a.effects s)) stop h

  pub act_stopped : (now : State) (stop : StepStop Q) → AllPass fits (action_tests a s) → Does a s now
      → Told v fits (cascade_tests P now) (λ last. Rests P [] now last) (CannotRest P now) (Err stop)
      → Told v fits (act_tests P a s) (λ last. ActsTo P a s last) (CannotAct P a s) (Err stop)
  unfolding act_tests
  act_stopped now stop p d h =
      subst (λ (r : Result State Fault). Told v fits (action_tests a s ++ then_rests r) (λ last. ActsTo P a s last) (CannotAct P a s) (Err stop)) (sym d.effect)
      (refused_right v fits (λ last. Rests P [] now last) (λ last. ActsTo P a s last) (CannotRest P now) (CannotAct P a s)
      (λ n last k. n last (subst (λ (t : State). Rests P [] t last) (one_joint k.now now (sym k.does.effect ∙ d.effect)) k.rests))
      (action_tests a s) (cascade_tests P now) stop p h)

  pub act_done : (now last : State) → AllPass fits (action_tests a s) → Does a s now → Passed fits (cascade_tests P now) (Rests P [] now last)
      → Passed fits (act_tests P a s) (ActsTo P a s last)
  unfolding act_tests
  act_done now last p d h = record {
    pass = pass_append (tests.Passes fits) _ _ p (subst (λ (r : Result State Fault). AllPass fits (then_rests r)) (sym d.effect) h.pass);
    does = record { now = now; does = d; rests = h.does };
  }

  pub act_told : (now : State) → AllPass fits (action_tests a s) → Does a s now → (r : Result State (StepStop Q))
      → Told v fits (cascade_tests P now) (λ last. Rests P [] now last) (CannotRest P now) r
      → Told v fits (act_tests P a s) (λ last. ActsTo P a s last) (CannotAct P a s) r
  act_told now p d (Ok last) h = act_done now last p d h
  act_told now p d (Err stop) h = act_stopped now stop p d h

-- ---- a step of time
module _ {Q A : Type 0} (v : Q → Fraction) (fits : Fraction → Type 0) (P : Problem) (q : Fraction) (n : ℕ) (s : State) (IsTicked : A → Type 0) where
  abbrev then_ends : Result (List Fraction) ℕ → List StepTest
  then_ends r = where_ok r (λ rs. cascade_tests P (at_end P q n s rs))

  pub tick_refused : {B : Type 0} (Done : B → Type 0) (stop : StepStop Q) → Told v fits (moving_tests P q s) Done (CannotMove P s) (let r : Result B (StepStop Q) = Err stop in r)
      → Told v fits (tick_tests P q n s) IsTicked (CannotTick P q n s) (let r : Result A (StepStop Q) = Err stop in r)
  unfolding tick_tests
  tick_refused Done stop h = refused_left v fits Done IsTicked (CannotMove P s) (CannotTick P q n s) (λ m last k. m k.passes.rate k.passes.rate_is) (moving_tests P q s) (then_ends (rates P s (holding P s))) stop h

  pub tick_stopped : (next now : State) (stop : StepStop Q) → AllPass fits (moving_tests P q s) → MovesTo P q s next → now ≡ literals P (time_of_step q n) next
      → Told v fits (cascade_tests P now) (λ last. Rests P [] now last) (CannotRest P now) (Err stop)
      → Told v fits (tick_tests P q n s) IsTicked (CannotTick P q n s) (let r : Result A (StepStop Q) = Err stop in r)
  unfolding tick_tests
  tick_stopped next now stop p m e h =
      let end : now ≡ at_end P q n s m.rate = e ∙ ap (literals P (time_of_step q n)) m.is in
      subst (λ (r : Result (List Fraction) ℕ). Told v fits (moving_tests P q s ++ then_ends r) IsTicked (CannotTick P q n s) (let r : Result A (StepStop Q) = Err stop in r)) (sym m.rate_is)
      (subst (λ (t : State). Told v fits (moving_tests P q s ++ cascade_tests P t) IsTicked (CannotTick P q n s) (let r : Result A (StepStop Q) = Err stop in r)) end
      (refused_right v fits (λ last. Rests P [] now last) IsTicked (CannotRest P now) (CannotTick P q n s)
      (λ c last k. c last (subst (λ (t : State). Rests P [] t last) (k.passes.after_is ∙ ap (at_end P q n s) (one_rates k.passes.rate m.rate (sym k.passes.rate_is ∙ m.rate_is)) ∙ sym end) k.rests))
      (moving_tests P q s) (cascade_tests P now) stop p h))

pub tick_done : (fits : Fraction → Type 0) (P : Problem) (q : Fraction) (n : ℕ) (s next now last : State) → AllPass fits (moving_tests P q s) → MovesTo P q s next → now ≡ literals P (time_of_step q n) next
    → Passed fits (cascade_tests P now) (Rests P [] now last) → Passed fits (tick_tests P q n s) (Ticked P q n s last)
unfolding tick_tests
tick_done fits P q n s next now last p m e h =
    let end : now ≡ at_end P q n s m.rate = e ∙ ap (literals P (time_of_step q n)) m.is in
    let rest : Result (List Fraction) ℕ → List StepTest = λ r. where_ok r (λ rs. cascade_tests P (at_end P q n s rs)) in
    record {
      pass = pass_append (tests.Passes fits) _ _ p (subst (λ (r : Result (List Fraction) ℕ). AllPass fits (rest r)) (sym m.rate_is) (subst (λ (t : State). AllPass fits (cascade_tests P t)) end h.pass));
      does = record { now = now; passes = record { rate = m.rate; rate_is = m.rate_is; after_is = end }; rests = h.does };
    }

-- ---- the literals of a step
pub literals_put : (P : Problem) (t : Fraction) (s now : State) (cs : List Change) → literal_changes t P.timed ≡ cs → now ≡ record s { atoms = new_atoms 0 cs s.atoms } → now ≡ literals P t s
unfolding literals
literals_put P t s now cs e h = h ∙ ap (λ (ds : List Change). record s { atoms = new_atoms 0 ds s.atoms }) (sym e)

pub map_take : {X Y : Type 0} (f : X → Y) (n : ℕ) (xs : List X) → map f (take n xs) ≡ take n (map f xs)
map_take f zero xs = refl
map_take f (suc n) [] = refl
map_take f (suc n) (x ∷ xs) = ap (λ ys. f x ∷ ys) (map_take f n xs)

pub slice_map : {X Y : Type 0} (f : X → Y) (n m : ℕ) (xs : List X) → map f (take n (drop m xs)) ≡ take n (drop m (map f xs))
slice_map f n zero xs = map_take f n xs
slice_map f n (suc m) [] = map_take f n []
slice_map f n (suc m) (x ∷ xs) = slice_map f n m xs

-- a place behind the end is the end
le_or : (m n : ℕ) → (m ≤ n) ⊎ (n ≤ m)
le_or zero n = inl (omega arith)
le_or (suc m) zero = inr (omega arith)
le_or (suc m) (suc n) = elim (le_or m n) [ inl h ↦ inl (omega arith) | inr h ↦ inr (omega arith) ]

pub clamp_at : (ls : List Timed) (q : Fraction) (n p k : ℕ) → IsAt ls q n p k → IsAt ls q n (min p (length ls)) k
clamp_at ls q n p k h = elim (le_or p (length ls)) [
  | inl l ↦ (let e : p ≡ min p (length ls) = omega arith in subst (λ (j : ℕ). IsAt ls q n j k) e h)
  | inr l ↦ (
      let e : length ls ≡ min p (length ls) = omega arith in
      let all : take p ls ≡ take (length ls) ls = take_all p ls l ∙ sym (take_all (length ls) ls (omega arith)) in
      let none : slice_get ls (length ls) ≡ None = get_none (length ls) ls (drop_all (length ls) ls (omega arith)) in
      subst (λ (j : ℕ). IsAt ls q n j k) e (record {
        past = subst (UpTo (time_of_step q n)) all h.past;
        next = subst (λ (o : Option Timed). IfSome o (λ (l : Timed). (1 ≤ k) × (l.time ≡ time_of_step q (n + k)))) (sym none) tt;
      })
      )
]

-- ---- at the beginning
pub from_zero : (q : Fraction) → whole (pos 0) <ℚ q → (ls : List Timed) → AllOnGrid q ls → From (whole (pos 0)) ls
from_zero q above [] a = tt
from_zero q above (l ∷ ls) a =
    let h : OnGrid q l.time = All-head (λ (l : Timed). OnGrid q l.time) l ls a in (
      subst (λ (x : Fraction). whole (pos 0) ≤ℚ x) (sym h.at) (step_from_zero q above h.steps),
      from_zero q above ls (All-tail (λ (l : Timed). OnGrid q l.time) l ls a),
    )

-- atoms of literals are atoms of the state
pub atoms_in : {X : Type 0} (f : X → Timed) (n m atoms : ℕ) (xs : List X) (bs : List Bool) → All (λ (l : Timed). l.atom < atoms) (map f xs) → length bs ≡ atoms
    → All (λ (l : Timed). l.atom < length bs) (map f (take n (drop m xs)))
atoms_in f n m atoms xs bs a e =
    subst (λ (k : ℕ). All (λ (l : Timed). l.atom < k) (map f (take n (drop m xs)))) (sym e)
    (subst (All (λ (l : Timed). l.atom < atoms)) (sym (slice_map f n m xs)) (All-take (λ (l : Timed). l.atom < atoms) n (drop m (map f xs)) (All-drop (λ (l : Timed). l.atom < atoms) m (map f xs) a)))

-- the state after the literals of time 0
pub begin_due : (q : Fraction) → whole (pos 0) <ℚ q → (ls : List Timed) → InTime ls → AllOnGrid q ls → (place : ℕ) → place ≡ 0 + run_of (whole (pos 0)) ls → literal_changes (whole (pos 0)) ls ≡ changes_of (take place ls)
begin_due q above ls o a place e =
    let z : run_of (whole (pos 0)) ls ≡ place = omega arith in
    run_changes (whole (pos 0)) ls o (from_zero q above ls a) ∙ ap (λ (n : ℕ). changes_of (take n ls)) z

pub put_at_begin : {X : Type 0} (f : X → Timed) (P : Problem) (q : Fraction) → HasGrid P q → (items : List X) (place : ℕ) (s now : State)
    → place ≡ 0 + run_of (whole (pos 0)) P.timed → s ≡ P.initial → map f items ≡ P.timed → now ≡ record s { atoms = new_atoms 0 (changes_of (map f (take place items))) s.atoms }
    → now ≡ literals P (whole (pos 0)) P.initial
put_at_begin f P q h items place s now e i l n =
    let due : literal_changes (whole (pos 0)) P.timed ≡ changes_of (map f (take place items)) =
    begin_due q h.above P.timed h.in_time h.grid place e ∙ ap (λ (ls : List Timed). changes_of (take place ls)) (sym l) ∙ ap changes_of (sym (map_take f place items)) in
    literals_put P (whole (pos 0)) P.initial now _ due (n ∙ ap (λ (t : State). record t { atoms = new_atoms 0 (changes_of (map f (take place items))) t.atoms }) i)

-- the state after the literals of a step
pub put_at_step : {X : Type 0} (f : X → Timed) (P : Problem) (q : Fraction) (n : ℕ) (items : List X) (place : ℕ) (later : Upcoming) (s now : State)
    → ComesNext P.timed q n place later → map f items ≡ P.timed → now ≡ record s { atoms = new_atoms 0 (changes_of (map f (take (later.place - place) (drop place items)))) s.atoms }
    → now ≡ literals P (time_of_step q n) s
put_at_step f P q n items place later s now h l e =
    let due : literal_changes (time_of_step q n) P.timed ≡ changes_of (map f (take (later.place - place) (drop place items))) =
    h.due ∙ ap (λ (ls : List Timed). changes_of (take (later.place - place) (drop place ls))) (sym l) ∙ ap changes_of (sym (slice_map f (later.place - place) place items)) in
    literals_put P (time_of_step q n) s now _ due e

pub put_fits : (P : Problem) (t : Fraction) (s now : State) → StateFits P.atoms P.fluents s → now ≡ literals P t s → StateFits P.atoms P.fluents now
put_fits P t s now h e = subst (StateFits P.atoms P.fluents) (sym e) (sized_literals P.atoms P.fluents P t s h)

module _ {Q : Type 0} (v : Q → Fraction) (fits : Fraction → Type 0) (P : Problem) (now : State) where
  pub begin_refused : {A : Type 0} (Done : A → Type 0) (stop : StepStop Q) → now ≡ literals P (whole (pos 0)) P.initial → Told v fits (cascade_tests P now) (λ last. Rests P [] now last) (CannotRest P now) (let r : Result State (StepStop Q) = Err stop in r)
      → Told v fits (begin_tests P) Done (CannotRest P (literals P (whole (pos 0)) P.initial)) (let r : Result A (StepStop Q) = Err stop in r)
  unfolding begin_tests
  begin_refused {A = A} Done stop e h =
      subst (λ (t : State). Told v fits (cascade_tests P t) Done (CannotRest P t) (let r : Result A (StepStop Q) = Err stop in r)) e
      (refused_as v fits (λ last. Rests P [] now last) Done (CannotRest P now) (CannotRest P now) (λ n. n) (cascade_tests P now) stop h)

pub begin_done : (fits : Fraction → Type 0) (P : Problem) (now last : State) → now ≡ literals P (whole (pos 0)) P.initial → Passed fits (cascade_tests P now) (Rests P [] now last)
    → Passed fits (begin_tests P) (Rests P [] (literals P (whole (pos 0)) P.initial) last)
unfolding begin_tests
begin_done fits P now last e h = subst (λ (t : State). Passed fits (cascade_tests P t) (Rests P [] t last)) e h

pub clamped : {X : Type 0} (f : X → Timed) (items : List X) (q : Fraction) (n p k place : ℕ) → place ≡ min p (length items) → IsAt (map f items) q n p k → IsAt (map f items) q n place k
clamped f items q n p k place e h =
    subst (λ (j : ℕ). IsAt (map f items) q n j k) (ap (λ (j : ℕ). min p j) (length-map items f) ∙ sym e) (clamp_at (map f items) q n p k h)
