-- A ground problem in steps of q as one without time. Each event gets a mark, an atom behind the old ones, that says that
-- it fired since time last passed or an action was done. Where a timed literal comes after time 0, a fluent behind the
-- old ones counts the steps. Two actions join the old ones: `step` lets time pass, and `fire` does one round of events.
-- The old actions, `step` and the goal ask that no event holds; so a plan has to fire each cascade to its end.
use Rattle.std.specs.Prelude.{ℕ, suc, Bool, true, false, not, List, [], ◌∷◌, ◌++◌, map, Option, Some, pos, replicate, length, if◌then◌else◌}
use Rattle.std.specs.List.{list_any, flat_map}
use Rattle.plus_fraction.specs.Fraction.{Fraction, whole, ◌-ℚ◌, ◌/ℚ◌}
use Rattle.plus_model.specs.Terms.{Number, Fluent, Product, Same, Condition, Always, Never, Both, Either, Atom, Compare, Write, Add, Delete, Increase, Decrease, Effect, Rate, Action, Event, Process, Timed, State, Problem}
use Rattle.plus_model.specs.Plan.{Called, Instance}
use Rattle.plus_model.specs.Trajectory.{is_below, literals}
use Rattle.plus_steps.specs.Stepped.{Move, Act, Tick}

-- a call of the translation: an old one, or one of the two that join
pub data Part (C : Type 0) : Type 0 where
  Old : C → Part C
  Step : Part C
  Fire : Part C

-- what is left of the calls of the translation where rounds are dropped
abbrev pub strip : {C : Type 0} → List (Part C) → List (Move C)
strip [] = []
strip (Old call ∷ parts) = Act call ∷ strip parts
strip (Step ∷ parts) = Tick ∷ strip parts
strip (Fire ∷ parts) = strip parts

-- ---- conditions

abbrev pub negated : Condition → Condition
negated Always = Never
negated Never = Always
negated (Both c d) = Either (negated c) (negated d)
negated (Either c d) = Both (negated c) (negated d)
negated (Atom a positive) = Atom a (not positive)
negated (Compare test left right positive) = Compare test left right (not positive)

abbrev pub all_of : List Condition → Condition
all_of [] = Always
all_of (c ∷ cs) = Both c (all_of cs)

abbrev pub any_of : List Condition → Condition
any_of [] = Never
any_of (c ∷ cs) = Either c (any_of cs)

-- no event holds
abbrev pub none_hold : List Event → Condition
none_hold events = all_of (map (λ e. negated e.condition) events)

-- an event holds
abbrev pub some_hold : List Event → Condition
some_hold events = any_of (map (λ e. e.condition) events)

-- no event that holds has its mark; the first mark has number a
abbrev pub fresh_from : ℕ → List Event → Condition
fresh_from a [] = Always
fresh_from a (e ∷ events) = Both (Either (negated e.condition) (Atom a false)) (fresh_from (suc a) events)

-- ---- effects

abbrev pub whenever : Condition → Write → Effect
whenever guard write = record { guard = guard; write = write }

-- the marks go
abbrev pub clears_from : ℕ → List Event → List Effect
clears_from a [] = []
clears_from a (e ∷ events) = whenever Always (Delete a) ∷ clears_from (suc a) events

-- what an event does, where it holds, and its mark
abbrev pub fires_with : Event → Effect → Effect
fires_with event e = whenever (Both event.condition e.guard) e.write

abbrev pub fires_from : ℕ → List Event → List Effect
fires_from a [] = []
fires_from a (e ∷ events) = (map (fires_with e) e.effects ++ whenever e.condition (Add a) ∷ []) ++ fires_from (suc a) events

-- a rate for the whole step
abbrev pub flow_write : Fraction → Rate → Write
flow_write q r =
    if r.up then Increase r.fluent (Product (Number q) r.amount) else Decrease r.fluent (Product (Number q) r.amount)

abbrev pub flows_of : Fraction → Process → List Effect
flows_of q p = map (λ r. whenever p.condition (flow_write q r)) p.rates

-- a literal after time 0
abbrev pub is_later : Timed → Bool
is_later l = is_below (whole (pos 0)) l.time

abbrev pub has_clock : Problem → Bool
has_clock P = list_any is_later P.timed

-- a literal comes in the step before which the clock shows one less than the number of steps to its time
abbrev pub literal_write : Timed → Write
literal_write l = if l.positive then Add l.atom else Delete l.atom

abbrev pub literals_at_steps : Fraction → ℕ → List Timed → List Effect
literals_at_steps q clock [] = []
literals_at_steps q clock (l ∷ ls) =
    if is_later l
    then whenever (Compare Same (Fluent clock) (Number (l.time /ℚ q -ℚ whole (pos 1))) true) (literal_write l)
    ∷ literals_at_steps q clock ls
    else literals_at_steps q clock ls

abbrev pub clock_effects : Problem → Fraction → List Effect
clock_effects P q =
    if has_clock P
    then whenever Always (Increase P.fluents (Number (whole (pos 1)))) ∷ literals_at_steps q P.fluents P.timed
    else []

-- ---- actions, and the problem

abbrev pub old_action : Problem → Action → Action
old_action P a = record {
  label = a.label;
  condition = Both a.condition (none_hold P.events);
  effects = a.effects ++ clears_from P.atoms P.events;
}

abbrev pub step_action : Problem → Fraction → Action
step_action P q = record {
  label = [];
  condition = none_hold P.events;
  effects = flat_map (flows_of q) P.processes ++ (clock_effects P q ++ clears_from P.atoms P.events);
}

abbrev pub fire_action : Problem → Action
fire_action P = record {
  label = [];
  condition = Both (some_hold P.events) (fresh_from P.atoms P.events);
  effects = fires_from P.atoms P.events;
}

-- what a call of the translation means
abbrev pub old_called : Problem → Called → Called
old_called P (Instance a) = Instance (old_action P a)
old_called P other = other

abbrev pub part_meant : {C : Type 0} → Problem → Fraction → (C → Called) → Part C → Called
part_meant P q meant (Old call) = old_called P (meant call)
part_meant P q meant Step = Instance (step_action P q)
part_meant P q meant Fire = Instance (fire_action P)

abbrev pub goal_translated : Problem → Condition
goal_translated P = Both P.goal (none_hold P.events)

-- a state of the translation: the old atoms and then the marks, the old fluents and then the clock, if there is one
abbrev pub clock_value : Bool → ℕ → List (Option Fraction)
clock_value true n = Some (whole (pos n)) ∷ []
clock_value false n = []

abbrev pub with_marks : Problem → List Bool → ℕ → State → State
with_marks P marks n s = record { atoms = s.atoms ++ marks; fluents = s.fluents ++ clock_value (has_clock P) n }

abbrev pub initial_translated : Problem → State
initial_translated P =
    with_marks P (replicate (length P.events) false) 0 (literals P (whole (pos 0)) P.initial)
