-- What constraints tell where a history grows by a part: each one that is not decided takes its looks, in text order.
use Rattle.std.specs.Prelude.{◌≡◌, ℕ, suc, Bool, true, false, List, [], ◌∷◌, ◌++◌, map, Option, Some, None, option_map, Result, Ok, Err, MatchResult}
use Rattle.plus_fraction.specs.Fraction.{Fraction}
use Rattle.plus_model.specs.Terms.{State, Problem}
use Rattle.plus_model.specs.History.{Part}
use Rattle.plus_state.specs.Tested as tested
use Rattle.plus_state.specs.View.{condition_of}
use Rattle.plus_crossing.specs.Asked.{Ask, cond_stop_of}
use Rattle.plus_constraints.specs.Constraint.{Constraint}
use Rattle.plus_constraints.specs.Place.{Place, or_else}
use Rattle.plus_watch.specs.declared.place.Place as code
use Rattle.plus_watch.specs.declared.place.WatchStop.{WatchStop}
use Rattle.plus_watch.specs.declared.place.WatchStop.TheVariants.{Condition, Memory as NoMemory}
use Rattle.plus_watch.specs.declared.watched.Watched.{Watched}
use Rattle.plus_watch.specs.declared.watching.WatchHalt.{WatchHalt}
use Rattle.plus_watch.specs.declared.watching.WatchHalt.TheVariants.{Limit, Memory}
use Rattle.plus_watch.specs.View.{when_of, place_of}
use Rattle.plus_watch.specs.Looks.{Look, first_found, if_sought, looks_ask, moment_looks, stretch_looks, history_looks}
use Rattle.plus_watch.specs.Asked.{Passes, AllPass}

-- the first place that is found of each constraint along a history
abbrev pub firsts_along : Problem → List Constraint → List Part → List (Option Place)
firsts_along P cs h = map (λ c. first_found (history_looks P c h)) cs

-- what is asked from number k on, where each constraint is to take these looks and these places are known before
abbrev pub asked_by : (Constraint → List Look) → ℕ → List Constraint → List (Option Place) → List (ℕ × Ask)
asked_by looks k [] firsts = []
asked_by looks k (c ∷ cs) [] = []
asked_by looks k (c ∷ cs) (f ∷ fs) = map (λ a. (k, a)) (if_sought f (looks_ask (looks c))) ++ asked_by looks (suc k) cs fs

-- the places that are known behind it
abbrev pub found_by : (Constraint → List Look) → List Constraint → List (Option Place) → List (Option Place)
found_by looks [] firsts = firsts
found_by looks (c ∷ cs) [] = []
found_by looks (c ∷ cs) (f ∷ fs) = or_else f (first_found (looks c)) ∷ found_by looks cs fs

-- ---- at a part

-- in a state of one time and then in another
abbrev pub both_looks : Fraction → State → State → Constraint → List Look
both_looks t arrival s c = moment_looks c.when c.condition t arrival ++ moment_looks c.when c.condition t s

-- at a moment that ends a stretch, which began at this time in this state, along these rates
abbrev pub ending_looks : Fraction → State → List Fraction → Fraction → State → State → Constraint → List Look
ending_looks begin before rs t arrival s c = stretch_looks c.when c.condition begin before rs t ++ both_looks t arrival s c

-- ---- what the code's types mean

abbrev pub constraint_of : {Q : Type 0} → (Q → Fraction) → Watched Q → Constraint
constraint_of v w = record { when = when_of v w.rule; condition = condition_of v w.cond }

abbrev pub constraints_of : {Q : Type 0} → (Q → Fraction) → List (Watched Q) → List Constraint
constraints_of v ws = map (constraint_of v) ws

abbrev pub places_of : {Q : Type 0} → (Q → Fraction) → List (Option (code.Place Q)) → List (Option Place)
places_of v os = map (option_map (place_of v)) os

-- the stop is the first of these tests that fails; want of memory may come at any time
abbrev pub HaltTold : {Q : Type 0} → (Q → Fraction) → (Fraction → Type 0) → List (ℕ × Ask) → WatchHalt Q → Type 0
HaltTold v fits ts (Limit index stop) = tested.FirstFailing (Passes fits) ts (suc index, cond_stop_of v stop)
HaltTold v fits ts Memory = Unit {0}

-- all that is asked passes and the places are those that are known behind it; or the first test that fails
abbrev pub WatchTold : {Q A : Type 0} → (Q → Fraction) → (Fraction → Type 0) → (Constraint → List Look) → List Constraint → List (Option Place) → List (Option Place) → Result A (WatchHalt Q) → Type 0
WatchTold v fits looks cs old new answer =
    MatchResult answer (λ _. AllPass fits (asked_by looks 1 cs old) × (new ≡ found_by looks cs old)) (HaltTold v fits (asked_by looks 1 cs old))

-- ---- one constraint of a list

-- what the constraint with this index tells
abbrev pub Numbered : {Q A : Type 0} → ℕ → Result A (WatchStop Q) → Result A (WatchHalt Q) → Type 0
Numbered index (Ok x) answer = answer ≡ Ok x
Numbered index (Err (Condition stop)) answer = answer ≡ Err (Limit index stop)
Numbered index (Err NoMemory) answer = answer ≡ Err Memory

-- none is known there
abbrev pub is_open : {A : Type 0} → Option (Option A) → Bool
is_open (Some None) = true
is_open _ = false
