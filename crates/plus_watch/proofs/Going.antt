-- The loop over all constraints, in the code's lists.
use Rattle.std.proofs.Common.{◌≡◌, ℕ, suc, ◌+◌, ◌<◌, ◌≤◌, true, false, List, ◌∷◌, length, drop, set, get_or, refl, ap, sym, subst, ◌∙◌, arith}
use Rattle.std.proofs.lemmas.List.{length-map, length-set, map-set}
use Rattle.std.specs.Prelude.{Option, Some, None, option_map, slice_get, Result, Ok, Err}
use Rattle.plus_fraction.specs.Fraction.{Fraction}
use Rattle.plus_state.proofs.TestsLemmas.{next_member, no_member}
use Rattle.plus_crossing.specs.Asked.{cond_stop_of}
use Rattle.plus_constraints.specs.Constraint.{Constraint}
use Rattle.plus_constraints.specs.Place.{Place}
use Rattle.plus_watch.specs.declared.place.Place as code
use Rattle.plus_watch.specs.declared.place.WatchStop.{WatchStop}
use Rattle.plus_watch.specs.declared.place.WatchStop.TheVariants.{Condition, Memory as NoMemory}
use Rattle.plus_watch.specs.declared.watched.Watched.{Watched}
use Rattle.plus_watch.specs.declared.watching.WatchHalt.{WatchHalt}
use Rattle.plus_watch.specs.declared.watching.WatchHalt.TheVariants.{Limit, Memory}
use Rattle.plus_watch.specs.View.{place_of}
use Rattle.plus_watch.specs.Looks.{Look}
use Rattle.plus_watch.specs.Told.{LooksTold}
use Rattle.plus_watch.specs.Asked.{AllPass}
use Rattle.plus_watch.specs.Watched.{asked_by, found_by, constraint_of, constraints_of, places_of, HaltTold, Numbered, is_open}
use Rattle.plus_watch.proofs.Looking.{Looking, looking_start, looking_end, open_seen, none_there, some_there, passed_over, noted, stopped}

module _ {Q : Type 0} (v : Q → Fraction) (fits : Fraction → Type 0) (looks : Constraint → List Look) where
  -- so many of the constraints are looked at, and these places are known now
  pub record Going (ws : List (Watched Q)) (old : List (Option (code.Place Q))) (n : ℕ) (now : List (Option (code.Place Q))) : Type 0 where
    pub many : length now ≡ length old
    pub looking : Looking fits looks (constraints_of v ws) (places_of v old) n (constraints_of v (drop n ws)) (places_of v now)

  pub going_start : (ws : List (Watched Q)) (old : List (Option (code.Place Q))) → Going ws old 0 old
  going_start ws old = record { many = refl; looking = looking_start fits looks (constraints_of v ws) (places_of v old) }

  pub going_end : (ws : List (Watched Q)) (old : List (Option (code.Place Q))) (n : ℕ) (now : List (Option (code.Place Q))) → Going ws old n now → length ws ≤ n
      → AllPass fits (asked_by looks 1 (constraints_of v ws) (places_of v old)) × (places_of v now ≡ found_by looks (constraints_of v ws) (places_of v old))
  going_end ws old n now g le =
      looking_end fits looks (constraints_of v ws) (places_of v old) n (places_of v now)
      (subst (λ (cs : List Constraint). Looking fits looks (constraints_of v ws) (places_of v old) n cs (places_of v now)) (no_member (constraint_of v) ws n le) g.looking)

  module _ (ws : List (Watched Q)) (old : List (Option (code.Place Q))) (n : ℕ) (now : List (Option (code.Place Q))) (w : Watched Q) (g : Going ws old n now) (h : n < length ws) (is : w ≡ get_or ws n w) where
    abbrev left : List Constraint
    left = constraints_of v (drop (n + 1) ws)

    here : Looking fits looks (constraints_of v ws) (places_of v old) n (constraint_of v w ∷ left) (places_of v now)
    here = subst (λ (cs : List Constraint). Looking fits looks (constraints_of v ws) (places_of v old) n cs (places_of v now)) (next_member (constraint_of v) ws n w h is) g.looking

    -- the next one
    onward : (new : List (Option (code.Place Q))) → length new ≡ length old → Looking fits looks (constraints_of v ws) (places_of v old) (suc n) left (places_of v new) → Going ws old (n + 1) new
    onward new m l =
        let e : suc n ≡ n + 1 = omega arith in
        record { many = m; looking = subst (λ (k : ℕ). Looking fits looks (constraints_of v ws) (places_of v old) k left (places_of v new)) e l }

    none_known : is_open (slice_get now n) ≡ true → slice_get (places_of v now) n ≡ Some None
    none_known o = none_there (slice_get (places_of v now) n) (open_seen v now n ∙ o)

    pub over_decided : length old ≡ length ws → is_open (slice_get now n) ≡ false → Going ws old (n + 1) now
    over_decided each o =
        let there = some_there (places_of v now) n (omega (arith, length-map now (option_map (place_of v)), g.many, each, h)) (open_seen v now n ∙ o) in
        onward now g.many (passed_over fits looks (constraints_of v ws) (places_of v old) n (constraint_of v w) left (places_of v now) here there.0 there.1)

    pub taken : (told : Result (Option (code.Place Q)) (WatchStop Q)) (o : Option (code.Place Q)) → is_open (slice_get now n) ≡ true → LooksTold v fits (looks (constraint_of v w)) told → Numbered n told (Ok o) → Going ws old (n + 1) (set now n o)
    taken (Ok x) o none t e =
        let same : o ≡ x = (let i : Ok o ≡ Ok x = e in cc) in
        let new : Option Place = option_map (place_of v) o in
        let l = noted fits looks (constraints_of v ws) (places_of v old) n (constraint_of v w) left (places_of v now) here new (none_known none) t.0 (ap (option_map (place_of v)) same ∙ t.1) in
        onward (set now n o) (length-set now n o ∙ g.many)
        (subst (λ (os : List (Option Place)). Looking fits looks (constraints_of v ws) (places_of v old) (suc n) left os) (sym (map-set (option_map (place_of v)) now n o)) l)
    taken (Err (Condition s)) o none t e = absurd cc
    taken (Err NoMemory) o none t e = absurd cc

    pub halted : (told : Result (Option (code.Place Q)) (WatchStop Q)) (halt : WatchHalt Q) → is_open (slice_get now n) ≡ true → LooksTold v fits (looks (constraint_of v w)) told → Numbered n told (Err halt) → HaltTold v fits (asked_by looks 1 (constraints_of v ws) (places_of v old)) halt
    halted (Ok x) halt none t e = absurd cc
    halted (Err (Condition s)) halt none t e =
        let same : halt ≡ Limit n s = (let i : Err halt ≡ Err (Limit n s) = e in cc) in
        subst (HaltTold v fits (asked_by looks 1 (constraints_of v ws) (places_of v old))) (sym same)
        (stopped fits looks (constraints_of v ws) (places_of v old) n (constraint_of v w) left (places_of v now) here (cond_stop_of v s) (none_known none) t)
    halted (Err NoMemory) halt none t e =
        let same : halt ≡ Memory = (let i : Err halt ≡ Err Memory = e in cc) in
        subst (HaltTold v fits (asked_by looks 1 (constraints_of v ws) (places_of v old))) (sym same) tt
