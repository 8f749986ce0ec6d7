-- What the calls tell, over the looks that they take: all that these ask passes and this is the first place that they find, or
-- the first test that fails. Want of memory may come at any time.
use Rattle.std.specs.Prelude.{◌≡◌, List, Option, option_map, Result, MatchResult}
use Rattle.plus_fraction.specs.Fraction.{Fraction}
use Rattle.plus_crossing.specs.Asked.{Ask, AllPass, FirstFailing, cond_stop_of}
use Rattle.plus_watch.specs.declared.place.Place.{Place}
use Rattle.plus_watch.specs.declared.place.WatchStop.{WatchStop}
use Rattle.plus_watch.specs.declared.place.WatchStop.TheVariants.{Condition, Memory}
use Rattle.plus_watch.specs.View.{place_of}
use Rattle.plus_watch.specs.Looks.{Look, first_found, looks_ask}

abbrev pub StopTold : {Q : Type 0} → (Q → Fraction) → (Fraction → Type 0) → List Ask → WatchStop Q → Type 0
StopTold v fits ts (Condition w) = FirstFailing fits ts (cond_stop_of v w)
StopTold v fits ts Memory = Unit {0}

-- all these pass and this is so, or the first that fails
abbrev pub AskTold : {Q A : Type 0} → (Q → Fraction) → (Fraction → Type 0) → List Ask → (A → Type 0) → Result A (WatchStop Q) → Type 0
AskTold v fits ts Does answer = MatchResult answer (λ x. AllPass fits ts × Does x) (StopTold v fits ts)

abbrev pub LooksTold : {Q : Type 0} → (Q → Fraction) → (Fraction → Type 0) → List Look → Result (Option (Place Q)) (WatchStop Q) → Type 0
LooksTold v fits ls answer = AskTold v fits (looks_ask ls) (λ o. option_map (place_of v) o ≡ first_found ls) answer
