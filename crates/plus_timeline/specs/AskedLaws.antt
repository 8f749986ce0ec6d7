-- What the list of tests at a history says, whatever the code does.
use Rattle.std.specs.Prelude.{◌≡◌, ℕ, List, ◌++◌}
use Rattle.plus_fraction.specs.Fraction.{Fraction}
use Rattle.plus_model.specs.Terms.{Problem}
use Rattle.plus_model.specs.Plan.{Plan}
use Rattle.plus_model.specs.History.{Part, View}
use Rattle.plus_model.specs.Trajectory.{target, least, until, next_line, Next}
use Rattle.plus_model.specs.Breach.{IsPresent}
use Rattle.plus_model.specs.Laws.{GoesOnFrom}
use Rattle.plus_stretch.specs.Tests.{Test}
use Rattle.plus_timeline.specs.Asked.{advance_tests, line_tests, asked}

-- what is asked at a history from which a part comes next stays the same whatever lines follow
abbrev pub AskedStays : Type 0
AskedStays =
    (P : Problem) (L L' : Plan) (most : ℕ) (instance : ℕ → List Test) (entries : ℕ) (v : View) (part : Part)
    → GoesOnFrom L L' → Next P L v part → asked P L most instance entries v ≡ asked P L' most instance entries v

-- up to the time u of the next line, what `advance` asks stands first
abbrev pub AdvanceFirst : Type 0
AdvanceFirst =
    (P : Problem) (L : Plan) (most : ℕ) (instance : ℕ → List Test) (entries : ℕ) (v : View) (u : Fraction)
    → target L v ≡ u → (rest : List Test) × (asked P L most instance entries v ≡ advance_tests P most entries (least v.time u P.timed) v ++ rest)

-- where nothing is due and time goes no further, the tests of the next line stand behind
abbrev pub LineBehind : Type 0
LineBehind =
    (P : Problem) (L : Plan) (most : ℕ) (instance : ℕ → List Test) (entries : ℕ) (v : View)
    → IsPresent P v → until P L v ≡ v.time
    → asked P L most instance entries v ≡ advance_tests P most entries v.time v ++ line_tests P L instance v (next_line L v)
