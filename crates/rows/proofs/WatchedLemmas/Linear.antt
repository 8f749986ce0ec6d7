-- Whether all that is asked passes for numbers of any size.
use Rattle.std.proofs.Common.{◌≡◌, true, Bool, ◌&&◌, List, [], ◌∷◌}
use Rattle.std.proofs.lemmas.Bool.{and_parts}
use Rattle.plus_state.specs.Tested.{AllPass}
use Rattle.plus_state.specs.Asked.{NodeFits}
use Rattle.plus_crossing.specs.Asked as crossing
use Rattle.plus_crossing.specs.Asked.{Passes}
use Rattle.plus_crossing.specs.Laws.{AnySize}

-- numbers of any size: only the linearity of a comparison matters
abbrev pub is_linear : crossing.Ask → Bool
is_linear (crossing.asks n) = true
is_linear (crossing.straight k b) = b

abbrev pub are_linear : List crossing.Ask → Bool
are_linear [] = true
are_linear (t ∷ ts) = is_linear t && are_linear ts

one_passes : (t : crossing.Ask) → is_linear t ≡ true → Passes AnySize t
unfolding Passes NodeFits
one_passes (crossing.asks n) e = tt
one_passes (crossing.straight k b) e = e

pub all_pass : (ts : List crossing.Ask) → are_linear ts ≡ true → crossing.AllPass AnySize ts
unfolding AllPass
all_pass [] e = tt
all_pass (t ∷ ts) e = let both = and_parts (is_linear t) (are_linear ts) e in (one_passes t both.0, all_pass ts both.1)
