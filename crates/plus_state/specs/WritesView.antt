-- What the writes and stops of the code mean.
use Rattle.std.specs.Prelude.{ℕ, List, map}
use Rattle.plus_fraction.specs.Fraction.{Fraction}
use Rattle.plus_state.specs.Node.{Node}
use Rattle.plus_state.specs.Due.{Update}
use Rattle.plus_state.specs.Stops.{update_of}
use Rattle.plus_state.specs.View.{overflow_of}
use Rattle.plus_state.specs.Asked.{FirstUnfit}
use Rattle.plus_state.specs.declared.writes.Written.{Written}
use Rattle.plus_state.specs.declared.values.ValuesStop as stop
use Rattle.plus_state.specs.declared.values.ValuesStop.TheVariants.{Number, Memory}

abbrev pub written : {Q : Type 0} → (Q → Fraction) → Written Q → ℕ × Update
written v w = (w.fluent.0, update_of v w.update)

abbrev pub write_list : {Q : Type 0} → (Q → Fraction) → List (Written Q) → List (ℕ × Update)
write_list v ws = map (written v) ws

-- the first node that is no value; want of memory may come at any time
abbrev pub StopsValues : {Q : Type 0} → (Q → Fraction) → (Fraction → Type 0) → List Node → stop.ValuesStop Q → Type 0
StopsValues v fits ns (Number o) = FirstUnfit fits ns (overflow_of v o)
StopsValues v fits ns Memory = Unit {0}
