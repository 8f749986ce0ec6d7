use Rattle.std.proofs.Common.{◌≡◌, suc, length}
use Rattle.std.specs.List.{list_any}
use Rattle.plus_types.specs.Types.{bindings_of, is_above_within}
use Rattle.plus_types.proofs.types.is_above_itself.Given as goal

-- what is above the type is above one of the level, in the steps that are left
abbrev pub invariant-levels : goal.invariant-levels
invariant-levels l =
    is_above_within (bindings_of l.types) (suc (length (bindings_of l.types))) l.name l.name
    ≡ list_any (λ low. is_above_within (bindings_of l.types) l.left l.name low) l.level

abbrev pub decreases-levels : goal.decreases-levels
decreases-levels l = l.left
