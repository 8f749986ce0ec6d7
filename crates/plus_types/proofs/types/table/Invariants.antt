use Rattle.std.specs.Option.{IfSome}
use Rattle.std.proofs.Common.{◌≡◌, [], take, drop}
use Rattle.plus_types.specs.Types.{bindings_of, bound_names}
use Rattle.plus_types.specs.Ranks.{AreSuspects}
use Rattle.plus_types.specs.Faults.{types_faults}
use Rattle.plus_types.proofs.types.table.Given as goal

-- a listed type that is no suspect is not above itself; those walked so far have no fault, and are in the table
abbrev pub invariant-types : goal.invariant-types
invariant-types l = record {
  suspects : IfSome l.suspects (λ s. AreSuspects (bindings_of l.types) s);
  walked : types_faults (bindings_of l.types) [] l.types ≡ types_faults (bindings_of l.types) (bound_names l.table) (drop l.member-index l.types);
  table : l.table ≡ bindings_of (take l.member-index l.types);
}
