use Rattle.std.proofs.Common.{◌≡◌, ◌≤◌, ◌++◌, take, drop, length}
use Rattle.plus_types.specs.Types.{bindings_of}
use Rattle.plus_types.proofs.ListLemmas.{list_left}
use Rattle.plus_types.proofs.declarations.list.Given as goal

-- the members walked so far have no fault, and are bound
abbrev pub invariant-members : goal.invariant-members
invariant-members l = record {
  inside : l.outer ≤ length l.table;
  walked : list_left l.types l.file l.outer l.initial.table l.members ≡ list_left l.types l.file l.outer l.table (drop l.typed-index l.members);
  bound : l.table ≡ l.initial.table ++ bindings_of (take l.typed-index l.members);
}
