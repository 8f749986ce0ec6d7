use Rattle.std.proofs.Common.{◌≡◌, ◌++◌, take}
use Rattle.plus_renaming.proofs.copies.put_typed_names.Given as goal

-- the members so far
abbrev pub invariant-members : goal.invariant-members
invariant-members l = l.into ≡ l.initial.into ++ take l.member-index l.members
