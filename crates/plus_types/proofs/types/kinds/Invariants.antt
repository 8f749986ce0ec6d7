use Rattle.std.proofs.Common.{◌≡◌, ℕ, List, take}
use Rattle.std.specs.List.{list_any}
use Rattle.std.specs.Str.{bytes_eq}
use Rattle.plus_types.specs.Types.{is_among}
use Rattle.plus_types.proofs.types.kinds.Given as goal

-- the types above those seen so far
abbrev pub invariant-types : goal.invariant-types
invariant-types l = (k : List ℕ) → is_among l.above k ≡ list_any (λ t. bytes_eq k t.kind.name) (take l.member-index l.types)
