use Rattle.std.proofs.Common.{◌≡◌, ℕ, List, take, ◌||◌, ◌&&◌}
use Rattle.std.specs.List.{list_any}
use Rattle.std.specs.Str.{bytes_eq}
use Rattle.plus_types.specs.Types.{is_among, object_name}
use Rattle.plus_types.proofs.types.next_level.Given as goal
use Rattle.std.proofs.Common.{not}

-- the types right above, by the members walked so far
abbrev pub invariant-types : goal.invariant-types
invariant-types l = (k : List ℕ) → is_among l.up k
    ≡ (list_any (λ t. is_among l.level t.name.name && bytes_eq k t.kind.name) (take l.member-index l.types)
    || (list_any (λ x. not (bytes_eq x object_name)) l.level && bytes_eq k object_name))
