use Rattle.std.proofs.Common.{◌≡◌, drop, not}
use Rattle.std.specs.List.{list_any}
use Rattle.std.specs.Str.{bytes_eq}
use Rattle.plus_types.proofs.names.Names.has_another.Given as goal

-- the names seen so far are this one
abbrev pub invariant-keys : goal.invariant-keys
invariant-keys l = list_any (λ k. not (bytes_eq k.items l.name)) l.key-items ≡ list_any (λ k. not (bytes_eq k.items l.name)) (drop l.key-index l.key-items)
