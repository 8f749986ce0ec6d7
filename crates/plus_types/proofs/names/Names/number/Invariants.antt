use Rattle.std.proofs.Common.{◌≡◌, ◌+◌, drop}
use Rattle.std.specs.List.{position_or_len}
use Rattle.std.specs.Str.{bytes_eq}
use Rattle.plus_types.proofs.names.Names.number.Given as goal

-- none of the names seen so far is this one
abbrev pub invariant-keys : goal.invariant-keys
invariant-keys l =
    position_or_len (λ k. bytes_eq l.name k.items) l.keys
    ≡ l.place + position_or_len (λ k. bytes_eq l.name k.items) (drop l.place l.keys)
