use Rattle.std.proofs.Common.{◌≡◌, [], ◌∷◌, ◌++◌, map, take}
use Rattle.plus_translate.specs.Placed.{shown, lists_of}
use Rattle.plus_translate.proofs.placed.put_guarded.Given as goal

-- the writes so far
abbrev pub invariant-writes : goal.invariant-writes
invariant-writes l = map shown l.into.items ≡ map shown l.initial.into.items
    ++ map (λ w. record { lists = lists_of l.lists; guards = l.guard ∷ []; leaf = w }) (take l.leaf-index l.writes)
