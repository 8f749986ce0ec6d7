-- What a translation says of one event.
use Rattle.std.specs.Prelude.{ℕ, [], ◌∷◌}
use Rattle.plus_tree.specs.declared.trees.Head.{Head}
use Rattle.plus_tree.specs.declared.trees.LeafNode.TheVariants.{Delete}
use Rattle.plus_tree.specs.declared.trees.Schema.{Schema}
use Rattle.plus_tree.specs.Cond.{Cond, c_not, c_atom}
use Rattle.plus_tree.specs.Effect.{Effect}
use Rattle.plus_translation.specs.Renamed.{nowhere, spelled}
use Rattle.plus_translation.specs.Leaves.{over, some, over_effect}
use Rattle.plus_translation.specs.Translated.{both, writes, leaf, mark_name, mark_of}

-- it does not hold
abbrev pub none_of : Schema → Cond
none_of a = over a.params (c_not a.condition nowhere)

-- it holds
abbrev pub some_of : Schema → Cond
some_of a = some a.params a.condition

-- it does not hold with its mark
abbrev pub repeats_of : ℕ → Schema → Cond
repeats_of i a = over a.params (c_not (both (a.condition ∷ c_atom (mark_of i a) nowhere ∷ [])) nowhere)

-- its marks go
abbrev pub clear_of : ℕ → Schema → Effect
clear_of i a = over_effect a.params (writes (leaf (Delete (mark_of i a))))

-- the predicate of its marks
abbrev pub head_of : ℕ → Schema → Head
head_of i a = record { name = spelled (mark_name i); params = a.params; span = nowhere }
