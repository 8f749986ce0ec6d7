-- What a contract sees of a write with what stands around it.
use Rattle.std.specs.Borrow.{Bor}
use Rattle.std.specs.Prelude.{List, [], ◌∷◌, ◌++◌, Option, Some, None, map}
use Rattle.plus_tree.specs.declared.terms.TypedName.{TypedName}
use Rattle.plus_tree.specs.Cond.{Cond}
use Rattle.plus_translation.specs.Leaves.{Placed}
use Rattle.plus_translate.specs.declared.placed.Placed as code

-- what lists that are lent contain
abbrev pub lists_of : List (Bor (List TypedName)) → List (List TypedName)
lists_of ls = map (λ l. l.now) ls

abbrev pub guards_of : Option (Bor Cond) → List Cond
guards_of None = []
guards_of (Some g) = g.now ∷ []

abbrev pub shown : code.Placed → Placed
shown p = record { lists = lists_of p.lists.items; guards = guards_of p.guard; leaf = p.leaf.now }

-- the same write inside more lists
abbrev pub under : List (List TypedName) → Placed → Placed
under lists p = record { lists = lists ++ p.lists; guards = p.guards; leaf = p.leaf }
