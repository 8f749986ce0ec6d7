-- What adds nothing to an expansion, so that no choice of its variables needs to be built.
use Rattle.std.specs.Prelude.{Bool, true, false, List, [], ◌∷◌, length, nat_eq, if◌then◌else◌}
use Rattle.plus_tree.specs.declared.terms.TypedName.{TypedName}
use Rattle.plus_tree.specs.Effect.{Effect, Effects, e_all, e_forall, e_when, e_leaf, no_effects, more_effects}
use Rattle.plus_types.specs.Faults.{Context}
use Rattle.plus_expansion.specs.Objects.{members_of}

-- no write stands in an effect
abbrev mutual
  pub writes_nothing : Effect → Bool
  writes_nothing (e_all es s) = write_nothing es
  writes_nothing (e_forall vs e s) = writes_nothing e
  writes_nothing (e_when f ls s) = nat_eq (length ls) 0
  writes_nothing (e_leaf l s) = false

  pub write_nothing : Effects → Bool
  write_nothing no_effects = true
  write_nothing (more_effects e es) = if writes_nothing e then write_nothing es else false

-- there is an object of the type of each variable
abbrev pub have_objects : Context → List TypedName → Bool
have_objects c [] = true
have_objects c (v ∷ vs) = if nat_eq (length (members_of c v.kind.name)) 0 then false else have_objects c vs
