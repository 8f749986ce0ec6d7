-- The instances of actions that are made and kept.
use Rattle.std.specs.Prelude.{◌≡◌, ℕ, List, Option, Some, All, option_map, slice_get, length}
use Rattle.plus_model.specs.Terms as model
use Rattle.plus_number.specs.Frac.{fraction_of, IsFrac64}
use Rattle.plus_state.specs.Fits.{ActionFits}
use Rattle.plus_state.specs.View.{action_of}
use Rattle.plus_types.specs.declared.typed.Typed.{Typed}
use Rattle.plus_numbering.specs.Tables.{context}
use Rattle.plus_expansion.specs.Numbers.{ground_names}
use Rattle.plus_expansion.specs.Calls.{called_of}
use Rattle.plus_ground.specs.Refusals.{IsInstance}
use Rattle.plus_instances.specs.declared.instances.Kept.{Kept}
use Rattle.plus_instances.specs.declared.instances.Place.{Place}
use Rattle.plus_instances.specs.declared.instances.Place.TheVariants.{Large, Small}
use Rattle.plus_instances.specs.declared.instances.Instances.{Instances}

-- the instance of this call in a pair: it is inside the limits, and its ids are those of the pair
pub record IsMade (t : Typed) (name : List ℕ) (args : List (List ℕ)) (a : model.Action) : Type 0 where
  pub called : IsInstance IsFrac64 t.domain name (called_of t.domain t.problem name args) a
  pub fits : ActionFits (length (ground_names (context t) t.domain.predicates)) (length (ground_names (context t) t.domain.functions)) a

-- an instance is kept with its call
abbrev pub IsKept : Typed → Kept → Type 0
IsKept t k = IsMade t k.name k.args.items (action_of fraction_of k.action)

-- all that are kept are instances of their calls
pub record AreMade (i : Instances) : Type 0 where
  pub large : All (IsKept i.numbering.now.typed.now) i.large.items
  pub small : All (IsKept i.numbering.now.typed.now) i.small.items

-- more or fewer instances of the same pair are kept
pub record StayMade (old new : Instances) : Type 0 where
  pub same : new.numbering ≡ old.numbering
  pub made : AreMade new

-- the instance at a place of a list
abbrev pub kept_at : List Kept → ℕ → Option model.Action
kept_at kept place = option_map (λ (k : Kept). action_of fraction_of k.action) (slice_get kept place)

-- the instance at a place
abbrev pub made_at : Instances → Place → Option model.Action
made_at i (Large place) = kept_at i.large.items place
made_at i (Small place) = kept_at i.small.items place

-- the instance of this call in a pair stands at a place
pub record HasMade (t : Typed) (i : Instances) (name : List ℕ) (args : List (List ℕ)) (place : Place) : Type 0 where
  pub action : model.Action
  pub is : made_at i place ≡ Some action
  pub made : IsMade t name args action
