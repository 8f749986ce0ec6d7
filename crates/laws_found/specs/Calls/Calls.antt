-- The calls of ground actions.
use Rattle.std.specs.Prelude.{◌≡◌, All, Contains}
use Rattle.plus_model.specs.Terms.{Action}
use Rattle.plus_model.specs.Plan.{Instance}
use Rattle.plus_tree.specs.declared.trees.Call.{Call}
use Rattle.plus_tree.specs.declared.trees.Domain.{Domain}
use Rattle.plus_tree.specs.declared.trees.Problem.{Problem}
use Rattle.plus_types.specs.Types.{names_of, objects_of}
use Rattle.plus_types.specs.Faults.{action_names}
use Rattle.plus_expansion.specs.Numbers.{label_of}
use Rattle.plus_expansion.specs.Calls.{called_of}
use Rattle.laws_found.specs.Text.Written.{IsPlainName}

-- The call names the action, and is shown as the action's label says. Its name is that of an action of the domain, and each of its
-- arguments is the name of a constant of the domain or of an object of the problem.
pub record IsCalledBy (d : Domain) (p : Problem) (action : Action) (call : Call) : Type 0 where
  pub called : called_of d p call.name call.args ≡ Instance action
  pub label : label_of call.name call.args ≡ action.label
  pub name : Contains (action_names d) call.name
  pub args : All (Contains (names_of (objects_of d p))) call.args

-- the names of the domain's actions, of its constants and of the problem's objects are plain
pub record HasPlainNames (d : Domain) (p : Problem) : Type 0 where
  pub actions : All IsPlainName (action_names d)
  pub objects : All IsPlainName (names_of (objects_of d p))

-- the name of the call and those of its arguments are plain
pub record IsPlain (call : Call) : Type 0 where
  pub name : IsPlainName call.name
  pub args : All IsPlainName call.args
