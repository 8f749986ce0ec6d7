-- Where all names are plain, so are those of calls.
use Rattle.std.proofs.Common.{List, get_or, All, subst}
use Rattle.std.specs.Prelude.{Contains}
use Rattle.plus_model.specs.Terms.{Action}
use Rattle.plus_tree.specs.declared.trees.Call.{Call}
use Rattle.plus_tree.specs.declared.trees.Domain.{Domain}
use Rattle.plus_tree.specs.declared.trees.Problem.{Problem}
use Rattle.plus_types.specs.Types.{names_of, objects_of}
use Rattle.plus_types.specs.Faults.{action_names}
use Rattle.laws_found.specs.Text.Written.{IsPlainName}
use Rattle.laws_found.specs.Calls.Calls.{IsCalledBy, HasPlainNames, IsPlain}

member : {A : Type 0} (P : A → Type 0) (xs : List A) (x : A) → All P xs → Contains xs x → P x
member P xs x all c = subst P c.2 (all c.0 x c.1)

pub plain_calls : (d : Domain) (p : Problem) (action : Action) (call : Call) → HasPlainNames d p → IsCalledBy d p action call → IsPlain call
plain_calls d p action call h c = record {
  name = member IsPlainName (action_names d) call.name h.actions c.name;
  args = λ k w lt. member IsPlainName (names_of (objects_of d p)) (get_or call.args k w) h.objects (c.args k w lt);
}
