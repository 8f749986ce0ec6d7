use Rattle.std.proofs.Common.{ℕ, List, ◌++◌, ap, refl}
use Rattle.std.proofs.lemmas.Result.{IfOk-equal}
use Rattle.plus_model.specs.Terms.{Condition}
use Rattle.plus_state.proofs.TestsLemmas.{all_view, any_view}
use Rattle.plus_cut.specs.Lost.{goal_atoms}
use Rattle.plus_cut.specs.Marks.{unmarked}
use Rattle.plus_cut.proofs.LosingLemmas.{goal_any, goal_atom, goal_compare}
use Rattle.plus_cut.proofs.losing.keep_goal.Goals as goal

pub returns-in-All : goal.returns-in-All
returns-in-All g c =
    IfOk-equal c.keep_members.result _ _ _ c.keep_members.ensures
    (ap (λ (d : Condition). c.args.atoms.now.items ++ unmarked c.args.marks.now (goal_atoms d)) (all_view g.Q.Exact.value c.args.goal.now c.in-All.members c.deref.result.now c.in-All.is c.deref.ensures.value))

pub returns-in-Any : goal.returns-in-Any
returns-in-Any g c =
    IfOk-equal c.keep.result _ _ _ c.keep.ensures
    (ap (λ (bs : List ℕ). c.args.atoms.now.items ++ unmarked c.args.marks.now bs)
    (goal_any _ _ (any_view g.Q.Exact.value c.args.goal.now c.in-Any.field-0 c.in-Any.field-0.items c.in-Any.is refl)))

pub returns-in-Atom : goal.returns-in-Atom
returns-in-Atom g c =
    IfOk-equal c.keep-in-Atom.result _ _ _ c.keep-in-Atom.ensures
    (ap (λ (bs : List ℕ). c.args.atoms.now.items ++ unmarked c.args.marks.now bs) (goal_atom g.Q.Exact.value c.args.goal.now _ _ c.in-Atom.is))

pub returns-in-Compare : goal.returns-in-Compare
returns-in-Compare g c =
    IfOk-equal c.keep-in-Compare.result _ _ _ c.keep-in-Compare.ensures
    (ap (λ (bs : List ℕ). c.args.atoms.now.items ++ unmarked c.args.marks.now bs) (goal_compare g.Q.Exact.value c.args.goal.now _ _ _ _ c.in-Compare.is))
