use Rattle.std.proofs.Common.{refl, ◌++◌, [], ◌∷◌, take, drop}
use Rattle.std.proofs.lemmas.Result.{err_from_is_err_and}
use Rattle.plus_types.specs.Types.{bound_names}
use Rattle.plus_types.specs.Faults.{member_faults, list_faults}
use Rattle.plus_types.proofs.WalkLemmas.{walk_err}
use Rattle.plus_types.proofs.ListLemmas.{list_left}
use Rattle.plus_types.proofs.declarations.list.Goals as goal

pub returns-in_err-member-clause-walks : goal.returns-in_err-member-clause-walks
returns-in_err-member-clause-walks c =
    let p = err_from_is_err_and c.from_residual.result c.from_residual.ensures.1 in
    let around = take c.args.outer (bound_names c.members.table) in
    let before = drop c.args.outer (bound_names c.members.table) in
    rw (p.1, p.2) (walk_err _ (list_left c.args.types.now c.args.file c.args.outer c.members.table) (member_faults c.args.types.now c.args.file around before)
    (λ x xs. list_faults c.args.types.now c.args.file around (before ++ x.name.name ∷ []) xs) (λ x xs. refl) c.args.members.now c.members.typed-index c.typed-item.result _
    c.members-test.true c.typed-item.is c.members.invariant.walked c.in_err-member.ensures.walks)
