use Rattle.std.proofs.Common.{refl}
use Rattle.std.specs.List.{flat_map}
use Rattle.std.proofs.lemmas.Result.{err_from_is_err_and}
use Rattle.plus_expansion.specs.Literals.{init_literals}
use Rattle.plus_numbering.proofs.Unfits.{member_fits, member_unfit}
use Rattle.plus_numbering.proofs.fitting.init.Goals as goal

pub members-preserved : goal.members-preserved
members-preserved g c =
    member_fits g.Q.Exact.fits (flat_map init_literals) init_literals (λ x xs. refl) c.args.members.now c.members.member-index c.member-item.result _
    c.members-test.true c.member-item.is c.members.invariant c.in_ok-initial.ensures

pub returns-in_err-initial : goal.returns-in_err-initial
returns-in_err-initial g c =
    let p = err_from_is_err_and c.from_residual.result c.from_residual.ensures.1 in
    rw (p.1, p.2) (member_unfit g.Q.Exact.fits (flat_map init_literals) init_literals (λ x xs. refl) c.args.members.now c.members.member-index c.member-item.result _ _
    c.members-test.true c.member-item.is c.members.invariant c.in_err-initial.ensures)
