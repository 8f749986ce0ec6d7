use Rattle.std.proofs.Common.{refl}
use Rattle.std.specs.List.{flat_map}
use Rattle.std.proofs.lemmas.Result.{err_from_is_err_and}
use Rattle.plus_tree.specs.declared.trees.Constraint.{Constraint}
use Rattle.plus_rules.specs.Written.{times_of}
use Rattle.plus_numbering.proofs.Unfits.{member_fits, member_unfit}
use Rattle.plus_rules.proofs.numbers.times.Goals as goal

pub rules-preserved : goal.rules-preserved
rules-preserved g c =
    member_fits g.Q.Exact.fits (flat_map (λ (c : Constraint). times_of c.rule)) (λ (c : Constraint). times_of c.rule) (λ x xs. refl) c.args.rules.now c.rules.rule-index c.rule-item.result _
    c.rules-test.true c.rule-item.is c.rules.invariant c.in_ok-time.ensures

pub returns-in_err-time : goal.returns-in_err-time
returns-in_err-time g c =
    let p = err_from_is_err_and c.from_residual.result c.from_residual.ensures.1 in
    rw (p.1, p.2) (member_unfit g.Q.Exact.fits (flat_map (λ (c : Constraint). times_of c.rule)) (λ (c : Constraint). times_of c.rule) (λ x xs. refl) c.args.rules.now c.rules.rule-index c.rule-item.result _ _
    c.rules-test.true c.rule-item.is c.rules.invariant c.in_err-time.ensures)
