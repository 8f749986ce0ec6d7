use Rattle.std.proofs.Common.{◌∙◌}
use Rattle.std.proofs.lemmas.Result.{err_from_is_err_and}
use Rattle.plus_types.specs.Faults.{problem_context}
use Rattle.plus_types.specs.Known.{context}
use Rattle.plus_rules.proofs.WalkedLemmas.{none_yet, first_fault, no_fault}
use Rattle.plus_rules.proofs.typing.walk.Goals as goal

pub rules-preserved : goal.rules-preserved
rules-preserved c =
    let t = c.args.typed.now in
    record {
      walked = none_yet (problem_context t.domain t.problem) (context c.known-known.result) c.rules.vars c.known-known.ensures c.rules.invariant.kept c.args.rules.now c.rules.rule-index c.rule-item.result _
          c.rules-test.true c.rule-item.is c.rules.invariant.walked c.in_ok-condition.ensures.walks;
      kept = c.in_ok-condition.ensures.kept ∙ c.rules.invariant.kept;
    }

pub returns-in_err-condition : goal.returns-in_err-condition
returns-in_err-condition c =
    let t = c.args.typed.now in
    let p = err_from_is_err_and c.from_residual.result c.from_residual.ensures.1 in
    rw (p.1, p.2) (first_fault (problem_context t.domain t.problem) (context c.known-known.result) c.rules.vars c.known-known.ensures c.rules.invariant.kept c.args.rules.now c.rules.rule-index c.rule-item.result _
    c.rules-test.true c.rule-item.is c.rules.invariant.walked _ c.in_err-condition.ensures.walks)

pub returns : goal.returns
returns c =
    let t = c.args.typed.now in
    no_fault (problem_context t.domain t.problem) c.args.rules.now c.rules.rule-index _ c.rules-test.false c.rules.invariant.walked
