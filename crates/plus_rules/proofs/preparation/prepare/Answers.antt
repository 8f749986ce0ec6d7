use Rattle.plus_rules.proofs.Meaning.{all_fit, all_few}
use Rattle.plus_rules.proofs.preparation.prepare.Goals as goal

pub build-requires : goal.build-requires
build-requires g c = c.in_ok-test.ensures.numbers

pub returns-clause-meant : goal.returns-clause-meant
returns-clause-meant g c = c.in_ok-build.ensures

pub returns-clause-limits : goal.returns-clause-limits
returns-clause-limits g c = c.in_ok-test.ensures

pub returns-clause-fit : goal.returns-clause-fit
returns-clause-fit g c =
    let t = c.args.numbering.now.typed.now in
    all_fit g.Q.Exact.value t.domain t.problem c.args.rules.now c.in_ok-build.field-0.items c.in_ok-build.ensures t.well_typed c.in_ok-test.ensures.small.typed

pub returns-clause-few : goal.returns-clause-few
returns-clause-few g c =
    let t = c.args.numbering.now.typed.now in
    all_few g.Q.Exact.value t.domain t.problem c.args.rules.now c.in_ok-build.field-0.items c.in_ok-build.ensures c.in_ok-test.ensures.small.nodes
