use Rattle.std.proofs.Common.{sym, subst}
use Rattle.plus_rules.specs.Refusals.{RefusesConstraints}
use Rattle.plus_rules.proofs.WalkedLemmas.{refused_typing}
use Rattle.plus_rules.proofs.preparation.test.Goals as goal

pub returns-in-Err : goal.returns-in-Err
returns-in-Err g c =
    let t = c.args.numbering.now.typed.now in
    subst (RefusesConstraints g.Q.Exact.fits t.domain t.problem c.args.rules.now) (sym c.told.ensures) (refused_typing g.Q.Exact.fits t.domain t.problem c.args.rules.now c.in-Err.fault c.in-Err.ensures)
