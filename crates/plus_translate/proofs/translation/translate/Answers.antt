use Rattle.plus_number.specs.Frac.{fraction_of}
use Rattle.plus_translate.proofs.TranslateLemmas.{answered}
use Rattle.plus_translate.proofs.translation.translate.Goals as goal

pub returns : goal.returns
returns c =
    let n = rw (c.domain-domain.ensures, c.problem-problem.ensures) at c.in_default.ensures in
    let a = rw (c.as_slice.ensures, c.problem-problem.ensures) at c.in-Ok.ensures.0 in
    let h = rw (c.domain-domain.ensures, c.problem-problem.ensures) at c.shallow_trees.ensures in
    answered (fraction_of c.args.interval) c.args.typed.now.domain c.args.typed.now.problem c.shallow_trees.result n a h
