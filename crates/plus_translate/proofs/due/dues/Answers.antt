use Rattle.plus_number.specs.Frac.{fraction_of}
use Rattle.plus_translate.proofs.DueLemmas.{dues_more}
use Rattle.plus_translate.proofs.due.dues.Goals as goal

pub init-preserved : goal.init-preserved
init-preserved c =
    dues_more (fraction_of c.args.interval) c.args.init.now c.init.member-index c.member-item.result c.init.found.items c.keep.new.found.items c.in-Ok.due
    c.init-test.true c.member-item.is c.init.invariant c.in-Ok.ensures.0 c.in-Ok.ensures.1 c.in_ok-keep.ensures
