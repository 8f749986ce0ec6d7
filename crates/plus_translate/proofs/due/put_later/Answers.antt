use Rattle.plus_translate.proofs.DueLemmas.{later_done}
use Rattle.plus_translate.proofs.due.put_later.Goals as goal

pub dues-preserved : goal.dues-preserved
dues-preserved c =
    later_done c.args.dues.now c.dues.due-index c.due-item.result c.args.into.now.items c.dues.into.items c.put_one.new.into.items c.dues-test.true c.due-item.is
    c.dues.invariant c.in_ok-put_one.ensures
