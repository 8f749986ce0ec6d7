use Rattle.std.proofs.Common.{ap, map}
use Rattle.plus_translate.specs.Placed.{shown}
use Rattle.plus_translate.proofs.FiresLemmas.{process_done}
use Rattle.plus_translate.proofs.flows.put_process.Goals as goal

pub returns : goal.returns
returns c =
    process_done c.args.step.now c.args.process.now c.as_slice.result.now (map shown c.in_ok-writes.writes.items) (map shown c.deref.result.now) _ _
    c.as_slice.ensures c.in_ok-writes.ensures (ap (map shown) c.deref.ensures.value) c.in_ok-put_rates.ensures
