use Rattle.std.proofs.Common.{ap, map}
use Rattle.plus_translate.specs.Placed.{shown}
use Rattle.plus_translate.proofs.FiresLemmas.{event_done}
use Rattle.plus_translate.proofs.fires.put_event.Goals as goal

pub returns : goal.returns
returns c =
    event_done c.args.number c.args.event.now c.as_slice.result.now (map shown c.in_ok-writes.writes.items) (map shown c.deref.result.now) _ _ _ c.in_ok-marks_of.field-0
    c.as_slice.ensures c.in_ok-writes.ensures (ap (map shown) c.deref.ensures.value) c.in_ok-put_writes.ensures c.in_ok-push.ensures.items c.in_ok-marks_of.ensures
