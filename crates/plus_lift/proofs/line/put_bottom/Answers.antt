use Rattle.std.proofs.Common.{◌∙◌}
use Rattle.plus_lift.proofs.OverflowLemmas.{no_bottom, bottom_put}
use Rattle.plus_lift.proofs.line.put_bottom.Goals as goal

pub returns-then-bottom-eq1 : goal.returns-then-bottom-eq1
returns-then-bottom-eq1 c = no_bottom _ _ c.if-bottom-eq1.true

pub returns : goal.returns
returns c =
    bottom_put c.args.text.now.items c.push.new.self.items _ c.as_bytes.result.now c.args.bottom c.if-bottom-eq1.false c.in_ok-push.ensures.items
    c.in_ok-extend_from_slice.ensures.items (c.as_bytes.ensures.value ∙ c.format.ensures.text)
