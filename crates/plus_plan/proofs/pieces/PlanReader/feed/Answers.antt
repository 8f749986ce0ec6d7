use Rattle.std.proofs.Common.{arith}
use Rattle.plus_plan.proofs.Feeding.{held_fed}
use Rattle.plus_plan.proofs.pieces.PlanReader.feed.Goals as goal

pub invariant_of-self : goal.invariant_of-self
invariant_of-self c = record {
  room = omega arith;
  within = omega arith;
  ends = held_fed c.self.inside.buffer.items c.put.new.buffer.items c.args.piece.now c.self.inside.len c.min-taken.result c.line_end-end.result c.self.inside.whole c.if-self.false c.self.invariant.ends c.self.invariant.room c.self.invariant.within c.line_end-end.ensures.end (omega arith) (omega arith) c.put.ensures.written;
}
