use Rattle.std.proofs.Common.{◌-◌, arith}
use Rattle.plus_planner.proofs.TriedLemmas.{stands_there}
use Rattle.plus_planner.proofs.places.Place.+find_among.Goals as goal

pub returns-then-tried-decision-2 : goal.returns-then-tried-decision-2
returns-then-tried-decision-2 g t c = record {
  tried = c.index-tried.result.now;
  stands = stands_there c.args.self.now.tried.items (c.args.count - 1) c.index-tried.result.now (omega (arith, c.requires, c.if-count-eq0.false)) c.index-tried.ensures;
  before = omega (arith, c.if-tried-len.false, c.len.ensures);
  decision = c.if-tried-decision-2.true;
}
