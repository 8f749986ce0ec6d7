use Rattle.std.proofs.Common.{ap}
use Rattle.plus_plan.specs.Pending.{Pending}
use Rattle.plus_plan.proofs.Nexts.{held_one, next_is, refused_is}
use Rattle.plus_plan.proofs.pieces.PlanReader.due_line.Goals as goal

pub returns : goal.returns
returns c =
    let r = c.args.self.now in
    let rest = ap (λ (p : Pending). p.rest) c.self.view_is in
    let form = ap (λ (p : Pending). p.form) c.self.view_is in
    let number = ap (λ (p : Pending). p.number) c.self.view_is in
    let one = held_one r c.self.inside.whole c.self.inside.len c.self.inside.buffer.items c.self.invariant.room c.self.invariant.within c.self.invariant.ends rest in
    let exact = rw (form, number, c.line.ensures) at c.read_line.ensures.exact in
    record {
      line = next_is r c.read_line.new.into c.read_line.result c.requires.no_fault one c.requires.due exact;
      refused = refused_is r c.read_line.new.into c.read_line.result one c.requires.due exact;
      too_long = rw (number, c.line.ensures) at c.read_line.ensures.too_long;
    }
