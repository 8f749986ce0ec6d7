use Rattle.plus_rules.specs.Written.{nodes_of}
use Rattle.plus_rules.proofs.Counting.{is_small, is_large}
use Rattle.plus_rules.proofs.preparation.limits.Goals as goal

pub returns-then-not-are_small : goal.returns-then-not-are_small
returns-then-not-are_small g c =
    let t = c.args.numbering.now.typed.now in
    (c.requires, is_large 1000000 c.are_small.result (nodes_of t.domain t.problem c.args.rules.now) c.are_small.ensures c.if-not-are_small.true)

pub returns-in-Ok : goal.returns-in-Ok
returns-in-Ok g c =
    let t = c.args.numbering.now.typed.now in
    record {
      small = record { typed = c.requires; nodes = is_small 1000000 c.are_small.result (nodes_of t.domain t.problem c.args.rules.now) c.are_small.ensures c.if-not-are_small.false };
      numbers = c.in-Ok.ensures.each;
    }

pub returns-in-Err : goal.returns-in-Err
returns-in-Err g c =
    let t = c.args.numbering.now.typed.now in
    (record { typed = c.requires; nodes = is_small 1000000 c.are_small.result (nodes_of t.domain t.problem c.args.rules.now) c.are_small.ensures c.if-not-are_small.false }, c.in-Err.ensures)
