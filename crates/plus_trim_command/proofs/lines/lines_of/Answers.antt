use Rattle.std.proofs.Common.{arith, sym, subst}
use Rattle.plus_trim_command.specs.Lines.{HaveRead}
use Rattle.plus_trim_command.proofs.Reading.{lines_on, read_more, read_all, none_read}
use Rattle.plus_trim_command.proofs.lines.lines_of.Goals as goal

pub reading-init : goal.reading-init
reading-init c = subst (HaveRead c.args.text.now 0 1) (sym c.new-lines.ensures.items) (none_read c.args.text.now)

pub read_one-requires-clause-lines : goal.read_one-requires-clause-lines
read_one-requires-clause-lines c = lines_on c.args.text.now c.reading.from c.reading.number c.reading.lines.items c.reading.invariant c.requires.lines

pub overflow_add-number : goal.overflow_add-number
overflow_add-number c = let f = c.reading.invariant.few in let i = c.reading.invariant.inside in let w = c.requires.within in omega arith

pub reading-preserved : goal.reading-preserved
reading-preserved c =
    read_more c.args.text.now c.reading.from c.reading.number c.reading.lines.items c.read_one.new.lines.items c.in_ok-from.from
    c.reading.invariant c.in_ok-from.ensures

pub returns-clause-spoken : goal.returns-clause-spoken
returns-clause-spoken c = read_all c.args.text.now c.reading.from c.reading.number c.reading.lines.items c.reading.invariant c.reading-test.false

pub returns-clause-bottoms : goal.returns-clause-bottoms
returns-clause-bottoms c = c.reading.invariant.bottoms
