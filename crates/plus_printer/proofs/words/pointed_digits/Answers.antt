use Rattle.std.proofs.Common.{arith}
use Rattle.plus_printer.proofs.AppendedLemmas.{whole_is, inside_is, before_is}
use Rattle.plus_printer.proofs.words.pointed_digits.Goals as goal

pub returns-then-places-eq0 : goal.returns-then-places-eq0
returns-then-places-eq0 c =
    rw (c.if-places-eq0.true, whole_is c.args.digits.now c.requires.some) c.put.ensures

pub returns-then-places-digits : goal.returns-then-places-digits
returns-then-places-digits c =
    rw (inside_is c.args.places c.args.digits.now (omega arith) (omega arith)) c.point_inside.ensures

pub returns-else-places-digits : goal.returns-else-places-digits
returns-else-places-digits c =
    rw (before_is c.args.places c.args.digits.now (omega arith) (omega arith)) c.point_before.ensures
