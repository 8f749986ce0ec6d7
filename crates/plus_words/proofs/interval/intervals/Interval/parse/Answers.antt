use Rattle.std.proofs.Common.{sym, ◌∙◌, ap}
use Rattle.std.specs.Prelude.{pos}
use Rattle.plus_fraction.specs.Fraction.{whole, compared}
use Rattle.plus_fraction.proofs.Compared.{compared-less}
use Rattle.plus_number.specs.Frac.{fraction_of}
use Rattle.plus_words.proofs.interval.intervals.Interval.parse.Goals as goal

pub invariant_of-result : goal.invariant_of-result
invariant_of-result c = record {
  above = compared-less (whole (pos 0)) (fraction_of c.in-Ok.value)
      (sym (ap (λ x. compared x (fraction_of c.in-Ok.value)) c.zero.ensures) ∙ sym c.order.ensures ∙ c.in-Less.is);
}
