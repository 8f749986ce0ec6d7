use Rattle.std.proofs.Common.{◌+◌, ◌-◌, length, take, drop, sym, ap, ◌∙◌, arith, Some}
use Rattle.plus_tokens.specs.Bytes.{decimal}
use Rattle.plus_tokens.specs.Numeral.{numeral}
use Rattle.plus_tokens.proofs.Digits.{run_digits}
use Rattle.plus_tokens.proofs.Words.{fraction_none, fraction_some, left_all}
use Rattle.plus_tokens.proofs.numeral.unsigned.Goals as goal

pub decimal-whole-requires-clause-digits : goal.decimal-whole-requires-clause-digits
decimal-whole-requires-clause-digits c = λ k lt. run_digits c.args.word.now c.args.first _ k (omega (arith, c.digits_end-whole_end.ensures.end)) lt

pub returns-then-end-word-clause-is : goal.returns-then-end-word-clause-is
returns-then-end-word-clause-is c =
    sym (fraction_none c.args.negative c.args.word.now c.args.first c.digits_end-whole_end.result c.digits_end-end.result c.digits_end-whole_end.ensures.end
    (omega (arith, c.if-whole_end-word.false, c.digits_end-whole_end.ensures.inside)) c.digits_end-end.ensures.end
    (λ point all some few. absurd (omega (arith, all, c.if-end-word.true))))

pub decimal-requires-clause-digits : goal.decimal-requires-clause-digits
decimal-requires-clause-digits c =
    λ k lt. run_digits c.args.word.now (c.digits_end-whole_end.result + 1) _ k (omega (arith, c.digits_end-end.ensures.end, c.digits_end-end.ensures.inside, c.if-end-word.false)) lt

pub returns-clause-is : goal.returns-clause-is
returns-clause-is c =
    sym (fraction_some c.args.negative c.args.word.now c.args.first c.digits_end-whole_end.result c.digits_end-end.result c.digits_end-whole_end.ensures.end
    (omega (arith, c.if-whole_end-word.false, c.digits_end-whole_end.ensures.inside)) c.digits_end-end.ensures.end
    (omega (arith, c.if-whole_end-first.false, c.digits_end-whole_end.ensures.end)) (omega (arith, c.if-whole_end-first-gt-WHOLE_DIGITS.false))
    (omega (arith, c.if-word-whole_end-ne46.false)) (omega (arith, c.if-end-word.false, c.digits_end-end.ensures.inside))
    (omega (arith, c.if-places-eq0.false)) (omega (arith, c.if-places.false))
    ∙ ap (λ d. Some (numeral c.args.negative d (c.digits_end-end.result - (c.digits_end-whole_end.result + 1))))
    (ap (λ l. decimal (decimal 0 (take (c.digits_end-whole_end.result - c.args.first) (drop c.args.first c.args.word.now))) l) (sym (left_all c.args.word.now (c.digits_end-whole_end.result + 1)))
    ∙ ap (λ n. decimal n (take (length c.args.word.now - (c.digits_end-whole_end.result + 1)) (drop (c.digits_end-whole_end.result + 1) c.args.word.now))) (sym c.decimal-whole.ensures.value)
    ∙ sym c.decimal.ensures.value))
