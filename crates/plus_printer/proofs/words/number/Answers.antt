use Rattle.std.proofs.Common.{arith}
use Rattle.std.proofs.lemmas.Fmt.{decimal_is_IsNumeral_wide}
use Rattle.plus_printer.proofs.words.number.Goals as goal

pub pointed_digits-requires : goal.pointed_digits-requires
pointed_digits-requires c =
    record { some = rw (c.as_bytes.ensures.value, c.format.ensures.text) (decimal_is_IsNumeral_wide c.args.digits (omega arith)).0.0 }
