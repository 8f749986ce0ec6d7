use Rattle.plus_tokens.proofs.Coming.{name_told, long_told, name_other}
use Rattle.plus_tokens.proofs.ahead.name_ahead.Goals as goal

pub returns-then-not-is_letter : goal.returns-then-not-is_letter
returns-then-not-is_letter c = name_other c.args.text.now c.args.from _ _ _ c.gap_end-start.ensures.end c.byte_at.ensures c.is_letter.ensures c.if-not-is_letter.true

pub returns-then-end-start-gt-NAME_BYTES : goal.returns-then-end-start-gt-NAME_BYTES
returns-then-end-start-gt-NAME_BYTES c =
    long_told c.args.text.now c.args.from _ _ _ _ c.gap_end-start.ensures.end c.byte_at.ensures c.is_letter.ensures c.if-not-is_letter.false c.name_end-end.ensures.end c.if-end-start-gt-NAME_BYTES.true

pub returns : goal.returns
returns c =
    name_told c.args.text.now c.args.from _ _ _ _ c.gap_end-start.ensures.end c.byte_at.ensures c.is_letter.ensures c.if-not-is_letter.false c.name_end-end.ensures.end c.if-end-start-gt-NAME_BYTES.false
