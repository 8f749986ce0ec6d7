use Rattle.plus_tokens.proofs.Coming.{colon_told, keyword_told, colon_other}
use Rattle.plus_tokens.proofs.ahead.colon_ahead.Goals as goal

pub returns-then-byte_at-ne58 : goal.returns-then-byte_at-ne58
returns-then-byte_at-ne58 c = colon_other c.args.text.now c.args.from _ _ c.gap_end-start.ensures.end c.byte_at.ensures c.if-byte_at-ne58.true

pub returns-then-is_letter : goal.returns-then-is_letter
returns-then-is_letter c =
    keyword_told c.args.text.now c.args.from _ _ _ _ c.gap_end-start.ensures.end c.byte_at.ensures c.if-byte_at-ne58.false c.byte_at-2.ensures c.is_letter.ensures c.if-is_letter.true

pub returns : goal.returns
returns c =
    colon_told c.args.text.now c.args.from _ _ _ _ c.gap_end-start.ensures.end c.byte_at.ensures c.if-byte_at-ne58.false c.byte_at-2.ensures c.is_letter.ensures c.if-is_letter.false
