use Rattle.plus_tokens.proofs.Coming.{open_told, open_other}
use Rattle.plus_tokens.proofs.ahead.open_ahead.Goals as goal

pub returns-then-byte_at-eq40 : goal.returns-then-byte_at-eq40
returns-then-byte_at-eq40 c = open_told c.args.text.now c.args.from _ _ c.gap_end-start.ensures.end c.byte_at.ensures c.if-byte_at-eq40.true

pub returns-else-byte_at-eq40 : goal.returns-else-byte_at-eq40
returns-else-byte_at-eq40 c = open_other c.args.text.now c.args.from _ _ c.gap_end-start.ensures.end c.byte_at.ensures c.if-byte_at-eq40.false
