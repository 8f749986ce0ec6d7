use Rattle.plus_tokens.proofs.Coming.{close_told, close_other}
use Rattle.plus_tokens.proofs.ahead.close_ahead.Goals as goal

pub returns-then-byte_at-eq41 : goal.returns-then-byte_at-eq41
returns-then-byte_at-eq41 c = close_told c.args.text.now c.args.from _ _ c.gap_end-start.ensures.end c.byte_at.ensures c.if-byte_at-eq41.true

pub returns-else-byte_at-eq41 : goal.returns-else-byte_at-eq41
returns-else-byte_at-eq41 c = close_other c.args.text.now c.args.from _ _ c.gap_end-start.ensures.end c.byte_at.ensures c.if-byte_at-eq41.false
