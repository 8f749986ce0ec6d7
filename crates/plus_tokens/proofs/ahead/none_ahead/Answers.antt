use Rattle.plus_tokens.proofs.Coming.{end_told}
use Rattle.plus_tokens.proofs.ahead.none_ahead.Goals as goal

pub returns : goal.returns
returns c = end_told c.args.text.now c.args.from _ c.gap_end.ensures.end c.gap_end.ensures.inside
