use Rattle.std.proofs.Common.{ap, ◌∙◌}
use Rattle.plus_tokens.specs.Coming.{is_done}
use Rattle.plus_tokens.proofs.Taken.{done_told}
use Rattle.plus_tokens.proofs.stream.Tokens.is_done.Goals as goal

pub returns : goal.returns
returns c = c.none_ahead.ensures ∙ done_told c.self.inside.text.now c.self.inside.at c.self.invariant ∙ ap is_done c.self.view_is
