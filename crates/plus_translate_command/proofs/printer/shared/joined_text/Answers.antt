use Rattle.plus_translate_command.proofs.PrinterLemmas.JoinedLemmas.{joined}
use Rattle.plus_translate_command.proofs.printer.shared.joined_text.Goals as goal

pub returns : goal.returns
returns c = λ conds span e.
    let view = rw c.in-All.is at c.condition.view_is in
    let text = rw c.deref.ensures.value at c.in_ok-conditions.ensures in
    joined c.in-All.conds.items conds _ span _ _ _ view e c.new-text.ensures.items text
