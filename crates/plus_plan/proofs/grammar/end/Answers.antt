use Rattle.std.proofs.Common.{sym, ◌∙◌}
use Rattle.plus_plan.proofs.Coming.{end_told, end_stopped}
use Rattle.plus_plan.proofs.grammar.end.Goals as goal

pub returns-then-is_done : goal.returns-then-is_done
returns-then-is_done c = record { gives = end_told c.args.reader.now (sym c.if-is_done.true ∙ c.is_done.ensures) }

pub returns : goal.returns
returns c = record { gives = end_stopped c.args.reader.now _ (sym c.if-is_done.false ∙ c.is_done.ensures) c.refusal.ensures }
