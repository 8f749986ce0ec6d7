use Rattle.std.proofs.Common.{sym, ◌∙◌}
use Rattle.plus_plan.proofs.Coming.{duration_told, duration_behind}
use Rattle.plus_plan.proofs.grammar.duration.Goals as goal

pub returns-then-is_done : goal.returns-then-is_done
returns-then-is_done c = record { gives = duration_told c.args.reader.now (sym c.if-is_done.true ∙ c.is_done.ensures) }

pub returns : goal.returns
returns c = record { gives = duration_behind _ c.args.reader.now _ _ (sym c.if-is_done.false ∙ c.is_done.ensures) c.brackets.ensures.gives }
