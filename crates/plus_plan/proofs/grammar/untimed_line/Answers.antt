use Rattle.std.proofs.Common.{sym, ◌∙◌}
use Rattle.plus_plan.proofs.Coming.{step_told, blank_told, untimed_stopped, line_by}
use Rattle.plus_plan.proofs.grammar.untimed_line.Goals as goal

pub returns-then-open : goal.returns-then-open
returns-then-open c = record { gives = line_by _ _ _ _ (step_told _ c.args.reader.now c.open.new.self (sym c.if-open.true ∙ c.open.ensures.comes) c.open.ensures.leaves) c.step.ensures.gives }

pub returns-then-is_done : goal.returns-then-is_done
returns-then-is_done c = record { gives = blank_told _ c.args.reader.now c.open.new.self (sym c.if-open.false ∙ c.open.ensures.comes) c.open.ensures.leaves (sym c.if-is_done.true ∙ c.is_done.ensures) }

pub returns : goal.returns
returns c = record { gives = untimed_stopped _ c.args.reader.now c.open.new.self _ (sym c.if-open.false ∙ c.open.ensures.comes) c.open.ensures.leaves (sym c.if-is_done.false ∙ c.is_done.ensures) c.refusal.ensures }
