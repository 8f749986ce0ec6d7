use Rattle.std.proofs.Common.{sym, ◌∙◌}
use Rattle.plus_plan.proofs.Coming.{entry_told, entry_behind, line_by}
use Rattle.plus_plan.proofs.grammar.entry.Goals as goal

pub returns-then-open : goal.returns-then-open
returns-then-open c = record { gives = line_by _ _ _ _ (entry_told _ _ c.args.reader.now c.open.new.self (sym c.if-open.true ∙ c.open.ensures.comes) c.open.ensures.leaves) c.act.ensures.gives }

pub returns : goal.returns
returns c = record { gives = line_by _ _ _ _ (entry_behind _ _ c.args.reader.now c.open.new.self (sym c.if-open.false ∙ c.open.ensures.comes) c.open.ensures.leaves) c.last.ensures.gives }
