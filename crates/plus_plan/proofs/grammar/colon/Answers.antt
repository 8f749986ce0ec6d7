use Rattle.std.proofs.Common.{sym, ◌∙◌}
use Rattle.plus_plan.proofs.Coming.{colon_told, colon_stopped}
use Rattle.plus_plan.proofs.grammar.colon.Goals as goal

pub returns-then-colon : goal.returns-then-colon
returns-then-colon c = record { gives = colon_told c.args.reader.now c.colon.new.self (sym c.if-colon.true ∙ c.colon.ensures.comes) c.colon.ensures.leaves }

pub returns : goal.returns
returns c = record { gives = colon_stopped c.args.reader.now c.colon.new.self _ (sym c.if-colon.false ∙ c.colon.ensures.comes) c.colon.ensures.leaves c.refusal.ensures }
