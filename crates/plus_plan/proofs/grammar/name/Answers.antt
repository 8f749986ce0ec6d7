use Rattle.std.proofs.Common.{◌∙◌}
use Rattle.plus_plan.proofs.Coming.{name_told, name_stopped}
use Rattle.plus_plan.proofs.grammar.name.Goals as goal

pub returns-in-Some : goal.returns-in-Some
returns-in-Some c = record { gives = name_told c.args.reader.now c.name.new.self _ c.in-Some.ensures.word.0 (c.in_ok-of_word.ensures ∙ c.in-Some.ensures.word.1) c.name.ensures.leaves }

pub returns : goal.returns
returns c = record { gives = name_stopped c.args.reader.now c.name.new.self _ c.in_default.ensures.word c.name.ensures.leaves c.refusal.ensures }
