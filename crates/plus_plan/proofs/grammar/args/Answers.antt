use Rattle.std.proofs.Common.{sym, ◌∙◌}
use Rattle.plus_plan.proofs.Coming.{args_name, args_told, args_stopped}
use Rattle.plus_plan.proofs.grammar.args.Goals as goal

pub names-preserved : goal.names-preserved
names-preserved c =
    rw (c.in_ok-push.ensures.ok, c.in_ok-of_word.ensures, c.in-Some.ensures.word.1, c.name.ensures.leaves) (args_name c.names.args c.names.reader _ c.names.invariant c.in-Some.ensures.word.0)

pub returns-then-close : goal.returns-then-close
returns-then-close c =
    record { gives = args_told c.names.args c.names.reader c.name.new.self c.close.new.self _ c.names.invariant c.in_default.ensures.word c.name.ensures.leaves (sym c.if-close.true ∙ c.close.ensures.comes) c.close.ensures.leaves }

pub returns-else-close : goal.returns-else-close
returns-else-close c =
    record { gives = args_stopped c.names.args c.names.reader c.name.new.self c.close.new.self _ _ c.names.invariant c.in_default.ensures.word c.name.ensures.leaves (sym c.if-close.false ∙ c.close.ensures.comes) c.close.ensures.leaves c.refusal.ensures }
