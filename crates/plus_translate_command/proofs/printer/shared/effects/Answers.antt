use Rattle.std.proofs.lemmas.Result.{err_from_is_err_and}
use Rattle.plus_printer.specs.Canon.{effect_text}
use Rattle.plus_printer.proofs.AppendedLemmas.{member_broken}
use Rattle.plus_translate_command.proofs.printer.shared.effects.Goals as goal

pub returns-in_err-spaced_effect : goal.returns-in_err-spaced_effect
returns-in_err-spaced_effect c =
    let p = err_from_is_err_and c.from_residual.result c.from_residual.ensures.1 in
    rw p.1 (member_broken effect_text c.args.effects.now c.members.effect_tree-index c.effect_tree-item.result _ _ _ _ c.members-test.true c.effect_tree-item.is c.members.invariant c.in_err-spaced_effect.ensures)
