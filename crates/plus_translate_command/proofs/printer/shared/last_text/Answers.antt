use Rattle.std.proofs.Common.{◌≡◌, ◌-◌, length, arith}
use Rattle.std.proofs.lemmas.List.{take_rest}
use Rattle.plus_translate_command.proofs.PrinterLemmas.JoinedLemmas.{ended}
use Rattle.plus_translate_command.proofs.printer.shared.last_text.Goals as goal

pub returns : goal.returns
returns c = λ front back span e n.
    let view = rw (c.in-All.is, ← c.deref.ensures.value) at c.effect.view_is in
    let before : c.saturating_sub-before.result ≡ length c.deref.result.now - c.args.count = omega (arith, c.saturating_sub-before.ensures, c.len.ensures, c.deref.ensures.len) in
    ended c.deref.result.now front back _ _ span _ c.args.count c.saturating_sub-before.result _ _ view e n before
    (take_rest c.deref.result.now c.saturating_sub-before.result) c.new-text.ensures.items c.in_ok-effects.ensures
