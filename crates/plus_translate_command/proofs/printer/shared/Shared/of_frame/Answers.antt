use Rattle.std.proofs.Common.{◌++◌}
use Rattle.std.specs.List.{flat_map}
use Rattle.plus_translation.specs.Renamed.{nowhere}
use Rattle.plus_translation.specs.Translated.{none_hold, clears, flows, clock_effects}
use Rattle.plus_translate_command.proofs.PrinterLemmas.JoinedLemmas.{is_step, condition_is, effect_is, length_clears}
use Rattle.plus_translate_command.proofs.printer.shared.Shared.of_frame.Goals as goal

pub returns-clause-none : goal.returns-clause-none
returns-clause-none c =
    let step = is_step c.args.frame.now c.args.events.now c.as_slice.result.now c.step-item.result c.requires c.as_slice.ensures c.step-item.is in
    c.in_ok-joined_text.ensures (none_hold c.args.events.now) nowhere (condition_is c.args.frame.now c.args.events.now c.step-item.result c.requires step)

pub returns-clause-clears : goal.returns-clause-clears
returns-clause-clears c =
    let step = is_step c.args.frame.now c.args.events.now c.as_slice.result.now c.step-item.result c.requires c.as_slice.ensures c.step-item.is in
    c.in_ok-last_text.ensures (flat_map (flows c.requires.length) c.requires.processes ++ clock_effects c.requires.due) (clears 1 c.args.events.now) nowhere
    (effect_is c.args.frame.now c.args.events.now c.step-item.result c.requires step) (length_clears 1 c.args.events.now)
