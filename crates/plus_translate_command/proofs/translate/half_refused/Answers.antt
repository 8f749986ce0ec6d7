use Rattle.std.proofs.Common.{refl}
use Rattle.plus_translate_command.proofs.TranslateLemmas.{tells, tells_fault}
use Rattle.plus_translate_command.proofs.translate.half_refused.Goals as goal

pub returns-in-Ok : goal.returns-in-Ok
returns-in-Ok c = tells c.args.refusal c.in-Ok.reply _ c.in-Ok.ensures refl c.whole.ensures

pub returns-in-Err : goal.returns-in-Err
returns-in-Err c = tells_fault c.args.refusal c.in-Err.fault c.in-Err.ensures
