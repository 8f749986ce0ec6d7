use Rattle.plus_number.specs.Frac.{fraction_of}
use Rattle.plus_translate_command.proofs.TranslateLemmas.{kept_text}
use Rattle.plus_translate_command.proofs.translate.translated_text.Goals as goal

pub translated_half-requires : goal.translated_half-requires
translated_half-requires c = c.args.interval.above

pub returns-in-Ok : goal.returns-in-Ok
returns-in-Ok c = kept_text c.args.file (fraction_of c.args.interval.value) c.args.typed.now.domain c.args.typed.now.problem c.in-Ok.half c.in_memory.result c.in-Ok.ensures c.in_memory.ensures

pub returns-in-Err : goal.returns-in-Err
returns-in-Err c = record { fault = c.in-Err.fault; cause = c.in-Err.ensures; refusal_is = c.refuse_translation.ensures }
