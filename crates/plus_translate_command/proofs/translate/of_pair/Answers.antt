use Rattle.std.proofs.Common.{refl}
use Rattle.plus_number.specs.Frac.{fraction_of}
use Rattle.plus_translate_command.specs.Translate.{half}
use Rattle.plus_translate_command.proofs.TranslateLemmas.{untranslated_told, untranslated_fault}
use Rattle.plus_translate_command.proofs.translate.of_pair.Goals as goal

pub returns-in-Ok-clause-replies : goal.returns-in-Ok-clause-replies
returns-in-Ok-clause-replies c =
    half c.in-Ok.ensures.domain c.in-Ok.ensures.problem c.in-Ok.ensures.translation refl c.in-Ok.ensures.text_is

pub returns-in-Err-clause-replies : goal.returns-in-Err-clause-replies
returns-in-Err-clause-replies c =
    untranslated_told c.args.file (fraction_of c.args.interval.value) c.args.typed.now.domain c.args.typed.now.problem
    c.refuse_translation.result c.half_refused.result
    (record { fault = c.in-Err.fault; cause = c.in-Err.ensures; refusal_is = c.refuse_translation.ensures }) c.half_refused.ensures

pub returns-in-Err-clause-memory : goal.returns-in-Err-clause-memory
returns-in-Err-clause-memory c =
    untranslated_fault c.args.file (fraction_of c.args.interval.value) c.args.typed.now.domain c.args.typed.now.problem
    c.refuse_translation.result c.half_refused.result
    (record { fault = c.in-Err.fault; cause = c.in-Err.ensures; refusal_is = c.refuse_translation.ensures }) c.half_refused.ensures

pub translated_half-requires : goal.translated_half-requires
translated_half-requires c = c.args.interval.above
