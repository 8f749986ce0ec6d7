use Rattle.plus_io.specs.MemSink.{sink_state}
use Rattle.plus_number.specs.Frac.{fraction_of}
use Rattle.plus_lift.proofs.CommandLemmas.AgainLemmas.{read_lent, not_again}
use Rattle.plus_lift.proofs.command.again.again.Goals as goal

pub returns-in-Ok-translated_text : goal.returns-in-Ok-translated_text
returns-in-Ok-translated_text c =
    read_lent (fraction_of c.args.interval.value) c.args.typed.now.domain c.args.typed.now.problem (sink_state c.in-Ok.domain).bytes (sink_state c.in-Ok-translated_text.problem).bytes
    c.in-Ok.ensures c.in-Ok-translated_text.ensures c.bytes.result.now c.bytes-in-Ok-translated_text.result.now c.bytes.ensures c.bytes-in-Ok-translated_text.ensures c.read.result c.read.ensures

pub returns-in-Ok : goal.returns-in-Ok
returns-in-Ok c = not_again (fraction_of c.args.interval.value) c.args.typed.now.domain c.args.typed.now.problem c.in-Err-translated_text.refusal c.in-Err-translated_text.ensures

pub returns : goal.returns
returns c = not_again (fraction_of c.args.interval.value) c.args.typed.now.domain c.args.typed.now.problem c.in-Err.refusal c.in-Err.ensures
