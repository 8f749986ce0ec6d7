use Rattle.plus_report.proofs.PutsLemmas.{stuck}
use Rattle.plus_translate_command.proofs.printer.put.flush.Goals as goal

pub returns-in_err-write_all-clause-puts : goal.returns-in_err-write_all-clause-puts
returns-in_err-write_all-clause-puts g c = let e = c.in_err-write_all.ensures in stuck e.no_fall e.cause (rw c.as_slice.ensures.value at e.part) c.from_residual.ensures.0
