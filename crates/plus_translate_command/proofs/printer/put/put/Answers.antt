use Rattle.plus_report.proofs.PutsLemmas.{both, direct}
use Rattle.plus_translate_command.proofs.printer.put.put.Goals as goal

pub returns-in-Err : goal.returns-in-Err
returns-in-Err g c =
    let e = c.write_all.ensures in
    rw c.in-Err.ensures.err at (both c.in_ok-flush.ensures.puts (direct c.in_ok-flush.ensures.empty e.took e.cause e.part e.no_fall))
