use Rattle.std.proofs.Common.{ap, ◌∙◌}
use Rattle.plus_reads.specs.declared.index.Index.{Index}
use Rattle.plus_indexed.specs.Indexed.{Kept}
use Rattle.plus_indexed.proofs.Knowing.{woken_by}
use Rattle.plus_indexed.proofs.kept.Kept.wake_processes.Goals as goal

pub returns-clause-woken : goal.returns-clause-woken
returns-clause-woken g c =
    woken_by (record { line = c.args.timeline.now; kept = c.args.self.now }) c.self.inside.processes c.still_waiting.new.waiting c.index.result.now.processes c.changes.result.now (ap (λ (k : Kept). k.processes) c.self.view_is)
    (ap (λ (i : Index). i.processes) c.index.ensures ∙ ap (λ (k : Kept). k.index.processes) c.self.view_is) c.changes.ensures c.still_waiting.ensures
