use Rattle.std.proofs.Common.{◌∙◌, ap, not}
use Rattle.plus_types.proofs.NamesLemmas.{any-same}
use Rattle.plus_types.specs.Faults.{ground_name}
use Rattle.plus_types.proofs.initial.Valued.add.Goals as goal

pub returns-clause-fresh : goal.returns-clause-fresh
returns-clause-fresh c =
    rw (← c.self.view_is) (c.in_ok-fresh.ensures.added ∙ ap not (any-same (ground_name c.args.fluent.now) c.self.inside.table.keys))
