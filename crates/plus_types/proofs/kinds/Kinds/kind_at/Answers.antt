use Rattle.std.proofs.Common.{sym}
use Rattle.plus_types.proofs.KindsLemmas.{kind-shown-at}
use Rattle.plus_types.proofs.kinds.Kinds.kind_at.Goals as goal

pub returns-in-Some-clause-kind : goal.returns-in-Some-clause-kind
returns-in-Some-clause-kind c =
    rw (← c.self.view_is, c.as_slice.ensures)
    (kind-shown-at c.self.inside.table.entries c.args.number c.in-Some.field-0-0.now c.in-Some.kind.now (sym c.in-Some.ensures.entry) c.in-Some.ensures.value)
