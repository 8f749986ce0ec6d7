use Rattle.std.proofs.Common.{map, sym}
use Rattle.plus_state.specs.View.{process_of}
use Rattle.plus_expansion.specs.Expansion.{process_meant}
use Rattle.plus_numbering.specs.Numbered.{context}
use Rattle.plus_ground.proofs.NothingLemmas.{none_made}
use Rattle.plus_ground.proofs.schemas.processes_of.Goals as goal

pub returns-then-not-have_objects : goal.returns-then-not-have_objects
returns-then-not-have_objects g c =
    none_made (process_meant (context c.args.numbering.now) c.args.schema.now) (context c.args.numbering.now) _ c.args.schema.now.params
    (map (process_of g.Q.Exact.value) c.args.into.now.items) c.as_slice-params.ensures (sym c.if-not-have_objects.ensures)
