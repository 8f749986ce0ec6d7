use Rattle.std.proofs.Common.{map, sym}
use Rattle.plus_state.specs.View.{event_of}
use Rattle.plus_expansion.specs.Expansion.{event_meant}
use Rattle.plus_numbering.specs.Numbered.{context}
use Rattle.plus_ground.proofs.NothingLemmas.{none_made}
use Rattle.plus_ground.proofs.schemas.events_of.Goals as goal

pub returns-then-not-have_objects : goal.returns-then-not-have_objects
returns-then-not-have_objects g c =
    none_made (event_meant (context c.args.numbering.now) c.args.schema.now) (context c.args.numbering.now) _ c.args.schema.now.params
    (map (event_of g.Q.Exact.value) c.args.into.now.items) c.as_slice-params.ensures (sym c.if-not-have_objects.ensures)
