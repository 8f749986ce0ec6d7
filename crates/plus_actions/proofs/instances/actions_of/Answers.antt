use Rattle.std.proofs.Common.{map, sym}
use Rattle.plus_state.specs.View.{action_of}
use Rattle.plus_expansion.specs.Expansion.{action_meant}
use Rattle.plus_numbering.specs.Numbered.{context}
use Rattle.plus_ground.proofs.NothingLemmas.{none_made}
use Rattle.plus_actions.proofs.instances.actions_of.Goals as goal

pub returns-then-not-have_objects : goal.returns-then-not-have_objects
returns-then-not-have_objects g c =
    none_made (action_meant (context c.args.numbering.now) c.args.schema.now) (context c.args.numbering.now) _ c.args.schema.now.params
    (map (action_of g.Q.Exact.value) c.args.into.now.items) c.as_slice-params.ensures (sym c.if-not-have_objects.ensures)
