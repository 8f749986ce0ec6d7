use Rattle.std.proofs.Common.{◌≤◌, ◌-◌, length, drop, length-drop, map, arith}
use Rattle.std.proofs.lemmas.List.{take_all}
use Rattle.plus_state.specs.View.{action_of}
use Rattle.plus_expansion.specs.Expansion.{action_meant}
use Rattle.plus_numbering.specs.Numbered.{context}
use Rattle.plus_ground.proofs.EnvironmentsLemmas.{all_made}
use Rattle.plus_actions.proofs.instances.+add_actions.Goals as goal

pub returns-after-members-clause-added : goal.returns-after-members-clause-added
returns-after-members-clause-added g t c =
    let whole : length (drop 1 c.args.params.now) ≤ length c.args.params.now - 1 = grind (arith, length-drop) in
    all_made (action_meant (context c.args.numbering.now) c.args.schema.now) (context c.args.numbering.now) c.args.params.now _ c.first-item.result c.args.env.now c.bytes-name.result.now c.bytes.result.now c.members-member-items.result.now c.members.member-index
    (map (action_of g.Q.Exact.value) c.args.into.now.items) _
    c.in-len1-up.len_at_least c.first-item.is c.bytes-name.ensures c.bytes.ensures c.members-member-items.ensures c.members-test.false c.members.invariant.0 (take_all _ _ whole)
