use Rattle.std.proofs.Common.{◌≤◌, ◌-◌, length, drop, length-drop, arith}
use Rattle.std.proofs.lemmas.List.{take_all}
use Rattle.plus_numbering.specs.Numbered.{context}
use Rattle.plus_ground.proofs.EnvironmentsLemmas.{all_given}
use Rattle.plus_ground.proofs.environments.+extend.Goals as goal

pub returns-after-members : goal.returns-after-members
returns-after-members t c =
    let whole : length (drop 1 c.args.vars.now) ≤ length c.args.vars.now - 1 = grind (arith, length-drop) in
    all_given (context c.args.numbering.now) c.args.vars.now _ c.first-item.result c.args.env c.bytes-name.result.now c.bytes.result.now c.members-member-items.result.now c.members.member-index _ _
    c.in-len1-up.len_at_least c.first-item.is c.bytes-name.ensures c.bytes.ensures c.members-member-items.ensures c.members-test.false c.members.invariant (take_all _ _ whole)
