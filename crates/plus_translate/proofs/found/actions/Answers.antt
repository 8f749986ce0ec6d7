use Rattle.plus_translate.proofs.FoundLemmas.{actions_more}
use Rattle.plus_translate.proofs.found.actions.Goals as goal

pub members-preserved : goal.members-preserved
members-preserved c =
    actions_more c.args.members.now c.members.member-index c.member-item.result c.members.found c.action.new.found _ c.members-test.true c.member-item.is
    c.members.invariant c.action.ensures
