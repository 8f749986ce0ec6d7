use Rattle.plus_translate.proofs.FoundLemmas.{heads_more}
use Rattle.plus_translate.proofs.found.heads.Goals as goal

pub members-preserved : goal.members-preserved
members-preserved c =
    heads_more c.args.members.now c.members.member-index c.member-item.result c.members.found c.head.new.found _ c.members-test.true c.member-item.is
    c.members.invariant c.head.ensures
