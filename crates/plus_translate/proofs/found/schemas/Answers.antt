use Rattle.plus_translate.proofs.FoundLemmas.{schemas_more}
use Rattle.plus_translate.proofs.found.schemas.Goals as goal

pub members-preserved : goal.members-preserved
members-preserved c =
    schemas_more c.args.members.now c.members.member-index c.member-item.result c.members.found c.schema.new.found _ c.members-test.true c.member-item.is
    c.members.invariant c.schema.ensures
