use Rattle.plus_lift.proofs.CommandLemmas.OneReply.{one_reply}
use Rattle.plus_lift.proofs.command.laws.one_reply.Goals as goal

pub returns : goal.returns
returns c = one_reply
