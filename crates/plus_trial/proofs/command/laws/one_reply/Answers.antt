use Rattle.plus_trial.proofs.CommandLemmas.OneReply as replies
use Rattle.plus_trial.proofs.command.laws.one_reply.Goals as goal

pub returns : goal.returns
returns c = replies.one_reply
