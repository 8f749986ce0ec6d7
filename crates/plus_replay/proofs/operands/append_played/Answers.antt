use Rattle.plus_replay.proofs.operands.append_played.Goals as goal

pub text-requires : goal.text-requires
text-requires c = c.requires
