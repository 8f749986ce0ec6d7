use Rattle.plus_replay.proofs.replay.Replaying.begin.Goals as goal

pub begin-requires : goal.begin-requires
begin-requires c = c.requires
