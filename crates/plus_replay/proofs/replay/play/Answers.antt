use Rattle.plus_replay.proofs.replay.play.Goals as goal

pub begin-requires : goal.begin-requires
begin-requires c = c.requires

pub text-played-requires : goal.text-played-requires
text-played-requires c = c.in_ok-replaying.ensures
