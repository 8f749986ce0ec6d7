use Rattle.plus_replay.proofs.operands.play.Goals as goal

pub begin-requires : goal.begin-requires
begin-requires c = c.requires

pub append_played-named-requires : goal.append_played-named-requires
append_played-named-requires c = c.in_ok-replaying.ensures
