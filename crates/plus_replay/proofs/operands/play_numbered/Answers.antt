use Rattle.plus_replay.proofs.operands.play_numbered.Goals as goal

pub play-requires : goal.play-requires
play-requires c = record { expands = c.in-Ok.ensures.expands }
