-- A plan that is played again, as one who plays lines. Of what it appends nothing is said.
use Rattle.std.specs.Prelude.{None}
use Rattle.plus_play.specs.Rules.{Rules}
use Rattle.plus_replay.specs.Replay.{Stands}
use Rattle.plus_replay.specs.declared.replay.Halt.{Halt}
use Rattle.plus_replay.specs.declared.replay.Replaying.{Replaying}

-- what it says of the lines
abbrev pub replay_rules : {O : Type 0} → Rules Replaying O Halt
replay_rules = record {
  told = λ out. None;
  Can = λ now out. Stands now.ground.now now.replay;
  Handed = λ now out. Unit {0};
  Played = λ first start lines now out. Unit {0};
  Ended = λ first start lines now out. Unit {0};
  Stops = λ first start lines why now out halt. Unit {0};
}
