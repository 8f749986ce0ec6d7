use Rattle.std.proofs.Common.{ap}
use Rattle.plus_numbering.specs.declared.numbering.Numbering.{Numbering}
use Rattle.plus_replay.specs.declared.replay.Replay.{Replay}
use Rattle.plus_replay.proofs.Standing.{begins}
use Rattle.plus_replay.proofs.replay.Replay.begin.Goals as goal

pub returns : goal.returns
returns c =
    let new : Replay = record { timeline = c.in_ok-begin.field-0; instances = c.new.result } in
    begins c.args.ground.now c.args.numbering.now.typed.now new 1000000 c.in_ok-begin.ensures.begun c.in_ok-begin.ensures.knows c.new.ensures.made
    (ap (λ (n : Numbering). n.typed.now) c.new.ensures.of) c.requires
