use Rattle.std.proofs.Common.{◌≡◌, ◌≤◌, ◌-◌, false, length, take}
use Rattle.plus_plan.specs.Pieces.{IsIdle}
use Rattle.plus_play.specs.Feeding.{Feeds}
use Rattle.plus_play.specs.Rules.{TellsMore}
use Rattle.plus_play.proofs.feed.take.Given as goal

abbrev pub invariant-piece : goal.invariant-piece
invariant-piece g l = record {
  within : l.from ≤ length l.piece;
  can : g.P.Plays.rules.Can l.player l.out;
  idle : IsIdle l.reader;
  going : l.reader.closed ≡ false;
  feeds : Feeds g.P.Plays.rules (take l.from l.piece) l.initial.reader l.initial.player l.initial.out l.reader l.player l.out;
  told : TellsMore g.P.Plays.rules l.initial.out l.out;
}

abbrev pub decreases-piece : goal.decreases-piece
decreases-piece g l = length l.initial.piece - l.from
