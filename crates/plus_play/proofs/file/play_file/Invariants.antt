use Rattle.std.proofs.Common.{◌≡◌, ◌≤◌, ◌-◌, false, length}
use Rattle.plus_io.specs.Files.{KeepsFiles}
use Rattle.plus_io.specs.Picks.{with_pick}
use Rattle.plus_plan.specs.Pieces.{IsIdle}
use Rattle.plus_io.specs.Limits.{text_limit, piece_size}
use Rattle.plus_play.specs.Feeding.{HasCome}
use Rattle.plus_play.proofs.file.play_file.Given as goal

abbrev pub invariant-pieces : goal.invariant-pieces
invariant-pieces g l = record {
  keeps : KeepsFiles g.S.Shelf.names g.S.Shelf.bytes g.S.Shelf.faults l.fn.shelf l.shelf;
  told : g.S.Shelf.picks l.shelf ≡ with_pick l.plan l.total (g.S.Shelf.picks l.fn.shelf);
  come : HasCome g.P.Plays.rules l.fn.reader.form (g.S.Shelf.bytes l.fn.shelf l.plan) (g.S.Shelf.rest l.shelf) l.total l.fn.player l.fn.out l.reader l.player l.out;
  within : l.total ≤ text_limit;
  size : length l.buffer ≡ piece_size;
  can : g.P.Plays.rules.Can l.player l.out;
  handed : g.P.Plays.rules.Handed l.player l.out;
  idle : IsIdle l.reader;
  going : l.reader.closed ≡ false;
}

abbrev pub decreases-pieces : goal.decreases-pieces
decreases-pieces g l = text_limit - l.total
