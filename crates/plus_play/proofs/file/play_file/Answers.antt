use Rattle.std.proofs.Common.{[], take, sym, ◌∙◌, arith, refl}
use Rattle.plus_io.specs.Picks.{taken}
use Rattle.plus_io.proofs.Pieces.{Takes-nil, once_over, told_more, KeepsFiles-trans}
use Rattle.plus_io.specs.Limits.{text_limit}
use Rattle.plus_play.specs.Feeding.{reading, unread, ahead}
use Rattle.plus_play.proofs.FeedLemmas.{tells_both}
use Rattle.plus_play.proofs.StreamLemmas.{fresh_idle, fresh_open, fresh_come, handed_on, halts_handing, still_come, most_read, halts_more, halts_long, has_more, plays_all, halts_ended, piece_few}
use Rattle.plus_play.proofs.file.play_file.Goals as goal

pub pieces-init : goal.pieces-init
pieces-init g c = record {
  keeps = c.in-Ok.ensures.keeps;
  told = c.in-Ok.ensures.told;
  come = handed_on g.P.Plays.rules c.args.reader.now.form _ _ 0 _ _ _ _ _ _ _ (fresh_come g.P.Plays.rules c.args.reader.now.form _ _ _ _ _ c.requires.fresh c.requires.begun c.in-Ok.ensures.rest) c.in_default-hand_on.ensures.hands;
  within = omega arith;
  size = refl;
  can = c.in_default-hand_on.ensures.can;
  handed = c.in_default-hand_on.ensures.handed;
  idle = fresh_idle _ _ c.requires.fresh;
  going = fresh_open _ _ c.requires.fresh;
}

-- ---- what is read

pub returns-in-Err-clause-reads : goal.returns-in-Err-clause-reads
returns-in-Err-clause-reads g c = taken (0, omega arith, c.in-Ok.ensures.told) ([], omega arith, sym c.in-Ok.ensures.rest ∙ Takes-nil _)

pub returns-in-Err-take-clause-reads : goal.returns-in-Err-take-clause-reads
returns-in-Err-take-clause-reads g c =
    taken (once_over _ _ _ _ _ _ text_limit c.pieces.invariant.told c.in-Ok-read_piece.ensures.told c.in-Ok-read_piece.ensures.most)
    (most_read g.P.Plays.rules c.args.reader.now.form _ _ _ _ _ _ _ _ _ _ _ c.pieces.invariant.come c.in-Ok-read_piece.ensures.piece c.in-Ok-read_piece.ensures.fits c.in-Ok-read_piece.ensures.most)

pub returns-then-within-count-clause-reads : goal.returns-then-within-count-clause-reads
returns-then-within-count-clause-reads g c =
    taken (once_over _ _ _ _ _ _ text_limit c.pieces.invariant.told c.in-Ok-read_piece.ensures.told c.in-Ok-read_piece.ensures.most)
    (most_read g.P.Plays.rules c.args.reader.now.form _ _ _ _ _ _ _ _ _ _ _ c.pieces.invariant.come c.in-Ok-read_piece.ensures.piece c.in-Ok-read_piece.ensures.fits c.in-Ok-read_piece.ensures.most)

pub returns-in-Err-hand_on-clause-reads : goal.returns-in-Err-hand_on-clause-reads
returns-in-Err-hand_on-clause-reads g c =
    taken (once_over _ _ _ _ _ _ text_limit c.pieces.invariant.told c.in-Ok-read_piece.ensures.told c.in-Ok-read_piece.ensures.most)
    (most_read g.P.Plays.rules c.args.reader.now.form _ _ _ _ _ _ _ _ _ _ _ c.pieces.invariant.come c.in-Ok-read_piece.ensures.piece c.in-Ok-read_piece.ensures.fits c.in-Ok-read_piece.ensures.most)

-- ---- where it stops

pub returns-in-Err-clause-pauses : goal.returns-in-Err-clause-pauses
returns-in-Err-clause-pauses g c =
    halts_handing g.P.Plays.rules c.args.reader.now.form _ _ 0 _ _ c.hand_on.new.self _ _ c.hand_on.new.out _ c.in-Err.stop
    (fresh_come g.P.Plays.rules c.args.reader.now.form _ _ _ _ _ c.requires.fresh c.requires.begun c.in-Ok.ensures.rest) (omega arith) (fresh_open _ _ c.requires.fresh) (fresh_idle _ _ c.requires.fresh) c.in-Err.ensures.stops

pub returns-in_default-read_piece-clause-pauses : goal.returns-in_default-read_piece-clause-pauses
returns-in_default-read_piece-clause-pauses g c = (
  omega (arith, c.pieces.invariant.keeps.no_fall, c.in_default-read_piece.ensures.cause),
  reading c.pieces.total (record {
    come = still_come g.P.Plays.rules c.args.reader.now.form _ _ _ _ _ _ _ _ _ c.in_default-read_piece.ensures.stays c.pieces.invariant.come;
    handed = c.pieces.invariant.handed;
    idle = c.pieces.invariant.idle;
    going = c.pieces.invariant.going;
  }),
)

pub returns-in-Err-take-clause-pauses : goal.returns-in-Err-take-clause-pauses
returns-in-Err-take-clause-pauses g c =
    halts_more g.P.Plays.rules c.args.reader.now.form _ _ _ _ _ _ _ _ _ _ _ c.pieces.invariant.come c.in-Ok-read_piece.ensures.piece c.in-Ok-read_piece.ensures.fits c.min-within.result (take c.min-within.result c.read_piece.new.buffer) refl
    (omega (arith, c.min-within.ensures)) (omega (arith, c.min-within.ensures, c.pieces.invariant.within)) c.take.new.player c.take.new.out c.in-Err-take.stop c.pieces.invariant.going c.in-Err-take.ensures.halts

pub returns-then-within-count-clause-pauses : goal.returns-then-within-count-clause-pauses
returns-then-within-count-clause-pauses g c =
    halts_long g.P.Plays.rules c.args.reader.now.form _ _ _ _ _ _ _ _ _ _ _ c.pieces.invariant.come c.in-Ok-read_piece.ensures.piece c.in-Ok-read_piece.ensures.fits c.min-within.result (take c.min-within.result c.read_piece.new.buffer) refl
    (omega (arith, c.min-within.ensures)) (omega (arith, c.min-within.ensures, c.pieces.invariant.within)) c.take.new.reader c.take.new.player c.take.new.out c.too_long.result
    c.in_default-take.ensures.feeds c.in_default-take.ensures.open c.in_default-take.ensures.idle c.too_long.ensures c.if-within-count.true (omega (arith, c.min-within.ensures, c.if-within-count.true))

pub returns-in-Err-hand_on-clause-pauses : goal.returns-in-Err-hand_on-clause-pauses
returns-in-Err-hand_on-clause-pauses g c =
    let come = has_more g.P.Plays.rules c.args.reader.now.form _ _ _ _ _ _ _ _ _ _ _ c.pieces.invariant.come c.in-Ok-read_piece.ensures.piece c.in-Ok-read_piece.ensures.fits c.min-within.result (take c.min-within.result c.read_piece.new.buffer) refl
    (omega (arith, c.min-within.ensures)) (omega (arith, c.min-within.ensures, c.pieces.invariant.within)) c.take.new.reader c.take.new.player c.take.new.out c.in_default-take.ensures.feeds (omega (arith, c.min-within.ensures, c.if-within-count.false)) in
    halts_handing g.P.Plays.rules c.args.reader.now.form _ _ _ _ _ c.hand_on-in-pieces.new.self _ _ c.hand_on-in-pieces.new.out _ c.in-Err-hand_on.stop come (omega (arith, c.min-within.ensures, c.pieces.invariant.within, c.if-within-count.false)) c.in_default-take.ensures.open c.in_default-take.ensures.idle c.in-Err-hand_on.ensures.stops

-- ---- the end of the text

pub returns-in-Ok-end-clause-plays : goal.returns-in-Ok-end-clause-plays
returns-in-Ok-end-clause-plays g c =
    plays_all g.P.Plays.rules c.args.reader.now.form _ _ _ _ _ _ _ _ c.pieces.invariant.come (c.in-Ok-read_piece.ensures.at_end c.if-count-eq0.true) c.pieces.invariant.within c.end.new.player c.end.new.out c.in-Ok-end.ensures.ends

pub returns-in-Err-end-clause-pauses : goal.returns-in-Err-end-clause-pauses
returns-in-Err-end-clause-pauses g c =
    halts_ended g.P.Plays.rules c.args.reader.now.form _ _ _ _ _ _ _ _ c.pieces.invariant.come (c.in-Ok-read_piece.ensures.at_end c.if-count-eq0.true) c.pieces.invariant.within c.end.new.player c.end.new.out c.in-Err-end.stop c.in-Err-end.ensures.halts

-- ---- one more piece

pub pieces-preserved : goal.pieces-preserved
pieces-preserved g c =
    let come = has_more g.P.Plays.rules c.args.reader.now.form _ _ _ _ _ _ _ _ _ _ _ c.pieces.invariant.come c.in-Ok-read_piece.ensures.piece c.in-Ok-read_piece.ensures.fits c.min-within.result (take c.min-within.result c.read_piece.new.buffer) refl
    (omega (arith, c.min-within.ensures)) (omega (arith, c.min-within.ensures, c.pieces.invariant.within)) c.take.new.reader c.take.new.player c.take.new.out c.in_default-take.ensures.feeds (omega (arith, c.min-within.ensures, c.if-within-count.false)) in
    record {
      keeps = KeepsFiles-trans _ _ _ c.pieces.invariant.keeps c.in-Ok-read_piece.ensures.keeps;
      told = told_more _ _ _ _ _ _ c.pieces.invariant.told c.in-Ok-read_piece.ensures.told;
      come = handed_on g.P.Plays.rules c.args.reader.now.form _ _ _ _ _ _ _ _ _ _ come c.in_default-hand_on-2.ensures.hands;
      within = omega (arith, c.min-within.ensures, c.pieces.invariant.within, c.if-within-count.false);
      size = omega (arith, c.read_piece.auto.buffer, c.pieces.invariant.size);
      can = c.in_default-hand_on-2.ensures.can;
      handed = c.in_default-hand_on-2.ensures.handed;
      idle = c.in_default-take.ensures.idle;
      going = c.in_default-take.ensures.open;
    }

-- ---- what is told is not held back

pub returns-in-Err-clause-keeps_up : goal.returns-in-Err-clause-keeps_up
returns-in-Err-clause-keeps_up g c = unread (sym c.in-Ok.ensures.rest ∙ Takes-nil _)

pub returns-in-Ok-end-clause-keeps_up : goal.returns-in-Ok-end-clause-keeps_up
returns-in-Ok-end-clause-keeps_up g c =
    let now = c.pieces.invariant in
    ahead c.pieces.total _ c.pieces.reader c.pieces.player c.pieces.out _ (record { come = now.come; handed = now.handed; idle = now.idle; going = now.going })
    c.in-Ok-read_piece.ensures.piece (piece_few _ _ c.in-Ok-read_piece.ensures.fits (omega (arith, c.read_piece.auto.buffer, now.size))) c.end.ensures.told

pub returns-in-Err-end-clause-keeps_up : goal.returns-in-Err-end-clause-keeps_up
returns-in-Err-end-clause-keeps_up g c =
    let now = c.pieces.invariant in
    ahead c.pieces.total _ c.pieces.reader c.pieces.player c.pieces.out _ (record { come = now.come; handed = now.handed; idle = now.idle; going = now.going })
    c.in-Ok-read_piece.ensures.piece (piece_few _ _ c.in-Ok-read_piece.ensures.fits (omega (arith, c.read_piece.auto.buffer, now.size))) c.end.ensures.told

pub returns-in-Err-take-clause-keeps_up : goal.returns-in-Err-take-clause-keeps_up
returns-in-Err-take-clause-keeps_up g c =
    let now = c.pieces.invariant in
    ahead c.pieces.total _ c.pieces.reader c.pieces.player c.pieces.out _ (record { come = now.come; handed = now.handed; idle = now.idle; going = now.going })
    c.in-Ok-read_piece.ensures.piece (piece_few _ _ c.in-Ok-read_piece.ensures.fits (omega (arith, c.read_piece.auto.buffer, now.size))) c.take.ensures.told

pub returns-then-within-count-clause-keeps_up : goal.returns-then-within-count-clause-keeps_up
returns-then-within-count-clause-keeps_up g c =
    let now = c.pieces.invariant in
    ahead c.pieces.total _ c.pieces.reader c.pieces.player c.pieces.out _ (record { come = now.come; handed = now.handed; idle = now.idle; going = now.going })
    c.in-Ok-read_piece.ensures.piece (piece_few _ _ c.in-Ok-read_piece.ensures.fits (omega (arith, c.read_piece.auto.buffer, now.size))) c.take.ensures.told

pub returns-in-Err-hand_on-clause-keeps_up : goal.returns-in-Err-hand_on-clause-keeps_up
returns-in-Err-hand_on-clause-keeps_up g c =
    let now = c.pieces.invariant in
    ahead c.pieces.total _ c.pieces.reader c.pieces.player c.pieces.out _ (record { come = now.come; handed = now.handed; idle = now.idle; going = now.going })
    c.in-Ok-read_piece.ensures.piece (piece_few _ _ c.in-Ok-read_piece.ensures.fits (omega (arith, c.read_piece.auto.buffer, now.size)))
    (tells_both g.P.Plays.rules _ _ _ c.take.ensures.told c.hand_on-in-pieces.ensures.told)
