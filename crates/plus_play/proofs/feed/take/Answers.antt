use Rattle.std.proofs.Common.{◌≡◌, ◌+◌, ◌++◌, take, drop, length, ap, sym, ◌∙◌, arith, length-drop}
use Rattle.std.proofs.Math.Seq.{take-add}
use Rattle.std.proofs.lemmas.List.{take-append-drop, take_rest}
use Rattle.plus_plan.specs.Pending.{Pending}
use Rattle.plus_plan.specs.Pieces.{fed}
use Rattle.plus_play.proofs.FeedLemmas.{taken_fed, taken_halts, tells_both, tells_none}
use Rattle.plus_play.proofs.feed.take.Goals as goal

pub piece-preserved : goal.piece-preserved
piece-preserved g c =
    let part = take c.feed-from.result (drop c.piece.from c.args.piece.now) in
    let takes : c.feed-from.new.self ≡ fed c.piece.reader part = c.feed-from.ensures.takes ∙ ap (λ z. fed c.piece.reader (take c.feed-from.result z)) (take_rest c.args.piece.now c.piece.from) in
    record {
      within = omega (arith, c.feed-from.ensures.within, ap length (take_rest c.args.piece.now c.piece.from), length-drop c.piece.from c.args.piece.now);
      can = c.in-Ok.ensures.can;
      idle = c.in-Ok.ensures.idle (ap (λ (x : Pending). x.fault) takes ∙ c.piece.invariant.idle.no_fault);
      going = c.in-Ok.ensures.closed ∙ (ap (λ (x : Pending). x.closed) takes ∙ c.piece.invariant.going);
      feeds = taken_fed g.P.Plays.rules (take c.piece.from c.args.piece.now) part (take (c.piece.from + c.feed-from.result) c.args.piece.now)
          c.args.reader.now c.piece.reader c.feed-from.new.self c.line.new.reader c.args.player.now c.piece.player c.line.new.player c.args.out.now c.piece.out c.line.new.out
          c.piece.invariant.feeds c.piece.invariant.going takes (take-add c.piece.from c.feed-from.result c.args.piece.now) c.in-Ok.ensures.feeds;
      told = tells_both g.P.Plays.rules _ _ _ c.piece.invariant.told c.line.ensures.told;
    }

pub returns-in-Err-clause-told : goal.returns-in-Err-clause-told
returns-in-Err-clause-told g c = tells_both g.P.Plays.rules _ _ _ c.piece.invariant.told c.line.ensures.told

pub returns-in-Err-clause-halts : goal.returns-in-Err-clause-halts
returns-in-Err-clause-halts g c =
    let part = take c.feed-from.result (drop c.piece.from c.args.piece.now) in
    let takes : c.feed-from.new.self ≡ fed c.piece.reader part = c.feed-from.ensures.takes ∙ ap (λ z. fed c.piece.reader (take c.feed-from.result z)) (take_rest c.args.piece.now c.piece.from) in
    let at = c.piece.from + c.feed-from.result in
    taken_halts g.P.Plays.rules (take c.piece.from c.args.piece.now) part (drop at c.args.piece.now) c.args.piece.now
    c.args.reader.now c.piece.reader c.feed-from.new.self c.args.player.now c.piece.player c.line.new.player c.args.out.now c.piece.out c.line.new.out c.in-Err.stop
    c.piece.invariant.feeds c.requires.open c.piece.invariant.going takes
    (sym (take-append-drop at c.args.piece.now) ∙ ap (λ z. z ++ drop at c.args.piece.now) (take-add c.piece.from c.feed-from.result c.args.piece.now))
    c.in-Err.ensures.halts
