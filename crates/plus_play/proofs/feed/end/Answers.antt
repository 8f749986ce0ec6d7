use Rattle.std.proofs.Common.{ap, ◌∙◌}
use Rattle.plus_plan.specs.Pending.{Pending}
use Rattle.plus_play.specs.Rules.{StopsAt, at_end}
use Rattle.plus_play.specs.Feeding.{HaltsEnding}
use Rattle.plus_play.proofs.FeedLemmas.{on_one, err_map, fed_closed, ends_so, ends_halts, line_at_end, tells_both}
use Rattle.plus_play.proofs.feed.end.Goals as goal

pub returns-in-Ok-clause-ends : goal.returns-in-Ok-clause-ends
returns-in-Ok-clause-ends g c =
    on_one c.end.result
    (ends_so g.P.Plays.rules c.args.reader.now c.close.new.self c.line.new.reader c.args.player.now c.line.new.player c.end.new.self c.args.out.now c.line.new.out c.end.new.out
    (fed_closed g.P.Plays.rules c.args.reader.now c.close.new.self c.args.player.now c.args.out.now c.requires.open c.close.ensures) c.in-Ok.ensures.feeds
    (c.in-Ok.ensures.closed ∙ ap (λ (x : Pending). x.closed) c.close.ensures)
    (c.in-Ok.ensures.idle (ap (λ (x : Pending). x.fault) c.close.ensures ∙ c.requires.idle.no_fault)))
    c.end.ensures.ends

pub returns-in-Ok-clause-halts : goal.returns-in-Ok-clause-halts
returns-in-Ok-clause-halts g c =
    err_map c.end.result
    (StopsAt g.P.Plays.rules at_end c.line.new.player c.line.new.out c.end.new.self c.end.new.out)
    (HaltsEnding g.P.Plays.rules c.args.reader.now c.args.player.now c.args.out.now c.end.new.self c.end.new.out)
    (λ stop x. ends_halts g.P.Plays.rules c.args.reader.now c.close.new.self c.line.new.reader c.args.player.now c.line.new.player c.end.new.self c.args.out.now c.line.new.out c.end.new.out stop
    (fed_closed g.P.Plays.rules c.args.reader.now c.close.new.self c.args.player.now c.args.out.now c.requires.open c.close.ensures) c.in-Ok.ensures.feeds
    (c.in-Ok.ensures.closed ∙ ap (λ (x : Pending). x.closed) c.close.ensures)
    (c.in-Ok.ensures.idle (ap (λ (x : Pending). x.fault) c.close.ensures ∙ c.requires.idle.no_fault)) x)
    c.end.ensures.stops

pub returns-in-Err-clause-halts : goal.returns-in-Err-clause-halts
returns-in-Err-clause-halts g c =
    line_at_end g.P.Plays.rules c.args.reader.now c.close.new.self c.args.player.now c.line.new.player c.args.out.now c.line.new.out c.in-Err.stop
    (fed_closed g.P.Plays.rules c.args.reader.now c.close.new.self c.args.player.now c.args.out.now c.requires.open c.close.ensures) c.in-Err.ensures.halts

pub returns-in-Ok-clause-told : goal.returns-in-Ok-clause-told
returns-in-Ok-clause-told g c = tells_both g.P.Plays.rules _ _ _ c.line.ensures.told c.end.ensures.told
