use Rattle.plus_play.proofs.FeedLemmas.{on_one, err_map, fed_line, halts_line, halts_fault, tells_none}
use Rattle.plus_play.specs.Rules.{StopsAt, on_line}
use Rattle.plus_play.specs.Feeding.{HaltsFeeding}
use Rattle.std.proofs.Common.{[]}
use Rattle.plus_play.proofs.feed.line.Goals as goal

pub returns-in-Ok-true-clause-feeds : goal.returns-in-Ok-true-clause-feeds
returns-in-Ok-true-clause-feeds g c =
    on_one c.line.result
    (fed_line g.P.Plays.rules c.args.reader.now c.next_line_in.new.self c.args.player.now c.line.new.self c.args.out.now c.line.new.out c.next_line_in.new.into
    (c.in-Ok-true.ensures.line c.in-Ok-true.field-0-test) (c.in-Ok-true.ensures.leaves c.in-Ok-true.field-0-test))
    c.line.ensures.goes

pub returns-in-Ok-true-clause-halts : goal.returns-in-Ok-true-clause-halts
returns-in-Ok-true-clause-halts g c =
    err_map c.line.result
    (StopsAt g.P.Plays.rules (on_line c.next_line_in.new.into) c.args.player.now c.args.out.now c.line.new.self c.line.new.out)
    (HaltsFeeding g.P.Plays.rules [] c.args.reader.now c.args.player.now c.args.out.now c.line.new.self c.line.new.out)
    (λ stop x. halts_line g.P.Plays.rules c.args.reader.now c.args.player.now c.line.new.self c.args.out.now c.line.new.out c.next_line_in.new.into stop
    (c.in-Ok-true.ensures.line c.in-Ok-true.field-0-test) x)
    c.line.ensures.stops

pub returns-clause-halts : goal.returns-clause-halts
returns-clause-halts g c =
    halts_fault g.P.Plays.rules c.args.reader.now c.args.player.now c.args.out.now c.in-Err.fault c.no_line.result c.in-Err.ensures.refused c.no_line.ensures

pub returns-in-Ok-false-clause-told : goal.returns-in-Ok-false-clause-told
returns-in-Ok-false-clause-told g c = tells_none g.P.Plays.rules _

pub returns-clause-told : goal.returns-clause-told
returns-clause-told g c = tells_none g.P.Plays.rules _
