use Rattle.std.proofs.Common.{true, sym, ap, ◌∙◌}
use Rattle.plus_state.specs.View.{problem_of}
use Rattle.plus_timeline.specs.Timeline.{TimelineView}
use Rattle.plus_timeline.proofs.Advancing.{refused}
use Rattle.plus_timeline.proofs.timeline.Timeline.advance.Goals as goal

pub next-requires-clause-serves : goal.next-requires-clause-serves
next-requires-clause-serves g c = c.requires.serves (sym c.if-has_ended.ensures)

pub next-requires-clause-ahead : goal.next-requires-clause-ahead
next-requires-clause-ahead g c = c.requires.ahead (sym c.if-has_ended.ensures)

pub returns-in-Err-clause-told : goal.returns-in-Err-clause-told
returns-in-Err-clause-told g c =
    refused g.Q.Exact.value g.Q.Exact.fits (problem_of g.Q.Exact.value c.args.ground.now) (g.Q.Exact.value c.args.until) c.args.self.now c.next.new.self c.end.new.self c.in-Err.stop c.in-Err.ensures.told

pub returns-in-Err-clause-refused : goal.returns-in-Err-clause-refused
returns-in-Err-clause-refused g c = c.end.ensures ∙ ap (λ (v : TimelineView). record v { ended = true }) c.in-Err.ensures.kept
