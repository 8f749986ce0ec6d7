use Rattle.std.proofs.Common.{ap}
use Rattle.std.proofs.lemmas.Result.{err_from_is_err_and}
use Rattle.plus_state.specs.View.{problem_of}
use Rattle.plus_stretch.specs.Marked.{marks_of}
use Rattle.plus_stretch.proofs.Collecting.{roots_pass, events_halt, processes_halt}
use Rattle.plus_stretch.proofs.Marking.{all_marked}
use Rattle.plus_stretch.proofs.listing.roots.Goals as goal

pub returns-in_err-event_marks : goal.returns-in_err-event_marks
returns-in_err-event_marks g c =
    let p = err_from_is_err_and c.from_residual.result c.from_residual.ensures.1 in
    rw (p.1, p.2) (events_halt (problem_of g.Q.Exact.value c.args.ground.now) _ _ _ _ _ c.in_err-event_marks.ensures)

pub returns-in_err-process_marks : goal.returns-in_err-process_marks
returns-in_err-process_marks g c =
    let p = err_from_is_err_and c.from_residual-in_err-process_marks.result c.from_residual-in_err-process_marks.ensures.1 in
    rw (p.1, p.2) (processes_halt (problem_of g.Q.Exact.value c.args.ground.now) _ _ _ _ _ c.in_ok-event_marks.ensures.0 c.in_err-process_marks.ensures)

pub returns : goal.returns
returns g c = (
  roots_pass (problem_of g.Q.Exact.value c.args.ground.now) _ _ _ c.in_ok-event_marks.ensures.0 c.in_ok-process_marks.ensures.0,
  all_marked (problem_of g.Q.Exact.value c.args.ground.now) _ _ _ _ _ (ap (marks_of g.Q.Exact.value) c.clear.ensures.items) c.in_ok-event_marks.ensures.1 c.in_ok-process_marks.ensures.1,
)
