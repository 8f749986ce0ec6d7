use Rattle.std.proofs.Common.{[], ◌∷◌, ◌++◌, ap, ◌∙◌}
use Rattle.plus_state.specs.View.{problem_of}
use Rattle.plus_trim.proofs.Round.{first_mark}
use Rattle.plus_trim.proofs.trimming.first_marks.Goals as goal

pub returns : goal.returns
returns g c = record {
  mark = c.in_ok-mark.mark;
  only = c.in_ok-push.ensures.items ∙ ap (λ ms. ms ++ c.in_ok-mark.mark ∷ []) c.new-marks.ensures.items;
  begun = first_mark g.Q.Exact.fits (problem_of g.Q.Exact.value c.args.ground.now) c.args.happenings c.in_ok-mark.mark c.requires.some c.in_ok-mark.ensures.knows c.in_ok-mark.ensures.begun;
}
