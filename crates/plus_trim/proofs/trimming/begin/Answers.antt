use Rattle.std.proofs.Common.{length, map, ap, sym, subst, ◌∙◌}
use Rattle.std.proofs.lemmas.List.{length-map}
use Rattle.plus_state.specs.View.{problem_of}
use Rattle.plus_trim.specs.Acts.{act_of, plan_of, chosen}
use Rattle.plus_trim.specs.Judging.{Halts}
use Rattle.plus_trim.proofs.Round.{chosen_all}
use Rattle.plus_trim.proofs.trimming.begin.Goals as goal

pub returns-in-Ok-play-clause-work : goal.returns-in-Ok-play-clause-work
returns-in-Ok-play-clause-work g c = record { marked = c.in-Ok.ensures.marked; valid = c.in-Ok-play.ensures.inside }

pub returns-in-Err-clause-halts : goal.returns-in-Err-clause-halts
returns-in-Err-clause-halts g c =
    let v = g.Q.Exact.value in
    let xs = map (act_of v) c.args.acts.now in
    subst (λ ys. Halts v g.Q.Exact.fits (problem_of v c.args.ground.now) c.args.bounds.now.happenings (plan_of ys (v c.args.bounds.now.end)) c.in-Err.stop)
    (ap (chosen xs) c.in-Ok.ensures.places ∙ chosen_all xs (length c.args.acts.now) (sym (length-map c.args.acts.now (act_of v)))) c.in-Err.ensures.halts
