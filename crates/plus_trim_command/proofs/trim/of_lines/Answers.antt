use Rattle.std.proofs.Common.{map, ap, ◌∙◌}
use Rattle.plus_expansion.specs.Expansion.{expanded}
use Rattle.plus_number.specs.Frac.{fraction_of}
use Rattle.plus_state.specs.View.{problem_of}
use Rattle.plus_trim.specs.Acts.{act_of}
use Rattle.plus_validator.specs.Plans.{pair_in, lines_meant}
use Rattle.plus_trim_command.specs.Playable.{KeepsActs}
use Rattle.plus_trim_command.specs.Trim.{TrimsPlan}
use Rattle.plus_trim_command.proofs.Accepted.{playable, values, trimmable}
use Rattle.plus_stretch.proofs.Marks.{ok_as}
use Rattle.plus_trim_command.proofs.Told.{keeps_plan, plan_of_ground}
use Rattle.plus_trim_command.proofs.trim.of_lines.Goals as goal

pub end_of-end-requires-clause-bottoms : goal.end_of-end-requires-clause-bottoms
end_of-end-requires-clause-bottoms c = c.requires.accepted.bottoms

pub end_of-end-requires-clause-values : goal.end_of-end-requires-clause-values
end_of-end-requires-clause-values c = values c.args.numbering.now.typed.now.domain c.args.numbering.now.typed.now.problem c.args.lines.now c.requires.accepted

pub acts_of-requires : goal.acts_of-requires
acts_of-requires c = playable c.args.numbering.now.typed.now.domain c.args.numbering.now.typed.now.problem c.args.lines.now c.requires.accepted

pub of_acts-reply-requires : goal.of_acts-reply-requires
of_acts-reply-requires c =
    trimmable c.args.numbering.now.typed.now.domain c.args.numbering.now.typed.now.problem c.args.lines.now c.requires.accepted
    (problem_of fraction_of c.args.ground.now) (map (act_of fraction_of) c.deref.result.now) (fraction_of c.end_of-end.result)
    c.requires.expands c.requires.few (ap (map (act_of fraction_of)) c.deref.ensures.value ∙ c.in_ok-acts.ensures.acts) (c.end_of-end.ensures (pair_in c.args.numbering.now.typed.now)) (rw c.deref.ensures.value c.in_ok-acts.ensures.fit)

pub returns : goal.returns
returns c =
    let d = c.args.numbering.now.typed.now.domain in
    let p = c.args.numbering.now.typed.now.problem in
    let ls = lines_meant (pair_in c.args.numbering.now.typed.now) c.args.lines.now in
    let P = problem_of fraction_of c.args.ground.now in
    let xs = map (act_of fraction_of) c.deref.result.now in
    let last = fraction_of c.end_of-end.result in
    ok_as c.of_acts-reply.result (λ r. KeepsActs P xs last r.status r.text.items) (λ r. TrimsPlan (expanded d p) ls r.status r.text.items)
    (λ r k. plan_of_ground P (expanded d p) ls r.status r.text.items c.requires.expands
    (keeps_plan P ls xs last r.status r.text.items c.requires.few (ap (map (act_of fraction_of)) c.deref.ensures.value ∙ c.in_ok-acts.ensures.acts) (c.end_of-end.ensures (pair_in c.args.numbering.now.typed.now)) k))
    c.of_acts-reply.ensures
