use Rattle.std.proofs.Common.{sym, subst, ◌∙◌}
use Rattle.std.specs.Prelude.{All}
use Rattle.plus_plan.specs.Answers.{HasBottom}
use Rattle.plus_expansion.specs.Expansion.{expanded}
use Rattle.plus_validator.specs.Plans.{pair_in, lines_meant}
use Rattle.plus_trim_command.specs.Trim.{TrimsPlan, TrimsPair}
use Rattle.plus_stretch.proofs.Marks.{ok_as}
use Rattle.plus_trim_command.proofs.Told.{lines_accepted}
use Rattle.plus_trim_command.proofs.trim.of_accepted.Goals as goal

pub lines_of-requires-clause-within : goal.lines_of-requires-clause-within
lines_of-requires-clause-within c = c.requires.1.within

pub lines_of-requires-clause-lines : goal.lines_of-requires-clause-lines
lines_of-requires-clause-lines c = (c.requires.1.lines, c.requires.1.read)

pub of_plan-reply-requires : goal.of_plan-reply-requires
of_plan-reply-requires c = record {
  text = c.args.text.now;
  bytes = c.requires.0;
  accepted = c.requires.1;
  are = c.deref.ensures.value ∙ c.in_ok-lines.ensures.spoken c.requires.1.lines c.requires.1.read;
  bottoms = subst (All HasBottom) (sym c.deref.ensures.value) c.in_ok-lines.ensures.bottoms;
}

pub returns : goal.returns
returns c =
    let d = c.args.typed.now.domain in
    let p = c.args.typed.now.problem in
    let lines = c.deref.result.now in
    ok_as c.of_plan-reply.result (λ r. TrimsPlan (expanded d p) (lines_meant (pair_in c.args.typed.now) lines) r.status r.text.items)
    (λ r. TrimsPair d p c.args.text.now r.status r.text.items)
    (λ r k. lines_accepted d p c.args.text.now c.requires lines r.status r.text.items
    (c.deref.ensures.value ∙ c.in_ok-lines.ensures.spoken c.requires.1.lines c.requires.1.read) k) c.of_plan-reply.ensures
