use Rattle.std.proofs.Common.{refl}
use Rattle.plus_numeric.specs.Verdicts.{kind_status}
use Rattle.plus_lift.proofs.CommandLemmas.LiftLemmas.{kind_plain}
use Rattle.plus_report.specs.declared.status.Status.TheVariants as s
use Rattle.plus_run.specs.Numeric.{valid_line}
use Rattle.plus_run.proofs.AnswerLemmas.{text_answer, file_answer, memory_answer}
use Rattle.plus_run.proofs.RunLemmas.{rose_before}
use Rattle.plus_run.proofs.NumericLemmas.{plan_plays, refusal_plays}
use Rattle.plus_run.proofs.numeric.play.Goals as goal

pub returns-in-Ok-clause-answers : goal.returns-in-Ok-clause-answers
returns-in-Ok-clause-answers g c = λ domain problem before reads rose.
    let d = c.args.typed.now.domain in
    let p = c.args.typed.now.problem in
    let typed = c.args.typed.now.well_typed in
    text_answer _ _ _ _ _ _ _ _ _ s.Valid valid_line tt c.tell.ensures.writes (plan_plays _ _ _ _ d p refl reads typed _ c.in-Ok.ensures.plan)

pub returns-in-Err-Refused-clause-answers : goal.returns-in-Err-Refused-clause-answers
returns-in-Err-Refused-clause-answers g c = λ domain problem before reads rose.
    let d = c.args.typed.now.domain in
    let p = c.args.typed.now.problem in
    let typed = c.args.typed.now.well_typed in
    let refused = rw c.in-Err-Refused.field-0-is at c.in-Err-Refused.ensures.stops in
    let told = rw (c.status.ensures, c.deref.ensures.value) at c.tell-in-Err-Refused.ensures.writes in
    let kind = c.in-Err-Refused.refused.kind in
    let line = c.in-Err-Refused.refused.line.items in
    text_answer _ _ _ _ _ _ _ _ _ (kind_status kind) line (kind_plain kind) told (refusal_plays _ _ _ _ d p refl reads typed kind line refused)

pub returns-in-Err-ReadFault-clause-answers : goal.returns-in-Err-ReadFault-clause-answers
returns-in-Err-ReadFault-clause-answers g c = λ domain problem before reads rose.
    let failed = rw c.in-Err-ReadFault.field-0-is at c.in-Err-ReadFault.ensures.stops in
    file_answer _ _ _ _ _ _ _ (rose_before _ _ _ rose failed)

pub returns-clause-answers : goal.returns-clause-answers
returns-clause-answers g c = λ domain problem before reads rose. memory_answer _ _ _ _ _ _ _
