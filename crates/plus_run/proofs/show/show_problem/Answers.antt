use Rattle.std.proofs.Common.{◌∙◌, subst}
use Rattle.plus_grammar.specs.Texts.{IsProblemText}
use Rattle.plus_printer.specs.Canon.{problem_text}
use Rattle.plus_report.specs.Refusals.{early_text}
use Rattle.plus_report.specs.declared.status.Status.TheVariants as s
use Rattle.plus_reply.specs.Pair.Pair.{depth_limit, ProblemRefused}
use Rattle.plus_reply.specs.Statuses.{early_status, Writes}
use Rattle.plus_reply.proofs.ReplyLemmas.{early_plain}
use Rattle.plus_run.proofs.ShowLemmas.{shown, not_shown}
use Rattle.plus_run.proofs.AnswerLemmas.{text_answer}
use Rattle.plus_run.proofs.show.show_problem.Goals as goal

pub returns-in-Ok-shown-clause-answers : goal.returns-in-Ok-shown-clause-answers
returns-in-Ok-shown-clause-answers g c =
    let old = g.O.Sink.taken c.args.out.now in
    let new = g.O.Sink.taken c.tell.new.out in
    let before = g.O.Sink.faults c.args.out.now in
    let now = g.O.Sink.faults c.tell.new.out in
    let bytes = g.S.Shelf.bytes c.args.shelf.now c.args.name.now in
    let text = subst (λ t. Writes t s.Valid old new before now c.tell.result) (c.deref.ensures.value ∙ c.in-Ok-shown.ensures) c.tell.ensures.writes in
    text_answer _ _ _ _ _ _ _ _ _ s.Valid (problem_text c.in-Ok.problem) tt text
    (shown (IsProblemText depth_limit) problem_text ProblemRefused bytes c.in-Ok.problem c.in-Ok.ensures.read)

pub returns-in-Err-Early-clause-answers : goal.returns-in-Err-Early-clause-answers
returns-in-Err-Early-clause-answers g c =
    let line = rw c.in-Err-Early.early-is at c.refuse.ensures.writes in
    let cause = rw c.in-Err-Early.field-0-is at c.in-Err-Early.ensures.not_read in
    let bytes = g.S.Shelf.bytes c.args.shelf.now c.args.name.now in
    let early = c.in-Err-Early.early in
    text_answer _ _ _ _ _ _ _ _ _ (early_status early) (early_text early) (early_plain early) line
    (not_shown (IsProblemText depth_limit) problem_text ProblemRefused bytes early cause)
