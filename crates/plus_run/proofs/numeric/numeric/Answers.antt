use Rattle.std.proofs.Common.{[], ◌∷◌}
use Rattle.plus_io.proofs.Pieces.{KeepsFiles-trans}
use Rattle.plus_io.proofs.Readings.{each_then, of_more}
use Rattle.plus_report.specs.Refusals.{early_text}
use Rattle.plus_reply.specs.Statuses.{early_status}
use Rattle.plus_reply.proofs.ReplyLemmas.{early_plain}
use Rattle.plus_run.proofs.AnswerLemmas.{text_answer}
use Rattle.plus_run.proofs.NumericLemmas.{pair_plays, from_before}
use Rattle.plus_run.proofs.numeric.numeric.Goals as goal

pub returns-in-Err-Early-clause-answers : goal.returns-in-Err-Early-clause-answers
returns-in-Err-Early-clause-answers g c =
    let line = rw c.in-Err-Early.early-is at c.refuse.ensures.writes in
    let cause = rw c.in-Err-Early.field-0-is at c.in-Err-Early.ensures.not_read in
    let early = c.in-Err-Early.early in
    text_answer _ _ _ _ _ _ _ _ _ (early_status early) (early_text early) (early_plain early) line (pair_plays _ _ _ early cause)

pub returns-in-Err-Early-clause-reads : goal.returns-in-Err-Early-clause-reads
returns-in-Err-Early-clause-reads g c =
    of_more _ _ _ _ _ (c.args.files.domain.now ∷ c.args.files.problem.now ∷ []) (c.args.files.plan.now ∷ []) _ _ c.in-Err-Early.ensures.reads

pub returns-in-Err-ReadFault-clause-reads : goal.returns-in-Err-ReadFault-clause-reads
returns-in-Err-ReadFault-clause-reads g c =
    of_more _ _ _ _ _ (c.args.files.domain.now ∷ c.args.files.problem.now ∷ []) (c.args.files.plan.now ∷ []) _ _ c.in-Err-ReadFault.ensures.reads

pub returns-in-Err-NoMemory-clause-reads : goal.returns-in-Err-NoMemory-clause-reads
returns-in-Err-NoMemory-clause-reads g c =
    of_more _ _ _ _ _ (c.args.files.domain.now ∷ c.args.files.problem.now ∷ []) (c.args.files.plan.now ∷ []) _ _ c.in-Err-NoMemory.ensures.reads

pub returns-in-Ok-clause-answers : goal.returns-in-Ok-clause-answers
returns-in-Ok-clause-answers g c =
    from_before _ _ c.args.files.domain.now c.args.files.problem.now c.args.files.plan.now c.in-Ok.typed.domain c.in-Ok.typed.problem _ _ _ _ _ _ _ _
    c.in-Ok.ensures.keeps.same_bytes c.in-Ok.ensures.read c.in-Ok.ensures.keeps.no_fall
    (c.play-status.ensures.answers c.args.files.domain.now c.args.files.problem.now)

pub returns-in-Ok-clause-keeps : goal.returns-in-Ok-clause-keeps
returns-in-Ok-clause-keeps g c = KeepsFiles-trans _ _ _ c.in-Ok.ensures.keeps c.play-status.ensures.keeps

pub returns-in-Ok-clause-reads : goal.returns-in-Ok-clause-reads
returns-in-Ok-clause-reads g c =
    each_then _ _ _ _ _ (c.args.files.domain.now ∷ c.args.files.problem.now ∷ []) (c.args.files.plan.now ∷ []) _ _ _ c.in-Ok.ensures.both c.play-status.ensures.reads
