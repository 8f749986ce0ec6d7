use Rattle.std.proofs.Common.{[], ◌∷◌, ap, sym, ◌∙◌, refl}
use Rattle.plus_io.proofs.Pieces.{KeepsFiles-trans}
use Rattle.plus_io.proofs.Readings.{each_then, of_more}
use Rattle.plus_report.specs.Refusals.{early_text}
use Rattle.plus_reply.specs.Statuses.{early_status}
use Rattle.plus_reply.proofs.ReplyLemmas.{early_plain}
use Rattle.plus_run.proofs.RunLemmas.{only_broken, only_read, only_memory, no_usage, rose_before, plan_told, plan_broken, plan_stopped, plan_unread, pair_line}
use Rattle.plus_run.proofs.AnswerLemmas.{some_none, text_answer}
use Rattle.plus_run.specs.Stopping.{in_pair}
use Rattle.plus_run.proofs.StopLemmas.{line_no_read, plan_stops, plan_keeps_up, line_keeps_up}
use Rattle.plus_run.proofs.run.check.Goals as goal

pub returns-in-Ok-clause-answers : goal.returns-in-Ok-clause-answers
returns-in-Ok-clause-answers g c =
    let d = c.in-Ok.typed.domain in
    let p = c.in-Ok.typed.problem in
    let read = c.in-Ok.ensures.read in
    let typed = c.in-Ok.typed.well_typed in
    let same = ap (λ f. f c.args.files.plan.now) c.in-Ok.ensures.keeps.same_bytes in
    record {
      replied = plan_told _ _ _ d p _ _ read typed _ _ c.validate-outcome.result _ same c.validate-outcome.ensures.valid c.validate-outcome.ensures.refused
          c.status.ensures;
      usage = λ v. absurd (no_usage c.validate-outcome.result c.status.result c.status.ensures v);
      no_command = λ n. some_none _ n;
      read_fault = λ v.
          let h = c.validate-outcome.ensures.read_fault (only_read c.validate-outcome.result (sym c.status.ensures ∙ v)) in (
            rose_before _ _ _ c.in-Ok.ensures.keeps.no_fall h.0,
            plan_unread _ _ _ d p _ _ read typed _ _ _ _ same h.1,
          );
      write_fault = λ v.
          let h = c.validate-outcome.ensures.write_fault (only_broken c.validate-outcome.result (sym c.status.ensures ∙ v)) in
          (h.0, plan_broken _ _ _ d p _ _ read typed _ _ same h.1);
      no_memory = λ v.
          plan_stopped _ _ _ d p _ _ read typed _ _ same
          (c.validate-outcome.ensures.no_memory (only_memory c.validate-outcome.result (sym c.status.ensures ∙ v)));
    }

pub returns-in-Err-Early-clause-answers : goal.returns-in-Err-Early-clause-answers
returns-in-Err-Early-clause-answers g c =
    let line = rw c.in-Err-Early.early-is at c.refuse.ensures.writes in
    let cause = rw c.in-Err-Early.field-0-is at c.in-Err-Early.ensures.not_read in
    let early = c.in-Err-Early.early in
    text_answer _ _ _ _ _ _ _ _ _ (early_status early) (early_text early) (early_plain early) line (pair_line _ _ _ _ early cause)

pub returns-in-Ok-clause-keeps : goal.returns-in-Ok-clause-keeps
returns-in-Ok-clause-keeps g c = KeepsFiles-trans _ _ _ c.in-Ok.ensures.keeps c.validate-outcome.ensures.keeps

pub returns-in-Ok-clause-reads : goal.returns-in-Ok-clause-reads
returns-in-Ok-clause-reads g c =
    each_then _ _ _ _ _ (c.args.files.domain.now ∷ c.args.files.problem.now ∷ []) (c.args.files.plan.now ∷ []) _ _ _ c.in-Ok.ensures.both c.validate-outcome.ensures.reads

pub returns-in-Err-Early-clause-reads : goal.returns-in-Err-Early-clause-reads
returns-in-Err-Early-clause-reads g c =
    of_more _ _ _ _ _ (c.args.files.domain.now ∷ c.args.files.problem.now ∷ []) (c.args.files.plan.now ∷ []) _ _ c.in-Err-Early.ensures.reads

pub returns-in-Err-ReadFault-clause-reads : goal.returns-in-Err-ReadFault-clause-reads
returns-in-Err-ReadFault-clause-reads g c =
    of_more _ _ _ _ _ (c.args.files.domain.now ∷ c.args.files.problem.now ∷ []) (c.args.files.plan.now ∷ []) _ _ c.in-Err-ReadFault.ensures.reads

pub returns-in-Err-NoMemory-clause-reads : goal.returns-in-Err-NoMemory-clause-reads
returns-in-Err-NoMemory-clause-reads g c =
    of_more _ _ _ _ _ (c.args.files.domain.now ∷ c.args.files.problem.now ∷ []) (c.args.files.plan.now ∷ []) _ _ c.in-Err-NoMemory.ensures.reads

pub returns-in-Ok-clause-stops : goal.returns-in-Ok-clause-stops
returns-in-Ok-clause-stops g c = λ v.
    plan_stops _ _ _ _ _ _ _ _ _ _ _ _ _ c.in-Ok.typed.domain c.in-Ok.typed.problem c.in-Ok.ensures.both c.in-Ok.ensures.read c.in-Ok.typed.well_typed
    c.validate-outcome.ensures.reads (ap (λ f. f c.args.files.plan.now) c.in-Ok.ensures.keeps.same_bytes)
    (c.validate-outcome.ensures.read_fault (only_read c.validate-outcome.result (sym c.status.ensures ∙ v))).1

pub returns-in-Err-Early-clause-stops : goal.returns-in-Err-Early-clause-stops
returns-in-Err-Early-clause-stops g c =
    let line = rw c.in-Err-Early.early-is at c.refuse.ensures.writes in
    line_no_read c.in-Err-Early.early _ _ _ _ _ line

pub returns-in-Err-ReadFault-clause-stops : goal.returns-in-Err-ReadFault-clause-stops
returns-in-Err-ReadFault-clause-stops g c = λ v. in_pair c.in-Err-ReadFault.ensures.reads refl

-- ---- how far the plan is read where the sink failed

pub returns-in-Ok-clause-keeps_up : goal.returns-in-Ok-clause-keeps_up
returns-in-Ok-clause-keeps_up g c = λ v.
    plan_keeps_up _ _ _ _ _ _ _ _ _ _ _ _ _ c.in-Ok.typed.domain c.in-Ok.typed.problem c.in-Ok.ensures.both c.in-Ok.ensures.read c.in-Ok.typed.well_typed
    c.validate-outcome.ensures.reads (ap (λ f. f c.args.files.plan.now) c.in-Ok.ensures.keeps.same_bytes)
    (c.validate-outcome.ensures.keeps_up (only_broken c.validate-outcome.result (sym c.status.ensures ∙ v)))

pub returns-in-Err-Early-clause-keeps_up : goal.returns-in-Err-Early-clause-keeps_up
returns-in-Err-Early-clause-keeps_up g c =
    let line = rw c.in-Err-Early.early-is at c.refuse.ensures.writes in
    let cause = rw c.in-Err-Early.field-0-is at c.in-Err-Early.ensures.not_read in
    line_keeps_up _ _ _ _ _ _ _ _ _ _ _ _ c.in-Err-Early.early _ _ _ cause line
