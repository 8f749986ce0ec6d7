use Rattle.std.proofs.Common.{◌∙◌, ap, sym, map}
use Rattle.plus_number.specs.Frac.{fraction_of}
use Rattle.plus_translation.specs.Renamed.{renamed_from}
use Rattle.plus_translate.specs.Dues.{due_of}
use Rattle.plus_translate_command.proofs.PrinterLemmas.HalfLemmas.{within_is, domain_half, problem_half, domain_chosen, problem_chosen, begins}
use Rattle.plus_translate_command.proofs.printer.half.printed.Goals as goal

pub returns-then-not-spliced_within : goal.returns-then-not-spliced_within
returns-then-not-spliced_within c =
    let renamed = c.deref.ensures.value ∙ c.in_ok-events.ensures ∙ ap (renamed_from 1) c.as_slice.ensures in
    sym (within_is (fraction_of c.args.interval) _ (map due_of c.args.dues.now) c.args.domain.now c.args.problem.now renamed c.requires c.in_ok-frame.frame c.in_ok-frame.ensures)
    ∙ sym c.spliced_within.ensures ∙ c.if-not-spliced_within.true

pub returns-in-Domain : goal.returns-in-Domain
returns-in-Domain c =
    let renamed = c.deref.ensures.value ∙ c.in_ok-events.ensures ∙ ap (renamed_from 1) c.as_slice.ensures in
    let again = c.deref-in-Domain.ensures.value ∙ c.in_ok-events.ensures ∙ ap (renamed_from 1) c.as_slice.ensures in (
      sym (within_is (fraction_of c.args.interval) _ (map due_of c.args.dues.now) c.args.domain.now c.args.problem.now renamed c.requires c.in_ok-frame.frame c.in_ok-frame.ensures)
          ∙ sym c.spliced_within.ensures ∙ c.if-not-spliced_within.false,
      domain_chosen c.args.file _ _ _ c.in-Domain.is
          (domain_half (fraction_of c.args.interval) _ (map due_of c.args.dues.now) c.args.domain.now c.args.problem.now renamed c.requires
          c.in_ok-frame.frame _ _ _ again c.as_slice-in-Domain.ensures c.in_ok-frame.ensures c.in_ok-text-in-Domain.ensures),
    )

pub returns : goal.returns
returns c =
    let renamed = c.deref.ensures.value ∙ c.in_ok-events.ensures ∙ ap (renamed_from 1) c.as_slice.ensures in
    let again = c.deref-in-Problem.ensures.value ∙ c.in_ok-events.ensures ∙ ap (renamed_from 1) c.as_slice.ensures in (
      sym (within_is (fraction_of c.args.interval) _ (map due_of c.args.dues.now) c.args.domain.now c.args.problem.now renamed c.requires c.in_ok-frame.frame c.in_ok-frame.ensures)
          ∙ sym c.spliced_within.ensures ∙ c.if-not-spliced_within.false,
      problem_chosen c.args.file _ _ _ c.in-Problem.is
          (problem_half (fraction_of c.args.interval) _ (map due_of c.args.dues.now) c.args.domain.now c.args.problem.now again c.requires _ (c.whole.ensures ∙ c.in_ok-text-in-Problem.ensures)),
    )

pub domain_half-requires : goal.domain_half-requires
domain_half-requires c =
    begins (fraction_of c.args.interval) _ _ (map due_of c.args.dues.now) c.args.domain.now c.args.problem.now c.in_ok-frame.frame c.in_ok-frame.ensures
    (c.deref-in-Domain.ensures.value ∙ sym c.deref.ensures.value)
