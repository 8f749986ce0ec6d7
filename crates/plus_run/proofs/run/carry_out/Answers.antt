use Rattle.std.proofs.Common.{◌∙◌, ap, sym, subst, option_map, Some, Option}
use Rattle.plus_run.specs.Command.{Command}
use Rattle.plus_run.specs.Meant.{meant}
use Rattle.plus_run.specs.Headline.{IsAnswer}
use Rattle.plus_run.proofs.AnswerLemmas.{usage_answer}
use Rattle.plus_run.proofs.StopLemmas.{stops_as, other_stops, usage_no_read, keeps_up_as, other_keeps_up}
use Rattle.plus_run.proofs.run.carry_out.Goals as goal

pub returns-in-None-clause-answers : goal.returns-in-None-clause-answers
returns-in-None-clause-answers g c =
    let is = sym (ap (option_map meant) c.in-None.is) ∙ c.parse.ensures in
    let faults = g.S.Shelf.faults c.args.shelf.now in
    subst
    (λ (o : Option Command). IsAnswer o (g.S.Shelf.bytes c.args.shelf.now) (g.O.Sink.taken c.args.out.now) (g.O.Sink.taken c.usage.new.out) faults faults
    (g.O.Sink.faults c.args.out.now) (g.O.Sink.faults c.usage.new.out) c.usage.result) is
    (usage_answer _ _ _ _ _ _ _ _ c.usage.ensures.writes)

pub returns-in-Some-Trial-clause-answers : goal.returns-in-Some-Trial-clause-answers
returns-in-Some-Trial-clause-answers g c =
    let is = sym (ap (option_map meant) (c.in-Some-Trial.is ∙ ap Some c.in-Some-Trial.field-0-is)) ∙ c.parse.ensures in
    let faults = g.S.Shelf.faults c.args.shelf.now in
    subst
    (λ (o : Option Command). IsAnswer o (g.S.Shelf.bytes c.args.shelf.now) (g.O.Sink.taken c.args.out.now) (g.O.Sink.taken c.trial.new.out) faults faults
    (g.O.Sink.faults c.args.out.now) (g.O.Sink.faults c.trial.new.out) c.trial.result) is
    (c.trial.ensures.answers (g.S.Shelf.bytes c.args.shelf.now) faults faults)

-- ---- what is out where a file failed

pub returns-in-None-clause-stops : goal.returns-in-None-clause-stops
returns-in-None-clause-stops g c = usage_no_read _ _ _ _ _ _ c.usage.ensures.writes

pub returns-in-Some-Check-clause-stops : goal.returns-in-Some-Check-clause-stops
returns-in-Some-Check-clause-stops g c =
    let is = sym (ap (option_map meant) (c.in-Some-Check.is ∙ ap Some c.in-Some-Check.field-0-is)) ∙ c.parse.ensures in
    stops_as _ _ _ _ _ _ _ _ _ _ _ is c.check.ensures.stops

pub returns-in-Some-ShowDomain-clause-stops : goal.returns-in-Some-ShowDomain-clause-stops
returns-in-Some-ShowDomain-clause-stops g c =
    let is = sym (ap (option_map meant) (c.in-Some-ShowDomain.is ∙ ap Some c.in-Some-ShowDomain.field-0-is)) ∙ c.parse.ensures in
    other_stops _ _ _ _ _ _ _ _ _ _ _ _ _ _ _ _ c.show_domain.ensures.answers is tt

pub returns-in-Some-ShowProblem-clause-stops : goal.returns-in-Some-ShowProblem-clause-stops
returns-in-Some-ShowProblem-clause-stops g c =
    let is = sym (ap (option_map meant) (c.in-Some-ShowProblem.is ∙ ap Some c.in-Some-ShowProblem.field-0-is)) ∙ c.parse.ensures in
    other_stops _ _ _ _ _ _ _ _ _ _ _ _ _ _ _ _ c.show_problem.ensures.answers is tt

pub returns-in-Some-Numeric-clause-stops : goal.returns-in-Some-Numeric-clause-stops
returns-in-Some-Numeric-clause-stops g c =
    let is = sym (ap (option_map meant) (c.in-Some-Numeric.is ∙ ap Some c.in-Some-Numeric.field-0-is)) ∙ c.parse.ensures in
    other_stops _ _ _ _ _ _ _ _ _ _ _ _ _ _ _ _ c.numeric.ensures.answers is tt

pub returns-in-Some-Translate-clause-stops : goal.returns-in-Some-Translate-clause-stops
returns-in-Some-Translate-clause-stops g c =
    let is = sym (ap (option_map meant) (c.in-Some-Translate.is ∙ ap Some c.in-Some-Translate.field-0-is)) ∙ c.parse.ensures in
    other_stops _ _ _ _ _ _ _ _ _ _ _ _ _ _ _ _ c.translate.ensures.answers is tt

pub returns-in-Some-Lift-clause-stops : goal.returns-in-Some-Lift-clause-stops
returns-in-Some-Lift-clause-stops g c =
    let is = sym (ap (option_map meant) (c.in-Some-Lift.is ∙ ap Some c.in-Some-Lift.field-0-is)) ∙ c.parse.ensures in
    other_stops _ _ _ _ _ _ _ _ _ _ _ _ _ _ _ _ c.lift.ensures.answers is tt

pub returns-in-Some-Plan-clause-stops : goal.returns-in-Some-Plan-clause-stops
returns-in-Some-Plan-clause-stops g c =
    let is = sym (ap (option_map meant) (c.in-Some-Plan.is ∙ ap Some c.in-Some-Plan.field-0-is)) ∙ c.parse.ensures in
    other_stops _ _ _ _ _ _ _ _ _ _ _ _ _ _ _ _ c.plan.ensures.answers is tt

pub returns-in-Some-Trim-clause-stops : goal.returns-in-Some-Trim-clause-stops
returns-in-Some-Trim-clause-stops g c =
    let is = sym (ap (option_map meant) (c.in-Some-Trim.is ∙ ap Some c.in-Some-Trim.field-0-is)) ∙ c.parse.ensures in
    other_stops _ _ _ _ _ _ _ _ _ _ _ _ _ _ _ _ c.trim.ensures.answers is tt

pub returns-in-Some-Trial-clause-stops : goal.returns-in-Some-Trial-clause-stops
returns-in-Some-Trial-clause-stops g c =
    let is = sym (ap (option_map meant) (c.in-Some-Trial.is ∙ ap Some c.in-Some-Trial.field-0-is)) ∙ c.parse.ensures in
    let faults = g.S.Shelf.faults c.args.shelf.now in
    other_stops _ _ _ _ _ _ _ _ _ _ _ _ _ _ _ _ (c.trial.ensures.answers (g.S.Shelf.bytes c.args.shelf.now) faults faults) is tt

-- ---- how far a check has read where the sink failed

pub returns-in-Some-Check-clause-keeps_up : goal.returns-in-Some-Check-clause-keeps_up
returns-in-Some-Check-clause-keeps_up g c =
    let is = sym (ap (option_map meant) (c.in-Some-Check.is ∙ ap Some c.in-Some-Check.field-0-is)) ∙ c.parse.ensures in
    keeps_up_as _ _ _ _ _ _ _ _ _ _ _ is c.check.ensures.keeps_up

pub returns-in-None-clause-keeps_up : goal.returns-in-None-clause-keeps_up
returns-in-None-clause-keeps_up g c =
    let is = sym (ap (option_map meant) c.in-None.is) ∙ c.parse.ensures in
    other_keeps_up _ _ _ _ _ _ _ _ _ _ _ is tt

pub returns-in-Some-ShowDomain-clause-keeps_up : goal.returns-in-Some-ShowDomain-clause-keeps_up
returns-in-Some-ShowDomain-clause-keeps_up g c =
    let is = sym (ap (option_map meant) (c.in-Some-ShowDomain.is ∙ ap Some c.in-Some-ShowDomain.field-0-is)) ∙ c.parse.ensures in
    other_keeps_up _ _ _ _ _ _ _ _ _ _ _ is tt

pub returns-in-Some-ShowProblem-clause-keeps_up : goal.returns-in-Some-ShowProblem-clause-keeps_up
returns-in-Some-ShowProblem-clause-keeps_up g c =
    let is = sym (ap (option_map meant) (c.in-Some-ShowProblem.is ∙ ap Some c.in-Some-ShowProblem.field-0-is)) ∙ c.parse.ensures in
    other_keeps_up _ _ _ _ _ _ _ _ _ _ _ is tt

pub returns-in-Some-Numeric-clause-keeps_up : goal.returns-in-Some-Numeric-clause-keeps_up
returns-in-Some-Numeric-clause-keeps_up g c =
    let is = sym (ap (option_map meant) (c.in-Some-Numeric.is ∙ ap Some c.in-Some-Numeric.field-0-is)) ∙ c.parse.ensures in
    other_keeps_up _ _ _ _ _ _ _ _ _ _ _ is tt

pub returns-in-Some-Trial-clause-keeps_up : goal.returns-in-Some-Trial-clause-keeps_up
returns-in-Some-Trial-clause-keeps_up g c =
    let is = sym (ap (option_map meant) (c.in-Some-Trial.is ∙ ap Some c.in-Some-Trial.field-0-is)) ∙ c.parse.ensures in
    other_keeps_up _ _ _ _ _ _ _ _ _ _ _ is tt

pub returns-in-Some-Translate-clause-keeps_up : goal.returns-in-Some-Translate-clause-keeps_up
returns-in-Some-Translate-clause-keeps_up g c =
    let is = sym (ap (option_map meant) (c.in-Some-Translate.is ∙ ap Some c.in-Some-Translate.field-0-is)) ∙ c.parse.ensures in
    other_keeps_up _ _ _ _ _ _ _ _ _ _ _ is tt

pub returns-in-Some-Lift-clause-keeps_up : goal.returns-in-Some-Lift-clause-keeps_up
returns-in-Some-Lift-clause-keeps_up g c =
    let is = sym (ap (option_map meant) (c.in-Some-Lift.is ∙ ap Some c.in-Some-Lift.field-0-is)) ∙ c.parse.ensures in
    other_keeps_up _ _ _ _ _ _ _ _ _ _ _ is tt

pub returns-in-Some-Plan-clause-keeps_up : goal.returns-in-Some-Plan-clause-keeps_up
returns-in-Some-Plan-clause-keeps_up g c =
    let is = sym (ap (option_map meant) (c.in-Some-Plan.is ∙ ap Some c.in-Some-Plan.field-0-is)) ∙ c.parse.ensures in
    other_keeps_up _ _ _ _ _ _ _ _ _ _ _ is tt

pub returns-in-Some-Trim-clause-keeps_up : goal.returns-in-Some-Trim-clause-keeps_up
returns-in-Some-Trim-clause-keeps_up g c =
    let is = sym (ap (option_map meant) (c.in-Some-Trim.is ∙ ap Some c.in-Some-Trim.field-0-is)) ∙ c.parse.ensures in
    other_keeps_up _ _ _ _ _ _ _ _ _ _ _ is tt
