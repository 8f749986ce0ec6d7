use Rattle.std.proofs.Common.{subst}
use Rattle.std.proofs.lemmas.Result.{err_from_is_err_and}
use Rattle.std.specs.Prelude.{IfOk, IfErr}
use Rattle.plus_number.specs.Frac.{fraction_of, IsFrac64}
use Rattle.plus_types.specs.declared.typed.Typed.{Typed}
use Rattle.plus_ground.proofs.RefusalLemmas.{names_refused}
use Rattle.plus_plan_command.specs.Planning.Planned.{IsPlanned, IsUnplanned}
use Rattle.plus_plan_command.proofs.PlanningLemmas.{ungrounded, exits}
use Rattle.plus_plan_command.proofs.planning.planning.plan.Goals as goal

pub returns-clause-planned : goal.returns-clause-planned
returns-clause-planned c =
    subst (λ (t : Typed). IfOk c.search.result (IsPlanned t.domain t.problem (fraction_of c.args.interval) c.args.decisions c.args.tries c.args.is_cut)) c.in_ok-numbering.ensures.of c.search.ensures.planned

pub returns-clause-unplanned : goal.returns-clause-unplanned
returns-clause-unplanned c = subst (λ (t : Typed). IfErr c.search.result (IsUnplanned t.domain t.problem)) c.in_ok-numbering.ensures.of c.search.ensures.unplanned

pub returns-in_err-numbering-clause-unplanned : goal.returns-in_err-numbering-clause-unplanned
returns-in_err-numbering-clause-unplanned c =
    let t = c.args.typed.now in
    let r = err_from_is_err_and c.from_residual.result c.from_residual.ensures.1 in
    let fault = c.in_err-numbering.field-0.0 in
    exits t.domain t.problem c.from_residual.result fault r.0 r.1 r.2 (ungrounded t.domain t.problem fault (names_refused IsFrac64 t.domain t.problem fault c.in_err-numbering.ensures.counts))
