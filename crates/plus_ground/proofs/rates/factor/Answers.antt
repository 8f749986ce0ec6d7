use Rattle.std.proofs.Common.{◌≡◌, ◌∙◌, ap, sym, subst, length, arith}
use Rattle.std.proofs.lemmas.Bool.Decides.{nat_tests}
use Rattle.std.specs.Prelude.{IfOk}
use Rattle.plus_model.specs.Terms.{Number, Expression}
use Rattle.plus_state.specs.View.{expression_of}
use Rattle.plus_types.specs.Faults.{problem_context, is_clock}
use Rattle.plus_ground.proofs.ExpressionsLemmas.{member_fits}
use Rattle.plus_ground.proofs.RatesLemmas.{not_two, first_taken, one_front}
use Rattle.plus_ground.proofs.rates.factor.Goals as goal

pub returns-then-factors-ne2 : goal.returns-then-factors-ne2
returns-then-factors-ne2 g c =
    ap Number c.zero.ensures
    ∙ sym (not_two (problem_context c.args.numbering.now.typed.now.domain c.args.numbering.now.typed.now.problem) c.args.env.now c.args.factors.now (λ e. (let h = c.if-factors-ne2.true in grind (arith, nat_tests))))

pub expression-requires : goal.expression-requires
expression-requires g c =
    member_fits g.Q.Exact.fits c.args.factors.now 1 c.index-factors-1.result (let h = c.if-factors-ne2.false in grind (arith, nat_tests)) c.index-factors-1.is c.requires

pub expression-requires-else-is_clock : goal.expression-requires-else-is_clock
expression-requires-else-is_clock g c =
    member_fits g.Q.Exact.fits c.args.factors.now 0 c.index-factors-0-else-is_clock.result (let h = c.if-factors-ne2.false in grind (arith, nat_tests)) c.index-factors-0-else-is_clock.is c.requires

pub returns-else-is_clock : goal.returns-else-is_clock
returns-else-is_clock g c =
    let two : length c.args.factors.now ≡ 2 = let h = c.if-factors-ne2.false in grind (arith, nat_tests) in
    let same : c.index-factors-0.result ≡ c.index-factors-0-else-is_clock.result = one_front c.args.factors.now c.index-factors-0.result c.index-factors-0-else-is_clock.result two c.index-factors-0.is c.index-factors-0-else-is_clock.is in
    subst (λ (x : Expression). IfOk c.expression-else-is_clock.result (λ e. expression_of g.Q.Exact.value e ≡ x))
    (first_taken (problem_context c.args.numbering.now.typed.now.domain c.args.numbering.now.typed.now.problem) c.args.env.now c.args.factors.now c.index-factors-0-else-is_clock.result
    two c.index-factors-0-else-is_clock.is (ap is_clock (sym same) ∙ sym c.is_clock.ensures ∙ c.if-is_clock.false))
    c.expression-else-is_clock.ensures
