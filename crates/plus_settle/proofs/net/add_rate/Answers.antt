use Rattle.std.proofs.Common.{◌<◌, length, arith}
use Rattle.plus_state.specs.View.{rate_of}
use Rattle.plus_settle.proofs.RatesLemmas.{rate_no_amount, rate_no_fluent, rate_sum_unfit, rate_pass, rated_no_amount, rated_no_fluent, rated_sum}
use Rattle.plus_settle.proofs.net.add_rate.Goals as goal

pub returns-in-Ok-None-clause-told : goal.returns-in-Ok-None-clause-told
returns-in-Ok-None-clause-told g c =
    let h = rw c.in-Ok-None.field-0-is at c.in-Ok-None.ensures in
    (rate_no_amount _ (rate_of g.Q.Exact.value c.args.rate.now) _ _ h.0 h.1, rated_no_amount _ _ _ _ _ h.1)

pub returns-in-None-clause-told : goal.returns-in-None-clause-told
returns-in-None-clause-told g c =
    let h = rw c.in-Ok-Some.field-0-is at c.in-Ok-Some.ensures in
    (rate_no_fluent _ (rate_of g.Q.Exact.value c.args.rate.now) _ _ _ h.0 h.1 c.in-None.ensures, rated_no_fluent _ _ _ _ _ _ h.1 c.in-None.ensures)

pub returns-in-Err-summed-clause-told : goal.returns-in-Err-summed-clause-told
returns-in-Err-summed-clause-told g c =
    let h = rw c.in-Ok-Some.field-0-is at c.in-Ok-Some.ensures in
    (rate_sum_unfit _ (rate_of g.Q.Exact.value c.args.rate.now) _ _ _ _ _ _ h.0 h.1 c.in-Some.ensures c.get.ensures c.in-Err-summed.ensures, tt)

pub returns-in_ok-set-in-Ok-clause-told : goal.returns-in_ok-set-in-Ok-clause-told
returns-in_ok-set-in-Ok-clause-told g c =
    let h = rw c.in-Ok-Some.field-0-is at c.in-Ok-Some.ensures in
    let l : c.args.rate.now.fluent.0 < length c.args.rates.now = omega (arith, c.requires.fits.0, c.requires.size) in
    (rate_pass _ (rate_of g.Q.Exact.value c.args.rate.now) _ _ _ _ _ h.0 h.1 c.in-Some.ensures c.get.ensures c.in-Ok.ensures.0, rated_sum _ _ _ _ _ _ _ _ _ _ h.1 c.in-Some.ensures c.get.ensures l c.in-Ok.ensures.1 c.in_ok-set-in-Ok.ensures.ok)
