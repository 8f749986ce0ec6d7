-- Plans without time, call by call.
use Rattle.std.proofs.Common.{◌≡◌, true, [], ◌∷◌, ◌++◌, refl, sym, subst}
use Rattle.plus_model.specs.Terms.{State}
use Rattle.plus_model.specs.Value.{holds}
use Rattle.plus_steps.specs.Numeric.{CallDoes, NumericPlan}
use Rattle.plus_steps.specs.Laws.{CallsGoOn, CallsEnd, CallsBegin}
use Rattle.plus_steps.proofs.OneState.{one_call}

pub calls_go_on : (C : Type 0) → CallsGoOn C
calls_go_on C meant [] call s last after h k = (after, subst (λ (t : State). CallDoes meant call t after) h k, refl)
calls_go_on C meant (first ∷ calls) call s last after h k = (h.0, h.1, calls_go_on C meant calls call h.0 last after h.2 k)

pub calls_end : (C : Type 0) → CallsEnd C
calls_end C meant goal [] s last h g = subst (λ (t : State). holds goal t ≡ true) h g
calls_end C meant goal (first ∷ calls) s last h g = (h.0, h.1, calls_end C meant goal calls h.0 last h.2 g)

pub calls_begin : (C : Type 0) → CallsBegin C
calls_begin C meant goal [] rest s last h p = subst (λ (t : State). NumericPlan meant goal t rest) (sym h) p
calls_begin C meant goal (first ∷ calls) rest s last h p =
    let same : p.0 ≡ h.0 = one_call C meant first s p.0 h.0 p.1 h.1 in
    calls_begin C meant goal calls rest h.0 last h.2 (subst (λ (t : State). NumericPlan meant goal t (calls ++ rest)) same p.2)
