use Rattle.std.proofs.Common.{sym, subst}
use Rattle.laws_found.specs.Room.{HasRoom, AcceptsText}
use Rattle.laws_found.proofs.CheckedLemmas.Written.{plan_written}
use Rattle.laws_found.proofs.checked.what_plan_writes_is_accepted.Goals as goal

pub returns : goal.returns
returns c =
    λ q k tries most cut domain problem written above plans room more.
    let w = plan_written q k tries cut domain problem written plans in
    let a = c.found_plan_is_accepted.ensures domain problem w.d w.p q k tries most cut w.plan w.spelled above w.planned (subst HasRoom w.written_is room) more in
    (w.d, w.p, w.spelled, subst (AcceptsText w.d w.p most) (sym w.written_is) a)
