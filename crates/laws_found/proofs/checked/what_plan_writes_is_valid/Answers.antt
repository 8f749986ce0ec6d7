use Rattle.std.proofs.Common.{subst}
use Rattle.plus_validator.specs.Verdicts.{IsAnswered}
use Rattle.laws_found.specs.Room.{HasRoom}
use Rattle.laws_found.proofs.CheckedLemmas.Written.{plan_written, same_pair}
use Rattle.laws_found.proofs.checked.what_plan_writes_is_valid.Goals as goal

pub returns : goal.returns
returns c =
    λ q k tries most cut domain problem written above plans room more d p t outcome bytes a.
    let w = plan_written q k tries cut domain problem written plans in
    let b = same_pair domain problem (λ x y. IsAnswered x y most written outcome bytes) d w.d p w.p t w.spelled a in
    c.found_plan_is_valid.ensures domain problem w.d w.p q k tries most cut w.plan w.spelled above w.planned (subst HasRoom w.written_is room) more outcome bytes
    (subst (λ x. IsAnswered w.d w.p most x outcome bytes) w.written_is b)
