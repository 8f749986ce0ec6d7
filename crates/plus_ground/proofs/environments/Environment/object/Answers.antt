use Rattle.std.proofs.Common.{◌≡◌, ◌∙◌, ◌-◌, sym, suc, arith}
use Rattle.plus_ground.specs.declared.environments.Bound.{Bound}
use Rattle.plus_ground.proofs.EnvironmentsLemmas.{found_last, passed_last}
use Rattle.plus_ground.proofs.environments.Environment.object.Goals as goal

pub returns-then-eq : goal.returns-then-eq
returns-then-eq c =
    let n : c.outward.left ≡ suc (c.outward.left - 1) = omega arith in
    rw (← c.self.view_is, ← c.as_slice-bounds.ensures)
    (found_last (λ (b : Bound). (b.name.now, b.object)) c.args.none c.as_slice-bounds.result.now c.outward.left (c.outward.left - 1) _ c.args.name.now n
    c.outward.invariant.within (sym c.eq.ensures ∙ c.if-eq.true) c.outward.invariant.others)

pub outward-preserved : goal.outward-preserved
outward-preserved c =
    let n : c.outward.left ≡ suc (c.outward.left - 1) = omega arith in
    record {
      within = omega (arith, c.outward.invariant.within);
      others = passed_last (λ (b : Bound). (b.name.now, b.object)) c.args.none c.as_slice-bounds.result.now c.outward.left (c.outward.left - 1) _ c.args.name.now n
          c.outward.invariant.within (sym c.eq.ensures ∙ c.if-eq.false) c.outward.invariant.others;
    }
