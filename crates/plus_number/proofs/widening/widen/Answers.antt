use Rattle.std.proofs.Common.{rules, arith, SFits, w64, to_z-of_z, ◌∙◌, ◌≤◌, unsigned_abs, subst, sym, ℤ}
use Rattle.plus_number.specs.Parts.{over-small}
use Rattle.plus_number.proofs.widening.widen.Goals as goal

pub unreachable-requires : goal.unreachable-requires
unreachable-requires c =
    let f : SFits w64 c.count.result = search rules in
    let k = to_z-of_z f ∙ c.count.ensures in
    c.in-Err.ensures (over-small _ 1000000 (omega arith) (subst (λ (n : ℤ). unsigned_abs n ≤ 9223372036854775807) (sym k) c.args.t.in_range) (omega arith))
