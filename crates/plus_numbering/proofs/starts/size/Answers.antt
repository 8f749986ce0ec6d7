use Rattle.std.proofs.Common.{◌≡◌, ◌∙◌, ◌+◌, ◌-◌, ◌*◌, ◌^◌, ap, sym, min, length, drop, arith}
use Rattle.plus_types.specs.Faults.{problem_context}
use Rattle.plus_expansion.specs.Objects.{members_of, extents_of, tuples}
use Rattle.plus_numbering.proofs.SizeLemmas.{size-step, held-more}
use Rattle.plus_numbering.proofs.starts.size.Goals as goal

pub params-preserved : goal.params-preserved
params-preserved c =
    let C = problem_context c.args.extents.now.typed.now.domain c.args.extents.now.typed.now.problem in
    let p = c.param-item.result in
    let s = c.params.size in
    let m = c.args.most + 1 in
    let n = length (members_of C p.kind.name) in
    let r = length (tuples (extents_of C (drop (c.params.param-index + 1) c.args.params.now))) in
    let step = size-step C c.args.params.now c.params.param-index p c.params-test.true c.param-item.is in
    let here : length c.of_type.result.now ≡ n = ap length (c.of_type.ensures.members ∙ ap (members_of C) c.bytes.ensures) in
    let e : c.min-size.result ≡ min (min (n * s) (2 ^ 32 - 1)) m =
    c.min-size.ensures ∙ ap (λ z. min z m) (c.saturating_mul.ensures ∙ ap (λ z. min (z * s) (2 ^ 32 - 1)) here) in
    record {
      held = ap (λ z. min (z * r) m) e ∙ held-more n s r (2 ^ 32 - 1) m (omega arith) ∙ ap (λ z. min (s * z) m) (sym step) ∙ c.params.invariant.held;
      low = omega (arith, e);
    }
