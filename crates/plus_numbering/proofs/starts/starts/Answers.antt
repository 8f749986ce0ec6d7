use Rattle.std.proofs.Common.{◌≡◌, ◌∙◌, ◌+◌, ap, refl, min, length, drop, arith}
use Rattle.plus_types.specs.Faults.{problem_context}
use Rattle.plus_types.proofs.TypesLemmas.{drop-past}
use Rattle.plus_expansion.specs.Objects.{extents_of, tuples}
use Rattle.plus_expansion.specs.Numbers.{ground_names}
use Rattle.plus_numbering.proofs.SizeLemmas.{count, length-ground, heads-step}
use Rattle.plus_numbering.proofs.starts.starts.Goals as goal

pub returns-then-start-most : goal.returns-then-start-most
returns-then-start-most c =
    let C = problem_context c.args.extents.now.typed.now.domain c.args.extents.now.typed.now.problem in
    let h = c.head-item.result in
    let rest = drop (c.heads.head-index + 1) c.args.heads.now in
    let t = length (tuples (extents_of C h.params)) in
    let here : c.size-start.result ≡ min t (c.args.most + 1) =
    c.size-start.ensures ∙ ap (λ ps. min (length (tuples (extents_of C ps))) (c.args.most + 1)) c.as_slice.ensures in
    let step : count C (drop c.heads.head-index c.args.heads.now) ≡ t + count C rest = ap (count C) (heads-step c.args.heads.now c.heads.head-index h c.heads-test.true c.head-item.is) in
    let all : length (ground_names C c.args.heads.now) ≡ count C c.args.heads.now = length-ground C 0 c.args.heads.now in
    let inv = c.heads.invariant.rest in
    let over = c.if-start-most.true in
    (refl, refl, omega arith)

pub returns : goal.returns
returns c =
    let C = problem_context c.args.extents.now.typed.now.domain c.args.extents.now.typed.now.problem in
    let none = drop-past c.args.heads.now c.heads.head-index c.heads-test.false in
    let table = rw none at c.heads.invariant.table in
    let rest = rw none at c.heads.invariant.rest in
    let all : length (ground_names C c.args.heads.now) ≡ count C c.args.heads.now = length-ground C 0 c.args.heads.now in
    let low = c.heads.invariant.low in
    (c.in_ok-push-2.ensures.items ∙ table, omega arith)
