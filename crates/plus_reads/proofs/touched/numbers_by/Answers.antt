use Rattle.std.proofs.Common.{[], refl, subst, sym}
use Rattle.plus_state.specs.declared.term.FluentId.{FluentId}
use Rattle.plus_reads.proofs.Waking.{Gathers, gathers_none, gathers_at, gathers_all, reads_any}
use Rattle.plus_reads.proofs.touched.numbers_by.Goals as goal

pub fluents-init : goal.fluents-init
fluents-init c = subst (Gathers c.args.readers.now.fluents [] []) (sym c.clear.ensures.items) (gathers_none _ _)

pub fluents-preserved : goal.fluents-preserved
fluents-preserved c =
    gathers_at (λ (f : FluentId). f.0) _ c.args.fluents.now c.fluents.fluent-index (record { 0 = 0 }) _ _ _ c.fluents-test.true c.fluents.invariant
    c.in_ok-append_readers.ensures

pub returns : goal.returns
returns c =
    let g = gathers_all _ c.args.readers.now.fluents _ _ _ _ _ c.fluents-test.false refl c.fluents.invariant in
    reads_any c.args.readers.now _ _ _ g (λ k. (c.in_ok-sort_once.ensures.same k).1) (λ k. (c.in_ok-sort_once.ensures.same k).0) c.in_ok-sort_once.ensures.rises
