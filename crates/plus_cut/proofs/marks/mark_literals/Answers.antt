use Rattle.std.proofs.Common.{refl, ◌&&◌, nat_eq}
use Rattle.plus_never.specs.Adds.{literal_sets}
use Rattle.plus_state.specs.View.{timed_of}
use Rattle.plus_cut.proofs.MarkLemmas.{marking_start, marking_next, marking_end}
use Rattle.plus_cut.proofs.marks.mark_literals.Goals as goal

pub literals-init : goal.literals-init
literals-init g c = marking_start _ _

pub literals-preserved : goal.literals-preserved
literals-preserved g c =
    marking_next (timed_of g.Q.Exact.value) (λ a b. b.positive && nat_eq a b.atom) literal_sets (λ a b bs. refl) c.args.literals.now _ _ c.literals.literal-index _ c.literal-item.result c.literals-test.true c.literal-item.is
    c.literals.invariant (c.mark_literal.ensures)

pub returns : goal.returns
returns g c =
    marking_end (timed_of g.Q.Exact.value) (λ a b. b.positive && nat_eq a b.atom) literal_sets (λ a b bs. refl) c.args.literals.now _ _ c.literals.literal-index (λ a. refl) c.literals-test.false c.literals.invariant
