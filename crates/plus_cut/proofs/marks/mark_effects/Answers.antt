use Rattle.std.proofs.Common.{refl}
use Rattle.plus_never.specs.Adds.{adds, some_adds}
use Rattle.plus_state.specs.View.{effect_of}
use Rattle.plus_cut.proofs.MarkLemmas.{marking_start, marking_next, marking_end}
use Rattle.plus_cut.proofs.marks.mark_effects.Goals as goal

pub effects-init : goal.effects-init
effects-init g c = marking_start _ _

pub effects-preserved : goal.effects-preserved
effects-preserved g c =
    marking_next (effect_of g.Q.Exact.value) (λ a b. adds a b.write) some_adds (λ a b bs. refl) c.args.effects.now _ _ c.effects.effect-index _ c.effect-item.result c.effects-test.true c.effect-item.is
    c.effects.invariant (c.mark_write.ensures)

pub returns : goal.returns
returns g c =
    marking_end (effect_of g.Q.Exact.value) (λ a b. adds a b.write) some_adds (λ a b bs. refl) c.args.effects.now _ _ c.effects.effect-index (λ a. refl) c.effects-test.false c.effects.invariant
