use Rattle.std.proofs.Common.{◌≡◌, ◌∙◌, ap, sym, rules, refl, map}
use Rattle.std.specs.List.{flat_map}
use Rattle.plus_tree.specs.Effect.{effect_size, effects_size, effects_of}
use Rattle.plus_types.specs.Faults.{problem_context}
use Rattle.plus_literal.specs.Value.{LiteralFits}
use Rattle.plus_expansion.specs.Environments.{environments}
use Rattle.plus_expansion.specs.Literals.{write_literals, condition_literals}
use Rattle.plus_ground.proofs.ExpressionsLemmas.{all_left, all_right}
use Rattle.plus_ground.proofs.EffectsLemmas.{member_fits, member_smaller, all_added, forall_added}
use Rattle.plus_state.specs.View.{effect_of}
use Rattle.plus_ground.specs.Nothing.{writes_nothing}
use Rattle.plus_ground.proofs.NothingLemmas.{forall_nothing}
use Rattle.plus_ground.proofs.effects.+effects.Goals as goal

pub effects-requires : goal.effects-requires
effects-requires g t c κs within =
    let h = rw (← c.effect.view_is, c.in-All.is, ← c.deref-member-items.ensures.value) at c.requires in
    let size : effect_size c.args.effect.now ≡ effects_size (effects_of c.deref-member-items.result.now) = rw (← c.effect.view_is, c.in-All.is, ← c.deref-member-items.ensures.value) refl in
    let smaller = member_smaller c.deref-member-items.result.now c.members.member-index c.member-item.result c.members-test.true c.member-item.is in
    (search rules, (within, member_fits g.Q.Exact.fits c.deref-member-items.result.now c.members.member-index c.member-item.result c.members-test.true c.member-item.is h))

pub guarded-requires-clause-guard : goal.guarded-requires-clause-guard
guarded-requires-clause-guard g t c =
    let h = rw (← c.effect.view_is, c.in-When.is) at c.requires in
    rw c.deref-in-When.ensures (all_left (LiteralFits g.Q.Exact.fits) (condition_literals c.in-When.guard.value) (flat_map (λ l. write_literals l.node) c.in-When.leaves) h)

pub guarded-requires-clause-leaves : goal.guarded-requires-clause-leaves
guarded-requires-clause-leaves g t c =
    let h = rw (← c.effect.view_is, c.in-When.is) at c.requires in
    rw c.as_slice-in-When.ensures (all_right (LiteralFits g.Q.Exact.fits) (condition_literals c.in-When.guard.value) (flat_map (λ l. write_literals l.node) c.in-When.leaves) h)

pub write-requires : goal.write-requires
write-requires g t c =
    let h = rw (← c.effect.view_is, c.in-Leaf.is) at c.requires in
    rw c.deref-in-Leaf.ensures h

pub returns-after-members : goal.returns-after-members
returns-after-members g t c =
    all_added (problem_context c.args.numbering.now.typed.now.domain c.args.numbering.now.typed.now.problem) c.args.env.now c.args.effect.now c.deref-member-items.result.now c.effect.inside.span
    c.members.member-index _ _ (rw (← c.effect.view_is, c.in-All.is, ← c.deref-member-items.ensures.value) refl) c.members-test.false c.members.invariant

pub returns-then-writes_nothing : goal.returns-then-writes_nothing
returns-then-writes_nothing g t c =
    forall_nothing (problem_context c.args.numbering.now.typed.now.domain c.args.numbering.now.typed.now.problem) c.args.env.now c.args.effect.now c.in-ForAll.vars c.in-ForAll.body.value
    c.effect.inside.span (map (effect_of g.Q.Exact.value) c.args.into.now.items) (rw (← c.effect.view_is, c.in-ForAll.is) refl) (ap writes_nothing (sym c.deref.ensures) ∙ sym c.writes_nothing.ensures ∙ c.if-writes_nothing.true)

pub returns-after-choices : goal.returns-after-choices
returns-after-choices g t c =
    let k = problem_context c.args.numbering.now.typed.now.domain c.args.numbering.now.typed.now.problem in
    let es : c.deref-inner-items.result.now ≡ environments k c.in-ForAll.vars c.args.env.now =
    c.deref-inner-items.ensures.value ∙ rw c.as_slice.ensures at c.in_ok-environments-in-ForAll.ensures in
    forall_added k c.args.env.now c.args.effect.now c.in-ForAll.vars c.in-ForAll.body.value c.effect.inside.span c.deref-inner-items.result.now c.choices.inner-index _ _
    (rw (← c.effect.view_is, c.in-ForAll.is) refl) c.choices-test.false es c.choices.invariant
