use Rattle.std.proofs.Common.{◌≡◌, ◌∙◌, ap, sym, rules, refl, map}
use Rattle.plus_tree.specs.Effect.{effect_size, effects_size, effects_of}
use Rattle.plus_types.specs.Faults.{problem_context}
use Rattle.plus_ground.proofs.EffectsLemmas.{member_fits, member_smaller}
use Rattle.plus_ground.proofs.RatesLemmas.{all_added}
use Rattle.plus_state.specs.View.{rate_of}
use Rattle.plus_ground.specs.Nothing.{writes_nothing}
use Rattle.plus_ground.proofs.NothingLemmas.{forall_no_rate}
use Rattle.plus_ground.proofs.rates.+rates.Goals as goal

pub rates-requires : goal.rates-requires
rates-requires g t c κs within =
    let h = rw (← c.effect.view_is, c.in-All.is, ← c.deref-member-items.ensures.value) at c.requires in
    let size : effect_size c.args.effect.now ≡ effects_size (effects_of c.deref-member-items.result.now) = rw (← c.effect.view_is, c.in-All.is, ← c.deref-member-items.ensures.value) refl in
    let smaller = member_smaller c.deref-member-items.result.now c.members.member-index c.member-item.result c.members-test.true c.member-item.is in
    (search rules, (within, member_fits g.Q.Exact.fits c.deref-member-items.result.now c.members.member-index c.member-item.result c.members-test.true c.member-item.is h))

pub rate-requires : goal.rate-requires
rate-requires g t c =
    let h = rw (← c.effect.view_is, c.in-Leaf.is) at c.requires in
    rw c.deref-in-Leaf.ensures h

pub returns-after-members : goal.returns-after-members
returns-after-members g t c =
    all_added (problem_context c.args.numbering.now.typed.now.domain c.args.numbering.now.typed.now.problem) c.args.env.now c.args.effect.now c.deref-member-items.result.now c.effect.inside.span
    c.members.member-index _ _ (rw (← c.effect.view_is, c.in-All.is, ← c.deref-member-items.ensures.value) refl) c.members-test.false c.members.invariant

pub returns-then-writes_nothing : goal.returns-then-writes_nothing
returns-then-writes_nothing g t c =
    forall_no_rate (problem_context c.args.numbering.now.typed.now.domain c.args.numbering.now.typed.now.problem) c.args.env.now c.args.effect.now c.in-ForAll.vars c.in-ForAll.body.value
    c.effect.inside.span (map (rate_of g.Q.Exact.value) c.args.into.now.items) (rw (← c.effect.view_is, c.in-ForAll.is) refl) (ap writes_nothing (sym c.deref.ensures) ∙ sym c.writes_nothing.ensures ∙ c.if-writes_nothing.true)
