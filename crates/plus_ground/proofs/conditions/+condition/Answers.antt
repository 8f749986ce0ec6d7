use Rattle.std.proofs.Common.{◌≡◌, ◌+◌, ◌∙◌, All, ap, sym, rules, refl, inl, inr}
use Rattle.plus_model.specs.Terms.{Atom}
use Rattle.plus_state.specs.View.{condition_of}
use Rattle.plus_tree.specs.Cond.{cond_size, conds_size, conds_of}
use Rattle.plus_types.specs.Faults.{problem_context}
use Rattle.plus_literal.specs.Value.{LiteralFits}
use Rattle.plus_expansion.specs.Environments.{environments, atom_number}
use Rattle.plus_expansion.specs.Expansion.{condition_meant}
use Rattle.plus_expansion.specs.Literals.{expression_literals, condition_literals, conditions_literals}
use Rattle.plus_ground.proofs.ExpressionsLemmas.{all_left, all_right}
use Rattle.plus_ground.proofs.ConditionsLemmas.{mapped_more, member_fits, member_smaller, all_returned, any_returned, forall_returned, exists_returned}
use Rattle.plus_ground.proofs.conditions.+condition.Goals as goal

pub condition-requires : goal.condition-requires
condition-requires g t c κs within =
    let h = rw (← c.cond.view_is, c.in-Imply.is) at c.requires in
    (search rules, (within, rw c.deref.ensures (all_left (LiteralFits g.Q.Exact.fits) (condition_literals c.in-Imply.premise.value) (condition_literals c.in-Imply.conclusion.value) h)))

pub condition-requires-in-Imply : goal.condition-requires-in-Imply
condition-requires-in-Imply g t c κs within =
    let h = rw (← c.cond.view_is, c.in-Imply.is) at c.requires in
    (search rules, (within, rw c.deref-in-Imply.ensures (all_right (LiteralFits g.Q.Exact.fits) (condition_literals c.in-Imply.premise.value) (condition_literals c.in-Imply.conclusion.value) h)))

pub condition-requires-in-Not : goal.condition-requires-in-Not
condition-requires-in-Not g t c κs within =
    let h = rw (← c.cond.view_is, c.in-Not.is) at c.requires in
    (search rules, (within, rw c.deref-in-Not.ensures h))

pub compare-requires-clause-left : goal.compare-requires-clause-left
compare-requires-clause-left g t c =
    let h = rw (← c.cond.view_is, c.in-Compare.is) at c.requires in
    rw c.deref-in-Compare.ensures (all_left (LiteralFits g.Q.Exact.fits) (expression_literals c.in-Compare.left.value) (expression_literals c.in-Compare.right.value) h)

pub compare-requires-clause-right : goal.compare-requires-clause-right
compare-requires-clause-right g t c =
    let h = rw (← c.cond.view_is, c.in-Compare.is) at c.requires in
    rw c.deref-in-Compare-2.ensures (all_right (LiteralFits g.Q.Exact.fits) (expression_literals c.in-Compare.left.value) (expression_literals c.in-Compare.right.value) h)

pub condition-requires-in-choices : goal.condition-requires-in-choices
condition-requires-in-choices g t c κs within =
    let h : All (LiteralFits g.Q.Exact.fits) (condition_literals c.in-ForAll.body.value) = elim c.in-ForAll.is [
      | inl e ↦ rw (← c.cond.view_is, e) at c.requires
      | inr e ↦ rw (← c.cond.view_is, e) at c.requires
    ] in
    let size : cond_size c.args.cond.now ≡ cond_size c.in-ForAll.body.value + 1 = elim c.in-ForAll.is [
      | inl e ↦ rw (← c.cond.view_is, e) refl
      | inr e ↦ rw (← c.cond.view_is, e) refl
    ] in
    (search rules, (within, rw c.deref-in-choices.ensures h))

pub condition-requires-in-members : goal.condition-requires-in-members
condition-requires-in-members g t c κs within =
    let h : All (LiteralFits g.Q.Exact.fits) (conditions_literals (conds_of c.deref-member-items.result.now)) = elim c.in-All.is [
      | inl e ↦ rw (← c.cond.view_is, e, ← c.deref-member-items.ensures.value) at c.requires
      | inr e ↦ rw (← c.cond.view_is, e, ← c.deref-member-items.ensures.value) at c.requires
    ] in
    let size : cond_size c.args.cond.now ≡ conds_size (conds_of c.deref-member-items.result.now) = elim c.in-All.is [
      | inl e ↦ rw (← c.cond.view_is, e, ← c.deref-member-items.ensures.value) refl
      | inr e ↦ rw (← c.cond.view_is, e, ← c.deref-member-items.ensures.value) refl
    ] in
    let smaller = member_smaller c.deref-member-items.result.now c.members.member-index c.member-item.result c.members-test.true c.member-item.is in
    (search rules, (within, member_fits g.Q.Exact.fits c.deref-member-items.result.now c.members.member-index c.member-item.result c.members-test.true c.member-item.is h))

pub choices-preserved : goal.choices-preserved
choices-preserved g t c =
    let k = problem_context c.args.numbering.now.typed.now.domain c.args.numbering.now.typed.now.problem in
    mapped_more (condition_of g.Q.Exact.value) (λ e. condition_meant k e c.args.positive c.in-ForAll.body.value) c.choices.forms.items c.push-in-choices.new.self.items c.in_ok-condition-in-ForAll.field-0
    c.deref-inner-items.result.now c.choices.inner-index c.inner-item.result c.choices-test.true c.inner-item.is c.choices.invariant c.in_ok-push-in-ForAll.ensures.items
    (c.in_ok-condition-in-ForAll.ensures ∙ ap (λ f. condition_meant k c.inner-item.result c.args.positive f) c.deref-in-choices.ensures)

pub returns-after-members : goal.returns-after-members
returns-after-members g t c =
    let k = problem_context c.args.numbering.now.typed.now.domain c.args.numbering.now.typed.now.problem in
    elim c.in-All.is [
      | inl e ↦ all_returned k c.args.env.now c.args.positive c.args.cond.now c.signed-all.result c.asks_all.result c.deref-member-items.result.now c.cond.inside.span c.members.member-index _ _
          (rw (← c.cond.view_is, e, ← c.deref-member-items.ensures.value) refl) c.signed-all.ensures c.asks_all.ensures c.members-test.false c.members.invariant c.joined-in-All.ensures
      | inr e ↦ any_returned k c.args.env.now c.args.positive c.args.cond.now c.signed-all.result c.asks_all.result c.deref-member-items.result.now c.cond.inside.span c.members.member-index _ _
          (rw (← c.cond.view_is, e, ← c.deref-member-items.ensures.value) refl) c.signed-all.ensures c.asks_all.ensures c.members-test.false c.members.invariant c.joined-in-All.ensures
    ]

pub returns-after-choices : goal.returns-after-choices
returns-after-choices g t c =
    let k = problem_context c.args.numbering.now.typed.now.domain c.args.numbering.now.typed.now.problem in
    let es : c.deref-inner-items.result.now ≡ environments k c.in-ForAll.vars c.args.env.now =
    c.deref-inner-items.ensures.value ∙ rw c.as_slice.ensures at c.in_ok-environments-in-ForAll.ensures in
    elim c.in-ForAll.is [
      | inl e ↦ forall_returned k c.args.env.now c.args.positive c.args.cond.now c.signed-all.result c.asks_all.result c.in-ForAll.vars c.in-ForAll.body.value c.cond.inside.span
          c.deref-inner-items.result.now c.choices.inner-index _ _
          (rw (← c.cond.view_is, e) refl) c.signed-all.ensures c.asks_all.ensures c.choices-test.false es c.choices.invariant c.joined-in-ForAll.ensures
      | inr e ↦ exists_returned k c.args.env.now c.args.positive c.args.cond.now c.signed-all.result c.asks_all.result c.in-ForAll.vars c.in-ForAll.body.value c.cond.inside.span
          c.deref-inner-items.result.now c.choices.inner-index _ _
          (rw (← c.cond.view_is, e) refl) c.signed-all.ensures c.asks_all.ensures c.choices-test.false es c.choices.invariant c.joined-in-ForAll.ensures
    ]

pub returns-in_ok-atom-in-Atom : goal.returns-in_ok-atom-in-Atom
returns-in_ok-atom-in-Atom g t c =
    let k = problem_context c.args.numbering.now.typed.now.domain c.args.numbering.now.typed.now.problem in
    let meant : condition_meant k c.args.env.now c.args.positive c.args.cond.now ≡ Atom (atom_number k c.args.env.now c.in-Atom.used.value) c.args.positive = rw (← c.cond.view_is, c.in-Atom.is) refl in
    ap (λ u. Atom u c.args.positive) (c.in_ok-atom-in-Atom.ensures ∙ ap (λ u. atom_number k c.args.env.now u) c.deref-in-Atom.ensures) ∙ sym meant
