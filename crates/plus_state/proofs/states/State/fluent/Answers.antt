use Rattle.std.proofs.Common.{arith, length, refl, ap, sym, ◌∙◌}
use Rattle.std.specs.Prelude.{option_map, slice_get, Some}
use Rattle.std.proofs.lemmas.Option.{slice_get_read, slice_get_past}
use Rattle.plus_state.proofs.MotionLemmas.{length-fluents, moving_value, still_value, past_value}
use Rattle.plus_state.proofs.states.State.fluent.Goals as goal

pub index-requires : goal.index-requires
index-requires g c = omega (arith, c.requires, length-fluents (option_map g.Q.Exact.value) c.self.inside.values.items c.self.inside.motions.items c.self.inside.truths c.args.self.now c.self.view_is)

pub index-requires-in-None : goal.index-requires-in-None
index-requires-in-None g c = omega (arith, c.requires, length-fluents (option_map g.Q.Exact.value) c.self.inside.values.items c.self.inside.motions.items c.self.inside.truths c.args.self.now c.self.view_is)

pub returns-in-Some-Some : goal.returns-in-Some-Some
returns-in-Some-Some g c =
    let h = c.in-Some-Some.ensures.lookup in
    let found = slice_get_read c.deref.result.now (length c.deref.result.now) c.args.fluent.0 c.in-Some-Some.field-0.now refl h.3.0 h.1 ∙ ap Some c.in-Some-Some.field-0-is in
    ap Some c.value.ensures
    ∙ sym (moving_value (option_map g.Q.Exact.value) c.self.inside.values.items c.self.inside.motions.items c.self.inside.truths c.args.self.now c.self.view_is c.args.fluent.0 c.in-Some-Some.motion c.requires
    (ap (λ l. slice_get l c.args.fluent.0) (sym c.deref.ensures.value) ∙ found))

pub returns-in-Some-None : goal.returns-in-Some-None
returns-in-Some-None g c =
    let h = c.in-Some-None.ensures.lookup in
    let found = slice_get_read c.deref.result.now (length c.deref.result.now) c.args.fluent.0 c.in-Some-None.field-0.now refl h.3.0 h.1 ∙ ap Some c.in-Some-None.field-0-is in
    sym (still_value (option_map g.Q.Exact.value) c.self.inside.values.items c.self.inside.motions.items c.self.inside.truths c.args.self.now c.self.view_is c.args.fluent.0 c.index.result.now c.requires
    (sym c.index.ensures) (ap (λ l. slice_get l c.args.fluent.0) (sym c.deref.ensures.value) ∙ found))

pub returns-in-None : goal.returns-in-None
returns-in-None g c =
    let h = c.in-None.ensures.lookup in
    sym (past_value (option_map g.Q.Exact.value) c.self.inside.values.items c.self.inside.motions.items c.self.inside.truths c.args.self.now c.self.view_is c.args.fluent.0 c.index-in-None.result.now c.requires
    (sym c.index-in-None.ensures) (ap (λ l. slice_get l c.args.fluent.0) (sym c.deref.ensures.value) ∙ slice_get_past c.deref.result.now c.args.fluent.0 h.3))
