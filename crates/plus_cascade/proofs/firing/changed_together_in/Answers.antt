use Rattle.std.proofs.Common.{List, ap, arith, length, map, sym, subst, ◌∙◌}
use Rattle.plus_model.specs.Terms.{Effect}
use Rattle.plus_model.specs.Firing.{effects_of}
use Rattle.plus_state.specs.View.{problem_of, effect_of}
use Rattle.plus_state.specs.Applies.{LeavesJointly}
use Rattle.plus_cascade.proofs.FiringLemmas.{all_fit, event_fits, effects_here, one_number, one_inside, effects_of_one}
use Rattle.plus_cascade.proofs.firing.changed_together_in.Goals as goal

pub joint_changes_in-requires : goal.joint_changes_in-requires
joint_changes_in-requires g c =
    let h = one_inside (length c.args.ground.now.events.items) c.args.events.now (record { 0 = 0 }) (omega (arith, c.in-len1.len_at_least, c.in-len1.len_below)) c.requires.events in
    rw c.deref.ensures.value (event_fits g.Q.Exact.value _ _ c.args.ground.now.events.items _ c.index-event.result.now h c.index-event.ensures (all_fit _ _ _ _ c.requires.state c.args.ground.now.fits.events)).effects

pub returns-in-len1-clause-told : goal.returns-in-len1-clause-told
returns-in-len1-clause-told g c =
    let one = one_number c.args.events.now (record { 0 = 0 }) (omega (arith, c.in-len1.len_at_least, c.in-len1.len_below)) in
    let h = one_inside (length c.args.ground.now.events.items) c.args.events.now (record { 0 = 0 }) (omega (arith, c.in-len1.len_at_least, c.in-len1.len_below)) c.requires.events in
    let k = effects_here g.Q.Exact.value c.args.ground.now.events.items _ c.index-event.result.now h c.index-event.ensures in
    let e = effects_of_one (problem_of g.Q.Exact.value c.args.ground.now) _ _ (k ∙ ap (map (effect_of g.Q.Exact.value)) (sym c.deref.ensures.value)) in
    subst (λ (es : List Effect). LeavesJointly g.Q.Exact.value g.Q.Exact.fits es c.args.state.now c.joint_changes_in.new.changes c.joint_changes_in.result)
    (sym (ap (effects_of (problem_of g.Q.Exact.value c.args.ground.now)) one ∙ e)) c.joint_changes_in.ensures.does
