use Rattle.std.proofs.Common.{length, refl, ap, sym, subst, ◌∙◌}
use Rattle.std.specs.List.{flat_map}
use Rattle.plus_state.specs.Changes.{AreIn}
use Rattle.plus_state.specs.ChangesView.{fluent_change}
use Rattle.plus_state.specs.View.{labels_of}
use Rattle.plus_report.proofs.PutsLemmas.{stop, worded}
use Rattle.plus_report.proofs.LineLemmas.{next_text, last_text, all_texts}
use Rattle.plus_report.proofs.ListedLemmas.{listed_in}
use Rattle.plus_report.proofs.ChangedLemmas.{value_change, fluents_text-patched}
use Rattle.plus_report.proofs.listed.put_listed_fluents.Goals as goal

pub fluent-old-requires : goal.fluent-old-requires
fluent-old-requires g c =
    listed_in (fluent_change g.Q.Exact.value) _ _ c.deref-change-items.result.now c.each.change-index c.change-item.result refl
    (subst (AreIn (length c.args.before.now.fluents)) (sym c.each.invariant.listed) c.requires.changes.within.fluents_in) c.each-test.true
    c.change-item.is

pub fluent_label-label-requires : goal.fluent_label-label-requires
fluent_label-label-requires g c =
    listed_in (fluent_change g.Q.Exact.value) _ _ c.deref-change-items.result.now c.each.change-index c.change-item.result c.requires.fits
    (subst (AreIn (length c.args.before.now.fluents)) (sym c.each.invariant.listed) c.requires.changes.within.fluents_in) c.each-test.true
    c.change-item.is

pub returns-in_err-put_new_value : goal.returns-in_err-put_new_value
returns-in_err-put_new_value g c =
    let h = c.from_residual.ensures.0 in
    worded
    (last_text (value_change c.args.indent.now c.args.ground.now.fluents.items c.args.before.now) (fluent_change g.Q.Exact.value) c.deref-change-items.result.now c.each.change-index c.change-item.result
    c.each.invariant.so_far (stop c.in_err-put_new_value.ensures h) (cc) c.each-test.true c.change-item.is h)
    (ap (flat_map (value_change c.args.indent.now c.args.ground.now.fluents.items c.args.before.now)) c.each.invariant.listed ∙ fluents_text-patched (labels_of c.args.ground.now) c.args.before.now c.args.changes.now c.requires.changes c.args.indent.now c.requires.fits)

pub each-preserved : goal.each-preserved
each-preserved g c = record {
  listed = c.each.invariant.listed;
  so_far = next_text (value_change c.args.indent.now c.args.ground.now.fluents.items c.args.before.now) (fluent_change g.Q.Exact.value) c.deref-change-items.result.now c.each.change-index c.change-item.result
      c.each.invariant.so_far c.in_ok-put_new_value.ensures (cc) c.each-test.true c.change-item.is;
}

pub returns : goal.returns
returns g c =
    worded (all_texts (value_change c.args.indent.now c.args.ground.now.fluents.items c.args.before.now) (fluent_change g.Q.Exact.value) c.deref-change-items.result.now c.each.change-index c.each.invariant.so_far c.each-test.false)
    (ap (flat_map (value_change c.args.indent.now c.args.ground.now.fluents.items c.args.before.now)) c.each.invariant.listed ∙ fluents_text-patched (labels_of c.args.ground.now) c.args.before.now c.args.changes.now c.requires.changes c.args.indent.now c.requires.fits)
