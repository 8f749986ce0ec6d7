use Rattle.std.proofs.Common.{codes, length, get_or, refl, ap, sym, subst, ◌∙◌}
use Rattle.std.specs.List.{flat_map}
use Rattle.std.proofs.lemmas.List.{get_or_default}
use Rattle.plus_state.specs.Changes.{AreIn}
use Rattle.plus_state.specs.ChangesView.{atom_change}
use Rattle.plus_state.specs.View.{labels_of}
use Rattle.plus_report.proofs.PutsLemmas.{stop, worded}
use Rattle.plus_report.proofs.LineLemmas.{next_text, last_text, all_texts}
use Rattle.plus_report.proofs.ListedLemmas.{listed_in}
use Rattle.plus_report.proofs.ChangedLemmas.{no_change, gained_change, gained_text-patched}
use Rattle.plus_report.proofs.listed.put_listed_gained.Goals as goal

pub atom-was-requires : goal.atom-was-requires
atom-was-requires g c =
    listed_in atom_change _ _ c.deref-change-items.result.now c.each.change-index (get_or c.deref-change-items.result.now c.each.change-index no_change) refl
    (subst (AreIn (length c.args.before.now.atoms)) (sym c.each.invariant.listed) c.requires.changes.within.atoms_in) c.each-test.true
    (get_or_default c.deref-change-items.result.now c.each.change-index _ _ c.each-test.true)

pub atom_label-label-requires : goal.atom_label-label-requires
atom_label-label-requires g c =
    listed_in atom_change _ _ c.deref-change-items.result.now c.each.change-index (get_or c.deref-change-items.result.now c.each.change-index no_change) c.requires.fits
    (subst (AreIn (length c.args.before.now.atoms)) (sym c.each.invariant.listed) c.requires.changes.within.atoms_in) c.each-test.true
    (get_or_default c.deref-change-items.result.now c.each.change-index _ _ c.each-test.true)

pub returns-in_err-put_mark : goal.returns-in_err-put_mark
returns-in_err-put_mark g c =
    let h = c.from_residual.ensures.0 in
    worded
    (last_text (gained_change (codes "    + ") c.args.ground.now.atoms.items c.args.before.now) atom_change c.deref-change-items.result.now c.each.change-index (get_or c.deref-change-items.result.now c.each.change-index no_change)
    c.each.invariant.so_far (stop c.in_err-put_mark.ensures h) (cc) c.each-test.true (get_or_default c.deref-change-items.result.now c.each.change-index _ _ c.each-test.true) h)
    (ap (flat_map (gained_change (codes "    + ") c.args.ground.now.atoms.items c.args.before.now)) c.each.invariant.listed ∙ gained_text-patched (labels_of c.args.ground.now) c.args.before.now c.args.changes.now c.requires.changes (codes "    + ") c.requires.fits)

pub each-preserved : goal.each-preserved
each-preserved g c = record {
  listed = c.each.invariant.listed;
  so_far = next_text (gained_change (codes "    + ") c.args.ground.now.atoms.items c.args.before.now) atom_change c.deref-change-items.result.now c.each.change-index (get_or c.deref-change-items.result.now c.each.change-index no_change)
      c.each.invariant.so_far c.in_ok-put_mark.ensures (cc) c.each-test.true (get_or_default c.deref-change-items.result.now c.each.change-index _ _ c.each-test.true);
}

pub returns : goal.returns
returns g c =
    worded (all_texts (gained_change (codes "    + ") c.args.ground.now.atoms.items c.args.before.now) atom_change c.deref-change-items.result.now c.each.change-index c.each.invariant.so_far c.each-test.false)
    (ap (flat_map (gained_change (codes "    + ") c.args.ground.now.atoms.items c.args.before.now)) c.each.invariant.listed ∙ gained_text-patched (labels_of c.args.ground.now) c.args.before.now c.args.changes.now c.requires.changes (codes "    + ") c.requires.fits)
