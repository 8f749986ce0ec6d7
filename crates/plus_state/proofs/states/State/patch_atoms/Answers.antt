use Rattle.std.proofs.Common.{false, ap, refl, ◌∙◌}
use Rattle.plus_state.proofs.TestsLemmas.{no_member}
use Rattle.plus_state.specs.ChangesView.{atom_change}
use Rattle.plus_model.specs.Terms.{State}
use Rattle.plus_state.proofs.PatchLemmas.{next_at, patching_start, patching_inside, patching_next, patching_end, only_atoms}
use Rattle.plus_state.proofs.states.State.patch_atoms.Goals as goal

pub each-init : goal.each-init
each-init g c = record { rest = refl; patching = patching_start _ _ c.requires }

pub put-requires : goal.put-requires
put-requires g c =
    let e = next_at atom_change c.args.changes.now c.each.change-index (record { atom = record { 0 = 0 }; truth = false }) c.each-test.true in
    patching_inside _ _ _ _ _ (rw e at c.each.invariant.patching)

pub each-preserved : goal.each-preserved
each-preserved g c =
    let e = next_at atom_change c.args.changes.now c.each.change-index (record { atom = record { 0 = 0 }; truth = false }) c.each-test.true in
    record {
      rest = only_atoms c.put.new.self c.each.self c.args.self.now _ c.put.ensures c.each.invariant.rest;
      patching = patching_next _ _ _ _ _ _ (rw e at c.each.invariant.patching) (ap (λ (s : State). s.atoms) c.put.ensures);
    }

pub returns : goal.returns
returns g c =
    let p = patching_end _ _ _ (rw (no_member atom_change c.args.changes.now c.each.change-index c.each-test.false) at c.each.invariant.patching) in
    c.each.invariant.rest ∙ ap (λ xs. record c.args.self.now { atoms = xs }) p
