use Rattle.std.proofs.Common.{false, refl, sym, ◌∙◌}
use Rattle.plus_state.specs.ChangesView.{atom_change}
use Rattle.plus_state.proofs.TestsLemmas.{no_member}
use Rattle.plus_state.proofs.PatchLemmas.{next_at}
use Rattle.plus_state.proofs.OpenLemmas.{rising_next, rising_end}
use Rattle.plus_state.proofs.atoms.are_once.Goals as goal

pub each-preserved : goal.each-preserved
each-preserved c =
    let e = next_at atom_change c.args.puts.now c.each.put-index (record { atom = record { 0 = 0 }; truth = false }) c.each-test.true in
    rising_next _ _ _ _ _ (rw e at c.each.invariant) (sym c.is_of.ensures ∙ c.if-is_of.false) refl

pub returns : goal.returns
returns c =
    let h = rw (no_member atom_change c.args.puts.now c.each.put-index c.each-test.false) at c.each.invariant in
    λ t. rising_end _ _ h
