use Rattle.std.proofs.Common.{rules, true, false, refl, subst, ◌∙◌, ◌++◌, ap, map}
use Rattle.std.proofs.lemmas.List.Sorted.{answers_always, length_permutation}
use Rattle.plus_state.specs.Stops.{due_of}
use Rattle.plus_state.specs.ChangesView.{atom_change, atom_changes}
use Rattle.plus_state.specs.Writes.{Sorts, puts_as}
use Rattle.plus_state.proofs.SortLemmas.{sorts_by}
use Rattle.plus_state.proofs.atoms.sorted_puts.Goals as goal

pub returns : goal.returns
returns g c =
    let ds = map (due_of g.Q.Exact.value) c.args.due.now in
    subst (λ l. Sorts l (atom_changes c.sort_by_key.new.self.items)) (c.in_ok-note_all-2.ensures ∙ ap (λ l. l ++ puts_as true ds) (c.in_ok-note_all.ensures ∙ ap (λ l. atom_changes l ++ puts_as false ds) c.new-all.ensures.items))
    (sorts_by atom_change (λ x k. record { atom = record { 0 = k }; truth = x.truth }) (λ x k. refl) c.note_all-2.new.into.items _
    (c.in_ok-sort_by_key.ensures.sorted (λ w. w.atom.0) (answers_always _ _ _ (λ f a r q h. search rules)))
    (c.sort_by_key.ensures.stable (λ w. w.atom.0) (answers_always _ _ _ (λ f a r q h. search rules)))
    (length_permutation _ _ c.sort_by_key.ensures.permutation))
