use Rattle.std.proofs.Common.{rules, refl, sym, subst, ◌∙◌}
use Rattle.std.proofs.lemmas.List.{append-nil}
use Rattle.std.proofs.lemmas.List.Sorted.{answers_always, length_permutation}
use Rattle.plus_state.specs.Stops.{due_of}
use Rattle.plus_state.proofs.TestsLemmas.{no_member}
use Rattle.plus_state.specs.Writes.{Sorts}
use Rattle.plus_state.specs.WritesView.{written, write_list}
use Rattle.plus_state.proofs.SortLemmas.{sorts_by}
use Rattle.plus_state.proofs.writes.sorted_writes.Goals as goal

pub returns : goal.returns
returns g c =
    let v = g.Q.Exact.value in
    let done = rw (no_member (due_of v) c.args.due.now c.each.write-index c.each-test.false) at c.each.invariant in
    let s = c.in_ok-sort_by_key.ensures in
    subst (λ l. Sorts l (write_list v c.sort_by_key.new.self.items)) (sym (append-nil _) ∙ done)
    (sorts_by (written v) (λ x k. record { fluent = record { 0 = k }; update = x.update }) (λ x k. refl) c.each.all.items _
    (s.sorted (λ w. w.fluent.0) (answers_always _ _ _ (λ f a r q h. search rules)))
    (c.sort_by_key.ensures.stable (λ w. w.fluent.0) (answers_always _ _ _ (λ f a r q h. search rules)))
    (length_permutation _ _ c.sort_by_key.ensures.permutation))
