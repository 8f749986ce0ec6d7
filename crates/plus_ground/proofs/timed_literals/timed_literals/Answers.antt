use Rattle.std.proofs.Common.{rules, ◌∙◌, ap}
use Rattle.std.proofs.lemmas.List.Sorted.{answers_always, ranks_by}
use Rattle.plus_fraction.proofs.Compared.{compared_total}
use Rattle.plus_state.specs.View.{timed_of}
use Rattle.plus_expansion.specs.Expansion.{by_time}
use Rattle.plus_ground.proofs.Sorting.{is_earlier, sorted_is}
use Rattle.plus_ground.proofs.timed_literals.timed_literals.Goals as goal

pub returns : goal.returns
returns g c =
    let v = timed_of g.Q.Exact.value in
    let order = ranks_by compared_total (λ l. (v l).time) in
    let answers = answers_always _ _ _ (λ f a r q h. search rules) in
    sorted_is v _ _ (c.in_ok-sort_by.ensures.sorted (is_earlier v) order answers) (c.sort_by.ensures.stable (is_earlier v) order answers)
    ∙ ap by_time c.in_ok-literals.ensures
