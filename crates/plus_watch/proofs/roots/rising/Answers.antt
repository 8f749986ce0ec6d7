use Rattle.std.proofs.Common.{rules, ◌≡◌, ◌∙◌, map, ap}
use Rattle.std.specs.Prelude.{None}
use Rattle.std.proofs.lemmas.List.Sorted.{answers_always, ranks_by}
use Rattle.std.specs.Ordering.{is_lt}
use Rattle.plus_fraction.specs.Fraction.{compared}
use Rattle.plus_fraction.proofs.Compared.{compared_total}
use Rattle.plus_stretch.specs.Crossings.{rising_below}
use Rattle.plus_stretch.specs.Thinned.{thinned}
use Rattle.plus_stretch.proofs.Thinned.{rising_is}
use Rattle.plus_stretch.proofs.Marks.{ok_as}
use Rattle.plus_watch.proofs.roots.rising.Goals as goal

pub returns : goal.returns
returns g c =
    let v = g.Q.Exact.value in
    let s = c.sort_unstable_by.ensures in
    let bound = v c.args.bound in
    ok_as c.thin.result (λ _. map v c.thin.new.roots.items ≡ thinned bound None (map v c.deref.result.now)) (λ _. map v c.thin.new.roots.items ≡ rising_below bound (map v c.args.roots.now.items))
    (λ _ h. h ∙ ap (λ ys. thinned bound None (map v ys)) c.deref.ensures.value ∙ rising_is v bound c.args.roots.now.items _ s.permutation
    (s.sorted (λ a b. is_lt (compared (v a) (v b))) (ranks_by compared_total v) (answers_always _ _ _ (λ f a r q h. search rules)))) c.thin.ensures
