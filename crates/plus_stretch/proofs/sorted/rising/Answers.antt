use Rattle.std.proofs.Common.{rules, map, subst}
use Rattle.std.proofs.lemmas.List.Sorted.{answers_always, ranks_by, IsPermutation-sym, IsPermutation-map}
use Rattle.std.specs.Ordering.{is_lt}
use Rattle.plus_fraction.specs.Fraction.{compared}
use Rattle.plus_fraction.proofs.Compared.{compared_total}
use Rattle.plus_stretch.specs.declared.mark.Mark.{Mark}
use Rattle.std.specs.Prelude.{◌≡◌, None}
use Rattle.plus_stretch.specs.Crossings.{rising_below}
use Rattle.plus_stretch.specs.Thinned.{thinned}
use Rattle.plus_stretch.specs.Marked.{mark_of, marks_of, roots_of, AreAscending}
use Rattle.plus_stretch.proofs.Thinned.{all_ascend}
use Rattle.plus_stretch.proofs.Marks.{ok_as, roots_at, permuted_marks, rising_marks}
use Rattle.plus_stretch.proofs.sorted.rising.Goals as goal

pub returns-clause-different : goal.returns-clause-different
returns-clause-different g c =
    let v = g.Q.Exact.value in
    let s = c.sort_unstable_by.ensures in
    ok_as c.thin.result (λ _. map v c.thin.new.roots.items ≡ thinned (v c.args.bound) None (map (λ (m : Mark _). v m.at) c.deref.result.now)) (λ _. map v c.thin.new.roots.items ≡ rising_below (v c.args.bound) (roots_of (marks_of v c.args.marks.now.items)))
    (λ _ h. rising_marks v (v c.args.bound) c.args.marks.now.items _ _ (map v c.thin.new.roots.items) c.deref.ensures.value s.permutation
    (s.sorted (λ a b. is_lt (compared (v a.at) (v b.at))) (ranks_by compared_total (λ (m : Mark _). v m.at)) (answers_always _ _ _ (λ f a r q h. search rules))) h) c.thin.ensures

pub returns-clause-kept : goal.returns-clause-kept
returns-clause-kept g c = λ x w i. permuted_marks _ _ (IsPermutation-sym _ _ (IsPermutation-map (mark_of g.Q.Exact.value) _ _ c.sort_unstable_by.ensures.permutation)) x w i

pub returns-clause-no_other : goal.returns-clause-no_other
returns-clause-no_other g c = λ x w i. permuted_marks _ _ (IsPermutation-map (mark_of g.Q.Exact.value) _ _ c.sort_unstable_by.ensures.permutation) x w i

pub returns-clause-ascending : goal.returns-clause-ascending
returns-clause-ascending g c =
    let v = g.Q.Exact.value in
    let s = c.sort_unstable_by.ensures in
    subst AreAscending (roots_at v _) (all_ascend (λ (m : Mark _). v m.at) _ (s.sorted (λ a b. is_lt (compared (v a.at) (v b.at))) (ranks_by compared_total (λ (m : Mark _). v m.at)) (answers_always _ _ _ (λ f a r q h. search rules))))
