use Rattle.std.proofs.lemmas.List.Filters.{dedup_is}
use Rattle.std.proofs.lemmas.Map.Keys.{IsStrictlyIncreasing-dedup}
use Rattle.plus_reads.proofs.Waking.{rising_all, same_members}
use Rattle.plus_indexed.proofs.waiting.sort_once.Goals as goal

pub returns-clause-rises : goal.returns-clause-rises
returns-clause-rises c =
    let is = dedup_is _ _ _ c.dedup.ensures.filtered in
    rw is (rising_all _ (IsStrictlyIncreasing-dedup _ c.in_ok-sort.ensures.sorted))

pub returns-clause-same : goal.returns-clause-same
returns-clause-same c = λ k.
    same_members _ _ _ k c.in_ok-sort.ensures.permutation (dedup_is _ _ _ c.dedup.ensures.filtered)
