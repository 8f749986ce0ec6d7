use Rattle.std.proofs.Common.{◌≡◌, ℕ, List, false, take}
use Rattle.std.specs.List.{list_any}
use Rattle.plus_types.specs.Types.{is_among}
use Rattle.plus_types.specs.Ranks.{rank_of}
use Rattle.plus_types.proofs.RankLemmas.{rises, stays}
use Rattle.plus_types.proofs.loops.tied.Given as goal

-- no step seen so far goes to a higher rank, and the suspects are those with a step to the same
abbrev pub invariant-types : goal.invariant-types
invariant-types l = record {
  falls : list_any (rises (rank_of l.names l.ranks)) (take l.member-index l.types) ≡ false;
  known : (k : List ℕ) → is_among l.suspects k ≡ list_any (stays (rank_of l.names l.ranks) k) (take l.member-index l.types);
}
