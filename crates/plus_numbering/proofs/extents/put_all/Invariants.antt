use Rattle.std.proofs.Common.{◌≡◌, ℕ, List, length, map, take, cond}
use Rattle.plus_types.specs.Types.{is_among}
use Rattle.plus_numbering.specs.Tables.{places_of, once}
use Rattle.plus_numbering.proofs.extents.put_all.Given as goal

-- the object is in the lists of the types seen so far
abbrev pub invariant-ups : goal.invariant-ups
invariant-ups l = record {
  size : length l.names ≡ length l.lists.items;
  put : (k : List ℕ) → places_of l.names (map (λ v. v.items) l.lists.items) k
      ≡ cond (is_among (take l.place l.ups) k) (once l.object (places_of l.initial.names (map (λ v. v.items) l.initial.lists.items) k)) (places_of l.initial.names (map (λ v. v.items) l.initial.lists.items) k);
}
