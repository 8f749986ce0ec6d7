use Rattle.std.proofs.Common.{◌≡◌, ℕ, List, ◌+◌, ◌++◌, length, map, take}
use Rattle.plus_types.specs.Types.{is_among, is_under, bindings_of}
use Rattle.plus_expansion.specs.Objects.{places_from}
use Rattle.plus_numbering.specs.Tables.{places_of}
use Rattle.plus_numbering.proofs.extents.put_objects.Given as goal

-- the objects seen so far are in the lists of all types that they are of
abbrev pub invariant-objects : goal.invariant-objects
invariant-objects l = record {
  counted : l.place ≡ l.first + l.object-index;
  size : length l.names ≡ length l.lists.items;
  ups : (k : List ℕ) → is_among l.ups k ≡ is_under l.types l.before k;
  put : (k : List ℕ) → places_of l.names (map (λ v. v.items) l.lists.items) k
      ≡ places_of l.initial.names (map (λ v. v.items) l.initial.lists.items) k ++ places_from l.types k l.first (bindings_of (take l.object-index l.objects));
}
