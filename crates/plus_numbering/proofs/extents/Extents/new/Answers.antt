use Rattle.std.proofs.Common.{◌∙◌, ◌++◌, ap, length}
use Rattle.plus_types.specs.Types.{bindings_of}
use Rattle.plus_expansion.specs.Objects.{places_from}
use Rattle.plus_expansion.proofs.ObjectsLemmas.{places-pair}
use Rattle.plus_numbering.proofs.PutLemmas.{start-none, below-first}
use Rattle.plus_numbering.proofs.extents.Extents.new.Goals as goal

pub put_objects-requires-2-clause-below : goal.put_objects-requires-2-clause-below
put_objects-requires-2-clause-below c = λ k.
    below-first c.args.typed.now.types k c.as_slice-constants.result.now _ _ (start-none c.new-names.result _ k c.new-names.ensures) (c.in_ok-put_objects.ensures.put k)

pub invariant_of-result : goal.invariant_of-result
invariant_of-result c =
    let d = c.args.typed.now.domain in
    let p = c.args.typed.now.problem in
    record {
      sizes = c.in_ok-put_objects-2.ensures.size;
      few = c.requires;
      lists_are = λ k.
          places-pair c.args.typed.now.types k (length c.as_slice-constants.result.now) d.constants p.objects c.as_slice-constants.result.now c.as_slice-objects.result.now
          _ _ _ c.as_slice-constants.ensures c.as_slice-objects.ensures (ap length c.as_slice-constants.ensures) (start-none c.new-names.result _ k c.new-names.ensures)
          (c.in_ok-put_objects.ensures.put k) (c.in_ok-put_objects-2.ensures.put k)
          ∙ ap (λ ts. places_from ts k 0 (bindings_of (d.constants ++ p.objects))) c.args.typed.now.types_are;
    }
