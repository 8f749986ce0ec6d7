use Rattle.std.proofs.Common.{◌∙◌, ap, arith}
use Rattle.plus_types.specs.Types.{is_under}
use Rattle.plus_numbering.proofs.PutLemmas.{object-more, objects-all}
use Rattle.plus_numbering.proofs.extents.put_objects.Goals as goal

pub objects-preserved : goal.objects-preserved
objects-preserved c = record {
  counted = omega (arith, c.objects.invariant.counted);
  size = c.in_ok-put_all.ensures.size;
  ups = c.in_ok-ups-2.ensures;
  put = λ k. object-more c.args.types.now k c.args.first c.objects.place c.objects.object-index c.args.objects.now c.object-item.result _ _ _ _ c.objects-test.true c.object-item.is
      c.objects.invariant.counted (c.requires.below k) (c.objects.invariant.put k) (c.in_ok-ups-2.ensures k ∙ ap (λ x. is_under c.args.types.now x k) c.bytes-kind.ensures) (c.in_ok-put_all.ensures.put k);
}

pub returns-clause-put : goal.returns-clause-put
returns-clause-put c = λ k.
    objects-all c.args.types.now k c.args.first c.objects.object-index c.args.objects.now _ _ c.objects-test.false (c.objects.invariant.put k)
