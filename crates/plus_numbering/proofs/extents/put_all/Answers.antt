use Rattle.std.proofs.Common.{arith}
use Rattle.plus_numbering.proofs.PutLemmas.{put-more}
use Rattle.plus_numbering.proofs.extents.put_all.Goals as goal

pub ups-preserved : goal.ups-preserved
ups-preserved c = record {
  size = c.in_ok-put.ensures.size;
  put = λ k. put-more c.args.ups.now c.ups.place c.name.result.now k c.args.object _ _ _ (omega (arith, c.ups-test.true, c.len-place-end.ensures)) c.name.ensures (c.ups.invariant.put k) (c.in_ok-put.ensures.put k);
}
