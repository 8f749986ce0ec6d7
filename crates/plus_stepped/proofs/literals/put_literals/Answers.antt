use Rattle.std.proofs.Common.{refl}
use Rattle.plus_stepped.proofs.PuttingLemmas.{length-put_signed, put_both}
use Rattle.plus_stepped.proofs.literals.put_literals.Goals as goal

pub put_sign-requires-2 : goal.put_sign-requires-2
put_sign-requires-2 g c = rw c.put_sign.ensures (rw length-put_signed c.requires)

pub returns : goal.returns
returns g c = rw (c.put_sign-2.ensures, c.put_sign.ensures, put_both) refl
