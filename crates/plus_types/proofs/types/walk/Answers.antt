use Rattle.std.proofs.Common.{refl}
use Rattle.plus_types.specs.Types.{bindings_of, bound_kinds}
use Rattle.plus_types.proofs.SoundLemmas.{well_listed}
use Rattle.plus_types.proofs.types.walk.Goals as goal

pub build-requires-clause-listed : goal.build-requires-clause-listed
build-requires-clause-listed c =
    let types = c.args.types.now in
    rw c.in_ok-listed.ensures.table (well_listed types (bound_kinds (bindings_of types)) c.in_ok-listed.ensures.walks (λ k. refl))

pub invariant_of-result : goal.invariant_of-result
invariant_of-result c = record {
  listed = rw c.in_ok-listed.ensures.table (well_listed c.args.types.now c.in_ok-above.above c.in_ok-listed.ensures.walks c.in_ok-above.ensures);
  jumps = c.in_ok-jumps.ensures;
}
