use Rattle.plus_expansion.specs.Literals.{write_literals}
use Rattle.plus_ground.proofs.EffectsLemmas.{part_fits}
use Rattle.plus_ground.proofs.effects.guarded.Goals as goal

pub write-requires : goal.write-requires
write-requires g c = part_fits g.Q.Exact.fits (λ l. write_literals l.node) c.args.leaves.now c.leaves.leaf-index c.leaf-item.result c.leaves-test.true c.leaf-item.is c.requires.leaves
