use Rattle.plus_number.specs.Frac.{fraction_of}
use Rattle.plus_state.specs.View.{problem_of, action_of}
use Rattle.plus_instances.proofs.Making.{made_here}
use Rattle.plus_replay.specs.declared.replay.Replay.{Replay}
use Rattle.plus_replay.proofs.Standing.{done}
use Rattle.plus_replay.proofs.Failing.{instance_fits}
use Rattle.plus_replay.proofs.replay.Replay.act.Goals as goal

pub does-requires-clause-fits : goal.does-requires-clause-fits
does-requires-clause-fits c =
    instance_fits c.args.self.now.instances.numbering.now.typed.now c.args.ground.now (action_of fraction_of c.at.result.now) c.requires.stands.pair
    (made_here _ _ _ _ _ _ c.in-Ok.ensures.made c.at.ensures).fits

pub returns : goal.returns
returns c =
    let new : Replay = record { timeline = c.does.new.timeline; instances = c.place.new.self } in
    done c.args.ground.now c.args.self.now new c.requires.stands c.does.result c.place.ensures.kept c.does.ensures
