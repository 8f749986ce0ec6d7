use Rattle.plus_number.specs.Frac.{fraction_of}
use Rattle.plus_state.specs.View.{problem_of, labels_of}
use Rattle.plus_watcher.proofs.Calls.{if_done}
use Rattle.plus_watching.proofs.Parts.{act_steps}
use Rattle.plus_watching.proofs.telling.ObserverTeller.act.Goals as goal

pub returns-clause-tells : goal.returns-clause-tells
returns-clause-tells c = λ sent action old label does.
    if_done c.after.result _ _
    (act_steps (labels_of c.args._ground.now) (problem_of fraction_of c.args._ground.now) sent c.args.self.now.watcher c.after.new.self c.args.timeline.now.line
    c.requires.can action old c.state.result.now c.state.ensures.state c.state.ensures.fits)
    c.after.ensures.looked
