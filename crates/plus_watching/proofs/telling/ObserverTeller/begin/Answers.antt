use Rattle.std.proofs.Common.{[], refl}
use Rattle.plus_number.specs.Frac.{fraction_of}
use Rattle.plus_state.specs.View.{problem_of, labels_of}
use Rattle.plus_watcher.proofs.Calls.{if_done}
use Rattle.plus_watching.proofs.Parts.{first_tells}
use Rattle.plus_watching.proofs.telling.ObserverTeller.begin.Goals as goal

pub returns-clause-tells : goal.returns-clause-tells
returns-clause-tells c =
    if_done c.first.result _ _
    (λ l L. (
      refl,
      first_tells (labels_of c.args._ground.now) (problem_of fraction_of c.args._ground.now) [] c.args.self.now.watcher c.first.new.self c.args.timeline.now.line
          c.requires.can c.requires.begun c.requires.new c.first.ensures.fits l,
    ))
    c.first.ensures.looked
