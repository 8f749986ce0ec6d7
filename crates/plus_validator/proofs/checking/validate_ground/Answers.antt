use Rattle.std.proofs.Common.{[]}
use Rattle.plus_number.specs.Frac.{fraction_of}
use Rattle.plus_state.specs.View.{problem_of, labels_of}
use Rattle.plus_validator.specs.Account.{progress}
use Rattle.plus_validator.specs.Told.{report_told}
use Rattle.plus_validator.specs.Leaving.{on_way}
use Rattle.plus_validator.proofs.Endings.{from_same, reading_same, broken_same, keeps_same}
use Rattle.plus_validator.proofs.Handing.{rose_since}
use Rattle.plus_validator.proofs.Validating.{ends_valid, ends_refused, ends_reading, ends_broken, ends_wanting, ends_keeping}
use Rattle.plus_validator.proofs.checking.validate_ground.Goals as goal

pub play_plan-requires-clause-expands : goal.play_plan-requires-clause-expands
play_plan-requires-clause-expands g c = rw c.new-instances.ensures.of c.requires.expands

pub play_plan-requires-clause-groundable : goal.play_plan-requires-clause-groundable
play_plan-requires-clause-groundable g c = rw c.new-instances.ensures.of c.requires.groundable

pub play_plan-requires-clause-fresh : goal.play_plan-requires-clause-fresh
play_plan-requires-clause-fresh g c = record { begins = c.in-Ok-begin.ensures.begins; made = c.new-instances.ensures.made }

pub returns-clause-valid : goal.returns-clause-valid
returns-clause-valid g c = λ h.
    ends_valid c.args.numbering.now.typed.now.domain c.args.numbering.now.typed.now.problem (labels_of c.args.ground.now) (problem_of fraction_of c.args.ground.now)
    c.args.happenings (g.S.Shelf.bytes c.args.shelf.now c.args.plan.now) (progress report_told [] c.in-Ok-begin.run') c.play_plan.new.playing.run c.in-Played.played
    (g.O.Sink.taken c.args.out.now) (g.O.Sink.taken c.play_plan.new.out) c.requires.groundable c.requires.expands.expands c.requires.expands.labels c.in-Ok-begin.ensures.begins
    (from_same _ _ _ _ c.new-instances.ensures.of _ _ _ _ _ _ c.in-Played.ensures.plays) c.in-Played.ensures.fits _ c.conclude-outcome.result _ _ c.conclude-outcome.ensures.concludes h

pub returns-clause-refused : goal.returns-clause-refused
returns-clause-refused g c = λ h.
    ends_refused c.args.numbering.now.typed.now.domain c.args.numbering.now.typed.now.problem (labels_of c.args.ground.now) (problem_of fraction_of c.args.ground.now)
    c.args.happenings (g.S.Shelf.bytes c.args.shelf.now c.args.plan.now) (progress report_told [] c.in-Ok-begin.run') c.play_plan.new.playing.run c.in-Played.played
    (g.O.Sink.taken c.args.out.now) (g.O.Sink.taken c.play_plan.new.out) c.requires.groundable c.requires.expands.expands c.requires.expands.labels c.in-Ok-begin.ensures.begins
    (from_same _ _ _ _ c.new-instances.ensures.of _ _ _ _ _ _ c.in-Played.ensures.plays) c.in-Played.ensures.fits _ c.conclude-outcome.result _ _ c.conclude-outcome.ensures.concludes h

pub returns-clause-no_memory : goal.returns-clause-no_memory
returns-clause-no_memory g c = λ h.
    ends_wanting c.args.numbering.now.typed.now.domain c.args.numbering.now.typed.now.problem (labels_of c.args.ground.now) (problem_of fraction_of c.args.ground.now)
    c.args.happenings (g.S.Shelf.bytes c.args.shelf.now c.args.plan.now) (progress report_told [] c.in-Ok-begin.run') c.play_plan.new.playing.run c.in-Played.played
    (g.O.Sink.taken c.args.out.now) (g.O.Sink.taken c.play_plan.new.out) c.requires.groundable c.requires.expands.expands c.requires.expands.labels c.in-Ok-begin.ensures.begins
    (from_same _ _ _ _ c.new-instances.ensures.of _ _ _ _ _ _ c.in-Played.ensures.plays) c.in-Played.ensures.fits _ c.conclude-outcome.result _ _ c.conclude-outcome.ensures.concludes h

pub returns-clause-read_fault : goal.returns-clause-read_fault
returns-clause-read_fault g c = λ h.
    absurd (ends_reading c.args.numbering.now.typed.now.domain c.args.numbering.now.typed.now.problem (labels_of c.args.ground.now) (problem_of fraction_of c.args.ground.now)
    c.args.happenings (g.S.Shelf.bytes c.args.shelf.now c.args.plan.now) (progress report_told [] c.in-Ok-begin.run') c.play_plan.new.playing.run c.in-Played.played
    (g.O.Sink.taken c.args.out.now) (g.O.Sink.taken c.play_plan.new.out) c.requires.groundable c.requires.expands.expands c.requires.expands.labels c.in-Ok-begin.ensures.begins
    (from_same _ _ _ _ c.new-instances.ensures.of _ _ _ _ _ _ c.in-Played.ensures.plays) c.in-Played.ensures.fits _ c.conclude-outcome.result _ _ c.conclude-outcome.ensures.concludes h)

pub returns-clause-write_fault : goal.returns-clause-write_fault
returns-clause-write_fault g c = λ h.
    let k = ends_broken c.args.numbering.now.typed.now.domain c.args.numbering.now.typed.now.problem (labels_of c.args.ground.now) (problem_of fraction_of c.args.ground.now)
    c.args.happenings (g.S.Shelf.bytes c.args.shelf.now c.args.plan.now) (progress report_told [] c.in-Ok-begin.run') c.play_plan.new.playing.run c.in-Played.played
    (g.O.Sink.taken c.args.out.now) (g.O.Sink.taken c.play_plan.new.out) c.requires.groundable c.requires.expands.expands c.requires.expands.labels c.in-Ok-begin.ensures.begins
    (from_same _ _ _ _ c.new-instances.ensures.of _ _ _ _ _ _ c.in-Played.ensures.plays) c.in-Played.ensures.fits _ c.conclude-outcome.result _ _ c.conclude-outcome.ensures.concludes h in
    (rose_since _ _ _ c.play_plan.ensures.no_fall k.0, k.1)

pub returns-in-ReadFault-clause-read_fault : goal.returns-in-ReadFault-clause-read_fault
returns-in-ReadFault-clause-read_fault g c = λ h.
    (c.in-ReadFault.ensures.read_fault.0, reading_same _ _ (labels_of c.args.ground.now) (problem_of fraction_of c.args.ground.now) c.new-instances.ensures.of _ _ _ _ _ _ c.in-ReadFault.ensures.read_fault.1)

pub returns-in-WriteFault-clause-write_fault : goal.returns-in-WriteFault-clause-write_fault
returns-in-WriteFault-clause-write_fault g c = λ h.
    (c.in-WriteFault.ensures.write_fault.0, on_way (broken_same _ _ (labels_of c.args.ground.now) (problem_of fraction_of c.args.ground.now) c.new-instances.ensures.of _ _ _ _ c.in-WriteFault.ensures.write_fault.1))

pub returns-clause-keeps_up : goal.returns-clause-keeps_up
returns-clause-keeps_up g c = λ h.
    ends_keeping c.args.numbering.now.typed.now.domain c.args.numbering.now.typed.now.problem (labels_of c.args.ground.now) (problem_of fraction_of c.args.ground.now)
    c.args.happenings (g.S.Shelf.bytes c.args.shelf.now c.args.plan.now) (g.S.Shelf.rest c.play_plan.new.shelf) c.play_plan.new.playing.run c.in-Played.played
    (g.O.Sink.taken c.args.out.now) (g.O.Sink.taken c.play_plan.new.out) _ _ _ c.conclude-outcome.result
    (keeps_same _ _ (labels_of c.args.ground.now) (problem_of fraction_of c.args.ground.now) c.new-instances.ensures.of _ _ _ _ _ c.in-Played.ensures.keeps_up) c.conclude-outcome.ensures.concludes

pub returns-in-WriteFault-clause-keeps_up : goal.returns-in-WriteFault-clause-keeps_up
returns-in-WriteFault-clause-keeps_up g c = λ h.
    keeps_same _ _ (labels_of c.args.ground.now) (problem_of fraction_of c.args.ground.now) c.new-instances.ensures.of _ _ _ _ _ c.in-WriteFault.ensures.keeps_up
