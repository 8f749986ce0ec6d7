use Rattle.std.proofs.Common.{[], refl, ap, rules}
use Rattle.plus_number.specs.Frac.{fraction_of}
use Rattle.plus_state.specs.View.{problem_of, labels_of}
use Rattle.plus_validator.specs.declared.playing.Playing.{Playing}
use Rattle.plus_validator.specs.Account.{Progress}
use Rattle.plus_validator.proofs.PlayingLemmas.{can_flush, flush_hands, flush_halts}
use Rattle.plus_validator.proofs.playing.PlayingPlays.hand_on.Goals as goal

pub returns-in-Ok-clause-can : goal.returns-in-Ok-clause-can
returns-in-Ok-clause-can g c =
    let old = c.args.self.now in
    let new : Playing g.row.T.Denot = record { run = c.flush.new.self; instances = old.instances; ground = old.ground } in
    can_flush old new refl refl (ap (λ (r : Progress _). r.timeline) (c.in-Ok.ensures.goes.goes [])) c.requires.can

pub returns-in-Ok-clause-hands : goal.returns-in-Ok-clause-hands
returns-in-Ok-clause-hands g c =
    let old = c.args.self.now in
    let new : Playing g.row.T.Denot = record { run = c.flush.new.self; instances = old.instances; ground = old.ground } in
    flush_hands g.T.Teller.told g.T.Teller.telling g.T.Teller.kept g.O.Sink.taken g.O.Sink.faults old c.args.out.now new c.flush.new.out refl refl c.flush.ensures.keeps c.flush.ensures.no_fall c.in-Ok.ensures.goes

pub returns-in-Err-clause-stops : goal.returns-in-Err-clause-stops
returns-in-Err-clause-stops g c =
    let old = c.args.self.now in
    let new : Playing g.row.T.Denot = record { run = c.flush.new.self; instances = old.instances; ground = old.ground } in
    flush_halts g.T.Teller.told g.T.Teller.telling g.T.Teller.kept g.O.Sink.taken g.O.Sink.faults old c.args.out.now new c.flush.new.out refl refl c.flush.ensures.keeps c.flush.ensures.no_fall c.in-Err.ensures.cause c.in-Err.ensures.breaks

pub returns-in-Err-clause-told : goal.returns-in-Err-clause-told
returns-in-Err-clause-told g c =
    let b = c.in-Err.ensures.breaks (labels_of c.args.self.now.ground.now) (problem_of fraction_of c.args.self.now.ground.now) in
    search rules
