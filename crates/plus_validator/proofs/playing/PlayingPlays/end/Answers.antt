use Rattle.std.proofs.Common.{refl}
use Rattle.plus_play.specs.Rules.{StopsAt, at_end}
use Rattle.plus_play.proofs.FeedLemmas.{on_one}
use Rattle.plus_validator.specs.declared.halt.Halt.{Halt}
use Rattle.plus_validator.specs.declared.playing.Playing.{Playing}
use Rattle.plus_validator.specs.Account.{progress}
use Rattle.plus_validator.specs.Halts.{HasCause}
use Rattle.plus_validator.specs.Handing.{HandsOn, left}
use Rattle.plus_validator.specs.Stopped.{HaltsAtEnd}
use Rattle.plus_validator.specs.PlayRules.{problem_in, telling_in, play_rules}
use Rattle.plus_validator.proofs.PlayingLemmas.{err_both, end_plays, end_halts}
use Rattle.plus_validator.proofs.playing.PlayingPlays.end.Goals as goal

pub returns-clause-ends : goal.returns-clause-ends
returns-clause-ends g c =
    let old = c.args.self.now in
    let new : Playing g.row.T.Denot = record { run = c.close.new.self; instances = old.instances; ground = old.ground } in
    on_one c.close.result (λ k. end_plays g.T.Teller.told g.T.Teller.telling g.T.Teller.kept g.O.Sink.taken g.O.Sink.faults old c.args.out.now new c.close.new.out refl refl c.close.ensures.keeps c.close.ensures.no_fall k) c.close.ensures.closes

pub returns-clause-stops : goal.returns-clause-stops
returns-clause-stops g c =
    let old = c.args.self.now in
    let new : Playing g.row.T.Denot = record { run = c.close.new.self; instances = old.instances; ground = old.ground } in
    err_both c.close.result
    (λ (h : Halt). HandsOn (progress g.T.Teller.told) (left g.T.Teller.told) (λ a b. HaltsAtEnd (problem_in old) (telling_in g.T.Teller.telling old) a b h) old.run new.run (g.O.Sink.taken c.args.out.now) (g.O.Sink.taken c.close.new.out))
    (HasCause (problem_in old) (g.O.Sink.faults c.args.out.now) (g.O.Sink.faults c.close.new.out))
    (StopsAt (play_rules g.T.Teller.told g.T.Teller.telling g.T.Teller.kept g.O.Sink.taken g.O.Sink.faults) at_end old c.args.out.now new c.close.new.out)
    (λ halt k r. end_halts g.T.Teller.told g.T.Teller.telling g.T.Teller.kept g.O.Sink.taken g.O.Sink.faults old c.args.out.now new c.close.new.out refl refl c.close.ensures.keeps c.close.ensures.no_fall halt r k) c.close.ensures.stops c.close.ensures.cause
