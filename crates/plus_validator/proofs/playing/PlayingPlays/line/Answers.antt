use Rattle.std.proofs.Common.{refl}
use Rattle.std.specs.Prelude.{[]}
use Rattle.plus_play.specs.Rules.{StopsAt, on_line}
use Rattle.plus_play.proofs.FeedLemmas.{on_one}
use Rattle.plus_validator.specs.declared.halt.Halt.{Halt}
use Rattle.plus_validator.specs.declared.playing.Playing.{Playing}
use Rattle.plus_validator.specs.Account.{progress}
use Rattle.plus_validator.specs.Halts.{HasCause}
use Rattle.plus_validator.specs.Handing.{HandsOn, left}
use Rattle.plus_validator.specs.Playing.{PlaysLine}
use Rattle.plus_validator.specs.Stopped.{HaltsInLine}
use Rattle.plus_validator.specs.PlayRules.{pair_of, problem_in, telling_in, play_rules}
use Rattle.plus_validator.proofs.PlayingLemmas.{err_both, can_after, line_plays, line_halts}
use Rattle.plus_validator.proofs.playing.PlayingPlays.line.Goals as goal

pub line-requires-clause-moment : goal.line-requires-clause-moment
line-requires-clause-moment g c = c.requires.can.rests.moment

pub returns-clause-can : goal.returns-clause-can
returns-clause-can g c =
    let old = c.args.self.now in
    let new : Playing g.row.T.Denot = record { run = c.line.new.self; instances = c.line.new.instances; ground = old.ground } in
    on_one c.line.result
    (λ (k : HandsOn (progress g.T.Teller.told) (progress g.T.Teller.told) (PlaysLine (pair_of old) (problem_in old) (telling_in g.T.Teller.telling old) c.args.read.now) old.run new.run (g.O.Sink.taken c.args.out.now) (g.O.Sink.taken c.line.new.out)).
    can_after old new c.line.ensures.kept refl (k.goes []).rests c.requires.can) c.line.ensures.plays

pub returns-clause-goes : goal.returns-clause-goes
returns-clause-goes g c =
    let old = c.args.self.now in
    let new : Playing g.row.T.Denot = record { run = c.line.new.self; instances = c.line.new.instances; ground = old.ground } in
    on_one c.line.result (λ k. line_plays g.T.Teller.told g.T.Teller.telling g.T.Teller.kept g.O.Sink.taken g.O.Sink.faults old c.args.out.now new c.line.new.out c.line.ensures.kept.same refl c.line.ensures.keeps c.line.ensures.no_fall c.args.read.now k) c.line.ensures.plays

pub returns-clause-stops : goal.returns-clause-stops
returns-clause-stops g c =
    let old = c.args.self.now in
    let new : Playing g.row.T.Denot = record { run = c.line.new.self; instances = c.line.new.instances; ground = old.ground } in
    err_both c.line.result
    (λ (h : Halt). HandsOn (progress g.T.Teller.told) (left g.T.Teller.told) (λ a b. HaltsInLine (pair_of old) (problem_in old) (telling_in g.T.Teller.telling old) c.args.read.now a b h) old.run new.run (g.O.Sink.taken c.args.out.now) (g.O.Sink.taken c.line.new.out))
    (HasCause (problem_in old) (g.O.Sink.faults c.args.out.now) (g.O.Sink.faults c.line.new.out))
    (StopsAt (play_rules g.T.Teller.told g.T.Teller.telling g.T.Teller.kept g.O.Sink.taken g.O.Sink.faults) (on_line c.args.read.now) old c.args.out.now new c.line.new.out)
    (λ halt k r. line_halts g.T.Teller.told g.T.Teller.telling g.T.Teller.kept g.O.Sink.taken g.O.Sink.faults old c.args.out.now new c.line.new.out c.line.ensures.kept.same refl c.line.ensures.keeps c.line.ensures.no_fall halt r c.args.read.now k) c.line.ensures.stops c.line.ensures.cause
