use Rattle.std.proofs.Common.{length, drop}
use Rattle.plus_state.specs.View.{problem_of}
use Rattle.plus_state.specs.Looked.{events_looked}
use Rattle.plus_settle.proofs.StillLemmas.Listed.{Walked}
use Rattle.plus_stretch.proofs.SoonLemmas.{NotYet}
use Rattle.plus_stretch.proofs.soon.momentless.Given as goal

abbrev pub invariant-each : goal.invariant-each
invariant-each g l =
    Walked (NotYet g.Q.Exact.fits (problem_of g.Q.Exact.value l.ground) l.state l.rates) (length (problem_of g.Q.Exact.value l.ground).events) (drop l.place (events_looked l.events)) (events_looked l.events)
