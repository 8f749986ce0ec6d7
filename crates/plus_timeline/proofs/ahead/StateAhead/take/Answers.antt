use Rattle.std.proofs.Common.{ap, sym, ◌∙◌}
use Rattle.plus_stretch.specs.declared.arrival.Ahead.{Ahead}
use Rattle.plus_timeline.proofs.Entries.{taken_is}
use Rattle.plus_timeline.proofs.ahead.StateAhead.take.Goals.{in-Some, in-None+in_ok-copy-in-None+in_ok-new-in-None}
use Rattle.plus_timeline.proofs.ahead.StateAhead.take.Goals as goal

pub returns-clause-state : goal.returns-clause-state
returns-clause-state g c = elim c.match-take.branch [
  | in-Some w ↦ rw w.result-is (taken_is (λ b. b.value.state) c.self.inside.ahead w.in-Some.ahead c.args.self.now c.args.state.now (sym c.take.ensures.value ∙ w.in-Some.is) c.self.view_is c.requires)
  | in-None+in_ok-copy-in-None+in_ok-new-in-None w ↦ rw w.result-is (ap (λ (a : Ahead g.row.Q.Denot). a.state) w.in_ok-new-in-None.ensures.ok ∙ w.new-ahead.ensures ∙ w.in_ok-copy-in-None.ensures)
]
