use Rattle.std.proofs.Common.{map, drop}
use Rattle.plus_state.specs.View.{effect_of}
use Rattle.plus_state.proofs.PlainLemmas.{Noting}
use Rattle.plus_state.proofs.plain.plain_changes.Given as goal

abbrev pub invariant-each : goal.invariant-each
invariant-each g l =
    Noting g.Q.Exact.fits (map (effect_of g.Q.Exact.value) (drop l.effect-index l.effects)) (map (effect_of g.Q.Exact.value) l.effects) l.state l.changes
