use Rattle.std.proofs.Common.{◌<◌, length, map, arith}
use Rattle.std.proofs.lemmas.List.{length-map}
use Rattle.plus_model.specs.Terms.{Event}
use Rattle.plus_state.specs.View.{event_of}
use Rattle.plus_state.proofs.LookingLemmas.{here}
use Rattle.plus_state.proofs.walk.EventIdConditional.condition.Goals as goal

pub returns : goal.returns
returns g c =
    let m = length-map c.args.ground.now.events.items (event_of g.Q.Exact.value) in
    let n = length-map (map (event_of g.Q.Exact.value) c.args.ground.now.events.items) (λ (x : Event). x.condition) in
    let h : c.args.self.0 < length c.args.ground.now.events.items = omega (arith, m, n, c.requires) in
    here (event_of g.Q.Exact.value) (λ (x : Event). x.condition) c.args.ground.now.events.items c.args.self.0 c.index.result.now h c.index.ensures
