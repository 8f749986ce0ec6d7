use Rattle.std.proofs.Common.{◌<◌, length, map, arith}
use Rattle.std.proofs.lemmas.List.{length-map}
use Rattle.plus_model.specs.Terms.{Process}
use Rattle.plus_state.specs.View.{process_of}
use Rattle.plus_state.proofs.LookingLemmas.{here}
use Rattle.plus_state.proofs.walk.ProcessIdConditional.condition.Goals as goal

pub returns : goal.returns
returns g c =
    let m = length-map c.args.ground.now.processes.items (process_of g.Q.Exact.value) in
    let n = length-map (map (process_of g.Q.Exact.value) c.args.ground.now.processes.items) (λ (x : Process). x.condition) in
    let h : c.args.self.0 < length c.args.ground.now.processes.items = omega (arith, m, n, c.requires) in
    here (process_of g.Q.Exact.value) (λ (x : Process). x.condition) c.args.ground.now.processes.items c.args.self.0 c.index.result.now h c.index.ensures
