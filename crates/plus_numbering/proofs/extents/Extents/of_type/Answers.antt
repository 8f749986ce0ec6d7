use Rattle.std.proofs.Common.{◌≡◌, length, ap, ◌∙◌, arith}
use Rattle.plus_types.specs.Types.{bindings_of, objects_of}
use Rattle.plus_types.specs.Faults.{problem_context}
use Rattle.plus_expansion.specs.Objects.{members_of}
use Rattle.plus_expansion.proofs.ObjectsLemmas.{length-places, length-bindings}
use Rattle.plus_numbering.proofs.extents.Extents.of_type.Goals as goal

pub returns-clause-few : goal.returns-clause-few
returns-clause-few c =
    let d = c.args.self.now.typed.now.domain in
    let p = c.args.self.now.typed.now.problem in
    let e : c.places.result.now ≡ members_of (problem_context d p) c.args.kind.now = c.places.ensures ∙ c.args.self.now.lists_are c.args.kind.now in
    let l : length c.places.result.now ≡ length (members_of (problem_context d p) c.args.kind.now) = ap length e in
    let m = length-places (bindings_of d.types) c.args.kind.now 0 (bindings_of (objects_of d p)) in
    let n = length-bindings (objects_of d p) in
    let f = c.args.self.now.few in
    omega (arith, l, m, n, f)
