use Rattle.std.proofs.Common.{◌≡◌, ◌∙◌, ap, sym, length, arith}
use Rattle.std.specs.List.{list_any}
use Rattle.std.proofs.lemmas.List.{length-map}
use Rattle.plus_tree.specs.declared.terms.TypedName.{TypedName}
use Rattle.plus_types.specs.Types.{bindings_of, kind_of}
use Rattle.plus_types.specs.Jumps.{depth_of}
use Rattle.plus_types.proofs.TypesLemmas.{take-past}
use Rattle.plus_types.proofs.JumpLemmas.{misplaced, well-placed}
use Rattle.plus_types.proofs.jumps.are_depths.Goals as goal

pub returns : goal.returns
returns c = λ _. λ k up e.
    let types = c.args.types.now in
    let d = depth_of c.args.listed.now c.args.depths.now in
    let n = length types in
    let none = ap (list_any (misplaced d n)) (sym (take-past types c.types.member-index c.types-test.false)) ∙ c.types.invariant in
    let w = well-placed types d n none k up (ap (λ ts. kind_of ts k) (sym c.requires) ∙ e) in
    let many : length (bindings_of types) ≡ n = length-map types (λ (t : TypedName). (t.name.name, t.kind.name)) in
    let len : length c.args.listed.now ≡ n = ap length c.requires ∙ many in
    (w.0, omega (arith, w.1, len))
