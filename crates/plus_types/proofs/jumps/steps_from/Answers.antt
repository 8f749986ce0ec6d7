use Rattle.std.proofs.Common.{◌≡◌, ◌∙◌, ap, sym, length, get_or, position, arith}
use Rattle.std.proofs.lemmas.List.{length-map}
use Rattle.std.specs.Str.{bytes_eq}
use Rattle.plus_tree.specs.declared.terms.TypedName.{TypedName}
use Rattle.plus_types.specs.Types.{Binding, bindings_of, bound_names, bound_kinds}
use Rattle.plus_types.specs.Jumps.{Reaches}
use Rattle.plus_types.proofs.JumpLemmas.{binding-at, reaches-up, reaches-on}
use Rattle.plus_types.proofs.jumps.steps_from.Goals as goal

pub returns-in-Some-number : goal.returns-in-Some-number
returns-in-Some-number c =
    let types = c.args.listed.now in
    let member = c.in-Some.member.now in
    let b : Binding = (member.name.name, member.kind.name) in
    let up = c.in-Some-number.up in
    let within = c.in-Some.ensures.lookup.3.0 in
    let here = ap (λ ts. get_or ts c.args.number b) c.requires.table ∙ binding-at c.args.types.now c.args.number member b within c.in-Some.ensures.lookup.1 in
    let many : length (bindings_of c.args.types.now) ≡ length c.args.types.now = length-map c.args.types.now (λ (t : TypedName). (t.name.name, t.kind.name)) in
    let len : length types ≡ length c.args.types.now = ap length c.requires.table ∙ many in
    let place = sym (c.in-Some-number.ensures.place ∙ ap (λ k. position (bytes_eq k) (bound_names types)) c.bytes.ensures) in
    let above : Reaches types c.args.depths.now c.args.number up =
    reaches-up types (bound_kinds types) c.args.depths.now c.args.number up b c.requires.listed c.requires.depths (omega (arith, within, len)) here place in
    record {
      up = above;
      jump = reaches-on types c.args.depths.now c.args.number up c.jump.result c.jump.ensures.depth above (c.jump.ensures.reaches types c.requires.steps);
    }
