use Rattle.std.proofs.Common.{◌≡◌, ◌∙◌, ◌-◌, ◌<◌, ap, sym, length, get_or, arith}
use Rattle.plus_tree.specs.declared.terms.TypedName.{TypedName}
use Rattle.plus_expansion.proofs.ObjectsLemmas.{named-constant, named-object}
use Rattle.plus_numbering.proofs.extents.Extents.name.Goals as goal

pub returns-then-place-constants : goal.returns-then-place-constants
returns-then-place-constants c =
    let d = c.args.self.now.typed.now.domain in
    let p = c.args.self.now.typed.now.problem in
    let t = c.index-constants-place.result in
    let l : c.args.object < length d.constants = omega (arith, ap length c.as_slice-constants.ensures, c.if-place-constants.true) in
    let m = c.index-constants-place.is ∙ ap (λ ts. get_or ts c.args.object t) c.as_slice-constants.ensures in
    c.bytes.ensures ∙ ap (λ (x : TypedName). x.name.name) (sym c.index-constants-place.is) ∙ sym (named-constant d.constants p.objects c.args.object t l m)

pub returns-in-Some : goal.returns-in-Some
returns-in-Some c =
    let d = c.args.self.now.typed.now.domain in
    let p = c.args.self.now.typed.now.problem in
    let t = c.in-Some.named.now in
    let n : length c.as_slice-constants.result.now ≡ length d.constants = ap length c.as_slice-constants.ensures in
    let m : length c.as_slice.result.now ≡ length p.objects = ap length c.as_slice.ensures in
    let i : c.args.object - length c.as_slice-constants.result.now ≡ c.args.object - length d.constants = ap (λ k. c.args.object - k) n in
    let l : c.args.object - length d.constants < length p.objects = omega (arith, c.in-Some.ensures.lookup.3.0) in
    let e = c.in-Some.ensures.lookup.1 ∙ ap (λ ts. get_or ts (c.args.object - length c.as_slice-constants.result.now) t) c.as_slice.ensures ∙ ap (λ j. get_or p.objects j t) i in
    c.bytes-in-Some.ensures ∙ sym (named-object d.constants p.objects c.args.object t (omega (arith, n, c.if-place-constants.false)) l e)
