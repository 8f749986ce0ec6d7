use Rattle.std.proofs.Common.{◌≡◌, ◌∙◌, ◌<◌, ℕ, Vec, Global, ap, sym, map, length, arith}
use Rattle.std.specs.Str.{bytes_eq}
use Rattle.plus_types.specs.Types.{bindings_of, objects_of}
use Rattle.plus_types.specs.Faults.{problem_context}
use Rattle.plus_expansion.specs.Objects.{members_of}
use Rattle.plus_numbering.proofs.PutLemmas.{place-some, places-at, shown-at}
use Rattle.plus_expansion.proofs.ObjectsLemmas.{length-places, length-bindings}
use Rattle.plus_numbering.proofs.KindLemmas.{position-within}
use Rattle.plus_numbering.proofs.extents.Extents.numbered.Goals as goal

pub returns-then-number-len-clause-members : goal.returns-then-number-len-clause-members
returns-then-number-len-clause-members c =
    let s = c.args.self.now in
    let ls = s.lists.items in
    let kind = c.args.kind.now in
    let i = c.args.number in
    let l : i < length ls = omega (arith, c.if-number-len.true, c.len.ensures) in
    let some = position-within (bytes_eq kind) s.names i c.requires (omega (arith, s.sizes)) in
    let at = places-at s.names (map (λ (v : Vec ℕ Global). v.items) ls) kind i (place-some s.names kind i some) in
    c.as_slice.ensures.value ∙ sym (at ∙ shown-at ls i c.index.result.now l c.index.ensures) ∙ s.lists_are kind

pub returns-then-number-len-clause-few : goal.returns-then-number-len-clause-few
returns-then-number-len-clause-few c =
    let s = c.args.self.now in
    let d = s.typed.now.domain in
    let p = s.typed.now.problem in
    let ls = s.lists.items in
    let kind = c.args.kind.now in
    let i = c.args.number in
    let l : i < length ls = omega (arith, c.if-number-len.true, c.len.ensures) in
    let some = position-within (bytes_eq kind) s.names i c.requires (omega (arith, s.sizes)) in
    let at = places-at s.names (map (λ (v : Vec ℕ Global). v.items) ls) kind i (place-some s.names kind i some) in
    let e : c.as_slice.result.now ≡ members_of (problem_context d p) kind =
    c.as_slice.ensures.value ∙ sym (at ∙ shown-at ls i c.index.result.now l c.index.ensures) ∙ s.lists_are kind in
    let m = length-places (bindings_of d.types) kind 0 (bindings_of (objects_of d p)) in
    let n = length-bindings (objects_of d p) in
    omega (arith, ap length e, m, n, s.few)
