use Rattle.std.proofs.Common.{◌∙◌, sym, map, Vec, Global, ℕ, arith}
use Rattle.plus_numbering.proofs.PutLemmas.{place-some, places-at, places-none, shown-at, places-out, unnamed}
use Rattle.plus_numbering.proofs.extents.places.Goals as goal

pub returns-in-None : goal.returns-in-None
returns-in-None c =
    sym (places-none c.args.names.now (map (λ (v : Vec ℕ Global). v.items) c.args.lists.now.items) c.args.kind.now (unnamed c.args.names.now c.args.kind.now c.in-None.ensures.place))

pub returns-then-place-len : goal.returns-then-place-len
returns-then-place-len c =
    let ls = c.args.lists.now.items in
    let at = places-at c.args.names.now (map (λ (v : Vec ℕ Global). v.items) ls) c.args.kind.now c.in-Some.place (place-some c.args.names.now c.args.kind.now c.in-Some.place c.in-Some.ensures.place) in
    c.as_slice.ensures.value ∙ sym (at ∙ shown-at ls c.in-Some.place c.index.result.now (omega (arith, c.if-place-len.true, c.len.ensures)) c.index.ensures)

pub returns-else-place-len : goal.returns-else-place-len
returns-else-place-len c =
    let ls = c.args.lists.now.items in
    let at = places-at c.args.names.now (map (λ (v : Vec ℕ Global). v.items) ls) c.args.kind.now c.in-Some.place (place-some c.args.names.now c.args.kind.now c.in-Some.place c.in-Some.ensures.place) in
    sym (at ∙ places-out ls c.in-Some.place (omega (arith, c.if-place-len.false, c.len.ensures)))
