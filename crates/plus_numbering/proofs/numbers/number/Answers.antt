use Rattle.std.proofs.Common.{◌≡◌, ◌∙◌, ◌<◌, ℕ, Vec, Global, ap, sym, length, arith, rules}
use Rattle.std.specs.List.{position_or_len}
use Rattle.std.specs.Str.{bytes_eq}
use Rattle.std.proofs.lemmas.List.{length-map}
use Rattle.plus_tree.specs.declared.trees.Head.{Head}
use Rattle.plus_types.specs.Faults.{problem_context}
use Rattle.plus_expansion.specs.Objects.{extents_of, tuples}
use Rattle.plus_expansion.specs.Numbers.{head_names}
use Rattle.plus_numbering.specs.Tables.{list_numbers}
use Rattle.plus_numbering.proofs.SizeLemmas.{length-starts}
use Rattle.plus_numbering.proofs.KindLemmas.{kinds-at}
use Rattle.plus_numbering.proofs.NumberLemmas.{all-starts, own-starts, starts-rise, number-none, number-found, number-nowhere}
use Rattle.plus_expansion.proofs.GroundNames.{length-names}
use Rattle.plus_numbering.proofs.numbers.number.Goals as goal

pub bounds-starts-declared : goal.bounds-starts-declared
bounds-starts-declared c =
    let C = problem_context c.args.extents.now.typed.now.domain c.args.extents.now.typed.now.problem in
    omega (arith, ap length c.requires.starts, length-starts C 0 c.args.declared.now.heads.now)

pub returns-in-None : goal.returns-in-None
returns-in-None c =
    let C = problem_context c.args.extents.now.typed.now.domain c.args.extents.now.typed.now.problem in
    let same : c.args.declared.now.names.now ≡ head_names c.args.declared.now.heads.now = search rules in
    all-starts C c.args.declared.now.heads.now c.args.starts.now c.requires.starts
    ∙ sym (number-none C c.args.declared.now.heads.now c.args.name.now c.args.objects.now c.args.declared.now.names.now same (sym c.in-None.ensures.place))

pub bounds-starts-place : goal.bounds-starts-place
bounds-starts-place c =
    let C = problem_context c.args.extents.now.typed.now.domain c.args.extents.now.typed.now.problem in
    let same : c.args.declared.now.names.now ≡ head_names c.args.declared.now.heads.now = search rules in
    omega (arith, ap length c.requires.starts, length-starts C 0 c.args.declared.now.heads.now, ap length same, length-names c.args.declared.now.heads.now, c.in-Some.ensures.within)

pub bounds-starts-place-in-Some : goal.bounds-starts-place-in-Some
bounds-starts-place-in-Some c =
    let C = problem_context c.args.extents.now.typed.now.domain c.args.extents.now.typed.now.problem in
    let same : c.args.declared.now.names.now ≡ head_names c.args.declared.now.heads.now = search rules in
    omega (arith, ap length c.requires.starts, length-starts C 0 c.args.declared.now.heads.now, ap length same, length-names c.args.declared.now.heads.now, c.in-Some.ensures.within)

pub overflow_sub-size : goal.overflow_sub-size
overflow_sub-size c =
    let C = problem_context c.args.extents.now.typed.now.domain c.args.extents.now.typed.now.problem in
    let H = c.args.declared.now.heads.now in
    let same : c.args.declared.now.names.now ≡ head_names H = search rules in
    let l : c.in-Some.place < length H = omega (arith, ap length same, length-names H, c.in-Some.ensures.within) in
    starts-rise C H c.args.starts.now c.in-Some.place c.requires.starts l

pub rank-rank-requires-clause-size : goal.rank-rank-requires-clause-size
rank-rank-requires-clause-size c =
    let C = problem_context c.args.extents.now.typed.now.domain c.args.extents.now.typed.now.problem in
    let same : c.args.declared.now.names.now ≡ head_names c.args.declared.now.heads.now = search rules in
    let h = c.index-declared-place.result in
    let own = own-starts C c.args.declared.now.heads.now c.args.starts.now c.in-Some.place h c.requires.starts
    (omega (arith, ap length same, length-names c.args.declared.now.heads.now, c.in-Some.ensures.within)) c.index-declared-place.is in
    let ps : c.as_slice.result.now ≡ h.params = c.as_slice.ensures ∙ ap (λ (x : Head). x.params) (sym c.index-declared-place.is) in
    let params : length (tuples (extents_of C c.as_slice.result.now)) ≡ length (tuples (extents_of C h.params)) = ap (λ ps. length (tuples (extents_of C ps))) ps in
    omega (arith, own, params)

pub bounds-kinds-place : goal.bounds-kinds-place
bounds-kinds-place c =
    let H = c.args.declared.now.heads.now in
    let same : c.args.declared.now.names.now ≡ head_names H = search rules in
    omega (
      arith,
      ap length c.requires.kinds,
      length-map c.args.kinds.now (λ (v : Vec ℕ Global). v.items),
      length-map H (λ (x : Head). list_numbers c.args.extents.now.names x.params),
      ap length same,
      length-names H,
      c.in-Some.ensures.within,
    )

pub rank-rank-requires-clause-kinds : goal.rank-rank-requires-clause-kinds
rank-rank-requires-clause-kinds c =
    let H = c.args.declared.now.heads.now in
    let names = c.args.extents.now.names in
    let same : c.args.declared.now.names.now ≡ head_names H = search rules in
    let l : c.in-Some.place < length H = omega (arith, ap length same, length-names H, c.in-Some.ensures.within) in
    let h = c.index-declared-place.result in
    let ps : c.as_slice.result.now ≡ h.params = c.as_slice.ensures ∙ ap (λ (x : Head). x.params) (sym c.index-declared-place.is) in
    c.deref.ensures.value ∙ kinds-at names c.args.kinds.now H c.in-Some.place c.index-kinds-place.result h c.requires.kinds l c.index-kinds-place.is c.index-declared-place.is
    ∙ ap (list_numbers names) (sym ps)

pub returns-then-rank-size : goal.returns-then-rank-size
returns-then-rank-size c =
    let C = problem_context c.args.extents.now.typed.now.domain c.args.extents.now.typed.now.problem in
    let H = c.args.declared.now.heads.now in
    let S = c.args.starts.now in
    let same : c.args.declared.now.names.now ≡ head_names H = search rules in
    let l : c.in-Some.place < length H = omega (arith, ap length same, length-names H, c.in-Some.ensures.within) in
    let h = c.index-declared-place.result in
    let own = own-starts C H S c.in-Some.place h c.requires.starts l c.index-declared-place.is in
    let ps : c.as_slice.result.now ≡ h.params = c.as_slice.ensures ∙ ap (λ (x : Head). x.params) (sym c.index-declared-place.is) in
    let rank = c.rank-rank.ensures ∙ ap (λ ps. position_or_len (bytes_eq c.args.objects.now) (tuples (extents_of C ps))) ps in
    sym (number-found C H S c.args.name.now c.args.objects.now c.args.declared.now.names.now c.in-Some.place c.rank-rank.result h
    c.requires.starts same (sym c.in-Some.ensures.place) l c.index-declared-place.is rank (omega (arith, own, c.if-rank-size.true)))

pub returns-else-rank-size : goal.returns-else-rank-size
returns-else-rank-size c =
    let C = problem_context c.args.extents.now.typed.now.domain c.args.extents.now.typed.now.problem in
    let H = c.args.declared.now.heads.now in
    let S = c.args.starts.now in
    let same : c.args.declared.now.names.now ≡ head_names H = search rules in
    let l : c.in-Some.place < length H = omega (arith, ap length same, length-names H, c.in-Some.ensures.within) in
    let h = c.index-declared-place.result in
    let own = own-starts C H S c.in-Some.place h c.requires.starts l c.index-declared-place.is in
    let ps : c.as_slice.result.now ≡ h.params = c.as_slice.ensures ∙ ap (λ (x : Head). x.params) (sym c.index-declared-place.is) in
    let rank = c.rank-rank.ensures ∙ ap (λ ps. position_or_len (bytes_eq c.args.objects.now) (tuples (extents_of C ps))) ps in
    all-starts C H S c.requires.starts
    ∙ sym (number-nowhere C H c.args.name.now c.args.objects.now c.args.declared.now.names.now c.in-Some.place c.rank-rank.result h
    same (sym c.in-Some.ensures.place) l c.index-declared-place.is rank (omega (arith, own, c.if-rank-size.false)))
