use Rattle.std.proofs.Common.{◌≡◌, ◌∙◌, ◌≤◌, ap, sym, length, arith}
use Rattle.std.specs.List.{position_or_len}
use Rattle.std.specs.Str.{bytes_eq}
use Rattle.std.proofs.lemmas.List.{length-map}
use Rattle.plus_tree.specs.declared.terms.TypedName.{TypedName}
use Rattle.plus_types.specs.Faults.{problem_context}
use Rattle.plus_types.proofs.TypesLemmas.{drop-past}
use Rattle.plus_expansion.specs.Objects.{members_of, extents_of, tuples}
use Rattle.plus_numbering.proofs.RankLemmas.{placed-start, placed-end, nowhere-other}
use Rattle.plus_expansion.proofs.Places.{place-below}
use Rattle.plus_numbering.proofs.RankSteps.{members-order, rank-few, rank-found, rank-lost, length-extents}
use Rattle.plus_numbering.proofs.KindLemmas.{number-at}
use Rattle.plus_numbering.proofs.numbers.rank.Goals as goal
use Rattle.plus_numbering.proofs.numbers.rank.Goals.{then-size-eq0-via-then-size-eq0, then-size-eq0-via-else-size-eq0+then-objects-params}

pub returns-then-size-eq0 : goal.returns-then-size-eq0
returns-then-size-eq0 c =
    let C = problem_context c.args.extents.now.typed.now.domain c.args.extents.now.typed.now.problem in
    let xss = extents_of C c.args.params.now in
    let os = c.args.objects.now in
    let size : c.args.size ≡ length (tuples xss) = c.requires.size in
    let low : position_or_len (bytes_eq os) (tuples xss) ≤ length (tuples xss) = place-below (bytes_eq os) (tuples xss) in
    elim c.then-size-eq0.branch [
      | then-size-eq0-via-then-size-eq0 w ↦ omega (arith, w.if-size-eq0.true, low, size)
      | then-size-eq0-via-else-size-eq0+then-objects-params w ↦
          let many : length xss ≡ length c.args.params.now = length-extents C c.args.params.now in
          size ∙ sym (nowhere-other xss os (λ e. w.if-objects-params.true (e ∙ many)))
    ]

pub params-init : goal.params-init
params-init c =
    let C = problem_context c.args.extents.now.typed.now.domain c.args.extents.now.typed.now.problem in
    record { found = placed-start c.args.size (extents_of C c.args.params.now) c.args.objects.now c.requires.size; some = omega arith; few = omega arith }

pub overflow_mul-rank : goal.overflow_mul-rank
overflow_mul-rank c =
    let C = problem_context c.args.extents.now.typed.now.domain c.args.extents.now.typed.now.problem in
    let p = c.index-params-i.result in
    let extent = c.numbered-extent.result.now in
    let e : extent ≡ members_of C p.kind.name = c.numbered-extent.ensures.members ∙ ap (members_of C) c.bytes.ensures in
    let s = c.in-Some.ensures in
    let f = rank-few C c.args.params.now c.params.i p extent c.params.rank c.in-Some.place c.args.size (omega arith) c.index-params-i.is e s.0 c.params.invariant.some c.params.invariant.few in
    omega (arith, f.fits)

pub overflow_add-rank : goal.overflow_add-rank
overflow_add-rank c =
    let C = problem_context c.args.extents.now.typed.now.domain c.args.extents.now.typed.now.problem in
    let p = c.index-params-i.result in
    let extent = c.numbered-extent.result.now in
    let e : extent ≡ members_of C p.kind.name = c.numbered-extent.ensures.members ∙ ap (members_of C) c.bytes.ensures in
    let s = c.in-Some.ensures in
    let f = rank-few C c.args.params.now c.params.i p extent c.params.rank c.in-Some.place c.args.size (omega arith) c.index-params-i.is e s.0 c.params.invariant.some c.params.invariant.few in
    omega (arith, f.fits)

pub numbered-extent-requires : goal.numbered-extent-requires
numbered-extent-requires c =
    let names = c.args.extents.now.names in
    number-at names c.args.kinds.now c.args.params.now c.params.i c.index-params-i.result c.requires.kinds (omega arith) c.index-params-i.is
    ∙ ap (λ bs. position_or_len (bytes_eq bs) names) (sym c.bytes.ensures)

pub bounds-kinds-i : goal.bounds-kinds-i
bounds-kinds-i c = omega (arith, ap length c.requires.kinds, length-map c.args.params.now (λ (x : TypedName). position_or_len (bytes_eq x.kind.name) c.args.extents.now.names))

pub place_in-requires : goal.place_in-requires
place_in-requires c =
    let C = problem_context c.args.extents.now.typed.now.domain c.args.extents.now.typed.now.problem in
    let p = c.index-params-i.result in
    members-order C p.kind.name c.numbered-extent.result.now (c.numbered-extent.ensures.members ∙ ap (members_of C) c.bytes.ensures)

pub returns-in-None : goal.returns-in-None
returns-in-None c =
    let C = problem_context c.args.extents.now.typed.now.domain c.args.extents.now.typed.now.problem in
    let p = c.index-params-i.result in
    let extent = c.numbered-extent.result.now in
    let e : extent ≡ members_of C p.kind.name = c.numbered-extent.ensures.members ∙ ap (members_of C) c.bytes.ensures in
    sym (c.params.invariant.found ∙ rank-lost C c.args.params.now c.args.objects.now c.params.i p extent c.params.rank c.args.size (omega arith) (omega arith) c.index-params-i.is e c.in-None.ensures)

pub params-preserved : goal.params-preserved
params-preserved c =
    let C = problem_context c.args.extents.now.typed.now.domain c.args.extents.now.typed.now.problem in
    let p = c.index-params-i.result in
    let extent = c.numbered-extent.result.now in
    let e : extent ≡ members_of C p.kind.name = c.numbered-extent.ensures.members ∙ ap (members_of C) c.bytes.ensures in
    let s = c.in-Some.ensures in
    let f = rank-few C c.args.params.now c.params.i p extent c.params.rank c.in-Some.place c.args.size (omega arith) c.index-params-i.is e s.0 c.params.invariant.some c.params.invariant.few in
    record {
      found = c.params.invariant.found ∙ rank-found C c.args.params.now c.args.objects.now c.params.i p extent c.params.rank c.in-Some.place c.args.size (omega arith) (omega arith) c.index-params-i.is e s.0 s.1;
      some = f.some;
      few = f.few;
    }

pub returns : goal.returns
returns c =
    let C = problem_context c.args.extents.now.typed.now.domain c.args.extents.now.typed.now.problem in
    let ps = drop-past c.args.params.now c.params.i (omega arith) in
    let os = drop-past c.args.objects.now c.params.i (omega arith) in
    let found = rw (ps, os) at c.params.invariant.found in
    sym (found ∙ placed-end c.args.size c.params.rank)
