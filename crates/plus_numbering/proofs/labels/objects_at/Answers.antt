use Rattle.std.proofs.Common.{◌∙◌, ◌/◌, ◌%◌, [], ◌∷◌, ◌++◌, ap, sym, ◌+◌, length, get_or, drop, append_assoc, arith}
use Rattle.std.specs.List.{position_or_len}
use Rattle.std.specs.Str.{bytes_eq}
use Rattle.std.proofs.lemmas.List.{length-map}
use Rattle.plus_tree.specs.declared.terms.TypedName.{TypedName}
use Rattle.plus_types.specs.Faults.{problem_context}
use Rattle.plus_expansion.specs.Objects.{members_of, extents_of, tuples}
use Rattle.plus_numbering.proofs.TupleLemmas.{parted}
use Rattle.plus_numbering.proofs.KindLemmas.{number-at}
use Rattle.plus_numbering.proofs.labels.objects_at.Goals as goal

pub bounds-kinds-i : goal.bounds-kinds-i
bounds-kinds-i c = omega (arith, c.params-test.true, ap length c.requires.kinds, length-map c.args.params.now (λ (x : TypedName). position_or_len (bytes_eq x.kind.name) c.args.extents.now.names))

pub numbered-extent-requires : goal.numbered-extent-requires
numbered-extent-requires c =
    let names = c.args.extents.now.names in
    number-at names c.args.kinds.now c.args.params.now c.params.i c.index-params-i.result c.requires.kinds (omega (arith, c.params-test.true)) c.index-params-i.is
    ∙ ap (λ bs. position_or_len (bytes_eq bs) names) (sym c.bytes.ensures)

pub nonzero_div-left : goal.nonzero_div-left
nonzero_div-left c =
    let C = problem_context c.args.extents.now.typed.now.domain c.args.extents.now.typed.now.problem in
    let p = c.index-params-i.result in
    (parted C c.args.params.now c.params.i p c.numbered-extent.result.now c.params.step c.params.left (omega (arith, c.params-test.true)) c.index-params-i.is
    (c.numbered-extent.ensures.members ∙ ap (members_of C) c.bytes.ensures) c.params.invariant.many c.params.invariant.within).some

pub bounds-extent-left : goal.bounds-extent-left
bounds-extent-left c =
    let C = problem_context c.args.extents.now.typed.now.domain c.args.extents.now.typed.now.problem in
    let p = c.index-params-i.result in
    (parted C c.args.params.now c.params.i p c.numbered-extent.result.now c.params.step c.params.left (omega (arith, c.params-test.true)) c.index-params-i.is
    (c.numbered-extent.ensures.members ∙ ap (members_of C) c.bytes.ensures) c.params.invariant.many c.params.invariant.within).within

pub nonzero_rem-left : goal.nonzero_rem-left
nonzero_rem-left c =
    let C = problem_context c.args.extents.now.typed.now.domain c.args.extents.now.typed.now.problem in
    let p = c.index-params-i.result in
    (parted C c.args.params.now c.params.i p c.numbered-extent.result.now c.params.step c.params.left (omega (arith, c.params-test.true)) c.index-params-i.is
    (c.numbered-extent.ensures.members ∙ ap (members_of C) c.bytes.ensures) c.params.invariant.many c.params.invariant.within).some

pub params-preserved : goal.params-preserved
params-preserved c =
    let C = problem_context c.args.extents.now.typed.now.domain c.args.extents.now.typed.now.problem in
    let p = c.index-params-i.result in
    let extent = c.numbered-extent.result.now in
    let q = parted C c.args.params.now c.params.i p extent c.params.step c.params.left (omega (arith, c.params-test.true)) c.index-params-i.is
    (c.numbered-extent.ensures.members ∙ ap (members_of C) c.bytes.ensures) c.params.invariant.many c.params.invariant.within in
    let step = c.params.step / length extent in
    let more = get_or (tuples (extents_of C (drop (c.params.i + 1) c.args.params.now))) (c.params.left % step) [] in
    record {
      many = q.many;
      within = q.below;
      found = ap (λ xs. xs ++ more) c.in_ok-push.ensures.items ∙ append_assoc c.params.objects.items (get_or extent (c.params.left / step) 0 ∷ []) more
          ∙ ap (λ xs. c.params.objects.items ++ xs) (sym q.found) ∙ c.params.invariant.found;
    }
