use Rattle.std.proofs.Common.{◌∙◌, ◌+◌, ◌++◌, ap, sym, length, drop, map, append_assoc, arith, ℕ, Vec, Global}
use Rattle.std.proofs.lemmas.List.{length-map}
use Rattle.plus_tree.specs.declared.trees.Head.{Head}
use Rattle.plus_types.specs.Faults.{problem_context}
use Rattle.plus_expansion.specs.Objects.{extents_of, tuples, object_names}
use Rattle.plus_expansion.specs.Numbers.{label_of, ground_labels}
use Rattle.plus_numbering.proofs.SizeLemmas.{length-starts, heads-step}
use Rattle.plus_numbering.proofs.NumberLemmas.{own-starts, starts-rise}
use Rattle.plus_numbering.specs.Tables.{list_numbers}
use Rattle.plus_numbering.proofs.KindLemmas.{kinds-at}
use Rattle.plus_numbering.proofs.labels.labels.Goals as goal

pub bounds-starts-i : goal.bounds-starts-i
bounds-starts-i c =
    let C = problem_context c.args.extents.now.typed.now.domain c.args.extents.now.typed.now.problem in
    omega (arith, ap length c.requires.starts, length-starts C 0 c.args.heads.now, c.heads-test.true)

pub bounds-starts-i-in-heads : goal.bounds-starts-i-in-heads
bounds-starts-i-in-heads c =
    let C = problem_context c.args.extents.now.typed.now.domain c.args.extents.now.typed.now.problem in
    omega (arith, ap length c.requires.starts, length-starts C 0 c.args.heads.now, c.heads-test.true)

pub overflow_sub-size : goal.overflow_sub-size
overflow_sub-size c =
    let C = problem_context c.args.extents.now.typed.now.domain c.args.extents.now.typed.now.problem in
    starts-rise C c.args.heads.now c.args.starts.now c.heads.i c.requires.starts c.heads-test.true

pub add_labels-requires-clause-size : goal.add_labels-requires-clause-size
add_labels-requires-clause-size c =
    let C = problem_context c.args.extents.now.typed.now.domain c.args.extents.now.typed.now.problem in
    let own = own-starts C c.args.heads.now c.args.starts.now c.heads.i c.index-heads-i.result c.requires.starts c.heads-test.true c.index-heads-i.is in
    omega (arith, own)

pub bounds-kinds-i : goal.bounds-kinds-i
bounds-kinds-i c =
    let names = c.args.extents.now.names in
    omega (arith, c.heads-test.true, ap length c.requires.kinds, length-map c.args.kinds.now (λ (v : Vec ℕ Global). v.items), length-map c.args.heads.now (λ (x : Head). list_numbers names x.params))

pub add_labels-requires-clause-kinds : goal.add_labels-requires-clause-kinds
add_labels-requires-clause-kinds c =
    c.deref.ensures.value ∙ kinds-at c.args.extents.now.names c.args.kinds.now c.args.heads.now c.heads.i c.index-kinds-i.result c.index-heads-i.result
    c.requires.kinds c.heads-test.true c.index-kinds-i.is c.index-heads-i.is

pub heads-preserved : goal.heads-preserved
heads-preserved c =
    let C = problem_context c.args.extents.now.typed.now.domain c.args.extents.now.typed.now.problem in
    let h = c.index-heads-i.result in
    let rest = ground_labels C (drop (c.heads.i + 1) c.args.heads.now) in
    let mine = map (λ t. label_of h.name.name (object_names C t)) (tuples (extents_of C h.params)) in
    let step = heads-step c.args.heads.now c.heads.i h c.heads-test.true c.index-heads-i.is in
    ap (λ xs. xs ++ rest) c.in_ok-add_labels.ensures ∙ append_assoc c.heads.labels.items mine rest
    ∙ ap (λ hs. c.heads.labels.items ++ ground_labels C hs) (sym step) ∙ c.heads.invariant
