use Rattle.std.proofs.Common.{◌∙◌, ◌≤◌, ℕ, List, map, ap, length, subst, arith}
use Rattle.std.proofs.lemmas.Result.{err_from_is_err_and}
use Rattle.plus_tree.specs.declared.trees.Head.{Head}
use Rattle.plus_types.specs.declared.typed.Typed.{Typed}
use Rattle.plus_types.specs.Faults.{problem_context}
use Rattle.plus_expansion.specs.Numbers.{ground_names}
use Rattle.plus_numbering.specs.Refusals.{IsOver}
use Rattle.plus_numbering.specs.Tables.{starts_from, list_numbers}
use Rattle.plus_expansion.specs.declared.counts.Count.TheVariants.{Atoms, Fluents}
use Rattle.plus_numbering.proofs.CountLemmas.{refuses-atoms, refuses-fluents}
use Rattle.plus_numbering.proofs.numbering.Numbering.new.Goals as goal

pub returns-in_err-atoms-clause-counts : goal.returns-in_err-atoms-clause-counts
returns-in_err-atoms-clause-counts c =
    let p = err_from_is_err_and c.from_residual-in_err-atoms.result c.from_residual-in_err-atoms.ensures.1 in
    let t = c.args.typed.now in
    let C = problem_context t.domain t.problem in
    let few : length C.objects ≤ 10000 = omega (arith, c.len.ensures.len, ap length t.objects_are, c.if-len-gt-MOST_OBJECTS.false) in
    let n = ap (λ (u : Typed). length (ground_names (problem_context u.domain u.problem) c.as_slice-predicates.result.now)) c.in_ok-extents.ensures
    ∙ ap (λ hs. length (ground_names C hs)) c.as_slice-predicates.ensures in
    rw (p.1, p.2) (refuses-atoms C c.in_err-atoms.field-0.0 few (subst (λ (k : ℕ). IsOver Atoms 200000 k c.in_err-atoms.field-0.0) n c.in_err-atoms.ensures.counts))

pub returns-in_err-fluents-clause-counts : goal.returns-in_err-fluents-clause-counts
returns-in_err-fluents-clause-counts c =
    let p = err_from_is_err_and c.from_residual-in_err-fluents.result c.from_residual-in_err-fluents.ensures.1 in
    let t = c.args.typed.now in
    let C = problem_context t.domain t.problem in
    let few : length C.objects ≤ 10000 = omega (arith, c.len.ensures.len, ap length t.objects_are, c.if-len-gt-MOST_OBJECTS.false) in
    let m = ap (λ (u : Typed). length (ground_names (problem_context u.domain u.problem) c.as_slice-predicates.result.now)) c.in_ok-extents.ensures
    ∙ ap (λ hs. length (ground_names C hs)) c.as_slice-predicates.ensures in
    let n = ap (λ (u : Typed). length (ground_names (problem_context u.domain u.problem) c.as_slice-functions.result.now)) c.in_ok-extents.ensures
    ∙ ap (λ hs. length (ground_names C hs)) c.as_slice-functions.ensures in
    let a : length (ground_names C t.domain.predicates) ≤ 200000 = omega (arith, m, c.in_ok-atoms.ensures.counts.1) in
    rw (p.1, p.2) (refuses-fluents C c.in_err-fluents.field-0.0 few a (subst (λ (k : ℕ). IsOver Fluents 50000 k c.in_err-fluents.field-0.0) n c.in_err-fluents.ensures.counts))

pub invariant_of-result-clause-atom_kinds_are : goal.invariant_of-result-clause-atom_kinds_are
invariant_of-result-clause-atom_kinds_are c =
    c.in_ok-atoms.ensures.kinds ∙ ap (λ (hs : List Head). map (λ (h : Head). list_numbers c.in_ok-extents.extents.names h.params) hs) c.as_slice-predicates.ensures

pub invariant_of-result-clause-fluent_kinds_are : goal.invariant_of-result-clause-fluent_kinds_are
invariant_of-result-clause-fluent_kinds_are c =
    c.in_ok-fluents.ensures.kinds ∙ ap (λ (hs : List Head). map (λ (h : Head). list_numbers c.in_ok-extents.extents.names h.params) hs) c.as_slice-functions.ensures

pub invariant_of-result-clause-atoms_are : goal.invariant_of-result-clause-atoms_are
invariant_of-result-clause-atoms_are c =
    let t = c.args.typed.now in
    c.in_ok-atoms.ensures.counts.0 ∙ ap (λ (u : Typed). starts_from (problem_context u.domain u.problem) 0 c.as_slice-predicates.result.now) c.in_ok-extents.ensures
    ∙ ap (λ hs. starts_from (problem_context t.domain t.problem) 0 hs) c.as_slice-predicates.ensures

pub invariant_of-result-clause-fluents_are : goal.invariant_of-result-clause-fluents_are
invariant_of-result-clause-fluents_are c =
    let t = c.args.typed.now in
    c.in_ok-fluents.ensures.counts.0 ∙ ap (λ (u : Typed). starts_from (problem_context u.domain u.problem) 0 c.as_slice-functions.result.now) c.in_ok-extents.ensures
    ∙ ap (λ hs. starts_from (problem_context t.domain t.problem) 0 hs) c.as_slice-functions.ensures
