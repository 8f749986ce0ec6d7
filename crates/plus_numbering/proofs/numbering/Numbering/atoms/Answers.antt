use Rattle.std.proofs.Common.{◌≡◌, ◌∙◌, ap, length, get_or, arith}
use Rattle.std.proofs.lemmas.List.{get_or_read}
use Rattle.plus_types.specs.Faults.{problem_context}
use Rattle.plus_expansion.specs.Numbers.{ground_names}
use Rattle.plus_numbering.proofs.SizeLemmas.{length-starts}
use Rattle.plus_numbering.proofs.NumberLemmas.{all-starts}
use Rattle.plus_numbering.proofs.CountLemmas.{few-atoms}
use Rattle.plus_numbering.proofs.numbering.Numbering.atoms.Goals as goal

pub index-requires : goal.index-requires
index-requires c =
    let s = c.args.self.now in
    let C = problem_context s.typed.now.domain s.typed.now.problem in
    let H = s.typed.now.domain.predicates in
    let l = ap length s.atoms_are ∙ length-starts C 0 H in
    let m : length c.as_slice.result.now ≡ length H = ap length c.as_slice.ensures in
    omega (arith, l, m, s.atoms.ok.0)

pub returns-clause-count : goal.returns-clause-count
returns-clause-count c =
    let s = c.args.self.now in
    let C = problem_context s.typed.now.domain s.typed.now.problem in
    let H = s.typed.now.domain.predicates in
    let l = ap length s.atoms_are ∙ length-starts C 0 H in
    let m : length c.as_slice.result.now ≡ length H = ap length c.as_slice.ensures in
    let r = get_or_read s.atoms.items _ _ (omega (arith, l, m)) c.index.ensures 0 in
    r ∙ ap (λ i. get_or s.atoms.items i 0) m ∙ all-starts C H s.atoms.items s.atoms_are

pub returns-clause-few : goal.returns-clause-few
returns-clause-few c =
    let s = c.args.self.now in
    let C = problem_context s.typed.now.domain s.typed.now.problem in
    let H = s.typed.now.domain.predicates in
    let l = ap length s.atoms_are ∙ length-starts C 0 H in
    let m : length c.as_slice.result.now ≡ length H = ap length c.as_slice.ensures in
    let r = get_or_read s.atoms.items _ _ (omega (arith, l, m)) c.index.ensures 0 in
    let n : c.index.result.now ≡ length (ground_names C H) = r ∙ ap (λ i. get_or s.atoms.items i 0) m ∙ all-starts C H s.atoms.items s.atoms_are in
    omega (arith, n, few-atoms C s.within)
