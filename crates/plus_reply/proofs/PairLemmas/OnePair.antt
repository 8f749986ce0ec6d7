-- Two texts spell one pair or are refused for one reason, and not both.
use Rattle.std.proofs.Common.{◌≡◌, ℕ, ◌≤◌, ◌<◌, List, [], length, Some, subst, sym, ◌∙◌, ap, arith}
use Rattle.plus_tree.specs.declared.trees.Domain.{Domain}
use Rattle.plus_tree.specs.declared.trees.Problem.{Problem}
use Rattle.plus_parser.specs.SpellsDomain.{SpellsWithin}
use Rattle.plus_parser.specs.SpellsProblem.{SpellsProblemWithin}
use Rattle.plus_parser.proofs.Wholes.{one_domain_only, one_problem_only}
use Rattle.plus_grammar.specs.Texts.{IsDomainText, IsProblemText}
use Rattle.plus_grammar.proofs.Texts.{domain_texts, problem_texts}
use Rattle.plus_places.proofs.Domains as domains
use Rattle.plus_places.proofs.Problems as problems
use Rattle.plus_types.specs.declared.faults.TypeFault.{TypeFault}
use Rattle.plus_types.specs.declared.faults.TypeFault.TheVariants as types
use Rattle.plus_types.specs.Faults.{type_faults, IsFirstFault}
use Rattle.plus_typing.proofs.Typed.{well_typed_by_statements}
use Rattle.plus_reply.proofs.PairLemmas.LawLemmas.{read_domain_place, read_problem_place, first_unmet_is_first_fault}
use Rattle.plus_report.specs.declared.refusals.Early.{Early}
use Rattle.plus_report.specs.declared.refusals.Text.TheVariants as texts
use Rattle.plus_reply.specs.declared.pair.pair.Refusal.TheVariants as refusals
use Rattle.plus_reply.specs.Pair.Pair.{depth_limit, text_refusal, type_refusal, DomainRefused, long_domain, no_domain, ProblemRefused, long_problem, no_problem, SpellsPair, SpellsWellTyped, PairRefused, by_domain, by_problem, by_types}
use Rattle.plus_io.specs.Limits.{text_limit}

over : (n : ℕ) → text_limit < n → n ≤ text_limit → ⊥
over n a b = absurd (omega arith)

early_once : (a b : Early) → refusals.Early a ≡ refusals.Early b → a ≡ b
early_once a b e = cc e

-- ---- one text

-- a text spells one domain, whatever depth is allowed
domain_read_once : (text : List ℕ) (d e : Domain) → SpellsWithin depth_limit text d → SpellsWithin depth_limit text e → d ≡ e
domain_read_once text d e (ts, is, t, w) (us, js, u, x) = one_domain_only text d e (ts, is, t) (us, js, u)

pub domain_spelled_once : (text : List ℕ) (d e : Domain) → IsDomainText depth_limit text d → IsDomainText depth_limit text e → d ≡ e
domain_spelled_once text d e h k =
    domain_read_once text d e ((domain_texts depth_limit text d).1 h) ((domain_texts depth_limit text e).1 k)

problem_read_once : (text : List ℕ) (p q : Problem) → SpellsProblemWithin depth_limit text p → SpellsProblemWithin depth_limit text q → p ≡ q
problem_read_once text p q (ts, is, t, w) (us, js, u, x) = one_problem_only text p q (ts, is, t) (us, js, u)

pub problem_spelled_once : (text : List ℕ) (p q : Problem) → IsProblemText depth_limit text p → IsProblemText depth_limit text q → p ≡ q
problem_spelled_once text p q h k =
    problem_read_once text p q ((problem_texts depth_limit text p).1 h) ((problem_texts depth_limit text q).1 k)

pub domain_refused_once : (text : List ℕ) (e f : Early) → DomainRefused text e → DomainRefused text f → e ≡ f
domain_refused_once text e f (long_domain l i) (long_domain m j) = i ∙ sym j
domain_refused_once text e f (long_domain l i) (no_domain fault w n place j) = absurd (over (length text) l w)
domain_refused_once text e f (no_domain fault w n place i) (long_domain m j) = absurd (over (length text) m w)
domain_refused_once text e f (no_domain fault w n place i) (no_domain fault' w' n' place' j) =
    let same : fault ≡ fault' = domains.one_place depth_limit text fault fault' (omega arith) (read_domain_place depth_limit text fault place) (read_domain_place depth_limit text fault' place') in
    early_once e f (sym i ∙ ap (text_refusal texts.Domain (length text)) same ∙ j)

pub problem_refused_once : (text : List ℕ) (e f : Early) → ProblemRefused text e → ProblemRefused text f → e ≡ f
problem_refused_once text e f (long_problem l i) (long_problem m j) = i ∙ sym j
problem_refused_once text e f (long_problem l i) (no_problem fault w n place j) = absurd (over (length text) l w)
problem_refused_once text e f (no_problem fault w n place i) (long_problem m j) = absurd (over (length text) m w)
problem_refused_once text e f (no_problem fault w n place i) (no_problem fault' w' n' place' j) =
    let same : fault ≡ fault' = problems.one_place depth_limit text fault fault' (omega arith) (read_problem_place depth_limit text fault place) (read_problem_place depth_limit text fault' place') in
    early_once e f (sym i ∙ ap (text_refusal texts.Problem (length text)) same ∙ j)

-- no text is refused and spells a tree
pub domain_or_not : (text : List ℕ) (e : Early) (d : Domain) → DomainRefused text e → length text ≤ text_limit → IsDomainText depth_limit text d → ⊥
domain_or_not text e d (long_domain l i) w sp = over (length text) l w
domain_or_not text e d (no_domain fault v n place i) w sp = n d sp

pub problem_or_not : (text : List ℕ) (e : Early) (p : Problem) → ProblemRefused text e → length text ≤ text_limit → IsProblemText depth_limit text p → ⊥
problem_or_not text e p (long_problem l i) w sp = over (length text) l w
problem_or_not text e p (no_problem fault v n place i) w sp = n p sp

-- ---- one pair

pub pair_once : (ds ps : List ℕ) (d d' : Domain) (p p' : Problem) → SpellsPair ds ps d p → SpellsPair ds ps d' p' → (d ≡ d') × (p ≡ p')
pair_once ds ps d d' p p' a b =
    (domain_spelled_once ds d d' a.domain_spelled b.domain_spelled, problem_spelled_once ps p p' a.problem_spelled b.problem_spelled)

first_fault_once : (faults : List TypeFault) (a b : TypeFault) (e f : Early) → IsFirstFault faults a → IsFirstFault faults b → type_refusal a ≡ refusals.Early e → type_refusal b ≡ refusals.Early f → e ≡ f
first_fault_once faults types.Memory b e f h k i j = cc i
first_fault_once faults (types.At wrong file span) types.Memory e f h k i j = cc j
first_fault_once faults (types.At wrong file span) (types.At wrong' file' span') e f h k i j =
    let some : Some (types.At wrong file span) ≡ Some (types.At wrong' file' span') = sym h ∙ k in
    let same : types.At wrong file span ≡ types.At wrong' file' span' = cc some in
    early_once e f (sym i ∙ ap type_refusal same ∙ j)

pub pair_refused_once : (ds ps : List ℕ) (e f : Early) → PairRefused ds ps e → PairRefused ds ps f → e ≡ f
pair_refused_once ds ps e f (by_domain a) (by_domain b) = domain_refused_once ds e f a b
pair_refused_once ds ps e f (by_domain a) (by_problem d w sp b) = absurd (domain_or_not ds e d a w sp)
pair_refused_once ds ps e f (by_domain a) (by_types d p w l s sp b i) = absurd (domain_or_not ds e d a sp.domain_within sp.domain_spelled)
pair_refused_once ds ps e f (by_problem d w sp a) (by_domain b) = absurd (domain_or_not ds f d b w sp)
pair_refused_once ds ps e f (by_problem d w sp a) (by_problem d' w' sp' b) = problem_refused_once ps e f a b
pair_refused_once ds ps e f (by_problem d w sp a) (by_types d' p w' l' s' sp' b i) = absurd (problem_or_not ps e p a sp'.problem_within sp'.problem_spelled)
pair_refused_once ds ps e f (by_types d p w l s sp a i) (by_domain b) = absurd (domain_or_not ds f d b sp.domain_within sp.domain_spelled)
pair_refused_once ds ps e f (by_types d p w l s sp a i) (by_problem d' w' sp' b) = absurd (problem_or_not ps f p b sp.problem_within sp.problem_spelled)
pair_refused_once ds ps e f (by_types d p w l s sp a i) (by_types d' p' w' l' s' sp' b j) =
    let same = pair_once ds ps d d' p p' sp sp' in
    let faults : type_faults d' p' ≡ type_faults d p = ap (λ x. type_faults x p') (sym same.0) ∙ ap (λ x. type_faults d x) (sym same.1) in
    let first = first_unmet_is_first_fault d p w l s a in
    let second = subst (λ xs. IsFirstFault xs (types.At w' l' s')) faults (first_unmet_is_first_fault d' p' w' l' s' b) in
    first_fault_once (type_faults d p) (types.At w l s) (types.At w' l' s') e f first second i j

no_first : (fault : TypeFault) (e : Early) → IsFirstFault [] fault → type_refusal fault ≡ refusals.Early e → ⊥
no_first types.Memory e h i = cc i
no_first (types.At wrong file span) e h i = cc h

-- no pair is refused and well typed
pub pair_or_not : (ds ps : List ℕ) (e : Early) (d : Domain) (p : Problem) → PairRefused ds ps e → SpellsWellTyped ds ps d p → ⊥
pair_or_not ds ps e d p (by_domain a) t = domain_or_not ds e d a t.spelled.domain_within t.spelled.domain_spelled
pair_or_not ds ps e d p (by_problem d' w sp a) t = problem_or_not ps e p a t.spelled.problem_within t.spelled.problem_spelled
pair_or_not ds ps e d p (by_types d' p' w l s sp a i) t =
    let same = pair_once ds ps d' d p' p sp t.spelled in
    let none : type_faults d' p' ≡ [] = ap (λ x. type_faults x p') same.0 ∙ ap (λ x. type_faults d x) same.1 ∙ (well_typed_by_statements d p).1 t.well_typed in
    no_first (types.At w l s) e (subst (λ xs. IsFirstFault xs (types.At w l s)) none (first_unmet_is_first_fault d' p' w l s a)) i
