-- Why texts at hand spell no pair, put together from what the calls answer.
use Rattle.std.proofs.Common.{◌≡◌, ℕ, ◌<◌, ◌≤◌, List, Some, arith, refl, length}
use Rattle.plus_io.specs.Faults.{Rose}
use Rattle.plus_tree.specs.declared.faults.TextFault.{TextFault}
use Rattle.plus_tree.specs.declared.trees.Domain.{Domain}
use Rattle.plus_tree.specs.declared.trees.Problem.{Problem}
use Rattle.plus_parser.specs.SpellsDomain.{DomainTokens}
use Rattle.plus_parser.specs.SpellsProblem.{ProblemTokens}
use Rattle.plus_places.specs.Place.{Refuses}
use Rattle.plus_types.specs.declared.faults.TypeFault.{TypeFault}
use Rattle.plus_types.specs.Faults.{type_faults, IsFirstFault}
use Rattle.plus_report.specs.declared.refusals.Text.TheVariants as texts
use Rattle.plus_report.specs.declared.refusals.Early.TheVariants.{TooLong}
use Rattle.plus_reply.specs.declared.pair.pair.Refusal.{Refusal}
use Rattle.plus_reply.specs.declared.pair.pair.Refusal.TheVariants.{Early, ReadFault, NoMemory}
use Rattle.plus_reply.specs.Pair.Pair.{text_refusal, type_refusal, long_domain, long_problem, by_domain, by_problem, SpellsPair}
use Rattle.plus_reply.specs.Pair.Reads.{ReadsDomain, ReadsProblem, NoDomain, NoProblem, NoPair, NotDomain, NotProblem, NotPair}
use Rattle.plus_reply.proofs.PairLemmas.PairLemmas.{domain_refused, problem_refused, pair_by_types, pair_read}

never_rose : Rose 0 0 → ⊥
never_rose h = omega arith

domain_at_hand : (text : List ℕ) (r : Refusal) → NoDomain (Some text) 0 0 r → NotDomain text r
domain_at_hand text (Early e) h = h
domain_at_hand text ReadFault h = never_rose h
domain_at_hand text NoMemory h = tt

problem_at_hand : (text : List ℕ) (r : Refusal) → NoProblem (Some text) 0 0 r → NotProblem text r
problem_at_hand text (Early e) h = h
problem_at_hand text ReadFault h = never_rose h
problem_at_hand text NoMemory h = tt

pair_at_hand : (domain problem : List ℕ) (r : Refusal) → NoPair (Some domain) (Some problem) 0 0 r → NotPair domain problem r
pair_at_hand domain problem (Early e) h = h
pair_at_hand domain problem ReadFault h = never_rose h
pair_at_hand domain problem NoMemory h = tt

pub domain_not :
    (text : List ℕ) (fault : TextFault) (r : Refusal) → length text ≤ 1048576 → Refuses DomainTokens 64 text fault
    → r ≡ text_refusal texts.Domain (length text) fault → NotDomain text r
domain_not text fault r w f e = domain_at_hand text r (domain_refused (Some text) 0 0 text fault r (refl, w) f e)

pub problem_not :
    (text : List ℕ) (fault : TextFault) (r : Refusal) → length text ≤ 1048576 → Refuses ProblemTokens 64 text fault
    → r ≡ text_refusal texts.Problem (length text) fault → NotProblem text r
problem_not text fault r w f e = problem_at_hand text r (problem_refused (Some text) 0 0 text fault r (refl, w) f e)

-- ---- the pair

pub not_by_domain : (domain problem : List ℕ) (r : Refusal) → NotDomain domain r → NotPair domain problem r
not_by_domain domain problem (Early e) h = by_domain h
not_by_domain domain problem ReadFault h = h
not_by_domain domain problem NoMemory h = tt

pub not_by_problem : (domain problem : List ℕ) (d : Domain) (r : Refusal) → ReadsDomain (Some domain) d → NotProblem problem r → NotPair domain problem r
not_by_problem domain problem d (Early e) rd h = by_problem d rd.1 rd.0 h
not_by_problem domain problem d ReadFault rd h = h
not_by_problem domain problem d NoMemory rd h = tt

pub not_by_types :
    (domain problem : List ℕ) (d : Domain) (p : Problem) (fault : TypeFault) (r : Refusal) → ReadsDomain (Some domain) d
    → ReadsProblem (Some problem) p → IsFirstFault (type_faults d p) fault → r ≡ type_refusal fault → NotPair domain problem r
not_by_types domain problem d p fault r rd rp f e =
    pair_at_hand domain problem r (pair_by_types (Some domain) (Some problem) (Some problem) d p 0 0 fault r refl rd rp f e)

pub pair_at_texts :
    (domain problem : List ℕ) (d e : Domain) (p q : Problem) → ReadsDomain (Some domain) d → ReadsProblem (Some problem) p
    → (e ≡ d) × (q ≡ p) → SpellsPair domain problem e q
pair_at_texts domain problem d e p q rd rp is = pair_read (Some domain) (Some problem) (Some problem) d e p q refl rd rp is
