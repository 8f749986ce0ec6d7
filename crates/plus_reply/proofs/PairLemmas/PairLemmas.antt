-- Why a text, and a pair, is refused, put together from what the calls answer.
use Rattle.std.proofs.Common.{◌≡◌, ℕ, ◌≤◌, List, Option, Some, None, arith, sym, subst, refl, length}
use Rattle.std.specs.Prelude.{IfSome}
use Rattle.plus_tokens.specs.declared.token.LexFault.TheVariants as lex
use Rattle.plus_tree.specs.declared.faults.TextFault.{TextFault}
use Rattle.plus_tree.specs.declared.faults.TextFault.TheVariants as faults
use Rattle.plus_tree.specs.declared.trees.Domain.{Domain}
use Rattle.plus_tree.specs.declared.trees.Problem.{Problem}
use Rattle.plus_parser.specs.SpellsDomain.{DomainTokens}
use Rattle.plus_parser.specs.SpellsProblem.{ProblemTokens}
use Rattle.plus_places.specs.Place.{IsPlace, Refuses}
use Rattle.plus_places.proofs.Domains as domains
use Rattle.plus_places.proofs.Problems as problems
use Rattle.plus_types.specs.declared.faults.TypeFault.{TypeFault}
use Rattle.plus_types.specs.declared.faults.TypeFault.TheVariants as types
use Rattle.plus_types.specs.Faults.{type_faults, IsFirstFault}
use Rattle.plus_types.specs.declared.faults.File.{File}
use Rattle.plus_types.specs.declared.faults.Wrong.{Wrong}
use Rattle.plus_typing.proofs.First.{first_fault_is_first_unmet}
use Rattle.plus_tokens.specs.declared.span.Span.{Span}
use Rattle.plus_parser.specs.SpellsDomain.{SpellsWithin}
use Rattle.plus_parser.specs.SpellsProblem.{SpellsProblemWithin}
use Rattle.plus_grammar.proofs.Texts.{domain_texts, problem_texts}
use Rattle.plus_reply.proofs.PairLemmas.LawLemmas.{domain_place, problem_place}
use Rattle.plus_report.specs.declared.refusals.Text.TheVariants as texts
use Rattle.plus_report.specs.declared.refusals.Early as early
use Rattle.plus_reply.specs.declared.pair.pair.Refusal.{Refusal}
use Rattle.plus_reply.specs.declared.pair.pair.Refusal.TheVariants.{Early, ReadFault, NoMemory}
use Rattle.plus_reply.specs.Pair.Pair.{text_refusal, type_refusal, DomainRefused, no_domain, ProblemRefused, no_problem, PairRefused, by_domain, by_problem, by_types}
use Rattle.plus_reply.specs.Pair.Reads.{ReadsDomain, ReadsProblem, ReadsPair, NoDomain, NoProblem, NoPair}

-- a text that was read whole
abbrev pub WasRead : Option (List ℕ) → List ℕ → Type 0
WasRead bytes text = IfSome bytes (λ bs. (text ≡ bs) × (length bs ≤ 1048576))

-- what was read of it is spelled by it
pub domain_read : (bytes : Option (List ℕ)) (text : List ℕ) (d : Domain) → WasRead bytes text → SpellsWithin 64 text d → ReadsDomain bytes d
domain_read None text d h s = tt
domain_read (Some bs) text d h s = ((domain_texts 64 bs d).0 (subst (λ t. SpellsWithin 64 t d) h.0 s), h.1)

pub problem_read : (bytes : Option (List ℕ)) (text : List ℕ) (p : Problem) → WasRead bytes text → SpellsProblemWithin 64 text p → ReadsProblem bytes p
problem_read None text p h s = tt
problem_read (Some bs) text p h s = ((problem_texts 64 bs p).0 (subst (λ t. SpellsProblemWithin 64 t p) h.0 s), h.1)

domain_line :
    (bytes : Option (List ℕ)) (text : List ℕ) (fault : TextFault) (e : early.Early) → WasRead bytes text
    → IsPlace DomainTokens 64 text fault → text_refusal texts.Domain (length text) fault ≡ Early e
    → IfSome bytes (λ bs. DomainRefused bs e)
domain_line None text fault e h f q = tt
domain_line (Some bs) text fault e h f q =
    let place = subst (λ t. IsPlace DomainTokens 64 t fault) h.0 f in
    no_domain fault h.1 (λ d sp. domains.spells_none 64 bs fault (omega arith) place d ((domain_texts 64 bs d).1 sp)) (domain_place 64 bs fault place) (subst (λ t. text_refusal texts.Domain (length t) fault ≡ Early e) h.0 q)

no_domain_by :
    (bytes : Option (List ℕ)) (b n : ℕ) (text : List ℕ) (fault : TextFault) → WasRead bytes text
    → Refuses DomainTokens 64 text fault → NoDomain bytes b n (text_refusal texts.Domain (length text) fault)
no_domain_by bytes b n text faults.Memory h f = tt
no_domain_by bytes b n text (faults.Lex (lex.BadByte at)) h f = domain_line bytes text (faults.Lex (lex.BadByte at)) _ h f refl
no_domain_by bytes b n text (faults.Lex (lex.TooLong at)) h f = domain_line bytes text (faults.Lex (lex.TooLong at)) _ h f refl
no_domain_by bytes b n text faults.Unclosed h f = domain_line bytes text faults.Unclosed _ h f refl
no_domain_by bytes b n text (faults.Depth at) h f = domain_line bytes text (faults.Depth at) _ h f refl
no_domain_by bytes b n text (faults.Form s) h f = domain_line bytes text (faults.Form s) _ h f refl

-- the domain's text spells none
pub domain_refused :
    (bytes : Option (List ℕ)) (b n : ℕ) (text : List ℕ) (fault : TextFault) (r : Refusal) → WasRead bytes text
    → Refuses DomainTokens 64 text fault → r ≡ text_refusal texts.Domain (length text) fault → NoDomain bytes b n r
domain_refused bytes b n text fault r h f e = subst (NoDomain bytes b n) (sym e) (no_domain_by bytes b n text fault h f)

problem_line :
    (bytes : Option (List ℕ)) (text : List ℕ) (fault : TextFault) (e : early.Early) → WasRead bytes text
    → IsPlace ProblemTokens 64 text fault → text_refusal texts.Problem (length text) fault ≡ Early e
    → IfSome bytes (λ bs. ProblemRefused bs e)
problem_line None text fault e h f q = tt
problem_line (Some bs) text fault e h f q =
    let place = subst (λ t. IsPlace ProblemTokens 64 t fault) h.0 f in
    no_problem fault h.1 (λ p sp. problems.spells_none 64 bs fault (omega arith) place p ((problem_texts 64 bs p).1 sp)) (problem_place 64 bs fault place) (subst (λ t. text_refusal texts.Problem (length t) fault ≡ Early e) h.0 q)

no_problem_by :
    (bytes : Option (List ℕ)) (b n : ℕ) (text : List ℕ) (fault : TextFault) → WasRead bytes text
    → Refuses ProblemTokens 64 text fault → NoProblem bytes b n (text_refusal texts.Problem (length text) fault)
no_problem_by bytes b n text faults.Memory h f = tt
no_problem_by bytes b n text (faults.Lex (lex.BadByte at)) h f = problem_line bytes text (faults.Lex (lex.BadByte at)) _ h f refl
no_problem_by bytes b n text (faults.Lex (lex.TooLong at)) h f = problem_line bytes text (faults.Lex (lex.TooLong at)) _ h f refl
no_problem_by bytes b n text faults.Unclosed h f = problem_line bytes text faults.Unclosed _ h f refl
no_problem_by bytes b n text (faults.Depth at) h f = problem_line bytes text (faults.Depth at) _ h f refl
no_problem_by bytes b n text (faults.Form s) h f = problem_line bytes text (faults.Form s) _ h f refl

-- the problem's text spells none
pub problem_refused :
    (bytes : Option (List ℕ)) (b n : ℕ) (text : List ℕ) (fault : TextFault) (r : Refusal) → WasRead bytes text
    → Refuses ProblemTokens 64 text fault → r ≡ text_refusal texts.Problem (length text) fault → NoProblem bytes b n r
problem_refused bytes b n text fault r h f e = subst (NoProblem bytes b n) (sym e) (no_problem_by bytes b n text fault h f)

-- ---- the pair

domain_first : (domain problem : Option (List ℕ)) (e : early.Early) → IfSome domain (λ ds. DomainRefused ds e) → IfSome domain (λ ds. IfSome problem (λ ps. PairRefused ds ps e))
domain_first None problem e h = tt
domain_first (Some ds) None e h = tt
domain_first (Some ds) (Some ps) e h = by_domain h

pub pair_by_domain : (domain problem : Option (List ℕ)) (b n : ℕ) (r : Refusal) → NoDomain domain b n r → NoPair domain problem b n r
pair_by_domain domain problem b n (Early e) h = domain_first domain problem e h
pair_by_domain domain problem b n ReadFault h = h
pair_by_domain domain problem b n NoMemory h = tt

problem_then : (domain problem : Option (List ℕ)) (d : Domain) (e : early.Early) → ReadsDomain domain d → IfSome problem (λ ps. ProblemRefused ps e) → IfSome domain (λ ds. IfSome problem (λ ps. PairRefused ds ps e))
problem_then None problem d e r h = tt
problem_then (Some ds) None d e r h = tt
problem_then (Some ds) (Some ps) d e r h = by_problem d r.1 r.0 h

pub pair_by_problem :
    (domain problem later : Option (List ℕ)) (d : Domain) (b m n : ℕ) (r : Refusal) → later ≡ problem → b ≤ m
    → ReadsDomain domain d → NoProblem later m n r → NoPair domain problem b n r
pair_by_problem domain problem later d b m n (Early e) q k rd h =
    problem_then domain problem d e rd (subst (λ o. IfSome o (λ ps. ProblemRefused ps e)) q h)
pair_by_problem domain problem later d b m n ReadFault q k rd h = omega arith
pair_by_problem domain problem later d b m n NoMemory q k rd h = tt

types_then :
    (domain problem : Option (List ℕ)) (d : Domain) (p : Problem) (wrong : Wrong) (file : File) (span : Span) (e : early.Early) → ReadsDomain domain d
    → ReadsProblem problem p → IsFirstFault (type_faults d p) (types.At wrong file span) → type_refusal (types.At wrong file span) ≡ Early e
    → IfSome domain (λ ds. IfSome problem (λ ps. PairRefused ds ps e))
types_then None problem d p wrong file span e rd rp f q = tt
types_then (Some ds) None d p wrong file span e rd rp f q = tt
types_then (Some ds) (Some ps) d p wrong file span e rd rp f q =
    by_types d p wrong file span (record { domain_within = rd.1; problem_within = rp.1; domain_spelled = rd.0; problem_spelled = rp.0 }) (first_fault_is_first_unmet d p wrong file span f) q

types_by :
    (domain problem : Option (List ℕ)) (d : Domain) (p : Problem) (b n : ℕ) (fault : TypeFault) → ReadsDomain domain d
    → ReadsProblem problem p → IsFirstFault (type_faults d p) fault → NoPair domain problem b n (type_refusal fault)
types_by domain problem d p b n types.Memory rd rp f = tt
types_by domain problem d p b n (types.At wrong file span) rd rp f = types_then domain problem d p wrong file span _ rd rp f refl

pub pair_by_types :
    (domain problem later : Option (List ℕ)) (d : Domain) (p : Problem) (b n : ℕ) (fault : TypeFault) (r : Refusal) → later ≡ problem
    → ReadsDomain domain d → ReadsProblem later p → IsFirstFault (type_faults d p) fault → r ≡ type_refusal fault
    → NoPair domain problem b n r
pair_by_types domain problem later d p b n fault r q rd rp f e =
    subst (NoPair domain problem b n) (sym e) (types_by domain problem d p b n fault rd (subst (λ o. ReadsProblem o p) q rp) f)

-- the pair that was read and tested is the one that the texts spell
pub pair_read :
    (domain problem later : Option (List ℕ)) (d e : Domain) (p q : Problem) → later ≡ problem → ReadsDomain domain d
    → ReadsProblem later p → (e ≡ d) × (q ≡ p) → ReadsPair domain problem e q
pair_read domain problem later d e p q same rd rp is =
    both domain problem (subst (ReadsDomain domain) (sym is.0) rd) (subst (ReadsProblem problem) (sym is.1) (subst (λ o. ReadsProblem o p) same rp))
  where
    both : (domain problem : Option (List ℕ)) → ReadsDomain domain e → ReadsProblem problem q → ReadsPair domain problem e q
    both None problem rd rp = tt
    both (Some ds) None rd rp = tt
    both (Some ds) (Some ps) rd rp = record { domain_within = rd.1; problem_within = rp.1; domain_spelled = rd.0; problem_spelled = rp.0 }
