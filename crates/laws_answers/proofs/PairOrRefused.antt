-- Two texts spell a pair, or are refused.
use Rattle.std.proofs.Common.{◌≡◌, ◌⊎◌, ℕ, zero, suc, ◌≤◌, ◌<◌, List, [], ◌∷◌, length, refl, ap, inl, inr, arith, slice_get, subst, All}
use Rattle.std.proofs.lemmas.List.Elements.{All-head}
use Rattle.plus_io.specs.Limits.{text_limit}
use Rattle.plus_tokens.specs.Items.{Piece}
use Rattle.plus_tokens.specs.declared.token.LexFault.TheVariants as lex
use Rattle.plus_tree.specs.declared.faults.TextFault.{TextFault}
use Rattle.plus_tree.specs.declared.faults.TextFault.TheVariants as faults
use Rattle.plus_tree.specs.declared.trees.Domain.{Domain}
use Rattle.plus_tree.specs.declared.trees.Problem.{Problem}
use Rattle.plus_parser.specs.SpellsDomain.{DomainTokens}
use Rattle.plus_parser.specs.SpellsProblem.{ProblemTokens}
use Rattle.plus_grammar.specs.Texts.{IsDomainText, IsProblemText}
use Rattle.plus_grammar.proofs.Texts.{domain_texts, problem_texts}
use Rattle.plus_places.specs.Place.{IsPlace}
use Rattle.plus_places.proofs.Domains as domains
use Rattle.plus_places.proofs.Problems as problems
use Rattle.plus_types.specs.declared.faults.TypeFault.{TypeFault}
use Rattle.plus_types.specs.declared.faults.TypeFault.TheVariants as types
use Rattle.plus_types.specs.Faults.{type_faults}
use Rattle.plus_typing.specs.Laws.{NamesBroken}
use Rattle.plus_typing.proofs.First.{first_fault_is_first_unmet}
use Rattle.plus_typing.proofs.Typed.{well_typed_by_statements, faults_name_rules}
use Rattle.plus_report.specs.declared.refusals.Early.{Early}
use Rattle.plus_report.specs.declared.refusals.Early.TheVariants as early
use Rattle.plus_report.specs.declared.refusals.Text.{Text}
use Rattle.plus_report.specs.declared.refusals.Text.TheVariants as texts
use Rattle.plus_reply.specs.declared.pair.pair.Refusal.TheVariants as refusals
use Rattle.plus_reply.specs.Pair.Pair.{depth_limit, text_refusal, DomainRefused, long_domain, no_domain, ProblemRefused, long_problem, no_problem, SpellsPair, PairRefused, by_domain, by_problem, by_types, SpellsWellTyped}
use Rattle.plus_reply.proofs.PairLemmas.LawLemmas.{domain_place, problem_place}

pub at_most_or : (n m : ℕ) → (n ≤ m) ⊎ (m < n)
at_most_or zero m = inl (omega arith)
at_most_or (suc n) zero = inr (omega arith)
at_most_or (suc n) (suc m) = elim (at_most_or n m) [ inl h ↦ inl (omega (arith, h)) | inr h ↦ inr (omega (arith, h)) ]

-- ---- one text

-- a fault with a place has a line
line_of : {Tree : Type 0} (Tokens : Tree → List Piece → Type 0) (depth : ℕ) (text : List ℕ) (which : Text) (fault : TextFault) → IsPlace Tokens depth text fault → (e : Early) × (text_refusal which (length text) fault ≡ refusals.Early e)
line_of Tokens depth text which (faults.Lex (lex.BadByte at)) h = (_, refl)
line_of Tokens depth text which (faults.Lex (lex.TooLong at)) h = (_, refl)
line_of Tokens depth text which faults.Unclosed h = (_, refl)
line_of Tokens depth text which (faults.Depth at) h = (_, refl)
line_of Tokens depth text which (faults.Form span) h = (_, refl)
line_of Tokens depth text which faults.Memory h = absurd h.refused

module _ (text : List ℕ) where
  short_domain : length text ≤ text_limit → ((d : Domain) × IsDomainText depth_limit text d) ⊎ ((e : Early) × DomainRefused text e)
  short_domain w = elim (domains.tree_or_place depth_limit text (omega arith)) [
    | inl t ↦ inl (t.0, (domain_texts depth_limit text t.0).0 t.1)
    | inr f ↦ (let e = line_of DomainTokens depth_limit text texts.Domain f.0 f.1 in
        inr (e.0, no_domain f.0 w (λ d s. domains.spells_none depth_limit text f.0 (omega arith) f.1 d ((domain_texts depth_limit text d).1 s)) (domain_place depth_limit text f.0 f.1) e.1))
  ]

  pub domain_or_refused : ((d : Domain) × (length text ≤ text_limit) × IsDomainText depth_limit text d) ⊎ ((e : Early) × DomainRefused text e)
  domain_or_refused = elim (at_most_or (length text) text_limit) [
    | inr l ↦ inr (early.TooLong texts.Domain, long_domain l refl)
    | inl w ↦ elim (short_domain w) [ inl t ↦ inl (t.0, w, t.1) | inr r ↦ inr r ]
  ]

  short_problem : length text ≤ text_limit → ((p : Problem) × IsProblemText depth_limit text p) ⊎ ((e : Early) × ProblemRefused text e)
  short_problem w = elim (problems.tree_or_place depth_limit text (omega arith)) [
    | inl t ↦ inl (t.0, (problem_texts depth_limit text t.0).0 t.1)
    | inr f ↦ (let e = line_of ProblemTokens depth_limit text texts.Problem f.0 f.1 in
        inr (e.0, no_problem f.0 w (λ p s. problems.spells_none depth_limit text f.0 (omega arith) f.1 p ((problem_texts depth_limit text p).1 s)) (problem_place depth_limit text f.0 f.1) e.1))
  ]

  pub problem_or_refused : ((p : Problem) × (length text ≤ text_limit) × IsProblemText depth_limit text p) ⊎ ((e : Early) × ProblemRefused text e)
  problem_or_refused = elim (at_most_or (length text) text_limit) [
    | inr l ↦ inr (early.TooLong texts.Problem, long_problem l refl)
    | inl w ↦ elim (short_problem w) [ inl t ↦ inl (t.0, w, t.1) | inr r ↦ inr r ]
  ]

-- ---- two texts

module _ (ds ps : List ℕ) (d : Domain) (p : Problem) (s : SpellsPair ds ps d p) where
  by_faults : (fs : List TypeFault) → type_faults d p ≡ fs → ((d : Domain) × (p : Problem) × SpellsWellTyped ds ps d p) ⊎ ((e : Early) × PairRefused ds ps e)
  by_faults [] i = inl (d, p, record { spelled = s; well_typed = (well_typed_by_statements d p).0 i })
  by_faults (types.At wrong file span ∷ fs) i =
      inr (_, by_types d p wrong file span s (first_fault_is_first_unmet d p wrong file span (ap (λ xs. slice_get xs 0) i)) refl)
  by_faults (types.Memory ∷ fs) i =
      absurd (All-head (NamesBroken d p) types.Memory fs (subst (λ xs. All (NamesBroken d p) xs) i (faults_name_rules d p)))

pub pair_or_refused : (ds ps : List ℕ) → ((d : Domain) × (p : Problem) × SpellsWellTyped ds ps d p) ⊎ ((e : Early) × PairRefused ds ps e)
pair_or_refused ds ps = elim (domain_or_refused ds) [
  | inr r ↦ inr (r.0, by_domain r.1)
  | inl a ↦ elim (problem_or_refused ps) [
    | inr r ↦ inr (r.0, by_problem a.0 a.1 a.2 r.1)
    | inl b ↦ by_faults ds ps a.0 b.0 (record { domain_within = a.1; problem_within = b.1; domain_spelled = a.2; problem_spelled = b.2 }) (type_faults a.0 b.0) refl
  ]
]
