-- The tokens of a text are those that stand one behind the other.
use Rattle.std.proofs.Common.{◌≡◌, ℕ, ◌≤◌, List, [], ◌∷◌, map, length, drop, Option, Some, None, Result, Ok, Err, refl, sym, ap, ◌∙◌, arith}
use Rattle.std.specs.Prelude.{◌↔◌}
use Rattle.plus_tokens.specs.declared.token.Token.{Token}
use Rattle.plus_tokens.specs.declared.token.LexFault.{LexFault}
use Rattle.plus_tokens.specs.First.{first_token}
use Rattle.plus_tokens.specs.Spelling.{IsGapToEnd}
use Rattle.plus_tokens.proofs.Found.{found}
use Rattle.plus_tokens.proofs.Read.{none, read}
use Rattle.plus_tree.specs.declared.trees.Domain.{Domain}
use Rattle.plus_tree.specs.declared.trees.Problem.{Problem}
use Rattle.plus_tree.specs.declared.trees.Constraint.{Constraint}
use Rattle.plus_tokens.specs.Items.{Piece, tok, piece_of, items_at, items_of}
use Rattle.plus_tokens.proofs.Items.{stands, at_token, at_none, at_fault}
use Rattle.plus_parser.specs.SpellsDomain.{SpellsWithin}
use Rattle.plus_parser.specs.SpellsProblem.{SpellsProblemWithin}
use Rattle.plus_parser.specs.SpellsConstraints.{SpellsConstraintsWithin}
use Rattle.plus_grammar.specs.Texts.{AreTokens, IsDomainText, IsProblemText, IsConstraintsText}
use Rattle.plus_grammar.proofs.Parentheses.{depth_by_counts}
use Rattle.plus_grammar.proofs.Wholes.{domains_spelled, problems_spelled, constraints_spelled}

no_more : (text : List ℕ) (from : ℕ) → from ≤ length text → (r : Result (Option Token) LexFault) → first_token text from ≡ r → items_at text from ≡ [] → IsGapToEnd (drop from text)
no_more text from le (Ok None) h e = (none text from).0 h
no_more text from le (Ok (Some t)) h e = absurd (let both = sym (at_token text from t le h) ∙ e in cc)
no_more text from le (Err f) h e = absurd (let both = sym (at_fault text from f le h) ∙ e in cc)

one_more : (text : List ℕ) (from : ℕ) → from ≤ length text → (p : Piece) (ps : List Piece) (r : Result (Option Token) LexFault) → first_token text from ≡ r
    → items_at text from ≡ tok p ∷ map tok ps → (t : Token) × (first_token text from ≡ Ok (Some t)) × (p ≡ piece_of text t) × (items_at text t.«end» ≡ map tok ps)
one_more text from le p ps (Ok None) h e = absurd (let both = sym (at_none text from le h) ∙ e in cc)
one_more text from le p ps (Ok (Some t)) h e = let both = sym (at_token text from t le h) ∙ e in (t, h, cc, cc)
one_more text from le p ps (Err f) h e = absurd (let both = sym (at_fault text from f le h) ∙ e in cc)

tokens_to : (text : List ℕ) (ts : List Piece) (from : ℕ) → from ≤ length text → items_at text from ≡ map tok ts → AreTokens text from ts
tokens_to text [] from le e = no_more text from le (first_token text from) refl e
tokens_to text (p ∷ ps) from le e =
    let m = one_more text from le p ps (first_token text from) refl e in
    (m.0, read text from m.0 m.1, m.2, tokens_to text ps m.0.«end» (stands text from m.0 m.1).ends m.3)

tokens_from : (text : List ℕ) (ts : List Piece) (from : ℕ) → from ≤ length text → AreTokens text from ts → items_at text from ≡ map tok ts
tokens_from text [] from le g = at_none text from le ((none text from).1 g)
tokens_from text (p ∷ ps) from le a =
    let f = found text from a.0 a.1 in
    let here = a.2 in
    at_token text from a.0 le f ∙ ap (λ is. tok (piece_of text a.0) ∷ is) (tokens_from text ps a.0.«end» (stands text from a.0 f).ends a.3)
    ∙ ap (λ q. tok q ∷ map tok ps) (sym here)

pub tokens_spelled : (text : List ℕ) (ts : List Piece) → (items_of text ≡ map tok ts) ↔ AreTokens text 0 ts
tokens_spelled text ts = (tokens_to text ts 0 (omega arith), tokens_from text ts 0 (omega arith))

pub domain_texts : (depth : ℕ) (text : List ℕ) (d : Domain) → SpellsWithin depth text d ↔ IsDomainText depth text d
domain_texts depth text d = (
  λ h. (h.0, (tokens_spelled text h.0).0 h.1, (domains_spelled d h.0).0 h.2, (depth_by_counts depth h.0).0 h.3),
  λ h. (h.0, (tokens_spelled text h.0).1 h.1, (domains_spelled d h.0).1 h.2, (depth_by_counts depth h.0).1 h.3),
)

pub problem_texts : (depth : ℕ) (text : List ℕ) (p : Problem) → SpellsProblemWithin depth text p ↔ IsProblemText depth text p
problem_texts depth text p = (
  λ h. (h.0, (tokens_spelled text h.0).0 h.1, (problems_spelled p h.0).0 h.2, (depth_by_counts depth h.0).0 h.3),
  λ h. (h.0, (tokens_spelled text h.0).1 h.1, (problems_spelled p h.0).1 h.2, (depth_by_counts depth h.0).1 h.3),
)

pub constraint_texts : (depth : ℕ) (text : List ℕ) (cs : List Constraint) → SpellsConstraintsWithin depth text cs ↔ IsConstraintsText depth text cs
constraint_texts depth text cs = (
  λ h. (h.0, (tokens_spelled text h.0).0 h.1, (constraints_spelled cs h.0).0 h.2, (depth_by_counts depth h.0).0 h.3),
  λ h. (h.0, (tokens_spelled text h.0).1 h.1, (constraints_spelled cs h.0).1 h.2, (depth_by_counts depth h.0).1 h.3),
)
