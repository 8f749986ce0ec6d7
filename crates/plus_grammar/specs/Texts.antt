-- Which texts spell a domain, a problem and constraints: by tokens that stand one behind the other.
use Rattle.std.specs.Prelude.{◌≡◌, ℕ, List, [], ◌∷◌, drop}
use Rattle.plus_tokens.specs.declared.token.Token.{Token}
use Rattle.plus_tokens.specs.Spelling.{IsFirst, IsGapToEnd}
use Rattle.plus_tree.specs.declared.trees.Domain.{Domain}
use Rattle.plus_tree.specs.declared.trees.Problem.{Problem}
use Rattle.plus_tree.specs.declared.trees.Constraint.{Constraint}
use Rattle.plus_tokens.specs.Items.{Piece, piece_of}
use Rattle.plus_grammar.specs.Parentheses.{IsWithin}
use Rattle.plus_grammar.specs.Wholes.{IsDomain, IsProblem, AreConstraints}

-- the tokens of a text from an offset on: each stands first behind the one before it, and behind the last are blanks and
-- comments alone
abbrev pub AreTokens : List ℕ → ℕ → List Piece → Type 0
AreTokens text from [] = IsGapToEnd (drop from text)
AreTokens text from (p ∷ ps) = (t : Token) × IsFirst text from t × (p ≡ piece_of text t) × AreTokens text t.«end» ps

-- the text spells the domain, with no more than so many parentheses open at once
abbrev pub IsDomainText : ℕ → List ℕ → Domain → Type 0
IsDomainText depth text d = (ts : List Piece) × AreTokens text 0 ts × IsDomain d ts × IsWithin depth ts

-- the same of a problem
abbrev pub IsProblemText : ℕ → List ℕ → Problem → Type 0
IsProblemText depth text p = (ts : List Piece) × AreTokens text 0 ts × IsProblem p ts × IsWithin depth ts

-- the same of constraints
abbrev pub IsConstraintsText : ℕ → List ℕ → List Constraint → Type 0
IsConstraintsText depth text cs = (ts : List Piece) × AreTokens text 0 ts × AreConstraints cs ts × IsWithin depth ts
