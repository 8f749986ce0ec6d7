-- The first literal of a text that is no value of the type of numbers.
use Rattle.std.specs.Prelude.{◌≡◌, List, ◌∷◌, ◌++◌, None, All}
use Rattle.plus_fraction.specs.Fraction.{Fraction}
use Rattle.plus_tokens.specs.declared.span.Span.{Span}
use Rattle.plus_tree.specs.declared.terms.Literal.{Literal}
use Rattle.plus_tree.specs.declared.trees.Domain.{Domain}
use Rattle.plus_tree.specs.declared.trees.Problem as tree
use Rattle.plus_types.specs.declared.faults.File.{File}
use Rattle.plus_literal.specs.Value.{LiteralFits}
use Rattle.plus_expansion.specs.Counts.{first_over}
use Rattle.plus_expansion.specs.Literals.{literals_of}
use Rattle.plus_expansion.specs.Counting.{counts_of}

-- the first of a list that does not pass
pub record IsFirstUnfit {A : Type 0} (Passes : A → Type 0) (xs : List A) (x : A) : Type 0 where
  pub front : List A
  pub back : List A
  pub split : xs ≡ front ++ x ∷ back
  pub pass : All Passes front
  pub fails : Passes x → ⊥

-- the first unfit literal stands here
pub record IsFirstUnfitAt (fits : Fraction → Type 0) (literals : List Literal) (span : Span) : Type 0 where
  pub literal : Literal
  pub span_is : literal.span ≡ span
  pub first : IsFirstUnfit (LiteralFits fits) literals literal

-- the first unfit literal stands here, in this text
pub record IsFirstUnfitIn (fits : Fraction → Type 0) (literals : List (File × Literal)) (file : File) (span : Span) : Type 0 where
  pub literal : Literal
  pub span_is : literal.span ≡ span
  pub first : IsFirstUnfit (λ (l : File × Literal). LiteralFits fits l.1) literals (file, literal)

-- nothing of the pair is too many, and its first unfit literal stands here
pub record IsUnfit (fits : Fraction → Type 0) (d : Domain) (p : tree.Problem) (file : File) (span : Span) : Type 0 where
  pub counts : first_over (counts_of d p) ≡ None
  pub unfit : IsFirstUnfitIn fits (literals_of d p) file span
