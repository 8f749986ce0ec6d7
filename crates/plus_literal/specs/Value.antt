-- The fraction that a literal of the text means: its digits over ten to the power of its places, below 0 where it
-- has a minus sign; and whether that is a value of a type of numbers.
use Rattle.std.specs.Prelude.{◌≡◌, ℕ, ◌^◌, ◌≤◌, Bool, ℤ, pos, neg_ℤ, Result, MatchResult, if◌then◌else◌}
use Rattle.plus_fraction.specs.Fraction.{Fraction, over}
use Rattle.plus_number.specs.declared.exact.Outside.{Outside}
use Rattle.plus_tree.specs.declared.terms.Literal.{Literal}

-- a whole number, or its opposite
abbrev pub signed_whole : Bool → ℕ → ℤ
signed_whole negative n = if negative then neg_ℤ (pos n) else pos n

abbrev pub literal_value : Literal → Fraction
literal_value l = over (signed_whole l.negative l.digits) (10 ^ l.places)

-- The literal is a value of the type. No text spells a literal with more than 9 places; a tree that was made otherwise
-- and has one is refused here.
pub record LiteralFits (fits : Fraction → Type 0) (l : Literal) : Type 0 where
  pub places : l.places ≤ 9
  pub value : fits (literal_value l)

-- the number that a literal means, exactly where it is a value of the type
abbrev pub AnswersLiteral : {Q : Type 0} → (Q → Fraction) → (Fraction → Type 0) → Literal → Result Q Outside → Type 0
AnswersLiteral v fits l r = MatchResult r (λ x. (v x ≡ literal_value l) × LiteralFits fits l) (λ _. LiteralFits fits l → ⊥)
