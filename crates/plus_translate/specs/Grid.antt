-- Which times are a whole number of steps.
use Rattle.std.specs.Prelude.{◌≡◌, ◌≤◌, false, List, ◌∷◌, ◌++◌, All}
use Rattle.plus_fraction.specs.Fraction.{Fraction}
use Rattle.plus_tokens.specs.declared.span.Span.{Span}
use Rattle.plus_tree.specs.declared.terms.Literal.{Literal}
use Rattle.plus_literal.specs.Value.{literal_value}
use Rattle.plus_stepped.specs.Grid.{OnGrid}

-- The time is a whole number of steps, of 63 bits. No text spells a time below 0 or one with more than 9 places; a tree
-- that was made otherwise and has one is refused here.
pub record StandsOnGrid (q : Fraction) (t : Literal) : Type 0 where
  pub from_zero : t.negative ≡ false
  pub places : t.places ≤ 9
  pub grid : OnGrid q (literal_value t)

-- the first of these times that is none stands here
pub record IsFirstOff (q : Fraction) (times : List Literal) (place : Span) : Type 0 where
  pub before : List Literal
  pub time : Literal
  pub after : List Literal
  pub split : times ≡ before ++ time ∷ after
  pub pass : All (StandsOnGrid q) before
  pub fails : StandsOnGrid q time → ⊥
  pub place_is : time.span ≡ place
