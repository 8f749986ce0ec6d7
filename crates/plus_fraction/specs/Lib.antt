-- What the claim of `run` stands on.
pub mod Gcd
pub mod GcdLemmas
pub mod Fraction
-- Inner words.
pub mod FractionCode
pub mod Lines
pub mod JustAfter
pub mod FieldLaws
pub mod OrderLaws
pub mod LineLaws
