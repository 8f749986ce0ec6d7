pub use Rattle.plus_tokens.specs.Items
-- What the claim of `run` stands on.
pub mod Keywords
pub mod Balanced
pub mod ReadingDomain
pub mod ReadingProblem
pub mod SpellsDomain
pub mod SpellsProblem
pub mod ReadingConstraints
pub mod SpellsConstraints
pub mod Phrases
pub mod Forms
