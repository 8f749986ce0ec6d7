pub use Rattle.plus_tokens.specs.Items
pub use Rattle.plus_parser.specs.Phrases.Reading
pub use Rattle.plus_parser.specs.Phrases.Words
pub use Rattle.plus_parser.specs.Phrases.Grammar
pub use Rattle.plus_parser.specs.Phrases.Spells
-- What the claim of `run` stands on.
pub mod ReadingForms
pub mod SpellsForms
