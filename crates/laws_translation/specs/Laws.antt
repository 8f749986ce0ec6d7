-- The printed translation reads again as the translated pair.
use Rattle.std.specs.Prelude.{◌≡◌, ℕ, ◌+◌, ◌<◌, ◌^◌, List, length, map, unsigned_abs, All}
use Rattle.plus_fraction.specs.Fraction.{Fraction}
use Rattle.plus_tree.specs.declared.terms.Literal.{Literal}
use Rattle.plus_tree.specs.declared.trees.Schema.{Schema}
use Rattle.plus_tree.specs.declared.trees.Domain.{Domain}
use Rattle.plus_tree.specs.declared.trees.Problem.{Problem}
use Rattle.plus_tokens.specs.Items.{Piece, tok, items_of}
use Rattle.plus_parser.specs.Phrases.Spells.{FitsDepth}
use Rattle.plus_parser.specs.SpellsDomain.{Spells, SpellsWithin}
use Rattle.plus_parser.specs.SpellsProblem.{SpellsProblem, SpellsProblemWithin}
use Rattle.plus_printer.specs.Canon.{domain_text, problem_text}
use Rattle.plus_canonical.specs.Same.{SameDomain, SameProblem}
use Rattle.plus_translation.specs.Renamed.{bindings_in, effect_bindings}
use Rattle.plus_translation.specs.Translated.{steps_to, times_of, translated_domain, translated_problem}
use Rattle.plus_translation.specs.Laws.{CanBeTranslated}

-- how many variables an event binds
abbrev pub variables_of : Schema → ℕ
variables_of a = length a.params + bindings_in a.condition + effect_bindings a.effect

-- A text has room for numbers of 19 digits and for names of 64 bytes: for the parts of the step and the numbers of steps
-- to the timed literals, and for the names of marks and variables, of which there are fewer than 2^64.
pub record FitsText (d : Domain) (p : Problem) (q : Fraction) : Type 0 where
  pub top : unsigned_abs q.top < 10 ^ 19
  pub bottom : q.bottom < 10 ^ 19
  pub times : All (λ (t : Literal). steps_to q t < 10 ^ 19) (times_of p)
  pub events : length d.events < 2 ^ 64
  pub variables : All (λ (a : Schema). variables_of a < 2 ^ 64) d.events

-- the text opens no more parentheses at once than so many
abbrev pub NestsWithin : ℕ → List ℕ → Type 0
NestsWithin depth text = (ts : List Piece) × (items_of text ≡ map tok ts) × FitsDepth depth ts

-- the texts of the translation of a pair that texts spell, spell it again, but for spans
abbrev pub TranslationReadsAgain : Type 0
TranslationReadsAgain =
    (text task : List ℕ) (d : Domain) (p : Problem) (q : Fraction)
    → Spells text d → SpellsProblem task p → CanBeTranslated d p q → FitsText d p q
    → ((again : Domain) × Spells (domain_text (translated_domain q d p)) again × SameDomain (translated_domain q d p) again)
    × ((again : Problem) × SpellsProblem (problem_text (translated_problem q d p)) again × SameProblem (translated_problem q d p) again)

-- what a text spells, it spells within the depth to which it nests
abbrev pub SpellsWithinItsDepth : Type 0
SpellsWithinItsDepth =
    (depth : ℕ) (text : List ℕ) → NestsWithin depth text
    → ((d : Domain) → Spells text d → SpellsWithin depth text d) × ((p : Problem) → SpellsProblem text p → SpellsProblemWithin depth text p)

-- A domain that a text spells has fewer than 2^64 events, and each fewer than 2^64 variables, where the text is shorter
-- than 2^63 bytes, as each text in memory is.
abbrev pub FewInText : Type 0
FewInText =
    (text : List ℕ) (d : Domain) → Spells text d → length text < 2 ^ 63
    → (length d.events < 2 ^ 64) × All (λ (a : Schema). variables_of a < 2 ^ 64) d.events
