-- The domain and the problem that two texts spell, and why two texts are no pair. The domain's text comes first: its
-- length, then its tree; then the problem's; then their types.
use Rattle.std.specs.Prelude.{◌≡◌, ℕ, ◌+◌, ◌-◌, ◌^◌, ◌<◌, ◌≤◌, min, List, length}
use Rattle.plus_tokens.specs.declared.token.LexFault.TheVariants as lex
use Rattle.plus_tree.specs.declared.faults.TextFault.{TextFault}
use Rattle.plus_tree.specs.declared.faults.TextFault.TheVariants as faults
use Rattle.plus_tree.specs.declared.trees.Domain.{Domain}
use Rattle.plus_tree.specs.declared.trees.Problem.{Problem}
use Rattle.plus_tokens.specs.declared.span.Span.{Span}
use Rattle.plus_grammar.specs.Wholes.{IsDomain, IsProblem}
use Rattle.plus_grammar.specs.Texts.{IsDomainText, IsProblemText}
use Rattle.plus_places.specs.Place.{IsPlace}
use Rattle.plus_types.specs.declared.faults.File.{File}
use Rattle.plus_types.specs.declared.faults.File.TheVariants as files
use Rattle.plus_types.specs.declared.faults.Wrong.{Wrong}
use Rattle.plus_types.specs.declared.faults.Wrong.TheVariants as wrongs
use Rattle.plus_types.specs.declared.faults.TypeFault.{TypeFault}
use Rattle.plus_types.specs.declared.faults.TypeFault.TheVariants as types
use Rattle.plus_typing.specs.WellTyped.{IsWellTyped}
use Rattle.plus_typing.specs.Asked.{rules_asked}
use Rattle.plus_typing.specs.Laws.{IsFirstUnmet}
use Rattle.plus_report.specs.declared.refusals.Text.{Text}
use Rattle.plus_report.specs.declared.refusals.Text.TheVariants as texts
use Rattle.plus_report.specs.declared.refusals.Word.{Word}
use Rattle.plus_report.specs.declared.refusals.Word.TheVariants as words
use Rattle.plus_report.specs.declared.refusals.Early as early
use Rattle.plus_report.specs.declared.refusals.Early.TheVariants.{BadText, TooLong, Depth}
use Rattle.plus_io.specs.Limits.{text_limit}
use Rattle.plus_reply.specs.declared.pair.pair.Refusal.{Refusal}
use Rattle.plus_reply.specs.declared.pair.pair.Refusal.TheVariants.{Early, NoMemory}

-- the most parentheses open at once
abbrev pub depth_limit : ℕ
depth_limit = 64

-- the offset behind one byte
abbrev pub behind : ℕ → ℕ
behind at = min (at + 1) (2 ^ 64 - 1)

-- a text of this length that spells no tree is refused so
abbrev pub text_refusal : Text → ℕ → TextFault → Refusal
text_refusal text n (faults.Lex (lex.BadByte at)) = Early (BadText text at (behind at) words.Byte)
text_refusal text n (faults.Lex (lex.TooLong at)) = Early (BadText text at (behind at) words.Long)
text_refusal text n faults.Unclosed = Early (BadText text n n words.Unclosed)
text_refusal text n (faults.Depth at) = Early (Depth text at)
text_refusal text n (faults.Form span) = Early (BadText text span.start span.«end» words.Form)
text_refusal text n faults.Memory = NoMemory

abbrev pub text_named : File → Text
text_named files.Domain = texts.Domain
text_named files.Problem = texts.Problem

abbrev pub word_of : Wrong → Word
word_of wrongs.UnknownType = words.UnknownType
word_of wrongs.UnknownName = words.UnknownName
word_of wrongs.Arity = words.Arity
word_of wrongs.WrongType = words.WrongType
word_of wrongs.Twice = words.Twice
word_of wrongs.Unbound = words.UnboundVariable
word_of wrongs.Shadowed = words.ShadowedVariable
word_of wrongs.TypeLoop = words.TypeLoop
word_of wrongs.RateForm = words.RateForm
word_of wrongs.DomainName = words.DomainName

-- a pair that is not well typed is refused so
abbrev pub type_refusal : TypeFault → Refusal
type_refusal (types.At wrong file span) = Early (BadText (text_named file) span.start span.«end» (word_of wrong))
type_refusal types.Memory = NoMemory

-- Why the domain's text is refused: it is too long; or it spells no domain with so few parentheses open at once, and the
-- line names the place of this, the first token behind which no text of the grammar goes on.
pub data DomainRefused (text : List ℕ) (e : early.Early) : Type 0 where
  long_domain : text_limit < length text → e ≡ TooLong texts.Domain → DomainRefused text e
  no_domain :
      (fault : TextFault) → length text ≤ text_limit → ((d : Domain) → IsDomainText depth_limit text d → ⊥)
      → IsPlace IsDomain depth_limit text fault → text_refusal texts.Domain (length text) fault ≡ Early e → DomainRefused text e

-- why the problem's text is refused, in the same way
pub data ProblemRefused (text : List ℕ) (e : early.Early) : Type 0 where
  long_problem : text_limit < length text → e ≡ TooLong texts.Problem → ProblemRefused text e
  no_problem :
      (fault : TextFault) → length text ≤ text_limit → ((p : Problem) → IsProblemText depth_limit text p → ⊥)
      → IsPlace IsProblem depth_limit text fault → text_refusal texts.Problem (length text) fault ≡ Early e → ProblemRefused text e

-- the two texts are within their limits and spell this pair
pub record SpellsPair (domain problem : List ℕ) (d : Domain) (p : Problem) : Type 0 where
  pub domain_within : length domain ≤ text_limit
  pub problem_within : length problem ≤ text_limit
  pub domain_spelled : IsDomainText depth_limit domain d
  pub problem_spelled : IsProblemText depth_limit problem p

-- Why two texts are no well-typed pair: the domain's text, or, where it spells a domain, the problem's, or, where the two
-- spell a pair, the first rule of types that is not met, in the order in which they are asked.
pub data PairRefused (domain problem : List ℕ) (e : early.Early) : Type 0 where
  by_domain : DomainRefused domain e → PairRefused domain problem e
  by_problem :
      (d : Domain) → length domain ≤ text_limit → IsDomainText depth_limit domain d → ProblemRefused problem e
      → PairRefused domain problem e
  by_types :
      (d : Domain) (p : Problem) (wrong : Wrong) (file : File) (span : Span) → SpellsPair domain problem d p
      → IsFirstUnmet (rules_asked d p) wrong file span → type_refusal (types.At wrong file span) ≡ Early e
      → PairRefused domain problem e

-- the two texts spell this pair, and it meets each rule of types
pub record SpellsWellTyped (domain problem : List ℕ) (d : Domain) (p : Problem) : Type 0 where
  pub spelled : SpellsPair domain problem d p
  pub well_typed : IsWellTyped d p
