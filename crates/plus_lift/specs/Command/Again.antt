-- The translation of a pair, printed and read again.
use Rattle.std.specs.Prelude.{◌≡◌, ℕ, List, Result, Ok, Err}
use Rattle.plus_fraction.specs.Fraction.{Fraction}
use Rattle.plus_tree.specs.declared.trees.Domain.{Domain}
use Rattle.plus_tree.specs.declared.trees.Problem.{Problem}
use Rattle.plus_report.specs.declared.refusals.Early.{Early}
use Rattle.plus_report.specs.declared.refusals.Early.TheVariants.{BadText, BadLine, TooLong, Depth, DepthOut, LineTooLong, Literal, TooMany}
use Rattle.plus_report.specs.declared.refusals.Text.{Text}
use Rattle.plus_report.specs.declared.refusals.Text.TheVariants as texts
use Rattle.plus_types.specs.declared.typed.Typed.{Typed}
use Rattle.plus_printer.specs.Canon.{domain_text, problem_text}
use Rattle.plus_translate.specs.Translates.{IsTranslation}
use Rattle.plus_reply.specs.declared.pair.pair.Refusal.{Refusal}
use Rattle.plus_reply.specs.declared.pair.pair.Refusal.TheVariants as refusals
use Rattle.plus_reply.specs.Pair.Pair.{PairRefused, SpellsWellTyped}
use Rattle.plus_translate_command.specs.Translate.{IsUntranslated}

-- how a line names a text that was printed
abbrev pub text_printed : Text → Text
text_printed texts.Domain = texts.TranslatedDomain
text_printed texts.Problem = texts.TranslatedProblem
text_printed text = text

-- a refusal of the printed texts names them so
abbrev pub line_printed : Early → Early
line_printed (BadText text start finish word) = BadText (text_printed text) start finish word
line_printed (BadLine line start finish) = BadLine line start finish
line_printed (TooLong text) = TooLong (text_printed text)
line_printed (Depth text at) = Depth (text_printed text) at
line_printed DepthOut = DepthOut
line_printed (LineTooLong line) = LineTooLong line
line_printed (Literal text start finish) = Literal (text_printed text) start finish
line_printed (TooMany kind most) = TooMany kind most

abbrev pub refusal_printed : Refusal → Refusal
refusal_printed (refusals.Early e) = refusals.Early (line_printed e)
refusal_printed refusals.ReadFault = refusals.ReadFault
refusal_printed refusals.NoMemory = refusals.NoMemory

-- the canonical texts of the translation of a pair spell this well-typed pair
pub record SpellsAgain (q : Fraction) (d : Domain) (p : Problem) (domain : Domain) (problem : Problem) : Type 0 where
  pub d' : Domain
  pub p' : Problem
  pub translation : IsTranslation q d p d' p'
  pub again : SpellsWellTyped (domain_text d') (problem_text p') domain problem

-- or they spell none, and this is the line that says why: one on the pair itself, or one on the printed texts
pub data NotAgain (q : Fraction) (d : Domain) (p : Problem) (e : Early) : Type 0 where
  untranslated : IsUntranslated q d p (refusals.Early e) → NotAgain q d p e
  unread : (d' : Domain) (p' : Problem) (f : Early) → IsTranslation q d p d' p' → PairRefused (domain_text d') (problem_text p') f
      → e ≡ line_printed f → NotAgain q d p e

-- two printed texts spell this well-typed pair; or none, and this line says why; want of memory is free
abbrev pub ReadAgain : List ℕ → List ℕ → Result Typed Refusal → Type 0
ReadAgain domain problem (Ok typed) = SpellsWellTyped domain problem typed.domain typed.problem
ReadAgain domain problem (Err (refusals.Early e)) = (f : Early) × PairRefused domain problem f × (e ≡ line_printed f)
ReadAgain domain problem (Err refusals.ReadFault) = ⊥
ReadAgain domain problem (Err refusals.NoMemory) = Unit {0}

-- the same of the texts of a translation, or there is none
abbrev pub NotReadAgain : Fraction → Domain → Problem → Refusal → Type 0
NotReadAgain q d p (refusals.Early e) = NotAgain q d p e
NotReadAgain q d p refusals.ReadFault = ⊥
NotReadAgain q d p refusals.NoMemory = Unit {0}
