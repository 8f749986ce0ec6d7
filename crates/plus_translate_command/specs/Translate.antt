-- What `translate` writes: the canonical text of one half of the translated pair, or one line that says why there is none.
use Rattle.std.specs.Prelude.{◌≡◌, ℕ, List}
use Rattle.plus_fraction.specs.Fraction.{Fraction}
use Rattle.plus_tree.specs.declared.trees.Domain.{Domain}
use Rattle.plus_tree.specs.declared.trees.Problem.{Problem}
use Rattle.plus_types.specs.declared.faults.File.{File}
use Rattle.plus_report.specs.declared.refusals.Early.{Early}
use Rattle.plus_report.specs.declared.refusals.Early.TheVariants as early
use Rattle.plus_report.specs.declared.refusals.Text.TheVariants as texts
use Rattle.plus_report.specs.declared.refusals.Word.TheVariants as words
use Rattle.plus_report.specs.Refusals.{early_text}
use Rattle.plus_translate.specs.declared.fault.TransFault.{TransFault}
use Rattle.plus_translate.specs.declared.fault.TransFault.TheVariants.{NameTaken, OffGrid, TooDeep, Memory}
use Rattle.plus_translate.specs.Translates.{IsTranslation, NoTranslation}
use Rattle.plus_translate_command.specs.Printer.Printed.{half_text}
use Rattle.plus_reply.specs.declared.pair.pair.Refusal.{Refusal}
use Rattle.plus_reply.specs.declared.pair.pair.Refusal.TheVariants as refusals
use Rattle.plus_reply.specs.Pair.Pair.{text_named, PairRefused, SpellsWellTyped}
use Rattle.plus_report.specs.declared.status.Status.{Status}
use Rattle.plus_report.specs.declared.status.Status.TheVariants as s
use Rattle.plus_reply.specs.Statuses.{early_status}

-- a pair without a translation is refused so
abbrev pub trans_refusal : TransFault → Refusal
trans_refusal (NameTaken file place) = refusals.Early (early.BadText (text_named file) place.start place.«end» words.NameTaken)
trans_refusal (OffGrid place) = refusals.Early (early.BadText texts.Problem place.start place.«end» words.OffGrid)
trans_refusal TooDeep = refusals.Early early.DepthOut
trans_refusal Memory = refusals.NoMemory

-- the pair has no translation in steps of q, and is refused so
pub record IsUntranslated (q : Fraction) (d : Domain) (p : Problem) (refusal : Refusal) : Type 0 where
  pub fault : TransFault
  pub cause : NoTranslation q d p fault
  pub refusal_is : refusal ≡ trans_refusal fault

-- What is written of a well-typed pair, with its status: one half of its translation; or the line that says why it has none.
pub data TranslatesPair (file : File) (q : Fraction) (d : Domain) (p : Problem) (status : Status) (written : List ℕ) : Type 0 where
  half : (d' : Domain) (p' : Problem) → IsTranslation q d p d' p' → status ≡ s.Valid → written ≡ half_text file d' p'
      → TranslatesPair file q d p status written
  no_translation : (e : Early) → IsUntranslated q d p (refusals.Early e) → status ≡ early_status e → written ≡ early_text e
      → TranslatesPair file q d p status written

-- What is written of two texts: the line that says why they spell no well-typed pair; or what is written of the pair that they
-- spell.
pub data Translates (file : File) (q : Fraction) (domain problem : List ℕ) (status : Status) (written : List ℕ) : Type 0 where
  no_pair : (e : Early) → PairRefused domain problem e → status ≡ early_status e → written ≡ early_text e
      → Translates file q domain problem status written
  of_pair : (d : Domain) (p : Problem) → SpellsWellTyped domain problem d p → TranslatesPair file q d p status written
      → Translates file q domain problem status written
