-- The translation of a pair, printed and read again: put together from what its calls answer.
use Rattle.std.proofs.Common.{◌≡◌, ℕ, List, subst, sym, ap, ◌∙◌, refl, IsTrue}
use Rattle.std.specs.Prelude.{Result, Ok, Err, MatchResult}
use Rattle.plus_fraction.specs.Fraction.{Fraction}
use Rattle.plus_tree.specs.declared.trees.Domain.{Domain}
use Rattle.plus_tree.specs.declared.trees.Problem.{Problem}
use Rattle.plus_types.specs.declared.typed.Typed.{Typed}
use Rattle.plus_types.specs.Faults.{is_well_typed}
use Rattle.plus_types.specs.declared.faults.File.TheVariants as files
use Rattle.plus_printer.specs.Canon.{domain_text, problem_text}
use Rattle.plus_reply.specs.declared.pair.pair.Refusal.{Refusal}
use Rattle.plus_reply.specs.declared.pair.pair.Refusal.TheVariants as refusals
use Rattle.plus_reply.specs.Pair.Pair.{SpellsPair, PairRefused, SpellsWellTyped}
use Rattle.plus_reply.specs.Pair.Reads.{NotPair}
use Rattle.plus_reply.proofs.PairLemmas.SpelledLemmas.{well_spelled}
use Rattle.plus_translate_command.specs.Translate.{IsUntranslated}
use Rattle.plus_translate_command.specs.Printer.Printed.{IsTextOfHalf}
use Rattle.plus_translate_command.proofs.TranslateLemmas.{translated_or_read}
use Rattle.plus_lift.specs.Command.Again.{refusal_printed, SpellsAgain, untranslated, unread, ReadAgain, NotReadAgain}

pub not_again : (q : Fraction) (d : Domain) (p : Problem) (r : Refusal) → IsUntranslated q d p r → NotReadAgain q d p r
not_again q d p (refusals.Early e) h = untranslated h
not_again q d p refusals.ReadFault h = translated_or_read q d p h
not_again q d p refusals.NoMemory h = tt

-- ---- the texts of both halves are read

pub spelled : (ds ps : List ℕ) (t : Typed) → SpellsPair ds ps t.domain t.problem → IsTrue (is_well_typed t.domain t.problem) → ReadAgain ds ps (Ok t)
spelled ds ps t h w = well_spelled ds ps t.domain t.problem h w

pub refused : (ds ps : List ℕ) (r s : Refusal) → NotPair ds ps r → s ≡ refusal_printed r → ReadAgain ds ps (Err s)
refused ds ps (refusals.Early f) s h k = subst (λ x. ReadAgain ds ps (Err x)) (sym k) (f, h, refl)
refused ds ps refusals.ReadFault s h k = absurd h
refused ds ps refusals.NoMemory s h k = subst (λ x. ReadAgain ds ps (Err x)) (sym k) tt

module _ (q : Fraction) (d : Domain) (p : Problem) (ds ps : List ℕ) (one : IsTextOfHalf files.Domain q d p ds) (other : IsTextOfHalf files.Problem q d p ps) where
  -- the problem is that of the same translation
  problem_same : ps ≡ problem_text one.problem
  problem_same = other.text_is ∙ ap problem_text (other.translation.problem_is ∙ sym one.translation.problem_is)

  same_texts : (F : List ℕ → List ℕ → Type 0) → F ds ps → F (domain_text one.domain) (problem_text one.problem)
  same_texts F h = subst (λ x. F x (problem_text one.problem)) one.text_is (subst (F ds) problem_same h)

  read_again : (r : Result Typed Refusal) → ReadAgain ds ps r → MatchResult r (λ t. SpellsAgain q d p t.domain t.problem) (NotReadAgain q d p)
  read_again (Ok t) h = record { d' = one.domain; p' = one.problem; translation = one.translation; again = same_texts (λ x y. SpellsWellTyped x y t.domain t.problem) h }
  read_again (Err (refusals.Early e)) h = unread one.domain one.problem h.0 one.translation (same_texts (λ x y. PairRefused x y h.0) h.1) h.2
  read_again (Err refusals.ReadFault) h = h
  read_again (Err refusals.NoMemory) h = tt

  -- the same of what the sinks lent
  pub read_lent : (lent lent' : List ℕ) → lent ≡ ds → lent' ≡ ps → (r : Result Typed Refusal) → ReadAgain lent lent' r → MatchResult r (λ t. SpellsAgain q d p t.domain t.problem) (NotReadAgain q d p)
  read_lent lent lent' e f r h = read_again r (subst (λ x. ReadAgain x ps r) e (subst (λ x. ReadAgain lent x r) f h))
