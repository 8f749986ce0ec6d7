-- The same two texts have one reply of `translate`.
use Rattle.std.proofs.Common.{◌≡◌, ℕ, List, subst, sym, ◌∙◌, ap}
use Rattle.plus_fraction.specs.Fraction.{Fraction}
use Rattle.plus_tree.specs.declared.trees.Domain.{Domain}
use Rattle.plus_tree.specs.declared.trees.Problem.{Problem}
use Rattle.plus_types.specs.declared.faults.File.{File}
use Rattle.plus_report.specs.declared.refusals.Early.{Early}
use Rattle.plus_report.specs.Refusals.{early_text}
use Rattle.plus_translate.specs.declared.fault.TransFault.{TransFault}
use Rattle.plus_translate.specs.declared.fault.TransFault.TheVariants.{NameTaken, OffGrid, TooDeep, Memory}
use Rattle.plus_translate.specs.Translates.{IsTranslation}
use Rattle.plus_translate.proofs.OneFault.{IsTold, one_fault, translated_or_not}
use Rattle.plus_reply.specs.declared.pair.pair.Refusal.TheVariants as refusals
use Rattle.plus_reply.specs.Pair.Pair.{SpellsWellTyped}
use Rattle.plus_reply.proofs.PairLemmas.OnePair.{pair_once, pair_or_not, pair_refused_once}
use Rattle.plus_reply.specs.Statuses.{early_status}
use Rattle.plus_reply.specs.Reply.{HasOneReply}
use Rattle.plus_translate_command.specs.Printer.Printed.{half_text}
use Rattle.plus_translate_command.specs.Translate.{trans_refusal, IsUntranslated, TranslatesPair, half, no_translation, Translates, no_pair, of_pair}

-- a line tells of a fault, and not of want of memory
told : (f : TransFault) (e : Early) → refusals.Early e ≡ trans_refusal f → IsTold f
told (NameTaken file place) e i = tt
told (OffGrid place) e i = tt
told TooDeep e i = tt
told Memory e i = cc i

early_once : (a b : Early) → refusals.Early a ≡ refusals.Early b → a ≡ b
early_once a b e = cc e

-- ---- one pair

module _ (q : Fraction) (d : Domain) (p : Problem) where
  pub untranslated_once : (e f : Early) → IsUntranslated q d p (refusals.Early e) → IsUntranslated q d p (refusals.Early f) → e ≡ f
  untranslated_once e f a b =
      let same : a.fault ≡ b.fault = one_fault q d p a.fault b.fault (told a.fault e a.refusal_is) (told b.fault f b.refusal_is) a.cause b.cause in
      early_once e f (a.refusal_is ∙ ap trans_refusal same ∙ sym b.refusal_is)

  pub translated_once : (d' d'' : Domain) (p' p'' : Problem) → IsTranslation q d p d' p' → IsTranslation q d p d'' p'' → (d' ≡ d'') × (p' ≡ p'')
  translated_once d' d'' p' p'' a b = (a.domain_is ∙ sym b.domain_is, a.problem_is ∙ sym b.problem_is)

  pub translation_or_not : (d' : Domain) (p' : Problem) (e : Early) → IsTranslation q d p d' p' → IsUntranslated q d p (refusals.Early e) → ⊥
  translation_or_not d' p' e t h = translated_or_not q d p d' p' h.fault (told h.fault e h.refusal_is) t h.cause

-- what is written of one pair
module _ (file : File) (q : Fraction) (d : Domain) (p : Problem) where
  halves : (a a' : Domain) (b b' : Problem) → IsTranslation q d p a b → IsTranslation q d p a' b' → half_text file a b ≡ half_text file a' b'
  halves a a' b b' t t' =
      let one = translated_once q d p a a' b b' t t' in
      ap (λ e. half_text file e b) one.0 ∙ ap (half_text file a') one.1

  written_once : HasOneReply (TranslatesPair file q d p)
  written_once x y w v (half a b t i k) (half a' b' t' j l) = (i ∙ sym j, k ∙ halves a a' b b' t t' ∙ sym l)
  written_once x y w v (half a b t i k) (no_translation e h j l) = absurd (translation_or_not q d p a b e t h)
  written_once x y w v (no_translation e h i k) (half a b t j l) = absurd (translation_or_not q d p a b e t h)
  written_once x y w v (no_translation e h i k) (no_translation f g j l) =
      let one = untranslated_once q d p e f h g in
      (i ∙ ap early_status one ∙ sym j, k ∙ ap early_text one ∙ sym l)

-- ---- two texts

-- what is said of one of two pairs that the texts spell is said of the other
pub same_pair : (ds ps : List ℕ) (P : Domain → Problem → Type 0) (d d' : Domain) (p p' : Problem) → SpellsWellTyped ds ps d p → SpellsWellTyped ds ps d' p' → P d p → P d' p'
same_pair ds ps P d d' p p' a b h =
    let one = pair_once ds ps d d' p p' a.spelled b.spelled in
    subst (P d') one.1 (subst (λ x. P x p) one.0 h)

pub one_reply : (file : File) (q : Fraction) (ds ps : List ℕ) → HasOneReply (Translates file q ds ps)
one_reply file q ds ps x y w v (no_pair e h i k) (no_pair f g j l) =
    let one = pair_refused_once ds ps e f h g in
    (i ∙ ap early_status one ∙ sym j, k ∙ ap early_text one ∙ sym l)
one_reply file q ds ps x y w v (no_pair e h i k) (of_pair d p t g) = absurd (pair_or_not ds ps e d p h t)
one_reply file q ds ps x y w v (of_pair d p t h) (no_pair e g j l) = absurd (pair_or_not ds ps e d p g t)
one_reply file q ds ps x y w v (of_pair d p t h) (of_pair d' p' t' g) =
    written_once file q d' p' x y w v (same_pair ds ps (λ a b. TranslatesPair file q a b x w) d d' p p' t t' h) g
