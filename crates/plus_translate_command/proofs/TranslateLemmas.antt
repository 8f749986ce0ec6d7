-- What `translate` replies, put together from what its calls answer.
use Rattle.std.proofs.Common.{◌≡◌, ℕ, List, Option, subst, sym, ap, ◌∙◌, refl, IsTrue}
use Rattle.std.specs.Prelude.{IfSome, IfOk, IfErr, MatchResult, Result, Ok, Err}
use Rattle.plus_fraction.specs.Fraction.{Fraction}
use Rattle.plus_tree.specs.declared.trees.Domain.{Domain}
use Rattle.plus_tree.specs.declared.trees.Problem.{Problem}
use Rattle.plus_types.specs.declared.faults.File.{File}
use Rattle.plus_types.specs.Faults.{is_well_typed}
use Rattle.plus_report.specs.declared.refusals.Early.{Early}
use Rattle.plus_translate.specs.declared.fault.TransFault.{TransFault}
use Rattle.plus_translate.specs.declared.fault.TransFault.TheVariants.{NameTaken, OffGrid, TooDeep, Memory}
use Rattle.plus_reply.specs.declared.pair.pair.Refusal.{Refusal}
use Rattle.plus_reply.specs.declared.pair.pair.Refusal.TheVariants as refusals
use Rattle.plus_reply.specs.Pair.Reads.{ReadsPair, NoPair}
use Rattle.plus_reply.proofs.PairLemmas.SpelledLemmas.{on_pair}
use Rattle.plus_report.specs.declared.status.Status.{Status}
use Rattle.plus_reply.specs.declared.reply.Reply.{Reply}
use Rattle.plus_translate_command.specs.declared.translate.HalfReply.{HalfReply}
use Rattle.plus_reply.specs.declared.reply.Fault.{Fault}
use Rattle.plus_reply.specs.declared.reply.Fault.TheVariants as faults
use Rattle.plus_reply.specs.Reply.{IsPlain, HasCause}
use Rattle.plus_reply.specs.Reply as replies
use Rattle.plus_translate_command.specs.HalfReply.{TellsRefusal}
use Rattle.plus_io.specs.Faults.{Rose}
use Rattle.plus_io.specs.MemSink.{sink_state}
use Rattle.plus_io.specs.declared.mem_sink.MemSink.{MemSink}
use Rattle.plus_translate_command.specs.Printer.Printed.{IsTextOfHalf}
use Rattle.plus_report.specs.Refusals.{early_text}
use Rattle.plus_reply.specs.Pair.Pair.{PairRefused}
use Rattle.plus_reply.proofs.PairLemmas.SpelledLemmas.{told}
use Rattle.plus_reply.specs.Statuses.{early_status}
use Rattle.plus_reply.proofs.ReplyLemmas.{early_plain}
use Rattle.plus_translate_command.specs.Translate.{trans_refusal, IsUntranslated, TranslatesPair, half, no_translation, Translates, no_pair, of_pair}

-- no pair is untranslated because a file was not read
never_read : (fault : TransFault) → refusals.ReadFault ≡ trans_refusal fault → ⊥
never_read (NameTaken file place) i = cc i
never_read (OffGrid place) i = cc i
never_read TooDeep i = cc i
never_read Memory i = cc i

pub translated_or_read : (q : Fraction) (d : Domain) (p : Problem) → IsUntranslated q d p refusals.ReadFault → ⊥
translated_or_read q d p h = never_read h.fault h.refusal_is

-- a half that is kept in memory
pub kept_text : (file : File) (q : Fraction) (d : Domain) (p : Problem) (text : List ℕ) (r : Result MemSink Refusal) → IsTextOfHalf file q d p text
    → MatchResult r (λ kept. (sink_state kept).bytes ≡ text) (λ refusal. refusal ≡ refusals.NoMemory)
    → MatchResult r (λ kept. IsTextOfHalf file q d p (sink_state kept).bytes) (IsUntranslated q d p)
kept_text file q d p text (Ok kept) h e = subst (IsTextOfHalf file q d p) (sym e) h
kept_text file q d p text (Err refusal) h e = record { fault = Memory; cause = tt; refusal_is = e }

-- ---- a refusal as a reply

pub tells : (refusal : Refusal) (x : Reply) (h : HalfReply) → replies.TellsRefusal refusal (Ok x) → h.status ≡ x.status → h.text ≡ x.text.items → TellsRefusal refusal (Ok h)
tells (refusals.Early e) x h t i k = (i ∙ t.0, k ∙ t.1)
tells refusals.ReadFault x h t i k = cc t
tells refusals.NoMemory x h t i k = cc t

pub tells_fault : (refusal : Refusal) (f : Fault) → replies.TellsRefusal refusal (Err f) → TellsRefusal refusal (Err f)
tells_fault (refusals.Early e) f t = t
tells_fault refusals.ReadFault f t = let i : f ≡ faults.ReadFault = cc t in ap Err i
tells_fault refusals.NoMemory f t = let i : f ≡ faults.NoMemory = cc t in ap Err i

pub refusal_plain : (refusal : Refusal) (r : Result HalfReply Fault) → TellsRefusal refusal r → IfOk r (λ x. IsPlain x.status)
refusal_plain (refusals.Early e) (Ok x) h = subst IsPlain (sym h.0) (early_plain e)
refusal_plain (refusals.Early e) (Err f) h = tt
refusal_plain refusals.ReadFault r h = subst (λ x. IfOk x (λ y. IsPlain y.status)) (sym h) tt
refusal_plain refusals.NoMemory r h = subst (λ x. IfOk x (λ y. IsPlain y.status)) (sym h) tt

-- the shelf failed only where the refusal says so
pub refusal_cause : (refusal : Refusal) (a b : ℕ) (r : Result HalfReply Fault) → (refusal ≡ refusals.ReadFault → Rose a b) → TellsRefusal refusal r → IfErr r (HasCause a b)
refusal_cause (refusals.Early e) a b (Ok x) f h = tt
refusal_cause (refusals.Early e) a b (Err x) f h = subst (HasCause a b) (sym h) tt
refusal_cause refusals.ReadFault a b r f h = subst (λ x. IfErr x (HasCause a b)) (sym h) (f refl)
refusal_cause refusals.NoMemory a b r f h = subst (λ x. IfErr x (HasCause a b)) (sym h) tt

-- what is replied where two texts are no pair
no_pair_told :
    (domain problem : Option (List ℕ)) (a b : ℕ) (refusal : Refusal) (r : Result HalfReply Fault) (P : List ℕ → List ℕ → Status → List ℕ → Type 0)
    → ((ds ps : List ℕ) (e : Early) (status : Status) (written : List ℕ) → PairRefused ds ps e → status ≡ early_status e → written ≡ early_text e → P ds ps status written)
    → NoPair domain problem a b refusal → TellsRefusal refusal r
    → IfOk r (λ x. IfSome domain (λ ds. IfSome problem (λ ps. P ds ps x.status x.text)))
no_pair_told domain problem a b (refusals.Early e) (Ok x) P f h t =
    told domain problem e (λ ds ps. P ds ps x.status x.text) h (λ ds ps k. f ds ps e x.status x.text k t.0 t.1)
no_pair_told domain problem a b (refusals.Early e) (Err x) P f h t = tt
no_pair_told domain problem a b refusals.ReadFault r P f h t =
    subst (λ x. IfOk x (λ y. IfSome domain (λ ds. IfSome problem (λ ps. P ds ps y.status y.text)))) (sym t) tt
no_pair_told domain problem a b refusals.NoMemory r P f h t =
    subst (λ x. IfOk x (λ y. IfSome domain (λ ds. IfSome problem (λ ps. P ds ps y.status y.text)))) (sym t) tt

-- ---- one pair

module _ (file : File) (q : Fraction) (d : Domain) (p : Problem) where
  pub untranslated_told : (refusal : Refusal) (r : Result HalfReply Fault) → IsUntranslated q d p refusal → TellsRefusal refusal r
      → IfOk r (λ x. TranslatesPair file q d p x.status x.text)
  untranslated_told (refusals.Early e) (Ok x) h t = no_translation e h t.0 t.1
  untranslated_told (refusals.Early e) (Err f) h t = tt
  untranslated_told refusals.ReadFault r h t = absurd (translated_or_read q d p h)
  untranslated_told refusals.NoMemory r h t = subst (λ x. IfOk x (λ y. TranslatesPair file q d p y.status y.text)) (sym t) tt

  pub untranslated_fault : (refusal : Refusal) (r : Result HalfReply Fault) → IsUntranslated q d p refusal → TellsRefusal refusal r
      → IfErr r (λ f. f ≡ faults.NoMemory)
  untranslated_fault (refusals.Early e) (Ok x) h t = tt
  untranslated_fault (refusals.Early e) (Err f) h t = t
  untranslated_fault refusals.ReadFault r h t = absurd (translated_or_read q d p h)
  untranslated_fault refusals.NoMemory r h t = subst (λ x. IfErr x (λ f. f ≡ faults.NoMemory)) (sym t) refl

  plain_of : (status : Status) (written : List ℕ) → TranslatesPair file q d p status written → IsPlain status
  plain_of status written (half d' p' t i k) = subst IsPlain (sym i) tt
  plain_of status written (no_translation e h i k) = subst IsPlain (sym i) (early_plain e)

  pub pair_plain : (r : Result HalfReply Fault) → IfOk r (λ x. TranslatesPair file q d p x.status x.text) → IfOk r (λ x. IsPlain x.status)
  pair_plain (Ok x) h = plain_of x.status x.text h
  pair_plain (Err f) h = tt

-- want of memory is free
pub memory_cause : (a b : ℕ) (r : Result HalfReply Fault) → IfErr r (λ f. f ≡ faults.NoMemory) → IfErr r (HasCause a b)
memory_cause a b (Ok x) h = tt
memory_cause a b (Err f) h = subst (HasCause a b) (sym h) tt

-- ---- two texts

module _ (file : File) (q : Fraction) (domain problem : Option (List ℕ)) where
  pub pair_told : (d : Domain) (p : Problem) (r : Result HalfReply Fault) → ReadsPair domain problem d p → IsTrue (is_well_typed d p)
      → IfOk r (λ x. TranslatesPair file q d p x.status x.text)
      → IfOk r (λ x. IfSome domain (λ ds. IfSome problem (λ ps. Translates file q ds ps x.status x.text)))
  pair_told d p (Ok x) reads typed h =
      on_pair domain problem d p (λ ds ps. Translates file q ds ps x.status x.text) reads typed (λ ds ps k. of_pair d p k h)
  pair_told d p (Err f) reads typed h = tt

  pub refusal_told : (a b : ℕ) (refusal : Refusal) (r : Result HalfReply Fault) → NoPair domain problem a b refusal → TellsRefusal refusal r
      → IfOk r (λ x. IfSome domain (λ ds. IfSome problem (λ ps. Translates file q ds ps x.status x.text)))
  refusal_told a b refusal r h t =
      no_pair_told domain problem a b refusal r (λ ds ps status written. Translates file q ds ps status written)
      (λ ds ps e status written k i j. no_pair e k i j) h t
