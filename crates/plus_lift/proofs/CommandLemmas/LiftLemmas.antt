-- What `lift` replies, put together from what its calls answer.
use Rattle.std.proofs.Common.{◌≡◌, ℕ, ◌≤◌, true, List, Option, Some, None, subst, sym, refl, IsTrue, arith}
use Rattle.std.specs.Prelude.{IfSome, IfOk, IfErr, Result, Ok, Err}
use Rattle.plus_fraction.specs.Fraction.{Fraction}
use Rattle.plus_io.specs.Faults.{Rose}
use Rattle.plus_io.specs.Files.{KeepsFiles}
use Rattle.plus_tree.specs.declared.trees.Domain.{Domain}
use Rattle.plus_tree.specs.declared.trees.Problem.{Problem}
use Rattle.plus_tree.specs.declared.trees.Call.{Call}
use Rattle.plus_types.specs.Faults.{is_well_typed}
use Rattle.plus_numeric.specs.declared.answer.Kind.{Kind}
use Rattle.plus_numeric.specs.declared.answer.Kind.TheVariants as kinds
use Rattle.plus_numeric.specs.declared.answer.Stop.{Stop}
use Rattle.plus_numeric.specs.declared.answer.Stop.TheVariants as stops
use Rattle.plus_numeric.specs.declared.source.Source.TheVariants.{Translated}
use Rattle.plus_numeric.specs.Answers.{IsAccepted, IsRefused, Stops}
use Rattle.plus_reply.specs.declared.pair.pair.Refusal.{Refusal}
use Rattle.plus_reply.specs.declared.pair.pair.Refusal.TheVariants as refusals
use Rattle.plus_reply.specs.Pair.Reads.{ReadsPair, NoPair}
use Rattle.plus_reply.proofs.PairLemmas.SpelledLemmas.{on_pair}
use Rattle.plus_report.specs.declared.status.Status.{Status}
use Rattle.plus_reply.specs.declared.reply.Reply.{Reply}
use Rattle.plus_reply.specs.declared.reply.Fault.{Fault}
use Rattle.plus_reply.specs.declared.reply.Fault.TheVariants as faults
use Rattle.plus_reply.specs.Reply.{IsPlain, HasCause, TellsRefusal}
use Rattle.plus_reply.proofs.ReplyLemmas.{no_pair_told}
use Rattle.plus_lift.specs.Command.Again.{SpellsAgain, NotReadAgain}
use Rattle.plus_numeric.specs.Verdicts.{kind_status}
use Rattle.plus_lift.specs.Command.Lift.{TellsStop, LiftsCalls, LiftsPlan, no_plan, lifts, LiftsPair, no_texts, of_texts, Lifts, no_pair, of_pair}

-- ---- a plan

on_some : (plan : Option (List ℕ)) (P Q : List ℕ → Type 0) → IfSome plan P → ((ls : List ℕ) → P ls → Q ls) → IfSome plan Q
on_some None P Q h f = tt
on_some (Some ls) P Q h f = f ls h

module _ (q : Fraction) (d : Domain) (p : Problem) (d' : Domain) (p' : Problem) (plan : Option (List ℕ)) where
  pub stop_told : (a b : ℕ) (stop : Stop) (r : Result Reply Fault) → Stops Translated d' p' plan a b stop → TellsStop stop r
      → IfOk r (λ x. IfSome plan (λ ls. LiftsPlan q d p d' p' ls x.status x.text.items))
  stop_told a b (stops.Refused y) (Ok x) h t =
      on_some plan (λ ls. IsRefused Translated d' p' ls y.kind y.line.items) (λ ls. LiftsPlan q d p d' p' ls x.status x.text.items) h
      (λ ls k. no_plan y.kind (subst (IsRefused Translated d' p' ls y.kind) (sym t.1) k) t.0)
  stop_told a b (stops.Refused y) (Err f) h t = tt
  stop_told a b stops.ReadFault r h t = subst (λ x. IfOk x (λ y. IfSome plan (λ ls. LiftsPlan q d p d' p' ls y.status y.text.items))) (sym t) tt
  stop_told a b stops.NoMemory r h t = subst (λ x. IfOk x (λ y. IfSome plan (λ ls. LiftsPlan q d p d' p' ls y.status y.text.items))) (sym t) tt

  pub calls_told : (calls given : List Call) (r : Result Reply Fault) → given ≡ calls → IfSome plan (λ ls. IsAccepted d' p' ls true calls)
      → IfOk r (λ x. LiftsCalls q d p given x.status x.text.items)
      → IfOk r (λ x. IfSome plan (λ ls. LiftsPlan q d p d' p' ls x.status x.text.items))
  calls_told calls given (Ok x) same h l =
      on_some plan (λ ls. IsAccepted d' p' ls true calls) (λ ls. LiftsPlan q d p d' p' ls x.status x.text.items) h
      (λ ls k. lifts calls k (subst (λ c. LiftsCalls q d p c x.status x.text.items) same l))
  calls_told calls given (Err f) same h l = tt

pub kind_plain : (kind : Kind) → IsPlain (kind_status kind)
kind_plain kinds.Invalid = tt
kind_plain kinds.Beyond = tt
kind_plain kinds.BadText = tt

pub stop_plain : (stop : Stop) (r : Result Reply Fault) → TellsStop stop r → IfOk r (λ x. IsPlain x.status)
stop_plain (stops.Refused x) (Ok r) h = subst IsPlain (sym h.0) (kind_plain x.kind)
stop_plain (stops.Refused x) (Err f) h = tt
stop_plain stops.ReadFault r h = subst (λ x. IfOk x (λ y. IsPlain y.status)) (sym h) tt
stop_plain stops.NoMemory r h = subst (λ x. IfOk x (λ y. IsPlain y.status)) (sym h) tt

pub stop_cause : (d : Domain) (p : Problem) (plan : Option (List ℕ)) (a b : ℕ) (stop : Stop) (r : Result Reply Fault)
    → Stops Translated d p plan a b stop → TellsStop stop r → IfErr r (HasCause a b)
stop_cause d p plan a b (stops.Refused x) (Ok r) h t = tt
stop_cause d p plan a b (stops.Refused x) (Err f) h t = absurd t
stop_cause d p plan a b stops.ReadFault r h t = subst (λ x. IfErr x (HasCause a b)) (sym t) h
stop_cause d p plan a b stops.NoMemory r h t = subst (λ x. IfErr x (HasCause a b)) (sym t) tt

-- ---- a pair

module _ (q : Fraction) (d : Domain) (p : Problem) (plan : Option (List ℕ)) where
  pub no_texts_told : (refusal : Refusal) (r : Result Reply Fault) → NotReadAgain q d p refusal → TellsRefusal refusal r
      → IfOk r (λ x. IfSome plan (λ ls. LiftsPair q d p ls x.status x.text.items))
  no_texts_told (refusals.Early e) (Ok x) h t =
      on_some plan (λ ls. Unit {0}) (λ ls. LiftsPair q d p ls x.status x.text.items) (anything plan) (λ ls k. no_texts e h t.0 t.1)
    where
      anything : (o : Option (List ℕ)) → IfSome o (λ ls. Unit {0})
      anything None = tt
      anything (Some ls) = tt
  no_texts_told (refusals.Early e) (Err f) h t = tt
  no_texts_told refusals.ReadFault r h t = absurd h
  no_texts_told refusals.NoMemory r h t = subst (λ x. IfOk x (λ y. IfSome plan (λ ls. LiftsPair q d p ls y.status y.text.items))) (sym t) tt

  pub texts_told : (d' : Domain) (p' : Problem) (r : Result Reply Fault) → SpellsAgain q d p d' p'
      → IfOk r (λ x. IfSome plan (λ ls. LiftsPlan q d p d' p' ls x.status x.text.items))
      → IfOk r (λ x. IfSome plan (λ ls. LiftsPair q d p ls x.status x.text.items))
  texts_told d' p' (Ok x) a h =
      on_some plan (λ ls. LiftsPlan q d p d' p' ls x.status x.text.items) (λ ls. LiftsPair q d p ls x.status x.text.items) h
      (λ ls k. of_texts d' p' a k)
  texts_told d' p' (Err f) a h = tt

pub no_texts_cause : (q : Fraction) (d : Domain) (p : Problem) (a b : ℕ) (refusal : Refusal) (r : Result Reply Fault) → NotReadAgain q d p refusal → TellsRefusal refusal r
    → IfErr r (HasCause a b)
no_texts_cause q d p a b (refusals.Early e) (Ok x) h t = tt
no_texts_cause q d p a b (refusals.Early e) (Err f) h t = subst (HasCause a b) (sym t) tt
no_texts_cause q d p a b refusals.ReadFault r h t = absurd h
no_texts_cause q d p a b refusals.NoMemory r h t = subst (λ x. IfErr x (HasCause a b)) (sym t) tt

-- no file is touched
pub keeps_same : {S : Type 0} (names : S → List (List ℕ)) (bytes : S → List ℕ → Option (List ℕ)) (faults : S → ℕ) (s : S) → KeepsFiles names bytes faults s s
keeps_same names bytes faults s = record { same_names = refl; same_bytes = refl; no_fall = omega arith }

-- want of memory is free
pub memory_cause : (a b : ℕ) (r : Result Reply Fault) → IfErr r (λ f. f ≡ faults.NoMemory) → IfErr r (HasCause a b)
memory_cause a b (Ok x) h = tt
memory_cause a b (Err f) h = subst (HasCause a b) (sym h) tt

rose_before : (before a b : ℕ) → before ≤ a → Rose a b → Rose before b
rose_before before a b l h = grind arith

pub cause_before : (before a b : ℕ) (r : Result Reply Fault) → before ≤ a → IfErr r (HasCause a b) → IfErr r (HasCause before b)
cause_before before a b (Ok x) l h = tt
cause_before before a b (Err faults.ReadFault) l h = rose_before before a b l h
cause_before before a b (Err faults.NoMemory) l h = tt

-- ---- three texts

module _ (q : Fraction) (domain problem plan : Option (List ℕ)) where
  pub pair_told : (d : Domain) (p : Problem) (later : Option (List ℕ)) (r : Result Reply Fault) → later ≡ plan → ReadsPair domain problem d p
      → IsTrue (is_well_typed d p) → IfOk r (λ x. IfSome later (λ ls. LiftsPair q d p ls x.status x.text.items))
      → IfOk r (λ x. IfSome domain (λ ds. IfSome problem (λ ps. IfSome plan (λ ls. Lifts q ds ps ls x.status x.text.items))))
  pair_told d p later (Ok x) same reads typed h =
      on_pair domain problem d p (λ ds ps. IfSome plan (λ ls. Lifts q ds ps ls x.status x.text.items)) reads typed
      (λ ds ps k. on_some plan (λ ls. LiftsPair q d p ls x.status x.text.items) (λ ls. Lifts q ds ps ls x.status x.text.items)
      (subst (λ o. IfSome o (λ ls. LiftsPair q d p ls x.status x.text.items)) same h) (λ ls l. of_pair d p k l))
  pair_told d p later (Err f) same reads typed h = tt

  told_any : (ds ps : List ℕ) (status : Status) (written : List ℕ) (o : Option (List ℕ)) → ((ls : List ℕ) → Lifts q ds ps ls status written)
      → IfSome o (λ ls. Lifts q ds ps ls status written)
  told_any ds ps status written None f = tt
  told_any ds ps status written (Some ls) f = f ls

  pub refusal_told : (a b : ℕ) (refusal : Refusal) (r : Result Reply Fault) → NoPair domain problem a b refusal → TellsRefusal refusal r
      → IfOk r (λ x. IfSome domain (λ ds. IfSome problem (λ ps. IfSome plan (λ ls. Lifts q ds ps ls x.status x.text.items))))
  refusal_told a b refusal r h t =
      no_pair_told domain problem a b refusal r (λ ds ps status written. IfSome plan (λ ls. Lifts q ds ps ls status written))
      (λ ds ps e status written k i j. told_any ds ps status written plan (λ ls. no_pair e k i j)) h t
