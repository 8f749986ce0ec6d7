-- What `plan` replies, put together from what its calls answer.
use Rattle.std.proofs.Common.{◌≡◌, ℕ, Bool, List, Option, subst, sym, refl, IsTrue}
use Rattle.std.specs.Prelude.{IfSome, IfOk, IfErr, Result, Ok, Err}
use Rattle.plus_fraction.specs.Fraction.{Fraction}
use Rattle.plus_number.specs.declared.frac.Frac64.{Frac64}
use Rattle.plus_tree.specs.declared.trees.Domain.{Domain}
use Rattle.plus_tree.specs.declared.trees.Problem.{Problem}
use Rattle.plus_types.specs.Faults.{is_well_typed}
use Rattle.plus_numbering.specs.declared.faults.GroundFault.{GroundFault}
use Rattle.plus_numbering.specs.declared.faults.GroundFault.TheVariants.{TooMany, Literal, Memory}
use Rattle.plus_planner.specs.declared.searching.Answer.{Answer}
use Rattle.plus_planner.specs.declared.searching.Answer.TheVariants as answers
use Rattle.plus_plan_command.specs.Planning.Planned.{IsPlanned}
use Rattle.plus_reply.specs.declared.pair.pair.Refusal.{Refusal}
use Rattle.plus_reply.specs.declared.pair.pair.Refusal.TheVariants as refusals
use Rattle.plus_reply.specs.Pair.Reads.{ReadsPair, NoPair}
use Rattle.plus_reply.proofs.PairLemmas.SpelledLemmas.{on_pair}
use Rattle.plus_report.specs.declared.status.Status.{Status}
use Rattle.plus_reply.specs.declared.reply.Reply.{Reply}
use Rattle.plus_reply.specs.declared.reply.Fault.{Fault}
use Rattle.plus_reply.specs.declared.reply.Fault.TheVariants as faults
use Rattle.plus_reply.specs.Reply.{IsPlain, HasCause, TellsRefusal}
use Rattle.plus_reply.proofs.ReplyLemmas.{early_plain, no_pair_told}
use Rattle.plus_plan_command.specs.Plan.{search_refusal, IsUnsearched, answer_status, answer_text, PlansPair, answered, no_search, Plans, no_pair, of_pair}

-- no pair is unsearched because a file was not read
never_read : (fault : GroundFault) → refusals.ReadFault ≡ search_refusal fault → ⊥
never_read (TooMany kind most) i = cc i
never_read (Literal file place) i = cc i
never_read Memory i = cc i

searched_or_read : (d : Domain) (p : Problem) → IsUnsearched d p refusals.ReadFault → ⊥
searched_or_read d p h = never_read h.fault h.refusal_is

-- ---- one pair

answer_plain : (answer : Answer Frac64) → IsPlain (answer_status answer)
answer_plain (answers.Plan plan) = tt
answer_plain (answers.NoPlan beyond) = tt
answer_plain (answers.Spent tried) = tt

module _ (q : Fraction) (k tries : ℕ) (cut : Bool) (d : Domain) (p : Problem) where
  pub answer_told : (answer : Answer Frac64) (r : Result Reply Fault) → IsPlanned d p q k tries cut answer
      → IfOk r (λ x. x.status ≡ answer_status answer) → IfOk r (λ x. x.text.items ≡ answer_text k answer)
      → IfOk r (λ x. PlansPair q k tries cut d p x.status x.text.items)
  answer_told answer (Ok x) h i j = answered answer h i j
  answer_told answer (Err f) h i j = tt

  pub unsearched_told : (refusal : Refusal) (r : Result Reply Fault) → IsUnsearched d p refusal → TellsRefusal refusal r
      → IfOk r (λ x. PlansPair q k tries cut d p x.status x.text.items)
  unsearched_told (refusals.Early e) (Ok x) h t = no_search e h t.0 t.1
  unsearched_told (refusals.Early e) (Err f) h t = tt
  unsearched_told refusals.ReadFault r h t = absurd (searched_or_read d p h)
  unsearched_told refusals.NoMemory r h t = subst (λ x. IfOk x (λ y. PlansPair q k tries cut d p y.status y.text.items)) (sym t) tt

  plain_of : (status : Status) (written : List ℕ) → PlansPair q k tries cut d p status written → IsPlain status
  plain_of status written (answered answer h i j) = subst IsPlain (sym i) (answer_plain answer)
  plain_of status written (no_search e h i j) = subst IsPlain (sym i) (early_plain e)

  pub pair_plain : (r : Result Reply Fault) → IfOk r (λ x. PlansPair q k tries cut d p x.status x.text.items) → IfOk r (λ x. IsPlain x.status)
  pair_plain (Ok x) h = plain_of x.status x.text.items h
  pair_plain (Err f) h = tt

pub unsearched_fault : (d : Domain) (p : Problem) (refusal : Refusal) (r : Result Reply Fault) → IsUnsearched d p refusal → TellsRefusal refusal r
    → IfErr r (λ f. f ≡ faults.NoMemory)
unsearched_fault d p (refusals.Early e) (Ok x) h t = tt
unsearched_fault d p (refusals.Early e) (Err f) h t = t
unsearched_fault d p refusals.ReadFault r h t = absurd (searched_or_read d p h)
unsearched_fault d p refusals.NoMemory r h t = subst (λ x. IfErr x (λ f. f ≡ faults.NoMemory)) (sym t) refl

-- want of memory is free
pub memory_cause : (a b : ℕ) (r : Result Reply Fault) → IfErr r (λ f. f ≡ faults.NoMemory) → IfErr r (HasCause a b)
memory_cause a b (Ok x) h = tt
memory_cause a b (Err f) h = subst (HasCause a b) (sym h) tt

-- ---- two texts

module _ (q : Fraction) (k tries : ℕ) (cut : Bool) (domain problem : Option (List ℕ)) where
  pub pair_told : (d : Domain) (p : Problem) (r : Result Reply Fault) → ReadsPair domain problem d p → IsTrue (is_well_typed d p)
      → IfOk r (λ x. PlansPair q k tries cut d p x.status x.text.items)
      → IfOk r (λ x. IfSome domain (λ ds. IfSome problem (λ ps. Plans q k tries cut ds ps x.status x.text.items)))
  pair_told d p (Ok x) reads typed h =
      on_pair domain problem d p (λ ds ps. Plans q k tries cut ds ps x.status x.text.items) reads typed (λ ds ps t. of_pair d p t h)
  pair_told d p (Err f) reads typed h = tt

  pub refusal_told : (a b : ℕ) (refusal : Refusal) (r : Result Reply Fault) → NoPair domain problem a b refusal → TellsRefusal refusal r
      → IfOk r (λ x. IfSome domain (λ ds. IfSome problem (λ ps. Plans q k tries cut ds ps x.status x.text.items)))
  refusal_told a b refusal r h t =
      no_pair_told domain problem a b refusal r (λ ds ps status written. Plans q k tries cut ds ps status written)
      (λ ds ps e status written h i j. no_pair e h i j) h t
