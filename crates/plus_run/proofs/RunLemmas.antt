-- What the top call shows of a check, put together from what its calls answer.
use Rattle.std.proofs.Common.{◌≡◌, ◌⊎◌, ℕ, List, Option, Some, None, subst, sym, ◌∙◌, ap, refl, IsTrue, inl, inr, ◌≤◌, arith}
use Rattle.std.specs.Prelude.{IfSome}
use Rattle.plus_io.specs.Faults.{Rose}
use Rattle.plus_tree.specs.declared.trees.Domain.{Domain}
use Rattle.plus_tree.specs.declared.trees.Problem.{Problem}
use Rattle.plus_types.specs.Faults.{is_well_typed}
use Rattle.plus_report.specs.declared.refusals.Early.{Early}
use Rattle.plus_report.specs.declared.refusals.Early.TheVariants as es
use Rattle.plus_report.specs.Refusals.{early_text}
use Rattle.plus_validator.specs.declared.judge.Outcome.{Outcome}
use Rattle.plus_validator.specs.declared.judge.Outcome.TheVariants as outcomes
use Rattle.plus_validator.specs.Outcomes.{status_of}
use Rattle.plus_io.specs.Files.{IsPrefix}
use Rattle.plus_io.proofs.Pieces.{Takes-prefix}
use Rattle.plus_validator.specs.Validates.{Accepts, IsRefusal, IsWhole, Refuses, BreaksOff, RefusesPair, RefusesPairInPart}
use Rattle.plus_validator.specs.Leaving.{TookLines, TookSoFar, LeavesReport, BreaksOffSoFar, StopsReading, unpicked, reading, StopsWriting, on_way, at_end}
use Rattle.plus_report.specs.declared.status.Status.{Status}
use Rattle.plus_report.specs.declared.status.Status.TheVariants as s
use Rattle.plus_reply.specs.Pair.Pair.{PairRefused, SpellsWellTyped}
use Rattle.plus_reply.specs.Pair.Reads.{ReadsPair}
use Rattle.plus_reply.specs.Reply.{Replied, RepliedInPart}
use Rattle.plus_reply.specs.Statuses.{early_status}
use Rattle.plus_reply.proofs.PairLemmas.SpelledLemmas.{on_pair, told}
use Rattle.plus_run.specs.Checks.{Checks, no_pair, no_ground, accepted, refused, OnPlan}
use Rattle.plus_run.specs.Headline.{IsSettled}

-- ---- a status comes of the outcome alone
pub only_broken : (o : Outcome) → status_of o ≡ s.WriteFault → o ≡ outcomes.WriteFault
only_broken outcomes.Valid e = cc
only_broken outcomes.Invalid e = cc
only_broken outcomes.Beyond e = cc
only_broken outcomes.BadText e = cc
only_broken outcomes.ReadFault e = cc
only_broken outcomes.WriteFault e = refl
only_broken outcomes.NoMemory e = cc

pub only_read : (o : Outcome) → status_of o ≡ s.ReadFault → o ≡ outcomes.ReadFault
only_read outcomes.Valid e = cc
only_read outcomes.Invalid e = cc
only_read outcomes.Beyond e = cc
only_read outcomes.BadText e = cc
only_read outcomes.ReadFault e = refl
only_read outcomes.WriteFault e = cc
only_read outcomes.NoMemory e = cc

pub only_memory : (o : Outcome) → status_of o ≡ s.NoMemory → o ≡ outcomes.NoMemory
only_memory outcomes.Valid e = cc
only_memory outcomes.Invalid e = cc
only_memory outcomes.Beyond e = cc
only_memory outcomes.BadText e = cc
only_memory outcomes.ReadFault e = cc
only_memory outcomes.WriteFault e = cc
only_memory outcomes.NoMemory e = refl

pub no_usage : (o : Outcome) (r : Status) → r ≡ status_of o → r ≡ s.Usage → ⊥
no_usage outcomes.Valid r e f = let h : s.Valid ≡ s.Usage = sym e ∙ f in cc h
no_usage outcomes.Invalid r e f = let h : s.Invalid ≡ s.Usage = sym e ∙ f in cc h
no_usage outcomes.Beyond r e f = let h : s.Beyond ≡ s.Usage = sym e ∙ f in cc h
no_usage outcomes.BadText r e f = let h : s.BadText ≡ s.Usage = sym e ∙ f in cc h
no_usage outcomes.ReadFault r e f = let h : s.ReadFault ≡ s.Usage = sym e ∙ f in cc h
no_usage outcomes.WriteFault r e f = let h : s.WriteFault ≡ s.Usage = sym e ∙ f in cc h
no_usage outcomes.NoMemory r e f = let h : s.NoMemory ≡ s.Usage = sym e ∙ f in cc h

-- a count that rose later rose
pub rose_before : (a b n : ℕ) → a ≤ b → Rose b n → Rose a n
rose_before a b n l r = grind arith

on_plan : (plan : Option (List ℕ)) (P Q : List ℕ → Type 0) → IfSome plan P → ((ls : List ℕ) → P ls → Q ls) → IfSome plan Q
on_plan None P Q h f = tt
on_plan (Some ls) P Q h f = f ls h

-- ---- a well-typed pair

-- the report and the verdict line of a plan
pub whole_checks : (n : ℕ) (ds ps text : List ℕ) (d : Domain) (p : Problem) (o : Outcome) (w : List ℕ) → SpellsWellTyped ds ps d p → IsWhole d p n text o w → Checks n ds ps (Some text) (status_of o) w
whole_checks n ds ps text d p outcomes.Valid w t h = accepted d p t refl h
whole_checks n ds ps text d p outcomes.Invalid w t h = refused d p outcomes.Invalid t tt refl h
whole_checks n ds ps text d p outcomes.Beyond w t h = refused d p outcomes.Beyond t tt refl h
whole_checks n ds ps text d p outcomes.BadText w t h = refused d p outcomes.BadText t tt refl h
whole_checks n ds ps text d p outcomes.ReadFault w t h = absurd h
whole_checks n ds ps text d p outcomes.WriteFault w t h = absurd h
whole_checks n ds ps text d p outcomes.NoMemory w t h = absurd h

module _ (n : ℕ) (domain problem : Option (List ℕ)) (d : Domain) (p : Problem) (old new : Option (List ℕ)) (reads : ReadsPair domain problem d p) (typed : IsTrue (is_well_typed d p)) where
  -- what a check over these texts answers
  abbrev Reply : Option (List ℕ) → Status → List ℕ → Type 0
  Reply plan x w = IfSome domain (λ ds. IfSome problem (λ ps. Checks n ds ps plan x w))

  -- what is said of it on its way
  abbrev Way : Option (List ℕ) → (Domain → Problem → List ℕ → Type 0) → Type 0
  Way plan Holds = IfSome domain (λ ds. IfSome problem (λ ps. OnPlan ds ps plan Holds))

  replies : (plan : Option (List ℕ)) (x : Status) (w : List ℕ) → ((ds ps : List ℕ) → SpellsWellTyped ds ps d p → Checks n ds ps plan x w) → Reply plan x w
  replies plan x w f = on_pair domain problem d p (λ ds ps. Checks n ds ps plan x w) reads typed f

  way : (plan : Option (List ℕ)) (Holds : Domain → Problem → List ℕ → Type 0) → IfSome plan (Holds d p) → Way plan Holds
  way plan Holds h = on_pair domain problem d p (λ ds ps. OnPlan ds ps plan Holds) reads typed (λ ds ps t. record { d = d; p = p; pair = t; holds = h })

  -- ---- the reply is written

  abbrev Told : Option (List ℕ) → Status → Type 0
  Told plan x = Replied (Reply plan) old new x ⊎ Way plan (λ a b text. ⊥)

  accepted_told : (plan : Option (List ℕ)) → IfSome plan (λ text. Accepts d p n text old new) → Told plan s.Valid
  accepted_told None h = inr (way None (λ a b text. ⊥) tt)
  accepted_told (Some text) h = inl (record { written = h.bytes; reply = replies (Some text) s.Valid h.bytes (λ ds ps t. accepted d p t refl h.accepted); took = h.took })

  refused_told :
      (plan : Option (List ℕ)) (o : Outcome) → IsRefusal o
      → ((o ≡ outcomes.Beyond) × RefusesPair d p old new) ⊎ IfSome plan (λ text. Refuses d p n text o old new) → Told plan (status_of o)
  refused_told plan o i (inl g) =
      inl (record { written = g.1.line; reply = replies plan (status_of o) g.1.line (λ ds ps t. no_ground d p t (ap status_of g.0) g.1.ungrounded); took = g.1.took })
  refused_told None o i (inr h) = inr (way None (λ a b text. ⊥) tt)
  refused_told (Some text) o i (inr h) =
      inl (record { written = h.bytes; reply = replies (Some text) (status_of o) h.bytes (λ ds ps t. refused d p o t i refl h.refused); took = h.took })

  outcome_told :
      (plan : Option (List ℕ)) (o : Outcome) → (o ≡ outcomes.Valid → IfSome plan (λ text. Accepts d p n text old new))
      → (IsRefusal o → ((o ≡ outcomes.Beyond) × RefusesPair d p old new) ⊎ IfSome plan (λ text. Refuses d p n text o old new))
      → IsSettled (status_of o) → Told plan (status_of o)
  outcome_told plan outcomes.Valid a h g = accepted_told plan (a refl)
  outcome_told plan outcomes.Invalid a h g = refused_told plan outcomes.Invalid tt (h tt)
  outcome_told plan outcomes.Beyond a h g = refused_told plan outcomes.Beyond tt (h tt)
  outcome_told plan outcomes.BadText a h g = refused_told plan outcomes.BadText tt (h tt)
  outcome_told plan outcomes.ReadFault a h g = absurd g
  outcome_told plan outcomes.WriteFault a h g = absurd g
  outcome_told plan outcomes.NoMemory a h g = absurd g

  pub plan_told :
      (plan later : Option (List ℕ)) (o : Outcome) (r : Status) → later ≡ plan → (o ≡ outcomes.Valid → IfSome later (λ text. Accepts d p n text old new))
      → (IsRefusal o → ((o ≡ outcomes.Beyond) × RefusesPair d p old new) ⊎ IfSome later (λ text. Refuses d p n text o old new))
      → r ≡ status_of o → IsSettled r
      → Replied (λ x w. IfSome domain (λ ds. IfSome problem (λ ps. Checks n ds ps plan x w))) old new r
      ⊎ IfSome domain (λ ds. IfSome problem (λ ps. OnPlan ds ps plan (λ a b text. ⊥)))
  plan_told plan later o r q a h e g =
      subst (λ l. Told l r) q (subst (λ x. Told later x) (sym e) (outcome_told later o a h (subst IsSettled e g)))

  -- ---- the sink fails

  abbrev Broken : Option (List ℕ) → Type 0
  Broken plan = RepliedInPart (Reply plan) old new ⊎ Way plan (λ a b text. BreaksOffSoFar a b n text old new)

  end_broken : (plan : Option (List ℕ)) → IfSome plan (λ text. BreaksOff d p n text old new) → Broken plan
  end_broken None h = inr (way None (λ a b text. BreaksOffSoFar a b n text old new) tt)
  end_broken (Some text) h =
      inl (record { status = status_of h.outcome; written = h.bytes; reply = replies (Some text) (status_of h.outcome) h.bytes (λ ds ps t. whole_checks n ds ps text d p h.outcome h.bytes t h.whole); part = h.part })

  part_broken : (plan : Option (List ℕ)) → RefusesPairInPart d p old new ⊎ StopsWriting d p n plan old new → Broken plan
  part_broken plan (inl g) = inl (record { status = s.Beyond; written = g.line; reply = replies plan s.Beyond g.line (λ ds ps t. no_ground d p t refl g.ungrounded); part = g.part })
  part_broken plan (inr (on_way h)) = inr (way plan (λ a b text. BreaksOffSoFar a b n text old new) h)
  part_broken plan (inr (at_end h)) = end_broken plan h

  pub plan_broken :
      (plan later : Option (List ℕ)) → later ≡ plan → RefusesPairInPart d p old new ⊎ StopsWriting d p n later old new
      → RepliedInPart (λ x w. IfSome domain (λ ds. IfSome problem (λ ps. Checks n ds ps plan x w))) old new
      ⊎ IfSome domain (λ ds. IfSome problem (λ ps. OnPlan ds ps plan (λ a b text. BreaksOffSoFar a b n text old new)))
  plan_broken plan later q h = subst Broken q (part_broken later h)

  -- ---- memory is wanting

  part_stopped : (plan : Option (List ℕ)) → LeavesReport d p n plan old new → (new ≡ old) ⊎ Way plan (λ a b text. TookSoFar a b n text old new)
  part_stopped plan (inl e) = inl e
  part_stopped plan (inr h) = inr (way plan (λ a b text. TookSoFar a b n text old new) h)

  pub plan_stopped :
      (plan later : Option (List ℕ)) → later ≡ plan → LeavesReport d p n later old new
      → (new ≡ old) ⊎ IfSome domain (λ ds. IfSome problem (λ ps. OnPlan ds ps plan (λ a b text. TookSoFar a b n text old new)))
  plan_stopped plan later q h = subst (λ l. (new ≡ old) ⊎ Way l (λ a b text. TookSoFar a b n text old new)) q (part_stopped later h)

  -- ---- the shelf fails

  -- what is out is the report for the whole lines of a beginning of the text
  part_unread :
      (plan picked rest : Option (List ℕ)) → StopsReading d p n plan picked rest old new → (new ≡ old) ⊎ Way plan (λ a b text. TookLines a b n text old new)
  part_unread plan picked rest (unpicked u e) = inl e
  part_unread plan picked rest (reading read report takes said took) =
      inr (way plan (λ a b text. TookLines a b n text old new)
      (on_plan plan (IsPrefix read) (λ text. TookLines d p n text old new) (Takes-prefix plan rest read takes)
      (λ text b. record { read = read; begins = b; report = report; told = said; took = took })))

  pub plan_unread :
      (plan later picked rest : Option (List ℕ)) → later ≡ plan → StopsReading d p n later picked rest old new
      → (new ≡ old) ⊎ IfSome domain (λ ds. IfSome problem (λ ps. OnPlan ds ps plan (λ a b text. TookLines a b n text old new)))
  plan_unread plan later picked rest q h = subst (λ l. (new ≡ old) ⊎ Way l (λ a b text. TookLines a b n text old new)) q (part_unread later picked rest h)

-- ---- no pair

-- a pair that is refused with one line
pub pair_line :
    (n : ℕ) (domain problem plan : Option (List ℕ)) (e : Early) → IfSome domain (λ ds. IfSome problem (λ ps. PairRefused ds ps e))
    → IfSome domain (λ ds. IfSome problem (λ ps. Checks n ds ps plan (early_status e) (early_text e)))
pair_line n domain problem plan e h =
    told domain problem e (λ ds ps. Checks n ds ps plan (early_status e) (early_text e)) h (λ ds ps x. no_pair e x refl refl)

-- no such line tells of a fault of the output
pub early_plain : (e : Early) → early_status e ≡ s.WriteFault → ⊥
early_plain (es.BadText text start finish word) q = cc
early_plain (es.BadLine line start finish) q = cc
early_plain (es.TooLong text) q = cc
early_plain (es.Depth text at) q = cc
early_plain es.DepthOut q = cc
early_plain (es.LineTooLong line) q = cc
early_plain (es.Literal text start finish) q = cc
early_plain (es.TooMany kind most) q = cc
