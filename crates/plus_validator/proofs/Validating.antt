-- What the check of a plan writes, by its outcome.
use Rattle.std.proofs.Common.{◌≡◌, ℕ, List, ◌++◌, take, refl, sym, subst, ◌∙◌}
use Rattle.std.specs.Prelude.{◌≢◌, Option, Some, None, IfSome, IfErr, Result}
use Rattle.plus_io.specs.Faults.{Rose}
use Rattle.plus_io.specs.Taken.{Took, TookPart}
use Rattle.plus_model.specs.Terms as terms
use Rattle.plus_number.specs.Frac.{IsFrac64}
use Rattle.plus_state.specs.View.{Labels}
use Rattle.plus_tree.specs.declared.trees.Domain.{Domain}
use Rattle.plus_tree.specs.declared.trees.Problem.{Problem}
use Rattle.plus_expansion.specs.Expansion.{expanded, labels_meant}
use Rattle.plus_expansion.specs.Counting.{IsGroundable}
use Rattle.plus_validator.specs.Account.{Progress}
use Rattle.plus_validator.specs.declared.halt.Halt.{Halt}
use Rattle.plus_validator.specs.declared.judgement.Judgement.{Judgement}
use Rattle.plus_validator.specs.declared.judge.Outcome.{Outcome}
use Rattle.plus_validator.specs.declared.judge.Outcome.TheVariants.{Valid, Invalid, Beyond, BadText, ReadFault, WriteFault, NoMemory}
use Rattle.plus_validator.specs.declared.run.Run.{Run}
use Rattle.plus_validator.specs.Halts.{HaltFits}
use Rattle.plus_validator.specs.Playing.{Begins}
use Rattle.plus_validator.specs.Leaving.{LeavesReport, StopsWriting, at_end, KeepsUp}
use Rattle.plus_validator.specs.Streaming.{IsPlayedFrom}
use Rattle.plus_validator.specs.Told.{reports}
use Rattle.plus_validator.specs.declared.memory.Report.{Report}
use Rattle.plus_validator.specs.Judged.{IsPlain, IsJudged, SumsUp, Concludes, told, broken, no_memory}
use Rattle.plus_validator.specs.Validates.{Accepts, Refuses, BreaksOff, IsWhole, RefusesPair, RefusesPairInPart, IsRefusal, IsRefusedIn, EndsUngrounded}
use Rattle.plus_validator.proofs.Judging.{judged_told, sums_plain}
use Rattle.plus_validator.proofs.Handing.{took_both, took_part_behind}
use Rattle.plus_validator.proofs.Leaving.{leaves_played, keeps_more}

-- a fact for the bytes under a name
some_fact : {A : Type 0} (o : Option A) (P Q : A → Type 0) → ((x : A) → P x → Q x) → IfSome o P → IfSome o Q
some_fact None P Q f h = tt
some_fact (Some x) P Q f h = f x h

-- ---- the pair is not grounded

pub ungrounded_not_valid : (d : Domain) (p : Problem) (before now : ℕ) (old new : Option (List ℕ)) (r : Outcome) → EndsUngrounded d p before now old new r → r ≡ Valid → ⊥
ungrounded_not_valid d p before now old new r e h = subst (EndsUngrounded d p before now old new) h e

pub ungrounded_reads : (d : Domain) (p : Problem) (before now : ℕ) (old new : Option (List ℕ)) (r : Outcome) → EndsUngrounded d p before now old new r → r ≡ ReadFault → ⊥
ungrounded_reads d p before now old new r e h = subst (EndsUngrounded d p before now old new) h e

pub ungrounded_refused : (d : Domain) (p : Problem) (before now : ℕ) (old new : Option (List ℕ)) (r : Outcome) → EndsUngrounded d p before now old new r → IsRefusal r → (r ≡ Beyond) × RefusesPair d p old new
ungrounded_refused d p before now old new Beyond e h = (refl, e)
ungrounded_refused d p before now old new Invalid e h = absurd e
ungrounded_refused d p before now old new BadText e h = absurd e
ungrounded_refused d p before now old new Valid e h = absurd e
ungrounded_refused d p before now old new ReadFault e h = absurd e
ungrounded_refused d p before now old new WriteFault e h = absurd h
ungrounded_refused d p before now old new NoMemory e h = absurd h

pub ungrounded_fault : (d : Domain) (p : Problem) (before now : ℕ) (old new : Option (List ℕ)) (r : Outcome) → EndsUngrounded d p before now old new r → r ≡ WriteFault → Rose before now × RefusesPairInPart d p old new
ungrounded_fault d p before now old new r e h = subst (EndsUngrounded d p before now old new) h e

pub ungrounded_memory : (d : Domain) (p : Problem) (before now : ℕ) (old new : Option (List ℕ)) (r : Outcome) → EndsUngrounded d p before now old new r → r ≡ NoMemory → new ≡ old
ungrounded_memory d p before now old new r e h = subst (EndsUngrounded d p before now old new) h e

-- ---- the plan is judged

module _ (d : Domain) (p : Problem) (most : ℕ) (bytes written : List ℕ) (j : Judgement) (judged : IsJudged d p most bytes written j) where
  accepts_read : (old new : Option (List ℕ)) → Took old new written → j.outcome ≡ Valid → Accepts d p most bytes old new
  accepts_read old new t h = record { bytes = written; took = t; accepted = judged.valid h }

  refusal_not_valid : (o : Outcome) → IsRefusal o → o ≢ Valid
  refusal_not_valid o h e = subst IsRefusal e h

  refuses_read : (old new : Option (List ℕ)) → Took old new written → IsRefusal j.outcome → Refuses d p most bytes j.outcome old new
  refuses_read old new t h = record { bytes = written; took = t; refused = judged.refused (refusal_not_valid j.outcome h) }

  whole_by : (o : Outcome) → j.outcome ≡ o → IsPlain o → IsWhole d p most bytes o written
  whole_by Valid e h = judged.valid e
  whole_by Invalid e h = subst (λ (o : Outcome). IsRefusedIn d p most bytes o written) e (judged.refused (λ k. (let f : Invalid ≡ Valid = subst (λ (o : Outcome). o ≡ Valid) e k in cc f)))
  whole_by Beyond e h = subst (λ (o : Outcome). IsRefusedIn d p most bytes o written) e (judged.refused (λ k. (let f : Beyond ≡ Valid = subst (λ (o : Outcome). o ≡ Valid) e k in cc f)))
  whole_by BadText e h = subst (λ (o : Outcome). IsRefusedIn d p most bytes o written) e (judged.refused (λ k. (let f : BadText ≡ Valid = subst (λ (o : Outcome). o ≡ Valid) e k in cc f)))
  whole_by ReadFault e h = absurd h
  whole_by WriteFault e h = absurd h
  whole_by NoMemory e h = absurd h

  breaks_off_read : (old new : Option (List ℕ)) → TookPart old new written → BreaksOff d p most bytes old new
  breaks_off_read old new t = record { outcome = j.outcome; bytes = written; whole = whole_by j.outcome refl judged.plain; part = t }

module _ (d : Domain) (p : Problem) (most : ℕ) (known : Option (List ℕ)) (written : List ℕ) (j : Judgement) (judged : IfSome known (λ bytes. IsJudged d p most bytes written j)) (old new : Option (List ℕ)) where
  pub accepts_told : Took old new written → j.outcome ≡ Valid → IfSome known (λ bytes. Accepts d p most bytes old new)
  accepts_told t h = some_fact known (λ bytes. IsJudged d p most bytes written j) (λ bytes. Accepts d p most bytes old new) (λ bytes r. accepts_read d p most bytes written j r old new t h) judged

  pub refuses_told : Took old new written → IsRefusal j.outcome → IfSome known (λ bytes. Refuses d p most bytes j.outcome old new)
  refuses_told t h = some_fact known (λ bytes. IsJudged d p most bytes written j) (λ bytes. Refuses d p most bytes j.outcome old new) (λ bytes r. refuses_read d p most bytes written j r old new t h) judged

  pub breaks_off_told : TookPart old new written → IfSome known (λ bytes. BreaksOff d p most bytes old new)
  breaks_off_told t = some_fact known (λ bytes. IsJudged d p most bytes written j) (λ bytes. BreaksOff d p most bytes old new) (λ bytes r. breaks_off_read d p most bytes written j r old new t) judged

-- a judgement's outcome is no fault
pub judged_reads : (o : Outcome) → IsPlain o → o ≡ ReadFault → ⊥
judged_reads o p e = subst IsPlain e p

pub judged_memory : (o : Outcome) → IsPlain o → o ≡ NoMemory → ⊥
judged_memory o p e = subst IsPlain e p

pub judged_writes : (o : Outcome) → IsPlain o → o ≡ WriteFault → ⊥
judged_writes o p e = subst IsPlain e p

-- ---- the plan is played, and what is left is written

module _ (d : Domain) (p : Problem) (N : Labels) (P : terms.Problem) (most : ℕ) (bytes : Option (List ℕ)) (first : Progress (List ℕ)) (run : Run Report) (played : Result (Unit {0}) Halt) (old mid : Option (List ℕ))
    (z : IsGroundable IsFrac64 d p) (e : P ≡ expanded d p) (n : N ≡ labels_meant d p) (b : Begins P (reports N P) most first) (f : IsPlayedFrom d p N P bytes first run old mid played) (fits : IfErr played (HaltFits P)) where
  module _ (j : Judgement) (u : SumsUp N P run played j) where
    judged_here : IfSome bytes (λ text. IsJudged d p most text (f.sent ++ j.bytes.items) j)
    judged_here = judged_told d p N P most bytes first f.sent run z j played e n b f.out fits u

    all_taken : (new : Option (List ℕ)) → Took mid new j.bytes.items → Took old new (f.sent ++ j.bytes.items)
    all_taken new t = took_both old mid new f.sent j.bytes.items f.took t

  module _ (new : Option (List ℕ)) (outcome : Outcome) (before now : ℕ) where
    abbrev Ended : Type 0
    Ended = Concludes N P run played before now mid new outcome

    pub ends_valid : Ended → outcome ≡ Valid → IfSome bytes (λ text. Accepts d p most text old new)
    ends_valid (told j u o t) h = accepts_told d p most bytes (f.sent ++ j.bytes.items) j (judged_here j u) old new (all_taken j u new t) (sym o ∙ h)
    ends_valid (broken j u o r t) h = absurd (let k : WriteFault ≡ Valid = sym o ∙ h in cc k)
    ends_valid (no_memory o same) h = absurd (let k : NoMemory ≡ Valid = sym o ∙ h in cc k)

    pub ends_refused : Ended → IsRefusal outcome → IfSome bytes (λ text. Refuses d p most text outcome old new)
    ends_refused (told j u o t) h =
        subst (λ x. IfSome bytes (λ text. Refuses d p most text x old new)) (sym o)
        (refuses_told d p most bytes (f.sent ++ j.bytes.items) j (judged_here j u) old new (all_taken j u new t) (subst IsRefusal o h))
    ends_refused (broken j u o r t) h = absurd (subst IsRefusal o h)
    ends_refused (no_memory o same) h = absurd (subst IsRefusal o h)

    pub ends_reading : Ended → outcome ≡ ReadFault → ⊥
    ends_reading (told j u o t) h = judged_reads j.outcome (sums_plain N P run played j u) (sym o ∙ h)
    ends_reading (broken j u o r t) h = let k : WriteFault ≡ ReadFault = sym o ∙ h in cc k
    ends_reading (no_memory o same) h = let k : NoMemory ≡ ReadFault = sym o ∙ h in cc k

    pub ends_broken : Ended → outcome ≡ WriteFault → Rose before now × StopsWriting d p most bytes old new
    ends_broken (told j u o t) h = absurd (judged_writes j.outcome (sums_plain N P run played j u) (sym o ∙ h))
    ends_broken (broken j u o r t) h =
        (r, at_end (breaks_off_told d p most bytes (f.sent ++ j.bytes.items) j (judged_here j u) old new (took_part_behind old mid new f.sent j.bytes.items f.took t)))
    ends_broken (no_memory o same) h = absurd (let k : NoMemory ≡ WriteFault = sym o ∙ h in cc k)

    pub ends_wanting : Ended → outcome ≡ NoMemory → LeavesReport d p most bytes old new
    ends_wanting (told j u o t) h = absurd (judged_memory j.outcome (sums_plain N P run played j u) (sym o ∙ h))
    ends_wanting (broken j u o r t) h = absurd (let k : WriteFault ≡ NoMemory = sym o ∙ h in cc k)
    ends_wanting (no_memory o same) h = subst (LeavesReport d p most bytes old) (sym same) (leaves_played d p N P most first z e n b bytes f.sent run played old mid fits f.took f.out)

-- what is written behind it changes nothing of how far the reading was ahead
pub ends_keeping : (d : Domain) (p : Problem) (N : Labels) (P : terms.Problem) (most : ℕ) (bytes rest : Option (List ℕ)) (run : Run Report) (played : Result (Unit {0}) Halt) (old mid new : Option (List ℕ)) (before now : ℕ) (outcome : Outcome) → KeepsUp d p most bytes rest old mid → Concludes N P run played before now mid new outcome → KeepsUp d p most bytes rest old new
ends_keeping d p N P most bytes rest run played old mid new before now outcome k (told j u o t) = keeps_more d p most bytes rest old mid new j.bytes.items k t
ends_keeping d p N P most bytes rest run played old mid new before now outcome k (broken j u o r t) = keeps_more d p most bytes rest old mid new (take t.0 j.bytes.items) k t.2
ends_keeping d p N P most bytes rest run played old mid new before now outcome k (no_memory o same) = subst (KeepsUp d p most bytes rest old) (sym same) k
