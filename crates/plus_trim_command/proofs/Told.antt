-- What `trim` replies, put together from what its calls answer.
use Rattle.std.proofs.Common.{◌≡◌, ◌≢◌, ℕ, ◌≤◌, ◌<◌, Bool, false, true, List, Option, Some, None, subst, sym, refl, ap, ◌∙◌, IsTrue, arith}
use Rattle.std.specs.Prelude.{IfSome, IfOk, IfErr, Result, Ok, Err}
use Rattle.plus_fraction.specs.Fraction.{Fraction}
use Rattle.plus_model.specs.Terms as terms
use Rattle.plus_model.specs.Plan as model
use Rattle.plus_tree.specs.declared.trees.Domain.{Domain}
use Rattle.plus_tree.specs.declared.trees.Problem.{Problem}
use Rattle.plus_types.specs.Faults.{is_well_typed}
use Rattle.plus_expansion.specs.Expansion.{expanded}
use Rattle.plus_plan.specs.declared.forms.Line.{Line}
use Rattle.plus_report.specs.declared.refusals.Early.{Early}
use Rattle.plus_report.specs.declared.refusals.Early.TheVariants as early
use Rattle.plus_report.specs.declared.status.Status.{Status}
use Rattle.plus_report.specs.declared.status.Status.TheVariants as s
use Rattle.plus_report.specs.declared.verdicts.Verdict.{Verdict}
use Rattle.plus_report.specs.declared.verdicts.Verdict.TheVariants as verdicts
use Rattle.plus_reply.specs.declared.pair.pair.Refusal.{Refusal}
use Rattle.plus_reply.specs.declared.reply.Reply.{Reply}
use Rattle.plus_reply.specs.declared.reply.Fault.{Fault}
use Rattle.plus_reply.specs.declared.reply.Fault.TheVariants as faults
use Rattle.plus_reply.specs.Pair.Reads.{ReadsPair, NoPair}
use Rattle.plus_reply.specs.Statuses.{early_status}
use Rattle.plus_reply.specs.Reply.{IsPlain, HasCause, TellsRefusal}
use Rattle.plus_reply.proofs.PairLemmas.SpelledLemmas.{on_pair}
use Rattle.plus_reply.proofs.ReplyLemmas.{early_plain, no_pair_told}
use Rattle.plus_number.specs.declared.frac.Frac64.{Frac64}
use Rattle.plus_trim.specs.Acts.{Act}
use Rattle.plus_trim_command.specs.Acts.{act_count, acts_in, last_time}
use Rattle.plus_trim_command.specs.Lines.{IsPlanText, spoken}
use Rattle.plus_trim_command.specs.Playable.{is_valid, AcceptsText, KeepsActs}
use Rattle.plus_trim_command.specs.Trim.{most_acts, many_line, TrimsPlan, many, kept, TrimsPair, refused, accepted, Trims, no_pair, of_pair}
use Rattle.plus_trim_command.proofs.Accepted.{meant_spoken}
use Rattle.plus_trim_command.proofs.Reading.{read_same, within_same}
use Rattle.plus_validator.specs.declared.judge.Judged.{Judged}
use Rattle.plus_validator.specs.declared.judge.Outcome.{Outcome}
use Rattle.plus_validator.specs.declared.judge.Outcome.TheVariants as outcomes
use Rattle.plus_validator.specs.Accepted.{IsAccepted}
use Rattle.plus_validator.specs.Outcomes.{early_outcome, outcome_of, status_of}
use Rattle.plus_validator.specs.Plans.{pair, lines_meant}
use Rattle.plus_validator.specs.Validates.{IsRefusal, IsRead}
use Rattle.plus_validator.specs.Verdicts as v
use Rattle.plus_validator.proofs.Handing.{rose_since}
use Rattle.plus_validator.specs.Verdicts.{JudgesText, JudgesWhole, ungrounded, judged}
use Rattle.plus_words.specs.Numbers.{default_happenings}

-- ---- the verdict

-- a text that is refused is no valid plan
refused_early : (e : Early) (w : Verdict Frac64) → w ≡ verdicts.Other e → outcome_of w ≡ outcomes.Valid → ⊥
refused_early e w i h = early_apart e (sym (ap (λ (x : Verdict Frac64). outcome_of x) i) ∙ h)
  where
    early_apart : (e : Early) → early_outcome e ≡ outcomes.Valid → ⊥
    early_apart (early.BadText text start last word) k = cc k
    early_apart (early.BadLine line start last) k = cc k
    early_apart (early.TooLong text) k = cc k
    early_apart (early.Depth text at) k = cc k
    early_apart early.DepthOut k = cc k
    early_apart (early.LineTooLong line) k = cc k
    early_apart (early.Literal text start last) k = cc k
    early_apart (early.TooMany kind most) k = cc k

-- its status is that of the text
early_same : (e : Early) → status_of (early_outcome e) ≡ early_status e
early_same (early.BadText text start last word) = refl
early_same (early.BadLine line start last) = refl
early_same (early.TooLong text) = refl
early_same (early.Depth text at) = refl
early_same early.DepthOut = refl
early_same (early.LineTooLong line) = refl
early_same (early.Literal text start last) = refl
early_same (early.TooMany kind most) = refl

judged_plain : (w : Verdict Frac64) (status : Status) → status ≡ status_of (outcome_of w) → IsPlain status
judged_plain verdicts.Valid status i = subst IsPlain (sym i) tt
judged_plain (verdicts.Invalid breach) status i = subst IsPlain (sym i) tt
judged_plain (verdicts.Beyond limit) status i = subst IsPlain (sym i) tt
judged_plain (verdicts.Other e) status i = subst IsPlain (sym (i ∙ early_same e)) (early_plain e)

no_refusal : (o : Outcome) → IsRefusal o → o ≡ outcomes.Valid → ⊥
no_refusal o h e = subst IsRefusal e h

valid_true : (o : Outcome) → is_valid o ≡ true → o ≡ outcomes.Valid
valid_true outcomes.Valid h = refl
valid_true outcomes.Invalid h = cc h
valid_true outcomes.Beyond h = cc h
valid_true outcomes.BadText h = cc h
valid_true outcomes.ReadFault h = cc h
valid_true outcomes.WriteFault h = cc h
valid_true outcomes.NoMemory h = cc h

valid_false : (o : Outcome) → is_valid o ≡ false → o ≡ outcomes.Valid → ⊥
valid_false o h e = let k : true ≡ false = sym (ap is_valid e) ∙ h in cc k

-- the outcome that was asked for is that of the verdict
pub is_accepted : (o : Outcome) (w : Verdict Frac64) (b : Bool) → o ≡ outcome_of w → b ≡ is_valid o → b ≡ true → outcome_of w ≡ outcomes.Valid
is_accepted o w b e f g = valid_true (outcome_of w) (sym (ap is_valid e) ∙ sym f ∙ g)

pub is_refused : (o : Outcome) (w : Verdict Frac64) (b : Bool) → o ≡ outcome_of w → b ≡ is_valid o → b ≡ false → outcome_of w ≢ outcomes.Valid
is_refused o w b e f g = valid_false (outcome_of w) (sym (ap is_valid e) ∙ sym f ∙ g)

module _ (d : Domain) (p : Problem) where
  whole_accepts : (text : List ℕ) (goes_on : _) (j : Judged) → JudgesWhole d p default_happenings text goes_on j → outcome_of j.verdict ≡ outcomes.Valid → (goes_on ≡ false) × AcceptsText d p text
  whole_accepts text goes_on j (v.accepted e a) h = (e, (a.bytes, a.accepted))
  whole_accepts text goes_on j (v.refused r) h = absurd (no_refusal (outcome_of j.verdict) r.refusal h)

  pub accepts : (text : List ℕ) (j : Judged) → JudgesText d p default_happenings text j → outcome_of j.verdict ≡ outcomes.Valid → AcceptsText d p text
  accepts text j (ungrounded r) h = absurd (refused_early r.early j.verdict r.verdict h)
  accepts text j (judged front goes_on r k) h =
      let w = whole_accepts front goes_on j k h in
      subst (AcceptsText d p) (subst (λ b. IsRead text front b) w.0 r).0 w.1

  judges_same : (bytes read : List ℕ) (j : Judged) → IsPlanText bytes read → JudgesText d p default_happenings read j → JudgesText d p default_happenings bytes j
  judges_same bytes read j t (ungrounded r) = ungrounded r
  judges_same bytes read j t (judged front goes_on r k) = judged front goes_on (read_same bytes read front goes_on t r) k

  -- a plan that is refused has its verdict
  pub refused_told : (text : List ℕ) (j : Judged) (status : Status) (written : List ℕ) → JudgesText d p default_happenings text j → outcome_of j.verdict ≢ outcomes.Valid → status ≡ status_of (outcome_of j.verdict) → written ≡ j.line.items → TrimsPair d p text status written
  refused_told text j status written k n i w = refused j k n i w

  -- ---- a plan

  pub pair_same : (bytes read : List ℕ) (status : Status) (written : List ℕ) → IsPlanText bytes read → TrimsPair d p read status written → TrimsPair d p bytes status written
  pair_same bytes read status written t (refused j k n i w) = refused j (judges_same bytes read j t k) n i w
  pair_same bytes read status written t (accepted b a k) = subst (λ ts. TrimsPair d p ts status written) (within_same bytes read t a.within) (accepted b a k)

  pub lines_accepted : (text : List ℕ) (a : AcceptsText d p text) (lines : List Line) (status : Status) (written : List ℕ) → lines ≡ spoken a.1.lines → TrimsPlan (expanded d p) (lines_meant (pair d p) lines) status written → TrimsPair d p text status written
  lines_accepted text a lines status written e k =
      accepted a.0 a.1 (subst (λ ls. TrimsPlan (expanded d p) ls status written) (ap (lines_meant (pair d p)) e ∙ meant_spoken (pair d p) a.1.lines) k)

  plain_plan : (P : terms.Problem) (lines : List model.Line) (status : Status) (written : List ℕ) → TrimsPlan P lines status written → IsPlain status
  plain_plan P lines status written (many h i w) = subst IsPlain (sym i) tt
  plain_plan P lines status written (kept places beyond f k i w) = subst IsPlain (sym i) tt

  pub plain_pair : (plan : List ℕ) (status : Status) (written : List ℕ) → TrimsPair d p plan status written → IsPlain status
  plain_pair plan status written (refused j k n i w) = judged_plain j.verdict status i
  plain_pair plan status written (accepted b a k) = plain_plan (expanded d p) (lines_meant (pair d p) a.lines) status written k

-- what is kept of acts is what is written of lines
pub keeps_plan : (P : terms.Problem) (lines : List model.Line) (xs : List Act) (last : Fraction) (status : Status) (written : List ℕ) → act_count lines ≤ most_acts → xs ≡ acts_in lines → last ≡ last_time lines → KeepsActs P xs last status written → TrimsPlan P lines status written
keeps_plan P lines xs last status written f e t k =
    let r = subst (λ (u : Fraction). KeepsActs P (acts_in lines) u status written) t (subst (λ (ys : List Act). KeepsActs P ys last status written) e k) in
    kept r.places r.beyond f r.kept r.status_is r.text_is

-- ---- results

pub cause_since : {X : Type 0} (before a b : ℕ) (r : Result X Fault) → before ≤ a → IfErr r (HasCause a b) → IfErr r (HasCause before b)
cause_since before a b (Ok x) l h = tt
cause_since before a b (Err faults.ReadFault) l h = rose_since before a b l h
cause_since before a b (Err faults.NoMemory) l h = tt

pub on_some : (plan : Option (List ℕ)) (P Q : List ℕ → Type 0) → ((ls : List ℕ) → P ls → Q ls) → IfSome plan P → IfSome plan Q
on_some None P Q f h = tt
on_some (Some ls) P Q f h = f ls h

-- ---- three texts

module _ (domain problem plan : Option (List ℕ)) where
  pub pair_told : (d : Domain) (p : Problem) (later : Option (List ℕ)) (r : Result Reply Fault) → later ≡ plan → ReadsPair domain problem d p
      → IsTrue (is_well_typed d p) → IfOk r (λ x. IfSome later (λ ls. TrimsPair d p ls x.status x.text.items))
      → IfOk r (λ x. IfSome domain (λ ds. IfSome problem (λ ps. IfSome plan (λ ls. Trims ds ps ls x.status x.text.items))))
  pair_told d p later (Ok x) same reads typed h =
      on_pair domain problem d p (λ ds ps. IfSome plan (λ ls. Trims ds ps ls x.status x.text.items)) reads typed
      (λ ds ps k. on_some plan (λ ls. TrimsPair d p ls x.status x.text.items) (λ ls. Trims ds ps ls x.status x.text.items) (λ ls l. of_pair d p k l)
      (subst (λ o. IfSome o (λ ls. TrimsPair d p ls x.status x.text.items)) same h))
  pair_told d p later (Err f) same reads typed h = tt

  told_any : (ds ps : List ℕ) (status : Status) (written : List ℕ) (o : Option (List ℕ)) → ((ls : List ℕ) → Trims ds ps ls status written)
      → IfSome o (λ ls. Trims ds ps ls status written)
  told_any ds ps status written None f = tt
  told_any ds ps status written (Some ls) f = f ls

  pub refusal_told : (a b : ℕ) (refusal : Refusal) (r : Result Reply Fault) → NoPair domain problem a b refusal → TellsRefusal refusal r
      → IfOk r (λ x. IfSome domain (λ ds. IfSome problem (λ ps. IfSome plan (λ ls. Trims ds ps ls x.status x.text.items))))
  refusal_told a b refusal r h t =
      no_pair_told domain problem a b refusal r (λ ds ps status written. IfSome plan (λ ls. Trims ds ps ls status written))
      (λ ds ps e status written k i j. told_any ds ps status written plan (λ ls. no_pair e k i j)) h t

pub plan_of_ground : (P Q : terms.Problem) (lines : List model.Line) (status : Status) (written : List ℕ) → P ≡ Q → TrimsPlan P lines status written → TrimsPlan Q lines status written
plan_of_ground P Q lines status written e k = subst (λ (R : terms.Problem). TrimsPlan R lines status written) e k
