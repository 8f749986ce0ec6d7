-- What a trial replies, put together from what its calls answer.
use Rattle.std.proofs.Common.{◌≡◌, ℕ, List, subst, sym, ◌∙◌, refl, IsTrue}
use Rattle.std.specs.Prelude.{Result, Ok, Err, IfOk, IfErr}
use Rattle.std.specs.declared.alloc.AllocError.{AllocError}
use Rattle.plus_tree.specs.declared.trees.Domain.{Domain}
use Rattle.plus_tree.specs.declared.trees.Problem.{Problem}
use Rattle.plus_types.specs.declared.typed.Typed.{Typed}
use Rattle.plus_types.specs.Faults.{is_well_typed}
use Rattle.plus_report.specs.declared.verdicts.Verdict.{Verdict}
use Rattle.plus_report.specs.declared.verdicts.Verdict.TheVariants as verdicts
use Rattle.plus_report.specs.declared.refusals.Early.{Early}
use Rattle.plus_report.specs.declared.refusals.Early.TheVariants as es
use Rattle.plus_validator.specs.declared.judge.Judged.{Judged}
use Rattle.plus_validator.specs.Outcomes.{early_outcome, outcome_of, status_of}
use Rattle.plus_validator.specs.Verdicts.{JudgesText}
use Rattle.plus_trial.specs.Farm.{domain_text, problem_text, plan_text}
use Rattle.plus_trial.specs.Summary.{summary_text}
use Rattle.plus_words.specs.Numbers.{default_happenings}
use Rattle.plus_reply.specs.declared.pair.pair.Refusal.{Refusal}
use Rattle.plus_reply.specs.declared.pair.pair.Refusal.TheVariants as refusals
use Rattle.plus_reply.specs.Pair.Pair.{SpellsPair}
use Rattle.plus_reply.specs.Pair.Reads.{NotPair}
use Rattle.plus_reply.proofs.PairLemmas.SpelledLemmas.{well_spelled}
use Rattle.plus_report.specs.declared.status.Status.{Status}
use Rattle.plus_reply.specs.declared.reply.Reply.{Reply}
use Rattle.plus_reply.specs.declared.reply.Fault.{Fault}
use Rattle.plus_reply.specs.declared.reply.Fault.TheVariants as faults
use Rattle.plus_reply.specs.Reply.{IsPlain, TellsRefusal}
use Rattle.plus_trial.specs.Trial.{farm_domain, farm_problem, farm_plan, summary_of, IsTrial, is_judged, no_pair}

-- ---- the texts that are made are those of the farm

is_domain : domain_text ≡ farm_domain
unfolding farm_domain
is_domain = refl

is_problem : (n : ℕ) → problem_text n ≡ farm_problem n
unfolding farm_problem
is_problem n = refl

is_plan : (n : ℕ) → plan_text n ≡ farm_plan n
unfolding farm_plan
is_plan n = refl

pub farm_read :
    (n : ℕ) (domain problem : List ℕ) (r : Result Typed Refusal) → domain ≡ domain_text → problem ≡ problem_text n
    → IfOk r (λ t. SpellsPair domain problem t.domain t.problem) → IfOk r (λ t. SpellsPair farm_domain (farm_problem n) t.domain t.problem)
farm_read n domain problem r e f h =
    subst (λ (x : List ℕ). IfOk r (λ t. SpellsPair x (farm_problem n) t.domain t.problem)) (e ∙ is_domain)
    (subst (λ (y : List ℕ). IfOk r (λ t. SpellsPair domain y t.domain t.problem)) (f ∙ is_problem n) h)

pub farm_not_read :
    (n : ℕ) (domain problem : List ℕ) (r : Result Typed Refusal) → domain ≡ domain_text → problem ≡ problem_text n
    → IfErr r (NotPair domain problem) → IfErr r (NotPair farm_domain (farm_problem n))
farm_not_read n domain problem r e f h =
    subst (λ (x : List ℕ). IfErr r (NotPair x (farm_problem n))) (e ∙ is_domain)
    (subst (λ (y : List ℕ). IfErr r (NotPair domain y)) (f ∙ is_problem n) h)

pub plan_judged :
    (n : ℕ) (d : Domain) (p : Problem) (text : List ℕ) (r : Result Judged AllocError) → text ≡ plan_text n
    → IfOk r (JudgesText d p default_happenings text) → IfOk r (JudgesText d p default_happenings (farm_plan n))
plan_judged n d p text r e h = subst (λ (x : List ℕ). IfOk r (JudgesText d p default_happenings x)) (e ∙ is_plan n) h

-- ---- a verdict goes with a line

other_plain : (e : Early) → IsPlain (status_of (early_outcome e))
other_plain (es.BadText text start finish word) = tt
other_plain (es.BadLine line start finish) = tt
other_plain (es.TooLong text) = tt
other_plain (es.Depth text at) = tt
other_plain es.DepthOut = tt
other_plain (es.LineTooLong line) = tt
other_plain (es.Literal text start finish) = tt
other_plain (es.TooMany kind most) = tt

judged_plain : {Q : Type 0} (v : Verdict Q) → IsPlain (status_of (outcome_of v))
judged_plain verdicts.Valid = tt
judged_plain (verdicts.Invalid b) = tt
judged_plain (verdicts.Beyond l) = tt
judged_plain (verdicts.Other e) = other_plain e

pub told_plain : (j : Judged) (status : Status) → status ≡ status_of (outcome_of j.verdict) → IsPlain status
told_plain j status e = subst IsPlain (sym e) (judged_plain j.verdict)

-- ---- the texts are a pair, and its plan is judged

pub told_trial :
    (n : ℕ) (d : Domain) (p : Problem) (j : Judged) (status : Status) (line : List ℕ) → SpellsPair farm_domain (farm_problem n) d p
    → IsTrue (is_well_typed d p) → JudgesText d p default_happenings (farm_plan n) j → status ≡ status_of (outcome_of j.verdict)
    → line ≡ summary_text (summary_of n j) → IsTrial n status line
told_trial n d p j status line sp t h e k =
    is_judged d p j (well_spelled farm_domain (farm_problem n) d p sp t) h e k

-- ---- the texts are no pair

pub refused_trial :
    (n : ℕ) (refusal : Refusal) (r : Result Reply Fault) → NotPair farm_domain (farm_problem n) refusal → TellsRefusal refusal r
    → IfOk r (λ x. IsTrial n x.status x.text.items)
refused_trial n (refusals.Early e) (Ok x) h t = no_pair e h t.0 t.1
refused_trial n (refusals.Early e) (Err f) h t = tt
refused_trial n refusals.ReadFault r h t = absurd h
refused_trial n refusals.NoMemory r h t = subst (λ x. IfOk x (λ y. IsTrial n y.status y.text.items)) (sym t) tt

pub refused_memory :
    (n : ℕ) (refusal : Refusal) (r : Result Reply Fault) → NotPair farm_domain (farm_problem n) refusal → TellsRefusal refusal r
    → IfErr r (λ f. f ≡ faults.NoMemory)
refused_memory n (refusals.Early e) (Ok x) h t = tt
refused_memory n (refusals.Early e) (Err f) h t = t
refused_memory n refusals.ReadFault r h t = absurd h
refused_memory n refusals.NoMemory r h t = subst (λ x. IfErr x (λ f. f ≡ faults.NoMemory)) (sym t) refl
