-- What the calls of a plan of the translation stand for, put together from what its calls answer.
use Rattle.std.proofs.Common.{◌≡◌, ℕ, List, ◌++◌, subst, sym, ◌∙◌, ap, append_assoc, codes}
use Rattle.std.specs.Prelude.{IfOk, IfErr, Result, Ok, Err, MatchResult, pos}
use Rattle.plus_fraction.specs.Fraction.{Fraction, whole}
use Rattle.plus_number.specs.declared.frac.Frac64.{Frac64}
use Rattle.plus_number.specs.Frac.{fraction_of}
use Rattle.plus_tree.specs.declared.trees.Domain.{Domain}
use Rattle.plus_tree.specs.declared.trees.Problem.{Problem}
use Rattle.plus_tree.specs.declared.trees.Call.{Call}
use Rattle.plus_state.specs.declared.term.Sign.TheVariants.{Times}
use Rattle.plus_state.specs.declared.term.Overflow.{Overflow}
use Rattle.plus_state.specs.declared.outcome.TimedPlan.{TimedPlan}
use Rattle.plus_report.specs.declared.verdicts.Verdict.{Verdict}
use Rattle.plus_report.specs.declared.verdicts.Verdict.TheVariants as verdicts
use Rattle.plus_report.specs.declared.refusals.Early.{Early}
use Rattle.plus_report.specs.declared.refusals.Early.TheVariants as es
use Rattle.plus_report.specs.Text.{newline, fraction_text}
use Rattle.plus_report.specs.Verdicts.{sign_text, operation_text}
use Rattle.plus_report.specs.Plans.{acts_of, plan_text}
use Rattle.plus_steps.specs.Stepped.{timed}
use Rattle.plus_translation.specs.Laws.{stripped}
use Rattle.plus_lift.specs.declared.fault.LiftFault.TheVariants.{Number}
use Rattle.plus_lift.specs.Lifts.{names_of, labelled, counts, IsLifted, IsFirstOverflow}
use Rattle.plus_lift.proofs.OneLift.{late_of}
use Rattle.plus_validator.specs.declared.judge.Judged.{Judged}
use Rattle.plus_validator.specs.declared.judge.Outcome.{Outcome}
use Rattle.plus_validator.specs.Outcomes.{outcome_of, status_of}
use Rattle.plus_validator.specs.Verdicts.{JudgesText}
use Rattle.plus_words.specs.Numbers.{default_happenings}
use Rattle.plus_report.specs.declared.status.Status.{Status}
use Rattle.plus_report.specs.declared.status.Status.TheVariants as s
use Rattle.plus_reply.specs.declared.reply.Reply.{Reply}
use Rattle.plus_reply.specs.declared.reply.Fault.{Fault}
use Rattle.plus_reply.specs.declared.reply.Fault.TheVariants as faults
use Rattle.plus_reply.specs.Reply.{IsPlain}
use Rattle.plus_lift.specs.Command.Lift.{late_line, lifted_text, LiftsCalls, late, judged, JudgesPlan}

-- ---- a time that is no value

operation : (o : Overflow Frac64) (interval : Frac64) (count : ℕ) → o.sign ≡ Times → fraction_of o.left ≡ whole (pos count) → o.right ≡ interval
    → codes "beyond: number " ++ operation_text fraction_of o ≡ late_line (fraction_of interval) count
unfolding operation_text
operation o interval count i j k =
    ap (λ x. codes "beyond: number " ++ (fraction_text (fraction_of o.left) ++ sign_text x ++ (fraction_text (fraction_of o.right) ++ newline))) i
    ∙ ap (λ x. codes "beyond: number " ++ (fraction_text x ++ sign_text Times ++ (fraction_text (fraction_of o.right) ++ newline))) j
    ∙ ap (λ x. codes "beyond: number " ++ (fraction_text (whole (pos count)) ++ sign_text Times ++ (fraction_text (fraction_of x) ++ newline))) k

is_late : (interval : Frac64) (d : Domain) (p : Problem) (calls : List Call) (o : Overflow Frac64) (status : Status) (written : List ℕ)
    → IsFirstOverflow interval (counts 0 (stripped (names_of calls))) (Number o) → status ≡ s.Beyond
    → written ≡ codes "beyond: number " ++ operation_text fraction_of o → LiftsCalls (fraction_of interval) d p calls status written
is_late interval d p calls o status written h i j =
    late h.count (late_of interval (counts 0 (stripped (names_of calls))) o h) i
    (j ∙ operation o interval h.count h.overflow.1 h.overflow.2 h.overflow.3)

abbrev pub TellsLate : Overflow Frac64 → Reply → Type 0
TellsLate o r = (r.status ≡ s.Beyond) × (r.text.items ≡ codes "beyond: number " ++ operation_text fraction_of o)

pub late_lifts : (interval : Frac64) (d : Domain) (p : Problem) (calls : List Call) (o : Overflow Frac64) (r : Result Reply Fault)
    → IsFirstOverflow interval (counts 0 (stripped (names_of calls))) (Number o)
    → MatchResult r (TellsLate o) (λ f. f ≡ faults.NoMemory) → IfOk r (λ x. LiftsCalls (fraction_of interval) d p calls x.status x.text.items)
late_lifts interval d p calls o (Ok x) h t = is_late interval d p calls o x.status x.text.items h t.0 t.1
late_lifts interval d p calls o (Err f) h t = tt

-- ---- a plan that is judged

joined : (t b x shown line : List ℕ) → b ≡ t → x ≡ b ++ codes "; " → shown ≡ line → x ++ shown ≡ t ++ (codes "; " ++ line)
joined t b x shown line i j k =
    ap (λ z. z ++ shown) (j ∙ ap (λ z. z ++ codes "; ") i) ∙ append_assoc t (codes "; ") shown ∙ ap (λ z. t ++ (codes "; " ++ z)) k

-- the text is judged where it stands, and the line goes behind a copy of it
pub plan_judged : (d : Domain) (p : Problem) (t a b x shown : List ℕ) (j : Judged) (outcome : Outcome) (r : Reply) → a ≡ t
    → JudgesText d p default_happenings a j → b ≡ t → x ≡ b ++ codes "; " → shown ≡ j.line.items → r.text.items ≡ x ++ shown
    → outcome ≡ outcome_of j.verdict → r.status ≡ status_of outcome → JudgesPlan d p t r
plan_judged d p t a b x shown j outcome r i h k l m n o q = record {
  j = j;
  judged = subst (λ z. JudgesText d p default_happenings z j) i h;
  status_is = q ∙ ap status_of o;
  text_is = n ∙ joined t b x shown j.line.items k l m;
}

is_judged : (q : Fraction) (d : Domain) (p : Problem) (calls : List Call) (plan : TimedPlan Frac64) (r : Reply)
    → IsLifted q calls plan → JudgesPlan d p (plan_text (acts_of fraction_of plan.acts.items) (fraction_of plan.«end»)) r
    → LiftsCalls q d p calls r.status r.text.items
is_judged q d p calls plan r l h =
    let t : plan_text (acts_of fraction_of plan.acts.items) (fraction_of plan.«end») ≡ lifted_text q calls =
    ap (λ x. plan_text x (fraction_of plan.«end»)) l.acts ∙ ap (plan_text (labelled (timed q (stripped (names_of calls))).0)) l.ends in
    let g = subst (λ x. JudgesPlan d p x r) t h in
    judged plan g.j l g.judged g.status_is g.text_is

pub judged_lifts : (q : Fraction) (d : Domain) (p : Problem) (calls : List Call) (plan : TimedPlan Frac64) (r : Result Reply Fault)
    → IsLifted q calls plan
    → MatchResult r (JudgesPlan d p (plan_text (acts_of fraction_of plan.acts.items) (fraction_of plan.«end»))) (λ f. f ≡ faults.NoMemory)
    → IfOk r (λ x. LiftsCalls q d p calls x.status x.text.items)
judged_lifts q d p calls plan (Ok x) l h = is_judged q d p calls plan x l h
judged_lifts q d p calls plan (Err f) l h = tt

-- ---- statuses and faults

pub memory_of : (P : Reply → Type 0) (r : Result Reply Fault) → MatchResult r P (λ f. f ≡ faults.NoMemory) → IfErr r (λ f. f ≡ faults.NoMemory)
memory_of P (Ok x) h = tt
memory_of P (Err f) h = h

early_plain : (e : Early) → IsPlain (status_of (outcome_of {Q = Frac64} (verdicts.Other e)))
early_plain (es.BadText text start finish word) = tt
early_plain (es.BadLine line start finish) = tt
early_plain (es.TooLong text) = tt
early_plain (es.Depth text at) = tt
early_plain es.DepthOut = tt
early_plain (es.LineTooLong line) = tt
early_plain (es.Literal text start finish) = tt
early_plain (es.TooMany kind most) = tt

verdict_plain : (v : Verdict Frac64) → IsPlain (status_of (outcome_of v))
verdict_plain verdicts.Valid = tt
verdict_plain (verdicts.Invalid b) = tt
verdict_plain (verdicts.Beyond l) = tt
verdict_plain (verdicts.Other e) = early_plain e

plain_of : (q : Fraction) (d : Domain) (p : Problem) (calls : List Call) (status : Status) (written : List ℕ) → LiftsCalls q d p calls status written → IsPlain status
plain_of q d p calls status written (late count h i k) = subst IsPlain (sym i) tt
plain_of q d p calls status written (judged plan j l h i k) = subst IsPlain (sym i) (verdict_plain j.verdict)

pub calls_plain : (q : Fraction) (d : Domain) (p : Problem) (calls : List Call) (r : Result Reply Fault)
    → IfOk r (λ x. LiftsCalls q d p calls x.status x.text.items) → IfOk r (λ x. IsPlain x.status)
calls_plain q d p calls (Ok x) h = plain_of q d p calls x.status x.text.items h
calls_plain q d p calls (Err f) h = tt
