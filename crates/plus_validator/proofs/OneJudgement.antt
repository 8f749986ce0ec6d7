-- One plan text has one judgement, and it is what the check of the text says.
use Rattle.std.proofs.Common.{◌≡◌, ℕ, Bool, true, false, List, [], ◌++◌, ap, sym, subst, ◌∙◌}
use Rattle.std.specs.Prelude.{Some, None}
use Rattle.plus_number.specs.declared.frac.Frac64.{Frac64}
use Rattle.plus_number.specs.Frac.{fraction_of}
use Rattle.plus_tree.specs.declared.trees.Domain.{Domain}
use Rattle.plus_tree.specs.declared.trees.Problem.{Problem}
use Rattle.plus_numbering.specs.declared.faults.GroundFault.{GroundFault}
use Rattle.plus_numbering.specs.declared.faults.GroundFault.TheVariants as faults
use Rattle.plus_expansion.specs.Expansion.{expanded, labels_meant}
use Rattle.plus_report.specs.declared.refusals.Early.{Early}
use Rattle.plus_report.specs.declared.refusals.Early.TheVariants.{TooMany, Literal}
use Rattle.plus_report.specs.Refusals.{early_text}
use Rattle.plus_report.specs.declared.verdicts.Verdict.{Verdict}
use Rattle.plus_report.specs.Report.{report_of}
use Rattle.plus_report.specs.Verdicts.{verdict_text}
use Rattle.plus_validator.specs.declared.judge.Judged.{Judged}
use Rattle.plus_validator.specs.declared.judge.Outcome.{Outcome}
use Rattle.plus_validator.specs.declared.judge.Outcome.TheVariants as outcomes
use Rattle.plus_validator.specs.Accepted.{IsAccepted}
use Rattle.plus_timeline.specs.Played.{entries_of}
use Rattle.plus_validator.specs.Asking.{firings_of}
use Rattle.plus_validator.specs.Laws as laws
use Rattle.plus_validator.specs.Laws.{IsJudgedFor, OneJudgement, JudgedAsChecked, CheckedAsJudged}
use Rattle.plus_validator.specs.Outcomes.{early_outcome, outcome_of}
use Rattle.plus_validator.specs.Plans.{pair, plan_of, plan_in}
use Rattle.plus_validator.specs.Refused.{IsRefused}
use Rattle.plus_validator.specs.Validates.{kind_meant, file_meant, fault_meant, TellsFault, IsUngrounded, IsRead, IsRefusal, IsRefusedIn, IsWhole}
use Rattle.plus_validator.specs.Verdicts.{RefusesPairWith, AcceptsWith, RefusesWith, JudgesWhole, accepted, refused, JudgesText, ungrounded, judged, SameJudgement, IsAnswered, for_pair, for_plan}
use Rattle.plus_validator.proofs.Excluding.{pair_or_plan}
use Rattle.plus_validator.proofs.OneLine.{one_line}
use Rattle.plus_validator.proofs.OneText.{Telling, read_once, history_once, refusals_once, one_end, one_answer}

-- ---- the pair is not grounded

fault_beyond : (fault : GroundFault) (early : Early) → fault_meant fault ≡ Some early → early_outcome early ≡ outcomes.Beyond
fault_beyond (faults.TooMany kind most) early e = let k : early ≡ TooMany (kind_meant kind) most = cc e in ap early_outcome k
fault_beyond (faults.Literal file span) early e = let k : early ≡ Literal (file_meant file) span.start span.«end» = cc e in ap early_outcome k
fault_beyond faults.Memory early e = let k : None ≡ Some early = e in cc k

tells_early : (fault : GroundFault) (early : Early) (line : List ℕ) → fault_meant fault ≡ Some early → line ≡ early_text early → TellsFault fault line
tells_early (faults.TooMany kind most) early line e l = let k : early ≡ TooMany (kind_meant kind) most = cc e in l ∙ ap early_text k
tells_early (faults.Literal file span) early line e l = let k : early ≡ Literal (file_meant file) span.start span.«end» = cc e in l ∙ ap early_text k
tells_early faults.Memory early line e l = let k : None ≡ Some early = e in cc k

module _ (d : Domain) (p : Problem) (most : ℕ) where
  pub ungrounded_by : (j : Judged) → RefusesPairWith d p j → IsUngrounded d p j.line.items
  ungrounded_by j a = record { fault = a.fault; refused = a.refused; tells = tells_early a.fault a.early j.line.items a.told a.line }

  pair_beyond : (j : Judged) → RefusesPairWith d p j → outcome_of j.verdict ≡ outcomes.Beyond
  pair_beyond j a = ap outcome_of a.verdict ∙ fault_beyond a.fault a.early a.told

  pairs_once : (one other : Judged) → RefusesPairWith d p one → RefusesPairWith d p other → SameJudgement one other
  pairs_once one other a b = record {
    outcome = pair_beyond one a ∙ sym (pair_beyond other b);
    line = one_line d p one.line.items other.line.items (ungrounded_by one a) (ungrounded_by other b);
    entries = a.entries ∙ sym b.entries;
    firings = a.firings ∙ sym b.firings;
  }

  -- ---- the plan is judged

  judged_for : (text : List ℕ) (goes_on : Bool) (j : Judged) → JudgesWhole d p most text goes_on j → IsJudgedFor d p
  judged_for text goes_on j (accepted w a) = laws.accepted most text a.bytes a.accepted
  judged_for text goes_on j (refused a) = laws.refused most text goes_on (outcome_of j.verdict) a.bytes a.refused

  -- not both
  pair_or_whole : (text : List ℕ) (goes_on : Bool) (one other : Judged) → RefusesPairWith d p one → JudgesWhole d p most text goes_on other → SameJudgement one other
  pair_or_whole text goes_on one other a b = absurd (pair_or_plan d p one.line.items (ungrounded_by one a) (judged_for text goes_on other b))

  accepted_once : (text : List ℕ) (one other : Judged) → AcceptsWith d p most text one → AcceptsWith d p most text other → SameJudgement one other
  accepted_once text one other a b =
      let h : a.accepted.history ≡ b.accepted.history = history_once d p most text a.bytes b.bytes a.accepted b.accepted in
      record {
        outcome = ap outcome_of (a.verdict ∙ sym b.verdict);
        line = a.line ∙ sym b.line;
        entries = a.entries ∙ ap entries_of h ∙ sym b.entries;
        firings = a.firings ∙ ap firings_of h ∙ sym b.firings;
      }

  refused_once : (text : List ℕ) (goes_on : Bool) (one other : Judged) → RefusesWith d p most text goes_on one → RefusesWith d p most text goes_on other → SameJudgement one other
  refused_once text goes_on one other a b =
      let s = refusals_once d p most goes_on text (outcome_of one.verdict) (outcome_of other.verdict) a.bytes b.bytes a.refused b.refused in
      let line_of : Verdict Frac64 → List ℕ = verdict_text fraction_of (labels_meant d p) (expanded d p) in
      record {
        outcome = ap outcome_of a.verdict ∙ s.outcome ∙ sym (ap outcome_of b.verdict);
        line = a.line ∙ ap line_of a.verdict ∙ ap (λ (t : Telling). t.line) s.telling ∙ sym (ap line_of b.verdict) ∙ sym b.line;
        entries = a.entries ∙ ap (λ (t : Telling). t.entries) s.telling ∙ sym b.entries;
        firings = a.firings ∙ ap (λ (t : Telling). t.firings) s.telling ∙ sym b.firings;
      }

  -- an accepted text is not refused
  accepts_only : (text : List ℕ) (goes_on : Bool) (one other : Judged) → goes_on ≡ false → AcceptsWith d p most text one → RefusesWith d p most text goes_on other → ⊥
  accepts_only text goes_on one other w a b =
      let r : IsRefused d p most text false (outcome_of other.verdict) b.bytes = subst (λ (g : Bool). IsRefused d p most text g (outcome_of other.verdict) b.bytes) w b.refused in
      one_end d p most text a.bytes (outcome_of other.verdict) b.bytes a.accepted r

  whole_once : (text : List ℕ) (goes_on : Bool) (one other : Judged) → JudgesWhole d p most text goes_on one → JudgesWhole d p most text goes_on other → SameJudgement one other
  whole_once text goes_on one other (accepted w a) (accepted x b) = accepted_once text one other a b
  whole_once text goes_on one other (accepted w a) (refused b) = absurd (accepts_only text goes_on one other w a b)
  whole_once text goes_on one other (refused a) (accepted x b) = absurd (accepts_only text goes_on other one x b a)
  whole_once text goes_on one other (refused a) (refused b) = refused_once text goes_on one other a b

  reversed : (one other : Judged) → SameJudgement one other → SameJudgement other one
  reversed one other s = record { outcome = sym s.outcome; line = sym s.line; entries = sym s.entries; firings = sym s.firings }

  text_once : (bytes : List ℕ) (one other : Judged) → JudgesText d p most bytes one → JudgesText d p most bytes other → SameJudgement one other
  text_once bytes one other (ungrounded a) (ungrounded b) = pairs_once one other a b
  text_once bytes one other (ungrounded a) (judged text goes_on r b) = pair_or_whole text goes_on one other a b
  text_once bytes one other (judged text goes_on r a) (ungrounded b) = reversed other one (pair_or_whole text goes_on other one b a)
  text_once bytes one other (judged text goes_on r a) (judged text' goes_on' s b) =
      let k = read_once d p most bytes text text' goes_on goes_on' r s in
      whole_once text' goes_on' one other
      (subst (λ (g : Bool). JudgesWhole d p most text' g one) k.1 (subst (λ (t : List ℕ). JudgesWhole d p most t goes_on one) k.0 a)) b

  -- ---- and the check says so

  refused_whole : (o : Outcome) (bytes written : List ℕ) → IsRefusal o → IsRefusedIn d p most bytes o written → IsWhole d p most bytes o written
  refused_whole outcomes.Invalid bytes written r a = a
  refused_whole outcomes.Beyond bytes written r a = a
  refused_whole outcomes.BadText bytes written r a = a
  refused_whole outcomes.Valid bytes written r a = absurd r
  refused_whole outcomes.ReadFault bytes written r a = absurd r
  refused_whole outcomes.WriteFault bytes written r a = absurd r
  refused_whole outcomes.NoMemory bytes written r a = absurd r

  -- the check writes a report and the verdict's line
  abbrev Checked : List ℕ → Judged → Type 0
  Checked bytes j = (report : List ℕ) × IsAnswered d p most bytes (outcome_of j.verdict) (report ++ j.line.items)

  accepted_checked : (bytes text : List ℕ) (goes_on : Bool) (j : Judged) → IsRead bytes text goes_on → goes_on ≡ false → AcceptsWith d p most text j → Checked bytes j
  accepted_checked bytes text true j r w a = absurd (cc w)
  accepted_checked bytes text false j r w a =
      let report : List ℕ = report_of (labels_meant d p) (expanded d p) (plan_of (pair d p) a.accepted.lines true) a.accepted.history in
      let is : a.bytes ≡ report ++ j.line.items = a.accepted.written ∙ ap (λ (t : List ℕ). report ++ t) (sym a.line) in
      let here : IsAccepted d p most bytes (report ++ j.line.items) = subst (IsAccepted d p most bytes) is (subst (λ (t : List ℕ). IsAccepted d p most t a.bytes) r.0 a.accepted) in
      (report, for_plan (subst (λ (o : Outcome). IsWhole d p most bytes o (report ++ j.line.items)) (sym (ap outcome_of a.verdict)) here))

  refused_checked : (bytes text : List ℕ) (goes_on : Bool) (j : Judged) → IsRead bytes text goes_on → RefusesWith d p most text goes_on j → Checked bytes j
  refused_checked bytes text goes_on j r a =
      let report : List ℕ = report_of (labels_meant d p) (expanded d p) (plan_in (pair d p) a.refused.refusal.reading) a.refused.refusal.history in
      let line_of : Verdict Frac64 → List ℕ = verdict_text fraction_of (labels_meant d p) (expanded d p) in
      let is : a.bytes ≡ report ++ j.line.items = a.refused.written ∙ ap (λ (t : List ℕ). report ++ t) (sym (a.line ∙ ap line_of a.verdict)) in
      let here : IsRefusedIn d p most bytes (outcome_of j.verdict) a.bytes = record { text = text; goes_on = goes_on; read = r; refused = a.refused } in
      (report, for_plan (refused_whole (outcome_of j.verdict) bytes (report ++ j.line.items) a.refusal (subst (IsRefusedIn d p most bytes (outcome_of j.verdict)) is here)))

  whole_checked : (bytes text : List ℕ) (goes_on : Bool) (j : Judged) → IsRead bytes text goes_on → JudgesWhole d p most text goes_on j → Checked bytes j
  whole_checked bytes text goes_on j r (accepted w a) = accepted_checked bytes text goes_on j r w a
  whole_checked bytes text goes_on j r (refused a) = refused_checked bytes text goes_on j r a

  checked : (bytes : List ℕ) (j : Judged) → JudgesText d p most bytes j → Checked bytes j
  checked bytes j (ungrounded a) = ([], for_pair (pair_beyond j a) (ungrounded_by j a))
  checked bytes j (judged text goes_on r a) = whole_checked bytes text goes_on j r a

  -- ---- what the check says is one

  -- accepted or refused, a plan is judged
  answered_for : (bytes : List ℕ) (o : Outcome) (written : List ℕ) → IsWhole d p most bytes o written → IsJudgedFor d p
  answered_for bytes outcomes.Valid written a = laws.accepted most bytes written a
  answered_for bytes outcomes.Invalid written a = laws.refused most a.text a.goes_on outcomes.Invalid written a.refused
  answered_for bytes outcomes.Beyond written a = laws.refused most a.text a.goes_on outcomes.Beyond written a.refused
  answered_for bytes outcomes.BadText written a = laws.refused most a.text a.goes_on outcomes.BadText written a.refused
  answered_for bytes outcomes.ReadFault written a = absurd a
  answered_for bytes outcomes.WriteFault written a = absurd a
  answered_for bytes outcomes.NoMemory written a = absurd a

  pub answers_once : (bytes : List ℕ) (one other : Outcome) (written written' : List ℕ) → IsAnswered d p most bytes one written → IsAnswered d p most bytes other written' → (one ≡ other) × (written ≡ written')
  answers_once bytes one other written written' (for_pair e a) (for_pair f b) = (e ∙ sym f, one_line d p written written' a b)
  answers_once bytes one other written written' (for_pair e a) (for_plan b) = absurd (pair_or_plan d p written a (answered_for bytes other written' b))
  answers_once bytes one other written written' (for_plan a) (for_pair f b) = absurd (pair_or_plan d p written' b (answered_for bytes one written a))
  answers_once bytes one other written written' (for_plan a) (for_plan b) = one_answer d p most bytes one other written written' a b

pub one_judgement : OneJudgement
one_judgement d p most bytes one other a b = text_once d p most bytes one other a b

pub judged_as_checked : JudgedAsChecked
judged_as_checked d p most bytes j a = checked d p most bytes j a

pub checked_as_judged : CheckedAsJudged
checked_as_judged d p most bytes j outcome written a b =
    let c = checked d p most bytes j a in
    let k = answers_once d p most bytes outcome (outcome_of j.verdict) written (c.0 ++ j.line.items) b c.1 in
    (k.0, c.0, k.1)
