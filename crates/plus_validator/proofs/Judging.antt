-- What the verdict on a text says.
use Rattle.std.proofs.Common.{◌≡◌, ℕ, ◌≤◌, Bool, false, List, [], ◌++◌, Option, Some, None, refl, ap, sym, subst, ◌∙◌, append_assoc}
use Rattle.std.specs.Prelude.{◌≢◌, codes, length, IfErr, IfSome, Result, Ok, Err}
use Rattle.plus_model.specs.Terms.{Problem}
use Rattle.plus_model.specs.Plan.{Plan}
use Rattle.plus_model.specs.History.{Part}
use Rattle.plus_number.specs.declared.frac.Frac64.{Frac64}
use Rattle.plus_number.specs.Frac.{fraction_of, IsFrac64}
use Rattle.plus_state.specs.View.{Labels}
use Rattle.plus_tree.specs.declared.trees.Domain.{Domain}
use Rattle.plus_tree.specs.declared.trees.Problem as tree
use Rattle.plus_expansion.specs.Counting.{IsGroundable}
use Rattle.plus_expansion.specs.Expansion.{expanded, labels_meant}
use Rattle.plus_report.specs.declared.verdicts.Verdict.{Verdict}
use Rattle.plus_report.specs.declared.verdicts.Verdict.TheVariants.{Valid, Invalid, Beyond, Other}
use Rattle.plus_report.specs.Verdicts.{verdict_text, VerdictFits}
use Rattle.plus_validator.specs.Account.{Progress, progress}
use Rattle.plus_validator.specs.declared.run.Run.{Run}
use Rattle.plus_validator.specs.declared.halt.Halt.{Halt}
use Rattle.plus_validator.specs.declared.halt.Halt.TheVariants.{Refused, Memory, WriteFault}
use Rattle.plus_validator.specs.declared.judge.Judged.{Judged}
use Rattle.plus_validator.specs.declared.judgement.Judgement.{Judgement}
use Rattle.plus_validator.specs.Halts.{NamesOf, HaltFits}
use Rattle.plus_validator.specs.Handing.{left, Tellings}
use Rattle.plus_report.specs.declared.refusals.Early.{Early}
use Rattle.plus_report.specs.declared.refusals.Early.TheVariants as early
use Rattle.plus_validator.specs.declared.judge.Outcome.TheVariants as outcomes
use Rattle.plus_validator.specs.Outcomes.{early_outcome, outcome_of}
use Rattle.plus_validator.specs.Playing.{Begins}
use Rattle.plus_validator.specs.declared.judge.Outcome.{Outcome}
use Rattle.plus_report.specs.Report.{report_of}
use Rattle.plus_validator.specs.Plans.{pair, plan_of, plan_in}
use Rattle.plus_validator.specs.Refused.{IsRefused}
use Rattle.plus_validator.specs.Stopped.{IsStoppedInText}
use Rattle.plus_validator.specs.Told.{reports, report_told}
use Rattle.plus_validator.specs.declared.memory.Report.{Report}
use Rattle.plus_validator.specs.Feeding.{IsPlayedOut, StopsOn}
use Rattle.plus_validator.specs.Judged.{GivesVerdict, Says, SumsUp, IsPlain, IsJudged}
use Rattle.plus_validator.proofs.Played.{Written, Accepted, accepted}
use Rattle.plus_timeline.specs.Played.{entries_of}
use Rattle.plus_validator.specs.Asking.{firings_of, instances_of}
use Rattle.plus_validator.specs.Validates.{IsRead, IsRefusal, IsRefusedIn}
use Rattle.plus_validator.specs.Verdicts as verdicts
use Rattle.plus_validator.specs.Verdicts.{JudgesText}

-- the verdict names what the problem has
pub verdict_fits : (P : Problem) (played : Result (Unit {0}) Halt) (v : Verdict Frac64) → IfErr played (HaltFits P) → GivesVerdict played v → VerdictFits P v
verdict_fits P (Ok u) v f g = subst (VerdictFits P) (sym g) tt
verdict_fits P (Err (Refused Valid)) v f g = absurd f.names
verdict_fits P (Err (Refused (Invalid b))) v f g = subst (VerdictFits P) (sym g) f.names
verdict_fits P (Err (Refused (Beyond l))) v f g = subst (VerdictFits P) (sym g) f.names
verdict_fits P (Err (Refused (Other e))) v f g = subst (VerdictFits P) (sym g) tt
verdict_fits P (Err Memory) v f g = absurd g
verdict_fits P (Err WriteFault) v f g = absurd g

-- it is no fault of the sink
pub no_fault : (P : Problem) (played : Result (Unit {0}) Halt) → IfErr played (HaltFits P) → IfErr played (λ halt. halt ≢ WriteFault)
no_fault P (Ok u) f = tt
no_fault P (Err halt) f = λ e. subst (NamesOf P) e f.names

early_never : (e : Early) → early_outcome e ≡ outcomes.Valid → ⊥
early_never (early.BadText text start last word) h = cc
early_never (early.BadLine line start last) h = cc
early_never (early.TooLong text) h = cc
early_never (early.Depth text at) h = cc
early_never early.DepthOut h = cc
early_never (early.LineTooLong line) h = cc
early_never (early.Literal text start last) h = cc
early_never (early.TooMany kind most) h = cc

valid_only : (v : Verdict Frac64) → outcome_of v ≡ outcomes.Valid → v ≡ Valid
valid_only Valid h = refl
valid_only (Invalid b) h = cc
valid_only (Beyond l) h = cc
valid_only (Other e) h = absurd (early_never e h)

early_plain : (e : Early) → IsPlain (early_outcome e)
early_plain (early.BadText text start last word) = tt
early_plain (early.BadLine line start last) = tt
early_plain (early.TooLong text) = tt
early_plain (early.Depth text at) = tt
early_plain early.DepthOut = tt
early_plain (early.LineTooLong line) = tt
early_plain (early.Literal text start last) = tt
early_plain (early.TooMany kind most) = tt

verdict_plain : (v : Verdict Frac64) → IsPlain (outcome_of v)
verdict_plain Valid = tt
verdict_plain (Invalid b) = tt
verdict_plain (Beyond l) = tt
verdict_plain (Other e) = early_plain e

-- the report and the verdict's line
both : (line line' report report' : List ℕ) → report ≡ report' → line ≡ line' → report ++ line ≡ report' ++ line'
both line line' report report' e f = ap (λ t. t ++ line) e ∙ ap (λ t. report' ++ t) f

-- an outcome of a verdict that is not valid is a refusal
plain_refusal : (o : Outcome) → IsPlain o → o ≢ outcomes.Valid → IsRefusal o
plain_refusal outcomes.Valid p n = absurd (n refl)
plain_refusal outcomes.Invalid p n = tt
plain_refusal outcomes.Beyond p n = tt
plain_refusal outcomes.BadText p n = tt
plain_refusal outcomes.ReadFault p n = p
plain_refusal outcomes.WriteFault p n = p
plain_refusal outcomes.NoMemory p n = p

-- a verdict is valid, or its outcome is not
data ValidOrNot (v : Verdict Frac64) : Type 0 where
  is_valid : v ≡ Valid → ValidOrNot v
  is_not : outcome_of v ≢ outcomes.Valid → ValidOrNot v

valid_or_not : (v : Verdict Frac64) → ValidOrNot v
valid_or_not Valid = is_valid refl
valid_or_not (Invalid b) = is_not (λ h. cc h)
valid_or_not (Beyond l) = is_not (λ h. cc h)
valid_or_not (Other e) = is_not (λ h. early_never e h)

-- the text of a verdict on the ground form of a pair
abbrev verdict_meant : Domain → tree.Problem → Verdict Frac64 → List ℕ
verdict_meant d p v = verdict_text fraction_of (labels_meant d p) (expanded d p) v

-- ---- of any teller

module _ {S V : Type 0} (told : List ℕ → S → V) (telling : Tellings V) (d : Domain) (p : tree.Problem) (N : Labels) (P : Problem) (most : ℕ) (bytes : List ℕ) (old : Progress V) (sent : List ℕ) (run : Run S) (z : IsGroundable IsFrac64 d p) where
  abbrev new : Progress V
  new = progress told sent run

  says : (written : Written telling d p new.account.told (codes "valid\n")) (played : Result (Unit {0}) Halt) (v : Verdict Frac64) → v ≡ Valid → P ≡ expanded d p → N ≡ labels_meant d p → Begins P (telling N P) most old → IsPlayedOut (pair d p) P (telling N P) told bytes old sent run played → IfErr played (HaltFits P) → GivesVerdict played v → (length bytes ≤ 1048576) × Accepted telling d p most bytes new.account (codes "valid\n") written
  says written (Ok u) v i e n b r f g = (r.within, accepted telling d p N P most bytes old new z r.within e n b r.plays written)
  says written (Err (Refused Valid)) v i e n b r f g = absurd f.names
  says written (Err (Refused (Invalid x))) v i e n b r f g = absurd (let h : Invalid x ≡ Valid = sym g ∙ i in cc h)
  says written (Err (Refused (Beyond l))) v i e n b r f g = absurd (let h : Beyond l ≡ Valid = sym g ∙ i in cc h)
  says written (Err (Refused (Other x))) v i e n b r f g = absurd (let h : Other x ≡ Valid = sym g ∙ i in cc h)
  says written (Err Memory) v i e n b r f g = absurd g
  says written (Err WriteFault) v i e n b r f g = absurd g

  -- refused with this verdict, with what is counted
  record Refuses (v : Verdict Frac64) (w : Written telling d p new.account.told (verdict_meant d p v)) : Type 0 where
    text : List ℕ
    goes_on : Bool
    read : IsRead bytes text goes_on
    plan : Plan
    history : List Part
    tells : (telling (labels_meant d p) (expanded d p)).Tells plan history new.account.told
    refused : IsRefused d p most text goes_on (outcome_of v) (w plan history tells).0
    verdict : v ≡ refused.verdict
    entries : new.account.entries ≡ entries_of refused.refusal.history
    firings : new.account.firings ≡ firings_of refused.refusal.history

  -- a refusal tells where the run halts
  says_why : (played : Result (Unit {0}) Halt) (v : Verdict Frac64) (w : Written telling d p new.account.told (verdict_meant d p v)) → P ≡ expanded d p → N ≡ labels_meant d p → Begins P (telling N P) most old → IsPlayedOut (pair d p) P (telling N P) told bytes old sent run played → GivesVerdict played v → outcome_of v ≢ outcomes.Valid → Refuses v w
  says_why (Ok u) v w e n b s g o = absurd (o (ap outcome_of g))
  says_why (Err Memory) v w e n b s g o = absurd g
  says_why (Err WriteFault) v w e n b s g o = absurd g
  says_why (Err (Refused w)) v written e n b s g o =
      let start = b.ready (plan_of (pair d p) [] false) (instances_of (pair d p) []) refl refl in
      let at : StopsOn (pair d p) P (telling N P) old.timeline.line.most bytes (left told sent run) (Refused w) = s.stops start.0 start.1 in
      let here : IsStoppedInText (pair d p) P (telling N P) old.timeline.line.most at.goes_on at.whole at.piece new.account w = at.stopped in
      let there : IsStoppedInText (pair d p) (expanded d p) (telling (labels_meant d p) (expanded d p)) most at.goes_on at.whole at.piece new.account v =
      subst (λ (M : Labels). IsStoppedInText (pair d p) (expanded d p) (telling M (expanded d p)) most at.goes_on at.whole at.piece new.account v) n
      (subst (λ (Q : Problem). IsStoppedInText (pair d p) Q (telling N Q) most at.goes_on at.whole at.piece new.account v) e
      (subst (λ m. IsStoppedInText (pair d p) P (telling N P) m at.goes_on at.whole at.piece new.account v) b.rests.most_is
      (subst (IsStoppedInText (pair d p) P (telling N P) old.timeline.line.most at.goes_on at.whole at.piece new.account) (sym g) here))) in
      record {
        text = at.text;
        goes_on = at.goes_on;
        read = at.read;
        plan = plan_in (pair d p) there.refusal.reading;
        history = there.refusal.history;
        tells = there.told.tells;
        refused = record {
          groundable = z;
          whole = at.whole;
          piece = at.piece;
          cut = at.cut;
          verdict = v;
          outcome_is = refl;
          refusal = there.refusal;
          written = (written (plan_in (pair d p) there.refusal.reading) there.refusal.history there.told.tells).1;
        };
        verdict = refl;
        entries = there.told.entries;
        firings = there.told.firings;
      }

  -- the verdict, its line and the counts
  whole : (j : Judged) (played : Result (Unit {0}) Halt) → ((v : Verdict Frac64) → v ≡ j.verdict → Written telling d p new.account.told (verdict_meant d p v)) → ValidOrNot j.verdict → P ≡ expanded d p → N ≡ labels_meant d p → Begins P (telling N P) most old → IsPlayedOut (pair d p) P (telling N P) told bytes old sent run played → IfErr played (HaltFits P) → Says N P run played j → JudgesText d p most bytes j
  whole j played w (is_valid i) e n b s f u =
      let a = says (w Valid (sym i)) played j.verdict i e n b s f u.gives in
      verdicts.judged bytes false (refl, a.0) (verdicts.accepted refl (record {
        verdict = i;
        line = u.line ∙ ap (verdict_text fraction_of N P) i;
        bytes = (w Valid (sym i) a.1.plan a.1.history a.1.tells).0;
        accepted = a.1.accepted;
        entries = u.entries ∙ a.1.entries;
        firings = u.firings ∙ a.1.firings;
      }))
  whole j played w (is_not x) e n b s f u =
      let a = says_why played j.verdict (w j.verdict refl) e n b s u.gives x in
      verdicts.judged a.text a.goes_on a.read (verdicts.refused (record {
        refusal = plain_refusal (outcome_of j.verdict) (verdict_plain j.verdict) x;
        line = u.line ∙ ap (λ M. verdict_text fraction_of M P j.verdict) n ∙ ap (λ Q. verdict_text fraction_of (labels_meant d p) Q j.verdict) e;
        bytes = (w j.verdict refl a.plan a.history a.tells).0;
        refused = a.refused;
        verdict = a.verdict;
        entries = u.entries ∙ a.entries;
        firings = u.firings ∙ a.firings;
      }))

  -- what was not written might have been
  pub judged_silently : (j : Judged) (played : Result (Unit {0}) Halt) → P ≡ expanded d p → N ≡ labels_meant d p → Begins P (telling N P) most old → IsPlayedOut (pair d p) P (telling N P) told bytes old sent run played → IfErr played (HaltFits P) → Says N P run played j → JudgesText d p most bytes j
  judged_silently j played e n b s f u =
      whole j played (λ v i L h t. (report_of (labels_meant d p) (expanded d p) L h ++ verdict_meant d p v, refl)) (valid_or_not j.verdict) e n b s f u

-- ---- the report

module _ (d : Domain) (p : tree.Problem) (N : Labels) (P : Problem) (most : ℕ) (bytes : List ℕ) (old : Progress (List ℕ)) (sent : List ℕ) (run : Run Report) (z : IsGroundable IsFrac64 d p) where
  -- what is sent and what is summed up are the report and the verdict's line
  abbrev all_told : List ℕ
  all_told = (progress report_told sent run).account.told

  written_is : (played : Result (Unit {0}) Halt) (j : Judgement) → SumsUp N P run played j → sent ++ j.bytes.items ≡ all_told ++ verdict_text fraction_of N P j.judged.verdict
  written_is played j u = ap (λ t. sent ++ t) u.bytes ∙ sym (append_assoc sent run.teller.bytes.items (verdict_text fraction_of N P j.judged.verdict))

  -- it is what was written
  abbrev in_fact : (j : Judgement) (played : Result (Unit {0}) Halt) → P ≡ expanded d p → N ≡ labels_meant d p → SumsUp N P run played j → (v : Verdict Frac64) → v ≡ j.judged.verdict → Written reports d p all_told (verdict_meant d p v)
  in_fact j played e n u v i = λ L h t. (
    sent ++ j.bytes.items,
    written_is played j u ∙ both (verdict_text fraction_of N P j.judged.verdict) (verdict_meant d p v) all_told (report_of (labels_meant d p) (expanded d p) L h) t
        (ap (λ M. verdict_text fraction_of M P j.judged.verdict) n ∙ ap (λ Q. verdict_text fraction_of (labels_meant d p) Q j.judged.verdict) e ∙ ap (verdict_meant d p) (sym i)),
  )

  refused_so : (j : Judgement) (played : Result (Unit {0}) Halt) (e : P ≡ expanded d p) (n : N ≡ labels_meant d p) (u : SumsUp N P run played j) → Refuses report_told reports d p N P most bytes old sent run z j.judged.verdict (in_fact j played e n u j.judged.verdict refl) → IsRefusedIn d p most bytes j.outcome (sent ++ j.bytes.items)
  refused_so j played e n u a = record {
    text = a.text;
    goes_on = a.goes_on;
    read = a.read;
    refused = subst (λ (y : Outcome). IsRefused d p most a.text a.goes_on y (sent ++ j.bytes.items)) (sym u.outcome) a.refused;
  }

  pub judged : (j : Judgement) (played : Result (Unit {0}) Halt) → P ≡ expanded d p → N ≡ labels_meant d p → Begins P (reports N P) most old → IsPlayedOut (pair d p) P (reports N P) report_told bytes old sent run played → IfErr played (HaltFits P) → SumsUp N P run played j → IsJudged d p most bytes (sent ++ j.bytes.items) j
  judged j played e n b s f u =
      let v = j.judged.verdict in
      let w = in_fact j played e n u in
      record {
        valid = λ h. let i = valid_only v (sym u.outcome ∙ h) in (says report_told reports d p N P most bytes old sent run z (w Valid (sym i)) played v i e n b s f u.says.gives).1.accepted;
        refused = λ x. refused_so j played e n u (says_why report_told reports d p N P most bytes old sent run z played v (w v refl) e n b s u.says.gives (λ z. x (u.outcome ∙ z)));
        plain = subst IsPlain (sym u.outcome) (verdict_plain v);
        judged = whole report_told reports d p N P most bytes old sent run z j.judged played w (valid_or_not v) e n b s f u.says;
      }

-- an outcome that is summed up is no fault
pub sums_plain : (N : Labels) (P : Problem) (run : Run Report) (played : Result (Unit {0}) Halt) (j : Judgement) → SumsUp N P run played j → IsPlain j.outcome
sums_plain N P run played j u = subst IsPlain (sym u.outcome) (verdict_plain j.judged.verdict)

-- a fact for the bytes under a name
pub judged_told : (d : Domain) (p : tree.Problem) (N : Labels) (P : Problem) (most : ℕ) (told : Option (List ℕ)) (old : Progress (List ℕ)) (sent : List ℕ) (run : Run Report) → IsGroundable IsFrac64 d p → (j : Judgement) (played : Result (Unit {0}) Halt) → P ≡ expanded d p → N ≡ labels_meant d p → Begins P (reports N P) most old → IfSome told (λ bytes. IsPlayedOut (pair d p) P (reports N P) report_told bytes old sent run played) → IfErr played (HaltFits P) → SumsUp N P run played j → IfSome told (λ bytes. IsJudged d p most bytes (sent ++ j.bytes.items) j)
judged_told d p N P most None old sent run z j played e n b s f u = tt
judged_told d p N P most (Some bytes) old sent run z j played e n b s f u = judged d p N P most bytes old sent run z j played e n b s f u
