-- A pair that is refused, and a plan that is read.
use Rattle.std.proofs.Common.{◌≡◌, ℕ, List, [], ◌∷◌, ◌++◌, refl, subst, sym, ap, ◌∙◌}
use Rattle.std.specs.Prelude.{Some, None, Option, IfSome, Bool, if◌then◌else◌}
use Rattle.plus_fraction.specs.Fraction.{Fraction}
use Rattle.plus_number.specs.declared.frac.Frac64.{Frac64}
use Rattle.plus_number.specs.Frac.{fraction_of, IsFrac64}
use Rattle.plus_model.specs.Terms.{Problem}
use Rattle.plus_state.specs.View.{Labels}
use Rattle.plus_state.proofs.Testing.{pass_append, fail_left, fail_right}
use Rattle.plus_state.specs.declared.outcome.Breach.{Breach}
use Rattle.plus_state.specs.declared.outcome.Breach.TheVariants as breaches
use Rattle.plus_state.specs.declared.outcome.Limit.{Limit}
use Rattle.plus_state.specs.declared.outcome.Limit.TheVariants as limits
use Rattle.plus_tokens.specs.declared.span.Span.{Span}
use Rattle.plus_tree.specs.declared.trees.Domain.{Domain}
use Rattle.plus_tree.specs.declared.trees.Problem as tree
use Rattle.plus_tree.specs.declared.trees.Call.{Call}
use Rattle.plus_types.specs.declared.faults.File.{File}
use Rattle.plus_expansion.specs.declared.counts.Count.{Count}
use Rattle.plus_expansion.specs.Counts.{Counted}
use Rattle.plus_ground.specs.Refusals.{RefusesGround}
use Rattle.plus_numbering.specs.declared.faults.GroundFault.TheVariants as faults
use Rattle.plus_expansion.specs.Expansion.{expanded, labels_meant}
use Rattle.plus_expansion.specs.Counting.{IsGroundable}
use Rattle.plus_report.specs.declared.verdicts.Verdict.{Verdict}
use Rattle.plus_report.specs.declared.verdicts.Verdict.TheVariants as verdicts
use Rattle.plus_report.specs.declared.refusals.Early.{Early}
use Rattle.plus_report.specs.declared.refusals.Early.TheVariants.{BadText, TooMany, Literal}
use Rattle.plus_report.specs.declared.refusals.Word.TheVariants.{NotLevelTwo}
use Rattle.plus_report.specs.Refusals.{early_text}
use Rattle.plus_report.specs.Verdicts.{VerdictFits, breach_text, limit_text, operation_text, verdict_text}
use Rattle.plus_numeric.specs.declared.answer.Kind.{Kind}
use Rattle.plus_numeric.specs.declared.answer.Stop.{Stop}
use Rattle.plus_numeric.specs.declared.answer.Stop.TheVariants.{Refused, ReadFault, NoMemory}
use Rattle.plus_numeric.specs.declared.halt.Halt.{Halt}
use Rattle.plus_numeric.specs.declared.halt.Halt.TheVariants as halts
use Rattle.plus_numeric.specs.declared.level.Place.{Place}
use Rattle.plus_play.specs.declared.file.Pause.{Pause}
use Rattle.plus_play.specs.declared.file.Pause.TheVariants as pauses
use Rattle.plus_numbering.specs.declared.numbering.Numbering.{Numbering}
use Rattle.plus_plan.specs.declared.forms.PlanForm.TheVariants.{Untimed}
use Rattle.plus_play.specs.Cut.{text_lines}
use Rattle.plus_numeric.specs.Streaming.{PausesIn, PauseFits, PauseNames, TellsPause}
use Rattle.plus_numeric.specs.declared.play.Play.{Play}
use Rattle.plus_numeric.specs.declared.source.Source.{Source}
use Rattle.plus_numeric.specs.Level.{beyond_level_two, IsFirstPlace}
use Rattle.plus_numeric.specs.Calls.{calls_of}
use Rattle.plus_numeric.specs.Tests.{Test, beyond, count, literal, Passes, AllPass, FirstFailing}
use Rattle.plus_numeric.specs.Asked.{pair_tests, lines_tests, last_tests, text_tests, numeric_tests}
use Rattle.plus_numeric.specs.Verdicts.{text_in, kind_meant, verdict_of, line_of, kind_of, early_kind}
use Rattle.plus_numeric.specs.Answers.{HasPlan, IsAccepted, IsRefused, Stops}
use Rattle.plus_numeric.specs.Refusing.{StopsPair}
use Rattle.plus_numeric.specs.Telling.{TellsLine}
use Rattle.plus_numeric.specs.Playing.{domain_in, problem_in, IsBegun, breach_seen, limit_seen, seen, IsPlayed, HaltsWith}
use Rattle.plus_numeric.proofs.PairTests.{pair_beyond, pair_over, pair_unfit, pair_passes}
use Rattle.plus_numeric.proofs.Meaning.{text_plan, text_not}

-- ---- a pair in which nothing is beyond level two

pub no_place : (places : List Place) (found : Option Place) → IsFirstPlace places found → ((place : Place) → found ≡ Some place → ⊥) → places ≡ []
no_place places None first none = first
no_place places (Some place) first none = absurd (none place refl)

-- ---- a pair that is refused

module _ (source : Source) (d : Domain) (p : tree.Problem) where
  -- with a line of its own
  pub tells_pair :
      (test : Test) (early : Early) (stop : Stop) → verdict_of source test ≡ verdicts.Other early → FirstFailing (pair_tests d p) test
      → TellsLine (early_kind early) (early_text early) stop → StopsPair source d p stop
  unfolding line_of
  tells_pair test early (Refused r) e f t = record {
    test = test;
    first = f;
    kind_is = t.0 ∙ ap kind_of (sym e);
    says = t.1 ∙ ap (λ (v : Verdict Fraction). verdict_text (λ x. x) (labels_meant d p) (expanded d p) v) (sym e);
  }
  tells_pair test early ReadFault e f t = t
  tells_pair test early NoMemory e f t = tt

  pub tells_beyond :
      (place : Place) (stop : Stop) → IsFirstPlace (beyond_level_two d p) (Some place)
      → TellsLine (early_kind (BadText (text_in source place.file) place.span.start place.span.«end» NotLevelTwo)) (early_text (BadText (text_in source place.file) place.span.start place.span.«end» NotLevelTwo)) stop
      → StopsPair source d p stop
  tells_beyond place stop h t = tells_pair (beyond place) (BadText (text_in source place.file) place.span.start place.span.«end» NotLevelTwo) stop refl (pair_beyond d p place h.0 h.1) t

  pub tells_many :
      (kind : Count) (most : ℕ) (stop : Stop) → beyond_level_two d p ≡ [] → RefusesGround IsFrac64 d p (faults.TooMany kind most)
      → TellsLine (early_kind (TooMany (kind_meant kind) most)) (early_text (TooMany (kind_meant kind) most)) stop → StopsPair source d p stop
  tells_many kind most stop l r t =
      let c : Counted = record { kind = kind; most = most; number = r.0 } in
      tells_pair (count c) (TooMany (kind_meant kind) most) stop refl (pair_over d p c l r.1) t

  pub tells_literal :
      (file : File) (span : Span) (stop : Stop) → beyond_level_two d p ≡ [] → RefusesGround IsFrac64 d p (faults.Literal file span)
      → TellsLine (early_kind (Literal (text_in source file) span.start span.«end»)) (early_text (Literal (text_in source file) span.start span.«end»)) stop → StopsPair source d p stop
  tells_literal file span stop l r t =
      tells_pair (literal file r.unfit.literal) (Literal (text_in source file) span.start span.«end») stop
      (ap (λ (x : Span). verdicts.Other (Literal (text_in source file) x.start x.«end»)) r.unfit.span_is) (pair_unfit d p file span l r) t

  -- whatever the plan
  pub pair_stops : (bytes : Option (List ℕ)) (before now : ℕ) (stop : Stop) → StopsPair source d p stop → Stops source d p bytes before now stop
  unfolding numeric_tests
  pair_stops bytes before now ReadFault h = absurd h
  pair_stops bytes before now NoMemory h = tt
  pair_stops bytes before now (Refused r) h = at bytes
    where
      at : (b : Option (List ℕ)) → IfSome b (λ text. IsRefused source d p text r.kind r.line.items)
      at None = tt
      at (Some text) = record {
        test = h.test;
        first = fail_left Passes (pair_tests d p) (text_tests d p text) h.test h.first;
        kind_is = h.kind_is;
        says = h.says;
        final = text_not d p text h.test (fail_left Passes (pair_tests d p) (text_tests d p text) h.test h.first);
      }

-- ---- the line of a verdict, with fractions in place of its numbers

breach_same : (N : Labels) (P : Problem) (b : Breach Frac64) → breach_text fraction_of N P b ≡ breach_text (λ x. x) N P (breach_seen b)
unfolding breach_text
breach_same N P (breaches.UnknownAction line name) = refl
breach_same N P (breaches.WrongArguments line name) = refl
breach_same N P (breaches.Precondition line label) = refl
breach_same N P (breaches.TimeGoesBack line) = refl
breach_same N P (breaches.AfterEnd line) = refl
breach_same N P (breaches.Conflict f) = refl
breach_same N P (breaches.NoValue f) = refl
breach_same N P (breaches.Repeats e) = refl
breach_same N P (breaches.Unsettled q) = refl
breach_same N P (breaches.Coupled q f) = refl
breach_same N P (breaches.NoFirstMoment e t) = refl
breach_same N P breaches.Goal = refl

limit_same : (P : Problem) (l : Limit Frac64) → limit_text fraction_of P l ≡ limit_text (λ x. x) P (limit_seen l)
unfolding limit_text operation_text
limit_same P (limits.Happenings n) = refl
limit_same P (limits.Number o) = refl
limit_same P (limits.Nonlinear owner k) = refl

text_same : (N : Labels) (P : Problem) (v : Verdict Frac64) → verdict_text fraction_of N P v ≡ verdict_text (λ x. x) N P (seen v)
text_same N P verdicts.Valid = refl
text_same N P (verdicts.Invalid b) = breach_same N P b
text_same N P (verdicts.Beyond l) = limit_same P l
text_same N P (verdicts.Other e) = refl

kind_same : (v : Verdict Frac64) → kind_of v ≡ kind_of (seen v)
kind_same verdicts.Valid = refl
kind_same (verdicts.Invalid b) = refl
kind_same (verdicts.Beyond l) = refl
kind_same (verdicts.Other e) = refl

-- ---- a plan

module _ (source : Source) (d : Domain) (p : tree.Problem) (level : beyond_level_two d p ≡ []) (groundable : IsGroundable IsFrac64 d p) where
  -- it is refused
  halted_at :
      (text : List ℕ) (first : Play) (v : Verdict Frac64) (kind : Kind) (line : List ℕ) → first.numeric ≡ (expanded d p).initial → first.source ≡ source
      → HaltsWith d p text first (halts.Refused v) → kind ≡ kind_of v → line ≡ verdict_text fraction_of (labels_meant d p) (expanded d p) v
      → IsRefused source d p text kind line
  unfolding numeric_tests text_tests line_of
  halted_at text first v kind line state same h k t =
      let one : FirstFailing (lines_tests d p (text_lines Untimed text) (expanded d p).initial (last_tests d p text)) h.test =
      subst (λ s. FirstFailing (lines_tests d p (text_lines Untimed text) s (last_tests d p text)) h.test) state (h.first (λ s. [])) in
      let all : FirstFailing (numeric_tests d p text) h.test = fail_right Passes (pair_tests d p) (text_tests d p text) h.test (pair_passes d p level groundable) one in
      let is : seen v ≡ verdict_of source h.test = h.is ∙ ap (λ s. verdict_of s h.test) same in
      record {
        test = h.test;
        first = all;
        kind_is = k ∙ kind_same v ∙ ap kind_of is;
        says = t ∙ text_same (labels_meant d p) (expanded d p) v ∙ ap (λ (w : Verdict Fraction). verdict_text (λ x. x) (labels_meant d p) (expanded d p) w) is;
        final = text_not d p text h.test all;
      }

  pub plan_stops :
      (bytes : Option (List ℕ)) (before now : ℕ) (first : Play) (v : Verdict Frac64) (stop : Stop) → first.numeric ≡ (expanded d p).initial → first.source ≡ source
      → IfSome bytes (λ text. HaltsWith d p text first (halts.Refused v)) → TellsLine (kind_of v) (verdict_text fraction_of (labels_meant d p) (expanded d p) v) stop
      → Stops source d p bytes before now stop
  plan_stops bytes before now first v ReadFault state same h t = absurd t
  plan_stops bytes before now first v NoMemory state same h t = tt
  plan_stops None before now first v (Refused r) state same h t = tt
  plan_stops (Some text) before now first v (Refused r) state same h t = halted_at text first v r.kind r.line.items state same h t.0 t.1

  -- it is accepted
  pub plan_accepted :
      (text : List ℕ) (first now : Play) → first.numeric ≡ (expanded d p).initial → first.calls.items ≡ [] → IsPlayed d p text first now → IsAccepted d p text first.keep now.calls.items
  unfolding numeric_tests text_tests
  plan_accepted text first now state none h =
      let pass : AllPass (text_tests d p text) = subst (λ s. AllPass (lines_tests d p (text_lines Untimed text) s (last_tests d p text))) state h.pass in
      record {
        has = record { lines = h.lines; reads = h.reads; plan = text_plan d p text h.lines h.reads pass };
        passed = pass_append Passes (pair_tests d p) (text_tests d p text) (pair_passes d p level groundable) pass;
        calls_are = h.kept ∙ ap (λ cs. cs ++ (if first.keep then calls_of h.lines else [])) none;
      }

-- ---- a play of a pair that is begun

module _ (n : Numbering) (source : Source) (keep : Bool) (play : Play) (b : IsBegun n source keep play) where
  abbrev d : Domain
  d = n.typed.now.domain

  abbrev p : tree.Problem
  p = n.typed.now.problem

  same_domain : domain_in play ≡ d
  same_domain = ap (λ (m : Numbering). m.typed.now.domain) b.numbering_is

  same_problem : problem_in play ≡ p
  same_problem = ap (λ (m : Numbering). m.typed.now.problem) b.numbering_is

  state_is : play.numeric ≡ (expanded d p).initial
  state_is = b.state ∙ ap (λ e. (expanded e (problem_in play)).initial) same_domain ∙ ap (λ q. (expanded d q).initial) same_problem

  -- its problem is the ground one
  pub begun_expands : (P : Problem) → P ≡ expanded d p → P ≡ expanded (domain_in play) (problem_in play)
  begun_expands P e = e ∙ ap (λ x. expanded x p) (sym same_domain) ∙ ap (λ q. expanded (domain_in play) q) (sym same_problem)

  accepted_at : beyond_level_two d p ≡ [] → IsGroundable IsFrac64 d p → (text : List ℕ) (now : Play) (calls : List Call) → calls ≡ now.calls.items → IsPlayed (domain_in play) (problem_in play) text play now → IsAccepted d p text keep calls
  accepted_at level groundable text now calls c h =
      subst (λ cs. IsAccepted d p text keep cs) (sym c)
      (subst (λ k. IsAccepted d p text k now.calls.items) b.keep_is
      (plan_accepted source d p level groundable text play now state_is b.calls
      (subst (λ q. IsPlayed d q text play now) same_problem (subst (λ x. IsPlayed x (problem_in play) text play now) same_domain h))))

  pub begun_accepted :
      beyond_level_two d p ≡ [] → IsGroundable IsFrac64 d p → (bytes : Option (List ℕ)) (now : Play) (calls : List Call) → calls ≡ now.calls.items
      → IfSome bytes (λ text. IsPlayed (domain_in play) (problem_in play) text play now) → IfSome bytes (λ text. IsAccepted d p text keep calls)
  begun_accepted level groundable None now calls c h = tt
  begun_accepted level groundable (Some text) now calls c h = accepted_at level groundable text now calls c h

  pub begun_names : (P : Problem) (pause : Pause Halt) → P ≡ expanded d p → PauseFits (domain_in play) (problem_in play) pause → PauseNames P pause
  begun_names P (pauses.Halt (halts.Refused v)) e f = subst (λ (x : Problem). VerdictFits x v) (sym (begun_expands P e)) f
  begun_names P (pauses.Halt halts.Memory) e f = tt
  begun_names P pauses.Failed e f = tt

  stops_at :
      beyond_level_two d p ≡ [] → IsGroundable IsFrac64 d p → (bytes : Option (List ℕ)) (v : Verdict Frac64) (before now : ℕ) (stop : Stop)
      → IfSome bytes (λ text. HaltsWith (domain_in play) (problem_in play) text play (halts.Refused v))
      → TellsLine (kind_of v) (verdict_text fraction_of (labels_meant d p) (expanded d p) v) stop → Stops source d p bytes before now stop
  stops_at level groundable bytes v before now stop h t =
      plan_stops source d p level groundable bytes before now play v stop state_is b.source_is
      (subst (λ q. IfSome bytes (λ text. HaltsWith d q text play (halts.Refused v))) same_problem
      (subst (λ x. IfSome bytes (λ text. HaltsWith x (problem_in play) text play (halts.Refused v))) same_domain h)) t

  pub begun_stops :
      beyond_level_two d p ≡ [] → IsGroundable IsFrac64 d p → (N : Labels) (P : Problem) → N ≡ labels_meant d p → P ≡ expanded d p
      → (bytes : Option (List ℕ)) (before now : ℕ) (pause : Pause Halt) (stop : Stop) → PausesIn (domain_in play) (problem_in play) bytes before now play pause
      → TellsPause N P pause stop → Stops source d p bytes before now stop
  begun_stops level groundable N P en ep bytes before now (pauses.Halt (halts.Refused v)) stop h t =
      stops_at level groundable bytes v before now stop h
      (subst (λ (x : Problem). TellsLine (kind_of v) (verdict_text fraction_of (labels_meant d p) x v) stop) ep
      (subst (λ (x : Labels). TellsLine (kind_of v) (verdict_text fraction_of x P v) stop) en t))
  begun_stops level groundable N P en ep bytes before now (pauses.Halt halts.Memory) stop h t = subst (Stops source d p bytes before now) (sym t) tt
  begun_stops level groundable N P en ep bytes before now pauses.Failed stop h t = subst (Stops source d p bytes before now) (sym t) h
