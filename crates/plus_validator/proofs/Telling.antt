-- The first test that fails tells the verdict's line and its outcome.
use Rattle.std.proofs.Common.{◌≡◌, ℕ, List, ◌++◌, refl, ap, sym, ◌∙◌}
use Rattle.std.specs.Prelude.{IsSomeAnd, codes, decimal}
use Rattle.plus_model.specs.Terms.{Problem}
use Rattle.plus_model.specs.Plan.{Plan}
use Rattle.plus_model.specs.History.{Part}
use Rattle.plus_model.specs.Trajectory.{view_of}
use Rattle.plus_model.specs.Breach as model
use Rattle.plus_number.specs.declared.frac.Frac64.{Frac64}
use Rattle.plus_number.specs.Frac.{fraction_of, IsFrac64}
use Rattle.plus_state.proofs.Testing.{one_test}
use Rattle.plus_state.specs.View.{Labels}
use Rattle.plus_state.specs.declared.outcome.Owner.TheVariants.{Event, Process}
use Rattle.plus_state.specs.declared.outcome.Breach.TheVariants as breaches
use Rattle.plus_state.specs.declared.outcome.Breach.{Breach}
use Rattle.plus_state.specs.declared.outcome.Limit.{Limit}
use Rattle.plus_state.specs.declared.outcome.Limit.TheVariants as limits
use Rattle.plus_stretch.specs.Tests.{Test, event, process, asks, straight, full, too_many_nodes, no_number, breach, Passes, of_limit, breach_of}
use Rattle.plus_report.specs.Labels.{label_at, event_label, process_label}
use Rattle.plus_report.specs.Text.{newline, fraction_text}
use Rattle.plus_report.specs.Refusals.{early_text}
use Rattle.plus_report.specs.Verdicts as verdicts
use Rattle.plus_report.specs.Verdicts.{sign_text, line_text, breach_text, limit_text, verdict_text}
use Rattle.plus_report.specs.declared.verdicts.Verdict.{Verdict}
use Rattle.plus_report.specs.declared.verdicts.Verdict.TheVariants.{Valid, Invalid, Beyond, Other}
use Rattle.plus_report.specs.declared.refusals.Early.{Early}
use Rattle.plus_report.specs.declared.refusals.Early.TheVariants as early
use Rattle.plus_report.specs.declared.refusals.Kinds.TheVariants as kinds
use Rattle.plus_report.specs.declared.refusals.Text.TheVariants as texts
use Rattle.plus_validator.specs.declared.judge.Outcome.{Outcome}
use Rattle.plus_validator.specs.declared.judge.Outcome.TheVariants as outcomes
use Rattle.plus_validator.specs.Outcomes.{outcome_of}
use Rattle.plus_timeline.specs.Played.{asked_at}
use Rattle.plus_validator.specs.Asking.{Fails}
use Rattle.plus_validator.specs.Refused.{IsBroken, StandsEarly, Stands, NamesLine}

-- ---- what the test that fails tells

module _ (N : Labels) (P : Problem) (n : ℕ) (label : List ℕ) where
  breach_told : model.Breach → List ℕ
  breach_told (model.UnknownAction i name) = line_text n (codes ": unknown action ") name
  breach_told (model.WrongArguments i name) = line_text n (codes ": wrong arguments of ") name
  breach_told (model.Precondition i) = line_text n (codes ": precondition of ") label
  breach_told (model.Conflict f) = codes "invalid: conflict on " ++ label_at N.fluents f ++ newline
  breach_told (model.NoValue f) = codes "invalid: no value for " ++ label_at N.fluents f ++ newline
  breach_told (model.Repeats e) = codes "invalid: " ++ event_label P e ++ codes " repeats\n"
  breach_told (model.Unsettled p) = codes "invalid: " ++ process_label P p ++ codes " is unsettled\n"
  breach_told (model.Coupled p f) = (codes "invalid: " ++ process_label P p ++ codes " reads moving ") ++ (label_at N.fluents f ++ newline)
  breach_told (model.NoFirstMoment e t) = (codes "invalid: " ++ event_label P e ++ codes " has no first moment at ") ++ (fraction_text t ++ newline)
  breach_told model.Goal = codes "invalid: goal\n"

  pub told : Test → List ℕ
  unfolding breach_told
  told (asks m) = codes "beyond: number " ++ (fraction_text m.left ++ sign_text m.sign ++ (fraction_text m.right ++ newline))
  told (straight (event e) k b) = (codes "beyond: nonlinear in " ++ event_label P e ++ codes ", comparison ") ++ (decimal k ++ newline)
  told (straight (process p) k b) = (codes "beyond: nonlinear in " ++ process_label P p ++ codes ", comparison ") ++ (decimal k ++ newline)
  told (full k) = codes "beyond: happenings " ++ decimal k ++ newline
  told (too_many_nodes k) = early_text (early.TooMany kinds.Nodes k)
  told (no_number start last) = early_text (early.Literal texts.Domain start last)
  told (breach b) = breach_told b

  -- the outcome that it tells
  pub ends : Test → Outcome
  ends (breach b) = outcomes.Invalid
  ends _ = outcomes.Beyond

  -- ---- the verdict that stands is told by the first test that fails

  limit_is : (l : Limit Frac64) → limit_text fraction_of P l ≡ told (of_limit {Q = Frac64} fraction_of l)
  unfolding told limit_text verdicts.operation_text
  limit_is (limits.Happenings k) = refl
  limit_is (limits.Number o) = refl
  limit_is (limits.Nonlinear (Event e) k) = refl
  limit_is (limits.Nonlinear (Process p) k) = refl

  limit_ends : (l : Limit Frac64) → outcomes.Beyond ≡ ends (of_limit {Q = Frac64} fraction_of l)
  unfolding ends
  limit_ends (limits.Happenings k) = refl
  limit_ends (limits.Number o) = refl
  limit_ends (limits.Nonlinear (Event e) k) = refl
  limit_ends (limits.Nonlinear (Process p) k) = refl

-- what a test tells of a verdict
pub record Tells (N : Labels) (P : Problem) (n : ℕ) (label : List ℕ) (v : Verdict Frac64) (t : Test) : Type 0 where
  pub text : verdict_text fraction_of N P v ≡ told N P n label t
  pub outcome : outcome_of v ≡ ends N P n label t

module _ (N : Labels) (P : Problem) (L : Plan) (most : ℕ) (instance : ℕ → List Test) (h : List Part) (n : ℕ) (label : List ℕ) where
  -- a test that fails, and what it tells
  pub record TellsFirst (v : Verdict Frac64) : Type 0 where
    pub test : Test
    pub fails : Fails P L most instance h test
    pub tells : Tells N P n label v test

  breach_first : (b : Breach Frac64) → IsSomeAnd (breach_of fraction_of (view_of P h).acted b) (IsBroken P L most instance h) → NamesLine n label (Invalid b) → TellsFirst (Invalid b)
  unfolding told ends breach_told breach_text
  breach_first (breaches.UnknownAction line name) s m = record { test = breach (model.UnknownAction (view_of P h).acted name); fails = s.first; tells = record { text = ap (λ k. line_text k (codes ": unknown action ") name) m; outcome = refl } }
  breach_first (breaches.WrongArguments line name) s m = record { test = breach (model.WrongArguments (view_of P h).acted name); fails = s.first; tells = record { text = ap (λ k. line_text k (codes ": wrong arguments of ") name) m; outcome = refl } }
  breach_first (breaches.Precondition line whose) s m = record { test = breach (model.Precondition (view_of P h).acted); fails = s.first; tells = record { text = ap (λ k. line_text k (codes ": precondition of ") whose) m.0 ∙ ap (λ (w : List ℕ). line_text n (codes ": precondition of ") w) m.1; outcome = refl } }
  breach_first (breaches.TimeGoesBack line) s m = absurd s
  breach_first (breaches.AfterEnd line) s m = absurd s
  breach_first (breaches.Conflict f) s m = record { test = breach (model.Conflict f.0); fails = s.first; tells = record { text = refl; outcome = refl } }
  breach_first (breaches.NoValue f) s m = record { test = breach (model.NoValue f.0); fails = s.first; tells = record { text = refl; outcome = refl } }
  breach_first (breaches.Repeats e) s m = record { test = breach (model.Repeats e.0); fails = s.first; tells = record { text = refl; outcome = refl } }
  breach_first (breaches.Unsettled p) s m = record { test = breach (model.Unsettled p.0); fails = s.first; tells = record { text = refl; outcome = refl } }
  breach_first (breaches.Coupled p f) s m = record { test = breach (model.Coupled p.0 f.0); fails = s.first; tells = record { text = refl; outcome = refl } }
  breach_first (breaches.NoFirstMoment e t) s m = record { test = breach (model.NoFirstMoment e.0 (fraction_of t)); fails = s.first; tells = record { text = refl; outcome = refl } }
  breach_first breaches.Goal s m = record { test = breach model.Goal; fails = s.first; tells = record { text = refl; outcome = refl } }

  early_first : (e : Early) → StandsEarly P L most instance h e → TellsFirst (Other e)
  unfolding told ends
  early_first (early.TooMany kind k) s = record { test = too_many_nodes k; fails = s.2; tells = record { text = ap (λ x. early_text (early.TooMany x k)) s.0; outcome = refl } }
  early_first (early.Literal texts.Domain start last) s = record { test = no_number start last; fails = s; tells = record { text = refl; outcome = refl } }
  early_first (early.Literal texts.Problem start last) s = absurd s
  early_first (early.Literal texts.Plan start last) s = absurd s
  early_first (early.Literal texts.Constraints start last) s = absurd s
  early_first (early.Literal texts.TranslatedDomain start last) s = absurd s
  early_first (early.Literal texts.TranslatedProblem start last) s = absurd s
  early_first (early.BadText text start last word) s = absurd s
  early_first (early.BadLine line start last) s = absurd s
  early_first (early.TooLong text) s = absurd s
  early_first (early.Depth text at) s = absurd s
  early_first early.DepthOut s = absurd s
  early_first (early.LineTooLong line) s = absurd s

  pub tells_first : (v : Verdict Frac64) → Stands P L most instance h v → NamesLine n label v → TellsFirst v
  tells_first Valid s m = absurd s
  tells_first (Invalid b) s m = breach_first b s m
  tells_first (Beyond l) s m = record { test = of_limit fraction_of l; fails = s; tells = record { text = limit_is N P n label l; outcome = limit_ends N P n label l } }
  tells_first (Other e) s m = early_first e s

  -- two verdicts that stand at one history, and name one line, are told alike
  pub one_verdict : (v w : Verdict Frac64) → Stands P L most instance h v → Stands P L most instance h w → NamesLine n label v → NamesLine n label w → (outcome_of v ≡ outcome_of w) × (verdict_text fraction_of N P v ≡ verdict_text fraction_of N P w)
  one_verdict v w s r m k =
      let a = tells_first v s m in
      let b = tells_first w r k in
      let e : a.test ≡ b.test = (one_test (Passes IsFrac64)).one (asked_at P L most instance h) a.test b.test a.fails b.fails in
      (a.tells.outcome ∙ ap (ends N P n label) e ∙ sym b.tells.outcome, a.tells.text ∙ ap (told N P n label) e ∙ sym b.tells.text)
