-- What playing a call and asking for the goal tell.
use Rattle.std.proofs.Common.{◌≡◌, ℕ, List, [], ◌∷◌, ◌++◌, map, refl, subst, sym, ap, ◌∙◌, append-nil}
use Rattle.std.specs.Prelude.{Result, Ok, Err, OnOk, IfErr, if◌then◌else◌, Bool, true, false}
use Rattle.plus_model.specs.Terms.{Action, State, Problem}
use Rattle.plus_model.specs.Plan.{Called}
use Rattle.plus_number.specs.declared.frac.Frac64.{Frac64}
use Rattle.plus_number.specs.Frac.{fraction_of, IsFrac64}
use Rattle.plus_state.specs.Fits.{ActionFits}
use Rattle.plus_state.specs.Tested.{Carries}
use Rattle.plus_state.proofs.Testing.{carry_pass, carry_fail}
use Rattle.plus_state.specs.declared.outcome.Breach.TheVariants as breaches
use Rattle.plus_tree.specs.declared.trees.Domain.{Domain}
use Rattle.plus_tree.specs.declared.trees.Problem as tree
use Rattle.plus_tree.specs.declared.trees.Call.{Call}
use Rattle.plus_types.specs.declared.faults.File.TheVariants as files
use Rattle.plus_tokens.specs.declared.span.Span.{Span}
use Rattle.plus_plan.specs.declared.forms.Line.{Line}
use Rattle.plus_plan.specs.declared.forms.Line.TheVariants.{Blank, Act, End, Step}
use Rattle.plus_expansion.specs.Expansion.{expanded}
use Rattle.plus_expansion.specs.Counting.{most_nodes}
use Rattle.plus_ground.specs.Refusals.{IsInstance, RefusesCall}
use Rattle.plus_ground.specs.declared.faults.InstanceFault.{InstanceFault}
use Rattle.plus_ground.specs.declared.faults.InstanceFault.TheVariants as instances
use Rattle.plus_report.specs.declared.verdicts.Verdict.{Verdict}
use Rattle.plus_report.specs.declared.verdicts.Verdict.TheVariants as verdicts
use Rattle.plus_report.specs.declared.refusals.Early.TheVariants.{Literal}
use Rattle.plus_steps.specs.Stepped.{Does}
use Rattle.plus_stepped.specs.declared.stop.StepStop.{StepStop}
use Rattle.plus_stepped.specs.Tests as stepped
use Rattle.plus_stepped.specs.Asked.{action_tests, goal_tests}
use Rattle.plus_stepped.specs.Told.{Told}
use Rattle.plus_numeric.specs.declared.halt.Halt.{Halt}
use Rattle.plus_numeric.specs.declared.halt.Halt.TheVariants.{Refused, Memory}
use Rattle.plus_numeric.specs.declared.source.Source.{Source}
use Rattle.plus_numeric.specs.declared.play.Play.{Play}
use Rattle.plus_numeric.specs.Calls.{line_calls, calls_of, call_meant}
use Rattle.plus_numeric.specs.Tests.{Test, count, literal, unknown_action, wrong_arguments, in_line, at_end, Passes, AllPass, FirstFailing}
use Rattle.plus_numeric.specs.Asked.{call_tests, line_tests, end_tests}
use Rattle.plus_numeric.specs.Verdicts.{text_in, verdict_of}
use Rattle.plus_numeric.specs.Playing.{seen, stop_halt, call_halt, OrMemory, HaltsIn, HaltsAt, HaltFits, Leads, LeadsCall, IsPlay, Stays}
use Rattle.plus_numeric.proofs.CallTests.{call_unknown, call_wrong, call_too_large, call_unfit, call_fails, call_passes, after_done}
use Rattle.plus_numeric.proofs.StepTests.{IsToldBy, told_by, Names, action_names, goal_names}
use Rattle.plus_numeric.proofs.Reaching.{leads_nothing, leads_step, halts_step}

halt_is : (v w : Verdict Frac64) → Refused v ≡ Refused w → v ≡ w
halt_is v w e = cc e

no_memory : {A : Type 0} (v : Verdict Frac64) → Refused v ≡ Memory → A
no_memory v e = cc e

-- ---- a call that is refused

module _ (source : Source) (d : Domain) (n : ℕ) (name : List ℕ) (called : Called) (s : State) where
  refused_so :
      (fault : InstanceFault) (v : Verdict Frac64) → RefusesCall IsFrac64 d name called fault → Refused v ≡ call_halt source n name fault
      → HaltsAt source (call_tests d n name called s) (Refused v)
  refused_so instances.UnknownAction v r e =
      record { test = unknown_action n name; first = λ more. call_unknown d n name s called r; is = ap seen (halt_is v (verdicts.Invalid (breaches.UnknownAction n name)) e) }
  refused_so instances.WrongArguments v r e =
      record { test = wrong_arguments n name; first = λ more. call_wrong d n name s called r; is = ap seen (halt_is v (verdicts.Invalid (breaches.WrongArguments n name)) e) }
  refused_so instances.TooManyNodes v r e =
      record { test = count _; first = λ more. call_too_large d n name s called r; is = ap seen (halt_is v _ e) }
  refused_so (instances.Literal span) v r e =
      record {
        test = literal files.Domain r.unfit.literal;
        first = λ more. call_unfit d n name s called span r;
        is = ap seen (halt_is v _ e) ∙ ap (λ (x : Span). verdicts.Other (Literal (text_in source files.Domain) x.start x.«end»)) (sym r.unfit.span_is);
      }
  refused_so instances.Memory v r e = no_memory v e

  pub call_halts :
      (fault : InstanceFault) (halt : Halt) → RefusesCall IsFrac64 d name called fault → OrMemory (call_halt source n name fault) halt
      → HaltsAt source (call_tests d n name called s) halt
  call_halts fault (Refused v) r o = refused_so fault v r o
  call_halts fault Memory r o = tt

  -- the action is not done
  told_fails :
      (a : Action) (v : Verdict Frac64) (told : Halt) → IsInstance IsFrac64 d name called a → IsToldBy (action_tests a s) (breaches.Precondition n a.label) told → Refused v ≡ told
      → HaltsAt source (call_tests d n name called s) (Refused v)
  told_fails a v (Refused w) i t e =
      let same : v ≡ w = halt_is v w e in
      record { test = in_line n a.label t.test; first = λ more. call_fails d n name s called a t.test i t.first; is = ap seen same ∙ t.is }
  told_fails a v Memory i t e = no_memory v e

  pub step_halts :
      {A : Type 0} (a : Action) (Done : A → Type 0) (Never : Type 0) (stop : StepStop Frac64) (halt : Halt) → IsInstance IsFrac64 d name called a
      → Told fraction_of IsFrac64 (action_tests a s) Done Never (Err stop) → OrMemory (stop_halt (breaches.Precondition n a.label) stop) halt
      → HaltsAt source (call_tests d n name called s) halt
  step_halts a Done Never stop (Refused v) i t o =
      told_fails a v (stop_halt (breaches.Precondition n a.label) stop) i (told_by (action_tests a s) Done Never (breaches.Precondition n a.label) stop t) o
  step_halts a Done Never stop Memory i t o = tt

-- the ids of its verdict
fits_from : (d : Domain) (p : tree.Problem) (halt : Halt) → Names (expanded d p) halt → HaltFits d p halt
fits_from d p (Refused v) h = h
fits_from d p Memory h = tt

names_fit :
    {A : Type 0} (d : Domain) (p : tree.Problem) (a : Action) (s : State) (n : ℕ) (Done : A → Type 0) (Never : Type 0) (stop : StepStop Frac64)
    → ActionFits (expanded d p).atoms (expanded d p).fluents a → Told fraction_of IsFrac64 (action_tests a s) Done Never (Err stop)
    → (halt : Halt) → halt ≡ stop_halt (breaches.Precondition n a.label) stop → HaltFits d p halt
names_fit d p a s n Done Never stop f t halt e =
    subst (HaltFits d p) (sym e) (fits_from d p (stop_halt (breaches.Precondition n a.label) stop) (action_names (expanded d p) a s Done Never (breaches.Precondition n a.label) stop f tt t))

pub step_fits :
    {A : Type 0} (d : Domain) (p : tree.Problem) (a : Action) (s : State) (n : ℕ) (Done : A → Type 0) (Never : Type 0) (stop : StepStop Frac64) (halt : Halt)
    → ActionFits (expanded d p).atoms (expanded d p).fluents a → Told fraction_of IsFrac64 (action_tests a s) Done Never (Err stop)
    → OrMemory (stop_halt (breaches.Precondition n a.label) stop) halt → HaltFits d p halt
step_fits d p a s n Done Never stop (Refused v) f t o = names_fit d p a s n Done Never stop f t (Refused v) o
step_fits d p a s n Done Never stop Memory f t o = tt

-- ---- a call that is done

pub call_leads :
    (d : Domain) (p : tree.Problem) (n : ℕ) (call : Call) (a : Action) (s after : State) → IsInstance IsFrac64 d call.name (call_meant d p call) a
    → stepped.AllPass IsFrac64 (action_tests a s) → Does a s after → LeadsCall d p n call s after
call_leads d p n call a s after i t j = record {
  pass = call_passes d n call.name s (call_meant d p call) a i t;
  is = λ more. after_done (call_meant d p call) a s after more i.is j.effect;
}

-- ---- the goal

end_carries : Carries at_end (stepped.Passes IsFrac64) Passes
unfolding Passes
end_carries = record { there = λ t h. h; back = λ t h. h }

module _ (d : Domain) (p : tree.Problem) (P : Problem) (s : State) (same : P ≡ expanded d p) where
  goal_same : map at_end (goal_tests P.goal s) ≡ end_tests d p s
  goal_same = ap (λ (x : Problem). map at_end (goal_tests x.goal s)) same

  pub goal_passes : stepped.AllPass IsFrac64 (goal_tests P.goal s) → AllPass (end_tests d p s)
  goal_passes h = subst AllPass goal_same (carry_pass end_carries (goal_tests P.goal s) h)

  goal_told : (source : Source) (halt : Halt) → IsToldBy (goal_tests P.goal s) breaches.Goal halt → HaltsAt source (end_tests d p s) halt
  goal_told source (Refused v) t = record {
    test = at_end t.test;
    first = λ more. subst (λ ts. FirstFailing ts (at_end t.test)) goal_same (carry_fail end_carries (goal_tests P.goal s) t.test t.first);
    is = t.is;
  }
  goal_told source Memory t = tt

  pub goal_halts :
      {A : Type 0} (source : Source) (Done : A → Type 0) (Never : Type 0) (stop : StepStop Frac64) (halt : Halt)
      → Told fraction_of IsFrac64 (goal_tests P.goal s) Done Never (Err stop) → halt ≡ stop_halt breaches.Goal stop → HaltsAt source (end_tests d p s) halt
  goal_halts source Done Never stop halt t e =
      subst (HaltsAt source (end_tests d p s)) (sym e) (goal_told source (stop_halt breaches.Goal stop) (told_by (goal_tests P.goal s) Done Never breaches.Goal stop t))

  pub goal_fits :
      {A : Type 0} (Done : A → Type 0) (Never : Type 0) (stop : StepStop Frac64) (halt : Halt)
      → Told fraction_of IsFrac64 (goal_tests P.goal s) Done Never (Err stop) → halt ≡ stop_halt breaches.Goal stop → HaltFits d p halt
  goal_fits Done Never stop halt t e =
      subst (HaltFits d p) (sym e) (fits_from d p (stop_halt breaches.Goal stop) (goal_names (expanded d p) P.goal s Done Never breaches.Goal stop tt t))

-- ---- a line without a call

pub quiet_leads : (d : Domain) (p : tree.Problem) (read : Line) (s : State) → ((n : ℕ) (call : Call) → read ≡ Step n call → ⊥) → Leads (line_tests d p read s) s
quiet_leads d p Blank s h = leads_nothing s
quiet_leads d p (Act n t call) s h = leads_nothing s
quiet_leads d p (End n t) s h = leads_nothing s
quiet_leads d p (Step n call) s h = absurd (h n call refl)

module _ (d : Domain) (p : tree.Problem) (read : Line) (n : ℕ) (call : Call) (s : State) (is : read ≡ Step n call) where
  pub line_leads : {T E : Type 0} (r : Result T E) (after : State) → OnOk r (LeadsCall d p n call s after) → OnOk r (Leads (line_tests d p read s) after)
  line_leads (Ok x) after h = subst (λ (l : Line). Leads (line_tests d p l s) after) (sym is) (leads_step d p n call s after h)
  line_leads (Err e) after h = tt

  pub line_halts : {T : Type 0} (source : Source) (r : Result T Halt) → IfErr r (HaltsAt source (call_tests d n call.name (call_meant d p call) s)) → IfErr r (HaltsIn source (line_tests d p read s))
  line_halts source (Ok x) h = tt
  line_halts source (Err halt) h = subst (λ (l : Line). HaltsIn source (line_tests d p l s) halt) (sym is) (halts_step source d p n call s halt h)

pub stays_same : (play : Play) → IsPlay play → Stays play play
stays_same play h = record { numbering = refl; source_is = refl; keep_is = refl; going = h }

pub stays_then : (a b c : Play) → Stays a b → Stays b c → Stays a c
stays_then a b c s t = record {
  numbering = t.numbering ∙ s.numbering;
  source_is = t.source_is ∙ s.source_is;
  keep_is = t.keep_is ∙ s.keep_is;
  going = t.going;
}
