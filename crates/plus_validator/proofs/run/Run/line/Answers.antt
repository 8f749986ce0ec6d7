use Rattle.plus_validator.specs.Plans.{pair_in}
use Rattle.std.proofs.Common.{◌≡◌, [], refl, sym, subst, true, inl, inr}
use Rattle.plus_number.specs.Frac.{fraction_of}
use Rattle.plus_state.specs.View.{problem_of, labels_of}
use Rattle.plus_validator.specs.Account.{progress}
use Rattle.plus_validator.specs.Handing.{HandsOn, left}
use Rattle.plus_validator.specs.declared.run.Run.{Run}
use Rattle.std.specs.Prelude.{OnOk, Result, Ok, Err}
use Rattle.plus_validator.specs.Playing.{PlaysLine}
use Rattle.plus_validator.proofs.Played.{reach_now, act_played, end_played, IsNoLine, nothing_played}
use Rattle.plus_validator.specs.declared.halt.Halt.{Halt}
use Rattle.plus_validator.specs.Halts.{HasCause}
use Rattle.plus_validator.proofs.Handing.{hands_none, hands_map, hands_then, cause_of, cause_since}
use Rattle.plus_validator.proofs.Halting.{from_err}
use Rattle.plus_plan.specs.TimeValue.{value_of}
use Rattle.plus_expansion.specs.Calls.{called_of}
use Rattle.plus_model.specs.Plan.{ActLine, EndLine}
use Rattle.plus_plan.specs.declared.forms.Line.{Line}
use Rattle.plus_plan.specs.declared.forms.Line.TheVariants as lines
use Rattle.plus_validator.specs.Stopped.{HaltsOnWay, HaltsInLine}
use Rattle.plus_validator.proofs.LineStops.{halts_by_time, halts_before, halts_in_act, halts_behind, on_err}
use Rattle.plus_validator.proofs.run.Run.line.Goals as goal

on_ok : {A E : Type 0} (r : Result A E) (P Q : Type 0) → (P → Q) → OnOk r P → OnOk r Q
on_ok (Ok x) P Q f h = f h
on_ok (Err e) P Q f h = h

pub returns-in_ok-act-in-Act-clause-plays : goal.returns-in_ok-act-in-Act-clause-plays
returns-in_ok-act-in-Act-clause-plays g c =
    let P = problem_of fraction_of c.args.ground.now in
    let T = g.T.Teller.telling (labels_of c.args.ground.now) P in
    let told = g.T.Teller.told in
    let d = (pair_in c.args.instances.now.numbering.now.typed.now) in
    on_ok c.reach-in-Act.result _ _ (λ r.
    hands_then c.in_ok-reach-in-Act.ensures.reaches r (λ sent mid out x y.
    subst (λ l. PlaysLine d P T l (progress g.T.Teller.told sent c.args.self.now) (progress g.T.Teller.told out c.reach-in-Act.new.self)) (sym c.in-Act.is)
    (act_played d P T c.in-Act.line c.in-Act.time c.in-Act.call c.in_ok-until-in-Act.until (fraction_of c.time-now.result)
    (progress g.T.Teller.told sent c.args.self.now) (progress g.T.Teller.told mid c.reach.new.self) (progress g.T.Teller.told mid c.act.new.self) (progress g.T.Teller.told out c.reach-in-Act.new.self)
    c.in_ok-until-in-Act.ensures.ok x (c.in_ok-act-in-Act.ensures.acts mid) c.time-now.ensures y)))
    c.reach-in-Act.ensures.reaches

pub returns-in_ok-reach-in-End-clause-plays : goal.returns-in_ok-reach-in-End-clause-plays
returns-in_ok-reach-in-End-clause-plays g c =
    let P = problem_of fraction_of c.args.ground.now in
    let T = g.T.Teller.telling (labels_of c.args.ground.now) P in
    let told = g.T.Teller.told in
    let d = (pair_in c.args.instances.now.numbering.now.typed.now) in
    let new : Run g.row.T.Denot = record { timeline = c.reach-in-End.new.self.timeline; teller = c.reach-in-End.new.self.teller; entries = c.reach-in-End.new.self.entries; firings = c.reach-in-End.new.self.firings; ended = true } in
    hands_map c.in_ok-reach-in-End.ensures.reaches (λ sent out x.
    subst (λ l. PlaysLine d P T l (progress g.T.Teller.told sent c.args.self.now) (progress g.T.Teller.told out new)) (sym c.in-End.is)
    (end_played d P T c.in-End.line c.in-End.time c.in_ok-until-in-End.until (progress g.T.Teller.told sent c.args.self.now) (progress g.T.Teller.told out c.reach-in-End.new.self) (progress g.T.Teller.told out new)
    c.in_ok-until-in-End.ensures.ok x refl refl refl))

pub returns-in-Blank-clause-plays : goal.returns-in-Blank-clause-plays
returns-in-Blank-clause-plays g c =
    let q : IsNoLine c.args.read.now = elim c.in-Blank.is [
      | inl e ↦ subst IsNoLine (sym e) tt
      | inr e ↦ subst IsNoLine (sym e.2) tt
    ] in
    hands_none _ (λ sent.
    nothing_played (pair_in c.args.instances.now.numbering.now.typed.now) (problem_of fraction_of c.args.ground.now) (g.T.Teller.telling (labels_of c.args.ground.now) (problem_of fraction_of c.args.ground.now))
    c.args.read.now (progress g.T.Teller.told sent c.args.self.now) q c.requires.can c.requires.moment)

-- ---- why it halts

pub returns-in_err-until-in-Act-clause-cause : goal.returns-in_err-until-in-Act-clause-cause
returns-in_err-until-in-Act-clause-cause g c =
    let P = problem_of fraction_of c.args.ground.now in
    let Q : Halt → Type 0 = λ h. HasCause P (g.O.Sink.faults c.args.out.now) (g.O.Sink.faults c.args.out.now) h in
    from_err c.from_residual.result (λ (h : Halt). h ≡ c.in_err-until-in-Act.field-0.0) Q c.from_residual.ensures.1
    (λ h e. subst Q (sym e) (cause_of P (g.O.Sink.faults c.args.out.now) (g.O.Sink.faults c.args.out.now) c.in_err-until-in-Act.field-0.0 (c.in_err-until-in-Act.ensures.fits P)))

pub returns-in_err-until-in-End-clause-cause : goal.returns-in_err-until-in-End-clause-cause
returns-in_err-until-in-End-clause-cause g c =
    let P = problem_of fraction_of c.args.ground.now in
    let Q : Halt → Type 0 = λ h. HasCause P (g.O.Sink.faults c.args.out.now) (g.O.Sink.faults c.args.out.now) h in
    from_err c.from_residual-in_err-until-in-End.result (λ (h : Halt). h ≡ c.in_err-until-in-End.field-0.0) Q c.from_residual-in_err-until-in-End.ensures.1
    (λ h e. subst Q (sym e) (cause_of P (g.O.Sink.faults c.args.out.now) (g.O.Sink.faults c.args.out.now) c.in_err-until-in-End.field-0.0 (c.in_err-until-in-End.ensures.fits P)))

pub returns-in_err-act-in-Act-clause-cause : goal.returns-in_err-act-in-Act-clause-cause
returns-in_err-act-in-Act-clause-cause g c =
    let P = problem_of fraction_of c.args.ground.now in
    let Q : Halt → Type 0 = λ h. HasCause P (g.O.Sink.faults c.args.out.now) (g.O.Sink.faults c.reach.new.out) h in
    from_err c.from_residual-in_err-act-in-Act.result (λ (h : Halt). h ≡ c.in_err-act-in-Act.field-0.0) Q c.from_residual-in_err-act-in-Act.ensures.1
    (λ h e. subst Q (sym e) (cause_of P (g.O.Sink.faults c.args.out.now) (g.O.Sink.faults c.reach.new.out) c.in_err-act-in-Act.field-0.0 c.in_err-act-in-Act.ensures.fits))

pub returns-in_ok-act-in-Act-clause-cause : goal.returns-in_ok-act-in-Act-clause-cause
returns-in_ok-act-in-Act-clause-cause g c =
    let P = problem_of fraction_of c.args.ground.now in
    on_err c.reach-in-Act.result (HasCause P (g.O.Sink.faults c.reach.new.out) (g.O.Sink.faults c.reach-in-Act.new.out)) (HasCause P (g.O.Sink.faults c.args.out.now) (g.O.Sink.faults c.reach-in-Act.new.out))
    (λ h k. cause_since P (g.O.Sink.faults c.args.out.now) (g.O.Sink.faults c.reach.new.out) (g.O.Sink.faults c.reach-in-Act.new.out) h c.reach.ensures.no_fall k)
    c.reach-in-Act.ensures.cause

-- ---- the halts

pub returns-in_err-until-in-Act-clause-stops : goal.returns-in_err-until-in-Act-clause-stops
returns-in_err-until-in-Act-clause-stops g c =
    let P = problem_of fraction_of c.args.ground.now in
    let T = g.T.Teller.telling (labels_of c.args.ground.now) P in
    let told = g.T.Teller.told in
    let d = (pair_in c.args.instances.now.numbering.now.typed.now) in
    let line : Line = lines.Act c.in-Act.line c.in-Act.time c.in-Act.call in
    let Q : Halt → Type 0 = λ h. HandsOn (progress g.T.Teller.told) (left g.T.Teller.told) (λ old new. HaltsInLine d P T c.args.read.now old new h) c.args.self.now c.args.self.now (g.O.Sink.taken c.args.out.now) (g.O.Sink.taken c.args.out.now) in
    from_err c.from_residual.result (λ (h : Halt). h ≡ c.in_err-until-in-Act.field-0.0) Q c.from_residual.ensures.1
    (λ h e. subst Q (sym e)
    (hands_none _ (λ sent.
    subst (λ (l : Line). HaltsInLine d P T l (progress g.T.Teller.told sent c.args.self.now) (left g.T.Teller.told sent c.args.self.now) c.in_err-until-in-Act.field-0.0) (sym c.in-Act.is)
    (halts_by_time d P T line (ActLine (value_of c.in-Act.time) (called_of d.domain d.problem c.in-Act.call.name c.in-Act.call.args)) c.in-Act.time (progress g.T.Teller.told sent c.args.self.now) sent c.in_err-until-in-Act.field-0.0 refl refl refl c.requires.can
    (c.in_err-until-in-Act.ensures.stops (labels_of c.args.ground.now) P sent)))))

pub returns-in_err-until-in-End-clause-stops : goal.returns-in_err-until-in-End-clause-stops
returns-in_err-until-in-End-clause-stops g c =
    let P = problem_of fraction_of c.args.ground.now in
    let T = g.T.Teller.telling (labels_of c.args.ground.now) P in
    let told = g.T.Teller.told in
    let d = (pair_in c.args.instances.now.numbering.now.typed.now) in
    let line : Line = lines.End c.in-End.line c.in-End.time in
    let Q : Halt → Type 0 = λ h. HandsOn (progress g.T.Teller.told) (left g.T.Teller.told) (λ old new. HaltsInLine d P T c.args.read.now old new h) c.args.self.now c.args.self.now (g.O.Sink.taken c.args.out.now) (g.O.Sink.taken c.args.out.now) in
    from_err c.from_residual-in_err-until-in-End.result (λ (h : Halt). h ≡ c.in_err-until-in-End.field-0.0) Q c.from_residual-in_err-until-in-End.ensures.1
    (λ h e. subst Q (sym e)
    (hands_none _ (λ sent.
    subst (λ (l : Line). HaltsInLine d P T l (progress g.T.Teller.told sent c.args.self.now) (left g.T.Teller.told sent c.args.self.now) c.in_err-until-in-End.field-0.0) (sym c.in-End.is)
    (halts_by_time d P T line (EndLine (value_of c.in-End.time)) c.in-End.time (progress g.T.Teller.told sent c.args.self.now) sent c.in_err-until-in-End.field-0.0 refl refl refl c.requires.can
    (c.in_err-until-in-End.ensures.stops (labels_of c.args.ground.now) P sent)))))

pub returns-in_err-reach-in-Act-clause-stops : goal.returns-in_err-reach-in-Act-clause-stops
returns-in_err-reach-in-Act-clause-stops g c =
    let P = problem_of fraction_of c.args.ground.now in
    let T = g.T.Teller.telling (labels_of c.args.ground.now) P in
    let told = g.T.Teller.told in
    let d = (pair_in c.args.instances.now.numbering.now.typed.now) in
    let line : Line = lines.Act c.in-Act.line c.in-Act.time c.in-Act.call in
    let at = c.in_ok-until-in-Act.until in
    let Q : Halt → Type 0 = λ h. HandsOn (progress g.T.Teller.told) (left g.T.Teller.told) (λ old new. HaltsInLine d P T c.args.read.now old new h) c.args.self.now c.reach.new.self (g.O.Sink.taken c.args.out.now) (g.O.Sink.taken c.reach.new.out) in
    from_err c.from_residual-in_err-reach-in-Act.result (λ (h : Halt). h ≡ c.in_err-reach-in-Act.field-0.0) Q c.from_residual-in_err-reach-in-Act.ensures.1
    (λ h e. subst Q (sym e)
    (hands_map c.in_err-reach-in-Act.ensures.stops (λ sent out k.
    subst (λ (l : Line). HaltsInLine d P T l (progress g.T.Teller.told sent c.args.self.now) (left g.T.Teller.told out c.reach.new.self) c.in_err-reach-in-Act.field-0.0) (sym c.in-Act.is)
    (halts_before d P T line (ActLine (value_of c.in-Act.time) (called_of d.domain d.problem c.in-Act.call.name c.in-Act.call.args)) c.in-Act.time at (progress g.T.Teller.told sent c.args.self.now) (left g.T.Teller.told out c.reach.new.self) c.in_err-reach-in-Act.field-0.0 refl refl (λ t k. k)
    c.in_ok-until-in-Act.ensures.ok k))))

pub returns-in_err-reach-in-End-clause-stops : goal.returns-in_err-reach-in-End-clause-stops
returns-in_err-reach-in-End-clause-stops g c =
    let P = problem_of fraction_of c.args.ground.now in
    let T = g.T.Teller.telling (labels_of c.args.ground.now) P in
    let told = g.T.Teller.told in
    let d = (pair_in c.args.instances.now.numbering.now.typed.now) in
    let line : Line = lines.End c.in-End.line c.in-End.time in
    let at = c.in_ok-until-in-End.until in
    let Q : Halt → Type 0 = λ h. HandsOn (progress g.T.Teller.told) (left g.T.Teller.told) (λ old new. HaltsInLine d P T c.args.read.now old new h) c.args.self.now c.reach-in-End.new.self (g.O.Sink.taken c.args.out.now) (g.O.Sink.taken c.reach-in-End.new.out) in
    from_err c.from_residual-in_err-reach-in-End.result (λ (h : Halt). h ≡ c.in_err-reach-in-End.field-0.0) Q c.from_residual-in_err-reach-in-End.ensures.1
    (λ h e. subst Q (sym e)
    (hands_map c.in_err-reach-in-End.ensures.stops (λ sent out k.
    subst (λ (l : Line). HaltsInLine d P T l (progress g.T.Teller.told sent c.args.self.now) (left g.T.Teller.told out c.reach-in-End.new.self) c.in_err-reach-in-End.field-0.0) (sym c.in-End.is)
    (halts_before d P T line (EndLine (value_of c.in-End.time)) c.in-End.time at (progress g.T.Teller.told sent c.args.self.now) (left g.T.Teller.told out c.reach-in-End.new.self) c.in_err-reach-in-End.field-0.0 refl refl (λ t k. k)
    c.in_ok-until-in-End.ensures.ok k))))

pub returns-in_err-act-in-Act-clause-stops : goal.returns-in_err-act-in-Act-clause-stops
returns-in_err-act-in-Act-clause-stops g c =
    let P = problem_of fraction_of c.args.ground.now in
    let T = g.T.Teller.telling (labels_of c.args.ground.now) P in
    let told = g.T.Teller.told in
    let d = (pair_in c.args.instances.now.numbering.now.typed.now) in
    let at = c.in_ok-until-in-Act.until in
    let Q : Halt → Type 0 = λ h. HandsOn (progress g.T.Teller.told) (left g.T.Teller.told) (λ old new. HaltsInLine d P T c.args.read.now old new h) c.args.self.now c.act.new.self (g.O.Sink.taken c.args.out.now) (g.O.Sink.taken c.reach.new.out) in
    from_err c.from_residual-in_err-act-in-Act.result (λ (h : Halt). h ≡ c.in_err-act-in-Act.field-0.0) Q c.from_residual-in_err-act-in-Act.ensures.1
    (λ h e. subst Q (sym e)
    (hands_map c.in_ok-reach-in-Act.ensures.reaches (λ sent out x.
    subst (λ (l : Line). HaltsInLine d P T l (progress g.T.Teller.told sent c.args.self.now) (left g.T.Teller.told out c.act.new.self) c.in_err-act-in-Act.field-0.0) (sym c.in-Act.is)
    (halts_in_act d P T c.in-Act.line c.in-Act.time c.in-Act.call at (progress g.T.Teller.told sent c.args.self.now) (progress g.T.Teller.told out c.reach.new.self) c.in_ok-until-in-Act.ensures.ok x
    (left g.T.Teller.told out c.act.new.self) c.in_err-act-in-Act.field-0.0 (c.in_err-act-in-Act.ensures.stops out)))))

pub returns-in_ok-act-in-Act-clause-stops : goal.returns-in_ok-act-in-Act-clause-stops
returns-in_ok-act-in-Act-clause-stops g c =
    let P = problem_of fraction_of c.args.ground.now in
    let T = g.T.Teller.telling (labels_of c.args.ground.now) P in
    let told = g.T.Teller.told in
    let d = (pair_in c.args.instances.now.numbering.now.typed.now) in
    let at = c.in_ok-until-in-Act.until in
    let now = fraction_of c.time-now.result in
    on_err c.reach-in-Act.result
    (λ (h : Halt). HandsOn (progress g.T.Teller.told) (left g.T.Teller.told) (λ old new. HaltsOnWay P T now old new h) c.act.new.self c.reach-in-Act.new.self (g.O.Sink.taken c.reach.new.out) (g.O.Sink.taken c.reach-in-Act.new.out))
    (λ (h : Halt). HandsOn (progress g.T.Teller.told) (left g.T.Teller.told) (λ old new. HaltsInLine d P T c.args.read.now old new h) c.args.self.now c.reach-in-Act.new.self (g.O.Sink.taken c.args.out.now) (g.O.Sink.taken c.reach-in-Act.new.out))
    (λ h s. hands_then c.in_ok-reach-in-Act.ensures.reaches s (λ sent mid out x y.
    subst (λ (l : Line). HaltsInLine d P T l (progress g.T.Teller.told sent c.args.self.now) (left g.T.Teller.told out c.reach-in-Act.new.self) h) (sym c.in-Act.is)
    (halts_behind d P T c.in-Act.line c.in-Act.time c.in-Act.call at (progress g.T.Teller.told sent c.args.self.now) (progress g.T.Teller.told mid c.reach.new.self) c.in_ok-until-in-Act.ensures.ok x
    (progress g.T.Teller.told mid c.act.new.self) (left g.T.Teller.told out c.reach-in-Act.new.self) now h (c.in_ok-act-in-Act.ensures.acts mid) c.time-now.ensures y)))
    c.reach-in-Act.ensures.stops

-- ---- what the calls ask

pub act-requires-clause-can : goal.act-requires-clause-can
act-requires-clause-can g c = (c.in_ok-reach-in-Act.ensures.reaches.goes []).can

pub act-requires-clause-paused : goal.act-requires-clause-paused
act-requires-clause-paused g c = (c.in_ok-reach-in-Act.ensures.reaches.goes []).paused

pub reach-requires-in-Act : goal.reach-requires-in-Act
reach-requires-in-Act g c =
    let acts = c.in_ok-act-in-Act.ensures.acts [] in
    record { can = reach_now (problem_of fraction_of c.args.ground.now) (fraction_of c.time-now.result) c.act.new.self.timeline acts.can acts.moment c.time-now.ensures }
