use Rattle.std.proofs.Common.{inl, inr, refl, sym, subst}
use Rattle.plus_number.specs.declared.frac.Frac64.{Frac64}
use Rattle.plus_number.specs.Frac.{fraction_of}
use Rattle.plus_state.specs.View.{problem_of, labels_of}
use Rattle.plus_timeline.specs.declared.next.Next.{Next}
use Rattle.plus_validator.specs.Standing.{IsStep, TellsStep}
use Rattle.plus_watcher.proofs.Calls.{if_done}
use Rattle.plus_watching.specs.Watching.{watching}
use Rattle.plus_watching.proofs.Parts.{round_steps, entry_steps, run_steps, rates_fit}
use Rattle.plus_watching.proofs.telling.ObserverTeller.step.Goals as goal

pub enter-requires : goal.enter-requires
enter-requires c =
    let P = problem_of fraction_of c.args._ground.now in
    record { rates = rates_fit P c.args.timeline.now.line c.in-Entry.time (subst (IsStep P c.args.timeline.now.line) c.in-Entry.is c.requires.step) }

pub returns-in-Round-clause-tells : goal.returns-in-Round-clause-tells
returns-in-Round-clause-tells c = λ sent.
    let N = labels_of c.args._ground.now in
    let P = problem_of fraction_of c.args._ground.now in
    let w = c.args.self.now.watcher in
    let w' = c.after.new.self in
    let t = c.args.timeline.now.line in
    if_done c.after.result _ _
    (λ l. subst (λ (n : Next Frac64). TellsStep P (watching N P) t n (sent, w) (sent, w')) (sym c.in-Round.is)
    (round_steps N P sent w w' t c.requires.can c.state.result.now c.state.ensures.state c.state.ensures.fits l))
    c.after.ensures.looked

pub returns-in-Entry-clause-tells : goal.returns-in-Entry-clause-tells
returns-in-Entry-clause-tells c = λ sent.
    let N = labels_of c.args._ground.now in
    let P = problem_of fraction_of c.args._ground.now in
    let w = c.args.self.now.watcher in
    let w' = c.enter.new.self in
    let t = c.args.timeline.now.line in
    if_done c.enter.result _ _
    (λ l. subst (λ (n : Next Frac64). TellsStep P (watching N P) t n (sent, w) (sent, w')) (sym c.in-Entry.is)
    (entry_steps N P sent w w' t c.requires.can c.in-Entry.time c.enter.ensures.fits l))
    c.enter.ensures.looked

pub returns-in-Run-clause-tells : goal.returns-in-Run-clause-tells
returns-in-Run-clause-tells c = λ sent.
    let N = labels_of c.args._ground.now in
    let P = problem_of fraction_of c.args._ground.now in
    let w = c.args.self.now.watcher in
    let t = c.args.timeline.now.line in
    elim c.in-Run.is [
      | inl e ↦ subst (λ (n : Next Frac64). TellsStep P (watching N P) t n (sent, w) (sent, w)) (sym e) (run_steps N P sent w t)
      | inr e ↦ subst (λ (n : Next Frac64). TellsStep P (watching N P) t n (sent, w) (sent, w)) (sym e) (λ old u serves a. refl)
    ]
