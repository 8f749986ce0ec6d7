use Rattle.std.proofs.Common.{◌≡◌, true}
use Rattle.plus_model.specs.Value.{holds}
use Rattle.plus_number.specs.Frac.{fraction_of}
use Rattle.plus_state.specs.View.{problem_of}
use Rattle.plus_numeric.specs.Playing.{domain_in, problem_in}
use Rattle.plus_numeric.proofs.PlayLemmas.{goal_passes, goal_halts, goal_fits}
use Rattle.plus_numeric.proofs.play.Play.finish.Goals as goal

pub returns-in-Ok-clause-passes : goal.returns-in-Ok-clause-passes
returns-in-Ok-clause-passes c =
    goal_passes (domain_in c.args.self.now) (problem_in c.args.self.now) (problem_of fraction_of c.args.ground.now) c.args.self.now.numeric c.requires.expands c.in-Ok.ensures.told.pass

pub returns-in-Err-clause-halts : goal.returns-in-Err-clause-halts
returns-in-Err-clause-halts c =
    let P = problem_of fraction_of c.args.ground.now in
    let s = c.args.self.now.numeric in
    goal_halts (domain_in c.args.self.now) (problem_in c.args.self.now) P s c.requires.expands c.args.self.now.source
    (λ (u : Unit {0}). holds P.goal s ≡ true) (holds P.goal s ≡ true → ⊥) c.in-Err.stop c.stop_halt.result c.in-Err.ensures.told c.stop_halt.ensures

pub returns-in-Err-clause-fits : goal.returns-in-Err-clause-fits
returns-in-Err-clause-fits c =
    let P = problem_of fraction_of c.args.ground.now in
    let s = c.args.self.now.numeric in
    goal_fits (domain_in c.args.self.now) (problem_in c.args.self.now) P s c.requires.expands
    (λ (u : Unit {0}). holds P.goal s ≡ true) (holds P.goal s ≡ true → ⊥) c.in-Err.stop c.stop_halt.result c.in-Err.ensures.told c.stop_halt.ensures
