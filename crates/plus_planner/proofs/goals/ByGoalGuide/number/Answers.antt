use Rattle.std.proofs.Common.{◌≡◌, ℕ, length, sym, subst}
use Rattle.plus_model.specs.Terms.{Condition}
use Rattle.plus_state.specs.View.{condition_of}
use Rattle.plus_state.specs.Fits.{Fits}
use Rattle.plus_state.proofs.TestsLemmas.{fits_all}
use Rattle.plus_planner.proofs.goals.ByGoalGuide.number.Goals as goal

-- what fits the problem fits a state of it
fitting : (a f n m : ℕ) (k : Condition) → n ≡ a → m ≡ f → Fits a f k → Fits n m k
fitting a f n m k e h p = subst (λ x. Fits x m k) (sym e) (subst (λ y. Fits a y k) (sym h) p)

pub count-requires : goal.count-requires
count-requires g c =
    let v = g.Q.Exact.value in
    let s = c.args.state.now in
    let problem = c.args.problem.now in
    fits_all v problem.goal c.in-All.members c.deref.result.now (length s.atoms) (length s.fluents) c.in-All.is c.deref.ensures.value
    (fitting (length problem.atoms.items) (length problem.fluents.items) (length s.atoms) (length s.fluents) (condition_of v problem.goal) c.requires.atoms_fit c.requires.fluents_fit problem.fits.goal)

pub missing-requires : goal.missing-requires
missing-requires g c =
    let s = c.args.state.now in
    let problem = c.args.problem.now in
    fitting (length problem.atoms.items) (length problem.fluents.items) (length s.atoms) (length s.fluents) (condition_of g.Q.Exact.value problem.goal) c.requires.atoms_fit c.requires.fluents_fit problem.fits.goal
