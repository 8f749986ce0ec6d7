use Rattle.std.proofs.Common.{map, subst}
use Rattle.plus_state.specs.View.{problem_of, action_of}
use Rattle.plus_planner.specs.Places.{task_from, path_of}
use Rattle.plus_planner.specs.Listing.{Lists}
use Rattle.plus_planner.proofs.SearchingLemmas.{plan_found, none_found, spent_found, enough_by}
use Rattle.plus_planner.proofs.planner.Planner.search_from.Goals as goal

pub returns-in_ok-plan-in-Plan-clause-answers : goal.returns-in_ok-plan-in-Plan-clause-answers
returns-in_ok-plan-in-Plan-clause-answers g c =
    let v = g.Q.Exact.value in
    let task = task_from (problem_of v c.args.self.now.problem) (map (action_of v) c.args.self.now.actions.items) (v c.args.self.now.interval) in
    let place = c.search.new.place in
    plan_found g.Q.Exact.fits task c.args.decisions c.args.tries v place.start place.taken.items c.in_ok-plan-in-Plan.plan c.in_ok-found.found
    c.in-Plan.is c.in_ok-found.ensures.told c.in_ok-found.ensures.stands.stands.behind
    (subst (λ xs. Lists v (map (action_of v) xs) place.start place.taken.items c.in_ok-plan-in-Plan.plan) c.deref.ensures.value c.in_ok-plan-in-Plan.ensures)

pub returns-in-NoPlan-clause-answers : goal.returns-in-NoPlan-clause-answers
returns-in-NoPlan-clause-answers g c =
    let v = g.Q.Exact.value in
    let task = task_from (problem_of v c.args.self.now.problem) (map (action_of v) c.args.self.now.actions.items) (v c.args.self.now.interval) in
    none_found g.Q.Exact.fits task c.args.decisions c.args.tries (path_of c.search.new.place.taken.items) c.in-NoPlan.beyond c.in_ok-found.found
    c.in-NoPlan.is c.in_ok-found.ensures.told

pub returns-in-Spent-clause-answers : goal.returns-in-Spent-clause-answers
returns-in-Spent-clause-answers g c =
    let v = g.Q.Exact.value in
    let task = task_from (problem_of v c.args.self.now.problem) (map (action_of v) c.args.self.now.actions.items) (v c.args.self.now.interval) in
    spent_found g.Q.Exact.fits task c.args.decisions c.args.tries (path_of c.search.new.place.taken.items) c.in_ok-found.found
    c.in-Spent.is c.in_ok-found.ensures.told

pub returns-in-Spent-clause-enough : goal.returns-in-Spent-clause-enough
returns-in-Spent-clause-enough g c =
    λ h. c.in_ok-found.ensures.enough (enough_by (action_of g.Q.Exact.value) c.args.self.now.actions.items c.args.decisions c.args.tries h) c.in-Spent.is
