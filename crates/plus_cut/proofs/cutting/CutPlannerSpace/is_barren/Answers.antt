use Rattle.std.proofs.Common.{map, ◌∙◌, ap}
use Rattle.plus_state.specs.View.{problem_of, action_of}
use Rattle.plus_planner.specs.Places.{task_from, path_of}
use Rattle.plus_planner.proofs.WorldLemmas.{ends_in, state_fits}
use Rattle.plus_cut.proofs.Delegating.{not_more, is_yes}
use Rattle.plus_cut.proofs.cutting.CutPlannerSpace.is_barren.Goals as goal

pub is_barren-requires-clause-fits : goal.is_barren-requires-clause-fits
is_barren-requires-clause-fits g c =
    let v = g.Q.Exact.value in
    let planner = c.args.self.now.planner in
    let task = task_from (problem_of v planner.problem) (map (action_of v) planner.actions.items) (v planner.interval) in
    state_fits g.Q.Exact.fits task c.args.place.now.start c.args.place.now.taken.items c.requires.stands.holds.stands.behind c.now.result.now c.state.result.now c.now.ensures c.state.ensures.fits

pub returns-then-left-gt-MOST_DECISIONS : goal.returns-then-left-gt-MOST_DECISIONS
returns-then-left-gt-MOST_DECISIONS g c =
    let v = g.Q.Exact.value in
    let planner = c.args.self.now.planner in
    let task = task_from (problem_of v planner.problem) (map (action_of v) planner.actions.items) (v planner.interval) in
    not_more g.Q.Exact.fits task (g.C.Cut.says c.args.self.now.cut) (path_of c.args.place.now.taken.items) c.args.left c.if-left-gt-MOST_DECISIONS.true

pub returns : goal.returns
returns g c =
    let v = g.Q.Exact.value in
    let planner = c.args.self.now.planner in
    let task = task_from (problem_of v planner.problem) (map (action_of v) planner.actions.items) (v planner.interval) in
    let s = c.state.result.now in
    is_yes g.Q.Exact.fits task (g.C.Cut.says c.args.self.now.cut) (path_of c.args.place.now.taken.items) s c.args.left c.if-left-gt-MOST_DECISIONS.false
    (ends_in g.Q.Exact.fits task c.args.place.now.start c.args.place.now.taken.items c.requires.stands.holds.stands.behind s (c.state.ensures.state ∙ ap (λ t. t.now.state) c.now.ensures))
    c.is_barren.result c.is_barren.ensures
