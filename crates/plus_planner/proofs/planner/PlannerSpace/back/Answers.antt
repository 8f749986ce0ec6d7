use Rattle.std.proofs.Common.{◌<◌, map, ◌++◌, ap, sym, subst, ◌∙◌}
use Rattle.std.specs.Prelude.{◌↔◌, IsSome, option_to_list}
use Rattle.plus_state.specs.View.{problem_of, action_of}
use Rattle.plus_planner.specs.Places.{task_from, path_of}
use Rattle.plus_planner.specs.Worlds.{Stands}
use Rattle.plus_reads.specs.Indexing.{Indexes}
use Rattle.plus_indexed.specs.Indexed.{Kept}
use Rattle.plus_planner.proofs.WorldLemmas.{always, then, path_back, stands_back, nothing_popped}
use Rattle.plus_planner.proofs.KinLemmas.{kin_back, holds_ok}
use Rattle.plus_planner.proofs.planner.PlannerSpace.back.Goals as goal

pub unreachable-requires : goal.unreachable-requires
unreachable-requires g c =
    nothing_popped c.args.place.now.taken.items c.pop.result c.in-None.is (subst (λ n. IsSome c.pop.result ↔ (0 < n)) c.args.place.now.taken.ok.0 c.pop.ensures.variant) c.requires.some

pub returns-clause-path : goal.returns-clause-path
returns-clause-path g c =
    always c.keep.result (λ ds d e. ap (λ w. path_of w.items) c.keep.ensures.same
    ∙ path_back c.args.place.now.taken.items c.pop.new.self.items c.in-Some.taken (c.pop.ensures.items ∙ ap (λ o. c.pop.new.self.items ++ option_to_list o) c.in-Some.is) ds d e)

pub returns-clause-stands : goal.returns-clause-stands
returns-clause-stands g c =
    let v = g.Q.Exact.value in
    let task = task_from (problem_of v c.args.self.now.problem) (map (action_of v) c.args.self.now.actions.items) (v c.args.self.now.interval) in
    let place = c.keep.new.self in
    let popped = c.pop.ensures.items ∙ ap (λ o. c.pop.new.self.items ++ option_to_list o) c.in-Some.is in
    holds_ok g.Q.Exact.fits task place.start place.taken.items place.tried.items place.spares.items place.stepper.index c.keep.result
    (then c.keep.result (λ k.
    subst (λ t. Stands g.Q.Exact.fits task t place.taken.items place.tried.items) (sym c.keep.ensures.start)
    (subst (λ xs. Stands g.Q.Exact.fits task c.args.place.now.start xs place.tried.items) (sym (ap (λ w. w.items) c.keep.ensures.same))
    (stands_back c.args.place.now.taken.items c.pop.new.self.items c.in-Some.taken popped
    g.Q.Exact.fits task c.args.place.now.start c.args.place.now.tried.items place.tried.items c.requires.stands.stands k))) c.keep.ensures.keeps)
    (then c.keep.result (λ k. kin_back task.problem c.args.place.now.start place.start c.args.place.now.taken.items c.pop.new.self.items place.taken.items c.in-Some.taken
    c.args.place.now.tried.items place.tried.items c.args.place.now.spares.items place.spares.items popped c.keep.ensures.start (ap (λ w. w.items) c.keep.ensures.same) k c.requires.stands.kin) c.keep.ensures.kin)
    (always c.keep.result (subst (λ (k : Kept). Indexes task.problem k.index) (sym c.keep.ensures.stepper) c.requires.stands.indexes))
