use Rattle.std.proofs.Common.{◌<◌, suc, map, length, sym, subst, ◌∙◌, ap}
use Rattle.std.specs.Prelude.{IfOk}
use Rattle.plus_state.specs.View.{problem_of, action_of}
use Rattle.plus_planner.specs.Places.{task_from, StandsBehind, Walks}
use Rattle.plus_reads.specs.Indexing.{Indexes}
use Rattle.plus_indexed.specs.Indexed.{Kept}
use Rattle.plus_planner.proofs.WorldLemmas.{walk_told, walk_path, walk_stands, then, again_walks, again_stands}
use Rattle.plus_planner.proofs.TriedLemmas.{there}
use Rattle.plus_planner.proofs.KinLemmas.{kin_again, holds_ok}
use Rattle.plus_planner.proofs.DecidingLemmas.{length_mapped}
use Rattle.plus_planner.proofs.planner.PlannerSpace.step.Goals as goal

pub again-requires : goal.again-requires
again-requires g c = there c.args.place.now.tried.items c.in-Some.index c.in-Some.ensures.tried c.in-Some.ensures.stands

pub returns-in_ok-again-in-Some-clause-told : goal.returns-in_ok-again-in-Some-clause-told
returns-in_ok-again-in-Some-clause-told g c =
    let v = g.Q.Exact.value in
    let task = task_from (problem_of v c.args.self.now.problem) (map (action_of v) c.args.self.now.actions.items) (v c.args.self.now.interval) in
    let old = c.args.place.now in
    let new = c.again.new.self in
    (again_walks g.Q.Exact.fits task old.start new.start old.taken.items new.taken.items old.tried.items new.tried.items c.requires.stands.stands c.again.ensures.start
    c.in-Some.index c.args.decision c.requires.within c.in-Some.ensures c.in_ok-again-in-Some.ensures.returns).told

pub returns-in_ok-again-in-Some-clause-path : goal.returns-in_ok-again-in-Some-clause-path
returns-in_ok-again-in-Some-clause-path g c =
    let v = g.Q.Exact.value in
    let task = task_from (problem_of v c.args.self.now.problem) (map (action_of v) c.args.self.now.actions.items) (v c.args.self.now.interval) in
    let old = c.args.place.now in
    let new = c.again.new.self in
    (again_walks g.Q.Exact.fits task old.start new.start old.taken.items new.taken.items old.tried.items new.tried.items c.requires.stands.stands c.again.ensures.start
    c.in-Some.index c.args.decision c.requires.within c.in-Some.ensures c.in_ok-again-in-Some.ensures.returns).path

pub returns-in_ok-again-in-Some-clause-stands : goal.returns-in_ok-again-in-Some-clause-stands
returns-in_ok-again-in-Some-clause-stands g c =
    let v = g.Q.Exact.value in
    let task = task_from (problem_of v c.args.self.now.problem) (map (action_of v) c.args.self.now.actions.items) (v c.args.self.now.interval) in
    let old = c.args.place.now in
    let new = c.again.new.self in
    record {
      stands = again_stands g.Q.Exact.fits task old.start new.start old.taken.items new.taken.items old.tried.items new.tried.items c.requires.stands.stands c.again.ensures.start
          c.in-Some.index c.args.decision c.requires.within c.in-Some.ensures c.in_ok-again-in-Some.ensures.returns;
      kin = kin_again task.problem old.start new.start old.taken.items new.taken.items old.tried.items new.tried.items old.spares.items new.spares.items c.in-Some.index
          c.again.ensures.start (ap (λ w. w.items) c.again.ensures.spares) c.in_ok-again-in-Some.ensures.returns c.requires.stands.kin;
      indexes = subst (λ (k : Kept). Indexes task.problem k.index) (sym c.again.ensures.stepper) c.requires.stands.indexes;
    }

pub decide-requires-clause-stands : goal.decide-requires-clause-stands
decide-requires-clause-stands g c =
    let v = g.Q.Exact.value in
    let P = problem_of v c.args.self.now.problem in
    subst (λ xs. StandsBehind g.Q.Exact.fits (task_from P (map (action_of v) xs) (v c.args.self.now.interval)) c.args.place.now.start c.args.place.now.taken.items)
    (sym c.deref.ensures.value) c.requires.stands.stands.behind

pub decide-requires-clause-within : goal.decide-requires-clause-within
decide-requires-clause-within g c =
    subst (λ n. c.args.decision < suc n) (length_mapped (action_of g.Q.Exact.value) c.args.self.now.actions.items ∙ ap length (sym c.deref.ensures.value)) c.requires.within

pub returns-in-None-clause-told : goal.returns-in-None-clause-told
returns-in-None-clause-told g c =
    let v = g.Q.Exact.value in
    let P = problem_of v c.args.self.now.problem in
    let task = task_from P (map (action_of v) c.args.self.now.actions.items) (v c.args.self.now.interval) in
    let start = c.args.place.now.start in
    let taken = c.args.place.now.taken.items in
    let place = c.decide.new.place in
    walk_told g.Q.Exact.fits task start place.start taken place.taken.items c.args.decision c.decide.result
    (subst (λ xs. IfOk c.decide.result (Walks g.Q.Exact.fits (task_from P (map (action_of v) xs) (v c.args.self.now.interval)) start place.start taken place.taken.items c.args.decision)) c.deref.ensures.value c.decide.ensures.walks)

pub returns-in-None-clause-path : goal.returns-in-None-clause-path
returns-in-None-clause-path g c =
    let v = g.Q.Exact.value in
    let P = problem_of v c.args.self.now.problem in
    let task = task_from P (map (action_of v) c.args.self.now.actions.items) (v c.args.self.now.interval) in
    let start = c.args.place.now.start in
    let taken = c.args.place.now.taken.items in
    let place = c.decide.new.place in
    walk_path g.Q.Exact.fits task start place.start taken place.taken.items c.args.decision c.decide.result
    (subst (λ xs. IfOk c.decide.result (Walks g.Q.Exact.fits (task_from P (map (action_of v) xs) (v c.args.self.now.interval)) start place.start taken place.taken.items c.args.decision)) c.deref.ensures.value c.decide.ensures.walks)

pub decide-requires-clause-kin : goal.decide-requires-clause-kin
decide-requires-clause-kin g c = c.requires.stands.kin

pub returns-in-None-clause-stands : goal.returns-in-None-clause-stands
returns-in-None-clause-stands g c =
    let v = g.Q.Exact.value in
    let P = problem_of v c.args.self.now.problem in
    let task = task_from P (map (action_of v) c.args.self.now.actions.items) (v c.args.self.now.interval) in
    let start = c.args.place.now.start in
    let taken = c.args.place.now.taken.items in
    let place = c.decide.new.place in
    holds_ok g.Q.Exact.fits task place.start place.taken.items place.tried.items place.spares.items place.stepper.index c.decide.result
    (walk_stands g.Q.Exact.fits task start place.start taken place.taken.items c.args.decision c.args.place.now.tried.items place.tried.items c.requires.stands.stands c.decide.result
    (subst (λ xs. IfOk c.decide.result (Walks g.Q.Exact.fits (task_from P (map (action_of v) xs) (v c.args.self.now.interval)) start place.start taken place.taken.items c.args.decision)) c.deref.ensures.value c.decide.ensures.walks)
    (then c.decide.result (ap (λ w. w.items)) c.decide.ensures.tried))
    c.decide.ensures.kin (then c.decide.result (λ e. subst (Indexes P) (sym e) c.requires.stands.indexes) c.decide.ensures.index)
