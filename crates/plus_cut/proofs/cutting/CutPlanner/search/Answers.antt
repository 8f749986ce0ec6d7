use Rattle.std.proofs.Common.{map, refl, sym, subst}
use Rattle.std.specs.Prelude.{IfOk}
use Rattle.plus_state.specs.View.{problem_of, action_of}
use Rattle.plus_planner.specs.Places.{task_from}
use Rattle.plus_planner.specs.Searches.{IsNotSpent}
use Rattle.plus_planner.proofs.Beginning.{begin_holds}
use Rattle.plus_cut.specs.Answers.{CutAnswers}
use Rattle.plus_cut.proofs.CutAnswers.{cut_is_tree}
use Rattle.plus_cut.proofs.Delegating.{begin_broken, begin_beyond}
use Rattle.plus_cut.proofs.cutting.CutPlanner.search.Goals.{in-Alive, in-Broken, in-Beyond}
use Rattle.plus_cut.proofs.cutting.CutPlanner.search.Goals as goal

pub search_from-answer-requires-clause-stands : goal.search_from-answer-requires-clause-stands
search_from-answer-requires-clause-stands g c =
    let v = g.Q.Exact.value in
    let planner = c.args.self.now.planner in
    let task = task_from (problem_of v planner.problem) (map (action_of v) planner.actions.items) (v planner.interval) in
    let place = c.in_ok-place.place in
    record {
      holds = begin_holds g.Q.Exact.fits task place.start place.start place.taken.items place.tried.items place.spares.items place.stepper.index c.in_ok-place.fate
          g.met.Q.Exact.zero_fits planner.can c.in_ok-place.ensures.carried c.in_ok-place.ensures.kin c.in-Alive.is
          refl c.in_ok-place.ensures.taken c.in_ok-place.ensures.tried c.in_ok-place.ensures.spares c.in_ok-place.ensures.index;
      tree = cut_is_tree g.Q.Exact.fits task (g.C.Cut.says c.args.self.now.cut) c.args.self.now.kept;
    }

pub returns-clause-answers : goal.returns-clause-answers
returns-clause-answers g c =
    let v = g.Q.Exact.value in
    let planner = c.args.self.now.planner in
    let task = task_from (problem_of v planner.problem) (map (action_of v) planner.actions.items) (v planner.interval) in
    let says = g.C.Cut.says c.args.self.now.cut in
    let tree = cut_is_tree g.Q.Exact.fits task says c.args.self.now.kept in
    elim c.match-fate.branch [
      | in-Alive w ↦ subst (λ r. IfOk r (CutAnswers v g.Q.Exact.fits task says c.args.decisions c.args.tries)) (sym w.answer-is) w.search_from-answer.ensures.answers
      | in-Broken w ↦ subst (λ r. IfOk r (CutAnswers v g.Q.Exact.fits task says c.args.decisions c.args.tries)) (sym w.answer-is)
          (begin_broken g.Q.Exact.fits task says c.args.decisions c.requires.few tree c.in_ok-place.place.start c.in_ok-place.fate g.met.Q.Exact.zero_fits c.in_ok-place.ensures.carried w.in-Broken.is)
      | in-Beyond w ↦ subst (λ r. IfOk r (CutAnswers v g.Q.Exact.fits task says c.args.decisions c.args.tries)) (sym w.answer-is)
          (begin_beyond g.Q.Exact.fits task says c.args.decisions c.requires.few tree c.in_ok-place.place.start c.in_ok-place.fate g.met.Q.Exact.zero_fits c.in_ok-place.ensures.carried w.in-Beyond.is)
    ]

pub returns-clause-enough : goal.returns-clause-enough
returns-clause-enough g c = λ enough.
    elim c.match-fate.branch [
      | in-Alive w ↦ subst (λ r. IfOk r IsNotSpent) (sym w.answer-is) (w.search_from-answer.ensures.enough enough)
      | in-Broken w ↦ subst (λ r. IfOk r IsNotSpent) (sym w.answer-is) tt
      | in-Beyond w ↦ subst (λ r. IfOk r IsNotSpent) (sym w.answer-is) tt
    ]
