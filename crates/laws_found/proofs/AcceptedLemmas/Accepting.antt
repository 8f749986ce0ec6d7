-- A plan on the grid passes all that `check` asks, and its text is accepted.
use Rattle.std.proofs.Common.{◌≡◌, inr, ℕ, ◌≤◌, true, List, [], ◌∷◌, ◌++◌, refl, sym, subst, arith}
use Rattle.std.specs.Prelude.{All, codes}
use Rattle.std.proofs.lemmas.List.{append-nil}
use Rattle.std.proofs.lemmas.List.Elements.{All-nil, All-cons}
use Rattle.plus_fraction.specs.Fraction.{Fraction}
use Rattle.plus_number.specs.Frac.{IsFrac64}
use Rattle.plus_model.specs.Plan as model
use Rattle.plus_model.specs.History.{Part}
use Rattle.plus_model.specs.Trajectory.{Prefix, Trajectory, view_of}
use Rattle.plus_model.proofs.Later.{prefix_goes_on}
use Rattle.plus_model.proofs.Longest.{worked_is_longest, one_longest}
use Rattle.plus_model.proofs.Paths.{one_trajectory}
use Rattle.plus_tree.specs.declared.trees.Domain.{Domain}
use Rattle.plus_tree.specs.declared.trees.Problem.{Problem}
use Rattle.plus_plan.specs.declared.forms.Line.{Line}
use Rattle.plus_plan.specs.declared.forms.Line.TheVariants.{Blank, Act, End, Step}
use Rattle.plus_plan.specs.TimeValue.{value_of}
use Rattle.plus_expansion.specs.Expansion.{expanded, labels_meant}
use Rattle.plus_expansion.specs.Counting.{IsGroundable}
use Rattle.plus_report.specs.Report.{report_of}
use Rattle.plus_stretch.specs.Tests.{Test, AllPass}
use Rattle.plus_timeline.specs.Asked.{goal_tests}
use Rattle.plus_planner.specs.Grid.{Task, timed, AllTimes, Plays, GridPlan}
use Rattle.plus_planner.specs.Laws.{whole_plan}
use Rattle.plus_planner.specs.Places.{most_entries}
use Rattle.plus_planner.proofs.Valid.{grid_plan_is_plan}
use Rattle.plus_plan_command.specs.Planning.Planned.{task_of}
use Rattle.plus_validator.specs.declared.judge.Outcome.{Outcome}
use Rattle.plus_validator.specs.declared.judge.Outcome.TheVariants.{Valid}
use Rattle.plus_validator.specs.Accepted.{IsAccepted}
use Rattle.plus_timeline.specs.Played.{entries_of}
use Rattle.plus_validator.specs.Asking.{instances_of, IsClear, NoneFails}
use Rattle.plus_validator.specs.Plans.{Pair, pair, lines_meant, plan_of, HasValue}
use Rattle.plus_validator.specs.Laws as judged
use Rattle.plus_validator.specs.Verdicts.{IsAnswered, for_pair, for_plan}
use Rattle.plus_validator.proofs.FiresLemmas.{fires_exactly}
use Rattle.plus_validator.proofs.Excluding.{pair_or_plan}
use Rattle.plus_validator.proofs.OneText.{one_answer}
use Rattle.laws_found.specs.Passing.{AreClean, PassesCheck, IsTextOf, InstancesPass}
use Rattle.laws_found.proofs.AcceptedLemmas.Lifting.{whole}
use Rattle.laws_found.proofs.AcceptedLemmas.Few.{few}
use Rattle.laws_found.proofs.AcceptedLemmas.Passing.{shorter, at_end}

-- ---- the list of decisions

pub few_of : (task : Task) (ds : List ℕ) (h : List Part) → Plays IsFrac64 task ds h → 1 ≤ task.most → entries_of h ≤ task.most
few_of task ds h p o = few IsFrac64 task.problem (timed task ds) task.most h o p.prefix p.clear

module _ (task : Task) (ds : List ℕ) (h : List Part) (most : ℕ) (instance : ℕ → List Test) (p : Plays IsFrac64 task ds h) (clean : AreClean instance) (some : 1 ≤ task.most) (more : task.most ≤ most) where
  pub clear_of : IsClear task.problem (whole_plan task ds) most instance h
  clear_of g part rest q e = shorter IsFrac64 task.problem (timed task ds).lines task.most most instance h some more clean p.prefix p.clear g part rest q e

  pub passed_of : AllPass IsFrac64 (goal_tests task.problem (view_of task.problem h).state) → NoneFails task.problem (whole_plan task ds) most instance h
  passed_of g = at_end IsFrac64 task.problem (timed task ds).lines task.most most instance h some more clean p.prefix p.clear p.passes g

pub all_pass : (task : Task) (ds : List ℕ) (h : List Part) (most : ℕ) (instance : ℕ → List Test) → Plays IsFrac64 task ds h → AllPass IsFrac64 (goal_tests task.problem (view_of task.problem h).state) → AreClean instance → 1 ≤ task.most → task.most ≤ most → IsClear task.problem (whole_plan task ds) most instance h × NoneFails task.problem (whole_plan task ds) most instance h
all_pass task ds h most instance p g clean some more = (clear_of task ds h most instance p clean some more, passed_of task ds h most instance p clean some more g)

-- the trajectory of the plan is what the search played
happens_as_played : (task : Task) (k : ℕ) (ds : List ℕ) (g : GridPlan IsFrac64 task k ds) → Trajectory task.problem (whole_plan task ds) g.goal.ends.history
happens_as_played task k ds g =
    let P = task.problem in
    let L = whole_plan task ds in
    let a = g.goal.ends.plays in
    let h = g.goal.ends.history in
    let p : Prefix P L h = prefix_goes_on P (timed task ds) L h a.prefix record { more = []; lines = sym (append-nil _) } a.prefix.ordered (inr refl) in
    let w = grid_plan_is_plan IsFrac64 task k ds g in
    subst (Trajectory P L)
    (one_longest P L w.0 h (worked_is_longest P L w.0 w.1.prefix w.1.worked)
    (worked_is_longest P L h p record { acted = a.worked.acted; still = a.worked.still; moment = a.worked.moment; over = a.worked.over })) w.1

pub passes : (task : Task) (k : ℕ) (ds : List ℕ) (most : ℕ) (instance : ℕ → List Test) → GridPlan IsFrac64 task k ds → AreClean instance → 1 ≤ task.most → task.most ≤ most → (h : List Part) × PassesCheck task.problem (whole_plan task ds) most instance h
passes task k ds most instance g clean some more =
    let e = g.goal.ends in
    let few : entries_of e.history ≤ task.most = few_of task ds e.history e.plays some in
    let goal = subst (λ s. AllPass IsFrac64 (goal_tests task.problem s)) e.state g.goal.goal in (
      e.history,
      record {
        happens = happens_as_played task k ds g;
        few = omega arith;
        clear = clear_of task ds e.history most instance e.plays clean some more;
        passed = passed_of task ds e.history most instance e.plays clean some more goal;
      },
    )

-- ---- its text

-- times of the lines of a plan are those of the lines of its text
line_value : (d : Pair) (l : Line) (ls : List Line) → AllTimes IsFrac64 (lines_meant d (l ∷ ls)) → HasValue l × AllTimes IsFrac64 (lines_meant d ls)
line_value d Blank ls a = (record { fits = λ t h. absurd h }, a)
line_value d (Act n t c) ls a = (record { fits = λ u h. subst (λ x. IsFrac64 (value_of x)) h a.0 }, a.1)
line_value d (End n t) ls a = (record { fits = λ u h. subst (λ x. IsFrac64 (value_of x)) h a.0 }, a.1)
line_value d (Step n c) ls a = (record { fits = λ t h. absurd h }, a)

all_values : (d : Pair) (ls : List Line) → AllTimes IsFrac64 (lines_meant d ls) → All HasValue ls
all_values d [] a = All-nil HasValue
all_values d (l ∷ ls) a = let x = line_value d l ls a in All-cons HasValue l ls x.0 (all_values d ls x.1)

pub accepted : (d : Domain) (p : Problem) (q : Fraction) (k : ℕ) (ds : List ℕ) (most : ℕ) (text : List ℕ) (lines : List Line) → IsGroundable IsFrac64 d p → GridPlan IsFrac64 (task_of d p q) k ds → IsTextOf d p q ds text lines → InstancesPass d p lines → most_entries ≤ most → (bytes : List ℕ) × IsAccepted d p most text bytes
accepted d p q k ds most text lines inside g t clean more =
    let task = task_of d p q in
    let P = expanded d p in
    let L = plan_of (pair d p) lines true in
    let instance = instances_of (pair d p) lines in
    let w = passes task k ds most instance g clean (omega arith) more in
    let h = w.0 in
    let happens : Trajectory P L h = subst (λ (ls : List model.Line). Trajectory P (whole ls) h) (sym t.meant) w.1.happens in (
      report_of (labels_meant d p) P L h ++ codes "valid\n",
      record {
        groundable = inside;
        within = t.within;
        lines = lines;
        read = t.read;
        history = h;
        happens = happens;
        only = λ other o. one_trajectory P L other h o happens;
        fires = fires_exactly P L h happens;
        few = w.1.few;
        times = all_values (pair d p) lines (subst (AllTimes IsFrac64) (sym t.meant) g.goal.ends.plays.times);
        clear = subst (λ (ls : List model.Line). IsClear P (whole ls) most instance h) (sym t.meant) w.1.clear;
        passed = subst (λ (ls : List model.Line). NoneFails P (whole ls) most instance h) (sym t.meant) w.1.passed;
        written = refl;
      },
    )

-- whatever a check of it answers, it is that
pub answered : (d : Domain) (p : Problem) (q : Fraction) (k : ℕ) (ds : List ℕ) (most : ℕ) (text : List ℕ) (lines : List Line) → IsGroundable IsFrac64 d p → GridPlan IsFrac64 (task_of d p q) k ds → IsTextOf d p q ds text lines → InstancesPass d p lines → most_entries ≤ most → (outcome : Outcome) (written : List ℕ) → IsAnswered d p most text outcome written → outcome ≡ Valid
answered d p q k ds most text lines inside g t clean more outcome written a =
    let w = accepted d p q k ds most text lines inside g t clean more in
    elim a [
      | for_pair e u ↦ absurd (pair_or_plan d p written u (judged.accepted most text w.0 w.1))
      | for_plan x ↦ (one_answer d p most text outcome Valid written w.0 x w.1).0
    ]
