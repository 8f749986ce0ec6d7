-- What the tests of a plan mean: where all pass, its calls are a plan; where one of them is a breach, they are none.
use Rattle.std.proofs.Common.{◌≡◌, ℕ, ◌<◌, ◌≤◌, take, Bool, true, false, List, [], ◌∷◌, ◌++◌, map, length, refl, subst, sym, ap, ◌∙◌, arith, inl, inr, if◌then◌else◌}
use Rattle.std.proofs.lemmas.Grind.{common_steps}
use Rattle.std.specs.Prelude.{Result, Ok, Err, nat_lt}
use Rattle.plus_model.specs.Terms.{Action, Condition, State}
use Rattle.plus_model.specs.Value.{holds}
use Rattle.plus_model.specs.Joint.{joint}
use Rattle.plus_model.specs.Plan.{Called, Instance, UnknownAction, WrongArguments}
use Rattle.plus_number.specs.Frac.{IsFrac64}
use Rattle.plus_state.specs.Tests.{tests_of}
use Rattle.plus_state.specs.Steps as steps
use Rattle.plus_state.specs.Steps.{guarded, joint_steps}
use Rattle.plus_state.specs.Due.{dues, after_dues}
use Rattle.plus_state.specs.Tested as tested
use Rattle.plus_state.specs.Tested.{Carries}
use Rattle.plus_state.proofs.Testing.{pass_left, pass_right, fail_split, fails_here, none_fails, carry_back, carry_from}
use Rattle.plus_state.proofs.JointLemmas.{joint_passes}
use Rattle.plus_tree.specs.declared.trees.Domain.{Domain}
use Rattle.plus_tree.specs.declared.trees.Problem as tree
use Rattle.plus_tree.specs.declared.trees.Call.{Call}
use Rattle.plus_plan.specs.declared.forms.Line.{Line}
use Rattle.plus_plan.specs.declared.forms.Line.TheVariants.{Blank, Act, End, Step}
use Rattle.plus_plan.specs.declared.faults.PlanFault.{PlanFault}
use Rattle.plus_expansion.specs.Expansion.{expanded}
use Rattle.plus_steps.specs.Stepped.{Does}
use Rattle.plus_steps.specs.Numeric.{CallDoes, NumericPlan}
use Rattle.plus_stepped.specs.Tests as stepped
use Rattle.plus_stepped.specs.Tests.{StepTest, precondition, goal, of_step}
use Rattle.plus_stepped.specs.Asked.{unless, action_tests, goal_tests}
use Rattle.plus_stepped.proofs.Layers.{steps_carry}
use Rattle.plus_stepped.proofs.Actions.{node_no_breach, no_action}
use Rattle.plus_types.specs.declared.faults.File.TheVariants as files
use Rattle.plus_expansion.specs.declared.counts.Count.TheVariants.{Nodes}
use Rattle.plus_expansion.specs.Nodes.{action_nodes}
use Rattle.plus_expansion.specs.Literals.{call_literals}
use Rattle.plus_expansion.specs.Counting.{most_nodes}
use Rattle.plus_io.specs.Limits.{text_limit}
use Rattle.plus_numeric.specs.Calls.{calls_of, call_meant, PlanOf}
use Rattle.plus_numeric.specs.Tests.{Test, no_line, too_long, beyond, count, literal, unknown_action, wrong_arguments, in_line, at_end, Passes, AllPass, FirstFailing, IsBreach}
use Rattle.plus_numeric.specs.Asked.{in_text, pair_tests, call_tests, after_call, lines_tests, end_tests, last_tests, text_tests, numeric_tests}
use Rattle.plus_numeric.specs.Answers.{Reads, HasPlan}
use Rattle.plus_numeric.proofs.Counting.{member_of}
use Rattle.plus_plan.specs.declared.forms.PlanForm.TheVariants.{Untimed}
use Rattle.plus_play.specs.Cut.{text_lines}
use Rattle.plus_play.proofs.Fronts.{lines_within}
use Rattle.plus_numeric.proofs.PairTests.{pair_no_breach}
use Rattle.plus_numeric.proofs.CallTests.{line_carries, after_done}

-- ---- an action, and the goal

head_passes : (t : StepTest) (ts : List StepTest) → stepped.AllPass IsFrac64 (t ∷ ts) → stepped.Passes IsFrac64 t
unfolding tested.AllPass
head_passes t ts h = h.0

condition_fails : stepped.Passes IsFrac64 precondition → ⊥
unfolding stepped.Passes
condition_fails h = h

goal_fails : stepped.Passes IsFrac64 goal → ⊥
unfolding stepped.Passes
goal_fails h = h

-- where all that an action asks passes, it can be done
module _ (a : Action) (s : State) where
  abbrev behind : Bool → List StepTest
  behind b = unless b precondition ++ map of_step (guarded b (joint_steps a.effects s))

  passes_so : (b : Bool) → stepped.AllPass IsFrac64 (behind b) → (b ≡ true) × steps.AllPass IsFrac64 (joint_steps a.effects s)
  passes_so true h = (refl, carry_back (steps_carry IsFrac64) (joint_steps a.effects s) h)
  passes_so false h = absurd (condition_fails (head_passes precondition [] h))

  pub action_done : stepped.AllPass IsFrac64 (action_tests a s) → Does a s (after_dues (dues a.effects s) s)
  unfolding action_tests
  action_done h =
      let p = passes_so (holds a.condition s) (pass_right (stepped.Passes IsFrac64) (map stepped.asks (tests_of a.condition s)) (behind (holds a.condition s)) h) in
      record { may = p.0; effect = joint_passes IsFrac64 a.effects s p.1 }

goal_so : (b : Bool) → stepped.AllPass IsFrac64 (unless b goal) → b ≡ true
goal_so true h = refl
goal_so false h = absurd (goal_fails (head_passes goal [] h))

goal_holds : (c : Condition) (s : State) → stepped.AllPass IsFrac64 (goal_tests c s) → holds c s ≡ true
unfolding goal_tests
goal_holds c s h = goal_so (holds c s) (pass_right (stepped.Passes IsFrac64) (map stepped.asks (tests_of c s)) (unless (holds c s) goal) h)

-- where a breach is the first that fails, the goal does not hold
goal_not : (c : Condition) (s : State) (t : StepTest) → stepped.FirstFailing IsFrac64 (goal_tests c s) t → stepped.IsBreach t → holds c s ≡ true → ⊥
unfolding goal_tests
goal_not c s t f b h = elim (fail_split (stepped.Passes IsFrac64) (map stepped.asks (tests_of c s)) (unless (holds c s) goal) t f) [
  | inl x ↦ node_no_breach IsFrac64 (tests_of c s) t x b
  | inr y ↦ none_fails (stepped.Passes IsFrac64) t (subst (λ (q : Bool). stepped.FirstFailing IsFrac64 (unless q goal) t) h y.1)
]

-- ---- a call

end_carries : Carries at_end (stepped.Passes IsFrac64) Passes
unfolding Passes
end_carries = record { there = λ t h. h; back = λ t h. h }

test_passes : (t : Test) (ts : List Test) → AllPass (t ∷ ts) → Passes t
unfolding tested.AllPass
test_passes t ts h = h.0

unknown_fails : (n : ℕ) (name : List ℕ) → Passes (unknown_action n name) → ⊥
unfolding Passes
unknown_fails n name h = h

wrong_fails : (n : ℕ) (name : List ℕ) → Passes (wrong_arguments n name) → ⊥
unfolding Passes
wrong_fails n name h = h

fault_fails : (fault : PlanFault) → Passes (no_line fault) → ⊥
unfolding Passes
fault_fails fault h = h

long_fails : Passes too_long → ⊥
unfolding Passes
long_fails h = h

-- where all that is asked of a call passes, its action can be done
record CanDo (called : Called) (s : State) : Type 0 where
  action : Action
  is : called ≡ Instance action
  done : Does action s (after_dues (dues action.effects s) s)

module _ (d : Domain) (n : ℕ) (name : List ℕ) (s : State) where
  call_done : (called : Called) → AllPass (call_tests d n name called s) → CanDo called s
  unfolding call_tests
  call_done (UnknownAction unknown) h = absurd (unknown_fails n unknown (test_passes (unknown_action n unknown) [] h))
  call_done (WrongArguments wrong) h = absurd (wrong_fails n wrong (test_passes (wrong_arguments n wrong) [] h))
  call_done (Instance a) h =
      let literals = map (literal files.Domain) (call_literals d name) in
      let own = map (in_line n a.label) (action_tests a s) in
      let behind_size = pass_right Passes (count (record { kind = Nodes; most = most_nodes; number = action_nodes a }) ∷ []) (literals ++ own) h in
      record {
        action = a;
        is = refl;
        done = action_done a s (carry_back (line_carries n a.label) (action_tests a s) (pass_right Passes literals own behind_size));
      }

  -- no breach is among these
  none_of : {X : Type 0} (f : X → Test) (xs : List X) (t : Test) → ((x : X) → IsBreach (f x) → ⊥) → FirstFailing (map f xs) t → IsBreach t → ⊥
  none_of f xs t never h b = let m = member_of f xs t h in never m.0 (subst IsBreach m.1 b)

  -- where a breach is the first that fails, the action is not done
  call_not : (called : Called) (a : Action) (after : State) (t : Test) → FirstFailing (call_tests d n name called s) t → IsBreach t → called ≡ Instance a → Does a s after → ⊥
  unfolding call_tests
  call_not (UnknownAction unknown) a after t h b e j = cc e
  call_not (WrongArguments wrong) a after t h b e j = cc e
  call_not (Instance c) a after t h b e j =
      let same : c ≡ a = cc e in
      let size = count (record { kind = Nodes; most = most_nodes; number = action_nodes c }) ∷ [] in
      let literals = map (literal files.Domain) (call_literals d name) in
      let own = map (in_line n c.label) (action_tests c s) in
      elim (fail_split Passes size (literals ++ own) t h) [
        | inl x ↦ none_of count (record { kind = Nodes; most = most_nodes; number = action_nodes c } ∷ []) t (λ k q. q) x b
        | inr y ↦ elim (fail_split Passes literals own t y.1) [
          | inl x ↦ none_of (literal files.Domain) (call_literals d name) t (λ l q. q) x b
          | inr z ↦ (let k = carry_from (line_carries n c.label) (action_tests c s) t z.1 in
              no_action IsFrac64 c s k.0 k.1.0 (subst IsBreach k.1.1 b) after (subst (λ (x : Action). Does x s after) (sym same) j))
        ]
      ]

-- ---- lines

module _ (d : Domain) (p : tree.Problem) where
  abbrev Plan : State → List Line → Type 0
  Plan s lines = NumericPlan (call_meant d p) (expanded d p).goal s (calls_of lines)

  abbrev asked : State → List Line → List Test
  asked s lines = lines_tests d p (map Ok lines) s (end_tests d p)

  lines_plan : (lines : List Line) (s : State) → AllPass (asked s lines) → Plan s lines
  lines_plan [] s h = goal_holds (expanded d p).goal s (carry_back end_carries (goal_tests (expanded d p).goal s) h)
  lines_plan (Blank ∷ lines) s h = lines_plan lines s h
  lines_plan (Act n t call ∷ lines) s h = lines_plan lines s h
  lines_plan (End n t ∷ lines) s h = lines_plan lines s h
  lines_plan (Step n call ∷ lines) s h =
      let own = call_tests d n call.name (call_meant d p call) s in
      let more = after_call (call_meant d p call) s (λ after. asked after lines) in
      let can = call_done d n call.name s (call_meant d p call) (pass_left Passes own more h) in
      let after = after_dues (dues can.action.effects s) s in (
        after,
        record { action = can.action; called = can.is; does = can.done },
        lines_plan lines after
            (subst AllPass (after_done (call_meant d p call) can.action s after (λ x. asked x lines) can.is can.done.effect) (pass_right Passes own more h)),
      )

  lines_not : (lines : List Line) (s : State) (t : Test) → FirstFailing (asked s lines) t → IsBreach t → Plan s lines → ⊥
  lines_not [] s t h b plan =
      let k = carry_from end_carries (goal_tests (expanded d p).goal s) t h in
      goal_not (expanded d p).goal s k.0 k.1.0 (subst IsBreach k.1.1 b) plan
  lines_not (Blank ∷ lines) s t h b plan = lines_not lines s t h b plan
  lines_not (Act n time call ∷ lines) s t h b plan = lines_not lines s t h b plan
  lines_not (End n time ∷ lines) s t h b plan = lines_not lines s t h b plan
  lines_not (Step n call ∷ lines) s t h b (after, does, plan) =
      let own = call_tests d n call.name (call_meant d p call) s in
      let more = after_call (call_meant d p call) s (λ x. asked x lines) in
      elim (fail_split Passes own more t h) [
        | inl x ↦ call_not d n call.name s (call_meant d p call) does.action after t x b does.called does.does
        | inr y ↦ lines_not lines after t
            (subst (λ ts. FirstFailing ts t) (after_done (call_meant d p call) does.action s after (λ x. asked x lines) does.called does.does.effect) y.1) b plan
      ]

-- ---- what a text says

-- it says lines, and in the state after them passes what is asked there
record AreLines (said : List (Result Line PlanFault)) (more : State → List Test) : Type 0 where
  lines : List Line
  are : said ≡ map Ok lines
  after : State
  pass : AllPass (more after)

line_more : (line : Line) (said : List (Result Line PlanFault)) (more : State → List Test) → AreLines said more → AreLines (Ok line ∷ said) more
line_more line said more h = record { lines = line ∷ h.lines; are = ap (λ (rs : List (Result Line PlanFault)). Ok line ∷ rs) h.are; after = h.after; pass = h.pass }

-- where all that is asked passes, each line is one
module _ (d : Domain) (p : tree.Problem) (more : State → List Test) where
  all_lines : (said : List (Result Line PlanFault)) (s : State) → AllPass (lines_tests d p said s more) → AreLines said more
  all_lines [] s h = record { lines = []; are = refl; after = s; pass = h }
  all_lines (Err fault ∷ rest) s h = absurd (fault_fails fault (test_passes (no_line fault) [] h))
  all_lines (Ok Blank ∷ rest) s h = line_more Blank rest more (all_lines rest s h)
  all_lines (Ok (Act n t call) ∷ rest) s h = line_more (Act n t call) rest more (all_lines rest s h)
  all_lines (Ok (End n t) ∷ rest) s h = line_more (End n t) rest more (all_lines rest s h)
  all_lines (Ok (Step n call) ∷ rest) s h =
      let own = call_tests d n call.name (call_meant d p call) s in
      let behind = after_call (call_meant d p call) s (λ x. lines_tests d p rest x more) in
      let can = call_done d n call.name s (call_meant d p call) (pass_left Passes own behind h) in
      let after = after_dues (dues can.action.effects s) s in
      line_more (Step n call) rest more
      (all_lines rest after
      (subst AllPass (after_done (call_meant d p call) can.action s after (λ x. lines_tests d p rest x more) can.is can.done.effect) (pass_right Passes own behind h)))

-- ---- a text

long_not : (bytes : List ℕ) → length bytes ≤ text_limit → nat_lt text_limit (length bytes) ≡ false
long_not bytes h = grind (arith, common_steps)

module _ (d : Domain) (p : tree.Problem) (bytes : List ℕ) where
  last_is : length bytes ≤ text_limit → (s : State) → last_tests d p bytes s ≡ end_tests d p s
  unfolding last_tests
  last_is w s = ap (λ (b : Bool). if b then too_long ∷ [] else end_tests d p s) (long_not bytes w)

  -- what is asked behind lines does not depend on how it is written
  same_behind : (lines : List Line) (s : State) (more more' : State → List Test) → ((x : State) → more x ≡ more' x) → lines_tests d p (map Ok lines) s more ≡ lines_tests d p (map Ok lines) s more'
  same_behind lines s more more' e = ap (lines_tests d p (map Ok lines) s) (λ i. λ x. e x i)

  whole_text : (lines : List Line) → Reads bytes lines → text_tests d p bytes ≡ asked d p (expanded d p).initial lines
  unfolding text_tests
  whole_text lines r =
      ap (λ (rs : List (Result Line PlanFault)). lines_tests d p rs (expanded d p).initial (last_tests d p bytes)) (lines_within Untimed bytes (long_not bytes r.within) ∙ r.read)
      ∙ same_behind lines (expanded d p).initial (last_tests d p bytes) (end_tests d p) (last_is r.within)

  pub text_plan : (lines : List Line) → Reads bytes lines → AllPass (text_tests d p bytes) → PlanOf d p (calls_of lines)
  text_plan lines r h = lines_plan d p lines (expanded d p).initial (subst AllPass (whole_text lines r) h)

  pub text_not : (t : Test) → FirstFailing (numeric_tests d p bytes) t → IsBreach t → HasPlan d p bytes → ⊥
  unfolding numeric_tests
  text_not t h b plan = elim (fail_split Passes (pair_tests d p) (text_tests d p bytes) t h) [
    | inl x ↦ pair_no_breach d p t x b
    | inr y ↦ lines_not d p plan.lines (expanded d p).initial t (subst (λ ts. FirstFailing ts t) (whole_text plan.lines plan.reads) y.1) b plan.plan
  ]

  -- at the end of a text that is too long something fails
  is_within : (b : Bool) (s : State) → nat_lt text_limit (length bytes) ≡ b → AllPass (last_tests d p bytes s) → b ≡ false
  unfolding last_tests
  is_within true s e h =
      absurd (long_fails (test_passes too_long [] (subst AllPass (ap (λ (b : Bool). if b then too_long ∷ [] else end_tests d p s) e) h)))
  is_within false s e h = refl

  within_limit : nat_lt text_limit (length bytes) ≡ false → length bytes ≤ text_limit
  within_limit e = grind (arith, common_steps)

  -- where all tests pass, the text has lines, and they are a plan
  pub text_passes : AllPass (numeric_tests d p bytes) → HasPlan d p bytes
  unfolding numeric_tests text_tests
  text_passes h =
      let own : AllPass (text_tests d p bytes) = pass_right Passes (pair_tests d p) (text_tests d p bytes) h in
      let all = all_lines d p (last_tests d p bytes) (text_lines Untimed bytes) (expanded d p).initial own in
      let short = is_within (nat_lt text_limit (length bytes)) all.after refl all.pass in
      let reads : Reads bytes all.lines = record { within = within_limit short; read = sym (lines_within Untimed bytes short) ∙ all.are } in
      record { lines = all.lines; reads = reads; plan = text_plan all.lines reads own }
