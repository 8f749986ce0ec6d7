-- What is asked of a call: where it is refused, and where its action is done.
use Rattle.std.proofs.Common.{◌≡◌, ℕ, ◌≤◌, List, [], ◌∷◌, ◌++◌, map, refl, subst, sym, ap, ◌∙◌}
use Rattle.std.specs.Prelude.{Ok, All}
use Rattle.plus_model.specs.Terms.{Action, State}
use Rattle.plus_model.specs.Joint.{joint}
use Rattle.plus_model.specs.Plan.{Called, Instance, UnknownAction, WrongArguments}
use Rattle.plus_state.specs.Tested.{Carries}
use Rattle.plus_state.proofs.Testing.{pass_none, pass_append, fail_here, fail_left, fail_right, carry_pass, carry_fail}
use Rattle.plus_number.specs.Frac.{IsFrac64}
use Rattle.plus_tokens.specs.declared.span.Span.{Span}
use Rattle.plus_tree.specs.declared.terms.Literal.{Literal}
use Rattle.plus_tree.specs.declared.trees.Domain.{Domain}
use Rattle.plus_tree.specs.declared.trees.Problem as tree
use Rattle.plus_tree.specs.declared.trees.Call.{Call}
use Rattle.plus_types.specs.declared.faults.File.TheVariants as files
use Rattle.plus_literal.specs.Value.{LiteralFits}
use Rattle.plus_expansion.specs.Unfit.{IsFirstUnfitAt}
use Rattle.plus_expansion.specs.Counts.{Counted}
use Rattle.plus_expansion.specs.declared.counts.Count.TheVariants.{Nodes}
use Rattle.plus_expansion.specs.Nodes.{action_nodes}
use Rattle.plus_expansion.specs.Literals.{call_literals}
use Rattle.plus_expansion.specs.Counting.{most_nodes}
use Rattle.plus_ground.specs.Refusals.{IsTooLarge, HasUnfit, IsInstance}
use Rattle.plus_stepped.specs.Tests as stepped
use Rattle.plus_stepped.specs.Tests.{StepTest}
use Rattle.plus_stepped.specs.Asked.{where_ok, action_tests}
use Rattle.plus_numeric.specs.Calls.{call_meant}
use Rattle.plus_numeric.specs.Tests.{Test, count, literal, unknown_action, wrong_arguments, in_line, Passes, AllPass, FirstFailing}
use Rattle.plus_numeric.specs.Asked.{call_tests, after_call}
use Rattle.plus_numeric.proofs.Counting.{count_fails, one_within, members_pass, member_fails}

literal_there : (l : Literal) → LiteralFits IsFrac64 l → Passes (literal files.Domain l)
unfolding Passes
literal_there l h = h

literal_back : (l : Literal) → Passes (literal files.Domain l) → LiteralFits IsFrac64 l
unfolding Passes
literal_back l h = h

unknown_fails : (n : ℕ) (name : List ℕ) → Passes (unknown_action n name) → ⊥
unfolding Passes
unknown_fails n name h = h

wrong_fails : (n : ℕ) (name : List ℕ) → Passes (wrong_arguments n name) → ⊥
unfolding Passes
wrong_fails n name h = h

pub line_carries : (n : ℕ) (label : List ℕ) → Carries (in_line n label) (stepped.Passes IsFrac64) Passes
unfolding Passes
line_carries n label = record { there = λ t h. h; back = λ t h. h }

abbrev nodes : Action → Counted
nodes a = record { kind = Nodes; most = most_nodes; number = action_nodes a }

-- the literals of an action
literals_pass : (ls : List Literal) → All (LiteralFits IsFrac64) ls → AllPass (map (literal files.Domain) ls)
literals_pass ls a = members_pass (literal files.Domain) (LiteralFits IsFrac64) literal_there literal_back ls a

module _ (d : Domain) (n : ℕ) (name : List ℕ) (s : State) where
  pub call_unknown : (called : Called) → called ≡ UnknownAction name → FirstFailing (call_tests d n name called s) (unknown_action n name)
  unfolding call_tests
  call_unknown called e = subst (λ (c : Called). FirstFailing (call_tests d n name c s) (unknown_action n name)) (sym e) (fail_here Passes (unknown_action n name) [] (unknown_fails n name))

  pub call_wrong : (called : Called) → called ≡ WrongArguments name → FirstFailing (call_tests d n name called s) (wrong_arguments n name)
  unfolding call_tests
  call_wrong called e = subst (λ (c : Called). FirstFailing (call_tests d n name c s) (wrong_arguments n name)) (sym e) (fail_here Passes (wrong_arguments n name) [] (wrong_fails n name))

  pub call_too_large : (called : Called) (l : IsTooLarge called) → FirstFailing (call_tests d n name called s) (count (nodes l.action))
  unfolding call_tests
  call_too_large called l =
      subst (λ (c : Called). FirstFailing (call_tests d n name c s) (count (nodes l.action))) (sym l.is)
      (fail_here Passes (count (nodes l.action)) (map (literal files.Domain) (call_literals d name) ++ map (in_line n l.action.label) (action_tests l.action s)) (count_fails (nodes l.action) l.large))

  -- behind the size of the instance
  behind_size : (a : Action) (t : Test) → action_nodes a ≤ most_nodes → FirstFailing (map (literal files.Domain) (call_literals d name) ++ map (in_line n a.label) (action_tests a s)) t → FirstFailing (call_tests d n name (Instance a) s) t
  unfolding call_tests
  behind_size a t h f = fail_right Passes (count (nodes a) ∷ []) (map (literal files.Domain) (call_literals d name) ++ map (in_line n a.label) (action_tests a s)) t (one_within (nodes a) h) f

  pub call_unfit : (called : Called) (span : Span) (u : HasUnfit IsFrac64 d name called span) → FirstFailing (call_tests d n name called s) (literal files.Domain u.unfit.literal)
  call_unfit called span u =
      subst (λ (c : Called). FirstFailing (call_tests d n name c s) (literal files.Domain u.unfit.literal)) (sym u.is)
      (behind_size u.action (literal files.Domain u.unfit.literal) u.small
      (fail_left Passes (map (literal files.Domain) (call_literals d name)) (map (in_line n u.action.label) (action_tests u.action s)) (literal files.Domain u.unfit.literal)
      (member_fails (literal files.Domain) (LiteralFits IsFrac64) literal_there literal_back (call_literals d name) u.unfit.literal u.unfit.first)))

  -- the action is not done
  pub call_fails : (called : Called) (a : Action) (t : StepTest) → IsInstance IsFrac64 d name called a → stepped.FirstFailing IsFrac64 (action_tests a s) t → FirstFailing (call_tests d n name called s) (in_line n a.label t)
  call_fails called a t i f =
      subst (λ (c : Called). FirstFailing (call_tests d n name c s) (in_line n a.label t)) (sym i.is)
      (behind_size a (in_line n a.label t) i.small
      (fail_right Passes (map (literal files.Domain) (call_literals d name)) (map (in_line n a.label) (action_tests a s)) (in_line n a.label t) (literals_pass (call_literals d name) i.literals)
      (carry_fail (line_carries n a.label) (action_tests a s) t f)))

  -- the action is done
  pub call_passes : (called : Called) (a : Action) → IsInstance IsFrac64 d name called a → stepped.AllPass IsFrac64 (action_tests a s) → AllPass (call_tests d n name called s)
  unfolding call_tests
  call_passes called a i h =
      subst (λ (c : Called). AllPass (call_tests d n name c s)) (sym i.is)
      (pass_append Passes (count (nodes a) ∷ []) (map (literal files.Domain) (call_literals d name) ++ map (in_line n a.label) (action_tests a s)) (one_within (nodes a) i.small)
      (pass_append Passes (map (literal files.Domain) (call_literals d name)) (map (in_line n a.label) (action_tests a s)) (literals_pass (call_literals d name) i.literals)
      (carry_pass (line_carries n a.label) (action_tests a s) h)))

-- what is asked in the state after it
pub after_done : (called : Called) (a : Action) (s after : State) (more : State → List Test) → called ≡ Instance a → joint a.effects s ≡ Ok after → after_call called s more ≡ more after
after_done called a s after more e j =
    ap (λ (c : Called). after_call c s more) e ∙ ap (λ r. where_ok r more) j
