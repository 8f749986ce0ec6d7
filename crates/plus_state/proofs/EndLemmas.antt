-- What the end of a joint effect comes to.
use Rattle.std.proofs.Common.{◌≡◌, ℕ, List, subst}
use Rattle.plus_fraction.specs.Fraction.{Fraction}
use Rattle.plus_model.specs.Terms.{State}
use Rattle.plus_model.specs.Joint.{Conflict, new_atoms}
use Rattle.plus_state.specs.Node.{Node}
use Rattle.plus_state.specs.Asked.{AllFit, FirstUnfit}
use Rattle.plus_state.specs.Due.{Update, Due, by_fluent, atom_changes}
use Rattle.plus_state.specs.Steps.{asks, fault, Passes, AllPass, FirstStop, clash_steps, fluents_nodes, end_steps}
use Rattle.plus_state.proofs.Testing.{pass_append, fail_left, fail_right, carry_pass, carry_fail}
use Rattle.plus_state.proofs.StepsLemmas.{nodes_carry}

module _ (fits : Fraction → Type 0) (ds : List Due) (s now : State) (all : List (List Update)) where
  pub end_clash : (f : ℕ) → all ≡ by_fluent 0 ds s.fluents → FirstStop fits (clash_steps 0 all) (fault (Conflict f)) → FirstStop fits (end_steps ds s) (fault (Conflict f))
  unfolding end_steps
  end_clash f e h = fail_left (Passes fits) _ _ _ (subst (λ us. FirstStop fits (clash_steps 0 us) (fault (Conflict f))) e h)

  -- the state whose atoms are done
  abbrev half : State
  half = record s { atoms = new_atoms 0 (atom_changes ds) s.atoms }

  pub end_unfit : (m : Node) → all ≡ by_fluent 0 ds s.fluents → now ≡ half → AllPass fits (clash_steps 0 all) → FirstUnfit fits (fluents_nodes all now.fluents) m → FirstStop fits (end_steps ds s) (asks m)
  unfolding end_steps
  end_unfit m e k a h =
      fail_right (Passes fits) _ _ _ (subst (λ us. AllPass fits (clash_steps 0 us)) e a) (carry_fail (nodes_carry fits) _ m (subst (λ us. FirstUnfit fits (fluents_nodes us s.fluents) m) e (subst (λ (t : State). FirstUnfit fits (fluents_nodes all t.fluents) m) k h)))

  pub end_pass : all ≡ by_fluent 0 ds s.fluents → now ≡ half → AllPass fits (clash_steps 0 all) → AllFit fits (fluents_nodes all now.fluents) → AllPass fits (end_steps ds s)
  unfolding end_steps
  end_pass e k a h =
      pass_append (Passes fits) _ _ (subst (λ us. AllPass fits (clash_steps 0 us)) e a) (carry_pass (nodes_carry fits) _ (subst (λ us. AllFit fits (fluents_nodes us s.fluents)) e (subst (λ (t : State). AllFit fits (fluents_nodes all t.fluents)) k h)))
