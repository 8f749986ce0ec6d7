-- What constraints stand for.
use Rattle.std.proofs.Common.{◌≡◌, ℕ, ◌<◌, ◌≤◌, ◌^◌, true, List, [], ◌∷◌, map, IsTrue, ap, sym, subst, arith}
use Rattle.std.specs.List.{All, flat_map}
use Rattle.std.proofs.lemmas.List.Elements.{All-nil, All-cons, All-head}
use Rattle.plus_fraction.specs.Fraction.{Fraction}
use Rattle.plus_state.specs.Fits.{Fits, comparisons}
use Rattle.plus_state.specs.Tests.{joined}
use Rattle.plus_state.specs.View.{condition_of}
use Rattle.plus_tree.specs.declared.terms.Literal.{Literal}
use Rattle.plus_tree.specs.declared.trees.Constraint as written
use Rattle.plus_tree.specs.declared.trees.Domain.{Domain}
use Rattle.plus_tree.specs.declared.trees.Problem.{Problem}
use Rattle.plus_types.specs.Faults.{Context, problem_context, cond_faults, is_well_typed}
use Rattle.plus_types.proofs.SoundLemmas.{left-none, right-none}
use Rattle.plus_literal.specs.Value.{LiteralFits}
use Rattle.plus_expansion.specs.Expansion.{expanded, condition_meant, conditions_meant}
use Rattle.plus_expansion.specs.Nodes.{condition_nodes}
use Rattle.plus_expansion.proofs.Uses.{Widens}
use Rattle.plus_expansion.proofs.Conditions.{atoms_of, fluents_of, condition-fits}
use Rattle.plus_expansion.proofs.Fitting.{comparisons-nodes}
use Rattle.plus_expansion.proofs.WellTyped.{pair-typed, no-type-fault}
use Rattle.plus_constraints.specs.Constraint.{Constraint}
use Rattle.plus_watch.specs.declared.watched.Watched.{Watched}
use Rattle.plus_watch.specs.Watched.{constraint_of, constraints_of}
use Rattle.plus_rules.specs.Written.{faults_of, conditions_in, nodes_of, constraint_meant, constraints_meant}

-- the time of a rule fits
pub time_fits : (fits : Fraction → Type 0) (times : List Literal) (t : Literal) → times ≡ t ∷ [] → All (LiteralFits fits) times → LiteralFits fits t
time_fits fits times t e a = All-head (LiteralFits fits) t [] (subst (All (LiteralFits fits)) e a)

-- the condition of each constraint
module _ {Q : Type 0} (v : Q → Fraction) (k : Context) where
  each_fits : Widens k k → (cs : List written.Constraint) (ws : List (Watched Q)) → flat_map (λ (c : written.Constraint). cond_faults k [] c.cond) cs ≡ []
      → map (constraint_of v) ws ≡ map (constraint_meant k) cs → All (λ (w : Watched Q). Fits (atoms_of k) (fluents_of k) (condition_of v w.cond)) ws
  each_fits same [] [] e s = All-nil (λ (w : Watched Q). Fits (atoms_of k) (fluents_of k) (condition_of v w.cond))
  each_fits same [] (w ∷ ws) e s = absurd cc
  each_fits same (c ∷ cs) [] e s = absurd cc
  each_fits same (c ∷ cs) (w ∷ ws) e s =
      let here : constraint_of v w ≡ constraint_meant k c = cc in
      let rest : map (constraint_of v) ws ≡ map (constraint_meant k) cs = cc in
      All-cons (λ (w : Watched Q). Fits (atoms_of k) (fluents_of k) (condition_of v w.cond)) w ws
      (subst (Fits (atoms_of k) (fluents_of k)) (sym (ap (λ (x : Constraint). x.condition) here)) (condition-fits k k same c.cond [] [] true tt (left-none (cond_faults k [] c.cond) _ e)))
      (each_fits same cs ws (right-none (cond_faults k [] c.cond) _ e) rest)

  each_few : (most : ℕ) (cs : List written.Constraint) (ws : List (Watched Q)) → condition_nodes (joined true (conditions_meant k [] true (conditions_in cs))) ≤ most
      → map (constraint_of v) ws ≡ map (constraint_meant k) cs → All (λ (w : Watched Q). comparisons (condition_of v w.cond) ≤ most) ws
  each_few most [] [] le s = All-nil (λ (w : Watched Q). comparisons (condition_of v w.cond) ≤ most)
  each_few most [] (w ∷ ws) le s = absurd cc
  each_few most (c ∷ cs) [] le s = absurd cc
  each_few most (c ∷ cs) (w ∷ ws) le s =
      let here : constraint_of v w ≡ constraint_meant k c = cc in
      let rest : map (constraint_of v) ws ≡ map (constraint_meant k) cs = cc in
      let same : condition_nodes (condition_of v w.cond) ≡ condition_nodes (condition_meant k [] true c.cond) = ap (λ (x : Constraint). condition_nodes x.condition) here in
      All-cons (λ (w : Watched Q). comparisons (condition_of v w.cond) ≤ most) w ws
      (omega (arith, comparisons-nodes (condition_of v w.cond), same, le))
      (each_few most cs ws (omega (arith, le)) rest)

-- what constraints stand for that are sound
module _ {Q : Type 0} (v : Q → Fraction) (d : Domain) (p : Problem) (cs : List written.Constraint) (ws : List (Watched Q)) (meant : constraints_of v ws ≡ constraints_meant d p cs) where
  pub all_fit : IsTrue (is_well_typed d p) → faults_of d p cs ≡ [] → All (λ (w : Watched Q). Fits (expanded d p).atoms (expanded d p).fluents (condition_of v w.cond)) ws
  all_fit typed e = each_fits v (problem_context d p) (pair-typed d p (no-type-fault d p typed)).same cs ws e meant

  pub all_few : nodes_of d p cs ≤ 1000000 → All (λ (w : Watched Q). comparisons (condition_of v w.cond) < 2 ^ 32) ws
  all_few le = λ i x h. (let few = each_few v (problem_context d p) 1000000 cs ws (omega (arith, le)) meant in let n = few i x h in omega (arith, n))
