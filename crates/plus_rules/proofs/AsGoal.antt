-- Constraints in the place of a goal.
use Rattle.std.proofs.Common.{◌≡◌, true, List, [], ◌∷◌, ◌++◌, map, IsTrue, refl, ap, ◌∙◌}
use Rattle.std.specs.List.{flat_map}
use Rattle.plus_model.specs.Terms.{Condition}
use Rattle.plus_state.specs.Tests.{joined}
use Rattle.plus_tree.specs.declared.trees.Constraint as written
use Rattle.plus_tree.specs.declared.trees.Domain.{Domain}
use Rattle.plus_tree.specs.declared.trees.Problem.{Problem}
use Rattle.plus_types.specs.declared.faults.TypeFault.{TypeFault}
use Rattle.plus_types.specs.declared.faults.File.TheVariants as files
use Rattle.plus_types.specs.Types.{bindings_of, bound_names}
use Rattle.plus_types.specs.Faults.{Context, problem_context, cond_faults, conds_faults, init_faults, list_faults, domain_name_faults, state_faults, problem_faults, rule_faults, declaration_faults, type_faults, is_well_typed}
use Rattle.plus_types.proofs.SoundLemmas.{left-none, right-none}
use Rattle.plus_expansion.specs.Expansion.{condition_meant, conditions_meant}
use Rattle.plus_expansion.proofs.WellTyped.{no-type-fault}
use Rattle.plus_constraints.specs.Constraint.{Constraint}
use Rattle.plus_rules.specs.Written.{faults_of, conditions_in, together, beside, constraint_meant}
use Rattle.plus_rules.specs.Laws.{AreAsGoal}

faults_listed : (k : Context) (cs : List written.Constraint) → conds_faults k [] (conditions_in cs) ≡ flat_map (λ (c : written.Constraint). cond_faults k [] c.cond) cs
faults_listed k [] = refl
faults_listed k (c ∷ cs) = ap (λ (fs : List TypeFault). cond_faults k [] c.cond ++ fs) (faults_listed k cs)

meant_listed : (k : Context) (cs : List written.Constraint) → conditions_meant k [] true (conditions_in cs) ≡ map (λ (x : Constraint). x.condition) (map (constraint_meant k) cs)
meant_listed k [] = refl
meant_listed k (c ∷ cs) = ap (λ (ms : List Condition). condition_meant k [] true c.cond ∷ ms) (meant_listed k cs)

-- forms without a fault are passed over
passed : (xs ys : List TypeFault) → xs ≡ [] → xs ++ ys ≡ ys
passed xs ys e = ap (λ (zs : List TypeFault). zs ++ ys) e

faults : (d : Domain) (p : Problem) (cs : List written.Constraint) → IsTrue (is_well_typed d p) → type_faults d (beside p cs) ≡ faults_of d p cs
unfolding problem_faults state_faults
faults d p cs typed =
    let k = problem_context d p in
    let objects_in = list_faults (bindings_of d.types) files.Problem [] (bound_names (bindings_of d.constants)) p.objects in
    let e : type_faults d p ≡ [] = no-type-fault d p typed in
    let rest : rule_faults d ++ problem_faults d p ≡ [] = right-none (declaration_faults d) _ e in
    let problem : problem_faults d p ≡ [] = right-none (rule_faults d) _ rest in
    let later : domain_name_faults d p ++ state_faults d p ≡ [] = right-none objects_in _ problem in
    let state : state_faults d p ≡ [] = right-none (domain_name_faults d p) _ later in
    passed (declaration_faults d) _ (left-none (declaration_faults d) _ e)
    ∙ passed (rule_faults d) _ (left-none (rule_faults d) _ rest)
    ∙ passed objects_in _ (left-none objects_in _ problem)
    ∙ passed (domain_name_faults d p) _ (left-none (domain_name_faults d p) _ later)
    ∙ passed (init_faults k [] p.init) (cond_faults k [] (together cs)) (left-none (init_faults k [] p.init) (cond_faults k [] p.goal) state)
    ∙ faults_listed k cs

pub are_as_goal : (d : Domain) (p : Problem) (cs : List written.Constraint) → AreAsGoal d p cs
are_as_goal d p cs = record { faults = faults d p cs; goal = ap (joined true) (meant_listed (problem_context d p) cs) }
