-- The pair of a farm is well typed: a walk finds no fault.
use Rattle.std.proofs.Common.{◌≡◌, ◌⊎◌, ℕ, zero, suc, ◌+◌, ◌<◌, ◌≤◌, ◌^◌, Bool, true, false, cond, ◌&&◌, ◌||◌, List, [], ◌∷◌, ◌++◌, map, Option, Some, inl, inr, refl, ap, ap₂, ◌∙◌, subst, arith, bytes_eq, eq-or-lt_of_le}
use Rattle.std.specs.Prelude.{codes}
use Rattle.std.specs.List.{list_any}
use Rattle.std.proofs.lemmas.List.Folds.{list_any-append}
use Rattle.plus_tree.specs.declared.terms.Term.TheVariants.{Object}
use Rattle.plus_tree.specs.declared.terms.TypedName.{TypedName}
use Rattle.plus_tree.specs.declared.trees.Init.{Init}
use Rattle.plus_types.specs.declared.faults.File.TheVariants as files
use Rattle.plus_types.specs.declared.faults.Wrong.TheVariants.{Twice}
use Rattle.plus_types.specs.declared.faults.TypeFault.{TypeFault}
use Rattle.plus_types.specs.Types.{Binding, is_among, is_above_within, is_above, is_under, bindings_of, kind_of}
use Rattle.plus_types.specs.Faults.{Context, fault_where, listed_faults, member_faults, list_faults, head_faults, params_of, kind_of_faults, declared_faults, use_faults, leaf_faults, cond_faults, schema_faults, same_names, initial_faults, init_faults, declaration_faults, rule_faults, state_faults, problem_faults, is_empty, is_well_typed}
use Rattle.plus_types.proofs.TypesLemmas.{bytes-self}
use Rattle.plus_trial.specs.Farm.{rate_of, capacity_of}
use Rattle.plus_canonical.specs.Same.{no_span}
use Rattle.laws_translation.proofs.TypedLemmas.Listed.{both_none, no_rule}
use Rattle.laws_farm.proofs.Trees.{each_tank, domain_tree, tank_name, tank_named, object_of, at_tank, value_of, inits_of, farm_goal, problem_tree, counted}
use Rattle.laws_farm.proofs.Names.{Fit, tank_apart}

-- ---- names that are new

or_none : (a b : Bool) → a ≡ false → b ≡ false → (a || (b || false)) ≡ false
or_none a b e f = ap₂ (λ x y. x || (y || false)) e f

any_more : {X : Type 0} (test : X → Bool) (xs : List X) (y : X) → list_any test xs ≡ false → test y ≡ false → list_any test (xs ++ y ∷ []) ≡ false
any_more test xs y e f = list_any-append test xs (y ∷ []) ∙ or_none (list_any test xs) (test y) e f

-- none of these is the name of a tank from a on
IsBefore : List (List ℕ) → ℕ → Type 0
IsBefore earlier a = (i : ℕ) → Fit i → a ≤ i → is_among earlier (tank_name i) ≡ false

before_none : (a : ℕ) → IsBefore [] a
unfolding IsBefore
before_none a i fit le = refl

before_more : (earlier : List (List ℕ)) (a : ℕ) → Fit a → IsBefore earlier a → IsBefore (earlier ++ tank_name a ∷ []) (suc a)
unfolding IsBefore
before_more earlier a fit before i more le =
    any_more (bytes_eq (tank_name i)) earlier (tank_name a) (before i more (omega arith)) (tank_apart a i fit more (omega arith))

-- ---- the objects

abbrev farm_types : List Binding
farm_types = bindings_of domain_tree.types

member_none : (earlier : List (List ℕ)) (a : ℕ) → is_among earlier (tank_name a) ≡ false → member_faults farm_types files.Problem [] earlier (object_of a) ≡ []
unfolding member_faults
member_none earlier a e = ap (λ (b : Bool). fault_where b Twice files.Problem no_span ++ []) e

objects_none : (earlier : List (List ℕ)) (a k : ℕ) → 0 < a → a + k < 2 ^ 64 → IsBefore earlier a → list_faults farm_types files.Problem [] earlier (map object_of (counted a k)) ≡ []
unfolding IsBefore
objects_none earlier a zero some few before = refl
objects_none earlier a (suc k) some few before =
    let fit : Fit a = record { some = some; few = omega arith } in
    let rest : List TypedName = map object_of (counted (suc a) k) in
    both_none (member_faults farm_types files.Problem [] earlier (object_of a)) (list_faults farm_types files.Problem [] (earlier ++ tank_name a ∷ []) rest)
    (member_none earlier a (before a fit (omega arith)))
    (objects_none (earlier ++ tank_name a ∷ []) (suc a) k (omega arith) (omega arith) (before_more earlier a fit before))

-- ---- the type of a tank is known

kind_here : (a i : ℕ) (o : Option (List ℕ)) → (a ≡ i) ⊎ (a < i) → (a < i → o ≡ Some (codes "tank")) → cond (bytes_eq (tank_name i) (tank_name a)) (Some (codes "tank")) o ≡ Some (codes "tank")
kind_here a i o (inl e) later =
    ap (λ (b : Bool). cond b (Some (codes "tank")) o) (subst (λ (j : ℕ). bytes_eq (tank_name j) (tank_name a) ≡ true) e (bytes-self (tank_name a)))
kind_here a i o (inr l) later = either (bytes_eq (tank_name i) (tank_name a)) (later l) where
  either : (b : Bool) → o ≡ Some (codes "tank") → cond b (Some (codes "tank")) o ≡ Some (codes "tank")
  either true e = refl
  either false e = e

kind_there : (a k i : ℕ) → a ≤ i → i < a + k → kind_of (bindings_of (map object_of (counted a k))) (tank_name i) ≡ Some (codes "tank")
kind_there a zero i le lt = absurd (omega arith)
kind_there a (suc k) i le lt =
    kind_here a i (kind_of (bindings_of (map object_of (counted (suc a) k))) (tank_name i)) (eq-or-lt_of_le le) (λ l. kind_there (suc a) k i (omega arith) (omega arith))

-- ---- the initial state

abbrev farm_context : List TypedName → Context
farm_context os = record { types = farm_types; objects = bindings_of os; predicates = domain_tree.predicates; functions = domain_tree.functions; file = files.Problem }

-- a fluent of a tank that is declared, used at an object that is one
use_none : (os : List TypedName) (w : List ℕ) (i : ℕ) → params_of domain_tree.functions w ≡ Some each_tank → kind_of (bindings_of os) (tank_name i) ≡ Some (codes "tank")
    → use_faults (farm_context os) [] domain_tree.functions (at_tank w i) ≡ []
unfolding is_under
use_none os w i e k =
    ap (declared_faults (farm_context os) [] (at_tank w i)) e
    ∙ ap (λ (o : Option (List ℕ)). kind_of_faults (farm_context os) (codes "tank") (Object (tank_named i)) o ++ []) k

-- no fluent of a tank from a on has one of these values
AreBefore : List (List (List ℕ)) → ℕ → Type 0
AreBefore valued a = (w : List ℕ) (i : ℕ) → Fit i → a ≤ i → list_any (same_names (w ∷ tank_name i ∷ [])) valued ≡ false

are_none : (a : ℕ) → AreBefore [] a
unfolding AreBefore
are_none a w i fit le = refl

other_tank : (v w : List ℕ) (i a : ℕ) → bytes_eq (tank_name i) (tank_name a) ≡ false → same_names (v ∷ tank_name i ∷ []) (w ∷ tank_name a ∷ []) ≡ false
other_tank v w i a e = ap (λ (b : Bool). bytes_eq v w && (b && true)) e ∙ both_no (bytes_eq v w) where
  both_no : (b : Bool) → (b && false) ≡ false
  both_no true = refl
  both_no false = refl

-- the values of one more tank
with_level : List (List (List ℕ)) → ℕ → List (List (List ℕ))
with_level valued a = valued ++ (codes "level" ∷ tank_name a ∷ []) ∷ []

with_rate : List (List (List ℕ)) → ℕ → List (List (List ℕ))
with_rate valued a = with_level valued a ++ (codes "rate" ∷ tank_name a ∷ []) ∷ []

with_cap : List (List (List ℕ)) → ℕ → List (List (List ℕ))
with_cap valued a = with_rate valued a ++ (codes "cap" ∷ tank_name a ∷ []) ∷ []

are_more : (valued : List (List (List ℕ))) (a : ℕ) → Fit a → AreBefore valued a → AreBefore (with_cap valued a) (suc a)
unfolding AreBefore with_cap with_rate with_level
are_more valued a fit before w i more le =
    let apart : bytes_eq (tank_name i) (tank_name a) ≡ false = tank_apart a i fit more (omega arith) in
    let test : List (List ℕ) → Bool = same_names (w ∷ tank_name i ∷ []) in
    any_more test (with_rate valued a) (codes "cap" ∷ tank_name a ∷ [])
    (any_more test (with_level valued a) (codes "rate" ∷ tank_name a ∷ [])
    (any_more test valued (codes "level" ∷ tank_name a ∷ []) (before w i more (omega arith)) (other_tank w (codes "level") i a apart))
    (other_tank w (codes "rate") i a apart))
    (other_tank w (codes "cap") i a apart)

value_none : (os : List TypedName) (valued : List (List (List ℕ))) (w : List ℕ) (i k : ℕ) → params_of domain_tree.functions w ≡ Some each_tank
    → kind_of (bindings_of os) (tank_name i) ≡ Some (codes "tank") → list_any (same_names (w ∷ tank_name i ∷ [])) valued ≡ false
    → initial_faults (farm_context os) valued (value_of w i k) ≡ []
value_none os valued w i k e kind new =
    both_none (use_faults (farm_context os) [] domain_tree.functions (at_tank w i)) (fault_where (list_any (same_names (w ∷ tank_name i ∷ [])) valued) Twice files.Problem no_span)
    (use_none os w i e kind) (no_rule (list_any (same_names (w ∷ tank_name i ∷ [])) valued) Twice files.Problem no_span new)

inits_none : (os : List TypedName) (valued : List (List (List ℕ))) (a k : ℕ) → 0 < a → a + k < 2 ^ 64 → AreBefore valued a
    → ((i : ℕ) → a ≤ i → i < a + k → kind_of (bindings_of os) (tank_name i) ≡ Some (codes "tank"))
    → init_faults (farm_context os) valued (inits_of (counted a k)) ≡ []
unfolding AreBefore with_cap with_rate with_level
inits_none os valued a zero some few before kinds = refl
inits_none os valued a (suc k) some few before kinds =
    let fit : Fit a = record { some = some; few = omega arith } in
    let c : Context = farm_context os in
    let kind : kind_of (bindings_of os) (tank_name a) ≡ Some (codes "tank") = kinds a (omega arith) (omega arith) in
    let level : Init = value_of (codes "level") a 0 in
    let rate : Init = value_of (codes "rate") a (rate_of a) in
    let cap : Init = value_of (codes "cap") a (capacity_of a) in
    let rest : List Init = inits_of (counted (suc a) k) in
    let level_new : list_any (same_names (codes "level" ∷ tank_name a ∷ [])) valued ≡ false = before (codes "level") a fit (omega arith) in
    let rate_new : list_any (same_names (codes "rate" ∷ tank_name a ∷ [])) (with_level valued a) ≡ false =
    any_more (same_names (codes "rate" ∷ tank_name a ∷ [])) valued (codes "level" ∷ tank_name a ∷ []) (before (codes "rate") a fit (omega arith)) refl in
    let cap_new : list_any (same_names (codes "cap" ∷ tank_name a ∷ [])) (with_rate valued a) ≡ false =
    any_more (same_names (codes "cap" ∷ tank_name a ∷ [])) (with_level valued a) (codes "rate" ∷ tank_name a ∷ [])
    (any_more (same_names (codes "cap" ∷ tank_name a ∷ [])) valued (codes "level" ∷ tank_name a ∷ []) (before (codes "cap") a fit (omega arith)) refl) refl in
    both_none (initial_faults c valued level) (init_faults c (with_level valued a) (rate ∷ cap ∷ rest)) (value_none os valued (codes "level") a 0 refl kind level_new)
    (both_none (initial_faults c (with_level valued a) rate) (init_faults c (with_rate valued a) (cap ∷ rest)) (value_none os (with_level valued a) (codes "rate") a (rate_of a) refl kind rate_new)
    (both_none (initial_faults c (with_rate valued a) cap) (init_faults c (with_cap valued a) rest) (value_none os (with_rate valued a) (codes "cap") a (capacity_of a) refl kind cap_new)
    (inits_none os (with_cap valued a) (suc a) k (omega arith) (omega arith) (are_more valued a fit before) (λ i le lt. kinds i (omega arith) (omega arith)))))

-- ---- the whole walk

goal_none : (os : List TypedName) → cond_faults (farm_context os) [] farm_goal ≡ []
unfolding member_faults is_under
goal_none os = refl

declarations_none : declaration_faults domain_tree ≡ []
unfolding declaration_faults listed_faults member_faults head_faults is_above is_above_within
declarations_none = refl

rules_none : rule_faults domain_tree ≡ []
unfolding rule_faults schema_faults leaf_faults member_faults is_under
rules_none = refl

problem_none : (n : ℕ) → n ≤ 1000 → problem_faults domain_tree (problem_tree n (counted 1 n)) ≡ []
unfolding problem_faults state_faults
problem_none n few =
    let os : List TypedName = map object_of (counted 1 n) in
    let objects : List TypeFault = list_faults farm_types files.Problem [] [] os in
    let inits : List TypeFault = init_faults (farm_context os) [] (inits_of (counted 1 n)) in
    let goal : List TypeFault = cond_faults (farm_context os) [] farm_goal in
    both_none objects (inits ++ goal) (objects_none [] 1 n (omega arith) (omega arith) (before_none 1))
    (both_none inits goal (inits_none os [] 1 n (omega arith) (omega arith) (are_none 1) (λ i le lt. kind_there 1 n i le lt)) (goal_none os))

pub farm_typed : (n : ℕ) → n ≤ 1000 → is_well_typed domain_tree (problem_tree n (counted 1 n)) ≡ true
farm_typed n few =
    ap is_empty
    (both_none (declaration_faults domain_tree) (rule_faults domain_tree ++ problem_faults domain_tree (problem_tree n (counted 1 n))) declarations_none
    (both_none (rule_faults domain_tree) (problem_faults domain_tree (problem_tree n (counted 1 n))) rules_none (problem_none n few)))
