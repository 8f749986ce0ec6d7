-- Which limit the ground actions of a pair pass, by what is held of their numbers.
use Rattle.std.proofs.Common.{◌≡◌, ℕ, ◌+◌, ◌<◌, ◌≤◌, Bool, true, false, cond, nat_lt, [], ◌∷◌, List, length, Option, Some, None, Result, Ok, Err, MatchResult, arith, refl, ap, ap₂, sym, subst, ◌∙◌}
use Rattle.std.specs.List.{sum_by}
use Rattle.std.proofs.lemmas.Bool.Decides.{nat_tests}
use Rattle.std.proofs.lemmas.Bool.{lt-ltb, le-ltb}
use Rattle.plus_tree.specs.declared.trees.Schema.{Schema}
use Rattle.plus_tree.specs.declared.trees.Domain.{Domain}
use Rattle.plus_tree.specs.declared.trees.Problem as tree
use Rattle.plus_types.specs.Faults.{Context, problem_context}
use Rattle.plus_expansion.specs.declared.counts.Count.TheVariants.{Actions, Nodes}
use Rattle.plus_numbering.specs.declared.faults.GroundFault.{GroundFault}
use Rattle.plus_numbering.specs.declared.faults.GroundFault.TheVariants.{TooMany, Literal, Memory}
use Rattle.plus_expansion.specs.Counts.{Counted, first_over}
use Rattle.plus_numbering.specs.Refusals.{RefusesCount}
use Rattle.plus_expansion.specs.Environments.{Environment}
use Rattle.plus_expansion.specs.Expansion.{action_meant}
use Rattle.plus_expansion.specs.Nodes.{action_nodes}
use Rattle.plus_numbering.specs.Sizes.{held, instances, schema_size, schemas_size}
use Rattle.plus_numbering.proofs.Nodes.{condition-nodes, effect-nodes, instances-length, instances-nodes}
use Rattle.plus_fraction.specs.Fraction.{Fraction}
use Rattle.plus_actions.specs.Actions.{all_instances, action_counts, RefusesActions}

pub action-nodes : (c : Context) (a : Schema) (env : Environment) → action_nodes (action_meant c a env) ≡ schema_size c false a
action-nodes c a env = ap₂ (λ (m n : ℕ). m + n) (condition-nodes c env true a.condition) (effect-nodes c env a.effect)

-- ---- the first limit that is passed

is-over : (x : Counted) (xs : List Counted) → x.most < x.number → first_over (x ∷ xs) ≡ Some x
is-over x xs h = ap (λ (b : Bool). cond b (Some x) (first_over xs)) (lt-ltb x.most x.number h)

passes : (x : Counted) (xs : List Counted) → x.number ≤ x.most → first_over (x ∷ xs) ≡ first_over xs
passes x xs h = ap (λ (b : Bool). cond b (Some x) (first_over xs)) (le-ltb x.most x.number h)

small : (most n : ℕ) → most ≤ 1000000 → held n ≤ most → n ≤ most
unfolding held
small most n m h = omega arith

large : (most n : ℕ) → most < held n → most < n
unfolding held
large most n h = omega arith

abbrev actions_in : Domain → tree.Problem → Counted
actions_in d p = record { kind = Actions; most = 10000; number = length (all_instances d p) }

abbrev nodes_in : Domain → tree.Problem → Counted
nodes_in d p = record { kind = Nodes; most = 1000000; number = sum_by action_nodes (all_instances d p) }

pub how_many : (d : Domain) (p : tree.Problem) → length (all_instances d p) ≡ instances (problem_context d p) d.actions
how_many d p = instances-length (problem_context d p) (action_meant (problem_context d p)) d.actions

how_large : (d : Domain) (p : tree.Problem) → sum_by action_nodes (all_instances d p) ≡ schemas_size (problem_context d p) (schema_size (problem_context d p) false) d.actions
how_large d p =
    instances-nodes (problem_context d p) action_nodes (action_meant (problem_context d p)) (schema_size (problem_context d p) false) (action-nodes (problem_context d p)) d.actions

few_actions : (d : Domain) (p : tree.Problem) → held (instances (problem_context d p) d.actions) ≤ 10000 → first_over (action_counts d p) ≡ first_over (nodes_in d p ∷ [])
few_actions d p h =
    let s = small 10000 (instances (problem_context d p) d.actions) (omega arith) h in
    passes (actions_in d p) (nodes_in d p ∷ []) (omega (arith, how_many d p, s))

pub none_over : (d : Domain) (p : tree.Problem) → held (instances (problem_context d p) d.actions) ≤ 10000
    → held (schemas_size (problem_context d p) (schema_size (problem_context d p) false) d.actions) ≤ 1000000 → first_over (action_counts d p) ≡ None
none_over d p h k =
    let s = small 1000000 (schemas_size (problem_context d p) (schema_size (problem_context d p) false) d.actions) (omega arith) k in
    few_actions d p h ∙ passes (nodes_in d p) [] (omega (arith, how_large d p, s))

pub actions_over : (d : Domain) (p : tree.Problem) → 10000 < held (instances (problem_context d p) d.actions) → RefusesCount (action_counts d p) (TooMany Actions 10000)
actions_over d p h =
    let s = large 10000 (instances (problem_context d p) d.actions) h in
    ((actions_in d p).number, is-over (actions_in d p) (nodes_in d p ∷ []) (omega (arith, how_many d p, s)))

pub nodes_over : (d : Domain) (p : tree.Problem) → held (instances (problem_context d p) d.actions) ≤ 10000
    → 1000000 < held (schemas_size (problem_context d p) (schema_size (problem_context d p) false) d.actions) → RefusesCount (action_counts d p) (TooMany Nodes 1000000)
nodes_over d p h k =
    let s = large 1000000 (schemas_size (problem_context d p) (schema_size (problem_context d p) false) d.actions) k in
    ((nodes_in d p).number, few_actions d p h ∙ is-over (nodes_in d p) [] (omega (arith, how_large d p, s)))

-- the actions pass their limit
pub too_many :
    (d : Domain) (p : tree.Problem) (xs : List Schema) (n : ℕ) (fault : GroundFault) → xs ≡ d.actions → n ≡ held (instances (problem_context d p) xs)
    → (fault ≡ TooMany Actions 10000) × (10000 < n) → RefusesCount (action_counts d p) fault
too_many d p xs n fault s e h =
    let over = subst (λ (m : ℕ). 10000 < m) (e ∙ ap (λ (ys : List Schema). held (instances (problem_context d p) ys)) s) h.1 in
    subst (RefusesCount (action_counts d p)) (sym h.0) (actions_over d p over)

-- they do not, and this is what their nodes come to
pub both_counted :
    {A : Type 0} (d : Domain) (p : tree.Problem) (xs : List Schema) (n m : ℕ) (r : Result A GroundFault) → xs ≡ d.actions → n ≡ held (instances (problem_context d p) xs) → n ≤ 10000
    → m ≡ held (schemas_size (problem_context d p) (schema_size (problem_context d p) false) xs) → MatchResult r (λ _. m ≤ 1000000) (λ e. (e ≡ TooMany Nodes 1000000) × (1000000 < m))
    → MatchResult r (λ _. first_over (action_counts d p) ≡ None) (RefusesCount (action_counts d p))
both_counted d p xs n m (Ok u) s e h f g =
    none_over d p (subst (λ (k : ℕ). k ≤ 10000) (e ∙ ap (λ (ys : List Schema). held (instances (problem_context d p) ys)) s) h)
    (subst (λ (k : ℕ). k ≤ 1000000) (f ∙ ap (λ (ys : List Schema). held (schemas_size (problem_context d p) (schema_size (problem_context d p) false) ys)) s) g)
both_counted d p xs n m (Err fault) s e h f g =
    let few = subst (λ (k : ℕ). k ≤ 10000) (e ∙ ap (λ (ys : List Schema). held (instances (problem_context d p) ys)) s) h in
    let over = subst (λ (k : ℕ). 1000000 < k) (f ∙ ap (λ (ys : List Schema). held (schemas_size (problem_context d p) (schema_size (problem_context d p) false) ys)) s) g.1 in
    subst (RefusesCount (action_counts d p)) (sym g.0) (nodes_over d p few over)

-- a count that passes its limit is why there are no ground actions
pub refused : (fits : Fraction → Type 0) (d : Domain) (p : tree.Problem) (fault : GroundFault) → RefusesCount (action_counts d p) fault → RefusesActions fits d p fault
refused fits d p (TooMany kind most) h = h
refused fits d p (Literal file span) h = absurd h
refused fits d p Memory h = tt

-- ---- no limit is passed

past-first : (b : Bool) (x : Counted) (r : Option Counted) → cond b (Some x) r ≡ None → (b ≡ false) × (r ≡ None)
past-first true x r e = cc e
past-first false x r e = (refl, e)

at_most : (m n : ℕ) → nat_lt m n ≡ false → n ≤ m
at_most m n h = grind (arith, nat_tests)

not_over : (x : Counted) (xs : List Counted) → first_over (x ∷ xs) ≡ None → (x.number ≤ x.most) × (first_over xs ≡ None)
not_over x xs e = (let f = past-first (nat_lt x.most x.number) x (first_over xs) e in (at_most x.most x.number f.0, f.1))

pub few : (d : Domain) (p : tree.Problem) → first_over (action_counts d p) ≡ None → instances (problem_context d p) d.actions ≤ 10000
few d p e = (let h = (not_over (actions_in d p) (nodes_in d p ∷ []) e).0 in subst (λ n. n ≤ 10000) (how_many d p) h)

-- the nodes of the instances of its actions are not too many
pub few_nodes : (d : Domain) (p : tree.Problem) → first_over (action_counts d p) ≡ None → schemas_size (problem_context d p) (schema_size (problem_context d p) false) d.actions ≤ 1000000
few_nodes d p e = subst (λ n. n ≤ 1000000) (how_large d p) (not_over (nodes_in d p) [] (not_over (actions_in d p) (nodes_in d p ∷ []) e).1).0
