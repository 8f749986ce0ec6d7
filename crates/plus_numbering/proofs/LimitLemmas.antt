-- Which limit the instances of a pair pass, by what is held of their numbers.
use Rattle.std.proofs.Common.{◌≡◌, ℕ, ◌+◌, ◌<◌, ◌≤◌, Bool, true, false, cond, nat_lt, List, [], ◌∷◌, ◌++◌, length, Option, Some, None, arith, refl, ap, ap₂, sym, ◌∙◌}
use Rattle.std.proofs.lemmas.Bool.{lt-ltb, le-ltb}
use Rattle.plus_tree.specs.declared.trees.Schema.{Schema}
use Rattle.plus_tree.specs.declared.trees.Domain.{Domain}
use Rattle.plus_tree.specs.declared.trees.Problem as tree
use Rattle.plus_types.specs.Faults.{Context, problem_context}
use Rattle.plus_expansion.specs.declared.counts.Count.TheVariants.{Processes, Events, Nodes}
use Rattle.plus_numbering.specs.declared.faults.GroundFault.TheVariants.{TooMany}
use Rattle.plus_expansion.specs.Counts.{Counted, first_over, name_counts}
use Rattle.plus_numbering.specs.Refusals.{RefusesCount}
use Rattle.plus_expansion.specs.Environments.{Environment}
use Rattle.plus_expansion.specs.Expansion.{expanded, action_meant, event_meant, process_meant}
use Rattle.plus_expansion.specs.Nodes.{action_nodes, event_nodes, process_nodes, problem_nodes}
use Rattle.plus_expansion.specs.Counting.{form_counts, counts_of}
use Rattle.plus_numbering.specs.Sizes.{held, instances, schema_size, problem_size}
use Rattle.plus_numbering.proofs.Holding.{over-held}
use Rattle.plus_numbering.proofs.Nodes.{condition-nodes, effect-nodes, rates-nodes, instances-length, instances-nodes}

-- ---- the nodes of instances

action-nodes : (c : Context) (a : Schema) (env : Environment) → action_nodes (action_meant c a env) ≡ schema_size c false a
action-nodes c a env = ap₂ (λ (m n : ℕ). m + n) (condition-nodes c env true a.condition) (effect-nodes c env a.effect)

event-nodes : (c : Context) (a : Schema) (env : Environment) → event_nodes (event_meant c a env) ≡ schema_size c false a
event-nodes c a env = ap₂ (λ (m n : ℕ). m + n) (condition-nodes c env true a.condition) (effect-nodes c env a.effect)

process-nodes : (c : Context) (a : Schema) (env : Environment) → process_nodes (process_meant c a env) ≡ schema_size c true a
process-nodes c a env = ap₂ (λ (m n : ℕ). m + n) (condition-nodes c env true a.condition) (rates-nodes c env a.effect)

pub all-nodes : (d : Domain) (p : tree.Problem) → problem_nodes (expanded d p) ≡ problem_size (problem_context d p) d p
all-nodes d p =
    let c = problem_context d p in
    ap₂ (λ (m n : ℕ). m + n) (instances-nodes c event_nodes (event_meant c) (schema_size c false) (event-nodes c) d.events)
    (ap₂ (λ (m n : ℕ). m + n) (instances-nodes c process_nodes (process_meant c) (schema_size c true) (process-nodes c) d.processes)
    (condition-nodes c [] true p.goal))

-- ---- the first limit that is passed

is-over : (x : Counted) (xs : List Counted) → x.most < x.number → first_over (x ∷ xs) ≡ Some x
is-over x xs h = ap (λ (b : Bool). cond b (Some x) (first_over xs)) (lt-ltb x.most x.number h)

passes : (x : Counted) (xs : List Counted) → x.number ≤ x.most → first_over (x ∷ xs) ≡ first_over xs
passes x xs h = ap (λ (b : Bool). cond b (Some x) (first_over xs)) (le-ltb x.most x.number h)

past-one : (x : Counted) (b : Bool) (o r s : Option Counted) → (o ≡ None → r ≡ s) → cond b (Some x) o ≡ None → cond b (Some x) r ≡ s
past-one x true o r s h e = cc
past-one x false o r s h e = h e

past : (xs ys : List Counted) → first_over xs ≡ None → first_over (xs ++ ys) ≡ first_over ys
past [] ys e = refl
past (x ∷ xs) ys e = past-one x (nat_lt x.most x.number) (first_over xs) (first_over (xs ++ ys)) (first_over ys) (past xs ys) e

small : (most n : ℕ) → most ≤ 1000000 → held n ≤ most → n ≤ most
unfolding held
small most n m h = omega arith

large : (most n : ℕ) → most < held n → most < n
unfolding held
large most n h = omega arith

-- ---- what `within` tells

abbrev names : Domain → tree.Problem → List Counted
names d p = name_counts (problem_context d p)

abbrev processes : Domain → tree.Problem → Counted
processes d p = record { kind = Processes; most = 10000; number = length (expanded d p).processes }

abbrev events : Domain → tree.Problem → Counted
events d p = record { kind = Events; most = 10000; number = length (expanded d p).events }

abbrev nodes : Domain → tree.Problem → Counted
nodes d p = record { kind = Nodes; most = 1000000; number = problem_nodes (expanded d p) }

processes-number : (d : Domain) (p : tree.Problem) → (processes d p).number ≡ instances (problem_context d p) d.processes
processes-number d p = instances-length (problem_context d p) (process_meant (problem_context d p)) d.processes

events-number : (d : Domain) (p : tree.Problem) → (events d p).number ≡ instances (problem_context d p) d.events
events-number d p = instances-length (problem_context d p) (event_meant (problem_context d p)) d.events

-- processes pass
few-processes : (d : Domain) (p : tree.Problem) → first_over (names d p) ≡ None → held (instances (problem_context d p) d.processes) ≤ 10000
    → first_over (counts_of d p) ≡ first_over (events d p ∷ nodes d p ∷ [])
few-processes d p e h =
    let s = small 10000 (instances (problem_context d p) d.processes) (omega arith) h in
    past (names d p) (form_counts (expanded d p)) e ∙ passes (processes d p) (events d p ∷ nodes d p ∷ []) (omega (arith, processes-number d p, s))

-- and events
few-events : (d : Domain) (p : tree.Problem) → first_over (names d p) ≡ None → held (instances (problem_context d p) d.processes) ≤ 10000
    → held (instances (problem_context d p) d.events) ≤ 10000 → first_over (counts_of d p) ≡ first_over (nodes d p ∷ [])
few-events d p e h k =
    let s = small 10000 (instances (problem_context d p) d.events) (omega arith) k in
    few-processes d p e h ∙ passes (events d p) (nodes d p ∷ []) (omega (arith, events-number d p, s))

pub none_over : (d : Domain) (p : tree.Problem) → first_over (names d p) ≡ None → held (instances (problem_context d p) d.processes) ≤ 10000
    → held (instances (problem_context d p) d.events) ≤ 10000 → held (problem_size (problem_context d p) d p) ≤ 1000000 → first_over (counts_of d p) ≡ None
none_over d p e h k m =
    let s = small 1000000 (problem_size (problem_context d p) d p) (omega arith) m in
    few-events d p e h k ∙ passes (nodes d p) [] (omega (arith, all-nodes d p, s))

pub processes_over : (d : Domain) (p : tree.Problem) → first_over (names d p) ≡ None → 10000 < held (instances (problem_context d p) d.processes)
    → RefusesCount (counts_of d p) (TooMany Processes 10000)
processes_over d p e h =
    let s = large 10000 (instances (problem_context d p) d.processes) h in
    ((processes d p).number, past (names d p) (form_counts (expanded d p)) e ∙ is-over (processes d p) (events d p ∷ nodes d p ∷ []) (omega (arith, processes-number d p, s)))

pub events_over : (d : Domain) (p : tree.Problem) → first_over (names d p) ≡ None → held (instances (problem_context d p) d.processes) ≤ 10000
    → 10000 < held (instances (problem_context d p) d.events) → RefusesCount (counts_of d p) (TooMany Events 10000)
events_over d p e h k =
    let s = large 10000 (instances (problem_context d p) d.events) k in
    ((events d p).number, few-processes d p e h ∙ is-over (events d p) (nodes d p ∷ []) (omega (arith, events-number d p, s)))

pub nodes_over : (d : Domain) (p : tree.Problem) → first_over (names d p) ≡ None → held (instances (problem_context d p) d.processes) ≤ 10000
    → held (instances (problem_context d p) d.events) ≤ 10000 → 1000000 < held (problem_size (problem_context d p) d p)
    → RefusesCount (counts_of d p) (TooMany Nodes 1000000)
nodes_over d p e h k m =
    let s = large 1000000 (problem_size (problem_context d p) d p) m in
    ((nodes d p).number, few-events d p e h k ∙ is-over (nodes d p) [] (omega (arith, all-nodes d p, s)))

pub ruleset limits = (none_over, processes_over, events_over, nodes_over)

-- what `is_small` tells
pub small_action : (c : Context) (a : Schema) (env : Environment) (n : ℕ) → n ≡ held (schema_size c false a)
    → nat_lt 1000000 n ≡ nat_lt 1000000 (action_nodes (action_meant c a env))
small_action c a env n e =
    ap (nat_lt 1000000) e ∙ over-held 1000000 (schema_size c false a) (omega arith) ∙ ap (nat_lt 1000000) (sym (action-nodes c a env))
