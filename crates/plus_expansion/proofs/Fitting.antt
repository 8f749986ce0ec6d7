-- The ids of what a well-typed pair stands for are below the numbers of their kinds.
use Rattle.std.proofs.Common.{◌≡◌, ℕ, zero, suc, ◌≤◌, Bool, true, false, cond, List, [], ◌∷◌, length, All, Option, Some, None, refl, ap, subst, ltb, ltb-false, sum_by, slice_get, get_or, arith}
use Rattle.std.specs.List.{position_or_len, AllByRecursion}
use Rattle.std.specs.Str.{bytes_eq}
use Rattle.std.proofs.lemmas.List.Sums.{get_or-le-sum_by}
use Rattle.plus_fraction.specs.Fraction.{Fraction}
use Rattle.plus_model.specs.Terms.{Condition, Always, Never, Both, Either, Atom, Compare, Action, Event, Process, Problem}
use Rattle.plus_model.specs.Plan.{Instance}
use Rattle.plus_state.specs.Fits.{Fits, AllEffectsFit, RateFits, ActionFits, comparisons, ProblemFits}
use Rattle.plus_tree.specs.declared.trees.Schema.{Schema}
use Rattle.plus_tree.specs.declared.trees.Domain.{Domain}
use Rattle.plus_tree.specs.declared.trees.Problem as tree
use Rattle.plus_types.specs.Faults.{Context, domain_context, problem_context, type_faults, action_names}
use Rattle.plus_types.specs.Types.{bindings_of}
use Rattle.plus_expansion.specs.Counts.{Counted, first_over}
use Rattle.plus_expansion.specs.Environments.{Environment}
use Rattle.plus_expansion.specs.Expansion.{event_meant, process_meant, action_meant, truths_from, values_from, expanded}
use Rattle.plus_expansion.specs.Nodes.{condition_nodes, event_nodes, process_nodes, problem_nodes}
use Rattle.plus_expansion.specs.Calls.{bound_by, called_in, called_by, called_of}
use Rattle.plus_expansion.specs.Counting.{counts_of}
use Rattle.plus_expansion.specs.Laws.{ExpansionFits, InstancesFit}
use Rattle.plus_expansion.proofs.Members.{bound-stands}
use Rattle.plus_expansion.proofs.Conditions.{atoms_of, fluents_of, condition-fits}
use Rattle.plus_expansion.proofs.Effects.{effect-fits, rates-fit}
use Rattle.plus_expansion.proofs.Timed.{timed-in, timed-ordered}
use Rattle.plus_expansion.proofs.WellTyped.{SchemaTyped, PairTyped, pair-typed, no-type-fault, instances-all, schema-at}

-- ---- counts

-- each comparison is a node
pub comparisons-nodes : (c : Condition) → comparisons c ≤ condition_nodes c
comparisons-nodes Always = omega arith
comparisons-nodes Never = omega arith
comparisons-nodes (Both c d) = omega (arith, comparisons-nodes c, comparisons-nodes d)
comparisons-nodes (Either c d) = omega (arith, comparisons-nodes c, comparisons-nodes d)
comparisons-nodes (Atom a positive) = omega arith
comparisons-nodes (Compare test left right positive) = omega arith

-- none is too many
pub none-over : (cs : List Counted) → first_over cs ≡ None → AllByRecursion (λ c. c.number ≤ c.most) cs
none-over [] e = tt
none-over (c ∷ cs) e = by (ltb c.most c.number) refl e (none-over cs)
  where
    by :
        (b : Bool) → ltb c.most c.number ≡ b → cond b (Some c) (first_over cs) ≡ None
        → (first_over cs ≡ None → AllByRecursion (λ x. x.number ≤ x.most) cs) → (c.number ≤ c.most) × AllByRecursion (λ x. x.number ≤ x.most) cs
    by true is w more = cc
    by false is w more = (ltb-false c.most c.number is, more w)

-- what the limits say of a ground problem
pub record WithinLimits (P : Problem) : Type 0 where
  pub atoms : P.atoms ≤ 200000
  pub fluents : P.fluents ≤ 50000
  pub processes : length P.processes ≤ 10000
  pub events : length P.events ≤ 10000
  pub nodes : problem_nodes P ≤ 1000000

pub counts-within : (d : Domain) (p : tree.Problem) → first_over (counts_of d p) ≡ None → WithinLimits (expanded d p)
counts-within d p e =
    let h = none-over (counts_of d p) e in
    record { atoms = h.1.0; fluents = h.1.1.0; processes = h.1.1.1.0; events = h.1.1.1.1.0; nodes = h.1.1.1.1.1.0 }

-- ---- the initial state

pub length-truths : (held : List ℕ) (k n : ℕ) → length (truths_from held k n) ≡ n
length-truths held k zero = refl
length-truths held k (suc n) = ap suc (length-truths held (suc k) n)

pub length-values : (given : List (ℕ × Fraction)) (k n : ℕ) → length (values_from given k n) ≡ n
length-values given k zero = refl
length-values given k (suc n) = ap suc (length-values given (suc k) n)

-- ---- the ground problem

-- ids fit, apart from the number of comparisons
abbrev pub EventIn : Context → Event → Type 0
EventIn m e = Fits (atoms_of m) (fluents_of m) e.condition × AllEffectsFit (atoms_of m) (fluents_of m) e.effects

abbrev pub ProcessIn : Context → Process → Type 0
ProcessIn m q = Fits (atoms_of m) (fluents_of m) q.condition × All (RateFits (fluents_of m)) q.rates

pub events-in : (d : Domain) (p : tree.Problem) → PairTyped d p → All (EventIn (problem_context d p)) (expanded d p).events
events-in d p t =
    let c = domain_context d in let m = problem_context d p in
    instances-all (EventIn m) c m false (event_meant m)
    (λ a env s stands. (
      condition-fits c m t.widens a.condition (bindings_of a.params) env true stands s.condition,
      effect-fits c m t.widens false a.effect (bindings_of a.params) env stands s.effect,
    ))
    d.events t.events

pub processes-in : (d : Domain) (p : tree.Problem) → PairTyped d p → All (ProcessIn (problem_context d p)) (expanded d p).processes
processes-in d p t =
    let c = domain_context d in let m = problem_context d p in
    instances-all (ProcessIn m) c m true (process_meant m)
    (λ a env s stands. (
      condition-fits c m t.widens a.condition (bindings_of a.params) env true stands s.condition,
      rates-fit c m t.widens true a.effect (bindings_of a.params) env stands s.effect,
    ))
    d.processes t.processes

few-of-event : (events : List Event) (most : ℕ) → sum_by event_nodes events ≤ most → All (λ (e : Event). comparisons e.condition ≤ most) events
few-of-event events most le = λ k d h.
    omega (arith, comparisons-nodes (get_or events k d).condition, get_or-le-sum_by event_nodes events k d h)

few-of-process : (processes : List Process) (most : ℕ) → sum_by process_nodes processes ≤ most → All (λ (q : Process). comparisons q.condition ≤ most) processes
few-of-process processes most le = λ k d h.
    omega (arith, comparisons-nodes (get_or processes k d).condition, get_or-le-sum_by process_nodes processes k d h)

pub problem-fits : (d : Domain) (p : tree.Problem) → type_faults d p ≡ [] → first_over (counts_of d p) ≡ None → ProblemFits (expanded d p)
problem-fits d p e counts =
    let t = pair-typed d p e in
    let m = problem_context d p in
    let w = counts-within d p counts in
    let events = events-in d p t in
    let processes = processes-in d p t in
    let few_e = few-of-event (expanded d p).events 1000000 (omega (arith, w.nodes)) in
    let few_p = few-of-process (expanded d p).processes 1000000 (omega (arith, w.nodes)) in
    record {
      processes = λ k x h. record { condition = (processes k x h).0; rates = (processes k x h).1; few = omega (arith, few_p k x h) };
      events = λ k x h. record { condition = (events k x h).0; effects = (events k x h).1; few = omega (arith, few_e k x h) };
      timed = timed-in m t.same p.init t.init;
      in_order = timed-ordered m p.init;
      initial = record { atoms_fit = length-truths _ 0 (atoms_of m); fluents_fit = length-values _ 0 (fluents_of m) };
      goal = condition-fits m m t.same p.goal [] [] true tt t.goal;
      few_atoms = omega (arith, w.atoms);
      few_fluents = omega (arith, w.fluents);
      few_processes = omega (arith, w.processes);
      few_events = omega (arith, w.events);
    }

pub expansion_fits : (d : Domain) (p : tree.Problem) → ExpansionFits d p
expansion_fits d p typed counts = problem-fits d p (no-type-fault d p typed) counts

-- ---- instances of actions

pub called-fits :
    (d : Domain) (p : tree.Problem) → PairTyped d p → (name : List ℕ) (args : List (List ℕ)) (a : Action) → called_of d p name args ≡ Instance a
    → ActionFits (atoms_of (problem_context d p)) (fluents_of (problem_context d p)) a
called-fits d p t name args a e = by (slice_get d.actions (position_or_len (bytes_eq name) (action_names d))) refl e
  where
    named :
        (s : Schema) (o : Option Environment) → SchemaTyped (domain_context d) false s → bound_by (problem_context d p) s.params args [] ≡ o
        → called_in (problem_context d p) name s o ≡ Instance a → ActionFits (atoms_of (problem_context d p)) (fluents_of (problem_context d p)) a
    named s None typed is w = cc
    named s (Some env) typed is w =
        let c = domain_context d in let m = problem_context d p in
        let stands = bound-stands m s.params args [] [] env tt typed.variables is in
        let same : action_meant m s env ≡ a = cc in
        subst (ActionFits (atoms_of m) (fluents_of m)) same (
          condition-fits c m t.widens s.condition (bindings_of s.params) env true stands typed.condition,
          effect-fits c m t.widens false s.effect (bindings_of s.params) env stands typed.effect,
        )

    by :
        (o : Option Schema) → slice_get d.actions (position_or_len (bytes_eq name) (action_names d)) ≡ o
        → called_by (problem_context d p) name args o ≡ Instance a → ActionFits (atoms_of (problem_context d p)) (fluents_of (problem_context d p)) a
    by None is w = cc
    by (Some s) is w =
        named s (bound_by (problem_context d p) s.params args []) (schema-at (domain_context d) false d.actions _ s t.actions is) refl w

pub instances_fit : (d : Domain) (p : tree.Problem) → InstancesFit d p
instances_fit d p typed name args a e = called-fits d p (pair-typed d p (no-type-fault d p typed)) name args a e
