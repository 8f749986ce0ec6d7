-- A pair in steps of q as a pair without processes and events, for planners that know no time. It is the pair whose
-- expansion is the translation of the ground problem, but for the order of effects and how conditions are grouped.
use Rattle.std.specs.Prelude.{ℕ, suc, ◌-◌, Bool, true, false, not, ◌&&◌, List, [], ◌∷◌, ◌++◌, map, unsigned_abs, codes, nat_eq, filter, if◌then◌else◌}
use Rattle.std.specs.List.{list_any, flat_map}
use Rattle.plus_fraction.specs.Fraction.{Fraction, ◌/ℚ◌}
use Rattle.plus_tree.specs.declared.terms.Term.{Term}
use Rattle.plus_tree.specs.declared.terms.Term.TheVariants.{Variable}
use Rattle.plus_tree.specs.declared.terms.TypedName.{TypedName}
use Rattle.plus_tree.specs.declared.terms.Use.{Use}
use Rattle.plus_tree.specs.declared.terms.Literal.{Literal}
use Rattle.plus_tree.specs.declared.terms.Comparison.TheVariants.{Equal}
use Rattle.plus_tree.specs.declared.trees.Head.{Head}
use Rattle.plus_tree.specs.declared.trees.Leaf.{Leaf}
use Rattle.plus_tree.specs.declared.trees.LeafNode.{LeafNode}
use Rattle.plus_tree.specs.declared.trees.LeafNode.TheVariants.{Add, Delete, Increase, Decrease}
use Rattle.plus_tree.specs.declared.trees.Schema.{Schema}
use Rattle.plus_tree.specs.declared.trees.Domain.{Domain}
use Rattle.plus_tree.specs.declared.trees.Init.{Init}
use Rattle.plus_tree.specs.declared.trees.Init.TheVariants.{Holds, Value, At, AtNot}
use Rattle.plus_tree.specs.declared.trees.Problem.{Problem}
use Rattle.plus_tree.specs.Expr.{Expr, Exprs, x_number, x_fluent, x_product, x_quotient, no_exprs, more_exprs}
use Rattle.plus_tree.specs.Cond.{Cond, c_all, c_any, c_not, c_atom, c_compare, conds_of}
use Rattle.plus_tree.specs.Effect as effects
use Rattle.plus_tree.specs.Effect.{e_all, e_when, e_leaf, effects_of}
use Rattle.plus_types.specs.Faults.{is_clock, ground_name, same_names}
use Rattle.plus_literal.specs.Value.{literal_value}
use Rattle.plus_translation.specs.Renamed.{nowhere, spelled, numeral, renamed_from}
use Rattle.plus_translation.specs.Leaves.{over, some, over_effect, nested, leaves_of}

-- ---- pieces

abbrev pub natural : ℕ → Literal
natural n = record { negative = false; digits = n; places = 0; span = nowhere }

abbrev pub both : List Cond → Cond
both cs = c_all (conds_of cs) nowhere

abbrev pub writes : Leaf → effects.Effect
writes l = e_leaf l nowhere

abbrev pub leaf : LeafNode → Leaf
leaf node = record { node = node; span = nowhere }

-- q as a literal, or as a quotient of two
abbrev pub length_of_step : Fraction → Expr
length_of_step q =
    if nat_eq q.bottom 1 then x_number (natural (unsigned_abs q.top)) nowhere
    else x_quotient (x_number (natural (unsigned_abs q.top)) nowhere) (x_number (natural q.bottom) nowhere) nowhere

-- the predicate of the marks of event i, and its use for the event's variables
abbrev pub mark_name : ℕ → List ℕ
mark_name i = codes "pp-f" ++ numeral i

abbrev pub variable_of : TypedName → Term
variable_of v = Variable (spelled v.name.name)

abbrev pub mark_of : ℕ → Schema → Use
mark_of i a = record { head = spelled (mark_name i); args = map variable_of a.params; span = nowhere }

abbrev pub clock_use : Use
clock_use = record { head = spelled (codes "pp-clock"); args = []; span = nowhere }

-- ---- for each event, renamed; the first has number i

abbrev pub mark_heads : ℕ → List Schema → List Head
mark_heads i [] = []
mark_heads i (a ∷ more) = record { name = spelled (mark_name i); params = a.params; span = nowhere } ∷ mark_heads (suc i) more

-- it does not hold
abbrev pub none_hold : List Schema → List Cond
none_hold events = map (λ a. over a.params (c_not a.condition nowhere)) events

-- it does not hold with its mark
abbrev pub none_repeats : ℕ → List Schema → List Cond
none_repeats i [] = []
none_repeats i (a ∷ more) =
    over a.params (c_not (both (a.condition ∷ c_atom (mark_of i a) nowhere ∷ [])) nowhere) ∷ none_repeats (suc i) more

-- its marks go
abbrev pub clears : ℕ → List Schema → List effects.Effect
clears i [] = []
clears i (a ∷ more) = over_effect a.params (writes (leaf (Delete (mark_of i a)))) ∷ clears (suc i) more

-- the condition of an event before the guard of a `when`
abbrev pub event_guard : Cond → List Cond → Cond
event_guard c [] = c
event_guard c (g ∷ gs) = both (c ∷ g ∷ gs)

-- what it does where it holds, and its mark
abbrev pub event_fires : ℕ → Schema → List effects.Effect
event_fires i a =
    map (λ p. over_effect a.params (nested p.lists (e_when (event_guard a.condition p.guards) (p.leaf ∷ []) nowhere))) (leaves_of a.effect)
    ++ over_effect a.params (e_when a.condition (leaf (Add (mark_of i a)) ∷ []) nowhere) ∷ []

abbrev pub fires : ℕ → List Schema → List effects.Effect
fires i [] = []
fires i (a ∷ more) = event_fires i a ++ fires (suc i) more

-- ---- for each process

-- the amount of a rate for the whole step
abbrev pub flow_factor : Expr → Exprs → Expr
flow_factor q (more_exprs e (more_exprs f no_exprs)) = x_product (more_exprs q (more_exprs (if is_clock e then f else e) no_exprs)) nowhere
flow_factor q es = q

abbrev pub flow_amount : Expr → Expr → Expr
flow_amount q (x_product es s) = flow_factor q es
flow_amount q e = q

abbrev pub flow_node : Expr → LeafNode → LeafNode
flow_node q (Increase u e) = Increase u (flow_amount q e)
flow_node q (Decrease u e) = Decrease u (flow_amount q e)
flow_node q node = node

abbrev pub flows : Expr → Schema → List effects.Effect
flows q a = map (λ p. over_effect a.params (nested p.lists (e_when a.condition (leaf (flow_node q p.leaf.node) ∷ []) nowhere))) (leaves_of a.effect)

-- ---- timed literals, each with the number of steps to its time

pub record Due : Type 0 where
  pub steps : ℕ
  pub positive : Bool
  pub atom : Use

-- how many steps of q it is to a time on the grid
abbrev pub steps_to : Fraction → Literal → ℕ
steps_to q t = unsigned_abs (literal_value t /ℚ q).top

-- at a time below 0, which no text spells, nothing happens
abbrev pub due_at : Fraction → Literal → Bool → Use → List Due
due_at q t positive u = if t.negative then [] else record { steps = steps_to q t; positive = positive; atom = u } ∷ []

abbrev pub due_by : Fraction → Init → List Due
due_by q (At t u s) = due_at q t true u
due_by q (AtNot t u s) = due_at q t false u
due_by q _ = []

-- the times of the timed literals, in text order
abbrev pub time_of : Init → List Literal
time_of (At t u s) = t ∷ []
time_of (AtNot t u s) = t ∷ []
time_of _ = []

abbrev pub times_of : Problem → List Literal
times_of p = flat_map time_of p.init

abbrev pub is_later : Due → Bool
is_later d = not (nat_eq d.steps 0)

abbrev pub due_node : Due → LeafNode
due_node d = if d.positive then Add d.atom else Delete d.atom

abbrev pub due_effect : Due → effects.Effect
due_effect d = e_when (c_compare Equal (x_fluent clock_use nowhere) (x_number (natural (d.steps - 1)) nowhere) nowhere) (leaf (due_node d) ∷ []) nowhere

abbrev pub clock_effects : List Due → List effects.Effect
clock_effects due =
    if list_any is_later due
    then writes (leaf (Increase clock_use (x_number (natural 1) nowhere))) ∷ map due_effect (filter is_later due)
    else []

-- ---- the initial state

abbrev pub same_atom : Use → Use → Bool
same_atom u v = same_names (ground_name u) (ground_name v)

-- the atoms that literals of time 0 set, each once; and those that they clear
abbrev pub set_at_once : List Use → List Due → List Use
set_at_once before [] = []
set_at_once before (d ∷ more) =
    if nat_eq d.steps 0 && (d.positive && not (list_any (same_atom d.atom) before))
    then d.atom ∷ set_at_once (before ++ d.atom ∷ []) more
    else set_at_once before more

abbrev pub cleared_at_once : List Due → List Use
cleared_at_once due = map (λ d. d.atom) (filter (λ d. nat_eq d.steps 0 && not d.positive) due)

abbrev pub stays_in_init : List Use → List Use → Init → Bool
stays_in_init set cleared (Holds u) = not (list_any (same_atom u) cleared && not (list_any (same_atom u) set))
stays_in_init set cleared (At t u s) = false
stays_in_init set cleared (AtNot t u s) = false
stays_in_init set cleared i = true

abbrev pub init_translated : List Due → List Init → List Init
init_translated due init =
    filter (stays_in_init (set_at_once [] due) (cleared_at_once due)) init
    ++ (map Holds (set_at_once [] due) ++ (if list_any is_later due then Value clock_use (natural 0) nowhere ∷ [] else []))

-- ---- the pair

abbrev pub old_translated : List Cond → List effects.Effect → Schema → Schema
old_translated none clear a = record {
  name = a.name;
  params = a.params;
  condition = both (a.condition ∷ none);
  effect = e_all (effects_of (a.effect ∷ clear)) nowhere;
  span = nowhere;
}

abbrev pub without_params : List ℕ → Cond → List effects.Effect → Schema
without_params name c es = record { name = spelled name; params = []; condition = c; effect = e_all (effects_of es) nowhere; span = nowhere }

abbrev pub domain_translated : Fraction → List Schema → List Due → Domain → Problem → Domain
domain_translated q events due d p = record {
  name = d.name;
  requirements = spelled (codes "adl") ∷ spelled (codes "fluents") ∷ [];
  types = d.types;
  constants = d.constants ++ (if list_any is_later due then p.objects else []);
  predicates = d.predicates ++ mark_heads 1 events;
  functions = d.functions ++ (if list_any is_later due then record { name = spelled (codes "pp-clock"); params = []; span = nowhere } ∷ [] else []);
  actions =
      map (old_translated (none_hold events) (clears 1 events)) d.actions
      ++ without_params (codes "pp-step") (both (none_hold events)) (flat_map (flows (length_of_step q)) d.processes ++ (clock_effects due ++ clears 1 events))
      ∷ without_params (codes "pp-fire") (both (c_any (conds_of (map (λ a. some a.params a.condition) events)) nowhere ∷ none_repeats 1 events)) (fires 1 events)
      ∷ [];
  processes = [];
  events = [];
  span = nowhere;
}

abbrev pub problem_translated : List Schema → List Due → Problem → Problem
problem_translated events due p = record {
  name = p.name;
  domain = p.domain;
  requirements = [];
  objects = if list_any is_later due then [] else p.objects;
  init = init_translated due p.init;
  goal = both (p.goal ∷ none_hold events);
  span = nowhere;
}

abbrev pub translated_domain : Fraction → Domain → Problem → Domain
translated_domain q d p = domain_translated q (renamed_from 1 d.events) (flat_map (due_by q) p.init) d p

abbrev pub translated_problem : Fraction → Domain → Problem → Problem
translated_problem q d p = problem_translated (renamed_from 1 d.events) (flat_map (due_by q) p.init) p
