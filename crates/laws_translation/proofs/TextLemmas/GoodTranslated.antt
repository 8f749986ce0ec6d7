-- The translated trees are good where the old ones are, the step and the times are numbers of a text, and there are fewer
-- than 2^64 events and variables.
use Rattle.std.proofs.Common.{◌≡◌, ℕ, suc, ◌+◌, ◌-◌, ◌<◌, ◌≤◌, ◌^◌, Bool, true, false, List, [], ◌∷◌, ◌++◌, map, filter, length, refl, unsigned_abs, nat_eq, not, ◌&&◌, arith}
use Rattle.std.specs.Prelude.{codes, if◌then◌else◌}
use Rattle.std.specs.List.{list_any, flat_map}
use Rattle.plus_fraction.specs.Fraction.{Fraction}
use Rattle.plus_tree.specs.declared.terms.Term.{Term}
use Rattle.plus_tree.specs.declared.terms.Term.TheVariants.{Object, Variable}
use Rattle.plus_tree.specs.declared.terms.TypedName.{TypedName}
use Rattle.plus_tree.specs.declared.terms.Use.{Use}
use Rattle.plus_tree.specs.declared.trees.Leaf.{Leaf}
use Rattle.plus_tree.specs.declared.trees.LeafNode.{LeafNode}
use Rattle.plus_tree.specs.declared.trees.LeafNode.TheVariants.{Add, Delete, Assign, Increase, Decrease, ScaleUp, ScaleDown}
use Rattle.plus_tree.specs.declared.trees.Head.{Head}
use Rattle.plus_tree.specs.declared.trees.Schema.{Schema}
use Rattle.plus_tree.specs.declared.trees.Domain.{Domain}
use Rattle.plus_tree.specs.declared.trees.Init.{Init}
use Rattle.plus_tree.specs.declared.trees.Init.TheVariants.{Holds, Value}
use Rattle.plus_tree.specs.declared.trees.Problem.{Problem}
use Rattle.plus_tree.specs.Expr.{Expr, Exprs, x_number, x_clock, x_fluent, x_sum, x_product, x_minus, x_difference, x_quotient, no_exprs, more_exprs}
use Rattle.plus_tree.specs.Cond.{Cond, c_not, c_atom, conds_of}
use Rattle.plus_tree.specs.Effect.{Effect, Effects, e_all, e_forall, e_when, e_leaf, no_effects, more_effects, effects_of}
use Rattle.plus_types.specs.Faults.{is_clock}
use Rattle.plus_parser.specs.declared.phrases.words.Allowed.TheVariants.{Terms, Names}
use Rattle.plus_canonical.proofs.Forms.{AllOf}
use Rattle.plus_canonical.proofs.Terms.{fixed}
use Rattle.plus_canonical.proofs.Lists.{SmallTyped, all_append}
use Rattle.plus_canonical.proofs.Literals.{GoodLiteral}
use Rattle.plus_translation.specs.Renamed.{nowhere, renamed_from, bindings_in, effect_bindings}
use Rattle.plus_translation.specs.Leaves.{over, some, over_effect, nested, Placed, inside, leaves_of, leaves_among}
use Rattle.plus_translation.specs.Translated.{natural, both, writes, leaf, length_of_step, variable_of, same_atom, mark_of, mark_heads, clock_use, none_hold, none_repeats, clears, event_guard, event_fires, fires, flow_factor, flow_amount, flow_node, flows, Due, is_later, due_node, due_effect, due_by, clock_effects, set_at_once, cleared_at_once, stays_in_init, init_translated, old_translated, translated_domain, translated_problem}
use Rattle.laws_translation.proofs.TextLemmas.Good.{GoodTerm, GoodUse, GoodExpr, GoodExprs, GoodCond, GoodConds, GoodNode, GoodLeaf, GoodEffect, GoodEffects, GoodInit}
use Rattle.laws_translation.proofs.TextLemmas.Rooms.{GoodHead, GoodRule, GoodTree, GoodTask}
use Rattle.laws_translation.proofs.TextLemmas.FreshWords.{mark_plain, clock_plain, step_small, fire_small}
use Rattle.laws_translation.proofs.TextLemmas.GoodRenamed.{event_renamed}

-- ---- pieces

natural_good : (n : ℕ) → n < 10 ^ 19 → GoodLiteral (natural n)
natural_good n l = record { bound = omega arith; few = omega arith; normal = λ t. refl }

conds_good : (cs : List Cond) → AllOf GoodCond cs → GoodConds (conds_of cs)
conds_good [] g = tt
conds_good (c ∷ cs) g = (g.0, conds_good cs g.1)

effects_good : (es : List Effect) → AllOf GoodEffect es → GoodEffects (effects_of es)
effects_good [] g = tt
effects_good (e ∷ es) g = (g.0, effects_good es g.1)

over_good : (vs : List TypedName) (c : Cond) → AllOf SmallTyped vs → GoodCond c → GoodCond (over vs c)
over_good [] c g h = h
over_good (v ∷ vs) c g h = (g, h)

some_good : (vs : List TypedName) (c : Cond) → AllOf SmallTyped vs → GoodCond c → GoodCond (some vs c)
some_good [] c g h = h
some_good (v ∷ vs) c g h = (g, h)

over_effect_good : (vs : List TypedName) (e : Effect) → AllOf SmallTyped vs → GoodEffect e → GoodEffect (over_effect vs e)
over_effect_good [] e g h = h
over_effect_good (v ∷ vs) e g h = (g, h)

nested_good : (lists : List (List TypedName)) (e : Effect) → AllOf (AllOf SmallTyped) lists → GoodEffect e → GoodEffect (nested lists e)
nested_good [] e g h = h
nested_good (vs ∷ rest) e g h = over_effect_good vs (nested rest e) g.0 (nested_good rest e g.1 h)

record GoodPlaced (p : Placed) : Type 0 where
  lists : AllOf (AllOf SmallTyped) p.lists
  guards : AllOf GoodCond p.guards
  write : GoodLeaf p.leaf

inside_good : (vs : List TypedName) (ps : List Placed) → AllOf SmallTyped vs → AllOf GoodPlaced ps → AllOf GoodPlaced (map (inside vs) ps)
inside_good vs [] g h = tt
inside_good vs (p ∷ ps) g h = (record { lists = (g, h.0.lists); guards = h.0.guards; write = h.0.write }, inside_good vs ps g h.1)

guarded_good : (c : Cond) (ls : List Leaf) → GoodCond c → AllOf GoodLeaf ls → AllOf GoodPlaced (map (λ (l : Leaf). record { lists = []; guards = c ∷ []; leaf = l }) ls)
guarded_good c [] g h = tt
guarded_good c (l ∷ ls) g h = (record { lists = tt; guards = (g, tt); write = h.0 }, guarded_good c ls g h.1)

mutual
  leaves_good : (e : Effect) → GoodEffect e → AllOf GoodPlaced (leaves_of e)
  leaves_good (e_all es s) g = leaves_among_good es g
  leaves_good (e_forall vs e s) g = inside_good vs (leaves_of e) g.0 (leaves_good e g.1)
  leaves_good (e_when c ls s) g = guarded_good c ls g.0 g.1
  leaves_good (e_leaf l s) g = (record { lists = tt; guards = tt; write = g }, tt)

  leaves_among_good : (es : Effects) → GoodEffects es → AllOf GoodPlaced (leaves_among es)
  leaves_among_good no_effects g = tt
  leaves_among_good (more_effects e es) g = all_append Placed GoodPlaced (leaves_of e) (leaves_among es) (leaves_good e g.0) (leaves_among_good es g.1)

-- ---- the events

-- the events, renamed; the first has number i
renamed_good : (i : ℕ) (events : List Schema) → i + length events ≤ 2 ^ 64 → AllOf (λ (a : Schema). 1 + length a.params + bindings_in a.condition + effect_bindings a.effect ≤ 2 ^ 64) events → AllOf GoodRule events → AllOf GoodRule (renamed_from i events)
renamed_good i [] l b g = tt
renamed_good i (a ∷ more) l b g = (event_renamed i (omega arith) a b.0 g.0, renamed_good (suc i) more (omega arith) b.1 g.1)

length_renamed : (i : ℕ) (events : List Schema) → length (renamed_from i events) ≡ length events
length_renamed i [] = refl
length_renamed i (a ∷ more) = let h = length_renamed (suc i) more in omega (arith, h)

variables_good : (vs : List TypedName) → AllOf SmallTyped vs → AllOf (GoodTerm Terms) (map variable_of vs)
variables_good [] g = tt
variables_good (v ∷ vs) g = ((refl, g.0.name), variables_good vs g.1)

mark_good : (i : ℕ) (a : Schema) → i < 2 ^ 64 → GoodRule a → GoodUse Terms (mark_of i a)
mark_good i a l g = record { head = mark_plain i l; args = variables_good a.params g.params }

heads_good : (i : ℕ) (events : List Schema) → i + length events ≤ 2 ^ 64 → AllOf GoodRule events → AllOf GoodHead (mark_heads i events)
heads_good i [] l g = tt
heads_good i (a ∷ more) l g = (record { name = mark_plain i (omega arith); params = g.0.params }, heads_good (suc i) more (omega arith) g.1)

none_good : (events : List Schema) → AllOf GoodRule events → AllOf GoodCond (none_hold events)
none_good [] g = tt
none_good (a ∷ more) g = (over_good a.params (c_not a.condition nowhere) g.0.params g.0.condition, none_good more g.1)

some_all_good : (events : List Schema) → AllOf GoodRule events → AllOf GoodCond (map (λ (a : Schema). some a.params a.condition) events)
some_all_good [] g = tt
some_all_good (a ∷ more) g = (some_good a.params a.condition g.0.params g.0.condition, some_all_good more g.1)

repeats_good : (i : ℕ) (events : List Schema) → i + length events ≤ 2 ^ 64 → AllOf GoodRule events → AllOf GoodCond (none_repeats i events)
repeats_good i [] l g = tt
repeats_good i (a ∷ more) l g =
    (over_good a.params (c_not (both (a.condition ∷ c_atom (mark_of i a) nowhere ∷ [])) nowhere) g.0.params (g.0.condition, (mark_good i a (omega arith) g.0, tt)), repeats_good (suc i) more (omega arith) g.1)

clears_good : (i : ℕ) (events : List Schema) → i + length events ≤ 2 ^ 64 → AllOf GoodRule events → AllOf GoodEffect (clears i events)
clears_good i [] l g = tt
clears_good i (a ∷ more) l g =
    (over_effect_good a.params (writes (leaf (Delete (mark_of i a)))) g.0.params (mark_good i a (omega arith) g.0), clears_good (suc i) more (omega arith) g.1)

guard_good : (c : Cond) (gs : List Cond) → GoodCond c → AllOf GoodCond gs → GoodCond (event_guard c gs)
guard_good c [] g h = g
guard_good c (x ∷ xs) g h = conds_good (c ∷ x ∷ xs) (g, h)

fired_good : (a : Schema) (ps : List Placed) → GoodRule a → AllOf GoodPlaced ps
    → AllOf GoodEffect (map (λ (p : Placed). over_effect a.params (nested p.lists (e_when (event_guard a.condition p.guards) (p.leaf ∷ []) nowhere))) ps)
fired_good a [] g h = tt
fired_good a (p ∷ ps) g h =
    (over_effect_good a.params _ g.params (nested_good p.lists _ h.0.lists (guard_good a.condition p.guards g.condition h.0.guards, (h.0.write, tt))), fired_good a ps g h.1)

fires_good : (i : ℕ) (events : List Schema) → i + length events ≤ 2 ^ 64 → AllOf GoodRule events → AllOf GoodEffect (fires i events)
fires_good i [] l g = tt
fires_good i (a ∷ more) l g =
    all_append Effect GoodEffect (event_fires i a) (fires (suc i) more)
    (all_append Effect GoodEffect (map (λ (p : Placed). over_effect a.params (nested p.lists (e_when (event_guard a.condition p.guards) (p.leaf ∷ []) nowhere))) (leaves_of a.effect))
    (over_effect a.params (e_when a.condition (leaf (Add (mark_of i a)) ∷ []) nowhere) ∷ [])
    (fired_good a (leaves_of a.effect) g.0 (leaves_good a.effect g.0.effect))
    (over_effect_good a.params _ g.0.params (g.0.condition, (mark_good i a (omega arith) g.0, tt)), tt))
    (fires_good (suc i) more (omega arith) g.1)

-- ---- the processes

module _ (Q : Expr) (good : GoodExpr Q) where
  chosen_good : (e f : Expr) → GoodExpr e → GoodExpr f → GoodExpr (if is_clock e then f else e)
  chosen_good e f g h = by (is_clock e)
    where
      by : (b : Bool) → GoodExpr (if b then f else e)
      by true = h
      by false = g

  factor_good : (es : Exprs) → GoodExprs es → GoodExpr (flow_factor Q es)
  factor_good no_exprs g = good
  factor_good (more_exprs e no_exprs) g = good
  factor_good (more_exprs e (more_exprs f no_exprs)) g = (tt, (good, (chosen_good e f g.0 g.1.0, tt)))
  factor_good (more_exprs e (more_exprs f (more_exprs h es))) g = good

  amount_good : (e : Expr) → GoodExpr e → GoodExpr (flow_amount Q e)
  amount_good (x_number n s) g = good
  amount_good (x_clock s) g = good
  amount_good (x_fluent u s) g = good
  amount_good (x_sum es s) g = good
  amount_good (x_product es s) g = factor_good es g.1
  amount_good (x_minus e s) g = good
  amount_good (x_difference e f s) g = good
  amount_good (x_quotient e f s) g = good

  flow_good : (x : LeafNode) → GoodNode x → GoodNode (flow_node Q x)
  flow_good (Add u) g = g
  flow_good (Delete u) g = g
  flow_good (Assign u e) g = g
  flow_good (Increase u e) g = (g.0, amount_good e g.1)
  flow_good (Decrease u e) g = (g.0, amount_good e g.1)
  flow_good (ScaleUp u e) g = g
  flow_good (ScaleDown u e) g = g

  placed_flows_good : (a : Schema) (ps : List Placed) → GoodRule a → AllOf GoodPlaced ps
      → AllOf GoodEffect (map (λ (p : Placed). over_effect a.params (nested p.lists (e_when a.condition (leaf (flow_node Q p.leaf.node) ∷ []) nowhere))) ps)
  placed_flows_good a [] g h = tt
  placed_flows_good a (p ∷ ps) g h =
      (over_effect_good a.params _ g.params (nested_good p.lists _ h.0.lists (g.condition, (flow_good p.leaf.node h.0.write, tt))), placed_flows_good a ps g h.1)

  flows_good : (processes : List Schema) → AllOf GoodRule processes → AllOf GoodEffect (flat_map (flows Q) processes)
  flows_good [] g = tt
  flows_good (a ∷ more) g = all_append Effect GoodEffect (flows Q a) (flat_map (flows Q) more) (placed_flows_good a (leaves_of a.effect) g.0 (leaves_good a.effect g.0.effect)) (flows_good more g.1)

step_good : (q : Fraction) → unsigned_abs q.top < 10 ^ 19 → q.bottom < 10 ^ 19 → GoodExpr (length_of_step q)
step_good q t b = by (nat_eq q.bottom 1)
  where
    by : (c : Bool) → GoodExpr (if c then x_number (natural (unsigned_abs q.top)) nowhere else x_quotient (x_number (natural (unsigned_abs q.top)) nowhere) (x_number (natural q.bottom) nowhere) nowhere)
    by true = natural_good (unsigned_abs q.top) t
    by false = (natural_good (unsigned_abs q.top) t, natural_good q.bottom b)

-- ---- the timed literals

-- a literal to come: its atom may stand in an effect and in `:init`, and its number of steps in a text
pub record GoodDue (d : Due) : Type 0 where
  pub atom : GoodUse Names d.atom
  pub few : d.steps < 10 ^ 19

args_terms : (ts : List Term) → AllOf (GoodTerm Names) ts → AllOf (GoodTerm Terms) ts
args_terms [] g = tt
args_terms (Object x ∷ ts) g = ((refl, g.0.1), args_terms ts g.1)
args_terms (Variable x ∷ ts) g = ((refl, g.0.1), args_terms ts g.1)

use_terms : (u : Use) → GoodUse Names u → GoodUse Terms u
use_terms u g = record { head = g.head; args = args_terms u.args g.args }

due_node_good : (d : Due) → GoodDue d → GoodNode (due_node d)
due_node_good d g = by d.positive
  where
    by : (b : Bool) → GoodNode (if b then Add d.atom else Delete d.atom)
    by true = use_terms d.atom g.atom
    by false = use_terms d.atom g.atom

clock_good : GoodUse Terms clock_use
clock_good = record { head = clock_plain; args = tt }

due_effects_good : (due : List Due) → AllOf GoodDue due → AllOf GoodEffect (map due_effect (filter is_later due))
due_effects_good [] g = tt
due_effects_good (d ∷ more) g = by (is_later d) (due_effects_good more g.1)
  where
    by : (b : Bool) → AllOf GoodEffect (map due_effect (filter is_later more)) → AllOf GoodEffect (map due_effect (if b then d ∷ filter is_later more else filter is_later more))
    by true h = (((clock_good, natural_good (d.steps - 1) (let f = g.0.few in omega arith)), (due_node_good d g.0, tt)), h)
    by false h = h

clock_effects_good : (due : List Due) → AllOf GoodDue due → AllOf GoodEffect (clock_effects due)
clock_effects_good due g = by (list_any is_later due)
  where
    by : (b : Bool) → AllOf GoodEffect (if b then writes (leaf (Increase clock_use (x_number (natural 1) nowhere))) ∷ map due_effect (filter is_later due) else [])
    by true = ((clock_good, natural_good 1 (omega arith)), due_effects_good due g)
    by false = tt

set_good : (before : List Use) (due : List Due) → AllOf GoodDue due → AllOf GoodInit (map Holds (set_at_once before due))
set_good before [] g = tt
set_good before (d ∷ more) g = by (nat_eq d.steps 0 && (d.positive && not (list_any (same_atom d.atom) before))) (set_good (before ++ d.atom ∷ []) more g.1) (set_good before more g.1)
  where
    by : (b : Bool) → AllOf GoodInit (map Holds (set_at_once (before ++ d.atom ∷ []) more)) → AllOf GoodInit (map Holds (set_at_once before more)) → AllOf GoodInit (map Holds (if b then d.atom ∷ set_at_once (before ++ d.atom ∷ []) more else set_at_once before more))
    by true h h' = (g.0.atom, h)
    by false h h' = h'

filter_good : (test : Init → Bool) (init : List Init) → AllOf GoodInit init → AllOf GoodInit (filter test init)
filter_good test [] g = tt
filter_good test (x ∷ init) g = by (test x) (filter_good test init g.1)
  where
    by : (b : Bool) → AllOf GoodInit (filter test init) → AllOf GoodInit (if b then x ∷ filter test init else filter test init)
    by true h = (g.0, h)
    by false h = h

init_good : (due : List Due) (init : List Init) → AllOf GoodDue due → AllOf GoodInit init → AllOf GoodInit (init_translated due init)
init_good due init g h =
    all_append Init GoodInit (filter (stays_in_init (set_at_once [] due) (cleared_at_once due)) init) _ (filter_good (stays_in_init (set_at_once [] due) (cleared_at_once due)) init h)
    (all_append Init GoodInit (map Holds (set_at_once [] due)) (if list_any is_later due then Value clock_use (natural 0) nowhere ∷ [] else []) (set_good [] due g) (last (list_any is_later due)))
  where
    last : (b : Bool) → AllOf GoodInit (if b then Value clock_use (natural 0) nowhere ∷ [] else [])
    last true = ((record { head = clock_plain; args = tt }, natural_good 0 (omega arith)), tt)
    last false = tt

-- ---- the pair

if_good : {X : Type 0} (P : X → Type 0) (b : Bool) (xs : List X) → AllOf P xs → AllOf P (if b then xs else [])
if_good P true xs g = g
if_good P false xs g = tt

if_not_good : {X : Type 0} (P : X → Type 0) (b : Bool) (xs : List X) → AllOf P xs → AllOf P (if b then [] else xs)
if_not_good P true xs g = tt
if_not_good P false xs g = g

old_good : (none : List Cond) (clear : List Effect) (actions : List Schema) → AllOf GoodCond none → AllOf GoodEffect clear → AllOf GoodRule actions → AllOf GoodRule (map (old_translated none clear) actions)
old_good none clear [] n c g = tt
old_good none clear (a ∷ more) n c g =
    (record { name = g.0.name; params = g.0.params; condition = (g.0.condition, conds_good none n); effect = (g.0.effect, effects_good clear c) }, old_good none clear more n c g.1)

-- what is asked besides of a pair and of a step
pub record Printable (q : Fraction) (d : Domain) (p : Problem) : Type 0 where
  pub top : unsigned_abs q.top < 10 ^ 19
  pub bottom : q.bottom < 10 ^ 19
  pub events : 1 + length d.events ≤ 2 ^ 64
  pub variables : AllOf (λ (a : Schema). 1 + length a.params + bindings_in a.condition + effect_bindings a.effect ≤ 2 ^ 64) d.events
  pub due : AllOf GoodDue (flat_map (due_by q) p.init)

pub translated_tree_good : (q : Fraction) (d : Domain) (p : Problem) → Printable q d p → GoodTree d → GoodTask p → GoodTree (translated_domain q d p)
translated_tree_good q d p few g h =
    let events = renamed_from 1 d.events in
    let due = flat_map (due_by q) p.init in
    let later = list_any is_later due in
    let es = renamed_good 1 d.events few.events few.variables g.events in
    let long : 1 + length events ≤ 2 ^ 64 = let l = length_renamed 1 d.events in let f = few.events in omega (arith, l, f) in
    let none = none_good events es in
    let clear = clears_good 1 events long es in
    let Q = length_of_step q in
    record {
      name = g.name;
      requirements = (fixed 97 (codes "dl") refl refl refl refl, (fixed 102 (codes "luents") refl refl refl refl, tt));
      types = g.types;
      constants = all_append TypedName SmallTyped d.constants _ g.constants (if_good SmallTyped later p.objects h.objects);
      predicates = all_append Head GoodHead d.predicates (mark_heads 1 events) g.predicates (heads_good 1 events long es);
      functions = all_append Head GoodHead d.functions _ g.functions (if_good GoodHead later _ (record { name = clock_plain; params = tt }, tt));
      actions = all_append Schema GoodRule (map (old_translated (none_hold events) (clears 1 events)) d.actions) _ (old_good (none_hold events) (clears 1 events) d.actions none clear g.actions) (
        record {
          name = step_small;
          params = tt;
          condition = conds_good (none_hold events) none;
          effect = effects_good _ (all_append Effect GoodEffect (flat_map (flows Q) d.processes) (clock_effects due ++ clears 1 events) (flows_good Q (step_good q few.top few.bottom) d.processes g.processes)
              (all_append Effect GoodEffect (clock_effects due) (clears 1 events) (clock_effects_good due few.due) clear));
        },
        (
          record {
            name = fire_small;
            params = tt;
            condition = (conds_good _ (some_all_good events es), conds_good (none_repeats 1 events) (repeats_good 1 events long es));
            effect = effects_good (fires 1 events) (fires_good 1 events long es);
          },
          tt,
        ),
      );
      processes = tt;
      events = tt;
    }

pub translated_task_good : (q : Fraction) (d : Domain) (p : Problem) → Printable q d p → GoodTree d → GoodTask p → GoodTask (translated_problem q d p)
translated_task_good q d p few g h =
    let events = renamed_from 1 d.events in
    let due = flat_map (due_by q) p.init in
    let es = renamed_good 1 d.events few.events few.variables g.events in
    record {
      name = h.name;
      domain = h.domain;
      requirements = tt;
      objects = if_not_good SmallTyped (list_any is_later due) p.objects h.objects;
      init = init_good due p.init few.due h.init;
      goal = (h.goal, conds_good (none_hold events) (none_good events es));
    }
