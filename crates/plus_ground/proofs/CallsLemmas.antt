-- The pair as a whole, and the instances that calls name.
use Rattle.std.proofs.Common.{◌≡◌, ℕ, zero, suc, ◌<◌, ◌≤◌, Bool, true, false, not, cond, List, [], ◌∷◌, ◌++◌, ◌∙◌, ap, refl, sym, subst, map, length, slice_get, get_or, nat_lt, Some, None, position, All, IsTrue, arith, drop, take, ◌-◌, nat_eq}
use Rattle.std.proofs.lemmas.List.{take_all}
use Rattle.std.specs.List.{position_or_len, flat_map, list_any}
use Rattle.std.specs.Str.{bytes_eq}
use Rattle.std.proofs.lemmas.List.{length-map}
use Rattle.std.proofs.lemmas.List.Quantifiers.{position-Some}
use Rattle.std.proofs.lemmas.List.Sums.{prefix_len-le-length}
use Rattle.std.proofs.lemmas.Bool.Decides.{nat_tests}
use Rattle.plus_fraction.specs.Fraction.{Fraction}
use Rattle.plus_literal.specs.Value.{LiteralFits}
use Rattle.plus_model.specs.Terms.{Action, Process, Event, State, Condition, Timed}
use Rattle.plus_model.specs.Plan as plan
use Rattle.plus_tree.specs.declared.terms.Literal.{Literal}
use Rattle.plus_tree.specs.declared.trees.Schema.{Schema}
use Rattle.plus_tree.specs.declared.terms.TypedName.{TypedName}
use Rattle.plus_tree.specs.declared.trees.Head.{Head}
use Rattle.plus_tree.specs.declared.trees.Domain.{Domain}
use Rattle.plus_tree.specs.declared.trees.Problem.{Problem}
use Rattle.plus_types.specs.declared.faults.File.{File}
use Rattle.plus_types.specs.declared.faults.File.TheVariants as files
use Rattle.plus_types.specs.Faults.{Context, problem_context, action_names}
use Rattle.plus_expansion.specs.Objects.{members_of, object_place, extents_of, tuples, object_names}
use Rattle.plus_expansion.specs.Numbers.{ground_names, ground_names_from, ground_labels, label_of}
use Rattle.plus_expansion.specs.Environments.{Environment}
use Rattle.plus_expansion.specs.Expansion.{action_meant, process_meant, event_meant, condition_meant, instances_of, initial_state, timed_meant, expanded, labels_meant}
use Rattle.plus_expansion.specs.Calls.{called_of, bound_by}
use Rattle.plus_expansion.specs.Literals.{in_file, literals_of, init_literals, condition_literals, schema_literals, call_literals}
use Rattle.plus_state.specs.Fits.{ProblemFits, ActionFits}
use Rattle.plus_types.specs.Faults.{is_well_typed}
use Rattle.plus_tokens.specs.declared.span.Span.{Span}
use Rattle.plus_expansion.specs.Nodes.{action_nodes}
use Rattle.plus_expansion.specs.Counting.{IsGroundable}
use Rattle.plus_expansion.proofs.Fitting.{expansion_fits, instances_fit}
use Rattle.plus_expansion.specs.Unfit.{IsFirstUnfitAt}
use Rattle.plus_ground.specs.Refusals.{IsTooLarge, HasUnfit, IsInstance}
use Rattle.plus_ground.proofs.ExpressionsLemmas.{all_left, all_right, all_first, all_rest, all_more}

-- ---- literals of a pair

in_fits : (fits : Fraction → Type 0) (file : File) (ls : List Literal) → All (λ (l : File × Literal). LiteralFits fits l.1) (in_file file ls) → All (LiteralFits fits) ls
in_fits fits file [] a = λ k d h. absurd (omega arith)
in_fits fits file (l ∷ ls) a =
    all_more (LiteralFits fits) l ls (all_first (λ (l : File × Literal). LiteralFits fits l.1) (file, l) (in_file file ls) a)
    (in_fits fits file ls (all_rest (λ (l : File × Literal). LiteralFits fits l.1) (file, l) (in_file file ls) a))

problem_part : (fits : Fraction → Type 0) (d : Domain) (p : Problem) → All (λ (l : File × Literal). LiteralFits fits l.1) (literals_of d p) → All (LiteralFits fits) (flat_map init_literals p.init ++ condition_literals p.goal)
problem_part fits d p a =
    in_fits fits files.Problem (flat_map init_literals p.init ++ condition_literals p.goal)
    (all_left (λ (l : File × Literal). LiteralFits fits l.1) (in_file files.Problem (flat_map init_literals p.init ++ condition_literals p.goal))
    (in_file files.Domain (flat_map schema_literals d.processes ++ flat_map schema_literals d.events)) a)

domain_part : (fits : Fraction → Type 0) (d : Domain) (p : Problem) → All (λ (l : File × Literal). LiteralFits fits l.1) (literals_of d p) → All (LiteralFits fits) (flat_map schema_literals d.processes ++ flat_map schema_literals d.events)
domain_part fits d p a =
    in_fits fits files.Domain (flat_map schema_literals d.processes ++ flat_map schema_literals d.events)
    (all_right (λ (l : File × Literal). LiteralFits fits l.1) (in_file files.Problem (flat_map init_literals p.init ++ condition_literals p.goal))
    (in_file files.Domain (flat_map schema_literals d.processes ++ flat_map schema_literals d.events)) a)

pub init_fits : (fits : Fraction → Type 0) (d : Domain) (p : Problem) → All (λ (l : File × Literal). LiteralFits fits l.1) (literals_of d p) → All (LiteralFits fits) (flat_map init_literals p.init)
init_fits fits d p a = all_left (LiteralFits fits) (flat_map init_literals p.init) (condition_literals p.goal) (problem_part fits d p a)

pub goal_fits : (fits : Fraction → Type 0) (d : Domain) (p : Problem) → All (λ (l : File × Literal). LiteralFits fits l.1) (literals_of d p) → All (LiteralFits fits) (condition_literals p.goal)
goal_fits fits d p a = all_right (LiteralFits fits) (flat_map init_literals p.init) (condition_literals p.goal) (problem_part fits d p a)

pub processes_fit : (fits : Fraction → Type 0) (d : Domain) (p : Problem) → All (λ (l : File × Literal). LiteralFits fits l.1) (literals_of d p) → All (LiteralFits fits) (flat_map schema_literals d.processes)
processes_fit fits d p a = all_left (LiteralFits fits) (flat_map schema_literals d.processes) (flat_map schema_literals d.events) (domain_part fits d p a)

pub events_fit : (fits : Fraction → Type 0) (d : Domain) (p : Problem) → All (λ (l : File × Literal). LiteralFits fits l.1) (literals_of d p) → All (LiteralFits fits) (flat_map schema_literals d.events)
events_fit fits d p a = all_right (LiteralFits fits) (flat_map schema_literals d.processes) (flat_map schema_literals d.events) (domain_part fits d p a)

-- ---- labels

many : {X A B : Type 0} (f : X → A) (g : X → B) (xs : List X) (ls : List A) (ns : List B) → length ls ≡ length ns → length (map f xs ++ ls) ≡ length (map g xs ++ ns)
many f g [] ls ns e = e
many f g (x ∷ xs) ls ns e = ap suc (many f g xs ls ns e)

-- there are as many labels as ground atoms or fluents
pub labels_many : (c : Context) (n : ℕ) (hs : List Head) → length (ground_labels c hs) ≡ length (ground_names_from c n hs)
labels_many c n [] = refl
labels_many c n (h ∷ hs) =
    many (λ t. label_of h.name.name (object_names c t)) (λ t. (n, t)) (tuples (extents_of c h.params)) (ground_labels c hs) (ground_names_from c (suc n) hs) (labels_many c (suc n) hs)

-- ---- the whole

-- the ground problem by its parts
pub expanded_is :
    (d : Domain) (p : Problem) (atoms fluents : List (List ℕ)) (processes : List Process) (events : List Event) (timed : List Timed) (s : State) (goal : Condition)
    → atoms ≡ ground_labels (problem_context d p) d.predicates → fluents ≡ ground_labels (problem_context d p) d.functions
    → processes ≡ instances_of (problem_context d p) (process_meant (problem_context d p)) d.processes
    → events ≡ instances_of (problem_context d p) (event_meant (problem_context d p)) d.events
    → timed ≡ timed_meant (problem_context d p) p.init → s ≡ initial_state (problem_context d p) p.init → goal ≡ condition_meant (problem_context d p) [] true p.goal
    → record { atoms = length atoms; fluents = length fluents; processes = processes; events = events; timed = timed; initial = s; goal = goal } ≡ expanded d p
expanded_is d p atoms fluents processes events timed s goal a f ps es ts i g =
    let names = ap length a ∙ labels_many (problem_context d p) 0 d.predicates in
    let fs = ap length f ∙ labels_many (problem_context d p) 0 d.functions in
    λ j. record { atoms = names j; fluents = fs j; processes = ps j; events = es j; timed = ts j; initial = i j; goal = g j }

-- ---- calls

missing_is_length : {X : Type 0} (p : X → Bool) (xs : List X) → position p xs ≡ None → length xs ≡ position_or_len p xs
missing_is_length p xs e = grind (arith, nat_tests, prefix_len-le-length (λ x. not (p x)) xs)

found_place : {X : Type 0} (p : X → Bool) (xs : List X) (i : ℕ) → position p xs ≡ Some i → position_or_len p xs ≡ i
found_place p xs i e = go (nat_lt (position_or_len p xs) (length xs)) e
  where
    go : (b : Bool) → cond b (Some (position_or_len p xs)) None ≡ Some i → position_or_len p xs ≡ i
    go true q = cc
    go false q = cc

beyond : {A : Type 0} (xs : List A) (i : ℕ) → length xs ≤ i → slice_get xs i ≡ None
beyond [] i h = refl
beyond (x ∷ xs) zero h = absurd (omega arith)
beyond (x ∷ xs) (suc i) h = beyond xs i (omega arith)

get_at : {A : Type 0} (xs : List A) (i : ℕ) (x : A) → i < length xs → x ≡ get_or xs i x → slice_get xs i ≡ Some x
get_at [] i x h m = absurd (omega arith)
get_at (y ∷ ys) zero x h m = ap Some (sym m)
get_at (y ∷ ys) (suc i) x h m = get_at ys i x (omega arith) m

names_many : (bs : List Schema) → length (map (λ (b : Schema). b.name.name) bs) ≡ length bs
names_many bs = simp length-map

-- the action at the place of a name, and none where the name has no place
pub named_found :
    (d : Domain) (name : List ℕ) (i : ℕ) (a : Schema) → position (bytes_eq name) (action_names d) ≡ Some i → a ≡ get_or d.actions i a
    → slice_get d.actions (position_or_len (bytes_eq name) (action_names d)) ≡ Some a
named_found d name i a f m =
    let within : i < length d.actions = subst (λ n. i < n) (names_many d.actions) (position-Some (bytes_eq name) (action_names d) i [] f).0 in
    rw (found_place (bytes_eq name) (action_names d) i f) (get_at d.actions i a within m)

pub named_none : (d : Domain) (name : List ℕ) → position (bytes_eq name) (action_names d) ≡ None → slice_get d.actions (position_or_len (bytes_eq name) (action_names d)) ≡ None
named_none d name e =
    let h = missing_is_length (bytes_eq name) (action_names d) e in
    let m = names_many d.actions in
    beyond d.actions (position_or_len (bytes_eq name) (action_names d)) (omega arith)

called_instance :
    (d : Domain) (p : Problem) (name : List ℕ) (args : List (List ℕ)) (a : Schema) (env : Environment) → slice_get d.actions (position_or_len (bytes_eq name) (action_names d)) ≡ Some a
    → bound_by (problem_context d p) a.params args [] ≡ Some env → called_of d p name args ≡ plan.Instance (action_meant (problem_context d p) a env)
called_instance d p name args a env e f = rw (e, f) refl

called_literals : (d : Domain) (name : List ℕ) (a : Schema) → slice_get d.actions (position_or_len (bytes_eq name) (action_names d)) ≡ Some a → call_literals d name ≡ schema_literals a
called_literals d name a e = rw e refl

-- whether an instance of an action is small, for all its instances
abbrev TellsSmall : Bool → Context → Schema → Type 0
TellsSmall small c a = (env : Environment) → small ≡ not (nat_lt 1000000 (action_nodes (action_meant c a env)))

bound_instance :
    (d : Domain) (p : Problem) (name : List ℕ) (args : List (List ℕ)) (a : Schema) (env : Environment) (b : Bool)
    → slice_get d.actions (position_or_len (bytes_eq name) (action_names d)) ≡ Some a
    → cond b (Some env) None ≡ bound_by (problem_context d p) a.params args [] → b ≡ true → called_of d p name args ≡ plan.Instance (action_meant (problem_context d p) a env)
bound_instance d p name args a env b e f q = called_instance d p name args a env e (sym f ∙ ap (λ x. cond x (Some env) None) q)

small_enough : (small : Bool) (c : Context) (a : Schema) (env : Environment) → TellsSmall small c a → small ≡ true → action_nodes (action_meant c a env) ≤ 1000000
small_enough small c a env t k = let h : not (nat_lt 1000000 (action_nodes (action_meant c a env))) ≡ true = sym (t env) ∙ k in grind (arith, nat_tests)

-- the instance that is answered
pub is_instance :
    (fits : Fraction → Type 0) (d : Domain) (p : Problem) (name : List ℕ) (args : List (List ℕ)) (a : Schema) (env : Environment) (b small : Bool) (m : Action)
    → slice_get d.actions (position_or_len (bytes_eq name) (action_names d)) ≡ Some a
    → cond b (Some env) None ≡ bound_by (problem_context d p) a.params args [] → b ≡ true
    → TellsSmall small (problem_context d p) a → small ≡ true → All (LiteralFits fits) (schema_literals a) → m ≡ action_meant (problem_context d p) a env
    → IsInstance fits d name (called_of d p name args) m
is_instance fits d p name args a env b small m e f q t k u w = record {
  is = bound_instance d p name args a env b e f q ∙ ap plan.Instance (sym w);
  small = subst (λ x. action_nodes x ≤ 1000000) (sym w) (small_enough small (problem_context d p) a env t k);
  literals = subst (All (LiteralFits fits)) (sym (called_literals d name a e)) u;
}

-- its ids fit
pub instance_fits :
    (d : Domain) (p : Problem) (name : List ℕ) (args : List (List ℕ)) (a : Schema) (env : Environment) (b : Bool) (m : Action)
    → IsTrue (is_well_typed d p) → slice_get d.actions (position_or_len (bytes_eq name) (action_names d)) ≡ Some a
    → cond b (Some env) None ≡ bound_by (problem_context d p) a.params args [] → b ≡ true → m ≡ action_meant (problem_context d p) a env
    → ActionFits (length (ground_names (problem_context d p) d.predicates)) (length (ground_names (problem_context d p) d.functions)) m
instance_fits d p name args a env b m typed e f q w = instances_fit d p typed name args m (bound_instance d p name args a env b e f q ∙ ap plan.Instance (sym w))

-- the ids of the ground problem fit
pub ground_fits : (fits : Fraction → Type 0) (d : Domain) (p : Problem) → IsTrue (is_well_typed d p) → IsGroundable fits d p → ProblemFits (expanded d p)
ground_fits fits d p typed g = expansion_fits d p typed g.counts

-- ---- arguments

-- an object that is no member of its parameter's type binds nothing
pub bound_none :
    (c : Context) (params : List TypedName) (args : List (List ℕ)) (env : Environment) (v : TypedName) (a : List ℕ)
    → 1 ≤ length params → v ≡ get_or params 0 v → 1 ≤ length args → a ≡ get_or args 0 a
    → list_any (nat_eq (object_place c a)) (members_of c v.kind.name) ≡ false → None ≡ bound_by c params args env
bound_none c [] args env v a h m k n q = absurd (omega arith)
bound_none c (x ∷ xs) [] env v a h m k n q = absurd (omega arith)
bound_none c (x ∷ xs) (y ∷ ys) env v a h m k n q =
    let e : list_any (nat_eq (object_place c y)) (members_of c x.kind.name) ≡ false = sym (λ j. list_any (nat_eq (object_place c (n j))) (members_of c (m j).kind.name)) ∙ q in
    rw e refl

-- one that is binds it, and the others behind it
pub bound_some :
    (c : Context) (params : List TypedName) (args : List (List ℕ)) (env : Environment) (v : TypedName) (a : List ℕ)
    → 1 ≤ length params → v ≡ get_or params 0 v → 1 ≤ length args → a ≡ get_or args 0 a
    → list_any (nat_eq (object_place c a)) (members_of c v.kind.name) ≡ true
    → bound_by c (drop 1 params) (drop 1 args) (env ++ (v.name.name, object_place c a) ∷ []) ≡ bound_by c params args env
bound_some c [] args env v a h m k n q = absurd (omega arith)
bound_some c (x ∷ xs) [] env v a h m k n q = absurd (omega arith)
bound_some c (x ∷ xs) (y ∷ ys) env v a h m k n q =
    let e : list_any (nat_eq (object_place c y)) (members_of c x.kind.name) ≡ true = sym (λ j. list_any (nat_eq (object_place c (n j))) (members_of c (m j).kind.name)) ∙ q in
    rw e (λ j. bound_by c xs ys (env ++ ((m j).name.name, object_place c (n j)) ∷ []))

-- the rest of a slice behind its first member
pub rest_all : {A : Type 0} (xs : List A) → take (length xs - 1) (drop 1 xs) ≡ drop 1 xs
rest_all [] = refl
rest_all (x ∷ xs) = let e : length (x ∷ xs) - 1 ≡ length xs = omega arith in ap (λ n. take n xs) e ∙ take_all (length xs) xs (omega arith)

pub ruleset naming = (named_found, named_none)
