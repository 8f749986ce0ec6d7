-- Worked rows of the canonical text: each form once, byte by byte. No form has a place here.
use Rattle.std.specs.Prelude.{◌≡◌, ℕ, Bool, true, false, List, [], ◌∷◌, codes}
use Prim.Native.String.{String}
use Rattle.plus_tokens.specs.declared.span.Span.{Span}
use Rattle.plus_tree.specs.declared.names.Spelled.{Spelled}
use Rattle.plus_tree.specs.declared.terms.Term.{Term}
use Rattle.plus_tree.specs.declared.terms.Term.TheVariants.{Object, Variable}
use Rattle.plus_tree.specs.declared.terms.TypedName.{TypedName}
use Rattle.plus_tree.specs.declared.terms.Use.{Use}
use Rattle.plus_tree.specs.declared.terms.Literal.{Literal}
use Rattle.plus_tree.specs.declared.terms.Comparison.TheVariants.{Less, AtMost, Equal, AtLeast, Greater}
use Rattle.plus_tree.specs.declared.trees.Leaf.{Leaf}
use Rattle.plus_tree.specs.declared.trees.LeafNode.{LeafNode}
use Rattle.plus_tree.specs.declared.trees.LeafNode.TheVariants.{Add, Delete, Assign, Increase, Decrease, ScaleUp, ScaleDown}
use Rattle.plus_tree.specs.declared.trees.Head.{Head}
use Rattle.plus_tree.specs.declared.trees.Schema.{Schema}
use Rattle.plus_tree.specs.declared.trees.Domain.{Domain}
use Rattle.plus_tree.specs.declared.trees.Init.{Init}
use Rattle.plus_tree.specs.declared.trees.Init.TheVariants.{Holds, Absent, Value, At, AtNot}
use Rattle.plus_tree.specs.declared.trees.Problem.{Problem}
use Rattle.plus_tree.specs.Expr.{Expr, x_number, x_clock, x_fluent, x_sum, x_product, x_minus, x_difference, x_quotient, no_exprs, more_exprs}
use Rattle.plus_tree.specs.Cond.{Cond, c_all, c_any, c_not, c_imply, c_forall, c_exists, c_atom, c_same, c_compare, no_conds, conds_of}
use Rattle.plus_tree.specs.Effect.{Effect, e_all, e_forall, e_when, e_leaf, no_effects, effects_of}
use Rattle.plus_printer.specs.Canon.{domain_text, problem_text}

-- the place of all forms
abbrev pub nowhere : Span
nowhere = record { start = 0; «end» = 0 }

-- a name, a name with its type, and a predicate or a function with its arguments
abbrev pub name : String → Spelled
name w = record { name = codes w; span = nowhere }

abbrev pub of_type : String → String → TypedName
of_type w kind = record { name = name w; kind = name kind }

abbrev pub use_of : String → List Term → Use
use_of w args = record { head = name w; args = args; span = nowhere }

-- an object and a variable
abbrev pub home : Term
home = Object (name "home")

abbrev pub t : Term
t = Variable (name "t")

-- (p), (f) and (g ?u)
abbrev pub p : Cond
p = c_atom (use_of "p" []) nowhere

abbrev pub f : Expr
f = x_fluent (use_of "f" []) nowhere

abbrev pub g : Expr
g = x_fluent (use_of "g" (Variable (name "u") ∷ [])) nowhere

-- a literal by its sign, its digits and its places behind the point, alone and as an expression
abbrev pub number : Bool → ℕ → ℕ → Literal
number negative digits places = record { negative = negative; digits = digits; places = places; span = nowhere }

abbrev pub n : Bool → ℕ → ℕ → Expr
n negative digits places = x_number (number negative digits places) nowhere

abbrev pub two : Expr
two = n false 2 0

-- what is written at one place: an atom, or the fluent (f) by 2
abbrev pub leaf : LeafNode → Leaf
leaf node = record { node = node; span = nowhere }

abbrev pub write : LeafNode → Effect
write node = e_leaf (leaf node) nowhere

abbrev pub change : (Use → Expr → LeafNode) → Effect
change node = write (node (use_of "f" []) two)

-- the condition with no member
abbrev pub always : Cond
always = c_all no_conds nowhere

-- an action, a process or an event, and a predicate or a function as it is declared
abbrev pub schema : String → List TypedName → Cond → Effect → Schema
schema w params condition effect = record { name = name w; params = params; condition = condition; effect = effect; span = nowhere }

abbrev pub head : String → List TypedName → Head
head w params = record { name = name w; params = params; span = nowhere }

-- each form of a condition, each comparison and each form of an expression
abbrev pub condition : Cond
condition = c_any (conds_of (
    c_not p nowhere
    ∷ c_imply p (c_atom (use_of "at" (t ∷ home ∷ [])) nowhere) nowhere
    ∷ c_forall (of_type "x" "object" ∷ of_type "y" "van" ∷ []) p nowhere
    ∷ c_exists [] p nowhere
    ∷ c_same t home nowhere
    ∷ c_compare Less (x_sum (more_exprs f (more_exprs two (more_exprs two no_exprs))) nowhere) (x_product (more_exprs f (more_exprs two no_exprs)) nowhere) nowhere
    ∷ c_compare AtMost (x_minus f nowhere) (x_difference f two nowhere) nowhere
    ∷ c_compare Equal (x_quotient f two nowhere) (n false 5 2) nowhere
    ∷ c_compare AtLeast f (n true 15 1) nowhere
    ∷ c_compare Greater f g nowhere
    ∷ [])) nowhere

-- each form of an effect, and `when` with one leaf, with none and with two
abbrev pub effect : Effect
effect = e_all (effects_of (
    write (Add (use_of "p" []))
    ∷ write (Delete (use_of "at" (t ∷ home ∷ [])))
    ∷ change Assign ∷ change Increase ∷ change Decrease ∷ change ScaleUp ∷ change ScaleDown
    ∷ e_forall (of_type "x" "van" ∷ []) (e_when p (leaf (Add (use_of "p" [])) ∷ []) nowhere) nowhere
    ∷ e_when p [] nowhere
    ∷ e_when always (leaf (Add (use_of "p" [])) ∷ leaf (Delete (use_of "p" [])) ∷ []) nowhere
    ∷ [])) nowhere

-- a domain with each section
abbrev pub domain : Domain
domain = record {
  name = name "d";
  requirements = name "adl" ∷ name "fluents" ∷ [];
  types = of_type "van" "truck" ∷ of_type "truck" "object" ∷ [];
  constants = of_type "home" "object" ∷ [];
  predicates = head "p" [] ∷ head "at" (of_type "t" "truck" ∷ of_type "x" "object" ∷ []) ∷ [];
  functions = head "f" [] ∷ head "g" (of_type "t" "van" ∷ []) ∷ [];
  actions = schema "go" (of_type "t" "truck" ∷ of_type "u" "van" ∷ []) condition effect ∷ schema "idle" [] always (e_all no_effects nowhere) ∷ [];
  processes = schema "flow" [] always (write (Increase (use_of "f" []) (x_product (more_exprs (x_clock nowhere) (more_exprs two no_exprs)) nowhere))) ∷ [];
  events = schema "stop" [] (c_any no_conds nowhere) (write (Add (use_of "p" []))) ∷ [];
  span = nowhere;
}

-- its sections stand in their order, each on a line
abbrev pub DomainRow : Type 0
DomainRow =
    domain_text domain
    ≡ codes "(define (domain d)\n (:requirements :adl :fluents)\n (:types van - truck truck - object)\n (:constants home - object)\n (:predicates (p) (at ?t - truck ?x - object))\n (:functions (f) (g ?t - van))\n (:action go :parameters (?t - truck ?u - van) :precondition (or (not (p)) (imply (p) (at ?t home)) (forall (?x - object ?y - van) (p)) (exists () (p)) (= ?t home) (< (+ (f) 2 2) (* (f) 2)) (<= (- (f)) (- (f) 2)) (= (/ (f) 2) 0.05) (>= (f) -1.5) (> (f) (g ?u))) :effect (and (p) (not (at ?t home)) (assign (f) 2) (increase (f) 2) (decrease (f) 2) (scale-up (f) 2) (scale-down (f) 2) (forall (?x - van) (when (p) (p))) (when (p) (and)) (when (and) (and (p) (not (p))))))\n (:action idle :parameters () :precondition (and) :effect (and))\n (:process flow :parameters () :precondition (and) :effect (increase (f) (* #t 2)))\n (:event stop :parameters () :precondition (or) :effect (p))\n)\n"

-- a domain that declares nothing
abbrev pub bare : Domain
bare = record { name = name "d"; requirements = []; types = []; constants = []; predicates = []; functions = []; actions = []; processes = []; events = []; span = nowhere }

-- no section is written that has nothing
abbrev pub BareRow : Type 0
BareRow = domain_text bare ≡ codes "(define (domain d)\n)\n"

-- a problem with these requirements, objects and members of the initial state
abbrev pub problem : List Spelled → List TypedName → List Init → Problem
problem requirements objects init =
    record { name = name "q"; domain = name "d"; requirements = requirements; objects = objects; init = init; goal = always; span = nowhere }

-- each member of an initial state
abbrev pub ProblemRow : Type 0
ProblemRow =
    problem_text (problem (name "adl" ∷ []) (of_type "a" "van" ∷ []) (
    Holds (use_of "p" [])
    ∷ Absent (use_of "p" []) nowhere
    ∷ Value (use_of "f" []) (number true 1 3) nowhere
    ∷ At (number false 5 0) (use_of "p" []) nowhere
    ∷ AtNot (number false 25 1) (use_of "p" []) nowhere
    ∷ []))
    ≡ codes "(define (problem q)\n (:domain d)\n (:requirements :adl)\n (:objects a - van)\n (:init (p) (not (p)) (= (f) -0.001) (at 5 (p)) (at 2.5 (not (p))))\n (:goal (and))\n)\n"

-- the initial state and the goal are written in any case
abbrev pub ShortRow : Type 0
ShortRow = problem_text (problem [] [] []) ≡ codes "(define (problem q)\n (:domain d)\n (:init)\n (:goal (and))\n)\n"
