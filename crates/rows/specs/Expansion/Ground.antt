-- The ground form of the depot, worked by hand. The objects are home, a, v and t, in that order, since constants come
-- first; v is a van, and so a truck too.
use Rattle.std.specs.Prelude.{◌≡◌, ℕ, Bool, true, false, List, [], ◌∷◌, map, Some, None, pos, codes}
use Prim.Native.String.{String}
use Rattle.plus_fraction.specs.Fraction.{Fraction, over, whole}
use Rattle.plus_model.specs.Terms.{Number, Fluent, Sum, Difference, Product, Quotient, Expression, Above, Condition, Always, Never, Both, Either, Atom, Compare, Write, Add, Delete, Decrease, Effect, Action, Event, Process, Timed}
use Rattle.plus_model.specs.Plan.{Called, Instance, UnknownAction, WrongArguments}
use Rattle.plus_tree.specs.declared.trees.Init.{Init}
use Rattle.plus_tree.specs.declared.trees.Init.TheVariants.{At}
use Rattle.plus_tree.specs.Expr.{Expr, x_sum, x_product, x_minus, x_quotient, exprs_of}
use Rattle.plus_tree.specs.Cond.{Cond, c_not, c_imply}
use Rattle.plus_types.specs.declared.faults.File.TheVariants as files
use Rattle.plus_types.specs.Faults.{Context, problem_context, type_faults}
use Rattle.plus_expansion.specs.Objects.{members_of}
use Rattle.plus_expansion.specs.Numbers.{number_of}
use Rattle.plus_expansion.specs.Counts.{first_over}
use Rattle.plus_expansion.specs.Environments.{environments, bound_object}
use Rattle.plus_expansion.specs.Expansion.{expanded, labels_meant, instances_of, action_meant, condition_meant, expression_meant, timed_meant}
use Rattle.plus_expansion.specs.Calls.{called_of}
use Rattle.plus_expansion.specs.Nodes.{problem_nodes, action_nodes}
use Rattle.plus_expansion.specs.Literals.{literals_of, call_literals}
use Rattle.plus_expansion.specs.Counting.{counts_of}
use Rattle.plus_typing.specs.Worked.Words.{name_at, form_at, typed, the, var, use_of, literal, number, fluent, atom, both, either, every, some}
use Rattle.rows.specs.Expansion.Depot.{drive, sail, depot, delivery, half, shifts}

abbrev pub here : Context
here = problem_context depot delivery

-- words, and a number of the text
abbrev pub named : List String → List (List ℕ)
named ws = map codes ws

abbrev pub given : ℕ → Expression
given n = Number (whole (pos n))

-- ---- objects, atoms and fluents

pub record ObjectRows : Type 0 where
  pub well_typed : type_faults depot delivery ≡ []
  pub places : members_of here (codes "place") ≡ 0 ∷ 1 ∷ []
  pub vans : members_of here (codes "van") ≡ 2 ∷ []
  pub trucks : members_of here (codes "truck") ≡ 2 ∷ 3 ∷ []
  pub boats : members_of here (codes "boat") ≡ []
  pub objects : members_of here (codes "object") ≡ 0 ∷ 1 ∷ 2 ∷ 3 ∷ []
  pub choices :
      environments here (typed 0 "t" "truck" ∷ typed 0 "p" "place" ∷ []) []
      ≡ ((codes "t", 2) ∷ (codes "p", 0) ∷ [])
      ∷ ((codes "t", 2) ∷ (codes "p", 1) ∷ [])
      ∷ ((codes "t", 3) ∷ (codes "p", 0) ∷ [])
      ∷ ((codes "t", 3) ∷ (codes "p", 1) ∷ [])
      ∷ []
  pub no_choice : environments here (typed 0 "p" "place" ∷ typed 0 "b" "boat" ∷ []) [] ≡ []
  pub empty_choice : environments here [] [] ≡ [] ∷ []

pub record NumberRows : Type 0 where
  pub atoms :
      (labels_meant depot delivery).atoms
      ≡ named ("(at v home)" ∷ "(at v a)" ∷ "(at t home)" ∷ "(at t a)" ∷ "(seen home)" ∷ "(seen a)" ∷ "(done)" ∷ [])
  pub fluents : (labels_meant depot delivery).fluents ≡ named ("(fuel v)" ∷ "(fuel t)" ∷ [])
  pub first : number_of here here.predicates (codes "at") (2 ∷ 0 ∷ []) ≡ 0
  pub second : number_of here here.predicates (codes "at") (2 ∷ 1 ∷ []) ≡ 1
  pub third : number_of here here.predicates (codes "at") (3 ∷ 0 ∷ []) ≡ 2
  pub last : number_of here here.predicates (codes "done") [] ≡ 6
  pub wrong_type : number_of here here.predicates (codes "at") (0 ∷ 2 ∷ []) ≡ 7
  pub of_fluent : number_of here here.functions (codes "fuel") (3 ∷ []) ≡ 1

-- ---- the ground problem

-- a truck is idle where it is at a place: at home or at a
abbrev pub idle_of : String → ℕ → ℕ → ℕ → Process
idle_of label home a fuel = record {
  label = codes label;
  condition = Either (Atom home true) (Either (Atom a true) Never);
  rates =
      record { fluent = fuel; up = true; amount = given 1 } ∷ record { fluent = fuel; up = false; amount = Fluent fuel } ∷ [];
}

-- the negation of a comparison is not another comparison
abbrev pub stop_of : String → ℕ → Event
stop_of label fuel = record {
  label = codes label;
  condition = Compare Above (Fluent fuel) (given 0) false;
  effects = record { guard = Always; write = Add 6 } ∷ [];
}

pub record ProblemRows : Type 0 where
  pub atoms : (expanded depot delivery).atoms ≡ 7
  pub fluents : (expanded depot delivery).fluents ≡ 2
  pub processes : (expanded depot delivery).processes ≡ idle_of "(idle v)" 0 1 0 ∷ idle_of "(idle t)" 2 3 1 ∷ []
  pub events : (expanded depot delivery).events ≡ stop_of "(stop v)" 0 ∷ stop_of "(stop t)" 1 ∷ []
  pub first_atoms : (expanded depot delivery).initial.atoms ≡ false ∷ true ∷ false ∷ false ∷ false ∷ false ∷ false ∷ []
  pub first_values : (expanded depot delivery).initial.fluents ≡ Some (whole (pos 10)) ∷ None ∷ []
  pub goal_meant :
      (expanded depot delivery).goal
      ≡ Both (Either (Atom 1 false) (Either (Atom 4 true) Never))
      (Both Always (Both (Either (Atom 4 true) (Either (Atom 5 true) Never)) Always))

-- ---- timed literals

abbrev pub becomes : Bool → Fraction → ℕ → Timed
becomes positive time atom = record { time = time; atom = atom; positive = positive }

-- the literal (at -1 (done)), which no text spells
abbrev pub below_zero : Init
below_zero = At (record { negative = true; digits = 1; places = 0; span = name_at 0 }) (use_of 0 "done" []) (form_at 0)

-- by their times, and where two have one time in the order of the text; nothing of them is there at first
pub record TimedRows : Type 0 where
  pub well_typed : type_faults depot shifts ≡ []
  pub none : (expanded depot delivery).timed ≡ []
  pub in_order :
      (expanded depot shifts).timed
      ≡ becomes true (over (pos 5) 10) 6
      ∷ becomes true (whole (pos 2)) 5
      ∷ becomes false (whole (pos 2)) 5
      ∷ becomes false (whole (pos 3)) 6
      ∷ becomes true (whole (pos 3)) 3
      ∷ []
  pub first_atoms : (expanded depot shifts).initial.atoms ≡ false ∷ true ∷ false ∷ false ∷ false ∷ false ∷ false ∷ []
  pub before_zero : timed_meant here (below_zero ∷ []) ≡ []
  pub times :
      literals_of depot shifts
      ≡ (files.Problem, literal 140 3)
      ∷ (files.Problem, literal 146 2)
      ∷ (files.Problem, literal 150 3)
      ∷ (files.Problem, half)
      ∷ (files.Problem, literal 163 2)
      ∷ (files.Domain, literal 93 0)
      ∷ []

-- ---- actions

abbrev pub plain : Write → Effect
plain w = record { guard = Always; write = w }

-- the van goes from a to home
abbrev pub van_home : Action
van_home = record {
  label = codes "(drive v a home)";
  condition = Both (Atom 1 true) (Both Always Always);
  effects =
      plain (Delete 1)
      ∷ plain (Add 0)
      ∷ record { guard = Atom 0 true; write = Add 4 }
      ∷ record { guard = Atom 1 true; write = Add 5 }
      ∷ plain (Decrease 0 (given 1))
      ∷ [];
}

abbrev pub calls : String → List String → Called
calls name args = called_of depot delivery (codes name) (named args)

pub record CallRows : Type 0 where
  pub instance : calls "drive" ("v" ∷ "a" ∷ "home" ∷ []) ≡ Instance van_home
  pub unknown : calls "fly" ("v" ∷ []) ≡ UnknownAction (codes "fly")
  pub event_is_none : calls "stop" ("v" ∷ []) ≡ UnknownAction (codes "stop")
  pub few : calls "drive" ("v" ∷ "a" ∷ []) ≡ WrongArguments (codes "drive")
  pub many : calls "drive" ("v" ∷ "a" ∷ "home" ∷ "a" ∷ []) ≡ WrongArguments (codes "drive")
  pub wrong_type : calls "drive" ("a" ∷ "a" ∷ "home" ∷ []) ≡ WrongArguments (codes "drive")
  pub unknown_object : calls "drive" ("w" ∷ "a" ∷ "home" ∷ []) ≡ WrongArguments (codes "drive")
  pub no_object_of_its_type : calls "sail" ("v" ∷ []) ≡ WrongArguments (codes "sail")
  pub in_order :
      map (λ a. a.label) (instances_of here (action_meant here) (drive ∷ sail ∷ []))
      ≡ named (
      "(drive v home home)" ∷ "(drive v home a)" ∷ "(drive v a home)" ∷ "(drive v a a)"
      ∷ "(drive t home home)" ∷ "(drive t home a)" ∷ "(drive t a home)" ∷ "(drive t a a)" ∷ [])

-- ---- conditions and expressions

abbrev pub Means : Cond → Condition → Type 0
Means c meant = condition_meant here [] true c ≡ meant

abbrev pub seen_home : Cond
seen_home = atom 0 "seen" (the 0 "home" ∷ [])

abbrev pub seen_a : Cond
seen_a = atom 0 "seen" (the 0 "a" ∷ [])

abbrev pub seen_all : Cond
seen_all = every (typed 0 "p" "place" ∷ []) (atom 0 "seen" (var 0 "p" ∷ []))

-- negations go inward, and a quantifier is over the objects of its types
pub record ConditionRows : Type 0 where
  pub none : Means (both []) Always
  pub one_of_none : Means (either []) Never
  pub any : Means (either (seen_home ∷ seen_a ∷ [])) (Either (Atom 4 true) (Either (Atom 5 true) Never))
  pub not_any : Means (c_not (either (seen_home ∷ seen_a ∷ [])) (form_at 0)) (Both (Atom 4 false) (Both (Atom 5 false) Always))
  pub not_imply :
      Means (c_not (c_imply seen_home seen_a (form_at 0)) (form_at 0)) (Both (Atom 4 true) (Both (Atom 5 false) Always))
  pub for_every : Means seen_all (Both (Atom 4 true) (Both (Atom 5 true) Always))
  pub not_every : Means (c_not seen_all (form_at 0)) (Either (Atom 4 false) (Either (Atom 5 false) Never))
  pub over_none : Means (some (typed 0 "b" "boat" ∷ []) seen_home) Never
  pub innermost : bound_object 9 ((codes "x", 1) ∷ (codes "y", 2) ∷ (codes "x", 3) ∷ []) (codes "x") ≡ 3
  pub unbound : bound_object 9 ((codes "x", 1) ∷ []) (codes "y") ≡ 9
  pub every_of_none : Means (every (typed 0 "p" "boat" ∷ []) seen_home) Always
  pub bound_twice :
      Means (some (typed 0 "x" "van" ∷ []) (some (typed 0 "x" "place" ∷ []) (atom 0 "seen" (var 0 "x" ∷ []))))
      (Either (Either (Atom 4 true) (Either (Atom 5 true) Never)) Never)

abbrev pub three : List Expr
three = number 0 1 ∷ number 0 2 ∷ fluent 0 "fuel" (the 0 "t" ∷ []) ∷ []

pub record ExpressionRows : Type 0 where
  pub sum : expression_meant here [] (x_sum (exprs_of three) (form_at 0)) ≡ Sum (Sum (given 1) (given 2)) (Fluent 1)
  pub product : expression_meant here [] (x_product (exprs_of three) (form_at 0)) ≡ Product (Product (given 1) (given 2)) (Fluent 1)
  pub minus : expression_meant here [] (x_minus (number 0 2) (form_at 0)) ≡ Difference (given 0) (given 2)
  pub quotient :
      expression_meant here [] (x_quotient (number 0 2) (number 0 1) (form_at 0)) ≡ Quotient (given 2) (given 1)

-- ---- sizes and literals

-- a node is a condition, an expression, an effect or a rate
pub record SizeRows : Type 0 where
  pub problem : problem_nodes (expanded depot delivery) ≡ 32
  pub action : action_nodes van_home ≡ 14
  pub within : first_over (counts_of depot delivery) ≡ None
  pub literals : literals_of depot delivery ≡ (files.Problem, literal 113 10) ∷ (files.Domain, literal 93 0) ∷ []
  pub of_action : call_literals depot (codes "drive") ≡ literal 63 1 ∷ []
  pub of_none : call_literals depot (codes "fly") ≡ []
