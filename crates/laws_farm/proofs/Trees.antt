-- The trees of a farm, but for spans: its domain, and its problem with a list of tanks.
use Rattle.std.specs.Prelude.{◌≡◌, ℕ, zero, suc, ◌+◌, false, List, [], ◌∷◌, ◌++◌, map, codes, decimal}
use Rattle.std.proofs.Common.{ap, sym, ◌∙◌, refl, arith}
use Rattle.plus_tree.specs.declared.names.Spelled.{Spelled}
use Rattle.plus_tree.specs.declared.terms.Term.TheVariants.{Object, Variable}
use Rattle.plus_tree.specs.declared.terms.TypedName.{TypedName}
use Rattle.plus_tree.specs.declared.terms.Use.{Use}
use Rattle.plus_tree.specs.declared.terms.Literal.{Literal}
use Rattle.plus_tree.specs.declared.terms.Comparison.TheVariants.{AtLeast}
use Rattle.plus_tree.specs.declared.trees.LeafNode.{LeafNode}
use Rattle.plus_tree.specs.declared.trees.LeafNode.TheVariants.{Add, Delete, Increase}
use Rattle.plus_tree.specs.declared.trees.Head.{Head}
use Rattle.plus_tree.specs.declared.trees.Schema.{Schema}
use Rattle.plus_tree.specs.declared.trees.Domain.{Domain}
use Rattle.plus_tree.specs.declared.trees.Init.{Init}
use Rattle.plus_tree.specs.declared.trees.Init.TheVariants.{Value}
use Rattle.plus_tree.specs.declared.trees.Problem.{Problem}
use Rattle.plus_tree.specs.Expr.{Expr, x_clock, x_fluent, x_product, no_exprs, more_exprs}
use Rattle.plus_tree.specs.Cond.{Cond, c_all, c_not, c_forall, c_atom, c_compare, no_conds, more_conds}
use Rattle.plus_tree.specs.Effect.{Effect, e_leaf}
use Rattle.plus_trial.specs.Farm.{tanks, rate_of, capacity_of}
use Rattle.plus_canonical.specs.Same.{no_span}

abbrev pub named : List ℕ → Spelled
named w = record { name = w; span = no_span }

abbrev pub tank_type : Spelled
tank_type = named (codes "tank")

-- `?t - tank`
abbrev pub each_tank : List TypedName
each_tank = record { name = named (codes "t"); kind = tank_type } ∷ []

-- `(level ?t)`
abbrev pub of_tank : List ℕ → Use
of_tank w = record { head = named w; args = Variable (named (codes "t")) ∷ []; span = no_span }

abbrev pub fluent_of : List ℕ → Expr
fluent_of w = x_fluent (of_tank w) no_span

abbrev pub is_full : Cond
is_full = c_compare AtLeast (fluent_of (codes "level")) (fluent_of (codes "cap")) no_span

-- ---- the domain

abbrev head_of : List ℕ → Head
head_of w = record { name = named w; params = each_tank; span = no_span }

abbrev is_opened : Cond
is_opened = c_atom (of_tank (codes "open")) no_span

abbrev leaf_of : LeafNode → Effect
leaf_of node = e_leaf (record { node = node; span = no_span }) no_span

abbrev rule_of : List ℕ → Cond → LeafNode → Schema
rule_of w c node = record { name = named w; params = each_tank; condition = c; effect = leaf_of node; span = no_span }

-- its rate, times `#t`
abbrev flow : Expr
flow = x_product (more_exprs (x_clock no_span) (more_exprs (fluent_of (codes "rate")) no_exprs)) no_span

abbrev pub domain_tree : Domain
domain_tree = record {
  name = named (codes "farm");
  requirements = [];
  types = record { name = tank_type; kind = named (codes "object") } ∷ [];
  constants = [];
  predicates = head_of (codes "open") ∷ [];
  functions = head_of (codes "level") ∷ head_of (codes "rate") ∷ head_of (codes "cap") ∷ [];
  actions = rule_of (codes "open-valve") (c_not is_opened no_span) (Add (of_tank (codes "open"))) ∷ [];
  processes = rule_of (codes "fill") is_opened (Increase (of_tank (codes "level")) flow) ∷ [];
  events = rule_of (codes "full") (c_all (more_conds is_opened (more_conds is_full no_conds)) no_span) (Delete (of_tank (codes "open"))) ∷ [];
  span = no_span;
}

-- ---- the problem

abbrev pub tank_name : ℕ → List ℕ
tank_name i = 116 ∷ decimal i

abbrev pub tank_named : ℕ → Spelled
tank_named i = named (tank_name i)

abbrev pub object_of : ℕ → TypedName
object_of i = record { name = tank_named i; kind = tank_type }

-- `(level t3)`
abbrev pub at_tank : List ℕ → ℕ → Use
at_tank w i = record { head = named w; args = Object (tank_named i) ∷ []; span = no_span }

abbrev pub number_of : ℕ → Literal
number_of k = record { negative = false; digits = k; places = 0; span = no_span }

-- `(= (level t3) 0)`
abbrev pub value_of : List ℕ → ℕ → ℕ → Init
value_of w i k = Value (at_tank w i) (number_of k) no_span

abbrev pub inits_of : List ℕ → List Init
inits_of [] = []
inits_of (i ∷ is) = value_of (codes "level") i 0 ∷ value_of (codes "rate") i (rate_of i) ∷ value_of (codes "cap") i (capacity_of i) ∷ inits_of is

abbrev pub farm_goal : Cond
farm_goal = c_forall each_tank is_full no_span

abbrev pub farm_name : ℕ → List ℕ
farm_name n = codes "farm" ++ decimal n

abbrev pub problem_tree : ℕ → List ℕ → Problem
problem_tree n is = record {
  name = named (farm_name n);
  domain = named (codes "farm");
  requirements = [];
  objects = map object_of is;
  init = inits_of is;
  goal = farm_goal;
  span = no_span;
}

-- ---- the tanks, the first one first

-- k tanks, from the tank a on
abbrev pub counted : ℕ → ℕ → List ℕ
counted a zero = []
counted a (suc k) = a ∷ counted (suc a) k

counted_more : (a k : ℕ) → counted a (suc k) ≡ counted a k ++ (a + k) ∷ []
counted_more a zero = let n : a ≡ a + 0 = omega arith in ap (λ (m : ℕ). m ∷ []) n
counted_more a (suc k) =
    let n : suc a + k ≡ a + suc k = omega arith in
    ap (λ (l : List ℕ). a ∷ l) (counted_more (suc a) k ∙ ap (λ (m : ℕ). counted (suc a) k ++ m ∷ []) n)

pub tanks_counted : (n : ℕ) → tanks n ≡ counted 1 n
tanks_counted zero = refl
tanks_counted (suc n) =
    let m : suc n ≡ 1 + n = omega arith in
    ap (λ (l : List ℕ). l ++ suc n ∷ []) (tanks_counted n) ∙ ap (λ (m : ℕ). counted 1 n ++ m ∷ []) m ∙ sym (counted_more 1 n)
