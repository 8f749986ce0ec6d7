-- Short words for trees. Each name and form has a number, which is its place: a name goes from it up to the next one,
-- a form up to the ninth.
use Rattle.std.specs.Prelude.{ℕ, ◌+◌, false, List, [], codes}
use Prim.Native.String.{String}
use Rattle.plus_tokens.specs.declared.span.Span.{Span}
use Rattle.plus_tree.specs.declared.names.Spelled.{Spelled}
use Rattle.plus_tree.specs.declared.terms.Term.{Term}
use Rattle.plus_tree.specs.declared.terms.Term.TheVariants.{Object, Variable}
use Rattle.plus_tree.specs.declared.terms.TypedName.{TypedName}
use Rattle.plus_tree.specs.declared.terms.Use.{Use}
use Rattle.plus_tree.specs.declared.terms.Literal.{Literal}
use Rattle.plus_tree.specs.declared.trees.Head.{Head}
use Rattle.plus_tree.specs.declared.trees.Leaf.{Leaf}
use Rattle.plus_tree.specs.declared.trees.LeafNode.{LeafNode}
use Rattle.plus_tree.specs.declared.trees.Schema.{Schema}
use Rattle.plus_tree.specs.declared.trees.Domain.{Domain}
use Rattle.plus_tree.specs.declared.trees.Init.{Init}
use Rattle.plus_tree.specs.declared.trees.Problem.{Problem}
use Rattle.plus_tree.specs.Expr.{Expr, x_number, x_clock, x_fluent}
use Rattle.plus_tree.specs.Cond.{Cond, c_all, c_any, c_forall, c_exists, c_atom, conds_of}
use Rattle.plus_tree.specs.Effect.{Effect, e_all, e_forall, e_leaf, effects_of}

-- ---- places and names

abbrev pub name_at : ℕ → Span
name_at n = record { start = n; «end» = n + 1 }

abbrev pub form_at : ℕ → Span
form_at n = record { start = n; «end» = n + 9 }

abbrev pub word : ℕ → String → Spelled
word n w = record { name = codes w; span = name_at n }

-- a member of a list, and its type at the next place
abbrev pub typed : ℕ → String → String → TypedName
typed n w kind = record { name = word n w; kind = word (n + 1) kind }

-- a member without a type
abbrev pub untyped : ℕ → String → TypedName
untyped n w = record { name = word n w; kind = record { name = codes "object"; span = record { start = 0; «end» = 0 } } }

-- ---- uses and numbers

abbrev pub the : ℕ → String → Term
the n w = Object (word n w)

abbrev pub var : ℕ → String → Term
var n w = Variable (word n w)

-- a form, and its head at the next place
abbrev pub use_of : ℕ → String → List Term → Use
use_of n w args = record { head = word (n + 1) w; args = args; span = form_at n }

abbrev pub literal : ℕ → ℕ → Literal
literal n digits = record { negative = false; digits = digits; places = 0; span = name_at n }

-- ---- expressions, conditions and effects

abbrev pub number : ℕ → ℕ → Expr
number n digits = x_number (literal n digits) (name_at n)

abbrev pub clock : ℕ → Expr
clock n = x_clock (name_at n)

abbrev pub fluent : ℕ → String → List Term → Expr
fluent n w args = x_fluent (use_of n w args) (form_at n)

abbrev pub atom : ℕ → String → List Term → Cond
atom n w args = c_atom (use_of n w args) (form_at n)

abbrev pub both : List Cond → Cond
both cs = c_all (conds_of cs) (form_at 0)

abbrev pub either : List Cond → Cond
either cs = c_any (conds_of cs) (form_at 0)

abbrev pub every : List TypedName → Cond → Cond
every vs c = c_forall vs c (form_at 0)

abbrev pub some : List TypedName → Cond → Cond
some vs c = c_exists vs c (form_at 0)

abbrev pub leaf : ℕ → LeafNode → Leaf
leaf n node = record { node = node; span = form_at n }

abbrev pub write : ℕ → LeafNode → Effect
write n node = e_leaf (leaf n node) (form_at n)

abbrev pub all : List Effect → Effect
all es = e_all (effects_of es) (form_at 0)

abbrev pub for_all : List TypedName → Effect → Effect
for_all vs e = e_forall vs e (form_at 0)

-- ---- declarations

abbrev pub head : ℕ → String → List TypedName → Head
head n w params = record { name = word n w; params = params; span = form_at n }

abbrev pub schema : ℕ → String → List TypedName → Cond → Effect → Schema
schema n w params condition effect =
    record { name = word n w; params = params; condition = condition; effect = effect; span = form_at n }

-- the domain `d` that declares nothing
abbrev pub bare : Domain
bare = record {
  name = word 1 "d";
  requirements = [];
  types = [];
  constants = [];
  predicates = [];
  functions = [];
  actions = [];
  processes = [];
  events = [];
  span = form_at 0;
}

-- a problem for it
abbrev pub problem : List TypedName → List Init → Cond → Problem
problem objects init goal = record {
  name = word 2 "q";
  domain = word 3 "d";
  requirements = [];
  objects = objects;
  init = init;
  goal = goal;
  span = form_at 0;
}

-- without objects, and with a goal that always holds
abbrev pub any_problem : Problem
any_problem = problem [] [] (both [])
