-- Names that a translation adds begin with `pp-`; so no predicate, function, action or variable of a pair that is
-- translated may have such a name. These are the places where one of them does, in the order of the type rules:
-- predicates, functions, actions, processes, events, the goal; inside each in text order.
use Rattle.std.specs.Prelude.{ℕ, Bool, List, [], ◌∷◌, ◌++◌, take, codes, if◌then◌else◌}
use Rattle.std.specs.List.{flat_map}
use Rattle.std.specs.Str.{bytes_eq}
use Rattle.plus_tokens.specs.declared.span.Span.{Span}
use Rattle.plus_tree.specs.declared.names.Spelled.{Spelled}
use Rattle.plus_tree.specs.declared.terms.TypedName.{TypedName}
use Rattle.plus_tree.specs.declared.trees.Head.{Head}
use Rattle.plus_tree.specs.declared.trees.Schema.{Schema}
use Rattle.plus_tree.specs.declared.trees.Domain.{Domain}
use Rattle.plus_tree.specs.declared.trees.Problem.{Problem}
use Rattle.plus_tree.specs.Cond.{Cond, Conds, c_all, c_any, c_not, c_imply, c_forall, c_exists, c_atom, c_same, c_compare, no_conds, more_conds}
use Rattle.plus_tree.specs.Effect.{Effect, Effects, e_all, e_forall, e_when, e_leaf, no_effects, more_effects}
use Rattle.plus_types.specs.declared.faults.File.{File}
use Rattle.plus_types.specs.declared.faults.File.TheVariants as files

-- the name begins as those that a translation adds
abbrev pub is_taken : List ℕ → Bool
is_taken name = bytes_eq (take 3 name) (codes "pp-")

-- a place in one of the two texts
abbrev pub Place : Type 0
Place = File × Span

abbrev pub taken_name : File → Spelled → List Place
taken_name file x = if is_taken x.name then (file, x.span) ∷ [] else []

abbrev pub taken_list : File → List TypedName → List Place
taken_list file vs = flat_map (λ v. taken_name file v.name) vs

-- the variables that are bound in a condition, and in an effect
abbrev mutual
  pub taken_in : File → Cond → List Place
  taken_in file (c_all cs s) = taken_among file cs
  taken_in file (c_any cs s) = taken_among file cs
  taken_in file (c_not c s) = taken_in file c
  taken_in file (c_imply c d s) = taken_in file c ++ taken_in file d
  taken_in file (c_forall vs c s) = taken_list file vs ++ taken_in file c
  taken_in file (c_exists vs c s) = taken_list file vs ++ taken_in file c
  taken_in file (c_atom u s) = []
  taken_in file (c_same t u s) = []
  taken_in file (c_compare op e f s) = []

  pub taken_among : File → Conds → List Place
  taken_among file no_conds = []
  taken_among file (more_conds c cs) = taken_in file c ++ taken_among file cs

abbrev mutual
  pub taken_in_effect : File → Effect → List Place
  taken_in_effect file (e_all es s) = taken_in_effects file es
  taken_in_effect file (e_forall vs e s) = taken_list file vs ++ taken_in_effect file e
  taken_in_effect file (e_when c ls s) = taken_in file c
  taken_in_effect file (e_leaf l s) = []

  pub taken_in_effects : File → Effects → List Place
  taken_in_effects file no_effects = []
  taken_in_effects file (more_effects e es) = taken_in_effect file e ++ taken_in_effects file es

-- a predicate or a function: its name, its parameters
abbrev pub taken_head : Head → List Place
taken_head h = taken_name files.Domain h.name ++ taken_list files.Domain h.params

-- the variables of a schema
abbrev pub taken_schema : Schema → List Place
taken_schema a = taken_list files.Domain a.params ++ (taken_in files.Domain a.condition ++ taken_in_effect files.Domain a.effect)

-- an action: its name, its variables
abbrev pub taken_action : Schema → List Place
taken_action a = taken_name files.Domain a.name ++ taken_schema a

abbrev pub names_taken : Domain → Problem → List Place
names_taken d p =
    flat_map taken_head d.predicates ++ (flat_map taken_head d.functions ++ (flat_map taken_action d.actions
    ++ (flat_map taken_schema d.processes ++ (flat_map taken_schema d.events ++ taken_in files.Problem p.goal))))
