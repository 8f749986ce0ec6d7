-- Worked rows of the order of the walk, and of timed literals.
use Rattle.std.specs.Prelude.{◌≡◌, [], ◌∷◌, ◌++◌}
use Rattle.plus_tree.specs.declared.trees.Domain.{Domain}
use Rattle.plus_tree.specs.declared.trees.Init.TheVariants.{Holds, Absent, At, AtNot}
use Rattle.plus_tree.specs.declared.trees.LeafNode.TheVariants.{Add, Increase}
use Rattle.plus_tree.specs.declared.trees.Problem.{Problem}
use Rattle.plus_types.specs.declared.faults.File.TheVariants as files
use Rattle.plus_types.specs.declared.faults.Wrong.TheVariants.{UnknownType, UnknownName, Arity, WrongType, Twice, Unbound, RateForm, DomainName}
use Rattle.plus_types.specs.Faults.{type_faults}
use Rattle.plus_typing.specs.Worked.Words.{name_at, form_at, word, typed, untyped, the, var, use_of, literal, clock, atom, both, write, head, schema, bare, problem}
use Rattle.plus_typing.specs.Worked.Typing.{named, InProblem, depot, things}

-- a fault in each part
abbrev pub broken : Domain
broken = record bare {
  types = untyped 10 "van" ∷ untyped 11 "van" ∷ [];
  constants = typed 20 "home" "crate" ∷ [];
  predicates = head 30 "p" [] ∷ head 31 "p" [] ∷ [];
  functions = head 40 "f" (untyped 41 "x" ∷ untyped 42 "x" ∷ []) ∷ [];
  actions = schema 50 "a" [] (atom 51 "q" []) (write 53 (Add (use_of 53 "r" []))) ∷ [];
  processes = schema 60 "b" [] (atom 61 "q" []) (write 63 (Add (use_of 63 "p" []))) ∷ [];
  events = schema 70 "c" [] (both []) (write 73 (Increase (use_of 73 "g" []) (clock 75))) ∷ [];
}

-- and in each part of its problem
abbrev pub broken_problem : Problem
broken_problem =
    record (problem (typed 80 "v" "van" ∷ typed 82 "v" "van" ∷ []) (Holds (use_of 90 "p" (the 92 "v" ∷ [])) ∷ []) (atom 100 "p" (var 102 "z" ∷ [])))
    { domain = word 85 "e" }

-- types, constants, predicates, functions, actions, processes, events; then objects, the name of the domain, the initial state, the goal
pub record WalkRow : Type 0 where
  pub in_order :
      type_faults broken broken_problem
      ≡ named files.Domain (
      (Twice, name_at 11)
      ∷ (UnknownType, name_at 21)
      ∷ (Twice, name_at 31)
      ∷ (Twice, name_at 42)
      ∷ (UnknownName, name_at 52) ∷ (UnknownName, name_at 54)
      ∷ (UnknownName, name_at 62) ∷ (RateForm, form_at 63)
      ∷ (UnknownName, name_at 74) ∷ (RateForm, name_at 75)
      ∷ [])
      ++ named files.Problem (
      (Twice, name_at 82)
      ∷ (DomainName, name_at 85)
      ∷ (Arity, form_at 90)
      ∷ (Arity, form_at 100) ∷ (Unbound, name_at 102)
      ∷ [])

-- a timed literal is walked like an atom, in its place among the others; a variable in it is unbound
pub record TimedRows : Type 0 where
  pub right :
      InProblem depot (problem things (
      At (literal 50 2) (use_of 51 "at" (the 53 "v" ∷ the 54 "home" ∷ [])) (form_at 49)
      ∷ AtNot (literal 60 2) (use_of 61 "at" (the 63 "v" ∷ the 64 "home" ∷ [])) (form_at 59)
      ∷ At (literal 50 2) (use_of 51 "at" (the 53 "v" ∷ the 54 "home" ∷ [])) (form_at 49)
      ∷ []) (both [])) []
  pub wrong :
      InProblem depot (problem things (
      At (literal 50 2) (use_of 51 "seen" (var 53 "x" ∷ [])) (form_at 49)
      ∷ Holds (use_of 60 "near" [])
      ∷ AtNot (literal 70 2) (use_of 71 "fuel" (the 73 "v" ∷ [])) (form_at 69)
      ∷ Absent (use_of 80 "at" (the 82 "m" ∷ the 83 "home" ∷ [])) (form_at 79)
      ∷ AtNot (literal 90 2) (use_of 91 "at" (the 93 "m" ∷ the 94 "home" ∷ [])) (form_at 89)
      ∷ At (literal 95 2) (use_of 96 "at" (the 98 "v" ∷ [])) (form_at 94)
      ∷ []) (both []))
      ((Unbound, name_at 53) ∷ (UnknownName, name_at 61) ∷ (UnknownName, name_at 72) ∷ (WrongType, name_at 82) ∷ (WrongType, name_at 93) ∷ (Arity, form_at 96) ∷ [])
