-- Worked rows of typing: each word with its place, and what is no fault.
use Rattle.std.specs.Prelude.{◌≡◌, Bool, true, false, List, [], ◌∷◌, codes}
use Prim.Native.String.{String}
use Rattle.plus_tokens.specs.declared.span.Span.{Span}
use Rattle.plus_tree.specs.declared.terms.TypedName.{TypedName}
use Rattle.plus_tree.specs.declared.terms.Comparison.TheVariants.{Equal}
use Rattle.plus_tree.specs.declared.trees.Domain.{Domain}
use Rattle.plus_tree.specs.declared.trees.Init.TheVariants.{Holds, Absent, Value}
use Rattle.plus_tree.specs.declared.trees.LeafNode.TheVariants.{Add, Assign, Increase}
use Rattle.plus_tree.specs.declared.trees.Problem.{Problem}
use Rattle.plus_tree.specs.declared.trees.Schema.{Schema}
use Rattle.plus_tree.specs.Expr.{Expr, x_product, exprs_of}
use Rattle.plus_tree.specs.Cond.{Cond, c_compare, c_same}
use Rattle.plus_tree.specs.Effect.{Effect, e_when}
use Rattle.plus_types.specs.declared.faults.File.{File}
use Rattle.plus_types.specs.declared.faults.File.TheVariants as files
use Rattle.plus_types.specs.declared.faults.Wrong.{Wrong}
use Rattle.plus_types.specs.declared.faults.Wrong.TheVariants.{UnknownType, UnknownName, Arity, WrongType, Twice, Unbound, Shadowed, TypeLoop, RateForm, DomainName}
use Rattle.plus_types.specs.declared.faults.TypeFault.{TypeFault}
use Rattle.plus_types.specs.declared.faults.TypeFault.TheVariants.{At}
use Rattle.plus_types.specs.Types.{bindings_of, is_type, is_above, is_under}
use Rattle.plus_types.specs.Faults.{type_faults}
use Rattle.plus_typing.specs.Worked.Words.{name_at, form_at, word, typed, untyped, the, var, use_of, literal, number, clock, fluent, atom, both, every, some, leaf, write, all, for_all, head, schema, bare, problem, any_problem}

abbrev pub named : File → List (Wrong × Span) → List TypeFault
named file [] = []
named file (f ∷ fs) = At f.0 file f.1 ∷ named file fs

-- these are the faults of a pair, each a word with its place
abbrev pub InDomain : Domain → Problem → List (Wrong × Span) → Type 0
InDomain d p faults = type_faults d p ≡ named files.Domain faults

abbrev pub InProblem : Domain → Problem → List (Wrong × Span) → Type 0
InProblem d p faults = type_faults d p ≡ named files.Problem faults

-- ---- types

abbrev pub with_types : List TypedName → Domain
with_types types = record bare { types = types }

-- vans are trucks, and trucks are machines
abbrev pub machines : List TypedName
machines = typed 10 "van" "truck" ∷ typed 12 "truck" "machine" ∷ untyped 14 "place" ∷ []

abbrev pub Under : String → String → Bool → Type 0
Under low high answer = is_under (bindings_of machines) (codes low) (codes high) ≡ answer

abbrev pub IsType : String → Bool → Type 0
IsType name answer = is_type (bindings_of machines) (codes name) ≡ answer

-- a type is under itself, under those above the one above it, and under `object`
pub record TypesRows : Type 0 where
  pub itself : Under "van" "van" true
  pub above : Under "van" "truck" true
  pub further : Under "van" "machine" true
  pub downward : Under "truck" "van" false
  pub beside : Under "place" "truck" false
  pub top : Under "van" "object" true
  pub top_of_unlisted : Under "machine" "object" true
  pub top_is_under_none : Under "object" "van" false
  pub not_above_itself : is_above (bindings_of machines) (codes "object") (codes "object") ≡ false
  pub listed : IsType "van" true
  pub only_above : IsType "machine" true
  pub object : IsType "object" true
  pub unknown : IsType "crate" false

-- twice, type loop
pub record TypeListRows : Type 0 where
  pub well_listed : InDomain (with_types machines) any_problem []
  pub twice : InDomain (with_types (typed 10 "van" "truck" ∷ typed 12 "van" "place" ∷ [])) any_problem ((Twice, name_at 12) ∷ [])
  pub loop :
      InDomain (with_types (typed 10 "low" "van" ∷ typed 12 "van" "truck" ∷ typed 14 "truck" "van" ∷ [])) any_problem
      ((TypeLoop, name_at 12) ∷ (TypeLoop, name_at 14) ∷ [])
  pub above_itself : InDomain (with_types (typed 10 "van" "van" ∷ [])) any_problem ((TypeLoop, name_at 10) ∷ [])
  pub under_object : InDomain (with_types (typed 10 "object" "van" ∷ [])) any_problem ((TypeLoop, name_at 10) ∷ [])
  pub through_object :
      InDomain (with_types (untyped 10 "van" ∷ typed 12 "object" "van" ∷ untyped 14 "place" ∷ [])) any_problem
      ((TypeLoop, name_at 10) ∷ (TypeLoop, name_at 12) ∷ [])
  pub by_the_second :
      InDomain (with_types (untyped 10 "van" ∷ typed 12 "van" "van" ∷ [])) any_problem ((TypeLoop, name_at 10) ∷ (Twice, name_at 12) ∷ [])

-- ---- declarations

abbrev pub with_constants : List TypedName → Domain
with_constants constants = record bare { types = machines; constants = constants }

abbrev pub with_parameters : List TypedName → Domain
with_parameters params = record bare { types = machines; predicates = head 20 "p" params ∷ [] }

pub record DeclarationRows : Type 0 where
  pub constant_type : InDomain (with_constants (typed 20 "home" "crate" ∷ [])) any_problem ((UnknownType, name_at 21) ∷ [])
  pub object_type : InProblem (with_types machines) (problem (typed 30 "a" "crate" ∷ []) [] (both [])) ((UnknownType, name_at 31) ∷ [])
  pub parameter_type : InDomain (with_parameters (typed 21 "x" "crate" ∷ [])) any_problem ((UnknownType, name_at 22) ∷ [])
  pub type_above : InDomain (with_parameters (typed 21 "x" "machine" ∷ [])) any_problem []
  pub constant_twice :
      InDomain (with_constants (typed 20 "home" "place" ∷ typed 22 "home" "place" ∷ [])) any_problem ((Twice, name_at 22) ∷ [])
  pub object_twice :
      InProblem (with_types machines) (problem (untyped 30 "a" ∷ untyped 31 "a" ∷ []) [] (both [])) ((Twice, name_at 31) ∷ [])
  pub object_and_constant :
      InProblem (with_constants (untyped 20 "home" ∷ [])) (problem (untyped 30 "home" ∷ []) [] (both [])) ((Twice, name_at 30) ∷ [])
  pub name_before_type :
      InProblem (with_constants (untyped 20 "home" ∷ [])) (problem (typed 30 "home" "crate" ∷ []) [] (both []))
      ((Twice, name_at 30) ∷ (UnknownType, name_at 31) ∷ [])
  pub parameter_twice : InDomain (with_parameters (untyped 21 "x" ∷ untyped 22 "x" ∷ [])) any_problem ((Twice, name_at 22) ∷ [])
  pub predicate_twice :
      InDomain (record bare { predicates = head 20 "p" [] ∷ head 21 "p" [] ∷ [] }) any_problem ((Twice, name_at 21) ∷ [])
  pub function_twice :
      InDomain (record bare { functions = head 20 "p" [] ∷ head 21 "p" [] ∷ [] }) any_problem ((Twice, name_at 21) ∷ [])
  pub predicate_and_function :
      InDomain (record bare { predicates = head 20 "p" [] ∷ []; functions = head 21 "p" [] ∷ [] }) any_problem []
  pub domain_name :
      InProblem bare (record any_problem { domain = word 33 "e" }) ((DomainName, name_at 33) ∷ [])

-- ---- uses

-- one predicate over trucks and places, one over anything, and a number for each truck
abbrev pub depot : Domain
depot = record bare {
  types = machines;
  constants = typed 20 "home" "place" ∷ [];
  predicates = head 22 "at" (typed 23 "t" "truck" ∷ typed 25 "p" "place" ∷ []) ∷ head 27 "seen" (untyped 28 "x" ∷ []) ∷ [];
  functions = head 30 "fuel" (typed 31 "t" "truck" ∷ []) ∷ [];
}

abbrev pub things : List TypedName
things = typed 40 "v" "van" ∷ typed 42 "t" "truck" ∷ typed 44 "m" "machine" ∷ []

-- a goal over these
abbrev pub asks : Cond → Problem
asks goal = problem things [] goal

abbrev pub Asks : Cond → List (Wrong × Span) → Type 0
Asks goal faults = InProblem depot (asks goal) faults

pub record UseRows : Type 0 where
  pub right : Asks (atom 50 "at" (the 52 "t" ∷ the 53 "home" ∷ [])) []
  pub subtype : Asks (atom 50 "at" (the 52 "v" ∷ the 53 "home" ∷ [])) []
  pub under_object : Asks (atom 50 "seen" (the 52 "m" ∷ [])) []
  pub supertype : Asks (atom 50 "at" (the 52 "m" ∷ the 53 "home" ∷ [])) ((WrongType, name_at 52) ∷ [])
  pub wrong_second : Asks (atom 50 "at" (the 52 "t" ∷ the 53 "v" ∷ [])) ((WrongType, name_at 53) ∷ [])
  pub unknown_predicate : Asks (atom 50 "near" []) ((UnknownName, name_at 51) ∷ [])
  pub function_as_predicate : Asks (atom 50 "fuel" (the 52 "t" ∷ [])) ((UnknownName, name_at 51) ∷ [])
  pub unknown_object : Asks (atom 50 "seen" (the 52 "z" ∷ [])) ((UnknownName, name_at 52) ∷ [])
  pub unbound : Asks (atom 50 "seen" (var 52 "z" ∷ [])) ((Unbound, name_at 52) ∷ [])
  pub few : Asks (atom 50 "at" (the 52 "t" ∷ [])) ((Arity, form_at 50) ∷ [])
  pub many : Asks (atom 50 "seen" (the 52 "t" ∷ the 53 "t" ∷ [])) ((Arity, form_at 50) ∷ [])
  pub same_objects : Asks (c_same (the 52 "t") (var 53 "z") (form_at 50)) ((Unbound, name_at 53) ∷ [])
  pub numbers : Asks (c_compare Equal (fluent 50 "fuel" (the 52 "v" ∷ [])) (number 53 0) (form_at 49)) []
  pub unknown_function : Asks (c_compare Equal (number 53 0) (fluent 50 "seen" (the 52 "v" ∷ [])) (form_at 49)) ((UnknownName, name_at 51) ∷ [])
  pub clock_in_goal : Asks (c_compare Equal (clock 50) (number 53 0) (form_at 49)) ((RateForm, name_at 50) ∷ [])
  pub in_order :
      Asks (both (atom 50 "near" [] ∷ atom 60 "seen" (the 62 "z" ∷ []) ∷ [])) ((UnknownName, name_at 51) ∷ (UnknownName, name_at 62) ∷ [])

-- ---- variables

pub record VariableRows : Type 0 where
  pub bound : Asks (every (typed 50 "x" "truck" ∷ []) (some (typed 52 "y" "place" ∷ []) (atom 54 "at" (var 56 "x" ∷ var 57 "y" ∷ [])))) []
  pub shadowed :
      Asks (every (untyped 50 "x" ∷ []) (some (untyped 52 "x" ∷ []) (atom 54 "seen" (var 56 "x" ∷ [])))) ((Shadowed, name_at 52) ∷ [])
  pub twice : Asks (every (untyped 50 "x" ∷ untyped 51 "x" ∷ []) (both [])) ((Twice, name_at 51) ∷ [])
  pub in_turn : Asks (both (every (untyped 50 "x" ∷ []) (both []) ∷ some (untyped 52 "x" ∷ []) (both []) ∷ [])) []
  pub past_its_list : Asks (both (every (untyped 50 "x" ∷ []) (both []) ∷ atom 54 "seen" (var 56 "x" ∷ []) ∷ [])) ((Unbound, name_at 56) ∷ [])
  pub wrong_type : Asks (some (typed 50 "x" "machine" ∷ []) (atom 54 "at" (var 56 "x" ∷ the 57 "home" ∷ []))) ((WrongType, name_at 56) ∷ [])
  pub unknown_type : Asks (some (typed 50 "x" "crate" ∷ []) (both [])) ((UnknownType, name_at 51) ∷ [])

-- ---- actions, processes and events

abbrev pub moves : Cond → Effect → Schema
moves condition effect = schema 60 "move" (typed 62 "t" "truck" ∷ []) condition effect

abbrev pub Acts : Cond → Effect → List (Wrong × Span) → Type 0
Acts condition effect faults = InDomain (record depot { actions = moves condition effect ∷ [] }) any_problem faults

abbrev pub Happens : Effect → List (Wrong × Span) → Type 0
Happens effect faults = InDomain (record depot { events = moves (both []) effect ∷ [] }) any_problem faults

abbrev pub Flows : Effect → List (Wrong × Span) → Type 0
Flows effect faults = InDomain (record depot { processes = moves (both []) effect ∷ [] }) any_problem faults

-- more fuel for the truck
abbrev pub more_fuel : Expr → Effect
more_fuel amount = write 70 (Increase (use_of 70 "fuel" (var 72 "t" ∷ [])) amount)

-- the time that passes, times this
abbrev pub in_time : Expr → Expr
in_time e = x_product (exprs_of (clock 80 ∷ e ∷ [])) (form_at 79)

pub record SchemaRows : Type 0 where
  pub parameters : Acts (atom 64 "at" (var 66 "t" ∷ the 67 "home" ∷ [])) (write 70 (Add (use_of 70 "seen" (var 72 "t" ∷ [])))) []
  pub condition_first :
      Acts (atom 64 "near" []) (write 70 (Add (use_of 70 "far" []))) ((UnknownName, name_at 65) ∷ (UnknownName, name_at 71) ∷ [])
  pub objects_of_the_problem :
      type_faults (record depot { actions = moves (atom 64 "seen" (the 66 "v" ∷ [])) (all []) ∷ [] }) (asks (both []))
      ≡ At UnknownName files.Domain (name_at 66) ∷ []
  pub quantified_effect : Acts (both []) (for_all (typed 64 "t" "truck" ∷ []) (all [])) ((Shadowed, name_at 64) ∷ [])
  pub conditional_effect :
      Acts (both []) (e_when (atom 64 "seen" (var 66 "t" ∷ [])) (leaf 70 (Add (use_of 70 "seen" (var 72 "u" ∷ []))) ∷ []) (form_at 63))
      ((Unbound, name_at 72) ∷ [])
  pub twice :
      InDomain (record depot { actions = moves (both []) (all []) ∷ schema 90 "move" [] (both []) (all []) ∷ [] }) any_problem
      ((Twice, name_at 90) ∷ [])
  pub kinds_apart :
      InDomain (record depot {
        actions = moves (both []) (all []) ∷ [];
        processes = moves (both []) (all []) ∷ [];
        events = moves (both []) (all []) ∷ [];
      }) any_problem []

pub record RateRows : Type 0 where
  pub rate : Flows (more_fuel (in_time (number 82 2))) []
  pub clock_alone : Flows (more_fuel (clock 80)) []
  pub clock_last : Flows (more_fuel (x_product (exprs_of (number 82 2 ∷ clock 80 ∷ [])) (form_at 79))) []
  pub no_clock : Flows (more_fuel (number 82 2)) ((RateForm, form_at 70) ∷ [])
  pub two_clocks : Flows (more_fuel (in_time (clock 82))) ((RateForm, form_at 70) ∷ [])
  pub three_factors :
      Flows (more_fuel (x_product (exprs_of (clock 80 ∷ number 82 2 ∷ number 83 2 ∷ [])) (form_at 79))) ((RateForm, form_at 70) ∷ [])
  pub assigned : Flows (write 70 (Assign (use_of 70 "fuel" (var 72 "t" ∷ [])) (clock 80))) ((RateForm, form_at 70) ∷ [])
  pub added_atom : Flows (write 70 (Add (use_of 70 "seen" (var 72 "t" ∷ [])))) ((RateForm, form_at 70) ∷ [])
  pub in_process_when : Flows (e_when (both []) [] (form_at 63)) ((RateForm, form_at 63) ∷ [])
  pub in_action : Acts (both []) (more_fuel (in_time (number 82 2))) ((RateForm, name_at 80) ∷ [])
  pub in_event : Happens (more_fuel (clock 80)) ((RateForm, name_at 80) ∷ [])

-- ---- the initial state

abbrev pub starting : Problem
starting = problem things (
    Holds (use_of 50 "at" (the 52 "v" ∷ the 53 "home" ∷ []))
    ∷ Holds (use_of 50 "at" (the 52 "v" ∷ the 53 "home" ∷ []))
    ∷ Absent (use_of 50 "at" (the 52 "v" ∷ the 53 "home" ∷ [])) (form_at 49)
    ∷ Value (use_of 60 "fuel" (the 62 "v" ∷ [])) (literal 63 1) (form_at 59)
    ∷ Value (use_of 70 "fuel" (the 72 "t" ∷ [])) (literal 73 1) (form_at 69)
    ∷ Value (use_of 80 "fuel" (the 82 "v" ∷ [])) (literal 83 1) (form_at 79)
    ∷ Holds (use_of 90 "at" (the 92 "v" ∷ []))
    ∷ []) (atom 100 "near" [])

abbrev pub Starts : List (Wrong × Span) → Type 0
Starts faults = InProblem depot starting faults

-- an atom may stand there several times, and a fluent once; the goal comes last
pub record InitialRows : Type 0 where
  pub second_value : Starts ((Twice, form_at 79) ∷ (Arity, form_at 90) ∷ (UnknownName, name_at 101) ∷ [])
