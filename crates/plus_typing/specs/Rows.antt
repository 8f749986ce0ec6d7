-- Worked rows: a pair that obeys each rule, pairs that break one, and for each rule a pair that breaks it alone.
use Rattle.std.specs.Prelude.{◌≡◌, [], ◌∷◌}
use Prim.Native.String.{String}
use Rattle.plus_tree.specs.declared.terms.Comparison.TheVariants.{AtLeast}
use Rattle.plus_tree.specs.declared.trees.LeafNode.TheVariants.{Add}
use Rattle.plus_tree.specs.declared.trees.Domain.{Domain}
use Rattle.plus_tree.specs.declared.trees.Init.TheVariants.{Holds, Value}
use Rattle.plus_tree.specs.declared.trees.Problem.{Problem}
use Rattle.plus_tree.specs.Cond.{Cond, c_compare}
use Rattle.plus_tree.specs.Effect.{e_when}
use Rattle.plus_types.specs.declared.faults.Wrong.{Wrong}
use Rattle.plus_types.specs.declared.faults.Wrong.TheVariants.{UnknownType, UnknownName, Arity, WrongType, Twice, Unbound, Shadowed, TypeLoop, RateForm, DomainName}
use Rattle.plus_typing.specs.Worked.Words.{form_at, word, typed, untyped, the, var, use_of, literal, number, clock, fluent, atom, both, some, every, leaf, write, all, head, schema, bare, problem, any_problem}
use Rattle.plus_typing.specs.Worked.Typing.{depot, things, moves, more_fuel, in_time}
use Rattle.plus_typing.specs.WellTyped.{Rule, IsWellTyped}

-- a truck with fuel is at home and is seen there; it loads fuel in time
abbrev pub busy_depot : Domain
busy_depot = record depot {
  actions = moves (atom 64 "at" (var 66 "t" ∷ the 67 "home" ∷ [])) (write 70 (Add (use_of 70 "seen" (var 72 "t" ∷ [])))) ∷ [];
  processes = moves (both []) (more_fuel (in_time (number 82 2))) ∷ [];
  events =
      moves (c_compare AtLeast (fluent 64 "fuel" (var 66 "t" ∷ [])) (number 68 9) (form_at 63))
      (e_when (atom 74 "seen" (var 76 "t" ∷ [])) (leaf 70 (Add (use_of 70 "seen" (the 72 "home" ∷ []))) ∷ []) (form_at 73)) ∷ [];
}

abbrev pub busy_day : Problem
busy_day = problem things (
    Holds (use_of 50 "at" (the 52 "v" ∷ the 53 "home" ∷ []))
    ∷ Value (use_of 60 "fuel" (the 62 "v" ∷ [])) (literal 63 1) (form_at 59)
    ∷ []) (some (typed 90 "x" "truck" ∷ []) (atom 92 "seen" (var 94 "x" ∷ [])))

-- the pair breaks the rule of the word
pub record Breaks (w : Wrong) (d : Domain) (p : Problem) : Type 0 where
  pub broken : Rule w d p → ⊥

abbrev pub asked_for : Cond → Problem
asked_for goal = problem things [] goal

pub record RuleRows : Type 0 where
  pub well_typed : IsWellTyped busy_depot busy_day
  pub twice : Breaks Twice (record bare { types = untyped 10 "van" ∷ untyped 12 "van" ∷ [] }) any_problem
  pub valued_twice :
      Breaks Twice depot (problem things (
      Value (use_of 60 "fuel" (the 62 "v" ∷ [])) (literal 63 1) (form_at 59)
      ∷ Value (use_of 70 "fuel" (the 72 "v" ∷ [])) (literal 73 2) (form_at 69)
      ∷ []) (both []))
  pub type_loop : Breaks TypeLoop (record bare { types = typed 10 "van" "truck" ∷ typed 12 "truck" "van" ∷ [] }) any_problem
  pub unknown_object : Breaks UnknownName depot (asked_for (atom 50 "seen" (the 52 "z" ∷ [])))
  pub wrong_type : Breaks WrongType depot (asked_for (atom 50 "at" (the 52 "m" ∷ the 53 "home" ∷ [])))
  pub no_rate : Breaks RateForm (record depot { processes = moves (both []) (more_fuel (number 82 2)) ∷ [] }) any_problem
  pub guarded_rate : Breaks RateForm (record depot { processes = moves (both []) (e_when (both []) [] (form_at 63)) ∷ [] }) any_problem

-- ---- each rule alone

-- the pair breaks the rule of the word and obeys all others
pub record BreaksOnly (w : Wrong) (d : Domain) (p : Problem) : Type 0 where
  pub broken : Rule w d p → ⊥
  pub others : (v : Wrong) → (v ≡ w → ⊥) → Rule v d p

-- two actions that do nothing
abbrev pub idlers : String → String → Domain
idlers first second = record bare { actions = schema 60 first [] (both []) (all []) ∷ schema 70 second [] (both []) (all []) ∷ [] }

-- one type, and the one above it
abbrev pub one_type : String → Domain
one_type above = record bare { types = typed 10 "van" above ∷ [] }

-- one predicate over things of this type
abbrev pub one_predicate : String → Domain
one_predicate kind = record bare { types = untyped 10 "van" ∷ []; predicates = head 20 "p" (typed 22 "x" kind ∷ []) ∷ [] }

-- a problem with one object of this type, and this goal
abbrev pub one_object : String → Cond → Problem
one_object kind goal = problem (typed 40 "v" kind ∷ []) [] goal

-- each rule has such a pair: none follows from the others
pub record AloneRows : Type 0 where
  pub domain_name : BreaksOnly DomainName bare (record any_problem { domain = word 33 "e" })
  pub rate_form : BreaksOnly RateForm bare (problem [] [] (c_compare AtLeast (clock 50) (number 53 0) (form_at 49)))
  pub twice : BreaksOnly Twice (idlers "wait" "wait") any_problem
  pub unknown_type : BreaksOnly UnknownType bare (one_object "van" (both []))
  pub type_loop : BreaksOnly TypeLoop (one_type "van") any_problem
  pub unknown_name : BreaksOnly UnknownName bare (problem [] [] (atom 50 "p" []))
  pub unbound : BreaksOnly Unbound (one_predicate "object") (one_object "object" (atom 50 "p" (var 52 "z" ∷ [])))
  pub arity : BreaksOnly Arity (one_predicate "object") (one_object "object" (atom 50 "p" []))
  pub wrong_type : BreaksOnly WrongType (one_predicate "van") (one_object "object" (atom 50 "p" (the 52 "v" ∷ [])))
  pub shadowed : BreaksOnly Shadowed bare (problem [] [] (every (untyped 50 "x" ∷ []) (some (untyped 52 "x" ∷ []) (both []))))
