-- What variables stand for, and the ground atoms and fluents that uses name there.
use Rattle.std.specs.Prelude.{ℕ, List, [], ◌∷◌, ◌++◌, map, length, if◌then◌else◌}
use Rattle.std.specs.List.{flat_map}
use Rattle.std.specs.Str.{bytes_eq}
use Rattle.plus_tree.specs.declared.terms.Term.{Term}
use Rattle.plus_tree.specs.declared.terms.Term.TheVariants.{Object, Variable}
use Rattle.plus_tree.specs.declared.terms.TypedName.{TypedName}
use Rattle.plus_tree.specs.declared.terms.Use.{Use}
use Rattle.plus_types.specs.Faults.{Context}
use Rattle.plus_expansion.specs.Objects.{members_of, object_place}
use Rattle.plus_expansion.specs.Numbers.{number_of}

-- an object, by its place, for each variable; those of outer lists stand before those of inner ones
abbrev pub Environment : Type 0
Environment = List (List ℕ × ℕ)

-- The environments in which each variable of a list stands for an object of its type: one for each choice, the first
-- variable changing slowest.
abbrev pub environments : Context → List TypedName → Environment → List Environment
environments c [] env = env ∷ []
environments c (v ∷ vs) env = flat_map (λ o. environments c vs (env ++ (v.name.name, o) ∷ [])) (members_of c v.kind.name)

-- the object that a variable stands for, the innermost where several lists bind it; else this
abbrev pub bound_object : ℕ → Environment → List ℕ → ℕ
bound_object none [] name = none
bound_object none (b ∷ bs) name = bound_object (if bytes_eq name b.0 then b.1 else none) bs name

-- the object of a term; where there is none, as in no well-typed pair, the number of objects
abbrev pub term_object : Context → Environment → Term → ℕ
term_object c env (Object x) = object_place c x.name
term_object c env (Variable x) = bound_object (length c.objects) env x.name

abbrev pub use_objects : Context → Environment → Use → List ℕ
use_objects c env u = map (term_object c env) u.args

-- the number of the ground atom, or of the ground fluent, that a use names
abbrev pub atom_number : Context → Environment → Use → ℕ
atom_number c env u = number_of c c.predicates u.head.name (use_objects c env u)

abbrev pub fluent_number : Context → Environment → Use → ℕ
fluent_number c env u = number_of c c.functions u.head.name (use_objects c env u)
