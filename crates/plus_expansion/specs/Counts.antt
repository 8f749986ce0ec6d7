-- What is counted before a pair is grounded, and which count passes its limit first.
use Rattle.std.specs.Prelude.{ℕ, List, [], ◌∷◌, length, Option, Some, None, nat_lt, if◌then◌else◌}
use Rattle.plus_types.specs.Faults.{Context}
use Rattle.plus_expansion.specs.Numbers.{ground_names}
use Rattle.plus_expansion.specs.declared.counts.Count.{Count}
use Rattle.plus_expansion.specs.declared.counts.Count.TheVariants.{Objects, Atoms, Fluents}

-- how many there are of a kind, and how many there may be
pub record Counted : Type 0 where
  pub kind : Count
  pub most : ℕ
  pub number : ℕ

-- the first that are too many
abbrev pub first_over : List Counted → Option Counted
first_over [] = None
first_over (c ∷ cs) = if nat_lt c.most c.number then Some c else first_over cs

-- how many objects, the domain's constants among them, ground atoms and ground fluents there may be (this project's profile)
abbrev pub most_objects : ℕ
most_objects = 10000

abbrev pub most_atoms : ℕ
most_atoms = 200000

abbrev pub most_fluents : ℕ
most_fluents = 50000

-- objects, ground atoms and ground fluents
abbrev pub name_counts : Context → List Counted
name_counts c =
    record { kind = Objects; most = most_objects; number = length c.objects }
    ∷ record { kind = Atoms; most = most_atoms; number = length (ground_names c c.predicates) }
    ∷ record { kind = Fluents; most = most_fluents; number = length (ground_names c c.functions) }
    ∷ []
