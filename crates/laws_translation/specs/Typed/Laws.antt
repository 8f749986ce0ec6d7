-- The translated pair is well typed, where no process binds a variable twice that the translation puts into one another.
use Rattle.std.specs.Prelude.{◌≡◌, ℕ, false, List, [], ◌++◌, All, IsTrue}
use Rattle.plus_fraction.specs.Fraction.{Fraction}
use Rattle.plus_tree.specs.declared.terms.TypedName.{TypedName}
use Rattle.plus_tree.specs.declared.trees.Schema.{Schema}
use Rattle.plus_tree.specs.declared.trees.Domain.{Domain}
use Rattle.plus_tree.specs.declared.trees.Problem.{Problem}
use Rattle.plus_tree.specs.Cond.{Cond, Conds, c_all, c_any, c_not, c_imply, c_forall, c_exists, c_atom, c_same, c_compare, no_conds, more_conds}
use Rattle.plus_types.specs.Types.{is_among, names_of}
use Rattle.plus_types.specs.Faults.{is_well_typed}
use Rattle.plus_translation.specs.Leaves.{Placed, leaves_of}
use Rattle.plus_translation.specs.Translated.{translated_domain, translated_problem}
use Rattle.plus_translation.specs.Laws.{CanBeTranslated}

-- the names that a condition binds
abbrev mutual
  pub bound_in : Cond → List (List ℕ)
  bound_in (c_all cs s) = bound_among cs
  bound_in (c_any cs s) = bound_among cs
  bound_in (c_not c s) = bound_in c
  bound_in (c_imply c d s) = bound_in c ++ bound_in d
  bound_in (c_forall vs c s) = names_of vs ++ bound_in c
  bound_in (c_exists vs c s) = names_of vs ++ bound_in c
  bound_in (c_atom u s) = []
  bound_in (c_same t u s) = []
  bound_in (c_compare op e f s) = []

  pub bound_among : Conds → List (List ℕ)
  bound_among no_conds = []
  bound_among (more_conds c cs) = bound_in c ++ bound_among cs

-- none of these variables is bound in the condition
abbrev pub AreApart : Cond → List TypedName → Type 0
AreApart c vs = All (λ (v : TypedName). is_among (bound_in c) v.name.name ≡ false) vs

-- no list around a rate of a process binds a variable that its condition binds
abbrev pub NoRateShadows : Schema → Type 0
NoRateShadows a = All (λ (p : Placed). All (AreApart a.condition) p.lists) (leaves_of a.effect)

abbrev pub TranslationIsTyped : Type 0
TranslationIsTyped =
    (d : Domain) (p : Problem) (q : Fraction)
    → CanBeTranslated d p q → All NoRateShadows d.processes → IsTrue (is_well_typed (translated_domain q d p) (translated_problem q d p))

-- so it is only there: a process with such a list has no well-typed translation
abbrev pub TypedIsApart : Type 0
TypedIsApart =
    (d : Domain) (p : Problem) (q : Fraction)
    → IsTrue (is_well_typed (translated_domain q d p) (translated_problem q d p)) → All NoRateShadows d.processes
