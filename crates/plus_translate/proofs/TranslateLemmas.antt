-- A translation, or why there is none, put together.
use Rattle.std.specs.Prelude.{◌≡◌, true, false, List, [], ◌∷◌, All, None, Result, Ok, Err, MatchResult, slice_get, refl}
use Rattle.std.specs.List.{flat_map}
use Rattle.std.proofs.Common.{ap, sym, ◌∙◌}
use Rattle.plus_fraction.specs.Fraction.{Fraction}
use Rattle.plus_tree.specs.declared.trees.Domain.{Domain}
use Rattle.plus_tree.specs.declared.trees.Problem.{Problem}
use Rattle.plus_translation.specs.Depth.{pair_within}
use Rattle.plus_translation.specs.Names.{names_taken}
use Rattle.plus_translation.specs.Translated.{time_of, translated_domain, translated_problem}
use Rattle.plus_translate.specs.declared.fault.TransFault.{TransFault}
use Rattle.plus_translate.specs.declared.fault.TransFault.TheVariants.{NameTaken, OffGrid, TooDeep, Memory}
use Rattle.plus_translate.specs.Grid.{StandsOnGrid}
use Rattle.plus_translate.specs.Dues.{NotDue}
use Rattle.plus_translate.specs.Translates.{IsTranslation, NoTranslation, NotShallow}

none_first : {A : Type 0} (xs : List A) → None ≡ slice_get xs 0 → xs ≡ []
none_first [] e = refl
none_first (x ∷ xs) e = absurd (cc)

pub not_due : (q : Fraction) (d : Domain) (p : Problem) (fault : TransFault) → None ≡ slice_get (names_taken d p) 0
    → NotDue q (flat_map time_of p.init) fault → NoTranslation q d p fault
not_due q d p (NameTaken file place) n h = absurd h
not_due q d p (OffGrid place) n h = (none_first (names_taken d p) n, h)
not_due q d p TooDeep n h = absurd h
not_due q d p Memory n h = tt

pub is_translation : (q : Fraction) (d : Domain) (p : Problem) (d' : Domain) (p' : Problem) → None ≡ slice_get (names_taken d p) 0
    → All (StandsOnGrid q) (flat_map time_of p.init) → d' ≡ translated_domain q d p → p' ≡ translated_problem q d p → pair_within d' p' ≡ true → IsTranslation q d p d' p'
is_translation q d p d' p' n a x y w = record { has = record { names = none_first (names_taken d p) n; grid = a }; domain_is = x; problem_is = y; within = w }

pub not_shallow : (q : Fraction) (d : Domain) (p : Problem) (fault : TransFault) → None ≡ slice_get (names_taken d p) 0
    → All (StandsOnGrid q) (flat_map time_of p.init) → NotShallow (translated_domain q d p) (translated_problem q d p) fault → NoTranslation q d p fault
not_shallow q d p (NameTaken file place) n a h = absurd h
not_shallow q d p (OffGrid place) n a h = absurd h
not_shallow q d p TooDeep n a h = (record { names = none_first (names_taken d p) n; grid = a }, h)
not_shallow q d p Memory n a h = tt

-- the answer, where no name is taken and all literals stand on the grid
pub answered : (q : Fraction) (d : Domain) (p : Problem) (r : Result (Domain × Problem) TransFault) → None ≡ slice_get (names_taken d p) 0
    → All (StandsOnGrid q) (flat_map time_of p.init)
    → MatchResult r (λ pair. (pair.0 ≡ translated_domain q d p) × (pair.1 ≡ translated_problem q d p) × (pair_within pair.0 pair.1 ≡ true))
    (NotShallow (translated_domain q d p) (translated_problem q d p))
    → MatchResult r (λ pair. IsTranslation q d p pair.0 pair.1) (NoTranslation q d p)
answered q d p (Ok pair) n a h = is_translation q d p pair.0 pair.1 n a h.0 h.1 h.2
answered q d p (Err fault) n a h = not_shallow q d p fault n a h

pub ruleset translating = (not_due, is_translation, not_shallow)
