-- Names that are gathered one member after the other.
use Rattle.std.proofs.Common.{◌≡◌, ℕ, Bool, true, false, List, [], ◌∷◌, ◌++◌, refl, ap, sym, ◌∙◌, append_assoc}
use Rattle.std.proofs.lemmas.List.{append-nil}
use Rattle.plus_model.specs.Terms.{Condition}
use Rattle.plus_state.specs.Tests.{pair, unit, joined}
use Rattle.plus_reads.specs.Reads.{atoms_read, fluents_read}

-- what is left to add of a list
pub two_more : (old mid new xs ys : List ℕ) → mid ≡ old ++ xs → new ≡ mid ++ ys → new ≡ old ++ (xs ++ ys)
two_more old mid new xs ys e f = f ∙ ap (λ (z : List ℕ). z ++ ys) e ∙ append_assoc old xs ys

pub none_more : (old new : List ℕ) → new ≡ old → new ≡ old ++ []
none_more old new e = e ∙ sym (append-nil old)

-- the names of the members that are left
pub record Adding (all : Bool) (atoms fluents old_atoms old_fluents : List ℕ) (rest whole : List Condition) : Type 0 where
  pub of_atoms : atoms ++ atoms_read (joined all rest) ≡ old_atoms ++ atoms_read (joined all whole)
  pub of_fluents : fluents ++ fluents_read (joined all rest) ≡ old_fluents ++ fluents_read (joined all whole)

atoms_unit : (all : Bool) → atoms_read (unit all) ≡ []
atoms_unit true = refl
atoms_unit false = refl

fluents_unit : (all : Bool) → fluents_read (unit all) ≡ []
fluents_unit true = refl
fluents_unit false = refl

pub atoms_end : (all : Bool) (atoms fluents old_atoms old_fluents : List ℕ) (whole : List Condition) (c : Condition) → Adding all atoms fluents old_atoms old_fluents [] whole → joined all whole ≡ c → atoms ≡ old_atoms ++ atoms_read c
atoms_end all atoms fluents old_atoms old_fluents whole c h e =
    sym (append-nil atoms) ∙ ap (λ (z : List ℕ). atoms ++ z) (sym (atoms_unit all)) ∙ h.of_atoms ∙ ap (λ (d : Condition). old_atoms ++ atoms_read d) e

pub fluents_end : (all : Bool) (atoms fluents old_atoms old_fluents : List ℕ) (whole : List Condition) (c : Condition) → Adding all atoms fluents old_atoms old_fluents [] whole → joined all whole ≡ c → fluents ≡ old_fluents ++ fluents_read c
fluents_end all atoms fluents old_atoms old_fluents whole c h e =
    sym (append-nil fluents) ∙ ap (λ (z : List ℕ). fluents ++ z) (sym (fluents_unit all)) ∙ h.of_fluents ∙ ap (λ (d : Condition). old_fluents ++ fluents_read d) e

pub ruleset naming = (two_more, none_more)
