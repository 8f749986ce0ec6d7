-- The root of a state stays where what is changed is noted.
use Rattle.std.proofs.Common.{◌≡◌, ℕ, zero, suc, List, [], ◌∷◌, ◌++◌, length, get_or, refl, ap, ap₂, sym, subst, ◌∙◌}
use Rattle.std.specs.Prelude.{Bool, false, slice_get, unwrap_or, Option, Some, None, IfSome}
use Rattle.plus_fraction.specs.Fraction.{Fraction}
use Rattle.plus_model.specs.Terms.{State}
use Rattle.plus_model.specs.Value.{atom_of, fluent_of}
use Rattle.plus_state.specs.Changes.{Changes, patched, Within}
use Rattle.plus_state.proofs.PatchLemmas.{same_atoms, same_fluents}
use Rattle.plus_state.proofs.OpenLemmas.{in_append}
use Rattle.plus_timeline.specs.Undo.{undone, recalled, root_at, Notes}
use Rattle.plus_timeline.proofs.Undoing.{undone-append, recalled_in, back_list, still_list, way_list}

get_is : {A : Type 0} (xs : List A) (k : ℕ) (d : A) → unwrap_or (slice_get xs k) d ≡ get_or xs k d
get_is [] k d = refl
get_is (x ∷ xs) zero d = refl
get_is (x ∷ xs) (suc k) d = get_is xs k d

atom_is : (s : State) (k : ℕ) → atom_of s k ≡ get_or s.atoms k false
atom_is s k = get_is s.atoms k false

fluent_is : (s : State) (k : ℕ) → fluent_of s k ≡ get_or s.fluents k None
fluent_is s k = get_is s.fluents k None

abbrev state_of : List Bool → List (Option Fraction) → State
state_of a f = record { atoms = a; fluents = f }

abbrev pub joined : Changes → Changes → Changes
joined c d = record { atoms = c.atoms ++ d.atoms; fluents = c.fluents ++ d.fluents }

pub within_joined : (m n : ℕ) (c d : Changes) → Within m n c → Within m n d → Within m n (joined c d)
within_joined m n c d h g = record {
  atoms_in = in_append m c.atoms d.atoms h.atoms_in g.atoms_in;
  fluents_in = in_append n c.fluents d.fluents h.fluents_in g.fluents_in;
}

pub within_recalled : (m n : ℕ) (s : State) (c : Changes) → Within m n c → Within m n (recalled s c)
within_recalled m n s c h = record { atoms_in = recalled_in m (atom_of s) c.atoms h.atoms_in; fluents_in = recalled_in n (fluent_of s) c.fluents h.fluents_in }

undone_joined : (s : State) (c d : Changes) → undone s (joined c d) ≡ undone (undone s d) c
undone_joined s c d = ap₂ state_of (undone-append c.atoms d.atoms s.atoms) (undone-append c.fluents d.fluents s.fluents)

module _ (s : State) (c : Changes) (i : Within (length s.atoms) (length s.fluents) c) where
  back : undone (patched s c) (recalled s c) ≡ s
  back = ap₂ state_of (back_list s.atoms false (atom_of s) (atom_is s) c.atoms i.atoms_in) (back_list s.fluents None (fluent_of s) (fluent_is s) c.fluents i.fluents_in)

  still : undone s (recalled s c) ≡ s
  still = ap₂ state_of (still_list s.atoms false (atom_of s) (atom_is s) c.atoms i.atoms_in) (still_list s.fluents None (fluent_of s) (fluent_is s) c.fluents i.fluents_in)

  noted_by : (t : State) → undone t (recalled s c) ≡ s → (old new : Option Changes) → Notes s c old new → root_at t new ≡ root_at s old
  noted_by t h None None n = refl
  noted_by t h None (Some new) n = absurd n
  noted_by t h (Some old) None n = absurd n
  noted_by t h (Some old) (Some new) n =
      ap (λ u. Some (undone t u)) n ∙ ap (λ x. Some x) (undone_joined t old (recalled s c) ∙ ap (λ x. undone x old) h)

  -- what was noted is noted once more, and nothing was changed
  pub noted_root : (old new : Option Changes) → Notes s c old new → root_at s new ≡ root_at s old
  noted_root old new n = noted_by s still old new n

  -- it was changed then
  pub stepped_root : (t : State) (old new : Option Changes) → t ≡ patched s c → Notes s c old new → root_at t new ≡ root_at s old
  stepped_root t old new e n = noted_by t (ap (λ x. undone x (recalled s c)) e ∙ back) old new n

  pub noted_in : (old new : Option Changes) → IfSome old (λ u. Within (length s.atoms) (length s.fluents) u) → Notes s c old new → IfSome new (λ u. Within (length s.atoms) (length s.fluents) u)
  noted_in None None h n = tt
  noted_in None (Some new) h n = absurd n
  noted_in (Some old) None h n = absurd n
  noted_in (Some old) (Some new) h n =
      subst (λ u. Within (length s.atoms) (length s.fluents) u) (sym n)
      (within_joined (length s.atoms) (length s.fluents) old (recalled s c) h (within_recalled (length s.atoms) (length s.fluents) s c i))

-- the way to another state with the same root
module _ (from to : State) (u v way : Changes) (a : length from.atoms ≡ length to.atoms) (f : length from.fluents ≡ length to.fluents) (i : Within (length from.atoms) (length from.fluents) u) (j : Within (length from.atoms) (length from.fluents) v) (e : way ≡ joined (recalled to u) (recalled to v)) where
  pub way_within : Within (length from.atoms) (length from.fluents) way
  way_within =
      subst (λ w. Within (length from.atoms) (length from.fluents) w) (sym e)
      (within_joined (length from.atoms) (length from.fluents) (recalled to u) (recalled to v)
      (within_recalled (length from.atoms) (length from.fluents) to u i)
      (within_recalled (length from.atoms) (length from.fluents) to v j))

  pub way_leads : undone from u ≡ undone to v → patched from way ≡ to
  way_leads r =
      ap (patched from) e
      ∙ ap₂ state_of
      (way_list to.atoms false (atom_of to) (atom_is to) from.atoms u.atoms v.atoms a i.atoms_in j.atoms_in (ap (λ x. x.atoms) r))
      (way_list to.fluents None (fluent_of to) (fluent_is to) from.fluents u.fluents v.fluents f i.fluents_in j.fluents_in (ap (λ x. x.fluents) r))

-- the state after a change is for the same atoms and fluents
pub inside_after : (s t : State) (c : Changes) (noted : Option Changes) → t ≡ patched s c → IfSome noted (λ u. Within (length s.atoms) (length s.fluents) u) → IfSome noted (λ u. Within (length t.atoms) (length t.fluents) u)
inside_after s t c noted e h =
    subst (λ m. IfSome noted (λ u. Within m (length t.fluents) u)) (sym (ap (λ (x : State). length x.atoms) e ∙ same_atoms s c))
    (subst (λ n. IfSome noted (λ u. Within (length s.atoms) n u)) (sym (ap (λ (x : State). length x.fluents) e ∙ same_fluents s c)) h)
