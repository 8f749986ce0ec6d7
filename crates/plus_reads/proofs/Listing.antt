-- A reader that is added under several keys of a table, one after the other.
use Rattle.std.proofs.Common.{◌≡◌, ◌⊎◌, ℕ, ◌+◌, ◌<◌, true, List, [], ◌∷◌, ◌++◌, length, take, get_or, set, refl, ap, sym, subst, ◌∙◌, inl, inr}
use Rattle.std.proofs.lemmas.Bool.{cases_eq}
use Rattle.std.proofs.lemmas.List.{get_or-set_same, get_or-set_other, length-set}
use Rattle.plus_model.specs.Firing.{is_in}
use Rattle.plus_model.proofs.Members.{in_first, in_cases}
use Rattle.plus_reads.specs.Tables.{readers_at}
use Rattle.plus_reads.specs.Listing.{AddsReader}
use Rattle.plus_reads.proofs.Sets.{in_left, in_right, in_either}

in_one : (x k : ℕ) → is_in (x ∷ []) k ≡ true → k ≡ x
in_one x k h = elim (in_cases k x [] h) [ inl e ↦ e | inr i ↦ cc ]

-- one more
module _ (now new : List (List ℕ)) (key reader : ℕ) (h : key < length now) (e : new ≡ set now key (readers_at now key ++ reader ∷ [])) where
  here : readers_at new key ≡ readers_at now key ++ reader ∷ []
  here = ap (λ (t : List (List ℕ)). readers_at t key) e ∙ get_or-set_same now key (readers_at now key ++ reader ∷ []) [] h

  added : (j : ℕ) → is_in (key ∷ []) j ≡ true → is_in (readers_at new j) reader ≡ true
  added j i = subst (λ xs. is_in xs reader ≡ true) (sym (ap (readers_at new) (in_one key j i) ∙ here)) (in_right (readers_at now key) (reader ∷ []) reader (in_first reader []))
