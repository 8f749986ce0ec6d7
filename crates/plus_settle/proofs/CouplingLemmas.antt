-- The first moving fluent that rates name.
use Rattle.std.proofs.Common.{◌≡◌, ℕ, ◌<◌, Bool, true, false, not, List, [], ◌∷◌, ◌++◌, length, map, cond, refl, ap, ap₂, sym, ◌∙◌, pos}
use Rattle.std.proofs.lemmas.List.Elements.{All-head, All-tail}
use Rattle.std.specs.Prelude.{Option, Some, None, option_map, find, slice_get, unwrap_or}
use Rattle.std.specs.List.{All}
use Rattle.plus_fraction.specs.Fraction.{Fraction, whole as whole_of}
use Rattle.plus_model.specs.Terms.{Rate, Problem}
use Rattle.plus_model.specs.Value.{is_zero}
use Rattle.plus_model.specs.Piece.{rate_of}
use Rattle.plus_model.specs.Running.{names, names_of_rates, named_pairs, rates_at, first_coupled}
use Rattle.plus_state.specs.Fits.{RateFits}
use Rattle.plus_settle.specs.Settles.{moves, first_some}

find_by : {A : Type 0} (b : Bool) (x : A) (y z w : Option A) → y ≡ first_some z w → cond b (Some x) y ≡ first_some (cond b (Some x) z) w
find_by true x y z w e = refl
find_by false x y z w e = e

pub find_append : {A : Type 0} (p : A → Bool) (xs ys : List A) → find p (xs ++ ys) ≡ first_some (find p xs) (find p ys)
find_append p [] ys = refl
find_append p (x ∷ xs) ys = find_by (p x) x _ _ _ (find_append p xs ys)

pub name_still : (rs : List Fraction) (f : ℕ) (y : Fraction) → y ≡ rate_of rs f → true ≡ is_zero y → None ≡ find (moves rs) (f ∷ [])
name_still rs f y e h = ap (λ (b : Bool). cond (not b) (Some f) None) (h ∙ ap is_zero e)

pub name_moving : (rs : List Fraction) (f : ℕ) (y : Fraction) → y ≡ rate_of rs f → false ≡ is_zero y → Some f ≡ find (moves rs) (f ∷ [])
name_moving rs f y e h = ap (λ (b : Bool). cond (not b) (Some f) None) (h ∙ ap is_zero e)

pub name_both : (p : ℕ → Bool) (xs ys : List ℕ) (a b z : Option ℕ) → a ≡ find p xs → b ≡ find p ys → z ≡ first_some a b → z ≡ find p (xs ++ ys)
name_both p xs ys a b z e d k = k ∙ ap₂ first_some e d ∙ sym (find_append p xs ys)

pub ruleset naming = (name_still, name_moving, name_both)

-- ---- rates
pub record Naming (n : ℕ) (rest whole : List Rate) (rs : List Fraction) : Type 0 where
  pub inside : All (RateFits n) rest
  pub so_far : find (moves rs) (names_of_rates rest) ≡ find (moves rs) (names_of_rates whole)

pub naming_start : (n : ℕ) (whole : List Rate) (rs : List Fraction) → All (RateFits n) whole → Naming n whole whole rs
naming_start n whole rs h = record { inside = h; so_far = refl }

module _ (n : ℕ) (r : Rate) (rest whole : List Rate) (rs : List Fraction) (h : Naming n (r ∷ rest) whole rs) where
  pub naming_inside : RateFits n r
  naming_inside = All-head (RateFits n) r rest h.inside

  split : first_some (find (moves rs) (names r.amount)) (find (moves rs) (names_of_rates rest)) ≡ find (moves rs) (names_of_rates whole)
  split = sym (find_append (moves rs) (names r.amount) (names_of_rates rest)) ∙ h.so_far

  pub naming_next : None ≡ find (moves rs) (names r.amount) → Naming n rest whole rs
  naming_next e = record {
    inside = All-tail (RateFits n) r rest h.inside;
    so_far = ap (λ (o : Option ℕ). first_some o (find (moves rs) (names_of_rates rest))) e ∙ split;
  }

  pub naming_found : (f : ℕ) → Some f ≡ find (moves rs) (names r.amount) → Some f ≡ find (moves rs) (names_of_rates whole)
  naming_found f e = ap (λ (o : Option ℕ). first_some o (find (moves rs) (names_of_rates rest))) e ∙ split

-- ---- members
pair_by : (b : Bool) (p f : ℕ) (y : Option (ℕ × ℕ)) (z : Option ℕ) → y ≡ option_map (λ (g : ℕ). (p, g)) z → cond b (Some (p, f)) y ≡ option_map (λ (g : ℕ). (p, g)) (cond b (Some f) z)
pair_by true p f y z e = refl
pair_by false p f y z e = e

abbrev couples : List Fraction → ℕ × ℕ → Bool
couples rs c = not (is_zero (unwrap_or (slice_get rs c.1) (whole_of (pos 0))))

find_pairs : (rs : List Fraction) (p : ℕ) (fs : List ℕ) → find (couples rs) (map (λ (f : ℕ). (p, f)) fs) ≡ option_map (λ (f : ℕ). (p, f)) (find (moves rs) fs)
find_pairs rs p [] = refl
find_pairs rs p (f ∷ fs) = pair_by (moves rs f) p f _ _ (find_pairs rs p fs)

pub record Pairing (P : Problem) (rest whole : List ℕ) (rs : List Fraction) : Type 0 where
  pub inside : All (λ p. p < length P.processes) rest
  pub so_far : first_coupled P rest rs ≡ first_coupled P whole rs

pub pairing_start : (P : Problem) (whole : List ℕ) (rs : List Fraction) → All (λ p. p < length P.processes) whole → Pairing P whole whole rs
pairing_start P whole rs h = record { inside = h; so_far = refl }

module _ (P : Problem) (p : ℕ) (rest whole : List ℕ) (rs : List Fraction) (list : List Rate) (h : Pairing P (p ∷ rest) whole rs) (k : rates_at (slice_get P.processes p) ≡ list) where
  pub pairing_inside : p < length P.processes
  pairing_inside = All-head (λ p. p < length P.processes) p rest h.inside

  divide : first_some (option_map (λ (f : ℕ). (p, f)) (find (moves rs) (names_of_rates list))) (first_coupled P rest rs) ≡ first_coupled P whole rs
  unfolding first_coupled
  divide =
      ap (λ (o : Option (ℕ × ℕ)). first_some o (find (couples rs) (named_pairs P rest))) (sym (find_pairs rs p (names_of_rates list)) ∙ ap (λ (x : List Rate). find (couples rs) (map (λ (f : ℕ). (p, f)) (names_of_rates x))) (sym k))
      ∙ sym (find_append (couples rs) (map (λ (f : ℕ). (p, f)) (names_of_rates (rates_at (slice_get P.processes p)))) (named_pairs P rest)) ∙ h.so_far

  pub pairing_next : None ≡ find (moves rs) (names_of_rates list) → Pairing P rest whole rs
  pairing_next e = record {
    inside = All-tail (λ p. p < length P.processes) p rest h.inside;
    so_far = ap (λ (o : Option ℕ). first_some (option_map (λ (f : ℕ). (p, f)) o) (first_coupled P rest rs)) e ∙ divide;
  }

  pub pairing_found : (f : ℕ) → Some f ≡ find (moves rs) (names_of_rates list) → Some (p, f) ≡ first_coupled P whole rs
  pairing_found f e = ap (λ (o : Option ℕ). first_some (option_map (λ (f : ℕ). (p, f)) o) (first_coupled P rest rs)) e ∙ divide

pub pairing_end : (P : Problem) (whole : List ℕ) (rs : List Fraction) → Pairing P [] whole rs → None ≡ first_coupled P whole rs
unfolding first_coupled
pairing_end P whole rs h = h.so_far
