-- How far changes are made.
use Rattle.std.proofs.Common.{◌≡◌, ℕ, suc, ◌+◌, ◌<◌, List, [], ◌∷◌, length, map, drop, get_or, set, refl, ap, sym, subst, ◌∙◌, arith, drop-cons}
use Rattle.std.proofs.lemmas.List.{length-set}
use Rattle.plus_model.specs.Terms.{State}
use Rattle.plus_state.specs.Changes.{Changes, patched_list, patched, AreIn}

pub length-patched : {A : Type 0} (cs : List (ℕ × A)) (xs : List A) → length (patched_list cs xs) ≡ length xs
length-patched [] xs = refl
length-patched (c ∷ cs) xs = length-patched cs (set xs c.0 c.1) ∙ length-set xs c.0 c.1

-- changes of a list that are left to make
pub record Patching {A : Type 0} (rest whole : List (ℕ × A)) (now start : List A) : Type 0 where
  pub size : length now ≡ length start
  pub inside : AreIn (length start) rest
  pub so_far : patched_list rest now ≡ patched_list whole start

pub patching_start : {A : Type 0} (whole : List (ℕ × A)) (start : List A) → AreIn (length start) whole → Patching whole whole start start
patching_start whole start h = record { size = refl; inside = h; so_far = refl }

pub patching_inside : {A : Type 0} (c : ℕ × A) (rest whole : List (ℕ × A)) (now start : List A) → Patching (c ∷ rest) whole now start → c.0 < length now
patching_inside c rest whole now start h = subst (λ n. c.0 < n) (sym h.size) h.inside.0

pub patching_next : {A : Type 0} (c : ℕ × A) (rest whole : List (ℕ × A)) (now new start : List A) → Patching (c ∷ rest) whole now start → new ≡ set now c.0 c.1 → Patching rest whole new start
patching_next c rest whole now new start h e = record {
  size = ap length e ∙ length-set now c.0 c.1 ∙ h.size;
  inside = h.inside.1;
  so_far = ap (patched_list rest) e ∙ h.so_far;
}

-- the state after a step is one for as many atoms and fluents
pub same_atoms : (s : State) (c : Changes) → length (patched s c).atoms ≡ length s.atoms
same_atoms s c = length-patched c.atoms s.atoms

pub same_fluents : (s : State) (c : Changes) → length (patched s c).fluents ≡ length s.fluents
same_fluents s c = length-patched c.fluents s.fluents

-- and nothing else is changed
pub record PatchesOnly (R S : Type 0) : Type 0 where
  pub rest : R
  pub patching : S

pub patching_end : {A : Type 0} (whole : List (ℕ × A)) (now start : List A) → Patching [] whole now start → now ≡ patched_list whole start
patching_end whole now start h = h.so_far

pub next_at : {A B : Type 0} (f : A → B) (xs : List A) (i : ℕ) (d : A) → i < length xs → map f (drop i xs) ≡ f (get_or xs i d) ∷ map f (drop (i + 1) xs)
next_at f xs i d h =
    let one : suc i ≡ i + 1 = omega arith in
    ap (map f) (drop-cons xs i d h) ∙ ap (λ (n : ℕ). f (get_or xs i d) ∷ map f (drop n xs)) one

-- one more change of the atoms, or of the fluents, alone
pub only_atoms : (new mid start : State) (xs : List _) → new ≡ record mid { atoms = xs } → mid ≡ record start { atoms = mid.atoms } → new ≡ record start { atoms = new.atoms }
only_atoms new mid start xs n r = n ∙ ap (λ (s : State). record s { atoms = xs }) r ∙ sym (ap (λ (s : State). record start { atoms = s.atoms }) n)

pub only_fluents : (new mid start : State) (xs : List _) → new ≡ record mid { fluents = xs } → mid ≡ record start { fluents = mid.fluents } → new ≡ record start { fluents = new.fluents }
only_fluents new mid start xs n r = n ∙ ap (λ (s : State). record s { fluents = xs }) r ∙ sym (ap (λ (s : State). record start { fluents = s.fluents }) n)
