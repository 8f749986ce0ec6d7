-- What is noted leads back to the root, and from there on to any other state with that root.
use Rattle.std.proofs.Common.{◌≡◌, ℕ, ◌<◌, List, [], ◌∷◌, ◌++◌, length, get_or, set, refl, ap, sym, subst, ◌∙◌, append_assoc, append-nil}
use Rattle.std.proofs.lemmas.List.{length-set, get_or-set_same, get_or-set_other, ext_get_or}
use Rattle.std.specs.Prelude.{Bool, true, false, nat_eq}
use Rattle.std.proofs.lemmas.Bool.{eqb-true, eqb-false}
use Rattle.plus_state.specs.Changes.{patched_list, AreIn}
use Rattle.plus_state.proofs.PatchLemmas.{length-patched}
use Rattle.plus_state.proofs.OpenLemmas.{in_append}
use Rattle.plus_timeline.specs.Undo.{undone_list, recalled_list}

-- ---- one list

-- the number stands at none of these
abbrev Off : {A : Type 0} → ℕ → List (ℕ × A) → Type 0
Off k [] = Unit {0}
Off k (c ∷ cs) = (c.0 ≡ k → ⊥) × Off k cs

off_left : {A : Type 0} (k : ℕ) (xs ys : List (ℕ × A)) → Off k (xs ++ ys) → Off k xs
off_left k [] ys h = tt
off_left k (x ∷ xs) ys h = (h.0, off_left k xs ys h.1)

off_right : {A : Type 0} (k : ℕ) (xs ys : List (ℕ × A)) → Off k (xs ++ ys) → Off k ys
off_right k [] ys h = h
off_right k (x ∷ xs) ys h = off_right k xs ys h.1

pub length-undone : {A : Type 0} (cs : List (ℕ × A)) (xs : List A) → length (undone_list cs xs) ≡ length xs
length-undone [] xs = refl
length-undone (c ∷ cs) xs = length-set (undone_list cs xs) c.0 c.1 ∙ length-undone cs xs

pub undone-append : {A : Type 0} (cs ds : List (ℕ × A)) (xs : List A) → undone_list (cs ++ ds) xs ≡ undone_list cs (undone_list ds xs)
undone-append [] ds xs = refl
undone-append (c ∷ cs) ds xs = ap (λ ys. set ys c.0 c.1) (undone-append cs ds xs)

-- off what is named nothing is changed
patched_off : {A : Type 0} (k : ℕ) (cs : List (ℕ × A)) (xs : List A) (d : A) → Off k cs → get_or (patched_list cs xs) k d ≡ get_or xs k d
patched_off k [] xs d h = refl
patched_off k (c ∷ cs) xs d h = patched_off k cs _ d h.1 ∙ get_or-set_other xs c.0 k c.1 d (λ e. h.0 (sym e))

undone_off : {A : Type 0} (k : ℕ) (cs : List (ℕ × A)) (xs : List A) (d : A) → Off k cs → get_or (undone_list cs xs) k d ≡ get_or xs k d
undone_off k [] xs d h = refl
undone_off k (c ∷ cs) xs d h = get_or-set_other (undone_list cs xs) c.0 k c.1 d (λ e. h.0 (sym e)) ∙ undone_off k cs xs d h.1

pub recalled_in : {A : Type 0} (n : ℕ) (at : ℕ → A) (cs : List (ℕ × A)) → AreIn n cs → AreIn n (recalled_list at cs)
recalled_in n at [] h = tt
recalled_in n at (c ∷ cs) h = (h.0, recalled_in n at cs h.1)

recalled-append : {A : Type 0} (at : ℕ → A) (cs ds : List (ℕ × A)) → recalled_list at (cs ++ ds) ≡ recalled_list at cs ++ recalled_list at ds
recalled-append at [] ds = refl
recalled-append at (c ∷ cs) ds = ap (λ xs. (c.0, at c.0) ∷ xs) (recalled-append at cs ds)

-- with the values of another list, where the two agree off what is named
module _ {A : Type 0} (to : List A) (d : A) (at : ℕ → A) (is : (k : ℕ) → at k ≡ get_or to k d) where
  set_at : (xs : List A) (i k : ℕ) (b : Bool) → nat_eq i k ≡ b → i < length xs → ((i ≡ k → ⊥) → get_or xs k d ≡ get_or to k d) → get_or (set xs i (at i)) k d ≡ get_or to k d
  set_at xs i k true e l h =
      let same : i ≡ k = eqb-true i k e in
      subst (λ (j : ℕ). get_or (set xs i (at i)) j d ≡ get_or to j d) same (get_or-set_same xs i (at i) d l ∙ is i)
  set_at xs i k false e l h =
      let other : i ≡ k → ⊥ = eqb-false i k e in
      get_or-set_other xs i k (at i) d (λ s. other (sym s)) ∙ h other

  undone_at : (cs : List (ℕ × A)) (xs : List A) (k : ℕ) → AreIn (length xs) cs → (Off k cs → get_or xs k d ≡ get_or to k d) → get_or (undone_list (recalled_list at cs) xs) k d ≡ get_or to k d
  undone_at [] xs k i h = h tt
  undone_at (c ∷ cs) xs k i h =
      set_at (undone_list (recalled_list at cs) xs) c.0 k (nat_eq c.0 k) refl
      (subst (λ n. c.0 < n) (sym (length-undone (recalled_list at cs) xs)) i.0)
      (λ o. undone_at cs xs k i.1 (λ off. h (o, off)))

  patched_at : (cs : List (ℕ × A)) (xs : List A) (k : ℕ) → AreIn (length xs) cs → (Off k cs → get_or xs k d ≡ get_or to k d) → get_or (patched_list (recalled_list at cs) xs) k d ≡ get_or to k d
  patched_at [] xs k i h = h tt
  patched_at (c ∷ cs) xs k i h =
      patched_at cs (set xs c.0 (at c.0)) k (subst (λ n. AreIn n cs) (sym (length-set xs c.0 (at c.0))) i.1)
      (λ off. set_at xs c.0 k (nat_eq c.0 k) refl i.0 (λ o. h (o, off)))

  -- a change is undone
  pub back_list : (cs : List (ℕ × A)) → AreIn (length to) cs → undone_list (recalled_list at cs) (patched_list cs to) ≡ to
  back_list cs i =
      let n = length-patched cs to in
      ext_get_or d _ _ (length-undone (recalled_list at cs) (patched_list cs to) ∙ n)
      (λ k h. undone_at cs (patched_list cs to) k (subst (λ m. AreIn m cs) (sym n) i) (λ off. patched_off k cs to d off))

  -- nothing is changed, nor undone
  pub still_list : (cs : List (ℕ × A)) → AreIn (length to) cs → undone_list (recalled_list at cs) to ≡ to
  still_list cs i =
      ext_get_or d _ _ (length-undone (recalled_list at cs) to) (λ k h. undone_at cs to k i (λ off. refl))

  -- the way from one state over the root to another one
  pub way_list : (from : List A) (us vs : List (ℕ × A)) → length from ≡ length to → AreIn (length from) us → AreIn (length from) vs → undone_list us from ≡ undone_list vs to → patched_list (recalled_list at us ++ recalled_list at vs) from ≡ to
  way_list from us vs n i j r =
      subst (λ (xs : List (ℕ × A)). patched_list xs from ≡ to) (recalled-append at us vs)
      (ext_get_or d _ _ (length-patched (recalled_list at (us ++ vs)) from ∙ n)
      (λ k h. patched_at (us ++ vs) from k (in_append (length from) us vs i j)
      (λ off. sym (undone_off k us from d (off_left k us vs off)) ∙ ap (λ xs. get_or xs k d) r ∙ undone_off k vs to d (off_right k us vs off))))

-- ---- what is named is gone through

pub record Recalling {A : Type 0} (n : ℕ) (at : ℕ → A) (rest whole now start : List (ℕ × A)) : Type 0 where
  pub inside : AreIn n rest
  pub so_far : now ++ recalled_list at rest ≡ start ++ recalled_list at whole
