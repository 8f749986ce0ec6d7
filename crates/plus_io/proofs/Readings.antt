-- How readings of single files make a reading of several.
use Rattle.std.proofs.Common.{◌≡◌, ℕ, List, [], ◌∷◌, ◌++◌, Option, refl, sym, subst, inl, inr}
use Rattle.plus_io.specs.Picks.{Pick, ReadsOnce, ReadsEach, ReadsInOrder}

module _ {S : Type 0} (bytes : S → List ℕ → Option (List ℕ)) (picked rest : S → Option (List ℕ)) (picks : S → Option (List Pick)) (most : ℕ) where
  -- no file is read
  pub none_read : (names : List (List ℕ)) (s : S) → ReadsInOrder bytes picked rest picks most names s s
  none_read [] s = refl
  none_read (name ∷ names) s = inl refl

  -- the first file is read, and no other
  pub one_read : (name : List ℕ) (names : List (List ℕ)) (old new : S) → ReadsOnce bytes picked rest picks most name old new → ReadsInOrder bytes picked rest picks most (name ∷ names) old new
  one_read name names old new h = inr (new, h, none_read names new)

  -- the first file is read, and then others
  pub then_read : (name : List ℕ) (names : List (List ℕ)) (old between new : S) → ReadsOnce bytes picked rest picks most name old between
      → ReadsInOrder bytes picked rest picks most names between new → ReadsInOrder bytes picked rest picks most (name ∷ names) old new
  then_read name names old between new h r = inr (between, h, r)

  -- two files are read
  pub both_read : (first second : List ℕ) (old between new : S) → ReadsOnce bytes picked rest picks most first old between
      → ReadsOnce bytes picked rest picks most second between new → ReadsEach bytes picked rest picks most (first ∷ second ∷ []) old new
  both_read first second old between new h k = (between, h, (new, k, refl))

  -- some files are read, and then some first ones of others
  pub each_then : (names more : List (List ℕ)) (old between new : S) → ReadsEach bytes picked rest picks most names old between
      → ReadsInOrder bytes picked rest picks most more between new → ReadsInOrder bytes picked rest picks most (names ++ more) old new
  each_then [] more old between new e r = subst (λ (s : S). ReadsInOrder bytes picked rest picks most more s new) e r
  each_then (name ∷ names) more old between new (s, h, e) r = inr (s, h, each_then names more s between new e r)

  -- and of a longer list
  pub of_more : (names more : List (List ℕ)) (old new : S) → ReadsInOrder bytes picked rest picks most names old new → ReadsInOrder bytes picked rest picks most (names ++ more) old new
  of_more [] more old new e = subst (λ (s : S). ReadsInOrder bytes picked rest picks most more old s) (sym e) (none_read more old)
  of_more (name ∷ names) more old new (inl e) = inl e
  of_more (name ∷ names) more old new (inr (s, h, r)) = inr (s, h, of_more names more s new r)
