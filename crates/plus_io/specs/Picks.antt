-- Which files of a shelf were read, and how much of each. What a shelf does not tell is `None`.
use Rattle.std.specs.Prelude.{◌≡◌, ◌⊎◌, ℕ, ◌+◌, ◌≤◌, List, [], ◌∷◌, Option, Some, None}
use Rattle.plus_io.specs.Files.{TakesAtMost}

-- a name that was picked, and how many bytes were read from then to the next pick
pub record Pick : Type 0 where
  pub name : List ℕ
  pub count : ℕ

-- the picks, of which the latest is the first, with one more, after which so many bytes were read
abbrev pub with_pick : List ℕ → ℕ → Option (List Pick) → Option (List Pick)
with_pick name count None = None
with_pick name count (Some picks) = Some (record { name = name; count = count } ∷ picks)

-- the picks, after the latest of which so many bytes more were read
abbrev pub with_read : ℕ → Option (List Pick) → Option (List Pick)
with_read count None = None
with_read count (Some []) = Some []
with_read count (Some (pick ∷ picks)) = Some (record pick { count = pick.count + count } ∷ picks)

-- this name was picked, once, and no other, and then at most so many bytes were read
abbrev pub PicksOnce : ℕ → List ℕ → Option (List Pick) → Option (List Pick) → Type 0
PicksOnce most name old new = (count : ℕ) × (count ≤ most) × (new ≡ with_pick name count old)

-- Between old and new the file under a name was read, and no other: its pick failed, and nothing is picked; or it was picked
-- once, at most so many bytes of it were read, and its rest is what is behind them.
pub data ReadsOnce {S : Type 0} (bytes : S → List ℕ → Option (List ℕ)) (picked rest : S → Option (List ℕ)) (picks : S → Option (List Pick)) (most : ℕ) (name : List ℕ) (old new : S) : Type 0 where
  unpicked : picked new ≡ None → picks new ≡ picks old → ReadsOnce bytes picked rest picks most name old new
  taken :
      PicksOnce most name (picks old) (picks new) → TakesAtMost most (bytes old name) (rest new)
      → ReadsOnce bytes picked rest picks most name old new

-- the files under these names were read so, in this order
abbrev pub ReadsEach : {S : Type 0} → (S → List ℕ → Option (List ℕ)) → (S → Option (List ℕ)) → (S → Option (List ℕ)) → (S → Option (List Pick)) → ℕ → List (List ℕ) → S → S → Type 0
ReadsEach bytes picked rest picks most [] old new = new ≡ old
ReadsEach {S = S} bytes picked rest picks most (name ∷ names) old new =
    (between : S) × ReadsOnce bytes picked rest picks most name old between × ReadsEach bytes picked rest picks most names between new

-- the same of some first ones of these names, of all or of none
abbrev pub ReadsInOrder : {S : Type 0} → (S → List ℕ → Option (List ℕ)) → (S → Option (List ℕ)) → (S → Option (List ℕ)) → (S → Option (List Pick)) → ℕ → List (List ℕ) → S → S → Type 0
ReadsInOrder bytes picked rest picks most [] old new = new ≡ old
ReadsInOrder {S = S} bytes picked rest picks most (name ∷ names) old new =
    (new ≡ old) ⊎ ((between : S) × ReadsOnce bytes picked rest picks most name old between × ReadsInOrder bytes picked rest picks most names between new)
