-- Rows that lie one behind the other in one list, and the pairs of a key and a reader that they come from.
use Rattle.std.specs.Prelude.{◌≡◌, ℕ, ◌+◌, ◌-◌, ◌<◌, ◌≤◌, List, [], ◌∷◌, cond, nat_eq, nat_lt, length, map, get_or, slice_range}
use Rattle.std.specs.List.{range_with_len}

-- the row between two starts that stand side by side
abbrev pub row_at : List ℕ → List ℕ → ℕ → List ℕ
row_at starts readers key = slice_range readers (get_or starts key 0) (get_or starts (key + 1) 0)

-- all rows: one fewer than there are starts
abbrev pub rows_in : List ℕ → List ℕ → List (List ℕ)
rows_in starts readers = map (row_at starts readers) (range_with_len 0 (length starts - 1))

-- no row ends before its start, or behind the end of the list
abbrev pub AreRows : List ℕ → List ℕ → Type 0
AreRows starts readers = (key : ℕ) → key + 1 < length starts → (get_or starts key 0 ≤ get_or starts (key + 1) 0) × (get_or starts (key + 1) 0 ≤ length readers)

-- the readers that pairs give to a key, in their order
abbrev pub readers_in : List (ℕ × ℕ) → ℕ → List ℕ
readers_in [] key = []
readers_in (p ∷ ps) key = cond (nat_eq p.0 key) (p.1 ∷ readers_in ps key) (readers_in ps key)

-- the readers of each of so many keys
abbrev pub grouped : ℕ → List (ℕ × ℕ) → List (List ℕ)
grouped n ps = map (readers_in ps) (range_with_len 0 n)

-- how many pairs have keys below this one
abbrev pub start_of : List (ℕ × ℕ) → ℕ → ℕ
start_of [] key = 0
start_of (p ∷ ps) key = cond (nat_lt p.0 key) 1 0 + start_of ps key

-- behind a 0, how many pairs each key has
pub record CountsAre (n : ℕ) (ps : List (ℕ × ℕ)) (counts : List ℕ) : Type 0 where
  pub size : length counts ≡ n + 1
  pub first : get_or counts 0 0 ≡ 0
  pub each : (k : ℕ) → k < n → get_or counts (k + 1) 0 ≡ length (readers_in ps k)

-- behind a 0, where the readers of each key start
pub record StartsAre (n : ℕ) (ps : List (ℕ × ℕ)) (starts : List ℕ) : Type 0 where
  pub size : length starts ≡ n + 1
  pub first : get_or starts 0 0 ≡ 0
  pub each : (k : ℕ) → k < n → get_or starts (k + 1) 0 ≡ start_of ps k
