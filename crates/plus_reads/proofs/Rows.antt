-- Pairs of a key and a reader are counted, and put in rows.
use Rattle.std.proofs.Common.{◌≡◌, ℕ, zero, suc, ◌+◌, ◌-◌, ◌<◌, ◌≤◌, List, [], ◌∷◌, ◌++◌, length, map, take, drop, get_or, set, replicate, refl, ap, ap₂, sym, subst, ◌∙◌, inl, inr, arith}
use Rattle.std.specs.Prelude.{All}
use Rattle.std.specs.List.{range_with_len}
use Rattle.std.proofs.lemmas.Bool.{cases_eq, cases_lt}
use Rattle.std.proofs.lemmas.Bool.Decides.{nat_tests}
use Rattle.std.proofs.lemmas.List.{length-set, length-append, length-replicate, length-drop, get_or-set_same, get_or-set_other, get_or-replicate, get_or_past, get_or_read, length-take-le, take_more, take_all, drop_more, take-append-drop, drop-set-lt, drop-set-add, take-set-le, take_more_set}
use Rattle.std.proofs.lemmas.List.FromFn.{fill_by_all, length-map-range_with_len, get_or-map-range_with_len}
use Rattle.plus_reads.specs.Rows.{row_at, rows_in, AreRows, readers_in, grouped, start_of, CountsAre, StartsAre}

-- what pairs give to a key
readers_same : (ps : List (ℕ × ℕ)) (k r : ℕ) → readers_in (ps ++ (k, r) ∷ []) k ≡ readers_in ps k ++ r ∷ []
readers_same [] k r = grind (arith, nat_tests)
readers_same (p ∷ ps) k r = let h = readers_same ps k r in grind (arith, nat_tests)

readers_other : (ps : List (ℕ × ℕ)) (k r j : ℕ) → (j ≡ k → ⊥) → readers_in (ps ++ (k, r) ∷ []) j ≡ readers_in ps j
readers_other [] k r j n = grind (arith, nat_tests)
readers_other (p ∷ ps) k r j n = let h = readers_other ps k r j n in grind (arith, nat_tests)

readers_more : (ps qs : List (ℕ × ℕ)) (k : ℕ) → length (readers_in (ps ++ qs) k) ≡ length (readers_in ps k) + length (readers_in qs k)
readers_more [] qs k = omega arith
readers_more (p ∷ ps) qs k = let h = readers_more ps qs k in grind (arith, nat_tests)

pub readers_few : (ps : List (ℕ × ℕ)) (k : ℕ) → length (readers_in ps k) ≤ length ps
readers_few [] k = omega arith
readers_few (p ∷ ps) k = let h = readers_few ps k in grind (arith, nat_tests)

readers_first : (qs : List (ℕ × ℕ)) (k r : ℕ) → 0 < length (readers_in ((k, r) ∷ qs) k)
readers_first qs k r = grind (arith, nat_tests)

-- where the readers of a key start
start_zero : (ps : List (ℕ × ℕ)) → start_of ps 0 ≡ 0
start_zero [] = refl
start_zero (p ∷ ps) = let h = start_zero ps in grind (arith, nat_tests)

start_next : (ps : List (ℕ × ℕ)) (k : ℕ) → start_of ps (k + 1) ≡ start_of ps k + length (readers_in ps k)
start_next [] k = omega arith
start_next (p ∷ ps) k = let h = start_next ps k in grind (arith, nat_tests)

start_later : (ps : List (ℕ × ℕ)) (i j : ℕ) → i ≤ j → start_of ps i ≤ start_of ps j
start_later [] i j h = omega arith
start_later (p ∷ ps) i j h = let r = start_later ps i j h in grind (arith, nat_tests)

pub start_inside : (ps : List (ℕ × ℕ)) (k : ℕ) → start_of ps k ≤ length ps
start_inside [] k = omega arith
start_inside (p ∷ ps) k = let h = start_inside ps k in grind (arith, nat_tests)

row_inside : (ps : List (ℕ × ℕ)) (k : ℕ) → start_of ps k + length (readers_in ps k) ≤ length ps
row_inside ps k = let e = start_next ps k in let h = start_inside ps (k + 1) in omega arith

apart : (ps : List (ℕ × ℕ)) (i j : ℕ) → i < j → start_of ps i + length (readers_in ps i) ≤ start_of ps j
apart ps i j h = let e = start_next ps i in let l = start_later ps (i + 1) j (omega arith) in omega arith

-- one more pair
pub grouped_none : (n : ℕ) → replicate n [] ≡ grouped n []
grouped_none n = fill_by_all (readers_in []) (replicate n []) n [] (length-replicate n []) (λ k h. get_or-replicate n k [] [] h)

pub length-grouped : (n : ℕ) (ps : List (ℕ × ℕ)) → length (grouped n ps) ≡ n
length-grouped n ps = length-map-range_with_len (readers_in ps) 0 n

grouped_at : (n : ℕ) (ps : List (ℕ × ℕ)) (k : ℕ) → k < n → get_or (grouped n ps) k [] ≡ readers_in ps k
grouped_at n ps k h = get_or-map-range_with_len (readers_in ps) 0 n k k [] h (omega arith)

module _ (n : ℕ) (ps : List (ℕ × ℕ)) (key r : ℕ) (h : key < n) where
  abbrev rows : List (List ℕ)
  rows = set (grouped n ps) key (get_or (grouped n ps) key [] ++ r ∷ [])

  at : (k : ℕ) → k < n → get_or rows k [] ≡ readers_in (ps ++ (key, r) ∷ []) k
  at k b = elim (cases_eq k key) [
    | inl e ↦ subst (λ j. get_or rows j [] ≡ readers_in (ps ++ (key, r) ∷ []) j) (sym e) (
        get_or-set_same (grouped n ps) key (get_or (grouped n ps) key [] ++ r ∷ []) [] (subst (λ (m : ℕ). key < m) (sym (length-grouped n ps)) h)
        ∙ ap (λ (xs : List ℕ). xs ++ r ∷ []) (grouped_at n ps key h) ∙ sym (readers_same ps key r))
    | inr d ↦ get_or-set_other (grouped n ps) key k (get_or (grouped n ps) key [] ++ r ∷ []) [] d ∙ grouped_at n ps k b ∙ sym (readers_other ps key r k d)
  ]

  pub grouped_more : grouped n (ps ++ (key, r) ∷ []) ≡ set (grouped n ps) key (get_or (grouped n ps) key [] ++ r ∷ [])
  grouped_more = sym (fill_by_all (readers_in (ps ++ (key, r) ∷ [])) rows n [] (length-set (grouped n ps) key (get_or (grouped n ps) key [] ++ r ∷ []) ∙ length-grouped n ps) at)

pub none_made : (n : ℕ) (qs : List (ℕ × ℕ)) → qs ≡ [] → grouped n qs ≡ replicate n []
none_made n qs e = ap (grouped n) e ∙ sym (grouped_none n)

pub key_below : (n : ℕ) (ps : List (ℕ × ℕ)) (t : List (List ℕ)) (key : ℕ) → grouped n ps ≡ t → key < length t → key < n
key_below n ps t key v h = subst (λ (m : ℕ). key < m) (length-grouped n ps) (subst (λ (u : List (List ℕ)). key < length u) (sym v) h)

pub one_added : (n : ℕ) (ps qs : List (ℕ × ℕ)) (t : List (List ℕ)) (key r : ℕ) → grouped n ps ≡ t → qs ≡ ps ++ (key, r) ∷ [] → key < length t → grouped n qs ≡ set t key (get_or t key [] ++ r ∷ [])
one_added n ps qs t key r v e h =
    subst (λ (u : List (List ℕ)). grouped n qs ≡ set u key (get_or u key [] ++ r ∷ [])) v
    (ap (grouped n) e ∙ grouped_more n ps key r (key_below n ps t key v h))

module _ (n : ℕ) (ps : List (ℕ × ℕ)) (v : List ℕ) (key r : ℕ) (h : key < n) (c : CountsAre n ps v) where
  abbrev new : List ℕ
  new = set v (key + 1) (get_or v (key + 1) 0 + 1)

  there : key + 1 < length v
  there = let s = c.size in omega arith

  each : (k : ℕ) → k < n → get_or new (k + 1) 0 ≡ length (readers_in (ps ++ (key, r) ∷ []) k)
  each k b = elim (cases_eq k key) [
    | inl e ↦ subst (λ j. get_or new (j + 1) 0 ≡ length (readers_in (ps ++ (key, r) ∷ []) j)) (sym e) (
        let a = get_or-set_same v (key + 1) (get_or v (key + 1) 0 + 1) 0 there in let o = c.each key h in
        let l = ap length (readers_same ps key r) ∙ length-append (readers_in ps key) (r ∷ []) in
        omega arith)
    | inr d ↦ get_or-set_other v (key + 1) (k + 1) (get_or v (key + 1) 0 + 1) 0 (λ e. d (omega arith)) ∙ c.each k b ∙ ap length (sym (readers_other ps key r k d))
  ]

  pub counts_more : CountsAre n (ps ++ (key, r) ∷ []) (set v (key + 1) (get_or v (key + 1) 0 + 1))
  counts_more = record {
    size = length-set v (key + 1) (get_or v (key + 1) 0 + 1) ∙ c.size;
    first = get_or-set_other v (key + 1) 0 (get_or v (key + 1) 0 + 1) 0 (λ e. omega arith) ∙ c.first;
    each = each;
  }

-- below this key there are starts, and from it on counts; the sum is the next start
pub record Summed (n : ℕ) (ps : List (ℕ × ℕ)) (v : List ℕ) (key sum : ℕ) : Type 0 where
  pub size : length v ≡ n + 1
  pub first : get_or v 0 0 ≡ 0
  pub sum_is : sum ≡ start_of ps key
  pub starts : (k : ℕ) → k < key → get_or v (k + 1) 0 ≡ start_of ps k
  pub counts : (k : ℕ) → key ≤ k → k < n → get_or v (k + 1) 0 ≡ length (readers_in ps k)

pub summed_none : (n : ℕ) (ps : List (ℕ × ℕ)) (v : List ℕ) → CountsAre n ps v → Summed n ps v 0 0
summed_none n ps v c = record {
  size = c.size;
  first = c.first;
  sum_is = sym (start_zero ps);
  starts = λ k h. absurd (omega arith);
  counts = λ k l h. c.each k h;
}

pub summed_more : (n : ℕ) (ps : List (ℕ × ℕ)) (v : List ℕ) (key sum : ℕ) → key < n → Summed n ps v key sum → Summed n ps (set v (key + 1) sum) (key + 1) (sum + get_or v (key + 1) 0)
summed_more n ps v key sum h s = record {
  size = length-set v (key + 1) sum ∙ s.size;
  first = get_or-set_other v (key + 1) 0 sum 0 (λ e. omega arith) ∙ s.first;
  sum_is = (let a = start_next ps key in let b = s.sum_is in let c = s.counts key (omega arith) h in omega arith);
  starts = λ k b. elim (cases_eq k key) [
    | inl e ↦ subst (λ j. get_or (set v (key + 1) sum) (j + 1) 0 ≡ start_of ps j) (sym e) (get_or-set_same v (key + 1) sum 0 (let z = s.size in omega arith) ∙ s.sum_is)
    | inr d ↦ get_or-set_other v (key + 1) (k + 1) sum 0 (λ e. d (omega arith)) ∙ s.starts k (omega (arith, d))
  ];
  counts = λ k l b. get_or-set_other v (key + 1) (k + 1) sum 0 (λ e. omega arith) ∙ s.counts k (omega arith) b;
}

-- the rows of so many pairs are filled from their starts on
pub record Filled (n : ℕ) (ps done : List (ℕ × ℕ)) (v readers : List ℕ) : Type 0 where
  pub size : length v ≡ n + 1
  pub first : get_or v 0 0 ≡ 0
  pub room : length readers ≡ length ps
  pub next : (k : ℕ) → k < n → get_or v (k + 1) 0 ≡ start_of ps k + length (readers_in done k)
  pub row : (k : ℕ) → k < n → take (length (readers_in done k)) (drop (start_of ps k) readers) ≡ readers_in done k

-- one more reader in a row, and one outside it
row_grows : (xs : List ℕ) (b m x : ℕ) → b + m < length xs → take (m + 1) (drop b (set xs (b + m) x)) ≡ take m (drop b xs) ++ x ∷ []
row_grows xs b m x h = ap (take (m + 1)) (drop-set-add b xs m x) ∙ take_more_set (drop b xs) m x (let l = length-drop b xs in omega arith)

row_before : (xs : List ℕ) (b m at x : ℕ) → b + m ≤ at → take m (drop b (set xs at x)) ≡ take m (drop b xs)
row_before xs b m at x h =
    let e : b + (at - b) ≡ at = omega arith in
    subst (λ (p : ℕ). take m (drop b (set xs p x)) ≡ take m (drop b xs)) e
    (ap (take m) (drop-set-add b xs (at - b) x) ∙ take-set-le m (drop b xs) (at - b) x (omega arith))

row_behind : (xs : List ℕ) (b m at x : ℕ) → at < b → take m (drop b (set xs at x)) ≡ take m (drop b xs)
row_behind xs b m at x h = ap (take m) (drop-set-lt b xs at x h)

module _ (n : ℕ) (ps done rest : List (ℕ × ℕ)) (v readers : List ℕ) (key r : ℕ) (h : key < n) (s : ps ≡ done ++ (key, r) ∷ rest) (f : Filled n ps done v readers) where
  abbrev m : ℕ → ℕ
  m k = length (readers_in done k)

  whole : (k : ℕ) → length (readers_in ps k) ≡ m k + length (readers_in ((key, r) ∷ rest) k)
  whole k = ap (λ (qs : List (ℕ × ℕ)). length (readers_in qs k)) s ∙ readers_more done ((key, r) ∷ rest) k

  in_row : m key < length (readers_in ps key)
  in_row = let a = whole key in let b = readers_first rest key r in omega arith

  abbrev place : ℕ
  place = start_of ps key + m key

  inside : place < length readers
  inside = let a = in_row in let b = row_inside ps key in let c = f.room in omega arith

  pub place_inside : get_or v (key + 1) 0 < length readers
  place_inside = let a = inside in let b = f.next key h in omega arith

  others : (k : ℕ) → (k ≡ key → ⊥) → take (m k) (drop (start_of ps k) (set readers place r)) ≡ take (m k) (drop (start_of ps k) readers)
  others k d = elim (cases_lt k key) [
    | inl l ↦ row_before readers (start_of ps k) (m k) place r (let a = apart ps k key l in let b = whole k in omega arith)
    | inr g ↦ row_behind readers (start_of ps k) (m k) place r (let a = apart ps key k (omega (arith, d)) in let b = in_row in omega arith)
  ]

  longer : length (readers_in done key ++ r ∷ []) ≡ m key + 1
  longer = length-append (readers_in done key) (r ∷ [])

  here : take (length (readers_in done key ++ r ∷ [])) (drop (start_of ps key) (set readers place r)) ≡ readers_in done key ++ r ∷ []
  here =
      ap (λ (l : ℕ). take l (drop (start_of ps key) (set readers place r))) longer
      ∙ row_grows readers (start_of ps key) (m key) r inside ∙ ap (λ (xs : List ℕ). xs ++ r ∷ []) (f.row key h)

  row_next : (k : ℕ) → k < n → take (length (readers_in (done ++ (key, r) ∷ []) k)) (drop (start_of ps k) (set readers place r)) ≡ readers_in (done ++ (key, r) ∷ []) k
  row_next k b = elim (cases_eq k key) [
    | inl e ↦ subst (λ (xs : List ℕ). take (length xs) (drop (start_of ps k) (set readers place r)) ≡ xs) (sym (ap (readers_in (done ++ (key, r) ∷ [])) e ∙ readers_same done key r))
        (subst (λ (j : ℕ). take (length (readers_in done key ++ r ∷ [])) (drop (start_of ps j) (set readers place r)) ≡ readers_in done key ++ r ∷ []) (sym e) here)
    | inr d ↦ subst (λ (xs : List ℕ). take (length xs) (drop (start_of ps k) (set readers place r)) ≡ xs) (sym (readers_other done key r k d)) (others k d ∙ f.row k b)
  ]

  next_next : (k : ℕ) → k < n → get_or (set v (key + 1) (place + 1)) (k + 1) 0 ≡ start_of ps k + length (readers_in (done ++ (key, r) ∷ []) k)
  next_next k b = elim (cases_eq k key) [
    | inl e ↦ subst (λ j. get_or (set v (key + 1) (place + 1)) (j + 1) 0 ≡ start_of ps j + length (readers_in (done ++ (key, r) ∷ []) j)) (sym e) (
        let a = get_or-set_same v (key + 1) (place + 1) 0 (let z = f.size in omega arith) in
        let l : length (readers_in (done ++ (key, r) ∷ []) key) ≡ m key + 1 = ap length (readers_same done key r) ∙ longer in
        omega arith)
    | inr d ↦ get_or-set_other v (key + 1) (k + 1) (place + 1) 0 (λ e. d (omega arith)) ∙ f.next k b ∙ ap (λ (xs : List ℕ). start_of ps k + length xs) (sym (readers_other done key r k d))
  ]

  filled_here : Filled n ps (done ++ (key, r) ∷ []) (set v (key + 1) (place + 1)) (set readers place r)
  filled_here = record {
    size = length-set v (key + 1) (place + 1) ∙ f.size;
    first = get_or-set_other v (key + 1) 0 (place + 1) 0 (λ e. omega arith) ∙ f.first;
    room = length-set readers place r ∙ f.room;
    next = next_next;
    row = row_next;
  }

  pub filled_more : Filled n ps (done ++ (key, r) ∷ []) (set v (key + 1) (get_or v (key + 1) 0 + 1)) (set readers (get_or v (key + 1) 0) r)
  filled_more = subst (λ (p : ℕ). Filled n ps (done ++ (key, r) ∷ []) (set v (key + 1) (p + 1)) (set readers p r)) (sym (f.next key h)) filled_here

pub filled_end : (n : ℕ) (ps : List (ℕ × ℕ)) (v readers : List ℕ) (i : ℕ) → length ps ≤ i → Filled n ps (take i ps) v readers → Filled n ps ps v readers
filled_end n ps v readers i h f = subst (λ (done : List (ℕ × ℕ)). Filled n ps done v readers) (take_all i ps h) f

-- all are in their rows
module _ (n : ℕ) (ps : List (ℕ × ℕ)) (v readers : List ℕ) (f : Filled n ps ps v readers) where
  end_at : (k : ℕ) → k < n → get_or v (k + 1) 0 ≡ start_of ps (k + 1)
  end_at k h = f.next k h ∙ sym (start_next ps k)

  start_at : (k : ℕ) → k < n → get_or v k 0 ≡ start_of ps k
  start_at zero h = f.first ∙ sym (start_zero ps)
  start_at (suc k) h = (let e : k + 1 ≡ suc k = omega arith in subst (λ (j : ℕ). get_or v j 0 ≡ start_of ps j) e (end_at k (omega arith)))

  row_is : (k : ℕ) → k < n → row_at v readers k ≡ readers_in ps k
  row_is k h =
      let l : get_or v (k + 1) 0 - get_or v k 0 ≡ length (readers_in ps k) = (let a = f.next k h in let b = start_at k h in omega arith) in
      ap₂ (λ (l : ℕ) (b : ℕ). take l (drop b readers)) l (start_at k h) ∙ f.row k h

  pub rows_are : rows_in v readers ≡ grouped n ps
  rows_are =
      let l : length v - 1 ≡ n = (let z = f.size in omega arith) in
      ap (λ (m : ℕ). map (row_at v readers) (range_with_len 0 m)) l
      ∙ fill_by_all (readers_in ps) (map (row_at v readers) (range_with_len 0 n)) n [] (length-map-range_with_len (row_at v readers) 0 n)
      (λ k h. get_or-map-range_with_len (row_at v readers) 0 n k k [] h (omega arith) ∙ row_is k h)

  pub are_rows : AreRows v readers
  are_rows key b =
      let h : key < n = (let z = f.size in omega arith) in
      let s = start_at key h in let e = end_at key h in let l = start_later ps key (key + 1) (omega arith) in
      let i = start_inside ps (key + 1) in let z = f.room in
      (omega arith, omega arith)

-- one row of a table, and none behind its end
pub row_found : (v readers : List ℕ) (key : ℕ) → key + 1 < length v → row_at v readers key ≡ get_or (rows_in v readers) key []
row_found v readers key h = sym (get_or-map-range_with_len (row_at v readers) 0 (length v - 1) key key [] (omega arith) (omega arith))

pub row_past : (v readers : List ℕ) (key : ℕ) → length v ≤ key + 1 → [] ≡ get_or (rows_in v readers) key []
row_past v readers key h = sym (get_or_past (rows_in v readers) key [] (let l = length-map-range_with_len (row_at v readers) 0 (length v - 1) in omega arith))

pub row_read : (v readers rs : List ℕ) (t : List (List ℕ)) (key a b n : ℕ) → rows_in v readers ≡ t → rs ≡ readers → n ≡ length v → key + 1 < n → a ≡ get_or v key a → b ≡ get_or v (key + 1) b → take (b - a) (drop a rs) ≡ get_or t key []
row_read v readers rs t key a b n w r l h x y =
    let start = get_or_read v key a (omega arith) x 0 in
    let end : b ≡ get_or v (key + 1) 0 = get_or_read v (key + 1) b (omega arith) y 0 in
    ap (λ (xs : List ℕ). take (b - a) (drop a xs)) r ∙ ap₂ (λ (i j : ℕ). take (j - i) (drop i readers)) start end
    ∙ row_found v readers key (omega arith) ∙ ap (λ (u : List (List ℕ)). get_or u key []) w

pub row_none : (v readers : List ℕ) (t : List (List ℕ)) (key n : ℕ) → rows_in v readers ≡ t → n ≡ length v → n ≤ key + 1 → [] ≡ get_or t key []
row_none v readers t key n w l h = row_past v readers key (omega arith) ∙ ap (λ (u : List (List ℕ)). get_or u key []) w

-- the steps of the loops over pairs: i is where the loop is, and x what it reads there
module _ (n : ℕ) (ps : List (ℕ × ℕ)) (v : List ℕ) (i x : ℕ) (h : i < length ps) (a : All (λ (p : ℕ × ℕ). p.0 < n) ps) (read : x ≡ get_or v ((get_or ps i (0, 0)).0 + 1) x) where
  abbrev p : ℕ × ℕ
  p = get_or ps i (0, 0)

  below : p.0 < n
  below = a i (0, 0) h

  reads : length v ≡ n + 1 → x ≡ get_or v (p.0 + 1) 0
  reads s = get_or_read v (p.0 + 1) x (let b = below in omega arith) read 0

  pub count_few : CountsAre n (take i ps) v → x ≤ i
  count_few c =
      let e = reads c.size in let o = c.each p.0 below in
      let f = readers_few (take i ps) p.0 in let l = length-take-le i ps (omega arith) in
      omega arith

  pub counts_step : CountsAre n (take i ps) v → CountsAre n (take (i + 1) ps) (set v (p.0 + 1) (x + 1))
  counts_step c =
      subst (λ (qs : List (ℕ × ℕ)). CountsAre n qs (set v (p.0 + 1) (x + 1))) (sym (take_more ps i (0, 0) h))
      (subst (λ (z : ℕ). CountsAre n (take i ps ++ p ∷ []) (set v (p.0 + 1) (z + 1))) (sym (reads c.size)) (counts_more n (take i ps) v p.0 p.1 below c))

  split : ps ≡ take i ps ++ p ∷ drop (i + 1) ps
  split = sym (take-append-drop i ps) ∙ ap (λ (zs : List (ℕ × ℕ)). take i ps ++ zs) (drop_more ps i (0, 0) h)

  pub place_step : (readers : List ℕ) → Filled n ps (take i ps) v readers → x < length readers
  place_step readers f =
      subst (λ (z : ℕ). z < length readers) (sym (reads f.size))
      (place_inside n ps (take i ps) (drop (i + 1) ps) v readers p.0 p.1 below split f)

  pub filled_step : (readers : List ℕ) → Filled n ps (take i ps) v readers → Filled n ps (take (i + 1) ps) (set v (p.0 + 1) (x + 1)) (set readers x p.1)
  filled_step readers f =
      subst (λ (qs : List (ℕ × ℕ)). Filled n ps qs (set v (p.0 + 1) (x + 1)) (set readers x p.1)) (sym (take_more ps i (0, 0) h))
      (subst (λ (z : ℕ). Filled n ps (take i ps ++ p ∷ []) (set v (p.0 + 1) (z + 1)) (set readers z p.1)) (sym (reads f.size))
      (filled_more n ps (take i ps) (drop (i + 1) ps) v readers p.0 p.1 below split f))

-- the step of the loop over keys
module _ (n : ℕ) (ps : List (ℕ × ℕ)) (v : List ℕ) (key sum x : ℕ) (h : key < n) (read : x ≡ get_or v (key + 1) x) (s : Summed n ps v key sum) where
  sum_reads : x ≡ get_or v (key + 1) 0
  sum_reads = get_or_read v (key + 1) x (let z = s.size in omega arith) read 0

  pub sum_few : sum + x ≤ length ps
  sum_few =
      let a = s.sum_is in let b = s.counts key (omega arith) h in let e = sum_reads in let r = row_inside ps key in
      omega arith

  pub sum_step : Summed n ps (set v (key + 1) sum) (key + 1) (sum + x)
  sum_step = subst (λ (z : ℕ). Summed n ps (set v (key + 1) sum) (key + 1) (sum + z)) (sym sum_reads) (summed_more n ps v key sum h s)
