-- Rates that stand in a list by rising fluents: a place that is found, a rate that is put in, and places that are made.
use Rattle.std.proofs.Common.{◌≡◌, ℕ, ◌<◌, ◌≤◌, ◌+◌, zero, suc, List, [], ◌∷◌, ◌++◌, length, set, take, drop, refl, ap, sym, subst, ◌∙◌, arith, pos, inl, inr}
use Rattle.std.proofs.lemmas.Bool.Decides.{nat_tests}
use Rattle.std.proofs.lemmas.List.Sorted.{IsNonDecreasingBy-from_default}
use Rattle.std.proofs.lemmas.Option.{slice_get-get_or}
use Rattle.std.proofs.lemmas.Map.Entries.{lookup_head, lookup_tail}
use Rattle.std.specs.Prelude.{◌⊎◌, Option, Some, None, Ok, Err, option_map, unwrap_or, slice_index_or, get_or, IsSomeAnd}
use Rattle.std.specs.declared.cmp.Ordering.TheVariants.{Less}
use Rattle.std.specs.Ordering.{nat_cmp, ordering_index}
use Rattle.std.specs.Cmp.{nat_cmp_is, ranked}
use Rattle.std.specs.List.{AllByRecursion, insert}
use Rattle.std.specs.List.Sorted.{IsStrictlySortedBy, IsNonDecreasingBy, IsBinarySearchResult}
use Rattle.std.specs.Map.{lookup, keys_of}
use Rattle.std.specs.BTreeMap.{is_at}
use Rattle.plus_fraction.specs.Fraction.{Fraction, whole}
use Rattle.plus_state.specs.Changes.{AreIn, Over, Rises}
use Rattle.plus_crossing.specs.Rated.{given_rate, all_rates, IsAt}
use Rattle.plus_crossing.proofs.Rated.{at_same, apart_at, same_rates}

-- ---- numbers that rise
over_all : {Q : Type 0} (k : ℕ) (es : List (ℕ × Q)) → Over k es → AllByRecursion (λ y. nat_cmp k y ≡ Less) (keys_of es)
over_all k [] o = tt
over_all k (e ∷ es) o = (sym (nat_cmp_is k e.0 Less o.0), over_all k es o.1)

pub sorted_keys : {Q : Type 0} (es : List (ℕ × Q)) → Rises es → IsStrictlySortedBy nat_cmp (keys_of es)
unfolding IsStrictlySortedBy
sorted_keys [] r = tt
sorted_keys (e ∷ es) r = (over_all e.0 es r.0, sorted_keys es r.1)

-- the rate of another number is looked for behind
behind : {Q : Type 0} (j : ℕ) (e : ℕ × Q) (es : List (ℕ × Q)) → (e.0 ≡ j → ⊥) → lookup (is_at (nat_cmp j)) (e ∷ es) ≡ lookup (is_at (nat_cmp j)) es
behind j e es h = lookup_tail (is_at (nat_cmp j)) e es (apart_at j e.0 h)

at_head : {Q : Type 0} (j : ℕ) (e : ℕ × Q) (es : List (ℕ × Q)) → e.0 ≡ j → lookup (is_at (nat_cmp j)) (e ∷ es) ≡ Some e.1
at_head j e es h = lookup_head (is_at (nat_cmp j)) e es (at_same j e.0 (sym h))

pub none_over : {Q : Type 0} (k : ℕ) (es : List (ℕ × Q)) → Over k es → lookup (is_at (nat_cmp k)) es ≡ None
none_over k [] o = refl
none_over k (e ∷ es) o = (let a = o.0 in behind k e es (λ d. omega (arith, a, d))) ∙ none_over k es o.1

-- ---- entries by their places
least : {Q : Type 0} (es : List (ℕ × Q)) (n j : ℕ) (d : ℕ × Q) → Over n es → j < length es → n < (get_or es j d).0
least [] n j d o h = absurd (omega arith)
least (e ∷ es) n zero d o h = o.0
least (e ∷ es) n (suc j) d o h = least es n j d o.1 (omega arith)

rises : {Q : Type 0} (es : List (ℕ × Q)) (i j : ℕ) (d : ℕ × Q) → Rises es → i ≤ j → j < length es → (get_or es i d).0 ≤ (get_or es j d).0
rises [] i j d r l h = absurd (omega arith)
rises (e ∷ es) zero zero d r l h = omega arith
rises (e ∷ es) zero (suc j) d r l h = (let b = least es e.0 j d r.0 (omega arith) in omega arith)
rises (e ∷ es) (suc i) zero d r l h = absurd (omega arith)
rises (e ∷ es) (suc i) (suc j) d r l h = rises es i j d r.1 (omega arith) (omega arith)

pub compared_rise : {Q : Type 0} (es : List (ℕ × Q)) (k : ℕ) (d : ℕ × Q) → Rises es → IsNonDecreasingBy (λ (y : ℕ × Q). ordering_index (nat_cmp y.0 k)) es
compared_rise {Q} es k d r = IsNonDecreasingBy-from_default (λ (y : ℕ × Q). ordering_index (nat_cmp y.0 k)) es d (λ i j l h.
    let up : (get_or es i d).0 ≤ (get_or es j d).0 = rises es i j d r l h in
    grind (arith, nat_tests))

below_take : {Q : Type 0} (es : List (ℕ × Q)) (i k : ℕ) (d : ℕ × Q) → i ≤ length es → ((j : ℕ) → j < i → (get_or es j d).0 < k) → AreIn k (take i es)
below_take [] zero k d l h = tt
below_take [] (suc i) k d l h = tt
below_take (e ∷ es) zero k d l h = tt
below_take (e ∷ es) (suc i) k d l h = (h 0 (omega arith), below_take es i k d (omega arith) (λ j o. h (suc j) (omega arith)))

over_drop : {Q : Type 0} (es : List (ℕ × Q)) (i k : ℕ) (d : ℕ × Q) → ((j : ℕ) → i ≤ j → j < length es → k < (get_or es j d).0) → Over k (drop i es)
over_drop [] zero k d h = tt
over_drop [] (suc i) k d h = tt
over_drop (e ∷ es) zero k d h = (h 0 (omega arith) (omega arith), over_drop es zero k d (λ j a b. h (suc j) (omega arith) (omega arith)))
over_drop (e ∷ es) (suc i) k d h = over_drop es i k d (λ j a b. h (suc j) (omega arith) (omega arith))

pub next_entry : {A : Type 0} (xs : List A) (i : ℕ) (x : A) → i < length xs → x ≡ get_or xs i x → drop i xs ≡ x ∷ drop (i + 1) xs
next_entry [] i x h e = absurd (omega arith)
next_entry (y ∷ xs) zero x h e = ap (λ z. z ∷ xs) (sym e)
next_entry (y ∷ xs) (suc i) x h e =
    let n : suc i + 1 ≡ suc (i + 1) = omega arith in
    next_entry xs i x (omega arith) e ∙ ap (λ m. x ∷ drop m (y ∷ xs)) (sym n)

-- ---- what a search finds
pub found_place : {Q : Type 0} (es : List (ℕ × Q)) (k i : ℕ) → i < length es → IsBinarySearchResult (λ (y : ℕ × Q). nat_cmp y.0 k) es (Ok i) → IsAt i k es
found_place {Q} [] k i h s = absurd (omega arith)
found_place {Q} (e ∷ es) k i h s =
    subst (λ (o : Option (ℕ × Q)). IsSomeAnd o (λ y. y.0 ≡ k)) (sym (slice_get-get_or (e ∷ es) i e h)) (ranked _ k _ (sym (s e)))

pub found_between : {Q : Type 0} (es : List (ℕ × Q)) (k i : ℕ) → i ≤ length es → Rises es → IsBinarySearchResult (λ (y : ℕ × Q). nat_cmp y.0 k) es (Err i) → (i ≤ length es) × AreIn k (take i es) × Over k (drop i es)
found_between [] k zero h r s = (h, tt, tt)
found_between [] k (suc i) h r s = absurd (omega arith)
found_between (e ∷ es) k i h r s = (
  h,
  below_take (e ∷ es) i k e h (λ j b. ranked _ k _ (sym ((s (compared_rise (e ∷ es) k e r)).0 j e (omega arith) b))),
  over_drop (e ∷ es) i k e (λ j a b. (let l = ranked _ k _ (sym ((s (compared_rise (e ∷ es) k e r)).1 j e (omega arith) b)) in omega arith)),
)

-- ---- the rate of a number
same_or_not : (k j : ℕ) → (k ≡ j) ⊎ (k ≡ j → ⊥)
same_or_not zero zero = inl refl
same_or_not zero (suc j) = inr (λ d. omega (arith, d))
same_or_not (suc k) zero = inr (λ d. omega (arith, d))
same_or_not (suc k) (suc j) = elim (same_or_not k j) [ inl e ↦ inl (ap suc e) | inr n ↦ inr (λ d. n (omega (arith, d))) ]

cons_same : {Q : Type 0} (j : ℕ) (e : ℕ × Q) (xs ys : List (ℕ × Q)) → lookup (is_at (nat_cmp j)) xs ≡ lookup (is_at (nat_cmp j)) ys → lookup (is_at (nat_cmp j)) (e ∷ xs) ≡ lookup (is_at (nat_cmp j)) (e ∷ ys)
cons_same j e xs ys p = elim (same_or_not e.0 j) [
  | inl d ↦ at_head j e xs d ∙ sym (at_head j e ys d)
  | inr n ↦ behind j e xs n ∙ p ∙ sym (behind j e ys n)
]

over_at : {Q : Type 0} (es : List (ℕ × Q)) (i k n : ℕ) → IsAt i k es → Over n es → n < k
over_at [] zero k n h o = absurd h
over_at [] (suc i) k n h o = absurd h
over_at (e ∷ es) zero k n h o = subst (λ (m : ℕ). n < m) h o.0
over_at (e ∷ es) (suc i) k n h o = over_at es i k n h o.1

pub at_read : {Q : Type 0} (es : List (ℕ × Q)) (i k : ℕ) (x : ℕ × Q) → IsAt i k es → Rises es → x ≡ slice_index_or es i x → Some x.1 ≡ lookup (is_at (nat_cmp k)) es
at_read [] zero k x h r d = absurd h
at_read [] (suc i) k x h r d = absurd h
at_read (e ∷ es) zero k x h r d = ap (λ y. Some y.1) d ∙ sym (at_head k e es h)
at_read (e ∷ es) (suc i) k x h r d = at_read es i k x h r.1 d ∙ sym (let l = over_at es i k e.0 h r.0 in behind k e es (λ p. omega (arith, l, p)))

pub nowhere : {Q : Type 0} (es : List (ℕ × Q)) (i k : ℕ) → AreIn k (take i es) → Over k (drop i es) → lookup (is_at (nat_cmp k)) es ≡ None
nowhere [] i k a o = refl
nowhere (e ∷ es) zero k a o = none_over k (e ∷ es) o
nowhere (e ∷ es) (suc i) k a o = (let l = a.0 in behind k e es (λ d. omega (arith, l, d))) ∙ nowhere es i k a.1 o

-- ---- another rate at a place
module _ {Q : Type 0} (k : ℕ) (q : Q) where
  over_set : (es : List (ℕ × Q)) (i n : ℕ) → IsAt i k es → Over n es → Over n (set es i (k, q))
  over_set [] zero n h o = absurd h
  over_set [] (suc i) n h o = absurd h
  over_set (e ∷ es) zero n h o = (subst (λ (m : ℕ). n < m) h o.0, o.1)
  over_set (e ∷ es) (suc i) n h o = (o.0, over_set es i n h o.1)

  pub rises_set : (es : List (ℕ × Q)) (i : ℕ) → IsAt i k es → Rises es → Rises (set es i (k, q))
  rises_set [] zero h r = absurd h
  rises_set [] (suc i) h r = absurd h
  rises_set (e ∷ es) zero h r = (subst (λ (m : ℕ). Over m es) h r.0, r.1)
  rises_set (e ∷ es) (suc i) h r = (over_set es i e.0 h r.0, rises_set es i h r.1)

  pub in_set : (es : List (ℕ × Q)) (i n : ℕ) → IsAt i k es → AreIn n es → AreIn n (set es i (k, q))
  in_set [] zero n h a = absurd h
  in_set [] (suc i) n h a = absurd h
  in_set (e ∷ es) zero n h a = (subst (λ (m : ℕ). m < n) h a.0, a.1)
  in_set (e ∷ es) (suc i) n h a = (a.0, in_set es i n h a.1)

  pub here_set : (es : List (ℕ × Q)) (i : ℕ) → IsAt i k es → Rises es → lookup (is_at (nat_cmp k)) (set es i (k, q)) ≡ Some q
  here_set [] zero h r = absurd h
  here_set [] (suc i) h r = absurd h
  here_set (e ∷ es) zero h r = at_head k (k, q) es refl
  here_set (e ∷ es) (suc i) h r = (let l = over_at es i k e.0 h r.0 in behind k e (set es i (k, q)) (λ d. omega (arith, l, d))) ∙ here_set es i h r.1

  pub apart_set : (es : List (ℕ × Q)) (i : ℕ) → IsAt i k es → (j : ℕ) → (j ≡ k → ⊥) → lookup (is_at (nat_cmp j)) (set es i (k, q)) ≡ lookup (is_at (nat_cmp j)) es
  apart_set [] zero h j ne = absurd h
  apart_set [] (suc i) h j ne = absurd h
  apart_set (e ∷ es) zero h j ne = behind j (k, q) es (λ d. ne (sym d)) ∙ sym (behind j e es (λ d. ne (sym d ∙ h)))
  apart_set (e ∷ es) (suc i) h j ne = cons_same j e (set es i (k, q)) es (apart_set es i h j ne)

  -- ---- one entry more
  over_put : (es : List (ℕ × Q)) (i n : ℕ) → n < k → Over n es → Over n (insert es i (k, q))
  over_put [] zero n h o = (h, tt)
  over_put [] (suc i) n h o = (h, tt)
  over_put (e ∷ es) zero n h o = (h, o)
  over_put (e ∷ es) (suc i) n h o = (o.0, over_put es i n h o.1)

  pub rises_put : (es : List (ℕ × Q)) (i : ℕ) → AreIn k (take i es) → Over k (drop i es) → Rises es → Rises (insert es i (k, q))
  rises_put [] zero a o r = (tt, tt)
  rises_put [] (suc i) a o r = (tt, tt)
  rises_put (e ∷ es) zero a o r = (o, r)
  rises_put (e ∷ es) (suc i) a o r = (over_put es i e.0 a.0 r.0, rises_put es i a.1 o r.1)

  pub in_put : (es : List (ℕ × Q)) (i n : ℕ) → k < n → AreIn n es → AreIn n (insert es i (k, q))
  in_put [] zero n h a = (h, tt)
  in_put [] (suc i) n h a = (h, tt)
  in_put (e ∷ es) zero n h a = (h, a)
  in_put (e ∷ es) (suc i) n h a = (a.0, in_put es i n h a.1)

  pub here_put : (es : List (ℕ × Q)) (i : ℕ) → AreIn k (take i es) → lookup (is_at (nat_cmp k)) (insert es i (k, q)) ≡ Some q
  here_put [] zero a = at_head k (k, q) [] refl
  here_put [] (suc i) a = at_head k (k, q) [] refl
  here_put (e ∷ es) zero a = at_head k (k, q) (e ∷ es) refl
  here_put (e ∷ es) (suc i) a = (let l = a.0 in behind k e (insert es i (k, q)) (λ d. omega (arith, l, d))) ∙ here_put es i a.1

  pub apart_put : (es : List (ℕ × Q)) (i : ℕ) (j : ℕ) → (j ≡ k → ⊥) → lookup (is_at (nat_cmp j)) (insert es i (k, q)) ≡ lookup (is_at (nat_cmp j)) es
  apart_put [] zero j ne = behind j (k, q) [] (λ d. ne (sym d))
  apart_put [] (suc i) j ne = behind j (k, q) [] (λ d. ne (sym d))
  apart_put (e ∷ es) zero j ne = behind j (k, q) (e ∷ es) (λ d. ne (sym d))
  apart_put (e ∷ es) (suc i) j ne = cons_same j e (insert es i (k, q)) es (apart_put es i j ne)

-- ---- places that are made
module _ {Q : Type 0} (v : Q → Fraction) where
  abbrev AreZero : List (ℕ × Q) → Type 0
  AreZero [] = Unit {0}
  AreZero (e ∷ es) = (v e.1 ≡ whole (pos 0)) × AreZero es

  zero_given : (es : List (ℕ × Q)) (j : ℕ) → AreZero es → given_rate v es j ≡ given_rate v [] j
  zero_given [] j a = refl
  zero_given (e ∷ es) j a = elim (same_or_not e.0 j) [
    | inl d ↦ ap (λ (o : Option Q). unwrap_or (option_map v o) (whole (pos 0))) (at_head j e es d) ∙ a.0
    | inr n ↦ ap (λ (o : Option Q). unwrap_or (option_map v o) (whole (pos 0))) (behind j e es n) ∙ zero_given es j a.1
  ]

  -- the places so far, all below this number and that of all fluents
  pub record Making (below n : ℕ) (es : List (ℕ × Q)) : Type 0 where
    pub inside : AreIn below es
    pub within : below ≤ n
    pub rise : Rises es
    pub zeros : AreZero es

  in_end : (es : List (ℕ × Q)) (below k : ℕ) (z : Q) → AreIn below es → below ≤ k → AreIn (k + 1) (es ++ (k, z) ∷ [])
  in_end [] below k z a l = (omega arith, tt)
  in_end (e ∷ es) below k z a l = (let b = a.0 in omega arith, in_end es below k z a.1 l)

  over_end : (es : List (ℕ × Q)) (n k : ℕ) (z : Q) → Over n es → n < k → Over n (es ++ (k, z) ∷ [])
  over_end [] n k z o l = (l, tt)
  over_end (e ∷ es) n k z o l = (o.0, over_end es n k z o.1 l)

  rises_end : (es : List (ℕ × Q)) (below k : ℕ) (z : Q) → Rises es → AreIn below es → below ≤ k → Rises (es ++ (k, z) ∷ [])
  rises_end [] below k z r a l = (tt, tt)
  rises_end (e ∷ es) below k z r a l = ((let b = a.0 in over_end es e.0 k z r.0 (omega arith)), rises_end es below k z r.1 a.1 l)

  zeros_end : (es : List (ℕ × Q)) (k : ℕ) (z : Q) → AreZero es → v z ≡ whole (pos 0) → AreZero (es ++ (k, z) ∷ [])
  zeros_end [] k z a e = (e, tt)
  zeros_end (x ∷ es) k z a e = (a.0, zeros_end es k z a.1 e)

  pub making_next : (below n k : ℕ) (z : Q) (es new : List (ℕ × Q)) → Making below n es → below ≤ k → k < n → v z ≡ whole (pos 0) → new ≡ es ++ (k, z) ∷ [] → Making (k + 1) n new
  making_next below n k z es new m l h e d = subst (λ (xs : List (ℕ × Q)). Making (k + 1) n xs) (sym d) (record {
    inside = in_end es below k z m.inside l;
    within = omega arith;
    rise = rises_end es below k z m.rise m.inside l;
    zeros = zeros_end es k z m.zeros e;
  })

  none_in : (es : List (ℕ × Q)) → AreIn 0 es → es ≡ []
  none_in [] a = refl
  none_in (e ∷ es) a = absurd (omega (arith, a.0))

  -- with these places the rates are what they were, where there were none
  pub made_same : (below old n : ℕ) (es olds : List (ℕ × Q)) (rates : List Fraction) → Making below n es → all_rates v olds 0 n ≡ rates → old ≡ 0 → AreIn old olds → all_rates v es 0 n ≡ rates
  made_same below old n es olds rates m e o a =
      same_rates v es [] 0 n (λ i b. zero_given es i m.zeros)
      ∙ ap (λ (xs : List (ℕ × Q)). all_rates v xs 0 n) (sym (none_in olds (subst (λ (k : ℕ). AreIn k olds) o a))) ∙ e
