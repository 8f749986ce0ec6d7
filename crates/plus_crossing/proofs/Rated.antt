-- The rates of all fluents, told by those that are given.
use Rattle.std.proofs.Common.{◌≡◌, ℕ, ◌<◌, ◌≤◌, ◌+◌, zero, suc, Bool, true, false, List, [], ◌∷◌, ◌++◌, length, set, replicate, refl, ap, ap₂, sym, subst, ◌∙◌, append_assoc, arith, pos, inl, inr}
use Rattle.std.proofs.lemmas.Bool.Decides.{nat_tests}
use Rattle.std.proofs.lemmas.List.{append-nil, map-append}
use Rattle.std.proofs.lemmas.Map.{lookup-none}
use Rattle.std.proofs.lemmas.Map.Entries.{lookup_head, lookup_tail, none_below_head}
use Rattle.std.proofs.lemmas.Map.Keys.{sorted_head, sorted_tail}
use Rattle.std.specs.Prelude.{◌⊎◌, Option, Some, None, not, option_map, unwrap_or, if◌then◌else◌}
use Rattle.std.specs.declared.cmp.Ordering.{Ordering}
use Rattle.std.specs.declared.cmp.Ordering.TheVariants.{Less, Equal, Greater}
use Rattle.std.specs.Ordering.{nat_cmp, is_eq}
use Rattle.std.specs.Cmp.{nat_cmp_is, nat_cmp_total, ranked}
use Rattle.std.specs.List.{AllByRecursion}
use Rattle.std.specs.List.Sorted.{IsStrictlySortedBy}
use Rattle.std.specs.Map.{lookup, keys_of}
use Rattle.std.specs.BTreeMap.{is_at}
use Rattle.plus_fraction.specs.Fraction.{Fraction, whole}
use Rattle.plus_model.specs.Firing.{numbers_of}
use Rattle.plus_model.specs.Piece.{rate_of}
use Rattle.plus_fraction.proofs.Compared.{equal-compared}
use Rattle.plus_model.specs.Terms.{Same}
use Rattle.plus_model.specs.Value.{is_zero, passes}
use Rattle.plus_state.specs.declared.term.FluentId.{FluentId}
use Rattle.plus_state.specs.Changes.{AreIn}
use Rattle.plus_crossing.specs.Rated.{given_rate, all_rates, moving_of, fluent_numbers}

-- ---- numbers that are compared
pub at_same : (k j : ℕ) → k ≡ j → is_at (nat_cmp k) j ≡ true
at_same k j e = ap is_eq (sym (nat_cmp_is k j Equal e))

pub not_at : (k j : ℕ) → j < k → is_at (nat_cmp k) j ≡ false
not_at k j h = ap is_eq (sym (nat_cmp_is k j Greater h))

pub apart_at : (k j : ℕ) → (j ≡ k → ⊥) → is_at (nat_cmp k) j ≡ false
apart_at k j h = grind (arith, nat_tests, h)

le_cases : (k j : ℕ) → k ≤ j → (k ≡ j) ⊎ (k < j)
le_cases zero zero h = inl refl
le_cases zero (suc j) h = inr (omega arith)
le_cases (suc k) zero h = absurd (omega arith)
le_cases (suc k) (suc j) h = elim (le_cases k j (omega arith)) [ inl e ↦ inl (ap suc e) | inr l ↦ inr (omega arith) ]

-- ---- entries below a number
pub in_more : {Q : Type 0} (n m : ℕ) (es : List (ℕ × Q)) → n ≤ m → AreIn n es → AreIn m es
in_more n m [] l a = tt
in_more n m (e ∷ es) l a = (let b = a.0 in omega arith, in_more n m es l a.1)

pub not_given : {Q : Type 0} (n k : ℕ) (es : List (ℕ × Q)) → AreIn n es → n ≤ k → None ≡ lookup (is_at (nat_cmp k)) es
not_given n k [] a l = refl
not_given n k (e ∷ es) a l =
    let b = a.0 in
    not_given n k es a.1 l ∙ sym (lookup_tail (is_at (nat_cmp k)) e es (not_at k e.0 (omega arith)))

module _ {Q : Type 0} (v : Q → Fraction) where
  -- ---- the rates by their numbers
  length-all_rates : (es : List (ℕ × Q)) (k n : ℕ) → length (all_rates v es k n) ≡ n
  unfolding all_rates
  length-all_rates es k zero = refl
  length-all_rates es k (suc n) = ap suc (length-all_rates es (suc k) n)

  rate_there : (es : List (ℕ × Q)) (k n i : ℕ) → i < n → rate_of (all_rates v es k n) i ≡ given_rate v es (k + i)
  unfolding all_rates
  rate_there es k zero i h = absurd (omega arith)
  rate_there es k (suc n) zero h = let e : k ≡ k + 0 = omega arith in ap (given_rate v es) e
  rate_there es k (suc n) (suc i) h =
      let e : suc k + i ≡ k + suc i = omega arith in
      rate_there es (suc k) n i (omega arith) ∙ ap (given_rate v es) e

  pub same_rates : (es fs : List (ℕ × Q)) (k n : ℕ) → ((i : ℕ) → k ≤ i → given_rate v es i ≡ given_rate v fs i) → all_rates v es k n ≡ all_rates v fs k n
  unfolding all_rates
  same_rates es fs k zero h = refl
  same_rates es fs k (suc n) h = ap₂ (λ (r : Fraction) (rs : List Fraction). r ∷ rs) (h k (omega arith)) (same_rates es fs (suc k) n (λ i o. h i (omega arith)))

  pub zero_rates : (k n : ℕ) → all_rates v [] k n ≡ replicate n (whole (pos 0))
  unfolding all_rates
  zero_rates k zero = refl
  zero_rates k (suc n) = ap (λ (rs : List Fraction). whole (pos 0) ∷ rs) (zero_rates (suc k) n)

  set_rates : (es fs : List (ℕ × Q)) (k n i : ℕ) (r : Fraction) → given_rate v fs (k + i) ≡ r → ((j : ℕ) → (j ≡ k + i → ⊥) → given_rate v fs j ≡ given_rate v es j) → all_rates v fs k n ≡ set (all_rates v es k n) i r
  unfolding all_rates
  set_rates es fs k zero i r here apart = refl
  set_rates es fs k (suc n) zero r here apart =
      let e : k ≡ k + 0 = omega arith in
      ap₂ (λ (q : Fraction) (rs : List Fraction). q ∷ rs) (ap (given_rate v fs) e ∙ here) (same_rates fs es (suc k) n (λ i o. apart i (λ d. omega arith)))
  set_rates es fs k (suc n) (suc i) r here apart =
      let e : suc k + i ≡ k + suc i = omega arith in
      ap₂ (λ (q : Fraction) (rs : List Fraction). q ∷ rs) (apart k (λ d. omega arith))
      (set_rates es fs (suc k) n i r (ap (given_rate v fs) e ∙ here) (λ j ne. apart j (λ d. ne (d ∙ sym e))))

  -- the same of the rates that contracts see
  pub given_below : (es : List (ℕ × Q)) (n k : ℕ) (rates : List Fraction) → all_rates v es 0 n ≡ rates → k < length rates → k < n
  given_below es n k rates e h = let l : length rates ≡ n = ap length (sym e) ∙ length-all_rates es 0 n in omega arith

  pub given_is : (es : List (ℕ × Q)) (n k : ℕ) (rates : List Fraction) (o : Option Q) → all_rates v es 0 n ≡ rates → k < length rates → o ≡ lookup (is_at (nat_cmp k)) es → unwrap_or (option_map v o) (whole (pos 0)) ≡ rate_of rates k
  given_is es n k rates o e h d =
      let z : 0 + k ≡ k = omega arith in
      ap (λ (x : Option Q). unwrap_or (option_map v x) (whole (pos 0))) d ∙ ap (given_rate v es) (sym z)
      ∙ sym (rate_there es 0 n k (given_below es n k rates e h)) ∙ ap (λ (rs : List Fraction). rate_of rs k) e

  -- number k has this value, and the others have theirs
  pub given_put : (es fs : List (ℕ × Q)) (n k : ℕ) (q : Q) (rates : List Fraction) → all_rates v es 0 n ≡ rates → lookup (is_at (nat_cmp k)) fs ≡ Some q → ((j : ℕ) → (j ≡ k → ⊥) → lookup (is_at (nat_cmp j)) fs ≡ lookup (is_at (nat_cmp j)) es) → all_rates v fs 0 n ≡ set rates k (v q)
  given_put es fs n k q rates e here apart =
      let o : Option Q → Fraction = λ (x : Option Q). unwrap_or (option_map v x) (whole (pos 0)) in
      let z : 0 + k ≡ k = omega arith in
      set_rates es fs 0 n k (v q) (ap (given_rate v fs) z ∙ ap o here) (λ j ne. ap o (apart j (λ d. ne (d ∙ sym z))))
      ∙ ap (λ (rs : List Fraction). set rs k (v q)) e

  -- ---- those that move
  abbrev pub moving_keys : List (ℕ × Q) → List ℕ
  moving_keys [] = []
  moving_keys (e ∷ es) = if is_zero (v e.1) then moving_keys es else e.0 ∷ moving_keys es

  abbrev StartsAt : ℕ → List (ℕ × Q) → Type 0
  StartsAt k [] = Unit {0}
  StartsAt k (e ∷ es) = k ≤ e.0

  starts_behind : (j : ℕ) (es : List (ℕ × Q)) → AllByRecursion (λ y. nat_cmp j y ≡ Less) (keys_of es) → StartsAt (suc j) es
  starts_behind j [] a = tt
  starts_behind j (e ∷ es) a = let l : j < e.0 = ranked j e.0 Less (sym a.0) in omega arith

  given_here : (e : ℕ × Q) (es : List (ℕ × Q)) (k : ℕ) → k ≡ e.0 → given_rate v (e ∷ es) k ≡ v e.1
  given_here e es k d = ap (λ (x : Option Q). unwrap_or (option_map v x) (whole (pos 0))) (lookup_head (is_at (nat_cmp k)) e es (at_same k e.0 d))

  given_behind : (e : ℕ × Q) (es : List (ℕ × Q)) (k : ℕ) → e.0 < k → given_rate v es k ≡ given_rate v (e ∷ es) k
  given_behind e es k d = ap (λ (x : Option Q). unwrap_or (option_map v x) (whole (pos 0))) (sym (lookup_tail (is_at (nat_cmp k)) e es (not_at k e.0 d)))

  given_before : (e : ℕ × Q) (es : List (ℕ × Q)) (k : ℕ) → IsStrictlySortedBy nat_cmp (keys_of (e ∷ es)) → k < e.0 → given_rate v (e ∷ es) k ≡ whole (pos 0)
  given_before e es k s d =
      ap (λ (x : Option Q). unwrap_or (option_map v x) (whole (pos 0)))
      (lookup-none (is_at (nat_cmp k)) (e ∷ es) (none_below_head nat_cmp_total k e es s (sym (nat_cmp_is k e.0 Less d))))

  turned : (b : Bool) (xs ys : List ℕ) → (if b then xs else ys) ≡ (if not b then ys else xs)
  turned true xs ys = refl
  turned false xs ys = refl

  still : (r : Fraction) (k : ℕ) (ks : List ℕ) → r ≡ whole (pos 0) → ks ≡ (if not (is_zero r) then k ∷ ks else ks)
  still r k ks e = ap (λ (o : Ordering). if not (passes Same o) then k ∷ ks else ks) (sym (equal-compared r (whole (pos 0)) e))

  moving_from : (es : List (ℕ × Q)) (k n : ℕ) → IsStrictlySortedBy nat_cmp (keys_of es) → StartsAt k es → AreIn (k + n) es → moving_keys es ≡ numbers_of (λ r. not (is_zero r)) k (all_rates v es k n)
  unfolding all_rates
  moving_from [] k zero s st a = refl
  moving_from (e ∷ es) k zero s st a = absurd (omega (arith, a.0))
  moving_from [] k (suc n) s st a =
      moving_from [] (suc k) n s tt tt ∙ still (whole (pos 0)) k (numbers_of (λ r. not (is_zero r)) (suc k) (all_rates v [] (suc k) n)) refl
  moving_from (e ∷ es) k (suc n) s st a =
      let more : k + suc n ≡ suc k + n = omega arith in
      elim (le_cases k e.0 st) [
        | inl d ↦
            let rest : moving_keys es ≡ numbers_of (λ r. not (is_zero r)) (suc k) (all_rates v (e ∷ es) (suc k) n) =
            moving_from es (suc k) n (sorted_tail nat_cmp e.0 (keys_of es) s) (subst (λ (j : ℕ). StartsAt (suc j) es) (sym d) (starts_behind e.0 es (sorted_head nat_cmp e.0 (keys_of es) s))) (subst (λ (m : ℕ). AreIn m es) more a.1)
            ∙ ap (numbers_of (λ r. not (is_zero r)) (suc k)) (same_rates es (e ∷ es) (suc k) n (λ i o. given_behind e es i (omega arith))) in
            turned (is_zero (v e.1)) (moving_keys es) (e.0 ∷ moving_keys es)
            ∙ ap₂ (λ (j : ℕ) (ks : List ℕ). if not (is_zero (v e.1)) then j ∷ ks else ks) (sym d) rest
            ∙ ap (λ (r : Fraction). if not (is_zero r) then k ∷ numbers_of (λ r. not (is_zero r)) (suc k) (all_rates v (e ∷ es) (suc k) n) else numbers_of (λ r. not (is_zero r)) (suc k) (all_rates v (e ∷ es) (suc k) n)) (sym (given_here e es k d))
        | inr d ↦
            moving_from (e ∷ es) (suc k) n s (omega arith) (subst (λ (m : ℕ). AreIn m (e ∷ es)) more a)
            ∙ still (given_rate v (e ∷ es) k) k (numbers_of (λ r. not (is_zero r)) (suc k) (all_rates v (e ∷ es) (suc k) n)) (given_before e es k s d)
      ]

  starts_at_zero : (es : List (ℕ × Q)) → StartsAt 0 es
  starts_at_zero [] = tt
  starts_at_zero (e ∷ es) = omega arith

  pub moving_is : (es : List (ℕ × Q)) (n : ℕ) (rates : List Fraction) → all_rates v es 0 n ≡ rates → IsStrictlySortedBy nat_cmp (keys_of es) → AreIn n es → moving_keys es ≡ moving_of rates
  moving_is es n rates e s a =
      let z : n ≡ 0 + n = omega arith in
      moving_from es 0 n s (starts_at_zero es) (subst (λ (m : ℕ). AreIn m es) z a) ∙ ap moving_of e

  -- ---- the rate of each number that is given
  abbrev pub AreRates : List Fraction → List (ℕ × Q) → Type 0
  AreRates rs [] = Unit {0}
  AreRates rs (e ∷ es) = (rate_of rs e.0 ≡ v e.1) × AreRates rs es

  are_given : (rs : List Fraction) (n k : ℕ) (whole_list es : List (ℕ × Q)) → IsStrictlySortedBy nat_cmp (keys_of es) → StartsAt k es → AreIn n es → ((i : ℕ) → i < n → rate_of rs i ≡ given_rate v whole_list i) → ((i : ℕ) → k ≤ i → given_rate v es i ≡ given_rate v whole_list i) → AreRates rs es
  are_given rs n k whole_list [] s st a r h = tt
  are_given rs n k whole_list (e ∷ es) s st a r h = (
    r e.0 a.0 ∙ sym (h e.0 st) ∙ given_here e es e.0 refl,
    are_given rs n (suc e.0) whole_list es (sorted_tail nat_cmp e.0 (keys_of es) s) (starts_behind e.0 es (sorted_head nat_cmp e.0 (keys_of es) s)) a.1 r
        (λ i o. given_behind e es i (omega arith) ∙ h i (omega arith)),
  )

  pub rates_given : (es : List (ℕ × Q)) (n : ℕ) (rates : List Fraction) → all_rates v es 0 n ≡ rates → IsStrictlySortedBy nat_cmp (keys_of es) → AreIn n es → AreRates rates es
  rates_given es n rates e s a =
      are_given rates n 0 es es s (starts_at_zero es) a
      (λ i o. ap (λ (rs : List Fraction). rate_of rs i) (sym e) ∙ rate_there es 0 n i o ∙ (let z : 0 + i ≡ i = omega arith in ap (given_rate v es) z))
      (λ i o. refl)

  -- the entries are in as many as there are rates
  pub given_inside : (es : List (ℕ × Q)) (n : ℕ) (rates : List Fraction) → all_rates v es 0 n ≡ rates → AreIn n es → AreIn (length rates) es
  given_inside es n rates e a = subst (λ (m : ℕ). AreIn m es) (sym (length-all_rates es 0 n) ∙ ap length e) a

  pub given_rates : (es : List (ℕ × Q)) (n : ℕ) (rates : List Fraction) → all_rates v es 0 n ≡ rates → all_rates v es 0 (length rates) ≡ rates
  given_rates es n rates e = ap (λ (m : ℕ). all_rates v es 0 m) (ap length (sym e) ∙ length-all_rates es 0 n) ∙ e

  -- ---- one entry after the other
  pub noted_still : (found : List FluentId) (left more : List (ℕ × Q)) (e : ℕ × Q) (all : List ℕ) → is_zero (v e.1) ≡ true → left ≡ e ∷ more → fluent_numbers found ++ moving_keys left ≡ all → fluent_numbers found ++ moving_keys more ≡ all
  noted_still found left more e all z s h =
      ap (λ (b : Bool). fluent_numbers found ++ (if b then moving_keys more else e.0 ∷ moving_keys more)) (sym z)
      ∙ ap (λ (es : List (ℕ × Q)). fluent_numbers found ++ moving_keys es) (sym s) ∙ h

  pub noted_moving : (found new : List FluentId) (left more : List (ℕ × Q)) (f : FluentId) (q : Q) (all : List ℕ) → is_zero (v q) ≡ false → left ≡ (f.0, q) ∷ more → new ≡ found ++ f ∷ [] → fluent_numbers found ++ moving_keys left ≡ all → fluent_numbers new ++ moving_keys more ≡ all
  noted_moving found new left more f q all z s n h =
      ap (λ (fs : List FluentId). fluent_numbers fs ++ moving_keys more) n
      ∙ ap (λ (ks : List ℕ). ks ++ moving_keys more) (map-append (λ (x : FluentId). x.0) found (f ∷ []))
      ∙ append_assoc (fluent_numbers found) (f.0 ∷ []) (moving_keys more)
      ∙ ap (λ (b : Bool). fluent_numbers found ++ (if b then moving_keys more else f.0 ∷ moving_keys more)) (sym z)
      ∙ ap (λ (es : List (ℕ × Q)). fluent_numbers found ++ moving_keys es) (sym s) ∙ h

  pub noted_end : (found : List FluentId) (left : List (ℕ × Q)) (all : List ℕ) → left ≡ [] → fluent_numbers found ++ moving_keys left ≡ all → fluent_numbers found ≡ all
  noted_end found left all s h = sym (append-nil (fluent_numbers found)) ∙ ap (λ (es : List (ℕ × Q)). fluent_numbers found ++ moving_keys es) (sym s) ∙ h
