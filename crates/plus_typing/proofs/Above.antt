-- A type is above another where steps lead up: then few enough do, since names come once on a shortest way.
use Rattle.std.proofs.Common.{◌≡◌, ℕ, zero, suc, ◌-◌, ◌≤◌, Bool, true, false, cond, ◌||◌, List, [], ◌∷◌, length, refl, ap, sym, subst, ◌∙◌, arith, true≢false}
use Rattle.std.specs.Prelude.{IsTrue}
use Rattle.std.proofs.Common.{inl, inr}
use Rattle.std.specs.Bool.{Decides}
use Rattle.std.specs.List.{AllByRecursion, IsDistinct}
use Rattle.std.specs.Str.{bytes_eq}
use Rattle.std.proofs.lemmas.Cmp.{nat_list_eq_equiv}
use Rattle.std.proofs.lemmas.List.{length-map}
use Rattle.std.proofs.lemmas.Map.Made.{length-le_from_is_member}
use Rattle.plus_types.specs.Types.{Binding, is_among, bound_names, object_name, right_above, is_above_within, is_above, is_under}
use Rattle.plus_types.proofs.TypesLemmas.{within-zero, within-suc, above-is, under-is, same-bytes, bytes-self, bytes-swap, or-right, any-passes}
use Rattle.plus_types.proofs.RankLemmas.{within-all, step-up, step-first}
use Rattle.plus_typing.specs.WellTyped.{Steps, IsAbove, IsUnder}
use Rattle.plus_typing.proofs.Lists.{or_false, or_first, or_second, all_more}

-- ---- names that come once

abbrev Once : List (List ℕ) → Type 0
Once [] = Unit {0}
Once (x ∷ xs) = (is_among xs x ≡ false) × Once xs

apart : (x : List ℕ) (xs : List (List ℕ)) → is_among xs x ≡ false → AllByRecursion (λ y. bytes_eq x y ≡ false) xs
apart x [] e = tt
apart x (y ∷ ys) e = (or_first (bytes_eq x y) (is_among ys x) e, apart x ys (or_second (bytes_eq x y) (is_among ys x) e))

once_distinct : (xs : List (List ℕ)) → Once xs → IsDistinct bytes_eq xs
unfolding IsDistinct
once_distinct [] o = tt
once_distinct (x ∷ xs) o = (apart x xs o.0, once_distinct xs o.1)

-- what is among some names is among those that hold each of them
held_too : (xs ys : List (List ℕ)) (q : List ℕ) → AllByRecursion (λ x. is_among ys x ≡ true) xs → is_among xs q ≡ true → is_among ys q ≡ true
held_too [] ys q a m = absurd (true≢false (sym m))
held_too (x ∷ xs) ys q a m = by (bytes_eq q x) refl m (held_too xs ys q a.1)
  where
    by : (b : Bool) → bytes_eq q x ≡ b → (b || is_among xs q) ≡ true → (is_among xs q ≡ true → is_among ys q ≡ true) → is_among ys q ≡ true
    by true e n more = ap (is_among ys) (same-bytes q x e) ∙ a.0
    by false e n more = more n

-- ---- short ways

-- a way up on which no name comes twice
record Short (types : List Binding) (low high : List ℕ) : Type 0 where
  between : List (List ℕ)
  steps : Steps types low between high
  once : Once (low ∷ between)
  last : is_among between high ≡ false

-- from a name on a short way on, the way is short
cut : (types : List Binding) (high low at : List ℕ) (ks : List (List ℕ)) → is_among (at ∷ ks) low ≡ true → Steps types at ks high → Once (at ∷ ks) → is_among ks high ≡ false → Short types low high
cut types high low at [] m s o l =
    let r : Short types at high = record { between = []; steps = s; once = o; last = l } in
    subst (λ x. Short types x high) (sym (same-bytes low at (by (bytes_eq low at) m))) r
  where
    by : (b : Bool) → (b || false) ≡ true → b ≡ true
    by true e = refl
    by false e = e
cut types high low at (k ∷ ks) m s o l = by (bytes_eq low at) refl m (λ n. cut types high low k ks n s.1 o.1 (or_second (bytes_eq high k) (is_among ks high) l))
  where
    by : (b : Bool) → bytes_eq low at ≡ b → (b || is_among (k ∷ ks) low) ≡ true → (is_among (k ∷ ks) low ≡ true → Short types low high) → Short types low high
    by true e n more =
        let r : Short types at high = record { between = k ∷ ks; steps = s; once = o; last = l } in
        subst (λ x. Short types x high) (sym (same-bytes low at e)) r
    by false e n more = more n

-- one step, and then a short way
longer : (types : List Binding) (high low k : List ℕ) → is_among (right_above types low) k ≡ true → bytes_eq high k ≡ false → Short types k high → Short types low high
longer types high low k u e r = by (is_among (k ∷ r.between) low) refl
  where
    by : (b : Bool) → is_among (k ∷ r.between) low ≡ b → Short types low high
    by true m = cut types high low k r.between m r.steps r.once r.last
    by false m = record { between = k ∷ r.between; steps = (u, r.steps); once = (m, r.once); last = or_false (bytes_eq high k) (is_among r.between high) e r.last }

shorten : (types : List Binding) (high low : List ℕ) (ks : List (List ℕ)) → Steps types low ks high → Short types low high
shorten types high low [] s = record { between = []; steps = s; once = (refl, tt); last = refl }
shorten types high low (k ∷ ks) s = by (bytes_eq high k) refl (shorten types high k ks s.1)
  where
    by : (b : Bool) → bytes_eq high k ≡ b → Short types k high → Short types low high
    by true e r = record { between = []; steps = subst (λ x. IsTrue (is_among (right_above types low) x)) (sym (same-bytes high k e)) s.0; once = (refl, tt); last = refl }
    by false e r = longer types high low k s.0 e r

-- ---- how long a short way is

-- only `object` is above a type that is not listed
up_from : (types : List Binding) (low k : List ℕ) → is_among (right_above types low) k ≡ true → is_among (bound_names types) low ≡ false → k ≡ object_name
up_from [] low k u n = by (bytes_eq low object_name) u
  where
    by : (b : Bool) → is_among (cond b [] (object_name ∷ [])) k ≡ true → k ≡ object_name
    by true e = absurd (true≢false (sym e))
    by false e = same-bytes k object_name (one (bytes_eq k object_name) e)
      where
        one : (b : Bool) → (b || false) ≡ true → b ≡ true
        one true e = refl
        one false e = e
up_from (b ∷ bs) low k u n = by (bytes_eq low b.0) u n (up_from bs low k)
  where
    by : (c : Bool) → is_among (cond c (b.1 ∷ right_above bs low) (right_above bs low)) k ≡ true → (c || is_among (bound_names bs) low) ≡ false
        → (is_among (right_above bs low) k ≡ true → is_among (bound_names bs) low ≡ false → k ≡ object_name) → k ≡ object_name
    by true e m more = absurd (true≢false m)
    by false e m more = more e m

abbrev Listed : List (List ℕ) → List (List ℕ) → Type 0
Listed names xs = AllByRecursion (λ x. is_among names x ≡ true) xs

-- all types are listed on a way that does not come to `object`
all_listed : (types : List Binding) (high low : List ℕ) (ks : List (List ℕ)) → Steps types low ks high → is_among ks object_name ≡ false → bytes_eq object_name high ≡ false → Listed (bound_names types) (low ∷ ks)
all_listed types high low [] s n h = (by (is_among (bound_names types) low) refl, tt)
  where
    by : (b : Bool) → is_among (bound_names types) low ≡ b → b ≡ true
    by true e = refl
    by false e = absurd (true≢false (sym (bytes-self object_name) ∙ ap (bytes_eq object_name) (sym (up_from types low high s e)) ∙ h))
all_listed types high low (k ∷ ks) s n h =
    (by (is_among (bound_names types) low) refl, all_listed types high k ks s.1 (or_second (bytes_eq object_name k) (is_among ks object_name) n) h)
  where
    by : (b : Bool) → is_among (bound_names types) low ≡ b → b ≡ true
    by true e = refl
    by false e =
        absurd (true≢false (sym (bytes-self object_name) ∙ ap (bytes_eq object_name) (sym (up_from types low k s.0 e)) ∙ or_first (bytes_eq object_name k) (is_among ks object_name) n))

-- on a short way all types but one are listed
record Held (names xs : List (List ℕ)) : Type 0 where
  other : List ℕ
  all : Listed (other ∷ names) xs

held : (types : List Binding) (high low : List ℕ) (ks : List (List ℕ)) → Steps types low ks high → Once ks → is_among ks high ≡ false → Held (bound_names types) (low ∷ ks)
held types high low [] s o l = record { other = low; all = (ap (λ b. b || is_among (bound_names types) low) (bytes-self low), tt) }
held types high low (k ∷ ks) s o l = by (is_among (bound_names types) low) refl (held types high k ks s.1 o.1 (or_second (bytes_eq high k) (is_among ks high) l))
  where
    by : (b : Bool) → is_among (bound_names types) low ≡ b → Held (bound_names types) (k ∷ ks) → Held (bound_names types) (low ∷ k ∷ ks)
    by true e r = record { other = r.other; all = (or-right (bytes_eq low r.other) (is_among (bound_names types) low) e, r.all) }
    by false e r =
        let top = up_from types low k s.0 e in
        let beside : is_among ks object_name ≡ false = ap (is_among ks) (sym top) ∙ o.0 in
        let below : bytes_eq object_name high ≡ false = bytes-swap object_name high ∙ ap (bytes_eq high) (sym top) ∙ or_first (bytes_eq high k) (is_among ks high) l in
        record {
          other = low;
          all = (
            ap (λ b. b || is_among (bound_names types) low) (bytes-self low),
            all_more (λ x. is_among (bound_names types) x ≡ true) (λ x. is_among (low ∷ bound_names types) x ≡ true) (λ x m. or-right (bytes_eq x low) (is_among (bound_names types) x) m) (k ∷ ks)
                (all_listed types high k ks s.1 beside below),
          );
        }

few : (types : List Binding) (low high : List ℕ) (r : Short types low high) → length r.between ≤ length types
few types low high r =
    let h = held types high low r.between r.steps r.once.1 r.last in
    let n = length-map types (λ (b : Binding). b.0) in
    let m =
    length-le_from_is_member nat_list_eq_equiv (low ∷ r.between) (h.other ∷ bound_names types) (once_distinct (low ∷ r.between) r.once)
    (λ q i. held_too (low ∷ r.between) (h.other ∷ bound_names types) q h.all i) in
    omega (arith, n, m)

-- ---- the test

steps_within : (types : List Binding) (high low : List ℕ) (ks : List (List ℕ)) → Steps types low ks high → is_above_within types (suc (length ks)) high low ≡ true
steps_within types high low [] s = step-first types 0 high low s
steps_within types high low (k ∷ ks) s = step-up types (suc (length ks)) high k low (steps_within types high k ks s.1) s.0

within_steps : (types : List Binding) (n : ℕ) (high low : List ℕ) → is_above_within types n high low ≡ true → IsAbove types high low
within_steps types zero high low e = absurd (true≢false (sym e ∙ within-zero types high low))
within_steps types (suc n) high low e =
    let w = any-passes (λ k. bytes_eq high k || is_above_within types n high k) (right_above types low) (sym (within-suc types n high low) ∙ e) in
    by w.member w.there (bytes_eq high w.member) refl w.passes (within_steps types n high w.member)
  where
    by : (k : List ℕ) → is_among (right_above types low) k ≡ true → (b : Bool) → bytes_eq high k ≡ b → (b || is_above_within types n high k) ≡ true
        → (is_above_within types n high k ≡ true → IsAbove types high k) → IsAbove types high low
    by k u true q h more = ([], subst (λ x. IsTrue (is_among (right_above types low) x)) (sym (same-bytes high k q)) u)
    by k u false q h more = let r = more h in (k ∷ r.0, (u, r.1))

pub above_decided : (types : List Binding) (high low : List ℕ) → Decides (is_above types high low) (IsAbove types high low)
above_decided types high low = (
  λ e. within_steps types (suc (length types)) high low (sym (above-is types high low) ∙ e),
  λ a.
      let r = shorten types high low a.0 a.1 in
      let n = few types low high r in
      above-is types high low
      ∙ within-all types (suc (length r.between)) (suc (length types)) (length types - length r.between) high low (omega (arith, n)) (steps_within types high low r.between r.steps),
)

pub under_from : (types : List Binding) (low high : List ℕ) → is_under types low high ≡ true → IsUnder types low high
under_from types low high e = by (bytes_eq high low) refl (sym (under-is types low high) ∙ e)
  where
    by : (b : Bool) → bytes_eq high low ≡ b → (b || is_above types high low) ≡ true → IsUnder types low high
    by true q h = inl (sym (same-bytes high low q))
    by false q h = inr ((above_decided types high low).0 h)

pub under_to : (types : List Binding) (low high : List ℕ) → IsUnder types low high → is_under types low high ≡ true
under_to types low high (inl e) = under-is types low high ∙ ap (λ b. b || is_above types high low) (ap (bytes_eq high) e ∙ bytes-self high)
under_to types low high (inr a) = under-is types low high ∙ or-right (bytes_eq high low) (is_above types high low) ((above_decided types high low).1 a)

-- a test that says no, and what is not so
pub not_above : (types : List Binding) (high low : List ℕ) → is_above types high low ≡ false → IsAbove types high low → ⊥
not_above types high low e a = true≢false (sym ((above_decided types high low).1 a) ∙ e)

pub none_above : (types : List Binding) (high low : List ℕ) → (IsAbove types high low → ⊥) → is_above types high low ≡ false
none_above types high low n = by (is_above types high low) refl
  where
    by : (b : Bool) → is_above types high low ≡ b → b ≡ false
    by true e = absurd (n ((above_decided types high low).0 e))
    by false e = refl
