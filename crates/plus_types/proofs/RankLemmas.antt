-- Types whose steps up never go to a higher rank, and ways up from a type to itself.
use Rattle.std.proofs.Common.{◌≡◌, ℕ, zero, suc, ◌+◌, ◌-◌, ◌<◌, ◌≤◌, Bool, true, false, List, [], ◌∷◌, ap, sym, refl, ◌∙◌, cond, ◌||◌, ◌&&◌, true≢false, length, get_or, nat_eq, not, Some, None, arith}
use Rattle.std.proofs.Math.Dec.{ltb}
use Rattle.std.proofs.lemmas.Bool.{ltb-false}
use Rattle.std.proofs.lemmas.Bool.Decides.{Decides-eqb}
use Rattle.std.specs.List.{list_any}
use Rattle.std.proofs.lemmas.List.{length-map}
use Rattle.std.specs.Str.{bytes_eq}
use Rattle.plus_tree.specs.declared.terms.TypedName.{TypedName}
use Rattle.plus_types.specs.Types.{is_among, Binding, bindings_of, bound_names, object_name, right_above, kind_of, is_above_within, is_above, is_under}
use Rattle.plus_types.specs.Listed.{IsListed}
use Rattle.plus_types.proofs.TypesLemmas.{within-zero, within-suc, above-is, same-bytes, bytes-self, or-right, any-passes, among-any, or-false, bytes-swap, under-is, top-above, climb-some, climb-none}
use Rattle.plus_types.proofs.ListLemmas.{or-none, or-rest}

-- no step goes to a higher rank
abbrev pub rises : (List ℕ → ℕ) → TypedName → Bool
rises r t = ltb (r t.name.name) (r t.kind.name)

-- a step from this type goes to the same rank
abbrev pub stays : (List ℕ → ℕ) → List ℕ → TypedName → Bool
stays r k t = nat_eq (r t.name.name) (r t.kind.name) && bytes_eq k t.name.name

-- what fails at all types of no higher rank fails right above
pub none-higher :
    (r : List ℕ → ℕ) (ts : List TypedName) (p : List ℕ → Bool) (low : List ℕ) → r object_name ≡ 0 → list_any (rises r) ts ≡ false
    → ((k : List ℕ) → r k ≤ r low → p k ≡ false) → list_any p (right_above (bindings_of ts) low) ≡ false
none-higher r [] p low o h f = by (bytes_eq low object_name)
  where
    by : (b : Bool) → list_any p (cond b [] (object_name ∷ [])) ≡ false
    by true = refl
    by false = ap (λ b. b || false) (f object_name (omega (arith, o)))
none-higher r (t ∷ ts) p low o h f =
    by (bytes_eq low t.name.name) refl (none-higher r ts p low o (or-rest (rises r t) (list_any (rises r) ts) h) f)
  where
    by :
        (b : Bool) → bytes_eq low t.name.name ≡ b → list_any p (right_above (bindings_of ts) low) ≡ false
        → list_any p (cond b (t.kind.name ∷ right_above (bindings_of ts) low) (right_above (bindings_of ts) low)) ≡ false
    by true q more =
        let l : r t.kind.name ≤ r t.name.name = ltb-false (r t.name.name) (r t.kind.name) (or-none (rises r t) (list_any (rises r) ts) h) in
        let e : r low ≡ r t.name.name = ap r (same-bytes low t.name.name q) in
        ap (λ b. b || list_any p (right_above (bindings_of ts) low)) (f t.kind.name (omega (arith, l, e))) ∙ more
    by false q more = more

pub other-rank : (r : List ℕ → ℕ) (high k : List ℕ) → r k < r high → bytes_eq high k ≡ false
other-rank r high k h = by (bytes_eq high k) refl
  where
    by : (b : Bool) → bytes_eq high k ≡ b → b ≡ false
    by true q = let e : r high ≡ r k = ap r (same-bytes high k q) in absurd (omega (arith, e, h))
    by false q = refl

-- no type is above one of lower rank
pub none-above-lower :
    (r : List ℕ → ℕ) (ts : List TypedName) (n : ℕ) (high low : List ℕ) → r object_name ≡ 0 → list_any (rises r) ts ≡ false
    → r low < r high → is_above_within (bindings_of ts) n high low ≡ false
none-above-lower r ts zero high low o h l = within-zero (bindings_of ts) high low
none-above-lower r ts (suc n) high low o h l =
    within-suc (bindings_of ts) n high low
    ∙ none-higher r ts (λ k. bytes_eq high k || is_above_within (bindings_of ts) n high k) low o h
    (λ k m. let s : r k < r high = omega (arith, l, m) in
    ap (λ b. b || is_above_within (bindings_of ts) n high k) (other-rank r high k s) ∙ none-above-lower r ts n high k o h s)

pub not-same : (a b : ℕ) (c : Bool) → (nat_eq a b && c) ≡ false → c ≡ true → b ≤ a → b < a
not-same a b c e t l = by (nat_eq a b) refl
  where
    by : (d : Bool) → nat_eq a b ≡ d → b < a
    by true q = absurd (true≢false (sym (ap (λ d. d && c) q ∙ t) ∙ e))
    by false q =
        let ne : a ≡ b → ⊥ = λ w. true≢false (sym ((Decides-eqb a b).1 w) ∙ q) in
        omega (arith, ne, l)

-- a listed type all of whose steps go lower has a rank
pub ranked :
    (r : List ℕ → ℕ) (ts : List TypedName) (low : List ℕ) → list_any (rises r) ts ≡ false → list_any (stays r low) ts ≡ false
    → is_among (bound_names (bindings_of ts)) low ≡ true → 0 < r low
ranked r [] low h s m = absurd (true≢false (sym m))
ranked r (t ∷ ts) low h s m =
    by (bytes_eq low t.name.name) refl m (ranked r ts low (or-rest (rises r t) (list_any (rises r) ts) h) (or-rest (stays r low t) (list_any (stays r low) ts) s))
  where
    by :
        (b : Bool) → bytes_eq low t.name.name ≡ b → (b || is_among (bound_names (bindings_of ts)) low) ≡ true
        → (is_among (bound_names (bindings_of ts)) low ≡ true → 0 < r low) → 0 < r low
    by true q m more =
        let l : r t.kind.name ≤ r t.name.name = ltb-false (r t.name.name) (r t.kind.name) (or-none (rises r t) (list_any (rises r) ts) h) in
        let k : r t.kind.name < r t.name.name = not-same _ _ _ (or-none (stays r low t) (list_any (stays r low) ts) s) q l in
        let e : r low ≡ r t.name.name = ap r (same-bytes low t.name.name q) in
        omega (arith, k, e)
    by false q m more = more m

-- what fails at all types of lower rank fails right above one all of whose steps go lower
pub none-lower :
    (r : List ℕ → ℕ) (ts : List TypedName) (p : List ℕ → Bool) (low : List ℕ) → r object_name ≡ 0 → 0 < r low → list_any (rises r) ts ≡ false
    → list_any (stays r low) ts ≡ false
    → ((k : List ℕ) → r k < r low → p k ≡ false) → list_any p (right_above (bindings_of ts) low) ≡ false
none-lower r [] p low o z h s f = by (bytes_eq low object_name)
  where
    by : (b : Bool) → list_any p (cond b [] (object_name ∷ [])) ≡ false
    by true = refl
    by false = ap (λ b. b || false) (f object_name (omega (arith, o, z)))
none-lower r (t ∷ ts) p low o z h s f =
    by (bytes_eq low t.name.name) refl
    (none-lower r ts p low o z (or-rest (rises r t) (list_any (rises r) ts) h) (or-rest (stays r low t) (list_any (stays r low) ts) s) f)
  where
    by :
        (b : Bool) → bytes_eq low t.name.name ≡ b → list_any p (right_above (bindings_of ts) low) ≡ false
        → list_any p (cond b (t.kind.name ∷ right_above (bindings_of ts) low) (right_above (bindings_of ts) low)) ≡ false
    by true q more =
        let l : r t.kind.name ≤ r t.name.name = ltb-false (r t.name.name) (r t.kind.name) (or-none (rises r t) (list_any (rises r) ts) h) in
        let k : r t.kind.name < r t.name.name = not-same _ _ _ (or-none (stays r low t) (list_any (stays r low) ts) s) q l in
        let e : r low ≡ r t.name.name = ap r (same-bytes low t.name.name q) in
        ap (λ b. b || list_any p (right_above (bindings_of ts) low)) (f t.kind.name (omega (arith, k, e))) ∙ more
    by false q more = more

-- a listed type that is no suspect is not above itself
pub not_suspect :
    (r : List ℕ → ℕ) (ts : List TypedName) (suspects : List (List ℕ)) → r object_name ≡ 0 → list_any (rises r) ts ≡ false
    → ((k : List ℕ) → is_among suspects k ≡ list_any (stays r k) ts)
    → (k : List ℕ) → is_among (bound_names (bindings_of ts)) k ≡ true → is_among suspects k ≡ false → is_above (bindings_of ts) k k ≡ false
not_suspect r ts suspects o h known k m e =
    let bs = bindings_of ts in
    let s = sym (known k) ∙ e in
    let n = length bs in
    above-is bs k k ∙ within-suc bs n k k
    ∙ none-lower r ts (λ x. bytes_eq k x || is_above_within bs n k x) k o (ranked r ts k h s m) h s
    (λ x l. ap (λ b. b || is_above_within bs n k x) (other-rank r k x l) ∙ none-above-lower r ts n k x o h l)

-- ---- ways up

pub within-more : (bs : List Binding) (n : ℕ) (high low : List ℕ) → is_above_within bs n high low ≡ true → is_above_within bs (suc n) high low ≡ true
within-more bs zero high low e = absurd (true≢false (sym e ∙ within-zero bs high low))
within-more bs (suc n) high low e =
    let w = any-passes (λ k. bytes_eq high k || is_above_within bs n high k) (right_above bs low) (sym (within-suc bs n high low) ∙ e) in
    within-suc bs (suc n) high low
    ∙ among-any (λ k. bytes_eq high k || is_above_within bs (suc n) high k) w.member (right_above bs low) w.there
    (by (bytes_eq high w.member) w.passes (within-more bs n high w.member))
  where
    by : {c d : Bool} (b : Bool) → (b || c) ≡ true → (c ≡ true → d ≡ true) → (b || d) ≡ true
    by true q f = refl
    by false q f = f q

pub within-all : (bs : List Binding) (m n d : ℕ) (high low : List ℕ) → n ≡ d + m → is_above_within bs m high low ≡ true → is_above_within bs n high low ≡ true
within-all bs m n zero high low e h = let q : n ≡ m = omega (arith, e) in ap (λ i. is_above_within bs i high low) q ∙ h
within-all bs m n (suc d) high low e h =
    let q : n ≡ suc (d + m) = omega (arith, e) in
    ap (λ i. is_above_within bs i high low) q ∙ within-more bs (d + m) high low (within-all bs m (d + m) d high low refl h)

-- one more step at the lower end
pub step-up :
    (bs : List Binding) (m : ℕ) (high at low : List ℕ) → is_above_within bs m high at ≡ true → is_among (right_above bs low) at ≡ true
    → is_above_within bs (suc m) high low ≡ true
step-up bs m high at low h e =
    within-suc bs m high low
    ∙ among-any (λ k. bytes_eq high k || is_above_within bs m high k) at (right_above bs low) e (or-right (bytes_eq high at) _ h)

pub step-first :
    (bs : List Binding) (m : ℕ) (high low : List ℕ) → is_among (right_above bs low) high ≡ true
    → is_above_within bs (suc m) high low ≡ true
step-first bs m high low e =
    within-suc bs m high low
    ∙ among-any (λ k. bytes_eq high k || is_above_within bs m high k) high (right_above bs low) e (ap (λ b. b || is_above_within bs m high high) (bytes-self high))

pub right-object : (bs : List Binding) (low : List ℕ) → bytes_eq low object_name ≡ false → is_among (right_above bs low) object_name ≡ true
right-object [] low e = ap (λ b. is_among (cond b [] (object_name ∷ [])) object_name) e
right-object (b ∷ bs) low e = by (bytes_eq low b.0) (right-object bs low e)
  where
    by : (d : Bool) → is_among (right_above bs low) object_name ≡ true → is_among (cond d (b.1 ∷ right_above bs low) (right_above bs low)) object_name ≡ true
    by true more = or-right (bytes_eq object_name b.1) _ more
    by false more = more

pub right-listed :
    (ts : List TypedName) (i : ℕ) (t : TypedName) → i < length ts → t ≡ get_or ts i t → is_among (right_above (bindings_of ts) t.name.name) t.kind.name ≡ true
right-listed [] i t h e = absurd (omega arith)
right-listed (x ∷ xs) zero t h e =
    ap (λ y. is_among (right_above (bindings_of (x ∷ xs)) y.name.name) y.kind.name) e
    ∙ ap (λ b. is_among (cond b (x.kind.name ∷ right_above (bindings_of xs) x.name.name) (right_above (bindings_of xs) x.name.name)) x.kind.name) (bytes-self x.name.name)
    ∙ ap (λ b. b || is_among (right_above (bindings_of xs) x.name.name) x.kind.name) (bytes-self x.kind.name)
right-listed (x ∷ xs) (suc i) t h e = by (bytes_eq t.name.name x.name.name) (right-listed xs i t (omega arith) e)
  where
    by :
        (d : Bool) → is_among (right_above (bindings_of xs) t.name.name) t.kind.name ≡ true
        → is_among (cond d (x.kind.name ∷ right_above (bindings_of xs) t.name.name) (right_above (bindings_of xs) t.name.name)) t.kind.name ≡ true
    by true more = or-right (bytes_eq t.kind.name x.kind.name) _ more
    by false more = more

-- a member of the list is listed
pub listed-here : (ts : List TypedName) (i : ℕ) (t : TypedName) → i < length ts → t ≡ get_or ts i t → is_among (bound_names (bindings_of ts)) t.name.name ≡ true
listed-here [] i t h e = absurd (omega arith)
listed-here (x ∷ xs) zero t h e =
    ap (λ y. bytes_eq y.name.name x.name.name || is_among (bound_names (bindings_of xs)) y.name.name) e
    ∙ ap (λ b. b || is_among (bound_names (bindings_of xs)) x.name.name) (bytes-self x.name.name)
listed-here (x ∷ xs) (suc i) t h e = or-right (bytes_eq t.name.name x.name.name) _ (listed-here xs i t (omega arith) e)

-- so many steps down from a type, each type right below the last is under it
abbrev pub Leads : List Binding → ℕ → List ℕ → List ℕ → Type 0
Leads bs m name high = (low : List ℕ) → is_among (right_above bs low) high ≡ true → is_above_within bs (suc m) name low ≡ true

pub leads-first : (bs : List Binding) (m : ℕ) (name : List ℕ) → Leads bs m name name
leads-first bs m name low e = step-first bs m name low e

pub leads-all :
    (ts : List TypedName) (left : ℕ) (name high : List ℕ) → 0 < left → left ≤ suc (length ts) → Leads (bindings_of ts) (suc (length ts) - left) name high
    → is_among (right_above (bindings_of ts) name) high ≡ true → is_above (bindings_of ts) name name ≡ true
leads-all ts left name high p l h e =
    let bs = bindings_of ts in
    let n : length bs ≡ length ts = length-map ts (λ (t : TypedName). (t.name.name, t.kind.name)) in
    above-is bs name name ∙ within-all bs (suc (suc (length ts) - left)) (suc (length bs)) (left - 1) name name (omega (arith, l, n, p)) (h name e)

-- `object` is reached, which is above all other types
pub leads-top :
    (ts : List TypedName) (left : ℕ) (name high : List ℕ) → 0 < left → left ≤ suc (length ts) → Leads (bindings_of ts) (suc (length ts) - left) name high
    → bytes_eq high object_name ≡ true → not (bytes_eq name object_name) ≡ true → is_above (bindings_of ts) name name ≡ true
leads-top ts left name high p l h t o =
    leads-all ts left name high p l h
    (ap (is_among (right_above (bindings_of ts) name)) (same-bytes high object_name t) ∙ right-object (bindings_of ts) name (by (bytes_eq name object_name) o))
  where
    by : (b : Bool) → not b ≡ true → b ≡ false
    by true e = cc
    by false e = refl

-- the step from a listed type to the one that is reached
pub leads-here :
    (ts : List TypedName) (i : ℕ) (t : TypedName) (high : List ℕ) → i < length ts → t ≡ get_or ts i t → bytes_eq t.kind.name high ≡ true
    → is_among (right_above (bindings_of ts) t.name.name) high ≡ true
leads-here ts i t high h m e = ap (is_among (right_above (bindings_of ts) t.name.name)) (sym (same-bytes t.kind.name high e)) ∙ right-listed ts i t h m

pub leads-back :
    (ts : List TypedName) (left i : ℕ) (t : TypedName) (name high : List ℕ) → 0 < left → left ≤ suc (length ts) → Leads (bindings_of ts) (suc (length ts) - left) name high
    → i < length ts → t ≡ get_or ts i t → bytes_eq t.kind.name high ≡ true → bytes_eq t.name.name name ≡ true → is_above (bindings_of ts) name name ≡ true
leads-back ts left i t name high p l h j m e o =
    leads-all ts left name high p l h
    (ap (λ x. is_among (right_above (bindings_of ts) x) high) (sym (same-bytes t.name.name name o)) ∙ leads-here ts i t high j m e)

pub leads-more :
    (ts : List TypedName) (left i : ℕ) (t : TypedName) (name high : List ℕ) → 0 < left → left ≤ suc (length ts) → Leads (bindings_of ts) (suc (length ts) - left) name high
    → i < length ts → t ≡ get_or ts i t → bytes_eq t.kind.name high ≡ true → Leads (bindings_of ts) (suc (length ts) - (left - 1)) name t.name.name
leads-more ts left i t name high p l h j m e low q =
    let n : suc (length ts) - (left - 1) ≡ suc (suc (length ts) - left) = omega (arith, l, p) in
    ap (λ k. is_above_within (bindings_of ts) (suc k) name low) n
    ∙ step-up (bindings_of ts) (suc (suc (length ts) - left)) name t.name.name low (h t.name.name (leads-here ts i t high j m e)) q

pub un-not : (b : Bool) → not b ≡ false → b ≡ true
un-not true e = refl
un-not false e = cc

-- ---- all that stand above a type, gathered on the way up

pub not-true : (b : Bool) → (b || not b) ≡ true
not-true true = refl
not-true false = refl

-- all types are `object`, or under it
pub under-top : (types : List Binding) (above : List (List ℕ)) (low k : List ℕ) → IsListed types above → bytes_eq k object_name ≡ true → is_under types low k ≡ true
under-top types above low k h q =
    let l : bytes_eq low object_name ≡ bytes_eq k low = bytes-swap low object_name ∙ ap (λ x. bytes_eq x low) (sym (same-bytes k object_name q)) in
    under-is types low k ∙ ap (λ b. bytes_eq k low || b) (top-above types above k low h q ∙ ap not l) ∙ not-true (bytes_eq k low)

-- `object` and the type itself come first
pub ups-first :
    (types : List Binding) (above ups : List (List ℕ)) (low k : List ℕ) → IsListed types above
    → is_among ups k ≡ ((false || (true && bytes_eq k object_name)) || (true && bytes_eq k low))
    → is_under types low k ≡ (is_among ups k || (not (bytes_eq k object_name) && is_above_within types (suc (length types)) k low))
ups-first types above ups low k h e = by (bytes_eq k object_name) refl
  where
    by :
        (b : Bool) → bytes_eq k object_name ≡ b
        → is_under types low k ≡ (is_among ups k || (not (bytes_eq k object_name) && is_above_within types (suc (length types)) k low))
    by true q =
        under-top types above low k h q
        ∙ sym (ap (λ b. b || (not (bytes_eq k object_name) && is_above_within types (suc (length types)) k low)) e
        ∙ ap (λ d. ((false || (true && d)) || (true && bytes_eq k low)) || (not d && is_above_within types (suc (length types)) k low)) q)
    by false q =
        under-is types low k ∙ ap (λ b. bytes_eq k low || b) (above-is types k low)
        ∙ sym (ap (λ b. b || (not (bytes_eq k object_name) && is_above_within types (suc (length types)) k low)) e
        ∙ ap (λ d. ((false || (true && d)) || (true && bytes_eq k low)) || (not d && is_above_within types (suc (length types)) k low)) q)

pub ups-more :
    (types : List Binding) (above ups more : List (List ℕ)) (n left : ℕ) (low at up k : List ℕ) → IsListed types above → left ≡ suc n → kind_of types at ≡ Some up
    → is_under types low k ≡ (is_among ups k || (not (bytes_eq k object_name) && is_above_within types left k at))
    → is_among more k ≡ (is_among ups k || (true && bytes_eq k up))
    → is_under types low k ≡ (is_among more k || (not (bytes_eq k object_name) && is_above_within types n k up))
ups-more types above ups more n left low at up k h l s i e =
    i ∙ ap (λ m. is_among ups k || (not (bytes_eq k object_name) && is_above_within types m k at)) l ∙ by (bytes_eq k object_name) refl ∙ ap (λ b. b || (not (bytes_eq k object_name) && is_above_within types n k up)) (sym e)
  where
    turn : (a b c : Bool) → (a || (b || c)) ≡ ((a || (true && b)) || c)
    turn true b c = refl
    turn false b c = refl

    by :
        (b : Bool) → bytes_eq k object_name ≡ b
        → (is_among ups k || (not (bytes_eq k object_name) && is_above_within types (suc n) k at))
        ≡ ((is_among ups k || (true && bytes_eq k up)) || (not (bytes_eq k object_name) && is_above_within types n k up))
    by true q =
        let m : is_among ups k ≡ true =
        sym (or-false (is_among ups k) false refl) ∙ sym (ap (λ d. is_among ups k || (not d && is_above_within types left k at)) q) ∙ sym i ∙ under-top types above low k h q in
        ap (λ b. b || (not (bytes_eq k object_name) && is_above_within types (suc n) k at)) m
        ∙ sym (ap (λ b. (b || (true && bytes_eq k up)) || (not (bytes_eq k object_name) && is_above_within types n k up)) m)
    by false q =
        ap (λ d. is_among ups k || (not d && is_above_within types (suc n) k at)) q
        ∙ ap (λ b. is_among ups k || b) (climb-some types above n k at up h q s)
        ∙ turn (is_among ups k) (bytes_eq k up) (is_above_within types n k up)
        ∙ sym (ap (λ d. (is_among ups k || (true && bytes_eq k up)) || (not d && is_above_within types n k up)) q)

pub ups-nothing : (a b c : Bool) → c ≡ false → (a || (b && c)) ≡ a
ups-nothing true b c e = refl
ups-nothing false true c e = e
ups-nothing false false c e = refl

-- no type is listed above the last, or no step is left
pub ups-last :
    (types : List Binding) (above ups : List (List ℕ)) (n left : ℕ) (low at k : List ℕ) → IsListed types above → left ≡ suc n → kind_of types at ≡ None
    → is_under types low k ≡ (is_among ups k || (not (bytes_eq k object_name) && is_above_within types left k at))
    → is_among ups k ≡ is_under types low k
ups-last types above ups n left low at k h l s i =
    sym (i ∙ ap (λ m. is_among ups k || (not (bytes_eq k object_name) && is_above_within types m k at)) l ∙ by (bytes_eq k object_name) refl)
  where
    by : (b : Bool) → bytes_eq k object_name ≡ b → (is_among ups k || (not (bytes_eq k object_name) && is_above_within types (suc n) k at)) ≡ is_among ups k
    by true q = ap (λ d. is_among ups k || (not d && is_above_within types (suc n) k at)) q ∙ or-false (is_among ups k) false refl
    by false q = ups-nothing (is_among ups k) (not (bytes_eq k object_name)) (is_above_within types (suc n) k at) (climb-none types above n k at h q s)

pub ups-end :
    (types : List Binding) (ups : List (List ℕ)) (left : ℕ) (low at k : List ℕ) → left ≡ 0
    → is_under types low k ≡ (is_among ups k || (not (bytes_eq k object_name) && is_above_within types left k at))
    → is_among ups k ≡ is_under types low k
ups-end types ups left low at k l i =
    sym (i ∙ ap (λ m. is_among ups k || (not (bytes_eq k object_name) && is_above_within types m k at)) l
    ∙ ups-nothing (is_among ups k) (not (bytes_eq k object_name)) (is_above_within types 0 k at) (within-zero types k at))
