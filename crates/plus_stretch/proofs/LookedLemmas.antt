-- Which events and processes are looked at.
use Rattle.std.proofs.Common.{◌≡◌, ℕ, ◌<◌, ◌≤◌, suc, Bool, true, false, List, [], ◌∷◌, ◌++◌, length, refl, ap, sym, subst, ◌∙◌, inl, inr, arith, append_assoc, if◌then◌else◌}
use Rattle.std.proofs.lemmas.List.{append-nil}
use Rattle.std.proofs.lemmas.List.Elements.{All-nil, All-cons, All-head, All-tail}
use Rattle.std.specs.Prelude.{Option, Some, slice_get, ◌↔◌}
use Rattle.std.specs.List.{All}
use Rattle.plus_fraction.specs.Fraction.{Fraction}
use Rattle.plus_model.specs.Terms.{Condition}
use Rattle.plus_model.specs.Firing.{is_in}
use Rattle.plus_model.specs.Running.{IsRising}
use Rattle.plus_model.proofs.Members.{in_first, in_later, in_cases}
use Rattle.plus_state.specs.Numbers.{AreMembers}
use Rattle.plus_reads.proofs.Sets.{false_unless, in_either}
use Rattle.plus_state.specs.Fits.{Fits}
use Rattle.plus_settle.specs.Still.Simple.{is_simple, HaveRates}
use Rattle.plus_settle.proofs.StillLemmas.Asking.{fits_have}
use Rattle.plus_settle.specs.Still.Others.{OthersStand}
use Rattle.plus_settle.proofs.StillLemmas.Simply.{still_simple}
use Rattle.plus_stretch.specs.Skips.{simple_at, not_simple_among, OthersSimple}
use Rattle.plus_state.proofs.LookingLemmas.{at_place as fit_at}

-- ---- those that are not simple
pub record Sifting (cs : List Condition) (rs : List Fraction) (found rest whole : List ℕ) : Type 0 where
  pub inside : All (λ k. k < length cs) rest
  pub so_far : found ++ not_simple_among cs rest rs ≡ not_simple_among cs whole rs

pub sifting_start : (cs : List Condition) (rs : List Fraction) (found whole : List ℕ) → found ≡ [] → AreMembers (length cs) whole → Sifting cs rs found whole whole
sifting_start cs rs found whole e h = record { inside = h.inside; so_far = ap (λ (x : List ℕ). x ++ not_simple_among cs whole rs) e }

choose : (found : List ℕ) (k : ℕ) (b : Bool) (more : List ℕ) → (found ++ (if b then [] else k ∷ [])) ++ more ≡ found ++ (if b then more else k ∷ more)
choose found k true more = ap (λ (x : List ℕ). x ++ more) (append-nil found)
choose found k false more = append_assoc found (k ∷ []) more

module _ (cs : List Condition) (rs : List Fraction) (found : List ℕ) (k : ℕ) (rest whole : List ℕ) (h : Sifting cs rs found (k ∷ rest) whole) where
  pub sifting_inside : k < length cs
  sifting_inside = All-head (λ k. k < length cs) k rest h.inside

  pub sifting_next : (c : Condition) (b : Bool) (new : List ℕ) → slice_get cs k ≡ Some c → b ≡ is_simple c rs → new ≡ found ++ (if b then [] else k ∷ []) → Sifting cs rs new rest whole
  sifting_next c b new g e n = record {
    inside = All-tail (λ k. k < length cs) k rest h.inside;
    so_far = ap (λ (x : List ℕ). x ++ not_simple_among cs rest rs) n ∙ choose found k b (not_simple_among cs rest rs)
        ∙ ap (λ (t : Bool). found ++ (if t then not_simple_among cs rest rs else k ∷ not_simple_among cs rest rs)) (e ∙ sym (ap (λ (o : Option Condition). simple_at o rs) g)) ∙ h.so_far;
  }

pub sifting_end : (cs : List Condition) (rs : List Fraction) (found whole : List ℕ) → Sifting cs rs found [] whole → found ≡ not_simple_among cs whole rs
sifting_end cs rs found whole h = sym (append-nil found) ∙ h.so_far

-- they are of the listed ones
if_rises : (b : Bool) (n k : ℕ) (xs : List ℕ) → n ≤ k → IsRising (suc k) xs → IsRising n (if b then xs else k ∷ xs)
if_rises true n k xs l r = lower n (suc k) xs (omega arith) r
  where
    lower : (n m : ℕ) (xs : List ℕ) → n ≤ m → IsRising m xs → IsRising n xs
    lower n m [] l r = tt
    lower n m (x ∷ xs) l r = (let b = r.0 in omega arith, r.1)
if_rises false n k xs l r = (l, r)

sifted_rises : (cs : List Condition) (rs : List Fraction) (n : ℕ) (ks : List ℕ) → IsRising n ks → IsRising n (not_simple_among cs ks rs)
sifted_rises cs rs n [] r = tt
sifted_rises cs rs n (k ∷ ks) r = if_rises (simple_at (slice_get cs k) rs) n k (not_simple_among cs ks rs) r.0 (sifted_rises cs rs (suc k) ks r.1)

if_all : (P : ℕ → Type 0) (b : Bool) (k : ℕ) (xs : List ℕ) → P k → All P xs → All P (if b then xs else k ∷ xs)
if_all P true k xs p h = h
if_all P false k xs p h = All-cons P k xs p h

sifted_all : (cs : List Condition) (rs : List Fraction) (P : ℕ → Type 0) (ks : List ℕ) → All P ks → All P (not_simple_among cs ks rs)
sifted_all cs rs P [] h = h
sifted_all cs rs P (k ∷ ks) h = if_all P (simple_at (slice_get cs k) rs) k (not_simple_among cs ks rs) (All-head P k ks h) (sifted_all cs rs P ks (All-tail P k ks h))

pub sifted_members : (cs : List Condition) (rs : List Fraction) (n : ℕ) (listed found : List ℕ) → AreMembers n listed → found ≡ not_simple_among cs listed rs → AreMembers n found
sifted_members cs rs n listed found m e = subst (AreMembers n) (sym e) (record { inside = sifted_all cs rs (λ k. k < n) listed m.inside; rising = sifted_rises cs rs 0 listed m.rising })

-- a listed one that is not simple is found
if_first : (b : Bool) (k : ℕ) (xs : List ℕ) → is_in (if b then xs else k ∷ xs) k ≡ false → b ≡ true
if_first true k xs h = refl
if_first false k xs h = (let i = in_first k xs in cc)

if_later : (b : Bool) (j k : ℕ) (xs : List ℕ) → is_in (if b then xs else k ∷ xs) j ≡ false → is_in xs j ≡ false
if_later true j k xs h = h
if_later false j k xs h = false_unless (is_in xs j) (is_in (k ∷ xs) j) (in_later j k xs) h

simple_here : (cs : List Condition) (rs : List Fraction) (ks : List ℕ) (k : ℕ) (c : Condition) → slice_get cs k ≡ Some c → is_in ks k ≡ true → is_in (not_simple_among cs ks rs) k ≡ false → is_simple c rs ≡ true
simple_here cs rs [] k c g i n = cc
simple_here cs rs (j ∷ ks) k c g i n = elim (in_cases k j ks i) [
  | inl e ↦ (
      let m : is_in (if simple_at (slice_get cs k) rs then not_simple_among cs ks rs else k ∷ not_simple_among cs ks rs) k ≡ false = subst (λ (z : ℕ). is_in (if simple_at (slice_get cs z) rs then not_simple_among cs ks rs else z ∷ not_simple_among cs ks rs) k ≡ false) (sym e) n in
      sym (ap (λ (o : Option Condition). simple_at o rs) g) ∙ if_first (simple_at (slice_get cs k) rs) k (not_simple_among cs ks rs) m
      )
  | inr l ↦ simple_here cs rs ks k c g l (if_later (simple_at (slice_get cs j) rs) k j (not_simple_among cs ks rs) n)
]

-- and where all others stand still, each that is not found is simple
pub others_simple : (cs : List Condition) (rs : List Fraction) (listed found : List ℕ) → OthersStand cs rs listed → found ≡ not_simple_among cs listed rs → OthersSimple cs rs found
others_simple cs rs listed found o e k c g n = go (is_in listed k) refl
  where
    go : (b : Bool) → is_in listed k ≡ b → is_simple c rs ≡ true
    go true i = simple_here cs rs listed k c g i (subst (λ (xs : List ℕ). is_in xs k ≡ false) e n)
    go false i = still_simple c rs (o k c g i)

-- ---- in order
pub below_all : (n : ℕ) (xs : List ℕ) → ((k : ℕ) → is_in xs k ≡ true → k < n) → All (λ k. k < n) xs
below_all n [] f = All-nil (λ k. k < n)
below_all n (x ∷ xs) f = All-cons (λ k. k < n) x xs (f x (in_first x xs)) (below_all n xs (λ k i. f k (in_later k x xs i)))

pub all_below : (n : ℕ) (xs : List ℕ) (k : ℕ) → All (λ j. j < n) xs → is_in xs k ≡ true → k < n
all_below n [] k h i = cc
all_below n (x ∷ xs) k h i = elim (in_cases k x xs i) [
  | inl e ↦ subst (λ (j : ℕ). j < n) (sym e) (All-head (λ j. j < n) x xs h)
  | inr j ↦ all_below n xs k (All-tail (λ j. j < n) x xs h) j
]

-- a rising list of these numbers and of owners
pub looked_members : (n : ℕ) (found listed owners : List ℕ) → IsRising 0 found → ((k : ℕ) → is_in found k ≡ true ↔ is_in (listed ++ owners) k ≡ true) → AreMembers n listed → ((k : ℕ) → is_in owners k ≡ true → k < n) → AreMembers n found
looked_members n found listed owners r s m o = record {
  rising = r;
  inside = below_all n found (λ k i. elim (in_either listed owners k ((s k).0 i)) [ inl l ↦ all_below n listed k m.inside l | inr j ↦ o k j ]);
}

-- the fluents of a condition of a problem have rates
pub have_at : (atoms fluents n : ℕ) (cs : List Condition) (k : ℕ) (c : Condition) → slice_get cs k ≡ Some c → All (Fits atoms fluents) cs → n ≡ fluents → HaveRates n c
have_at atoms fluents n cs k c g a e = subst (λ (m : ℕ). HaveRates m c) (sym e) (fits_have atoms fluents c (fit_at atoms fluents cs k c g a))
