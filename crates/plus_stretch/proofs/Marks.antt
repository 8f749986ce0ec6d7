-- Marks: which stand where, and in order.
use Rattle.std.proofs.Common.{◌≡◌, ℕ, ◌+◌, ◌-◌, zero, suc, true, false, List, [], ◌∷◌, ◌++◌, length, map, take, drop, refl, ap, ap₂, sym, subst, ◌∙◌, inl, inr, arith, append_assoc}
use Rattle.std.proofs.lemmas.List.{append-nil, take_all, length-drop}
use Rattle.std.proofs.lemmas.List.Elements.{All-head, All-tail, All-nil, All-cons}
use Rattle.std.proofs.lemmas.List.Sorted.{All-permutation}
use Rattle.std.specs.Prelude.{Result, Ok, Err, IfOk, None}
use Rattle.std.specs.Ordering.{is_lt}
use Rattle.std.specs.List.{All}
use Rattle.std.specs.List.Sorted.{IsPermutation, IsSortedBy}
use Rattle.plus_fraction.specs.Fraction.{Fraction, ◌<ℚ◌, ◌≤ℚ◌, compared}
use Rattle.plus_fraction.proofs.FractionOrder.{<ℚ_irrefl}
use Rattle.plus_fraction.proofs.FractionAtMost.{<ℚ-≤ℚ_trans, ≤ℚ_trans, le_by_not}
use Rattle.plus_model.specs.Firing.{is_in}
use Rattle.plus_model.proofs.Members.{in_first, in_cases}
use Rattle.plus_model.specs.Trajectory.{is_below}
use Rattle.plus_model.proofs.Moments.{not_below}
use Rattle.plus_stretch.proofs.Rising.{to_below}
use Rattle.plus_stretch.proofs.Thinned.{rising_is}
use Rattle.plus_reads.proofs.Sets.{in_left, in_right, in_either}
use Rattle.plus_stretch.specs.declared.mark.Mark.{Mark}
use Rattle.plus_stretch.specs.Tests.{Whose, event, process}
use Rattle.plus_stretch.specs.Crossings.{rising_below}
use Rattle.plus_stretch.specs.Thinned.{Ascends, thinned}
use Rattle.plus_stretch.specs.Marked.{mark_of, marks_of, roots_of, IsMarked, event_of, process_of, UpTo, AreAscending, owning_events, owning_processes}

-- the roots of marks, as the code has them
pub roots_at : {Q : Type 0} (v : Q → Fraction) (ms : List (Mark Q)) → map (λ (m : Mark Q). v m.at) ms ≡ roots_of (marks_of v ms)
roots_at v [] = refl
roots_at v (m ∷ ms) = ap (λ (xs : List Fraction). v m.at ∷ xs) (roots_at v ms)

pub first_marks : {Q : Type 0} (v : Q → Fraction) (n : ℕ) (ms : List (Mark Q)) → marks_of v (take n ms) ≡ take n (marks_of v ms)
first_marks v zero ms = refl
first_marks v (suc n) [] = refl
first_marks v (suc n) (m ∷ ms) = ap (λ (xs : List (Fraction × Whose)). mark_of v m ∷ xs) (first_marks v n ms)

pub later_marks : {Q : Type 0} (v : Q → Fraction) (n : ℕ) (ms : List (Mark Q)) → marks_of v (drop n ms) ≡ drop n (marks_of v ms)
later_marks v zero ms = refl
later_marks v (suc n) [] = refl
later_marks v (suc n) (m ∷ ms) = later_marks v n ms

-- ---- in another order
marked_all : (P : (Fraction × Whose) → Type 0) (x : Fraction) (w : Whose) (ms : List (Fraction × Whose)) → All P ms → IsMarked x w ms → P (x, w)
marked_all P x w [] h i = elim i [ ]
marked_all P x w (m ∷ ms) h i = elim i [
  | inl e ↦ (let d : m ≡ (x, w) = sym (ap₂ (λ (y : Fraction) (u : Whose). (y, u)) e.0 e.1) in subst P d (All-head P m ms h))
  | inr j ↦ marked_all P x w ms (All-tail P m ms h) j
]

all_marked : (P : (Fraction × Whose) → Type 0) (ms : List (Fraction × Whose)) → ((x : Fraction) (w : Whose) → IsMarked x w ms → P (x, w)) → All P ms
all_marked P [] f = All-nil P
all_marked P (m ∷ ms) f = All-cons P m ms (f m.0 m.1 (inl (refl, refl))) (all_marked P ms (λ x w i. f x w (inr i)))

pub permuted_marks : (xs ys : List (Fraction × Whose)) → IsPermutation xs ys → (x : Fraction) (w : Whose) → IsMarked x w ys → IsMarked x w xs
permuted_marks xs ys p x w i =
    marked_all (λ m. IsMarked m.0 m.1 xs) x w ys (All-permutation (λ m. IsMarked m.0 m.1 xs) xs ys p (all_marked (λ m. IsMarked m.0 m.1 xs) xs (λ x w j. j))) i

-- ---- up to a root
tail_ascends : (x : Fraction) (xs : List Fraction) → Ascends x xs → AreAscending xs
tail_ascends x [] h = tt
tail_ascends x (y ∷ xs) h = h.1

from_least : (y x : Fraction) (w : Whose) (ms : List (Fraction × Whose)) → Ascends y (roots_of ms) → IsMarked x w ms → y ≤ℚ x
from_least y x w [] h i = elim i [ ]
from_least y x w (m ∷ ms) h i = elim i [
  | inl e ↦ subst (λ (z : Fraction). y ≤ℚ z) (sym e.0) h.0
  | inr j ↦ ≤ℚ_trans y m.0 x h.0 (from_least m.0 x w ms h.1 j)
]

pub marks_here : (b : Fraction) (w : Whose) (ms : List (Fraction × Whose)) (n : ℕ) → UpTo b (roots_of ms) n → AreAscending (roots_of ms) → IsMarked b w ms → IsMarked b w (take n ms)
marks_here b w [] n u a i = elim i [ ]
marks_here b w (m ∷ ms) zero u a i = elim i [
  | inl e ↦ absurd (<ℚ_irrefl b (subst (λ (z : Fraction). b <ℚ z) (sym e.0) u))
  | inr j ↦ absurd (<ℚ_irrefl b (<ℚ-≤ℚ_trans b m.0 b u (from_least m.0 b w ms a j)))
]
marks_here b w (m ∷ ms) (suc n) u a i = elim i [
  | inl e ↦ inl e
  | inr j ↦ inr (marks_here b w ms n u.1 (tail_ascends m.0 (roots_of ms) a) j)
]

pub marks_later : (b x : Fraction) (w : Whose) (ms : List (Fraction × Whose)) (n : ℕ) → b <ℚ x → UpTo b (roots_of ms) n → IsMarked x w ms → IsMarked x w (drop n ms)
marks_later b x w [] n l u i = elim i [ ]
marks_later b x w (m ∷ ms) zero l u i = i
marks_later b x w (m ∷ ms) (suc n) l u i = elim i [
  | inl e ↦ absurd (not_below b x l (subst (λ (z : Fraction). z ≤ℚ b) (sym e.0) u.0))
  | inr j ↦ marks_later b x w ms n l u.1 j
]

pub later_ascend : (ms : List (Fraction × Whose)) (n : ℕ) → AreAscending (roots_of ms) → AreAscending (roots_of (drop n ms))
later_ascend [] zero a = tt
later_ascend [] (suc n) a = tt
later_ascend (m ∷ ms) zero a = a
later_ascend (m ∷ ms) (suc n) a = later_ascend ms n (tail_ascends m.0 (roots_of ms) a)

pub from_first : (x : Fraction) (w : Whose) (ms : List (Fraction × Whose)) (n : ℕ) → IsMarked x w (take n ms) → IsMarked x w ms
from_first x w ms zero i = elim i [ ]
from_first x w [] (suc n) i = elim i [ ]
from_first x w (m ∷ ms) (suc n) i = elim i [ inl e ↦ inl e | inr j ↦ inr (from_first x w ms n j) ]

pub from_later : (x : Fraction) (w : Whose) (ms : List (Fraction × Whose)) (n : ℕ) → IsMarked x w (drop n ms) → IsMarked x w ms
from_later x w ms zero i = i
from_later x w [] (suc n) i = elim i [ ]
from_later x w (m ∷ ms) (suc n) i = inr (from_later x w ms n i)

-- ---- counting up to a root
pub record Counted (b : Fraction) (count k : ℕ) (rest whole : List Fraction) : Type 0 where
  pub is : count ≡ k
  pub so_far : (n : ℕ) → UpTo b rest n → UpTo b whole (count + n)

pub counted_start : (b : Fraction) (whole : List Fraction) → Counted b 0 0 whole whole
counted_start b whole = record { is = refl; so_far = λ n u. (let e : n ≡ 0 + n = omega arith in subst (UpTo b whole) e u) }

pub counted_next : (b x : Fraction) (count k : ℕ) (rest whole : List Fraction) → Counted b count k (x ∷ rest) whole → x ≤ℚ b → Counted b (count + 1) (k + 1) rest whole
counted_next b x count k rest whole h l = record {
  is = ap (λ (n : ℕ). n + 1) h.is;
  so_far = λ n u. (let e : count + suc n ≡ (count + 1) + n = omega arith in subst (UpTo b whole) e (h.so_far (suc n) (l, u)));
}

pub counted_stop : (b x : Fraction) (count k : ℕ) (rest whole : List Fraction) → Counted b count k (x ∷ rest) whole → b <ℚ x → UpTo b whole count
counted_stop b x count k rest whole h l = (let e : count + 0 ≡ count = omega arith in subst (UpTo b whole) e (h.so_far 0 l))

pub counted_end : (b : Fraction) (count k : ℕ) (whole : List Fraction) → Counted b count k [] whole → UpTo b whole count
counted_end b count k whole h = (let e : count + 0 ≡ count = omega arith in subst (UpTo b whole) e (h.so_far 0 refl))

-- ---- owners
pub event_owns : (x : Fraction) (k : ℕ) (ms : List (Fraction × Whose)) → IsMarked x (event k) ms → is_in (owning_events ms) k ≡ true
event_owns x k [] i = elim i [ ]
event_owns x k (m ∷ ms) i = elim i [
  | inl e ↦ in_left (event_of m.1) (owning_events ms) k (subst (λ (w : Whose). is_in (event_of w) k ≡ true) e.1 (in_first k []))
  | inr j ↦ in_right (event_of m.1) (owning_events ms) k (event_owns x k ms j)
]

pub process_owns : (x : Fraction) (k : ℕ) (ms : List (Fraction × Whose)) → IsMarked x (process k) ms → is_in (owning_processes ms) k ≡ true
process_owns x k [] i = elim i [ ]
process_owns x k (m ∷ ms) i = elim i [
  | inl e ↦ in_left (process_of m.1) (owning_processes ms) k (subst (λ (w : Whose). is_in (process_of w) k ≡ true) e.1 (in_first k []))
  | inr j ↦ in_right (process_of m.1) (owning_processes ms) k (process_owns x k ms j)
]

event_one : (w : Whose) (k : ℕ) → is_in (event_of w) k ≡ true → event k ≡ w
event_one (event j) k h = elim (in_cases k j [] h) [ inl e ↦ ap event e | inr i ↦ cc ]
event_one (process j) k h = cc

process_one : (w : Whose) (k : ℕ) → is_in (process_of w) k ≡ true → process k ≡ w
process_one (event j) k h = cc
process_one (process j) k h = elim (in_cases k j [] h) [ inl e ↦ ap process e | inr i ↦ cc ]

pub record Owns (w : Whose) (ms : List (Fraction × Whose)) : Type 0 where
  pub at : Fraction
  pub is : IsMarked at w ms

pub owns_event : (k : ℕ) (ms : List (Fraction × Whose)) → is_in (owning_events ms) k ≡ true → Owns (event k) ms
owns_event k [] h = cc
owns_event k (m ∷ ms) h = elim (in_either (event_of m.1) (owning_events ms) k h) [
  | inl i ↦ record { at = m.0; is = inl (refl, event_one m.1 k i) }
  | inr j ↦ (let r = owns_event k ms j in record { at = r.at; is = inr r.is })
]

pub owns_process : (k : ℕ) (ms : List (Fraction × Whose)) → is_in (owning_processes ms) k ≡ true → Owns (process k) ms
owns_process k [] h = cc
owns_process k (m ∷ ms) h = elim (in_either (process_of m.1) (owning_processes ms) k h) [
  | inl i ↦ record { at = m.0; is = inl (refl, process_one m.1 k i) }
  | inr j ↦ (let r = owns_process k ms j in record { at = r.at; is = inr r.is })
]

-- ---- lists that are appended one after the other
pub record Appending {X : Type 0} (found rest whole : List X) : Type 0 where
  pub so_far : found ++ rest ≡ whole

pub appending_start : {X : Type 0} (found start rest whole : List X) → found ≡ start → start ++ rest ≡ whole → Appending found rest whole
appending_start found start rest whole e h = record { so_far = ap (λ xs. xs ++ rest) e ∙ h }

pub appending_next : {X : Type 0} (found more rest whole new : List X) → Appending found (more ++ rest) whole → new ≡ found ++ more → Appending new rest whole
appending_next found more rest whole new h e = record { so_far = ap (λ xs. xs ++ rest) e ∙ append_assoc found more rest ∙ h.so_far }

pub appending_end : {X : Type 0} (found whole : List X) → Appending found [] whole → found ≡ whole
appending_end found whole h = sym (append-nil found) ∙ h.so_far

pub ok_as : {A E : Type 0} (r : Result A E) (P P' : A → Type 0) → ((x : A) → P x → P' x) → IfOk r P → IfOk r P'
ok_as (Ok x) P P' f h = f x h
ok_as (Err e) P P' f h = h

pub at_most : (b x : Fraction) → is_below b x ≡ false → x ≤ℚ b
at_most b x e = le_by_not x b (λ l. let c = to_below b x l in cc)

-- a mark of a root
abbrev pub with_owner : {Q : Type 0} → (Q → Fraction) → Whose → Q → Fraction × Whose
with_owner v w r = (v r, w)

pub rising_marks : {Q : Type 0} (v : Q → Fraction) (len : Fraction) (old new seen : List (Mark Q)) (xs : List Fraction) → seen ≡ new → IsPermutation old new → IsSortedBy (λ (a b : Mark Q). is_lt (compared (v a.at) (v b.at))) new → xs ≡ thinned len None (map (λ (m : Mark Q). v m.at) seen) → xs ≡ rising_below len (roots_of (marks_of v old))
rising_marks {Q} v len old new seen xs d p s e =
    e ∙ ap (λ (ms : List (Mark Q)). thinned len None (map (λ (m : Mark Q). v m.at) ms)) d ∙ rising_is (λ (m : Mark Q). v m.at) len old new p s ∙ ap (rising_below len) (roots_at v old)

pub marks_behind : {Q : Type 0} (v : Q → Fraction) (n : ℕ) (ms : List (Mark Q)) → marks_of v (take (length ms - n) (drop n ms)) ≡ drop n (marks_of v ms)
marks_behind v n ms =
    ap (marks_of v) (take_all (length ms - n) (drop n ms) (simp length-drop (omega arith))) ∙ later_marks v n ms
