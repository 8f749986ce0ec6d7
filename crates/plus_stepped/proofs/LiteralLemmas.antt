-- The literals of one time in a list by time: a run of them.
use Rattle.std.proofs.Common.{◌≡◌, ℕ, zero, suc, ◌+◌, ◌-◌, ◌<◌, ◌≤◌, Bool, true, false, List, [], ◌∷◌, ◌++◌, length, map, take, drop, get_or, refl, ap, ap₂, sym, subst, ◌∙◌, inl, inr, arith, pos}
use Rattle.std.proofs.lemmas.List.{append-nil, take-append-drop, drop-drop, drop_all, length-map}
use Rattle.std.proofs.lemmas.List.Elements.{All-nil, All-cons, All-head, All-tail, All-append}
use Rattle.std.specs.Prelude.{Option, Some, None, IfSome, slice_get, if◌then◌else◌}
use Rattle.std.specs.List.{All}
use Rattle.std.specs.declared.cmp.Ordering.{Ordering}
use Rattle.std.specs.declared.cmp.Ordering.TheVariants.{Less, Equal, Greater}
use Rattle.plus_fraction.specs.Fraction.{Fraction, whole, ◌<ℚ◌, ◌≤ℚ◌, compared}
use Rattle.plus_fraction.proofs.Compared.{compared-equal, equal-compared}
use Rattle.plus_fraction.proofs.FractionOrder.{<ℚ_irrefl}
use Rattle.plus_fraction.proofs.FractionAtMost.{le_cases, le_lt, <ℚ-≤ℚ_trans, ≤ℚ_trans, ≤ℚ_refl, le_equal}
use Rattle.plus_model.specs.Terms.{Same, Timed}
use Rattle.plus_model.specs.Value.{passes}
use Rattle.plus_model.specs.Joint.{Change, Gains, Loses}
use Rattle.plus_model.specs.Trajectory.{literal_changes}
use Rattle.plus_steps.specs.Stepped.{time_of_step}
use Rattle.plus_stepped.specs.declared.literals.Upcoming.{Upcoming}
use Rattle.plus_stepped.specs.Coming.{ComesNext}
use Rattle.plus_stepped.proofs.GridLemmas.{step_lt, step_le, one_step}
use Rattle.plus_stepped.specs.Grid.{IsAt, InTime, UpTo, From, changes_of, run_of}

abbrev pub is_same : Fraction → Fraction → Bool
is_same x t = passes Same (compared x t)

pub same_is : (x t : Fraction) → is_same x t ≡ true → x ≡ t
same_is x t h = by (compared x t) refl h
  where
    by : (o : Ordering) → o ≡ compared x t → passes Same o ≡ true → x ≡ t
    by Less e k = cc
    by Equal e k = compared-equal x t (sym e)
    by Greater e k = cc

pub is_same-equal : (x t : Fraction) → x ≡ t → is_same x t ≡ true
is_same-equal x t e = ap (passes Same) (equal-compared x t e)

pub is_same-other : (x t : Fraction) → (x ≡ t → ⊥) → is_same x t ≡ false
is_same-other x t n = by (is_same x t) refl
  where
    by : (b : Bool) → b ≡ is_same x t → is_same x t ≡ false
    by true e = absurd (n (same_is x t (sym e)))
    by false e = sym e

abbrev pub After : Fraction → List Timed → Type 0
After t [] = Unit {0}
After t (l ∷ ls) = (t <ℚ l.time) × After t ls

-- ---- what comes at a time
pub changes-append : (t : Fraction) (xs ys : List Timed) → literal_changes t (xs ++ ys) ≡ literal_changes t xs ++ literal_changes t ys
changes-append t [] ys = refl
changes-append t (l ∷ xs) ys = by (is_same l.time t) (changes-append t xs ys)
  where
    by : (b : Bool) → literal_changes t (xs ++ ys) ≡ literal_changes t xs ++ literal_changes t ys → (if b then (if l.positive then Gains l.atom else Loses l.atom) ∷ literal_changes t (xs ++ ys) else literal_changes t (xs ++ ys)) ≡ (if b then (if l.positive then Gains l.atom else Loses l.atom) ∷ literal_changes t xs else literal_changes t xs) ++ literal_changes t ys
    by true h = ap (λ cs. (if l.positive then Gains l.atom else Loses l.atom) ∷ cs) h
    by false h = h

changes_skip : (t : Fraction) (l : Timed) (ls : List Timed) → is_same l.time t ≡ false → literal_changes t (l ∷ ls) ≡ literal_changes t ls
changes_skip t l ls e = ap (λ (b : Bool). if b then (if l.positive then Gains l.atom else Loses l.atom) ∷ literal_changes t ls else literal_changes t ls) e

changes_take : (t : Fraction) (l : Timed) (ls : List Timed) → is_same l.time t ≡ true → literal_changes t (l ∷ ls) ≡ (if l.positive then Gains l.atom else Loses l.atom) ∷ literal_changes t ls
changes_take t l ls e = ap (λ (b : Bool). if b then (if l.positive then Gains l.atom else Loses l.atom) ∷ literal_changes t ls else literal_changes t ls) e

pub none_after : (t : Fraction) (ls : List Timed) → After t ls → literal_changes t ls ≡ []
none_after t [] h = refl
none_after t (l ∷ ls) h = changes_skip t l ls (is_same-other l.time t (λ e. <ℚ_irrefl t (subst (λ (x : Fraction). t <ℚ x) e h.0))) ∙ none_after t ls h.1

pub none_before : (s t : Fraction) (ls : List Timed) → s <ℚ t → UpTo s ls → literal_changes t ls ≡ []
none_before s t [] h a = refl
none_before s t (l ∷ ls) h a =
    let here : l.time ≤ℚ s = All-head (λ (l : Timed). l.time ≤ℚ s) l ls a in
    changes_skip t l ls (is_same-other l.time t (λ e. elim (le_cases l.time s here) [
      | inl k ↦ <ℚ_irrefl t (subst (λ (x : Fraction). x <ℚ t) e (<ℚ-≤ℚ_trans _ _ _ k (le_lt s t h)))
      | inr k ↦ <ℚ_irrefl t (subst (λ (x : Fraction). x <ℚ t) (sym k ∙ e) h)
    ])) ∙ none_before s t ls h (All-tail (λ (l : Timed). l.time ≤ℚ s) l ls a)

-- ---- in a list by time
pub in_time-tail : (l : Timed) (ls : List Timed) → InTime (l ∷ ls) → InTime ls
in_time-tail l [] h = tt
in_time-tail l (k ∷ ls) h = h.1

pub in_time-drop : (n : ℕ) (ls : List Timed) → InTime ls → InTime (drop n ls)
in_time-drop zero ls h = h
in_time-drop (suc n) [] h = tt
in_time-drop (suc n) (l ∷ ls) h = in_time-drop n ls (in_time-tail l ls h)

pub from_first : (t : Fraction) (l : Timed) (ls : List Timed) → InTime (l ∷ ls) → t ≤ℚ l.time → From t (l ∷ ls)
from_first t l [] h k = (k, tt)
from_first t l (m ∷ ls) h k = (k, from_first t m ls h.1 (≤ℚ_trans _ _ _ k h.0))

pub after_first : (t : Fraction) (l : Timed) (ls : List Timed) → InTime (l ∷ ls) → t <ℚ l.time → After t (l ∷ ls)
after_first t l [] h k = (k, tt)
after_first t l (m ∷ ls) h k = (k, after_first t m ls h.1 (<ℚ-≤ℚ_trans _ _ _ k h.0))

-- ---- the run at a time
pub run_end : (t : Fraction) (ls : List Timed) → InTime ls → From t ls → After t (drop (run_of t ls) ls)
run_end t [] o h = tt
run_end t (l ∷ ls) o h = by (is_same l.time t) refl (run_end t ls (in_time-tail l ls o) h.1)
  where
    by : (b : Bool) → b ≡ is_same l.time t → After t (drop (run_of t ls) ls) → After t (drop (if b then suc (run_of t ls) else 0) (l ∷ ls))
    by true e r = r
    by false e r = after_first t l ls o (elim (le_cases t l.time h.0) [ inl k ↦ k | inr k ↦ absurd (let y : is_same l.time t ≡ true = is_same-equal l.time t (sym k) in cc) ])

pub run_all : (t : Fraction) (ls : List Timed) → literal_changes t (take (run_of t ls) ls) ≡ changes_of (take (run_of t ls) ls)
run_all t [] = refl
run_all t (l ∷ ls) = by (is_same l.time t) refl (run_all t ls)
  where
    by : (b : Bool) → b ≡ is_same l.time t → literal_changes t (take (run_of t ls) ls) ≡ changes_of (take (run_of t ls) ls) → literal_changes t (take (if b then suc (run_of t ls) else 0) (l ∷ ls)) ≡ changes_of (take (if b then suc (run_of t ls) else 0) (l ∷ ls))
    by true e r = changes_take t l (take (run_of t ls) ls) (sym e) ∙ ap (λ cs. (if l.positive then Gains l.atom else Loses l.atom) ∷ cs) r
    by false e r = refl

pub run_times : (t : Fraction) (ls : List Timed) → UpTo t (take (run_of t ls) ls)
run_times t [] = All-nil (λ (l : Timed). l.time ≤ℚ t)
run_times t (l ∷ ls) = by (is_same l.time t) refl (run_times t ls)
  where
    by : (b : Bool) → b ≡ is_same l.time t → UpTo t (take (run_of t ls) ls) → UpTo t (take (if b then suc (run_of t ls) else 0) (l ∷ ls))
    by true e r = All-cons (λ (l : Timed). l.time ≤ℚ t) l (take (run_of t ls) ls) (le_equal _ _ (same_is l.time t (sym e))) r
    by false e r = All-nil (λ (l : Timed). l.time ≤ℚ t)

pub run_changes : (t : Fraction) (ls : List Timed) → InTime ls → From t ls → literal_changes t ls ≡ changes_of (take (run_of t ls) ls)
run_changes t ls o h =
    ap (literal_changes t) (sym (take-append-drop (run_of t ls) ls)) ∙ changes-append t (take (run_of t ls) ls) (drop (run_of t ls) ls)
    ∙ ap₂ (λ (xs ys : List Change). xs ++ ys) (run_all t ls) (none_after t (drop (run_of t ls) ls) (run_end t ls o h)) ∙ append-nil (changes_of (take (run_of t ls) ls))

-- ---- where the next literal stands
-- what comes at a time, where the literals before a place are earlier
pub due_from : (s t : Fraction) (p : ℕ) (ls : List Timed) → s <ℚ t → UpTo s (take p ls) → literal_changes t ls ≡ literal_changes t (drop p ls)
due_from s t p ls h a =
    ap (literal_changes t) (sym (take-append-drop p ls)) ∙ changes-append t (take p ls) (drop p ls)
    ∙ ap (λ (xs : List Change). xs ++ literal_changes t (drop p ls)) (none_before s t (take p ls) h a)

-- the literals before a place, and some more
pub take-more : (p c : ℕ) (ls : List Timed) → take (p + c) ls ≡ take p ls ++ take c (drop p ls)
take-more zero c ls = let e : 0 + c ≡ c = omega arith in ap (λ (n : ℕ). take n ls) e
take-more (suc p) zero [] = let e : suc p + 0 ≡ suc p = omega arith in ap (λ (n : ℕ). take n []) e
take-more (suc p) (suc c) [] = let e : suc p + suc c ≡ suc (p + suc c) = omega arith in ap (λ (n : ℕ). take n []) e
take-more (suc p) c (l ∷ ls) = let e : suc p + c ≡ suc (p + c) = omega arith in ap (λ (n : ℕ). take n (l ∷ ls)) e ∙ ap (λ (xs : List Timed). l ∷ xs) (take-more p c ls)

pub upto_more : (s t : Fraction) (ls : List Timed) → s ≤ℚ t → UpTo s ls → UpTo t ls
upto_more s t [] h a = All-nil (λ (l : Timed). l.time ≤ℚ t)
upto_more s t (l ∷ ls) h a =
    All-cons (λ (l : Timed). l.time ≤ℚ t) l ls (≤ℚ_trans _ _ _ (All-head (λ (l : Timed). l.time ≤ℚ s) l ls a) h)
    (upto_more s t ls h (All-tail (λ (l : Timed). l.time ≤ℚ s) l ls a))

-- up to the end of a run
pub past_run : (s t : Fraction) (p : ℕ) (ls : List Timed) → s ≤ℚ t → UpTo s (take p ls) → UpTo t (take (p + run_of t (drop p ls)) ls)
past_run s t p ls h a =
    subst (UpTo t) (sym (take-more p (run_of t (drop p ls)) ls))
    (All-append (λ (l : Timed). l.time ≤ℚ t) _ _ (upto_more s t (take p ls) h a) (run_times t (drop p ls)))

-- ---- the literal at a place
pub get_first : (p : ℕ) (ls : List Timed) (l : Timed) (rest : List Timed) → drop p ls ≡ l ∷ rest → slice_get ls p ≡ Some l
get_first zero [] l rest h = cc
get_first zero (k ∷ ls) l rest h = let e : k ≡ l = cc in ap Some e
get_first (suc p) [] l rest h = cc
get_first (suc p) (k ∷ ls) l rest h = get_first p ls l rest h

pub get_none : (p : ℕ) (ls : List Timed) → drop p ls ≡ [] → slice_get ls p ≡ None
get_none zero [] h = refl
get_none zero (k ∷ ls) h = cc
get_none (suc p) [] h = refl
get_none (suc p) (k ∷ ls) h = get_none p ls h

pub after_get : (t : Fraction) (p : ℕ) (ls : List Timed) → After t (drop p ls) → IfSome (slice_get ls p) (λ (l : Timed). t <ℚ l.time)
after_get t zero [] h = tt
after_get t zero (k ∷ ls) h = h.0
after_get t (suc p) [] h = tt
after_get t (suc p) (k ∷ ls) h = after_get t p ls h

-- behind a run
pub later_at : (t : Fraction) (p : ℕ) (ls : List Timed) → InTime ls → From t (drop p ls) → IfSome (slice_get ls (p + run_of t (drop p ls))) (λ (l : Timed). t <ℚ l.time)
later_at t p ls o h =
    after_get t (p + run_of t (drop p ls)) ls
    (subst (After t) (drop-drop (run_of t (drop p ls)) p ls) (run_end t (drop p ls) (in_time-drop p ls o) h))

-- ---- from step to step
module _ (q : Fraction) (above : whole (pos 0) <ℚ q) (ls : List Timed) (in_time : InTime ls) where
  abbrev end_of : ℕ → Fraction
  end_of n = time_of_step q n

  past_more : (n p : ℕ) → UpTo (end_of n) (take p ls) → UpTo (end_of (suc n)) (take p ls)
  past_more n p a = let h : n ≤ suc n = omega arith in upto_more (end_of n) (end_of (suc n)) (take p ls) (step_le q above n (suc n) h) a

  comes_from : (n p : ℕ) → UpTo (end_of n) (take p ls) → literal_changes (end_of (suc n)) ls ≡ literal_changes (end_of (suc n)) (drop p ls)
  comes_from n p a = let h : n < suc n = omega arith in due_from (end_of n) (end_of (suc n)) p ls (step_lt q above n (suc n) h) a

  -- no literal comes
  none_comes : (n p : ℕ) → UpTo (end_of n) (take p ls) → After (end_of (suc n)) (drop p ls) → literal_changes (end_of (suc n)) ls ≡ changes_of (take (p - p) (drop p ls))
  none_comes n p a h =
      let z : 0 ≡ p - p = omega arith in
      comes_from n p a ∙ none_after (end_of (suc n)) (drop p ls) h ∙ ap (λ (k : ℕ). changes_of (take k (drop p ls))) z

  pub next_none : (n p k : ℕ) → drop p ls ≡ [] → IsAt ls q n p k → ComesNext ls q (suc n) p (record { place = p; ticks = 0 })
  next_none n p k e h = record {
    at = record { past = past_more n p h.past; next = subst (λ (o : Option Timed). IfSome o (λ (l : Timed). (1 ≤ 0) × (l.time ≡ end_of (suc n + 0)))) (sym (get_none p ls e)) tt };
    due = none_comes n p h.past (subst (After (end_of (suc n))) (sym e) tt);
  }

  -- the first literal that has not come
  at_first : (n p k : ℕ) (l : Timed) (rest : List Timed) → drop p ls ≡ l ∷ rest → IsAt ls q n p k → (1 ≤ k) × (l.time ≡ end_of (n + k))
  at_first n p k l rest e h = subst (λ (o : Option Timed). IfSome o (λ (l : Timed). (1 ≤ k) × (l.time ≡ end_of (n + k)))) (get_first p ls l rest e) h.next

  in_time_here : (p : ℕ) (l : Timed) (rest : List Timed) → drop p ls ≡ l ∷ rest → InTime (l ∷ rest)
  in_time_here p l rest e = subst InTime e (in_time-drop p ls in_time)

  pub next_later : (n p k : ℕ) (l : Timed) (rest : List Timed) → drop p ls ≡ l ∷ rest → 1 < k → IsAt ls q n p k → ComesNext ls q (suc n) p (record { place = p; ticks = k - 1 })
  next_later n p k l rest e m h =
      let first = at_first n p k l rest e h in
      let one : 1 ≤ k - 1 = omega arith in
      let sum : n + k ≡ suc n + (k - 1) = omega arith in
      let less : suc n < n + k = omega arith in
      let later : end_of (suc n) <ℚ l.time = subst (λ (x : Fraction). end_of (suc n) <ℚ x) (sym first.1) (step_lt q above (suc n) (n + k) less) in
      record {
        at = record {
          past = past_more n p h.past;
          next = subst (λ (o : Option Timed). IfSome o (λ (l : Timed). (1 ≤ k - 1) × (l.time ≡ end_of (suc n + (k - 1))))) (sym (get_first p ls l rest e)) (one, first.1 ∙ ap end_of sum);
        };
        due = none_comes n p h.past (subst (After (end_of (suc n))) (sym e) (after_first (end_of (suc n)) l rest (in_time_here p l rest e) later));
      }

  -- what the literals from a place on are, at the time of the first
  pub from_here : (p : ℕ) (l : Timed) (rest : List Timed) → drop p ls ≡ l ∷ rest → From l.time (drop p ls)
  from_here p l rest e = subst (From l.time) (sym e) (from_first l.time l rest (in_time_here p l rest e) (≤ℚ_refl l.time))

  pub past_here : (n p k : ℕ) (l : Timed) (rest : List Timed) → drop p ls ≡ l ∷ rest → IsAt ls q n p k → UpTo l.time (take p ls)
  past_here n p k l rest e h =
      let first = at_first n p k l rest e h in
      let less : n ≤ n + k = omega arith in
      upto_more (end_of n) l.time (take p ls) (subst (λ (x : Fraction). end_of n ≤ℚ x) (sym first.1) (step_le q above n (n + k) less)) h.past

  pub next_now : (n p k : ℕ) (l : Timed) (rest : List Timed) → drop p ls ≡ l ∷ rest → k ≤ 1 → IsAt ls q n p k → (here : ℕ) (next : Upcoming) → l.time ≡ end_of here → next.place ≡ p + run_of l.time (drop p ls) → IsAt ls q here next.place next.ticks → ComesNext ls q (suc n) p next
  next_now n p k l rest e m h here next t place at =
      let first = at_first n p k l rest e h in
      let one : n + k ≡ suc n = (let b = first.0 in omega arith) in
      let time : l.time ≡ end_of (suc n) = first.1 ∙ ap end_of one in
      let same : here ≡ suc n = one_step q above here (suc n) (sym t ∙ time) in
      let run : run_of l.time (drop p ls) ≡ next.place - p = omega arith in
      record {
        at = subst (λ (j : ℕ). IsAt ls q j next.place next.ticks) same at;
        due = comes_from n p h.past
            ∙ ap (λ (x : Fraction). literal_changes x (drop p ls)) (sym time)
            ∙ run_changes l.time (drop p ls) (in_time-drop p ls in_time) (from_here p l rest e)
            ∙ ap (λ (j : ℕ). changes_of (take j (drop p ls))) run;
      }

-- ---- in the list of the code
module _ {X : Type 0} (f : X → Timed) where
  pub drop_here : (items : List X) (i : ℕ) (x : X) → i < length items → x ≡ get_or items i x → drop i (map f items) ≡ f x ∷ drop (i + 1) (map f items)
  drop_here [] i x h e = absurd (omega arith)
  drop_here (y ∷ items) zero x h e = let one : 1 ≡ 0 + 1 = omega arith in ap (λ (z : X). f z ∷ map f items) (sym e) ∙ ap (λ (k : ℕ). f x ∷ drop k (f y ∷ map f items)) one
  drop_here (y ∷ items) (suc i) x h e =
      let one : suc (i + 1) ≡ suc i + 1 = omega arith in
      drop_here items i x (omega arith) e ∙ ap (λ (k : ℕ). f x ∷ drop k (f y ∷ map f items)) one

  pub drop_end : (items : List X) (i : ℕ) → length items ≤ i → drop i (map f items) ≡ []
  drop_end items i h = drop_all i (map f items) (rw length-map h)

  -- what is read at a place
  pub read_at : (items : List X) (i : ℕ) (r : X) → r ≡ get_or items i r → get_or items i r ≡ get_or items i (get_or items i r)
  read_at items i r e = ap (get_or items i) e

  pub all_here : (P : Timed → Type 0) (items : List X) (i : ℕ) (x : X) → All P (map f items) → i < length items → x ≡ get_or items i x → P (f x)
  all_here P [] i x a h e = absurd (omega arith)
  all_here P (y ∷ items) zero x a h e = subst (λ (z : X). P (f z)) (sym e) (All-head P (f y) (map f items) a)
  all_here P (y ∷ items) (suc i) x a h e = all_here P items i x (All-tail P (f y) (map f items) a) (omega arith) e

pub run_more : (t : Fraction) (l : Timed) (ls : List Timed) → true ≡ is_same l.time t → run_of t (l ∷ ls) ≡ suc (run_of t ls)
run_more t l ls e = ap (λ (b : Bool). if b then suc (run_of t ls) else 0) (sym e)

pub run_over : (t : Fraction) (l : Timed) (ls : List Timed) → false ≡ is_same l.time t → run_of t (l ∷ ls) ≡ 0
run_over t l ls e = ap (λ (b : Bool). if b then suc (run_of t ls) else 0) (sym e)

pub record First (p : ℕ) (ls : List Timed) : Type 0 where
  pub first : Timed
  pub rest : List Timed
  pub is : drop p ls ≡ first ∷ rest

pub first_at : (p : ℕ) (ls : List Timed) → p < length ls → First p ls
first_at p [] h = absurd (omega arith)
first_at zero (l ∷ ls) h = record { first = l; rest = ls; is = refl }
first_at (suc p) (l ∷ ls) h = let f = first_at p ls (omega arith) in record { first = f.first; rest = f.rest; is = f.is }
