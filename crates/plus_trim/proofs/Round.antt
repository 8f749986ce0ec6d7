-- The list with which trimming begins, the list with one act fewer, and how many cases were counted.
use Rattle.std.proofs.Common.{◌≡◌, ◌⊎◌, inl, inr, ℕ, zero, suc, ◌+◌, ◌<◌, ◌≤◌, List, [], ◌∷◌, ◌++◌, length, take, refl, ap, sym, subst, ◌∙◌, arith, append_assoc, length-take}
use Rattle.std.specs.Prelude.{Some, None, slice_get, pos, All}
use Rattle.std.specs.List.{range_with_len}
use Rattle.std.proofs.lemmas.List.{length_push}
use Rattle.std.proofs.lemmas.List.FromFn.{length-range_with_len, get_or-range_with_len}
use Rattle.plus_fraction.specs.Fraction.{Fraction, whole as ratio}
use Rattle.plus_model.specs.Terms.{Problem}
use Rattle.plus_model.specs.Running.{IsRising}
use Rattle.plus_stretch.specs.Tests.{Test, IsLimit}
use Rattle.plus_search.specs.Lists.{Number}
use Rattle.plus_timeline.specs.Timeline.{begun}
use Rattle.plus_timeline.specs.declared.stop.Stop.{Stop}
use Rattle.plus_timeline.specs.declared.stop.Stop.TheVariants as stops
use Rattle.plus_indexed.specs.Indexed.{IndexedView}
use Rattle.plus_indexed.specs.Knows.{Knows}
use Rattle.plus_planner.specs.Standing.{IsNoLimit}
use Rattle.plus_trim.specs.Acts.{Act, plan_of, without, with_some, chosen, AreAhead}
use Rattle.plus_trim.specs.Judging.{IsInside, Fails, Halts, LimitsWithout}
use Rattle.plus_trim.specs.Work.{IsMark, IsFirst, AreMarked, IsWork, TriedIs, beyond_after, IsLess, IsLast}
use Rattle.plus_trim.specs.Trimmed.{Answers, IsKept, IsKeptOrMemory, trimmed_by}
use Rattle.plus_trim.specs.declared.tries.Tried.{Tried}
use Rattle.plus_trim.specs.declared.tries.Tried.TheVariants.{Valid, Breach, Limit}
use Rattle.plus_trim.specs.declared.trimming.Trimmed.{Trimmed}
use Rattle.plus_trim.specs.declared.trimming.Trimmed.TheVariants.{Kept, Invalid, Beyond, Memory}
use Rattle.plus_trim.proofs.Failing.{none_inside, limit_or_breach}
use Rattle.plus_trim.proofs.Behind.{begun_behind}
use Rattle.plus_trim.proofs.Acted.{chosen_long}
use Rattle.plus_trim.proofs.Working.{chosen_without, ahead_without, halts_breach, halts_limit}
use Rattle.plus_trim.proofs.Marking.{get_one}

-- ---- all places

range_more : (i n : ℕ) → range_with_len i n ++ (i + n) ∷ [] ≡ range_with_len i (n + 1)
range_more i n = subst (λ (k : ℕ). range_with_len i n ++ (i + n) ∷ [] ≡ range_with_len i k) (let e : suc n ≡ n + 1 = omega arith in e) (go i n)
  where
    go : (i n : ℕ) → range_with_len i n ++ (i + n) ∷ [] ≡ range_with_len i (suc n)
    go i zero = ap (λ k. k ∷ []) (let e : i + 0 ≡ i = omega arith in e)
    go i (suc n) =
        ap (λ t. i ∷ t) (subst (λ (k : ℕ). range_with_len (i + 1) n ++ k ∷ [] ≡ range_with_len (i + 1) (suc n)) (let e : (i + 1) + n ≡ i + suc n = omega arith in e) (go (i + 1) n))

pub places_more : (n : ℕ) → range_with_len 0 n ++ n ∷ [] ≡ range_with_len 0 (n + 1)
places_more n = subst (λ (k : ℕ). range_with_len 0 n ++ k ∷ [] ≡ range_with_len 0 (n + 1)) (let e : 0 + n ≡ n = omega arith in e) (range_more 0 n)

range_rises : (i n : ℕ) → IsRising i (range_with_len i n)
range_rises i zero = tt
range_rises i (suc n) =
    let l : i ≤ i = omega arith in
    (l, subst (λ (k : ℕ). IsRising k (range_with_len (i + 1) n)) (let e : i + 1 ≡ suc i = omega arith in e) (range_rises (i + 1) n))

range_inside : (n : ℕ) → All (λ p. p < n) (range_with_len 0 n)
range_inside n k d h =
    let l = length-range_with_len 0 n in
    let s : k < n = omega arith in
    let e = get_or-range_with_len 0 n k d s in
    omega arith

get_here : {X : Type 0} (ys : List X) (x : X) (xs : List X) → slice_get (ys ++ x ∷ xs) (length ys) ≡ Some x
get_here [] x xs = refl
get_here (y ∷ ys) x xs = get_here ys x xs

all_chosen : {X : Type 0} (ys xs : List X) → chosen (ys ++ xs) (range_with_len (length ys) (length xs)) ≡ xs
all_chosen ys [] = refl
all_chosen ys (x ∷ xs) =
    ap (λ o. with_some o (chosen (ys ++ x ∷ xs) (range_with_len (length ys + 1) (length xs)))) (get_here ys x xs)
    ∙ ap (λ t. x ∷ t)
    (subst (λ zs. chosen zs (range_with_len (length ys + 1) (length xs)) ≡ xs) (append_assoc ys (x ∷ []) xs)
    (subst (λ (k : ℕ). chosen ((ys ++ x ∷ []) ++ xs) (range_with_len k (length xs)) ≡ xs) (length_push ys x) (all_chosen (ys ++ x ∷ []) xs)))

pub chosen_all : {X : Type 0} (xs : List X) (n : ℕ) → n ≡ length xs → chosen xs (range_with_len 0 n) ≡ xs
chosen_all xs n e = ap (λ (k : ℕ). chosen xs (range_with_len 0 k)) e ∙ all_chosen [] xs

-- ---- the timeline at the beginning

pub first_mark : (fits : Fraction → Type 0) (P : Problem) (most : ℕ) (m : IndexedView) → 1 ≤ most → Knows fits P m → m.line ≡ begun P most → IsMark fits P most [] m
first_mark fits P most m h k e = record {
  knows = k;
  behind = begun_behind fits P most m.line h e;
  most_is = ap (λ t. t.most) e;
}

module _ (fits : Fraction → Type 0) (P : Problem) (most : ℕ) (xs : List Act) (last : Fraction) (places : List ℕ) (marks : List IndexedView) where
  first_each : IsFirst fits P most marks → (j : ℕ) (m : IndexedView) → slice_get marks j ≡ Some m → IsMark fits P most (chosen xs (take j places)) m
  first_each f j m e = elim (get_one [] f.mark m j (subst (λ ms. slice_get ms j ≡ Some m) f.only e)) [
    | inl g ↦ absurd (let h : None ≡ Some m = g in cc h)
    | inr g ↦ subst (IsMark fits P most (chosen xs (take j places))) g.1 (subst (λ (k : ℕ). IsMark fits P most (chosen xs (take k places)) f.mark) (sym g.0) f.begun)
  ]

  pub marked_first : (n : ℕ) → n ≡ length xs → n ≤ 200 → places ≡ range_with_len 0 n → IsFirst fits P most marks → AreAhead (ratio (pos 0)) xs last → AreMarked fits P most xs last places marks
  marked_first n e b p f a =
      let l = length-range_with_len 0 n in
      let k = ap length p in
      record {
        rising = subst (IsRising 0) (sym p) (range_rises 0 n);
        inside = subst (All (λ q. q < length xs)) (sym p) (subst (λ (m : ℕ). All (λ q. q < m) (range_with_len 0 n)) e (range_inside n));
        few = omega arith;
        ahead = subst (λ ys. AreAhead (ratio (pos 0)) ys last) (sym (ap (chosen xs) p ∙ chosen_all xs n e)) a;
        some = (let o = ap length f.only in omega arith);
        each = first_each f;
      }

-- ---- one act fewer

rising_without : (k i : ℕ) (xs : List ℕ) → IsRising k xs → IsRising k (without i xs)
rising_without k zero [] r = tt
rising_without k (suc i) [] r = tt
rising_without k zero (x ∷ []) r = tt
rising_without k zero (x ∷ y ∷ xs) r = ((let l = r.0 in let m = r.1.0 in omega arith), r.1.1)
rising_without k (suc i) (x ∷ xs) r = (r.0, rising_without (suc x) i xs r.1)

long_without : {X : Type 0} (i : ℕ) (xs : List X) → i < length xs → length (without i xs) + 1 ≡ length xs
long_without zero [] h = absurd (omega arith)
long_without (suc i) [] h = absurd (omega arith)
long_without zero (x ∷ xs) h = omega arith
long_without (suc i) (x ∷ xs) h = (let e = long_without i xs (omega arith) in omega arith)

inside_without : (n i : ℕ) (xs : List ℕ) → All (λ p. p < n) xs → All (λ p. p < n) (without i xs)
inside_without n zero [] a k d h = absurd (omega arith)
inside_without n (suc i) [] a k d h = absurd (omega arith)
inside_without n zero (x ∷ xs) a k d h = a (suc k) d (omega arith)
inside_without n (suc i) (x ∷ xs) a zero d h = a zero d (omega arith)
inside_without n (suc i) (x ∷ xs) a (suc k) d h = inside_without n i xs (λ j e l. a (suc j) e (omega arith)) k d (omega arith)

take_without : (j i : ℕ) (xs : List ℕ) → j ≤ i → take j (without i xs) ≡ take j xs
take_without zero i xs h = refl
take_without (suc j) zero xs h = absurd (omega arith)
take_without (suc j) (suc i) [] h = refl
take_without (suc j) (suc i) (x ∷ xs) h = ap (λ t. x ∷ t) (take_without j i xs (omega arith))

get_taken : {X : Type 0} (n : ℕ) (xs : List X) (j : ℕ) (m : X) → slice_get (take n xs) j ≡ Some m → (j < n) × (slice_get xs j ≡ Some m)
get_taken zero xs j m e = absurd (let f : None ≡ Some m = e in cc f)
get_taken (suc n) [] j m e = absurd (let f : None ≡ Some m = e in cc f)
get_taken (suc n) (x ∷ xs) zero m e = (omega arith, e)
get_taken (suc n) (x ∷ xs) (suc j) m e = (let r = get_taken n xs j m e in ((let l = r.0 in omega arith), r.1))

module _ (fits : Fraction → Type 0) (P : Problem) (most : ℕ) (xs : List Act) (last : Fraction) (places : List ℕ) (marks : List IndexedView) (w : AreMarked fits P most xs last places marks) (i : ℕ) (h : i < length places) where
  same_without : without i (chosen xs places) ≡ chosen xs (without i places)
  same_without = chosen_without xs i places w.inside

  marked_without : AreMarked fits P most xs last (without i places) (take (i + 1) marks)
  marked_without = record {
    rising = rising_without 0 i places w.rising;
    inside = inside_without (length xs) i places w.inside;
    few = (let f = w.few in let l = long_without i places h in omega arith);
    ahead = subst (λ ys. AreAhead (ratio (pos 0)) ys last) same_without (ahead_without (ratio (pos 0)) i (chosen xs places) last w.ahead);
    some = (let s = w.some in let l = length-take (i + 1) marks in omega arith);
    each = λ j m g.
        let t = get_taken (i + 1) marks j m g in
        let b : j ≤ i = (let l = t.0 in omega arith) in
        subst (λ ps. IsMark fits P most (chosen xs ps) m) (sym (take_without j i places b)) (w.each j m t.1);
  }

  pub work_less : (new : List ℕ) (kept : List IndexedView) → IsInside fits P most (plan_of (without i (chosen xs places)) last) → new ≡ without i places → kept ≡ take (i + 1) marks → IsLess fits P most xs last places new kept
  work_less new kept v e f = subst (λ ps. IsLess fits P most xs last places ps kept) (sym e) (subst (IsLess fits P most xs last places (without i places)) (sym f) record {
    work = record { marked = marked_without; valid = subst (λ ys. IsInside fits P most (plan_of ys last)) same_without v };
    fewer = long_without i places h;
  })

-- ---- how many were counted

fails_any : (fits : Fraction → Type 0) (P : Problem) (most : ℕ) (ys : List Act) (last : Fraction) (Kind : Test → Type 0) → Fails fits P most (plan_of ys last) Kind → Fails fits P most (plan_of ys last) (λ t. Unit {0})
fails_any fits P most ys last Kind f = record {
  history = f.history;
  fails = record { prefix = f.fails.prefix; clear = f.fails.clear; test = f.fails.test; first = f.fails.first; kind = tt };
}

-- the first i cases are told
pub record Told (fits : Fraction → Type 0) (P : Problem) (most : ℕ) (ys : List Act) (last : Fraction) (i beyond : ℕ) : Type 0 where
  pub fails : (j : ℕ) → j < i → Fails fits P most (plan_of (without j ys) last) (λ t. Unit {0})
  pub number : Number (λ j. (j < i) × LimitsWithout fits P most ys last j) beyond
  pub few : beyond ≤ i

below_one : (x i : ℕ) → x < i + 1 → (x < i) ⊎ (x ≡ i)
below_one zero zero h = inr refl
below_one zero (suc i) h = inl (omega arith)
below_one (suc x) zero h = absurd (omega arith)
below_one (suc x) (suc i) h = elim (below_one x i (omega arith)) [ inl l ↦ inl (omega arith) | inr e ↦ inr (ap suc e) ]

module _ (fits : Fraction → Type 0) (P : Problem) (most : ℕ) (ys : List Act) (last : Fraction) where
  pub told_none : Told fits P most ys last 0 0
  told_none = record {
    fails = λ j h. absurd (omega arith);
    number = record { all = []; differ = tt; members = λ x. ((λ h. absurd h), (λ q. (let l = q.0 in absurd (omega arith)))); size = refl };
    few = omega arith;
  }

  module _ (i beyond : ℕ) (t : Told fits P most ys last i beyond) where
    fails_more : Fails fits P most (plan_of (without i ys) last) (λ z. Unit {0}) → (j : ℕ) → j < i + 1 → Fails fits P most (plan_of (without j ys) last) (λ z. Unit {0})
    fails_more f j h = elim (below_one j i h) [
      | inl l ↦ t.fails j l
      | inr e ↦ subst (λ (k : ℕ). Fails fits P most (plan_of (without k ys) last) (λ z. Unit {0})) (sym e) f
    ]

    told_breach : Fails fits P most (plan_of (without i ys) last) IsNoLimit → Told fits P most ys last (i + 1) beyond
    told_breach f = record {
      fails = fails_more (fails_any fits P most (without i ys) last IsNoLimit f);
      number = record {
        all = t.number.all;
        differ = t.number.differ;
        members = λ x. (
          (λ h. let q = (t.number.members x).0 h in ((let l = q.0 in omega arith), q.1)),
          (λ q. elim (below_one x i q.0) [
            | inl l ↦ (t.number.members x).1 (l, q.1)
            | inr e ↦ absurd (limit_or_breach fits P most (plan_of (without i ys) last) (subst (λ (k : ℕ). Fails fits P most (plan_of (without k ys) last) IsLimit) e q.1.fails) f)
          ]),
        );
        size = t.number.size;
      };
      few = (let l = t.few in omega arith);
    }

    told_limit : i < length ys → Fails fits P most (plan_of (without i ys) last) IsLimit → Told fits P most ys last (i + 1) (beyond + 1)
    told_limit h f = record {
      fails = fails_more (fails_any fits P most (without i ys) last IsLimit f);
      number = record {
        all = i ∷ t.number.all;
        differ = ((λ h. let q = (t.number.members i).0 h in let l = q.0 in absurd (omega arith)), t.number.differ);
        members = λ x. (
          (λ h. elim h [
            | inl e ↦ ((let l = e in omega arith), subst (LimitsWithout fits P most ys last) (sym e) record { place = here; fails = f })
            | inr m ↦ (let q = (t.number.members x).0 m in ((let l = q.0 in omega arith), q.1))
          ]),
          (λ q. elim (below_one x i q.0) [ inl l ↦ inr ((t.number.members x).1 (l, q.1)) | inr e ↦ inl e ]),
        );
        size = (let s = t.number.size in omega arith);
      };
      few = (let l = t.few in omega arith);
    }
      where
        here : i < length ys
        here = h

    -- one more try, in which the act could not go
    pub told_more : (tried : Tried) (after : ℕ) → i < length ys → TriedIs fits P most ys last i tried → beyond_after tried beyond ≡ Some after → Told fits P most ys last (i + 1) after
    told_more Valid after h f e = absurd (let g : None ≡ Some after = e in cc g)
    told_more Breach after h f e = subst (Told fits P most ys last (i + 1)) (let g : beyond ≡ after = cc e in g) (told_breach f)
    told_more Limit after h f e = subst (Told fits P most ys last (i + 1)) (let g : beyond + 1 ≡ after = cc e in g) (told_limit h f)

  -- all are told
  told_all : (i beyond : ℕ) → Told fits P most ys last i beyond → length ys ≤ i → ((j : ℕ) → j < length ys → Fails fits P most (plan_of (without j ys) last) (λ z. Unit {0})) × Number (LimitsWithout fits P most ys last) beyond
  told_all i beyond t n = (
    (λ j h. t.fails j (omega arith)),
    record {
      all = t.number.all;
      differ = t.number.differ;
      members = λ x. (
        (λ h. ((t.number.members x).0 h).1),
        (λ q. (t.number.members x).1 ((let l = q.place in omega arith), q)),
      );
      size = t.number.size;
    },
  )

  -- a try in which the act can go
  pub tried_valid : (i beyond : ℕ) (tried : Tried) → TriedIs fits P most ys last i tried → beyond_after tried beyond ≡ None → IsInside fits P most (plan_of (without i ys) last)
  tried_valid i beyond Valid f e = f
  tried_valid i beyond Breach f e = absurd (let g : Some beyond ≡ None = e in cc g)
  tried_valid i beyond Limit f e = absurd (let g : Some (beyond + 1) ≡ None = e in cc g)

pub work_last : (fits : Fraction → Type 0) (P : Problem) (most : ℕ) (xs : List Act) (last : Fraction) (places : List ℕ) (marks : List IndexedView) (i beyond : ℕ) → IsWork fits P most xs last places marks → Told fits P most (chosen xs places) last i beyond → length places ≤ i → IsLast fits P most xs last places marks beyond
work_last fits P most xs last places marks i beyond w t h =
    let n = chosen_long xs places w.marked.inside in
    let a = told_all fits P most (chosen xs places) last i beyond t (omega arith) in
    record { work = w; idle_free = a.0; number = a.1 }

-- ---- the answer

pub last_kept : (fits : Fraction → Type 0) (P : Problem) (most : ℕ) (xs : List Act) (last : Fraction) (places found : List ℕ) (marks : List IndexedView) (beyond : ℕ) → IsLast fits P most xs last places marks beyond → found ≡ places → IsKept fits P most xs last found beyond
last_kept fits P most xs last places found marks beyond l e = subst (λ ps. IsKept fits P most xs last ps beyond) (sym e) record {
  rising = l.work.marked.rising;
  inside = l.work.marked.inside;
  valid = l.work.valid;
  idle_free = l.idle_free;
  number = l.number;
}

pub refusal_answers : {Q : Type 0} (v : Q → Fraction) (fits : Fraction → Type 0) (P : Problem) (most : ℕ) (xs : List Act) (last : Fraction) (stop : Stop Q) (r : Trimmed Q) → Halts v fits P most (plan_of xs last) stop → r ≡ trimmed_by stop → Answers v fits P most xs last r
refusal_answers v fits P most xs last (stops.Breach b) r h e = subst (Answers v fits P most xs last) (sym e) h
refusal_answers v fits P most xs last (stops.Limit l) r h e = subst (Answers v fits P most xs last) (sym e) h
refusal_answers v fits P most xs last stops.Ended r h e = absurd h
refusal_answers v fits P most xs last stops.Memory r h e = subst (Answers v fits P most xs last) (sym e) tt

pub valid_kept : {Q : Type 0} (v : Q → Fraction) (fits : Fraction → Type 0) (P : Problem) (most : ℕ) (xs : List Act) (last : Fraction) (r : Trimmed Q) → Answers v fits P most xs last r → IsInside fits P most (plan_of xs last) → IsKeptOrMemory r
valid_kept v fits P most xs last (Kept places beyond) a i = tt
valid_kept v fits P most xs last (Invalid b) a i = none_inside fits P most (plan_of xs last) IsNoLimit i (halts_breach v fits P most (plan_of xs last) b a)
valid_kept v fits P most xs last (Beyond l) a i = none_inside fits P most (plan_of xs last) IsLimit i (halts_limit v fits P most (plan_of xs last) l a)
valid_kept v fits P most xs last Memory a i = tt
