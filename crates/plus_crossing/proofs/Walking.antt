-- Conditions member by member: comparisons, tests, truths just after, roots.
use Rattle.std.proofs.Common.{◌≡◌, ℕ, ◌<◌, ◌+◌, ◌^◌, suc, Bool, true, false, not, List, [], ◌∷◌, ◌++◌, length, refl, ap, ap₂, sym, subst, ◌∙◌, inl, inr, ◌⊎◌, arith, add_assoc}
use Rattle.std.specs.Prelude.{Option, Some, None}
use Rattle.plus_fraction.specs.Fraction.{Fraction}
use Rattle.plus_model.specs.Terms.{Expression, Condition, Always, Never, Both, Either, Atom, Compare, State}
use Rattle.plus_model.specs.Value.{signed, atom_of}
use Rattle.plus_state.specs.Fits.{Fits, comparisons}
use Rattle.plus_state.specs.Tests.{decided, pair, unit, joined, join, join_decided}
use Rattle.plus_state.proofs.TestsLemmas.{decided_pair, decided_atom, decided_compare, decided_unit, fits_head, fits_tail, fits_all, fits_any, undecided_all, undecided_any}
use Rattle.plus_crossing.specs.Asked.{Ask, Passes, AllPass, FirstFailing, number, numbered}
use Rattle.plus_crossing.specs.Conds.{if_open, asks_open, live_tests, TruthAfter}
use Rattle.plus_crossing.specs.Next.{RootOpen, Nowhere, LiveRoot, IsNext, lesser}
use Rattle.plus_crossing.proofs.Joins.{numbered_pass, numbered_first}
use Rattle.plus_state.proofs.Testing.{pass_none, pass_append, fail_left, fail_right}
use Rattle.plus_crossing.proofs.TruthAfter.{truth_decided, truth_pair, truth_unit}
use Rattle.plus_crossing.proofs.NextRoot.{SoFar, so_far_start, so_far_next, so_far_end, next_none}

-- ---- how many comparisons
pub comparisons_pair : (all : Bool) (c d : Condition) → comparisons (pair all c d) ≡ comparisons c + comparisons d
comparisons_pair true c d = refl
comparisons_pair false c d = refl

comparisons_unit : (all : Bool) → comparisons (unit all) ≡ 0
comparisons_unit true = refl
comparisons_unit false = refl

pub record Counting (all : Bool) (count : ℕ) (rest whole : List Condition) : Type 0 where
  pub so_far : count + comparisons (joined all rest) ≡ comparisons (joined all whole)
  pub few : comparisons (joined all whole) < 2 ^ 32

pub counting_start : (all : Bool) (whole : List Condition) → comparisons (joined all whole) < 2 ^ 32 → Counting all 0 whole whole
counting_start all whole h = record { so_far = omega arith; few = h }

module _ (all : Bool) (count : ℕ) (c : Condition) (rest whole : List Condition) (h : Counting all count (c ∷ rest) whole) where
  counted : count + (comparisons c + comparisons (joined all rest)) ≡ comparisons (joined all whole)
  counted = ap (λ (n : ℕ). count + n) (sym (comparisons_pair all c (joined all rest))) ∙ h.so_far

pub counting_end : (all : Bool) (count : ℕ) (whole : List Condition) → Counting all count [] whole → count ≡ comparisons (joined all whole)
counting_end all count whole h = let e = comparisons_unit all in omega (arith, h.so_far)

pub ruleset counting = (fits_all, fits_any)

open_some : (o : Option Bool) (b : Bool) (xs ys : List Ask) → Some b ≡ o → asks_open o xs ys ≡ []
unfolding asks_open
open_some o b xs ys e = ap (λ (o : Option Bool). if_open o (xs ++ ys)) (sym e)

module _ (on : Expression → Expression → List Ask) (s : State) where
  -- what is decided asks nothing
  pub decided_none : (k : ℕ) (c : Condition) (b : Bool) → Some b ≡ decided c s → live_tests on k c s ≡ []
  decided_none k Always b e = refl
  decided_none k Never b e = refl
  decided_none k (Both c d) b e = open_some _ b _ _ e
  decided_none k (Either c d) b e = open_some _ b _ _ e
  decided_none k (Atom a positive) b e = refl
  decided_none k (Compare t l r positive) b e = let n = decided_compare t l r positive s in cc

  tests_open : (all : Bool) (k : ℕ) (c d : Condition) → live_tests on k (pair all c d) s ≡ asks_open (decided (pair all c d) s) (live_tests on k c s) (live_tests on (k + comparisons c) d s)
  tests_open true k c d = refl
  tests_open false k c d = refl

  -- where both are decided
  both_some : (all : Bool) (x y : Option Bool) (b : Bool) → Some b ≡ join_decided all x y → (Some (not all) ≡ join_decided all x y → ⊥) → (Some all ≡ x) × (Some all ≡ y)
  both_some true (Some true) (Some true) b e h = (refl, refl)
  both_some true (Some true) (Some false) b e h = absurd (h refl)
  both_some true (Some true) None b e h = cc
  both_some true (Some false) y b e h = absurd (h refl)
  both_some true None (Some true) b e h = cc
  both_some true None (Some false) b e h = absurd (h refl)
  both_some true None None b e h = cc
  both_some false (Some false) (Some false) b e h = (refl, refl)
  both_some false (Some false) (Some true) b e h = absurd (h refl)
  both_some false (Some false) None b e h = cc
  both_some false (Some true) y b e h = absurd (h refl)
  both_some false None (Some false) b e h = cc
  both_some false None (Some true) b e h = absurd (h refl)
  both_some false None None b e h = cc

  pub pair_some : (all : Bool) (c d : Condition) (b : Bool) → Some b ≡ decided (pair all c d) s → (Some (not all) ≡ decided (pair all c d) s → ⊥) → (Some all ≡ decided c s) × (Some all ≡ decided d s)
  pair_some all c d b e h =
      let p = decided_pair all c d s in
      both_some all (decided c s) (decided d s) b (e ∙ p) (λ q. h (q ∙ sym p))

  split : (all : Bool) (k : ℕ) (c d : Condition) (o : Option Bool) → o ≡ decided (pair all c d) s → (Some (not all) ≡ decided (pair all c d) s → ⊥) → asks_open o (live_tests on k c s) (live_tests on (k + comparisons c) d s) ≡ live_tests on k c s ++ live_tests on (k + comparisons c) d s
  unfolding asks_open
  split all k c d None e h = refl
  split all k c d (Some b) e h =
      let p = pair_some all c d b e h in
      sym (ap₂ (◌++◌) (decided_none k c all p.0) (decided_none (k + comparisons c) d all p.1))

  -- a pair that its members do not decide the absorbing way asks what they ask
  pub tests_pair : (all : Bool) (k : ℕ) (c d : Condition) → (Some (not all) ≡ decided (pair all c d) s → ⊥) → live_tests on k (pair all c d) s ≡ live_tests on k c s ++ live_tests on (k + comparisons c) d s
  tests_pair all k c d h = tests_open all k c d ∙ split all k c d (decided (pair all c d) s) refl h

  tests_unit : (all : Bool) (k : ℕ) → live_tests on k (unit all) s ≡ []
  tests_unit true k = refl
  tests_unit false k = refl

  absorbs : (all : Bool) (x : Option Bool) → join_decided all x (Some (not all)) ≡ Some (not all)
  absorbs true (Some true) = refl
  absorbs true (Some false) = refl
  absorbs true None = refl
  absorbs false (Some true) = refl
  absorbs false (Some false) = refl
  absorbs false None = refl

  pub tail_open : (all : Bool) (c d : Condition) → (Some (not all) ≡ decided (pair all c d) s → ⊥) → Some (not all) ≡ decided d s → ⊥
  tail_open all c d h e = h (sym (absorbs all (decided c s)) ∙ ap (join_decided all (decided c s)) e ∙ sym (decided_pair all c d s))

  -- how far the members of a condition are asked; so many comparisons stand before the next
  pub record Walking (fits : Fraction → Type 0) (all : Bool) (from k : ℕ) (rest whole : List Condition) : Type 0 where
    pub inside : Fits (length s.atoms) (length s.fluents) (joined all rest)
    pub undecided : Some (not all) ≡ decided (joined all rest) s → ⊥
    pub counted : k + comparisons (joined all rest) ≡ from + comparisons (joined all whole)
    pub few : from + comparisons (joined all whole) < 2 ^ 32
    pub pass : AllPass fits (live_tests on k (joined all rest) s) → AllPass fits (live_tests on from (joined all whole) s)
    pub stop : (m : Ask) → FirstFailing fits (live_tests on k (joined all rest) s) m → FirstFailing fits (live_tests on from (joined all whole) s) m

  pub walking_start : (fits : Fraction → Type 0) (all : Bool) (from : ℕ) (whole : List Condition) → Fits (length s.atoms) (length s.fluents) (joined all whole) → None ≡ decided (joined all whole) s → from + comparisons (joined all whole) < 2 ^ 32 → Walking fits all from from whole whole
  walking_start fits all from whole h n f = record { inside = h; undecided = λ e. cc; counted = refl; few = f; pass = λ a. a; stop = λ m u. u }

  module _ (fits : Fraction → Type 0) (all : Bool) (from k : ℕ) (c : Condition) (rest whole : List Condition) (h : Walking fits all from k (c ∷ rest) whole) where
    numbers : k + (comparisons c + comparisons (joined all rest)) ≡ from + comparisons (joined all whole)
    numbers = ap (λ (n : ℕ). k + n) (sym (comparisons_pair all c (joined all rest))) ∙ h.counted

    asked_here : live_tests on k (pair all c (joined all rest)) s ≡ live_tests on k c s ++ live_tests on (k + comparisons c) (joined all rest) s
    asked_here = tests_pair all k c (joined all rest) h.undecided

    pub walking_next : (n : ℕ) → n ≡ comparisons c → AllPass fits (live_tests on k c s) → Walking fits all from (k + n) rest whole
    walking_next n d a =
        subst (λ (i : ℕ). Walking fits all from (k + i) rest whole) (sym d) (record {
          inside = fits_tail all _ _ c (joined all rest) h.inside;
          undecided = tail_open all c (joined all rest) h.undecided;
          counted = add_assoc k (comparisons c) (comparisons (joined all rest)) ∙ numbers;
          few = h.few;
          pass = λ r. h.pass (subst (AllPass fits) (sym asked_here) (pass_append (Passes fits) _ _ a r));
          stop = λ m u. h.stop m (subst (λ (ts : List Ask). FirstFailing fits ts m) (sym asked_here) (fail_right (Passes fits) _ _ m a u));
        })

    pub walking_stop : (m : Ask) → FirstFailing fits (live_tests on k c s) m → FirstFailing fits (live_tests on from (joined all whole) s) m
    walking_stop m u = h.stop m (subst (λ (ts : List Ask). FirstFailing fits ts m) (sym asked_here) (fail_left (Passes fits) _ _ m u))

  pub walking_end : (fits : Fraction → Type 0) (all : Bool) (from k : ℕ) (whole : List Condition) → Walking fits all from k [] whole → AllPass fits (live_tests on from (joined all whole) s)
  walking_end fits all from k whole h = h.pass (subst (AllPass fits) (sym (tests_unit all k)) (pass_none (Passes fits)))

  pub decided_pass : (fits : Fraction → Type 0) (k : ℕ) (c : Condition) (b : Bool) → Some b ≡ decided c s → AllPass fits (live_tests on k c s)
  decided_pass fits k c b e = subst (AllPass fits) (sym (decided_none k c b e)) (pass_none (Passes fits))

-- ---- truths just after
pub record Truths (rs : List Fraction) (all truth : Bool) (rest whole : List Condition) (s : State) : Type 0 where
  pub so_far : (b : Bool) → TruthAfter s rs (joined all rest) b → TruthAfter s rs (joined all whole) (join all truth b)

join_unit : (all : Bool) (x : Bool) → join all all x ≡ x
join_unit true x = refl
join_unit false x = refl

join_end : (all : Bool) (x : Bool) → join all x all ≡ x
join_end true true = refl
join_end true false = refl
join_end false true = refl
join_end false false = refl

join_assoc : (all : Bool) (x y z : Bool) → join all (join all x y) z ≡ join all x (join all y z)
join_assoc true true y z = refl
join_assoc true false y z = refl
join_assoc false true y z = refl
join_assoc false false y z = refl

pub truths_start : (rs : List Fraction) (all : Bool) (whole : List Condition) (s : State) → Truths rs all all whole whole s
truths_start rs all whole s = record { so_far = λ b h. subst (TruthAfter s rs (joined all whole)) (sym (join_unit all b)) h }

pub truths_next : (rs : List Fraction) (all truth x : Bool) (c : Condition) (rest whole : List Condition) (s : State) → Truths rs all truth (c ∷ rest) whole s → TruthAfter s rs c x → Truths rs all (join all truth x) rest whole s
truths_next rs all truth x c rest whole s h k = record {
  so_far = λ b r. subst (TruthAfter s rs (joined all whole)) (sym (join_assoc all truth x b)) (h.so_far (join all x b) (truth_pair all c (joined all rest) s rs x b k r));
}

pub truths_end : (rs : List Fraction) (all truth : Bool) (whole : List Condition) (s : State) → Truths rs all truth [] whole s → TruthAfter s rs (joined all whole) truth
truths_end rs all truth whole s h = subst (TruthAfter s rs (joined all whole)) (join_end all truth) (h.so_far all (truth_unit all s rs))

-- ---- roots
module _ (rs : List Fraction) (s : State) where
  decided_nowhere : (c : Condition) (b : Bool) (x : Fraction) → Some b ≡ decided c s → LiveRoot c s rs x → ⊥
  unfolding RootOpen Nowhere
  decided_nowhere Always b x e h = h
  decided_nowhere Never b x e h = h
  decided_nowhere (Both c d) b x e h = let k : RootOpen (Some b) (LiveRoot c s rs) (LiveRoot d s rs) x = subst (λ (o : Option Bool). RootOpen o (LiveRoot c s rs) (LiveRoot d s rs) x) (sym e) h in k
  decided_nowhere (Either c d) b x e h = let k : RootOpen (Some b) (LiveRoot c s rs) (LiveRoot d s rs) x = subst (λ (o : Option Bool). RootOpen o (LiveRoot c s rs) (LiveRoot d s rs) x) (sym e) h in k
  decided_nowhere (Atom a positive) b x e h = h
  decided_nowhere (Compare t l r positive) b x e h = let n = decided_compare t l r positive s in cc

  open_to : (all : Bool) (c d : Condition) (x : Fraction) → LiveRoot (pair all c d) s rs x → RootOpen (decided (pair all c d) s) (LiveRoot c s rs) (LiveRoot d s rs) x
  open_to true c d x h = h
  open_to false c d x h = h

  open_from : (all : Bool) (c d : Condition) (x : Fraction) → RootOpen (decided (pair all c d) s) (LiveRoot c s rs) (LiveRoot d s rs) x → LiveRoot (pair all c d) s rs x
  open_from true c d x h = h
  open_from false c d x h = h

  sum_to : (P R : Fraction → Type 0) (o : Option Bool) (x : Fraction) → RootOpen o P R x → P x ⊎ R x
  unfolding RootOpen
  sum_to P R None x h = h
  sum_to P R (Some b) x h = absurd h

  pub roots_to : (all : Bool) (c d : Condition) (x : Fraction) → LiveRoot (pair all c d) s rs x → LiveRoot c s rs x ⊎ LiveRoot d s rs x
  roots_to all c d x h = sum_to (LiveRoot c s rs) (LiveRoot d s rs) (decided (pair all c d) s) x (open_to all c d x h)

  sum_from : (all : Bool) (c d : Condition) (o : Option Bool) (x : Fraction) → o ≡ decided (pair all c d) s → (Some (not all) ≡ decided (pair all c d) s → ⊥) → LiveRoot c s rs x ⊎ LiveRoot d s rs x → RootOpen o (LiveRoot c s rs) (LiveRoot d s rs) x
  unfolding RootOpen
  sum_from all c d None x e h r = r
  sum_from all c d (Some b) x e h r =
      let p = pair_some (λ l k. []) s all c d b e h in
      elim r [ inl q ↦ decided_nowhere c all x p.0 q | inr q ↦ decided_nowhere d all x p.1 q ]

  pub roots_from : (all : Bool) (c d : Condition) (x : Fraction) → (Some (not all) ≡ decided (pair all c d) s → ⊥) → LiveRoot c s rs x ⊎ LiveRoot d s rs x → LiveRoot (pair all c d) s rs x
  roots_from all c d x h r = open_from all c d x (sum_from all c d (decided (pair all c d) s) x refl h r)

  unit_nowhere : (all : Bool) (x : Fraction) → LiveRoot (unit all) s rs x → ⊥
  unfolding Nowhere
  unit_nowhere true x h = h
  unit_nowhere false x h = h

  pub record Nexts (all : Bool) (a u : Fraction) (found : Option Fraction) (rest whole : List Condition) : Type 0 where
    pub inside : (x : Fraction) → LiveRoot (joined all rest) s rs x → LiveRoot (joined all whole) s rs x
    pub so_far : SoFar (LiveRoot (joined all whole) s rs) (LiveRoot (joined all rest) s rs) a u found

  pub nexts_start : (all : Bool) (a u : Fraction) (whole : List Condition) → Nexts all a u None whole whole
  nexts_start all a u whole = record { inside = λ x h. h; so_far = so_far_start (LiveRoot (joined all whole) s rs) a u }

  pub nexts_next : (all : Bool) (a u : Fraction) (found least new : Option Fraction) (c : Condition) (rest whole : List Condition) → Nexts all a u found (c ∷ rest) whole → (Some (not all) ≡ decided (joined all (c ∷ rest)) s → ⊥) → IsNext (LiveRoot c s rs) a u least → new ≡ lesser found least → Nexts all a u new rest whole
  nexts_next all a u found least new c rest whole h o k e = record {
    inside = λ x r. h.inside x (roots_from all c (joined all rest) x o (inr r));
    so_far = subst (SoFar (LiveRoot (joined all whole) s rs) (LiveRoot (joined all rest) s rs) a u) (sym e)
        (so_far_next (LiveRoot (joined all whole) s rs) (LiveRoot (joined all (c ∷ rest)) s rs) (LiveRoot c s rs) (LiveRoot (joined all rest) s rs) a u h.inside
        (λ x r. roots_to all c (joined all rest) x r) (λ x p. roots_from all c (joined all rest) x o (inl p)) found least h.so_far k);
  }

  pub nexts_end : (all : Bool) (a u : Fraction) (found : Option Fraction) (whole : List Condition) → Nexts all a u found [] whole → IsNext (LiveRoot (joined all whole) s rs) a u found
  nexts_end all a u found whole h = so_far_end (LiveRoot (joined all whole) s rs) (LiveRoot (unit all) s rs) a u found (unit_nowhere all) h.so_far

  pub next_decided : (c : Condition) (b : Bool) (a u : Fraction) → Some b ≡ decided c s → IsNext (LiveRoot c s rs) a u None
  next_decided c b a u e = next_none (LiveRoot c s rs) a u (λ x h. decided_nowhere c b x e h)

pub truth_atom : (a : ℕ) (positive : Bool) (s : State) (rs : List Fraction) (x z : Bool) → x ≡ atom_of s a → z ≡ signed positive x → TruthAfter s rs (Atom a positive) z
truth_atom a positive s rs x z e d =
    subst (TruthAfter s rs (Atom a positive)) (sym (d ∙ ap (signed positive) e)) (truth_decided (Atom a positive) s rs _ (decided_atom a positive s))

pub next_nowhere : (a u : Fraction) → IsNext Nowhere a u None
unfolding IsNext Nowhere
next_nowhere a u = λ x i j h. h

-- the stop of a comparison
pub at_comparison : (fits : Fraction → Type 0) (k : ℕ) (ts : List Ask) (m : Ask) → FirstFailing fits ts m → FirstFailing fits (numbered (suc k) ts) (number (k + 1) m)
at_comparison fits k ts m h =
    let one : suc k ≡ k + 1 = omega arith in
    subst (λ (i : ℕ). FirstFailing fits (numbered (suc k) ts) (number i m)) one (numbered_first fits (suc k) ts m h)

pub ruleset afters = (pass_none, truth_decided, truth_atom, decided_pass, numbered_pass, at_comparison)

pub ruleset nexts = (pass_none, next_nowhere, next_decided, decided_pass, numbered_pass, at_comparison)
