-- What clears the marks, and what leaves the clock as it is.
use Rattle.std.proofs.Common.{◌≡◌, ℕ, zero, suc, ◌<◌, ◌+◌, Bool, true, false, not, ◌&&◌, ◌||◌, List, [], ◌∷◌, length, refl, ap, ap₂, ◌∙◌, arith}
use Rattle.std.specs.Prelude.{Option, None, Ok, nat_eq}
use Rattle.std.proofs.lemmas.Bool.Decides.{nat_tests}
use Rattle.plus_fraction.specs.Fraction.{Fraction}
use Rattle.plus_model.specs.Terms.{Effect, Event, State}
use Rattle.plus_model.specs.Firing.{is_in}
use Rattle.plus_model.specs.Joint.{Written, Stays, new_value, value_before}
use Rattle.plus_steps.specs.Translation.{clears_from, clock_value}
use Rattle.plus_steps.proofs.Pads.{marks_from}
use Rattle.plus_steps.proofs.Tally.{both_written, gained, lost, wrote, fine, atoms_by, values_by}

pub or_true : (x : Bool) → x || true ≡ true
or_true true = refl
or_true false = refl

pub or_false : (x : Bool) → x || false ≡ x
or_false true = refl
or_false false = refl

pub and_true : (x : Bool) → x && true ≡ x
and_true true = refl
and_true false = refl

pub and_false : (x : Bool) → x && false ≡ false
and_false true = refl
and_false false = refl

pub stays_right : (w : Written) → both_written w Stays ≡ w
stays_right w = grind arith

module _ (t : State) where
  pub clears_gain : (a c : ℕ) (es : List Event) → gained a (clears_from c es) t ≡ false
  unfolding gained
  clears_gain a c [] = refl
  clears_gain a c (e ∷ es) = clears_gain a (suc c) es

  pub clears_fine : (c : ℕ) (es : List Event) → fine (clears_from c es) t ≡ true
  unfolding fine
  clears_fine c [] = refl
  clears_fine c (e ∷ es) = clears_fine (suc c) es

  pub clears_write : (f c : ℕ) (es : List Event) → wrote f (clears_from c es) t ≡ Stays
  unfolding wrote
  clears_write f c [] = refl
  clears_write f c (e ∷ es) = clears_write f (suc c) es

  pub clears_keep : (a c : ℕ) → a < c → (es : List Event) → lost a (clears_from c es) t ≡ false
  unfolding lost
  clears_keep a c h [] = refl
  clears_keep a c h (e ∷ es) = ap₂ (λ x y. x || y) (below a c h) (clears_keep a (suc c) (omega arith) es)
    where
      below : (a c : ℕ) → a < c → nat_eq a c ≡ false
      below a c h = grind (arith, nat_tests)

  pub clears_lose : (c j : ℕ) (es : List Event) → j < length es → lost (c + j) (clears_from c es) t ≡ true
  unfolding lost
  clears_lose c j [] h = absurd (omega arith)
  clears_lose c zero (e ∷ es) h = ap (λ x. x || lost (c + 0) (clears_from (suc c) es) t) (same c)
    where
      same : (c : ℕ) → nat_eq (c + 0) c ≡ true
      same c = grind (arith, nat_tests)
  clears_lose c (suc j) (e ∷ es) h =
      let k : c + suc j ≡ suc c + j = omega arith in
      ap (λ y. nat_eq (c + suc j) c || y) (ap (λ (i : ℕ). lost i (clears_from (suc c) es) t) k ∙ clears_lose (suc c) j es (omega arith)) ∙ or_true (nat_eq (c + suc j) c)

-- atoms of which none is gained and all are lost are as the marks where nothing fired
pub all_lost : (fired : List ℕ) (es : List Effect) (t : State) (c k : ℕ) (events : List Event) → ((j : ℕ) → j < length events → (gained (c + j) es t ≡ false) × (lost (c + j) es t ≡ true)) → atoms_by c es t (marks_from fired k events) ≡ marks_from [] k events
all_lost fired es t c k [] h = refl
all_lost fired es t c k (e ∷ events) h =
    let here = h 0 (omega arith) in
    let c0 : c ≡ c + 0 = omega arith in
    ap₂ (λ x y. x ∷ y)
    (ap₂ (λ (x y : Bool). x || (is_in fired k && not y)) (ap (λ (i : ℕ). gained i es t) c0 ∙ here.0) (ap (λ (i : ℕ). lost i es t) c0 ∙ here.1) ∙ and_false (is_in fired k))
    (all_lost fired es t (suc c) (suc k) events (λ j l.
    let cj : suc c + j ≡ c + suc j = omega arith in
    let more = h (suc j) (omega arith) in
    (ap (λ (i : ℕ). gained i es t) cj ∙ more.0, ap (λ (i : ℕ). lost i es t) cj ∙ more.1)))

-- a clock on which nothing is written
pub clock_stays : (es : List Effect) (t : State) (m : ℕ) (b : Bool) (n : ℕ) → wrote m es t ≡ Stays → values_by m es t (clock_value b n) ≡ Ok (clock_value b n)
clock_stays es t m false n h = refl
clock_stays es t m true n h = ap (λ w. value_before (new_value m w (head (clock_value true n))) (Ok [])) h
  where
    head : List (Option Fraction) → Option Fraction
    head [] = None
    head (x ∷ xs) = x
