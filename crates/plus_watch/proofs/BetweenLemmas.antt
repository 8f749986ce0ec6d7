-- Roots strictly between two bounds, in order.
use Rattle.std.proofs.Common.{◌≡◌, Bool, true, false, List, [], ◌∷◌, refl, subst, inl, inr, if◌then◌else◌}
use Rattle.plus_fraction.specs.Fraction.{Fraction, ◌<ℚ◌}
use Rattle.plus_fraction.proofs.FractionOrder.{<ℚ_trans}
use Rattle.plus_model.specs.Trajectory.{is_below}
use Rattle.plus_model.proofs.Moments.{from_below}
use Rattle.plus_stretch.specs.Crossings.{rising_below, Among, RisesAbove}
use Rattle.plus_stretch.proofs.Rising.{to_below, rising_are}
use Rattle.plus_watch.specs.Between.{above, rising_between}

-- ---- those above a bound
lower : (a b : Fraction) (xs : List Fraction) → a <ℚ b → RisesAbove b xs → RisesAbove a xs
lower a b [] h r = tt
lower a b (x ∷ xs) h r = (<ℚ_trans a b x h r.0, r.1)

keep_rising : (low b : Fraction) (xs : List Fraction) → RisesAbove b xs → RisesAbove b (above low xs)
keep_rising low b [] r = tt
keep_rising low b (x ∷ xs) r = go (is_below low x) (keep_rising low x xs r.1)
  where
    go : (t : Bool) → RisesAbove x (above low xs) → RisesAbove b (if t then x ∷ above low xs else above low xs)
    go true k = (r.0, k)
    go false k = lower b x (above low xs) r.0 k

rise_above : (low a : Fraction) (xs : List Fraction) → RisesAbove a xs → RisesAbove low (above low xs)
rise_above low a [] r = tt
rise_above low a (x ∷ xs) r = go (is_below low x) refl (rise_above low x xs r.1)
  where
    go : (t : Bool) → is_below low x ≡ t → RisesAbove low (above low xs) → RisesAbove low (if t then x ∷ above low xs else above low xs)
    go true e k = (from_below low x e, keep_rising low x xs r.1)
    go false e k = k

all_above : (low x : Fraction) (xs : List Fraction) → Among x xs → low <ℚ x → Among x (above low xs)
all_above low x [] h l = elim h [ ]
all_above low x (y ∷ xs) h l = elim h [
  | inl e ↦ subst (λ (z : Fraction). Among x (if is_below low z then z ∷ above low xs else above low xs)) e (here (is_below low x) (to_below low x l))
  | inr i ↦ later (is_below low y) (all_above low x xs i l)
]
  where
    here : (t : Bool) → t ≡ true → Among x (if t then x ∷ above low xs else above low xs)
    here true e = inl refl
    here false e = cc

    later : (t : Bool) → Among x (above low xs) → Among x (if t then y ∷ above low xs else above low xs)
    later true i = inr i
    later false i = i

from_above : (low x : Fraction) (xs : List Fraction) → Among x (above low xs) → Among x xs
from_above low x [] h = h
from_above low x (y ∷ xs) h = go (is_below low y) (λ i. from_above low x xs i) h
  where
    go : (t : Bool) → (Among x (above low xs) → Among x xs) → Among x (if t then y ∷ above low xs else above low xs) → Among x (y ∷ xs)
    go true f h = elim h [ inl e ↦ inl e | inr i ↦ inr (f i) ]
    go false f h = inr (f h)

-- ---- those between
pub rise : (a low high : Fraction) (xs : List Fraction) → ((x : Fraction) → Among x xs → a <ℚ x) → RisesAbove low (rising_between low high xs)
rise a low high xs f = rise_above low a (rising_below high xs) (rising_are.rise a high xs f)

pub all : (low high x : Fraction) (xs : List Fraction) → Among x xs → low <ℚ x → x <ℚ high → Among x (rising_between low high xs)
all low high x xs h l m = all_above low x (rising_below high xs) (rising_are.all high x xs h m) l

pub inside : (low high x : Fraction) (xs : List Fraction) → Among x (rising_between low high xs) → x <ℚ high
inside low high x xs h = rising_are.below high x xs (from_above low x (rising_below high xs) h)
