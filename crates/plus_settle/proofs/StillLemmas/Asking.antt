-- Whether the members of a condition are simple, one after the other.
use Rattle.std.proofs.Common.{◌≡◌, ℕ, Bool, true, false, ◌&&◌, List, [], ◌∷◌, refl, ap, sym, subst, ◌∙◌}
use Rattle.plus_fraction.specs.Fraction.{Fraction}
use Rattle.plus_model.specs.Terms.{Condition, Always, Never, Both, Either, Atom, Compare}
use Rattle.plus_state.specs.Tests.{pair, unit, joined}
use Rattle.plus_state.specs.Fits.{Fits}
use Rattle.plus_settle.specs.Still.Simple.{is_simple, HaveRates}

pub fits_have : (atoms n : ℕ) (c : Condition) → Fits atoms n c → HaveRates n c
fits_have atoms n Always h = tt
fits_have atoms n Never h = tt
fits_have atoms n (Both c d) h = (fits_have atoms n c h.0, fits_have atoms n d h.1)
fits_have atoms n (Either c d) h = (fits_have atoms n c h.0, fits_have atoms n d h.1)
fits_have atoms n (Atom a positive) h = tt
fits_have atoms n (Compare test left right positive) h = h

simple_unit : (all : Bool) (rs : List Fraction) → is_simple (unit all) rs ≡ true
simple_unit true rs = refl
simple_unit false rs = refl

and_true : (x : Bool) → x && true ≡ x
and_true true = refl
and_true false = refl

-- those that have been looked at, and those that are left
pub record Asking (all simple : Bool) (rs : List Fraction) (n : ℕ) (rest whole : List Condition) : Type 0 where
  pub inside : HaveRates n (joined all rest)
  pub so_far : simple && is_simple (joined all rest) rs ≡ is_simple (joined all whole) rs

pub asking_start : (all : Bool) (rs : List Fraction) (n : ℕ) (whole : List Condition) (c : Condition) → joined all whole ≡ c → HaveRates n c → Asking all true rs n whole whole
asking_start all rs n whole c e h = record { inside = subst (HaveRates n) (sym e) h; so_far = refl }

pub asking_end : (all simple : Bool) (rs : List Fraction) (n : ℕ) (whole : List Condition) (c : Condition) → joined all whole ≡ c → Asking all simple rs n [] whole → simple ≡ is_simple c rs
asking_end all simple rs n whole c e h =
    sym (and_true simple) ∙ ap (λ (x : Bool). simple && x) (sym (simple_unit all rs)) ∙ h.so_far ∙ ap (λ (d : Condition). is_simple d rs) e
