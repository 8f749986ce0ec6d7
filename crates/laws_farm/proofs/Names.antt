-- The names of a farm are small names, and those of its tanks are different ones.
use Rattle.std.proofs.Common.{◌≡◌, ℕ, ◌<◌, ◌≤◌, ◌^◌, false, List, [], ◌∷◌, ◌++◌, drop, length, refl, sym, ap, ap₂, ◌∙◌, subst, arith, decimal, bytes_eq}
use Rattle.std.specs.Prelude.{codes}
use Rattle.std.proofs.lemmas.Fmt.{decimal-digits_of}
use Rattle.plus_tokens.specs.Bytes.{is_name_byte}
use Rattle.plus_tokens.specs.Lowered.{lowered}
use Rattle.plus_tokens.specs.Spelling.{Each}
use Rattle.plus_translation.specs.Renamed.{numeral}
use Rattle.plus_canonical.proofs.Smalls.{IsSmall}
use Rattle.plus_canonical.proofs.Terms.{fixed, PlainName}
use Rattle.laws_translation.proofs.TextLemmas.FreshWords.{mark_plain}
use Rattle.laws_translation.proofs.TypedLemmas.EventsTyped.{mark_apart}
use Rattle.laws_farm.proofs.Trees.{tank_name, farm_name}

-- the number of a tank
pub record Fit (i : ℕ) : Type 0 where
  pub some : 0 < i
  pub few : i < 2 ^ 64

numeral_is : (i : ℕ) → Fit i → decimal i ≡ numeral i
numeral_is i f = decimal-digits_of i f.some f.few

-- what may stand behind a letter of a small name
record IsSmallTail (ds : List ℕ) : Type 0 where
  bytes : Each is_name_byte ds
  same : lowered ds ≡ ds
  short : length ds ≤ 60

numeral_small : (i : ℕ) → i < 2 ^ 64 → IsSmallTail (numeral i)
numeral_small i l =
    let s = (mark_plain i l).small in
    let others : s.name.others ≡ 112 ∷ 45 ∷ 102 ∷ numeral i = sym (ap (drop 1) s.name.spelled) in
    record {
      bytes = subst (Each is_name_byte) others s.name.name_bytes;
      same = ap (drop 4) s.same;
      short = omega (arith, s.name.within);
    }

t_small : (ds : List ℕ) → IsSmallTail ds → IsSmall (116 ∷ ds)
t_small ds s = record {
  name = record { first = 116; others = ds; letter = refl; name_bytes = s.bytes; spelled = refl; within = omega (arith, s.short) };
  same = ap (λ (w : List ℕ). 116 ∷ w) s.same;
}

farm_small : (ds : List ℕ) → IsSmallTail ds → IsSmall (codes "farm" ++ ds)
farm_small ds s = record {
  name = record { first = 102; others = codes "arm" ++ ds; letter = refl; name_bytes = s.bytes; spelled = refl; within = omega (arith, s.short) };
  same = ap (λ (w : List ℕ). codes "farm" ++ w) s.same;
}

pub tank_small : (i : ℕ) → Fit i → IsSmall (tank_name i)
tank_small i f = subst (λ (w : List ℕ). IsSmall (116 ∷ w)) (sym (numeral_is i f)) (t_small (numeral i) (numeral_small i f.few))

pub name_small : (n : ℕ) → Fit n → IsSmall (farm_name n)
name_small n f = subst (λ (w : List ℕ). IsSmall (codes "farm" ++ w)) (sym (numeral_is n f)) (farm_small (numeral n) (numeral_small n f.few))

-- two tanks have two names
pub tank_apart : (i m : ℕ) → Fit i → Fit m → i < m → bytes_eq (tank_name m) (tank_name i) ≡ false
tank_apart i m f g l = ap₂ (λ (a b : List ℕ). bytes_eq a b) (numeral_is m g) (numeral_is i f) ∙ mark_apart i m l

-- ---- words

pub level_plain : PlainName (codes "level")
level_plain = record { small = fixed 108 (codes "evel") refl refl refl refl; plain = refl }

pub rate_plain : PlainName (codes "rate")
rate_plain = record { small = fixed 114 (codes "ate") refl refl refl refl; plain = refl }

pub cap_plain : PlainName (codes "cap")
cap_plain = record { small = fixed 99 (codes "ap") refl refl refl refl; plain = refl }

pub type_small : IsSmall (codes "tank")
type_small = fixed 116 (codes "ank") refl refl refl refl

pub variable_small : IsSmall (codes "t")
variable_small = fixed 116 [] refl refl refl refl

pub domain_small : IsSmall (codes "farm")
domain_small = fixed 102 (codes "arm") refl refl refl refl
