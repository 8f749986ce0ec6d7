-- Roots below a bound, in order.
use Rattle.std.proofs.Common.{◌≡◌, ◌⊎◌, Bool, true, false, List, [], ◌∷◌, refl, ap, sym, subst, inl, inr, if◌then◌else◌}
use Rattle.std.specs.declared.cmp.Ordering.{Ordering}
use Rattle.std.specs.declared.cmp.Ordering.TheVariants.{Less, Equal, Greater}
use Rattle.plus_fraction.specs.Fraction.{Fraction, ◌<ℚ◌, compared}
use Rattle.plus_fraction.proofs.Compared.{compared-less, compared-equal, compared-greater, less-compared}
use Rattle.plus_model.specs.Terms.{Below}
use Rattle.plus_model.specs.Value.{passes}
use Rattle.plus_model.specs.Trajectory.{is_below}
use Rattle.plus_model.proofs.Moments.{from_below}
use Rattle.plus_stretch.specs.Crossings.{place, insert, rising_below, Among, RisesAbove}
use Rattle.plus_stretch.specs.Laws.{RisingAre}

pub to_below : (x y : Fraction) → x <ℚ y → is_below x y ≡ true
to_below x y h = ap (passes Below) (less-compared x y h)

place_rises : (a x y : Fraction) (ys rest : List Fraction) (o : Ordering) → compared x y ≡ o → a <ℚ x → a <ℚ y → RisesAbove y ys → (y <ℚ x → RisesAbove y rest) → RisesAbove a (place o x y ys rest)
place_rises a x y ys rest Less c h k r f = (h, (compared-less x y c, r))
place_rises a x y ys rest Equal c h k r f = (k, r)
place_rises a x y ys rest Greater c h k r f = (k, f (compared-greater x y c))

insert_rises : (a x : Fraction) (ys : List Fraction) → a <ℚ x → RisesAbove a ys → RisesAbove a (insert x ys)
insert_rises a x [] h r = (h, tt)
insert_rises a x (y ∷ ys) h r = place_rises a x y ys (insert x ys) (compared x y) refl h r.0 r.1 (λ l. insert_rises y x ys l r.1)

if_rises : (b : Bool) (a x : Fraction) (ys : List Fraction) → a <ℚ x → RisesAbove a ys → RisesAbove a (if b then insert x ys else ys)
if_rises true a x ys h r = insert_rises a x ys h r
if_rises false a x ys h r = r

rise : (a len : Fraction) (xs : List Fraction) → ((x : Fraction) → Among x xs → a <ℚ x) → RisesAbove a (rising_below len xs)
rise a len [] f = tt
rise a len (x ∷ xs) f = if_rises (is_below x len) a x (rising_below len xs) (f x (inl refl)) (rise a len xs (λ y i. f y (inr i)))

place_new : (x y : Fraction) (ys rest : List Fraction) (o : Ordering) → compared x y ≡ o → Among x rest → Among x (place o x y ys rest)
place_new x y ys rest Less c h = inl refl
place_new x y ys rest Equal c h = inl (compared-equal x y c)
place_new x y ys rest Greater c h = inr h

insert_new : (x : Fraction) (ys : List Fraction) → Among x (insert x ys)
insert_new x [] = inl refl
insert_new x (y ∷ ys) = place_new x y ys (insert x ys) (compared x y) refl (insert_new x ys)

place_keeps : (z x y : Fraction) (ys rest : List Fraction) (o : Ordering) → (Among z ys → Among z rest) → Among z (y ∷ ys) → Among z (place o x y ys rest)
place_keeps z x y ys rest Less f h = inr h
place_keeps z x y ys rest Equal f h = h
place_keeps z x y ys rest Greater f h = elim h [ inl e ↦ inl e | inr i ↦ inr (f i) ]

insert_keeps : (z x : Fraction) (ys : List Fraction) → Among z ys → Among z (insert x ys)
insert_keeps z x [] h = elim h [ ]
insert_keeps z x (y ∷ ys) h = place_keeps z x y ys (insert x ys) (compared x y) (insert_keeps z x ys) h

if_new : (b : Bool) (x : Fraction) (ys : List Fraction) → b ≡ true → Among x (if b then insert x ys else ys)
if_new true x ys e = insert_new x ys
if_new false x ys e = cc

if_keeps : (b : Bool) (z x : Fraction) (ys : List Fraction) → Among z ys → Among z (if b then insert x ys else ys)
if_keeps true z x ys h = insert_keeps z x ys h
if_keeps false z x ys h = h

all : (len x : Fraction) (xs : List Fraction) → Among x xs → x <ℚ len → Among x (rising_below len xs)
all len x [] h l = elim h [ ]
all len x (y ∷ xs) h l = elim h [
  | inl e ↦ subst (λ (z : Fraction). Among x (if is_below z len then insert z (rising_below len xs) else rising_below len xs)) e (if_new (is_below x len) x (rising_below len xs) (to_below x len l))
  | inr i ↦ if_keeps (is_below y len) x y (rising_below len xs) (all len x xs i l)
]

place_from : (z x y : Fraction) (ys rest : List Fraction) (o : Ordering) → (Among z rest → (z ≡ x) ⊎ Among z ys) → Among z (place o x y ys rest) → (z ≡ x) ⊎ Among z (y ∷ ys)
place_from z x y ys rest Less f h = elim h [ inl e ↦ inl e | inr i ↦ inr i ]
place_from z x y ys rest Equal f h = inr h
place_from z x y ys rest Greater f h = elim h [ inl e ↦ inr (inl e) | inr i ↦ elim (f i) [ inl e ↦ inl e | inr j ↦ inr (inr j) ] ]

pub insert_from : (z x : Fraction) (ys : List Fraction) → Among z (insert x ys) → (z ≡ x) ⊎ Among z ys
insert_from z x [] h = elim h [ inl e ↦ inl e | inr i ↦ inr i ]
insert_from z x (y ∷ ys) h = place_from z x y ys (insert x ys) (compared x y) (insert_from z x ys) h

if_below : (b : Bool) (len z x : Fraction) (ys : List Fraction) → is_below x len ≡ b → (Among z ys → z <ℚ len) → Among z (if b then insert x ys else ys) → z <ℚ len
if_below true len z x ys e f h = elim (insert_from z x ys h) [ inl i ↦ subst (λ (y : Fraction). y <ℚ len) (sym i) (from_below x len e) | inr i ↦ f i ]
if_below false len z x ys e f h = f h

below : (len x : Fraction) (xs : List Fraction) → Among x (rising_below len xs) → x <ℚ len
below len x [] h = elim h [ ]
below len x (y ∷ xs) h = if_below (is_below y len) len x y (rising_below len xs) refl (below len x xs) h

pub rising_are : RisingAre
rising_are = record { rise = rise; all = all; below = below }
