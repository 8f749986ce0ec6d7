-- Moving on from a moved state, and moments in between.
use Rattle.std.proofs.Common.{◌≡◌, ℕ, zero, suc, true, false, Bool, List, [], ◌∷◌, refl, ap, ap₂, subst, inl, inr, pos, arith, if◌then◌else◌}
use Rattle.std.specs.Prelude.{Option, Some, None, option_map, slice_get}
use Rattle.plus_fraction.specs.Fraction.{Fraction, whole, ◌+ℚ◌, ◌-ℚ◌, ◌*ℚ◌, ◌<ℚ◌, ◌≤ℚ◌}
use Rattle.plus_fraction.proofs.Ring.{var, ◌⊕◌, ◌⊗◌}
use Rattle.plus_fraction.proofs.FractionRing.{ringℚ}
use Rattle.plus_fraction.proofs.IntRing.{linear}
use Rattle.plus_fraction.proofs.FractionOrder.{<ℚ_trans, <ℚ_or}
use Rattle.plus_fraction.proofs.FractionAtMost.{middle, middle_between}
use Rattle.plus_fraction.proofs.FractionLinear.{common3, common4, commons, nums, lt_num, le_num, num_lt}
use Rattle.plus_model.specs.Terms.{State, Event, Problem}
use Rattle.plus_model.specs.Value.{holds}
use Rattle.plus_model.specs.Firing.{numbers_of, firing}
use Rattle.plus_model.specs.Running.{moved_values, moved}

moves_add : (v : Option Fraction) (r a b : Fraction) → option_map (λ w. w +ℚ r *ℚ b) (option_map (λ w. w +ℚ r *ℚ a) v) ≡ option_map (λ w. w +ℚ r *ℚ (a +ℚ b)) v
moves_add None r a b = refl
moves_add (Some w) r a b = ap Some (ringℚ (w ∷ r ∷ a ∷ b ∷ []) ((var 0 ⊕ var 1 ⊗ var 2) ⊕ var 1 ⊗ var 3) (var 0 ⊕ var 1 ⊗ (var 2 ⊕ var 3)) refl)

values_moved : (vs : List (Option Fraction)) (rs : List Fraction) (a b : Fraction) → moved_values (moved_values vs rs a) rs b ≡ moved_values vs rs (a +ℚ b)
values_moved [] rs a b = refl
values_moved (v ∷ vs) [] a b = refl
values_moved (v ∷ vs) (r ∷ rs) a b = ap₂ (λ h t. h ∷ t) (moves_add v r a b) (values_moved vs rs a b)

-- two moves at one rate are one
pub moved-moved : (s : State) (rs : List Fraction) (a b : Fraction) → moved (moved s rs a) rs b ≡ moved s rs (a +ℚ b)
unfolding moved
moved-moved s rs a b = ap (λ vs. record { atoms = s.atoms; fluents = vs }) (values_moved s.fluents rs a b)

-- a moment between 0 and both of two others
pub record Between (m n : Fraction) : Type 0 where
  pub place : Fraction
  pub above : whole (pos 0) <ℚ place
  pub first : place <ℚ m
  pub second : place <ℚ n

pub between_both : (m n : Fraction) → whole (pos 0) <ℚ m → whole (pos 0) <ℚ n → Between m n
between_both m n h k = elim (<ℚ_or m n) [
  | inl l ↦ (let c = middle_between (whole (pos 0)) m h in record { place = middle (whole (pos 0)) m; above = c.0; first = c.1; second = <ℚ_trans _ _ _ c.1 l })
  | inr o ↦ elim o [
    | inl e ↦ (let c = middle_between (whole (pos 0)) m h in record { place = middle (whole (pos 0)) m; above = c.0; first = c.1; second = subst (λ z. middle (whole (pos 0)) m <ℚ z) e c.1 })
    | inr l ↦ (let c = middle_between (whole (pos 0)) n k in record { place = middle (whole (pos 0)) n; above = c.0; first = <ℚ_trans _ _ _ c.1 l; second = c.1 })
  ]
]

-- from a time to t, and on by y
pub goes_above : (time t y : Fraction) → time ≤ℚ t → whole (pos 0) <ℚ y → whole (pos 0) <ℚ (t -ℚ time) +ℚ y
goes_above time t y h k = common3 (whole (pos 0) <ℚ (t -ℚ time) +ℚ y) time t y (λ D d X Y Z.
    let h' = le_num D _ _ X Y h in
    let k' = simp nums at (lt_num D _ _ (search commons) (search commons) k) in
    num_lt D _ _ (search commons) (search commons) (simp nums (omega (arith, linear))))

pub goes_below : (time t u y : Fraction) → y <ℚ u -ℚ t → (t -ℚ time) +ℚ y <ℚ u -ℚ time
goes_below time t u y h = common4 ((t -ℚ time) +ℚ y <ℚ u -ℚ time) time t u y (λ D d X Y U Z.
    let h' = simp nums at (lt_num D _ _ (search commons) (search commons) h) in
    num_lt D _ _ (search commons) (search commons) (simp nums (omega (arith, linear))))

-- where none passes the test, no member does
empty_rest : (b : Bool) (k : ℕ) (ns : List ℕ) → (if b then k ∷ ns else ns) ≡ [] → (b ≡ false) × (ns ≡ [])
empty_rest true k ns e = cc
empty_rest false k ns e = (refl, e)

none_passes : {A : Type 0} (test : A → Bool) (k i : ℕ) (xs : List A) (x : A) → numbers_of test k xs ≡ [] → slice_get xs i ≡ Some x → test x ≡ true → ⊥
none_passes test k i [] x e g h = cc
none_passes test k zero (w ∷ xs) x e g h = (let r = empty_rest (test w) k (numbers_of test (suc k) xs) e in let f = r.0 in cc (f, g, h))
none_passes test k (suc i) (w ∷ xs) x e g h = none_passes test (suc k) i xs x (empty_rest (test w) k (numbers_of test (suc k) xs) e).1 g h

pub no_event : (P : Problem) (s : State) (i : ℕ) (e : Event) → firing P s ≡ [] → slice_get P.events i ≡ Some e → holds e.condition s ≡ true → ⊥
unfolding firing
no_event P s i e f g h = none_passes (λ (x : Event). holds x.condition s) 0 i P.events e f g h
