-- What a search from root to root adds: between two roots where nothing begins, nothing begins.
use Rattle.std.proofs.Common.{◌≡◌, ℕ, suc, true, false, Bool, List, [], ◌∷◌, refl, ap, sym, subst, ◌∙◌, inl, inr, pos, arith, if◌then◌else◌}
use Rattle.std.specs.Prelude.{Option, Some, None, IsSomeAnd, slice_get}
use Rattle.plus_fraction.specs.Fraction.{Fraction, whole, ◌+ℚ◌, ◌-ℚ◌, ◌<ℚ◌, ◌≤ℚ◌}
use Rattle.plus_fraction.proofs.IntRing.{linear}
use Rattle.plus_fraction.proofs.FractionLinear.{common3, commons, nums, lt_num, le_num, num_lt}
use Rattle.plus_fraction.proofs.Ring.{var, num, ◌⊕◌, ◌⊗◌}
use Rattle.plus_fraction.proofs.FractionRing.{ringℚ}
use Rattle.plus_fraction.proofs.FractionOrder.{<ℚ_or, <ℚ_trans}
use Rattle.plus_model.specs.Terms.{Condition, State, Event, Process, Problem}
use Rattle.plus_model.specs.Value.{holds}
use Rattle.plus_model.specs.Firing.{numbers_of, firing}
use Rattle.plus_model.specs.Running.{moved_values, moved, JustAfter, GoesOn, IsQuiet, Stretch}
use Rattle.plus_model.specs.Piece.{NoRoot}
use Rattle.plus_model.specs.Live.{live}
use Rattle.plus_model.proofs.Motion.{moved-moved, between_both}
use Rattle.plus_model.proofs.Moments.{≤ℚ_refl, <ℚ-≤ℚ, sub_above}
use Rattle.plus_model.proofs.Alive.{live_holds}
use Rattle.plus_model.proofs.Truth.{one_truth}

-- one truth at all moments strictly between a and b
abbrev pub OneTruth : Condition → State → List Fraction → Fraction → Fraction → Type 0
OneTruth c s rs a b = (x y : Fraction) → a <ℚ x → x <ℚ b → a <ℚ y → y <ℚ b → holds c (moved s rs x) ≡ holds c (moved s rs y)

moved_atoms : (s : State) (rs : List Fraction) (x : Fraction) → s.atoms ≡ (moved s rs x).atoms
unfolding moved
moved_atoms s rs x = refl

-- no live comparison has a root strictly between
pub live_truth : (c : Condition) (s : State) (rs : List Fraction) (a b : Fraction) → NoRoot (live c s) s rs a b → OneTruth c s rs a b
live_truth c s rs a b n x y ax xb ay yb =
    sym (live_holds c s (moved s rs x) (moved_atoms s rs x)) ∙ one_truth (live c s) s rs a b x y n ax xb ay yb ∙ live_holds c s (moved s rs y) (moved_atoms s rs y)

pub past : (a c y : Fraction) → a ≤ℚ c → whole (pos 0) <ℚ y → a <ℚ c +ℚ y
past a c y h k = common3 (a <ℚ c +ℚ y) a c y (λ D d A C Y.
    let h' = le_num D _ _ A C h in
    let k' = simp nums at (lt_num D _ _ (search commons) (search commons) k) in
    num_lt D _ _ (search commons) (search commons) (simp nums (omega (arith, linear))))

pub short : (c b y : Fraction) → y <ℚ b -ℚ c → c +ℚ y <ℚ b
short c b y h = common3 (c +ℚ y <ℚ b) c b y (λ D d C B Y.
    let h' = simp nums at (lt_num D _ _ (search commons) (search commons) h) in
    num_lt D _ _ (search commons) (search commons) (simp nums (omega (arith, linear))))

-- what holds just after a moment of the interval, or its beginning, holds in the interval
pub spread : (c : Condition) (s : State) (rs : List Fraction) (a b at : Fraction) → OneTruth c s rs a b → a ≤ℚ at → at <ℚ b → JustAfter (moved s rs at) rs c → (x : Fraction) → a <ℚ x → x <ℚ b → holds c (moved s rs x) ≡ true
spread c s rs a b at one le lt j x ax xb =
    let p = between_both j.until (b -ℚ at) j.above (sub_above at b lt) in
    one x (at +ℚ p.place) ax xb (past a at p.place le p.above) (short at b p.place p.second)
    ∙ sym (ap (holds c) (moved-moved s rs at p.place)) ∙ j.inside p.place p.above p.first

-- and the other way round
pub gathered : (c : Condition) (s : State) (rs : List Fraction) (a b at : Fraction) → a ≤ℚ at → at <ℚ b → ((x : Fraction) → a <ℚ x → x <ℚ b → holds c (moved s rs x) ≡ true) → JustAfter (moved s rs at) rs c
gathered c s rs a b at le lt all = record {
  until = b -ℚ at;
  above = sub_above at b lt;
  inside = λ y p q. ap (holds c) (moved-moved s rs at y) ∙ all (at +ℚ y) (past a at y le p) (short at b y q);
}

none_by : {A : Type 0} (test : A → Bool) (k : ℕ) (xs : List A) → ((i : ℕ) (x : A) → slice_get xs i ≡ Some x → test x ≡ false) → numbers_of test k xs ≡ []
none_by test k [] f = refl
none_by test k (x ∷ xs) f =
    ap (λ b. if b then k ∷ numbers_of test (suc k) xs else numbers_of test (suc k) xs) (f 0 x refl) ∙ none_by test (suc k) xs (λ i y e. f (suc i) y e)

none_fire : (P : Problem) (s : State) → ((i : ℕ) (e : Event) → slice_get P.events i ≡ Some e → holds e.condition s ≡ false) → firing P s ≡ []
unfolding firing
none_fire P s f = none_by (λ (e : Event). holds e.condition s) 0 P.events f

false_by : (b : Bool) → (b ≡ true → ⊥) → b ≡ false
false_by true f = absurd (f refl)
false_by false f = refl

-- at the place a no event holds just after, the set goes on, and no condition changes its truth up to b
pub record IsCalm (P : Problem) (s : State) (R : List ℕ) (rs : List Fraction) (a b : Fraction) : Type 0 where
  pub events : (i : ℕ) (e : Event) → slice_get P.events i ≡ Some e → OneTruth e.condition s rs a b
  pub processes : (i : ℕ) (p : Process) → slice_get P.processes i ≡ Some p → OneTruth p.condition s rs a b
  pub none : (i : ℕ) (e : Event) → slice_get P.events i ≡ Some e → JustAfter (moved s rs a) rs e.condition → ⊥
  pub on : GoesOn P (moved s rs a) rs R

moves_on : (P : Problem) (s : State) (R : List ℕ) (rs : List Fraction) (a b x : Fraction) → IsCalm P s R rs a b → a <ℚ x → x <ℚ b → (k : ℕ) (o : Option Process) → slice_get P.processes k ≡ o → (IsSomeAnd o (λ q. JustAfter (moved s rs a) rs q.condition) → IsSomeAnd o (λ q. JustAfter (moved s rs x) rs q.condition)) × (IsSomeAnd o (λ q. JustAfter (moved s rs x) rs q.condition) → IsSomeAnd o (λ q. JustAfter (moved s rs a) rs q.condition))
moves_on P s R rs a b x calm ax xb k None e = (λ h. h, λ h. h)
moves_on P s R rs a b x calm ax xb k (Some q) e =
    let one = calm.processes k q e in
    let ab = <ℚ_trans a x b ax xb in (
      λ j. gathered q.condition s rs a b x (<ℚ-≤ℚ a x ax) xb (spread q.condition s rs a b a one (≤ℚ_refl a) ab j),
      λ j. gathered q.condition s rs a b a (≤ℚ_refl a) ab (spread q.condition s rs a b x one (<ℚ-≤ℚ a x ax) xb j),
    )

pub quiet_between : (P : Problem) (s : State) (R : List ℕ) (rs : List Fraction) (a b x : Fraction) → IsCalm P s R rs a b → a <ℚ x → x <ℚ b → IsQuiet P (moved s rs x) R rs
quiet_between P s R rs a b x calm ax xb = record {
  still = no_events;
  on = record {
    rising = calm.on.rising;
    members = λ k. let m = moves_on P s R rs a b x calm ax xb k (slice_get P.processes k) refl in
        (λ h. m.0 ((calm.on.members k).0 h), λ h. (calm.on.members k).1 (m.1 h));
  };
}
  where
    silent : (i : ℕ) (e : Event) → slice_get P.events i ≡ Some e → holds e.condition (moved s rs x) ≡ false
    silent i e g = false_by _ (λ h. calm.none i e g (gathered e.condition s rs a b a (≤ℚ_refl a) (<ℚ_trans a x b ax xb)
        (λ y p q. calm.events i e g y x p q ax xb ∙ h)))

    no_events : firing P (moved s rs x) ≡ []
    no_events = none_fire P (moved s rs x) silent

-- and it begins where the running set does
values_still : (vs : List (Option Fraction)) (rs : List Fraction) → moved_values vs rs (whole (pos 0)) ≡ vs
values_still [] rs = refl
values_still (v ∷ vs) [] = refl
values_still (None ∷ vs) (r ∷ rs) = ap (λ t. None ∷ t) (values_still vs rs)
values_still (Some w ∷ vs) (r ∷ rs) = cc (ringℚ (w ∷ r ∷ []) (var 0 ⊕ var 1 ⊗ num (pos 0)) (var 0) refl, values_still vs rs)

pub moved-zero : (s : State) (rs : List Fraction) → moved s rs (whole (pos 0)) ≡ s
unfolding moved
moved-zero s rs = ap (λ vs. record { atoms = s.atoms; fluents = vs }) (values_still s.fluents rs)

pub stretch_begins : (P : Problem) (s : State) (R : List ℕ) (rs : List Fraction) (b : Fraction) → IsCalm P s R rs (whole (pos 0)) b → Stretch P s R rs b
stretch_begins P s R rs b calm x p l = quiet_between P s R rs (whole (pos 0)) b x calm p l
