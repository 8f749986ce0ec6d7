-- A condition with no root strictly between two moments has one truth there, and just after a state it has the truth of the test.
use Rattle.std.proofs.Common.{◌≡◌, true, Bool, List, ◌&&◌, ◌||◌, refl, ap, ap₂, sym, subst, ◌∙◌, ◌⊎◌, inl, inr, pos}
use Rattle.std.specs.Prelude.{Option}
use Rattle.std.specs.declared.cmp.Ordering.{Ordering}
use Rattle.std.specs.declared.cmp.Ordering.TheVariants.{Less, Equal, Greater}
use Rattle.plus_fraction.specs.Fraction.{Fraction, whole, ◌<ℚ◌, compared}
use Rattle.plus_fraction.proofs.FractionOrder.{<ℚ_irrefl, <ℚ_or}
use Rattle.plus_fraction.specs.JustAfter.{JustAfter as Soon}
use Rattle.plus_fraction.proofs.JustAfter.{one_above, just_after_map, just_after_both, below_after, falls_after}
use Rattle.plus_fraction.proofs.Compared.{compared-less, compared-equal, compared-greater, less-compared, greater-compared, equal-compared}
use Rattle.plus_fraction.specs.Lines.{line}
use Rattle.plus_fraction.proofs.Constancy.{same_order, same_slope}
use Rattle.plus_model.specs.Terms.{Test, Condition, Always, Never, Both, Either, Atom, Compare, State}
use Rattle.plus_model.specs.Value.{passes, stand, signed, atom_of, value, holds}
use Rattle.plus_model.specs.Running.{moved, JustAfter}
use Rattle.plus_model.specs.Piece.{Piece, Missing, Crooked, Straight, piece, then_slopes, after_sides, after, StraightSides, IsStraight, NoRootSides, NoRoot}
use Rattle.plus_model.specs.Laws.{AfterTells}
use Rattle.plus_model.proofs.Along.{FollowsPiece, along}
use Rattle.plus_model.proofs.Motion.{between_both}

pub same_atoms : (s : State) (rs : List Fraction) (x y : Fraction) (a : _) → atom_of (moved s rs x) a ≡ atom_of (moved s rs y) a
unfolding moved
same_atoms s rs x y a = refl

-- two slopes are equal or not
slopes_or : (m n : Fraction) → (m ≡ n) ⊎ (m ≡ n → ⊥)
slopes_or m n = elim (<ℚ_or m n) [
  | inl h ↦ inr (λ e. <ℚ_irrefl n (subst (λ z. z <ℚ n) e h))
  | inr o ↦ elim o [
    | inl e ↦ inl e
    | inr h ↦ inr (λ e. <ℚ_irrefl n (subst (λ z. n <ℚ z) e h))
  ]
]

pub stand_same : (t : Test) (p q : Piece) (f g : Fraction → Option Fraction) (a b x y : Fraction) → FollowsPiece p f → FollowsPiece q g → NoRootSides p q a b → a <ℚ x → x <ℚ b → a <ℚ y → y <ℚ b → stand t (f x) (g x) ≡ stand t (f y) (g y)
stand_same t Missing q f g a b x y h k r ax xb ay yb = ap (λ o. stand t o (g x)) (h x) ∙ sym (ap (λ o. stand t o (g y)) (h y))
stand_same t Crooked q f g a b x y h k r ax xb ay yb = elim r [ ]
stand_same t (Straight v m) Missing f g a b x y h k r ax xb ay yb = ap₂ (stand t) (h x) (k x) ∙ sym (ap₂ (stand t) (h y) (k y))
stand_same t (Straight v m) Crooked f g a b x y h k r ax xb ay yb = elim r [ ]
stand_same t (Straight v m) (Straight w n) f g a b x y h k r ax xb ay yb =
    ap₂ (stand t) (h x) (k x) ∙ ap (passes t) order ∙ sym (ap₂ (stand t) (h y) (k y))
  where
    order : compared (line v m x) (line w n x) ≡ compared (line v m y) (line w n y)
    order = elim (slopes_or m n) [
      | inl e ↦ same_slope v w m n x e ∙ sym (same_slope v w m n y e)
      | inr d ↦ same_order v m w n a b x y (λ z p q. r z p q d) ax xb ay yb
    ]

-- the constancy law
pub one_truth : (c : Condition) (s : State) (rs : List Fraction) (a b x y : Fraction) → NoRoot c s rs a b → a <ℚ x → x <ℚ b → a <ℚ y → y <ℚ b → holds c (moved s rs x) ≡ holds c (moved s rs y)
one_truth Always s rs a b x y r ax xb ay yb = refl
one_truth Never s rs a b x y r ax xb ay yb = refl
one_truth (Both c d) s rs a b x y r ax xb ay yb = ap₂ (◌&&◌) (one_truth c s rs a b x y r.0 ax xb ay yb) (one_truth d s rs a b x y r.1 ax xb ay yb)
one_truth (Either c d) s rs a b x y r ax xb ay yb = ap₂ (◌||◌) (one_truth c s rs a b x y r.0 ax xb ay yb) (one_truth d s rs a b x y r.1 ax xb ay yb)
one_truth (Atom k positive) s rs a b x y r ax xb ay yb = ap (signed positive) (same_atoms s rs x y k)
one_truth (Compare t l e positive) s rs a b x y r ax xb ay yb = ap (signed positive)
    (stand_same t (piece l s rs) (piece e s rs) (λ z. value l (moved s rs z)) (λ z. value e (moved s rs z)) a b x y (along l s rs) (along e s rs) r ax xb ay yb)

-- ---- just after
soon_all : (P : Fraction → Type 0) → ((x : Fraction) → P x) → Soon P
soon_all P f = record { until = whole (pos 1); above = one_above; holds = λ x p q. f x }

soon_compared : (v m w n : Fraction) → Soon (λ x. compared (line v m x) (line w n x) ≡ then_slopes (compared v w) (compared m n))
soon_compared v m w n = by_values (compared v w) refl
  where
    by_slopes : v ≡ w → (o : Ordering) → compared m n ≡ o → Soon (λ x. compared (line v m x) (line w n x) ≡ o)
    by_slopes e Less d = just_after_map _ _ (λ x. less-compared _ _) (falls_after v m w n e (compared-less m n d))
    by_slopes e Equal d = soon_all _ (λ x. equal-compared _ _ (ap₂ (λ a b. line a b x) e (compared-equal m n d)))
    by_slopes e Greater d = just_after_map _ _ (λ x. greater-compared _ _) (falls_after w n v m (sym e) (compared-greater m n d))

    by_values : (o : Ordering) → compared v w ≡ o → Soon (λ x. compared (line v m x) (line w n x) ≡ then_slopes o (compared m n))
    by_values Less d = just_after_map _ _ (λ x. less-compared _ _) (below_after v m w n (compared-less v w d))
    by_values Equal d = by_slopes (compared-equal v w d) (compared m n) refl
    by_values Greater d = just_after_map _ _ (λ x. greater-compared _ _) (below_after w n v m (compared-greater v w d))

soon_stand : (t : Test) (p q : Piece) (f g : Fraction → Option Fraction) → FollowsPiece p f → FollowsPiece q g → StraightSides p q → Soon (λ x. stand t (f x) (g x) ≡ after_sides t p q)
soon_stand t Missing q f g h k r = soon_all _ (λ x. ap (λ o. stand t o (g x)) (h x))
soon_stand t Crooked q f g h k r = elim r [ ]
soon_stand t (Straight v m) Missing f g h k r = soon_all _ (λ x. ap₂ (stand t) (h x) (k x))
soon_stand t (Straight v m) Crooked f g h k r = elim r [ ]
soon_stand t (Straight v m) (Straight w n) f g h k r = just_after_map _ _ (λ x e. ap₂ (stand t) (h x) (k x) ∙ ap (passes t) e) (soon_compared v m w n)

-- the condition has this truth just after the state
abbrev pub TruthAfter : State → List Fraction → Condition → Bool → Type 0
TruthAfter s rs c t = Soon (λ x. holds c (moved s rs x) ≡ t)

atom_after : (s : State) (rs : List Fraction) (x : Fraction) (a : _) → atom_of (moved s rs x) a ≡ atom_of s a
unfolding moved
atom_after s rs x a = refl

pub after_is : (c : Condition) (s : State) (rs : List Fraction) → IsStraight c s rs → TruthAfter s rs c (after c s rs)
after_is Always s rs r = soon_all _ (λ x. refl)
after_is Never s rs r = soon_all _ (λ x. refl)
after_is (Both c d) s rs r = just_after_map _ _ (λ x e. ap₂ (◌&&◌) e.0 e.1) (just_after_both _ _ (after_is c s rs r.0) (after_is d s rs r.1))
after_is (Either c d) s rs r = just_after_map _ _ (λ x e. ap₂ (◌||◌) e.0 e.1) (just_after_both _ _ (after_is c s rs r.0) (after_is d s rs r.1))
after_is (Atom k positive) s rs r = soon_all _ (λ x. ap (signed positive) (atom_after s rs x k))
after_is (Compare t l e positive) s rs r = just_after_map _ _ (λ x. ap (signed positive))
    (soon_stand t (piece l s rs) (piece e s rs) (λ z. value l (moved s rs z)) (λ z. value e (moved s rs z)) (along l s rs) (along e s rs) r)

-- the two forms
pub to_just_after : (s : State) (rs : List Fraction) (c : Condition) → TruthAfter s rs c true → JustAfter s rs c
to_just_after s rs c h = record { until = h.until; above = h.above; inside = h.holds }

pub from_just_after : (s : State) (rs : List Fraction) (c : Condition) (t : Bool) → TruthAfter s rs c t → JustAfter s rs c → t ≡ true
from_just_after s rs c t h j =
    let b = between_both h.until j.until h.above j.above in
    sym (h.holds b.place b.above b.first) ∙ j.inside b.place b.above b.second

pub after_tells : AfterTells
after_tells c s rs w = (from_just_after s rs c (after c s rs) (after_is c s rs w), λ e. to_just_after s rs c (subst (TruthAfter s rs c) e (after_is c s rs w)))
