-- An expression moves along its piece.
use Rattle.std.proofs.Common.{◌≡◌, ℕ, zero, suc, true, false, Bool, List, [], ◌∷◌, refl, ap, ap₂, sym, subst, ◌∙◌, pos, if◌then◌else◌}
use Rattle.std.specs.Prelude.{Option, Some, None, option_map, slice_get, unwrap_or}
use Rattle.std.specs.declared.cmp.Ordering.{Ordering}
use Rattle.std.specs.declared.cmp.Ordering.TheVariants.{Less, Equal, Greater}
use Rattle.plus_fraction.specs.Fraction.{Fraction, whole, ◌+ℚ◌, ◌*ℚ◌, ◌/ℚ◌, compared}
use Rattle.plus_fraction.proofs.Ring.{var, num, ◌⊕◌, ◌⊖◌, ◌⊗◌}
use Rattle.plus_fraction.proofs.FractionRing.{ringℚ}
use Rattle.plus_fraction.proofs.FractionSigns.{/ℚ-mul}
use Rattle.plus_fraction.proofs.Compared.{compared-equal, compared_refl}
use Rattle.plus_fraction.specs.Lines.{line}
use Rattle.plus_model.specs.Terms.{Expression, Number, Fluent, Sum, Difference, Product, Quotient, Same, State}
use Rattle.plus_model.specs.Value.{passes, is_zero, on_both, quotient, fluent_of, value}
use Rattle.plus_model.specs.Running.{moved_values, moved}
use Rattle.plus_model.specs.Piece.{Piece, Missing, Crooked, Straight, on_pieces, rate_of, straight_fluent, product_piece, quotient_piece, piece}

-- a value that changes with time follows the piece
abbrev pub FollowsPiece : Piece → (Fraction → Option Fraction) → Type 0
FollowsPiece Missing f = (x : Fraction) → f x ≡ None
FollowsPiece Crooked f = Unit {0}
FollowsPiece (Straight v m) f = (x : Fraction) → f x ≡ Some (line v m x)

-- ---- the test for zero
pub from_zero : (x : Fraction) → is_zero x ≡ true → x ≡ whole (pos 0)
from_zero x e = go (compared x (whole (pos 0))) refl e
  where
    go : (o : Ordering) → compared x (whole (pos 0)) ≡ o → passes Same o ≡ true → x ≡ whole (pos 0)
    go Less c e = cc
    go Equal c e = compared-equal _ _ c
    go Greater c e = cc

pub not_zero : (x : Fraction) → is_zero x ≡ false → x ≡ whole (pos 0) → ⊥
not_zero x e z = let k : is_zero x ≡ true = subst (λ (y : Fraction). is_zero y ≡ true) (sym z) (ap (passes Same) (compared_refl (whole (pos 0)))) in cc (k, e)

-- ---- combining two
follow_both : (op : Fraction → Fraction → Option Fraction) (pop : Fraction → Fraction → Fraction → Fraction → Piece) (p q : Piece) (f g : Fraction → Option Fraction) → ((v m w n : Fraction) → FollowsPiece (pop v m w n) (λ x. op (line v m x) (line w n x))) → FollowsPiece p f → FollowsPiece q g → FollowsPiece (on_pieces pop p q) (λ x. on_both op (f x) (g x))
follow_both op pop Missing q f g h a b = λ x. ap (λ z. on_both op z (g x)) (a x)
follow_both op pop Crooked q f g h a b = tt
follow_both op pop (Straight v m) Missing f g h a b = λ x. ap₂ (on_both op) (a x) (b x)
follow_both op pop (Straight v m) Crooked f g h a b = tt
follow_both op pop (Straight v m) (Straight w n) f g h a b = follow_same (pop v m w n) _ _ (λ x. ap₂ (on_both op) (a x) (b x)) (h v m w n)
  where
    follow_same : (p : Piece) (f g : Fraction → Option Fraction) → ((x : Fraction) → f x ≡ g x) → FollowsPiece p g → FollowsPiece p f
    follow_same Missing f g e h = λ x. e x ∙ h x
    follow_same Crooked f g e h = tt
    follow_same (Straight v m) f g e h = λ x. e x ∙ h x

still : (w n x : Fraction) → n ≡ whole (pos 0) → line w n x ≡ w
still w n x e = ap (λ (z : Fraction). line w z x) e ∙ ringℚ (w ∷ x ∷ []) (var 0 ⊕ num (pos 0) ⊗ var 1) (var 0) refl

follow_product : (v m w n : Fraction) → FollowsPiece (product_piece v m w n) (λ x. Some (line v m x *ℚ line w n x))
follow_product v m w n = go (is_zero m) refl (is_zero n) refl
  where
    go : (b : Bool) → is_zero m ≡ b → (c : Bool) → is_zero n ≡ c → FollowsPiece (if b then Straight (v *ℚ w) (v *ℚ n) else if c then Straight (v *ℚ w) (m *ℚ w) else Crooked) (λ x. Some (line v m x *ℚ line w n x))
    go true e c d = λ x. ap Some (ap (λ z. z *ℚ line w n x) (still v m x (from_zero m e)) ∙ ringℚ (v ∷ w ∷ n ∷ x ∷ []) (var 0 ⊗ (var 1 ⊕ var 2 ⊗ var 3)) (var 0 ⊗ var 1 ⊕ (var 0 ⊗ var 2) ⊗ var 3) refl)
    go false e true d = λ x. ap Some (ap (λ z. line v m x *ℚ z) (still w n x (from_zero n d)) ∙ ringℚ (v ∷ m ∷ w ∷ x ∷ []) ((var 0 ⊕ var 1 ⊗ var 3) ⊗ var 2) (var 0 ⊗ var 2 ⊕ (var 1 ⊗ var 2) ⊗ var 3) refl)
    go false e false d = tt

-- ---- division
pub mul_cancel : (a b w : Fraction) → (w ≡ whole (pos 0) → ⊥) → a *ℚ w ≡ b *ℚ w → a ≡ b
mul_cancel a b w n e = sym (back a) ∙ ap (λ z. z *ℚ (whole (pos 1) /ℚ w)) e ∙ back b
  where
    back : (a : Fraction) → (a *ℚ w) *ℚ (whole (pos 1) /ℚ w) ≡ a
    back a = ringℚ (a ∷ w ∷ (whole (pos 1) /ℚ w) ∷ []) ((var 0 ⊗ var 1) ⊗ var 2) (var 0 ⊗ (var 2 ⊗ var 1)) refl
        ∙ ap (λ z. a *ℚ z) (/ℚ-mul (whole (pos 1)) w n) ∙ ringℚ (a ∷ []) (var 0 ⊗ num (pos 1)) (var 0) refl

line_over : (v m w x : Fraction) → (w ≡ whole (pos 0) → ⊥) → line v m x /ℚ w ≡ line (v /ℚ w) (m /ℚ w) x
line_over v m w x n = mul_cancel _ _ w n
    (/ℚ-mul (line v m x) w n ∙ sym (
    ringℚ ((v /ℚ w) ∷ (m /ℚ w) ∷ x ∷ w ∷ []) ((var 0 ⊕ var 1 ⊗ var 2) ⊗ var 3) (var 0 ⊗ var 3 ⊕ (var 1 ⊗ var 3) ⊗ var 2) refl
    ∙ ap₂ (λ y z. y +ℚ z *ℚ x) (/ℚ-mul v w n) (/ℚ-mul m w n)))

quotient_by : (y w : Fraction) (b : Bool) → is_zero w ≡ b → quotient y w ≡ (if b then None else Some (y /ℚ w))
quotient_by y w b e = ap (λ b. if b then None else Some (y /ℚ w)) e

follow_quotient : (v m w n : Fraction) → FollowsPiece (quotient_piece v m w n) (λ x. quotient (line v m x) (line w n x))
follow_quotient v m w n = go (is_zero n) refl (is_zero w) refl
  where
    go : (b : Bool) → is_zero n ≡ b → (c : Bool) → is_zero w ≡ c → FollowsPiece (if b then if c then Missing else Straight (v /ℚ w) (m /ℚ w) else Crooked) (λ x. quotient (line v m x) (line w n x))
    go true e true d = λ x. ap (quotient (line v m x)) (still w n x (from_zero n e)) ∙ quotient_by _ w true d
    go true e false d = λ x. ap (quotient (line v m x)) (still w n x (from_zero n e)) ∙ quotient_by _ w false d ∙ ap Some (line_over v m w x (not_zero w d))
    go false e c d = tt

-- ---- a fluent
fluent_moved : (vs : List (Option Fraction)) (rs : List Fraction) (x : Fraction) (f : ℕ) → unwrap_or (slice_get (moved_values vs rs x) f) None ≡ option_map (λ w. w +ℚ rate_of rs f *ℚ x) (unwrap_or (slice_get vs f) None)
fluent_moved [] rs x f = refl
fluent_moved (v ∷ vs) [] x f = unmoved (unwrap_or (slice_get (v ∷ vs) f) None)
  where
    unmoved : (o : Option Fraction) → o ≡ option_map (λ w. w +ℚ whole (pos 0) *ℚ x) o
    unmoved None = refl
    unmoved (Some w) = ap Some (ringℚ (w ∷ x ∷ []) (var 0) (var 0 ⊕ num (pos 0) ⊗ var 1) refl)
fluent_moved (v ∷ vs) (r ∷ rs) x zero = refl
fluent_moved (v ∷ vs) (r ∷ rs) x (suc f) = fluent_moved vs rs x f

fluent_along : (o : Option Fraction) (m : Fraction) → FollowsPiece (straight_fluent o m) (λ x. option_map (λ w. w +ℚ m *ℚ x) o)
fluent_along None m = λ x. refl
fluent_along (Some v) m = λ x. refl

pub along : (e : Expression) (s : State) (rs : List Fraction) → FollowsPiece (piece e s rs) (λ x. value e (moved s rs x))
unfolding moved
along (Number v) s rs = λ x. ap Some (ringℚ (v ∷ x ∷ []) (var 0) (var 0 ⊕ num (pos 0) ⊗ var 1) refl)
along (Fluent f) s rs = same_along (straight_fluent (fluent_of s f) (rate_of rs f)) _ _ (λ x. fluent_moved s.fluents rs x f) (fluent_along (fluent_of s f) (rate_of rs f))
  where
    same_along : (p : Piece) (f g : Fraction → Option Fraction) → ((x : Fraction) → f x ≡ g x) → FollowsPiece p g → FollowsPiece p f
    same_along Missing f g e h = λ x. e x ∙ h x
    same_along Crooked f g e h = tt
    same_along (Straight v m) f g e h = λ x. e x ∙ h x
along (Sum a b) s rs = follow_both _ _ (piece a s rs) (piece b s rs) _ _
    (λ v m w n x. ap Some (ringℚ (v ∷ m ∷ w ∷ n ∷ x ∷ []) ((var 0 ⊕ var 1 ⊗ var 4) ⊕ (var 2 ⊕ var 3 ⊗ var 4)) ((var 0 ⊕ var 2) ⊕ (var 1 ⊕ var 3) ⊗ var 4) refl))
    (along a s rs) (along b s rs)
along (Difference a b) s rs = follow_both _ _ (piece a s rs) (piece b s rs) _ _
    (λ v m w n x. ap Some (ringℚ (v ∷ m ∷ w ∷ n ∷ x ∷ []) ((var 0 ⊕ var 1 ⊗ var 4) ⊖ (var 2 ⊕ var 3 ⊗ var 4)) ((var 0 ⊖ var 2) ⊕ (var 1 ⊖ var 3) ⊗ var 4) refl))
    (along a s rs) (along b s rs)
along (Product a b) s rs = follow_both _ _ (piece a s rs) (piece b s rs) _ _ follow_product (along a s rs) (along b s rs)
along (Quotient a b) s rs = follow_both _ _ (piece a s rs) (piece b s rs) _ _ follow_quotient (along a s rs) (along b s rs)
