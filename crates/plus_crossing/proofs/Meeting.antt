-- Two lines whose values and slopes stand in opposite orders meet once, above 0, and other lines of different slopes do not.
use Rattle.std.proofs.Common.{◌≡◌, ◌∙◌, sym, ap, subst, true, false, pos, [], ◌∷◌, refl, inl, inr}
use Rattle.std.specs.declared.cmp.Ordering.{Ordering}
use Rattle.std.specs.declared.cmp.Ordering.TheVariants.{Less, Equal, Greater}
use Rattle.plus_fraction.specs.Fraction.{Fraction, whole, ◌+ℚ◌, ◌-ℚ◌, ◌*ℚ◌, ◌/ℚ◌, ◌<ℚ◌, neg_ℚ, compared}
use Rattle.plus_fraction.proofs.Ring.{var, num, ◌⊕◌, ◌⊖◌, ◌⊗◌, minus}
use Rattle.plus_fraction.proofs.FractionRing.{ringℚ}
use Rattle.plus_fraction.proofs.FractionSigns.{/ℚ-mul, lt_sub, lt_of_sub, below_cancel}
use Rattle.plus_fraction.proofs.FractionOrder.{<ℚ_irrefl, <ℚ_or, *ℚ-lt}
use Rattle.plus_fraction.proofs.Compared.{compared-less, compared-greater}
use Rattle.plus_fraction.proofs.Compared.{less-compared, greater-compared}
use Rattle.plus_model.proofs.Along.{mul_cancel}
use Rattle.plus_crossing.specs.Roots.{IsRoot, opposite, meets_later, meeting_asks, root_asks}
use Rattle.plus_crossing.specs.Asked.{Ask, Passes, AllPass, FirstFailing}
use Rattle.plus_state.specs.Tested as tested
use Rattle.plus_state.specs.Asked.{NodeFits}
use Rattle.plus_state.proofs.Testing.{pass_none}
use Rattle.std.specs.Prelude.{if◌then◌else◌}

abbrev ratio : Fraction → Fraction → Fraction → Fraction → Fraction
ratio v m w n = (w -ℚ v) /ℚ (m -ℚ n)

-- r (m - n) = w - v is another form of v + m r = w + n r
meets : (v m w n r : Fraction) → r *ℚ (m -ℚ n) ≡ w -ℚ v → v +ℚ m *ℚ r ≡ w +ℚ n *ℚ r
meets v m w n r e =
    ringℚ (v ∷ m ∷ n ∷ r ∷ []) (var 0 ⊕ var 1 ⊗ var 3) ((var 0 ⊕ var 3 ⊗ (var 1 ⊖ var 2)) ⊕ var 2 ⊗ var 3) refl
    ∙ ap (λ z. (v +ℚ z) +ℚ n *ℚ r) e
    ∙ ringℚ (v ∷ w ∷ n ∷ r ∷ []) ((var 0 ⊕ (var 1 ⊖ var 0)) ⊕ var 2 ⊗ var 3) (var 1 ⊕ var 2 ⊗ var 3) refl

met : (v m w n r : Fraction) → v +ℚ m *ℚ r ≡ w +ℚ n *ℚ r → r *ℚ (m -ℚ n) ≡ w -ℚ v
met v m w n r e =
    ringℚ (v ∷ m ∷ n ∷ r ∷ []) (var 3 ⊗ (var 1 ⊖ var 2)) (((var 0 ⊕ var 1 ⊗ var 3) ⊖ var 2 ⊗ var 3) ⊖ var 0) refl
    ∙ ap (λ z. (z -ℚ n *ℚ r) -ℚ v) e
    ∙ ringℚ (v ∷ w ∷ n ∷ r ∷ []) (((var 1 ⊕ var 2 ⊗ var 3) ⊖ var 2 ⊗ var 3) ⊖ var 0) (var 1 ⊖ var 0) refl

-- the same with both differences turned
turned : (v m w n r : Fraction) → r *ℚ (m -ℚ n) ≡ w -ℚ v → r *ℚ (n -ℚ m) ≡ v -ℚ w
turned v m w n r e =
    ringℚ (m ∷ n ∷ r ∷ []) (var 2 ⊗ (var 1 ⊖ var 0)) (minus (var 2 ⊗ (var 0 ⊖ var 1))) refl
    ∙ ap neg_ℚ e ∙ ringℚ (v ∷ w ∷ []) (minus (var 1 ⊖ var 0)) (var 0 ⊖ var 1) refl

-- a quotient of two fractions above 0
above_by : (d e r : Fraction) → whole (pos 0) <ℚ d → whole (pos 0) <ℚ e → r *ℚ d ≡ e → whole (pos 0) <ℚ r
above_by d e r dp ep q = below_cancel d (whole (pos 0)) r dp
    (subst (λ z. z <ℚ d *ℚ r) (sym (ringℚ (d ∷ []) (var 0 ⊗ num (pos 0)) (num (pos 0)) refl))
    (subst (λ z. whole (pos 0) <ℚ z) (sym q ∙ ringℚ (r ∷ d ∷ []) (var 0 ⊗ var 1) (var 1 ⊗ var 0) refl) ep))

meet : (m n : Fraction) → m -ℚ n ≡ whole (pos 0) → m ≡ n
meet m n e =
    ringℚ (m ∷ n ∷ []) (var 0) ((var 0 ⊖ var 1) ⊕ var 1) refl ∙ ap (λ z. z +ℚ n) e ∙ ringℚ (n ∷ []) (num (pos 0) ⊕ var 0) (var 0) refl

slope_apart : (m n : Fraction) → (m ≡ n → ⊥) → m -ℚ n ≡ whole (pos 0) → ⊥
slope_apart m n d e = d (meet m n e)

unlike : (m n : Fraction) → m <ℚ n → m ≡ n → ⊥
unlike m n h e = <ℚ_irrefl n (subst (λ z. z <ℚ n) e h)

root_up : (v m w n : Fraction) → v <ℚ w → n <ℚ m → IsRoot v m w n (ratio v m w n)
root_up v m w n h k =
    let d : (m ≡ n → ⊥) = (λ e. unlike n m k (sym e)) in
    let q = /ℚ-mul (w -ℚ v) (m -ℚ n) (slope_apart m n d) in
    record { apart = d; above = above_by (m -ℚ n) (w -ℚ v) (ratio v m w n) (lt_sub n m k) (lt_sub v w h) q; meet = meets v m w n (ratio v m w n) q }

root_down : (v m w n : Fraction) → w <ℚ v → m <ℚ n → IsRoot v m w n (ratio v m w n)
root_down v m w n h k =
    let d = unlike m n k in
    let q = /ℚ-mul (w -ℚ v) (m -ℚ n) (slope_apart m n d) in
    record { apart = d; above = above_by (n -ℚ m) (v -ℚ w) (ratio v m w n) (lt_sub m n k) (lt_sub w v h) (turned v m w n (ratio v m w n) q); meet = meets v m w n (ratio v m w n) q }

root_by : (v m w n : Fraction) (o p : Ordering) → compared v w ≡ o → compared m n ≡ p → opposite o p ≡ true → IsRoot v m w n (ratio v m w n)
root_by v m w n Less Less e f b = cc
root_by v m w n Less Equal e f b = cc
root_by v m w n Less Greater e f b = root_up v m w n (compared-less v w e) (compared-greater m n f)
root_by v m w n Equal p e f b = cc
root_by v m w n Greater Less e f b = root_down v m w n (compared-greater v w e) (compared-less m n f)
root_by v m w n Greater Equal e f b = cc
root_by v m w n Greater Greater e f b = cc

pub root_is : (v m w n : Fraction) → meets_later v m w n ≡ true → IsRoot v m w n (ratio v m w n)
unfolding meets_later
root_is v m w n b = root_by v m w n _ _ refl refl b

-- the same for the value of a code's number
pub root_is_by : (v m w n r a b : Fraction) → r ≡ a /ℚ b → a ≡ w -ℚ v → b ≡ m -ℚ n → meets_later v m w n ≡ true → IsRoot v m w n r
root_is_by v m w n r a b e f g h = subst (IsRoot v m w n) (sym (e ∙ ap (λ z. z /ℚ b) f ∙ ap (λ z. (w -ℚ v) /ℚ z) g)) (root_is v m w n h)

rising : (v m w n r : Fraction) → whole (pos 0) <ℚ r → r *ℚ (m -ℚ n) ≡ w -ℚ v → n <ℚ m → v <ℚ w
rising v m w n r p e k = lt_of_sub v w (subst (λ z. whole (pos 0) <ℚ z) (ringℚ (m ∷ n ∷ r ∷ []) ((var 0 ⊖ var 1) ⊗ var 2) (var 2 ⊗ (var 0 ⊖ var 1)) refl ∙ e)
    (subst (λ z. z <ℚ (m -ℚ n) *ℚ r) (ringℚ (r ∷ []) (num (pos 0) ⊗ var 0) (num (pos 0)) refl) (*ℚ-lt (whole (pos 0)) (m -ℚ n) r (lt_sub n m k) p)))

pub later_is : (v m w n r : Fraction) → IsRoot v m w n r → meets_later v m w n ≡ true
unfolding meets_later
later_is v m w n r h = elim (<ℚ_or m n) [
  | inl k ↦ both Greater Less (greater-compared v w (rising w n v m r h.above (turned v m w n r (met v m w n r h.meet)) k)) (less-compared m n k) refl
  | inr o ↦ elim o [
    | inl e ↦ absurd (h.apart e)
    | inr k ↦ both Less Greater (less-compared v w (rising v m w n r h.above (met v m w n r h.meet) k)) (greater-compared m n k) refl
  ]
]
  where
    both : (o p : Ordering) → compared v w ≡ o → compared m n ≡ p → opposite o p ≡ true → opposite (compared v w) (compared m n) ≡ true
    both o p e f g = cc

pub no_root : (v m w n r : Fraction) → meets_later v m w n ≡ false → IsRoot v m w n r → ⊥
no_root v m w n r e h = let k = later_is v m w n r h in cc

pub one_root : (v m w n r x : Fraction) → IsRoot v m w n r → IsRoot v m w n x → r ≡ x
one_root v m w n r x h k = mul_cancel r x (m -ℚ n) (slope_apart m n h.apart) (met v m w n r h.meet ∙ sym (met v m w n x k.meet))

-- slopes that stand in opposite order to the values differ
differ : (v w m n : Fraction) (o p : Ordering) → compared v w ≡ o → compared m n ≡ p → opposite o p ≡ true → m -ℚ n ≡ whole (pos 0) → ⊥
differ v w m n o p e f b z = slope_apart m n (root_by v m w n o p e f b).apart z

pub fall_differs : (v m w n x : Fraction) → x ≡ m -ℚ n → meets_later v m w n ≡ true → x ≡ whole (pos 0) → ⊥
unfolding meets_later
fall_differs v m w n x e b z = differ v w m n _ _ refl refl b (sym e ∙ z)

pub ruleset meeting = (root_is_by, no_root, fall_differs)

pub later_pass : (fits : Fraction → Type 0) (v m w n : Fraction) → true ≡ meets_later v m w n → AllPass fits (meeting_asks v m w n) → AllPass fits (root_asks v m w n)
unfolding root_asks
later_pass fits v m w n e h = subst (λ b. AllPass fits (if b then meeting_asks v m w n else [])) e h

pub later_fail : (fits : Fraction → Type 0) (v m w n : Fraction) (t : Ask) → true ≡ meets_later v m w n → FirstFailing fits (meeting_asks v m w n) t → FirstFailing fits (root_asks v m w n) t
unfolding root_asks
later_fail fits v m w n t e h = subst (λ b. FirstFailing fits (if b then meeting_asks v m w n else []) t) e h

pub never_asks : (fits : Fraction → Type 0) (v m w n : Fraction) → false ≡ meets_later v m w n → AllPass fits (root_asks v m w n)
unfolding root_asks
never_asks fits v m w n e = subst (λ b. AllPass fits (if b then meeting_asks v m w n else [])) e (pass_none (Passes fits))

pub ruleset answers = (later_pass, later_fail, never_asks, no_root)

pub meeting_pass : (fits : Fraction → Type 0) (v m w n a b r : Fraction) → a ≡ w -ℚ v → fits a → b ≡ m -ℚ n → fits b → r ≡ a /ℚ b → fits r → meets_later v m w n ≡ true → AllPass fits (meeting_asks v m w n) × IsRoot v m w n r
unfolding tested.AllPass Passes NodeFits
meeting_pass fits v m w n a b r e x f y g z h =
    ((subst fits e x, (subst fits f y, (subst fits (g ∙ ap (λ k. k /ℚ b) e ∙ ap (λ k. (w -ℚ v) /ℚ k) f) z, tt))), root_is_by v m w n r a b g e f h)
