-- The roots that are left of a search.
use Rattle.std.proofs.Common.{List, [], ◌∷◌, refl, sym, subst, inl, inr, pos}
use Rattle.plus_fraction.specs.Fraction.{Fraction, whole, ◌<ℚ◌}
use Rattle.plus_fraction.proofs.FractionOrder.{<ℚ_irrefl, <ℚ_trans}
use Rattle.plus_model.specs.Terms.{State, Problem}
use Rattle.plus_stretch.specs.Crossings.{all_roots, rising_below, Among, RisesAbove}
use Rattle.plus_stretch.specs.Laws.{AreLeft, SearchSteps}
use Rattle.plus_stretch.proofs.Roots.{roots_are}
use Rattle.plus_stretch.proofs.Rising.{rising_are}

-- what rises from above b on is above b
pub above_all : (b x : Fraction) (left : List Fraction) → RisesAbove b left → Among x left → b <ℚ x
above_all b x [] r i = elim i [ ]
above_all b x (y ∷ left) r i = elim i [
  | inl e ↦ subst (λ (z : Fraction). b <ℚ z) (sym e) r.0
  | inr j ↦ <ℚ_trans b y x r.0 (above_all y x left r.1 j)
]

begin : (P : Problem) (s : State) (rs : List Fraction) (len : Fraction) → AreLeft P s rs (whole (pos 0)) len (rising_below len (all_roots P s rs))
begin P s rs len = record {
  rise = rising_are.rise (whole (pos 0)) len (all_roots P s rs) (roots_are.above P s rs);
  inside = λ x i. rising_are.below len x (all_roots P s rs) i;
  all = λ x i h l. rising_are.all len x (all_roots P s rs) i l;
}

next : (P : Problem) (s : State) (rs : List Fraction) (a b len : Fraction) (left : List Fraction) → AreLeft P s rs a len (b ∷ left) → AreLeft P s rs b len left
next P s rs a b len left h = record {
  rise = h.rise.1;
  inside = λ x i. h.inside x (inr i);
  all = λ x i k l. elim (h.all x i (<ℚ_trans a b x h.rise.0 k) l) [
    | inl e ↦ absurd (<ℚ_irrefl b (subst (λ (z : Fraction). b <ℚ z) e k))
    | inr j ↦ j
  ];
}

none_before : (P : Problem) (s : State) (rs : List Fraction) (a b len : Fraction) (left : List Fraction) → AreLeft P s rs a len (b ∷ left) → (x : Fraction) → a <ℚ x → x <ℚ b → Among x (all_roots P s rs) → ⊥
none_before P s rs a b len left h x k l i = elim (h.all x i k (<ℚ_trans x b len l (h.inside b (inl refl)))) [
  | inl e ↦ <ℚ_irrefl b (subst (λ (z : Fraction). z <ℚ b) e l)
  | inr j ↦ <ℚ_irrefl b (<ℚ_trans b x b (above_all b x left h.rise.1 j) l)
]

pub search_steps : SearchSteps
search_steps = record {
  begin = begin;
  next = next;
  none_before = none_before;
  none_left = λ P s rs a len h x k l i. h.all x i k l;
}
