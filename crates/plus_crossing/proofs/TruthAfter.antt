-- Truth just after, by cases; what a comparison and a condition ask.
use Rattle.std.proofs.Common.{◌≡◌, true, false, Bool, List, ◌&&◌, ◌||◌, refl, ap, ap₂, sym, subst, ◌∙◌, pos}
use Rattle.std.specs.Prelude.{Some, ◌↔◌}
use Rattle.plus_fraction.specs.Fraction.{Fraction, whole, compared}
use Rattle.plus_fraction.proofs.JustAfter.{one_above}
use Rattle.plus_fraction.proofs.FractionOrder.{<ℚ_trans}
use Rattle.plus_model.specs.Terms.{Test, Expression, Condition, Both, Either, Compare, State}
use Rattle.plus_model.specs.Value.{passes, signed}
use Rattle.plus_model.specs.Running.{moved, JustAfter}
use Rattle.plus_model.specs.Piece.{Piece, Missing, Straight, piece, then_slopes, after_sides, after, StraightSides}
use Rattle.plus_model.proofs.Motion.{between_both}
use Rattle.plus_model.proofs.Truth.{TruthAfter as Soon, after_is}
use Rattle.plus_crossing.specs.Asked.{Ask, Passes, AllPass, FirstFailing}
use Rattle.plus_crossing.specs.Pieces.{if_straight}
use Rattle.plus_state.specs.Tests.{decided, pair, unit, join}
use Rattle.plus_crossing.specs.Conds.{asks_sides, TruthAfter}
use Rattle.plus_crossing.proofs.Deciding.{decided_along}
use Rattle.plus_state.proofs.Testing.{pass_none, pass_append, fail_left, fail_right}

-- ---- a comparison
soon : (s : State) (rs : List Fraction) (c : Condition) (b z : Bool) → z ≡ b → Soon s rs c b → TruthAfter s rs c z
soon s rs c b z e h = record { until = h.until; above = h.above; inside = λ x p q. h.holds x p q ∙ sym e }

truth_by : (s : State) (rs : List Fraction) (t : Test) (l r : Expression) (positive z : Bool) (p q : Piece) → p ≡ piece l s rs → q ≡ piece r s rs → StraightSides p q → z ≡ signed positive (after_sides t p q) → TruthAfter s rs (Compare t l r positive) z
truth_by s rs t l r positive z p q e f h d =
    soon s rs (Compare t l r positive) (after (Compare t l r positive) s rs) z
    (d ∙ ap (signed positive) (ap₂ (after_sides t) e f))
    (after_is (Compare t l r positive) s rs (subst (λ p. StraightSides p (piece r s rs)) e (subst (λ q. StraightSides p q) f h)))

pub truth_left_missing : (s : State) (rs : List Fraction) (t : Test) (l r : Expression) (positive z : Bool) → Missing ≡ piece l s rs → z ≡ signed positive false → TruthAfter s rs (Compare t l r positive) z
truth_left_missing s rs t l r positive z e d = truth_by s rs t l r positive z Missing (piece r s rs) e refl tt d

pub truth_right_missing : (s : State) (rs : List Fraction) (t : Test) (l r : Expression) (positive z : Bool) (v m : Fraction) → Straight v m ≡ piece l s rs → Missing ≡ piece r s rs → z ≡ signed positive false → TruthAfter s rs (Compare t l r positive) z
truth_right_missing s rs t l r positive z v m e f d = truth_by s rs t l r positive z (Straight v m) Missing e f tt d

pub truth_lines : (s : State) (rs : List Fraction) (t : Test) (l r : Expression) (positive z : Bool) (v m w n : Fraction) → Straight v m ≡ piece l s rs → Straight w n ≡ piece r s rs → z ≡ signed positive (passes t (then_slopes (compared v w) (compared m n))) → TruthAfter s rs (Compare t l r positive) z
truth_lines s rs t l r positive z v m w n e f d = truth_by s rs t l r positive z (Straight v m) (Straight w n) e f tt d

pub sides_fail : (fits : Fraction → Type 0) (p : Piece) (xs ys : List Ask) (t : Ask) → FirstFailing fits xs t → FirstFailing fits (asks_sides p xs ys) t
unfolding asks_sides
sides_fail fits p xs ys t h = fail_left (Passes fits) xs _ t h

pub sides_missing : (fits : Fraction → Type 0) (p : Piece) (xs ys : List Ask) → AllPass fits xs → Missing ≡ p → AllPass fits (asks_sides p xs ys)
unfolding asks_sides
sides_missing fits p xs ys h e = pass_append (Passes fits) xs _ h (subst (λ p. AllPass fits (if_straight p ys)) e (pass_none (Passes fits)))

pub sides_right_fail : (fits : Fraction → Type 0) (p : Piece) (xs ys : List Ask) (v m : Fraction) (t : Ask) → AllPass fits xs → Straight v m ≡ p → FirstFailing fits ys t → FirstFailing fits (asks_sides p xs ys) t
unfolding asks_sides
sides_right_fail fits p xs ys v m t h e k = fail_right (Passes fits) xs _ t h (subst (λ p. FirstFailing fits (if_straight p ys) t) e k)

pub sides_pass : (fits : Fraction → Type 0) (p : Piece) (xs ys : List Ask) (v m : Fraction) → AllPass fits xs → Straight v m ≡ p → AllPass fits ys → AllPass fits (asks_sides p xs ys)
unfolding asks_sides
sides_pass fits p xs ys v m h e k = pass_append (Passes fits) xs _ h (subst (λ p. AllPass fits (if_straight p ys)) e k)

pub ruleset compares = (truth_left_missing, truth_right_missing, truth_lines, sides_fail, sides_missing, sides_right_fail, sides_pass)

-- ---- a condition
atoms_stay : (s : State) (rs : List Fraction) (x : Fraction) → s.atoms ≡ (moved s rs x).atoms
unfolding moved
atoms_stay s rs x = refl

pub truth_decided : (c : Condition) (s : State) (rs : List Fraction) (b : Bool) → Some b ≡ decided c s → TruthAfter s rs c b
truth_decided c s rs b e = record {
  until = whole (pos 1);
  above = one_above;
  inside = λ x p q. sym (decided_along c b s (moved s rs x) (atoms_stay s rs x) e);
}

truth_both : (c d : Condition) (s : State) (rs : List Fraction) (x y z : Bool) → TruthAfter s rs c x → TruthAfter s rs d y → z ≡ (x && y) → TruthAfter s rs (Both c d) z
truth_both c d s rs x y z h k e = let u = between_both h.until k.until h.above k.above in
    record { until = u.place; above = u.above; inside = λ t p q. ap₂ (◌&&◌) (h.inside t p (<ℚ_trans _ _ _ q u.first)) (k.inside t p (<ℚ_trans _ _ _ q u.second)) ∙ sym e }

truth_either : (c d : Condition) (s : State) (rs : List Fraction) (x y z : Bool) → TruthAfter s rs c x → TruthAfter s rs d y → z ≡ (x || y) → TruthAfter s rs (Either c d) z
truth_either c d s rs x y z h k e = let u = between_both h.until k.until h.above k.above in
    record { until = u.place; above = u.above; inside = λ t p q. ap₂ (◌||◌) (h.inside t p (<ℚ_trans _ _ _ q u.first)) (k.inside t p (<ℚ_trans _ _ _ q u.second)) ∙ sym e }

-- a pair of members
pub truth_pair : (all : Bool) (c d : Condition) (s : State) (rs : List Fraction) (x y : Bool) → TruthAfter s rs c x → TruthAfter s rs d y → TruthAfter s rs (pair all c d) (join all x y)
truth_pair true c d s rs x y h k = truth_both c d s rs x y (x && y) h k refl
truth_pair false c d s rs x y h k = truth_either c d s rs x y (x || y) h k refl

pub truth_unit : (all : Bool) (s : State) (rs : List Fraction) → TruthAfter s rs (unit all) all
truth_unit true s rs = record { until = whole (pos 1); above = one_above; inside = λ x p q. refl }
truth_unit false s rs = record { until = whole (pos 1); above = one_above; inside = λ x p q. refl }

-- the truth just after tells what holds just after
pub tells : (s : State) (rs : List Fraction) (c : Condition) (b : Bool) → TruthAfter s rs c b → (b ≡ true) ↔ JustAfter s rs c
tells s rs c b h = (
  λ e. record { until = h.until; above = h.above; inside = λ x p q. h.inside x p q ∙ e },
  λ j. let u = between_both h.until j.until h.above j.above in sym (h.inside u.place u.above u.first) ∙ j.inside u.place u.above u.second,
)
