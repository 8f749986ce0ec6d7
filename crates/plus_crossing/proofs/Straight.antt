-- Where each test passes, the live comparisons have linear sides, so that the test of values and slopes on them tells what
-- holds just after.
use Rattle.std.proofs.Common.{◌≡◌, ℕ, suc, ◌+◌, true, false, Bool, List, refl, sym, ◌∙◌, if◌then◌else◌}
use Rattle.std.specs.Prelude.{Option, Some, None, ◌↔◌}
use Rattle.plus_fraction.specs.Fraction.{Fraction}
use Rattle.plus_model.specs.Terms.{Condition, Always, Never, Both, Either, Atom, Compare, State}
use Rattle.plus_model.specs.Value.{holds, signed, atom_of}
use Rattle.plus_model.specs.Running.{moved, JustAfter}
use Rattle.plus_model.specs.Piece.{Piece, Missing, Crooked, Straight, piece, after, StraightSides, IsStraight}
use Rattle.plus_model.specs.Live.{live, live_both, live_either}
use Rattle.plus_model.proofs.Alive.{live_holds}
use Rattle.plus_model.proofs.Truth.{after_tells}
use Rattle.plus_state.specs.Fits.{comparisons}
use Rattle.plus_state.specs.Tests.{verdict, decided}
use Rattle.plus_crossing.specs.Asked.{Ask, Passes, AllPass}
use Rattle.plus_crossing.specs.Pieces.{piece_asks}
use Rattle.plus_crossing.specs.Conds.{asks_open, asks_sides, live_asks}
use Rattle.plus_crossing.proofs.Joins.{numbered_back}
use Rattle.plus_state.proofs.Testing.{pass_left, pass_right}
use Rattle.plus_crossing.proofs.Steady.{IsLine, is_line}

straight_sides : (fits : Fraction → Type 0) (p q : Piece) (xs ys : List Ask) → (AllPass fits xs → IsLine p) → (AllPass fits ys → IsLine q) → AllPass fits (asks_sides p xs ys) → StraightSides p q
unfolding asks_sides
straight_sides fits Missing q xs ys f g h = tt
straight_sides fits Crooked q xs ys f g h = f (pass_left (Passes fits) xs _ h)
straight_sides fits (Straight v m) Missing xs ys f g h = tt
straight_sides fits (Straight v m) Crooked xs ys f g h = g (pass_right (Passes fits) xs _ h)
straight_sides fits (Straight v m) (Straight w n) xs ys f g h = tt

verdict_straight : (l : Condition) (s : State) (rs : List Fraction) (t : Bool) → verdict l ≡ Some t → IsStraight l s rs
verdict_straight Always s rs t e = tt
verdict_straight Never s rs t e = tt
verdict_straight (Both c d) s rs t e = cc
verdict_straight (Either c d) s rs t e = cc
verdict_straight (Atom k positive) s rs t e = tt
verdict_straight (Compare u l r positive) s rs t e = cc

straight_both : (c d : Condition) (s : State) (rs : List Fraction) → IsStraight c s rs → IsStraight d s rs → IsStraight (live_both c d) s rs
straight_both Never d s rs x y = tt
straight_both c Never s rs x y = tt
straight_both Always d s rs x y = y
straight_both c Always s rs x y = x
straight_both c d s rs x y = (x, y)

straight_either : (c d : Condition) (s : State) (rs : List Fraction) → IsStraight c s rs → IsStraight d s rs → IsStraight (live_either c d) s rs
straight_either Always d s rs x y = tt
straight_either c Always s rs x y = tt
straight_either Never d s rs x y = y
straight_either c Never s rs x y = x
straight_either c d s rs x y = (x, y)

straight_atom : (t : Bool) (s : State) (rs : List Fraction) → IsStraight (if t then Always else Never) s rs
straight_atom true s rs = tt
straight_atom false s rs = tt

-- open or decided
either_way : (fits : Fraction → Type 0) (o : Option Bool) (xs ys : List Ask) (A B G : Type 0) → ((t : Bool) → o ≡ Some t → G) → (A → B → G) → (AllPass fits xs → A) → (AllPass fits ys → B) → AllPass fits (asks_open o xs ys) → G
unfolding asks_open
either_way fits (Some t) xs ys A B G known join f g h = known t refl
either_way fits None xs ys A B G known join f g h = join (f (pass_left (Passes fits) xs ys h)) (g (pass_right (Passes fits) xs ys h))

pub straight_live : (fits : Fraction → Type 0) (k : ℕ) (c : Condition) (s : State) (rs : List Fraction) → AllPass fits (live_asks k c s rs) → IsStraight (live c s) s rs
unfolding decided
straight_live fits k Always s rs h = tt
straight_live fits k Never s rs h = tt
straight_live fits k (Both c d) s rs h =
    either_way fits (decided (Both c d) s) (live_asks k c s rs) (live_asks (k + comparisons c) d s rs) (IsStraight (live c s) s rs) (IsStraight (live d s) s rs) (IsStraight (live (Both c d) s) s rs)
    (verdict_straight (live_both (live c s) (live d s)) s rs) (straight_both (live c s) (live d s) s rs) (straight_live fits k c s rs) (straight_live fits (k + comparisons c) d s rs) h
straight_live fits k (Either c d) s rs h =
    either_way fits (decided (Either c d) s) (live_asks k c s rs) (live_asks (k + comparisons c) d s rs) (IsStraight (live c s) s rs) (IsStraight (live d s) s rs) (IsStraight (live (Either c d) s) s rs)
    (verdict_straight (live_either (live c s) (live d s)) s rs) (straight_either (live c s) (live d s) s rs) (straight_live fits k c s rs) (straight_live fits (k + comparisons c) d s rs) h
straight_live fits k (Atom i positive) s rs h = straight_atom (signed positive (atom_of s i)) s rs
straight_live fits k (Compare t l r positive) s rs h =
    straight_sides fits (piece l s rs) (piece r s rs) (piece_asks l s rs) (piece_asks r s rs) (is_line fits l s rs) (is_line fits r s rs) (numbered_back fits (suc k) _ h)

same_along : (c : Condition) (s : State) (rs : List Fraction) (x : Fraction) → holds (live c s) (moved s rs x) ≡ holds c (moved s rs x)
unfolding moved
same_along c s rs x = live_holds c s (moved s rs x) refl

pub soon_tells : (fits : Fraction → Type 0) (k : ℕ) (c : Condition) (s : State) (rs : List Fraction) → AllPass fits (live_asks k c s rs) → JustAfter s rs c ↔ (after (live c s) s rs ≡ true)
soon_tells fits k c s rs h =
    let t = after_tells (live c s) s rs (straight_live fits k c s rs h) in (
      λ j. t.0 (record { until = j.until; above = j.above; inside = λ x p q. same_along c s rs x ∙ j.inside x p q }),
      λ e. let j = t.1 e in record { until = j.until; above = j.above; inside = λ x p q. sym (same_along c s rs x) ∙ j.inside x p q },
    )
