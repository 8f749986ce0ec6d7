-- Where all tests of the roots along a running set pass, each root is a value of the type of numbers.
use Rattle.std.proofs.Common.{ℕ, suc, ◌+◌, Bool, true, false, List, [], ◌∷◌, sym, subst, inl, inr, if◌then◌else◌}
use Rattle.std.specs.Prelude.{Option, Some, None}
use Rattle.plus_fraction.specs.Fraction.{Fraction, ◌-ℚ◌, ◌/ℚ◌}
use Rattle.plus_model.specs.Terms.{Condition, Always, Never, Both, Either, Atom, Compare, Event, Process, State, Problem}
use Rattle.plus_model.specs.Piece.{Piece, Missing, Crooked, Straight, piece}
use Rattle.plus_state.specs.Fits.{comparisons}
use Rattle.plus_state.specs.Tested as tested
use Rattle.plus_state.specs.Tests.{decided}
use Rattle.plus_state.specs.Asked.{NodeFits}
use Rattle.plus_state.proofs.Testing.{pass_left, pass_right, carry_back}
use Rattle.plus_crossing.specs.Asked.{Ask, Passes, AllPass}
use Rattle.plus_crossing.specs.Pieces.{piece_asks}
use Rattle.plus_crossing.specs.Roots.{meets_later, meeting_asks, root_asks}
use Rattle.plus_crossing.specs.Conds.{asks_open}
use Rattle.plus_crossing.specs.Next.{cross_sides, cross_asks}
use Rattle.plus_crossing.specs.Listed.{roots_on, open_roots, live_roots}
use Rattle.plus_crossing.proofs.Joins.{numbered_back}
use Rattle.plus_stretch.specs.Tests as along
use Rattle.plus_stretch.specs.Tests.{Whose, event, process}
use Rattle.plus_stretch.specs.Crossings.{Among, roots_in, all_roots}
use Rattle.plus_stretch.specs.StretchTests.{owned, root_tests_in, root_tests}
use Rattle.plus_stretch.proofs.Layers.{asks_carry}
use Rattle.plus_stretch.proofs.Roots.{among_either}

module _ (fits : Fraction → Type 0) (x : Fraction) where
  -- the quotient is asked last
  meeting_fits : (v m w n : Fraction) (b : Bool) → AllPass fits (if b then meeting_asks v m w n else []) → Among x (if b then ((w -ℚ v) /ℚ (m -ℚ n)) ∷ [] else []) → fits x
  unfolding tested.AllPass Passes NodeFits
  meeting_fits v m w n true h i = elim i [ inl e ↦ subst fits (sym e) h.1.1.0 | inr j ↦ absurd j ]
  meeting_fits v m w n false h i = absurd i

  lines_fit : (v m w n : Fraction) → AllPass fits (root_asks v m w n) → Among x (roots_on (Straight v m) (Straight w n)) → fits x
  unfolding root_asks
  lines_fit v m w n h i = meeting_fits v m w n (meets_later v m w n) h i

  sides_fit : (p q : Piece) (xs ys : List Ask) → AllPass fits (cross_sides p xs q ys) → Among x (roots_on p q) → fits x
  unfolding cross_sides
  sides_fit Missing q xs ys h i = absurd i
  sides_fit Crooked q xs ys h i = absurd i
  sides_fit (Straight v m) Missing xs ys h i = absurd i
  sides_fit (Straight v m) Crooked xs ys h i = absurd i
  sides_fit (Straight v m) (Straight w n) xs ys h i = lines_fit v m w n (pass_right (Passes fits) ys _ (pass_right (Passes fits) xs _ h)) i

  open_fits : (o : Option Bool) (xs ys : List Ask) (us vs : List Fraction) → (AllPass fits xs → Among x us → fits x) → (AllPass fits ys → Among x vs → fits x)
      → AllPass fits (asks_open o xs ys) → Among x (open_roots o us vs) → fits x
  unfolding asks_open
  open_fits (Some b) xs ys us vs f g h i = absurd i
  open_fits None xs ys us vs f g h i = elim (among_either x us vs i) [
    | inl j ↦ f (pass_left (Passes fits) xs ys h) j
    | inr j ↦ g (pass_right (Passes fits) xs ys h) j
  ]

  -- those of one condition
  cond_fits : (k : ℕ) (c : Condition) (s : State) (rs : List Fraction) → AllPass fits (cross_asks k c s rs) → Among x (live_roots c s rs) → fits x
  cond_fits k Always s rs h i = absurd i
  cond_fits k Never s rs h i = absurd i
  cond_fits k (Both c d) s rs h i =
      open_fits (decided (Both c d) s) (cross_asks k c s rs) (cross_asks (k + comparisons c) d s rs) (live_roots c s rs) (live_roots d s rs)
      (cond_fits k c s rs) (cond_fits (k + comparisons c) d s rs) h i
  cond_fits k (Either c d) s rs h i =
      open_fits (decided (Either c d) s) (cross_asks k c s rs) (cross_asks (k + comparisons c) d s rs) (live_roots c s rs) (live_roots d s rs)
      (cond_fits k c s rs) (cond_fits (k + comparisons c) d s rs) h i
  cond_fits k (Atom a positive) s rs h i = absurd i
  cond_fits k (Compare t l r positive) s rs h i =
      sides_fit (piece l s rs) (piece r s rs) (piece_asks l s rs) (piece_asks r s rs) (numbered_back fits (suc k) _ h) i

  -- those of the conditions of a list
  list_fits : {A : Type 0} (whose : ℕ → Whose) (condition : A → Condition) (k : ℕ) (xs : List A) (s : State) (rs : List Fraction)
      → along.AllPass fits (root_tests_in whose condition k xs s rs) → Among x (roots_in condition xs s rs) → fits x
  list_fits whose condition k [] s rs h i = absurd i
  list_fits whose condition k (a ∷ xs) s rs h i = elim (among_either x (live_roots (condition a) s rs) (roots_in condition xs s rs) i) [
    | inl j ↦ cond_fits 0 (condition a) s rs (carry_back (asks_carry fits (whose k)) (cross_asks 0 (condition a) s rs) (pass_left (along.Passes fits) _ _ h)) j
    | inr j ↦ list_fits whose condition (suc k) xs s rs (pass_right (along.Passes fits) (owned (whose k) (cross_asks 0 (condition a) s rs)) _ h) j
  ]

  pub root_fits : (P : Problem) (s : State) (rs : List Fraction) → along.AllPass fits (root_tests P s rs) → Among x (all_roots P s rs) → fits x
  unfolding root_tests all_roots
  root_fits P s rs h i = elim (among_either x (roots_in (λ (e : Event). e.condition) P.events s rs) _ i) [
    | inl j ↦ list_fits event (λ (e : Event). e.condition) 0 P.events s rs (pass_left (along.Passes fits) _ _ h) j
    | inr j ↦ list_fits process (λ (p : Process). p.condition) 0 P.processes s rs
        (pass_right (along.Passes fits) (root_tests_in event (λ (e : Event). e.condition) 0 P.events s rs) _ h) j
  ]
