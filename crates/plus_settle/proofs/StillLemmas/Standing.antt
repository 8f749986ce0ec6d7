-- Along rates at which nothing moves that a condition reads, it tells what it tells in the state, and asks no more.
use Rattle.std.proofs.Common.{◌≡◌, ℕ, suc, ◌+◌, Bool, true, false, List, [], ◌∷◌, ◌++◌, ◌&&◌, ◌||◌, refl, ap, ap₂, sym, subst, ◌∙◌, inl, inr, pos, if◌then◌else◌}
use Rattle.std.specs.Prelude.{Option, Some, None}
use Rattle.std.specs.declared.cmp.Ordering.{Ordering}
use Rattle.std.specs.declared.cmp.Ordering.TheVariants.{Less, Equal, Greater}
use Rattle.plus_fraction.specs.Fraction.{Fraction, whole, ◌+ℚ◌, ◌-ℚ◌, ◌*ℚ◌, ◌/ℚ◌, compared}
use Rattle.plus_fraction.proofs.Ring.{var, num, ◌⊕◌, ◌⊖◌, ◌⊗◌}
use Rattle.plus_fraction.proofs.FractionRing.{ringℚ}
use Rattle.plus_fraction.proofs.Compared.{compared_refl}
use Rattle.plus_model.specs.Terms.{Expression, Number, Fluent, Sum, Difference, Product, Quotient, Test, Same, Condition, Always, Never, Both, Either, Atom, Compare, State}
use Rattle.plus_model.specs.Value.{value, fluent_of, on_both, quotient, is_zero, passes, stand, signed, holds}
use Rattle.plus_model.specs.Live.{live}
use Rattle.plus_model.specs.Firing.{is_in}
use Rattle.plus_model.specs.Running.{names}
use Rattle.plus_model.specs.Piece.{Piece, Missing, Crooked, Straight, piece, on_pieces, rate_of, straight_fluent, product_piece, quotient_piece, then_slopes, after_sides, after}
use Rattle.plus_model.proofs.Alive.{live_holds}
use Rattle.plus_model.proofs.Members.{in_first}
use Rattle.plus_state.specs.declared.term.Sign.{Sign}
use Rattle.plus_state.specs.declared.term.Sign.TheVariants.{Plus, Minus, Times, Divide}
use Rattle.plus_state.specs.Node.{Node}
use Rattle.plus_state.specs.Asked.{nodes, node, node_of, sides, operation, NodeFits, AllFit}
use Rattle.plus_state.specs.Tested as tested
use Rattle.plus_state.specs.Tests.{tests_of, decided}
use Rattle.plus_state.specs.Fits.{comparisons}
use Rattle.plus_state.proofs.TestsLemmas.{tests_pair}
use Rattle.plus_state.proofs.Testing.{pass_none, pass_append, pass_left, pass_right}
use Rattle.plus_crossing.specs.Asked.{Ask, asks, Passes, AllPass}
use Rattle.plus_crossing.specs.Pieces.{piece_asks, op_asks, asks_both, quotient_slope}
use Rattle.plus_crossing.specs.Roots.{meets_later, opposite, meeting_asks, root_asks}
use Rattle.plus_crossing.specs.Conds.{asks_open, asks_sides, live_tests, sides_asks}
use Rattle.plus_crossing.specs.Listed.{roots_on, open_roots, live_roots}
use Rattle.plus_crossing.specs.Next.{root_on, cross_sides, root_sides, RootSides, RootOpen, LiveRoot, Nowhere}
use Rattle.plus_crossing.proofs.Joins.{numbered_pass}
use Rattle.plus_crossing.proofs.Ops.{zero_over}
use Rattle.plus_reads.specs.Reads.{fluents_read}
use Rattle.plus_reads.proofs.Sets.{in_left, in_right}
use Rattle.plus_reads.proofs.Frame.{live_reads}
use Rattle.plus_settle.specs.Still.Laws.{StandingStill}

-- these fluents do not move
abbrev pub Still : List ℕ → List Fraction → Type 0
Still fs rs = (f : ℕ) → is_in fs f ≡ true → rate_of rs f ≡ whole (pos 0)

still_left : (xs ys : List ℕ) (rs : List Fraction) → Still (xs ++ ys) rs → Still xs rs
still_left xs ys rs h f i = h f (in_left xs ys f i)

still_right : (xs ys : List ℕ) (rs : List Fraction) → Still (xs ++ ys) rs → Still ys rs
still_right xs ys rs h f i = h f (in_right xs ys f i)

-- ---- pieces
abbrev pub level : Option Fraction → Piece
level None = Missing
level (Some v) = Straight v (whole (pos 0))

zero_is : is_zero (whole (pos 0)) ≡ true
zero_is = ap (passes Same) (compared_refl (whole (pos 0)))

straight_as : (v m : Fraction) → m ≡ whole (pos 0) → Straight v m ≡ Straight v (whole (pos 0))
straight_as v m e = ap (Straight v) e

level_both : (op : Fraction → Fraction → Option Fraction) (pop : Fraction → Fraction → Fraction → Fraction → Piece) (x y : Option Fraction) → ((v w : Fraction) → pop v (whole (pos 0)) w (whole (pos 0)) ≡ level (op v w)) → on_pieces pop (level x) (level y) ≡ level (on_both op x y)
level_both op pop None y h = refl
level_both op pop (Some v) None h = refl
level_both op pop (Some v) (Some w) h = h v w

level_product : (v w : Fraction) → product_piece v (whole (pos 0)) w (whole (pos 0)) ≡ Straight (v *ℚ w) (whole (pos 0))
level_product v w =
    ap (λ (b : Bool). if b then Straight (v *ℚ w) (v *ℚ whole (pos 0)) else if b then Straight (v *ℚ w) (whole (pos 0) *ℚ w) else Crooked) zero_is
    ∙ straight_as (v *ℚ w) (v *ℚ whole (pos 0)) (ringℚ (v ∷ []) (var 0 ⊗ num (pos 0)) (num (pos 0)) refl)

level_quotient : (v w : Fraction) → quotient_piece v (whole (pos 0)) w (whole (pos 0)) ≡ level (quotient v w)
level_quotient v w =
    ap (λ (b : Bool). if b then if is_zero w then Missing else Straight (v /ℚ w) (whole (pos 0) /ℚ w) else Crooked) zero_is ∙ go (is_zero w) refl
  where
    go : (b : Bool) → is_zero w ≡ b → (if b then Missing else Straight (v /ℚ w) (whole (pos 0) /ℚ w)) ≡ level (if b then None else Some (v /ℚ w))
    go true e = refl
    go false e = straight_as (v /ℚ w) (whole (pos 0) /ℚ w) (sym (zero_over (whole (pos 0)) w (whole (pos 0)) zero_is e refl))

level_fluent : (o : Option Fraction) (m : Fraction) → m ≡ whole (pos 0) → straight_fluent o m ≡ level o
level_fluent None m e = refl
level_fluent (Some v) m e = straight_as v m e

pub still_piece : (e : Expression) (s : State) (rs : List Fraction) → Still (names e) rs → piece e s rs ≡ level (value e s)
still_piece (Number x) s rs h = refl
still_piece (Fluent f) s rs h = level_fluent (fluent_of s f) (rate_of rs f) (h f (in_first f []))
still_piece (Sum a b) s rs h =
    ap₂ (on_pieces (λ v m w n. Straight (v +ℚ w) (m +ℚ n))) (still_piece a s rs (still_left (names a) (names b) rs h)) (still_piece b s rs (still_right (names a) (names b) rs h))
    ∙ level_both (λ x y. Some (x +ℚ y)) (λ v m w n. Straight (v +ℚ w) (m +ℚ n)) (value a s) (value b s) (λ v w. straight_as (v +ℚ w) (whole (pos 0) +ℚ whole (pos 0)) (ringℚ [] (num (pos 0) ⊕ num (pos 0)) (num (pos 0)) refl))
still_piece (Difference a b) s rs h =
    ap₂ (on_pieces (λ v m w n. Straight (v -ℚ w) (m -ℚ n))) (still_piece a s rs (still_left (names a) (names b) rs h)) (still_piece b s rs (still_right (names a) (names b) rs h))
    ∙ level_both (λ x y. Some (x -ℚ y)) (λ v m w n. Straight (v -ℚ w) (m -ℚ n)) (value a s) (value b s) (λ v w. straight_as (v -ℚ w) (whole (pos 0) -ℚ whole (pos 0)) (ringℚ [] (num (pos 0) ⊖ num (pos 0)) (num (pos 0)) refl))
still_piece (Product a b) s rs h =
    ap₂ (on_pieces product_piece) (still_piece a s rs (still_left (names a) (names b) rs h)) (still_piece b s rs (still_right (names a) (names b) rs h))
    ∙ level_both (λ x y. Some (x *ℚ y)) product_piece (value a s) (value b s) level_product
still_piece (Quotient a b) s rs h =
    ap₂ (on_pieces quotient_piece) (still_piece a s rs (still_left (names a) (names b) rs h)) (still_piece b s rs (still_right (names a) (names b) rs h))
    ∙ level_both quotient quotient_piece (value a s) (value b s) level_quotient

-- ---- what pieces ask
module _ (fits : Fraction → Type 0) (zero_fits : fits (whole (pos 0))) where
  op_still : (op : Sign) (v w : Fraction) → AllFit fits (node_of op v w) → AllPass fits (op_asks op v (whole (pos 0)) w (whole (pos 0)))
  unfolding tested.AllPass Passes NodeFits op_asks node_of
  op_still Plus v w h = (h.0, (subst fits (ringℚ [] (num (pos 0)) (num (pos 0) ⊕ num (pos 0)) refl) zero_fits, tt))
  op_still Minus v w h = (h.0, (subst fits (ringℚ [] (num (pos 0)) (num (pos 0) ⊖ num (pos 0)) refl) zero_fits, tt))
  op_still Times v w h = (ap (λ (b : Bool). b || b) zero_is, (h.0, subst (AllPass fits) (sym (ap (λ (b : Bool). if b then if b then [] else asks (node Times v (whole (pos 0))) ∷ [] else asks (node Times (whole (pos 0)) w) ∷ []) zero_is)) tt))
  op_still Divide v w h = (zero_is, go (is_zero w) h)
    where
      go : (b : Bool) → AllFit fits (if b then [] else node Divide v w ∷ []) → AllPass fits (if b then [] else asks (node Divide v w) ∷ quotient_slope (whole (pos 0)) w)
      go true k = tt
      go false k = (k.0, subst (AllPass fits) (sym (ap (λ (b : Bool). if b then [] else asks (node Divide (whole (pos 0)) w) ∷ []) zero_is)) tt)

  both_still : (op : Sign) (x y : Option Fraction) (ns ms : List Node) (xs ys : List Ask) → (AllFit fits ns → AllPass fits xs) → (AllFit fits ms → AllPass fits ys) → AllFit fits (operation op ns x ms y) → AllPass fits (asks_both op (level x) xs (level y) ys)
  unfolding operation sides asks_both
  both_still op None y ns ms xs ys f g h = pass_append (Passes fits) xs [] (f (pass_left (NodeFits fits) ns [] (pass_left (NodeFits fits) (ns ++ []) [] h))) (pass_none (Passes fits))
  both_still op (Some v) None ns ms xs ys f g h =
      let k = pass_left (NodeFits fits) (ns ++ ms) [] h in
      pass_append (Passes fits) xs (ys ++ []) (f (pass_left (NodeFits fits) ns ms k)) (pass_append (Passes fits) ys [] (g (pass_right (NodeFits fits) ns ms k)) (pass_none (Passes fits)))
  both_still op (Some v) (Some w) ns ms xs ys f g h =
      let k = pass_left (NodeFits fits) (ns ++ ms) (node_of op v w) h in
      pass_append (Passes fits) xs _ (f (pass_left (NodeFits fits) ns ms k)) (pass_append (Passes fits) ys _ (g (pass_right (NodeFits fits) ns ms k)) (op_still op v w (pass_right (NodeFits fits) (ns ++ ms) (node_of op v w) h)))

  as_level : (op : Sign) (p q : Piece) (x y : Option Fraction) (xs ys : List Ask) → p ≡ level x → q ≡ level y → AllPass fits (asks_both op (level x) xs (level y) ys) → AllPass fits (asks_both op p xs q ys)
  as_level op p q x y xs ys e f h = subst (λ p. AllPass fits (asks_both op p xs q ys)) (sym e) (subst (λ q. AllPass fits (asks_both op (level x) xs q ys)) (sym f) h)

  pub still_asks : (e : Expression) (s : State) (rs : List Fraction) → Still (names e) rs → AllFit fits (nodes e s) → AllPass fits (piece_asks e s rs)
  still_asks (Number x) s rs h a = pass_none (Passes fits)
  still_asks (Fluent f) s rs h a = pass_none (Passes fits)
  still_asks (Sum a b) s rs h k =
      let l = still_left (names a) (names b) rs h in let r = still_right (names a) (names b) rs h in
      as_level Plus _ _ (value a s) (value b s) _ _ (still_piece a s rs l) (still_piece b s rs r) (both_still Plus (value a s) (value b s) (nodes a s) (nodes b s) _ _ (still_asks a s rs l) (still_asks b s rs r) k)
  still_asks (Difference a b) s rs h k =
      let l = still_left (names a) (names b) rs h in let r = still_right (names a) (names b) rs h in
      as_level Minus _ _ (value a s) (value b s) _ _ (still_piece a s rs l) (still_piece b s rs r) (both_still Minus (value a s) (value b s) (nodes a s) (nodes b s) _ _ (still_asks a s rs l) (still_asks b s rs r) k)
  still_asks (Product a b) s rs h k =
      let l = still_left (names a) (names b) rs h in let r = still_right (names a) (names b) rs h in
      as_level Times _ _ (value a s) (value b s) _ _ (still_piece a s rs l) (still_piece b s rs r) (both_still Times (value a s) (value b s) (nodes a s) (nodes b s) _ _ (still_asks a s rs l) (still_asks b s rs r) k)
  still_asks (Quotient a b) s rs h k =
      let l = still_left (names a) (names b) rs h in let r = still_right (names a) (names b) rs h in
      as_level Divide _ _ (value a s) (value b s) _ _ (still_piece a s rs l) (still_piece b s rs r) (both_still Divide (value a s) (value b s) (nodes a s) (nodes b s) _ _ (still_asks a s rs l) (still_asks b s rs r) k)

  -- ---- comparisons
  sides_still : (x : Option Fraction) (ns ms : List Node) (xs ys : List Ask) → (AllFit fits ns → AllPass fits xs) → (AllFit fits ms → AllPass fits ys) → AllFit fits (sides ns x ms) → AllPass fits (asks_sides (level x) xs ys)
  unfolding sides asks_sides
  sides_still None ns ms xs ys f g h = pass_append (Passes fits) xs [] (f (pass_left (NodeFits fits) ns [] h)) (pass_none (Passes fits))
  sides_still (Some v) ns ms xs ys f g h = pass_append (Passes fits) xs ys (f (pass_left (NodeFits fits) ns ms h)) (g (pass_right (NodeFits fits) ns ms h))

  never_later : (v w : Fraction) → meets_later v (whole (pos 0)) w (whole (pos 0)) ≡ false
  unfolding meets_later
  never_later v w = ap (opposite (compared v w)) (compared_refl (whole (pos 0))) ∙ go (compared v w)
    where
      go : (o : Ordering) → opposite o Equal ≡ false
      go Less = refl
      go Equal = refl
      go Greater = refl

  no_root_asks : (v w : Fraction) → AllPass fits (root_asks v (whole (pos 0)) w (whole (pos 0)))
  unfolding root_asks
  no_root_asks v w = subst (λ (b : Bool). AllPass fits (if b then meeting_asks v (whole (pos 0)) w (whole (pos 0)) else [])) (sym (never_later v w)) (pass_none (Passes fits))

  root_level : (x y : Option Fraction) → AllPass fits (root_on (level x) (level y))
  root_level None y = pass_none (Passes fits)
  root_level (Some v) None = pass_none (Passes fits)
  root_level (Some v) (Some w) = no_root_asks v w

  crossing_still : (x y : Option Fraction) (ns ms : List Node) (xs ys : List Ask) → (AllFit fits ns → AllPass fits xs) → (AllFit fits ms → AllPass fits ys) → AllFit fits (sides ns x ms) → AllPass fits (cross_sides (level x) xs (level y) ys)
  unfolding sides cross_sides
  crossing_still None y ns ms xs ys f g h = pass_append (Passes fits) xs [] (f (pass_left (NodeFits fits) ns [] h)) (pass_none (Passes fits))
  crossing_still (Some v) y ns ms xs ys f g h = pass_append (Passes fits) xs _ (f (pass_left (NodeFits fits) ns ms h)) (pass_append (Passes fits) ys _ (g (pass_right (NodeFits fits) ns ms h)) (root_level (Some v) y))

  -- ---- conditions, by what is asked of a comparison
  abbrev OnSides : (Expression → Expression → List Ask) → State → List Fraction → Type 0
  OnSides on s rs = (l r : Expression) → Still (names l) rs → Still (names r) rs → AllFit fits (sides (nodes l s) (value l s) (nodes r s)) → AllPass fits (on l r)

  open_pass : (o : Option Bool) (xs ys : List Ask) → (o ≡ None → AllPass fits xs × AllPass fits ys) → AllPass fits (asks_open o xs ys)
  unfolding asks_open
  open_pass (Some b) xs ys f = pass_none (Passes fits)
  open_pass None xs ys f = (let p = f refl in pass_append (Passes fits) xs ys p.0 p.1)

  not_decided : (b : Bool) (o : Option Bool) → o ≡ None → Some b ≡ o → ⊥
  not_decided b o e f = cc

  compare_tests : (t : Test) (l r : Expression) (positive : Bool) (s : State) → AllFit fits (tests_of (Compare t l r positive) s) → AllFit fits (sides (nodes l s) (value l s) (nodes r s))
  unfolding tests_of
  compare_tests t l r positive s h = h

  cond_still : (on : Expression → Expression → List Ask) (k : ℕ) (c : Condition) (s : State) (rs : List Fraction) → OnSides on s rs → Still (fluents_read c) rs → AllFit fits (tests_of c s) → AllPass fits (live_tests on k c s)
  cond_still on k Always s rs f h a = pass_none (Passes fits)
  cond_still on k Never s rs f h a = pass_none (Passes fits)
  cond_still on k (Both c d) s rs f h a = open_pass (decided (Both c d) s) _ _ (λ o.
      let p : AllFit fits (tests_of c s ++ tests_of d s) = subst (AllFit fits) (tests_pair true c d s (not_decided false (decided (Both c d) s) o)) a in (
        cond_still on k c s rs f (still_left (fluents_read c) (fluents_read d) rs h) (pass_left (NodeFits fits) (tests_of c s) (tests_of d s) p),
        cond_still on (k + comparisons c) d s rs f (still_right (fluents_read c) (fluents_read d) rs h) (pass_right (NodeFits fits) (tests_of c s) (tests_of d s) p),
      ))
  cond_still on k (Either c d) s rs f h a = open_pass (decided (Either c d) s) _ _ (λ o.
      let p : AllFit fits (tests_of c s ++ tests_of d s) = subst (AllFit fits) (tests_pair false c d s (not_decided true (decided (Either c d) s) o)) a in (
        cond_still on k c s rs f (still_left (fluents_read c) (fluents_read d) rs h) (pass_left (NodeFits fits) (tests_of c s) (tests_of d s) p),
        cond_still on (k + comparisons c) d s rs f (still_right (fluents_read c) (fluents_read d) rs h) (pass_right (NodeFits fits) (tests_of c s) (tests_of d s) p),
      ))
  cond_still on k (Atom x positive) s rs f h a = pass_none (Passes fits)
  cond_still on k (Compare t l r positive) s rs f h a =
      numbered_pass fits (suc k) (on l r) (f l r (still_left (names l) (names r) rs h) (still_right (names l) (names r) rs h) (compare_tests t l r positive s a))

  on_after : (s : State) (rs : List Fraction) → OnSides (sides_asks s rs) s rs
  on_after s rs l r i j h =
      subst (λ (p : Piece). AllPass fits (asks_sides p (piece_asks l s rs) (piece_asks r s rs))) (sym (still_piece l s rs i))
      (sides_still (value l s) (nodes l s) (nodes r s) _ _ (still_asks l s rs i) (still_asks r s rs j) h)

  on_roots : (s : State) (rs : List Fraction) → OnSides (root_sides s rs) s rs
  on_roots s rs l r i j h =
      subst (λ (p : Piece). AllPass fits (cross_sides p (piece_asks l s rs) (piece r s rs) (piece_asks r s rs))) (sym (still_piece l s rs i))
      (subst (λ (q : Piece). AllPass fits (cross_sides (level (value l s)) (piece_asks l s rs) q (piece_asks r s rs))) (sym (still_piece r s rs j))
      (crossing_still (value l s) (value r s) (nodes l s) (nodes r s) _ _ (still_asks l s rs i) (still_asks r s rs j) h))

-- ---- truth just after
same_order : (o : Ordering) → then_slopes o Equal ≡ o
same_order Less = refl
same_order Equal = refl
same_order Greater = refl

level_sides : (t : Test) (x y : Option Fraction) → after_sides t (level x) (level y) ≡ stand t x y
level_sides t None y = refl
level_sides t (Some v) None = refl
level_sides t (Some v) (Some w) = ap (λ (o : Ordering). passes t (then_slopes (compared v w) o)) (compared_refl (whole (pos 0))) ∙ ap (passes t) (same_order (compared v w))

still_after : (c : Condition) (s : State) (rs : List Fraction) → Still (fluents_read c) rs → after c s rs ≡ holds c s
still_after Always s rs h = refl
still_after Never s rs h = refl
still_after (Both c d) s rs h = ap₂ (◌&&◌) (still_after c s rs (still_left (fluents_read c) (fluents_read d) rs h)) (still_after d s rs (still_right (fluents_read c) (fluents_read d) rs h))
still_after (Either c d) s rs h = ap₂ (◌||◌) (still_after c s rs (still_left (fluents_read c) (fluents_read d) rs h)) (still_after d s rs (still_right (fluents_read c) (fluents_read d) rs h))
still_after (Atom a positive) s rs h = refl
still_after (Compare t l r positive) s rs h = ap (signed positive)
    (ap₂ (after_sides t) (still_piece l s rs (still_left (names l) (names r) rs h)) (still_piece r s rs (still_right (names l) (names r) rs h)) ∙ level_sides t (value l s) (value r s))

-- ---- no root
level_no_root : (x y : Option Fraction) (z : Fraction) → RootSides (level x) (level y) z → ⊥
unfolding RootSides
level_no_root None y z h = h
level_no_root (Some v) None z h = h
level_no_root (Some v) (Some w) z h = h.apart refl

open_no_root : (o : Option Bool) (P Q : Fraction → Type 0) (x : Fraction) → (P x → ⊥) → (Q x → ⊥) → RootOpen o P Q x → ⊥
unfolding RootOpen
open_no_root None P Q x f g h = elim h [ inl p ↦ f p | inr q ↦ g q ]
open_no_root (Some b) P Q x f g h = h

nowhere : (x : Fraction) → Nowhere x → ⊥
unfolding Nowhere
nowhere x h = h

still_no_root : (c : Condition) (s : State) (rs : List Fraction) (x : Fraction) → Still (fluents_read c) rs → LiveRoot c s rs x → ⊥
still_no_root Always s rs x h r = nowhere x r
still_no_root Never s rs x h r = nowhere x r
still_no_root (Both c d) s rs x h r = open_no_root (decided (Both c d) s) (LiveRoot c s rs) (LiveRoot d s rs) x (still_no_root c s rs x (still_left (fluents_read c) (fluents_read d) rs h)) (still_no_root d s rs x (still_right (fluents_read c) (fluents_read d) rs h)) r
still_no_root (Either c d) s rs x h r = open_no_root (decided (Either c d) s) (LiveRoot c s rs) (LiveRoot d s rs) x (still_no_root c s rs x (still_left (fluents_read c) (fluents_read d) rs h)) (still_no_root d s rs x (still_right (fluents_read c) (fluents_read d) rs h)) r
still_no_root (Atom a positive) s rs x h r = nowhere x r
still_no_root (Compare t l e positive) s rs x h r =
    level_no_root (value l s) (value e s) x
    (subst (λ (p : Piece). RootSides p (level (value e s)) x) (still_piece l s rs (still_left (names l) (names e) rs h))
    (subst (λ (q : Piece). RootSides (piece l s rs) q x) (still_piece e s rs (still_right (names l) (names e) rs h)) r))

-- ---- and none is listed
open_none : (o : Option Bool) (xs ys : List Fraction) → xs ≡ [] → ys ≡ [] → open_roots o xs ys ≡ []
open_none None xs ys e d = ap₂ (λ (us vs : List Fraction). us ++ vs) e d
open_none (Some b) xs ys e d = refl

same_slopes : (o : Ordering) → opposite o Equal ≡ false
same_slopes Less = refl
same_slopes Equal = refl
same_slopes Greater = refl

level_lists_none : (x y : Option Fraction) → roots_on (level x) (level y) ≡ []
unfolding meets_later
level_lists_none None y = refl
level_lists_none (Some v) None = refl
level_lists_none (Some v) (Some w) =
    ap (λ (b : Bool). if b then ((w -ℚ v) /ℚ (whole (pos 0) -ℚ whole (pos 0))) ∷ [] else []) (ap (opposite (compared v w)) (compared_refl (whole (pos 0))) ∙ same_slopes (compared v w))

still_lists_none : (c : Condition) (s : State) (rs : List Fraction) → Still (fluents_read c) rs → live_roots c s rs ≡ []
still_lists_none Always s rs h = refl
still_lists_none Never s rs h = refl
still_lists_none (Both c d) s rs h = open_none (decided (Both c d) s) _ _ (still_lists_none c s rs (still_left (fluents_read c) (fluents_read d) rs h)) (still_lists_none d s rs (still_right (fluents_read c) (fluents_read d) rs h))
still_lists_none (Either c d) s rs h = open_none (decided (Either c d) s) _ _ (still_lists_none c s rs (still_left (fluents_read c) (fluents_read d) rs h)) (still_lists_none d s rs (still_right (fluents_read c) (fluents_read d) rs h))
still_lists_none (Atom a positive) s rs h = refl
still_lists_none (Compare t l r positive) s rs h =
    ap₂ roots_on (still_piece l s rs (still_left (names l) (names r) rs h)) (still_piece r s rs (still_right (names l) (names r) rs h)) ∙ level_lists_none (value l s) (value r s)

pub standing_still : (fits : Fraction → Type 0) → StandingStill fits
standing_still fits k c s rs z h a = record {
  after_is = still_after (live c s) s rs (λ f i. h f (live_reads c s f i)) ∙ live_holds c s s refl;
  after_asks = cond_still fits z (sides_asks s rs) k c s rs (on_after fits z s rs) h a;
  roots_ask = cond_still fits z (root_sides s rs) k c s rs (on_roots fits z s rs) h a;
  no_root = λ x. still_no_root c s rs x h;
  none_listed = still_lists_none c s rs h;
}
