-- What pieces ask covers what values ask; and a simple condition asks the same as time passes.
use Rattle.std.proofs.Common.{◌≡◌, ℕ, suc, ◌+◌, Bool, true, false, List, [], ◌∷◌, ◌++◌, ◌&&◌, refl, ap, ap₂, sym, subst, ◌∙◌, inl, inr, pos, if◌then◌else◌}
use Rattle.std.proofs.lemmas.List.{append-nil}
use Rattle.std.specs.Prelude.{Option, Some, None}
use Rattle.plus_fraction.specs.Fraction.{Fraction, whole, ◌+ℚ◌, ◌-ℚ◌, ◌*ℚ◌}
use Rattle.plus_fraction.proofs.Ring.{var, num, ◌⊕◌, ◌⊗◌}
use Rattle.plus_fraction.proofs.FractionRing.{ringℚ}
use Rattle.plus_model.specs.Terms.{Expression, Number, Fluent, Sum, Difference, Product, Quotient, Same, Condition, Always, Never, Both, Either, Atom, Compare, State}
use Rattle.plus_model.specs.Value.{value, fluent_of, is_zero, passes}
use Rattle.plus_model.specs.Firing.{is_in}
use Rattle.plus_model.specs.Running.{names, moved}
use Rattle.plus_model.specs.Piece.{Piece, Missing, Crooked, Straight, piece, on_pieces, straight_fluent, rate_of, product_piece, quotient_piece}
use Rattle.plus_model.proofs.Along.{from_zero}
use Rattle.plus_model.proofs.Search.{moved-zero}
use Rattle.plus_model.proofs.Members.{in_first, in_cases}
use Rattle.plus_state.specs.declared.term.Sign.{Sign}
use Rattle.plus_state.specs.declared.term.Sign.TheVariants.{Plus, Minus, Times, Divide}
use Rattle.plus_state.specs.Node.{Node}
use Rattle.plus_state.specs.Asked.{nodes, node, node_of, if_some, sides, operation, NodeFits, AllFit}
use Rattle.plus_state.specs.Tested as tested
use Rattle.plus_state.specs.Tests.{verdict, tests_of, decided}
use Rattle.plus_state.specs.Fits.{comparisons}
use Rattle.plus_state.proofs.TestsLemmas.{tests_pair, decided_asks, atom_asks}
use Rattle.plus_state.proofs.Testing.{pass_none, pass_append, pass_left, pass_right}
use Rattle.plus_crossing.specs.Asked.{Ask, asks, Passes, AllPass, numbered}
use Rattle.plus_crossing.specs.Pieces.{piece_asks, op_asks, asks_both, if_straight, quotient_slope}
use Rattle.plus_crossing.specs.Conds.{asks_open, asks_sides, live_asks}
use Rattle.plus_crossing.specs.Next.{cross_sides, cross_asks}
use Rattle.plus_crossing.proofs.Joins.{numbered_pass, numbered_back}
use Rattle.plus_crossing.proofs.Steady.{IsLine, is_line, pieces_tell}
use Rattle.plus_reads.proofs.Sets.{in_left, in_right, in_either}
use Rattle.plus_fraction.proofs.Compared.{compared_refl}
use Rattle.plus_reads.specs.Reads.{fluents_read}
use Rattle.plus_reads.specs.Laws.{StandsStill}
use Rattle.plus_reads.proofs.Frame.{SameFluents, same_live}
use Rattle.plus_reads.proofs.Unmoved.{fluent_stays}
use Rattle.plus_settle.specs.Still.Simple.{is_still, is_plain, is_simple}
use Rattle.plus_state.proofs.ClashLemmas.{and_left as first_and, and_right as second_and}

-- ---- what pieces ask covers what values ask
abbrev Tells : Piece → Option Fraction → Type 0
Tells Missing o = o ≡ None
Tells Crooked o = Unit {0}
Tells (Straight v m) o = o ≡ Some v

at_start : (v m : Fraction) → v +ℚ m *ℚ whole (pos 0) ≡ v
at_start v m = ringℚ (v ∷ m ∷ []) (var 0 ⊕ var 1 ⊗ num (pos 0)) (var 0) refl

tells_by : (e : Expression) (s : State) (rs : List Fraction) (p : Piece) → piece e s rs ≡ p → Tells p (value e s)
tells_by e s rs Missing h = ap (value e) (sym (moved-zero s rs)) ∙ pieces_tell.missing e s rs h (whole (pos 0))
tells_by e s rs Crooked h = tt
tells_by e s rs (Straight v m) h = ap (value e) (sym (moved-zero s rs)) ∙ pieces_tell.straight e s rs v m h (whole (pos 0)) ∙ ap Some (at_start v m)

module _ (fits : Fraction → Type 0) where
  op_node : (op : Sign) (v m w n : Fraction) → AllPass fits (op_asks op v m w n) → AllFit fits (node_of op v w)
  unfolding tested.AllPass Passes NodeFits op_asks node_of
  op_node Plus v m w n h = (h.0, tt)
  op_node Minus v m w n h = (h.0, tt)
  op_node Times v m w n h = (h.1.0, tt)
  op_node Divide v m w n h = go (is_zero w) h.1
    where
      go : (b : Bool) → AllPass fits (if b then [] else asks (node Divide v w) ∷ quotient_slope m w) → AllFit fits (if b then [] else node Divide v w ∷ [])
      go true k = tt
      go false k = (k.0, tt)

  fit_nil : (ns : List Node) → AllFit fits ns → AllFit fits (ns ++ [])
  fit_nil ns h = subst (AllFit fits) (sym (append-nil ns)) h

  both_fit : (op : Sign) (p q : Piece) (x y : Option Fraction) (xs ys : List Ask) (ns ms : List Node) → Tells p x → Tells q y → (AllPass fits xs → AllFit fits ns) → (AllPass fits ys → AllFit fits ms) → (AllPass fits xs → IsLine p) → (AllPass fits ys → IsLine q) → AllPass fits (asks_both op p xs q ys) → AllFit fits (operation op ns x ms y)
  unfolding asks_both operation sides
  both_fit op Missing q x y xs ys ns ms e d f g i j h =
      subst (λ (o : Option Fraction). AllFit fits ((ns ++ if_some o (λ _. ms)) ++ if_some o (λ x. if_some y (λ y. node_of op x y)))) (sym e) (fit_nil (ns ++ []) (fit_nil ns (f (pass_left (Passes fits) xs [] h))))
  both_fit op Crooked q x y xs ys ns ms e d f g i j h = absurd (i (pass_left (Passes fits) xs _ h))
  both_fit op (Straight v m) Missing x y xs ys ns ms e d f g i j h =
      let r = pass_right (Passes fits) xs _ h in
      subst (λ (o : Option Fraction). AllFit fits ((ns ++ if_some o (λ _. ms)) ++ if_some o (λ x. if_some y (λ y. node_of op x y)))) (sym e)
      (subst (λ (o : Option Fraction). AllFit fits ((ns ++ ms) ++ if_some o (λ y. node_of op v y))) (sym d) (fit_nil (ns ++ ms) (pass_append (NodeFits fits) ns ms (f (pass_left (Passes fits) xs _ h)) (g (pass_left (Passes fits) ys _ r)))))
  both_fit op (Straight v m) Crooked x y xs ys ns ms e d f g i j h = absurd (j (pass_left (Passes fits) ys _ (pass_right (Passes fits) xs _ h)))
  both_fit op (Straight v m) (Straight w n) x y xs ys ns ms e d f g i j h =
      let r = pass_right (Passes fits) xs _ h in
      subst (λ (o : Option Fraction). AllFit fits ((ns ++ if_some o (λ _. ms)) ++ if_some o (λ x. if_some y (λ y. node_of op x y)))) (sym e)
      (subst (λ (o : Option Fraction). AllFit fits ((ns ++ ms) ++ if_some o (λ y. node_of op v y))) (sym d)
      (pass_append (NodeFits fits) (ns ++ ms) (node_of op v w) (pass_append (NodeFits fits) ns ms (f (pass_left (Passes fits) xs _ h)) (g (pass_left (Passes fits) ys _ r))) (op_node op v m w n (pass_right (Passes fits) ys _ r))))

  pub nodes_fit : (e : Expression) (s : State) (rs : List Fraction) → AllPass fits (piece_asks e s rs) → AllFit fits (nodes e s)
  nodes_fit (Number x) s rs h = pass_none (NodeFits fits)
  nodes_fit (Fluent f) s rs h = pass_none (NodeFits fits)
  nodes_fit (Sum a b) s rs h = both_fit Plus (piece a s rs) (piece b s rs) (value a s) (value b s) _ _ _ _ (tells_by a s rs _ refl) (tells_by b s rs _ refl) (nodes_fit a s rs) (nodes_fit b s rs) (is_line fits a s rs) (is_line fits b s rs) h
  nodes_fit (Difference a b) s rs h = both_fit Minus (piece a s rs) (piece b s rs) (value a s) (value b s) _ _ _ _ (tells_by a s rs _ refl) (tells_by b s rs _ refl) (nodes_fit a s rs) (nodes_fit b s rs) (is_line fits a s rs) (is_line fits b s rs) h
  nodes_fit (Product a b) s rs h = both_fit Times (piece a s rs) (piece b s rs) (value a s) (value b s) _ _ _ _ (tells_by a s rs _ refl) (tells_by b s rs _ refl) (nodes_fit a s rs) (nodes_fit b s rs) (is_line fits a s rs) (is_line fits b s rs) h
  nodes_fit (Quotient a b) s rs h = both_fit Divide (piece a s rs) (piece b s rs) (value a s) (value b s) _ _ _ _ (tells_by a s rs _ refl) (tells_by b s rs _ refl) (nodes_fit a s rs) (nodes_fit b s rs) (is_line fits a s rs) (is_line fits b s rs) h

  sides_fit : (p : Piece) (x : Option Fraction) (xs ys : List Ask) (ns ms : List Node) → Tells p x → (AllPass fits xs → AllFit fits ns) → (AllPass fits ys → AllFit fits ms) → (AllPass fits xs → IsLine p) → AllPass fits (asks_sides p xs ys) → AllFit fits (sides ns x ms)
  unfolding asks_sides sides
  sides_fit Missing x xs ys ns ms e f g i h = subst (λ (o : Option Fraction). AllFit fits (ns ++ if_some o (λ _. ms))) (sym e) (fit_nil ns (f (pass_left (Passes fits) xs [] h)))
  sides_fit Crooked x xs ys ns ms e f g i h = absurd (i (pass_left (Passes fits) xs _ h))
  sides_fit (Straight v m) x xs ys ns ms e f g i h =
      subst (λ (o : Option Fraction). AllFit fits (ns ++ if_some o (λ _. ms))) (sym e) (pass_append (NodeFits fits) ns ms (f (pass_left (Passes fits) xs _ h)) (g (pass_right (Passes fits) xs _ h)))

  open_fit : (o : Option Bool) (xs ys : List Ask) (A B G : Type 0) → ((b : Bool) → Some b ≡ o → G) → (((b : Bool) → Some b ≡ o → ⊥) → A → B → G) → (AllPass fits xs → A) → (AllPass fits ys → B) → AllPass fits (asks_open o xs ys) → G
  unfolding asks_open
  open_fit (Some b) xs ys A B G known join f g h = known b refl
  open_fit None xs ys A B G known join f g h = join (λ b e. cc) (f (pass_left (Passes fits) xs ys h)) (g (pass_right (Passes fits) xs ys h))

  -- what the truth of a condition asks passes where what its truth just after asks does
  pub tests_fit : (k : ℕ) (c : Condition) (s : State) (rs : List Fraction) → AllPass fits (live_asks k c s rs) → AllFit fits (tests_of c s)
  unfolding tests_of
  tests_fit k Always s rs h = pass_none (NodeFits fits)
  tests_fit k Never s rs h = pass_none (NodeFits fits)
  tests_fit k (Both c d) s rs h =
      open_fit (decided (Both c d) s) _ _ (AllFit fits (tests_of c s)) (AllFit fits (tests_of d s)) (AllFit fits (tests_of (Both c d) s)) (λ b e. decided_asks fits (Both c d) b s e)
      (λ n a b. subst (AllFit fits) (sym (tests_pair true c d s (n false))) (pass_append (NodeFits fits) _ _ a b)) (tests_fit k c s rs) (tests_fit (k + comparisons c) d s rs) h
  tests_fit k (Either c d) s rs h =
      open_fit (decided (Either c d) s) _ _ (AllFit fits (tests_of c s)) (AllFit fits (tests_of d s)) (AllFit fits (tests_of (Either c d) s)) (λ b e. decided_asks fits (Either c d) b s e)
      (λ n a b. subst (AllFit fits) (sym (tests_pair false c d s (n true))) (pass_append (NodeFits fits) _ _ a b)) (tests_fit k c s rs) (tests_fit (k + comparisons c) d s rs) h
  tests_fit k (Atom a positive) s rs h = atom_asks fits a positive s
  tests_fit k (Compare t l r positive) s rs h =
      sides_fit (piece l s rs) (value l s) _ _ _ _ (tells_by l s rs _ refl) (nodes_fit l s rs) (nodes_fit r s rs) (is_line fits l s rs) (numbered_back fits (suc k) _ h)

  -- ---- what roots ask covers what the truth just after asks
  cross_side : (p q : Piece) (xs ys : List Ask) → AllPass fits (cross_sides p xs q ys) → AllPass fits (asks_sides p xs ys)
  unfolding cross_sides asks_sides
  cross_side Missing q xs ys h = h
  cross_side Crooked q xs ys h = h
  cross_side (Straight v m) q xs ys h = pass_append (Passes fits) xs ys (pass_left (Passes fits) xs _ h) (pass_left (Passes fits) ys _ (pass_right (Passes fits) xs _ h))

  open_both : (o : Option Bool) (xs ys us vs : List Ask) → (AllPass fits xs → AllPass fits us) → (AllPass fits ys → AllPass fits vs) → AllPass fits (asks_open o xs ys) → AllPass fits (asks_open o us vs)
  unfolding asks_open
  open_both (Some b) xs ys us vs f g h = h
  open_both None xs ys us vs f g h = pass_append (Passes fits) us vs (f (pass_left (Passes fits) xs ys h)) (g (pass_right (Passes fits) xs ys h))

  pub cross_live : (k : ℕ) (c : Condition) (s : State) (rs : List Fraction) → AllPass fits (cross_asks k c s rs) → AllPass fits (live_asks k c s rs)
  cross_live k Always s rs h = h
  cross_live k Never s rs h = h
  cross_live k (Both c d) s rs h = open_both (decided (Both c d) s) _ _ _ _ (cross_live k c s rs) (cross_live (k + comparisons c) d s rs) h
  cross_live k (Either c d) s rs h = open_both (decided (Either c d) s) _ _ _ _ (cross_live k c s rs) (cross_live (k + comparisons c) d s rs) h
  cross_live k (Atom a positive) s rs h = h
  cross_live k (Compare t l r positive) s rs h = numbered_pass fits (suc k) _ (cross_side (piece l s rs) (piece r s rs) _ _ (numbered_back fits (suc k) _ h))

-- ---- pieces depend on the fluents that are named
fluents_left : (xs ys : List ℕ) (s t : State) → SameFluents (xs ++ ys) s t → SameFluents xs s t
fluents_left xs ys s t h f i = h f (in_left xs ys f i)

fluents_right : (xs ys : List ℕ) (s t : State) → SameFluents (xs ++ ys) s t → SameFluents ys s t
fluents_right xs ys s t h f i = h f (in_right xs ys f i)

pub same_piece : (e : Expression) (s t : State) (rs : List Fraction) → SameFluents (names e) s t → piece e s rs ≡ piece e t rs
same_piece (Number x) s t rs h = refl
same_piece (Fluent f) s t rs h = ap (λ (o : Option Fraction). straight_fluent o (rate_of rs f)) (h f (in_first f []))
same_piece (Sum a b) s t rs h = ap₂ (on_pieces (λ v m w n. Straight (v +ℚ w) (m +ℚ n))) (same_piece a s t rs (fluents_left (names a) (names b) s t h)) (same_piece b s t rs (fluents_right (names a) (names b) s t h))
same_piece (Difference a b) s t rs h = ap₂ (on_pieces (λ v m w n. Straight (v -ℚ w) (m -ℚ n))) (same_piece a s t rs (fluents_left (names a) (names b) s t h)) (same_piece b s t rs (fluents_right (names a) (names b) s t h))
same_piece (Product a b) s t rs h = ap₂ (on_pieces product_piece) (same_piece a s t rs (fluents_left (names a) (names b) s t h)) (same_piece b s t rs (fluents_right (names a) (names b) s t h))
same_piece (Quotient a b) s t rs h = ap₂ (on_pieces quotient_piece) (same_piece a s t rs (fluents_left (names a) (names b) s t h)) (same_piece b s t rs (fluents_right (names a) (names b) s t h))

both_same : (op : Sign) (p q p' q' : Piece) (xs ys xs' ys' : List Ask) → p ≡ p' → q ≡ q' → xs ≡ xs' → ys ≡ ys' → asks_both op p xs q ys ≡ asks_both op p' xs' q' ys'
both_same op p q p' q' xs ys xs' ys' a b c d = cc

pub same_piece_asks : (e : Expression) (s t : State) (rs : List Fraction) → SameFluents (names e) s t → piece_asks e s rs ≡ piece_asks e t rs
same_piece_asks (Number x) s t rs h = refl
same_piece_asks (Fluent f) s t rs h = refl
same_piece_asks (Sum a b) s t rs h =
    let l = fluents_left (names a) (names b) s t h in let r = fluents_right (names a) (names b) s t h in
    both_same Plus _ _ _ _ _ _ _ _ (same_piece a s t rs l) (same_piece b s t rs r) (same_piece_asks a s t rs l) (same_piece_asks b s t rs r)
same_piece_asks (Difference a b) s t rs h =
    let l = fluents_left (names a) (names b) s t h in let r = fluents_right (names a) (names b) s t h in
    both_same Minus _ _ _ _ _ _ _ _ (same_piece a s t rs l) (same_piece b s t rs r) (same_piece_asks a s t rs l) (same_piece_asks b s t rs r)
same_piece_asks (Product a b) s t rs h =
    let l = fluents_left (names a) (names b) s t h in let r = fluents_right (names a) (names b) s t h in
    both_same Times _ _ _ _ _ _ _ _ (same_piece a s t rs l) (same_piece b s t rs r) (same_piece_asks a s t rs l) (same_piece_asks b s t rs r)
same_piece_asks (Quotient a b) s t rs h =
    let l = fluents_left (names a) (names b) s t h in let r = fluents_right (names a) (names b) s t h in
    both_same Divide _ _ _ _ _ _ _ _ (same_piece a s t rs l) (same_piece b s t rs r) (same_piece_asks a s t rs l) (same_piece_asks b s t rs r)

-- ---- simple sides
-- nothing that a still expression names moves
still_names : (e : Expression) (rs : List Fraction) → is_still e rs ≡ true → (f : ℕ) → is_in (names e) f ≡ true → is_zero (rate_of rs f) ≡ true
still_names (Number x) rs h f i = cc
still_names (Fluent g) rs h f i = elim (in_cases f g [] i) [ inl e ↦ subst (λ (k : ℕ). is_zero (rate_of rs k) ≡ true) (sym e) h | inr j ↦ cc ]
still_names (Sum a b) rs h f i = elim (in_either (names a) (names b) f i) [ inl j ↦ still_names a rs (first_and _ _ h) f j | inr j ↦ still_names b rs (second_and _ _ h) f j ]
still_names (Difference a b) rs h f i = elim (in_either (names a) (names b) f i) [ inl j ↦ still_names a rs (first_and _ _ h) f j | inr j ↦ still_names b rs (second_and _ _ h) f j ]
still_names (Product a b) rs h f i = elim (in_either (names a) (names b) f i) [ inl j ↦ still_names a rs (first_and _ _ h) f j | inr j ↦ still_names b rs (second_and _ _ h) f j ]
still_names (Quotient a b) rs h f i = elim (in_either (names a) (names b) f i) [ inl j ↦ still_names a rs (first_and _ _ h) f j | inr j ↦ still_names b rs (second_and _ _ h) f j ]

still_same : (e : Expression) (s : State) (rs : List Fraction) (x : Fraction) → is_still e rs ≡ true → SameFluents (names e) s (moved s rs x)
still_same e s rs x h f i = fluent_stays s rs x f (from_zero (rate_of rs f) (still_names e rs h f i))

abbrev has_line : Piece → Bool
has_line Missing = false
has_line Crooked = false
has_line (Straight v m) = true

by_line : (p q : Piece) (ys : List Ask) → has_line p ≡ has_line q → if_straight p ys ≡ if_straight q ys
by_line Missing Missing ys e = refl
by_line Missing Crooked ys e = refl
by_line Missing (Straight v m) ys e = cc
by_line Crooked Missing ys e = refl
by_line Crooked Crooked ys e = refl
by_line Crooked (Straight v m) ys e = cc
by_line (Straight v m) Missing ys e = cc
by_line (Straight v m) Crooked ys e = cc
by_line (Straight v m) (Straight w n) ys e = refl

-- a fluent that has a value keeps one
fluent_line : (f : ℕ) (s : State) (rs : List Fraction) (x : Fraction) (o : Option Fraction) → fluent_of s f ≡ o → has_line (piece (Fluent f) (moved s rs x) rs) ≡ has_line (piece (Fluent f) s rs)
fluent_line f s rs x None e =
    let gone : fluent_of (moved s rs x) f ≡ None = pieces_tell.missing (Fluent f) s rs (ap (λ (o : Option Fraction). straight_fluent o (rate_of rs f)) e) x in
    ap (λ (o : Option Fraction). has_line (straight_fluent o (rate_of rs f))) (gone ∙ sym e)
fluent_line f s rs x (Some v) e =
    let there : fluent_of (moved s rs x) f ≡ Some (v +ℚ rate_of rs f *ℚ x) = pieces_tell.straight (Fluent f) s rs v (rate_of rs f) (ap (λ (o : Option Fraction). straight_fluent o (rate_of rs f)) e) x in
    ap (λ (o : Option Fraction). has_line (straight_fluent o (rate_of rs f))) there ∙ sym (ap (λ (o : Option Fraction). has_line (straight_fluent o (rate_of rs f))) e)

plain_line : (e : Expression) (s : State) (rs : List Fraction) (x : Fraction) → is_plain e rs ≡ true → has_line (piece e (moved s rs x) rs) ≡ has_line (piece e s rs)
plain_line (Number y) s rs x h = refl
plain_line (Fluent f) s rs x h = fluent_line f s rs x (fluent_of s f) refl
plain_line (Sum a b) s rs x h = sym (ap has_line (same_piece (Sum a b) s (moved s rs x) rs (still_same (Sum a b) s rs x h)))
plain_line (Difference a b) s rs x h = sym (ap has_line (same_piece (Difference a b) s (moved s rs x) rs (still_same (Difference a b) s rs x h)))
plain_line (Product a b) s rs x h = sym (ap has_line (same_piece (Product a b) s (moved s rs x) rs (still_same (Product a b) s rs x h)))
plain_line (Quotient a b) s rs x h = sym (ap has_line (same_piece (Quotient a b) s (moved s rs x) rs (still_same (Quotient a b) s rs x h)))

plain_asks : (e : Expression) (s : State) (rs : List Fraction) (x : Fraction) → is_plain e rs ≡ true → piece_asks e (moved s rs x) rs ≡ piece_asks e s rs
plain_asks (Number y) s rs x h = refl
plain_asks (Fluent f) s rs x h = refl
plain_asks (Sum a b) s rs x h = sym (same_piece_asks (Sum a b) s (moved s rs x) rs (still_same (Sum a b) s rs x h))
plain_asks (Difference a b) s rs x h = sym (same_piece_asks (Difference a b) s (moved s rs x) rs (still_same (Difference a b) s rs x h))
plain_asks (Product a b) s rs x h = sym (same_piece_asks (Product a b) s (moved s rs x) rs (still_same (Product a b) s rs x h))
plain_asks (Quotient a b) s rs x h = sym (same_piece_asks (Quotient a b) s (moved s rs x) rs (still_same (Quotient a b) s rs x h))

sides_same : (p q : Piece) (xs ys us vs : List Ask) → has_line p ≡ has_line q → xs ≡ us → ys ≡ vs → asks_sides p xs ys ≡ asks_sides q us vs
unfolding asks_sides
sides_same p q xs ys us vs e d f = ap₂ (λ (us vs : List Ask). us ++ vs) d (by_line p q ys e ∙ ap (if_straight q) f)

open_same : (o o' : Option Bool) (xs ys us vs : List Ask) → o ≡ o' → xs ≡ us → ys ≡ vs → asks_open o xs ys ≡ asks_open o' us vs
open_same o o' xs ys us vs e d f = cc

decided_stays : (c : Condition) (s : State) (rs : List Fraction) (x : Fraction) → decided c (moved s rs x) ≡ decided c s
unfolding decided moved
decided_stays c s rs x = ap verdict (same_live c (moved s rs x) s (λ a i. refl))

-- a simple condition asks the same at each moment
pub simple_same : (k : ℕ) (c : Condition) (s : State) (rs : List Fraction) (x : Fraction) → is_simple c rs ≡ true → live_asks k c (moved s rs x) rs ≡ live_asks k c s rs
simple_same k Always s rs x h = refl
simple_same k Never s rs x h = refl
simple_same k (Both c d) s rs x h =
    open_same _ _ _ _ _ _ (decided_stays (Both c d) s rs x) (simple_same k c s rs x (first_and _ _ h)) (simple_same (k + comparisons c) d s rs x (second_and _ _ h))
simple_same k (Either c d) s rs x h =
    open_same _ _ _ _ _ _ (decided_stays (Either c d) s rs x) (simple_same k c s rs x (first_and _ _ h)) (simple_same (k + comparisons c) d s rs x (second_and _ _ h))
simple_same k (Atom a positive) s rs x h = refl
simple_same k (Compare t l r positive) s rs x h =
    ap (numbered (suc k)) (sides_same (piece l (moved s rs x) rs) (piece l s rs) _ _ _ _ (plain_line l s rs x (first_and _ _ h)) (plain_asks l s rs x (first_and _ _ h)) (plain_asks r s rs x (second_and _ _ h)))

-- ---- what stands still is simple
zero_is : (r : Fraction) → r ≡ whole (pos 0) → is_zero r ≡ true
zero_is r e = ap is_zero e ∙ ap (passes Same) (compared_refl (whole (pos 0)))

pub and_both : (x y : Bool) → x ≡ true → y ≡ true → x && y ≡ true
and_both x y e f = cc

abbrev NamesStill : List ℕ → List Fraction → Type 0
NamesStill fs rs = (f : ℕ) → is_in fs f ≡ true → rate_of rs f ≡ whole (pos 0)

names_left : (xs ys : List ℕ) (rs : List Fraction) → NamesStill (xs ++ ys) rs → NamesStill xs rs
names_left xs ys rs h f i = h f (in_left xs ys f i)

names_right : (xs ys : List ℕ) (rs : List Fraction) → NamesStill (xs ++ ys) rs → NamesStill ys rs
names_right xs ys rs h f i = h f (in_right xs ys f i)

still_is : (e : Expression) (rs : List Fraction) → NamesStill (names e) rs → is_still e rs ≡ true
still_is (Number x) rs h = refl
still_is (Fluent f) rs h = zero_is (rate_of rs f) (h f (in_first f []))
still_is (Sum a b) rs h = and_both _ _ (still_is a rs (names_left (names a) (names b) rs h)) (still_is b rs (names_right (names a) (names b) rs h))
still_is (Difference a b) rs h = and_both _ _ (still_is a rs (names_left (names a) (names b) rs h)) (still_is b rs (names_right (names a) (names b) rs h))
still_is (Product a b) rs h = and_both _ _ (still_is a rs (names_left (names a) (names b) rs h)) (still_is b rs (names_right (names a) (names b) rs h))
still_is (Quotient a b) rs h = and_both _ _ (still_is a rs (names_left (names a) (names b) rs h)) (still_is b rs (names_right (names a) (names b) rs h))

plain_is : (e : Expression) (rs : List Fraction) → NamesStill (names e) rs → is_plain e rs ≡ true
plain_is (Number x) rs h = refl
plain_is (Fluent f) rs h = refl
plain_is (Sum a b) rs h = still_is (Sum a b) rs h
plain_is (Difference a b) rs h = still_is (Difference a b) rs h
plain_is (Product a b) rs h = still_is (Product a b) rs h
plain_is (Quotient a b) rs h = still_is (Quotient a b) rs h

pub still_simple : (c : Condition) (rs : List Fraction) → StandsStill c rs → is_simple c rs ≡ true
still_simple Always rs h = refl
still_simple Never rs h = refl
still_simple (Both c d) rs h = and_both _ _ (still_simple c rs (names_left (fluents_read c) (fluents_read d) rs h)) (still_simple d rs (names_right (fluents_read c) (fluents_read d) rs h))
still_simple (Either c d) rs h = and_both _ _ (still_simple c rs (names_left (fluents_read c) (fluents_read d) rs h)) (still_simple d rs (names_right (fluents_read c) (fluents_read d) rs h))
still_simple (Atom a positive) rs h = refl
still_simple (Compare t l r positive) rs h = and_both _ _ (plain_is l rs (names_left (names l) (names r) rs h)) (plain_is r rs (names_right (names l) (names r) rs h))
