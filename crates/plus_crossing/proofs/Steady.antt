-- Where each test passes and no live comparison has a root, plus_model's NoRoot holds.
use Rattle.std.proofs.Common.{◌≡◌, ℕ, suc, ◌+◌, true, false, Bool, List, [], ◌||◌, refl, subst, if◌then◌else◌, inl, inr, pos}
use Rattle.std.specs.Prelude.{Option, Some, None}
use Rattle.plus_fraction.specs.Fraction.{Fraction, whole, ◌<ℚ◌, ◌≤ℚ◌, ◌+ℚ◌, ◌*ℚ◌, ◌/ℚ◌}
use Rattle.plus_model.specs.Terms.{Expression, Number, Fluent, Sum, Difference, Product, Quotient, Condition, Always, Never, Both, Either, Atom, Compare, State}
use Rattle.plus_model.specs.Value.{is_zero, fluent_of, signed, atom_of, value}
use Rattle.plus_model.specs.Running.{moved}
use Rattle.plus_model.specs.Piece.{Piece, Missing, Crooked, Straight, piece, on_pieces, straight_fluent, rate_of, NoRoot, NoRootSides}
use Rattle.plus_model.specs.Live.{live, live_both, live_either}
use Rattle.plus_state.specs.declared.term.Sign.{Sign}
use Rattle.plus_state.specs.declared.term.Sign.TheVariants.{Plus, Minus, Times, Divide}
use Rattle.plus_crossing.specs.Asked.{Ask, Passes, AllPass}
use Rattle.plus_crossing.specs.Pieces.{op_asks, op_piece, asks_both, piece_asks}
use Rattle.plus_crossing.specs.Roots.{meets_later, meeting_asks, root_asks}
use Rattle.plus_crossing.specs.Laws.{PiecesTell, AnySize, OneTruthUntilRoot, OneTruthUntilNext}
use Rattle.plus_fraction.proofs.FractionAtMost.{≤ℚ-<ℚ_trans}
use Rattle.plus_model.proofs.Along.{FollowsPiece, along}
use Rattle.plus_model.proofs.Search.{OneTruth, live_truth}
use Rattle.plus_state.specs.Fits.{comparisons}
use Rattle.plus_state.specs.Tests.{verdict, decided}
use Rattle.plus_crossing.specs.Conds.{asks_open, asks_sides, live_asks}
use Rattle.plus_state.specs.Tested as tested
use Rattle.plus_state.specs.Asked.{NodeFits}
use Rattle.plus_crossing.proofs.Joins.{numbered_pass, numbered_back}
use Rattle.plus_state.proofs.Testing.{pass_none, pass_append, pass_left, pass_right}
use Rattle.plus_crossing.specs.Next.{cross_sides, cross_asks, RootSides, RootOpen, LiveRoot, IsNext}

abbrev pub IsLine : Piece → Type 0
IsLine Missing = Unit {0}
IsLine Crooked = ⊥
IsLine (Straight v m) = Unit {0}

product_line : (x y z : Fraction) (b c : Bool) → (b || c) ≡ true → IsLine (if b then Straight x y else if c then Straight x z else Crooked)
product_line x y z true c e = tt
product_line x y z false true e = tt
product_line x y z false false e = cc

quotient_line : (x y : Fraction) (b c : Bool) → b ≡ true → IsLine (if b then if c then Missing else Straight x y else Crooked)
quotient_line x y true true e = tt
quotient_line x y true false e = tt
quotient_line x y false c e = cc

op_line : (fits : Fraction → Type 0) (op : Sign) (v m w n : Fraction) → AllPass fits (op_asks op v m w n) → IsLine (op_piece op v m w n)
unfolding op_asks op_piece tested.AllPass Passes
op_line fits Plus v m w n h = tt
op_line fits Minus v m w n h = tt
op_line fits Times v m w n h = product_line (v *ℚ w) (v *ℚ n) (m *ℚ w) (is_zero m) (is_zero n) h.0
op_line fits Divide v m w n h = quotient_line (v /ℚ w) (m /ℚ w) (is_zero n) (is_zero w) h.0

both_line : (fits : Fraction → Type 0) (op : Sign) (p q : Piece) (xs ys : List Ask) → (AllPass fits xs → IsLine p) → (AllPass fits ys → IsLine q) → AllPass fits (asks_both op p xs q ys) → IsLine (on_pieces (op_piece op) p q)
unfolding asks_both
both_line fits op Missing q xs ys f g h = tt
both_line fits op Crooked q xs ys f g h = f (pass_left (Passes fits) xs _ h)
both_line fits op (Straight v m) Missing xs ys f g h = tt
both_line fits op (Straight v m) Crooked xs ys f g h = g (pass_left (Passes fits) ys _ (pass_right (Passes fits) xs _ h))
both_line fits op (Straight v m) (Straight w n) xs ys f g h = op_line fits op v m w n (pass_right (Passes fits) ys _ (pass_right (Passes fits) xs _ h))

fluent_line : (o : Option Fraction) (m : Fraction) → IsLine (straight_fluent o m)
fluent_line None m = tt
fluent_line (Some v) m = tt

pub is_line : (fits : Fraction → Type 0) (e : Expression) (s : State) (rs : List Fraction) → AllPass fits (piece_asks e s rs) → IsLine (piece e s rs)
unfolding op_piece
is_line fits (Number x) s rs h = tt
is_line fits (Fluent f) s rs h = fluent_line (fluent_of s f) (rate_of rs f)
is_line fits (Sum a b) s rs h = both_line fits Plus (piece a s rs) (piece b s rs) (piece_asks a s rs) (piece_asks b s rs) (is_line fits a s rs) (is_line fits b s rs) h
is_line fits (Difference a b) s rs h = both_line fits Minus (piece a s rs) (piece b s rs) (piece_asks a s rs) (piece_asks b s rs) (is_line fits a s rs) (is_line fits b s rs) h
is_line fits (Product a b) s rs h = both_line fits Times (piece a s rs) (piece b s rs) (piece_asks a s rs) (piece_asks b s rs) (is_line fits a s rs) (is_line fits b s rs) h
is_line fits (Quotient a b) s rs h = both_line fits Divide (piece a s rs) (piece b s rs) (piece_asks a s rs) (piece_asks b s rs) (is_line fits a s rs) (is_line fits b s rs) h

sides_free : (fits : Fraction → Type 0) (p q : Piece) (xs ys : List Ask) (a b : Fraction) → ((x : Fraction) → a <ℚ x → whole (pos 0) <ℚ x) → (AllPass fits xs → IsLine p) → (AllPass fits ys → IsLine q) → AllPass fits (cross_sides p xs q ys) → ((x : Fraction) → a <ℚ x → x <ℚ b → RootSides p q x → ⊥) → NoRootSides p q a b
unfolding cross_sides RootSides
sides_free fits Missing q xs ys a b up f g h k = tt
sides_free fits Crooked q xs ys a b up f g h k = f (pass_left (Passes fits) xs _ h)
sides_free fits (Straight v m) Missing xs ys a b up f g h k = tt
sides_free fits (Straight v m) Crooked xs ys a b up f g h k = g (pass_left (Passes fits) ys _ (pass_right (Passes fits) xs _ h))
sides_free fits (Straight v m) (Straight w n) xs ys a b up f g h k = λ r i j d e. k r i j (record { apart = d; above = up r i; meet = e })

decided_free : (l : Condition) (s : State) (rs : List Fraction) (a b : Fraction) (t : Bool) → verdict l ≡ Some t → NoRoot l s rs a b
decided_free Always s rs a b t e = tt
decided_free Never s rs a b t e = tt
decided_free (Both c d) s rs a b t e = cc
decided_free (Either c d) s rs a b t e = cc
decided_free (Atom k positive) s rs a b t e = tt
decided_free (Compare u l r positive) s rs a b t e = cc

free_both : (c d : Condition) (s : State) (rs : List Fraction) (a b : Fraction) → NoRoot c s rs a b → NoRoot d s rs a b → NoRoot (live_both c d) s rs a b
free_both Never d s rs a b x y = tt
free_both c Never s rs a b x y = tt
free_both Always d s rs a b x y = y
free_both c Always s rs a b x y = x
free_both c d s rs a b x y = (x, y)

free_either : (c d : Condition) (s : State) (rs : List Fraction) (a b : Fraction) → NoRoot c s rs a b → NoRoot d s rs a b → NoRoot (live_either c d) s rs a b
free_either Always d s rs a b x y = tt
free_either c Always s rs a b x y = tt
free_either Never d s rs a b x y = y
free_either c Never s rs a b x y = x
free_either c d s rs a b x y = (x, y)

atom_free : (t : Bool) (s : State) (rs : List Fraction) (a b : Fraction) → NoRoot (if t then Always else Never) s rs a b
atom_free true s rs a b = tt
atom_free false s rs a b = tt

-- open or decided
either_way : (fits : Fraction → Type 0) (o : Option Bool) (xs ys : List Ask) (P Q : Fraction → Type 0) (a b : Fraction) (A B G : Type 0) → ((t : Bool) → o ≡ Some t → G) → (A → B → G)
    → (AllPass fits xs → ((x : Fraction) → a <ℚ x → x <ℚ b → P x → ⊥) → A) → (AllPass fits ys → ((x : Fraction) → a <ℚ x → x <ℚ b → Q x → ⊥) → B)
    → AllPass fits (asks_open o xs ys) → ((x : Fraction) → a <ℚ x → x <ℚ b → RootOpen o P Q x → ⊥) → G
unfolding asks_open RootOpen
either_way fits (Some t) xs ys P Q a b A B G decided join f g h k = decided t refl
either_way fits None xs ys P Q a b A B G decided join f g h k =
    join (f (pass_left (Passes fits) xs ys h) (λ x i j p. k x i j (inl p))) (g (pass_right (Passes fits) xs ys h) (λ x i j q. k x i j (inr q)))

-- the hypothesis of the constancy law
pub no_root_live : (fits : Fraction → Type 0) (k : ℕ) (c : Condition) (s : State) (rs : List Fraction) (a b : Fraction) → ((x : Fraction) → a <ℚ x → whole (pos 0) <ℚ x) → AllPass fits (cross_asks k c s rs) → ((x : Fraction) → a <ℚ x → x <ℚ b → LiveRoot c s rs x → ⊥) → NoRoot (live c s) s rs a b
unfolding decided
no_root_live fits n Always s rs a b up h k = tt
no_root_live fits n Never s rs a b up h k = tt
no_root_live fits n (Both c d) s rs a b up h k =
    either_way fits (decided (Both c d) s) (cross_asks n c s rs) (cross_asks (n + comparisons c) d s rs) (LiveRoot c s rs) (LiveRoot d s rs) a b (NoRoot (live c s) s rs a b) (NoRoot (live d s) s rs a b) (NoRoot (live (Both c d) s) s rs a b)
    (decided_free (live_both (live c s) (live d s)) s rs a b) (free_both (live c s) (live d s) s rs a b) (no_root_live fits n c s rs a b up) (no_root_live fits (n + comparisons c) d s rs a b up) h k
no_root_live fits n (Either c d) s rs a b up h k =
    either_way fits (decided (Either c d) s) (cross_asks n c s rs) (cross_asks (n + comparisons c) d s rs) (LiveRoot c s rs) (LiveRoot d s rs) a b (NoRoot (live c s) s rs a b) (NoRoot (live d s) s rs a b) (NoRoot (live (Either c d) s) s rs a b)
    (decided_free (live_either (live c s) (live d s)) s rs a b) (free_either (live c s) (live d s) s rs a b) (no_root_live fits n c s rs a b up) (no_root_live fits (n + comparisons c) d s rs a b up) h k
no_root_live fits n (Atom i positive) s rs a b up h k = atom_free (signed positive (atom_of s i)) s rs a b
no_root_live fits n (Compare t l r positive) s rs a b up h k =
    sides_free fits (piece l s rs) (piece r s rs) (piece_asks l s rs) (piece_asks r s rs) a b up (is_line fits l s rs) (is_line fits r s rs) (numbered_back fits (suc n) _ h) k

-- ---- numbers of any size: only the linearity tests matter, and a root asks none
meeting_passes : (b : Bool) (v m w n : Fraction) → AllPass AnySize (if b then meeting_asks v m w n else [])
unfolding tested.AllPass Passes NodeFits
meeting_passes true v m w n = (tt, (tt, (tt, tt)))
meeting_passes false v m w n = tt

root_passes : (v m w n : Fraction) → AllPass AnySize (root_asks v m w n)
unfolding root_asks
root_passes v m w n = meeting_passes (meets_later v m w n) v m w n

cross_side : (p q : Piece) (xs ys : List Ask) → AllPass AnySize (asks_sides p xs ys) → AllPass AnySize (cross_sides p xs q ys)
unfolding asks_sides cross_sides
cross_side Missing q xs ys h = h
cross_side Crooked q xs ys h = h
cross_side (Straight v m) Missing xs ys h = pass_append (Passes AnySize) xs _ (pass_left (Passes AnySize) xs ys h) (pass_append (Passes AnySize) ys [] (pass_right (Passes AnySize) xs ys h) (pass_none (Passes AnySize)))
cross_side (Straight v m) Crooked xs ys h = pass_append (Passes AnySize) xs _ (pass_left (Passes AnySize) xs ys h) (pass_append (Passes AnySize) ys [] (pass_right (Passes AnySize) xs ys h) (pass_none (Passes AnySize)))
cross_side (Straight v m) (Straight w n) xs ys h =
    pass_append (Passes AnySize) xs _ (pass_left (Passes AnySize) xs ys h) (pass_append (Passes AnySize) ys _ (pass_right (Passes AnySize) xs ys h) (root_passes v m w n))

cross_open : (o : Option Bool) (xs ys us vs : List Ask) → (AllPass AnySize xs → AllPass AnySize us) → (AllPass AnySize ys → AllPass AnySize vs) → AllPass AnySize (asks_open o xs ys) → AllPass AnySize (asks_open o us vs)
unfolding asks_open
cross_open (Some t) xs ys us vs f g h = h
cross_open None xs ys us vs f g h = pass_append (Passes AnySize) us vs (f (pass_left (Passes AnySize) xs ys h)) (g (pass_right (Passes AnySize) xs ys h))

cross_linear : (k : ℕ) (c : Condition) (s : State) (rs : List Fraction) → AllPass AnySize (live_asks k c s rs) → AllPass AnySize (cross_asks k c s rs)
cross_linear k Always s rs h = h
cross_linear k Never s rs h = h
cross_linear k (Both c d) s rs h =
    cross_open (decided (Both c d) s) (live_asks k c s rs) (live_asks (k + comparisons c) d s rs) _ _ (cross_linear k c s rs) (cross_linear (k + comparisons c) d s rs) h
cross_linear k (Either c d) s rs h =
    cross_open (decided (Either c d) s) (live_asks k c s rs) (live_asks (k + comparisons c) d s rs) _ _ (cross_linear k c s rs) (cross_linear (k + comparisons c) d s rs) h
cross_linear k (Atom i positive) s rs h = h
cross_linear k (Compare t l r positive) s rs h =
    numbered_pass AnySize (suc k) _ (cross_side (piece l s rs) (piece r s rs) (piece_asks l s rs) (piece_asks r s rs) (numbered_back AnySize (suc k) _ h))

-- ---- the constancy law
one_truth : (fits : Fraction → Type 0) (c : Condition) (s : State) (rs : List Fraction) (a u : Fraction) → whole (pos 0) ≤ℚ a → AllPass fits (cross_asks 0 c s rs) → ((x : Fraction) → a <ℚ x → x <ℚ u → LiveRoot c s rs x → ⊥) → OneTruth c s rs a u
one_truth fits c s rs a u up h k = live_truth c s rs a u (no_root_live fits 0 c s rs a u (λ z q. ≤ℚ-<ℚ_trans _ _ _ up q) h k)

pub one_truth_until_root : OneTruthUntilRoot
one_truth_until_root c s rs a u up h k = one_truth AnySize c s rs a u up (cross_linear 0 c s rs h) k

pub one_truth_until_next : (fits : Fraction → Type 0) → OneTruthUntilNext fits
unfolding IsNext
one_truth_until_next fits c s rs a u None up h k = one_truth fits c s rs a u up h k
one_truth_until_next fits c s rs a u (Some r) up h k = one_truth fits c s rs a r up h k.none

-- ---- what a piece tells
straight_tells : (p : Piece) (f : Fraction → Option Fraction) (v m : Fraction) → FollowsPiece p f → p ≡ Straight v m → (x : Fraction) → f x ≡ Some (v +ℚ m *ℚ x)
straight_tells p f v m h e x = (subst (λ (q : Piece). FollowsPiece q f) e h) x

missing_tells : (p : Piece) (f : Fraction → Option Fraction) → FollowsPiece p f → p ≡ Missing → (x : Fraction) → f x ≡ None
missing_tells p f h e x = (subst (λ (q : Piece). FollowsPiece q f) e h) x

pub pieces_tell : PiecesTell
pieces_tell = record {
  straight = λ e s rs v m h. straight_tells (piece e s rs) (λ x. value e (moved s rs x)) v m (along e s rs) h;
  missing = λ e s rs h. missing_tells (piece e s rs) (λ x. value e (moved s rs x)) (along e s rs) h;
}
