-- What an operation on two sides asks, by what its sides ask.
use Rattle.std.proofs.Common.{◌≡◌, ℕ, List, ◌++◌, ap, ap₂, subst, ◌∙◌}
use Rattle.plus_fraction.specs.Fraction.{Fraction, ◌+ℚ◌, ◌-ℚ◌}
use Rattle.plus_model.specs.Piece.{Piece, Missing, Straight, on_pieces, product_piece, quotient_piece}
use Rattle.plus_crossing.specs.Asked.{Ask, asks, straight, Passes, AllPass, FirstFailing, number, numbered}
use Rattle.plus_state.specs.Tested.{Carries}
use Rattle.plus_state.proofs.Testing.{pass_none, pass_append, fail_left, fail_right, carry_pass, carry_back, carry_fail}
use Rattle.plus_crossing.specs.Pieces.{if_straight, ask_on, asks_both, op_asks, op_piece}
use Rattle.plus_state.specs.declared.term.Sign.{Sign}
use Rattle.plus_state.specs.declared.term.Sign.TheVariants.{Plus, Minus, Times, Divide}

pub left_fails : (fits : Fraction → Type 0) (op : Sign) (p q : Piece) (xs ys : List Ask) (m : Ask) → FirstFailing fits xs m → FirstFailing fits (asks_both op p xs q ys) m
unfolding asks_both
left_fails fits op p q xs ys m h = fail_left (Passes fits) xs _ m h

pub left_missing : (fits : Fraction → Type 0) (op : Sign) (p q : Piece) (xs ys : List Ask) → AllPass fits xs → Missing ≡ p → AllPass fits (asks_both op p xs q ys)
unfolding asks_both
left_missing fits op p q xs ys a e = pass_append (Passes fits) xs _ a (subst (λ p. AllPass fits (if_straight p (ys ++ ask_on op p q))) e (pass_none (Passes fits)))

pub right_fails : (fits : Fraction → Type 0) (op : Sign) (p q : Piece) (xs ys : List Ask) (v m : Fraction) (t : Ask) → AllPass fits xs → Straight v m ≡ p → FirstFailing fits ys t → FirstFailing fits (asks_both op p xs q ys) t
unfolding asks_both
right_fails fits op p q xs ys v m t a e h = fail_right (Passes fits) xs _ t a (subst (λ p. FirstFailing fits (if_straight p (ys ++ ask_on op p q)) t) e (fail_left (Passes fits) ys _ t h))

pub right_missing : (fits : Fraction → Type 0) (op : Sign) (p q : Piece) (xs ys : List Ask) (v m : Fraction) → AllPass fits xs → Straight v m ≡ p → AllPass fits ys → Missing ≡ q → AllPass fits (asks_both op p xs q ys)
unfolding asks_both
right_missing fits op p q xs ys v m a e b f = pass_append (Passes fits) xs _ a
    (subst (λ p. AllPass fits (if_straight p (ys ++ ask_on op p q))) e (pass_append (Passes fits) ys _ b (subst (λ q. AllPass fits (ask_on op (Straight v m) q)) f (pass_none (Passes fits)))))

pub both_pass : (fits : Fraction → Type 0) (op : Sign) (p q : Piece) (xs ys : List Ask) (v m w n : Fraction) → AllPass fits (op_asks op v m w n) → AllPass fits xs → Straight v m ≡ p → AllPass fits ys → Straight w n ≡ q → AllPass fits (asks_both op p xs q ys)
unfolding asks_both
both_pass fits op p q xs ys v m w n h a e b f = pass_append (Passes fits) xs _ a
    (subst (λ p. AllPass fits (if_straight p (ys ++ ask_on op p q))) e (pass_append (Passes fits) ys _ b (subst (λ q. AllPass fits (ask_on op (Straight v m) q)) f h)))

pub node_fails : (fits : Fraction → Type 0) (op : Sign) (p q : Piece) (xs ys : List Ask) (v m w n : Fraction) (t : Ask) → FirstFailing fits (op_asks op v m w n) t → AllPass fits xs → Straight v m ≡ p → AllPass fits ys → Straight w n ≡ q → FirstFailing fits (asks_both op p xs q ys) t
unfolding asks_both
node_fails fits op p q xs ys v m w n t h a e b f = fail_right (Passes fits) xs _ t a
    (subst (λ p. FirstFailing fits (if_straight p (ys ++ ask_on op p q)) t) e (fail_right (Passes fits) ys _ t b (subst (λ q. FirstFailing fits (ask_on op (Straight v m) q) t) f h)))

pub piece_left : (op : Fraction → Fraction → Fraction → Fraction → Piece) (p q : Piece) → Missing ≡ p → Missing ≡ on_pieces op p q
piece_left op p q e = ap (λ p. on_pieces op p q) e

pub piece_right : (op : Fraction → Fraction → Fraction → Fraction → Piece) (p q : Piece) (v m : Fraction) → Straight v m ≡ p → Missing ≡ q → Missing ≡ on_pieces op p q
piece_right op p q v m e f = ap₂ (on_pieces op) e f

pub piece_sum : (p q r : Piece) (v m w n : Fraction) → r ≡ op_piece Plus v m w n → Straight v m ≡ p → Straight w n ≡ q → r ≡ on_pieces (λ v m w n. Straight (v +ℚ w) (m +ℚ n)) p q
unfolding op_piece
piece_sum p q r v m w n d e f = d ∙ ap₂ (on_pieces (λ v m w n. Straight (v +ℚ w) (m +ℚ n))) e f

pub piece_difference : (p q r : Piece) (v m w n : Fraction) → r ≡ op_piece Minus v m w n → Straight v m ≡ p → Straight w n ≡ q → r ≡ on_pieces (λ v m w n. Straight (v -ℚ w) (m -ℚ n)) p q
unfolding op_piece
piece_difference p q r v m w n d e f = d ∙ ap₂ (on_pieces (λ v m w n. Straight (v -ℚ w) (m -ℚ n))) e f

pub piece_product : (p q r : Piece) (v m w n : Fraction) → r ≡ op_piece Times v m w n → Straight v m ≡ p → Straight w n ≡ q → r ≡ on_pieces product_piece p q
unfolding op_piece
piece_product p q r v m w n d e f = d ∙ ap₂ (on_pieces product_piece) e f

pub piece_quotient : (p q r : Piece) (v m w n : Fraction) → r ≡ op_piece Divide v m w n → Straight v m ≡ p → Straight w n ≡ q → r ≡ on_pieces quotient_piece p q
unfolding op_piece
piece_quotient p q r v m w n d e f = d ∙ ap₂ (on_pieces quotient_piece) e f

pub ruleset joins = (pass_none, left_fails, left_missing, right_fails, right_missing, both_pass, node_fails, piece_left, piece_right, piece_sum, piece_difference, piece_product, piece_quotient)

-- a number of a comparison changes nothing of whether a test passes
pub number_carries : (fits : Fraction → Type 0) (k : ℕ) → Carries (number k) (Passes fits) (Passes fits)
unfolding Passes
number_carries fits k = record {
  there = λ t. elim t as (λ t. Passes fits t → Passes fits (number k t)) [ asks n ↦ λ h. h | straight j b ↦ λ h. h ];
  back = λ t. elim t as (λ t. Passes fits (number k t) → Passes fits t) [ asks n ↦ λ h. h | straight j b ↦ λ h. h ];
}

-- tests with the numbers of comparisons
pub numbered_pass : (fits : Fraction → Type 0) (k : ℕ) (ts : List Ask) → AllPass fits ts → AllPass fits (numbered k ts)
unfolding numbered
numbered_pass fits k ts h = carry_pass (number_carries fits k) ts h

pub numbered_back : (fits : Fraction → Type 0) (k : ℕ) (ts : List Ask) → AllPass fits (numbered k ts) → AllPass fits ts
unfolding numbered
numbered_back fits k ts h = carry_back (number_carries fits k) ts h

pub numbered_first : (fits : Fraction → Type 0) (k : ℕ) (ts : List Ask) (m : Ask) → FirstFailing fits ts m → FirstFailing fits (numbered k ts) (number k m)
unfolding numbered
numbered_first fits k ts m h = carry_fail (number_carries fits k) ts m h
