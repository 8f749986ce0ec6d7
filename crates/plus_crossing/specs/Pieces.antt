-- The tests that a piece asks, in the order of evaluation (this project's profile): the operands from the left; where both
-- have a value, that one factor, or the divisor, stands still; then the node of the value, and then the node of the slope
-- where it has one. A zero divisor that stands still asks no node and has no value.
use Rattle.std.specs.Prelude.{◌≡◌, List, [], ◌∷◌, ◌++◌, ◌||◌, Option, Some, None, Result, MatchResult, if◌then◌else◌}
use Rattle.plus_fraction.specs.Fraction.{Fraction, ◌+ℚ◌, ◌-ℚ◌}
use Rattle.plus_model.specs.Terms.{Expression, Number, Fluent, Sum, Difference, Product, Quotient, State}
use Rattle.plus_model.specs.Value.{is_zero}
use Rattle.plus_model.specs.Piece.{Piece, Missing, Crooked, Straight, piece, product_piece, quotient_piece}
use Rattle.plus_state.specs.declared.term.Sign.{Sign}
use Rattle.plus_state.specs.declared.term.Sign.TheVariants.{Plus, Minus, Times, Divide}
use Rattle.plus_state.specs.Asked.{node}
use Rattle.plus_crossing.specs.declared.node.PieceStop.{PieceStop}
use Rattle.plus_crossing.specs.declared.pieces.Linear.{Linear}
use Rattle.plus_crossing.specs.Asked.{Ask, asks, straight, AllPass, FirstFailing, stop_of}

abbrev pub sum_asks : Fraction → Fraction → Fraction → Fraction → List Ask
sum_asks v m w n = asks (node Plus v w) ∷ asks (node Plus m n) ∷ []

abbrev pub difference_asks : Fraction → Fraction → Fraction → Fraction → List Ask
difference_asks v m w n = asks (node Minus v w) ∷ asks (node Minus m n) ∷ []

-- one factor stands still; the slope asks a node where the other moves
abbrev pub product_slope : Fraction → Fraction → Fraction → Fraction → List Ask
product_slope v m w n = if is_zero m then if is_zero n then [] else asks (node Times v n) ∷ [] else asks (node Times m w) ∷ []

abbrev pub product_asks : Fraction → Fraction → Fraction → Fraction → List Ask
product_asks v m w n = straight 0 (is_zero m || is_zero n) ∷ asks (node Times v w) ∷ product_slope v m w n

abbrev pub quotient_slope : Fraction → Fraction → List Ask
quotient_slope m w = if is_zero m then [] else asks (node Divide m w) ∷ []

-- the divisor stands still; a zero divisor asks nothing more
abbrev pub quotient_asks : Fraction → Fraction → Fraction → Fraction → List Ask
quotient_asks v m w n = straight 0 (is_zero n) ∷ (if is_zero w then [] else asks (node Divide v w) ∷ quotient_slope m w)

-- by the operation
unfoldable pub op_asks : Sign → Fraction → Fraction → Fraction → Fraction → List Ask
op_asks Plus v m w n = sum_asks v m w n
op_asks Minus v m w n = difference_asks v m w n
op_asks Times v m w n = product_asks v m w n
op_asks Divide v m w n = quotient_asks v m w n

unfoldable pub op_piece : Sign → Fraction → Fraction → Fraction → Fraction → Piece
op_piece Plus v m w n = Straight (v +ℚ w) (m +ℚ n)
op_piece Minus v m w n = Straight (v -ℚ w) (m -ℚ n)
op_piece Times v m w n = product_piece v m w n
op_piece Divide v m w n = quotient_piece v m w n

-- after a side with a value
abbrev pub if_straight : Piece → List Ask → List Ask
if_straight Missing ts = []
if_straight Crooked ts = []
if_straight (Straight v m) ts = ts

abbrev pub ask_on : Sign → Piece → Piece → List Ask
ask_on op Missing q = []
ask_on op Crooked q = []
ask_on op (Straight v m) Missing = []
ask_on op (Straight v m) Crooked = []
ask_on op (Straight v m) (Straight w n) = op_asks op v m w n

-- the left side's tests, the right side's where the left has a value, and then the node's
unfoldable pub asks_both : Sign → Piece → List Ask → Piece → List Ask → List Ask
asks_both op p xs q ys = xs ++ if_straight p (ys ++ ask_on op p q)

abbrev pub piece_asks : Expression → State → List Fraction → List Ask
piece_asks (Number x) s rs = []
piece_asks (Fluent f) s rs = []
piece_asks (Sum a b) s rs = asks_both Plus (piece a s rs) (piece_asks a s rs) (piece b s rs) (piece_asks b s rs)
piece_asks (Difference a b) s rs = asks_both Minus (piece a s rs) (piece_asks a s rs) (piece b s rs) (piece_asks b s rs)
piece_asks (Product a b) s rs = asks_both Times (piece a s rs) (piece_asks a s rs) (piece b s rs) (piece_asks b s rs)
piece_asks (Quotient a b) s rs = asks_both Divide (piece a s rs) (piece_asks a s rs) (piece b s rs) (piece_asks b s rs)

-- the piece that the code's answer means
abbrev pub piece_of : {Q : Type 0} → (Q → Fraction) → Option (Linear Q) → Piece
piece_of v None = Missing
piece_of v (Some l) = Straight (v l.value) (v l.slope)

-- this piece where each test passes, and else the first test that fails
abbrev pub Worked : {Q : Type 0} → (Q → Fraction) → (Fraction → Type 0) → Piece → List Ask → Result (Option (Linear Q)) (PieceStop Q) → Type 0
Worked v fits p ts r = MatchResult r (λ o. AllPass fits ts × (piece_of v o ≡ p)) (λ w. FirstFailing fits ts (stop_of v w))
