-- Where two lines meet, and the nodes that this asks.
use Rattle.std.specs.Prelude.{◌≡◌, Bool, true, false, List, [], ◌∷◌, Option, Result, MatchResult, MatchOption, pos, if◌then◌else◌}
use Rattle.std.specs.declared.cmp.Ordering.{Ordering}
use Rattle.std.specs.declared.cmp.Ordering.TheVariants.{Less, Equal, Greater}
use Rattle.plus_fraction.specs.Fraction.{Fraction, whole, ◌+ℚ◌, ◌-ℚ◌, ◌*ℚ◌, ◌<ℚ◌, compared}
use Rattle.plus_state.specs.declared.term.Sign.TheVariants.{Minus, Divide}
use Rattle.plus_state.specs.Asked.{node}
use Rattle.plus_crossing.specs.declared.node.PieceStop.{PieceStop}
use Rattle.plus_crossing.specs.Asked.{Ask, asks, AllPass, FirstFailing, stop_of}

-- two lines of different slopes meet at r, which is above 0
pub record IsRoot (v m w n r : Fraction) : Type 0 where
  pub apart : m ≡ n → ⊥
  pub above : whole (pos 0) <ℚ r
  pub meet : v +ℚ m *ℚ r ≡ w +ℚ n *ℚ r

abbrev pub opposite : Ordering → Ordering → Bool
opposite Less Less = false
opposite Less Equal = false
opposite Less Greater = true
opposite Equal o = false
opposite Greater Less = true
opposite Greater Equal = false
opposite Greater Greater = false

-- the values differ, the slopes differ and the root is not negative: no node is asked for this
unfoldable pub meets_later : Fraction → Fraction → Fraction → Fraction → Bool
meets_later v m w n = opposite (compared v w) (compared m n)

abbrev pub meeting_asks : Fraction → Fraction → Fraction → Fraction → List Ask
meeting_asks v m w n = asks (node Minus w v) ∷ asks (node Minus m n) ∷ asks (node Divide (w -ℚ v) (m -ℚ n)) ∷ []

unfoldable pub root_asks : Fraction → Fraction → Fraction → Fraction → List Ask
root_asks v m w n = if meets_later v m w n then meeting_asks v m w n else []

-- the root and no other, or that there is none; or the first node that does not fit
abbrev pub RootAnswers : {Q : Type 0} → (Q → Fraction) → (Fraction → Type 0) → Fraction → Fraction → Fraction → Fraction → Result (Option Q) (PieceStop Q) → Type 0
RootAnswers value fits v m w n r = MatchResult r
    (λ o. AllPass fits (root_asks v m w n) × MatchOption o ((x : Fraction) → IsRoot v m w n x → ⊥) (λ x. IsRoot v m w n (value x)))
    (λ s. FirstFailing fits (root_asks v m w n) (stop_of value s))

abbrev pub MeetingAnswers : {Q : Type 0} → (Q → Fraction) → (Fraction → Type 0) → Fraction → Fraction → Fraction → Fraction → Result Q (PieceStop Q) → Type 0
MeetingAnswers value fits v m w n r =
    MatchResult r (λ x. AllPass fits (meeting_asks v m w n) × IsRoot v m w n (value x)) (λ s. FirstFailing fits (meeting_asks v m w n) (stop_of value s))
