-- What a condition tells along rates at which nothing that it reads moves.
use Rattle.std.specs.Prelude.{◌≡◌, ℕ, List, [], pos}
use Rattle.plus_fraction.specs.Fraction.{Fraction, whole}
use Rattle.plus_model.specs.Terms.{Condition, State}
use Rattle.plus_model.specs.Value.{holds}
use Rattle.plus_model.specs.Live.{live}
use Rattle.plus_model.specs.Piece.{after}
use Rattle.plus_state.specs.Asked.{AllFit}
use Rattle.plus_state.specs.Tests.{tests_of}
use Rattle.plus_crossing.specs.Asked.{AllPass}
use Rattle.plus_crossing.specs.Conds.{live_asks}
use Rattle.plus_crossing.specs.Next.{cross_asks, LiveRoot}
use Rattle.plus_crossing.specs.Listed.{live_roots}
use Rattle.plus_reads.specs.Laws.{StandsStill}

-- it holds just after the state exactly where it holds in it, it has no root, and so lists none, and all tests of both pass that do not ask more
-- than its truth asks
pub record TellsStill (fits : Fraction → Type 0) (k : ℕ) (c : Condition) (s : State) (rs : List Fraction) : Type 0 where
  pub after_is : after (live c s) s rs ≡ holds c s
  pub after_asks : AllPass fits (live_asks k c s rs)
  pub roots_ask : AllPass fits (cross_asks k c s rs)
  pub no_root : (x : Fraction) → LiveRoot c s rs x → ⊥
  pub none_listed : live_roots c s rs ≡ []

abbrev pub StandingStill : (Fraction → Type 0) → Type 0
StandingStill fits =
    (k : ℕ) (c : Condition) (s : State) (rs : List Fraction)
    → fits (whole (pos 0)) → StandsStill c rs → AllFit fits (tests_of c s) → TellsStill fits k c s rs
