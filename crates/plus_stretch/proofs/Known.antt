-- What is known of events and processes that are not listed, where they stand still.
use Rattle.std.proofs.Common.{◌≡◌, ℕ, false, List, sym, subst, ◌∙◌, pos}
use Rattle.std.specs.Prelude.{Some, slice_get}
use Rattle.plus_fraction.specs.Fraction.{Fraction, whole}
use Rattle.plus_model.specs.Terms.{Condition, Event, State, Problem}
use Rattle.plus_model.specs.Firing.{is_in}
use Rattle.plus_state.specs.Walk.{event_conditions}
use Rattle.plus_state.specs.Looked.{OthersFalse}
use Rattle.plus_settle.specs.Still.Laws.{TellsStill}
use Rattle.plus_settle.specs.Still.Others.{OthersStill}
use Rattle.plus_settle.proofs.StillLemmas.Standing.{standing_still}
use Rattle.plus_settle.proofs.StillLemmas.Listed.{mapped}
use Rattle.plus_stretch.specs.After.{soon}
use Rattle.plus_stretch.specs.Among.{OthersNotSoon, OthersHaveNoRoot, OthersKnown}

module _ (fits : Fraction → Type 0) (zero_fits : fits (whole (pos 0))) (P : Problem) (s : State) (rs : List Fraction) where
  event_at : (k : ℕ) (e : Event) → slice_get P.events k ≡ Some e → slice_get (event_conditions P) k ≡ Some e.condition
  event_at k e g = mapped (λ (e : Event). e.condition) P.events k e g

  tells : (cs : List Condition) (listed : List ℕ) (k : ℕ) (c : Condition) → OthersStill fits cs s rs listed → slice_get cs k ≡ Some c → is_in listed k ≡ false → TellsStill fits 0 c s rs
  tells cs listed k c h g n = standing_still fits 0 c s rs zero_fits (h.stand k c g n) (h.pass k c g n)

  pub none_soon_among : (listed : List ℕ) → OthersStill fits (event_conditions P) s rs listed → OthersFalse (event_conditions P) s listed → OthersNotSoon fits P s rs listed
  unfolding soon
  none_soon_among listed h f k e g n =
      let t = tells (event_conditions P) listed k e.condition h (event_at k e g) n in
      record { pass = t.after_asks; not = t.after_is ∙ f k e.condition (event_at k e g) n }

  pub no_root_among : (cs : List Condition) (listed : List ℕ) → OthersStill fits cs s rs listed → OthersHaveNoRoot fits cs s rs listed
  no_root_among cs listed h k c g n = (let t = tells cs listed k c h g n in record { pass = t.roots_ask; none = t.none_listed })

-- the state is the one of which this is known
pub known_at : (fits : Fraction → Type 0) (P : Problem) (R : List ℕ) (s now : State) (rs : List Fraction) (events processes : List ℕ) → now ≡ s → OthersKnown fits P R s rs events processes → OthersKnown fits P R now rs events processes
known_at fits P R s now rs events processes e h = subst (λ (t : State). OthersKnown fits P R t rs events processes) (sym e) h
