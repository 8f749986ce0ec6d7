-- What lets a `Model` hold the view of a timeline.
use Rattle.std.specs.Prelude.{◌≡◌, ℕ, Bool, true, false, List, Option, None, Some, refl}
use Rattle.std.specs.Coded.{Coded, code_by, coded_ℕ, coded_bool, coded_list, coded_option, coded×}
use Rattle.plus_fraction.specs.Fraction.{Fraction}
use Rattle.plus_fraction.specs.FractionCode.{coded_fraction}
use Rattle.plus_model.specs.Terms.{State}
use Rattle.plus_model.specs.History.{View}
use Rattle.plus_model.specs.Codes.{coded_state, coded_view}
use Rattle.plus_timeline.specs.declared.next.Next.{Next}
use Rattle.plus_timeline.specs.declared.next.Next.TheVariants.{Round, Run, Entry, There}
use Rattle.plus_timeline.specs.Timeline.{TimelineView}

abbrev pub kind_of : Next Fraction → (Bool × Bool) × Option Fraction
kind_of Round = ((false, false), None)
kind_of Run = ((false, true), None)
kind_of (Entry t) = ((true, false), Some t)
kind_of There = ((true, true), None)

abbrev pub entry_at : Option Fraction → Next Fraction
entry_at None = There
entry_at (Some t) = Entry t

abbrev pub of_kind : Bool → Bool → Option Fraction → Next Fraction
of_kind false false o = Round
of_kind false true o = Run
of_kind true false o = entry_at o
of_kind true true o = There

pub kind_back : (n : Next Fraction) → of_kind (kind_of n).0.0 (kind_of n).0.1 (kind_of n).1 ≡ n
kind_back Round = refl
kind_back Run = refl
kind_back (Entry t) = refl
kind_back There = refl

abbrev pub coded_next : Coded (Next Fraction)
coded_next =
    code_by ((Bool × Bool) × Option Fraction) (coded× (coded× coded_bool coded_bool) (coded_option coded_fraction))
    kind_of (λ p. of_kind p.0.0 p.0.1 p.1) kind_back

abbrev pub coded_timeline : Coded TimelineView
coded_timeline = code_by
    (((View × (State × (State × Option State))) × (Bool × (List ℕ × (List ℕ × List Fraction))))
    × (((ℕ × ℕ) × (Option (Next Fraction) × Bool)) × (Bool × (ℕ × (ℕ × ℕ)))))
    (coded×
    (coded× (coded× coded_view (coded× coded_state (coded× coded_state (coded_option coded_state)))) (coded× coded_bool (coded× (coded_list coded_ℕ) (coded× (coded_list coded_ℕ) (coded_list coded_fraction)))))
    (coded× (coded× (coded× coded_ℕ coded_ℕ) (coded× (coded_option coded_next) coded_bool))
    (coded× coded_bool (coded× coded_ℕ (coded× coded_ℕ coded_ℕ)))))
    (λ t. (
      ((t.now, (t.before, (t.arrival, t.root))), (t.literal, (t.events, (t.running, t.rates)))),
      (((t.entries, t.most), (t.answer, t.acted)), (t.ended, (t.atoms, (t.fluents, t.event_count)))),
    ))
    (λ p. record {
      now = p.0.0.0;
      before = p.0.0.1.0;
      arrival = p.0.0.1.1.0;
      root = p.0.0.1.1.1;
      literal = p.0.1.0;
      events = p.0.1.1.0;
      running = p.0.1.1.1.0;
      rates = p.0.1.1.1.1;
      entries = p.1.0.0.0;
      most = p.1.0.0.1;
      answer = p.1.0.1.0;
      acted = p.1.0.1.1;
      ended = p.1.1.0;
      atoms = p.1.1.1.0;
      fluents = p.1.1.1.1.0;
      event_count = p.1.1.1.1.1;
    })
    (λ _. refl)
