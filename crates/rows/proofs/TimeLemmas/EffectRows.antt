-- The rows of joint effects that are none are computed.
use Rattle.std.proofs.Common.{[], ◌∷◌, refl, ap, inl, inr}
use Rattle.std.specs.Prelude.{Some, None, Ok}
use Rattle.plus_fraction.specs.Gcd.{gcd, gcd_within}
use Rattle.plus_fraction.specs.Fraction.{Fraction, over, ◌+ℚ◌, compared}
use Rattle.plus_fraction.proofs.FractionBase.{same_cross}
use Rattle.plus_model.specs.Terms.{State}
use Rattle.plus_model.specs.Joint.{joint}
use Rattle.plus_model.specs.Firing.{firing, first_shared, effects_of}
use Rattle.plus_model.specs.Trajectory.{literals}
use Rattle.plus_model.specs.Breach.{Breaks, Conflict, NoValue, Repeats}
use Rattle.rows.specs.Model.Rises.{n, values, to_eight, enter}
use Rattle.rows.specs.Time.Effects.{still_world, twice, twice_plan, lost_world, RepeatsRow, relay_world, relay_history}

pub twice_row : Breaks still_world twice_plan (enter 0 (values 0 0) ∷ []) (Conflict 0)
unfolding firing literals joint over gcd gcd_within
twice_row = record {
  prefix = record { ordered = tt; rest = []; begins = refl; follow = tt };
  breach = record {
    begun = inr refl;
    stands = record {
      effects = twice.effects;
      due = inr (record { action = twice; due = record { present = record { moment = refl; still = refl }; due = refl }; may = refl; effects_is = refl });
      fails = refl;
    };
  };
}

pub lost_row : Breaks lost_world to_eight (enter 0 lost_world.initial ∷ []) (NoValue 1)
unfolding firing literals first_shared effects_of joint over gcd gcd_within
lost_row = record {
  prefix = record { ordered = tt; rest = []; begins = refl; follow = tt };
  breach = record {
    begun = inr refl;
    stands = inl (record {
      effects = effects_of lost_world (0 ∷ []);
      due = inl (record { moment = refl; some = λ e. cc e; fresh = refl; effects_is = refl });
      fails = refl;
    });
  };
}

abbrev at : Fraction → State
at x = record { atoms = []; fluents = Some x ∷ None ∷ [] }

pub repeats_row : RepeatsRow
unfolding firing literals first_shared effects_of joint over gcd gcd_within compared ◌+ℚ◌
repeats_row = record {
  both = refl;
  none = refl;
  breach = record {
    prefix = record {
      ordered = tt;
      rest = _;
      begins = refl;
      follow = (inr refl, record { all = refl; some = λ e. cc e; fresh = refl; effect = ap (λ x. Ok (at x)) (same_cross _ _ refl) }, tt);
    };
    breach = record { begun = inr refl; stands = (refl, refl) };
  };
}

abbrev valued : Fraction → State
valued x = record { atoms = []; fluents = Some x ∷ Some (n 0) ∷ [] }

pub relay_row : Breaks relay_world to_eight relay_history (Repeats 0)
unfolding firing literals first_shared effects_of joint over gcd gcd_within compared ◌+ℚ◌
relay_row = record {
  prefix = record {
    ordered = tt;
    rest = _;
    begins = refl;
    follow = (
      inr refl,
      record { all = refl; some = λ e. cc e; fresh = refl; effect = ap (λ x. Ok (valued x)) (same_cross _ _ refl) },
      (
        inr refl,
        record { all = refl; some = λ e. cc e; fresh = refl; effect = ap (λ x. Ok (valued x)) (same_cross _ _ refl) },
        tt,
      ),
    );
  };
  breach = record { begun = inr refl; stands = (refl, refl) };
}
