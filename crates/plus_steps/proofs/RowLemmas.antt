-- The worked rows, by computation.
use Rattle.std.specs.Prelude.{◌≡◌, ◌≢◌, ℕ, Bool, true, false, List, [], ◌∷◌, Some, pos, refl}
use Rattle.std.proofs.Common.{subst}
use Rattle.plus_fraction.specs.Gcd.{gcd, gcd_within}
use Rattle.plus_fraction.specs.Fraction.{Fraction, over, ◌+ℚ◌, ◌*ℚ◌, ◌/ℚ◌, compared}
use Rattle.plus_model.specs.Terms.{State}
use Rattle.plus_model.specs.Value.{holds}
use Rattle.plus_model.specs.Joint.{joint}
use Rattle.plus_model.specs.Firing.{firing, first_shared, effects_of}
use Rattle.plus_model.specs.Running.{rates, moved}
use Rattle.plus_model.specs.Plan.{Called, Instance}
use Rattle.plus_model.specs.Trajectory.{literals}
use Rattle.plus_steps.specs.Stepped.{Does, time_of_step}
use Rattle.plus_steps.specs.Numeric.{CallDoes}
use Rattle.plus_steps.proofs.OneState.{one_call}
use Rattle.plus_steps.specs.Rows.{number, meant, literal_tank, open_valve, mix, mixed_state, mixed_goal, LiteralsRow, OverfullRow, MixRow, MixTwiceRow}

abbrev state_at : List Fraction → ℕ → State → State
state_at rate n s = literals literal_tank (time_of_step (number 1) n) (moved s rate (number 1))

abbrev still : List Fraction
still = number 0 ∷ []

abbrev filling : List Fraction
filling = (number 0 +ℚ number 2) ∷ []

abbrev begun : State
begun = literals literal_tank (number 0) literal_tank.initial

abbrev s1 : State
s1 = state_at still 1 begun

abbrev s2 : State
s2 = state_at still 2 s1

abbrev s3 : State
s3 = state_at filling 3 s2

abbrev s4 : State
s4 = state_at still 4 s3

pub literals_row : LiteralsRow
unfolding firing literals rates moved over gcd gcd_within compared ◌+ℚ◌ ◌*ℚ◌
literals_row = record {
  first = begun;
  rests = record { rounds = []; cascade = (refl, refl) };
  on = (
    s1,
    record { now = s1; passes = record { rate = still; rate_is = refl; after_is = refl }; rests = record { rounds = []; cascade = (refl, refl) } },
    (
      s2,
      record { now = s2; passes = record { rate = still; rate_is = refl; after_is = refl }; rests = record { rounds = []; cascade = (refl, refl) } },
      (
        s3,
        record { now = s3; passes = record { rate = filling; rate_is = refl; after_is = refl }; rests = record { rounds = []; cascade = (refl, refl) } },
        (
          s4,
          record { now = s4; passes = record { rate = still; rate_is = refl; after_is = refl }; rests = record { rounds = []; cascade = (refl, refl) } },
          refl,
        ),
      ),
    ),
  );
}

-- ---- the tank that is filled to 8
abbrev tank_at : Bool → Fraction → State
tank_at opened level = record { atoms = opened ∷ []; fluents = Some level ∷ [] }

full_once : (let events : List ℕ = 0 ∷ [] in events) ≢ []
full_once h = cc

pub overfull_row : OverfullRow
unfolding firing first_shared effects_of joint literals rates moved over gcd gcd_within compared ◌+ℚ◌ ◌*ℚ◌
overfull_row = record {
  first = tank_at false (number 0);
  rests = record { rounds = []; cascade = (refl, refl) };
  on = (
    tank_at true (number 0),
    record {
      action = open_valve;
      called = refl;
      now = tank_at true (number 0);
      does = record { may = refl; effect = refl };
      rests = record { rounds = []; cascade = (refl, refl) };
    },
    (
      tank_at true (number 4),
      record { now = tank_at true (number 4); passes = record { rate = filling; rate_is = refl; after_is = refl }; rests = record { rounds = []; cascade = (refl, refl) } },
      (
        tank_at false (number 8),
        record {
          now = tank_at true (number 8);
          passes = record { rate = filling; rate_is = refl; after_is = refl };
          rests = record {
            rounds = (0 ∷ [], tank_at false (number 8)) ∷ [];
            cascade = (record { all = refl; some = full_once; fresh = refl; effect = refl }, (refl, refl));
          };
        },
        refl,
      ),
    ),
  );
}

-- ---- two fluents
abbrev once : State
once = mixed_state (over (pos 3) 4) (over (pos 3) 2)

abbrev twice : State
twice = mixed_state (over (pos 3) 8) (over (pos 9) 8)

mixes : Does mix (mixed_state (over (pos 1) 2) (number 3)) once
unfolding joint over gcd gcd_within compared ◌+ℚ◌ ◌*ℚ◌ ◌/ℚ◌
mixes = record { may = refl; effect = refl }

mixes_again : Does mix once twice
unfolding joint over gcd gcd_within compared ◌+ℚ◌ ◌*ℚ◌ ◌/ℚ◌
mixes_again = record { may = refl; effect = refl }

pub mix_row : MixRow
unfolding over gcd gcd_within compared
mix_row = (once, record { action = mix; called = refl; does = mixes }, refl)

-- the states that the two calls lead to are these
pub mix_twice_row : MixTwiceRow
unfolding over gcd gcd_within compared
mix_twice_row h =
    let first : h.0 ≡ once = one_call Called meant (Instance mix) _ h.0 once h.1 (record { action = mix; called = refl; does = mixes }) in
    let k : CallDoes meant (Instance mix) once h.2.0 = subst (λ (s : State). CallDoes meant (Instance mix) s h.2.0) first h.2.1 in
    let second : h.2.0 ≡ twice = one_call Called meant (Instance mix) once h.2.0 twice k (record { action = mix; called = refl; does = mixes_again }) in
    let g : holds mixed_goal twice ≡ true = subst (λ (s : State). holds mixed_goal s ≡ true) second h.2.2 in
    cc
