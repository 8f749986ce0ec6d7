-- The rows of lines that were read.
use Rattle.std.proofs.Common.{◌≡◌, true, false, List, [], ◌∷◌, refl, ap, subst, sym, inl, inr, pos, arith}
use Rattle.std.proofs.lemmas.Int.{ints}
use Rattle.std.specs.Prelude.{Ok}
use Rattle.plus_fraction.specs.Gcd.{gcd, gcd_within}
use Rattle.plus_fraction.specs.Fraction.{over, whole, ◌+ℚ◌, compared}
use Rattle.plus_fraction.proofs.FractionBase.{same_cross}
use Rattle.plus_fraction.proofs.FractionOrder.{<ℚ_irrefl}
use Rattle.plus_model.specs.Joint.{joint}
use Rattle.plus_model.specs.Firing.{firing, first_shared, effects_of}
use Rattle.plus_model.specs.Running.{rates, first_coupled}
use Rattle.plus_model.specs.Plan.{Called, Instance, Plan}
use Rattle.plus_model.specs.Plan as called
use Rattle.plus_model.specs.History.{Part, Round, Act, Run}
use Rattle.plus_model.specs.Trajectory.{literals, first_view, Follow, Prefix, Trajectory}
use Rattle.plus_model.specs.Breach.{TimeGoesBack, AfterEnd, BreaksBy, Breaks, Precondition, UnknownAction, WrongArguments}
use Rattle.rows.specs.Model.Door.{unlock, open_door, door, shut, door_plan, door_history, call_at, lines_to_one, closed_history, lines_of, ended_at_one, ended_history}
use Rattle.rows.specs.Model.Rises.{n, values, note}
use Rattle.rows.specs.Model.Token.{token_state, loop_world}
use Rattle.rows.proofs.ModelLemmas.DoorRow as door
use Rattle.rows.proofs.ModelLemmas.Runs.{settles}
use Rattle.rows.specs.Time.Lines.{unread, rising, noted_at, UnreadRow, OpenRow, unlocked_then, unlocked_history}

pub back_row : BreaksBy door lines_to_one closed_history (call_at 0 (Instance open_door)) TimeGoesBack
unfolding firing literals joint over gcd gcd_within compared
back_row = record {
  prefix = door.back_row.prefix;
  breach = ([], whole (pos 1), Instance unlock, record { worked = record { acted = tt; still = refl; moment = refl; over = refl }; open_yet = refl; lines = refl }, record { cross = omega (arith, ints) });
}

pub after_row : BreaksBy door ended_at_one ended_history (call_at 2 (Instance open_door)) AfterEnd
unfolding firing literals over gcd gcd_within compared
after_row = record { prefix = door.after_row.prefix; breach = door.after_row.breach }

abbrev rounds : List Part
rounds = Round (0 ∷ []) (token_state false true) ∷ []

pub unread_row : UnreadRow
unfolding firing literals first_shared effects_of joint over gcd gcd_within
unread_row = record {
  first = record { ordered = tt; rest = []; begins = refl; follow = tt };
  no_round = λ p. let e : rounds ≡ p.rest = cc (p.begins) in
      let f = subst (Follow loop_world unread (first_view loop_world)) (sym e) p.follow in
      elim f.0 [ inl h ↦ h refl | inr h ↦ cc h ];
  at_end = record {
    ordered = tt;
    rest = _;
    begins = refl;
    follow = (inr refl, record { all = refl; some = λ e. cc e; fresh = refl; effect = refl }, tt);
  };
}

abbrev acted : Plan
acted = lines_of (noted_at 0 ∷ [])

abbrev act_and_run : List Part
act_and_run = Act 0 (values 0 0) ∷ Run (0 ∷ []) ∷ []

pub open_row : OpenRow
unfolding firing literals joint rates first_coupled over gcd gcd_within compared ◌+ℚ◌
open_row = record {
  runs = record {
    ordered = tt;
    rest = _;
    begins = refl;
    follow = (
      inl (λ e. cc e),
      record {
        still = refl;
        later = record { cross = omega (arith, ints) };
        rate = n 1 ∷ n 0 ∷ [];
        settled = settles rising (values 0 0) (0 ∷ []) (n 1 ∷ n 0 ∷ []) (n 1 ∷ n 0 ∷ []) (tt, tt) (tt, tt)
            (ap (λ x. Ok (x ∷ n 0 ∷ [])) (same_cross _ _ refl)) refl
            (ap (λ x. Ok (x ∷ n 0 ∷ [])) (same_cross _ _ refl)) refl;
        uncoupled = refl;
      },
      tt,
    );
  };
  acts = record {
    ordered = tt;
    rest = _;
    begins = refl;
    follow = (
      inl (λ e. cc e),
      record { action = note; line = refl; due = refl; acts = record { still = refl; may = refl; effect = refl } },
      tt,
    );
  };
  no_further = λ p. let e : act_and_run ≡ p.rest = cc (p.begins) in
      let f = subst (Follow rising acted (first_view rising)) (sym e) p.follow in
      <ℚ_irrefl (n 0) f.2.1.later;
}

-- ---- breaches of the second line
unlocked : (call : Called) → Prefix door (unlocked_then call) unlocked_history
unfolding firing literals joint over gcd gcd_within
unlocked call = record {
  ordered = (record { cross = omega (arith, ints) }, tt);
  rest = _;
  begins = refl;
  follow = (
    inr refl,
    record { action = unlock; line = refl; due = refl; acts = record { still = refl; may = refl; effect = refl } },
    tt,
  );
}

pub again_row : Breaks door (unlocked_then (Instance unlock)) unlocked_history (Precondition 1)
unfolding firing
again_row = record {
  prefix = unlocked (Instance unlock);
  breach = record {
    begun = inr refl;
    stands = (refl, unlock, record { present = record { moment = refl; still = refl }; due = refl }, refl);
  };
}

pub unknown_row : Breaks door (unlocked_then (called.UnknownAction shut)) unlocked_history (UnknownAction 1 shut)
unfolding firing
unknown_row = record {
  prefix = unlocked (called.UnknownAction shut);
  breach = record { begun = inr refl; stands = (refl, record { present = record { moment = refl; still = refl }; due = refl }) };
}

pub wrong_row : Breaks door (unlocked_then (called.WrongArguments shut)) unlocked_history (WrongArguments 1 shut)
unfolding firing
wrong_row = record {
  prefix = unlocked (called.WrongArguments shut);
  breach = record { begun = inr refl; stands = (refl, record { present = record { moment = refl; still = refl }; due = refl }) };
}

pub unclosed_row : Trajectory door (lines_of door_plan.lines) door_history → ⊥
unclosed_row t = let e : false ≡ true = t.closed in cc e
