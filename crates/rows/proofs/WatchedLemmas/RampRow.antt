-- What the looks ask and find where x crosses 5 inside a stretch is computed.
use Rattle.std.proofs.Common.{◌≡◌, true, refl, subst, inl, inr}
use Rattle.plus_fraction.specs.Gcd.{gcd, gcd_within}
use Rattle.plus_fraction.specs.Fraction.{over, ◌+ℚ◌, ◌-ℚ◌, ◌*ℚ◌, ◌/ℚ◌, compared}
use Rattle.plus_model.specs.Terms.{Below, AtMost, Same, AtLeast, Above, Condition}
use Rattle.plus_model.specs.Running.{rates, moved}
use Rattle.plus_model.specs.Trajectory.{literals}
use Rattle.rows.specs.Model.Rises.{n, if_x, to_eight, stick_world, stick_history}
use Rattle.rows.proofs.ModelLemmas.StickRow.{stick_row}
use Rattle.plus_state.specs.Tested.{AllPass, FirstFailing}
use Rattle.plus_state.specs.Asked.{NodeFits, sides, operation, node_of}
use Rattle.plus_state.specs.Tests.{decided, tests_of}
use Rattle.plus_crossing.specs.Asked.{Passes, numbered}
use Rattle.plus_crossing.specs.Pieces.{op_asks, asks_both}
use Rattle.plus_crossing.specs.Roots.{meets_later, root_asks}
use Rattle.plus_crossing.specs.Conds.{asks_open, asks_sides}
use Rattle.plus_crossing.specs.Next.{cross_sides}
use Rattle.plus_crossing.specs.Moves.{fluent_nodes}
use Rattle.plus_crossing.specs.Laws.{AnySize}
use Rattle.plus_constraints.specs.Constraint.{When, Always, Sometime, Within, HoldAfter}
use Rattle.plus_constraints.specs.Found.{Found, Holds, Never, FailsAt, FailsAfter, IsFound}
use Rattle.plus_constraints.specs.Place.{told}
use Rattle.plus_watch.specs.Looks.{looks_ask, state_look, after_look, node_look, roots_look, root_look, inner_looks, whole_looks, up_to_looks, from_on_looks, moment_looks, history_looks}
use Rattle.plus_watch.specs.Laws.{found_along}
use Rattle.plus_watch.proofs.Histories.{looks_tell}
use Rattle.rows.proofs.WatchedLemmas.Linear.{are_linear, all_pass}
use Rattle.rows.specs.Watched.Tank.{constraint}
use Rattle.rows.specs.Watched.Ramp.{not_five, either, square, RampRows, RampAsks}

by_looks : (w : When) (c : Condition) (f : Found) → found_along stick_world (constraint w c) stick_history ≡ f → are_linear (looks_ask (history_looks stick_world (constraint w c) stick_history)) ≡ true → IsFound stick_world stick_history (constraint w c) f
by_looks w c f e a = subst (IsFound stick_world stick_history (constraint w c)) e (looks_tell AnySize stick_world to_eight stick_history (constraint w c) stick_row.prefix (all_pass (looks_ask (history_looks stick_world (constraint w c) stick_history)) a))

pub ramp_rows : RampRows
unfolding AllPass Passes NodeFits sides decided tests_of numbered op_asks asks_both asks_open asks_sides cross_sides meets_later root_asks fluent_nodes over gcd gcd_within compared ◌+ℚ◌ ◌-ℚ◌ ◌*ℚ◌ ◌/ℚ◌ rates moved literals told found_along state_look after_look node_look roots_look root_look inner_looks whole_looks up_to_looks from_on_looks moment_looks
ramp_rows = record {
  never_five = by_looks Always not_five (FailsAt (n 5)) refl refl;
  once_five = by_looks Sometime (if_x Same 5) Holds refl refl;
  five_by_five = by_looks (Within (n 5)) (if_x Same 5) Holds refl refl;
  above_by_five = by_looks (Within (n 5)) (if_x Above 5) Never refl refl;
  above_by_six = by_looks (Within (n 6)) (if_x Above 5) Holds refl refl;
  five_by_four = by_looks (Within (n 4)) (if_x Same 5) Never refl refl;
  not_five_from_five = by_looks (HoldAfter (n 5)) not_five (FailsAt (n 5)) refl refl;
  not_five_from_six = by_looks (HoldAfter (n 6)) not_five Holds refl refl;
  above_from_five = by_looks (HoldAfter (n 5)) (if_x Above 5) (FailsAt (n 5)) refl refl;
  at_least_from_five = by_looks (HoldAfter (n 5)) (if_x AtLeast 5) Holds refl refl;
  below_from_five = by_looks (HoldAfter (n 5)) (if_x AtMost 5) (FailsAfter (n 5)) refl refl;
  outside = by_looks Always (either (if_x AtMost 2) (if_x AtLeast 3)) (FailsAfter (n 2)) refl refl;
  to_the_end = by_looks Always (if_x Below 8) (FailsAt (n 8)) refl refl;
  behind_the_end = by_looks (HoldAfter (n 9)) (if_x Below 0) Holds refl refl;
}

pub ramp_asks : RampAsks
unfolding AllPass Passes NodeFits sides operation node_of decided tests_of numbered op_asks asks_both asks_open asks_sides cross_sides meets_later root_asks fluent_nodes over gcd gcd_within compared ◌+ℚ◌ ◌-ℚ◌ ◌*ℚ◌ ◌/ℚ◌ rates moved literals told found_along state_look after_look node_look roots_look root_look inner_looks whole_looks up_to_looks from_on_looks moment_looks FirstFailing
ramp_asks = record {
  in_order = refl;
  decided = refl;
  length_first = refl;
  not_linear = inr (tt, inr (tt, inl (λ e. cc e, refl)));
  linear_enough = all_pass (looks_ask (history_looks stick_world (constraint Sometime (either (if_x Same 0) square)) stick_history)) refl;
  not_regarded = all_pass (looks_ask (history_looks stick_world (constraint (HoldAfter (n 8)) square) stick_history)) refl;
}
