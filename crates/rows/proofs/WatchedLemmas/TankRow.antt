-- What the looks ask and find along the tank's history is computed.
use Rattle.std.proofs.Common.{◌≡◌, true, false, refl, subst, pos}
use Rattle.plus_fraction.specs.Gcd.{gcd, gcd_within}
use Rattle.plus_fraction.specs.Fraction.{over, whole, ◌+ℚ◌, ◌-ℚ◌, ◌*ℚ◌, ◌/ℚ◌, compared}
use Rattle.plus_model.specs.Terms.{AtLeast, AtMost, Atom}
use Rattle.plus_model.specs.Running.{rates, moved}
use Rattle.plus_model.specs.Trajectory.{literals}
use Rattle.rows.specs.Model.Tank.{tank, tank_plan, tank_history}
use Rattle.rows.proofs.ModelLemmas.TankRow.{tank_trajectory}
use Rattle.plus_state.specs.Tested.{AllPass}
use Rattle.plus_state.specs.Asked.{NodeFits, sides}
use Rattle.plus_state.specs.Tests.{decided, tests_of}
use Rattle.plus_crossing.specs.Asked.{Passes, numbered}
use Rattle.plus_crossing.specs.Pieces.{op_asks, asks_both}
use Rattle.plus_crossing.specs.Roots.{meets_later, root_asks}
use Rattle.plus_crossing.specs.Conds.{asks_open, asks_sides}
use Rattle.plus_crossing.specs.Next.{cross_sides}
use Rattle.plus_crossing.specs.Moves.{fluent_nodes}
use Rattle.plus_crossing.specs.Laws.{AnySize}
use Rattle.plus_constraints.specs.Constraint.{Always, Sometime, Within, HoldAfter, Constraint}
use Rattle.plus_constraints.specs.Found.{Found, Holds, Never, FailsAt, FailsAfter, IsFound}
use Rattle.plus_constraints.specs.Place.{told}
use Rattle.plus_watch.specs.Looks.{looks_ask, state_look, after_look, node_look, roots_look, root_look, inner_looks, whole_looks, up_to_looks, from_on_looks, moment_looks, history_looks}
use Rattle.plus_watch.specs.Laws.{found_along}
use Rattle.plus_watch.proofs.Histories.{looks_tell}
use Rattle.rows.proofs.WatchedLemmas.Linear.{are_linear, all_pass}
use Rattle.rows.specs.Watched.Tank.{level, constraint, TankRows}

by_looks : (c : Constraint) (f : Found) → found_along tank c tank_history ≡ f → are_linear (looks_ask (history_looks tank c tank_history)) ≡ true → IsFound tank tank_history c f
by_looks c f e a = subst (IsFound tank tank_history c) e (looks_tell AnySize tank tank_plan tank_history c tank_trajectory.prefix (all_pass (looks_ask (history_looks tank c tank_history)) a))

pub tank_rows : TankRows
unfolding AllPass Passes NodeFits sides decided tests_of numbered op_asks asks_both asks_open asks_sides cross_sides meets_later root_asks fluent_nodes over gcd gcd_within compared ◌+ℚ◌ ◌-ℚ◌ ◌*ℚ◌ ◌/ℚ◌ rates moved literals told found_along state_look after_look node_look roots_look root_look inner_looks whole_looks up_to_looks from_on_looks moment_looks
tank_rows = record {
  below_five = by_looks (constraint Always (level AtMost (whole (pos 5)))) Holds refl refl;
  opened = by_looks (constraint Sometime (Atom 0 true)) Holds refl refl;
  full_by_three = by_looks (constraint (Within (whole (pos 3))) (level AtLeast (whole (pos 5)))) Never refl refl;
  closed_from_arrival = by_looks (constraint (HoldAfter (over (pos 7) 2)) (Atom 0 false)) (FailsAt (over (pos 7) 2)) refl refl;
  below_four = by_looks (constraint Always (level AtMost (whole (pos 4)))) (FailsAfter (whole (pos 3))) refl refl;
  closed_later = by_looks (constraint (HoldAfter (whole (pos 4))) (Atom 0 false)) Holds refl refl;
}
