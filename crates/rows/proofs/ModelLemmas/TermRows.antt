-- The rows of values, conditions and joint effects are computed.
use Rattle.std.proofs.Common.{◌≡◌, true, false, [], ◌∷◌, refl, ap}
use Rattle.std.specs.Prelude.{Some, None, Ok}
use Rattle.plus_fraction.specs.Gcd.{gcd, gcd_within}
use Rattle.plus_fraction.specs.Fraction.{Fraction, over, ◌+ℚ◌, ◌-ℚ◌, ◌*ℚ◌, ◌/ℚ◌, neg_ℚ, compared}
use Rattle.plus_fraction.proofs.FractionBase.{same_cross}
use Rattle.plus_model.specs.Joint.{joint}
use Rattle.rows.specs.Model.Values.{ValueRows, HoldsRows}
use Rattle.rows.specs.Model.Effects.{AtomRows, FluentRows, FaultRows, n, with_values}

pub value_rows : ValueRows
unfolding over gcd gcd_within ◌+ℚ◌ ◌-ℚ◌ ◌*ℚ◌ ◌/ℚ◌ compared
value_rows = record {
  number = refl;
  fluent = refl;
  undefined = refl;
  sum = ap Some (same_cross _ _ refl);
  difference = ap Some (same_cross _ _ refl);
  product = ap Some (same_cross _ _ refl);
  quotient = ap Some (same_cross _ _ refl);
  quotient_below = ap Some (same_cross _ _ refl);
  by_zero = refl;
  left_undefined = refl;
  right_undefined = refl;
  nested = ap Some (same_cross _ _ refl);
}

pub holds_rows : HoldsRows
unfolding over gcd gcd_within ◌+ℚ◌ ◌-ℚ◌ ◌*ℚ◌ ◌/ℚ◌ compared
holds_rows = record {
  below = refl;
  at_most = refl;
  same = refl;
  at_least = refl;
  above = refl;
  not_above = refl;
  not_at_least = refl;
  undefined = refl;
  not_undefined = refl;
  same_undefined = refl;
  by_zero = refl;
  atom = refl;
  not_atom = refl;
  absent = refl;
  not_absent = refl;
  empty_and = refl;
  empty_or = refl;
  and = refl;
  and_first = refl;
  and_second = refl;
  or_none = refl;
  or_first = refl;
  or_second = refl;
}

pub atom_rows : AtomRows
unfolding joint
atom_rows = record {
  nothing = refl;
  add = refl;
  delete = refl;
  add_wins = refl;
  add_wins_later = refl;
  no_change = refl;
  guarded = refl;
  guards_read_before = refl;
}

-- one value is the one that is written in the row
first_is : (x y z : Fraction) → x ≡ y → with_values x z None ≡ with_values y z None
first_is x y z e = ap (λ (v : Fraction). Ok (record { atoms = true ∷ false ∷ []; fluents = Some v ∷ Some z ∷ None ∷ [] })) e

pub fluent_rows : FluentRows
unfolding joint over gcd gcd_within ◌+ℚ◌ ◌-ℚ◌ ◌*ℚ◌ ◌/ℚ◌ neg_ℚ compared
fluent_rows = record {
  assign = refl;
  assign_new = refl;
  increase = first_is _ _ (n 4) (same_cross _ _ refl);
  decrease = first_is _ _ (n 4) (same_cross _ _ refl);
  scale_up = first_is _ _ (n 4) (same_cross _ _ refl);
  scale_down = first_is _ _ (n 4) (same_cross _ _ refl);
  swap = refl;
  add_up = first_is _ _ (n 4) (same_cross _ _ refl);
}

pub fault_rows : FaultRows
unfolding joint over gcd gcd_within ◌+ℚ◌ ◌-ℚ◌ ◌*ℚ◌ ◌/ℚ◌ neg_ℚ compared
fault_rows = record {
  amount = refl;
  increased = refl;
  decreased = refl;
  scaled_up = refl;
  scaled_down = refl;
  by_zero = refl;
  unasked = refl;
  assigned_before = refl;
  two_assigns = refl;
  assign_and_increase = refl;
  decrease_and_assign = refl;
  two_scalings = refl;
  scaling_and_increase = refl;
  lowest_conflict = refl;
  values_first = refl;
  first_value = refl;
}
