-- The rows, by computation.
use Rattle.std.proofs.Common.{refl}
use Rattle.plus_types.specs.Types.{is_above_within, is_above, is_under}
use Rattle.plus_types.specs.Faults.{listed_faults, member_faults, head_faults, leaf_faults, schema_faults, declaration_faults, rule_faults, state_faults, problem_faults}
use Rattle.rows.specs.Walk.{WalkRow, TimedRows}

pub walk_row : WalkRow
unfolding is_above_within is_above is_under listed_faults member_faults head_faults leaf_faults schema_faults declaration_faults rule_faults state_faults problem_faults
walk_row = record { in_order = refl }

pub timed_rows : TimedRows
unfolding is_above_within is_above is_under listed_faults member_faults head_faults leaf_faults schema_faults declaration_faults rule_faults state_faults problem_faults
timed_rows = record { right = refl; wrong = refl }
