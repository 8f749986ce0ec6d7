-- What a reader of plan lines keeps in its buffer: one line, or the beginning of one.
use Rattle.std.specs.Prelude.{◌≡◌, ℕ, ◌+◌, ◌≤◌, Bool, true, false, List, length, take}
use Rattle.plus_plan.specs.declared.pieces.PlanReader.TheInside.{Inside}
use Rattle.plus_plan.specs.Cut.{line_end}
use Rattle.plus_plan.specs.Spells.{line_limit}
use Rattle.plus_plan.specs.Pending.{Pending}

-- where the first line of these bytes ends: at an LF which is their last byte, or there is none
abbrev pub EndsAt : Bool → ℕ → List ℕ → Type 0
EndsAt true size bytes = line_end bytes 0 + 1 ≡ size
EndsAt false size bytes = line_end bytes 0 ≡ size

-- what the buffer holds
pub record IsHeld (r : Inside) : Type 0 where
  pub room : length r.buffer.items ≡ line_limit + 1
  pub within : r.len ≤ line_limit + 1
  pub ends : EndsAt r.whole r.len (take r.len r.buffer.items)

abbrev pub pending : Inside → Pending
pending r = record { form = r.form; rest = take r.len r.buffer.items; number = r.number; closed = r.closed; fault = r.fault }
