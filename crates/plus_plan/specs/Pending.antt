-- What contracts see of a reader of plan lines.
use Rattle.std.specs.Prelude.{ℕ, Bool, List, Option}
use Rattle.plus_plan.specs.declared.forms.PlanForm.{PlanForm}
use Rattle.plus_plan.specs.declared.faults.PlanFault.{PlanFault}

pub record Pending : Type 0 where
  pub form : PlanForm  -- which lines the plan has
  pub rest : List ℕ  -- the bytes that are taken and not yet given as a line
  pub number : ℕ  -- of the next line
  pub closed : Bool  -- the text has ended
  pub fault : Option PlanFault  -- the refusal that it keeps
