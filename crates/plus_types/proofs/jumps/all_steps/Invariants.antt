use Rattle.plus_types.specs.Jumps.{AllLeadUp}
use Rattle.plus_types.proofs.jumps.all_steps.Given as goal

abbrev pub invariant-order : goal.invariant-order
invariant-order l = AllLeadUp l.listed l.depths l.steps.items
