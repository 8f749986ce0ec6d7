use Rattle.std.proofs.Common.{◌≤◌, suc, length, ◌-◌}
use Rattle.plus_types.specs.Types.{bindings_of}
use Rattle.plus_types.proofs.RankLemmas.{Leads}
use Rattle.plus_types.proofs.loops.leads_back.Given as goal

abbrev pub invariant-steps : goal.invariant-steps
invariant-steps l = record {
  few : l.left ≤ suc (length l.types);
  leads : Leads (bindings_of l.types) (suc (length l.types) - l.left) l.name l.high;
}

abbrev pub decreases-steps : goal.decreases-steps
decreases-steps l = l.left
