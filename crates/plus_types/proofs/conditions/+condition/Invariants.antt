use Rattle.std.proofs.Common.{◌≡◌, drop}
use Rattle.plus_tree.specs.Cond.{conds_of}
use Rattle.plus_types.specs.Faults.{conds_faults}
use Rattle.plus_types.specs.Known.{context}
use Rattle.plus_types.proofs.conditions.+condition.Given as goal

abbrev pub decreases-condition : goal.decreases-condition
decreases-condition l = goal.size-condition l

-- the members walked so far have no fault, and the same variables are bound
abbrev pub invariant-members : goal.invariant-members
invariant-members l = record {
  walked : conds_faults (context l.known) l.initial.vars (conds_of l.member-items) ≡ conds_faults (context l.known) l.initial.vars (conds_of (drop l.member-index l.member-items));
  kept : l.vars ≡ l.initial.vars;
}
