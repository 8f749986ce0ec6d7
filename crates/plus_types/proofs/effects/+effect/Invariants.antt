use Rattle.std.proofs.Common.{◌≡◌, drop}
use Rattle.plus_tree.specs.Effect.{effects_of}
use Rattle.plus_types.specs.Faults.{effects_faults}
use Rattle.plus_types.specs.Known.{context}
use Rattle.plus_types.proofs.effects.+effect.Given as goal

abbrev pub decreases-effect : goal.decreases-effect
decreases-effect l = goal.size-effect l

-- the members walked so far have no fault, and the same variables are bound
abbrev pub invariant-members : goal.invariant-members
invariant-members l = record {
  walked :
      effects_faults (context l.known) l.initial.vars l.process (effects_of l.member-items)
      ≡ effects_faults (context l.known) l.initial.vars l.process (effects_of (drop l.member-index l.member-items));
  kept : l.vars ≡ l.initial.vars;
}
