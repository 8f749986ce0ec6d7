use Rattle.std.proofs.Common.{◌≡◌, [], drop}
use Rattle.plus_types.specs.Faults.{problem_context}
use Rattle.plus_rules.specs.Written.{faults_of}
use Rattle.plus_rules.proofs.WalkedLemmas.{faults_in}
use Rattle.plus_rules.proofs.typing.walk.Given as goal

-- the constraints walked so far have no fault, and no variable is bound
abbrev pub invariant-rules : goal.invariant-rules
invariant-rules l = record {
  walked : faults_of l.typed.domain l.typed.problem l.rules ≡ faults_in (problem_context l.typed.domain l.typed.problem) (drop l.rule-index l.rules);
  kept : l.vars ≡ [];
}
