use Rattle.std.proofs.Common.{◌≡◌, ◌++◌}
use Rattle.std.specs.List.{flat_map}
use Rattle.plus_trial.specs.Farm.{tanks, line_text}
use Rattle.plus_trial.proofs.farm.put_lines.Given as goal

abbrev pub invariant-tanks : goal.invariant-tanks
invariant-tanks l = l.text.items ≡ l.initial.text.items ++ flat_map line_text (tanks l.before)
