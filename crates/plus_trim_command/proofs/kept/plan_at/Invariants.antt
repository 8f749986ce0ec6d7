use Rattle.std.proofs.Common.{◌≡◌, ◌++◌, drop, map}
use Rattle.plus_number.specs.Frac.{fraction_of}
use Rattle.plus_report.specs.Plans.{acts_of}
use Rattle.plus_trim.specs.Acts.{act_of, chosen}
use Rattle.plus_trim_command.specs.Trim.{labelled}
use Rattle.plus_trim_command.proofs.kept.plan_at.Given as goal

abbrev pub invariant-each : goal.invariant-each
invariant-each l =
    acts_of fraction_of l.kept.items ++ labelled (chosen (map (act_of fraction_of) l.acts) (drop l.place-index l.places)) ≡ labelled (chosen (map (act_of fraction_of) l.acts) l.places)
