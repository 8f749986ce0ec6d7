use Rattle.std.proofs.Common.{ap}
use Rattle.plus_rules.specs.Written.{times_of}
use Rattle.plus_rules.proofs.Meaning.{time_fits}
use Rattle.plus_rules.proofs.preparation.rule_at.Goals as goal

pub time-requires : goal.time-requires
time-requires g c = time_fits g.Q.Exact.fits (times_of c.args.rule) c.in-Within.until (ap times_of c.in-Within.is) c.requires

pub time-requires-in-HoldAfter : goal.time-requires-in-HoldAfter
time-requires-in-HoldAfter g c = time_fits g.Q.Exact.fits (times_of c.args.rule) c.in-HoldAfter.from (ap times_of c.in-HoldAfter.is) c.requires
