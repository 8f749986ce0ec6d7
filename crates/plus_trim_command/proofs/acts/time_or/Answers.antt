use Rattle.plus_number.specs.Frac.{fraction_of}
use Rattle.plus_trim_command.proofs.ActLemmas.{act_bottom, act_value, act_time, end_bottom, end_value, end_time}
use Rattle.plus_trim_command.proofs.acts.time_or.Goals as goal

pub moment-requires-clause-bottom : goal.moment-requires-clause-bottom
moment-requires-clause-bottom c = act_bottom c.args.line.now _ c.in-Act.time _ c.in-Act.is c.requires.bottom

pub moment-requires-clause-fits : goal.moment-requires-clause-fits
moment-requires-clause-fits c = act_value c.args.line.now _ c.in-Act.time _ c.in-Act.is c.requires.value

pub returns-in-Act : goal.returns-in-Act
returns-in-Act c = act_time c.args.line.now _ c.in-Act.time _ c.in-Act.is (fraction_of c.moment.result) (fraction_of c.args.other) c.moment.ensures

pub moment-requires-in-End-clause-bottom : goal.moment-requires-in-End-clause-bottom
moment-requires-in-End-clause-bottom c = end_bottom c.args.line.now _ c.in-End.time c.in-End.is c.requires.bottom

pub moment-requires-in-End-clause-fits : goal.moment-requires-in-End-clause-fits
moment-requires-in-End-clause-fits c = end_value c.args.line.now _ c.in-End.time c.in-End.is c.requires.value

pub returns-in-End : goal.returns-in-End
returns-in-End c = end_time c.args.line.now _ c.in-End.time c.in-End.is (fraction_of c.moment-in-End.result) (fraction_of c.args.other) c.moment-in-End.ensures
