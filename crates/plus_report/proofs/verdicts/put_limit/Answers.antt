use Rattle.std.proofs.Common.{sym, ap}
use Rattle.plus_state.specs.View.{problem_of}
use Rattle.plus_report.specs.Verdicts.{limit_text}
use Rattle.plus_report.proofs.PutsLemmas.{worded}
use Rattle.plus_report.proofs.verdicts.put_limit.Goals as goal

pub returns-in-Happenings : goal.returns-in-Happenings
unfolding limit_text
returns-in-Happenings g c =
    worded c.put_numbered.ensures (sym (ap (limit_text g.Q.Exact.value (problem_of g.Q.Exact.value c.args.ground.now)) c.in-Happenings.is))

pub returns-in-Number : goal.returns-in-Number
unfolding limit_text
returns-in-Number g c =
    worded c.put_number.ensures (sym (ap (limit_text g.Q.Exact.value (problem_of g.Q.Exact.value c.args.ground.now)) c.in-Number.is))
