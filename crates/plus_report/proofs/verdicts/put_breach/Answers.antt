use Rattle.std.proofs.Common.{sym, ap}
use Rattle.plus_state.specs.View.{labels_of, problem_of}
use Rattle.plus_report.specs.Verdicts.{breach_text}
use Rattle.plus_report.proofs.PutsLemmas.{worded}
use Rattle.plus_report.proofs.verdicts.put_breach.Goals as goal

pub returns-in-UnknownAction : goal.returns-in-UnknownAction
unfolding breach_text
returns-in-UnknownAction g c =
    let ground = c.args.ground.now in
    worded (rw c.bytes.ensures at c.put_of_line.ensures) (sym (ap (breach_text g.Q.Exact.value (labels_of ground) (problem_of g.Q.Exact.value ground)) c.in-UnknownAction.is))

pub returns-in-WrongArguments : goal.returns-in-WrongArguments
unfolding breach_text
returns-in-WrongArguments g c =
    let ground = c.args.ground.now in
    worded (rw c.bytes-in-WrongArguments.ensures at c.put_of_line-in-WrongArguments.ensures) (sym (ap (breach_text g.Q.Exact.value (labels_of ground) (problem_of g.Q.Exact.value ground)) c.in-WrongArguments.is))

pub returns-in-Precondition : goal.returns-in-Precondition
unfolding breach_text
returns-in-Precondition g c =
    let ground = c.args.ground.now in
    worded (rw c.bytes-in-Precondition.ensures at c.put_of_line-in-Precondition.ensures) (sym (ap (breach_text g.Q.Exact.value (labels_of ground) (problem_of g.Q.Exact.value ground)) c.in-Precondition.is))

pub returns-in-TimeGoesBack : goal.returns-in-TimeGoesBack
unfolding breach_text
returns-in-TimeGoesBack g c =
    let ground = c.args.ground.now in
    worded c.put_of_line-in-TimeGoesBack.ensures (sym (ap (breach_text g.Q.Exact.value (labels_of ground) (problem_of g.Q.Exact.value ground)) c.in-TimeGoesBack.is))

pub returns-in-AfterEnd : goal.returns-in-AfterEnd
unfolding breach_text
returns-in-AfterEnd g c =
    let ground = c.args.ground.now in
    worded c.put_of_line-in-AfterEnd.ensures (sym (ap (breach_text g.Q.Exact.value (labels_of ground) (problem_of g.Q.Exact.value ground)) c.in-AfterEnd.is))

pub returns-in-Conflict : goal.returns-in-Conflict
unfolding breach_text
returns-in-Conflict g c =
    let ground = c.args.ground.now in
    worded (rw c.fluent_label.ensures at c.put_three.ensures) (sym (ap (breach_text g.Q.Exact.value (labels_of ground) (problem_of g.Q.Exact.value ground)) c.in-Conflict.is))

pub returns-in-NoValue : goal.returns-in-NoValue
unfolding breach_text
returns-in-NoValue g c =
    let ground = c.args.ground.now in
    worded (rw c.fluent_label-in-NoValue.ensures at c.put_three-in-NoValue.ensures) (sym (ap (breach_text g.Q.Exact.value (labels_of ground) (problem_of g.Q.Exact.value ground)) c.in-NoValue.is))

pub returns-in-Repeats : goal.returns-in-Repeats
unfolding breach_text
returns-in-Repeats g c =
    let ground = c.args.ground.now in
    worded (rw c.event_label_of.ensures at c.put_three-in-Repeats.ensures) (sym (ap (breach_text g.Q.Exact.value (labels_of ground) (problem_of g.Q.Exact.value ground)) c.in-Repeats.is))

pub returns-in-Unsettled : goal.returns-in-Unsettled
unfolding breach_text
returns-in-Unsettled g c =
    let ground = c.args.ground.now in
    worded (rw c.process_label_of.ensures at c.put_three-in-Unsettled.ensures) (sym (ap (breach_text g.Q.Exact.value (labels_of ground) (problem_of g.Q.Exact.value ground)) c.in-Unsettled.is))

pub returns-in-Goal : goal.returns-in-Goal
unfolding breach_text
returns-in-Goal g c =
    let ground = c.args.ground.now in
    worded c.put.ensures (sym (ap (breach_text g.Q.Exact.value (labels_of ground) (problem_of g.Q.Exact.value ground)) c.in-Goal.is))
