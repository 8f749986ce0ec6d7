use Rattle.plus_plan.proofs.Cuttings.{given_none, given_fed, given_closed, given_line, given_all}
use Rattle.plus_plan.proofs.laws.lines_given.Goals as goal

pub returns : goal.returns
returns c = record { none = given_none; taken = given_fed; ended = given_closed; given = given_line; all = given_all }
