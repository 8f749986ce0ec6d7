use Rattle.planplus.proofs.conclude.Goals as goal

pub returns-clause-answers : goal.returns-clause-answers
returns-clause-answers g c = (c.run.result, c.exit_code.ensures, c.run.ensures.answers)

pub returns-clause-stops : goal.returns-clause-stops
returns-clause-stops g c = (c.run.result, c.exit_code.ensures, c.run.ensures.stops)

pub returns-clause-keeps_up : goal.returns-clause-keeps_up
returns-clause-keeps_up g c = (c.run.result, c.exit_code.ensures, c.run.ensures.keeps_up)

pub returns-clause-decides : goal.returns-clause-decides
returns-clause-decides g c = (c.run.result, c.exit_code.ensures, c.run.ensures.decides)
