use Rattle.plus_parser.proofs.Wholes.{answer_only, problem_found, problem_spelled}
use Rattle.plus_parser.proofs.reading.read_problem.Goals as goal

pub returns-clause-found : goal.returns-clause-found
returns-clause-found c = problem_found c.args.text.now c.whole_problem.result c.whole_problem.ensures

pub returns-clause-only : goal.returns-clause-only
returns-clause-only c = λ d h. answer_only c.whole_problem.result d _ c.whole_problem.ensures (problem_spelled c.args.text.now d h)
