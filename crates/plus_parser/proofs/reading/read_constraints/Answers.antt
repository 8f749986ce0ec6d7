use Rattle.plus_parser.proofs.Wholes.{answer_seen, constraints_found, constraints_spelled}
use Rattle.plus_parser.proofs.reading.read_constraints.Goals as goal

pub returns-clause-found : goal.returns-clause-found
returns-clause-found c = constraints_found c.args.text.now c.whole_constraints.result (λ v. v.items) c.whole_constraints.ensures

pub returns-clause-only : goal.returns-clause-only
returns-clause-only c =
    λ d h. answer_seen c.whole_constraints.result (λ v. v.items) d _ c.whole_constraints.ensures (constraints_spelled c.args.text.now d h)
