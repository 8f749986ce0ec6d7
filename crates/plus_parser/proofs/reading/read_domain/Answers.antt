use Rattle.plus_parser.proofs.Wholes.{answer_only, domain_found, domain_spelled}
use Rattle.plus_parser.proofs.reading.read_domain.Goals as goal

pub returns-clause-found : goal.returns-clause-found
returns-clause-found c = domain_found c.args.text.now c.whole_domain.result c.whole_domain.ensures

pub returns-clause-only : goal.returns-clause-only
returns-clause-only c = λ d h. answer_only c.whole_domain.result d _ c.whole_domain.ensures (domain_spelled c.args.text.now d h)
