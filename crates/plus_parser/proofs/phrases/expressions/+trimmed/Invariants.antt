use Rattle.plus_parser.proofs.phrases.expressions.+trimmed.Given as goal

abbrev pub decreases-trimmed : goal.decreases-trimmed
decreases-trimmed l = l.places
