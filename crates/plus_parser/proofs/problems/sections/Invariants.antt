use Rattle.std.proofs.Common.{length}
use Rattle.plus_parser.specs.Phrases.Grammar.{until_close}
use Rattle.plus_parser.specs.ReadingProblem.{problem_step, no_problem_parts}
use Rattle.plus_parser.proofs.PhraseLemmas.Until.{Stays}
use Rattle.plus_parser.proofs.problems.sections.Given as goal

abbrev pub invariant-found : goal.invariant-found
invariant-found l =
    Stays (problem_step l.room) l.room l.found l.reader (until_close (problem_step l.room) l.room (length l.initial.reader) no_problem_parts l.initial.reader) (length l.initial.reader)

abbrev pub decreases-found : goal.decreases-found
decreases-found l = length l.reader
