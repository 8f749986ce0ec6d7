use Rattle.std.proofs.Common.{length, []}
use Rattle.plus_parser.specs.Phrases.Grammar.{until_close}
use Rattle.plus_parser.specs.ReadingDomain.{requirement_step}
use Rattle.plus_parser.proofs.PhraseLemmas.Until.{Stays}
use Rattle.plus_parser.proofs.declarations.requirements.Given as goal

abbrev pub invariant-found : goal.invariant-found
invariant-found l =
    Stays requirement_step l.room l.found l.reader (until_close requirement_step l.room (length l.initial.reader) [] l.initial.reader) (length l.initial.reader)

abbrev pub decreases-found : goal.decreases-found
decreases-found l = length l.reader
