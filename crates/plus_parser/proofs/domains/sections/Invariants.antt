use Rattle.std.proofs.Common.{length}
use Rattle.plus_parser.specs.Phrases.Grammar.{until_close}
use Rattle.plus_parser.specs.ReadingDomain.{domain_step, no_parts}
use Rattle.plus_parser.proofs.PhraseLemmas.Until.{Stays}
use Rattle.plus_parser.proofs.domains.sections.Given as goal

abbrev pub invariant-found : goal.invariant-found
invariant-found l =
    Stays (domain_step l.room) l.room l.found l.reader (until_close (domain_step l.room) l.room (length l.initial.reader) no_parts l.initial.reader) (length l.initial.reader)

abbrev pub decreases-found : goal.decreases-found
decreases-found l = length l.reader
