use Rattle.std.proofs.Common.{length}
use Rattle.plus_parser.specs.Phrases.Grammar.{until_close}
use Rattle.plus_parser.specs.ReadingDomain.{key_step}
use Rattle.plus_parser.proofs.PhraseLemmas.Until.{Stays}
use Rattle.plus_parser.proofs.schemas.keys_into.Given as goal

abbrev pub invariant-found : goal.invariant-found
invariant-found l =
    Stays (key_step l.room) l.room l.found l.reader (until_close (key_step l.room) l.room (length l.initial.reader) l.initial.found l.initial.reader) (length l.initial.reader)

abbrev pub decreases-found : goal.decreases-found
decreases-found l = length l.reader
