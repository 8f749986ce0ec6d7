use Rattle.std.proofs.Common.{length}
use Rattle.plus_parser.specs.Phrases.Grammar.{until_close}
use Rattle.plus_parser.specs.Phrases.Grammar.{list_step, no_names}
use Rattle.plus_parser.specs.Phrases.Listings.{listing}
use Rattle.plus_parser.proofs.PhraseLemmas.Until.{Stays}
use Rattle.plus_parser.proofs.phrases.lists.names.Given as goal

abbrev pub invariant-found : goal.invariant-found
invariant-found l =
    Stays (list_step l.allowed l.room) l.room (listing l.found) l.reader (until_close (list_step l.allowed l.room) l.room (length l.initial.reader) no_names l.initial.reader) (length l.initial.reader)

abbrev pub decreases-found : goal.decreases-found
decreases-found l = length l.reader
