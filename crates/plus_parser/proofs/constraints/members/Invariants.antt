use Rattle.std.proofs.Common.{length, []}
use Rattle.plus_parser.specs.Phrases.Grammar.{until_close, form_step}
use Rattle.plus_parser.specs.ReadingConstraints.{constraint_at}
use Rattle.plus_parser.proofs.PhraseLemmas.Until.{Stays}
use Rattle.plus_parser.proofs.constraints.members.Given as goal

abbrev pub invariant-found : goal.invariant-found
invariant-found l =
    Stays (form_step (constraint_at l.room)) l.room l.found.items l.reader (until_close (form_step (constraint_at l.room)) l.room (length l.initial.reader) [] l.initial.reader) (length l.initial.reader)

abbrev pub decreases-found : goal.decreases-found
decreases-found l = length l.reader
