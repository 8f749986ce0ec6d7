use Rattle.std.proofs.Common.{◌+◌, ◌*◌, length, []}
use Rattle.plus_parser.specs.Phrases.Grammar.{until_close, form_step}
use Rattle.plus_parser.specs.Forms.ReadingForms.{cond_at}
use Rattle.plus_parser.proofs.PhraseLemmas.Until.{Stays}
use Rattle.plus_parser.proofs.forms.conditions.+cond.Given as goal

abbrev pub invariant-conds-found : goal.invariant-conds-found
invariant-conds-found l =
    Stays (form_step (cond_at l.room)) l.room l.found.items l.reader (until_close (form_step (cond_at l.room)) l.room (length l.initial.reader) [] l.initial.reader) (length l.initial.reader)

abbrev pub decreases-conds-found : goal.decreases-conds-found
decreases-conds-found l = length l.reader

abbrev pub decreases-inside : goal.decreases-inside
decreases-inside l = 5 * l.room

abbrev pub decreases-member : goal.decreases-member
decreases-member l = 5 * l.room + 1

abbrev pub decreases-conds : goal.decreases-conds
decreases-conds l = 5 * l.room + 2

abbrev pub decreases-next : goal.decreases-next
decreases-next l = 5 * l.room + 1

abbrev pub decreases-boxed : goal.decreases-boxed
decreases-boxed l = 5 * l.room + 2

abbrev pub decreases-two : goal.decreases-two
decreases-two l = 5 * l.room + 3

abbrev pub decreases-bound : goal.decreases-bound
decreases-bound l = 5 * l.room + 3

abbrev pub decreases-cond : goal.decreases-cond
decreases-cond l = 5 * l.room + 4
