use Rattle.std.proofs.Common.{◌+◌, ◌*◌, length}
use Rattle.plus_parser.specs.Phrases.Grammar.{until_close, start_step, expr_from, expr_at}
use Rattle.plus_parser.proofs.PhraseLemmas.Until.{Stays}
use Rattle.plus_parser.proofs.phrases.expressions.+expr.Given as goal

abbrev pub invariant-members-found : goal.invariant-members-found
invariant-members-found l =
    Stays (start_step (expr_from (expr_at l.room))) l.room l.found.items l.reader (until_close (start_step (expr_from (expr_at l.room))) l.room (length l.initial.reader) l.initial.found.items l.initial.reader) (length l.initial.reader)

abbrev pub decreases-members-found : goal.decreases-members-found
decreases-members-found l = length l.reader

abbrev pub decreases-inside : goal.decreases-inside
decreases-inside l = 8 * l.room + 0

abbrev pub decreases-from_token : goal.decreases-from_token
decreases-from_token l = 8 * l.room + 1

abbrev pub decreases-next : goal.decreases-next
decreases-next l = 8 * l.room + 2

abbrev pub decreases-member : goal.decreases-member
decreases-member l = 8 * l.room + 2

abbrev pub decreases-two : goal.decreases-two
decreases-two l = 8 * l.room + 3

abbrev pub decreases-members : goal.decreases-members
decreases-members l = 8 * l.room + 3

abbrev pub decreases-minus : goal.decreases-minus
decreases-minus l = 8 * l.room + 3

abbrev pub decreases-pair : goal.decreases-pair
decreases-pair l = 8 * l.room + 4

abbrev pub decreases-many : goal.decreases-many
decreases-many l = 8 * l.room + 4

abbrev pub decreases-expr : goal.decreases-expr
decreases-expr l = 8 * l.room + 5
