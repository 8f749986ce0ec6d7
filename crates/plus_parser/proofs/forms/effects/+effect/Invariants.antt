use Rattle.std.proofs.Common.{◌+◌, ◌*◌, length, []}
use Rattle.plus_parser.specs.Phrases.Grammar.{until_close, form_step}
use Rattle.plus_parser.specs.Forms.ReadingForms.{effect_at}
use Rattle.plus_parser.proofs.PhraseLemmas.Until.{Stays}
use Rattle.plus_parser.proofs.forms.effects.+effect.Given as goal

abbrev pub invariant-effects-found : goal.invariant-effects-found
invariant-effects-found l =
    Stays (form_step (effect_at l.room)) l.room l.found.items l.reader (until_close (form_step (effect_at l.room)) l.room (length l.initial.reader) [] l.initial.reader) (length l.initial.reader)

abbrev pub decreases-effects-found : goal.decreases-effects-found
decreases-effects-found l = length l.reader

abbrev pub decreases-inside : goal.decreases-inside
decreases-inside l = 5 * l.room

abbrev pub decreases-member : goal.decreases-member
decreases-member l = 5 * l.room + 1

abbrev pub decreases-effects : goal.decreases-effects
decreases-effects l = 5 * l.room + 2

abbrev pub decreases-next : goal.decreases-next
decreases-next l = 5 * l.room + 1

abbrev pub decreases-boxed : goal.decreases-boxed
decreases-boxed l = 5 * l.room + 2

abbrev pub decreases-bound : goal.decreases-bound
decreases-bound l = 5 * l.room + 3

abbrev pub decreases-effect : goal.decreases-effect
decreases-effect l = 5 * l.room + 4
