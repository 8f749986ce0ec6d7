-- What reading constraints answers: those that the text under a name spells, or why it spells none. What stands under a name is said
-- where the shelf tells it.
use Rattle.std.specs.Prelude.{◌≡◌, ℕ, ◌<◌, ◌≤◌, List, length, Option, IfSome}
use Rattle.plus_io.specs.Faults.{Rose}
use Rattle.plus_io.specs.Limits.{text_limit}
use Rattle.plus_tree.specs.declared.faults.TextFault.{TextFault}
use Rattle.plus_tree.specs.declared.trees.Constraint.{Constraint}
use Rattle.plus_grammar.specs.Wholes.{AreConstraints}
use Rattle.plus_grammar.specs.Texts.{IsConstraintsText}
use Rattle.plus_places.specs.Place.{IsPlace}
use Rattle.plus_report.specs.declared.refusals.Text.TheVariants as texts
use Rattle.plus_report.specs.declared.refusals.Early as early
use Rattle.plus_report.specs.declared.refusals.Early.TheVariants.{TooLong}
use Rattle.plus_reply.specs.declared.pair.pair.Refusal.{Refusal}
use Rattle.plus_reply.specs.declared.pair.pair.Refusal.TheVariants.{Early, ReadFault, NoMemory}
use Rattle.plus_reply.specs.Pair.Pair.{depth_limit, text_refusal}

-- Why the text is refused: it is too long; or it spells no constraints with so few parentheses open at once, and the line names the
-- place of this, the first token behind which no text of the grammar goes on.
pub data ConstraintsRefused (text : List ℕ) (e : early.Early) : Type 0 where
  long_constraints : text_limit < length text → e ≡ TooLong texts.Constraints → ConstraintsRefused text e
  no_constraints :
      (fault : TextFault) → length text ≤ text_limit → ((cs : List Constraint) → IsConstraintsText depth_limit text cs → ⊥)
      → IsPlace AreConstraints depth_limit text fault → text_refusal texts.Constraints (length text) fault ≡ Early e → ConstraintsRefused text e

abbrev pub ReadsConstraints : Option (List ℕ) → List Constraint → Type 0
ReadsConstraints bytes cs = IfSome bytes (λ bs. IsConstraintsText depth_limit bs cs × (length bs ≤ text_limit))

abbrev pub NoConstraints : Option (List ℕ) → ℕ → ℕ → Refusal → Type 0
NoConstraints bytes before now (Early e) = IfSome bytes (λ bs. ConstraintsRefused bs e)
NoConstraints bytes before now ReadFault = Rose before now
NoConstraints bytes before now NoMemory = Unit {0}
