-- What `numeric` replies: `valid`, where the lines of the plan are a plan without time of the pair; else one line that says why not.
use Rattle.std.specs.Prelude.{◌≡◌, ℕ, false, List, [], codes}
use Rattle.plus_tree.specs.declared.trees.Domain.{Domain}
use Rattle.plus_tree.specs.declared.trees.Problem.{Problem}
use Rattle.plus_report.specs.declared.refusals.Early.{Early}
use Rattle.plus_report.specs.Refusals.{early_text}
use Rattle.plus_numeric.specs.declared.answer.Kind.{Kind}
use Rattle.plus_numeric.specs.declared.source.Source.TheVariants.{Given}
use Rattle.plus_numeric.specs.Answers.{IsAccepted, IsRefused}
use Rattle.plus_report.specs.declared.status.Status.{Status}
use Rattle.plus_report.specs.declared.status.Status.TheVariants as s
use Rattle.plus_reply.specs.Pair.Pair.{PairRefused, SpellsWellTyped}
use Rattle.plus_reply.specs.Statuses.{early_status}
use Rattle.plus_numeric.specs.Verdicts.{kind_status}

abbrev pub valid_line : List ℕ
valid_line = codes "valid\n"

-- The status, and what is written, of three texts: the first two are no well-typed pair; or the third is a plan of the pair that they
-- spell; or the pair goes beyond actions and numbers, or is not grounded, or the plan is refused.
pub data PlaysUntimed (domain problem plan : List ℕ) (status : Status) (written : List ℕ) : Type 0 where
  no_pair : (e : Early) → PairRefused domain problem e → status ≡ early_status e → written ≡ early_text e → PlaysUntimed domain problem plan status written
  accepted :
      (d : Domain) (p : Problem) → SpellsWellTyped domain problem d p → IsAccepted d p plan false [] → status ≡ s.Valid → written ≡ valid_line
      → PlaysUntimed domain problem plan status written
  refused :
      (d : Domain) (p : Problem) (kind : Kind) → SpellsWellTyped domain problem d p → IsRefused Given d p plan kind written
      → status ≡ kind_status kind → PlaysUntimed domain problem plan status written
