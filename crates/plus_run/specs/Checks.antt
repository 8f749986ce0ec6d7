-- What `check` replies: the report of what happens and the verdict line; or one line that says why the pair is not checked.
use Rattle.std.specs.Prelude.{◌≡◌, ℕ, List, Option, IfSome}
use Rattle.plus_tree.specs.declared.trees.Domain.{Domain}
use Rattle.plus_tree.specs.declared.trees.Problem.{Problem}
use Rattle.plus_report.specs.declared.refusals.Early.{Early}
use Rattle.plus_report.specs.Refusals.{early_text}
use Rattle.plus_report.specs.declared.status.Status.{Status}
use Rattle.plus_report.specs.declared.status.Status.TheVariants as s
use Rattle.plus_validator.specs.declared.judge.Outcome.{Outcome}
use Rattle.plus_validator.specs.Accepted.{IsAccepted}
use Rattle.plus_validator.specs.Outcomes.{status_of}
use Rattle.plus_validator.specs.Validates.{IsRefusal, IsRefusedIn, IsUngrounded}
use Rattle.plus_reply.specs.Pair.Pair.{PairRefused, SpellsWellTyped}
use Rattle.plus_reply.specs.Statuses.{early_status}

-- The status, and what is written, of a check of two texts and of a plan, where the plan is told, which may enter so many moments: the two
-- texts are no well-typed pair, and one line says why; they are one that is not grounded, and one line says why; the plan is accepted,
-- and its text is that of the one trajectory that has its actions, and `valid`; or it is refused, and its text tells what happens before.
pub data Checks (most : ℕ) (domain problem : List ℕ) (plan : Option (List ℕ)) (status : Status) (written : List ℕ) : Type 0 where
  no_pair : (e : Early) → PairRefused domain problem e → status ≡ early_status e → written ≡ early_text e → Checks most domain problem plan status written
  no_ground :
      (d : Domain) (p : Problem) → SpellsWellTyped domain problem d p → status ≡ s.Beyond → IsUngrounded d p written
      → Checks most domain problem plan status written
  accepted :
      (d : Domain) (p : Problem) → SpellsWellTyped domain problem d p → status ≡ s.Valid → IfSome plan (λ text. IsAccepted d p most text written)
      → Checks most domain problem plan status written
  refused :
      (d : Domain) (p : Problem) (outcome : Outcome) → SpellsWellTyped domain problem d p → IsRefusal outcome → status ≡ status_of outcome
      → IfSome plan (λ text. IsRefusedIn d p most text outcome written) → Checks most domain problem plan status written

-- the two texts spell a well-typed pair, of which, and of the plan, this holds where the plan is told
pub record OnPlan (domain problem : List ℕ) (plan : Option (List ℕ)) (Holds : Domain → Problem → List ℕ → Type 0) : Type 0 where
  pub d : Domain
  pub p : Problem
  pub pair : SpellsWellTyped domain problem d p
  pub holds : IfSome plan (Holds d p)
