-- What a reader of an answer of the program may rely on, over the definitions alone.
use Rattle.std.specs.Prelude.{◌≡◌, ℕ, List, [], ◌∷◌, Option, Some, IsSome}
use Rattle.plus_tree.specs.declared.trees.Domain.{Domain}
use Rattle.plus_tree.specs.declared.trees.Problem.{Problem}
use Rattle.plus_validator.specs.Tame.{IsTameText, HasTrajectory}
use Rattle.plus_report.specs.declared.status.Status.{Status}
use Rattle.plus_report.specs.declared.status.Status.TheVariants as s
use Rattle.plus_run.specs.Command.{Command, Check, Plan, Trim, files_of}
use Rattle.plus_run.specs.Headline.{SpellsWellTyped, IsAnswer}
pub use Rattle.plus_run.specs.Headline.{IsSettled}

-- the shelf tells what stands under each of these names
abbrev pub AreTold : (List ℕ → Option (List ℕ)) → List (List ℕ) → Type 0
AreTold bytes [] = Unit {0}
AreTold bytes (name ∷ names) = IsSome (bytes name) × AreTold bytes names

-- `plan` may find one of several plans, and may spend its tries or not, and `trim` may keep one of several lists of actions; of every
-- other command the answer is said whole
abbrev pub IsSaidWhole : Option Command → Type 0
IsSaidWhole (Some (Plan q k n cut d p)) = ⊥
IsSaidWhole (Some (Trim d p l)) = ⊥
IsSaidWhole _ = Unit {0}

-- Such a command over the same files has one answer: two that tell of no fault and of no want of memory have the same status, and
-- the output took the same bytes.
abbrev pub OneAnswer : Type 0
OneAnswer =
    (command : Option Command) (bytes : List ℕ → Option (List ℕ)) (old new new' : Option (List ℕ)) (a b c d a' b' c' d' : ℕ) (status status' : Status)
    → AreTold bytes (files_of command) → IsAnswer command bytes old new a b c d status → IsAnswer command bytes old new' a' b' c' d' status'
    → IsSettled status → IsSettled status' → IsSaidWhole command → (status ≡ status') × (new ≡ new')

-- the three texts spell a well-typed pair and a plan, and all of it stays inside the limits, with so many moments
pub record IsInside (happenings : ℕ) (domain problem plan : List ℕ) (d : Domain) (p : Problem) : Type 0 where
  pub pair : SpellsWellTyped domain problem d p
  pub tame : IsTameText d p happenings plan

-- the plan is valid, and it has a trajectory; or it is invalid, and it has none
pub data IsDecided (d : Domain) (p : Problem) (plan : List ℕ) (status : Status) : Type 0 where
  is_valid : status ≡ s.Valid → HasTrajectory d p plan → IsDecided d p plan status
  is_invalid : status ≡ s.Invalid → (HasTrajectory d p plan → ⊥) → IsDecided d p plan status

-- Where all of it stays inside the limits, an answer that tells of no fault and of no want of memory decides the plan.
abbrev pub Decides : Type 0
Decides =
    (domain problem plan : List ℕ) (n : ℕ) (bytes : List ℕ → Option (List ℕ)) (old new : Option (List ℕ)) (a b c e : ℕ) (status : Status)
    (ds ps ls : List ℕ) (d : Domain) (p : Problem) → bytes domain ≡ Some ds → bytes problem ≡ Some ps → bytes plan ≡ Some ls
    → IsInside n ds ps ls d p → IsAnswer (Some (Check domain problem plan n)) bytes old new a b c e status → IsSettled status
    → IsDecided d p ls status

-- What the status of a command tells of its plan, where the shelf tells the three texts and all of it stays inside the limits.
abbrev pub DecidesFor : Option Command → (List ℕ → Option (List ℕ)) → Status → Type 0
DecidesFor (Some (Check domain problem plan n)) bytes status =
    (ds ps ls : List ℕ) (d : Domain) (p : Problem) → bytes domain ≡ Some ds → bytes problem ≡ Some ps → bytes plan ≡ Some ls
    → IsInside n ds ps ls d p → IsSettled status → IsDecided d p ls status
DecidesFor _ bytes status = Unit {0}
