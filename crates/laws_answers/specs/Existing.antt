-- That there is an answer: two texts spell a pair or are refused, and a command has one status and one text that it may write.
use Rattle.std.specs.Prelude.{◌≡◌, ◌⊎◌, ℕ, List, Option, Some, None}
use Rattle.plus_tree.specs.declared.trees.Domain.{Domain}
use Rattle.plus_tree.specs.declared.trees.Problem.{Problem}
use Rattle.plus_report.specs.declared.refusals.Early.{Early}
use Rattle.plus_reply.specs.Pair.Pair.{PairRefused, SpellsWellTyped}
use Rattle.plus_report.specs.declared.status.Status.{Status}
use Rattle.plus_run.specs.Command.{Command, ShowDomain, ShowProblem, Numeric, Translate, files_of}
use Rattle.plus_run.specs.Headline.{IsAnswer}
use Rattle.plus_run.specs.Laws.{IsSettled, AreTold}

-- any two texts spell a well-typed pair, or one line says why not
abbrev pub PairOrRefusal : Type 0
PairOrRefusal =
    (domain problem : List ℕ)
    → ((d : Domain) × (p : Problem) × SpellsWellTyped domain problem d p) ⊎ ((e : Early) × PairRefused domain problem e)

-- The command has an answer with no fault and no want of memory, and no other: one status, and one text that is written behind what was
-- taken.
pub record HasOneAnswer (command : Option Command) (bytes : List ℕ → Option (List ℕ)) (old : Option (List ℕ)) : Type 0 where
  pub status : Status
  pub new : Option (List ℕ)
  pub settled : IsSettled status
  pub answers : IsAnswer command bytes old new 0 0 0 0 status
  pub only :
      (other : Status) (taken : Option (List ℕ)) (a b c d : ℕ) → IsAnswer command bytes old taken a b c d other → IsSettled other
      → (other ≡ status) × (taken ≡ new)

-- the words are no command, or one whose answer is worked without time
abbrev pub IsUntimed : Option Command → Type 0
IsUntimed None = Unit {0}
IsUntimed (Some (ShowDomain file)) = Unit {0}
IsUntimed (Some (ShowProblem file)) = Unit {0}
IsUntimed (Some (Numeric d p l)) = Unit {0}
IsUntimed (Some (Translate file q d p)) = Unit {0}
IsUntimed _ = ⊥

abbrev pub OneAnswerExists : Type 0
OneAnswerExists =
    (command : Option Command) (bytes : List ℕ → Option (List ℕ)) (old : Option (List ℕ))
    → AreTold bytes (files_of command) → IsUntimed command → HasOneAnswer command bytes old
