-- What is out where a file failed, and how far a check has read where the sink failed. `check` writes while it reads its plan: the report of all lines that stand whole in what was read of
-- the plan is out, and no byte more. Every other command writes when all is read: nothing is out.
use Rattle.std.specs.Prelude.{◌≡◌, ℕ, ◌+◌, List, [], ◌∷◌, Option, Some, IfSome}
use Rattle.plus_io.specs.Taken.{TookPart}
use Rattle.plus_io.specs.Picks.{Pick, ReadsEach, ReadsInOrder}
use Rattle.plus_tree.specs.declared.trees.Domain.{Domain}
use Rattle.plus_tree.specs.declared.trees.Problem.{Problem}
use Rattle.plus_report.specs.declared.refusals.Early.{Early}
use Rattle.plus_report.specs.Refusals.{early_text}
use Rattle.plus_validator.specs.Leaving.{StopsReading, KeepsUp}
use Rattle.plus_validator.specs.Validates.{RefusesPairInPart}
use Rattle.plus_reply.specs.Pair.Pair.{SpellsWellTyped, PairRefused}
use Rattle.plus_io.specs.Limits.{text_limit}
use Rattle.plus_run.specs.Command.{Command, Check}

-- A check stopped at a file that failed, between the shelf before and after: what it tells of the text that was picked and of what is
-- unread of it says where. Between old and new is what the sink took.
pub data StopsCheck {S : Type 0} (bytes : S → List ℕ → Option (List ℕ)) (picked rest : S → Option (List ℕ)) (picks : S → Option (List Pick)) (happenings : ℕ) (domain problem plan : List ℕ) (before after : S) (old new : Option (List ℕ)) : Type 0 where
  -- one of the two texts of the pair failed: the plan was not come to, and nothing is out
  in_pair :
      ReadsInOrder bytes picked rest picks (text_limit + 1) (domain ∷ problem ∷ []) before after → new ≡ old
      → StopsCheck bytes picked rest picks happenings domain problem plan before after old new
  -- The two texts were read and spell a pair, and then the plan failed: at its pick, and nothing is out; or behind what was taken of
  -- it, at most one byte past the limit, and exactly the report of the lines that stand whole in that is out.
  in_plan :
      (between : S) (d : Domain) (p : Problem)
      → ReadsEach bytes picked rest picks (text_limit + 1) (domain ∷ problem ∷ []) before between
      → IfSome (bytes before domain) (λ ds. IfSome (bytes before problem) (λ ps. SpellsWellTyped ds ps d p))
      → ReadsInOrder bytes picked rest picks (text_limit + 1) (plan ∷ []) between after
      → StopsReading d p happenings (bytes before plan) (picked after) (rest after) old new
      → StopsCheck bytes picked rest picks happenings domain problem plan before after old new

-- so it is of a check, and of every other command nothing is out
abbrev pub StopsRun : {S : Type 0} → (S → List ℕ → Option (List ℕ)) → (S → Option (List ℕ)) → (S → Option (List ℕ)) → (S → Option (List Pick)) → Option Command → S → S → Option (List ℕ) → Option (List ℕ) → Type 0
StopsRun bytes picked rest picks (Some (Check d p l n)) before after old new =
    StopsCheck bytes picked rest picks n d p l before after old new
StopsRun bytes picked rest picks _ before after old new = new ≡ old

-- The sink failed in a check, between the shelf before and after.
pub data BreaksCheck {S : Type 0} (bytes : S → List ℕ → Option (List ℕ)) (picked rest : S → Option (List ℕ)) (picks : S → Option (List Pick)) (happenings : ℕ) (domain problem plan : List ℕ) (before after : S) (old new : Option (List ℕ)) : Type 0 where
  -- one of the two texts, or the pair, is refused with one line, and a part of it is out
  in_line :
      (e : Early) → IfSome (bytes before domain) (λ ds. IfSome (bytes before problem) (λ ps. PairRefused ds ps e)) → TookPart old new (early_text e)
      → BreaksCheck bytes picked rest picks happenings domain problem plan before after old new
  -- the pair is not grounded, and a part of the one line is out that says why
  in_ground :
      (d : Domain) (p : Problem)
      → IfSome (bytes before domain) (λ ds. IfSome (bytes before problem) (λ ps. SpellsWellTyped ds ps d p)) → RefusesPairInPart d p old new
      → BreaksCheck bytes picked rest picks happenings domain problem plan before after old new
  -- the plan was being read, and its reading is ahead of the report by one piece at most
  in_report :
      (between : S) (d : Domain) (p : Problem)
      → ReadsEach bytes picked rest picks (text_limit + 1) (domain ∷ problem ∷ []) before between
      → IfSome (bytes before domain) (λ ds. IfSome (bytes before problem) (λ ps. SpellsWellTyped ds ps d p))
      → ReadsInOrder bytes picked rest picks (text_limit + 1) (plan ∷ []) between after
      → KeepsUp d p happenings (bytes before plan) (rest after) old new
      → BreaksCheck bytes picked rest picks happenings domain problem plan before after old new

-- so it is of a check; of other commands nothing is said here, since they write when all is read
abbrev pub BreaksRun : {S : Type 0} → (S → List ℕ → Option (List ℕ)) → (S → Option (List ℕ)) → (S → Option (List ℕ)) → (S → Option (List Pick)) → Option Command → S → S → Option (List ℕ) → Option (List ℕ) → Type 0
BreaksRun bytes picked rest picks (Some (Check d p l n)) before after old new =
    BreaksCheck bytes picked rest picks n d p l before after old new
BreaksRun bytes picked rest picks _ before after old new = Unit {0}
