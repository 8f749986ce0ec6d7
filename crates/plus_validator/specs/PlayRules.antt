-- A plan whose report goes to a sink, as one who plays lines.
use Rattle.std.specs.Prelude.{◌≡◌, ℕ, ◌≤◌, List, [], Option}
use Rattle.plus_io.specs.Taken.{Took}
use Rattle.plus_model.specs.Terms.{Problem}
use Rattle.plus_number.specs.Frac.{fraction_of}
use Rattle.plus_state.specs.View.{Labels, problem_of, labels_of}
use Rattle.plus_plan.specs.declared.forms.Line.{Line}
use Rattle.plus_play.specs.Rules.{Rules, Why, on_line, no_line, too_long, at_end, handing}
use Rattle.plus_instances.specs.Made.{AreMade}
use Rattle.plus_report.specs.declared.verdicts.Verdict.TheVariants.{Other}
use Rattle.plus_report.specs.declared.refusals.Early.TheVariants.{TooLong}
use Rattle.plus_report.specs.declared.refusals.Text.TheVariants as texts
use Rattle.plus_validator.specs.declared.halt.Halt.{Halt}
use Rattle.plus_validator.specs.declared.halt.Halt.TheVariants.{Refused, Memory, WriteFault}
use Rattle.plus_validator.specs.declared.playing.Playing.{Playing}
use Rattle.plus_validator.specs.Account.{Progress, progress}
use Rattle.plus_validator.specs.Halts.{line_halt, HasCause}
use Rattle.plus_validator.specs.Handing.{Left, left, IsPartOut, Tellings, IsAllOut}
use Rattle.plus_validator.specs.Plans.{Pair, pair_in}
use Rattle.plus_validator.specs.Playing.{IsGroundOf, IsResting, Begins, Closes}
use Rattle.plus_validator.specs.Stopped.{HaltsInLine, HaltsAtEnd}
use Rattle.plus_validator.specs.Feeding.{HasPlayed}
use Rattle.plus_validator.specs.Told.{Telling}

-- ---- what is played

-- the pair, and the labels and the problem of its ground form
abbrev pub pair_of : {S : Type 0} → Playing S → Pair
pair_of now = pair_in now.instances.numbering.now.typed.now

abbrev pub labels_in : {S : Type 0} → Playing S → Labels
labels_in now = labels_of now.ground.now

abbrev pub problem_in : {S : Type 0} → Playing S → Problem
problem_in now = problem_of fraction_of now.ground.now

-- how it is told over it
abbrev pub telling_in : {S V : Type 0} → Tellings V → (now : Playing S) → Telling (problem_in now) V
telling_in telling now = telling (labels_in now) (problem_in now)

-- nothing is played: the first entry is made
pub record IsFresh {S V : Type 0} (told : List ℕ → S → V) (telling : Tellings V) (most : ℕ) (now : Playing S) : Type 0 where
  pub begins : Begins (problem_in now) (telling_in telling now) most (progress told [] now.run)
  pub made : AreMade now.instances

-- it may go on: the ground form is that of the pair, and the run stands at a moment
pub record CanPlay {S : Type 0} (now : Playing S) : Type 0 where
  pub expands : IsGroundOf now.instances.numbering.now.typed.now.domain now.instances.numbering.now.typed.now.problem now.ground.now
  pub made : AreMade now.instances
  pub rests : IsResting (problem_in now) now.run.timeline.line.most now.run.timeline

-- ---- what is told

module _ {S V K O : Type 0} (told : List ℕ → S → V) (telling : Tellings V) (kept : S → K) (taken : O → Option (List ℕ)) (faults : O → ℕ) where
  -- these first bytes of the report are handed on, in one play of one pair
  pub record Hands (first : Playing S) (start : O) (now : Playing S) (out : O) (sent : List ℕ) : Type 0 where
    pub numbering : now.instances.numbering ≡ first.instances.numbering
    pub ground : now.ground ≡ first.ground
    pub kept_so : kept now.run.teller ≡ kept first.run.teller
    pub took : Took (taken start) (taken out) sent
    pub no_fall : faults start ≤ faults out

  -- these lines are played
  pub record PlaysLines (first : Playing S) (start : O) (lines : List Line) (now : Playing S) (out : O) : Type 0 where
    pub sent : List ℕ
    pub hands : Hands first start now out sent
    pub played : HasPlayed (pair_of now) (problem_in now) (telling_in telling now) lines (progress told [] first.run) (progress told sent now.run)

  -- they are all, and the goal holds
  pub record PlaysToEnd (first : Playing S) (start : O) (lines : List Line) (now : Playing S) (out : O) : Type 0 where
    pub sent : List ℕ
    pub hands : Hands first start now out sent
    pub before : Progress V
    pub played : HasPlayed (pair_of now) (problem_in now) (telling_in telling now) lines (progress told [] first.run) before
    pub closes : Closes (problem_in now) (telling_in telling now) before (progress told sent now.run)

-- where the run halts, which was so before, and what it leaves
abbrev pub HaltsBy : {V : Type 0} → Pair → (P : Problem) → Telling P V → Why → Progress V → Left V → Halt → Type 0
HaltsBy d P T (on_line line) before new halt = HaltsInLine d P T line before new halt
HaltsBy d P T (no_line fault) before new halt = (halt ≡ line_halt fault) × (new.account ≡ before.account) × IsPartOut Memory new.out (T.bytes before.account.told)
HaltsBy d P T too_long before new halt = (halt ≡ Refused (Other (TooLong texts.Plan))) × (new.account ≡ before.account)
HaltsBy d P T at_end before new halt = HaltsAtEnd P T before new halt
HaltsBy d P T handing before new halt = (halt ≡ WriteFault) × IsPartOut WriteFault new.out (T.bytes before.account.told)

module _ {S V K O : Type 0} (told : List ℕ → S → V) (telling : Tellings V) (kept : S → K) (taken : O → Option (List ℕ)) (faults : O → ℕ) where
  -- these lines are played, and then the run halts: the ids that its verdict names are those of the problem, or the sink failed
  pub record HaltsBehind (first : Playing S) (start : O) (lines : List Line) (why : Why) (now : Playing S) (out : O) (halt : Halt) : Type 0 where
    pub sent : List ℕ
    pub hands : Hands told telling kept taken faults first start now out sent
    pub before : Progress V
    pub played : HasPlayed (pair_of now) (problem_in now) (telling_in telling now) lines (progress told [] first.run) before
    pub by : HaltsBy (pair_of now) (problem_in now) (telling_in telling now) why before (left told sent now.run) halt
    pub cause : HasCause (problem_in now) (faults start) (faults out) halt

  -- what a plan that is played says of the lines
  abbrev pub play_rules : Rules (Playing S) O Halt
  play_rules = record {
    told = taken;
    Can = λ now out. CanPlay now;
    Handed = λ now out. IsAllOut told telling now.run.teller;
    Played = λ first start lines now out. PlaysLines told telling kept taken faults first start lines now out;
    Ended = λ first start lines now out. PlaysToEnd told telling kept taken faults first start lines now out;
    Stops = λ first start lines why now out halt. HaltsBehind first start lines why now out halt;
  }
