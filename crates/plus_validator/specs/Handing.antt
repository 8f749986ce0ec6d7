-- What a run hands on of what it tells, as it goes.
use Rattle.std.specs.Prelude.{◌≡◌, ℕ, ◌<◌, List, ◌++◌, length, Option}
use Rattle.plus_io.specs.Files.{IsPrefix}
use Rattle.plus_io.specs.Taken.{Took}
use Rattle.plus_validator.specs.declared.halt.Halt.{Halt}
use Rattle.plus_validator.specs.declared.halt.Halt.TheVariants.{Refused, Memory, WriteFault}
use Rattle.plus_validator.specs.declared.run.Run.{Run}
use Rattle.plus_model.specs.Terms.{Problem}
use Rattle.plus_state.specs.View.{Labels}
use Rattle.plus_validator.specs.Account.{Account, Progress, progress}
use Rattle.plus_validator.specs.Told.{Telling}

-- The sink took some bytes, and between old and new this is so, whatever was handed on before: they are handed on behind it.
pub record HandsOn {A V B W : Type 0} (seen : List ℕ → A → V) (later : List ℕ → B → W) (Is : V → W → Type 0) (old : A) (new : B) (before now : Option (List ℕ)) : Type 0 where
  pub gone : List ℕ
  pub took : Took before now gone
  pub goes : (sent : List ℕ) → Is (seen sent old) (later (sent ++ gone) new)

-- what is told stays as it is
abbrev pub StaysSo : {A V : Type 0} → (List ℕ → A → V) → A → A → Option (List ℕ) → Option (List ℕ) → Type 0
StaysSo told old new before now = HandsOn told told (λ one other. other ≡ one) old new before now

-- ---- what a run that halts leaves

-- what is handed on, and all that is told
pub record Left (V : Type 0) : Type 0 where
  pub out : List ℕ
  pub account : Account V

-- all is told so that this progress tells
abbrev pub left_by : {V : Type 0} → List ℕ → Progress V → Left V
left_by out run = record { out = out; account = run.account }

-- of a run that has handed on these first bytes
abbrev pub left : {S V : Type 0} → (List ℕ → S → V) → List ℕ → Run S → Left V
left told sent run = left_by sent (progress told sent run)

-- of a report these first bytes are out: where the sink failed, not all
abbrev pub IsPartOut : Halt → List ℕ → List ℕ → Type 0
IsPartOut (Refused v) out report = IsPrefix out report
IsPartOut Memory out report = IsPrefix out report
IsPartOut WriteFault out report = (rest : List ℕ) × (report ≡ out ++ rest) × (0 < length rest)

-- ---- of any teller

-- the ways to tell the histories of plans over problems
abbrev pub Tellings : Type 0 → Type 1
Tellings V = Labels → (P : Problem) → Telling P V

-- nothing waits
abbrev pub IsAllOut : {S V : Type 0} → (List ℕ → S → V) → Tellings V → S → Type 0
IsAllOut told telling now = (N : Labels) (P : Problem) (sent : List ℕ) → (telling N P).bytes (told sent now) ≡ sent

-- the sink failed: it took a part of what waits
abbrev pub BreaksOff : {S V : Type 0} → (List ℕ → S → V) → Tellings V → S → S → Option (List ℕ) → Option (List ℕ) → Type 0
BreaksOff told telling old new before now =
    (N : Labels) (P : Problem) → HandsOn told (λ out s. out) (λ all out. IsPartOut WriteFault out ((telling N P).bytes all)) old new before now

-- so it is for a run
abbrev pub BreaksOffAt : {V : Type 0} {P : Problem} → Telling P V → Progress V → Left V → Type 0
BreaksOffAt T run l = IsPartOut WriteFault l.out (T.bytes run.account.told)

abbrev pub RunBreaksOff : {S V : Type 0} → (List ℕ → S → V) → Tellings V → Run S → Run S → Option (List ℕ) → Option (List ℕ) → Type 0
RunBreaksOff told telling old new before now = (N : Labels) (P : Problem) → HandsOn (progress told) (left told) (BreaksOffAt (telling N P)) old new before now
