-- What a command replies: a text, and the status that goes with it.
use Rattle.std.specs.Prelude.{◌≡◌, ℕ, List, Option, Result, Ok, Err}
use Rattle.plus_io.specs.Faults.{Rose}
use Rattle.plus_io.specs.Taken.{Took, TookPart}
use Rattle.plus_report.specs.Refusals.{early_text}
use Rattle.plus_report.specs.declared.status.Status.{Status}
use Rattle.plus_report.specs.declared.status.Status.TheVariants as s
use Rattle.plus_reply.specs.declared.reply.Reply.{Reply}
use Rattle.plus_reply.specs.declared.reply.Fault.{Fault}
use Rattle.plus_reply.specs.declared.reply.Fault.TheVariants as faults
use Rattle.plus_reply.specs.declared.pair.pair.Refusal.{Refusal}
use Rattle.plus_reply.specs.declared.pair.pair.Refusal.TheVariants as refusals
use Rattle.plus_reply.specs.Statuses.{early_status, Writes}

-- the status goes with a text
abbrev pub IsPlain : Status → Type 0
IsPlain s.Valid = Unit {0}
IsPlain s.Invalid = Unit {0}
IsPlain s.Beyond = Unit {0}
IsPlain s.BadText = Unit {0}
IsPlain s.Usage = ⊥
IsPlain s.ReadFault = ⊥
IsPlain s.WriteFault = ⊥
IsPlain s.NoMemory = ⊥

-- the shelf failed; want of memory is free
abbrev pub HasCause : ℕ → ℕ → Fault → Type 0
HasCause before now faults.ReadFault = Rose before now
HasCause before now faults.NoMemory = Unit {0}

-- a refusal is told in its one line
abbrev pub TellsRefusal : Refusal → Result Reply Fault → Type 0
TellsRefusal (refusals.Early e) (Ok r) = (r.status ≡ early_status e) × (r.text.items ≡ early_text e)
TellsRefusal (refusals.Early e) (Err f) = f ≡ faults.NoMemory
TellsRefusal refusals.ReadFault r = r ≡ Err faults.ReadFault
TellsRefusal refusals.NoMemory r = r ≡ Err faults.NoMemory

-- what is written of a reply, and the status of that
abbrev pub Gives : Result Reply Fault → Option (List ℕ) → Option (List ℕ) → ℕ → ℕ → Status → Type 0
Gives (Ok r) old new before now status = Writes r.text.items r.status old new before now status
Gives (Err faults.ReadFault) old new before now status = (status ≡ s.ReadFault) × (new ≡ old)
Gives (Err faults.NoMemory) old new before now status = (status ≡ s.NoMemory) × (new ≡ old)

-- the sink took a text that is replied with this status
pub record Replied (Replies : Status → List ℕ → Type 0) (old new : Option (List ℕ)) (status : Status) : Type 0 where
  pub written : List ℕ
  pub reply : Replies status written
  pub took : Took old new written

-- the sink failed, and took some first bytes of what is replied, and not all
pub record RepliedInPart (Replies : Status → List ℕ → Type 0) (old new : Option (List ℕ)) : Type 0 where
  pub status : Status
  pub written : List ℕ
  pub reply : Replies status written
  pub part : TookPart old new written

-- two replies with the same status and the same text
abbrev pub Same : Status → Status → List ℕ → List ℕ → Type 0
Same x y w v = (x ≡ y) × (w ≡ v)

-- the statuses and texts that may be replied are one
abbrev pub HasOneReply : (Status → List ℕ → Type 0) → Type 0
HasOneReply Replies = (x y : Status) (w v : List ℕ) → Replies x w → Replies y v → Same x y w v
