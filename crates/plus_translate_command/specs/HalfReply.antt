-- What `translate` replies: a text that is held in parts, and the status that goes with it.
use Rattle.std.specs.Prelude.{◌≡◌, ℕ, List, Option, Result, Ok, Err}
use Rattle.plus_report.specs.Refusals.{early_text}
use Rattle.plus_reply.specs.declared.pair.pair.Refusal.{Refusal}
use Rattle.plus_reply.specs.declared.pair.pair.Refusal.TheVariants as refusals
use Rattle.plus_report.specs.declared.status.Status.{Status}
use Rattle.plus_report.specs.declared.status.Status.TheVariants as s
use Rattle.plus_reply.specs.declared.reply.Fault.{Fault}
use Rattle.plus_reply.specs.declared.reply.Fault.TheVariants as faults
use Rattle.plus_reply.specs.Statuses.{early_status, Writes}
use Rattle.plus_translate_command.specs.declared.translate.HalfReply.{HalfReply}

-- a refusal is told in its one line
abbrev pub TellsRefusal : Refusal → Result HalfReply Fault → Type 0
TellsRefusal (refusals.Early e) (Ok r) = (r.status ≡ early_status e) × (r.text ≡ early_text e)
TellsRefusal (refusals.Early e) (Err f) = f ≡ faults.NoMemory
TellsRefusal refusals.ReadFault r = r ≡ Err faults.ReadFault
TellsRefusal refusals.NoMemory r = r ≡ Err faults.NoMemory

-- what is written of a reply, and the status of that
abbrev pub Gives : Result HalfReply Fault → Option (List ℕ) → Option (List ℕ) → ℕ → ℕ → Status → Type 0
Gives (Ok r) old new before now status = Writes r.text r.status old new before now status
Gives (Err faults.ReadFault) old new before now status = (status ≡ s.ReadFault) × (new ≡ old)
Gives (Err faults.NoMemory) old new before now status = (status ≡ s.NoMemory) × (new ≡ old)
