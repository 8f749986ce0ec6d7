-- What `show` replies: the canonical text of the tree that a text spells, or one line that says why it spells none.
use Rattle.std.specs.Prelude.{◌≡◌, ℕ, ◌≤◌, List, length}
use Rattle.plus_report.specs.declared.refusals.Early.{Early}
use Rattle.plus_report.specs.Refusals.{early_text}
use Rattle.plus_report.specs.declared.status.Status.{Status}
use Rattle.plus_report.specs.declared.status.Status.TheVariants as s
use Rattle.plus_io.specs.Limits.{text_limit}
use Rattle.plus_reply.specs.Statuses.{early_status}

-- the text is within its limit and spells the tree
abbrev pub IsSpelled : {T : Type 0} → (List ℕ → T → Type 0) → List ℕ → T → Type 0
IsSpelled Spells text tree = Spells text tree × (length text ≤ text_limit)

-- the status, and what is written, of a text that is shown
pub data Shows {T : Type 0} (Spells : List ℕ → T → Type 0) (canon : T → List ℕ) (Refused : List ℕ → Early → Type 0) (text : List ℕ) (status : Status) (written : List ℕ) : Type 0 where
  a_tree : (tree : T) → IsSpelled Spells text tree → status ≡ s.Valid → written ≡ canon tree → Shows Spells canon Refused text status written
  no_tree : (e : Early) → Refused text e → status ≡ early_status e → written ≡ early_text e → Shows Spells canon Refused text status written
