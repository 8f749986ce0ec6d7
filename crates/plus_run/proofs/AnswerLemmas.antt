-- An answer of a command, put together from what was written.
use Rattle.std.proofs.Common.{◌≡◌, ℕ, List, Option, Some, None, subst, sym, refl, inl, inr}
use Rattle.plus_io.specs.Faults.{Rose}
use Rattle.plus_io.specs.Taken.{Took}
use Rattle.plus_report.specs.declared.status.Status.{Status}
use Rattle.plus_report.specs.declared.status.Status.TheVariants as s
use Rattle.plus_run.specs.Command.{Command}
use Rattle.plus_run.specs.Headline.{Answers, usage_line, IsAnswer}
use Rattle.plus_reply.specs.Reply.{IsPlain, RepliedInPart}
use Rattle.plus_reply.specs.Statuses.{Writes}

-- a command is one
pub some_none : {A B : Type 0} (x : A) → Some x ≡ None → B
some_none x e = cc e

module _ (command : Command) (bytes : List ℕ → Option (List ℕ)) (old new : Option (List ℕ)) (a b c d : ℕ) where
  abbrev Is : Status → Type 0
  Is x = IsAnswer (Some command) bytes old new a b c d x

  plain_at : (x : Status) → IsPlain x → (text : List ℕ) → Answers (Some command) bytes x text → Took old new text → Is x
  plain_at s.Valid p text h t = record { replied = λ g. inl (record { written = text; reply = h; took = t }); usage = λ v. cc v; no_command = λ n. cc n; read_fault = λ v. cc v; write_fault = λ v. cc v; no_memory = λ v. cc v }
  plain_at s.Invalid p text h t = record { replied = λ g. inl (record { written = text; reply = h; took = t }); usage = λ v. cc v; no_command = λ n. cc n; read_fault = λ v. cc v; write_fault = λ v. cc v; no_memory = λ v. cc v }
  plain_at s.Beyond p text h t = record { replied = λ g. inl (record { written = text; reply = h; took = t }); usage = λ v. cc v; no_command = λ n. cc n; read_fault = λ v. cc v; write_fault = λ v. cc v; no_memory = λ v. cc v }
  plain_at s.BadText p text h t = record { replied = λ g. inl (record { written = text; reply = h; took = t }); usage = λ v. cc v; no_command = λ n. cc n; read_fault = λ v. cc v; write_fault = λ v. cc v; no_memory = λ v. cc v }
  plain_at s.Usage p text h t = absurd p
  plain_at s.ReadFault p text h t = absurd p
  plain_at s.WriteFault p text h t = absurd p
  plain_at s.NoMemory p text h t = absurd p

  -- a text that the command answers was written
  pub by_text : (r x : Status) → r ≡ x → IsPlain x → (text : List ℕ) → Answers (Some command) bytes x text → Took old new text → IsAnswer (Some command) bytes old new a b c d r
  by_text r x e p text h t = subst Is (sym e) (plain_at x p text h t)

  fault_at : Rose c d → RepliedInPart (Answers (Some command) bytes) old new → Is s.WriteFault
  fault_at f k = record { replied = λ g. absurd g; usage = λ v. cc v; no_command = λ n. cc n; read_fault = λ v. cc v; write_fault = λ v. (f, inl k); no_memory = λ v. cc v }

  -- it was written, or the sink failed in it
  pub text_answer : (r x : Status) (text : List ℕ) → IsPlain x → Writes text x old new c d r → Answers (Some command) bytes x text → IsAnswer (Some command) bytes old new a b c d r
  text_answer r x text p (inl w) h = by_text r x w.0 p text h w.1
  text_answer r x text p (inr w) h = subst Is (sym w.0) (fault_at w.1 (record { status = x; written = text; reply = h; part = w.2 }))

-- a file failed, and nothing was written
pub file_answer : (command : Command) (bytes : List ℕ → Option (List ℕ)) (old : Option (List ℕ)) (a b c d : ℕ) → Rose a b → IsAnswer (Some command) bytes old old a b c d s.ReadFault
file_answer command bytes old a b c d f = record { replied = λ g. absurd g; usage = λ v. cc v; no_command = λ n. cc n; read_fault = λ v. (f, inl refl); write_fault = λ v. cc v; no_memory = λ v. cc v }

-- memory is wanting, and nothing was written
pub memory_answer : (command : Command) (bytes : List ℕ → Option (List ℕ)) (old : Option (List ℕ)) (a b c d : ℕ) → IsAnswer (Some command) bytes old old a b c d s.NoMemory
memory_answer command bytes old a b c d = record { replied = λ g. absurd g; usage = λ v. cc v; no_command = λ n. cc n; read_fault = λ v. cc v; write_fault = λ v. cc v; no_memory = λ v. inl refl }

-- the words are no command
module _ (bytes : List ℕ → Option (List ℕ)) (old new : Option (List ℕ)) (a b c d : ℕ) where
  abbrev IsNone : Status → Type 0
  IsNone x = Writes usage_line s.Usage old new c d x → IsAnswer None bytes old new a b c d x

  pub usage_answer : (r : Status) → Writes usage_line s.Usage old new c d r → IsAnswer None bytes old new a b c d r
  usage_answer r (inl w) =
      subst IsNone (sym w.0)
      (λ u. record { replied = λ g. inl (record { written = usage_line; reply = (refl, refl); took = w.1 }); usage = λ v. refl; no_command = λ n. u; read_fault = λ v. cc v; write_fault = λ v. cc v; no_memory = λ v. cc v })
      (inl w)
  usage_answer r (inr w) =
      subst IsNone (sym w.0)
      (λ u. record {
        replied = λ g. absurd g;
        usage = λ v. cc v;
        no_command = λ n. u;
        read_fault = λ v. cc v;
        write_fault = λ v. (w.1, inl (record { status = s.Usage; written = usage_line; reply = (refl, refl); part = w.2 }));
        no_memory = λ v. cc v;
      })
      (inr w)
