-- From a reply to the answer of a command.
use Rattle.std.proofs.Common.{◌≡◌, ℕ, List, Option, Some, subst, sym}
use Rattle.std.specs.Prelude.{IfOk, IfErr, Result, Ok, Err}
use Rattle.plus_report.specs.declared.status.Status.{Status}
use Rattle.plus_reply.specs.declared.reply.Reply.{Reply}
use Rattle.plus_reply.specs.declared.reply.Fault.{Fault}
use Rattle.plus_reply.specs.declared.reply.Fault.TheVariants as faults
use Rattle.plus_reply.specs.Reply.{IsPlain, HasCause, Gives}
use Rattle.plus_translate_command.specs.declared.translate.HalfReply.{HalfReply}
use Rattle.plus_translate_command.specs.HalfReply as halves
use Rattle.plus_run.specs.Command.{Command}
use Rattle.plus_run.specs.Headline.{Answers, IsAnswer}
use Rattle.plus_run.proofs.AnswerLemmas.{text_answer, file_answer, memory_answer}

-- a command that reads no file has no fault of one
pub no_faults : (a b : ℕ) (reply : Result Reply Fault) → IfErr reply (λ f. f ≡ faults.NoMemory) → IfErr reply (HasCause a b)
no_faults a b (Ok x) h = tt
no_faults a b (Err faults.ReadFault) h = cc h
no_faults a b (Err faults.NoMemory) h = tt

module _ (command : Command) (bytes : List ℕ → Option (List ℕ)) (old new : Option (List ℕ)) (a b c d : ℕ) (r : Status) where
  -- nothing is replied, and nothing was written
  fault_answer : (f : Fault) → HasCause a b f → Gives (Err f) old new c d r → IsAnswer (Some command) bytes old new a b c d r
  fault_answer faults.ReadFault e g =
      subst (λ n. IsAnswer (Some command) bytes old n a b c d r) (sym g.1) (subst (IsAnswer (Some command) bytes old old a b c d) (sym g.0) (file_answer command bytes old a b c d e))
  fault_answer faults.NoMemory e g =
      subst (λ n. IsAnswer (Some command) bytes old n a b c d r) (sym g.1) (subst (IsAnswer (Some command) bytes old old a b c d) (sym g.0) (memory_answer command bytes old a b c d))

  pub reply_answer :
      (reply : Result Reply Fault) → IfOk reply (λ x. Answers (Some command) bytes x.status x.text.items) → IfOk reply (λ x. IsPlain x.status)
      → IfErr reply (HasCause a b) → Gives reply old new c d r → IsAnswer (Some command) bytes old new a b c d r
  reply_answer (Ok x) h p e g = text_answer command bytes old new a b c d r x.status x.text.items p g h
  reply_answer (Err f) h p e g = fault_answer f e g

  -- the same of a reply that is held in parts
  half_fault : (f : Fault) → HasCause a b f → halves.Gives (Err f) old new c d r → IsAnswer (Some command) bytes old new a b c d r
  half_fault faults.ReadFault e g = fault_answer faults.ReadFault e g
  half_fault faults.NoMemory e g = fault_answer faults.NoMemory e g

  pub half_answer :
      (reply : Result HalfReply Fault) → IfOk reply (λ x. Answers (Some command) bytes x.status x.text) → IfOk reply (λ x. IsPlain x.status)
      → IfErr reply (HasCause a b) → halves.Gives reply old new c d r → IsAnswer (Some command) bytes old new a b c d r
  half_answer (Ok x) h p e g = text_answer command bytes old new a b c d r x.status x.text p g h
  half_answer (Err f) h p e g = half_fault f e g
