use Rattle.std.proofs.Common.{◌≡◌, List, ℕ, ◌++◌, ◌∙◌, refl, ap}
use Rattle.std.proofs.lemmas.Result.{err_from_is_err_and}
use Rattle.plus_validator.specs.declared.halt.Halt.{Halt}
use Rattle.plus_validator.specs.declared.halt.Halt.TheVariants.{Memory}
use Rattle.plus_validator.proofs.Halting.{from_err}
use Rattle.plus_validator.proofs.judgement.sum_up.Goals as goal

pub returns-in_err-judged-clause-memory : goal.returns-in_err-judged-clause-memory
returns-in_err-judged-clause-memory c =
    from_err c.from_residual.result (λ (h : Halt). h ≡ c.in_err-judged.field-0.0) (λ (h : Halt). h ≡ Memory) c.from_residual.ensures.1 (λ h e. e ∙ c.in_err-judged.ensures.memory)

pub returns-clause-sums : goal.returns-clause-sums
returns-clause-sums c =
    record {
      says = c.in_ok-judged.ensures.says;
      outcome = c.outcome.ensures;
      bytes = ap (λ v. v.items) c.replace.ensures.value ∙ c.in_ok-extend_from_slice.ensures.items ∙ ap (λ (t : List ℕ). c.args.run.now.teller.bytes.items ++ t) (c.deref.ensures.value ∙ c.in_ok-judged.ensures.says.line);
    }

pub returns-in_err-extend_from_slice-clause-memory : goal.returns-in_err-extend_from_slice-clause-memory
returns-in_err-extend_from_slice-clause-memory c =
    let p = err_from_is_err_and c.from_residual-in_err-extend_from_slice.result c.from_residual-in_err-extend_from_slice.ensures.1 in
    rw (p.1, p.2) refl
