use Rattle.std.proofs.Common.{◌≡◌, List, ℕ, ◌++◌, ◌∙◌, refl, ap}
use Rattle.std.proofs.lemmas.Result.{err_from_is_err_and}
use Rattle.plus_number.specs.Frac.{fraction_of}
use Rattle.plus_state.specs.View.{problem_of, labels_of}
use Rattle.plus_report.specs.Verdicts.{verdict_text}
use Rattle.plus_validator.proofs.Shown.{took_all}
use Rattle.plus_validator.proofs.Judging.{verdict_fits, no_fault}
use Rattle.plus_validator.specs.declared.halt.Halt.{Halt}
use Rattle.plus_validator.specs.declared.halt.Halt.TheVariants.{Memory}
use Rattle.plus_validator.proofs.Halting.{from_err}
use Rattle.plus_validator.proofs.judgement.say.Goals as goal

pub returns-in_err-verdict-clause-memory : goal.returns-in_err-verdict-clause-memory
returns-in_err-verdict-clause-memory g c =
    from_err c.from_residual.result (λ (h : Halt). h ≡ c.in_err-verdict.field-0.0) (λ (h : Halt). h ≡ Memory) c.from_residual.ensures.1 (λ h e. e ∙ c.in_err-verdict.ensures.memory)

pub write_verdict-requires : goal.write_verdict-requires
write_verdict-requires g c =
    verdict_fits (problem_of fraction_of c.args.ground.now) c.args.played c.in_ok-verdict.verdict c.requires.fits c.in_ok-verdict.ensures.gives

pub returns-clause-says : goal.returns-clause-says
returns-clause-says g c =
    let N = labels_of c.args.ground.now in
    let P = problem_of fraction_of c.args.ground.now in
    let v = c.in_ok-verdict.verdict in
    let line : c.write_verdict.new.out.bytes.items ≡ verdict_text fraction_of N P v =
    took_all c.new-line.result.bytes.items c.write_verdict.new.out.bytes.items (verdict_text fraction_of N P v) c.in_ok-write_verdict.ensures.outcome
    ∙ ap (λ (t : List ℕ). t ++ verdict_text fraction_of N P v) c.new-line.ensures in
    record {
      gives = c.in_ok-verdict.ensures.gives;
      line = line;
      entries = refl;
      firings = refl;
    }

pub returns-in_err-write_verdict-clause-memory : goal.returns-in_err-write_verdict-clause-memory
returns-in_err-write_verdict-clause-memory g c =
    let p = err_from_is_err_and c.from_residual-in_err-write_verdict.result c.from_residual-in_err-write_verdict.ensures.1 in
    rw (p.1, p.2) refl

pub verdict_of-requires : goal.verdict_of-requires
verdict_of-requires g c = no_fault (problem_of fraction_of c.args.ground.now) c.args.played c.requires.fits
