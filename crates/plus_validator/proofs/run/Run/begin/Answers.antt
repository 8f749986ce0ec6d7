use Rattle.std.proofs.Common.{refl, false, []}
use Rattle.std.proofs.lemmas.Result.{err_from_is_err_and}
use Rattle.plus_number.specs.Frac.{fraction_of}
use Rattle.plus_state.specs.View.{problem_of, labels_of}
use Rattle.plus_validator.specs.Account.{progress}
use Rattle.plus_validator.specs.declared.run.Run.{Run}
use Rattle.plus_validator.proofs.Closing.{begins}
use Rattle.plus_validator.proofs.run.Run.begin.Goals as goal

pub returns-clause-begins : goal.returns-clause-begins
returns-clause-begins g c =
    let N = labels_of c.args.ground.now in
    let P = problem_of fraction_of c.args.ground.now in
    let T = g.T.Teller.telling N P in
    let told = g.T.Teller.told in
    let new : Run g.row.T.Denot = record { timeline = c.in_ok-timeline.timeline; teller = c.begin-2.new.self; entries = 1; firings = 0; ended = false } in
    begins P T c.args.happenings (progress told [] new) c.requires.some c.in_ok-timeline.ensures.begun c.in_ok-timeline.ensures.knows refl c.in_ok-begin.ensures.tells refl refl

pub begin-requires-2-clause-begun : goal.begin-requires-2-clause-begun
begin-requires-2-clause-begun g c = (c.args.happenings, c.in_ok-timeline.ensures.begun)

pub returns-in_err-begin-clause-memory : goal.returns-in_err-begin-clause-memory
returns-in_err-begin-clause-memory g c =
    let p = err_from_is_err_and c.from_residual-in_err-begin.result c.from_residual-in_err-begin.ensures.1 in
    rw (p.1, p.2) refl
