use Rattle.plus_number.specs.Frac.{fraction_of}
use Rattle.plus_state.specs.View.{problem_of}
use Rattle.plus_replay.proofs.Failing.{fits_first}
use Rattle.plus_replay.proofs.search.append_initial.Goals as goal

pub append_failing-requires : goal.append_failing-requires
append_failing-requires c = fits_first (problem_of fraction_of c.args.ground.now) c.args.ground.now.fits
