use Rattle.std.proofs.Common.{◌∙◌, sym}
use Rattle.plus_crossing.proofs.Noting.{still_asks, still_changes}
use Rattle.plus_crossing.proofs.moves.note.Goals as goal

pub returns-then-is_zero : goal.returns-then-is_zero
returns-then-is_zero g c =
    let z = sym c.is_zero.ensures ∙ c.if-is_zero.true in
    (still_asks g.Q.Exact.fits _ _ _ z, still_changes _ c.args.fluent.0 _ _ _ z)
