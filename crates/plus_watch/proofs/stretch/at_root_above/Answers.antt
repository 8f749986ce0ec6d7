use Rattle.std.proofs.Common.{◌∙◌, sym}
use Rattle.plus_state.specs.View.{condition_of}
use Rattle.plus_watch.proofs.Telling.{above_none, above_told}
use Rattle.plus_watch.proofs.stretch.at_root_above.Goals as goal

pub returns-then-is_below : goal.returns-then-is_below
returns-then-is_below g c =
    let v = g.Q.Exact.value in
    above_told v g.Q.Exact.fits c.args.lasting (condition_of v c.args.cond.now) (v c.args.begin) c.args.state.now c.args.rates.now (v c.args.low) (v c.args.root) c.at_root.result (sym c.is_below.ensures ∙ c.if-is_below.true) c.at_root.ensures

pub returns-else-is_below : goal.returns-else-is_below
returns-else-is_below g c =
    let v = g.Q.Exact.value in
    above_none g.Q.Exact.fits c.args.lasting (condition_of v c.args.cond.now) (v c.args.begin) c.args.state.now c.args.rates.now (v c.args.low) (v c.args.root) (sym c.is_below.ensures ∙ c.if-is_below.false)
