use Rattle.std.proofs.Common.{◌≡◌, ◌<◌, ◌+◌, length, refl, arith}
use Rattle.std.proofs.lemmas.List.{length-map}
use Rattle.plus_number.specs.Frac.{fraction_of}
use Rattle.plus_watch.specs.View.{found_of}
use Rattle.plus_watch.specs.Watched.{constraint_of, constraints_of, places_of}
use Rattle.plus_report.proofs.PutsLemmas.{stop}
use Rattle.plus_report.proofs.LineLemmas.{no_line, next_line, last_line, all_lines}
use Rattle.plus_watch_lines.specs.Lines.{line_at, found_lines}
use Rattle.plus_watch_lines.proofs.Listed.{line_is}
use Rattle.plus_watch_lines.proofs.found.put_lines.Goals as goal

pub each-init : goal.each-init
each-init g c = no_line (line_at (constraints_of fraction_of c.args.watched.now) (places_of fraction_of c.args.firsts.now))

pub each-preserved : goal.each-preserved
each-preserved g c =
    let os = places_of fraction_of c.args.firsts.now in
    next_line (line_at (constraints_of fraction_of c.args.watched.now) os) c.each.index (c.each.index + 1) c.each.invariant c.in_ok-put_line.ensures
    (line_is c.args.watched.now os c.each.index (c.each.index + 1) c.index-watched-index.result (found_of fraction_of c.found.result) c.each-test.true c.index-watched-index.is refl c.found.ensures)
    refl

pub returns-in_err-put_line : goal.returns-in_err-put_line
unfolding found_lines
returns-in_err-put_line g c =
    let h = c.from_residual.ensures.0 in
    let ws = c.args.watched.now in
    let os = places_of fraction_of c.args.firsts.now in
    let inside : c.each.index < length (constraints_of fraction_of ws) = omega (arith, c.each-test.true, length-map ws (constraint_of fraction_of)) in
    last_line (line_at (constraints_of fraction_of ws) os) c.each.index (length (constraints_of fraction_of ws)) c.each.invariant (stop c.in_err-put_line.ensures h)
    (line_is ws os c.each.index (c.each.index + 1) c.index-watched-index.result (found_of fraction_of c.found.result) c.each-test.true c.index-watched-index.is refl c.found.ensures)
    inside h

pub returns : goal.returns
unfolding found_lines
returns g c =
    let ws = c.args.watched.now in
    let whole : c.each.index ≡ length (constraints_of fraction_of ws) = omega (arith, c.each-test.false, c.each.auto.index-end, length-map ws (constraint_of fraction_of)) in
    all_lines (line_at (constraints_of fraction_of ws) (places_of fraction_of c.args.firsts.now)) c.each.index (length (constraints_of fraction_of ws)) c.each.invariant whole
