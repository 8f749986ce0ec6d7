use Rattle.std.proofs.Common.{◌≡◌, length, ap, ◌∙◌, arith}
use Rattle.std.proofs.lemmas.List.{length-map}
use Rattle.plus_number.specs.Frac.{fraction_of}
use Rattle.plus_watch.specs.Watched.{constraint_of, constraints_of, places_of}
use Rattle.plus_watch_lines.specs.Lines.{held_below, all_held}
use Rattle.plus_watch_lines.proofs.found.all_hold.Goals as goal

pub returns : goal.returns
unfolding all_held
returns c =
    let ws = c.args.watched.now in
    let whole : c.each.index ≡ length (constraints_of fraction_of ws) = omega (arith, c.each-test.false, c.each.auto.index-end, length-map ws (constraint_of fraction_of)) in
    c.each.invariant ∙ ap (held_below (constraints_of fraction_of ws) (places_of fraction_of c.args.firsts.now)) whole
