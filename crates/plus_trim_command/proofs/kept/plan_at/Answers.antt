use Rattle.std.proofs.Common.{◌<◌, length, slice_index_or, ◌∙◌}
use Rattle.plus_number.specs.Frac.{fraction_of}
use Rattle.plus_trim_command.proofs.ActLemmas.{all_at}
use Rattle.plus_trim_command.proofs.KeptLemmas.{at_place, place_more}
use Rattle.plus_trim_command.proofs.kept.plan_at.Goals as goal

pub each-preserved : goal.each-preserved
each-preserved c =
    let place = slice_index_or c.args.places.now c.each.place-index 0 in
    let at = at_place c.args.places.now c.each.place-index 0 place c.each-test.true in
    let l = all_at (λ p. p < length c.args.acts.now) c.args.places.now c.each.place-index place c.requires.inside c.each-test.true at in
    place_more fraction_of c.args.acts.now c.args.places.now c.each.place-index place c.index-acts-place.result c.each.kept.items c.push.new.self.items c.in_ok-label.label
    c.each-test.true at l c.index-acts-place.is (c.in_ok-label.ensures ∙ c.bytes.ensures) c.in_ok-push.ensures.items c.each.invariant
