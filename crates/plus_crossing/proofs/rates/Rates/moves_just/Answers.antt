use Rattle.std.proofs.Common.{◌≡◌, ◌∙◌, length, ap, sym, arith, true≢false}
use Rattle.std.proofs.lemmas.Bool.Decides.{nat_tests}
use Rattle.std.proofs.lemmas.List.{take_all, drop_all}
use Rattle.plus_crossing.specs.Rated.{fluent_numbers}
use Rattle.plus_crossing.proofs.Rated.{in_more, moving_keys, moving_is, noted_still, noted_end}
use Rattle.plus_crossing.proofs.Just.{noted_just, just_short, just_other, just_end}
use Rattle.plus_crossing.proofs.Places.{sorted_keys, next_entry}
use Rattle.plus_crossing.proofs.rates.Rates.moves_just.Goals as goal
use Rattle.plus_crossing.proofs.rates.Rates.moves_just.Goals.{then-not-is_zero+else-place-fluents+else-fluents-place, else-not-is_zero, then-place-fluents-via-then-place-fluents, then-place-fluents-via-else-place-fluents+then-fluents-place}

pub each-init : goal.each-init
each-init g c = record {
  inside = omega arith;
  just = ap (λ es. moving_keys g.Q.Exact.value es) c.deref-entry-items.ensures.value
      ∙ moving_is g.Q.Exact.value _ _ _ c.self.view_is (sorted_keys _ c.self.invariant.2) (in_more _ _ _ c.self.invariant.1 c.self.invariant.0);
}

pub each-preserved : goal.each-preserved
each-preserved g c =
    let e = next_entry c.deref-entry-items.result.now c.each.entry-index c.entry-item.result c.each-test.true c.entry-item.is in
    elim c.if-not-is_zero.branch [
      | then-not-is_zero+else-place-fluents+else-fluents-place w ↦
          rw w.place-is (record {
            inside = omega arith;
            just = noted_just g.Q.Exact.value c.args.fluents.now c.each.place (record { 0 = 0 }) _ _ c.entry-item.result _ (sym c.is_zero.ensures ∙ w.if-not-is_zero.true) e w.if-place-fluents.false w.if-fluents-place.false c.each.invariant.just;
          })
      | else-not-is_zero w ↦
          rw w.place-is (record {
            inside = c.each.invariant.inside;
            just = noted_still g.Q.Exact.value _ _ _ _ _ (sym c.is_zero.ensures ∙ w.if-not-is_zero.false) e c.each.invariant.just;
          })
    ]

pub returns-then-place-fluents : goal.returns-then-place-fluents
returns-then-place-fluents g c =
    let e = next_entry c.deref-entry-items.result.now c.each.entry-index c.entry-item.result c.each-test.true c.entry-item.is in
    let moves = sym c.is_zero.ensures ∙ c.if-not-is_zero.true in
    elim c.then-place-fluents.branch [
      | then-place-fluents-via-then-place-fluents w ↦
          (λ h. absurd (true≢false (sym h)), λ same. just_short g.Q.Exact.value c.args.fluents.now c.each.place _ _ c.entry-item.result _ moves e w.if-place-fluents.true c.each.invariant.just same)
      | then-place-fluents-via-else-place-fluents+then-fluents-place w ↦
          (λ h. absurd (true≢false (sym h)), λ same. just_other g.Q.Exact.value c.args.fluents.now c.each.place (record { 0 = 0 }) _ _ c.entry-item.result _ moves e w.if-place-fluents.false w.if-fluents-place.true c.each.invariant.just same)
    ]

pub returns : goal.returns
returns g c =
    let noted = noted_end g.Q.Exact.value _ _ _ (drop_all c.each.entry-index c.deref-entry-items.result.now c.each-test.false) c.each.invariant.just in (
      λ h.
          let all : c.each.place ≡ length c.args.fluents.now = grind (arith, nat_tests, h) in
          ap fluent_numbers (sym (take_all c.each.place c.args.fluents.now (omega (arith, all)))) ∙ noted,
      λ same.
          let all : c.each.place ≡ length c.args.fluents.now = just_end c.args.fluents.now c.each.place _ c.each.invariant.inside noted same in
          grind (arith, nat_tests, all),
    )
