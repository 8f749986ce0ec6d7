use Rattle.std.proofs.Common.{◌∙◌, ◌/◌, ◌%◌, ap, arith, if◌then◌else◌}
use Rattle.std.proofs.lemmas.List.{get_or_default}
use Rattle.std.specs.Prelude.{nat_eq, slice_set}
use Rattle.plus_state.specs.Bits.{bit_of}
use Rattle.plus_state.proofs.BitsLemmas.{count_inside, word_inside, bits_written}
use Rattle.plus_state.proofs.bits.Bits.set.Goals as goal

pub index-requires : goal.index-requires
index-requires c =
    let h = word_inside c.self.inside.count c.self.inside.words.items c.args.self.now c.args.index c.self.view_is c.requires c.self.invariant in
    omega (arith, h)

pub index_mut-requires : goal.index_mut-requires
index_mut-requires c =
    let h = word_inside c.self.inside.count c.self.inside.words.items c.args.self.now c.args.index c.self.view_is c.requires c.self.invariant in
    omega (arith, h)

pub returns : goal.returns
returns c =
    let below = count_inside c.self.inside.count c.self.inside.words.items c.args.self.now c.args.index c.self.view_is c.requires in
    let inside = word_inside c.self.inside.count c.self.inside.words.items c.args.self.now c.args.index c.self.view_is c.requires c.self.invariant in
    let old = c.index.ensures ∙ get_or_default c.self.inside.words.items (c.args.index / 64) c.index.result.now 0 inside in
    bits_written c.self.inside.count c.self.inside.words.items c.args.index c.with_bit-word.result c.args.present below c.self.invariant (λ k h. c.with_bit-word.ensures k h ∙ ap (λ w. if nat_eq k (c.args.index % 64) then c.args.present else bit_of w k) old) ∙ ap (λ v. slice_set v c.args.index c.args.present) c.self.view_is
