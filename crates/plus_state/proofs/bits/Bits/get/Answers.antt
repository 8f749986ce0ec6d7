use Rattle.std.proofs.Common.{◌∙◌, ap, arith, false}
use Rattle.std.specs.Prelude.{slice_get, unwrap_or}
use Rattle.plus_state.proofs.BitsLemmas.{count_inside, word_inside, bits_read}
use Rattle.plus_state.proofs.bits.Bits.get.Goals as goal

pub index-requires : goal.index-requires
index-requires c =
    let h = word_inside c.self.inside.count c.self.inside.words.items c.args.self.now c.args.index c.self.view_is c.requires c.self.invariant in
    omega (arith, h)

pub returns : goal.returns
returns c =
    let h = count_inside c.self.inside.count c.self.inside.words.items c.args.self.now c.args.index c.self.view_is c.requires in
    c.has_bit.ensures ∙ bits_read c.self.inside.count c.self.inside.words.items c.args.index c.index.result.now h c.self.invariant c.index.ensures ∙ ap (λ v. unwrap_or (slice_get v c.args.index) false) c.self.view_is
