use Rattle.std.proofs.Common.{◌≡◌, ◌<◌, ◌∙◌, sym, length, arith}
use Rattle.std.proofs.lemmas.List.{length-map}
use Rattle.plus_state.specs.Numbers.{numbers_from}
use Rattle.plus_state.proofs.LookingLemmas.{numbers_long, first_at, these_at}
use Rattle.plus_state.proofs.looked.Looked.member.Goals as goal

pub returns-in-First : goal.returns-in-First
returns-in-First g c =
    let h : c.args.place < length (numbers_from 0 c.in-First.count) = rw c.in-First.is at c.requires in
    let m : c.in-First.count ≡ length (numbers_from 0 c.in-First.count) = numbers_long 0 c.in-First.count in
    let p : c.min.result ≡ c.args.place = omega (arith, c.min.ensures) in
    rw c.in-First.is (first_at _ _ _ h (c.with_number.ensures ∙ p))

pub returns-in-These : goal.returns-in-These
returns-in-These g c =
    let h : c.args.place < length c.in-These.members.now = rw (c.in-These.is, length-map) at c.requires in
    rw c.in-These.is (these_at g.I.Conditional.number c.in-These.members.now c.args.place c.index-members-place.result h c.index-members-place.is)
