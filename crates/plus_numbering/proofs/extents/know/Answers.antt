use Rattle.std.proofs.Common.{sym, subst}
use Rattle.plus_numbering.specs.Tables.{IsPlace}
use Rattle.plus_numbering.proofs.PutLemmas.{place-some, place-new, not-named, known-new}
use Rattle.plus_numbering.proofs.extents.know.Goals as goal

pub returns-in-Some-clause-place : goal.returns-in-Some-clause-place
returns-in-Some-clause-place c = place-some c.args.names.now c.args.name.now c.in-Some.place c.in-Some.ensures.place

pub returns-clause-size : goal.returns-clause-size
returns-clause-size c =
    let n = not-named c.args.names.now c.args.name.now c.number.result c.number.ensures.place c.in_default.not-Some in
    (known-new c.args.names.now c.add.new.self c.args.lists.now.items c.push.new.self.items c.new.result c.args.name.now c.in_ok-add.field-0 n c.in_ok-add.ensures.fresh c.in_ok-add.ensures.added
    c.in_ok-push.ensures.items c.new.ensures.items c.requires).1

pub returns-clause-place : goal.returns-clause-place
returns-clause-place c =
    let n = not-named c.args.names.now c.args.name.now c.number.result c.number.ensures.place c.in_default.not-Some in
    let k = known-new c.args.names.now c.add.new.self c.args.lists.now.items c.push.new.self.items c.new.result c.args.name.now c.in_ok-add.field-0 n c.in_ok-add.ensures.fresh c.in_ok-add.ensures.added
    c.in_ok-push.ensures.items c.new.ensures.items c.requires in
    subst (λ ns. IsPlace ns c.args.name.now c.len-place.result) (sym k.0) (place-new c.args.names.now c.args.name.now c.len-place.result n c.len-place.ensures)

pub returns-clause-same : goal.returns-clause-same
returns-clause-same c =
    let n = not-named c.args.names.now c.args.name.now c.number.result c.number.ensures.place c.in_default.not-Some in
    (known-new c.args.names.now c.add.new.self c.args.lists.now.items c.push.new.self.items c.new.result c.args.name.now c.in_ok-add.field-0 n c.in_ok-add.ensures.fresh c.in_ok-add.ensures.added
    c.in_ok-push.ensures.items c.new.ensures.items c.requires).2
