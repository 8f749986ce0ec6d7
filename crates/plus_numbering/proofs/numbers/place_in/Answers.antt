use Rattle.std.proofs.Common.{Ok, Err}
use Rattle.std.proofs.lemmas.List.Sorted.{searched}
use Rattle.plus_numbering.proofs.RankSteps.{lost-place}
use Rattle.plus_numbering.proofs.numbers.place_in.Goals as goal

pub returns-in-Ok : goal.returns-in-Ok
returns-in-Ok c = searched c.args.list.now c.args.object (Ok c.in-Ok.place) c.in-Ok.ensures.position c.requires

pub returns-in-Err : goal.returns-in-Err
returns-in-Err c =
    let s = searched c.args.list.now c.args.object (Err c.in-Err.field-0) c.in-Err.ensures.position c.requires in
    lost-place c.args.list.now c.args.object c.in-Err.field-0 s.1 s.2
