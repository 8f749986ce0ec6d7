use Rattle.plus_numbering.proofs.PutLemmas.{put-one}
use Rattle.plus_numbering.proofs.extents.put.Goals as goal

pub returns-clause-put : goal.returns-clause-put
returns-clause-put c = λ k.
    put-one c.know.new.names c.know.new.lists.items c.args.name.now k c.in_ok-place.place c.args.object c.index_mut.result.now c.put_once.new.list _
    c.in_ok-place.ensures.place c.in_ok-place.ensures.size c.index_mut.ensures.value c.in_ok-put_once.ensures (c.in_ok-place.ensures.same k)
