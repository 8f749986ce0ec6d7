use Rattle.plus_translate.proofs.PlacedLemmas.{forall_done}
use Rattle.plus_translate.proofs.placed.+put.Goals as goal

pub returns-in_ok-put-in-ForAll-clause-put : goal.returns-in_ok-put-in-ForAll-clause-put
returns-in_ok-put-in-ForAll-clause-put t c =
    rw (← c.tree.view_is, c.in-ForAll.is)
    (forall_done c.args.lists.now.items c.as_slice.result c.push.new.self.items c.in-ForAll.names c.in-ForAll.inner.value c.deref.result.now _ _
    c.in_ok-push-in-ForAll.ensures.items c.as_slice.ensures c.deref.ensures c.in_ok-put-in-ForAll.ensures.put)
