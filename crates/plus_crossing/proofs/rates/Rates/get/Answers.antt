use Rattle.std.proofs.Common.{◌∙◌, arith, sym}
use Rattle.std.specs.Prelude.{Some, None}
use Rattle.plus_crossing.proofs.Rated.{given_is, not_given}
use Rattle.plus_crossing.proofs.Places.{at_read, nowhere}
use Rattle.plus_crossing.proofs.rates.Rates.get.Goals as goal

pub returns-then-self-fluent : goal.returns-then-self-fluent
returns-then-self-fluent g c = c.zero.ensures ∙ given_is g.Q.Exact.value _ _ _ _ None c.self.view_is c.requires (not_given _ _ _ c.self.invariant.0 (omega (arith, c.if-self-fluent.true)))

pub returns-in-Ok : goal.returns-in-Ok
returns-in-Ok g c =
    let h = rw c.deref.ensures.value at c.in-Ok.ensures in
    given_is g.Q.Exact.value _ _ _ _ (Some c.index.result.now.1) c.self.view_is c.requires (at_read _ _ _ c.index.result.now h c.self.invariant.2 c.index.ensures)

pub returns-in-Err : goal.returns-in-Err
returns-in-Err g c =
    let h = rw c.deref.ensures.value at c.in-Err.ensures in
    c.zero-in-Err.ensures ∙ given_is g.Q.Exact.value _ _ _ _ None c.self.view_is c.requires (sym (nowhere _ _ _ h.1 h.2))
