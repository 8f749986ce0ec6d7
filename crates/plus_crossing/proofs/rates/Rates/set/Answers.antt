use Rattle.std.proofs.Common.{arith}
use Rattle.plus_crossing.proofs.Rated.{in_more, given_below, given_put}
use Rattle.plus_crossing.proofs.Places.{in_set, rises_set, here_set, apart_set, in_put, rises_put, here_put, apart_put}
use Rattle.plus_crossing.proofs.rates.Rates.set.Goals as goal

pub invariant_of-self : goal.invariant_of-self
invariant_of-self g c =
    let h = rw c.deref.ensures.value at c.in-Ok.ensures in
    (in_set _ _ _ _ _ h c.self.invariant.0, c.self.invariant.1, rises_set _ _ _ _ h c.self.invariant.2)

pub invariant_of-self-in-Err : goal.invariant_of-self-in-Err
invariant_of-self-in-Err g c =
    let h = rw c.deref.ensures.value at c.in-Err.ensures in
    let most = c.greater-self-inside.ensures in
    let inside = given_below g.Q.Exact.value _ _ _ _ c.self.view_is c.requires in
    rw c.in_ok-put_in-in-Err.ensures.ok (
      in_put _ _ _ _ _ (omega (arith, most.second)) (in_more _ _ _ most.first c.self.invariant.0),
      most.least _ c.self.invariant.1 (omega (arith, inside)),
      rises_put _ _ _ _ h.1 h.2 c.self.invariant.2,
    )

pub returns-in-Ok-clause-ok : goal.returns-in-Ok-clause-ok
returns-in-Ok-clause-ok g c =
    let h = rw c.deref.ensures.value at c.in-Ok.ensures in
    given_put g.Q.Exact.value _ _ _ c.args.fluent.0 c.args.rate _ c.self.view_is (here_set _ _ _ _ h c.self.invariant.2) (λ j ne. apart_set _ _ _ _ h j ne)

pub returns-in_ok-put_in-in-Err-clause-ok : goal.returns-in_ok-put_in-in-Err-clause-ok
returns-in_ok-put_in-in-Err-clause-ok g c =
    let h = rw c.deref.ensures.value at c.in-Err.ensures in
    given_put g.Q.Exact.value c.self.inside.given.items c.put_in.new.given.items _ c.args.fluent.0 c.args.rate _ c.self.view_is
    (rw c.in_ok-put_in-in-Err.ensures.ok (here_put _ _ _ _ h.1)) (λ j ne. rw c.in_ok-put_in-in-Err.ensures.ok (apart_put _ _ _ _ j ne))
