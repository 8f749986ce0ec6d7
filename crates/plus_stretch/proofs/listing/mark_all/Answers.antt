use Rattle.std.proofs.Common.{◌∷◌, [], refl, ap, ◌∙◌}
use Rattle.std.proofs.lemmas.List.{map-append}
use Rattle.plus_state.proofs.TestsLemmas.{next_member, no_member}
use Rattle.plus_stretch.specs.Tests.{whose}
use Rattle.plus_stretch.specs.Marked.{mark_of, marks_of}
use Rattle.plus_stretch.proofs.Marks.{with_owner, appending_start, appending_next, appending_end}
use Rattle.plus_stretch.proofs.listing.mark_all.Goals as goal

pub each-init : goal.each-init
each-init g c = appending_start _ _ _ _ refl refl

pub each-preserved : goal.each-preserved
each-preserved g c =
    let v = g.Q.Exact.value in
    let e = next_member (with_owner v (whose c.args.owner)) c.args.roots.now c.each.root-index c.root-item.result c.each-test.true c.root-item.is in
    appending_next _ (with_owner v (whose c.args.owner) c.root-item.result ∷ []) _ _ _ (rw e at c.each.invariant) (ap (marks_of v) c.in_ok-push.ensures.items ∙ map-append (mark_of v) _ _)

pub returns : goal.returns
returns g c =
    let v = g.Q.Exact.value in
    appending_end _ _ (rw (no_member (with_owner v (whose c.args.owner)) c.args.roots.now c.each.root-index c.each-test.false) at c.each.invariant)
