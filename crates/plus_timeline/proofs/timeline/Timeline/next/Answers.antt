use Rattle.std.proofs.Common.{refl, sym, subst}
use Rattle.std.specs.Prelude.{Err}
use Rattle.plus_state.specs.View.{problem_of}
use Rattle.plus_state.proofs.LookingLemmas.{all_known}
use Rattle.plus_stretch.proofs.AllListed.{all_known_along}
use Rattle.plus_timeline.specs.declared.stop.Stop.{Stop}
use Rattle.plus_timeline.specs.Advance.{AdvanceTold}
use Rattle.plus_timeline.proofs.Advancing.{fires, round_refused, due_inside, none_holds, later_by, not_before}
use Rattle.plus_timeline.proofs.timeline.Timeline.next.Goals as goal

pub due-requires-clause-known : goal.due-requires-clause-known
due-requires-clause-known g c = all_known _ _ _ _ c.all-2.ensures

pub pass-requires-clause-known : goal.pass-requires-clause-known
pass-requires-clause-known g c = all_known_along _ (problem_of g.Q.Exact.value c.args.ground.now) _ _ _ _ c.all.ensures c.all-then-is_running.ensures

pub pass-requires-clause-runs : goal.pass-requires-clause-runs
pass-requires-clause-runs g c = c.if-is_running.ensures.runs refl

pub pass-requires-clause-room : goal.pass-requires-clause-room
pass-requires-clause-room g c = c.if-is_running.ensures.room refl

pub pass-requires-clause-later : goal.pass-requires-clause-later
pass-requires-clause-later g c = later_by _ _ _ _ (c.if-is_running.ensures.runs refl) c.requires.ahead

pub returns-in-Err-clause-told : goal.returns-in-Err-clause-told
returns-in-Err-clause-told g c =
    let P = problem_of g.Q.Exact.value c.args.ground.now in
    let told = round_refused g.Q.Exact.value g.Q.Exact.fits P (g.Q.Exact.value c.args.until) c.args.self.now c.requires.going c.args.self.now
    (c.if-is_running.ensures.rests refl) c.in-Err.stop c.in-Err.ensures.told in
    subst (λ (s : Stop g.row.Q.Denot). AdvanceTold g.Q.Exact.value g.Q.Exact.fits P (g.Q.Exact.value c.args.until) c.args.self.now c.args.self.now (Err s)) (sym c.cascade_stop.ensures) told

pub put_round-requires-clause-events : goal.put_round-requires-clause-events
put_round-requires-clause-events g c =
    due_inside g.Q.Exact.value g.Q.Exact.fits (problem_of g.Q.Exact.value c.args.ground.now) c.args.self.now c.due.new.round (sym c.requires.serves.events) (rw c.in-Ok-true.field-0-test at c.in-Ok-true.ensures.told)

pub put_round-requires-clause-rises : goal.put_round-requires-clause-rises
put_round-requires-clause-rises g c = rw c.in-Ok-true.field-0-test at c.in-Ok-true.ensures.rises

pub returns-in-Ok-true-clause-told : goal.returns-in-Ok-true-clause-told
returns-in-Ok-true-clause-told g c =
    fires g.Q.Exact.value g.Q.Exact.fits (problem_of g.Q.Exact.value c.args.ground.now) (g.Q.Exact.value c.args.until) c.args.self.now c.requires.going c.put_round.new.self
    (c.if-is_running.ensures.rests refl) c.due.new.round (rw c.in-Ok-true.field-0-test at c.in-Ok-true.ensures.told) c.in-Ok.ensures.ok

pub rest-requires-clause-moment : goal.rest-requires-clause-moment
rest-requires-clause-moment g c = c.if-is_running.ensures.rests refl

pub rest-requires-clause-still : goal.rest-requires-clause-still
rest-requires-clause-still g c = (none_holds g.Q.Exact.value g.Q.Exact.fits (problem_of g.Q.Exact.value c.args.ground.now) c.args.self.now (rw c.in-Ok-false.field-0-test at c.in-Ok-false.ensures.told)).1

pub rest-requires-clause-passed : goal.rest-requires-clause-passed
rest-requires-clause-passed g c = (none_holds g.Q.Exact.value g.Q.Exact.fits (problem_of g.Q.Exact.value c.args.ground.now) c.args.self.now (rw c.in-Ok-false.field-0-test at c.in-Ok-false.ensures.told)).0

pub rest-requires-clause-ahead : goal.rest-requires-clause-ahead
rest-requires-clause-ahead g c = not_before _ _ _ (c.if-is_running.ensures.rests refl) c.requires.ahead
