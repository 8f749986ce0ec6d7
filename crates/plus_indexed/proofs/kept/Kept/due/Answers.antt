use Rattle.std.proofs.Common.{sym, subst}
use Rattle.plus_state.specs.View.{problem_of}
use Rattle.plus_state.proofs.LookingLemmas.{all_known}
use Rattle.plus_indexed.specs.Indexed.{Kept}
use Rattle.plus_indexed.specs.Knows.{Knows}
use Rattle.plus_indexed.proofs.Knowing.{wait_at}
use Rattle.plus_indexed.proofs.kept.Kept.due.Goals as goal

pub due-requires-clause-known : goal.due-requires-clause-known
due-requires-clause-known g c =
    let P = problem_of g.Q.Exact.value c.args.ground.now in
    let k = subst (λ (x : Kept). Knows g.Q.Exact.fits P (record { line = c.args.timeline.now; kept = x })) (sym c.self.view_is) c.requires.knows in
    let w = wait_at g.Q.Exact.fits P c.args.timeline.now c.self.inside.readers.index c.self.inside.events c.self.inside.processes c.in-Some.events c.deref.result.now k c.in-Some.is c.deref.ensures.value in
    record { members = w.members; pass = w.quiet.pass; silent = w.quiet.silent }

pub due-requires-in-None-clause-known : goal.due-requires-in-None-clause-known
due-requires-in-None-clause-known g c = all_known _ _ _ _ c.all.ensures
