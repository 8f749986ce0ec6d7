use Rattle.plus_state.specs.View.{problem_of}
use Rattle.plus_stretch.proofs.SearchLemmas.{walking_end, halt_end}
use Rattle.plus_stretch.proofs.Firsts.{to_the_end, owners_first, known_first, told_first}
use Rattle.plus_stretch.proofs.search.first.Goals as goal

pub finish-requires-clause-rates : goal.finish-requires-clause-rates
finish-requires-clause-rates g c = c.requires.size

pub cross-requires-clause-owners : goal.cross-requires-clause-owners
cross-requires-clause-owners g c =
    let h = rw c.in-Ok-Some.field-0-is at c.in-Ok-Some.ensures in
    rw c.deref.ensures.value (owners_first g.Q.Exact.fits (problem_of g.Q.Exact.value c.args.ground.now) (g.Q.Exact.value c.args.span.from) _ _ _ _ _ c.requires.on c.requires.none c.requires.marked _ _ h)

pub cross-requires-clause-others : goal.cross-requires-clause-others
cross-requires-clause-others g c =
    let h = rw c.in-Ok-Some.field-0-is at c.in-Ok-Some.ensures in
    rw c.deref.ensures.value (known_first g.Q.Exact.fits (problem_of g.Q.Exact.value c.args.ground.now) (g.Q.Exact.value c.args.span.from) _ _ _ _ _ c.requires.on c.requires.none c.requires.marked _ _ h c.requires.linear _ _ c.requires.simple_events c.requires.simple_processes)

pub returns-in-Ok-Some-clause-told : goal.returns-in-Ok-Some-clause-told
returns-in-Ok-Some-clause-told g c =
    let h = rw c.in-Ok-Some.field-0-is at c.in-Ok-Some.ensures in
    told_first g.Q.Exact.fits (problem_of g.Q.Exact.value c.args.ground.now) (g.Q.Exact.value c.args.span.from) _ _ _ _ _ c.requires.on c.requires.none c.requires.marked _ _ h c.requires.linear g.Q.Exact.value _ c.requires.rates c.requires.length _ c.cross.ensures.told

pub returns-in-Err-finish-clause-told : goal.returns-in-Err-finish-clause-told
returns-in-Err-finish-clause-told g c =
    let f = rw c.in-Ok-None.field-0-is at c.in-Ok-None.ensures in
    halt_end (problem_of g.Q.Exact.value c.args.ground.now) _ _ _ _ _ c.requires.rates g.Q.Exact.value _ _ _ c.requires.length c.requires.linear _ (to_the_end g.Q.Exact.fits (problem_of g.Q.Exact.value c.args.ground.now) (g.Q.Exact.value c.args.span.from) _ _ _ _ _ c.requires.on c.requires.none c.requires.marked f) c.in-Err-finish.ensures.told

pub returns-in-Ok-clause-told : goal.returns-in-Ok-clause-told
returns-in-Ok-clause-told g c =
    let f = rw c.in-Ok-None.field-0-is at c.in-Ok-None.ensures in
    let x = c.in-Ok.ensures.told in
    walking_end (problem_of g.Q.Exact.value c.args.ground.now) _ _ _ _ _ c.requires.rates g.Q.Exact.value _ _ _ c.requires.length c.requires.linear _ c.requires.later (to_the_end g.Q.Exact.fits (problem_of g.Q.Exact.value c.args.ground.now) (g.Q.Exact.value c.args.span.from) _ _ _ _ _ c.requires.on c.requires.none c.requires.marked f) x.0 x.1.time x.1.end x.1.comes
