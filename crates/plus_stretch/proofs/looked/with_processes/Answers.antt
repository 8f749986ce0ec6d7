use Rattle.std.proofs.Common.{◌∷◌, [], refl}
use Rattle.plus_state.proofs.TestsLemmas.{next_member, no_member}
use Rattle.plus_stretch.specs.Tests.{whose}
use Rattle.plus_stretch.specs.Marked.{mark_of, process_of}
use Rattle.plus_settle.proofs.MembersLemmas.{next_number, no_number}
use Rattle.plus_stretch.proofs.Marks.{appending_start, appending_next, appending_end}
use Rattle.plus_stretch.proofs.looked.with_processes.Goals as goal

pub processes-init : goal.processes-init
processes-init g c = appending_start _ _ _ _ c.clear.ensures.items refl

pub processes-preserved : goal.processes-preserved
processes-preserved g c =
    let e = next_number c.args.processes.now c.processes.process-index _ c.processes-test.true in
    appending_next _ (_ ∷ []) _ _ _ (rw e at c.processes.invariant) c.in_ok-push.ensures.items

pub marks-init : goal.marks-init
marks-init g c =
    let e = no_number c.args.processes.now c.processes.process-index c.processes-test.false in
    appending_start _ _ _ _ (appending_end _ _ (rw e at c.processes.invariant)) refl

pub marks-preserved : goal.marks-preserved
marks-preserved g c =
    let e = next_member (mark_of g.Q.Exact.value) c.args.marks.now c.marks.mark-index c.mark-item.result c.marks-test.true c.mark-item.is in
    appending_next _ (process_of (whose c.mark-item.result.owner)) _ _ _ (rw e at c.marks.invariant) c.in_ok-note_process.ensures

pub returns : goal.returns
returns g c =
    let e = no_member (mark_of g.Q.Exact.value) c.args.marks.now c.marks.mark-index c.marks-test.false in
    appending_end _ _ (rw e at c.marks.invariant)
