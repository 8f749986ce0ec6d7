use Rattle.std.proofs.Common.{◌≡◌, ◌-◌, ◌<◌, ◌+◌, ℕ, map, take, length, subst, arith}
use Rattle.plus_state.specs.View.{problem_of}
use Rattle.plus_trim.specs.Acts.{act_of, chosen}
use Rattle.plus_trim.specs.Work.{IsMark}
use Rattle.plus_trim.proofs.Working.{mark_read}
use Rattle.plus_trim.proofs.tries.Work.next_mark.Goals as goal

pub go_on-requires-clause-mark : goal.go_on-requires-clause-mark
go_on-requires-clause-mark g c =
    let v = g.Q.Exact.value in
    let marks = c.args.self.now.marks.items in
    let s = c.requires.work.marked.some in
    let k : c.len-last.result - 1 < length marks = omega arith in
    mark_read g.Q.Exact.fits (problem_of v c.args.ground.now) c.args.bounds.now.happenings (map (act_of v) c.args.acts.now) (v c.args.bounds.now.end) c.args.self.now.places.items marks c.requires.work.marked (c.len-last.result - 1) c.index.result.now c.in_ok-line.line k c.index.ensures c.in_ok-line.ensures

pub returns-in-Ok : goal.returns-in-Ok
returns-in-Ok g c = record {
  mark =
      let v = g.Q.Exact.value in
      let s = c.requires.work.marked.some in
      let d : (c.len-last.result - 1) + 1 ≡ length c.args.self.now.marks.items = omega arith in
      subst (λ (n : ℕ). IsMark g.Q.Exact.fits (problem_of v c.args.ground.now) c.args.bounds.now.happenings (chosen (map (act_of v) c.args.acts.now) (take n c.args.self.now.places.items)) c.go_on.new.line)
      d c.in-Ok.ensures.mark;
}
