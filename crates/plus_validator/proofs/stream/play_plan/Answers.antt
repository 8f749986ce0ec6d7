use Rattle.std.proofs.Common.{ap}
use Rattle.plus_plan.specs.Pending.{Pending}
use Rattle.plus_play.proofs.StreamLemmas.{fresh_so}
use Rattle.plus_validator.specs.Told.{reports, report_told, report_kept}
use Rattle.plus_validator.proofs.PlayingLemmas.{fresh_can, fresh_played}
use Rattle.plus_validator.proofs.Endings.{plays_by, fits_by, no_fall_by, reads_by, writes_by, keeps_by}
use Rattle.plus_validator.proofs.stream.play_plan.Goals as goal

pub play_file-requires-clause-can : goal.play_file-requires-clause-can
play_file-requires-clause-can g c = fresh_can report_told reports _ c.args.playing.now c.requires.expands c.requires.fresh

pub play_file-requires-clause-begun : goal.play_file-requires-clause-begun
play_file-requires-clause-begun g c = fresh_played report_told reports report_kept g.O.Sink.taken g.O.Sink.faults _ c.args.playing.now c.args.out.now c.requires.fresh

pub play_file-requires-clause-fresh : goal.play_file-requires-clause-fresh
play_file-requires-clause-fresh g c = fresh_so _ c.args.reader.now c.requires.reader

pub returns-clause-plays : goal.returns-clause-plays
returns-clause-plays g c =
    rw c.ended.ensures (plays_by g.O.Sink.taken g.O.Sink.faults c.args.playing.now c.args.out.now c.play_file.new.player c.play_file.new.out c.args.reader.now.form (ap (λ (r : Pending). r.form) c.requires.reader) _ _ _ _ _ c.play_file.new.reader
    c.play_file.result (c.play_file.ensures.plays, c.play_file.ensures.pauses))

pub returns-clause-fits : goal.returns-clause-fits
returns-clause-fits g c =
    rw c.ended.ensures (fits_by g.O.Sink.taken g.O.Sink.faults c.args.playing.now c.args.out.now c.play_file.new.player c.play_file.new.out c.args.reader.now.form (ap (λ (r : Pending). r.form) c.requires.reader) _ _ _ _ _ c.play_file.new.reader
    c.play_file.result (c.play_file.ensures.plays, c.play_file.ensures.pauses))

pub returns-clause-no_fall : goal.returns-clause-no_fall
returns-clause-no_fall g c =
    no_fall_by g.O.Sink.taken g.O.Sink.faults c.args.playing.now c.args.out.now c.play_file.new.player c.play_file.new.out c.args.reader.now.form (ap (λ (r : Pending). r.form) c.requires.reader) _ _ _ _ _ c.play_file.new.reader
    c.play_file.result (c.play_file.ensures.plays, c.play_file.ensures.pauses)

pub returns-clause-read_fault : goal.returns-clause-read_fault
returns-clause-read_fault g c =
    rw c.ended.ensures (reads_by g.O.Sink.taken g.O.Sink.faults c.args.playing.now c.args.out.now c.play_file.new.player c.play_file.new.out c.args.reader.now.form (ap (λ (r : Pending). r.form) c.requires.reader) _ _ _ _ _ c.play_file.new.reader
    c.args.happenings c.requires.expands c.requires.groundable c.requires.fresh c.play_file.result (c.play_file.ensures.plays, c.play_file.ensures.pauses))

pub returns-clause-write_fault : goal.returns-clause-write_fault
returns-clause-write_fault g c =
    rw c.ended.ensures (writes_by g.O.Sink.taken g.O.Sink.faults c.args.playing.now c.args.out.now c.play_file.new.player c.play_file.new.out c.args.reader.now.form (ap (λ (r : Pending). r.form) c.requires.reader) _ _ _ _ _ c.play_file.new.reader
    c.args.happenings c.requires.expands c.requires.groundable c.requires.fresh c.play_file.result (c.play_file.ensures.plays, c.play_file.ensures.pauses))

pub returns-clause-keeps_up : goal.returns-clause-keeps_up
returns-clause-keeps_up g c =
    rw c.ended.ensures (keeps_by g.O.Sink.taken g.O.Sink.faults c.args.playing.now c.args.out.now c.args.reader.now.form (ap (λ (r : Pending). r.form) c.requires.reader) _ _ c.play_file.new.out
    c.args.happenings c.requires.expands c.requires.groundable c.requires.fresh c.play_file.result c.play_file.ensures.keeps_up)
