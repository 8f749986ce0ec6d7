use Rattle.std.proofs.Common.{◌≡◌, ap}
use Rattle.plus_number.specs.Frac.{fraction_of}
use Rattle.plus_plan.specs.Pending.{Pending}
use Rattle.plus_state.specs.View.{problem_of, labels_of}
use Rattle.plus_play.proofs.StreamLemmas.{fresh_so}
use Rattle.plus_numeric.specs.declared.playing.Playing.{Playing}
use Rattle.plus_numeric.proofs.PlayingLemmas.{none_played, plays_text, pauses_text, pauses_fit}
use Rattle.plus_numeric.proofs.RunLemmas.{begun_expands, begun_accepted, begun_names, begun_stops}
use Rattle.plus_numeric.proofs.run.numeric_ground.Goals as goal

pub play_file-requires-clause-can : goal.play_file-requires-clause-can
play_file-requires-clause-can g c = record {
  going = c.in-Ok-begin.ensures.begins.going;
  expands = begun_expands c.args.numbering.now c.args.source c.args.keep c.in-Ok-begin.play c.in-Ok-begin.ensures.begins (problem_of fraction_of c.args.ground.now) c.requires.expands;
}

pub play_file-requires-clause-begun : goal.play_file-requires-clause-begun
play_file-requires-clause-begun g c = none_played c.in-Ok-begin.play c.in-Ok-begin.ensures.begins.going

pub play_file-requires-clause-fresh : goal.play_file-requires-clause-fresh
play_file-requires-clause-fresh g c = fresh_so _ _ c.in-Ok.ensures

pub returns-in-Ok-play_file-clause-plan : goal.returns-in-Ok-play_file-clause-plan
returns-in-Ok-play_file-clause-plan g c =
    let first : Playing = record { play = c.in-Ok-begin.play; ground = c.args.ground } in
    let bytes = g.S.Shelf.bytes c.args.shelf.now c.args.plan.now in
    begun_accepted c.args.numbering.now c.args.source c.args.keep c.in-Ok-begin.play c.in-Ok-begin.ensures.begins c.requires.level_two c.requires.groundable
    bytes c.play_file.new.player.play c.take_calls.result.items (ap (λ v. v.items) c.take_calls.ensures)
    (plays_text c.in-Ok.reader.form (ap (λ (r : Pending). r.form) c.in-Ok.ensures) bytes first c.play_file.new.player tt c.play_file.new.out c.in-Ok-play_file.ensures.plays)

pub paused-requires : goal.paused-requires
paused-requires g c =
    let first : Playing = record { play = c.in-Ok-begin.play; ground = c.args.ground } in
    begun_names c.args.numbering.now c.args.source c.args.keep c.in-Ok-begin.play c.in-Ok-begin.ensures.begins (problem_of fraction_of c.args.ground.now) c.in-Err.pause
    c.requires.expands (pauses_fit c.in-Ok.reader.form (ap (λ (r : Pending). r.form) c.in-Ok.ensures) _ first c.play_file.new.player tt c.play_file.new.out _ _ _ _ c.play_file.new.reader c.in-Err.pause c.in-Err.ensures.pauses)

pub returns-clause-stops : goal.returns-clause-stops
returns-clause-stops g c =
    let first : Playing = record { play = c.in-Ok-begin.play; ground = c.args.ground } in
    let bytes = g.S.Shelf.bytes c.args.shelf.now c.args.plan.now in
    begun_stops c.args.numbering.now c.args.source c.args.keep c.in-Ok-begin.play c.in-Ok-begin.ensures.begins c.requires.level_two c.requires.groundable
    (labels_of c.args.ground.now) (problem_of fraction_of c.args.ground.now) c.requires.labels c.requires.expands
    bytes (g.S.Shelf.faults c.args.shelf.now) (g.S.Shelf.faults c.play_file.new.shelf) c.in-Err.pause c.paused.result
    (pauses_text c.in-Ok.reader.form (ap (λ (r : Pending). r.form) c.in-Ok.ensures) bytes first c.play_file.new.player tt c.play_file.new.out _ _ _ _ c.play_file.new.reader c.in-Err.pause c.in-Err.ensures.pauses) c.paused.ensures
