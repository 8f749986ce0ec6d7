use Rattle.std.proofs.Common.{◌≡◌, ◌≤◌, length, take, drop, sym, arith, length-drop}
use Rattle.std.specs.Prelude.{Some}
use Rattle.std.proofs.lemmas.List.{take-append-drop, length-take-le, take_all}
use Rattle.plus_io.specs.Limits.{text_limit}
use Rattle.plus_play.specs.Rules.{IsHalted}
use Rattle.plus_play.specs.Feeding.{HaltsEnding}
use Rattle.plus_play.proofs.FeedLemmas.{on_one, err_map}
use Rattle.plus_play.proofs.StreamLemmas.{fresh_fed, fresh_open, bytes_halt, bytes_long, bytes_end, bytes_end_halt}
use Rattle.plus_play.proofs.file.play_bytes.Goals as goal

pub returns-in-Err-clause-halts : goal.returns-in-Err-clause-halts
returns-in-Err-clause-halts g c =
    let n = c.min-within.result in
    let bytes = c.args.bytes.now in
    let some : n ≤ length bytes = omega (arith, c.min-within.ensures) in
    let size = length-take-le n bytes some in
    let short : length (take n bytes) ≤ text_limit = omega (arith, c.min-within.ensures, size) in
    bytes_halt g.P.Plays.rules c.args.reader.now.form bytes (take n bytes) (drop n bytes) (sym (take-append-drop n bytes)) short _ _ _ (fresh_fed g.P.Plays.rules c.args.reader.now.form _ _ _ c.requires.fresh c.requires.begun) _ _ _
    (fresh_open _ _ c.requires.fresh) c.in-Err.ensures.halts

pub returns-then-within-bytes-clause-halts : goal.returns-then-within-bytes-clause-halts
returns-then-within-bytes-clause-halts g c =
    let n = c.min-within.result in
    let bytes = c.args.bytes.now in
    let some : n ≤ length bytes = omega (arith, c.min-within.ensures) in
    let size = length-take-le n bytes some in
    let short : length (take n bytes) ≤ text_limit = omega (arith, c.min-within.ensures, size) in
    let full : length (take n bytes) ≡ text_limit = omega (arith, c.min-within.ensures, size, c.if-within-bytes.true) in
    bytes_long g.P.Plays.rules c.args.reader.now.form bytes (take n bytes) (drop n bytes) (sym (take-append-drop n bytes)) short _ _ _ (fresh_fed g.P.Plays.rules c.args.reader.now.form _ _ _ c.requires.fresh c.requires.begun) _ _ _ _
    c.in-Ok.ensures.feeds c.in-Ok.ensures.open c.in-Ok.ensures.idle full (omega (arith, length-drop n bytes, c.if-within-bytes.true)) c.too_long.ensures

pub returns-clause-plays : goal.returns-clause-plays
returns-clause-plays g c =
    let n = c.min-within.result in
    let bytes = c.args.bytes.now in
    let some : n ≤ length bytes = omega (arith, c.min-within.ensures) in
    let size = length-take-le n bytes some in
    let short : length (take n bytes) ≤ text_limit = omega (arith, c.min-within.ensures, size) in
    let all : length bytes ≤ n = omega (arith, c.if-within-bytes.false) in
    on_one c.end.result
    (bytes_end g.P.Plays.rules c.args.reader.now.form bytes (take n bytes) (drop n bytes) (sym (take-append-drop n bytes)) short _ _ _ (fresh_fed g.P.Plays.rules c.args.reader.now.form _ _ _ c.requires.fresh c.requires.begun) c.take.new.reader c.take.new.player c.end.new.player c.take.new.out c.end.new.out
    c.in-Ok.ensures.feeds (sym (take_all n bytes all)))
    c.end.ensures.ends

pub returns-clause-halts : goal.returns-clause-halts
returns-clause-halts g c =
    let n = c.min-within.result in
    let bytes = c.args.bytes.now in
    let some : n ≤ length bytes = omega (arith, c.min-within.ensures) in
    let size = length-take-le n bytes some in
    let short : length (take n bytes) ≤ text_limit = omega (arith, c.min-within.ensures, size) in
    let all : length bytes ≤ n = omega (arith, c.if-within-bytes.false) in
    err_map c.end.result
    (HaltsEnding g.P.Plays.rules c.take.new.reader c.take.new.player c.take.new.out c.end.new.player c.end.new.out)
    (IsHalted g.P.Plays.rules c.args.reader.now.form (Some bytes) c.args.player.now c.args.out.now c.end.new.player c.end.new.out)
    (λ stop x. bytes_end_halt g.P.Plays.rules c.args.reader.now.form bytes (take n bytes) (drop n bytes) (sym (take-append-drop n bytes)) short _ _ _ (fresh_fed g.P.Plays.rules c.args.reader.now.form _ _ _ c.requires.fresh c.requires.begun) c.take.new.reader c.take.new.player c.end.new.player c.take.new.out c.end.new.out stop
    c.in-Ok.ensures.feeds (sym (take_all n bytes all)) x)
    c.end.ensures.halts
