use Rattle.std.proofs.Common.{◌<◌, ◌≤◌, length, arith}
use Rattle.std.proofs.lemmas.List.{drop_all}
use Rattle.plus_crossing.proofs.Moving.{next_rate, moves_start, moves_next, moves_err, moves_end, moved_fits}
use Rattle.plus_crossing.proofs.moves.moved.Goals as goal

pub each-init : goal.each-init
each-init g c = moves_start _ _ _ _ _ c.in-Ok.ensures c.requires

pub returns-in-Err-move_fluent-clause-told : goal.returns-in-Err-move_fluent-clause-told
returns-in-Err-move_fluent-clause-told g c =
    let h : c.each.fluent < length c.args.rates.now = omega (arith, c.fluents-fluent-end.ensures, c.requires) in
    let e = next_rate c.args.rates.now c.each.fluent h in
    moves_err _ _ _ _ _ _ _ _ _ _ (rw e at c.each.invariant) c.get.ensures c.in-Err-move_fluent.ensures

pub each-preserved : goal.each-preserved
each-preserved g c =
    let h : c.each.fluent < length c.args.rates.now = omega (arith, c.fluents-fluent-end.ensures, c.requires) in
    let e = next_rate c.args.rates.now c.each.fluent h in
    moves_next _ _ _ _ _ _ _ _ _ _ (rw e at c.each.invariant) c.get.ensures c.in-Ok-move_fluent.ensures.0 c.in-Ok-move_fluent.ensures.1

pub returns-after-each-clause-told : goal.returns-after-each-clause-told
returns-after-each-clause-told g c =
    let h : length c.args.rates.now ≤ c.each.fluent = omega (arith, c.fluents-fluent-end.ensures, c.requires) in
    moves_end _ _ _ _ _ _ (rw (drop_all c.each.fluent c.args.rates.now h) at c.each.invariant)

pub returns-after-each-clause-fits : goal.returns-after-each-clause-fits
returns-after-each-clause-fits g c =
    let h : length c.args.rates.now ≤ c.each.fluent = omega (arith, c.fluents-fluent-end.ensures, c.requires) in
    let t = moves_end _ _ _ _ _ _ (rw (drop_all c.each.fluent c.args.rates.now h) at c.each.invariant) in
    moved_fits _ _ _ _ t.1
