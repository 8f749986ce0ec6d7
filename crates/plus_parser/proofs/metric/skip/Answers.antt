use Rattle.std.proofs.Common.{◌≡◌, ◌<◌, sym, arith}
use Rattle.std.proofs.lemmas.Result.{err_from_is_err_and}
use Rattle.plus_parser.specs.Phrases.Reading.{next_of}
use Rattle.plus_tokens.specs.Seen.{seen}
use Rattle.plus_parser.proofs.PhraseLemmas.Until.{fails_along}
use Rattle.plus_parser.proofs.Skips.{skip_stops, skip_opens, skip_passes, skip_ends, skip_closes}
use Rattle.plus_parser.proofs.metric.skip.Goals as goal

pub returns-in_err-token-clause-gives : goal.returns-in_err-token-clause-gives
returns-in_err-token-clause-gives c =
    let p = err_from_is_err_and c.from_residual.result c.from_residual.ensures.1 in
    rw (p.1, p.2) (fails_along c.in_err-token.field-0.0 (next_of c.token.left c.token.reader) _ (λ f e. skip_stops c.token.left c.token.inside c.token.reader _ _ f c.token.invariant.0 e) c.in_err-token.ensures.gives)

pub token-preserved-then-is_open : goal.token-preserved-then-is_open
token-preserved-then-is_open c =
    let sum = c.token.invariant.1 in
    let some = c.in_ok-token.ensures.room_left (sym c.if-is_open.ensures) in
    (skip_opens c.token.left c.token.inside c.token.reader c.next.new.self _ _ (seen c.in_ok-token.token) c.token.invariant.0 c.in_ok-token.ensures.shorter c.in_ok-token.ensures.gives (sym c.if-is_open.ensures), omega (arith, sum, some))

pub token-preserved-then-not-is_close : goal.token-preserved-then-not-is_close
token-preserved-then-not-is_close c =
    (skip_passes c.token.left c.token.inside c.token.reader c.next.new.self _ _ (seen c.in_ok-token.token) c.token.invariant.0 c.in_ok-token.ensures.shorter c.in_ok-token.ensures.gives (sym c.if-is_open.ensures) (sym c.if-not-is_close.ensures), c.token.invariant.1)

pub returns-then-inside-eq0-clause-gives : goal.returns-then-inside-eq0-clause-gives
returns-then-inside-eq0-clause-gives c =
    let none : c.token.inside ≡ 0 = omega (arith, c.if-inside-eq0.true) in
    skip_ends c.token.left c.token.inside c.token.reader c.next.new.self _ _ (seen c.in_ok-token.token) c.token.invariant.0 none c.in_ok-token.ensures.shorter c.in_ok-token.ensures.gives (sym c.if-not-is_close.ensures)

pub token-preserved : goal.token-preserved
token-preserved c =
    let sum = c.token.invariant.1 in
    let some : 0 < c.token.inside = omega (arith, c.if-inside-eq0.false) in
    (skip_closes c.token.left c.token.inside c.token.reader c.next.new.self _ _ (seen c.in_ok-token.token) c.token.invariant.0 some c.in_ok-token.ensures.shorter c.in_ok-token.ensures.gives (sym c.if-not-is_close.ensures), omega (arith, sum, some))
