use Rattle.std.proofs.Common.{sym, arith}
use Rattle.std.proofs.lemmas.Result.{err_from_is_err_and}
use Rattle.plus_parser.specs.Phrases.Reading.{next_of}
use Rattle.plus_parser.specs.Phrases.Grammar.{form_step}
use Rattle.plus_parser.specs.ReadingConstraints.{constraint_at}
use Rattle.plus_tokens.specs.Seen.{seen}
use Rattle.plus_parser.proofs.PhraseLemmas.Until.{fails_along, stops, closes, fails, goes_on}
use Rattle.plus_parser.proofs.constraints.members.Goals as goal

pub returns-in_err-token-clause-gives : goal.returns-in_err-token-clause-gives
returns-in_err-token-clause-gives c =
    let p = err_from_is_err_and c.from_residual.result c.from_residual.ensures.1 in
    rw (p.1, p.2) (fails_along c.in_err-token.field-0.0 (next_of c.args.room c.found.reader) _ (λ f e. stops (form_step (constraint_at c.args.room)) c.args.room c.found.found.items c.found.reader _ _ f c.found.invariant e) c.in_err-token.ensures.gives)

pub returns-then-is_close-clause-gives : goal.returns-then-is_close-clause-gives
returns-then-is_close-clause-gives c =
    closes (form_step (constraint_at c.args.room)) c.args.room c.found.found.items c.found.reader c.next.new.self _ _ (seen c.in_ok-token.token) c.found.invariant c.in_ok-token.ensures.shorter c.in_ok-token.ensures.gives (sym c.if-is_close.ensures)

pub found-preserved : goal.found-preserved
found-preserved c =
    goes_on (form_step (constraint_at c.args.room)) c.args.room c.found.found.items c.next_constraint.new.found.items c.found.reader c.next.new.self c.next_constraint.new.reader _ _ (seen c.in_ok-token.token) c.found.invariant c.in_ok-token.ensures.shorter (omega (arith, c.in_ok-next_constraint.ensures.shorter)) c.in_ok-token.ensures.gives (sym c.if-is_close.ensures) c.in_ok-next_constraint.ensures.gives

pub returns-in_err-next_constraint-clause-gives : goal.returns-in_err-next_constraint-clause-gives
returns-in_err-next_constraint-clause-gives c =
    let p = err_from_is_err_and c.from_residual-in_err-next_constraint.result c.from_residual-in_err-next_constraint.ensures.1 in
    rw (p.1, p.2) (fails_along c.in_err-next_constraint.field-0.0 ((form_step (constraint_at c.args.room)) c.found.found.items (seen c.in_ok-token.token) c.next.new.self) _ (λ f none. fails (form_step (constraint_at c.args.room)) c.args.room c.found.found.items c.found.reader c.next.new.self _ _ (seen c.in_ok-token.token) f c.found.invariant c.in_ok-token.ensures.shorter c.in_ok-token.ensures.gives (sym c.if-is_close.ensures) none) c.in_err-next_constraint.ensures.gives)
