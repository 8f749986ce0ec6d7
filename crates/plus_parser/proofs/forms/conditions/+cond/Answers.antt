use Rattle.std.proofs.Common.{sym, arith}
use Rattle.std.proofs.lemmas.Result.{err_from_is_err_and}
use Rattle.plus_parser.specs.Phrases.Reading.{next_of}
use Rattle.plus_parser.specs.Phrases.Grammar.{form_step}
use Rattle.plus_parser.specs.Forms.ReadingForms.{cond_at}
use Rattle.plus_tokens.specs.Seen.{seen}
use Rattle.plus_parser.proofs.PhraseLemmas.Until.{fails_along, stops, closes, fails, goes_on}
use Rattle.plus_parser.proofs.FormLemmas.Nest.{cond_at-inside}
use Rattle.plus_parser.proofs.forms.conditions.+cond.Goals as goal

pub conds-returns-in_err-token-clause-gives : goal.conds-returns-in_err-token-clause-gives
conds-returns-in_err-token-clause-gives t c =
    let p = err_from_is_err_and c.from_residual-in_err-token.result c.from_residual-in_err-token.ensures.1 in
    rw (p.1, p.2) (fails_along c.in_err-token.field-0.0 (next_of c.args.room c.found.reader) _ (λ f e. stops (form_step (cond_at c.args.room)) c.args.room c.found.found.items c.found.reader _ _ f c.found.invariant e) c.in_err-token.ensures.gives)

pub conds-returns-then-is_close-clause-gives : goal.conds-returns-then-is_close-clause-gives
conds-returns-then-is_close-clause-gives t c =
    closes (form_step (cond_at c.args.room)) c.args.room c.found.found.items c.found.reader c.next.new.self _ _ (seen c.in_ok-token.token) c.found.invariant c.in_ok-token.ensures.shorter c.in_ok-token.ensures.gives (sym c.if-is_close.ensures)

pub conds-found-preserved : goal.conds-found-preserved
conds-found-preserved t c =
    goes_on (form_step (cond_at c.args.room)) c.args.room c.found.found.items c.member.new.found.items c.found.reader c.next.new.self c.member.new.reader _ _ (seen c.in_ok-token.token) c.found.invariant c.in_ok-token.ensures.shorter (omega (arith, c.in_ok-member.ensures.shorter)) c.in_ok-token.ensures.gives (sym c.if-is_close.ensures) c.in_ok-member.ensures.gives

pub conds-returns-in_err-member-clause-gives : goal.conds-returns-in_err-member-clause-gives
conds-returns-in_err-member-clause-gives t c =
    let p = err_from_is_err_and c.from_residual-in_err-member.result c.from_residual-in_err-member.ensures.1 in
    rw (p.1, p.2) (fails_along c.in_err-member.field-0.0 ((form_step (cond_at c.args.room)) c.found.found.items (seen c.in_ok-token.token) c.next.new.self) _ (λ f none. fails (form_step (cond_at c.args.room)) c.args.room c.found.found.items c.found.reader c.next.new.self _ _ (seen c.in_ok-token.token) f c.found.invariant c.in_ok-token.ensures.shorter c.in_ok-token.ensures.gives (sym c.if-is_close.ensures) none) c.in_err-member.ensures.gives)

pub inside-returns-clause-gives : goal.inside-returns-clause-gives
inside-returns-clause-gives t c = rw (cond_at-inside c.args.room c.args.front c.args.reader.now c.requires) c.cond.ensures.gives
