use Rattle.std.proofs.Common.{List, ℕ, refl}
use Rattle.std.specs.Prelude.{codes}
use Rattle.std.proofs.lemmas.Result.{err_from_is_err_and}
use Rattle.plus_tree.specs.Cond.{Cond, conds_of}
use Rattle.plus_printer.specs.Words.{word}
use Rattle.plus_printer.specs.Canon.{cond_text, conds_text}
use Rattle.plus_printer.proofs.AppendedLemmas.{space_broken, inner_broken, close_broken}
use Rattle.plus_printer.proofs.conditions.+condition.Goals as goal

abbrev texts : List Cond → List ℕ
texts xs = conds_text (conds_of xs)

pub returns-in_err-put_word-in-All-2 : goal.returns-in_err-put_word-in-All-2
returns-in_err-put_word-in-All-2 t c =
    let p = err_from_is_err_and c.from_residual-in_err-put_word-in-All-2.result c.from_residual-in_err-put_word-in-All-2.ensures.1 in
    let f = space_broken texts cond_text (λ x xs. refl) c.deref-member-items.result.now c.all.member-index c.member-item.result _ _ _ _ (word (codes "(and")) (word (codes ")")) c.all-test.true c.member-item.is c.in_ok-put_word-in-All.ensures c.all.invariant c.in_err-put_word-in-All-2.ensures in
    rw p.1 (rw (← c.cond.view_is, c.in-All.is, ← c.deref-member-items.ensures.value) f)

pub returns-in_err-condition-in-All : goal.returns-in_err-condition-in-All
returns-in_err-condition-in-All t c =
    let p = err_from_is_err_and c.from_residual-in_err-condition-in-All.result c.from_residual-in_err-condition-in-All.ensures.1 in
    let f = inner_broken texts cond_text (λ x xs. refl) c.deref-member-items.result.now c.all.member-index c.member-item.result _ _ _ _ _ (word (codes "(and")) (word (codes ")")) c.all-test.true c.member-item.is c.in_ok-put_word-in-All.ensures c.all.invariant c.in_ok-put_word-in-All-2.ensures c.in_err-condition-in-All.ensures in
    rw p.1 (rw (← c.cond.view_is, c.in-All.is, ← c.deref-member-items.ensures.value) f)

pub returns-in_err-put_word-in-All-3 : goal.returns-in_err-put_word-in-All-3
returns-in_err-put_word-in-All-3 t c =
    let p = err_from_is_err_and c.from_residual-in_err-put_word-in-All-3.result c.from_residual-in_err-put_word-in-All-3.ensures.1 in
    let f = close_broken texts refl c.deref-member-items.result.now c.all.member-index _ _ _ _ (word (codes "(and")) (word (codes ")")) c.all-test.false c.in_ok-put_word-in-All.ensures c.all.invariant c.in_err-put_word-in-All-3.ensures in
    rw p.1 (rw (← c.cond.view_is, c.in-All.is, ← c.deref-member-items.ensures.value) f)

pub returns-in_err-put_word-in-Any-2 : goal.returns-in_err-put_word-in-Any-2
returns-in_err-put_word-in-Any-2 t c =
    let p = err_from_is_err_and c.from_residual-in_err-put_word-in-Any-2.result c.from_residual-in_err-put_word-in-Any-2.ensures.1 in
    let f = space_broken texts cond_text (λ x xs. refl) c.deref-member-items-in-Any.result.now c.any.member-index c.member-item-in-any.result _ _ _ _ (word (codes "(or")) (word (codes ")")) c.any-test.true c.member-item-in-any.is c.in_ok-put_word-in-Any.ensures c.any.invariant c.in_err-put_word-in-Any-2.ensures in
    rw p.1 (rw (← c.cond.view_is, c.in-Any.is, ← c.deref-member-items-in-Any.ensures.value) f)

pub returns-in_err-condition-in-Any : goal.returns-in_err-condition-in-Any
returns-in_err-condition-in-Any t c =
    let p = err_from_is_err_and c.from_residual-in_err-condition-in-Any.result c.from_residual-in_err-condition-in-Any.ensures.1 in
    let f = inner_broken texts cond_text (λ x xs. refl) c.deref-member-items-in-Any.result.now c.any.member-index c.member-item-in-any.result _ _ _ _ _ (word (codes "(or")) (word (codes ")")) c.any-test.true c.member-item-in-any.is c.in_ok-put_word-in-Any.ensures c.any.invariant c.in_ok-put_word-in-Any-2.ensures c.in_err-condition-in-Any.ensures in
    rw p.1 (rw (← c.cond.view_is, c.in-Any.is, ← c.deref-member-items-in-Any.ensures.value) f)

pub returns-in_err-put_word-in-Any-3 : goal.returns-in_err-put_word-in-Any-3
returns-in_err-put_word-in-Any-3 t c =
    let p = err_from_is_err_and c.from_residual-in_err-put_word-in-Any-3.result c.from_residual-in_err-put_word-in-Any-3.ensures.1 in
    let f = close_broken texts refl c.deref-member-items-in-Any.result.now c.any.member-index _ _ _ _ (word (codes "(or")) (word (codes ")")) c.any-test.false c.in_ok-put_word-in-Any.ensures c.any.invariant c.in_err-put_word-in-Any-3.ensures in
    rw p.1 (rw (← c.cond.view_is, c.in-Any.is, ← c.deref-member-items-in-Any.ensures.value) f)
