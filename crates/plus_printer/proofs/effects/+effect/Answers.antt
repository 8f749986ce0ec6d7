use Rattle.std.proofs.Common.{List, ℕ, refl}
use Rattle.std.specs.Prelude.{codes}
use Rattle.std.proofs.lemmas.Result.{err_from_is_err_and}
use Rattle.plus_tree.specs.Effect.{Effect, effects_of}
use Rattle.plus_printer.specs.Words.{word}
use Rattle.plus_printer.specs.Canon.{effect_text, effects_text}
use Rattle.plus_printer.proofs.AppendedLemmas.{space_broken, inner_broken, close_broken}
use Rattle.plus_printer.proofs.effects.+effect.Goals as goal

abbrev texts : List Effect → List ℕ
texts xs = effects_text (effects_of xs)

pub returns-in_err-put_word-in-All-2 : goal.returns-in_err-put_word-in-All-2
returns-in_err-put_word-in-All-2 t c =
    let p = err_from_is_err_and c.from_residual-in_err-put_word-in-All-2.result c.from_residual-in_err-put_word-in-All-2.ensures.1 in
    let f = space_broken texts effect_text (λ x xs. refl) c.deref-member-items.result.now c.all.member-index c.member-item.result _ _ _ _ (word (codes "(and")) (word (codes ")")) c.all-test.true c.member-item.is c.in_ok-put_word-in-All.ensures c.all.invariant c.in_err-put_word-in-All-2.ensures in
    rw p.1 (rw (← c.effect_tree.view_is, c.in-All.is, ← c.deref-member-items.ensures.value) f)

pub returns-in_err-effect-in-All : goal.returns-in_err-effect-in-All
returns-in_err-effect-in-All t c =
    let p = err_from_is_err_and c.from_residual-in_err-effect-in-All.result c.from_residual-in_err-effect-in-All.ensures.1 in
    let f = inner_broken texts effect_text (λ x xs. refl) c.deref-member-items.result.now c.all.member-index c.member-item.result _ _ _ _ _ (word (codes "(and")) (word (codes ")")) c.all-test.true c.member-item.is c.in_ok-put_word-in-All.ensures c.all.invariant c.in_ok-put_word-in-All-2.ensures c.in_err-effect-in-All.ensures in
    rw p.1 (rw (← c.effect_tree.view_is, c.in-All.is, ← c.deref-member-items.ensures.value) f)

pub returns-in_err-put_word-in-All-3 : goal.returns-in_err-put_word-in-All-3
returns-in_err-put_word-in-All-3 t c =
    let p = err_from_is_err_and c.from_residual-in_err-put_word-in-All-3.result c.from_residual-in_err-put_word-in-All-3.ensures.1 in
    let f = close_broken texts refl c.deref-member-items.result.now c.all.member-index _ _ _ _ (word (codes "(and")) (word (codes ")")) c.all-test.false c.in_ok-put_word-in-All.ensures c.all.invariant c.in_err-put_word-in-All-3.ensures in
    rw p.1 (rw (← c.effect_tree.view_is, c.in-All.is, ← c.deref-member-items.ensures.value) f)
