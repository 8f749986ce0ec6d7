-- Members one by one, all of which are within.
use Rattle.std.specs.Prelude.{◌≡◌, ℕ, suc, ◌<◌, ◌≤◌, true, ◌&&◌, List, ◌∷◌, length, drop, get_or}
use Rattle.std.proofs.Common.{ap, sym, ◌∙◌, drop-cons}
use Rattle.std.proofs.lemmas.List.{drop_all}
use Rattle.plus_tree.specs.Expr.{Expr, exprs_of}
use Rattle.plus_tree.specs.Cond.{Cond, conds_of}
use Rattle.plus_tree.specs.Effect.{Effect, effects_of}
use Rattle.plus_translation.specs.Depth.{expr_within, exprs_within, cond_within, conds_within, effect_within, effects_within}

front : {A : Type 0} (xs : List A) (i : ℕ) (x : A) → i < length xs → x ≡ get_or xs i x → drop i xs ≡ x ∷ drop (suc i) xs
front xs i x h m = drop-cons xs i x h ∙ ap (λ y. y ∷ drop (suc i) xs) (sym m)

pub exprs_step : (n : ℕ) (xs : List Expr) (i : ℕ) (x : Expr) → i < length xs → x ≡ get_or xs i x → exprs_within n (exprs_of (drop i xs)) ≡ (expr_within n x && exprs_within n (exprs_of (drop (suc i) xs)))
exprs_step n xs i x h m = ap (λ ys. exprs_within n (exprs_of ys)) (front xs i x h m)

pub exprs_end : (n : ℕ) (xs : List Expr) (i : ℕ) → length xs ≤ i → exprs_within n (exprs_of (drop i xs)) ≡ true
exprs_end n xs i h = ap (λ ys. exprs_within n (exprs_of ys)) (drop_all i xs h)

pub ruleset in_exprs = (exprs_step, exprs_end)

pub conds_step : (n : ℕ) (xs : List Cond) (i : ℕ) (x : Cond) → i < length xs → x ≡ get_or xs i x → conds_within n (conds_of (drop i xs)) ≡ (cond_within n x && conds_within n (conds_of (drop (suc i) xs)))
conds_step n xs i x h m = ap (λ ys. conds_within n (conds_of ys)) (front xs i x h m)

pub conds_end : (n : ℕ) (xs : List Cond) (i : ℕ) → length xs ≤ i → conds_within n (conds_of (drop i xs)) ≡ true
conds_end n xs i h = ap (λ ys. conds_within n (conds_of ys)) (drop_all i xs h)

pub ruleset in_conds = (conds_step, conds_end)

pub effects_step : (n : ℕ) (xs : List Effect) (i : ℕ) (x : Effect) → i < length xs → x ≡ get_or xs i x → effects_within n (effects_of (drop i xs)) ≡ (effect_within n x && effects_within n (effects_of (drop (suc i) xs)))
effects_step n xs i x h m = ap (λ ys. effects_within n (effects_of ys)) (front xs i x h m)

pub effects_end : (n : ℕ) (xs : List Effect) (i : ℕ) → length xs ≤ i → effects_within n (effects_of (drop i xs)) ≡ true
effects_end n xs i h = ap (λ ys. effects_within n (effects_of ys)) (drop_all i xs h)

pub ruleset in_effects = (effects_step, effects_end)
