-- What an operation asks, by what its sides ask.
use Rattle.std.proofs.Common.{◌≡◌, Bool, true, false, List, [], ◌∷◌, ap, ap₂, subst, ◌∙◌, pos}
use Rattle.std.specs.Prelude.{Option, Some, None}
use Rattle.plus_fraction.specs.Fraction.{Fraction, whole, compared}
use Rattle.plus_state.specs.declared.term.Sign.{Sign}
use Rattle.plus_model.specs.Value.{is_zero, on_both, stand, passes}
use Rattle.plus_model.specs.Terms.{Test, Same}
use Rattle.plus_fraction.proofs.Compared.{equal-compared}
use Rattle.plus_state.specs.Node.{Node}
use Rattle.plus_state.specs.Asked.{result_of, node, node_of, if_some, sides, operation, NodeFits, AllFit, FirstUnfit}
use Rattle.plus_state.proofs.Testing.{pass_none, pass_append, pass_one, fail_one, fail_left, fail_right}

module _ (fits : Fraction → Type 0) (xs ys : List Node) where
  -- two sides
  pub sides_err_left : (left : Option Fraction) (m : Node) → FirstUnfit fits xs m → FirstUnfit fits (sides xs left ys) m
  unfolding sides
  sides_err_left left m h = fail_left (NodeFits fits) xs _ m h

  pub sides_none : (left : Option Fraction) → AllFit fits xs → None ≡ left → AllFit fits (sides xs left ys)
  unfolding sides
  sides_none left a e = pass_append (NodeFits fits) xs _ a (subst (λ o. AllFit fits (if_some o (λ _. ys))) e (pass_none (NodeFits fits)))

  pub sides_err_right : (left : Option Fraction) (x : Fraction) (m : Node) → AllFit fits xs → Some x ≡ left → FirstUnfit fits ys m → FirstUnfit fits (sides xs left ys) m
  unfolding sides
  sides_err_right left x m a e h = fail_right (NodeFits fits) xs _ m a (subst (λ o. FirstUnfit fits (if_some o (λ _. ys)) m) e h)

  pub sides_fit : (left : Option Fraction) (x : Fraction) → AllFit fits xs → Some x ≡ left → AllFit fits ys → AllFit fits (sides xs left ys)
  unfolding sides
  sides_fit left x a e h = pass_append (NodeFits fits) xs _ a (subst (λ o. AllFit fits (if_some o (λ _. ys))) e h)

  -- an operation
  module _ (sign : Sign) (left right : Option Fraction) where
    pub err_left : (m : Node) → FirstUnfit fits xs m → FirstUnfit fits (operation sign xs left ys right) m
    unfolding operation
    err_left m h = fail_left (NodeFits fits) _ _ m (sides_err_left left m h)

    pub none_left : AllFit fits xs → None ≡ left → AllFit fits (operation sign xs left ys right)
    unfolding operation
    none_left a e = pass_append (NodeFits fits) _ _ (sides_none left a e) (subst (λ o. AllFit fits (if_some o (λ x. if_some right (λ y. node_of sign x y)))) e (pass_none (NodeFits fits)))

    pub err_right : (x : Fraction) (m : Node) → AllFit fits xs → Some x ≡ left → FirstUnfit fits ys m → FirstUnfit fits (operation sign xs left ys right) m
    unfolding operation
    err_right x m a e h = fail_left (NodeFits fits) _ _ m (sides_err_right left x m a e h)

    pub none_right : (x : Fraction) → AllFit fits xs → Some x ≡ left → AllFit fits ys → None ≡ right → AllFit fits (operation sign xs left ys right)
    unfolding operation
    none_right x a e b f = pass_append (NodeFits fits) _ _ (sides_fit left x a e b) (subst (λ o. AllFit fits (if_some o (λ x. if_some right (λ y. node_of sign x y)))) e (subst (λ o. AllFit fits (if_some o (λ y. node_of sign x y))) f (pass_none (NodeFits fits))))

    pub both_fit : (x y : Fraction) → AllFit fits xs → Some x ≡ left → AllFit fits ys → Some y ≡ right → AllFit fits (node_of sign x y) → AllFit fits (operation sign xs left ys right)
    unfolding operation
    both_fit x y a e b f h = pass_append (NodeFits fits) _ _ (sides_fit left x a e b) (subst (λ o. AllFit fits (if_some o (λ x. if_some right (λ y. node_of sign x y)))) e (subst (λ o. AllFit fits (if_some o (λ y. node_of sign x y))) f h))

    pub both_unfit : (x y : Fraction) (m : Node) → AllFit fits xs → Some x ≡ left → AllFit fits ys → Some y ≡ right → FirstUnfit fits (node_of sign x y) m → FirstUnfit fits (operation sign xs left ys right) m
    unfolding operation
    both_unfit x y m a e b f h = fail_right (NodeFits fits) _ _ m (sides_fit left x a e b) (subst (λ o. FirstUnfit fits (if_some o (λ x. if_some right (λ y. node_of sign x y))) m) e (subst (λ o. FirstUnfit fits (if_some o (λ y. node_of sign x y)) m) f h))

pub value_none_left : (op : Fraction → Fraction → Option Fraction) (left right : Option Fraction) → None ≡ left → None ≡ on_both op left right
value_none_left op left right e = ap (λ o. on_both op o right) e

pub value_none_right : (op : Fraction → Fraction → Option Fraction) (left right : Option Fraction) (x : Fraction) → Some x ≡ left → None ≡ right → None ≡ on_both op left right
value_none_right op left right x e f = ap₂ (on_both op) e f

pub value_both : (op : Fraction → Fraction → Option Fraction) (left right : Option Fraction) (x y : Fraction) (w : Option Fraction) → Some x ≡ left → Some y ≡ right → w ≡ op x y → w ≡ on_both op left right
value_both op left right x y w e f d = d ∙ ap₂ (on_both op) e f

pub ruleset asked = (pass_none, err_left, none_left, err_right, none_right, both_fit, both_unfit, value_none_left, value_none_right, value_both)

-- one node
pub one_fits : (fits : Fraction → Type 0) (sign : Sign) (x y z : Fraction) → z ≡ result_of sign x y → fits z → AllFit fits (node sign x y ∷ [])
unfolding NodeFits
one_fits fits sign x y z e h = pass_one (NodeFits fits) _ (subst fits e h)

pub one_unfit : (fits : Fraction → Type 0) (sign : Sign) (x y : Fraction) (m : Node) → (fits (result_of sign x y) → ⊥) → m ≡ node sign x y → FirstUnfit fits (node sign x y ∷ []) m
unfolding NodeFits
one_unfit fits sign x y m h e = fail_one (NodeFits fits) _ m h e

pub not_zero : (x : Fraction) → is_zero x ≡ false → x ≡ whole (pos 0) → ⊥
not_zero x h e = let k : passes Same (compared x (whole (pos 0))) ≡ true = ap (passes Same) (equal-compared x _ e) in cc

pub ruleset calculating = (pass_none, one_fits, one_unfit, not_zero)

pub stand_none_left : (test : Test) (left right : Option Fraction) → None ≡ left → false ≡ stand test left right
stand_none_left test left right e = ap (λ o. stand test o right) e

pub stand_none_right : (test : Test) (left right : Option Fraction) (x : Fraction) → Some x ≡ left → None ≡ right → false ≡ stand test left right
stand_none_right test left right x e f = ap₂ (stand test) e f

pub stand_both : (test : Test) (left right : Option Fraction) (x y : Fraction) (b : Bool) → Some x ≡ left → Some y ≡ right → b ≡ passes test (compared x y) → b ≡ stand test left right
stand_both test left right x y b e f h = h ∙ ap₂ (stand test) e f

pub ruleset comparing = (sides_err_left, sides_none, sides_err_right, sides_fit, stand_none_left, stand_none_right, stand_both)
