-- Effects and rates without a fault have ids that fit.
use Rattle.std.proofs.Common.{◌≡◌, ℕ, Bool, true, false, not, cond, ◌&&◌, List, [], ◌∷◌, ◌++◌, map, flat_map, All}
use Rattle.std.proofs.lemmas.List.Elements.{All-weaker, All-head, All-tail, All-append, All-nil, All-cons}
use Rattle.plus_model.specs.Terms.{Condition, Effect}
use Rattle.plus_state.specs.Fits.{IsIn, Fits, WriteFits, AllEffectsFit, RateFits}
use Rattle.plus_tree.specs.declared.trees.Leaf.{Leaf}
use Rattle.plus_tree.specs.declared.trees.LeafNode.{LeafNode}
use Rattle.plus_tree.specs.declared.trees.LeafNode.TheVariants.{Add, Delete, Assign, Increase, Decrease, ScaleUp, ScaleDown}
use Rattle.plus_tree.specs.Expr.{Expr, Exprs, x_number, x_clock, x_fluent, x_sum, x_product, x_minus, x_difference, x_quotient, no_exprs, more_exprs}
use Rattle.plus_tree.specs.Effect as effects
use Rattle.plus_tree.specs.Effect.{Effects, e_all, e_forall, e_when, e_leaf, no_effects, more_effects}
use Rattle.plus_types.specs.declared.faults.Wrong.TheVariants.{RateForm}
use Rattle.plus_types.specs.Types.{Binding, bindings_of}
use Rattle.plus_types.specs.Faults.{Context, fault_where, is_rate, is_clock, use_faults, expr_faults, exprs_faults, cond_faults, variables_faults, write_faults, leaf_faults, leaves_faults, effect_faults, effects_faults}
use Rattle.plus_types.proofs.SoundLemmas.{left-none, right-none}
use Rattle.plus_expansion.specs.Environments.{Environment, environments}
use Rattle.plus_expansion.specs.Expansion.{expression_meant, condition_meant, write_meant, leaf_meant, effects_meant, all_effects_meant, factor_meant, amount_meant, rate_meant, rates_meant, all_rates_meant}
use Rattle.plus_expansion.proofs.Members.{Stands, environments-stand, variables-new, all-flat}
use Rattle.plus_expansion.proofs.Uses.{Widens, atom-within, fluent-within}
use Rattle.plus_expansion.proofs.Conditions.{atoms_of, fluents_of, expression-in, expressions-in, condition-fits}

-- ---- writes

pub write-fits :
    (c m : Context) → Widens c m → (vars : List Binding) (env : Environment) (process : Bool) → Stands m vars env → (n : LeafNode)
    → write_faults c vars process n ≡ [] → WriteFits (atoms_of m) (fluents_of m) (write_meant m env n)
write-fits c m w vars env process s (Add u) f = atom-within c m w vars env u s f
write-fits c m w vars env process s (Delete u) f = atom-within c m w vars env u s f
write-fits c m w vars env process s (Assign u e) f =
    (fluent-within c m w vars env u s (left-none (use_faults c vars c.functions u) _ f), expression-in c m w vars env process s e (right-none (use_faults c vars c.functions u) _ f))
write-fits c m w vars env process s (Increase u e) f =
    (fluent-within c m w vars env u s (left-none (use_faults c vars c.functions u) _ f), expression-in c m w vars env process s e (right-none (use_faults c vars c.functions u) _ f))
write-fits c m w vars env process s (Decrease u e) f =
    (fluent-within c m w vars env u s (left-none (use_faults c vars c.functions u) _ f), expression-in c m w vars env process s e (right-none (use_faults c vars c.functions u) _ f))
write-fits c m w vars env process s (ScaleUp u e) f =
    (fluent-within c m w vars env u s (left-none (use_faults c vars c.functions u) _ f), expression-in c m w vars env process s e (right-none (use_faults c vars c.functions u) _ f))
write-fits c m w vars env process s (ScaleDown u e) f =
    (fluent-within c m w vars env u s (left-none (use_faults c vars c.functions u) _ f), expression-in c m w vars env process s e (right-none (use_faults c vars c.functions u) _ f))

pub leaf-write : (c : Context) (vars : List Binding) (process : Bool) (l : Leaf) → leaf_faults c vars process l ≡ [] → write_faults c vars process l.node ≡ []
unfolding leaf_faults
leaf-write c vars process l f = right-none (fault_where (process && not (is_rate l.node)) RateForm c.file l.span) _ f

-- ---- effects

pub effects-append : (a f : ℕ) (es gs : List Effect) → AllEffectsFit a f es → AllEffectsFit a f gs → AllEffectsFit a f (es ++ gs)
effects-append a f [] gs h k = k
effects-append a f (e ∷ es) gs h k = (h.0, effects-append a f es gs h.1 k)

pub effects-flat : {X : Type 0} (a f : ℕ) (g : X → List Effect) (xs : List X) → All (λ x. AllEffectsFit a f (g x)) xs → AllEffectsFit a f (flat_map g xs)
effects-flat a f g [] h = tt
effects-flat a f g (x ∷ xs) h =
    effects-append a f (g x) (flat_map g xs) (All-head (λ y. AllEffectsFit a f (g y)) x xs h) (effects-flat a f g xs (All-tail (λ y. AllEffectsFit a f (g y)) x xs h))

pub leaves-fit :
    (c m : Context) → Widens c m → (vars : List Binding) (env : Environment) (process : Bool) → Stands m vars env → (guard : Condition)
    → Fits (atoms_of m) (fluents_of m) guard → (ls : List Leaf)
    → leaves_faults c vars process ls ≡ [] → AllEffectsFit (atoms_of m) (fluents_of m) (map (leaf_meant m env guard) ls)
leaves-fit c m w vars env process s guard h [] f = tt
leaves-fit c m w vars env process s guard h (l ∷ ls) f = (
  (h, write-fits c m w vars env process s l.node (leaf-write c vars process l (left-none (leaf_faults c vars process l) _ f))),
  leaves-fit c m w vars env process s guard h ls (right-none (leaf_faults c vars process l) _ f),
)

mutual
  pub effect-fits :
      (c m : Context) → Widens c m → (process : Bool) (e : effects.Effect) (vars : List Binding) (env : Environment) → Stands m vars env
      → effect_faults c vars process e ≡ [] → AllEffectsFit (atoms_of m) (fluents_of m) (effects_meant m env e)
  effect-fits c m w process (e_all es p) vars env s f = effects-fit c m w process es vars env s f
  effect-fits c m w process (e_forall vs e p) vars env s f =
      effects-flat _ _ (λ inner. effects_meant m inner e) (environments m vs env)
      (All-weaker (Stands m (vars ++ bindings_of vs)) (λ inner. AllEffectsFit (atoms_of m) (fluents_of m) (effects_meant m inner e))
      (λ inner t. effect-fits c m w process e (vars ++ bindings_of vs) inner t (right-none (variables_faults c vars vs) _ f))
      (environments m vs env) (environments-stand m vs vars env s (variables-new c vars vs (left-none (variables_faults c vars vs) _ f))))
  effect-fits c m w process (e_when g ls p) vars env s f =
      let rest : cond_faults c vars g ++ leaves_faults c vars process ls ≡ [] = right-none (fault_where process RateForm c.file p) _ f in
      leaves-fit c m w vars env process s (condition_meant m env true g)
      (condition-fits c m w g vars env true s (left-none (cond_faults c vars g) _ rest)) ls (right-none (cond_faults c vars g) _ rest)
  effect-fits c m w process (e_leaf l p) vars env s f = ((tt, write-fits c m w vars env process s l.node (leaf-write c vars process l f)), tt)

  pub effects-fit :
      (c m : Context) → Widens c m → (process : Bool) (es : Effects) (vars : List Binding) (env : Environment) → Stands m vars env
      → effects_faults c vars process es ≡ [] → AllEffectsFit (atoms_of m) (fluents_of m) (all_effects_meant m env es)
  effects-fit c m w process no_effects vars env s f = tt
  effects-fit c m w process (more_effects e es) vars env s f =
      effects-append _ _ (effects_meant m env e) (all_effects_meant m env es)
      (effect-fits c m w process e vars env s (left-none (effect_faults c vars process e) _ f))
      (effects-fit c m w process es vars env s (right-none (effect_faults c vars process e) _ f))

-- ---- rates

pub factor-in :
    (c m : Context) → Widens c m → (vars : List Binding) (env : Environment) (clock : Bool) → Stands m vars env → (es : Exprs)
    → exprs_faults c vars clock es ≡ [] → IsIn (fluents_of m) (factor_meant m env es)
factor-in c m w vars env clock s no_exprs f = tt
factor-in c m w vars env clock s (more_exprs e no_exprs) f = tt
factor-in c m w vars env clock s (more_exprs e (more_exprs g no_exprs)) f =
    let both = expressions-in c m w vars env clock s (more_exprs e (more_exprs g no_exprs)) f in by (is_clock e) both.0 both.1.0
  where
    by : (b : Bool) → IsIn (fluents_of m) (expression_meant m env e) → IsIn (fluents_of m) (expression_meant m env g) → IsIn (fluents_of m) (expression_meant m env (cond b g e))
    by true h k = k
    by false h k = h
factor-in c m w vars env clock s (more_exprs e (more_exprs g (more_exprs h more))) f = tt

pub amount-in :
    (c m : Context) → Widens c m → (vars : List Binding) (env : Environment) (clock : Bool) → Stands m vars env → (e : Expr)
    → expr_faults c vars clock e ≡ [] → IsIn (fluents_of m) (amount_meant m env e)
amount-in c m w vars env clock s (x_product es p) f = factor-in c m w vars env clock s es f
amount-in c m w vars env clock s (x_number n p) f = tt
amount-in c m w vars env clock s (x_clock p) f = tt
amount-in c m w vars env clock s (x_fluent u p) f = expression-in c m w vars env clock s (x_fluent u p) f
amount-in c m w vars env clock s (x_sum es p) f = expression-in c m w vars env clock s (x_sum es p) f
amount-in c m w vars env clock s (x_minus e p) f = expression-in c m w vars env clock s (x_minus e p) f
amount-in c m w vars env clock s (x_difference a b p) f = expression-in c m w vars env clock s (x_difference a b p) f
amount-in c m w vars env clock s (x_quotient a b p) f = expression-in c m w vars env clock s (x_quotient a b p) f

pub rate-fits :
    (c m : Context) → Widens c m → (vars : List Binding) (env : Environment) (process : Bool) → Stands m vars env → (n : LeafNode)
    → write_faults c vars process n ≡ [] → All (RateFits (fluents_of m)) (rate_meant m env n)
rate-fits c m w vars env process s (Increase u e) f =
    All-cons (RateFits (fluents_of m)) _ []
    (fluent-within c m w vars env u s (left-none (use_faults c vars c.functions u) _ f), amount-in c m w vars env process s e (right-none (use_faults c vars c.functions u) _ f))
    (All-nil (RateFits (fluents_of m)))
rate-fits c m w vars env process s (Decrease u e) f =
    All-cons (RateFits (fluents_of m)) _ []
    (fluent-within c m w vars env u s (left-none (use_faults c vars c.functions u) _ f), amount-in c m w vars env process s e (right-none (use_faults c vars c.functions u) _ f))
    (All-nil (RateFits (fluents_of m)))
rate-fits c m w vars env process s (Add u) f = All-nil (RateFits (fluents_of m))
rate-fits c m w vars env process s (Delete u) f = All-nil (RateFits (fluents_of m))
rate-fits c m w vars env process s (Assign u e) f = All-nil (RateFits (fluents_of m))
rate-fits c m w vars env process s (ScaleUp u e) f = All-nil (RateFits (fluents_of m))
rate-fits c m w vars env process s (ScaleDown u e) f = All-nil (RateFits (fluents_of m))

mutual
  pub rates-fit :
      (c m : Context) → Widens c m → (process : Bool) (e : effects.Effect) (vars : List Binding) (env : Environment) → Stands m vars env
      → effect_faults c vars process e ≡ [] → All (RateFits (fluents_of m)) (rates_meant m env e)
  rates-fit c m w process (e_all es p) vars env s f = all-rates-fit c m w process es vars env s f
  rates-fit c m w process (e_forall vs e p) vars env s f =
      all-flat (RateFits (fluents_of m)) (λ inner. rates_meant m inner e) (environments m vs env)
      (All-weaker (Stands m (vars ++ bindings_of vs)) (λ inner. All (RateFits (fluents_of m)) (rates_meant m inner e))
      (λ inner t. rates-fit c m w process e (vars ++ bindings_of vs) inner t (right-none (variables_faults c vars vs) _ f))
      (environments m vs env) (environments-stand m vs vars env s (variables-new c vars vs (left-none (variables_faults c vars vs) _ f))))
  rates-fit c m w process (e_when g ls p) vars env s f = All-nil (RateFits (fluents_of m))
  rates-fit c m w process (e_leaf l p) vars env s f = rate-fits c m w vars env process s l.node (leaf-write c vars process l f)

  pub all-rates-fit :
      (c m : Context) → Widens c m → (process : Bool) (es : Effects) (vars : List Binding) (env : Environment) → Stands m vars env
      → effects_faults c vars process es ≡ [] → All (RateFits (fluents_of m)) (all_rates_meant m env es)
  all-rates-fit c m w process no_effects vars env s f = All-nil (RateFits (fluents_of m))
  all-rates-fit c m w process (more_effects e es) vars env s f =
      All-append (RateFits (fluents_of m)) (rates_meant m env e) (all_rates_meant m env es)
      (rates-fit c m w process e vars env s (left-none (effect_faults c vars process e) _ f))
      (all-rates-fit c m w process es vars env s (right-none (effect_faults c vars process e) _ f))
