-- Expressions and conditions without a fault have ids that fit.
use Rattle.std.proofs.Common.{◌≡◌, ℕ, Bool, true, false, not, List, [], ◌∷◌, ◌++◌, map, length}
use Rattle.std.specs.List.{AllByRecursion}
use Rattle.std.proofs.lemmas.List.Elements.{All-map, All-weaker, recursion_from_All}
use Rattle.plus_model.specs.Terms.{Expression, Sum, Product, Condition}
use Rattle.plus_state.specs.Fits.{IsIn, Fits}
use Rattle.plus_state.specs.Tests.{joined}
use Rattle.plus_tree.specs.declared.terms.TypedName.{TypedName}
use Rattle.plus_tree.specs.Expr.{Expr, Exprs, x_number, x_clock, x_fluent, x_sum, x_product, x_minus, x_difference, x_quotient, no_exprs, more_exprs}
use Rattle.plus_tree.specs.Cond.{Cond, Conds, c_all, c_any, c_not, c_imply, c_forall, c_exists, c_atom, c_same, c_compare, no_conds, more_conds}
use Rattle.plus_types.specs.Types.{Binding, bindings_of}
use Rattle.plus_types.specs.Faults.{Context, variables_faults, expr_faults, exprs_faults, cond_faults, conds_faults}
use Rattle.plus_types.proofs.SoundLemmas.{left-none, right-none}
use Rattle.plus_expansion.specs.Numbers.{ground_names}
use Rattle.plus_expansion.specs.Environments.{Environment, environments}
use Rattle.plus_expansion.specs.Expansion.{grouped, chained, expression_meant, expressions_meant, condition_meant, conditions_meant}
use Rattle.plus_expansion.proofs.Members.{Stands, AreNew, environments-stand, variables-new}
use Rattle.plus_expansion.proofs.Uses.{Widens, atom-within, fluent-within}

-- how many ground atoms and ground fluents there are
abbrev pub atoms_of : Context → ℕ
atoms_of m = length (ground_names m m.predicates)

abbrev pub fluents_of : Context → ℕ
fluents_of m = length (ground_names m m.functions)

-- ---- expressions

pub grouped-in :
    (n : ℕ) (op : Expression → Expression → Expression) → ((a b : Expression) → IsIn n a → IsIn n b → IsIn n (op a b)) → (es : List Expression) (e : Expression)
    → IsIn n e → AllByRecursion (IsIn n) es → IsIn n (grouped op e es)
grouped-in n op keeps [] e h all = h
grouped-in n op keeps (f ∷ fs) e h all = grouped-in n op keeps fs (op e f) (keeps e f h all.0) all.1

pub chained-in :
    (n : ℕ) (op : Expression → Expression → Expression) → ((a b : Expression) → IsIn n a → IsIn n b → IsIn n (op a b)) → (es : List Expression)
    → AllByRecursion (IsIn n) es → IsIn n (chained op es)
chained-in n op keeps [] all = tt
chained-in n op keeps (e ∷ es) all = grouped-in n op keeps es e all.0 all.1

mutual
  pub expression-in :
      (c m : Context) → Widens c m → (vars : List Binding) (env : Environment) (clock : Bool) → Stands m vars env → (e : Expr)
      → expr_faults c vars clock e ≡ [] → IsIn (fluents_of m) (expression_meant m env e)
  expression-in c m w vars env clock s (x_number n p) f = tt
  expression-in c m w vars env clock s (x_clock p) f = tt
  expression-in c m w vars env clock s (x_fluent u p) f = fluent-within c m w vars env u s f
  expression-in c m w vars env clock s (x_sum es p) f =
      chained-in (fluents_of m) Sum (λ a b h k. (h, k)) (expressions_meant m env es) (expressions-in c m w vars env clock s es f)
  expression-in c m w vars env clock s (x_product es p) f =
      chained-in (fluents_of m) Product (λ a b h k. (h, k)) (expressions_meant m env es) (expressions-in c m w vars env clock s es f)
  expression-in c m w vars env clock s (x_minus e p) f = (tt, expression-in c m w vars env clock s e f)
  expression-in c m w vars env clock s (x_difference a b p) f =
      (expression-in c m w vars env clock s a (left-none (expr_faults c vars clock a) _ f), expression-in c m w vars env clock s b (right-none (expr_faults c vars clock a) _ f))
  expression-in c m w vars env clock s (x_quotient a b p) f =
      (expression-in c m w vars env clock s a (left-none (expr_faults c vars clock a) _ f), expression-in c m w vars env clock s b (right-none (expr_faults c vars clock a) _ f))

  pub expressions-in :
      (c m : Context) → Widens c m → (vars : List Binding) (env : Environment) (clock : Bool) → Stands m vars env → (es : Exprs)
      → exprs_faults c vars clock es ≡ [] → AllByRecursion (IsIn (fluents_of m)) (expressions_meant m env es)
  expressions-in c m w vars env clock s no_exprs f = tt
  expressions-in c m w vars env clock s (more_exprs e es) f =
      (expression-in c m w vars env clock s e (left-none (expr_faults c vars clock e) _ f), expressions-in c m w vars env clock s es (right-none (expr_faults c vars clock e) _ f))

-- ---- conditions

pub joined-fits : (a f : ℕ) (all : Bool) (cs : List Condition) → AllByRecursion (Fits a f) cs → Fits a f (joined all cs)
joined-fits a f true [] h = tt
joined-fits a f false [] h = tt
joined-fits a f true (c ∷ cs) h = (h.0, joined-fits a f true cs h.1)
joined-fits a f false (c ∷ cs) h = (h.0, joined-fits a f false cs h.1)

-- one condition for each choice of objects
pub quantified-fits :
    (m : Context) (a f : ℕ) (all : Bool) (vs : List TypedName) (vars : List Binding) (env : Environment) (g : Environment → Condition) → Stands m vars env → AreNew vars vs
    → ((e : Environment) → Stands m (vars ++ bindings_of vs) e → Fits a f (g e)) → Fits a f (joined all (map g (environments m vs env)))
quantified-fits m a f all vs vars env g s n each =
    joined-fits a f all (map g (environments m vs env))
    (recursion_from_All (Fits a f) (map g (environments m vs env))
    (All-map (Fits a f) g (environments m vs env)
    (All-weaker (Stands m (vars ++ bindings_of vs)) (λ e. Fits a f (g e)) each (environments m vs env) (environments-stand m vs vars env s n))))

mutual
  pub condition-fits :
      (c m : Context) → Widens c m → (f : Cond) (vars : List Binding) (env : Environment) (positive : Bool) → Stands m vars env
      → cond_faults c vars f ≡ [] → Fits (atoms_of m) (fluents_of m) (condition_meant m env positive f)
  condition-fits c m w (c_all fs p) vars env positive s e = joined-fits _ _ positive (conditions_meant m env positive fs) (conditions-fit c m w fs vars env positive s e)
  condition-fits c m w (c_any fs p) vars env positive s e = joined-fits _ _ (not positive) (conditions_meant m env positive fs) (conditions-fit c m w fs vars env positive s e)
  condition-fits c m w (c_not f p) vars env positive s e = condition-fits c m w f vars env (not positive) s e
  condition-fits c m w (c_imply f g p) vars env positive s e =
      joined-fits _ _ (not positive) (condition_meant m env (not positive) f ∷ condition_meant m env positive g ∷ [])
      (condition-fits c m w f vars env (not positive) s (left-none (cond_faults c vars f) _ e), (condition-fits c m w g vars env positive s (right-none (cond_faults c vars f) _ e), tt))
  condition-fits c m w (c_forall vs f p) vars env positive s e =
      quantified-fits m _ _ positive vs vars env (λ inner. condition_meant m inner positive f) s (variables-new c vars vs (left-none (variables_faults c vars vs) _ e))
      (λ inner t. condition-fits c m w f (vars ++ bindings_of vs) inner positive t (right-none (variables_faults c vars vs) _ e))
  condition-fits c m w (c_exists vs f p) vars env positive s e =
      quantified-fits m _ _ (not positive) vs vars env (λ inner. condition_meant m inner positive f) s (variables-new c vars vs (left-none (variables_faults c vars vs) _ e))
      (λ inner t. condition-fits c m w f (vars ++ bindings_of vs) inner positive t (right-none (variables_faults c vars vs) _ e))
  condition-fits c m w (c_atom u p) vars env positive s e = atom-within c m w vars env u s e
  condition-fits c m w (c_same t u p) vars env positive s e = joined-fits _ _ _ [] tt
  condition-fits c m w (c_compare test a b p) vars env positive s e =
      (expression-in c m w vars env false s a (left-none (expr_faults c vars false a) _ e), expression-in c m w vars env false s b (right-none (expr_faults c vars false a) _ e))

  pub conditions-fit :
      (c m : Context) → Widens c m → (fs : Conds) (vars : List Binding) (env : Environment) (positive : Bool) → Stands m vars env
      → conds_faults c vars fs ≡ [] → AllByRecursion (Fits (atoms_of m) (fluents_of m)) (conditions_meant m env positive fs)
  conditions-fit c m w no_conds vars env positive s e = tt
  conditions-fit c m w (more_conds f fs) vars env positive s e =
      (condition-fits c m w f vars env positive s (left-none (cond_faults c vars f) _ e), conditions-fit c m w fs vars env positive s (right-none (cond_faults c vars f) _ e))
