-- All ground forms of a tree have equally many nodes, and how many instances schemas have.
use Rattle.std.proofs.Common.{◌≡◌, ℕ, suc, ◌+◌, ◌*◌, Bool, true, false, not, List, [], ◌∷◌, ◌++◌, length, map, arith, refl, ap, ap₂, ◌∙◌}
use Rattle.std.specs.List.{sum_by, flat_map}
use Rattle.std.proofs.lemmas.List.{length-map}
use Rattle.std.proofs.lemmas.List.Sums.{sum_by-cons, sum_by-append}
use Rattle.std.proofs.lemmas.List.Concat.{length-flat_map}
use Rattle.plus_model.specs.Terms.{Expression, Sum, Product, Condition, Always}
use Rattle.plus_state.specs.Tests.{joined}
use Rattle.plus_tree.specs.declared.terms.TypedName.{TypedName}
use Rattle.plus_tree.specs.declared.trees.Leaf.{Leaf}
use Rattle.plus_tree.specs.declared.trees.LeafNode.{LeafNode}
use Rattle.plus_tree.specs.declared.trees.LeafNode.TheVariants.{Add, Delete, Assign, Increase, Decrease, ScaleUp, ScaleDown}
use Rattle.plus_tree.specs.declared.trees.Schema.{Schema}
use Rattle.plus_tree.specs.Expr.{Expr, Exprs, x_number, x_clock, x_fluent, x_sum, x_product, x_minus, x_difference, x_quotient, no_exprs, more_exprs, exprs_of}
use Rattle.plus_tree.specs.Cond.{Cond, Conds, c_all, c_any, c_not, c_imply, c_forall, c_exists, c_atom, c_same, c_compare, no_conds, more_conds}
use Rattle.plus_tree.specs.Effect as effects
use Rattle.plus_tree.specs.Effect.{Effects, e_all, e_forall, e_when, e_leaf, no_effects, more_effects}
use Rattle.plus_types.specs.Faults.{Context}
use Rattle.plus_expansion.specs.Objects.{members_of}
use Rattle.plus_expansion.specs.Environments.{Environment, environments}
use Rattle.plus_expansion.specs.Expansion.{grouped, chained, expression_meant, expressions_meant, condition_meant, conditions_meant, write_meant, leaf_meant, effects_meant, all_effects_meant, factor_meant, amount_meant, rate_meant, rates_meant, all_rates_meant, instances_of}
use Rattle.plus_expansion.specs.Nodes.{expression_nodes, condition_nodes, write_nodes, effect_nodes, rate_nodes}
use Rattle.plus_numbering.specs.Sizes.{choices, operands, operators, expression_size, expressions_size, condition_size, conditions_size, write_size, leaf_size, effect_size, effects_size, factor_size, amount_size, rate_size, rates_size, all_rates_size, instances, schemas_size}
use Rattle.plus_numbering.proofs.Sums.{sum_by-same, sum_by-equal, sum_by-map, sum_by-flat_map}

pub environments-length : (c : Context) (vs : List TypedName) (env : Environment) → length (environments c vs env) ≡ choices c vs
environments-length c [] env = refl
environments-length c (v ∷ vs) env =
    length-flat_map (λ o. environments c vs (env ++ (v.name.name, o) ∷ [])) (members_of c v.kind.name)
    ∙ sum_by-same (λ o. length (environments c vs (env ++ (v.name.name, o) ∷ []))) (choices c vs) (λ o. environments-length c vs (env ++ (v.name.name, o) ∷ [])) (members_of c v.kind.name)

-- ---- expressions

-- an operator that makes one node more than its operands have
abbrev IsNode : (Expression → Expression → Expression) → Type 0
IsNode op = (a b : Expression) → expression_nodes (op a b) ≡ 1 + (expression_nodes a + expression_nodes b)

grouped-nodes : (op : Expression → Expression → Expression) → IsNode op → (e : Expression) (fs : List Expression)
    → expression_nodes (grouped op e fs) ≡ length fs + (expression_nodes e + sum_by expression_nodes fs)
grouped-nodes op h e [] = omega arith
grouped-nodes op h e (f ∷ fs) = grouped-nodes op h (op e f) fs ∙ omega (arith, h e f, sum_by-cons expression_nodes f fs)

chained-nodes : (op : Expression → Expression → Expression) → IsNode op → (es : List Expression)
    → expression_nodes (chained op es) ≡ operators (length es) + sum_by expression_nodes es
chained-nodes op h [] = refl
chained-nodes op h (e ∷ es) = grouped-nodes op h e es ∙ omega (arith, sum_by-cons expression_nodes e es)

pub operands_of : (es : List Expr) → operands (exprs_of es) ≡ length es
operands_of [] = refl
operands_of (e ∷ es) = ap suc (operands_of es)

operands-length : (c : Context) (env : Environment) (es : Exprs) → length (expressions_meant c env es) ≡ operands es
operands-length c env no_exprs = refl
operands-length c env (more_exprs e es) = ap suc (operands-length c env es)

mutual
  pub expression-nodes : (c : Context) (env : Environment) (e : Expr) → expression_nodes (expression_meant c env e) ≡ expression_size e
  expression-nodes c env (x_number n s) = refl
  expression-nodes c env (x_clock s) = refl
  expression-nodes c env (x_fluent u s) = refl
  expression-nodes c env (x_sum es s) =
      chained-nodes Sum (λ a b. refl) (expressions_meant c env es) ∙ ap₂ (λ (a b : ℕ). operators a + b) (operands-length c env es) (expressions-nodes c env es)
  expression-nodes c env (x_product es s) =
      chained-nodes Product (λ a b. refl) (expressions_meant c env es) ∙ ap₂ (λ (a b : ℕ). operators a + b) (operands-length c env es) (expressions-nodes c env es)
  expression-nodes c env (x_minus e s) = omega (arith, expression-nodes c env e)
  expression-nodes c env (x_difference e f s) = omega (arith, expression-nodes c env e, expression-nodes c env f)
  expression-nodes c env (x_quotient e f s) = omega (arith, expression-nodes c env e, expression-nodes c env f)

  pub expressions-nodes : (c : Context) (env : Environment) (es : Exprs) → sum_by expression_nodes (expressions_meant c env es) ≡ expressions_size es
  expressions-nodes c env no_exprs = refl
  expressions-nodes c env (more_exprs e es) =
      sum_by-cons expression_nodes (expression_meant c env e) (expressions_meant c env es) ∙ omega (arith, expression-nodes c env e, expressions-nodes c env es)

-- ---- conditions

joined-nodes : (all : Bool) (cs : List Condition) → condition_nodes (joined all cs) ≡ 1 + sum_by condition_nodes cs
joined-nodes true [] = refl
joined-nodes false [] = refl
joined-nodes true (c ∷ cs) = omega (arith, joined-nodes true cs, sum_by-cons condition_nodes c cs)
joined-nodes false (c ∷ cs) = omega (arith, joined-nodes false cs, sum_by-cons condition_nodes c cs)

-- a condition repeated in each environment
repeated-nodes : (c : Context) (all : Bool) (f : Environment → Condition) (n : ℕ) → ((e : Environment) → condition_nodes (f e) ≡ n)
    → (vs : List TypedName) (env : Environment) → condition_nodes (joined all (map f (environments c vs env))) ≡ 1 + choices c vs * n
repeated-nodes c all f n h vs env =
    joined-nodes all (map f (environments c vs env))
    ∙ ap (λ (k : ℕ). 1 + k) (sum_by-map condition_nodes f (environments c vs env) ∙ sum_by-same (λ e. condition_nodes (f e)) n h (environments c vs env)
    ∙ ap (λ (k : ℕ). k * n) (environments-length c vs env))

mutual
  pub condition-nodes : (c : Context) (env : Environment) (positive : Bool) (f : Cond) → condition_nodes (condition_meant c env positive f) ≡ condition_size c f
  condition-nodes c env p (c_all fs s) = joined-nodes p (conditions_meant c env p fs) ∙ ap (λ (k : ℕ). 1 + k) (conditions-nodes c env p fs)
  condition-nodes c env p (c_any fs s) = joined-nodes (not p) (conditions_meant c env p fs) ∙ ap (λ (k : ℕ). 1 + k) (conditions-nodes c env p fs)
  condition-nodes c env p (c_not f s) = condition-nodes c env (not p) f
  condition-nodes c env p (c_imply f g s) =
      joined-nodes (not p) (condition_meant c env (not p) f ∷ condition_meant c env p g ∷ [])
      ∙ omega (arith, condition-nodes c env (not p) f, condition-nodes c env p g)
  condition-nodes c env p (c_forall vs f s) =
      repeated-nodes c p (λ e. condition_meant c e p f) (condition_size c f) (λ e. condition-nodes c e p f) vs env
  condition-nodes c env p (c_exists vs f s) =
      repeated-nodes c (not p) (λ e. condition_meant c e p f) (condition_size c f) (λ e. condition-nodes c e p f) vs env
  condition-nodes c env p (c_atom u s) = refl
  condition-nodes c env p (c_same t u s) = joined-nodes _ []
  condition-nodes c env p (c_compare test e f s) = omega (arith, expression-nodes c env e, expression-nodes c env f)

  pub conditions-nodes : (c : Context) (env : Environment) (positive : Bool) (fs : Conds) → sum_by condition_nodes (conditions_meant c env positive fs) ≡ conditions_size c fs
  conditions-nodes c env p no_conds = refl
  conditions-nodes c env p (more_conds f fs) =
      sum_by-cons condition_nodes (condition_meant c env p f) (conditions_meant c env p fs) ∙ omega (arith, condition-nodes c env p f, conditions-nodes c env p fs)

-- ---- effects

write-nodes : (c : Context) (env : Environment) (w : LeafNode) → write_nodes (write_meant c env w) ≡ write_size w
write-nodes c env (Add u) = refl
write-nodes c env (Delete u) = refl
write-nodes c env (Assign u e) = expression-nodes c env e
write-nodes c env (Increase u e) = expression-nodes c env e
write-nodes c env (Decrease u e) = expression-nodes c env e
write-nodes c env (ScaleUp u e) = expression-nodes c env e
write-nodes c env (ScaleDown u e) = expression-nodes c env e

leaf-nodes : (c : Context) (env : Environment) (guard : Condition) (l : Leaf) → effect_nodes (leaf_meant c env guard l) ≡ leaf_size (condition_nodes guard) l
leaf-nodes c env guard l = ap (λ (n : ℕ). 1 + (condition_nodes guard + n)) (write-nodes c env l.node)

guarded-nodes : (c : Context) (env : Environment) (f : Cond) (ls : List Leaf)
    → sum_by effect_nodes (map (leaf_meant c env (condition_meant c env true f)) ls) ≡ sum_by (leaf_size (condition_size c f)) ls
guarded-nodes c env f ls =
    sum_by-map effect_nodes (leaf_meant c env (condition_meant c env true f)) ls
    ∙ sum_by-equal (λ l. effect_nodes (leaf_meant c env (condition_meant c env true f) l)) (leaf_size (condition_nodes (condition_meant c env true f))) (leaf-nodes c env (condition_meant c env true f)) ls
    ∙ ap (λ (n : ℕ). sum_by (leaf_size n) ls) (condition-nodes c env true f)

-- what is repeated in each environment
repeated-sum : {X : Type 0} (c : Context) (nodes : X → ℕ) (f : Environment → List X) (n : ℕ) → ((e : Environment) → sum_by nodes (f e) ≡ n)
    → (vs : List TypedName) (env : Environment) → sum_by nodes (flat_map f (environments c vs env)) ≡ choices c vs * n
repeated-sum c nodes f n h vs env =
    sum_by-flat_map nodes f (environments c vs env) ∙ sum_by-same (λ e. sum_by nodes (f e)) n h (environments c vs env)
    ∙ ap (λ (k : ℕ). k * n) (environments-length c vs env)

mutual
  pub effect-nodes : (c : Context) (env : Environment) (e : effects.Effect) → sum_by effect_nodes (effects_meant c env e) ≡ effect_size c e
  effect-nodes c env (e_all es s) = effects-nodes c env es
  effect-nodes c env (e_forall vs e s) = repeated-sum c effect_nodes (λ inner. effects_meant c inner e) (effect_size c e) (λ inner. effect-nodes c inner e) vs env
  effect-nodes c env (e_when f ls s) = guarded-nodes c env f ls
  effect-nodes c env (e_leaf l s) = sum_by-cons effect_nodes (leaf_meant c env Always l) [] ∙ omega (arith, leaf-nodes c env Always l)

  pub effects-nodes : (c : Context) (env : Environment) (es : Effects) → sum_by effect_nodes (all_effects_meant c env es) ≡ effects_size c es
  effects-nodes c env no_effects = refl
  effects-nodes c env (more_effects e es) =
      sum_by-append effect_nodes (effects_meant c env e) (all_effects_meant c env es) ∙ omega (arith, effect-nodes c env e, effects-nodes c env es)

-- ---- rates

factor-nodes : (c : Context) (env : Environment) (es : Exprs) → expression_nodes (factor_meant c env es) ≡ factor_size es
factor-nodes c env no_exprs = refl
factor-nodes c env (more_exprs e no_exprs) = refl
factor-nodes c env (more_exprs e (more_exprs f no_exprs)) = expression-nodes c env _
factor-nodes c env (more_exprs e (more_exprs f (more_exprs g gs))) = refl

amount-nodes : (c : Context) (env : Environment) (e : Expr) → expression_nodes (amount_meant c env e) ≡ amount_size e
amount-nodes c env (x_product es s) = factor-nodes c env es
amount-nodes c env (x_number n s) = refl
amount-nodes c env (x_clock s) = refl
amount-nodes c env (x_fluent u s) = refl
amount-nodes c env (x_sum es s) = expression-nodes c env (x_sum es s)
amount-nodes c env (x_minus e s) = expression-nodes c env (x_minus e s)
amount-nodes c env (x_difference e f s) = expression-nodes c env (x_difference e f s)
amount-nodes c env (x_quotient e f s) = expression-nodes c env (x_quotient e f s)

rate-nodes : (c : Context) (env : Environment) (w : LeafNode) → sum_by rate_nodes (rate_meant c env w) ≡ rate_size w
rate-nodes c env (Add u) = refl
rate-nodes c env (Delete u) = refl
rate-nodes c env (Assign u e) = refl
rate-nodes c env (Increase u e) = omega (arith, amount-nodes c env e)
rate-nodes c env (Decrease u e) = omega (arith, amount-nodes c env e)
rate-nodes c env (ScaleUp u e) = refl
rate-nodes c env (ScaleDown u e) = refl

mutual
  pub rates-nodes : (c : Context) (env : Environment) (e : effects.Effect) → sum_by rate_nodes (rates_meant c env e) ≡ rates_size c e
  rates-nodes c env (e_all es s) = all-rates-nodes c env es
  rates-nodes c env (e_forall vs e s) = repeated-sum c rate_nodes (λ inner. rates_meant c inner e) (rates_size c e) (λ inner. rates-nodes c inner e) vs env
  rates-nodes c env (e_when f ls s) = refl
  rates-nodes c env (e_leaf l s) = rate-nodes c env l.node

  pub all-rates-nodes : (c : Context) (env : Environment) (es : Effects) → sum_by rate_nodes (all_rates_meant c env es) ≡ all_rates_size c es
  all-rates-nodes c env no_effects = refl
  all-rates-nodes c env (more_effects e es) =
      sum_by-append rate_nodes (rates_meant c env e) (all_rates_meant c env es) ∙ omega (arith, rates-nodes c env e, all-rates-nodes c env es)

-- ---- instances

pub instances-length : {X : Type 0} (c : Context) (make : Schema → Environment → X) (schemas : List Schema) → length (instances_of c make schemas) ≡ instances c schemas
instances-length c make schemas =
    length-flat_map (λ a. map (make a) (environments c a.params [])) schemas
    ∙ sum_by-equal (λ a. length (map (make a) (environments c a.params []))) (λ a. choices c a.params)
    (λ a. length-map (environments c a.params []) (make a) ∙ environments-length c a.params []) schemas

pub instances-nodes : {X : Type 0} (c : Context) (nodes : X → ℕ) (make : Schema → Environment → X) (size : Schema → ℕ)
    → ((a : Schema) (env : Environment) → nodes (make a env) ≡ size a) → (schemas : List Schema)
    → sum_by nodes (instances_of c make schemas) ≡ schemas_size c size schemas
instances-nodes c nodes make size h schemas =
    sum_by-flat_map nodes (λ a. map (make a) (environments c a.params [])) schemas
    ∙ sum_by-equal (λ a. sum_by nodes (map (make a) (environments c a.params []))) (λ a. choices c a.params * size a)
    (λ a. sum_by-map nodes (make a) (environments c a.params []) ∙ sum_by-same (λ env. nodes (make a env)) (size a) (h a) (environments c a.params [])
    ∙ ap (λ (n : ℕ). n * size a) (environments-length c a.params [])) schemas
