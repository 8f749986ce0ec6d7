-- The writes of processes for a whole step: without faults, where the process has none.
use Rattle.std.proofs.Common.{◌≡◌, Bool, true, false, not, ◌||◌, ◌&&◌, List, [], ◌∷◌, ◌++◌, map, refl, ap, sym, subst, ◌∙◌, All, nat_eq}
use Rattle.std.specs.Prelude.{unsigned_abs, if◌then◌else◌}
use Rattle.std.specs.List.{AllByRecursion}
use Rattle.std.proofs.lemmas.List.Elements.{All-head, All-tail}
use Rattle.plus_fraction.specs.Fraction.{Fraction}
use Rattle.plus_tree.specs.declared.terms.TypedName.{TypedName}
use Rattle.plus_tree.specs.declared.terms.Use.{Use}
use Rattle.plus_tree.specs.declared.trees.Leaf.{Leaf}
use Rattle.plus_tree.specs.declared.trees.LeafNode.{LeafNode}
use Rattle.plus_tree.specs.declared.trees.LeafNode.TheVariants.{Add, Delete, Assign, Increase, Decrease, ScaleUp, ScaleDown}
use Rattle.plus_tree.specs.declared.trees.Schema.{Schema}
use Rattle.plus_tree.specs.Expr.{Expr, Exprs, x_number, x_clock, x_fluent, x_sum, x_product, x_minus, x_difference, x_quotient, no_exprs, more_exprs}
use Rattle.plus_tree.specs.Effect.{e_when}
use Rattle.plus_types.specs.declared.faults.Wrong.TheVariants.{RateForm}
use Rattle.plus_types.specs.Types.{Binding, bindings_of, bound_names}
use Rattle.plus_types.specs.Faults.{Context, fault_where, use_faults, expr_faults, exprs_faults, cond_faults, has_clock, have_clock, is_clock, are_clock_and_rate, is_rate_amount, is_rate, number_faults, write_faults, leaf_faults, effect_faults}
use Rattle.plus_types.proofs.SoundLemmas.{left-none, right-none}
use Rattle.plus_translation.specs.Renamed.{nowhere}
use Rattle.plus_translation.specs.Leaves.{over_effect, nested, Placed}
use Rattle.plus_translation.specs.Translated.{natural, leaf, length_of_step, flow_factor, flow_amount, flow_node}
use Rattle.laws_translation.specs.Typed.Laws.{AreApart}
use Rattle.laws_translation.proofs.TypedLemmas.Listed.{both_none, rule_kept, not_false, ListTyped}
use Rattle.laws_translation.proofs.TypedLemmas.Wider.{Declares, write_wider, cond_wider}
use Rattle.laws_translation.proofs.TypedLemmas.Nested.{over_effect_typed, NestTyped, nested_typed, bindings_all, wider_behind, wider_same, PlacedTyped, apart_out}

not_true : (b : Bool) → not b ≡ true → b ≡ false
not_true true e = cc
not_true false e = refl

and_right : (a b : Bool) → (a && b) ≡ true → b ≡ true
and_right true b e = e
and_right false b e = cc

either_false : (a b : Bool) → (a || b) ≡ false → (a ≡ false) × (b ≡ false)
either_false true b e = absurd cc
either_false false b e = (refl, e)

-- where no `#t` stands, none may stand
mutual
  no_clock : (c : Context) (vars : List Binding) (e : Expr) → has_clock e ≡ false → expr_faults c vars true e ≡ [] → expr_faults c vars false e ≡ []
  no_clock c vars (x_number n s) h f = refl
  no_clock c vars (x_clock s) h f = absurd cc
  no_clock c vars (x_fluent u s) h f = f
  no_clock c vars (x_sum es s) h f = no_clocks c vars es h f
  no_clock c vars (x_product es s) h f = no_clocks c vars es h f
  no_clock c vars (x_minus e s) h f = no_clock c vars e h f
  no_clock c vars (x_difference e g s) h f =
      let b = either_false (has_clock e) (has_clock g) h in
      both_none (expr_faults c vars false e) _ (no_clock c vars e b.0 (left-none (expr_faults c vars true e) _ f)) (no_clock c vars g b.1 (right-none (expr_faults c vars true e) _ f))
  no_clock c vars (x_quotient e g s) h f =
      let b = either_false (has_clock e) (has_clock g) h in
      both_none (expr_faults c vars false e) _ (no_clock c vars e b.0 (left-none (expr_faults c vars true e) _ f)) (no_clock c vars g b.1 (right-none (expr_faults c vars true e) _ f))

  no_clocks : (c : Context) (vars : List Binding) (es : Exprs) → have_clock es ≡ false → exprs_faults c vars true es ≡ [] → exprs_faults c vars false es ≡ []
  no_clocks c vars no_exprs h f = refl
  no_clocks c vars (more_exprs e es) h f =
      let b = either_false (has_clock e) (have_clock es) h in
      both_none (expr_faults c vars false e) _ (no_clock c vars e b.0 (left-none (expr_faults c vars true e) _ f)) (no_clocks c vars es b.1 (right-none (expr_faults c vars true e) _ f))

pub step_typed : (q : Fraction) (c : Context) (vars : List Binding) → expr_faults c vars false (length_of_step q) ≡ []
step_typed q c vars = by (nat_eq q.bottom 1)
  where
    by : (b : Bool) → expr_faults c vars false (if b then x_number (natural (unsigned_abs q.top)) nowhere else x_quotient (x_number (natural (unsigned_abs q.top)) nowhere) (x_number (natural q.bottom) nowhere) nowhere) ≡ []
    by true = refl
    by false = refl

clock_there : (e : Expr) → is_clock e ≡ true → has_clock e ≡ true
clock_there (x_number n s) h = h
clock_there (x_clock s) h = refl
clock_there (x_fluent u s) h = h
clock_there (x_sum es s) h = absurd cc
clock_there (x_product es s) h = absurd cc
clock_there (x_minus e s) h = absurd cc
clock_there (x_difference e f s) h = absurd cc
clock_there (x_quotient e f s) h = absurd cc

module _ (q : Fraction) (c : Context) (vars : List Binding) where
  abbrev Q : Expr
  Q = length_of_step q

  -- of `#t` and e the other
  chosen : (e f : Expr) → are_clock_and_rate (more_exprs e (more_exprs f no_exprs)) ≡ true → expr_faults c vars true e ≡ [] → expr_faults c vars true f ≡ [] → expr_faults c vars false (if is_clock e then f else e) ≡ []
  chosen e f a g h = by (is_clock e) refl
    where
      second : (x y z w : Bool) → ((x && not y) || (z && not w)) ≡ true → x ≡ true → w ≡ true → y ≡ false
      second true true z true a e1 e2 = absurd (and_false z a)
        where
          and_false : (z : Bool) → (z && false) ≡ true → ⊥
          and_false true e = cc
          and_false false e = cc
      second true true z false a e1 e2 = absurd cc
      second true false z w a e1 e2 = refl
      second false y z w a e1 e2 = absurd cc

      first : (x y z w : Bool) → ((x && not y) || (z && not w)) ≡ true → x ≡ false → w ≡ false
      first true y z w a e1 = absurd cc
      first false y z w a e1 = not_true w (and_right z (not w) a)

      by : (b : Bool) → is_clock e ≡ b → expr_faults c vars false (if is_clock e then f else e) ≡ []
      by true k = ap (λ (b : Bool). expr_faults c vars false (if b then f else e)) k ∙ no_clock c vars f (second (is_clock e) (has_clock f) (is_clock f) (has_clock e) a k (clock_there e k)) h
      by false k = ap (λ (b : Bool). expr_faults c vars false (if b then f else e)) k ∙ no_clock c vars e (first (is_clock e) (has_clock f) (is_clock f) (has_clock e) a k) g

  factor_typed : (es : Exprs) → are_clock_and_rate es ≡ true → exprs_faults c vars true es ≡ [] → expr_faults c vars false (flow_factor Q es) ≡ []
  factor_typed no_exprs a f = absurd cc
  factor_typed (more_exprs e no_exprs) a f = absurd cc
  factor_typed (more_exprs e (more_exprs g no_exprs)) a f =
      let rest : exprs_faults c vars true (more_exprs g no_exprs) ≡ [] = right-none (expr_faults c vars true e) _ f in
      both_none (expr_faults c vars false Q) _ (step_typed q c vars)
      (both_none (expr_faults c vars false (if is_clock e then g else e)) [] (chosen e g a (left-none (expr_faults c vars true e) _ f) (left-none (expr_faults c vars true g) _ rest)) refl)
  factor_typed (more_exprs e (more_exprs g (more_exprs h es))) a f = absurd cc

  amount_typed : (e : Expr) → is_rate_amount e ≡ true → expr_faults c vars true e ≡ [] → expr_faults c vars false (flow_amount Q e) ≡ []
  amount_typed (x_number n s) a f = step_typed q c vars
  amount_typed (x_clock s) a f = step_typed q c vars
  amount_typed (x_fluent u s) a f = step_typed q c vars
  amount_typed (x_sum es s) a f = step_typed q c vars
  amount_typed (x_product es s) a f = factor_typed es a f
  amount_typed (x_minus e s) a f = step_typed q c vars
  amount_typed (x_difference e g s) a f = step_typed q c vars
  amount_typed (x_quotient e g s) a f = step_typed q c vars

  number_typed : (u : Use) (e : Expr) → is_rate_amount e ≡ true → number_faults c vars true u e ≡ [] → number_faults c vars false u (flow_amount Q e) ≡ []
  number_typed u e a f = both_none (use_faults c vars c.functions u) _ (left-none (use_faults c vars c.functions u) _ f) (amount_typed e a (right-none (use_faults c vars c.functions u) _ f))

  -- a rate, for the whole step
  pub flow_typed : (l : Leaf) → leaf_faults c vars true l ≡ [] → leaf_faults c vars false (leaf (flow_node Q l.node)) ≡ []
  unfolding leaf_faults
  flow_typed l f =
      by l.node (not_false (is_rate l.node) (rule_kept (not (is_rate l.node)) RateForm c.file l.span (left-none (fault_where (not (is_rate l.node)) RateForm c.file l.span) _ f)))
      (right-none (fault_where (not (is_rate l.node)) RateForm c.file l.span) _ f)
    where
      by : (x : LeafNode) → is_rate x ≡ true → write_faults c vars true x ≡ [] → write_faults c vars false (flow_node Q x) ≡ []
      by (Add u) r f = absurd cc
      by (Delete u) r f = absurd cc
      by (Assign u e) r f = absurd cc
      by (Increase u e) r f = number_typed u e r f
      by (Decrease u e) r f = number_typed u e r f
      by (ScaleUp u e) r f = absurd cc
      by (ScaleDown u e) r f = absurd cc

-- ---- all writes of a process

nest_moved : (types types' vars : List Binding) (lists : List (List TypedName)) → types' ≡ types → NestTyped types vars lists → NestTyped types' vars lists
nest_moved types types' vars lists e t = subst (λ ts. NestTyped ts vars lists) (sym e) t

module _ (q : Fraction) (c c' : Context) (w : Declares c c') where
  rate_wider : (vars : List Binding) (l : Leaf) → leaf_faults c vars true l ≡ [] → leaf_faults c' vars false (leaf (flow_node (length_of_step q) l.node)) ≡ []
  unfolding leaf_faults
  rate_wider vars l f = write_wider c c' w [] vars vars (wider_same vars) false (flow_node (length_of_step q) l.node) (flow_typed q c vars l f)

  pub placed_flows : (a : Schema) (ps : List Placed) → ListTyped c.types [] a.params → cond_faults c (bindings_of a.params) a.condition ≡ [] → All (λ (p : Placed). All (AreApart a.condition) p.lists) ps
      → AllByRecursion (PlacedTyped c (bindings_of a.params) true) ps
      → AllByRecursion (λ e. effect_faults c' [] false e ≡ []) (map (λ p. over_effect a.params (nested p.lists (e_when a.condition (leaf (flow_node (length_of_step q) p.leaf.node) ∷ []) nowhere))) ps)
  placed_flows a [] t f n b = tt
  placed_flows a (p ∷ ps) t f n b =
      let vars = bindings_of a.params in
      let all = vars ++ bindings_all p.lists in
      let apart = All-head (λ (p : Placed). All (AreApart a.condition) p.lists) p ps n in
      let condition : cond_faults c' all a.condition ≡ [] = cond_wider c c' w (bound_names (bindings_all p.lists)) vars all (wider_behind vars (bindings_all p.lists)) a.condition (apart_out a.condition p.lists apart) f in
      let write : leaf_faults c' all false (leaf (flow_node (length_of_step q) p.leaf.node)) ≡ [] = rate_wider all p.leaf b.0.write in
      let inner : effect_faults c' all false (e_when a.condition (leaf (flow_node (length_of_step q) p.leaf.node) ∷ []) nowhere) ≡ [] =
      both_none (cond_faults c' all a.condition) _ condition (both_none (leaf_faults c' all false (leaf (flow_node (length_of_step q) p.leaf.node))) [] write refl) in (
        over_effect_typed c' [] a.params _ (subst (λ ts. ListTyped ts [] a.params) (sym w.types) t) (nested_typed c' vars p.lists _ (nest_moved c.types c'.types vars p.lists w.types b.0.lists) inner),
        placed_flows a ps t f (All-tail (λ (p : Placed). All (AreApart a.condition) p.lists) p ps n) b.1,
      )
