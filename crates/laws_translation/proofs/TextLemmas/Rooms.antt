-- The canonical text of a good tree reads again, where there is room for its depth.
use Rattle.std.proofs.Common.{◌≡◌, ℕ, suc, ◌+◌, List, [], ◌∷◌, subst, arith}
use Rattle.plus_tokens.specs.declared.span.Span.{Span}
use Rattle.plus_tree.specs.declared.names.Spelled.{Spelled}
use Rattle.plus_tree.specs.declared.terms.Term.{Term}
use Rattle.plus_tree.specs.declared.terms.Term.TheVariants.{Object, Variable}
use Rattle.plus_tree.specs.declared.terms.TypedName.{TypedName}
use Rattle.plus_tree.specs.declared.terms.Use.{Use}
use Rattle.plus_tree.specs.declared.trees.Leaf.{Leaf}
use Rattle.plus_tree.specs.declared.trees.LeafNode.{LeafNode}
use Rattle.plus_tree.specs.declared.trees.LeafNode.TheVariants.{Add, Delete, Assign, Increase, Decrease, ScaleUp, ScaleDown}
use Rattle.plus_tree.specs.declared.trees.Head.{Head}
use Rattle.plus_tree.specs.declared.trees.Schema.{Schema}
use Rattle.plus_tree.specs.declared.trees.Domain.{Domain}
use Rattle.plus_tree.specs.declared.trees.Init.{Init}
use Rattle.plus_tree.specs.declared.trees.Init.TheVariants.{Holds, Absent, Value, At, AtNot}
use Rattle.plus_tree.specs.declared.trees.Problem.{Problem}
use Rattle.plus_tree.specs.Expr.{Expr, Exprs, x_number, x_clock, x_fluent, x_sum, x_product, x_minus, x_difference, x_quotient, no_exprs, more_exprs}
use Rattle.plus_tree.specs.Cond.{Cond, Conds, c_all, c_any, c_not, c_imply, c_forall, c_exists, c_atom, c_same, c_compare, no_conds, more_conds}
use Rattle.plus_tree.specs.Effect.{Effect, Effects, e_all, e_forall, e_when, e_leaf, no_effects, more_effects}
use Rattle.plus_parser.specs.declared.phrases.words.Allowed.{Allowed}
use Rattle.plus_parser.specs.declared.phrases.words.Allowed.TheVariants.{Terms, Names}
use Rattle.plus_parser.specs.SpellsDomain.{Spells}
use Rattle.plus_parser.specs.SpellsProblem.{SpellsProblem}
use Rattle.plus_printer.specs.Canon.{leaf_text, domain_text, problem_text}
use Rattle.plus_canonical.specs.Same.{SameDomain, SameProblem}
use Rattle.plus_canonical.proofs.Smalls.{IsSmall}
use Rattle.plus_canonical.proofs.Forms.{AllOf}
use Rattle.plus_canonical.proofs.Fronts.{whole_reads}
use Rattle.plus_canonical.proofs.Terms.{PlainName, TermAgain, object_again, variable_again, UseAgain, use_reads}
use Rattle.plus_canonical.proofs.Lists.{SmallTyped, VariablesAgain, variables_reads}
use Rattle.plus_canonical.proofs.Literals.{literal_again}
use Rattle.plus_canonical.proofs.Exprs as exprs
use Rattle.plus_canonical.proofs.Exprs.{ExprAgain, ExprsAgain}
use Rattle.plus_canonical.proofs.Conds as conds
use Rattle.plus_canonical.proofs.Conds.{CondAgain, CondsAgain}
use Rattle.plus_canonical.proofs.Effects as effects
use Rattle.plus_canonical.proofs.Effects.{LeafAgain, NodeAgain, LeavesAgain, EffectAgain, EffectsAgain}
use Rattle.plus_canonical.proofs.Heads.{HeadAgain, head_again_of}
use Rattle.plus_canonical.proofs.Schemas.{GoodSchema}
use Rattle.plus_canonical.proofs.Inits as inits
use Rattle.plus_canonical.proofs.Inits.{InitAgain, AbsentAgain}
use Rattle.plus_canonical.proofs.Sections.{RequirementAgain, requirement_reads}
use Rattle.plus_canonical.proofs.GoodDomains.{GoodDomain}
use Rattle.plus_canonical.proofs.GoodProblems.{GoodProblem}
use Rattle.plus_canonical.proofs.Domains.{domain_reads}
use Rattle.plus_canonical.proofs.Problems.{problem_reads}
use Rattle.laws_translation.proofs.TextLemmas.Good.{GoodTerm, GoodUse, GoodExpr, GoodExprs, GoodCond, GoodConds, GoodNode, GoodLeaf, GoodEffect, GoodEffects, GoodInit}

-- from some room on
abbrev pub InRoom : (ℕ → Type 0) → Type 0
InRoom P = (n : ℕ) × ((m : ℕ) → P (n + m))

same_room : (P Q : ℕ → Type 0) → ((m : ℕ) → P m → Q m) → InRoom P → InRoom Q
same_room P Q f (n, h) = (n, λ m. f (n + m) (h m))

more_room : (P Q : ℕ → Type 0) → ((m : ℕ) → P m → Q (suc m)) → InRoom P → InRoom Q
more_room P Q f (n, h) = (suc n, λ m. let e : suc (n + m) ≡ suc n + m = omega arith in subst Q e (f (n + m) (h m)))

less_room : (P : ℕ → Type 0) → InRoom P → InRoom (λ m. P (suc m))
less_room P (n, h) = (n, λ m. let e : n + suc m ≡ suc (n + m) = omega arith in subst P e (h (suc m)))

both_rooms : (P Q R : ℕ → Type 0) → ((m : ℕ) → P m → Q m → R m) → InRoom P → InRoom Q → InRoom R
both_rooms P Q R f (n, h) (k, j) = (
  n + k,
  λ m.
      let e : n + (k + m) ≡ n + k + m = omega arith in
      let d : k + (n + m) ≡ n + k + m = omega arith in
      f (n + k + m) (subst P e (h (k + m))) (subst Q d (j (n + m))),
)

both_more : (P Q R : ℕ → Type 0) → ((m : ℕ) → P m → Q m → R (suc m)) → InRoom P → InRoom Q → InRoom R
both_more P Q R f p q = more_room (λ m. P m × Q m) R (λ m h. f m h.0 h.1) (both_rooms P Q (λ m. P m × Q m) (λ m x y. (x, y)) p q)

any_room : (P : ℕ → Type 0) → ((m : ℕ) → P m) → InRoom P
any_room P h = (0, λ m. h (0 + m))

some_room : (P : ℕ → Type 0) → ((m : ℕ) → P (suc m)) → InRoom P
some_room P h = (1, λ m. let e : suc m ≡ 1 + m = omega arith in subst P e (h m))

pub all_rooms : (X : Type 0) (P : ℕ → X → Type 0) (G : X → Type 0) → ((x : X) → G x → InRoom (λ n. P n x)) → (xs : List X) → AllOf G xs → InRoom (λ n. AllOf (P n) xs)
all_rooms X P G f [] g = any_room (λ n. Unit {0}) (λ m. tt)
all_rooms X P G f (x ∷ xs) g = both_rooms (λ n. P n x) (λ n. AllOf (P n) xs) (λ n. P n x × AllOf (P n) xs) (λ m a b. (a, b)) (f x g.0) (all_rooms X P G f xs g.1)

-- ---- uses and expressions

pub term_reads : (n : ℕ) (allowed : Allowed) (t : Term) → GoodTerm allowed t → TermAgain n allowed t
term_reads n allowed (Object x) g = object_again n allowed x g.0 g.1
term_reads n allowed (Variable x) g = variable_again n allowed x g.0 g.1

pub args_read : (n : ℕ) (allowed : Allowed) (ts : List Term) → AllOf (GoodTerm allowed) ts → AllOf (TermAgain n allowed) ts
args_read n allowed [] g = tt
args_read n allowed (t ∷ ts) g = (term_reads n allowed t g.0, args_read n allowed ts g.1)

pub use_room : (allowed : Allowed) (u : Use) → GoodUse allowed u → InRoom (λ n. UseAgain n allowed u)
use_room allowed u g = some_room (λ n. UseAgain n allowed u) (λ m. use_reads m allowed u g.head (args_read m allowed u.args g.args))

variables_room : (vs : List TypedName) → AllOf SmallTyped vs → InRoom (λ n. VariablesAgain n vs)
variables_room vs g = some_room (λ n. VariablesAgain n vs) (λ m. variables_reads m vs g)

mutual
  pub expr_room : (e : Expr) → GoodExpr e → InRoom (λ n. ExprAgain n e)
  expr_room (x_number n s) g = any_room (λ m. ExprAgain m (x_number n s)) (λ m. exprs.number_reads m n s (literal_again m n g))
  expr_room (x_clock s) g = any_room (λ m. ExprAgain m (x_clock s)) (λ m. exprs.clock_again m s)
  expr_room (x_fluent u s) g = same_room (λ m. UseAgain m Terms u) (λ m. ExprAgain m (x_fluent u s)) (λ m r. exprs.fluent_again m u s r) (use_room Terms u g)
  expr_room (x_sum es s) g = more_room (λ m. ExprsAgain m es) (λ m. ExprAgain m (x_sum es s)) (λ m r. exprs.sum_again m es s g.0 r) (exprs_room es g.1)
  expr_room (x_product es s) g = more_room (λ m. ExprsAgain m es) (λ m. ExprAgain m (x_product es s)) (λ m r. exprs.product_again m es s g.0 r) (exprs_room es g.1)
  expr_room (x_minus e s) g = more_room (λ m. ExprAgain m e) (λ m. ExprAgain m (x_minus e s)) (λ m r. exprs.minus_again m e s r) (expr_room e g)
  expr_room (x_difference e f s) g =
      both_more (λ m. ExprAgain m e) (λ m. ExprAgain m f) (λ m. ExprAgain m (x_difference e f s)) (λ m x y. exprs.difference_again m e f s x y) (expr_room e g.0) (expr_room f g.1)
  expr_room (x_quotient e f s) g =
      both_more (λ m. ExprAgain m e) (λ m. ExprAgain m f) (λ m. ExprAgain m (x_quotient e f s)) (λ m x y. exprs.quotient_again m e f s x y) (expr_room e g.0) (expr_room f g.1)

  pub exprs_room : (es : Exprs) → GoodExprs es → InRoom (λ n. ExprsAgain n es)
  exprs_room no_exprs g = any_room (λ m. ExprsAgain m no_exprs) (λ m. exprs.none_again m)
  exprs_room (more_exprs e es) g =
      both_rooms (λ m. ExprAgain m e) (λ m. ExprsAgain m es) (λ m. ExprsAgain m (more_exprs e es)) (λ m x y. exprs.more_again m e es x y) (expr_room e g.0) (exprs_room es g.1)

-- ---- conditions

mutual
  pub cond_room : (c : Cond) → GoodCond c → InRoom (λ n. CondAgain n c)
  cond_room (c_all cs s) g = more_room (λ m. CondsAgain m cs) (λ m. CondAgain m (c_all cs s)) (λ m r. conds.all_again m cs s r) (conds_room cs g)
  cond_room (c_any cs s) g = more_room (λ m. CondsAgain m cs) (λ m. CondAgain m (c_any cs s)) (λ m r. conds.any_again m cs s r) (conds_room cs g)
  cond_room (c_not c s) g = more_room (λ m. CondAgain m c) (λ m. CondAgain m (c_not c s)) (λ m r. conds.not_again m c s r) (cond_room c g)
  cond_room (c_imply c d s) g =
      both_more (λ m. CondAgain m c) (λ m. CondAgain m d) (λ m. CondAgain m (c_imply c d s)) (λ m x y. conds.imply_again m c d s x y) (cond_room c g.0) (cond_room d g.1)
  cond_room (c_forall vs c s) g =
      both_more (λ m. VariablesAgain m vs) (λ m. CondAgain m c) (λ m. CondAgain m (c_forall vs c s)) (λ m x y. conds.forall_again m vs c s x y) (variables_room vs g.0) (cond_room c g.1)
  cond_room (c_exists vs c s) g =
      both_more (λ m. VariablesAgain m vs) (λ m. CondAgain m c) (λ m. CondAgain m (c_exists vs c s)) (λ m x y. conds.exists_again m vs c s x y) (variables_room vs g.0) (cond_room c g.1)
  cond_room (c_atom u s) g = same_room (λ m. UseAgain m Terms u) (λ m. CondAgain m (c_atom u s)) (λ m r. conds.atom_again m u s r) (use_room Terms u g)
  cond_room (c_same t u s) g = some_room (λ m. CondAgain m (c_same t u s)) (λ m. conds.same_again m t u s (term_reads m Terms t g.0) (term_reads m Terms u g.1))
  cond_room (c_compare op e f s) g =
      both_more (λ m. ExprAgain m e) (λ m. ExprAgain m f) (λ m. CondAgain m (c_compare op e f s)) (λ m x y. conds.compare_again m op e f s x y) (expr_room e g.0) (expr_room f g.1)

  pub conds_room : (cs : Conds) → GoodConds cs → InRoom (λ n. CondsAgain n cs)
  conds_room no_conds g = any_room (λ m. CondsAgain m no_conds) (λ m. conds.none_again m)
  conds_room (more_conds c cs) g =
      both_rooms (λ m. CondAgain m c) (λ m. CondsAgain m cs) (λ m. CondsAgain m (more_conds c cs)) (λ m x y. conds.more_again m c cs x y) (cond_room c g.0) (conds_room cs g.1)

-- ---- effects

node_room : (x : LeafNode) (s : Span) → GoodNode x → InRoom (λ n. NodeAgain n x s)
node_room (Add u) s g = same_room (λ m. UseAgain m Terms u) (λ m. NodeAgain m (Add u) s) (λ m r. effects.add_again m u s r) (use_room Terms u g)
node_room (Delete u) s g = more_room (λ m. UseAgain m Terms u) (λ m. NodeAgain m (Delete u) s) (λ m r. effects.delete_again m u s r) (use_room Terms u g)
node_room (Assign u e) s g =
    both_more (λ m. UseAgain m Terms u) (λ m. ExprAgain m e) (λ m. NodeAgain m (Assign u e) s) (λ m x y. effects.assign_again m u e s x y) (use_room Terms u g.0) (expr_room e g.1)
node_room (Increase u e) s g =
    both_more (λ m. UseAgain m Terms u) (λ m. ExprAgain m e) (λ m. NodeAgain m (Increase u e) s) (λ m x y. effects.increase_again m u e s x y) (use_room Terms u g.0) (expr_room e g.1)
node_room (Decrease u e) s g =
    both_more (λ m. UseAgain m Terms u) (λ m. ExprAgain m e) (λ m. NodeAgain m (Decrease u e) s) (λ m x y. effects.decrease_again m u e s x y) (use_room Terms u g.0) (expr_room e g.1)
node_room (ScaleUp u e) s g =
    both_more (λ m. UseAgain m Terms u) (λ m. ExprAgain m e) (λ m. NodeAgain m (ScaleUp u e) s) (λ m x y. effects.scale_up_again m u e s x y) (use_room Terms u g.0) (expr_room e g.1)
node_room (ScaleDown u e) s g =
    both_more (λ m. UseAgain m Terms u) (λ m. ExprAgain m e) (λ m. NodeAgain m (ScaleDown u e) s) (λ m x y. effects.scale_down_again m u e s x y) (use_room Terms u g.0) (expr_room e g.1)

leaf_room : (x : Leaf) → GoodLeaf x → InRoom (λ n. LeafAgain n x)
unfolding leaf_text
leaf_room x g = node_room x.node x.span g

leaves_room : (ls : List Leaf) → AllOf GoodLeaf ls → InRoom (λ n. LeavesAgain n ls)
leaves_room ls g = more_room (λ m. AllOf (LeafAgain m) ls) (λ m. LeavesAgain m ls) (λ m r. effects.leaves_reads m ls r) (all_rooms Leaf LeafAgain GoodLeaf leaf_room ls g)

mutual
  pub effect_room : (e : Effect) → GoodEffect e → InRoom (λ n. EffectAgain n e)
  effect_room (e_all es s) g = more_room (λ m. EffectsAgain m es) (λ m. EffectAgain m (e_all es s)) (λ m r. effects.all_again m es s r) (effects_room es g)
  effect_room (e_forall vs e s) g =
      both_more (λ m. VariablesAgain m vs) (λ m. EffectAgain m e) (λ m. EffectAgain m (e_forall vs e s)) (λ m x y. effects.forall_again m vs e s x y) (variables_room vs g.0) (effect_room e g.1)
  effect_room (e_when c ls s) g =
      both_more (λ m. CondAgain m c) (λ m. LeavesAgain m ls) (λ m. EffectAgain m (e_when c ls s)) (λ m x y. effects.when_again m c ls s x y) (cond_room c g.0) (leaves_room ls g.1)
  effect_room (e_leaf x s) g = same_room (λ m. LeafAgain m x) (λ m. EffectAgain m (e_leaf x s)) (λ m r. effects.one_again m x s r) (leaf_room x g)

  pub effects_room : (es : Effects) → GoodEffects es → InRoom (λ n. EffectsAgain n es)
  effects_room no_effects g = any_room (λ m. EffectsAgain m no_effects) (λ m. effects.none_again m)
  effects_room (more_effects e es) g =
      both_rooms (λ m. EffectAgain m e) (λ m. EffectsAgain m es) (λ m. EffectsAgain m (more_effects e es)) (λ m x y. effects.more_again m e es x y) (effect_room e g.0) (effects_room es g.1)

-- ---- members of `:init`

absent_room : (allowed : Allowed) (u : Use) → GoodUse allowed u → InRoom (λ n. AbsentAgain n allowed u)
absent_room allowed u g = more_room (λ m. UseAgain m allowed u) (λ m. AbsentAgain m allowed u) (λ m r. inits.not_again m allowed u r) (use_room allowed u g)

init_room : (x : Init) → GoodInit x → InRoom (λ n. InitAgain n x)
init_room (Holds u) g = same_room (λ m. UseAgain m Names u) (λ m. InitAgain m (Holds u)) (λ m r. inits.holds_again m u r) (use_room Names u g)
init_room (Absent u s) g = same_room (λ m. AbsentAgain m Names u) (λ m. InitAgain m (Absent u s)) (λ m r. inits.false_again m u s r) (absent_room Names u g)
init_room (Value u n s) g = more_room (λ m. UseAgain m Names u) (λ m. InitAgain m (Value u n s)) (λ m r. inits.value_again m u n s r g.1) (use_room Names u g.0)
init_room (At t u s) g = more_room (λ m. UseAgain m Terms u) (λ m. InitAgain m (At t u s)) (λ m r. inits.at_again m t u s g.0 r) (use_room Terms u g.1)
init_room (AtNot t u s) g = more_room (λ m. AbsentAgain m Terms u) (λ m. InitAgain m (AtNot t u s)) (λ m r. inits.at_not_again m t u s g.0 r) (absent_room Terms u g.1)

-- ---- schemas, domains and problems

pub record GoodHead (h : Head) : Type 0 where
  pub name : PlainName h.name.name
  pub params : AllOf SmallTyped h.params

pub record GoodRule (a : Schema) : Type 0 where
  pub name : IsSmall a.name.name
  pub params : AllOf SmallTyped a.params
  pub condition : GoodCond a.condition
  pub effect : GoodEffect a.effect

abbrev pub SmallSpelled : Spelled → Type 0
SmallSpelled x = IsSmall x.name

pub record GoodTree (d : Domain) : Type 0 where
  pub name : IsSmall d.name.name
  pub requirements : AllOf SmallSpelled d.requirements
  pub types : AllOf SmallTyped d.types
  pub constants : AllOf SmallTyped d.constants
  pub predicates : AllOf GoodHead d.predicates
  pub functions : AllOf GoodHead d.functions
  pub actions : AllOf GoodRule d.actions
  pub processes : AllOf GoodRule d.processes
  pub events : AllOf GoodRule d.events

pub record GoodTask (p : Problem) : Type 0 where
  pub name : IsSmall p.name.name
  pub domain : IsSmall p.domain.name
  pub requirements : AllOf SmallSpelled p.requirements
  pub objects : AllOf SmallTyped p.objects
  pub init : AllOf GoodInit p.init
  pub goal : GoodCond p.goal

requirement_room : (x : Spelled) → IsSmall x.name → InRoom (λ n. RequirementAgain n x)
requirement_room x g = any_room (λ n. RequirementAgain n x) (λ m. requirement_reads m x g)

head_room : (h : Head) → GoodHead h → InRoom (λ n. HeadAgain n h)
head_room h g = some_room (λ n. HeadAgain n h) (λ m. head_again_of m h g.name g.params)

schema_room : (a : Schema) → GoodRule a → InRoom (λ k. GoodSchema k a)
schema_room a g =
    less_both (λ n. CondAgain n a.condition) (λ n. EffectAgain n a.effect) (λ k. GoodSchema k a)
    (λ m c e. record { name = g.name; params = g.params; condition = c; effect = e }) (cond_room a.condition g.condition) (effect_room a.effect g.effect)
  where
    less_both : (P Q R : ℕ → Type 0) → ((m : ℕ) → P (suc m) → Q (suc m) → R m) → InRoom P → InRoom Q → InRoom R
    less_both P Q R f p q = both_rooms (λ m. P (suc m)) (λ m. Q (suc m)) R f (less_room P p) (less_room Q q)

-- with room for all, one after the other
pub tree_room : (d : Domain) → GoodTree d → InRoom (λ k. GoodDomain k d)
tree_room d g =
    let requirements = less_room (λ n. AllOf (RequirementAgain n) d.requirements) (all_rooms Spelled RequirementAgain SmallSpelled requirement_room d.requirements g.requirements) in
    let predicates = less_room (λ n. AllOf (HeadAgain n) d.predicates) (all_rooms Head HeadAgain GoodHead head_room d.predicates g.predicates) in
    let functions = less_room (λ n. AllOf (HeadAgain n) d.functions) (all_rooms Head HeadAgain GoodHead head_room d.functions g.functions) in
    let actions = all_rooms Schema GoodSchema GoodRule schema_room d.actions g.actions in
    let processes = all_rooms Schema GoodSchema GoodRule schema_room d.processes g.processes in
    let events = all_rooms Schema GoodSchema GoodRule schema_room d.events g.events in
    let R : ℕ → Type 0 = λ k. AllOf (RequirementAgain (suc k)) d.requirements in
    let P : ℕ → Type 0 = λ k. AllOf (HeadAgain (suc k)) d.predicates in
    let F : ℕ → Type 0 = λ k. AllOf (HeadAgain (suc k)) d.functions in
    let A : ℕ → Type 0 = λ k. AllOf (GoodSchema k) d.actions in
    let B : ℕ → Type 0 = λ k. AllOf (GoodSchema k) d.processes in
    let C : ℕ → Type 0 = λ k. AllOf (GoodSchema k) d.events in
    let bc = both_rooms B C (λ k. B k × C k) (λ m x y. (x, y)) processes events in
    let abc = both_rooms A (λ k. B k × C k) (λ k. A k × (B k × C k)) (λ m x y. (x, y)) actions bc in
    let pf = both_rooms P F (λ k. P k × F k) (λ m x y. (x, y)) predicates functions in
    let rpf = both_rooms R (λ k. P k × F k) (λ k. R k × (P k × F k)) (λ m x y. (x, y)) requirements pf in
    both_rooms (λ k. R k × (P k × F k)) (λ k. A k × (B k × C k)) (λ k. GoodDomain k d)
    (λ m x y. record {
      name = g.name;
      requirements = x.0;
      types = g.types;
      constants = g.constants;
      predicates = x.1.0;
      functions = x.1.1;
      actions = y.0;
      processes = y.1.0;
      events = y.1.1;
    }) rpf abc

pub task_room : (p : Problem) → GoodTask p → InRoom (λ m. GoodProblem m p)
task_room p g =
    let requirements = all_rooms Spelled RequirementAgain SmallSpelled requirement_room p.requirements g.requirements in
    let init = all_rooms Init InitAgain GoodInit init_room p.init g.init in
    let R : ℕ → Type 0 = λ k. AllOf (RequirementAgain k) p.requirements in
    let I : ℕ → Type 0 = λ k. AllOf (InitAgain k) p.init in
    let G : ℕ → Type 0 = λ k. CondAgain k p.goal in
    let ig = both_rooms I G (λ k. I k × G k) (λ m x y. (x, y)) init (cond_room p.goal g.goal) in
    both_rooms R (λ k. I k × G k) (λ k. GoodProblem k p)
    (λ m x y. record { name = g.name; domain = g.domain; requirements = x; objects = g.objects; init = y.0; goal = y.1 }) requirements ig

-- the canonical text of a good tree spells it, but for spans
pub tree_reads : (d : Domain) → GoodTree d → (again : Domain) × Spells (domain_text d) again × SameDomain d again
tree_reads d g =
    let r = tree_room d g in
    let k : ℕ = r.0 + 0 in
    let w = whole_reads (domain_text d) (domain_reads k d (r.1 0)) in
    (w.are.again, (w.ts, w.items, w.are.spelled), w.are.same)

pub task_reads : (p : Problem) → GoodTask p → (again : Problem) × SpellsProblem (problem_text p) again × SameProblem p again
task_reads p g =
    let r = task_room p g in
    let k : ℕ = r.0 + 0 in
    let w = whole_reads (problem_text p) (problem_reads k p (r.1 0)) in
    (w.are.again, (w.ts, w.items, w.are.spelled), w.are.same)
