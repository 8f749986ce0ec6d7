-- Trees whose names, numbers and forms a text may spell, whatever their places and depth; what a text spells is one.
use Rattle.std.proofs.Common.{◌≡◌, ◌∙◌, ℕ, true, List, [], ◌∷◌, ◌++◌, sym, ap, subst, inl, inr, ◌⊎◌}
use Rattle.std.specs.Prelude.{if◌then◌else◌}
use Rattle.plus_tokens.specs.declared.token.Kind.TheVariants as kinds
use Rattle.plus_tokens.specs.declared.span.Span.{Span}
use Rattle.plus_tree.specs.declared.names.Spelled.{Spelled}
use Rattle.plus_tree.specs.declared.terms.Term.{Term}
use Rattle.plus_tree.specs.declared.terms.Term.TheVariants.{Object, Variable}
use Rattle.plus_tree.specs.declared.terms.Use.{Use}
use Rattle.plus_tree.specs.declared.trees.Leaf.{Leaf}
use Rattle.plus_tree.specs.declared.trees.LeafNode.{LeafNode}
use Rattle.plus_tree.specs.declared.trees.LeafNode.TheVariants.{Add, Delete, Assign, Increase, Decrease, ScaleUp, ScaleDown}
use Rattle.plus_tree.specs.declared.trees.Init.{Init}
use Rattle.plus_tree.specs.declared.trees.Init.TheVariants.{Holds, Absent, Value, At, AtNot}
use Rattle.plus_tree.specs.Expr.{Expr, Exprs, x_number, x_clock, x_fluent, x_sum, x_product, x_minus, x_difference, x_quotient, no_exprs, more_exprs}
use Rattle.plus_tree.specs.Cond.{Cond, Conds, c_all, c_any, c_not, c_imply, c_forall, c_exists, c_atom, c_same, c_compare, no_conds, more_conds}
use Rattle.plus_tree.specs.Effect.{Effect, Effects, e_all, e_forall, e_when, e_leaf, no_effects, more_effects}
use Rattle.plus_parser.specs.declared.phrases.words.Allowed.{Allowed}
use Rattle.plus_parser.specs.declared.phrases.words.Allowed.TheVariants.{Terms, Names}
use Rattle.plus_tokens.specs.Items.{Piece}
use Rattle.plus_parser.specs.Phrases.Words.{is_allowed, is_variable}
use Rattle.plus_parser.specs.Phrases.Grammar.{spelled_of, bare_of}
use Rattle.plus_parser.specs.Phrases.Spells.{Wrapped, AreMany, SpellsArgument, SpellsUse, SpellsExpr, SpellsExprs}
use Rattle.plus_parser.specs.Forms.SpellsForms.{SpellsCond, SpellsConds, SpellsChange, SpellsLeafNode, SpellsLeaf, SpellsSimple, SpellsEffect, SpellsEffects}
use Rattle.plus_parser.specs.SpellsProblem.{SpellsNot, SpellsInit}
use Rattle.plus_canonical.proofs.Smalls.{IsSmall, AreLexical, left, right, within, lexical_at, name_small, variable_small}
use Rattle.plus_canonical.proofs.Forms.{AllOf, chain_all}
use Rattle.plus_canonical.proofs.Terms.{allowed_kind, PlainName, plain_name}
use Rattle.plus_canonical.proofs.Lists.{SmallTyped, variables_small}
use Rattle.plus_canonical.proofs.Literals.{GoodLiteral, literal_good, GoodTime, time_good}

abbrev pub GoodTerm : Allowed → Term → Type 0
GoodTerm allowed (Object x) = (is_allowed allowed kinds.Name ≡ true) × IsSmall x.name
GoodTerm allowed (Variable x) = (is_allowed allowed kinds.Variable ≡ true) × IsSmall x.name

pub record GoodUse (allowed : Allowed) (u : Use) : Type 0 where
  pub head : PlainName u.head.name
  pub args : AllOf (GoodTerm allowed) u.args

abbrev mutual
  pub GoodExpr : Expr → Type 0
  GoodExpr (x_number n s) = GoodLiteral n
  GoodExpr (x_clock s) = Unit {0}
  GoodExpr (x_fluent u s) = GoodUse Terms u
  GoodExpr (x_sum es s) = AreMany es × GoodExprs es
  GoodExpr (x_product es s) = AreMany es × GoodExprs es
  GoodExpr (x_minus e s) = GoodExpr e
  GoodExpr (x_difference e f s) = GoodExpr e × GoodExpr f
  GoodExpr (x_quotient e f s) = GoodExpr e × GoodExpr f

  pub GoodExprs : Exprs → Type 0
  GoodExprs no_exprs = Unit {0}
  GoodExprs (more_exprs e es) = GoodExpr e × GoodExprs es

abbrev mutual
  pub GoodCond : Cond → Type 0
  GoodCond (c_all cs s) = GoodConds cs
  GoodCond (c_any cs s) = GoodConds cs
  GoodCond (c_not c s) = GoodCond c
  GoodCond (c_imply c d s) = GoodCond c × GoodCond d
  GoodCond (c_forall vs c s) = AllOf SmallTyped vs × GoodCond c
  GoodCond (c_exists vs c s) = AllOf SmallTyped vs × GoodCond c
  GoodCond (c_atom u s) = GoodUse Terms u
  GoodCond (c_same t u s) = GoodTerm Terms t × GoodTerm Terms u
  GoodCond (c_compare op e f s) = GoodExpr e × GoodExpr f

  pub GoodConds : Conds → Type 0
  GoodConds no_conds = Unit {0}
  GoodConds (more_conds c cs) = GoodCond c × GoodConds cs

abbrev pub GoodNode : LeafNode → Type 0
GoodNode (Add u) = GoodUse Terms u
GoodNode (Delete u) = GoodUse Terms u
GoodNode (Assign u e) = GoodUse Terms u × GoodExpr e
GoodNode (Increase u e) = GoodUse Terms u × GoodExpr e
GoodNode (Decrease u e) = GoodUse Terms u × GoodExpr e
GoodNode (ScaleUp u e) = GoodUse Terms u × GoodExpr e
GoodNode (ScaleDown u e) = GoodUse Terms u × GoodExpr e

abbrev pub GoodLeaf : Leaf → Type 0
GoodLeaf l = GoodNode l.node

abbrev mutual
  pub GoodEffect : Effect → Type 0
  GoodEffect (e_all es s) = GoodEffects es
  GoodEffect (e_forall vs e s) = AllOf SmallTyped vs × GoodEffect e
  GoodEffect (e_when c ls s) = GoodCond c × AllOf GoodLeaf ls
  GoodEffect (e_leaf l s) = GoodLeaf l

  pub GoodEffects : Effects → Type 0
  GoodEffects no_effects = Unit {0}
  GoodEffects (more_effects e es) = GoodEffect e × GoodEffects es

abbrev pub GoodInit : Init → Type 0
GoodInit (Holds u) = GoodUse Names u
GoodInit (Absent u s) = GoodUse Names u
GoodInit (Value u n s) = GoodUse Names u × GoodLiteral n
GoodInit (At t u s) = GoodTime t × GoodUse Terms u
GoodInit (AtNot t u s) = GoodTime t × GoodUse Terms u

-- ---- what a text spells

behind : (s : Span) (a : Piece) (inner ts : List Piece) → Wrapped s (a ∷ inner) ts → AreLexical ts → AreLexical inner
behind s a inner ts w l = let m : AreLexical (a ∷ inner) = within s (a ∷ inner) ts w l in m.1

pub term_good : (allowed : Allowed) (t : Term) (ts : List Piece) → AreLexical ts → SpellsArgument allowed t ts → GoodTerm allowed t
term_good allowed t ts l (p, ok, is, whole) = by (allowed_kind allowed p.kind ok) where
  lex : AreLexical (p ∷ [])
  lex = lexical_at ts (p ∷ []) whole l

  by : (p.kind ≡ kinds.Name) ⊎ (p.kind ≡ kinds.Variable) → GoodTerm allowed t
  by (inl m) =
      let e = ap (λ k. if is_variable k then Variable (bare_of p) else Object (spelled_of p)) m in
      subst (GoodTerm allowed) (sym (is ∙ e)) (sym (ap (is_allowed allowed) m) ∙ ok, name_small p lex.0 m)
  by (inr v) =
      let e = ap (λ k. if is_variable k then Variable (bare_of p) else Object (spelled_of p)) v in
      subst (GoodTerm allowed) (sym (is ∙ e)) (sym (ap (is_allowed allowed) v) ∙ ok, variable_small p lex.0 v)

pub use_good : (allowed : Allowed) (u : Use) (ts : List Piece) → AreLexical ts → SpellsUse allowed u ts → GoodUse allowed u
use_good allowed u ts l (a, inner, plain, wrapped, head, args) =
    let lex : AreLexical (a ∷ inner) = within u.span (a ∷ inner) ts wrapped l in
    record {
      head = subst PlainName (sym (ap (λ (x : Spelled). x.name) head)) (plain_name a lex.0 plain);
      args = chain_all Term (SpellsArgument allowed) (GoodTerm allowed) (term_good allowed) u.args inner lex.1 args;
    }

mutual
  pub expr_good : (e : Expr) (ts : List Piece) → AreLexical ts → SpellsExpr e ts → GoodExpr e
  expr_good (x_number n s) ts l (p, is, at, whole) = let lex : AreLexical (p ∷ []) = lexical_at ts (p ∷ []) whole l in literal_good p n lex.0 is
  expr_good (x_clock s) ts l c = tt
  expr_good (x_fluent u s) ts l (at, spelled) = use_good Terms u ts l spelled
  expr_good (x_sum es s) ts l (a, inner, sign, wrapped, many, spelled) = (many, exprs_good es inner (behind s a inner ts wrapped l) spelled)
  expr_good (x_product es s) ts l (a, inner, sign, wrapped, many, spelled) = (many, exprs_good es inner (behind s a inner ts wrapped l) spelled)
  expr_good (x_minus e s) ts l (a, inner, sign, wrapped, spelled) = expr_good e inner (behind s a inner ts wrapped l) spelled
  expr_good (x_difference e f s) ts l (a, front, back, sign, wrapped, one, two) =
      let m = behind s a (front ++ back) ts wrapped l in (expr_good e front (left front back m) one, expr_good f back (right front back m) two)
  expr_good (x_quotient e f s) ts l (a, front, back, sign, wrapped, one, two) =
      let m = behind s a (front ++ back) ts wrapped l in (expr_good e front (left front back m) one, expr_good f back (right front back m) two)

  pub exprs_good : (es : Exprs) (ts : List Piece) → AreLexical ts → SpellsExprs es ts → GoodExprs es
  exprs_good no_exprs ts l spelled = tt
  exprs_good (more_exprs e es) ts l (front, back, one, more, whole) =
      let m = lexical_at ts (front ++ back) whole l in (expr_good e front (left front back m) one, exprs_good es back (right front back m) more)

mutual
  pub cond_good : (c : Cond) (ts : List Piece) → AreLexical ts → SpellsCond c ts → GoodCond c
  cond_good (c_all cs s) ts l (body, wrapped, inl (none, empty)) = subst GoodConds (sym none) tt
  cond_good (c_all cs s) ts l (body, wrapped, inr (a, inner, is, e, spelled)) = conds_good cs inner (behind s a inner ts (subst (λ b. Wrapped s b ts) e wrapped) l) spelled
  cond_good (c_any cs s) ts l (a, inner, is, wrapped, spelled) = conds_good cs inner (behind s a inner ts wrapped l) spelled
  cond_good (c_not c s) ts l (a, inner, is, wrapped, spelled) = cond_good c inner (behind s a inner ts wrapped l) spelled
  cond_good (c_imply c d s) ts l (a, front, back, is, wrapped, one, two) =
      let m = behind s a (front ++ back) ts wrapped l in (cond_good c front (left front back m) one, cond_good d back (right front back m) two)
  cond_good (c_forall vs c s) ts l (a, front, back, is, wrapped, one, two) =
      let m = behind s a (front ++ back) ts wrapped l in (variables_small vs front (left front back m) one, cond_good c back (right front back m) two)
  cond_good (c_exists vs c s) ts l (a, front, back, is, wrapped, one, two) =
      let m = behind s a (front ++ back) ts wrapped l in (variables_small vs front (left front back m) one, cond_good c back (right front back m) two)
  cond_good (c_atom u s) ts l (at, spelled) = use_good Terms u ts l spelled
  cond_good (c_same t u s) ts l (a, front, back, is, wrapped, one, two) =
      let m = behind s a (front ++ back) ts wrapped l in (term_good Terms t front (left front back m) one, term_good Terms u back (right front back m) two)
  cond_good (c_compare op e f s) ts l (a, front, back, is, wrapped, one, two) =
      let m = behind s a (front ++ back) ts wrapped l in (expr_good e front (left front back m) one, expr_good f back (right front back m) two)

  pub conds_good : (cs : Conds) (ts : List Piece) → AreLexical ts → SpellsConds cs ts → GoodConds cs
  conds_good no_conds ts l spelled = tt
  conds_good (more_conds c cs) ts l (front, back, one, more, whole) =
      let m = lexical_at ts (front ++ back) whole l in (cond_good c front (left front back m) one, conds_good cs back (right front back m) more)

change_good : (w : List ℕ) (u : Use) (e : Expr) (s : Span) (ts : List Piece) → AreLexical ts → SpellsChange w u e s ts → GoodUse Terms u × GoodExpr e
change_good w u e s ts l (a, front, back, is, wrapped, one, two) =
    let m = behind s a (front ++ back) ts wrapped l in (use_good Terms u front (left front back m) one, expr_good e back (right front back m) two)

node_good : (x : LeafNode) (s : Span) (ts : List Piece) → AreLexical ts → SpellsLeafNode x s ts → GoodNode x
node_good (Add u) s ts l (at, spelled) = use_good Terms u ts l spelled
node_good (Delete u) s ts l (a, inner, is, wrapped, spelled) = use_good Terms u inner (behind s a inner ts wrapped l) spelled
node_good (Assign u e) s ts l c = change_good _ u e s ts l c
node_good (Increase u e) s ts l c = change_good _ u e s ts l c
node_good (Decrease u e) s ts l c = change_good _ u e s ts l c
node_good (ScaleUp u e) s ts l c = change_good _ u e s ts l c
node_good (ScaleDown u e) s ts l c = change_good _ u e s ts l c

pub leaf_good : (x : Leaf) (ts : List Piece) → AreLexical ts → SpellsLeaf x ts → GoodLeaf x
leaf_good x ts l c = node_good x.node x.span ts l c

simple_good : (ls : List Leaf) (ts : List Piece) → AreLexical ts → SpellsSimple ls ts → AllOf GoodLeaf ls
simple_good ls ts l (inl (s, body, wrapped, inl (none, empty))) = subst (AllOf GoodLeaf) (sym none) tt
simple_good ls ts l (inl (s, body, wrapped, inr (a, inner, is, e, chain))) =
    chain_all Leaf SpellsLeaf GoodLeaf leaf_good ls inner (behind s a inner ts (subst (λ b. Wrapped s b ts) e wrapped) l) chain
simple_good ls ts l (inr (x, is, spelled)) = subst (AllOf GoodLeaf) (sym is) (leaf_good x ts l spelled, tt)

mutual
  pub effect_good : (e : Effect) (ts : List Piece) → AreLexical ts → SpellsEffect e ts → GoodEffect e
  effect_good (e_all es s) ts l (body, wrapped, inl (none, empty)) = subst GoodEffects (sym none) tt
  effect_good (e_all es s) ts l (body, wrapped, inr (a, inner, is, e, spelled)) = effects_good es inner (behind s a inner ts (subst (λ b. Wrapped s b ts) e wrapped) l) spelled
  effect_good (e_forall vs e s) ts l (a, front, back, is, wrapped, one, two) =
      let m = behind s a (front ++ back) ts wrapped l in (variables_small vs front (left front back m) one, effect_good e back (right front back m) two)
  effect_good (e_when c ls s) ts l (a, front, back, is, wrapped, one, two) =
      let m = behind s a (front ++ back) ts wrapped l in (cond_good c front (left front back m) one, simple_good ls back (right front back m) two)
  effect_good (e_leaf x s) ts l (at, spelled) = leaf_good x ts l spelled

  pub effects_good : (es : Effects) (ts : List Piece) → AreLexical ts → SpellsEffects es ts → GoodEffects es
  effects_good no_effects ts l spelled = tt
  effects_good (more_effects e es) ts l (front, back, one, more, whole) =
      let m = lexical_at ts (front ++ back) whole l in (effect_good e front (left front back m) one, effects_good es back (right front back m) more)

not_good : (allowed : Allowed) (u : Use) (s : Span) (ts : List Piece) → AreLexical ts → SpellsNot allowed u s ts → GoodUse allowed u
not_good allowed u s ts l (a, inner, is, wrapped, spelled) = use_good allowed u inner (behind s a inner ts wrapped l) spelled

pub init_good : (x : Init) (ts : List Piece) → AreLexical ts → SpellsInit x ts → GoodInit x
init_good (Holds u) ts l spelled = use_good Names u ts l spelled
init_good (Absent u s) ts l spelled = not_good Names u s ts l spelled
init_good (Value u x s) ts l (a, inner, p, is, wrapped, spelled, number) =
    let m = behind s a (inner ++ p ∷ []) ts wrapped l in
    let lex : AreLexical (p ∷ []) = right inner (p ∷ []) m in
    (use_good Names u inner (left inner (p ∷ []) m) spelled, literal_good p x lex.0 number)
init_good (At t u s) ts l (a, p, inner, is, time, wrapped, spelled) =
    let m : AreLexical (p ∷ inner) = behind s a (p ∷ inner) ts wrapped l in (time_good p t m.0 time, use_good Terms u inner m.1 spelled)
init_good (AtNot t u s) ts l (a, p, inner, is, time, wrapped, spelled) =
    let m : AreLexical (p ∷ inner) = behind s a (p ∷ inner) ts wrapped l in (time_good p t m.0 time, not_good Terms u spelled.0 inner m.1 spelled.1)
