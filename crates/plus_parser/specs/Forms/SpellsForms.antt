-- Which tokens spell a condition or an effect: the grammar as a relation, with no word on reading.
use Rattle.std.specs.Prelude.{◌≡◌, ℕ, ◌⊎◌, List, [], ◌∷◌, ◌++◌, codes}
use Rattle.plus_tokens.specs.declared.span.Span.{Span}
use Rattle.plus_tree.specs.declared.terms.Use.{Use}
use Rattle.plus_tokens.specs.declared.token.Op.TheVariants.{Equal}
use Rattle.plus_tree.specs.declared.trees.Leaf.{Leaf}
use Rattle.plus_tree.specs.declared.trees.LeafNode.{LeafNode}
use Rattle.plus_tree.specs.declared.trees.LeafNode.TheVariants.{Add, Delete, Assign, Increase, Decrease, ScaleUp, ScaleDown}
use Rattle.plus_tree.specs.Expr.{Expr}
use Rattle.plus_tree.specs.Cond.{Cond, c_all, c_any, c_not, c_imply, c_forall, c_exists, c_atom, c_same, c_compare, Conds, no_conds, more_conds}
use Rattle.plus_tree.specs.Effect.{Effect, e_all, e_forall, e_when, e_leaf, Effects, no_effects, more_effects}
use Rattle.plus_parser.specs.declared.phrases.words.Allowed.TheVariants.{Terms}
use Rattle.plus_tokens.specs.Items.{Piece}
use Rattle.plus_parser.specs.Phrases.Spells.{IsWord, IsSign, Wrapped, Chain, sign_of, SpellsArgument, SpellsVariables, SpellsUse, SpellsExpr}

-- `()`, `(and ..)`, `(or ..)`, `(not ..)`, `(imply ..)`, `(forall (..) ..)`, `(exists (..) ..)`, an atom, `(= ..)` of two terms and a comparison
abbrev mutual
  pub SpellsCond : Cond → List Piece → Type 0
  SpellsCond (c_all cs s) ts =
      (body : List Piece) × Wrapped s body ts
      × (((cs ≡ no_conds) × (body ≡ []))
      ⊎ ((a : Piece) × (inner : List Piece) × IsWord (codes "and") a × (body ≡ a ∷ inner) × SpellsConds cs inner))
  SpellsCond (c_any cs s) ts =
      (a : Piece) × (inner : List Piece) × IsWord (codes "or") a × Wrapped s (a ∷ inner) ts × SpellsConds cs inner
  SpellsCond (c_not c s) ts =
      (a : Piece) × (inner : List Piece) × IsWord (codes "not") a × Wrapped s (a ∷ inner) ts × SpellsCond c inner
  SpellsCond (c_imply c d s) ts =
      (a : Piece) × (left : List Piece) × (right : List Piece) × IsWord (codes "imply") a × Wrapped s (a ∷ (left ++ right)) ts × SpellsCond c left × SpellsCond d right
  SpellsCond (c_forall vs c s) ts =
      (a : Piece) × (left : List Piece) × (right : List Piece) × IsWord (codes "forall") a × Wrapped s (a ∷ (left ++ right)) ts × SpellsVariables vs left × SpellsCond c right
  SpellsCond (c_exists vs c s) ts =
      (a : Piece) × (left : List Piece) × (right : List Piece) × IsWord (codes "exists") a × Wrapped s (a ∷ (left ++ right)) ts × SpellsVariables vs left × SpellsCond c right
  SpellsCond (c_same t u s) ts =
      (a : Piece) × (left : List Piece) × (right : List Piece) × IsSign Equal a × Wrapped s (a ∷ (left ++ right)) ts × SpellsArgument Terms t left × SpellsArgument Terms u right
  SpellsCond (c_compare sign e f s) ts =
      (a : Piece) × (left : List Piece) × (right : List Piece) × IsSign (sign_of sign) a × Wrapped s (a ∷ (left ++ right)) ts × SpellsExpr e left × SpellsExpr f right
  SpellsCond (c_atom u s) ts = (s ≡ u.span) × SpellsUse Terms u ts

  pub SpellsConds : Conds → List Piece → Type 0
  SpellsConds no_conds ts = ts ≡ []
  SpellsConds (more_conds c cs) ts =
      (front : List Piece) × (back : List Piece) × SpellsCond c front × SpellsConds cs back × (ts ≡ front ++ back)

-- `(assign (x) e)` or the like
abbrev pub SpellsChange : List ℕ → Use → Expr → Span → List Piece → Type 0
SpellsChange w u x s ts =
    (a : Piece) × (left : List Piece) × (right : List Piece) × IsWord w a × Wrapped s (a ∷ (left ++ right)) ts × SpellsUse Terms u left × SpellsExpr x right

-- an atom, `(not ..)` of one, or a change of a number
abbrev pub SpellsLeafNode : LeafNode → Span → List Piece → Type 0
SpellsLeafNode (Add u) s ts = (s ≡ u.span) × SpellsUse Terms u ts
SpellsLeafNode (Delete u) s ts =
    (a : Piece) × (inner : List Piece) × IsWord (codes "not") a × Wrapped s (a ∷ inner) ts × SpellsUse Terms u inner
SpellsLeafNode (Assign u x) s ts = SpellsChange (codes "assign") u x s ts
SpellsLeafNode (Increase u x) s ts = SpellsChange (codes "increase") u x s ts
SpellsLeafNode (Decrease u x) s ts = SpellsChange (codes "decrease") u x s ts
SpellsLeafNode (ScaleUp u x) s ts = SpellsChange (codes "scale-up") u x s ts
SpellsLeafNode (ScaleDown u x) s ts = SpellsChange (codes "scale-down") u x s ts

abbrev pub SpellsLeaf : Leaf → List Piece → Type 0
SpellsLeaf l ts = SpellsLeafNode l.node l.span ts

-- leaves in a form: `()` and `(and leaf ..)`
abbrev pub SpellsLeaves : List Leaf → List Piece → Type 0
SpellsLeaves ls ts =
    (s : Span) × (body : List Piece) × Wrapped s body ts
    × (((ls ≡ []) × (body ≡ []))
    ⊎ ((a : Piece) × (inner : List Piece) × IsWord (codes "and") a × (body ≡ a ∷ inner) × Chain SpellsLeaf ls inner))

-- what is done where a condition holds: leaves in a form, or a single leaf
abbrev pub SpellsSimple : List Leaf → List Piece → Type 0
SpellsSimple ls ts = SpellsLeaves ls ts ⊎ ((l : Leaf) × (ls ≡ l ∷ []) × SpellsLeaf l ts)

-- `()`, `(and ..)`, `(forall (..) ..)`, `(when ..)` and a leaf
abbrev mutual
  pub SpellsEffect : Effect → List Piece → Type 0
  SpellsEffect (e_all es s) ts =
      (body : List Piece) × Wrapped s body ts
      × (((es ≡ no_effects) × (body ≡ []))
      ⊎ ((a : Piece) × (inner : List Piece) × IsWord (codes "and") a × (body ≡ a ∷ inner) × SpellsEffects es inner))
  SpellsEffect (e_forall vs e s) ts =
      (a : Piece) × (left : List Piece) × (right : List Piece) × IsWord (codes "forall") a × Wrapped s (a ∷ (left ++ right)) ts × SpellsVariables vs left × SpellsEffect e right
  SpellsEffect (e_when c ls s) ts =
      (a : Piece) × (left : List Piece) × (right : List Piece) × IsWord (codes "when") a × Wrapped s (a ∷ (left ++ right)) ts × SpellsCond c left × SpellsSimple ls right
  SpellsEffect (e_leaf l s) ts = (s ≡ l.span) × SpellsLeaf l ts

  pub SpellsEffects : Effects → List Piece → Type 0
  SpellsEffects no_effects ts = ts ≡ []
  SpellsEffects (more_effects e es) ts =
      (front : List Piece) × (back : List Piece) × SpellsEffect e front × SpellsEffects es back × (ts ≡ front ++ back)
