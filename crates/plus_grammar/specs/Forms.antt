-- Conditions and effects whose variables stand by groups. All else is as in the grammar of forms.
use Rattle.std.specs.Prelude.{◌≡◌, ◌⊎◌, List, [], ◌∷◌, ◌++◌, codes}
use Rattle.plus_tokens.specs.declared.token.Op.TheVariants.{Equal}
use Rattle.plus_tokens.specs.declared.span.Span.{Span}
use Rattle.plus_tree.specs.Cond.{Cond, c_all, c_any, c_not, c_imply, c_forall, c_exists, c_atom, c_same, c_compare, Conds, no_conds, more_conds}
use Rattle.plus_tree.specs.Effect.{Effect, e_all, e_forall, e_when, e_leaf, Effects, no_effects, more_effects}
use Rattle.plus_parser.specs.declared.phrases.words.Allowed.TheVariants.{Terms}
use Rattle.plus_tokens.specs.Items.{Piece}
use Rattle.plus_parser.specs.Phrases.Spells.{IsWord, IsSign, Wrapped, sign_of, SpellsArgument, SpellsUse, SpellsExpr}
use Rattle.plus_parser.specs.Forms.SpellsForms.{SpellsLeaf, SpellsSimple}
use Rattle.plus_grammar.specs.Groups.{AreVariables}

-- `()`
abbrev pub IsEmpty : Span → List Piece → Type 0
IsEmpty s ts = Wrapped s [] ts

-- `(or ..)`: the word, and behind it these tokens
abbrev pub IsForm : (Piece → Type 0) → Span → (List Piece → Type 0) → List Piece → Type 0
IsForm Head s Inner ts = (a : Piece) × (inner : List Piece) × Head a × Wrapped s (a ∷ inner) ts × Inner inner

-- the same with two parts behind the word
abbrev pub IsFormOfTwo : (Piece → Type 0) → Span → (List Piece → Type 0) → (List Piece → Type 0) → List Piece → Type 0
IsFormOfTwo Head s Left Right ts =
    (a : Piece) × (left : List Piece) × (right : List Piece) × Head a × Wrapped s (a ∷ (left ++ right)) ts × Left left × Right right

abbrev mutual
  pub IsCond : Cond → List Piece → Type 0
  IsCond (c_all cs s) ts = ((cs ≡ no_conds) × IsEmpty s ts) ⊎ IsForm (IsWord (codes "and")) s (AreConds cs) ts
  IsCond (c_any cs s) ts = IsForm (IsWord (codes "or")) s (AreConds cs) ts
  IsCond (c_not c s) ts = IsForm (IsWord (codes "not")) s (IsCond c) ts
  IsCond (c_imply c d s) ts = IsFormOfTwo (IsWord (codes "imply")) s (IsCond c) (IsCond d) ts
  IsCond (c_forall vs c s) ts = IsFormOfTwo (IsWord (codes "forall")) s (AreVariables vs) (IsCond c) ts
  IsCond (c_exists vs c s) ts = IsFormOfTwo (IsWord (codes "exists")) s (AreVariables vs) (IsCond c) ts
  IsCond (c_same t u s) ts = IsFormOfTwo (IsSign Equal) s (SpellsArgument Terms t) (SpellsArgument Terms u) ts
  IsCond (c_compare sign e f s) ts = IsFormOfTwo (IsSign (sign_of sign)) s (SpellsExpr e) (SpellsExpr f) ts
  IsCond (c_atom u s) ts = (s ≡ u.span) × SpellsUse Terms u ts

  pub AreConds : Conds → List Piece → Type 0
  AreConds no_conds ts = ts ≡ []
  AreConds (more_conds c cs) ts = (front : List Piece) × (back : List Piece) × IsCond c front × AreConds cs back × (ts ≡ front ++ back)

abbrev mutual
  pub IsEffect : Effect → List Piece → Type 0
  IsEffect (e_all es s) ts = ((es ≡ no_effects) × IsEmpty s ts) ⊎ IsForm (IsWord (codes "and")) s (AreEffects es) ts
  IsEffect (e_forall vs e s) ts = IsFormOfTwo (IsWord (codes "forall")) s (AreVariables vs) (IsEffect e) ts
  IsEffect (e_when c ls s) ts = IsFormOfTwo (IsWord (codes "when")) s (IsCond c) (SpellsSimple ls) ts
  IsEffect (e_leaf l s) ts = (s ≡ l.span) × SpellsLeaf l ts

  pub AreEffects : Effects → List Piece → Type 0
  AreEffects no_effects ts = ts ≡ []
  AreEffects (more_effects e es) ts = (front : List Piece) × (back : List Piece) × IsEffect e front × AreEffects es back × (ts ≡ front ++ back)
