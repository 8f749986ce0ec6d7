-- Which texts spell constraints.
use Rattle.std.specs.Prelude.{◌≡◌, ℕ, ◌⊎◌, List, [], ◌∷◌, ◌++◌, map, codes}
use Rattle.plus_tokens.specs.declared.span.Span.{Span}
use Rattle.plus_tokens.specs.Items.{Piece, tok, items_of}
use Rattle.plus_tree.specs.declared.terms.Literal.{Literal}
use Rattle.plus_tree.specs.declared.trees.Rule.{Rule}
use Rattle.plus_tree.specs.declared.trees.Rule.TheVariants.{Always, Sometime, Within, HoldAfter}
use Rattle.plus_tree.specs.declared.trees.Constraint.{Constraint}
use Rattle.plus_parser.specs.Phrases.Spells.{IsWord, Wrapped, Chain, FitsDepth}
use Rattle.plus_parser.specs.Forms.SpellsForms.{SpellsCond}
use Rattle.plus_parser.specs.SpellsProblem.{IsTime}

-- a word, and a time behind it
abbrev pub SpellsWordTime : List ℕ → Literal → List Piece → Type 0
SpellsWordTime w t ts = (a : Piece) × (p : Piece) × IsWord w a × IsTime t p × (ts ≡ a ∷ p ∷ [])

-- `always`, `sometime`, `within 3` and `hold-after 3`
abbrev pub SpellsRule : Rule → List Piece → Type 0
SpellsRule Always ts = (a : Piece) × IsWord (codes "always") a × (ts ≡ a ∷ [])
SpellsRule Sometime ts = (a : Piece) × IsWord (codes "sometime") a × (ts ≡ a ∷ [])
SpellsRule (Within t) ts = SpellsWordTime (codes "within") t ts
SpellsRule (HoldAfter t) ts = SpellsWordTime (codes "hold-after") t ts

-- `(within 3 (open))`
abbrev pub SpellsConstraint : Constraint → List Piece → Type 0
SpellsConstraint c ts =
    (left : List Piece) × (right : List Piece) × Wrapped c.span (left ++ right) ts × SpellsRule c.rule left × SpellsCond c.cond right

-- the tokens of constraints: a list, `(and ..)`, or a single one
abbrev pub ConstraintTokens : List Constraint → List Piece → Type 0
ConstraintTokens cs ts =
    ((s : Span) × (a : Piece) × (inner : List Piece) × IsWord (codes "and") a × Wrapped s (a ∷ inner) ts × Chain SpellsConstraint cs inner)
    ⊎ ((c : Constraint) × (cs ≡ c ∷ []) × SpellsConstraint c ts)

-- the text spells the constraints: its tokens do, and nothing else stands in it
abbrev pub SpellsConstraints : List ℕ → List Constraint → Type 0
SpellsConstraints text cs = (ts : List Piece) × (items_of text ≡ map tok ts) × ConstraintTokens cs ts

-- the same, with no more than so many parentheses open at once
abbrev pub SpellsConstraintsWithin : ℕ → List ℕ → List Constraint → Type 0
SpellsConstraintsWithin depth text cs = (ts : List Piece) × (items_of text ≡ map tok ts) × ConstraintTokens cs ts × FitsDepth depth ts
