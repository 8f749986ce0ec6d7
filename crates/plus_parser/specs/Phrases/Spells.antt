-- Which tokens spell lists, uses and expressions: the grammar as a relation, with no word on reading.
use Rattle.std.specs.Prelude.{◌≡◌, ℕ, zero, suc, ◌+◌, ◌==◌, true, List, [], ◌∷◌, ◌++◌, length, Option, Some, None, option_and_then, if◌then◌else◌}
use Rattle.plus_tokens.specs.declared.token.Kind.{Kind}
use Rattle.plus_tokens.specs.declared.token.Kind.TheVariants as kinds
use Rattle.plus_tokens.specs.declared.token.Op.{Op}
use Rattle.plus_tokens.specs.declared.token.Op.TheVariants as ops
use Rattle.plus_tokens.specs.declared.span.Span.{Span}
use Rattle.plus_tree.specs.declared.names.Spelled.{Spelled}
use Rattle.plus_tree.specs.declared.terms.Term.{Term}
use Rattle.plus_tree.specs.declared.terms.TypedName.{TypedName}
use Rattle.plus_tree.specs.declared.terms.Use.{Use}
use Rattle.plus_tree.specs.declared.terms.Literal.{Literal}
use Rattle.plus_tree.specs.declared.terms.Comparison.{Comparison}
use Rattle.plus_tree.specs.declared.terms.Comparison.TheVariants as comparisons
use Rattle.plus_tree.specs.Expr.{Expr, x_number, x_clock, x_fluent, x_sum, x_product, x_minus, x_difference, x_quotient, Exprs, no_exprs, more_exprs}
use Rattle.plus_parser.specs.declared.phrases.words.Allowed.{Allowed}
use Rattle.plus_parser.specs.declared.phrases.words.Allowed.TheVariants.{Terms, Variables}
use Rattle.plus_tokens.specs.Items.{Piece}
use Rattle.plus_parser.specs.Phrases.Words.{is_plain, is_allowed}
use Rattle.plus_parser.specs.Phrases.Literals.{literal_of}
use Rattle.plus_parser.specs.Phrases.Grammar.{around, spelled_of, named_of, term_of, Listing, no_names, typed_by, all_typed}

abbrev pub IsOpen : Piece → Type 0
IsOpen p = p.kind ≡ kinds.Open

abbrev pub IsClose : Piece → Type 0
IsClose p = p.kind ≡ kinds.Close

abbrev pub IsName : Piece → Type 0
IsName p = p.kind ≡ kinds.Name

-- the token is this word, in small or large letters
abbrev pub IsWord : List ℕ → Piece → Type 0
IsWord w p = IsName p × (p.word ≡ w)

-- the token is this sign
abbrev pub IsSign : Op → Piece → Type 0
IsSign op p = p.kind ≡ kinds.Op op

-- the token spells this number
abbrev pub IsNumber : Literal → Piece → Type 0
IsNumber n p = literal_of p ≡ Some n

-- a name that may be that of a predicate: none of the words that begin a form of another kind
abbrev pub IsPlain : Piece → Type 0
IsPlain p = is_plain p ≡ true

-- tokens between parentheses, from the first to the end of the last
pub record Wrapped (span : Span) (body ts : List Piece) : Type 0 where
  pub first : Piece
  pub last : Piece
  pub opens : IsOpen first
  pub closes : IsClose last
  pub place : span ≡ around first.span last.span
  pub whole : ts ≡ first ∷ (body ++ last ∷ [])

-- the tokens are these things, one after the other
abbrev pub Chain : {X : Type 0} → (X → List Piece → Type 0) → List X → List Piece → Type 0
Chain P [] ts = ts ≡ []
Chain P (x ∷ xs) ts = (front : List Piece) × (back : List Piece) × P x front × Chain P xs back × (ts ≡ front ++ back)

-- what these things give, one after the other; none where one may not be added
abbrev pub added : {S X : Type 0} → (S → X → Option S) → S → List X → Option S
added add s [] = Some s
added add s (x ∷ xs) = option_and_then (λ t. added add t xs) (add s x)

-- one more, at the end
abbrev pub with_last : {X : Type 0} → List X → X → Option (List X)
with_last xs x = Some (xs ++ x ∷ [])

-- ---- terms and typed lists

-- the token is one of the terms that may stand here
abbrev pub IsAllowed : Allowed → Piece → Type 0
IsAllowed allowed p = is_allowed allowed p.kind ≡ true

-- `home` and `?x`
abbrev pub SpellsArgument : Allowed → Term → List Piece → Type 0
SpellsArgument allowed t ts = (p : Piece) × IsAllowed allowed p × (t ≡ term_of p) × (ts ≡ p ∷ [])

-- a part of a list: a name, or the type of the names before it that have none yet
pub data ListPart : Type 0 where
  l_name : Spelled → ListPart
  l_type : Spelled → ListPart

abbrev pub SpellsListPart : Allowed → ListPart → List Piece → Type 0
SpellsListPart allowed (l_name x) ts = (p : Piece) × IsAllowed allowed p × (x ≡ named_of p) × (ts ≡ p ∷ [])
SpellsListPart allowed (l_type x) ts = (m : Piece) × (n : Piece) × IsSign ops.Minus m × IsName n × (x ≡ spelled_of n) × (ts ≡ m ∷ n ∷ [])

-- a type follows a name
abbrev pub with_list_part : Listing → ListPart → Option Listing
with_list_part l (l_name x) = Some (record l { waiting = l.waiting ++ x ∷ [] })
with_list_part l (l_type x) = if length l.waiting == 0 then None else Some (typed_by x l)

-- names with their types, as far as they have one
pub record SpellsListing (allowed : Allowed) (found : Listing) (ts : List Piece) : Type 0 where
  pub parts : List ListPart
  pub spelled : Chain (SpellsListPart allowed) parts ts
  pub typed : added with_list_part no_names parts ≡ Some found

-- `?x ?y - place ?z`: a name has the first type behind it, or `object`
abbrev pub SpellsList : Allowed → List TypedName → List Piece → Type 0
SpellsList allowed xs ts = (found : Listing) × SpellsListing allowed found ts × (all_typed found ≡ xs)

-- variables in parentheses
abbrev pub SpellsVariables : List TypedName → List Piece → Type 0
SpellsVariables vs ts = (s : Span) × (inner : List Piece) × Wrapped s inner ts × SpellsList Variables vs inner

-- `(at ?x home)`
abbrev pub SpellsUse : Allowed → Use → List Piece → Type 0
SpellsUse allowed u ts =
    (a : Piece) × (inner : List Piece) × IsPlain a × Wrapped u.span (a ∷ inner) ts × (u.head ≡ spelled_of a) × Chain (SpellsArgument allowed) u.args inner

-- ---- expressions

abbrev pub AreMany : Exprs → Type 0
AreMany no_exprs = ⊥
AreMany (more_exprs e no_exprs) = ⊥
AreMany (more_exprs e (more_exprs f es)) = Unit {0}

-- a number, `#t`, a fluent, `(+ ..)` and `(* ..)` of two or more, `(- x)`, `(- x y)` and `(/ x y)`
abbrev mutual
  pub SpellsExpr : Expr → List Piece → Type 0
  SpellsExpr (x_number n s) ts = (p : Piece) × IsNumber n p × (s ≡ p.span) × (ts ≡ p ∷ [])
  SpellsExpr (x_clock s) ts = (p : Piece) × (p.kind ≡ kinds.Clock) × (s ≡ p.span) × (ts ≡ p ∷ [])
  SpellsExpr (x_fluent u s) ts = (s ≡ u.span) × SpellsUse Terms u ts
  SpellsExpr (x_sum es s) ts =
      (a : Piece) × (inner : List Piece) × IsSign ops.Plus a × Wrapped s (a ∷ inner) ts × AreMany es × SpellsExprs es inner
  SpellsExpr (x_product es s) ts =
      (a : Piece) × (inner : List Piece) × IsSign ops.Times a × Wrapped s (a ∷ inner) ts × AreMany es × SpellsExprs es inner
  SpellsExpr (x_minus e s) ts =
      (a : Piece) × (inner : List Piece) × IsSign ops.Minus a × Wrapped s (a ∷ inner) ts × SpellsExpr e inner
  SpellsExpr (x_difference e f s) ts =
      (a : Piece) × (left : List Piece) × (right : List Piece) × IsSign ops.Minus a × Wrapped s (a ∷ (left ++ right)) ts × SpellsExpr e left × SpellsExpr f right
  SpellsExpr (x_quotient e f s) ts =
      (a : Piece) × (left : List Piece) × (right : List Piece) × IsSign ops.Divide a × Wrapped s (a ∷ (left ++ right)) ts × SpellsExpr e left × SpellsExpr f right

  pub SpellsExprs : Exprs → List Piece → Type 0
  SpellsExprs no_exprs ts = ts ≡ []
  SpellsExprs (more_exprs e es) ts =
      (front : List Piece) × (back : List Piece) × SpellsExpr e front × SpellsExprs es back × (ts ≡ front ++ back)

abbrev pub sign_of : Comparison → Op
sign_of comparisons.Less = ops.Less
sign_of comparisons.AtMost = ops.AtMost
sign_of comparisons.Equal = ops.Equal
sign_of comparisons.AtLeast = ops.AtLeast
sign_of comparisons.Greater = ops.Greater

-- ---- depth

-- how many more parentheses may be opened after these tokens, where so many may before them; none where one is too many
abbrev pub room_step : Kind → ℕ → (ℕ → Option ℕ) → Option ℕ
room_step kinds.Open zero after = None
room_step kinds.Open (suc room) after = after room
room_step kinds.Close room after = after (room + 1)
room_step _ room after = after room

abbrev pub room_after : ℕ → List Piece → Option ℕ
room_after room [] = Some room
room_after room (p ∷ ps) = room_step p.kind room (λ r. room_after r ps)

-- no more than so many parentheses are ever open at once, and none is left open
abbrev pub FitsDepth : ℕ → List Piece → Type 0
FitsDepth depth ts = room_after depth ts ≡ Some depth
