-- Reading lists, uses and expressions from tokens. Each look at a token goes through `next_of`, so that a refusal comes at the
-- first token with which the grammar does not go on.
use Rattle.std.specs.Prelude.{ℕ, zero, suc, ◌-◌, Bool, true, false, not, ◌&&◌, ◌==◌, Option, Some, None, List, [], ◌∷◌, ◌++◌, length, map, drop, Ok, Err, if◌then◌else◌, codes}
use Rattle.plus_tokens.specs.declared.span.Span.{Span}
use Rattle.plus_tree.specs.declared.names.Spelled.{Spelled}
use Rattle.plus_tree.specs.declared.terms.Term.{Term}
use Rattle.plus_tree.specs.declared.terms.Term.TheVariants.{Object, Variable}
use Rattle.plus_tree.specs.declared.terms.TypedName.{TypedName}
use Rattle.plus_tree.specs.declared.terms.Use.{Use}
use Rattle.plus_tree.specs.declared.terms.Literal.{Literal}
use Rattle.plus_tree.specs.declared.faults.TextFault.TheVariants as faults
use Rattle.plus_tree.specs.Expr.{Expr, x_number, x_clock, x_fluent, x_sum, x_product, x_minus, x_difference, x_quotient, exprs_of}
use Rattle.plus_parser.specs.declared.phrases.words.Allowed.{Allowed}
use Rattle.plus_parser.specs.declared.phrases.words.Allowed.TheVariants as allows
use Rattle.plus_parser.specs.declared.phrases.words.ExprWord.{ExprWord}
use Rattle.plus_parser.specs.declared.phrases.words.ExprWord.TheVariants as exprs
use Rattle.plus_tokens.specs.declared.token.Kind.{Kind}
use Rattle.plus_tokens.specs.declared.token.Kind.TheVariants as kinds
use Rattle.plus_tokens.specs.Items.{Piece, Item}
use Rattle.plus_parser.specs.Phrases.Reading.{◌>>=◌, Read, next_of, is_open}
use Rattle.plus_parser.specs.Phrases.Words.{expr_head, is_close, is_name, is_plain, is_word, is_variable, is_allowed, is_time, is_minus}
use Rattle.plus_parser.specs.Phrases.Literals.{literal_of}

-- from the opening parenthesis to the closing one
abbrev pub around : Span → Span → Span
around front close = record { start = front.start; «end» = close.«end» }

-- where stands what is not written
abbrev pub nowhere : Span
nowhere = record { start = 0; «end» = 0 }

abbrev pub spelled_of : Piece → Spelled
spelled_of p = record { name = p.word; span = p.span }

-- ---- one token

-- a token that is wanted here
unfoldable pub token_of : (Piece → Bool) → ℕ → List Item → Read Piece
token_of wanted room items = do
  p ← next_of room items
  if wanted p.0 then Ok (p.0, p.1) else Err (faults.Form p.0.span)

abbrev pub open_of : ℕ → List Item → Read Piece
open_of = token_of (λ p. is_open p.kind)

abbrev pub close_of : ℕ → List Item → Read Piece
close_of = token_of (λ p. is_close p.kind)

abbrev pub name_of : ℕ → List Item → Read Piece
name_of = token_of (λ p. is_name p.kind)

-- a name that may be that of a predicate
abbrev pub plain_of : ℕ → List Item → Read Piece
plain_of = token_of is_plain

abbrev pub word_of : List ℕ → ℕ → List Item → Read Piece
word_of w = token_of (is_word w)

-- a number without a sign
abbrev pub time_of : ℕ → List Item → Read Piece
time_of = token_of is_time

-- whether a time comes next, as in a timed literal
abbrev pub is_time_read : Read Piece → Bool
is_time_read (Ok p) = is_time p.0
is_time_read (Err e) = false

abbrev pub time_ahead : ℕ → List Item → Bool
time_ahead room items = is_time_read (next_of room items)

-- ---- lists

-- reads on from a token, with what was read so far
abbrev pub Step : Type 0 → Type 0
Step S = S → Piece → List Item → Read S

abbrev pub at_close : {S : Type 0} → Step S → (S → List Item → Read (S × Span)) → S → Piece → List Item → Bool → Read (S × Span)
at_close step more s p rest true = Ok ((s, p.span), rest)
at_close step more s p rest false = do
  x ← step s p rest
  more x.0 x.1

-- steps up to the closing parenthesis. The second number bounds the turns; the count of the tokens is always enough.
unfoldable pub until_close : {S : Type 0} → Step S → ℕ → ℕ → S → List Item → Read (S × Span)
until_close step room zero s items = Err faults.Unclosed
until_close step room (suc n) s items = do
  p ← next_of room items
  at_close step (until_close step room n) s p.0 p.1 (is_close p.0.kind)

-- reads a form whose opening parenthesis has this place
abbrev pub Former : Type 0 → Type 0
Former A = Span → List Item → Read A

-- one more form
unfoldable pub form_step : {A : Type 0} → Former A → Step (List A)
form_step read xs p rest =
    if is_open p.kind then (read p.span rest >>= λ x. Ok (xs ++ x.0 ∷ [], x.1)) else Err (faults.Form p.span)

-- reads a form from its first token on
abbrev pub Starter : Type 0 → Type 0
Starter A = Piece → List Item → Read A

-- one more form
abbrev pub start_step : {A : Type 0} → Starter A → Step (List A)
start_step read xs p rest = do
  x ← read p rest
  Ok (xs ++ x.0 ∷ [], x.1)

-- ---- terms

-- a name without its question mark or its colon
abbrev pub bare_of : Piece → Spelled
bare_of p = record { name = drop 1 p.word; span = p.span }

-- the name of an object or a variable
abbrev pub named_of : Piece → Spelled
named_of p = if is_variable p.kind then bare_of p else spelled_of p

-- the term that a name or a variable is
abbrev pub term_of : Piece → Term
term_of p = if is_variable p.kind then Variable (bare_of p) else Object (spelled_of p)

-- one more argument
unfoldable pub argument_step : Allowed → Step (List Term)
argument_step allowed xs p rest =
    if is_allowed allowed p.kind then Ok (xs ++ term_of p ∷ [], rest) else Err (faults.Form p.span)

-- ---- typed lists

-- the names that have a type, and behind them those that still wait for one
pub record Listing : Type 0 where
  pub typed : List TypedName
  pub waiting : List Spelled

abbrev pub no_names : Listing
no_names = record { typed = []; waiting = [] }

abbrev pub of_type : Spelled → Spelled → TypedName
of_type kind name = record { name = name; kind = kind }

-- the type of a name whose type is not written
abbrev pub object_type : Spelled
object_type = record { name = codes "object"; span = nowhere }

-- the names that wait have this type
abbrev pub typed_by : Spelled → Listing → Listing
typed_by kind l = record { typed = l.typed ++ map (of_type kind) l.waiting; waiting = [] }

-- the type of those before it
abbrev pub type_of_waiting : ℕ → Listing → List Item → Read Listing
type_of_waiting room l rest = do
  n ← name_of room rest
  Ok (typed_by (spelled_of n.0) l, n.1)

-- one more name, or the type of those before it
unfoldable pub list_step : Allowed → ℕ → Step Listing
list_step allowed room l p rest =
    if is_allowed allowed p.kind then Ok (record l { waiting = l.waiting ++ named_of p ∷ [] }, rest)
    else (if is_minus p.kind && not (length l.waiting == 0) then type_of_waiting room l rest else Err (faults.Form p.span))

-- all names, those that still wait with the type `object`
abbrev pub all_typed : Listing → List TypedName
all_typed l = l.typed ++ map (of_type object_type) l.waiting

-- a list of names with their types, up to the closing parenthesis
unfoldable pub list_of : Allowed → ℕ → List Item → Read (List TypedName × Span)
list_of allowed room items = do
  l ← until_close (list_step allowed room) room (length items) no_names items
  Ok ((all_typed l.0.0, l.0.1), l.1)

-- variables in parentheses
unfoldable pub variables_of : ℕ → List Item → Read (List TypedName)
variables_of room items = do
  o ← open_of room items
  l ← list_of allows.Variables (room - 1) o.1
  Ok (l.0.0, l.1)

-- ---- uses

abbrev pub use_of : Piece → List Term → Span → Use
use_of head args s = record { head = spelled_of head; args = args; span = s }

-- a predicate or a function that is used, behind its name
unfoldable pub use_end : Allowed → ℕ → Span → Piece → List Item → Read Use
use_end allowed room front head items = do
  xs ← until_close (argument_step allowed) room (length items) [] items
  Ok (use_of head xs.0.0 (around front xs.0.1), xs.1)

-- a predicate or a function that is used, with its parentheses
unfoldable pub use_form : Allowed → ℕ → List Item → Read Use
use_form allowed room items = do
  o ← open_of room items
  n ← plain_of (room - 1) o.1
  use_end allowed (room - 1) o.0.span n.0 n.1

-- ---- expressions

-- a number of its own
abbrev pub number_or : Option Literal → Piece → List Item → Read Expr
number_or (Some n) p rest = Ok (x_number n p.span, rest)
number_or None p rest = Err (faults.Form p.span)

-- an expression from its first token on, which tells by its kind
abbrev pub expr_kind : Former Expr → Piece → List Item → Kind → Read Expr
expr_kind nested p rest kinds.Open = nested p.span rest
expr_kind nested p rest kinds.Clock = Ok (x_clock p.span, rest)
expr_kind nested p rest _ = number_or (literal_of p) p rest

unfoldable pub expr_from : Former Expr → Starter Expr
expr_from nested p rest = expr_kind nested p rest p.kind

-- the expression that comes next
unfoldable pub expr_next : ℕ → Former Expr → List Item → Read Expr
expr_next room nested items = do
  p ← next_of room items
  expr_from nested p.0 p.1

-- two expressions
unfoldable pub two_of : ℕ → Former Expr → List Item → Read (Expr × Expr)
two_of room nested items = do
  a ← expr_next room nested items
  b ← expr_next room nested a.1
  Ok ((a.0, b.0), b.1)

-- two expressions and a closing parenthesis
unfoldable pub pair_of : ℕ → Former Expr → List Item → Read ((Expr × Expr) × Span)
pair_of room nested items = do
  x ← two_of room nested items
  e ← close_of room x.1
  Ok ((x.0, e.0.span), e.1)

-- two expressions or more, up to the closing parenthesis
unfoldable pub many_of : ℕ → Former Expr → List Item → Read (List Expr × Span)
many_of room nested items = do
  x ← two_of room nested items
  until_close (start_step (expr_from nested)) room (length x.1) (x.0.0 ∷ x.0.1 ∷ []) x.1

-- what follows the first expression behind a minus
abbrev pub minus_with : ℕ → Former Expr → Span → Expr → Piece → List Item → Bool → Read Expr
minus_with room nested front a p rest true = Ok (x_minus a (around front p.span), rest)
minus_with room nested front a p rest false = do
  b ← expr_from nested p rest
  e ← close_of room b.1
  Ok (x_difference a b.0 (around front e.0.span), e.1)

-- `(- x)` or `(- x y)`, behind the sign
unfoldable pub minus_of : ℕ → Former Expr → Former Expr
minus_of room nested front items = do
  a ← expr_next room nested items
  p ← next_of room a.1
  minus_with room nested front a.0 p.0 p.1 (is_close p.0.kind)

-- an expression, behind its opening parenthesis
abbrev pub expr_with : ℕ → Former Expr → Span → Piece → List Item → ExprWord → Read Expr
expr_with room nested front p rest exprs.Sum = do
  xs ← many_of room nested rest
  Ok (x_sum (exprs_of xs.0.0) (around front xs.0.1), xs.1)
expr_with room nested front p rest exprs.Product = do
  xs ← many_of room nested rest
  Ok (x_product (exprs_of xs.0.0) (around front xs.0.1), xs.1)
expr_with room nested front p rest exprs.Minus = minus_of room nested front rest
expr_with room nested front p rest exprs.Quotient = do
  x ← pair_of room nested rest
  Ok (x_quotient x.0.0.0 x.0.0.1 (around front x.0.1), x.1)
expr_with room nested front p rest exprs.Plain = do
  u ← use_end allows.Terms room front p rest
  Ok (x_fluent u.0 u.0.span, u.1)
expr_with room nested front p rest exprs.Other = Err (faults.Form p.span)

unfoldable pub expr_body : ℕ → Former Expr → Former Expr
expr_body room nested front items = do
  p ← next_of room items
  expr_with room nested front p.0 p.1 (expr_head p.0)

-- an expression whose opening parenthesis takes one of so many places
unfoldable pub expr_at : ℕ → Former Expr
expr_at zero front items = Err (faults.Depth front.start)
expr_at (suc room) front items = expr_body room (expr_at room) front items
