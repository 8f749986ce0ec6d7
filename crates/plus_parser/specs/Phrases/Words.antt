-- What a token begins, by its word. Words tell no case apart; here they are in small letters.
use Rattle.std.specs.Prelude.{ℕ, Bool, true, false, not, ◌&&◌, ◌||◌, List, [], ◌∷◌, Option, Some, None, if◌then◌else◌, codes}
use Rattle.std.specs.Str.{bytes_eq}
use Rattle.plus_tokens.specs.declared.token.Kind.{Kind}
use Rattle.plus_tokens.specs.declared.token.Kind.TheVariants as kinds
use Rattle.plus_tokens.specs.declared.token.Op.{Op}
use Rattle.plus_tokens.specs.declared.token.Op.TheVariants as ops
use Rattle.plus_parser.specs.declared.phrases.words.HeadWord.{HeadWord}
use Rattle.plus_parser.specs.declared.phrases.words.HeadWord.TheVariants.{Nothing, And, Or, Not, Imply, ForAll, Exists, When, Change, Compare, Plain, Other}
use Rattle.plus_parser.specs.declared.phrases.words.Change.TheVariants.{Assign, Increase, Decrease, ScaleUp, ScaleDown}
use Rattle.plus_parser.specs.declared.phrases.words.ExprWord.{ExprWord}
use Rattle.plus_parser.specs.declared.phrases.words.ExprWord.TheVariants as exprs
use Rattle.plus_tree.specs.declared.terms.Comparison.TheVariants as comparisons
use Rattle.plus_parser.specs.declared.phrases.words.Allowed.{Allowed}
use Rattle.plus_parser.specs.declared.phrases.words.Allowed.TheVariants as allows
use Rattle.plus_tokens.specs.Items.{Piece}
use Rattle.plus_tokens.specs.declared.numeral.Numeral.{Numeral}
use Rattle.plus_tokens.specs.Numeral.{kind_numeral}

-- ---- names

-- what a word says by a table; another word says something else
abbrev pub look : {A : Type 0} → List ℕ → List (List ℕ × A) → A → A
look w [] other = other
look w (entry ∷ more) other = if bytes_eq w entry.0 then entry.1 else look w more other

-- the words of changes of numbers
abbrev pub changes : List (List ℕ × HeadWord)
changes =
    (codes "assign", Change Assign) ∷ (codes "increase", Change Increase) ∷ (codes "decrease", Change Decrease)
    ∷ (codes "scale-up", Change ScaleUp) ∷ (codes "scale-down", Change ScaleDown) ∷ []

-- the other words that begin a condition or an effect
abbrev pub connectives : List (List ℕ × HeadWord)
connectives =
    (codes "and", And) ∷ (codes "or", Or) ∷ (codes "not", Not) ∷ (codes "imply", Imply) ∷ (codes "forall", ForAll)
    ∷ (codes "exists", Exists) ∷ (codes "when", When) ∷ []

abbrev pub word_head : List ℕ → HeadWord
word_head w = look w connectives (look w changes Plain)

abbrev pub op_head : Op → HeadWord
op_head ops.Less = Compare comparisons.Less
op_head ops.AtMost = Compare comparisons.AtMost
op_head ops.Equal = Compare comparisons.Equal
op_head ops.AtLeast = Compare comparisons.AtLeast
op_head ops.Greater = Compare comparisons.Greater
op_head _ = Other

abbrev pub kind_head : Kind → List ℕ → HeadWord
kind_head kinds.Close w = Nothing
kind_head kinds.Name w = word_head w
kind_head (kinds.Op op) w = op_head op
kind_head _ w = Other

-- what a token begins behind an opening parenthesis
abbrev pub head_of : Piece → HeadWord
head_of p = kind_head p.kind p.word

abbrev pub is_close : Kind → Bool
is_close kinds.Close = true
is_close _ = false

abbrev pub is_name : Kind → Bool
is_name kinds.Name = true
is_name _ = false

abbrev pub is_plain_head : HeadWord → Bool
is_plain_head Plain = true
is_plain_head _ = false

-- a name that may be that of a predicate
abbrev pub is_plain : Piece → Bool
is_plain p = is_plain_head (head_of p)

abbrev pub sign_expr : Op → ExprWord
sign_expr ops.Plus = exprs.Sum
sign_expr ops.Times = exprs.Product
sign_expr ops.Minus = exprs.Minus
sign_expr ops.Divide = exprs.Quotient
sign_expr _ = exprs.Other

abbrev pub kind_expr : Kind → List ℕ → ExprWord
kind_expr (kinds.Op op) w = sign_expr op
kind_expr kinds.Name w = if is_plain_head (word_head w) then exprs.Plain else exprs.Other
kind_expr _ w = exprs.Other

-- what a token begins behind the opening parenthesis of an expression
abbrev pub expr_head : Piece → ExprWord
expr_head p = kind_expr p.kind p.word

abbrev pub is_word : List ℕ → Piece → Bool
is_word w p = is_name p.kind && bytes_eq p.word w

abbrev pub is_keyword : Kind → Bool
is_keyword kinds.Keyword = true
is_keyword _ = false

-- ---- terms

abbrev pub is_variable : Kind → Bool
is_variable kinds.Variable = true
is_variable _ = false

-- a name or a variable
abbrev pub is_term : Kind → Bool
is_term kind = is_variable kind || is_name kind

-- whether a token is one of the terms that may stand here
abbrev pub is_allowed : Allowed → Kind → Bool
is_allowed allows.Terms kind = is_term kind
is_allowed allows.Variables kind = is_variable kind
is_allowed allows.Names kind = is_name kind

abbrev pub is_unsigned : Option Numeral → Bool
is_unsigned None = false
is_unsigned (Some n) = not n.negative

-- a token of this kind with this word is a number that is not negative
abbrev pub kind_time : Kind → List ℕ → Bool
kind_time kind word = is_unsigned (kind_numeral kind word)

abbrev pub is_time : Piece → Bool
is_time p = kind_time p.kind p.word

-- ---- signs

abbrev pub is_minus_op : Op → Bool
is_minus_op ops.Minus = true
is_minus_op _ = false

abbrev pub is_minus : Kind → Bool
is_minus (kinds.Op op) = is_minus_op op
is_minus _ = false
