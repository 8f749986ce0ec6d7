-- The canonical text of names, terms, uses, numbers and typed lists (this project's profile). Tokens are separated by one
-- space, with none behind `(` and none before `)`.
use Rattle.std.specs.Prelude.{ℕ, zero, suc, ◌-◌, Bool, true, false, List, [], ◌∷◌, ◌++◌, length, replicate, take, drop, codes, decimal}
use Rattle.plus_tree.specs.declared.terms.Term.{Term}
use Rattle.plus_tree.specs.declared.terms.Term.TheVariants.{Object, Variable}
use Rattle.plus_tree.specs.declared.terms.TypedName.{TypedName}
use Rattle.plus_tree.specs.declared.terms.Use.{Use}
use Rattle.plus_tree.specs.declared.terms.Literal.{Literal}
use Rattle.plus_tree.specs.declared.terms.Comparison.{Comparison}
use Rattle.plus_tree.specs.declared.terms.Comparison.TheVariants.{Less, AtMost, Equal, AtLeast, Greater}

-- a word of the language, a separator, or some of them, as they stand
unfoldable pub word : List ℕ → List ℕ
word bytes = bytes

-- the long words, under names
unfoldable pub domain_opening : List ℕ
domain_opening = word (codes "(define (domain ")

unfoldable pub problem_opening : List ℕ
problem_opening = word (codes "(define (problem ")

unfoldable pub requirements_opening : List ℕ
requirements_opening = word (codes " (:requirements")

unfoldable pub predicates_opening : List ℕ
predicates_opening = codes " (:predicates"

unfoldable pub functions_opening : List ℕ
functions_opening = codes " (:functions"

unfoldable pub precondition_key : List ℕ
precondition_key = word (codes " :precondition ")

-- members, each behind a space
abbrev pub spaced : {A : Type 0} → (A → List ℕ) → List A → List ℕ
spaced f [] = []
spaced f (x ∷ xs) = (word (codes " ") ++ f x) ++ spaced f xs

-- a variable is written with its question mark
unfoldable pub term_text : Term → List ℕ
term_text (Object x) = x.name
term_text (Variable x) = word (codes "?") ++ x.name

unfoldable pub use_text : Use → List ℕ
use_text u = word (codes "(") ++ (u.head.name ++ (spaced term_text u.args ++ word (codes ")")))

-- `x - t`, the type always with it
unfoldable pub typed_text : TypedName → List ℕ
typed_text x = x.name.name ++ (word (codes " - ") ++ x.kind.name)

unfoldable pub variable_text : TypedName → List ℕ
variable_text x = word (codes "?") ++ typed_text x

-- the variables of a list in its parentheses
abbrev pub listed : List TypedName → List ℕ
listed [] = []
listed (x ∷ xs) = variable_text x ++ spaced variable_text xs

unfoldable pub variables_text : List TypedName → List ℕ
variables_text xs = word (codes "(") ++ (listed xs ++ word (codes ")"))

-- so many digits, with zeros in front
unfoldable pub padded : ℕ → ℕ → List ℕ
padded places n = replicate (places - length (decimal n)) 48 ++ decimal n

-- a point before the last so many digits, and none where there are to be none behind it
unfoldable pub pointed : ℕ → List ℕ → List ℕ
pointed zero digits = digits
pointed (suc places) digits =
    take (length digits - suc places) digits ++ (word (codes ".") ++ drop (length digits - suc places) digits)

-- `digits / 10^places`: at least one digit before the point
unfoldable pub number_text : ℕ → ℕ → List ℕ
number_text digits places = pointed places (padded (suc places) digits)

abbrev pub sign_text : Bool → List ℕ
sign_text true = word (codes "-")
sign_text false = []

unfoldable pub literal_text : Literal → List ℕ
literal_text n = sign_text n.negative ++ number_text n.digits n.places

abbrev pub comparison_text : Comparison → List ℕ
comparison_text Less = word (codes "<")
comparison_text AtMost = word (codes "<=")
comparison_text Equal = word (codes "=")
comparison_text AtLeast = word (codes ">=")
comparison_text Greater = word (codes ">")
