-- Which texts spell a problem.
use Rattle.std.specs.Prelude.{◌≡◌, ℕ, List, [], ◌∷◌, ◌++◌, map, Option, Some, None, is_some, if◌then◌else◌, codes, true}
use Rattle.plus_tokens.specs.declared.span.Span.{Span}
use Rattle.plus_tree.specs.declared.names.Spelled.{Spelled}
use Rattle.plus_tree.specs.declared.terms.TypedName.{TypedName}
use Rattle.plus_tree.specs.declared.trees.Init.{Init}
use Rattle.plus_tree.specs.declared.trees.Init.TheVariants.{Holds, Absent, Value, At, AtNot}
use Rattle.plus_tree.specs.declared.terms.Use.{Use}
use Rattle.plus_tree.specs.declared.terms.Literal.{Literal}
use Rattle.plus_tokens.specs.declared.token.Op.TheVariants.{Equal}
use Rattle.plus_tree.specs.declared.trees.Problem.{Problem}
use Rattle.plus_tree.specs.Cond.{Cond}
use Rattle.plus_parser.specs.declared.parts.ProblemParts.{ProblemParts}
use Rattle.plus_parser.specs.declared.keywords.ProblemWord.TheVariants as problems
use Rattle.plus_tokens.specs.Items.{Piece, tok, items_of}
use Rattle.plus_parser.specs.Keywords.{problem_part_of}
use Rattle.plus_parser.specs.declared.phrases.words.Allowed.{Allowed}
use Rattle.plus_parser.specs.declared.phrases.words.Allowed.TheVariants.{Names, Terms}
use Rattle.plus_parser.specs.Phrases.Words.{is_time}
use Rattle.plus_parser.specs.Phrases.Grammar.{spelled_of}
use Rattle.plus_parser.specs.ReadingProblem.{no_problem_parts, problem_made}
use Rattle.plus_parser.specs.Phrases.Spells.{IsName, IsWord, IsSign, IsNumber, Wrapped, Chain, added, SpellsUse, FitsDepth, SpellsList}
use Rattle.plus_parser.specs.Balanced.{IsBalanced}
use Rattle.plus_parser.specs.Forms.SpellsForms.{SpellsCond}
use Rattle.plus_parser.specs.SpellsDomain.{SpellsRequirement, Framed}

-- `(not (locked))`
abbrev pub SpellsNot : Allowed → Use → Span → List Piece → Type 0
SpellsNot allowed u s ts =
    (a : Piece) × (inner : List Piece) × IsWord (codes "not") a × Wrapped s (a ∷ inner) ts × SpellsUse allowed u inner

-- the token is this number, without a sign
abbrev pub IsTime : Literal → Piece → Type 0
IsTime t p = IsNumber t p × (is_time p ≡ true)

-- `(at 2.5 ..)`: behind the time stands what becomes true or false then
abbrev pub SpellsTimed : Literal → Span → (List Piece → Type 0) → List Piece → Type 0
SpellsTimed t s Spelled ts =
    (a : Piece) × (p : Piece) × (inner : List Piece) × IsWord (codes "at") a × IsTime t p × Wrapped s (a ∷ p ∷ inner) ts × Spelled inner

-- `(locked)`, `(not (locked))`, `(= (fuel) 3)`, `(at 2 (locked))` and `(at 2 (not (locked)))`
abbrev pub SpellsInit : Init → List Piece → Type 0
SpellsInit (Holds u) ts = SpellsUse Names u ts
SpellsInit (Absent u s) ts = SpellsNot Names u s ts
SpellsInit (At t u s) ts = SpellsTimed t s (SpellsUse Terms u) ts
SpellsInit (AtNot t u s) ts = SpellsTimed t s (λ inner. (place : Span) × SpellsNot Terms u place inner) ts
SpellsInit (Value u n s) ts =
    (a : Piece) × (inner : List Piece) × (p : Piece) × IsSign Equal a × Wrapped s (a ∷ (inner ++ p ∷ [])) ts × SpellsUse Names u inner × IsNumber n p

pub data ProblemPart : Type 0 where
  p_domain : Spelled → ProblemPart
  p_requirements : List Spelled → ProblemPart
  p_objects : List TypedName → ProblemPart
  p_init : List Init → ProblemPart
  p_goal : Cond → ProblemPart
  p_metric : ProblemPart

abbrev pub SpellsProblemPart : ProblemPart → List Piece → Type 0
SpellsProblemPart (p_domain x) ts =
    (s : Span) × (k : Piece) × (n : Piece) × (problem_part_of k ≡ problems.Domain) × Wrapped s (k ∷ n ∷ []) ts × IsName n × (x ≡ spelled_of n)
SpellsProblemPart (p_requirements xs) ts =
    (s : Span) × (k : Piece) × (body : List Piece) × (problem_part_of k ≡ problems.Requirements) × Wrapped s (k ∷ body) ts × Chain SpellsRequirement xs body
SpellsProblemPart (p_objects xs) ts =
    (s : Span) × (k : Piece) × (body : List Piece) × (problem_part_of k ≡ problems.Objects) × Wrapped s (k ∷ body) ts × SpellsList Names xs body
SpellsProblemPart (p_init xs) ts =
    (s : Span) × (k : Piece) × (body : List Piece) × (problem_part_of k ≡ problems.Init) × Wrapped s (k ∷ body) ts × Chain SpellsInit xs body
SpellsProblemPart (p_goal c) ts =
    (s : Span) × (k : Piece) × (body : List Piece) × (problem_part_of k ≡ problems.Goal) × Wrapped s (k ∷ body) ts × SpellsCond c body
SpellsProblemPart p_metric ts =
    (s : Span) × (k : Piece) × (body : List Piece) × (problem_part_of k ≡ problems.Metric) × Wrapped s (k ∷ body) ts × IsBalanced body

-- each section at most once
abbrev pub with_problem_part : ProblemParts → ProblemPart → Option ProblemParts
with_problem_part ps (p_domain x) = if is_some ps.domain then None else Some (record ps { domain = Some x })
with_problem_part ps (p_requirements xs) = if is_some ps.requirements then None else Some (record ps { requirements = Some xs })
with_problem_part ps (p_objects xs) = if is_some ps.objects then None else Some (record ps { objects = Some xs })
with_problem_part ps (p_init xs) = if is_some ps.init then None else Some (record ps { init = Some xs })
with_problem_part ps (p_goal c) = if is_some ps.goal then None else Some (record ps { goal = Some c })
with_problem_part ps p_metric = if ps.metric then None else Some (record ps { metric = true })

-- the tokens of a problem: sections in any order, of which `:domain`, `:init` and `:goal` must stand
pub record ProblemTokens (p : Problem) (ts : List Piece) : Type 0 where
  pub body : List Piece
  pub parts : List ProblemPart
  pub found : ProblemParts
  pub frame : Framed (codes "problem") p.name p.span body ts
  pub spelled : Chain SpellsProblemPart parts body
  pub once : added with_problem_part no_problem_parts parts ≡ Some found
  pub is : problem_made p.name found p.span ≡ Some p

-- the text spells the problem: its tokens do, and nothing else stands in it
abbrev pub SpellsProblem : List ℕ → Problem → Type 0
SpellsProblem text p = (ts : List Piece) × (items_of text ≡ map tok ts) × ProblemTokens p ts

-- the same, with no more than so many parentheses open at once
abbrev pub SpellsProblemWithin : ℕ → List ℕ → Problem → Type 0
SpellsProblemWithin depth text p = (ts : List Piece) × (items_of text ≡ map tok ts) × ProblemTokens p ts × FitsDepth depth ts
