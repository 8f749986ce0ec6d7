-- Which tokens spell a schema, a domain, a problem and constraints: by groups and by counts.
use Rattle.std.specs.Prelude.{◌≡◌, ◌⊎◌, List, [], ◌∷◌, ◌++◌, codes}
use Rattle.plus_tokens.specs.declared.span.Span.{Span}
use Rattle.plus_tree.specs.declared.trees.Schema.{Schema}
use Rattle.plus_tree.specs.declared.trees.Domain.{Domain}
use Rattle.plus_tree.specs.declared.trees.Problem.{Problem}
use Rattle.plus_tree.specs.declared.trees.Constraint.{Constraint}
use Rattle.plus_parser.specs.declared.phrases.words.Allowed.TheVariants.{Names}
use Rattle.plus_tokens.specs.Items.{Piece}
use Rattle.plus_parser.specs.Phrases.Grammar.{spelled_of}
use Rattle.plus_parser.specs.Phrases.Spells.{IsName, IsWord, Wrapped, Chain}
use Rattle.plus_parser.specs.declared.keywords.KeyWord.{KeyWord}
use Rattle.plus_parser.specs.declared.keywords.KeyWord.TheVariants as keys
use Rattle.plus_parser.specs.declared.keywords.DomainWord.{DomainWord}
use Rattle.plus_parser.specs.declared.keywords.DomainWord.TheVariants as domains
use Rattle.plus_parser.specs.declared.keywords.ProblemWord.{ProblemWord}
use Rattle.plus_parser.specs.declared.keywords.ProblemWord.TheVariants as problems
use Rattle.plus_parser.specs.Keywords.{key_of, domain_part_of, problem_part_of}
use Rattle.plus_parser.specs.SpellsDomain.{SpellsRequirement, Key, k_parameters, k_condition, k_effect, DomainPart, d_requirements, d_types, d_constants, d_predicates, d_functions, d_action, d_process, d_event, Framed}
use Rattle.plus_parser.specs.SpellsProblem.{SpellsInit, ProblemPart, p_domain, p_requirements, p_objects, p_init, p_goal, p_metric}
use Rattle.plus_parser.specs.SpellsConstraints.{SpellsRule}
use Rattle.plus_grammar.specs.Groups.{IsList, AreTypes, AreVariables, IsHead, AreFunctions}
use Rattle.plus_grammar.specs.Forms.{IsForm, IsCond, IsEffect}
use Rattle.plus_grammar.specs.Parentheses.{ArePaired}
use Rattle.plus_grammar.specs.Counts.{HasKeys, HasSections, HasSectionsOfProblem}

-- a key's word, and behind it these tokens
abbrev pub Follows : KeyWord → (List Piece → Type 0) → List Piece → Type 0
Follows word Inner ts = (k : Piece) × (inner : List Piece) × (key_of k ≡ word) × Inner inner × (ts ≡ k ∷ inner)

abbrev pub IsKey : Key → List Piece → Type 0
IsKey (k_parameters vs) ts = Follows keys.Parameters (AreVariables vs) ts
IsKey (k_condition c) ts = Follows keys.Precondition (IsCond c) ts
IsKey (k_effect e) ts = Follows keys.Effect (IsEffect e) ts

-- a name and keys, behind the word of the section
pub record IsSchema (s : Schema) (ts : List Piece) : Type 0 where
  pub name : Piece
  pub body : List Piece
  pub keys : List Key
  pub is_name : IsName name
  pub named : s.name ≡ spelled_of name
  pub spelled : Chain IsKey keys body
  pub has : HasKeys keys s
  pub whole : ts ≡ name ∷ body

-- a section: its word and these tokens, in parentheses
abbrev pub IsSection : DomainWord → Span → (List Piece → Type 0) → List Piece → Type 0
IsSection word s Inner ts = (k : Piece) × (body : List Piece) × (domain_part_of k ≡ word) × Wrapped s (k ∷ body) ts × Inner body

abbrev pub IsDomainPart : DomainPart → List Piece → Type 0
IsDomainPart (d_requirements xs) ts = (s : Span) × IsSection domains.Requirements s (Chain SpellsRequirement xs) ts
IsDomainPart (d_types xs) ts = (s : Span) × IsSection domains.Types s (AreTypes xs) ts
IsDomainPart (d_constants xs) ts = (s : Span) × IsSection domains.Constants s (IsList Names xs) ts
IsDomainPart (d_predicates hs) ts = (s : Span) × IsSection domains.Predicates s (Chain IsHead hs) ts
IsDomainPart (d_functions hs) ts = (s : Span) × IsSection domains.Functions s (AreFunctions hs) ts
IsDomainPart (d_action x) ts = IsSection domains.Action x.span (IsSchema x) ts
IsDomainPart (d_process x) ts = IsSection domains.Process x.span (IsSchema x) ts
IsDomainPart (d_event x) ts = IsSection domains.Event x.span (IsSchema x) ts

-- the tokens of a domain: sections in any order
pub record IsDomain (d : Domain) (ts : List Piece) : Type 0 where
  pub body : List Piece
  pub parts : List DomainPart
  pub frame : Framed (codes "domain") d.name d.span body ts
  pub spelled : Chain IsDomainPart parts body
  pub has : HasSections parts d

abbrev pub IsSectionOfProblem : ProblemWord → (List Piece → Type 0) → List Piece → Type 0
IsSectionOfProblem word Inner ts =
    (s : Span) × (k : Piece) × (body : List Piece) × (problem_part_of k ≡ word) × Wrapped s (k ∷ body) ts × Inner body

abbrev pub IsProblemPart : ProblemPart → List Piece → Type 0
IsProblemPart (p_domain x) ts = IsSectionOfProblem problems.Domain (λ body. (n : Piece) × IsName n × (x ≡ spelled_of n) × (body ≡ n ∷ [])) ts
IsProblemPart (p_requirements xs) ts = IsSectionOfProblem problems.Requirements (Chain SpellsRequirement xs) ts
IsProblemPart (p_objects xs) ts = IsSectionOfProblem problems.Objects (IsList Names xs) ts
IsProblemPart (p_init xs) ts = IsSectionOfProblem problems.Init (Chain SpellsInit xs) ts
IsProblemPart (p_goal c) ts = IsSectionOfProblem problems.Goal (IsCond c) ts
IsProblemPart p_metric ts = IsSectionOfProblem problems.Metric ArePaired ts

-- the tokens of a problem: sections in any order
pub record IsProblem (p : Problem) (ts : List Piece) : Type 0 where
  pub body : List Piece
  pub parts : List ProblemPart
  pub frame : Framed (codes "problem") p.name p.span body ts
  pub spelled : Chain IsProblemPart parts body
  pub has : HasSectionsOfProblem parts p

-- a rule, and behind it a condition, in parentheses
abbrev pub IsConstraint : Constraint → List Piece → Type 0
IsConstraint c ts =
    (left : List Piece) × (right : List Piece) × Wrapped c.span (left ++ right) ts × SpellsRule c.rule left × IsCond c.cond right

-- the tokens of constraints: a list, `(and ..)`, or a single one
abbrev pub AreConstraints : List Constraint → List Piece → Type 0
AreConstraints cs ts =
    ((s : Span) × IsForm (IsWord (codes "and")) s (Chain IsConstraint cs) ts) ⊎ ((c : Constraint) × (cs ≡ c ∷ []) × IsConstraint c ts)
