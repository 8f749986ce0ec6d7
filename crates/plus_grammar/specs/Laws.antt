-- That the grammar by groups and by counts is the one that a reader is held to.
use Rattle.std.specs.Prelude.{◌≡◌, ◌↔◌, ℕ, List, map, Some}
use Rattle.plus_tree.specs.declared.terms.TypedName.{TypedName}
use Rattle.plus_tree.specs.declared.trees.Head.{Head}
use Rattle.plus_tree.specs.declared.trees.Schema.{Schema}
use Rattle.plus_tree.specs.declared.trees.Domain.{Domain}
use Rattle.plus_tree.specs.declared.trees.Problem.{Problem}
use Rattle.plus_tree.specs.declared.trees.Constraint.{Constraint}
use Rattle.plus_tree.specs.Cond.{Cond}
use Rattle.plus_tree.specs.Effect.{Effect}
use Rattle.plus_parser.specs.declared.phrases.words.Allowed.{Allowed}
use Rattle.plus_tokens.specs.Items.{Piece, tok, items_of}
use Rattle.plus_parser.specs.Phrases.Spells.{added, SpellsList, FitsDepth}
use Rattle.plus_parser.specs.Forms.SpellsForms.{SpellsCond, SpellsEffect}
use Rattle.plus_parser.specs.declared.parts.Keys.{Keys}
use Rattle.plus_parser.specs.declared.parts.DomainParts.{DomainParts}
use Rattle.plus_parser.specs.declared.parts.ProblemParts.{ProblemParts}
use Rattle.plus_parser.specs.ReadingDomain.{no_keys, schema_made, no_parts, domain_made}
use Rattle.plus_parser.specs.ReadingProblem.{no_problem_parts, problem_made}
use Rattle.plus_parser.specs.Balanced.{IsBalanced}
use Rattle.plus_parser.specs.SpellsDomain.{SpellsTypes, SpellsFunctions, Key, with_key, SpellsSchema, DomainPart, with_domain_part, DomainTokens, SpellsWithin}
use Rattle.plus_parser.specs.SpellsProblem.{ProblemPart, with_problem_part, ProblemTokens, SpellsProblemWithin}
use Rattle.plus_parser.specs.SpellsConstraints.{ConstraintTokens, SpellsConstraintsWithin}
use Rattle.plus_grammar.specs.Groups.{IsList, AreTypes, AreFunctions}
use Rattle.plus_grammar.specs.Forms.{IsCond, IsEffect}
use Rattle.plus_grammar.specs.Parentheses.{IsWithin, ArePaired}
use Rattle.plus_grammar.specs.Counts.{HasKeys, HasSections, HasSectionsOfProblem}
use Rattle.plus_grammar.specs.Wholes.{IsSchema, IsDomain, IsProblem, AreConstraints}
use Rattle.plus_grammar.specs.Texts.{AreTokens, IsDomainText, IsProblemText, IsConstraintsText}

-- ---- groups

abbrev pub ListsByGroups : Type 0
ListsByGroups = (allowed : Allowed) (xs : List TypedName) (ts : List Piece) → SpellsList allowed xs ts ↔ IsList allowed xs ts

abbrev pub TypesByGroups : Type 0
TypesByGroups = (xs : List TypedName) (ts : List Piece) → SpellsTypes xs ts ↔ AreTypes xs ts

abbrev pub FunctionsByGroups : Type 0
FunctionsByGroups = (hs : List Head) (ts : List Piece) → SpellsFunctions hs ts ↔ AreFunctions hs ts

abbrev pub ConditionsByGroups : Type 0
ConditionsByGroups = (c : Cond) (ts : List Piece) → SpellsCond c ts ↔ IsCond c ts

abbrev pub EffectsByGroups : Type 0
EffectsByGroups = (e : Effect) (ts : List Piece) → SpellsEffect e ts ↔ IsEffect e ts

-- ---- counts: what a reader adds up part by part is made of the same parts

abbrev pub KeysByCounts : Type 0
KeysByCounts =
    (keys : List Key) (s : Schema)
    → ((found : Keys) × (added with_key no_keys keys ≡ Some found) × (s ≡ schema_made s.name found s.span)) ↔ HasKeys keys s

abbrev pub SectionsByCounts : Type 0
SectionsByCounts =
    (parts : List DomainPart) (d : Domain)
    → ((found : DomainParts) × (added with_domain_part no_parts parts ≡ Some found) × (d ≡ domain_made d.name found d.span)) ↔ HasSections parts d

abbrev pub ProblemsByCounts : Type 0
ProblemsByCounts =
    (parts : List ProblemPart) (p : Problem)
    → ((found : ProblemParts) × (added with_problem_part no_problem_parts parts ≡ Some found) × (problem_made p.name found p.span ≡ Some p))
    ↔ HasSectionsOfProblem parts p

-- ---- wholes

abbrev pub SchemasSpelled : Type 0
SchemasSpelled = (s : Schema) (ts : List Piece) → SpellsSchema s ts ↔ IsSchema s ts

abbrev pub DomainsSpelled : Type 0
DomainsSpelled = (d : Domain) (ts : List Piece) → DomainTokens d ts ↔ IsDomain d ts

abbrev pub ProblemsSpelled : Type 0
ProblemsSpelled = (p : Problem) (ts : List Piece) → ProblemTokens p ts ↔ IsProblem p ts

abbrev pub ConstraintsSpelled : Type 0
ConstraintsSpelled = (cs : List Constraint) (ts : List Piece) → ConstraintTokens cs ts ↔ AreConstraints cs ts

-- ---- texts

-- the tokens that a reader is handed are those that stand one behind the other
abbrev pub TokensSpelled : Type 0
TokensSpelled = (text : List ℕ) (ts : List Piece) → (items_of text ≡ map tok ts) ↔ AreTokens text 0 ts

-- so many parentheses may be open at once, which a reader counts down and up
abbrev pub DepthByCounts : Type 0
DepthByCounts = (depth : ℕ) (ts : List Piece) → FitsDepth depth ts ↔ IsWithin depth ts

-- each parenthesis has its other one, which a reader counts up and down
abbrev pub PairsByCounts : Type 0
PairsByCounts = (ts : List Piece) → IsBalanced ts ↔ ArePaired ts

abbrev pub DomainTexts : Type 0
DomainTexts = (depth : ℕ) (text : List ℕ) (d : Domain) → SpellsWithin depth text d ↔ IsDomainText depth text d

abbrev pub ProblemTexts : Type 0
ProblemTexts = (depth : ℕ) (text : List ℕ) (p : Problem) → SpellsProblemWithin depth text p ↔ IsProblemText depth text p

abbrev pub ConstraintTexts : Type 0
ConstraintTexts = (depth : ℕ) (text : List ℕ) (cs : List Constraint) → SpellsConstraintsWithin depth text cs ↔ IsConstraintsText depth text cs
