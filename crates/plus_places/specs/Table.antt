-- The grammar of PDDL+ as a table. What may still be wanted of a text is a list of symbols, the next one first; a symbol and
-- a token give the symbols that are wanted in its place behind that token, or nothing, where no text of the grammar goes on
-- with it. Each symbol takes one token, so nothing is looked ahead and nothing is taken back. The laws of this crate say
-- that the tokens that the table takes are those of the relation in `plus_parser`.
use Rattle.std.specs.Prelude.{Bool, true, false, ◌&&◌, List, [], ◌∷◌, ◌++◌, Option, Some, None, is_some, if◌then◌else◌, codes}
use Rattle.plus_tokens.specs.declared.token.Kind.{Kind}
use Rattle.plus_tokens.specs.declared.token.Kind.TheVariants as kinds
use Rattle.plus_tree.specs.declared.terms.Comparison.TheVariants.{Equal}
use Rattle.plus_parser.specs.declared.phrases.words.Allowed.TheVariants as allows
use Rattle.plus_parser.specs.declared.phrases.words.HeadWord.{HeadWord}
use Rattle.plus_parser.specs.declared.phrases.words.HeadWord.TheVariants.{Nothing, And, Or, Not, Imply, ForAll, Exists, When, Change, Compare, Plain}
use Rattle.plus_parser.specs.declared.phrases.words.ExprWord.{ExprWord}
use Rattle.plus_parser.specs.declared.phrases.words.ExprWord.TheVariants as exprs
use Rattle.plus_tokens.specs.Items.{Piece}
use Rattle.plus_parser.specs.Phrases.Reading.{is_open}
use Rattle.plus_parser.specs.Phrases.Literals.{literal_of}
use Rattle.plus_parser.specs.Phrases.Words.{head_of, expr_head, is_close, is_name, is_plain, is_word, is_keyword, is_term, is_allowed, is_time, is_minus}
use Rattle.plus_parser.specs.Forms.ReadingForms.{may_be_same}
use Rattle.plus_parser.specs.declared.keywords.ProblemWord.{ProblemWord}
use Rattle.plus_parser.specs.declared.keywords.ProblemWord.TheVariants as problems
use Rattle.plus_parser.specs.declared.keywords.KeyWord.{KeyWord}
use Rattle.plus_parser.specs.declared.keywords.KeyWord.TheVariants as keys
use Rattle.plus_parser.specs.declared.keywords.DomainWord.{DomainWord}
use Rattle.plus_parser.specs.declared.keywords.DomainWord.TheVariants as domains
use Rattle.plus_parser.specs.Keywords.{problem_part_of, key_of, domain_part_of}
use Rattle.plus_parser.specs.declared.constraints.RuleWord.{RuleWord}
use Rattle.plus_parser.specs.declared.constraints.RuleWord.TheVariants as rules
use Rattle.plus_parser.specs.ReadingConstraints.{rule_word_of}
use Rattle.plus_places.specs.declared.symbols.KeysMet.{KeysMet}
use Rattle.plus_places.specs.declared.symbols.DomainMet.{DomainMet}
use Rattle.plus_places.specs.declared.symbols.Met.{Met}
use Rattle.plus_places.specs.declared.symbols.Symbol.{Symbol}
use Rattle.plus_places.specs.declared.symbols.Symbol.TheVariants as sy

-- ---- what a token gives

-- the symbols wanted behind a token, or none, where it is refused
abbrev pub Wanted : Type 0
Wanted = Option (List Symbol)

abbrev pub accept : Bool → List Symbol → Wanted
accept b ks = if b then Some ks else None

-- the closing parenthesis, or what else
abbrev pub close_or : Kind → Wanted → Wanted
close_or kind other = if is_close kind then Some [] else other

-- a part that may stand once, where it was met already or not
abbrev pub once : Bool → List Symbol → Wanted
once met ks = if met then None else Some ks

-- ---- expressions

-- an expression, and what is wanted behind it
abbrev pub expr_kind : Kind → Bool → List Symbol → Wanted
expr_kind kinds.Open number behind = Some (sy.ExprInside ∷ behind)
expr_kind kinds.Clock number behind = Some behind
expr_kind _ number behind = accept number behind

abbrev pub expr_first : Piece → List Symbol → Wanted
expr_first p behind = expr_kind p.kind (is_some (literal_of p)) behind

abbrev pub expr_inside : ExprWord → Wanted
expr_inside exprs.Sum = Some (sy.Expr ∷ sy.Expr ∷ sy.Exprs ∷ [])
expr_inside exprs.Product = Some (sy.Expr ∷ sy.Expr ∷ sy.Exprs ∷ [])
expr_inside exprs.Minus = Some (sy.Expr ∷ sy.MinusEnd ∷ [])
expr_inside exprs.Quotient = Some (sy.Expr ∷ sy.Expr ∷ sy.Close ∷ [])
expr_inside exprs.Plain = Some (sy.Arguments allows.Terms ∷ [])
expr_inside exprs.Other = None

-- ---- conditions

abbrev pub cond_inside : HeadWord → Wanted
cond_inside Nothing = Some []
cond_inside And = Some (sy.Conds ∷ [])
cond_inside Or = Some (sy.Conds ∷ [])
cond_inside Not = Some (sy.Cond ∷ sy.Close ∷ [])
cond_inside Imply = Some (sy.Cond ∷ sy.Cond ∷ sy.Close ∷ [])
cond_inside ForAll = Some (sy.Variables ∷ sy.Cond ∷ sy.Close ∷ [])
cond_inside Exists = Some (sy.Variables ∷ sy.Cond ∷ sy.Close ∷ [])
cond_inside (Compare sign) = Some (sy.Compared (may_be_same sign) ∷ [])
cond_inside Plain = Some (sy.Arguments allows.Terms ∷ [])
cond_inside _ = None

-- ---- effects

abbrev pub leaf_inside : HeadWord → Wanted
leaf_inside Not = Some (sy.Use allows.Terms ∷ sy.Close ∷ [])
leaf_inside (Change change) = Some (sy.Use allows.Terms ∷ sy.Expr ∷ sy.Close ∷ [])
leaf_inside Plain = Some (sy.Arguments allows.Terms ∷ [])
leaf_inside _ = None

abbrev pub simple_inside : HeadWord → Wanted
simple_inside Nothing = Some []
simple_inside And = Some (sy.Leaves ∷ [])
simple_inside h = leaf_inside h

abbrev pub effect_inside : HeadWord → Wanted
effect_inside Nothing = Some []
effect_inside And = Some (sy.Effects ∷ [])
effect_inside ForAll = Some (sy.Variables ∷ sy.Effect ∷ sy.Close ∷ [])
effect_inside When = Some (sy.Cond ∷ sy.Simple ∷ sy.Close ∷ [])
effect_inside h = leaf_inside h

-- ---- the first state

-- behind the name `at` it depends on the next token whether a literal with its time begins
abbrev pub init_inside : Piece → HeadWord → Wanted
init_inside p Plain = Some ((if is_word (codes "at") p then sy.AtEnd else sy.Arguments allows.Names) ∷ [])
init_inside p Not = Some (sy.Use allows.Names ∷ sy.Close ∷ [])
init_inside p (Compare Equal) = Some (sy.Use allows.Names ∷ sy.Number ∷ sy.Close ∷ [])
init_inside p _ = None

abbrev pub timed_inside : HeadWord → Wanted
timed_inside Plain = Some (sy.Arguments allows.Terms ∷ [])
timed_inside Not = Some (sy.Use allows.Terms ∷ sy.Close ∷ [])
timed_inside _ = None

-- ---- the sections of a problem

-- any tokens up to the parenthesis that closes
abbrev pub balanced : Kind → Wanted
balanced kinds.Open = Some (sy.Balanced ∷ sy.Balanced ∷ [])
balanced kinds.Close = Some []
balanced _ = Some (sy.Balanced ∷ [])

abbrev pub all_met : Met → Bool
all_met m = m.metric && (m.requirements && (m.objects && (m.domain && (m.init && m.goal))))

-- a problem has `:domain`, `:init` and `:goal`
abbrev pub none_missing : Met → Bool
none_missing m = m.domain && (m.init && m.goal)

-- a section, where these stand already
abbrev pub section_of : Met → ProblemWord → Wanted
section_of m problems.Domain = once m.domain (sy.Name ∷ sy.Close ∷ sy.Sections (record m { domain = true }) ∷ [])
section_of m problems.Requirements =
    once m.requirements (sy.Requirements ∷ sy.Sections (record m { requirements = true }) ∷ [])
section_of m problems.Objects =
    once m.objects (sy.Listed allows.Names false ∷ sy.Sections (record m { objects = true }) ∷ [])
section_of m problems.Init = once m.init (sy.Inits ∷ sy.Sections (record m { init = true }) ∷ [])
section_of m problems.Goal = once m.goal (sy.Cond ∷ sy.Close ∷ sy.Sections (record m { goal = true }) ∷ [])
section_of m problems.Metric = once m.metric (sy.Balanced ∷ sy.Sections (record m { metric = true }) ∷ [])
section_of m problems.Other = None

-- ---- the sections of a domain

abbrev pub key_with : KeysMet → KeyWord → Wanted
key_with m keys.Parameters = once m.parameters (sy.Variables ∷ sy.Keys (record m { parameters = true }) ∷ [])
key_with m keys.Precondition = once m.condition (sy.Cond ∷ sy.Keys (record m { condition = true }) ∷ [])
key_with m keys.Effect = once m.effect (sy.Effect ∷ sy.Keys (record m { effect = true }) ∷ [])
key_with m keys.Other = None

abbrev pub no_keys_met : KeysMet
no_keys_met = record { parameters = false; condition = false; effect = false }

-- a section, where these stand already; actions, processes and events may stand as often as they will
abbrev pub domain_section_of : DomainMet → DomainWord → Wanted
domain_section_of m domains.Requirements =
    once m.requirements (sy.Requirements ∷ sy.DomainSections (record m { requirements = true }) ∷ [])
domain_section_of m domains.Types =
    once m.types (sy.Listed allows.Names false ∷ sy.DomainSections (record m { types = true }) ∷ [])
domain_section_of m domains.Constants =
    once m.constants (sy.Listed allows.Names false ∷ sy.DomainSections (record m { constants = true }) ∷ [])
domain_section_of m domains.Predicates =
    once m.predicates (sy.Heads ∷ sy.DomainSections (record m { predicates = true }) ∷ [])
domain_section_of m domains.Functions =
    once m.functions (sy.Functions false ∷ sy.DomainSections (record m { functions = true }) ∷ [])
domain_section_of m domains.Action = Some (sy.Name ∷ sy.Keys no_keys_met ∷ sy.DomainSections m ∷ [])
domain_section_of m domains.Process = Some (sy.Name ∷ sy.Keys no_keys_met ∷ sy.DomainSections m ∷ [])
domain_section_of m domains.Event = Some (sy.Name ∷ sy.Keys no_keys_met ∷ sy.DomainSections m ∷ [])
domain_section_of m domains.Other = None

-- ---- constraints

-- a constraint
abbrev pub constraint_inside : RuleWord → Wanted
constraint_inside rules.Always = Some (sy.Cond ∷ sy.Close ∷ [])
constraint_inside rules.Sometime = Some (sy.Cond ∷ sy.Close ∷ [])
constraint_inside rules.Within = Some (sy.Time ∷ sy.Cond ∷ sy.Close ∷ [])
constraint_inside rules.HoldAfter = Some (sy.Time ∷ sy.Cond ∷ sy.Close ∷ [])
constraint_inside _ = None

-- a list of them, or a single one
abbrev pub constraints_inside : RuleWord → Wanted
constraints_inside rules.And = Some (sy.ConstraintList ∷ [])
constraints_inside w = constraint_inside w

-- ---- the table

-- the symbols that take the place of one, behind a token
abbrev pub step : Symbol → Piece → Wanted
step sy.Open p = accept (is_open p.kind) []
step sy.Close p = accept (is_close p.kind) []
step sy.Name p = accept (is_name p.kind) []
step sy.Plain p = accept (is_plain p) []
step sy.Number p = accept (is_some (literal_of p)) []
step sy.Term p = accept (is_term p.kind) []
step sy.Define p = accept (is_word (codes "define") p) []
step sy.ProblemWord p = accept (is_word (codes "problem") p) []
step sy.Requirements p = close_or p.kind (accept (is_keyword p.kind) (sy.Requirements ∷ []))
step (sy.Arguments a) p = close_or p.kind (accept (is_allowed a p.kind) (sy.Arguments a ∷ []))
step (sy.Use a) p = accept (is_open p.kind) (sy.Plain ∷ sy.Arguments a ∷ [])
step (sy.Listed a waiting) p =
    close_or p.kind (if is_allowed a p.kind then Some (sy.Listed a true ∷ [])
    else accept (is_minus p.kind && waiting) (sy.Name ∷ sy.Listed a false ∷ []))
step sy.Variables p = accept (is_open p.kind) (sy.Listed allows.Variables false ∷ [])
step sy.Expr p = expr_first p []
step sy.ExprInside p = expr_inside (expr_head p)
step sy.Exprs p = close_or p.kind (expr_first p (sy.Exprs ∷ []))
step sy.MinusEnd p = close_or p.kind (expr_first p (sy.Close ∷ []))
step sy.Cond p = accept (is_open p.kind) (sy.CondInside ∷ [])
step sy.CondInside p = cond_inside (head_of p)
step sy.Conds p = close_or p.kind (accept (is_open p.kind) (sy.CondInside ∷ sy.Conds ∷ []))
step (sy.Compared same) p =
    if same && is_term p.kind then Some (sy.Term ∷ sy.Close ∷ []) else expr_first p (sy.Expr ∷ sy.Close ∷ [])
step sy.Inits p = close_or p.kind (accept (is_open p.kind) (sy.InitInside ∷ sy.Inits ∷ []))
step sy.InitInside p = init_inside p (head_of p)
step sy.AtEnd p =
    if is_time p then Some (sy.Timed ∷ sy.Close ∷ [])
    else close_or p.kind (accept (is_allowed allows.Names p.kind) (sy.Arguments allows.Names ∷ []))
step sy.Timed p = accept (is_open p.kind) (sy.TimedInside ∷ [])
step sy.TimedInside p = timed_inside (head_of p)
step sy.Balanced p = balanced p.kind
step (sy.Sections m) p =
    if is_close p.kind then accept (none_missing m) []
    else (if is_open p.kind then once (all_met m) (sy.Section m ∷ []) else None)
step (sy.Section m) p = if all_met m then Some (sy.Sections m ∷ []) else section_of m (problem_part_of p)
step sy.DomainWord p = accept (is_word (codes "domain") p) []
step sy.Effect p = accept (is_open p.kind) (sy.EffectInside ∷ [])
step sy.EffectInside p = effect_inside (head_of p)
step sy.Effects p = close_or p.kind (accept (is_open p.kind) (sy.EffectInside ∷ sy.Effects ∷ []))
step sy.Simple p = accept (is_open p.kind) (sy.SimpleInside ∷ [])
step sy.SimpleInside p = simple_inside (head_of p)
step sy.LeafInside p = leaf_inside (head_of p)
step sy.Leaves p = close_or p.kind (accept (is_open p.kind) (sy.LeafInside ∷ sy.Leaves ∷ []))
step sy.HeadInside p = accept (is_plain p) (sy.Listed allows.Variables false ∷ [])
step sy.Heads p = close_or p.kind (accept (is_open p.kind) (sy.HeadInside ∷ sy.Heads ∷ []))
step sy.NumberWord p = accept (is_word (codes "number") p) []
step (sy.Functions untyped) p =
    close_or p.kind (if is_open p.kind then Some (sy.HeadInside ∷ sy.Functions true ∷ [])
    else accept (is_minus p.kind && untyped) (sy.NumberWord ∷ sy.Functions false ∷ []))
step (sy.Keys m) p = close_or p.kind (key_with m (key_of p))
step (sy.DomainSections m) p = close_or p.kind (accept (is_open p.kind) (sy.DomainSection m ∷ []))
step (sy.DomainSection m) p = domain_section_of m (domain_part_of p)
step sy.Time p = accept (is_time p) []
step sy.Constraints p = accept (is_open p.kind) (sy.ConstraintsInside ∷ [])
step sy.ConstraintsInside p = constraints_inside (rule_word_of p)
step sy.ConstraintList p = close_or p.kind (accept (is_open p.kind) (sy.ConstraintInside ∷ sy.ConstraintList ∷ []))
step sy.ConstraintInside p = constraint_inside (rule_word_of p)

-- ---- several tokens

abbrev pub run_with : Wanted → (List Symbol → Wanted) → Wanted
run_with None more = None
run_with (Some ks) more = more ks

-- the symbols that are wanted behind these tokens, where none of them is refused
unfoldable pub run : List Symbol → List Piece → Wanted
run st [] = Some st
run [] (p ∷ ps) = None
run (s ∷ st) (p ∷ ps) = run_with (step s p) (λ ks. run (ks ++ st) ps)

-- ---- the whole of a text

abbrev pub none_met : Met
none_met = record { domain = false; requirements = false; objects = false; init = false; goal = false; metric = false }

-- a problem
abbrev pub problem_symbols : List Symbol
problem_symbols = sy.Open ∷ sy.Define ∷ sy.Open ∷ sy.ProblemWord ∷ sy.Name ∷ sy.Close ∷ sy.Sections none_met ∷ []

abbrev pub no_sections : DomainMet
no_sections = record { requirements = false; types = false; constants = false; predicates = false; functions = false }

-- a domain
abbrev pub domain_symbols : List Symbol
domain_symbols = sy.Open ∷ sy.Define ∷ sy.Open ∷ sy.DomainWord ∷ sy.Name ∷ sy.Close ∷ sy.DomainSections no_sections ∷ []

-- constraints
abbrev pub constraint_symbols : List Symbol
constraint_symbols = sy.Constraints ∷ []
