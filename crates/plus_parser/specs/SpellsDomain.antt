-- Which texts spell a domain.
use Rattle.std.specs.Prelude.{◌≡◌, ℕ, true, false, List, [], ◌∷◌, ◌++◌, map, Option, Some, None, is_some, if◌then◌else◌, codes}
use Rattle.plus_tokens.specs.declared.token.Kind.TheVariants as kinds
use Rattle.plus_tokens.specs.declared.span.Span.{Span}
use Rattle.plus_tree.specs.declared.names.Spelled.{Spelled}
use Rattle.plus_tree.specs.declared.terms.TypedName.{TypedName}
use Rattle.plus_tree.specs.declared.trees.Head.{Head}
use Rattle.plus_tree.specs.declared.trees.Schema.{Schema}
use Rattle.plus_tree.specs.declared.trees.Domain.{Domain}
use Rattle.plus_tree.specs.Cond.{Cond}
use Rattle.plus_tree.specs.Effect.{Effect}
use Rattle.plus_parser.specs.declared.parts.Keys.{Keys}
use Rattle.plus_parser.specs.declared.parts.DomainParts.{DomainParts}
use Rattle.plus_parser.specs.declared.parts.Functions.{Functions}
use Rattle.plus_tokens.specs.declared.token.Op.TheVariants.{Minus}
use Rattle.plus_parser.specs.declared.keywords.KeyWord.TheVariants as keys
use Rattle.plus_parser.specs.declared.keywords.DomainWord.TheVariants as domains
use Rattle.plus_tokens.specs.Items.{Piece, tok, items_of}
use Rattle.plus_parser.specs.Keywords.{key_of, domain_part_of}
use Rattle.plus_parser.specs.declared.phrases.words.Allowed.TheVariants.{Names, Variables}
use Rattle.plus_parser.specs.Phrases.Grammar.{around, spelled_of, bare_of, Listing}
use Rattle.plus_parser.specs.ReadingDomain.{types_of, no_functions, no_keys, no_parts, schema_made, domain_made}
use Rattle.plus_parser.specs.Phrases.Spells.{IsOpen, IsClose, IsName, IsWord, IsSign, IsPlain, Wrapped, Chain, added, SpellsListing, SpellsList, SpellsVariables, FitsDepth}
use Rattle.plus_parser.specs.Forms.SpellsForms.{SpellsCond, SpellsEffect}

abbrev pub SpellsRequirement : Spelled → List Piece → Type 0
SpellsRequirement x ts = (p : Piece) × (p.kind ≡ kinds.Keyword) × (x ≡ bare_of p) × (ts ≡ p ∷ [])

-- the types of a domain, with the type above each
abbrev pub SpellsTypes : List TypedName → List Piece → Type 0
SpellsTypes xs ts = (found : Listing) × SpellsListing Names found ts × (types_of found ≡ xs)

-- `(at ?x - ship ?y)`
abbrev pub SpellsHead : Head → List Piece → Type 0
SpellsHead h ts =
    (n : Piece) × (inner : List Piece) × IsPlain n × Wrapped h.span (n ∷ inner) ts × (h.name ≡ spelled_of n) × SpellsList Variables h.params inner

-- ---- functions

pub data FunctionPart : Type 0 where
  f_head : Head → FunctionPart
  f_number : FunctionPart

-- a function, or the type `- number` of those before it
abbrev pub SpellsFunctionPart : FunctionPart → List Piece → Type 0
SpellsFunctionPart (f_head h) ts = SpellsHead h ts
SpellsFunctionPart f_number ts = (m : Piece) × (n : Piece) × IsSign Minus m × IsWord (codes "number") n × (ts ≡ m ∷ n ∷ [])

-- a type follows a function
abbrev pub with_function : Functions → FunctionPart → Option Functions
with_function fs (f_head h) = Some (record { heads = fs.heads ++ h ∷ []; untyped = true })
with_function fs f_number = if fs.untyped then Some (record fs { untyped = false }) else None

-- the functions `hs`, with types or without
pub record SpellsFunctions (hs : List Head) (ts : List Piece) : Type 0 where
  pub parts : List FunctionPart
  pub found : Functions
  pub spelled : Chain SpellsFunctionPart parts ts
  pub typed : added with_function no_functions parts ≡ Some found
  pub are : found.heads ≡ hs

-- ---- actions, processes and events

pub data Key : Type 0 where
  k_parameters : List TypedName → Key
  k_condition : Cond → Key
  k_effect : Effect → Key

abbrev pub SpellsKey : Key → List Piece → Type 0
SpellsKey (k_parameters vs) ts =
    (k : Piece) × (inner : List Piece) × (key_of k ≡ keys.Parameters) × SpellsVariables vs inner × (ts ≡ k ∷ inner)
SpellsKey (k_condition c) ts =
    (k : Piece) × (inner : List Piece) × (key_of k ≡ keys.Precondition) × SpellsCond c inner × (ts ≡ k ∷ inner)
SpellsKey (k_effect e) ts =
    (k : Piece) × (inner : List Piece) × (key_of k ≡ keys.Effect) × SpellsEffect e inner × (ts ≡ k ∷ inner)

-- each key at most once
abbrev pub with_key : Keys → Key → Option Keys
with_key ks (k_parameters vs) = if is_some ks.parameters then None else Some (record ks { parameters = Some vs })
with_key ks (k_condition c) = if is_some ks.condition then None else Some (record ks { condition = Some c })
with_key ks (k_effect e) = if is_some ks.effect then None else Some (record ks { effect = Some e })

-- A name, and keys in any order. What is not written has no members, and stands from 0 to 0.
pub record SpellsSchema (s : Schema) (ts : List Piece) : Type 0 where
  pub name : Piece
  pub body : List Piece
  pub keys : List Key
  pub found : Keys
  pub is_name : IsName name
  pub spelled : Chain SpellsKey keys body
  pub once : added with_key no_keys keys ≡ Some found
  pub whole : ts ≡ name ∷ body
  pub is : s ≡ schema_made (spelled_of name) found s.span

-- ---- sections

pub data DomainPart : Type 0 where
  d_requirements : List Spelled → DomainPart
  d_types : List TypedName → DomainPart
  d_constants : List TypedName → DomainPart
  d_predicates : List Head → DomainPart
  d_functions : List Head → DomainPart
  d_action : Schema → DomainPart
  d_process : Schema → DomainPart
  d_event : Schema → DomainPart

abbrev pub SpellsDomainPart : DomainPart → List Piece → Type 0
SpellsDomainPart (d_requirements xs) ts =
    (s : Span) × (k : Piece) × (body : List Piece) × (domain_part_of k ≡ domains.Requirements) × Wrapped s (k ∷ body) ts × Chain SpellsRequirement xs body
SpellsDomainPart (d_types xs) ts =
    (s : Span) × (k : Piece) × (body : List Piece) × (domain_part_of k ≡ domains.Types) × Wrapped s (k ∷ body) ts × SpellsTypes xs body
SpellsDomainPart (d_constants xs) ts =
    (s : Span) × (k : Piece) × (body : List Piece) × (domain_part_of k ≡ domains.Constants) × Wrapped s (k ∷ body) ts × SpellsList Names xs body
SpellsDomainPart (d_predicates hs) ts =
    (s : Span) × (k : Piece) × (body : List Piece) × (domain_part_of k ≡ domains.Predicates) × Wrapped s (k ∷ body) ts × Chain SpellsHead hs body
SpellsDomainPart (d_functions hs) ts =
    (s : Span) × (k : Piece) × (body : List Piece) × (domain_part_of k ≡ domains.Functions) × Wrapped s (k ∷ body) ts × SpellsFunctions hs body
SpellsDomainPart (d_action x) ts =
    (s : Span) × (k : Piece) × (body : List Piece) × (domain_part_of k ≡ domains.Action) × Wrapped s (k ∷ body) ts × SpellsSchema x body × (x.span ≡ s)
SpellsDomainPart (d_process x) ts =
    (s : Span) × (k : Piece) × (body : List Piece) × (domain_part_of k ≡ domains.Process) × Wrapped s (k ∷ body) ts × SpellsSchema x body × (x.span ≡ s)
SpellsDomainPart (d_event x) ts =
    (s : Span) × (k : Piece) × (body : List Piece) × (domain_part_of k ≡ domains.Event) × Wrapped s (k ∷ body) ts × SpellsSchema x body × (x.span ≡ s)

-- each section but actions, processes and events at most once
abbrev pub with_domain_part : DomainParts → DomainPart → Option DomainParts
with_domain_part ps (d_requirements xs) = if is_some ps.requirements then None else Some (record ps { requirements = Some xs })
with_domain_part ps (d_types xs) = if is_some ps.types then None else Some (record ps { types = Some xs })
with_domain_part ps (d_constants xs) = if is_some ps.constants then None else Some (record ps { constants = Some xs })
with_domain_part ps (d_predicates hs) = if is_some ps.predicates then None else Some (record ps { predicates = Some hs })
with_domain_part ps (d_functions hs) = if is_some ps.functions then None else Some (record ps { functions = Some hs })
with_domain_part ps (d_action x) = Some (record ps { actions = ps.actions ++ x ∷ [] })
with_domain_part ps (d_process x) = Some (record ps { processes = ps.processes ++ x ∷ [] })
with_domain_part ps (d_event x) = Some (record ps { events = ps.events ++ x ∷ [] })

-- ---- the whole

-- `(define (WORD NAME)`, then the body, then `)`
pub record Framed (word : List ℕ) (name : Spelled) (span : Span) (body ts : List Piece) : Type 0 where
  pub first : Piece
  pub define : Piece
  pub inner : Piece
  pub kind : Piece
  pub named : Piece
  pub close : Piece
  pub last : Piece
  pub opens : IsOpen first × IsOpen inner
  pub closes : IsClose close × IsClose last
  pub words : IsWord (codes "define") define × IsWord word kind
  pub is_name : IsName named
  pub name_is : name ≡ spelled_of named
  pub place : span ≡ around first.span last.span
  pub whole : ts ≡ first ∷ define ∷ inner ∷ kind ∷ named ∷ close ∷ (body ++ last ∷ [])

-- the tokens of a domain: sections in any order
pub record DomainTokens (d : Domain) (ts : List Piece) : Type 0 where
  pub body : List Piece
  pub parts : List DomainPart
  pub found : DomainParts
  pub frame : Framed (codes "domain") d.name d.span body ts
  pub spelled : Chain SpellsDomainPart parts body
  pub once : added with_domain_part no_parts parts ≡ Some found
  pub is : d ≡ domain_made d.name found d.span

-- the text spells the domain: its tokens do, and nothing else stands in it
abbrev pub Spells : List ℕ → Domain → Type 0
Spells text d = (ts : List Piece) × (items_of text ≡ map tok ts) × DomainTokens d ts

-- the same, with no more than so many parentheses open at once
abbrev pub SpellsWithin : ℕ → List ℕ → Domain → Type 0
SpellsWithin depth text d = (ts : List Piece) × (items_of text ≡ map tok ts) × DomainTokens d ts × FitsDepth depth ts
