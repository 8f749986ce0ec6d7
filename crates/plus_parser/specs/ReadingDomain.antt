-- Reading a domain from tokens.
use Rattle.std.specs.Prelude.{ℕ, suc, ◌-◌, Bool, true, false, not, ◌&&◌, List, [], ◌∷◌, ◌++◌, length, filter, Option, Some, None, is_some, unwrap_or, Result, Ok, Err, if◌then◌else◌, codes}
use Rattle.plus_tokens.specs.declared.span.Span.{Span}
use Rattle.plus_tree.specs.declared.names.Spelled.{Spelled}
use Rattle.std.specs.Str.{bytes_eq}
use Rattle.plus_tree.specs.declared.terms.TypedName.{TypedName}
use Rattle.plus_tree.specs.declared.trees.Head.{Head}
use Rattle.plus_tree.specs.declared.trees.Schema.{Schema}
use Rattle.plus_tree.specs.declared.trees.Domain.{Domain}
use Rattle.plus_tree.specs.declared.faults.TextFault.{TextFault}
use Rattle.plus_tree.specs.declared.faults.TextFault.TheVariants as faults
use Rattle.plus_tree.specs.Cond.{Cond, c_all, no_conds}
use Rattle.plus_tree.specs.Effect.{Effect, e_all, no_effects}
use Rattle.plus_parser.specs.declared.parts.Keys.{Keys}
use Rattle.plus_parser.specs.declared.parts.DomainParts.{DomainParts}
use Rattle.plus_parser.specs.declared.parts.Functions.{Functions}
use Rattle.plus_parser.specs.declared.keywords.KeyWord.{KeyWord}
use Rattle.plus_parser.specs.declared.keywords.KeyWord.TheVariants as keys
use Rattle.plus_parser.specs.declared.keywords.DomainWord.{DomainWord}
use Rattle.plus_parser.specs.declared.keywords.DomainWord.TheVariants as domains
use Rattle.plus_tokens.specs.Items.{Piece, Item, tok, bad}
use Rattle.plus_parser.specs.Phrases.Reading.{◌>>=◌, Read, next_of, is_open}
use Rattle.plus_parser.specs.Phrases.Words.{is_keyword, is_minus}
use Rattle.plus_parser.specs.Keywords.{key_of, domain_part_of}
use Rattle.plus_parser.specs.declared.phrases.words.Allowed.TheVariants as allows
use Rattle.plus_parser.specs.Phrases.Grammar.{around, nowhere, spelled_of, bare_of, open_of, close_of, name_of, plain_of, word_of, Step, until_close, Former, form_step, Listing, no_names, list_step, all_typed, list_of, variables_of}
use Rattle.plus_parser.specs.Forms.ReadingForms.{cond_at, effect_at}

-- ---- requirements, types and predicates

unfoldable pub requirement_step : Step (List Spelled)
requirement_step xs p rest = if is_keyword p.kind then Ok (xs ++ bare_of p ∷ [], rest) else Err (faults.Form p.span)

-- any type but `object`
abbrev pub is_own_type : Spelled → Bool
is_own_type x = not (bytes_eq x.name (codes "object"))

-- the types: `object` without a type above it is none of them
abbrev pub types_of : Listing → List TypedName
types_of l = all_typed (record l { waiting = filter is_own_type l.waiting })

-- a predicate whose opening parenthesis takes one of so many places
unfoldable pub predicate_at : ℕ → Former Head
predicate_at room front items = do
  n ← plain_of (room - 1) items
  vs ← list_of allows.Variables (room - 1) n.1
  Ok (record { name = spelled_of n.0; params = vs.0.0; span = around front vs.0.1 }, vs.1)

-- ---- functions

abbrev pub no_functions : Functions
no_functions = record { heads = []; untyped = false }

-- the type `number` of the functions before it
abbrev pub number_type : ℕ → Functions → List Item → Read Functions
number_type room found rest = do
  n ← word_of (codes "number") room rest
  Ok (record found { untyped = false }, n.1)

-- one more function, or the type of those before it
unfoldable pub function_step : ℕ → Step Functions
function_step room found p rest =
    if is_open p.kind
    then (predicate_at room p.span rest >>= λ h. Ok (record { heads = found.heads ++ h.0 ∷ []; untyped = true }, h.1))
    else (if is_minus p.kind && found.untyped then number_type room found rest else Err (faults.Form p.span))

-- ---- actions, processes and events

abbrev pub no_keys : Keys
no_keys = record { parameters = None; condition = None; effect = None }

abbrev pub key_with : ℕ → Keys → Piece → List Item → KeyWord → Read Keys
key_with room found p rest keys.Parameters =
    if is_some found.parameters then Err (faults.Form p.span)
    else (variables_of room rest >>= λ vs. Ok (record found { parameters = Some vs.0 }, vs.1))
key_with room found p rest keys.Precondition =
    if is_some found.condition then Err (faults.Form p.span)
    else (open_of room rest >>= λ o. cond_at room o.0.span o.1 >>= λ c. Ok (record found { condition = Some c.0 }, c.1))
key_with room found p rest keys.Effect =
    if is_some found.effect then Err (faults.Form p.span)
    else (open_of room rest >>= λ o. effect_at room o.0.span o.1 >>= λ c. Ok (record found { effect = Some c.0 }, c.1))
key_with room found p rest keys.Other = Err (faults.Form p.span)

unfoldable pub key_step : ℕ → Step Keys
key_step room found p rest = key_with room found p rest (key_of p)

-- a condition that is not written always holds
abbrev pub or_all : Option Cond → Cond
or_all None = c_all no_conds nowhere
or_all (Some c) = c

-- an effect that is not written does nothing
abbrev pub or_nothing : Option Effect → Effect
or_nothing None = e_all no_effects nowhere
or_nothing (Some e) = e

abbrev pub schema_made : Spelled → Keys → Span → Schema
schema_made n found s = record { name = n; params = unwrap_or found.parameters []; condition = or_all found.condition; effect = or_nothing found.effect; span = s }

unfoldable pub schema_of : ℕ → Span → List Item → Read Schema
schema_of room front items = do
  n ← name_of room items
  ks ← until_close (key_step room) room (length n.1) no_keys n.1
  Ok (schema_made (spelled_of n.0) ks.0.0 (around front ks.0.1), ks.1)

-- ---- sections

-- Reads a section behind its keyword: with room inside its parentheses, what was found so far, the place of its opening
-- parenthesis, and the keyword.
abbrev pub Sectioner : Type 0 → Type 0
Sectioner S = ℕ → S → Span → Piece → List Item → Read S

-- one more section, unless all were found
unfoldable pub section_step : {S : Type 0} → (S → Bool) → Sectioner S → ℕ → Step S
section_step full read room found p rest =
    if is_open p.kind
    then (if full found then Err (faults.Form p.span) else (next_of (room - 1) rest >>= λ q. read (room - 1) found p.span q.0 q.1))
    else Err (faults.Form p.span)

abbrev pub no_parts : DomainParts
no_parts = record {
  requirements = None;
  types = None;
  constants = None;
  predicates = None;
  functions = None;
  actions = [];
  processes = [];
  events = [];
}

-- an action, a process or an event
abbrev pub schema_part_with : DomainWord → Sectioner DomainParts
schema_part_with domains.Action room parts front q rest =
    schema_of room front rest >>= λ s. Ok (record parts { actions = parts.actions ++ s.0 ∷ [] }, s.1)
schema_part_with domains.Process room parts front q rest =
    schema_of room front rest >>= λ s. Ok (record parts { processes = parts.processes ++ s.0 ∷ [] }, s.1)
schema_part_with domains.Event room parts front q rest =
    schema_of room front rest >>= λ s. Ok (record parts { events = parts.events ++ s.0 ∷ [] }, s.1)
schema_part_with _ room parts front q rest = Err (faults.Form q.span)

-- the predicates or the functions; another word begins another section
abbrev pub declared_part_with : DomainWord → Sectioner DomainParts
declared_part_with domains.Predicates room parts front q rest =
    if is_some parts.predicates then Err (faults.Form q.span)
    else (until_close (form_step (predicate_at room)) room (length rest) [] rest >>= λ xs. Ok (record parts { predicates = Some xs.0.0 }, xs.1))
declared_part_with domains.Functions room parts front q rest =
    if is_some parts.functions then Err (faults.Form q.span)
    else (until_close (function_step room) room (length rest) no_functions rest >>= λ xs. Ok (record parts { functions = Some xs.0.0.heads }, xs.1))
declared_part_with word room parts front q rest = schema_part_with word room parts front q rest

-- the requirements, the types or the constants; another word begins another section
abbrev pub domain_part_with : DomainWord → Sectioner DomainParts
domain_part_with domains.Requirements room parts front q rest =
    if is_some parts.requirements then Err (faults.Form q.span)
    else (until_close requirement_step room (length rest) [] rest >>= λ xs. Ok (record parts { requirements = Some xs.0.0 }, xs.1))
domain_part_with domains.Types room parts front q rest =
    if is_some parts.types then Err (faults.Form q.span)
    else (until_close (list_step allows.Names room) room (length rest) no_names rest >>= λ l. Ok (record parts { types = Some (types_of l.0.0) }, l.1))
domain_part_with domains.Constants room parts front q rest =
    if is_some parts.constants then Err (faults.Form q.span)
    else (list_of allows.Names room rest >>= λ xs. Ok (record parts { constants = Some xs.0.0 }, xs.1))
domain_part_with word room parts front q rest = declared_part_with word room parts front q rest

unfoldable pub domain_part : Sectioner DomainParts
domain_part room parts front q rest = domain_part_with (domain_part_of q) room parts front q rest

-- there may always be more actions
abbrev pub never_full : DomainParts → Bool
never_full parts = false

-- ---- the whole

-- nothing is left
unfoldable pub end_of : List Item → Result (List Item) TextFault
end_of [] = Ok []
end_of (bad f ∷ rest) = Err (faults.Lex f)
end_of (tok p ∷ rest) = Err (faults.Form p.span)

-- The front of a domain or a problem, as `(define (domain NAME)`: the name, and the place of the first parenthesis. The
-- number is the room inside both parentheses.
unfoldable pub front_of : List ℕ → ℕ → List Item → Read (Spelled × Span)
front_of word room items = do
  o ← open_of (suc (suc room)) items
  d ← word_of (codes "define") (suc room) o.1
  i ← open_of (suc room) d.1
  k ← word_of word room i.1
  n ← name_of room k.1
  e ← close_of room n.1
  Ok ((spelled_of n.0, o.0.span), e.1)

abbrev pub domain_made : Spelled → DomainParts → Span → Domain
domain_made n parts s = record {
  name = n;
  requirements = unwrap_or parts.requirements [];
  types = unwrap_or parts.types [];
  constants = unwrap_or parts.constants [];
  predicates = unwrap_or parts.predicates [];
  functions = unwrap_or parts.functions [];
  actions = parts.actions;
  processes = parts.processes;
  events = parts.events;
  span = s;
}

-- the sections of a domain
abbrev pub domain_step : ℕ → Step DomainParts
domain_step = section_step never_full domain_part

-- a domain, with room for so many more parentheses inside a section
unfoldable pub domain_in : ℕ → List Item → Result Domain TextFault
domain_in room items = do
  f ← front_of (codes "domain") room items
  ps ← until_close (domain_step (suc room)) (suc room) (length f.1) no_parts f.1
  e ← end_of ps.1
  Ok (domain_made f.0.0 ps.0.0 (around f.0.1 ps.0.1))

-- the domain that tokens spell with at most so many parentheses open at once, two or more; or why they spell none
abbrev pub domain_of : ℕ → List Item → Result Domain TextFault
domain_of depth items = domain_in (depth - 2) items
