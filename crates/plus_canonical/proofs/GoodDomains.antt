-- What a text says of a domain that it spells: its names are small, and each part of it reads again.
use Rattle.std.proofs.Common.{◌≡◌, ℕ, suc, Bool, true, false, cond, List, [], ◌∷◌, ◌++◌, Option, Some, None, sym, ap, subst}
use Rattle.std.specs.Prelude.{codes, unwrap_or, is_some}
use Rattle.plus_tree.specs.declared.names.Spelled.{Spelled}
use Rattle.plus_tree.specs.declared.trees.Head.{Head}
use Rattle.plus_tree.specs.declared.trees.Schema.{Schema}
use Rattle.plus_tree.specs.declared.trees.Domain.{Domain}
use Rattle.plus_parser.specs.declared.phrases.words.Allowed.TheVariants.{Names}
use Rattle.plus_tokens.specs.Items.{Piece}
use Rattle.plus_parser.specs.declared.parts.DomainParts.{DomainParts}
use Rattle.plus_parser.specs.ReadingDomain.{no_parts, domain_made}
use Rattle.plus_parser.specs.SpellsDomain.{DomainPart, d_requirements, d_types, d_constants, d_predicates, d_functions, d_action, d_process, d_event, SpellsRequirement, SpellsHead, SpellsDomainPart, with_domain_part, DomainTokens}
use Rattle.std.proofs.lemmas.Bool.{cond-false}
use Rattle.plus_parser.specs.Phrases.Words.{is_keyword}
use Rattle.plus_parser.proofs.PhraseLemmas.Names.{keyword_says}
use Rattle.plus_parser.proofs.PhraseLemmas.Level.{Level, is_flat}
use Rattle.plus_parser.proofs.PhraseLemmas.TypedLists.{level_listing, level_list}
use Rattle.plus_parser.specs.Keywords.{domain_part_of}
use Rattle.plus_parser.specs.declared.keywords.DomainWord.{DomainWord}
use Rattle.plus_parser.specs.declared.keywords.DomainWord.TheVariants as domains
use Rattle.plus_parser.proofs.Sections.{body_even}
use Rattle.plus_canonical.proofs.Smalls.{Fine, IsSmall, AreLexical, left, name_small, lexical_at}
use Rattle.plus_canonical.proofs.Forms.{chain_fine, chain_level, AllOf, chain_all}
use Rattle.plus_canonical.proofs.Lists.{added_keeps, all_append, SmallTyped, list_small, types_small}
use Rattle.plus_canonical.proofs.Sections.{RequirementAgain, requirement_again, requirement_level, section_inside, section_level}
use Rattle.plus_canonical.proofs.Heads.{HeadAgain, head_again, head_level, functions_all, functions_level}
use Rattle.plus_canonical.proofs.Schemas.{GoodSchema, schema_good, schema_level}

pub record GoodDomain (k : ℕ) (d : Domain) : Type 0 where
  pub name : IsSmall d.name.name
  pub requirements : AllOf (RequirementAgain (suc k)) d.requirements
  pub types : AllOf SmallTyped d.types
  pub constants : AllOf SmallTyped d.constants
  pub predicates : AllOf (HeadAgain (suc k)) d.predicates
  pub functions : AllOf (HeadAgain (suc k)) d.functions
  pub actions : AllOf (GoodSchema k) d.actions
  pub processes : AllOf (GoodSchema k) d.processes
  pub events : AllOf (GoodSchema k) d.events

record GoodParts (k : ℕ) (s : DomainParts) : Type 0 where
  requirements : AllOf (RequirementAgain (suc k)) (unwrap_or s.requirements [])
  types : AllOf SmallTyped (unwrap_or s.types [])
  constants : AllOf SmallTyped (unwrap_or s.constants [])
  predicates : AllOf (HeadAgain (suc k)) (unwrap_or s.predicates [])
  functions : AllOf (HeadAgain (suc k)) (unwrap_or s.functions [])
  actions : AllOf (GoodSchema k) s.actions
  processes : AllOf (GoodSchema k) s.processes
  events : AllOf (GoodSchema k) s.events

abbrev GoodPart : ℕ → DomainPart → Type 0
GoodPart k (d_requirements xs) = AllOf (RequirementAgain (suc k)) xs
GoodPart k (d_types xs) = AllOf SmallTyped xs
GoodPart k (d_constants xs) = AllOf SmallTyped xs
GoodPart k (d_predicates hs) = AllOf (HeadAgain (suc k)) hs
GoodPart k (d_functions hs) = AllOf (HeadAgain (suc k)) hs
GoodPart k (d_action a) = GoodSchema k a
GoodPart k (d_process a) = GoodSchema k a
GoodPart k (d_event a) = GoodSchema k a

-- a section begins with a keyword
pub part_kind : (p : Piece) (h : DomainWord) → domain_part_of p ≡ h → (domains.Other ≡ h → ⊥) → is_flat p.kind ≡ true
part_kind p h e apart = ap is_flat (keyword_says domain_part_of domains.Other (λ q f. cond-false (is_keyword q.kind) _ domains.Other f) p h e apart)

part_good : (k : ℕ) (x : DomainPart) (ts : List Piece) → Fine (suc (suc k)) ts → SpellsDomainPart x ts → GoodPart k x
part_good k (d_requirements xs) ts l (s, p, body, is, wrapped, c) =
    let f = section_inside (suc k) s p body ts (part_kind p domains.Requirements is (λ e. cc)) wrapped (chain_level Spelled SpellsRequirement requirement_level xs body c) l in chain_all Spelled SpellsRequirement (RequirementAgain (suc k)) (requirement_again (suc k)) xs body f.words c
part_good k (d_types xs) ts l (s, p, body, is, wrapped, c) =
    let f = section_inside (suc k) s p body ts (part_kind p domains.Types is (λ e. cc)) wrapped (level_listing Names 0 c.0 body c.1) l in types_small xs body f.words c
part_good k (d_constants xs) ts l (s, p, body, is, wrapped, c) =
    let f = section_inside (suc k) s p body ts (part_kind p domains.Constants is (λ e. cc)) wrapped (level_list Names 0 xs body c) l in list_small Names xs body f.words c
part_good k (d_predicates xs) ts l (s, p, body, is, wrapped, c) =
    let f = section_inside (suc k) s p body ts (part_kind p domains.Predicates is (λ e. cc)) wrapped (chain_level Head SpellsHead head_level xs body c) l in chain_fine (suc k) Head SpellsHead (HeadAgain (suc k)) head_level (head_again (suc k)) xs body f c
part_good k (d_functions xs) ts l (s, p, body, is, wrapped, c) =
    let f = section_inside (suc k) s p body ts (part_kind p domains.Functions is (λ e. cc)) wrapped (functions_level xs body c) l in functions_all (suc k) xs body f c
part_good k (d_action xs) ts l (s, p, body, is, wrapped, c, e) =
    let f = section_inside (suc k) s p body ts (part_kind p domains.Action is (λ e. cc)) wrapped (schema_level xs body c) l in schema_good k xs body f c
part_good k (d_process xs) ts l (s, p, body, is, wrapped, c, e) =
    let f = section_inside (suc k) s p body ts (part_kind p domains.Process is (λ e. cc)) wrapped (schema_level xs body c) l in schema_good k xs body f c
part_good k (d_event xs) ts l (s, p, body, is, wrapped, c, e) =
    let f = section_inside (suc k) s p body ts (part_kind p domains.Event is (λ e. cc)) wrapped (schema_level xs body c) l in schema_good k xs body f c

pub part_level : (x : DomainPart) (ts : List Piece) → SpellsDomainPart x ts → Level ts
part_level (d_requirements xs) ts (s, p, body, is, wrapped, c) = section_level s p body ts (part_kind p domains.Requirements is (λ e. cc)) wrapped (chain_level Spelled SpellsRequirement requirement_level xs body c)
part_level (d_types xs) ts (s, p, body, is, wrapped, c) = section_level s p body ts (part_kind p domains.Types is (λ e. cc)) wrapped (level_listing Names 0 c.0 body c.1)
part_level (d_constants xs) ts (s, p, body, is, wrapped, c) = section_level s p body ts (part_kind p domains.Constants is (λ e. cc)) wrapped (level_list Names 0 xs body c)
part_level (d_predicates xs) ts (s, p, body, is, wrapped, c) = section_level s p body ts (part_kind p domains.Predicates is (λ e. cc)) wrapped (chain_level Head SpellsHead head_level xs body c)
part_level (d_functions xs) ts (s, p, body, is, wrapped, c) = section_level s p body ts (part_kind p domains.Functions is (λ e. cc)) wrapped (functions_level xs body c)
part_level (d_action xs) ts (s, p, body, is, wrapped, c, e) = section_level s p body ts (part_kind p domains.Action is (λ e. cc)) wrapped (schema_level xs body c)
part_level (d_process xs) ts (s, p, body, is, wrapped, c, e) = section_level s p body ts (part_kind p domains.Process is (λ e. cc)) wrapped (schema_level xs body c)
part_level (d_event xs) ts (s, p, body, is, wrapped, c, e) = section_level s p body ts (part_kind p domains.Event is (λ e. cc)) wrapped (schema_level xs body c)

let_through : (k : ℕ) (b : Bool) (s t : DomainParts) → cond {A = Option DomainParts} b None (Some s) ≡ Some t → GoodParts k s → GoodParts k t
let_through k true s t e g = absurd cc
let_through k false s t e g = let same : s ≡ t = cc in subst (GoodParts k) same g

part_keeps : (k : ℕ) (s : DomainParts) (x : DomainPart) (t : DomainParts) → GoodParts k s → GoodPart k x → with_domain_part s x ≡ Some t → GoodParts k t
part_keeps k s (d_requirements xs) t g x e = let_through k (is_some s.requirements) (record s { requirements = Some xs }) t e
    (record { requirements = x; types = g.types; constants = g.constants; predicates = g.predicates; functions = g.functions; actions = g.actions; processes = g.processes; events = g.events })
part_keeps k s (d_types xs) t g x e = let_through k (is_some s.types) (record s { types = Some xs }) t e
    (record { requirements = g.requirements; types = x; constants = g.constants; predicates = g.predicates; functions = g.functions; actions = g.actions; processes = g.processes; events = g.events })
part_keeps k s (d_constants xs) t g x e = let_through k (is_some s.constants) (record s { constants = Some xs }) t e
    (record { requirements = g.requirements; types = g.types; constants = x; predicates = g.predicates; functions = g.functions; actions = g.actions; processes = g.processes; events = g.events })
part_keeps k s (d_predicates xs) t g x e = let_through k (is_some s.predicates) (record s { predicates = Some xs }) t e
    (record { requirements = g.requirements; types = g.types; constants = g.constants; predicates = x; functions = g.functions; actions = g.actions; processes = g.processes; events = g.events })
part_keeps k s (d_functions xs) t g x e = let_through k (is_some s.functions) (record s { functions = Some xs }) t e
    (record { requirements = g.requirements; types = g.types; constants = g.constants; predicates = g.predicates; functions = x; actions = g.actions; processes = g.processes; events = g.events })
part_keeps k s (d_action a) t g x e = let_through k false (record s { actions = s.actions ++ a ∷ [] }) t e
    (record { requirements = g.requirements; types = g.types; constants = g.constants; predicates = g.predicates; functions = g.functions; actions = all_append Schema (GoodSchema k) s.actions (a ∷ []) g.actions (x, tt); processes = g.processes; events = g.events })
part_keeps k s (d_process a) t g x e = let_through k false (record s { processes = s.processes ++ a ∷ [] }) t e
    (record { requirements = g.requirements; types = g.types; constants = g.constants; predicates = g.predicates; functions = g.functions; actions = g.actions; processes = all_append Schema (GoodSchema k) s.processes (a ∷ []) g.processes (x, tt); events = g.events })
part_keeps k s (d_event a) t g x e = let_through k false (record s { events = s.events ++ a ∷ [] }) t e
    (record { requirements = g.requirements; types = g.types; constants = g.constants; predicates = g.predicates; functions = g.functions; actions = g.actions; processes = g.processes; events = all_append Schema (GoodSchema k) s.events (a ∷ []) g.events (x, tt) })

made_good : (k : ℕ) (d : Domain) (s : DomainParts) → d ≡ domain_made d.name s d.span → IsSmall d.name.name → GoodParts k s → GoodDomain k d
made_good k d s is name g = record {
  name = name;
  requirements = subst (λ (x : Domain). AllOf (RequirementAgain (suc k)) x.requirements) (sym is) g.requirements;
  types = subst (λ (x : Domain). AllOf SmallTyped x.types) (sym is) g.types;
  constants = subst (λ (x : Domain). AllOf SmallTyped x.constants) (sym is) g.constants;
  predicates = subst (λ (x : Domain). AllOf (HeadAgain (suc k)) x.predicates) (sym is) g.predicates;
  functions = subst (λ (x : Domain). AllOf (HeadAgain (suc k)) x.functions) (sym is) g.functions;
  actions = subst (λ (x : Domain). AllOf (GoodSchema k) x.actions) (sym is) g.actions;
  processes = subst (λ (x : Domain). AllOf (GoodSchema k) x.processes) (sym is) g.processes;
  events = subst (λ (x : Domain). AllOf (GoodSchema k) x.events) (sym is) g.events;
}

pub domain_good : (k : ℕ) (d : Domain) (ts : List Piece) → Fine (suc (suc (suc k))) ts → DomainTokens d ts → GoodDomain k d
domain_good k d ts l t =
    let f = t.frame in
    let lex : AreLexical (f.first ∷ f.define ∷ f.inner ∷ f.kind ∷ f.named ∷ f.close ∷ (t.body ++ f.last ∷ [])) = lexical_at ts (f.first ∷ f.define ∷ f.inner ∷ f.kind ∷ f.named ∷ f.close ∷ (t.body ++ f.last ∷ [])) f.whole l.words in
    let name : IsSmall d.name.name = subst (λ (x : Spelled). IsSmall x.name) (sym f.name_is) (name_small f.named lex.1.1.1.1.0 f.is_name) in
    let body : Fine (suc (suc k)) t.body = record { words = left t.body (f.last ∷ []) lex.1.1.1.1.1.1; even = body_even (codes "domain") d.name d.span t.body ts f (suc k) (chain_level DomainPart SpellsDomainPart part_level t.parts t.body t.spelled) l.even } in
    let start : GoodParts k no_parts = record { requirements = tt; types = tt; constants = tt; predicates = tt; functions = tt; actions = tt; processes = tt; events = tt } in
    made_good k d t.found t.is name
    (added_keeps DomainParts DomainPart with_domain_part (GoodParts k) (GoodPart k) (part_keeps k) t.parts no_parts t.found start
    (chain_fine (suc (suc k)) DomainPart SpellsDomainPart (GoodPart k) part_level (part_good k) t.parts t.body body t.spelled) t.once)
