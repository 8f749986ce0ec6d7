-- A domain reads again.
use Rattle.std.proofs.Common.{◌≡◌, ◌≤◌, ℕ, suc, arith, ◌+◌, ◌-◌, length, List, [], ◌∷◌, ◌++◌, refl, sym, ap, ◌∙◌, subst, append_assoc}
use Rattle.std.specs.Prelude.{codes, map, unwrap_or}
use Rattle.plus_tokens.specs.declared.token.Kind.TheVariants as kinds
use Rattle.plus_tokens.specs.declared.span.Span.{Span}
use Rattle.plus_tree.specs.declared.names.Spelled.{Spelled}
use Rattle.plus_tree.specs.declared.terms.TypedName.{TypedName}
use Rattle.plus_tree.specs.declared.trees.Head.{Head}
use Rattle.plus_tree.specs.declared.trees.Schema.{Schema}
use Rattle.plus_tree.specs.declared.trees.Domain.{Domain}
use Rattle.plus_tokens.specs.Items.{Piece}
use Rattle.plus_parser.specs.Phrases.Grammar.{around}
use Rattle.plus_parser.specs.declared.parts.DomainParts.{DomainParts}
use Rattle.plus_parser.specs.ReadingDomain.{no_parts, domain_made}
use Rattle.plus_parser.specs.SpellsDomain.{DomainPart, SpellsDomainPart, with_domain_part, DomainTokens, Spells, SpellsWithin}
use Rattle.plus_printer.specs.Words.{word, typed_text, domain_opening, predicates_opening, functions_opening}
use Rattle.plus_printer.specs.Canon.{section, requirements_text, head_text, heads_text, schemas_text, declared_text, happening_text, domain_text}
use Rattle.plus_canonical.specs.Same.{bare_spelled, bare_typed, bare_head, bare_schema, bare_domain, SameDomain}
use Rattle.plus_canonical.proofs.Lexes.{Any, Reads, Both, both, turn, join, piece, IsToken}
use Rattle.plus_parser.proofs.PhraseLemmas.Level.{Even, even_append, even_there}
use Rattle.plus_parser.proofs.Sections.{frame_even, body_short}
use Rattle.plus_parser.proofs.DomainLaws.{domain_level}
use Rattle.plus_canonical.proofs.Smalls.{Fine, lexical}
use Rattle.plus_canonical.proofs.Forms.{close_reads, Again}
use Rattle.plus_canonical.proofs.Terms.{fixed}
use Rattle.plus_canonical.proofs.Sections.{steps_then, line_behind}
use Rattle.plus_canonical.proofs.Fronts.{Fronted, front_reads, framed, whole_reads}
use Rattle.plus_canonical.proofs.DomainSections.{DomainSteps, DomainSection, get_requirements, put_requirements, requirements_again, get_types, put_types, types_again, get_constants, put_constants, constants_again, get_predicates, put_predicates, predicates_again, get_functions, put_functions, functions_again, Schemas, put_actions, actions_again, put_processes, processes_again, put_events, events_again}
use Rattle.plus_canonical.proofs.GoodDomains.{GoodDomain, domain_good}

abbrev Requirements : ℕ → Domain → List Piece → Type 0
Requirements k d = Again (suc (suc k)) (List Spelled) (DomainSection get_requirements put_requirements) (map bare_spelled) d.requirements

abbrev Types : ℕ → Domain → List Piece → Type 0
Types k d = Again (suc (suc k)) (List TypedName) (DomainSection get_types put_types) (map bare_typed) d.types

abbrev Constants : ℕ → Domain → List Piece → Type 0
Constants k d = Again (suc (suc k)) (List TypedName) (DomainSection get_constants put_constants) (map bare_typed) d.constants

abbrev Predicates : ℕ → Domain → List Piece → Type 0
Predicates k d = Again (suc (suc k)) (List Head) (DomainSection get_predicates put_predicates) (map bare_head) d.predicates

abbrev Functions : ℕ → Domain → List Piece → Type 0
Functions k d = Again (suc (suc k)) (List Head) (DomainSection get_functions put_functions) (map bare_head) d.functions

abbrev Declared : ℕ → Domain → List Piece → Type 0
Declared k d = Both (Requirements k d) (Both (Types k d) (Both (Constants k d) (Both (Predicates k d) (Functions k d))))

declared_reads : (k : ℕ) (d : Domain) → GoodDomain k d → Reads Any (declared_text d) (Declared k d)
unfolding declared_text heads_text
declared_reads k d g =
    join {S = Any} {T = Any} {P = Requirements k d} (requirements_text d.requirements) (section (codes " (:types") typed_text d.types ++ (section (codes " (:constants") typed_text d.constants ++ (section predicates_opening head_text d.predicates ++ section functions_opening head_text d.functions))) (requirements_again k d.requirements g.requirements)
    (join {S = Any} {T = Any} {P = Types k d} (section (codes " (:types") typed_text d.types) (section (codes " (:constants") typed_text d.constants ++ (section predicates_opening head_text d.predicates ++ section functions_opening head_text d.functions)) (types_again k d.types g.types)
    (join {S = Any} {T = Any} {P = Constants k d} (section (codes " (:constants") typed_text d.constants) (section predicates_opening head_text d.predicates ++ section functions_opening head_text d.functions) (constants_again k d.constants g.constants)
    (join {S = Any} {T = Any} {P = Predicates k d} {Q = Functions k d} (section predicates_opening head_text d.predicates) (section functions_opening head_text d.functions) (predicates_again k d.predicates g.predicates) (functions_again k d.functions g.functions)
    (λ rest ok. tt)) (λ rest ok. tt)) (λ rest ok. tt)) (λ rest ok. tt)

abbrev Acting : ℕ → Domain → List Piece → Type 0
Acting k d = Again (suc (suc k)) (List Schema) (Schemas put_actions) (map bare_schema) d.actions

abbrev Processing : ℕ → Domain → List Piece → Type 0
Processing k d = Again (suc (suc k)) (List Schema) (Schemas put_processes) (map bare_schema) d.processes

abbrev Occurring : ℕ → Domain → List Piece → Type 0
Occurring k d = Again (suc (suc k)) (List Schema) (Schemas put_events) (map bare_schema) d.events

abbrev Happening : ℕ → Domain → List Piece → Type 0
Happening k d = Both (Acting k d) (Both (Processing k d) (Both (Occurring k d) (IsToken kinds.Close (41 ∷ []))))

happening_reads : (k : ℕ) (d : Domain) → GoodDomain k d → Reads Any (happening_text d) (Happening k d)
unfolding happening_text word
happening_reads k d g =
    join {S = Any} {T = Any} {P = Acting k d} (schemas_text (codes " (:action ") d.actions) (schemas_text (codes " (:process ") d.processes ++ (schemas_text (codes " (:event ") d.events ++ (41 ∷ 10 ∷ []))) (actions_again k d.actions g.actions)
    (join {S = Any} {T = Any} {P = Processing k d} (schemas_text (codes " (:process ") d.processes) (schemas_text (codes " (:event ") d.events ++ (41 ∷ 10 ∷ [])) (processes_again k d.processes g.processes)
    (join {S = Any} {T = Any} {P = Occurring k d} {Q = IsToken kinds.Close (41 ∷ [])} (schemas_text (codes " (:event ") d.events) (41 ∷ 10 ∷ []) (events_again k d.events g.events)
    (line_behind {P = IsToken kinds.Close (41 ∷ [])} (41 ∷ []) close_reads) (λ rest ok. tt)) (λ rest ok. tt)) (λ rest ok. tt)

-- what the tokens give
record Given (k : ℕ) (d : Domain) (ts : List Piece) : Type 0 where
  body : List Piece
  last : Span
  found : DomainParts
  steps : DomainSteps no_parts found body
  even : Even (suc (suc k)) body
  whole : ts ≡ body ++ piece kinds.Close (41 ∷ []) last ∷ []
  same : (n : Spelled) (s : Span) → n.name ≡ d.name.name → SameDomain d (domain_made n found s)

same_domain : (d : Domain) (n : Spelled) (s : Span) (p : DomainParts) → n.name ≡ d.name.name
    → map bare_spelled d.requirements ≡ map bare_spelled (unwrap_or p.requirements []) → map bare_typed d.types ≡ map bare_typed (unwrap_or p.types [])
    → map bare_typed d.constants ≡ map bare_typed (unwrap_or p.constants []) → map bare_head d.predicates ≡ map bare_head (unwrap_or p.predicates [])
    → map bare_head d.functions ≡ map bare_head (unwrap_or p.functions []) → map bare_schema d.actions ≡ map bare_schema p.actions
    → map bare_schema d.processes ≡ map bare_schema p.processes → map bare_schema d.events ≡ map bare_schema p.events → SameDomain d (domain_made n p s)
same_domain d n s p e1 e2 e3 e4 e5 e6 e7 e8 e9 = cc

given : (k : ℕ) (d : Domain) (ts : List Piece) → Both (Declared k d) (Happening k d) ts → Given k d ts
given k d ts (both decl hap (both t1 u1 r (both t2 u2 t (both t3 u3 c (both t4 t5 q f w4) w3) w2) w1) (both t6 u6 a (both t7 u7 p (both t8 u8 e z w8) w7) w6) w0) =
    let s1 = r.spelled no_parts refl in
    let p1 : DomainParts = put_requirements no_parts s1.0 in
    let s2 = t.spelled p1 refl in
    let p2 : DomainParts = put_types p1 s2.0 in
    let s3 = c.spelled p2 refl in
    let p3 : DomainParts = put_constants p2 s3.0 in
    let s4 = q.spelled p3 refl in
    let p4 : DomainParts = put_predicates p3 s4.0 in
    let s5 = f.spelled p4 refl in
    let p5 : DomainParts = put_functions p4 s5.0 in
    let p6 : DomainParts = put_actions p5 a.again in
    let p7 : DomainParts = put_processes p6 p.again in
    let p8 : DomainParts = put_events p7 e.again in
    record {
      body = t1 ++ (t2 ++ (t3 ++ (t4 ++ (t5 ++ (t6 ++ (t7 ++ t8))))));
      last = z.span;
      found = p8;
      steps = steps_then DomainParts DomainPart SpellsDomainPart with_domain_part no_parts p1 p8 t1 (t2 ++ (t3 ++ (t4 ++ (t5 ++ (t6 ++ (t7 ++ t8)))))) s1.2
          (steps_then DomainParts DomainPart SpellsDomainPart with_domain_part p1 p2 p8 t2 (t3 ++ (t4 ++ (t5 ++ (t6 ++ (t7 ++ t8))))) s2.2
          (steps_then DomainParts DomainPart SpellsDomainPart with_domain_part p2 p3 p8 t3 (t4 ++ (t5 ++ (t6 ++ (t7 ++ t8)))) s3.2
          (steps_then DomainParts DomainPart SpellsDomainPart with_domain_part p3 p4 p8 t4 (t5 ++ (t6 ++ (t7 ++ t8))) s4.2
          (steps_then DomainParts DomainPart SpellsDomainPart with_domain_part p4 p5 p8 t5 (t6 ++ (t7 ++ t8)) s5.2
          (steps_then DomainParts DomainPart SpellsDomainPart with_domain_part p5 p6 p8 t6 (t7 ++ t8) (a.spelled p5)
          (steps_then DomainParts DomainPart SpellsDomainPart with_domain_part p6 p7 p8 t7 t8 (p.spelled p6) (e.spelled p7)))))));
      even = even_append (suc (suc k)) t1 (t2 ++ (t3 ++ (t4 ++ (t5 ++ (t6 ++ (t7 ++ t8)))))) r.even (even_append (suc (suc k)) t2 (t3 ++ (t4 ++ (t5 ++ (t6 ++ (t7 ++ t8))))) t.even
          (even_append (suc (suc k)) t3 (t4 ++ (t5 ++ (t6 ++ (t7 ++ t8)))) c.even (even_append (suc (suc k)) t4 (t5 ++ (t6 ++ (t7 ++ t8))) q.even
          (even_append (suc (suc k)) t5 (t6 ++ (t7 ++ t8)) f.even (even_append (suc (suc k)) t6 (t7 ++ t8) a.even (even_append (suc (suc k)) t7 t8 p.even e.even))))));
      whole = rw (w0, w1, w2, w3, w4, w6, w7, w8, z.whole) (simp append_assoc);
      same = λ n s name. same_domain d n s p8 name (r.same ∙ ap (map bare_spelled) (sym s1.1)) (t.same ∙ ap (map bare_typed) (sym s2.1)) (c.same ∙ ap (map bare_typed) (sym s3.1))
          (q.same ∙ ap (map bare_head) (sym s4.1)) (f.same ∙ ap (map bare_head) (sym s5.1)) a.same p.same e.same;
    }

domain_is : (k : ℕ) (d : Domain) (ts : List Piece) → Fronted (codes "domain") d.name.name (Both (Declared k d) (Happening k d)) ts → Again (suc (suc (suc k))) Domain DomainTokens bare_domain d ts
domain_is k d ts f =
    let g = given k d f.more f.more_is in
    let name : Spelled = record { name = d.name.name; span = f.named } in
    let span : Span = around f.first g.last in
    let frame = framed (codes "domain") d.name.name (Both (Declared k d) (Happening k d)) ts f g.body g.last g.whole in
    record {
      again = domain_made name g.found span;
      spelled = record { body = g.body; parts = g.steps.parts; found = g.found; frame = frame; spelled = g.steps.spelled; once = g.steps.leads; is = refl };
      even = frame_even (codes "domain") name span g.body ts frame (suc k) g.even;
      same = g.same name span refl;
    }

pub domain_reads : (k : ℕ) (d : Domain) → GoodDomain k d → Reads Any (domain_text d) (Again (suc (suc (suc k))) Domain DomainTokens bare_domain d)
unfolding domain_text domain_opening word
domain_reads k d g =
    turn {after = Any} (domain_text d) (domain_is k d)
    (front_reads {P = Both (Declared k d) (Happening k d)} (codes "domain") d.name.name (declared_text d ++ happening_text d) (fixed 100 (codes "omain") refl refl refl refl) g.name
    (join {S = Any} {T = Any} {P = Declared k d} {Q = Happening k d} (declared_text d) (happening_text d) (declared_reads k d g) (happening_reads k d g) (λ rest ok. tt)))

-- the canonical text of a domain that a text spells within a depth of three or more, spells it within that depth but for spans
pub domain_within : (k : ℕ) (text : List ℕ) (d : Domain) → SpellsWithin (suc (suc (suc k))) text d → (again : Domain) × SpellsWithin (suc (suc (suc k))) (domain_text d) again × SameDomain d again
domain_within k text d (ts, items, tokens, fits) =
    let fine : Fine (suc (suc (suc k))) ts = record { words = lexical (length text + 1 - 0) text 0 ts items; even = fits } in
    let w = whole_reads (domain_text d) (domain_reads k d (domain_good k d ts fine tokens)) in
    (w.are.again, (w.ts, w.items, w.are.spelled, w.are.even), w.are.same)

-- the same, of whatever depth
pub domain_again : (text : List ℕ) (d : Domain) → Spells text d → (again : Domain) × Spells (domain_text d) again × SameDomain d again
domain_again text d (ts, items, tokens) =
    let room : ℕ = suc (length ts) in
    let level = domain_level d ts tokens in
    let short = body_short (codes "domain") d.name d.span tokens.body ts tokens.frame in
    let body : Even (suc (suc (length ts))) tokens.body = even_there tokens.body (suc (suc (length ts))) level (omega (arith, short)) in
    let fits : Even (suc (suc (suc (length ts)))) ts = frame_even (codes "domain") d.name d.span tokens.body ts tokens.frame (suc (length ts)) body in
    let w = domain_within (length ts) text d (ts, items, tokens, fits) in
    let printed = w.1 in
    (w.0, (printed.0, printed.1, printed.2), w.2)

-- the depth is kept
pub domain_kept : (depth : ℕ) (text : List ℕ) (d : Domain) → 3 ≤ depth → SpellsWithin depth text d → (again : Domain) × SpellsWithin depth (domain_text d) again × SameDomain d again
domain_kept depth text d le =
    let same : suc (suc (suc (depth - 3))) ≡ depth = omega (arith, le) in
    subst (λ n. SpellsWithin n text d → (again : Domain) × SpellsWithin n (domain_text d) again × SameDomain d again) same (domain_within (depth - 3) text d)
