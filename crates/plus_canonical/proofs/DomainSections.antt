-- The sections of a domain read again.
use Rattle.std.proofs.Common.{◌≡◌, ℕ, suc, cond, List, [], ◌∷◌, ◌++◌, Option, Some, None, refl, sym, ap, ◌∙◌, subst, append_assoc}
use Rattle.std.specs.Prelude.{codes, map, is_some}
use Rattle.std.proofs.lemmas.List.{append-nil}
use Rattle.plus_tokens.specs.declared.token.Kind.TheVariants as kinds
use Rattle.plus_tokens.specs.declared.span.Span.{Span}
use Rattle.plus_tree.specs.declared.names.Spelled.{Spelled}
use Rattle.plus_tree.specs.declared.terms.TypedName.{TypedName}
use Rattle.plus_tree.specs.declared.trees.Head.{Head}
use Rattle.plus_tree.specs.declared.trees.Schema.{Schema}
use Rattle.plus_parser.specs.declared.phrases.words.Allowed.TheVariants.{Names}
use Rattle.plus_tokens.specs.Items.{Piece}
use Rattle.plus_parser.specs.Phrases.Spells.{room_after, Wrapped}
use Rattle.plus_parser.specs.declared.parts.DomainParts.{DomainParts}
use Rattle.plus_parser.specs.SpellsDomain.{SpellsRequirement, SpellsHead, SpellsSchema, DomainPart, d_requirements, d_types, d_constants, d_predicates, d_functions, d_action, d_process, d_event, SpellsDomainPart, with_domain_part}
use Rattle.plus_printer.specs.Words.{word, typed_text, requirements_opening, predicates_opening, functions_opening}
use Rattle.plus_printer.specs.Canon.{section, keyword_text, requirements_text, head_text, schema_text, schemas_text}
use Rattle.plus_canonical.specs.Same.{bare_spelled, bare_typed, bare_head, bare_schema}
use Rattle.plus_canonical.proofs.Lexes.{Any, Reads, Both, both, turn, join, piece, Nothing, none_reads}
use Rattle.plus_canonical.proofs.Smalls.{even_both, IsSmall}
use Rattle.plus_canonical.proofs.Forms.{Again, AllOf}
use Rattle.plus_canonical.proofs.Terms.{fixed}
use Rattle.plus_canonical.proofs.Lists.{SmallTyped, SpellsPair, pairs_list, pairs_types, named_all}
use Rattle.plus_canonical.proofs.Sections.{Steps, steps_then, no_steps, one_step, Sections, section_none, section_some, section_again, RequirementAgain}
use Rattle.plus_canonical.proofs.Heads.{HeadAgain, heads_functions}
use Rattle.plus_canonical.proofs.Schemas.{GoodSchema, SchemaForm, schema_reads}

-- what leads from parts that were found to others
abbrev pub DomainSteps : DomainParts → DomainParts → List Piece → Type 0
DomainSteps = Steps DomainParts DomainPart SpellsDomainPart with_domain_part

abbrev pub DomainSection : {X : Type 0} → (DomainParts → Option (List X)) → (DomainParts → Option (List X) → DomainParts) → List X → List Piece → Type 0
DomainSection {X} get put = Sections DomainParts X DomainPart SpellsDomainPart with_domain_part get put

-- what is found where nothing was
free : {A : Type 0} (o : Option A) (x : Option DomainParts) → o ≡ None → cond (is_some o) None x ≡ x
free o x e = ap (λ o. cond (is_some o) None x) e

-- ---- requirements

abbrev pub get_requirements : DomainParts → Option (List Spelled)
get_requirements s = s.requirements

abbrev pub put_requirements : DomainParts → Option (List Spelled) → DomainParts
put_requirements s o = record s { requirements = o }

pub requirements_again : (k : ℕ) (xs : List Spelled) → AllOf (RequirementAgain (suc k)) xs → Reads Any (requirements_text xs) (Again (suc (suc k)) (List Spelled) (DomainSection get_requirements put_requirements) (map bare_spelled) xs)
unfolding requirements_text requirements_opening word
requirements_again k [] all = section_none (suc k) DomainParts Spelled DomainPart SpellsDomainPart with_domain_part get_requirements put_requirements SpellsRequirement bare_spelled d_requirements (codes "requirements")
    (λ ys s at body ts w c. (s, piece kinds.Keyword (codes ":requirements") at, body, refl, w, c)) (λ s ys e. free s.requirements (Some (record s { requirements = Some ys })) e)
    (λ s e. ap (λ (o : Option (List Spelled)). record s { requirements = o }) (sym e))
requirements_again k (x ∷ xs) all = section_some (suc k) DomainParts Spelled DomainPart SpellsDomainPart with_domain_part get_requirements put_requirements SpellsRequirement bare_spelled d_requirements (codes "requirements")
    (λ ys s at body ts w c. (s, piece kinds.Keyword (codes ":requirements") at, body, refl, w, c)) (λ s ys e. free s.requirements (Some (record s { requirements = Some ys })) e)
    (λ s e. ap (λ (o : Option (List Spelled)). record s { requirements = o }) (sym e)) keyword_text (x ∷ xs) (fixed 114 (codes "equirements") refl refl refl refl) all

-- ---- types and constants

abbrev pub get_types : DomainParts → Option (List TypedName)
get_types s = s.types

abbrev pub put_types : DomainParts → Option (List TypedName) → DomainParts
put_types s o = record s { types = o }

pub types_again : (k : ℕ) (xs : List TypedName) → AllOf SmallTyped xs → Reads Any (section (codes " (:types") typed_text xs) (Again (suc (suc k)) (List TypedName) (DomainSection get_types put_types) (map bare_typed) xs)
types_again k xs all = section_again (suc k) DomainParts TypedName DomainPart SpellsDomainPart with_domain_part get_types put_types (SpellsPair Names) bare_typed d_types (codes "types")
    (λ ys s at body ts w c. (s, piece kinds.Keyword (codes ":types") at, body, refl, w, pairs_types ys body c)) (λ s ys e. free s.types (Some (record s { types = Some ys })) e)
    (λ s e. ap (λ (o : Option (List TypedName)). record s { types = o }) (sym e)) typed_text xs (fixed 116 (codes "ypes") refl refl refl refl) (named_all (suc k) xs all)

abbrev pub get_constants : DomainParts → Option (List TypedName)
get_constants s = s.constants

abbrev pub put_constants : DomainParts → Option (List TypedName) → DomainParts
put_constants s o = record s { constants = o }

pub constants_again : (k : ℕ) (xs : List TypedName) → AllOf SmallTyped xs → Reads Any (section (codes " (:constants") typed_text xs) (Again (suc (suc k)) (List TypedName) (DomainSection get_constants put_constants) (map bare_typed) xs)
constants_again k xs all = section_again (suc k) DomainParts TypedName DomainPart SpellsDomainPart with_domain_part get_constants put_constants (SpellsPair Names) bare_typed d_constants (codes "constants")
    (λ ys s at body ts w c. (s, piece kinds.Keyword (codes ":constants") at, body, refl, w, pairs_list Names ys body c)) (λ s ys e. free s.constants (Some (record s { constants = Some ys })) e)
    (λ s e. ap (λ (o : Option (List TypedName)). record s { constants = o }) (sym e)) typed_text xs (fixed 99 (codes "onstants") refl refl refl refl) (named_all (suc k) xs all)

-- ---- predicates and functions

abbrev pub get_predicates : DomainParts → Option (List Head)
get_predicates s = s.predicates

abbrev pub put_predicates : DomainParts → Option (List Head) → DomainParts
put_predicates s o = record s { predicates = o }

pub predicates_again : (k : ℕ) (xs : List Head) → AllOf (HeadAgain (suc k)) xs → Reads Any (section predicates_opening head_text xs) (Again (suc (suc k)) (List Head) (DomainSection get_predicates put_predicates) (map bare_head) xs)
unfolding predicates_opening
predicates_again k xs all = section_again (suc k) DomainParts Head DomainPart SpellsDomainPart with_domain_part get_predicates put_predicates SpellsHead bare_head d_predicates (codes "predicates")
    (λ ys s at body ts w c. (s, piece kinds.Keyword (codes ":predicates") at, body, refl, w, c)) (λ s ys e. free s.predicates (Some (record s { predicates = Some ys })) e)
    (λ s e. ap (λ (o : Option (List Head)). record s { predicates = o }) (sym e)) head_text xs (fixed 112 (codes "redicates") refl refl refl refl) all

abbrev pub get_functions : DomainParts → Option (List Head)
get_functions s = s.functions

abbrev pub put_functions : DomainParts → Option (List Head) → DomainParts
put_functions s o = record s { functions = o }

pub functions_again : (k : ℕ) (xs : List Head) → AllOf (HeadAgain (suc k)) xs → Reads Any (section functions_opening head_text xs) (Again (suc (suc k)) (List Head) (DomainSection get_functions put_functions) (map bare_head) xs)
unfolding functions_opening
functions_again k xs all = section_again (suc k) DomainParts Head DomainPart SpellsDomainPart with_domain_part get_functions put_functions SpellsHead bare_head d_functions (codes "functions")
    (λ ys s at body ts w c. (s, piece kinds.Keyword (codes ":functions") at, body, refl, w, heads_functions ys body c)) (λ s ys e. free s.functions (Some (record s { functions = Some ys })) e)
    (λ s e. ap (λ (o : Option (List Head)). record s { functions = o }) (sym e)) head_text xs (fixed 102 (codes "unctions") refl refl refl refl) all

-- ---- actions, processes and events

abbrev pub Schemas : (DomainParts → List Schema → DomainParts) → List Schema → List Piece → Type 0
Schemas put ys ts = (s : DomainParts) → DomainSteps s (put s ys) ts

module _ (k : ℕ) (key : List ℕ) (part : Schema → DomainPart) (put : DomainParts → List Schema → DomainParts)
    (spelled : (x : Schema) (s at : Span) (body ts : List Piece) → Wrapped s (piece kinds.Keyword (58 ∷ key) at ∷ body) ts → SpellsSchema x body → x.span ≡ s → SpellsDomainPart (part x) ts)
    (adds : (s : DomainParts) (x : Schema) → with_domain_part s (part x) ≡ Some (put s (x ∷ [])))
    (none : (s : DomainParts) → put s [] ≡ s)
    (more : (s : DomainParts) (x : Schema) (ys : List Schema) → put (put s (x ∷ [])) ys ≡ put s (x ∷ ys)) where
  none_made : (ts : List Piece) → Nothing ts → Again (suc (suc k)) (List Schema) (Schemas put) (map bare_schema) [] ts
  none_made ts e = record {
    again = [];
    spelled = λ s. subst (DomainSteps s (put s [])) (sym e) (subst (λ t. DomainSteps s t []) (sym (none s)) (no_steps DomainParts DomainPart SpellsDomainPart with_domain_part s));
    even = ap (room_after (suc (suc k))) e;
    same = refl;
  }

  more_made : (a : Schema) (xs : List Schema) (ts : List Piece) → Both (SchemaForm k key a) (Again (suc (suc k)) (List Schema) (Schemas put) (map bare_schema) xs) ts → Again (suc (suc k)) (List Schema) (Schemas put) (map bare_schema) (a ∷ xs) ts
  more_made a xs ts (both x y form others e) =
      let made = form.made in
      record {
        again = made.again ∷ others.again;
        spelled = λ p. subst (DomainSteps p (put p (made.again ∷ others.again))) (sym e)
            (steps_then DomainParts DomainPart SpellsDomainPart with_domain_part p (put p (made.again ∷ [])) (put p (made.again ∷ others.again)) x y
            (one_step DomainParts DomainPart SpellsDomainPart with_domain_part p (put p (made.again ∷ [])) (part made.again) x (spelled made.again form.span form.at form.body x form.wrapped made.spelled made.place) (adds p made.again))
            (subst (λ t. DomainSteps (put p (made.again ∷ [])) t y) (more p made.again others.again) (others.spelled (put p (made.again ∷ [])))));
        even = even_both (suc (suc k)) x y ts form.even others.even e;
        same = ap (λ (b : Schema). b ∷ map bare_schema xs) made.same ∙ ap (λ (bs : List Schema). bare_schema made.again ∷ bs) others.same;
      }

  schemas_again : (xs : List Schema) → IsSmall key → AllOf (GoodSchema k) xs → Reads Any (schemas_text (32 ∷ 40 ∷ 58 ∷ (key ++ 32 ∷ [])) xs) (Again (suc (suc k)) (List Schema) (Schemas put) (map bare_schema) xs)
  schemas_again [] small all = turn {after = Any} [] none_made (none_reads Any)
  schemas_again (a ∷ xs) small all =
      turn {after = Any} (schemas_text (32 ∷ 40 ∷ 58 ∷ (key ++ 32 ∷ [])) (a ∷ xs)) (more_made a xs)
      (join {S = Any} {T = Any} (schema_text (32 ∷ 40 ∷ 58 ∷ (key ++ 32 ∷ [])) a) (schemas_text (32 ∷ 40 ∷ 58 ∷ (key ++ 32 ∷ [])) xs) (schema_reads k key a small all.0) (schemas_again xs small all.1) (λ rest ok. tt))

abbrev pub put_actions : DomainParts → List Schema → DomainParts
put_actions s ys = record s { actions = s.actions ++ ys }

pub actions_again : (k : ℕ) (xs : List Schema) → AllOf (GoodSchema k) xs → Reads Any (schemas_text (codes " (:action ") xs) (Again (suc (suc k)) (List Schema) (Schemas put_actions) (map bare_schema) xs)
actions_again k xs all = schemas_again k (codes "action") d_action put_actions (λ x s at body ts w c e. (s, piece kinds.Keyword (codes ":action") at, body, refl, w, c, e)) (λ s x. refl)
    (λ s. ap (λ (l : List Schema). record s { actions = l }) (append-nil s.actions)) (λ s x ys. ap (λ (l : List Schema). record s { actions = l }) (append_assoc s.actions (x ∷ []) ys))
    xs (fixed 97 (codes "ction") refl refl refl refl) all

abbrev pub put_processes : DomainParts → List Schema → DomainParts
put_processes s ys = record s { processes = s.processes ++ ys }

pub processes_again : (k : ℕ) (xs : List Schema) → AllOf (GoodSchema k) xs → Reads Any (schemas_text (codes " (:process ") xs) (Again (suc (suc k)) (List Schema) (Schemas put_processes) (map bare_schema) xs)
processes_again k xs all = schemas_again k (codes "process") d_process put_processes (λ x s at body ts w c e. (s, piece kinds.Keyword (codes ":process") at, body, refl, w, c, e)) (λ s x. refl)
    (λ s. ap (λ (l : List Schema). record s { processes = l }) (append-nil s.processes)) (λ s x ys. ap (λ (l : List Schema). record s { processes = l }) (append_assoc s.processes (x ∷ []) ys))
    xs (fixed 112 (codes "rocess") refl refl refl refl) all

abbrev pub put_events : DomainParts → List Schema → DomainParts
put_events s ys = record s { events = s.events ++ ys }

pub events_again : (k : ℕ) (xs : List Schema) → AllOf (GoodSchema k) xs → Reads Any (schemas_text (codes " (:event ") xs) (Again (suc (suc k)) (List Schema) (Schemas put_events) (map bare_schema) xs)
events_again k xs all = schemas_again k (codes "event") d_event put_events (λ x s at body ts w c e. (s, piece kinds.Keyword (codes ":event") at, body, refl, w, c, e)) (λ s x. refl)
    (λ s. ap (λ (l : List Schema). record s { events = l }) (append-nil s.events)) (λ s x ys. ap (λ (l : List Schema). record s { events = l }) (append_assoc s.events (x ∷ []) ys))
    xs (fixed 101 (codes "vent") refl refl refl refl) all
