-- Actions, processes and events read again, with all their three keys.
use Rattle.std.proofs.Common.{◌≡◌, ℕ, suc, Bool, true, false, cond, List, [], ◌∷◌, ◌++◌, Option, Some, None, refl, sym, ap, ◌∙◌, subst, append_assoc}
use Rattle.std.specs.Prelude.{codes, map, unwrap_or, is_some}
use Rattle.plus_tokens.specs.declared.token.Kind.TheVariants as kinds
use Rattle.plus_tokens.specs.declared.span.Span.{Span}
use Rattle.plus_tree.specs.declared.names.Spelled.{Spelled}
use Rattle.plus_tree.specs.declared.terms.TypedName.{TypedName}
use Rattle.plus_tree.specs.declared.trees.Schema.{Schema}
use Rattle.plus_tree.specs.Cond.{Cond}
use Rattle.plus_tree.specs.Effect.{Effect}
use Rattle.plus_tokens.specs.Items.{Piece}
use Rattle.plus_parser.specs.Phrases.Grammar.{nowhere, spelled_of}
use Rattle.plus_parser.specs.Phrases.Spells.{Wrapped, SpellsVariables}
use Rattle.plus_parser.specs.declared.parts.Keys.{Keys}
use Rattle.plus_parser.specs.Forms.SpellsForms.{SpellsCond, SpellsEffect}
use Rattle.plus_parser.specs.ReadingDomain.{no_keys, or_all, or_nothing, schema_made}
use Rattle.plus_parser.specs.SpellsDomain.{Key, k_parameters, k_condition, k_effect, SpellsKey, with_key, SpellsSchema}
use Rattle.plus_printer.specs.Words.{word, variables_text, precondition_key}
use Rattle.plus_printer.specs.Canon.{cond_text, effect_text, keys_text, schema_text}
use Rattle.plus_canonical.specs.Same.{no_span, bare_spelled, bare_typed, bare_cond, bare_effect, bare_schema}
use Rattle.plus_canonical.proofs.Lexes.{Ended, at_space, Any, Reads, Both, both, turn, join, piece, IsToken}
use Rattle.std.proofs.lemmas.Bool.{cond-false}
use Rattle.plus_parser.specs.Phrases.Words.{is_keyword}
use Rattle.plus_parser.proofs.PhraseLemmas.Names.{keyword_says}
use Rattle.plus_parser.proofs.PhraseLemmas.Level.{Even, Level, is_flat, level_at, level_flat}
use Rattle.plus_parser.proofs.PhraseLemmas.TypedLists.{level_variables}
use Rattle.plus_parser.specs.Keywords.{key_of}
use Rattle.plus_parser.specs.declared.keywords.KeyWord.{KeyWord}
use Rattle.plus_parser.specs.declared.keywords.KeyWord.TheVariants as keys
use Rattle.plus_parser.proofs.FormLemmas.FormLevels.{level_cond}
use Rattle.plus_parser.proofs.FormLemmas.EffectLaws.{level_effect}
use Rattle.plus_canonical.proofs.Smalls.{Fine, fine_at, fine_behind, even_first, even_both, IsSmall, name_small}
use Rattle.plus_canonical.proofs.Forms.{head_even, chain_fine, chain_level, name_reads, keyword_reads, spaced_before, loosen, HeadForm, Again, AllOf}
use Rattle.plus_canonical.proofs.Terms.{fixed}
use Rattle.plus_canonical.proofs.Lists.{added_keeps, SmallTyped, variables_small, variables_reads}
use Rattle.plus_canonical.proofs.Conds as conds
use Rattle.plus_canonical.proofs.Conds.{CondAgain, cond_again}
use Rattle.plus_canonical.proofs.Effects as effects
use Rattle.plus_canonical.proofs.Effects.{EffectAgain, effect_again}
use Rattle.plus_canonical.proofs.Sections.{section_reads}

-- ---- what a text says of a schema

-- its keys have room for one parenthesis more than this
pub record GoodSchema (k : ℕ) (a : Schema) : Type 0 where
  pub name : IsSmall a.name.name
  pub params : AllOf SmallTyped a.params
  pub condition : CondAgain (suc k) a.condition
  pub effect : EffectAgain (suc k) a.effect

record GoodKeys (k : ℕ) (ks : Keys) : Type 0 where
  params : AllOf SmallTyped (unwrap_or ks.parameters [])
  condition : CondAgain (suc k) (or_all ks.condition)
  effect : EffectAgain (suc k) (or_nothing ks.effect)

abbrev GoodKey : ℕ → Key → Type 0
GoodKey k (k_parameters vs) = AllOf SmallTyped vs
GoodKey k (k_condition c) = CondAgain (suc k) c
GoodKey k (k_effect e) = EffectAgain (suc k) e

-- a key is a keyword
pub key_kind : (p : Piece) (h : KeyWord) → key_of p ≡ h → (keys.Other ≡ h → ⊥) → is_flat p.kind ≡ true
key_kind p h e apart = ap is_flat (keyword_says key_of keys.Other (λ q f. cond-false (is_keyword q.kind) _ keys.Other f) p h e apart)

key_good : (k : ℕ) (x : Key) (ts : List Piece) → Fine (suc k) ts → SpellsKey x ts → GoodKey k x
key_good k (k_parameters vs) ts l (p, inner, is, spelled, whole) =
    let f = fine_behind (suc k) p inner (key_kind p keys.Parameters is (λ e. cc)) (fine_at (suc k) ts (p ∷ inner) whole l) in variables_small vs inner f.words spelled
key_good k (k_condition c) ts l (p, inner, is, spelled, whole) =
    let f = fine_behind (suc k) p inner (key_kind p keys.Precondition is (λ e. cc)) (fine_at (suc k) ts (p ∷ inner) whole l) in cond_again (suc k) c inner f spelled
key_good k (k_effect e) ts l (p, inner, is, spelled, whole) =
    let f = fine_behind (suc k) p inner (key_kind p keys.Effect is (λ e. cc)) (fine_at (suc k) ts (p ∷ inner) whole l) in effect_again (suc k) e inner f spelled

pub key_level : (x : Key) (ts : List Piece) → SpellsKey x ts → Level ts
key_level (k_parameters vs) ts (p, inner, is, spelled, whole) = level_at ts (p ∷ inner) whole (level_flat p inner (key_kind p keys.Parameters is (λ e. cc)) (level_variables vs inner spelled))
key_level (k_condition c) ts (p, inner, is, spelled, whole) = level_at ts (p ∷ inner) whole (level_flat p inner (key_kind p keys.Precondition is (λ e. cc)) (level_cond c inner spelled))
key_level (k_effect x) ts (p, inner, is, spelled, whole) = level_at ts (p ∷ inner) whole (level_flat p inner (key_kind p keys.Effect is (λ e. cc)) (level_effect x inner spelled))

-- what a test lets through
let_through : (k : ℕ) (b : Bool) (ks ms : Keys) → cond {A = Option Keys} b None (Some ks) ≡ Some ms → GoodKeys k ks → GoodKeys k ms
let_through k true ks ms e g = absurd cc
let_through k false ks ms e g = let same : ks ≡ ms = cc in subst (GoodKeys k) same g

key_keeps : (k : ℕ) (ks : Keys) (x : Key) (ms : Keys) → GoodKeys k ks → GoodKey k x → with_key ks x ≡ Some ms → GoodKeys k ms
key_keeps k ks (k_parameters vs) ms g x e =
    let_through k (is_some ks.parameters) (record ks { parameters = Some vs }) ms e (record { params = x; condition = g.condition; effect = g.effect })
key_keeps k ks (k_condition c) ms g x e =
    let_through k (is_some ks.condition) (record ks { condition = Some c }) ms e (record { params = g.params; condition = x; effect = g.effect })
key_keeps k ks (k_effect f) ms g x e =
    let_through k (is_some ks.effect) (record ks { effect = Some f }) ms e (record { params = g.params; condition = g.condition; effect = x })

made_good : (k : ℕ) (a : Schema) (n : Piece) (ks : Keys) → a ≡ schema_made (spelled_of n) ks a.span → IsSmall n.word → GoodKeys k ks → GoodSchema k a
made_good k a n ks is name g = record {
  name = subst (λ (b : Schema). IsSmall b.name.name) (sym is) name;
  params = subst (λ (b : Schema). AllOf SmallTyped b.params) (sym is) g.params;
  condition = subst (λ (b : Schema). CondAgain (suc k) b.condition) (sym is) g.condition;
  effect = subst (λ (b : Schema). EffectAgain (suc k) b.effect) (sym is) g.effect;
}

pub schema_good : (k : ℕ) (a : Schema) (ts : List Piece) → Fine (suc k) ts → SpellsSchema a ts → GoodSchema k a
schema_good k a ts l s =
    let f : Fine (suc k) (s.name ∷ s.body) = fine_at (suc k) ts (s.name ∷ s.body) s.whole l in
    let body = fine_behind (suc k) s.name s.body (ap is_flat s.is_name) f in
    let start : GoodKeys k no_keys = record { params = tt; condition = conds.nothing_again k nowhere; effect = effects.nothing_again k nowhere } in
    made_good k a s.name s.found s.is (name_small s.name f.words.0 s.is_name)
    (added_keeps Keys Key with_key (GoodKeys k) (GoodKey k) (key_keeps k) s.keys no_keys s.found start (chain_fine (suc k) Key SpellsKey (GoodKey k) key_level (key_good k) s.keys s.body body s.spelled) s.once)

pub schema_level : (a : Schema) (ts : List Piece) → SpellsSchema a ts → Level ts
schema_level a ts s = level_at ts (s.name ∷ s.body) s.whole (level_flat s.name s.body (ap is_flat s.is_name) (chain_level Key SpellsKey key_level s.keys s.body s.spelled))

-- ---- the canonical text of a schema

parameters_small : IsSmall (codes "parameters")
parameters_small = fixed 112 (codes "arameters") refl refl refl refl

precondition_small : IsSmall (codes "precondition")
precondition_small = fixed 112 (codes "recondition") refl refl refl refl

effect_small : IsSmall (codes "effect")
effect_small = fixed 101 (codes "ffect") refl refl refl refl

-- a keyword behind a space, and what it begins
key_reads : {B : List Piece → Type 0} (key body : List ℕ) → IsSmall key → Reads Ended body B → Reads Ended (32 ∷ ((58 ∷ key) ++ (32 ∷ body))) (Both (IsToken kinds.Keyword (58 ∷ key)) B)
key_reads {B} key body small r =
    spaced_before {S = Ended} ((58 ∷ key) ++ (32 ∷ body))
    (join {S = Ended} {T = Ended} {P = IsToken kinds.Keyword (58 ∷ key)} {Q = B} (58 ∷ key) (32 ∷ body) (keyword_reads key small) (spaced_before {S = Ended} body r) (λ rest ok. at_space))

abbrev Params : ℕ → Schema → List Piece → Type 0
Params k a = Both (IsToken kinds.Keyword (codes ":parameters")) (Again (suc k) (List TypedName) SpellsVariables (map bare_typed) a.params)

abbrev Condition : ℕ → Schema → List Piece → Type 0
Condition k a = Both (IsToken kinds.Keyword (codes ":precondition")) (Again (suc k) Cond SpellsCond bare_cond a.condition)

abbrev Doing : ℕ → Schema → List Piece → Type 0
Doing k a = Both (IsToken kinds.Keyword (codes ":effect")) (Again (suc k) Effect SpellsEffect bare_effect a.effect)

abbrev Body : ℕ → Schema → List Piece → Type 0
Body k a = Both (IsToken kinds.Name a.name.name) (Both (Params k a) (Both (Condition k a) (Doing k a)))

-- what stands behind the keyword of a schema
pub body_text : Schema → List ℕ
body_text a = 32 ∷ (a.name.name ++ (codes " :parameters " ++ (variables_text a.params ++ (codes " :precondition " ++ (cond_text a.condition ++ (codes " :effect " ++ effect_text a.effect))))))

body_reads : (k : ℕ) (a : Schema) → GoodSchema k a → Reads Ended (body_text a) (Body k a)
unfolding body_text
body_reads k a g =
    let params : Reads Ended (32 ∷ ((58 ∷ codes "parameters") ++ (32 ∷ variables_text a.params))) (Params k a) =
    key_reads (codes "parameters") (variables_text a.params) parameters_small (loosen (variables_text a.params) (variables_reads k a.params g.params)) in
    let condition : Reads Ended (32 ∷ ((58 ∷ codes "precondition") ++ (32 ∷ cond_text a.condition))) (Condition k a) =
    key_reads (codes "precondition") (cond_text a.condition) precondition_small g.condition in
    let doing : Reads Ended (32 ∷ ((58 ∷ codes "effect") ++ (32 ∷ effect_text a.effect))) (Doing k a) =
    key_reads (codes "effect") (effect_text a.effect) effect_small g.effect in
    let last = join {S = Ended} {T = Ended} {P = Condition k a} {Q = Doing k a} (codes " :precondition " ++ cond_text a.condition) (codes " :effect " ++ effect_text a.effect) condition doing (λ rest ok. at_space) in
    let keys = join {S = Ended} {T = Ended} {P = Params k a} {Q = Both (Condition k a) (Doing k a)} (codes " :parameters " ++ variables_text a.params)
    (codes " :precondition " ++ (cond_text a.condition ++ (codes " :effect " ++ effect_text a.effect))) params last (λ rest ok. at_space) in
    spaced_before {S = Ended} (a.name.name ++ (codes " :parameters " ++ (variables_text a.params ++ (codes " :precondition " ++ (cond_text a.condition ++ (codes " :effect " ++ effect_text a.effect))))))
    (join {S = Ended} {T = Ended} a.name.name (codes " :parameters " ++ (variables_text a.params ++ (codes " :precondition " ++ (cond_text a.condition ++ (codes " :effect " ++ effect_text a.effect)))))
    (name_reads a.name.name g.name) keys (λ rest ok. at_space))

-- a schema with this place
pub record SchemaAt (k : ℕ) (a : Schema) (span : Span) (ts : List Piece) : Type 0 where
  pub again : Schema
  pub spelled : SpellsSchema again ts
  pub even : Even (suc k) ts
  pub place : again.span ≡ span
  pub same : bare_schema a ≡ bare_schema again

body_made : (k : ℕ) (a : Schema) (span : Span) (ts : List Piece) → Body k a ts → SchemaAt k a span ts
body_made k a span ts (both n ks name (both p qs (both p1 p2 pk ps pe) (both c d (both c1 c2 ck cs ce) (both d1 d2 dk ds de) qe) ke) e) = record {
  again = record { name = record { name = a.name.name; span = name.span }; params = ps.again; condition = cs.again; effect = ds.again; span = span };
  spelled = record {
    name = piece kinds.Name a.name.name name.span;
    body = ks;
    keys = k_parameters ps.again ∷ k_condition cs.again ∷ k_effect ds.again ∷ [];
    found = record { parameters = Some ps.again; condition = Some cs.again; effect = Some ds.again };
    is_name = refl;
    spelled = (
      p,
      qs,
      (piece kinds.Keyword (codes ":parameters") pk.span, p2, refl, ps.spelled, pe ∙ ap (λ l. l ++ p2) pk.whole),
      (
        c,
        d,
        (piece kinds.Keyword (codes ":precondition") ck.span, c2, refl, cs.spelled, ce ∙ ap (λ l. l ++ c2) ck.whole),
        (d, [], (piece kinds.Keyword (codes ":effect") dk.span, d2, refl, ds.spelled, de ∙ ap (λ l. l ++ d2) dk.whole), refl, sym (append_none d)),
        qe,
      ),
      ke,
    );
    once = refl;
    whole = e ∙ ap (λ l. l ++ ks) name.whole;
    is = refl;
  };
  even = even_first (suc k) (piece kinds.Name a.name.name name.span) ks ts refl
      (even_both (suc k) p qs ks (even_first (suc k) (piece kinds.Keyword (codes ":parameters") pk.span) p2 p refl ps.even (pe ∙ ap (λ l. l ++ p2) pk.whole))
      (even_both (suc k) c d qs (even_first (suc k) (piece kinds.Keyword (codes ":precondition") ck.span) c2 c refl cs.even (ce ∙ ap (λ l. l ++ c2) ck.whole))
      (even_first (suc k) (piece kinds.Keyword (codes ":effect") dk.span) d2 d refl ds.even (de ∙ ap (λ l. l ++ d2) dk.whole)) qe) ke) (e ∙ ap (λ l. l ++ ks) name.whole);
  place = refl;
  same = same_schema (bare_spelled a.name) _ _ _ _ _ _ ps.same cs.same ds.same;
}
  where
    append_none : (l : List Piece) → l ++ [] ≡ l
    append_none [] = refl
    append_none (x ∷ xs) = ap (λ l. x ∷ l) (append_none xs)

    same_schema : (n : Spelled) (vs ws : List TypedName) (c d : Cond) (x y : Effect) → vs ≡ ws → c ≡ d → x ≡ y
        → ◌≡◌ {A = Schema} (record { name = n; params = vs; condition = c; effect = x; span = no_span }) (record { name = n; params = ws; condition = d; effect = y; span = no_span })
    same_schema n vs ws c d x y e f g = cc

-- a schema between its parentheses
pub record SchemaForm (k : ℕ) (key : List ℕ) (a : Schema) (ts : List Piece) : Type 0 where
  pub span : Span
  pub at : Span
  pub body : List Piece
  pub wrapped : Wrapped span (piece kinds.Keyword (58 ∷ key) at ∷ body) ts
  pub made : SchemaAt k a span body
  pub even : Even (suc (suc k)) ts

form_made : (k : ℕ) (key : List ℕ) (a : Schema) (ts : List Piece) → HeadForm kinds.Keyword (58 ∷ key) (Body k a) ts → SchemaForm k key a ts
form_made k key a ts f =
    let made = body_made k a f.span f.body f.body_is in
    record { span = f.span; at = f.at; body = f.body; wrapped = f.wrapped; made = made; even = head_even (suc k) ts f refl made.even }

-- the text of a schema is a section
text_is : (key : List ℕ) (a : Schema) → schema_text (32 ∷ 40 ∷ 58 ∷ (key ++ 32 ∷ [])) a ≡ 32 ∷ 40 ∷ ((58 ∷ key) ++ (body_text a ++ (41 ∷ 10 ∷ [])))
unfolding word schema_text keys_text body_text precondition_key
text_is key a = simp append_assoc

body_leads : (a : Schema) (rest : List ℕ) → Ended rest → Ended (body_text a ++ rest)
unfolding body_text
body_leads a rest e = at_space

pub schema_reads : (k : ℕ) (key : List ℕ) (a : Schema) → IsSmall key → GoodSchema k a → Reads Any (schema_text (32 ∷ 40 ∷ 58 ∷ (key ++ 32 ∷ [])) a) (SchemaForm k key a)
schema_reads k key a small g =
    subst (λ l. Reads Any l (SchemaForm k key a)) (sym (text_is key a))
    (turn {after = Any} (32 ∷ 40 ∷ ((58 ∷ key) ++ (body_text a ++ (41 ∷ 10 ∷ [])))) (form_made k key a)
    (section_reads {B = Body k a} key (body_text a) small (body_reads k a g) (body_leads a)))
