-- The table against a whole domain, and the place of a refusal.
use Rattle.std.proofs.Common.{◌≡◌, ℕ, suc, ◌-◌, ◌<◌, ◌≤◌, Bool, true, false, cond, List, [], ◌∷◌, ◌++◌, length, Some, Result, Ok, Err, refl, sym, ap, ◌∙◌, arith, append_assoc}
use Rattle.std.specs.Prelude.{◌&&◌, is_some, map, codes, IfErr, MatchResult, ◌⊎◌}
use Rattle.std.specs.Str.{bytes_eq}
use Rattle.std.proofs.lemmas.Bool.{and_parts}
use Rattle.plus_tokens.specs.declared.span.Span.{Span}
use Rattle.plus_tree.specs.declared.names.Spelled.{Spelled}
use Rattle.plus_tree.specs.declared.terms.TypedName.{TypedName}
use Rattle.plus_tree.specs.declared.trees.Head.{Head}
use Rattle.plus_tree.specs.declared.trees.Schema.{Schema}
use Rattle.plus_tree.specs.declared.trees.Domain.{Domain}
use Rattle.plus_tree.specs.declared.faults.TextFault.{TextFault}
use Rattle.plus_tree.specs.declared.faults.TextFault.TheVariants as faults
use Rattle.plus_parser.specs.declared.phrases.words.Allowed.TheVariants as allows
use Rattle.plus_tokens.specs.Items.{Piece, Item, tok, items_of}
use Rattle.plus_parser.specs.Phrases.Reading.{◌>>=◌, Read, next_of, is_open, Fails}
use Rattle.plus_parser.specs.Phrases.Words.{is_plain, is_word, is_minus, look}
use Rattle.plus_parser.specs.Phrases.Grammar.{around, spelled_of, open_of, name_of, word_of, until_close, Former, form_step, no_names, list_step, list_of, variables_of}
use Rattle.plus_parser.specs.Forms.ReadingForms.{form_next, cond_at, effect_at}
use Rattle.plus_parser.specs.declared.parts.Keys.{Keys}
use Rattle.plus_parser.specs.declared.parts.DomainParts.{DomainParts}
use Rattle.plus_parser.specs.declared.parts.Functions.{Functions}
use Rattle.plus_parser.specs.declared.keywords.KeyWord.{KeyWord}
use Rattle.plus_parser.specs.declared.keywords.KeyWord.TheVariants as keys
use Rattle.plus_parser.specs.declared.keywords.DomainWord.{DomainWord}
use Rattle.plus_parser.specs.declared.keywords.DomainWord.TheVariants as domains
use Rattle.plus_parser.specs.Keywords.{key_of, domain_words, domain_part_of}
use Rattle.plus_parser.specs.ReadingDomain.{requirement_step, types_of, predicate_at, no_functions, number_type, function_step, no_keys, key_with, key_step, schema_made, schema_of, section_step, domain_part_with, domain_part, no_parts, front_of, end_of, domain_made, domain_step, domain_in, domain_of}
use Rattle.plus_parser.specs.SpellsDomain.{DomainTokens, SpellsWithin}
use Rattle.plus_parser.proofs.PhraseLemmas.Names.{keyword_says}
use Rattle.plus_parser.proofs.PhraseLemmas.Level.{is_flat, even_there}
use Rattle.plus_parser.proofs.PhraseLemmas.TypedLists.{minus_is}
use Rattle.plus_parser.proofs.PhraseLemmas.Tokens.{bind_ok, ok_is, next_ok, open_kind, refused}
use Rattle.plus_parser.proofs.Sections.{body_short}
use Rattle.plus_parser.proofs.DomainLaws.{domain_takes, domain_level, domain_again}
use Rattle.plus_places.specs.declared.symbols.KeysMet.{KeysMet}
use Rattle.plus_places.specs.declared.symbols.DomainMet.{DomainMet}
use Rattle.plus_places.specs.declared.symbols.Symbol.{Symbol}
use Rattle.plus_places.specs.declared.symbols.Symbol.TheVariants as sy
use Rattle.plus_places.specs.Table as table
use Rattle.plus_places.specs.Table.{Wanted, accept, once, close_or, no_keys_met, domain_section_of, no_sections, domain_symbols, step, run}
use Rattle.plus_places.proofs.Goes.{room_next, Rest, taken, goes}
use Rattle.plus_places.specs.Place.{IsPlace, Refuses}
use Rattle.plus_places.proofs.Follows.{bind_assoc, bind_same, Follows, follows_token, follows_fit, follows_flat, flat_room}
use Rattle.plus_places.proofs.Turns.{after, in_turn, in_turns, past_close, not_close, no_more, follows_length, Steps, Less, until_follows, Inside, forms_follow, under, plain_flat}
use Rattle.plus_places.proofs.Lists.{name_follow, names_follow, list_follow, variables_follow}
use Rattle.plus_places.proofs.Conds.{next_follow, cond_inside_follow}
use Rattle.plus_places.proofs.Effects.{effect_inside_follow}
use Rattle.plus_places.proofs.Sections.{requirements_follow}
use Rattle.plus_places.proofs.Places.{whole, nothing}
use Rattle.plus_places.proofs.Places as places
use Rattle.plus_places.proofs.Problems.{word_flat, front_follow, end_nothing}

-- ---- predicates and functions

abbrev head_made : Span → Piece → (List TypedName × Span) × List Item → Read Head
head_made front n vs = Ok (record { name = spelled_of n; params = vs.0.0; span = around front vs.0.1 }, vs.1)

head_follow : (room : ℕ) → Inside sy.HeadInside room (predicate_at room)
unfolding predicate_at
head_follow room lt front st items =
    let k = λ (x : Head × List Item). goes room st x.1 in
    follows_fit is_plain (room - 1) sy.HeadInside (sy.Listed allows.Variables false ∷ []) st items (λ n. list_of allows.Variables (room - 1) n.1 >>= head_made front n.0) k (λ p. refl) (λ p rest e f.
    ap (λ r. goes r (sy.Listed allows.Variables false ∷ st) rest) (flat_room p.kind (room - 1) (plain_flat p f))
    ∙ in_turn (room - 1) room (sy.Listed allows.Variables false) st rest (list_of allows.Variables (room - 1)) (head_made front p) k (under room (sy.Listed allows.Variables false ∷ []) (list_of allows.Variables (room - 1)) lt (list_follow allows.Variables (room - 1))) (λ x. refl))

number_word_follow : (room : ℕ) → Follows room room (sy.NumberWord ∷ []) (word_of (codes "number") room)
number_word_follow room st items =
    let k = λ (x : Piece × List Item). goes room st x.1 in
    follows_flat (is_word (codes "number")) room sy.NumberWord st items (λ n. Ok n) k (λ p. refl) (word_flat (codes "number")) (λ p rest. refl) ∙ bind_assoc (word_of (codes "number") room items) (λ n. Ok n) k

module _ (room : ℕ) where
  abbrev function_symbol : Functions → Symbol
  function_symbol fs = sy.Functions fs.untyped

  abbrev another : Functions → Head × List Item → Read Functions
  another fs h = Ok (record { heads = fs.heads ++ h.0 ∷ []; untyped = true }, h.1)

  abbrev typed : Functions → Piece × List Item → Read Functions
  typed fs n = Ok (record fs { untyped = false }, n.1)

  function_steps : (st : List Symbol) → Steps (function_step room) room function_symbol st (λ x. goes (suc room) st x.1)
  unfolding function_step
  function_steps st fs p rest c left =
      ap (λ w. taken w p (after room p st rest)) (not_close p.kind (cond (is_open p.kind) (Some (sy.HeadInside ∷ sy.Functions true ∷ [])) (accept (is_minus p.kind && fs.untyped) (sy.NumberWord ∷ sy.Functions false ∷ []))) c)
      ∙ at_open (is_open p.kind) refl
    where
      at_minus : (b : Bool) → (is_minus p.kind && fs.untyped) ≡ b → taken (accept b (sy.NumberWord ∷ sy.Functions false ∷ [])) p (after room p st rest) ≡ (cond {A = Read Functions} b (number_type room fs rest) (Err (faults.Form p.span)) >>= λ x. goes room (function_symbol x.0 ∷ st) x.1)
      at_minus true e =
          ap (λ r. goes r (sy.NumberWord ∷ sy.Functions false ∷ st) rest) (flat_room p.kind room (ap is_flat (minus_is p.kind (and_parts (is_minus p.kind) fs.untyped e).0)))
          ∙ in_turn room room sy.NumberWord (sy.Functions false ∷ st) rest (word_of (codes "number") room) (typed fs) (λ x. goes room (function_symbol x.0 ∷ st) x.1) (number_word_follow room) (λ x. refl)
      at_minus false e = refl

      at_open : (b : Bool) → is_open p.kind ≡ b → taken (cond b (Some (sy.HeadInside ∷ sy.Functions true ∷ [])) (accept (is_minus p.kind && fs.untyped) (sy.NumberWord ∷ sy.Functions false ∷ []))) p (after room p st rest)
          ≡ (cond {A = Read Functions} b (predicate_at room p.span rest >>= another fs) (cond {A = Read Functions} (is_minus p.kind && fs.untyped) (number_type room fs rest) (Err (faults.Form p.span))) >>= λ x. goes room (function_symbol x.0 ∷ st) x.1)
      at_open true o =
          ap (λ k. goes (room_next k room) (sy.HeadInside ∷ sy.Functions true ∷ st) rest) (open_kind p.kind o)
          ∙ in_turn (room - 1) room sy.HeadInside (sy.Functions true ∷ st) rest (predicate_at room p.span) (another fs) (λ x. goes room (function_symbol x.0 ∷ st) x.1) (head_follow room (left o) p.span) (λ x. refl)
      at_open false o = at_minus (is_minus p.kind && fs.untyped) refl

  function_less : (st : List Symbol) → Less (function_step room) room function_symbol st (λ x. goes (suc room) st x.1)
  unfolding function_step
  function_less st fs fs' p r r' left e = at_open (is_open p.kind) refl e
    where
      at_minus : (b : Bool) → cond {A = Read Functions} b (number_type room fs r) (Err (faults.Form p.span)) ≡ Ok (fs', r') → length r' ≤ length r
      at_minus true e =
          let a = bind_ok (word_of (codes "number") room r) (typed fs) (fs', r') e in
          let le = follows_length room room (sy.NumberWord ∷ []) (word_of (codes "number") room) (number_word_follow room) r a.0.0 a.0.1 a.1 in
          let same = no_more a.0.1 r' (ap (λ (x : Functions × List Item). x.1) (ok_is (record fs { untyped = false }, a.0.1) (fs', r') a.2)) in
          omega (arith, le, same)
      at_minus false e = absurd cc

      at_open : (b : Bool) → is_open p.kind ≡ b → cond {A = Read Functions} b (predicate_at room p.span r >>= another fs) (cond {A = Read Functions} (is_minus p.kind && fs.untyped) (number_type room fs r) (Err (faults.Form p.span))) ≡ Ok (fs', r') → length r' ≤ length r
      at_open true o e =
          let a = bind_ok (predicate_at room p.span r) (another fs) (fs', r') e in
          let le = follows_length (room - 1) room (sy.HeadInside ∷ []) (predicate_at room p.span) (head_follow room (left o) p.span) r a.0.0 a.0.1 a.1 in
          let same = no_more a.0.1 r' (ap (λ (x : Functions × List Item). x.1) (ok_is (record { heads = fs.heads ++ a.0.0 ∷ []; untyped = true }, a.0.1) (fs', r') a.2)) in
          omega (arith, le, same)
      at_open false o e = at_minus (is_minus p.kind && fs.untyped) e

  functions_follow : Follows room (suc room) (sy.Functions false ∷ []) (λ items. until_close (function_step room) room (length items) no_functions items)
  functions_follow st items =
      until_follows (function_step room) room function_symbol st (λ x. goes (suc room) st x.1)
      (λ fs p rest c. past_close room st p rest (cond (is_open p.kind) (Some (sy.HeadInside ∷ sy.Functions true ∷ [])) (accept (is_minus p.kind && fs.untyped) (sy.NumberWord ∷ sy.Functions false ∷ []))) c)
      (function_steps st) (function_less st) (length items) no_functions items (omega arith)

-- ---- parts in any order

abbrev puts_so : {S V : Type 0} → (V → S) → V × List Item → Read S
puts_so put v = Ok (put v.0, v.1)

abbrev schema_end : Span → Piece → (Keys × Span) × List Item → Read Schema
schema_end front n ks = Ok (schema_made (spelled_of n) ks.0.0 (around front ks.0.1), ks.1)

abbrev left : List Item → Rest
left rest = Ok rest

abbrev a_domain : Domain → Result Domain TextFault
a_domain d = Ok d

abbrev finished : Spelled × Span → (DomainParts × Span) × List Item → Result Domain TextFault
finished f x = end_of x.1 >>= λ (e : List Item). a_domain (domain_made f.0 x.0.0 (around f.1 x.0.1))

-- what a part reads into what was found, and what is met then
module _ {S M : Type 0} (met_of : S → M) (symbol : M → Symbol) where
  record Part (room next : ℕ) (q : Piece) (rest : List Item) (wanted : Wanted) (read : Read S) : Type 0 where
    ks : List Symbol
    met : M
    body : List Item → Read S
    there : Bool
    wants : wanted ≡ once there (ks ++ symbol met ∷ [])
    reads : read ≡ cond there (Err (faults.Form q.span)) (body rest)
    flat : there ≡ false → is_flat q.kind ≡ true
    follows : Follows room next ks body
    meets : (s : S) (left : List Item) → body rest ≡ Ok (s, left) → met_of s ≡ met

  module _ (room next : ℕ) (st : List Symbol) (q : Piece) (rest : List Item) (wanted : Wanted) (read : Read S) (a : Part room next q rest wanted read) where
    part_follow : taken wanted q (after room q st rest) ≡ (read >>= λ x. goes next (symbol (met_of x.0) ∷ st) x.1)
    part_follow =
        ap (λ w. taken w q (after room q st rest)) a.wants
        ∙ at_there a.there a.flat
        ∙ ap (λ (r : Read S). r >>= λ x. goes next (symbol (met_of x.0) ∷ st) x.1) (sym a.reads)
      where
        at_there : (b : Bool) → (b ≡ false → is_flat q.kind ≡ true) → taken (once b (a.ks ++ symbol a.met ∷ [])) q (after room q st rest) ≡ (cond {A = Read S} b (Err (faults.Form q.span)) (a.body rest) >>= λ x. goes next (symbol (met_of x.0) ∷ st) x.1)
        at_there true f = refl
        at_there false f =
            ap (λ r. goes r ((a.ks ++ symbol a.met ∷ []) ++ st) rest) (flat_room q.kind room (f refl))
            ∙ ap (λ ks. goes room ks rest) (append_assoc a.ks (symbol a.met ∷ []) st)
            ∙ a.follows (symbol a.met ∷ st) rest
            ∙ bind_same (a.body rest) (λ x. goes next (symbol a.met ∷ st) x.1) (λ x. goes next (symbol (met_of x.0) ∷ st) x.1) (λ x e. ap (λ m. goes next (symbol m ∷ st) x.1) (sym (a.meets x.0 x.1 e)))

    part_less : (s : S) (left : List Item) → read ≡ Ok (s, left) → length left ≤ length rest
    part_less s left e =
        let w = refused a.there (faults.Form q.span) (a.body rest) (s, left) (sym a.reads ∙ e) in
        follows_length room next a.ks a.body a.follows rest s left w.1

  meets_put : {V : Type 0} (r : Read V) (put : V → S) (m : M) → ((v : V) → met_of (put v) ≡ m) → (s : S) (left : List Item) → (r >>= puts_so put) ≡ Ok (s, left) → met_of s ≡ m
  meets_put (Ok v) put m h s left e = ap (λ (x : S × List Item). met_of x.0) (sym (ok_is (put v.0, v.1) (s, left) e)) ∙ h v.0
  meets_put (Err d) put m h s left e = absurd cc

  -- a thing, behind its keyword
  a_part : {V : Type 0} (room next : ℕ) (q : Piece) (rest : List Item) (wanted : Wanted) (read : Read S) (s : Symbol) (inner : List Item → Read V) (put : V → S) (m : M) (there : Bool)
      → wanted ≡ once there (s ∷ symbol m ∷ []) → read ≡ cond there (Err (faults.Form q.span)) (inner rest >>= puts_so put) → (there ≡ false → is_flat q.kind ≡ true) → Follows room next (s ∷ []) inner → ((v : V) → met_of (put v) ≡ m) → Part room next q rest wanted read
  a_part room next q rest wanted read s inner put m there w r f F h = record {
    ks = s ∷ [];
    met = m;
    body = λ items. inner items >>= puts_so put;
    there = there;
    wants = w;
    reads = r;
    flat = f;
    follows = λ st items. in_turn room next s st items inner (puts_so put) (λ x. goes next st x.1) F (λ v. refl);
    meets = meets_put (inner rest) put m h;
  }

-- ---- actions, processes and events

abbrev keys_met : Keys → KeysMet
keys_met ks = record { parameters = is_some ks.parameters; condition = is_some ks.condition; effect = is_some ks.effect }

key_flat : (q : Piece) (w : KeyWord) → key_of q ≡ w → (keys.Other ≡ w → ⊥) → is_flat q.kind ≡ true
key_flat q w e n = ap is_flat (keyword_says key_of keys.Other (λ p k. ap (λ b. cond b (key_word p) keys.Other) k) q w e n)
  where
    key_word : Piece → KeyWord
    key_word p = cond (bytes_eq p.word (codes ":parameters")) keys.Parameters (cond (bytes_eq p.word (codes ":precondition")) keys.Precondition (cond (bytes_eq p.word (codes ":effect")) keys.Effect keys.Other))

next_is : {A S : Type 0} (room : ℕ) (read : Former A) (put : A → S) (items : List Item) → (open_of room items >>= λ o. read o.0.span o.1 >>= λ x. puts_so put x) ≡ (form_next room read items >>= λ x. puts_so put x)
unfolding form_next
next_is room read put items = sym (bind_assoc (open_of room items) (λ o. read o.0.span o.1) (λ x. puts_so put x))

key_part : (room : ℕ) (ps : Keys) (q : Piece) (rest : List Item) (w : KeyWord) → key_of q ≡ w → Part keys_met sy.Keys room room q rest (table.key_with (keys_met ps) w) (key_with room ps q rest w)
key_part room ps q rest keys.Parameters e =
    a_part keys_met sy.Keys room room q rest (table.key_with (keys_met ps) keys.Parameters) (key_with room ps q rest keys.Parameters) sy.Variables (variables_of room) (λ vs. record ps { parameters = Some vs }) (record (keys_met ps) { parameters = true }) (is_some ps.parameters)
    refl refl (λ t. key_flat q keys.Parameters e (λ z. cc)) (variables_follow room) (λ v. refl)
key_part room ps q rest keys.Precondition e =
    a_part keys_met sy.Keys room room q rest (table.key_with (keys_met ps) keys.Precondition) (key_with room ps q rest keys.Precondition) sy.Cond (form_next room (cond_at room)) (λ c. record ps { condition = Some c }) (record (keys_met ps) { condition = true }) (is_some ps.condition)
    refl (ap (λ (r : Read Keys). cond (is_some ps.condition) (Err (faults.Form q.span)) r) (next_is room (cond_at room) (λ c. record ps { condition = Some c }) rest)) (λ t. key_flat q keys.Precondition e (λ z. cc)) (next_follow sy.Cond sy.CondInside (λ p. refl) room (cond_at room) (cond_inside_follow room)) (λ v. refl)
key_part room ps q rest keys.Effect e =
    a_part keys_met sy.Keys room room q rest (table.key_with (keys_met ps) keys.Effect) (key_with room ps q rest keys.Effect) sy.Effect (form_next room (effect_at room)) (λ c. record ps { effect = Some c }) (record (keys_met ps) { effect = true }) (is_some ps.effect)
    refl (ap (λ (r : Read Keys). cond (is_some ps.effect) (Err (faults.Form q.span)) r) (next_is room (effect_at room) (λ c. record ps { effect = Some c }) rest)) (λ t. key_flat q keys.Effect e (λ z. cc)) (next_follow sy.Effect sy.EffectInside (λ p. refl) room (effect_at room) (effect_inside_follow room)) (λ v. refl)
key_part room ps q rest keys.Other e =
    a_part keys_met sy.Keys room room q rest (table.key_with (keys_met ps) keys.Other) (key_with room ps q rest keys.Other) sy.Variables (variables_of room) (λ vs. record ps { parameters = Some vs }) (record (keys_met ps) { parameters = true }) true
    refl refl (λ t. absurd cc) (variables_follow room) (λ v. refl)

module _ (room : ℕ) where
  abbrev keys_symbol : Keys → Symbol
  keys_symbol ks = sy.Keys (keys_met ks)

  keys_steps : (st : List Symbol) → Steps (key_step room) room keys_symbol st (λ x. goes (suc room) st x.1)
  unfolding key_step
  keys_steps st ks p rest c left =
      ap (λ w. taken w p (after room p st rest)) (not_close p.kind (table.key_with (keys_met ks) (key_of p)) c)
      ∙ part_follow keys_met sy.Keys room room st p rest (table.key_with (keys_met ks) (key_of p)) (key_with room ks p rest (key_of p)) (key_part room ks p rest (key_of p) refl)

  keys_less : (st : List Symbol) → Less (key_step room) room keys_symbol st (λ x. goes (suc room) st x.1)
  unfolding key_step
  keys_less st ks ks' p r r' left e = part_less keys_met sy.Keys room room st p r (table.key_with (keys_met ks) (key_of p)) (key_with room ks p r (key_of p)) (key_part room ks p r (key_of p) refl) ks' r' e

  schema_follow : (front : Span) → Follows room (suc room) (sy.Name ∷ sy.Keys no_keys_met ∷ []) (schema_of room front)
  unfolding schema_of
  schema_follow front st items =
      let k = λ (x : Schema × List Item). goes (suc room) st x.1 in
      in_turn room room sy.Name (sy.Keys no_keys_met ∷ st) items (name_of room) (λ n. until_close (key_step room) room (length n.1) no_keys n.1 >>= schema_end front n.0) k (name_follow room) (λ n.
      until_follows (key_step room) room keys_symbol st (λ x. goes (suc room) st x.1) (λ ks p rest c. past_close room st p rest (table.key_with (keys_met ks) (key_of p)) c) (keys_steps st) (keys_less st) (length n.1) no_keys n.1 (omega arith)
      ∙ sym (bind_assoc (until_close (key_step room) room (length n.1) no_keys n.1) (schema_end front n.0) k))

-- ---- sections

abbrev domain_met : DomainParts → DomainMet
domain_met ps = record { requirements = is_some ps.requirements; types = is_some ps.types; constants = is_some ps.constants; predicates = is_some ps.predicates; functions = is_some ps.functions }

section_flat : (q : Piece) (w : DomainWord) → domain_part_of q ≡ w → (domains.Other ≡ w → ⊥) → is_flat q.kind ≡ true
section_flat q w e n = ap is_flat (keyword_says domain_part_of domains.Other (λ p k. ap (λ b. cond b (look p.word domain_words domains.Other) domains.Other) k) q w e n)

module _ (room : ℕ) (front : Span) (ps : DomainParts) (q : Piece) (rest : List Item) where
  abbrev DomainPart : DomainWord → Type 0
  DomainPart w = Part domain_met sy.DomainSections room (suc room) q rest (domain_section_of (domain_met ps) w) (domain_part_with w room ps front q rest)

  -- an action, a process or an event
  schema_part : (w : DomainWord) (put : Schema → DomainParts) → domain_section_of (domain_met ps) w ≡ Some (sy.Name ∷ sy.Keys no_keys_met ∷ sy.DomainSections (domain_met ps) ∷ []) → domain_part_with w room ps front q rest ≡ (schema_of room front rest >>= puts_so put)
      → is_flat q.kind ≡ true → ((v : Schema) → domain_met (put v) ≡ domain_met ps) → DomainPart w
  schema_part w put is r f h = record {
    ks = sy.Name ∷ sy.Keys no_keys_met ∷ [];
    met = domain_met ps;
    body = λ items. schema_of room front items >>= puts_so put;
    there = false;
    wants = is;
    reads = r;
    flat = λ t. f;
    follows = λ st items. in_turns room (suc room) (sy.Name ∷ sy.Keys no_keys_met ∷ []) st items (schema_of room front) (puts_so put) (λ x. goes (suc room) st x.1) (schema_follow room front) (λ v. refl);
    meets = meets_put domain_met sy.DomainSections (schema_of room front rest) put (domain_met ps) h;
  }

  once_part : {V : Type 0} (w : DomainWord) (s : Symbol) (inner : List Item → Read V) (put : V → DomainParts) (m : DomainMet) (there : Bool)
      → domain_section_of (domain_met ps) w ≡ once there (s ∷ sy.DomainSections m ∷ []) → domain_part_with w room ps front q rest ≡ cond there (Err (faults.Form q.span)) (inner rest >>= puts_so put) → (there ≡ false → is_flat q.kind ≡ true) → Follows room (suc room) (s ∷ []) inner → ((v : V) → domain_met (put v) ≡ m) → DomainPart w
  once_part w s inner put m there is r f F h = a_part domain_met sy.DomainSections room (suc room) q rest (domain_section_of (domain_met ps) w) (domain_part_with w room ps front q rest) s inner put m there is r f F h

  any_part : (w : DomainWord) → domain_part_of q ≡ w → DomainPart w
  any_part domains.Requirements e =
      once_part domains.Requirements sy.Requirements (λ items. until_close requirement_step room (length items) [] items) (λ xs. record ps { requirements = Some xs.0 }) (record (domain_met ps) { requirements = true }) (is_some ps.requirements) refl refl (λ t. section_flat q domains.Requirements e (λ z. cc)) (requirements_follow room) (λ v. refl)
  any_part domains.Types e =
      once_part domains.Types (sy.Listed allows.Names false) (λ items. until_close (list_step allows.Names room) room (length items) no_names items) (λ l. record ps { types = Some (types_of l.0) }) (record (domain_met ps) { types = true }) (is_some ps.types) refl refl (λ t. section_flat q domains.Types e (λ z. cc)) (names_follow allows.Names room) (λ v. refl)
  any_part domains.Constants e =
      once_part domains.Constants (sy.Listed allows.Names false) (list_of allows.Names room) (λ xs. record ps { constants = Some xs.0 }) (record (domain_met ps) { constants = true }) (is_some ps.constants) refl refl (λ t. section_flat q domains.Constants e (λ z. cc)) (list_follow allows.Names room) (λ v. refl)
  any_part domains.Predicates e =
      once_part domains.Predicates sy.Heads (λ items. until_close (form_step (predicate_at room)) room (length items) [] items) (λ xs. record ps { predicates = Some xs.0 }) (record (domain_met ps) { predicates = true }) (is_some ps.predicates) refl refl (λ t. section_flat q domains.Predicates e (λ z. cc)) (forms_follow sy.Heads sy.HeadInside (λ p. refl) room (predicate_at room) (head_follow room)) (λ v. refl)
  any_part domains.Functions e =
      once_part domains.Functions (sy.Functions false) (λ items. until_close (function_step room) room (length items) no_functions items) (λ xs. record ps { functions = Some xs.0.heads }) (record (domain_met ps) { functions = true }) (is_some ps.functions) refl refl (λ t. section_flat q domains.Functions e (λ z. cc)) (functions_follow room) (λ v. refl)
  any_part domains.Action e = schema_part domains.Action (λ s. record ps { actions = ps.actions ++ s ∷ [] }) refl refl (section_flat q domains.Action e (λ z. cc)) (λ v. refl)
  any_part domains.Process e = schema_part domains.Process (λ s. record ps { processes = ps.processes ++ s ∷ [] }) refl refl (section_flat q domains.Process e (λ z. cc)) (λ v. refl)
  any_part domains.Event e = schema_part domains.Event (λ s. record ps { events = ps.events ++ s ∷ [] }) refl refl (section_flat q domains.Event e (λ z. cc)) (λ v. refl)
  any_part domains.Other e =
      once_part domains.Other (sy.Listed allows.Names false) (list_of allows.Names room) (λ xs. record ps { constants = Some xs.0 }) (record (domain_met ps) { constants = true }) true refl refl (λ t. absurd cc) (list_follow allows.Names room) (λ v. refl)

module _ (room : ℕ) (st : List Symbol) (k : (DomainParts × Span) × List Item → Rest) where
  abbrev sections_symbol : DomainParts → Symbol
  sections_symbol ps = sy.DomainSections (domain_met ps)

  sections_steps : Steps (domain_step room) room sections_symbol st k
  unfolding section_step domain_part
  sections_steps ps p rest c left =
      ap (λ w. taken w p (after room p st rest)) (not_close p.kind (accept (is_open p.kind) (sy.DomainSection (domain_met ps) ∷ [])) c)
      ∙ at_open (is_open p.kind) refl
    where
      at_open : (b : Bool) → is_open p.kind ≡ b → taken (accept b (sy.DomainSection (domain_met ps) ∷ [])) p (after room p st rest)
          ≡ (cond {A = Read DomainParts} b (next_of (room - 1) rest >>= λ q. domain_part_with (domain_part_of q.0) (room - 1) ps p.span q.0 q.1) (Err (faults.Form p.span)) >>= λ x. goes room (sections_symbol x.0 ∷ st) x.1)
      at_open true o =
          let lt : 0 < room = left o in
          let same : suc (room - 1) ≡ room = omega (arith, lt) in
          ap (λ n. goes (room_next n room) (sy.DomainSection (domain_met ps) ∷ st) rest) (open_kind p.kind o)
          ∙ follows_token (room - 1) (sy.DomainSection (domain_met ps)) st rest (λ q. domain_part_with (domain_part_of q.0) (room - 1) ps p.span q.0 q.1) (λ x. goes room (sections_symbol x.0 ∷ st) x.1) (λ q rest e.
          part_follow domain_met sy.DomainSections (room - 1) (suc (room - 1)) st q rest (domain_section_of (domain_met ps) (domain_part_of q)) (domain_part_with (domain_part_of q) (room - 1) ps p.span q rest) (any_part (room - 1) p.span ps q rest (domain_part_of q) refl)
          ∙ ap (λ n. domain_part_with (domain_part_of q) (room - 1) ps p.span q rest >>= λ x. goes n (sections_symbol x.0 ∷ st) x.1) same)
      at_open false o = refl

  sections_less : Less (domain_step room) room sections_symbol st k
  unfolding section_step domain_part
  sections_less ps ps' p r r' left e = at_open (is_open p.kind) e
    where
      at_open : (b : Bool) → cond {A = Read DomainParts} b (next_of (room - 1) r >>= λ q. domain_part_with (domain_part_of q.0) (room - 1) ps p.span q.0 q.1) (Err (faults.Form p.span)) ≡ Ok (ps', r') → length r' ≤ length r
      at_open true e =
          let a = bind_ok (next_of (room - 1) r) (λ q. domain_part_with (domain_part_of q.0) (room - 1) ps p.span q.0 q.1) (ps', r') e in
          let q = a.0.0 in
          let le = part_less domain_met sy.DomainSections (room - 1) (suc (room - 1)) st q a.0.1 (domain_section_of (domain_met ps) (domain_part_of q)) (domain_part_with (domain_part_of q) (room - 1) ps p.span q a.0.1) (any_part (room - 1) p.span ps q a.0.1 (domain_part_of q) refl) ps' r' a.2 in
          let same : length r ≡ length (tok a.0.0 ∷ a.0.1) = ap length (next_ok (room - 1) r a.0.0 a.0.1 a.1) in
          omega (arith, le, same)
      at_open false e = absurd cc

-- ---- the whole

domain_follow : (room : ℕ) (items : List Item) → whole domain_symbols (suc (suc room)) items ≡ (domain_in room items >>= nothing)
unfolding domain_in goes
domain_follow room items =
    let loop = λ (f : (Spelled × Span) × List Item). until_close (domain_step (suc room)) (suc room) (length f.1) no_parts f.1 in
    let k = λ (x : (DomainParts × Span) × List Item). left x.1 in
    let sections = λ (f : (Spelled × Span) × List Item). loop f >>= finished f.0 in
    ap (λ (r : Rest). r >>= end_of) (front_follow (codes "domain") sy.DomainWord (λ p. refl) room (sy.DomainSections no_sections ∷ []) items)
    ∙ bind_assoc (front_of (codes "domain") room items) (λ f. goes (suc room) (sy.DomainSections no_sections ∷ []) f.1) end_of
    ∙ bind_same (front_of (codes "domain") room items) (λ f. goes (suc room) (sy.DomainSections no_sections ∷ []) f.1 >>= end_of) (λ f. sections f >>= nothing) (λ f e.
    ap (λ (r : Rest). r >>= end_of) (until_follows (domain_step (suc room)) (suc room) (sections_symbol (suc room) [] k) [] k (λ ps p rest c. past_close (suc room) [] p rest (accept (is_open p.kind) (sy.DomainSection (domain_met ps) ∷ [])) c) (sections_steps (suc room) [] k) (sections_less (suc room) [] k) (length f.1) no_parts f.1 (omega arith))
    ∙ bind_assoc (loop f) k end_of
    ∙ bind_same (loop f) (λ x. k x >>= end_of) (λ x. finished f.0 x >>= nothing) (λ x e. sym (end_nothing x.1) ∙ at_end (domain_made f.0.0 x.0.0 (around f.0.1 x.0.1)) (end_of x.1))
    ∙ sym (bind_assoc (loop f) (finished f.0) nothing))
    ∙ sym (bind_assoc (front_of (codes "domain") room items) sections nothing)
  where
    at_end : (d : Domain) (r : Rest) → (r >>= nothing) ≡ ((r >>= λ e. a_domain d) >>= nothing)
    at_end d (Ok x) = refl
    at_end d (Err e) = refl

-- ---- the place

again : (x : Domain) (ts : List Piece) (room : ℕ) → length ts ≤ room → DomainTokens x ts → domain_in room (map tok ts) ≡ Ok x
again x ts room le t =
    let short = body_short (codes "domain") x.name x.span t.body ts t.frame in
    domain_again room x ts t (even_there t.body (suc room) (domain_level x ts t) (omega (arith, le, short)))

pub reading_placed : (text : List ℕ) (r : Result Domain TextFault) → MatchResult r (λ x. domain_of 64 (items_of text) ≡ Ok x) (λ e. Fails e (domain_of 64 (items_of text))) → IfErr r (λ e. Refuses DomainTokens 64 text e)
reading_placed = places.reading_placed DomainTokens domain_symbols domain_in domain_follow domain_takes again refl

pub spells_none : (depth : ℕ) (text : List ℕ) (e : TextFault) → 2 ≤ depth → IsPlace DomainTokens depth text e → (x : Domain) → SpellsWithin depth text x → ⊥
spells_none = places.spells_none DomainTokens domain_symbols domain_in domain_follow domain_takes again refl

pub tree_or_place : (depth : ℕ) (text : List ℕ) → 2 ≤ depth → ((x : Domain) × SpellsWithin depth text x) ⊎ ((e : TextFault) × IsPlace DomainTokens depth text e)
tree_or_place = places.tree_or_place DomainTokens domain_symbols domain_in domain_follow domain_takes again refl

pub one_place : (depth : ℕ) (text : List ℕ) (e f : TextFault) → 2 ≤ depth → IsPlace DomainTokens depth text e → IsPlace DomainTokens depth text f → e ≡ f
one_place = places.one_place DomainTokens domain_symbols domain_in domain_follow domain_takes again refl

pub spells_run : (x : Domain) (ts : List Piece) → DomainTokens x ts → run domain_symbols ts ≡ Some []
spells_run = places.spells_run DomainTokens domain_symbols domain_in domain_follow domain_takes again refl

pub run_tree : (ts : List Piece) → run domain_symbols ts ≡ Some [] → (x : Domain) × DomainTokens x ts
run_tree = places.run_tree DomainTokens domain_symbols domain_in domain_follow domain_takes again refl
