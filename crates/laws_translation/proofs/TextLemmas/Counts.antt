-- A text has no more events, and no more variables in one of them, than tokens, of which there are no more than bytes and one.
use Rattle.std.proofs.Common.{◌≡◌, ℕ, zero, suc, ◌+◌, ◌-◌, ◌<◌, ◌≤◌, ◌^◌, Bool, true, false, cond, List, [], ◌∷◌, ◌++◌, map, length, refl, sym, ap, subst, arith, inl, inr, Option, Some, None, Result, Ok, Err, length-append}
use Rattle.std.specs.Prelude.{◌==◌, unwrap_or, is_some, option_and_then}
use Rattle.std.specs.List.{AllByRecursion}
use Rattle.std.proofs.lemmas.List.Elements.{All-from_recursion}
use Rattle.plus_tokens.specs.declared.token.Token.{Token}
use Rattle.plus_tokens.specs.declared.token.LexFault.{LexFault}
use Rattle.plus_tokens.specs.First.{first_token}
use Rattle.plus_tokens.specs.declared.span.Span.{Span}
use Rattle.plus_tree.specs.declared.terms.TypedName.{TypedName}
use Rattle.plus_tree.specs.declared.trees.Schema.{Schema}
use Rattle.plus_tree.specs.declared.trees.Domain.{Domain}
use Rattle.plus_tree.specs.Cond.{Cond, Conds, c_all, c_any, c_not, c_imply, c_forall, c_exists, c_atom, c_same, c_compare, no_conds, more_conds}
use Rattle.plus_tree.specs.Effect.{Effect, Effects, e_all, e_forall, e_when, e_leaf, no_effects, more_effects}
use Rattle.plus_parser.specs.declared.phrases.words.Allowed.{Allowed}
use Rattle.plus_parser.specs.declared.phrases.words.Allowed.TheVariants.{Variables}
use Rattle.plus_tokens.specs.Items.{Piece, tok, items_step, items_from}
use Rattle.plus_parser.specs.Phrases.Grammar.{Listing, no_names, of_type, object_type}
use Rattle.plus_parser.specs.Phrases.Spells.{Wrapped, Chain, added, ListPart, l_name, l_type, SpellsListPart, with_list_part, SpellsList, SpellsVariables}
use Rattle.plus_parser.specs.Forms.SpellsForms.{SpellsCond, SpellsConds, SpellsEffect, SpellsEffects}
use Rattle.plus_parser.specs.declared.parts.Keys.{Keys}
use Rattle.plus_parser.specs.declared.parts.DomainParts.{DomainParts}
use Rattle.plus_parser.specs.ReadingDomain.{no_keys, no_parts, or_all, or_nothing}
use Rattle.plus_parser.specs.SpellsDomain.{Key, k_parameters, k_condition, k_effect, SpellsKey, with_key, SpellsSchema, DomainPart, d_requirements, d_types, d_constants, d_predicates, d_functions, d_action, d_process, d_event, SpellsDomainPart, with_domain_part}
use Rattle.plus_canonical.proofs.Lists.{added_keeps}
use Rattle.plus_canonical.proofs.Forms.{AllOf}
use Rattle.plus_translation.specs.Renamed.{bindings_in, bindings_among, effect_bindings, effects_bindings}
use Rattle.laws_translation.specs.Laws.{variables_of, FewInText}

-- ---- sizes of what parts give

-- where each part adds no more than its tokens, all together do
added_weighs : (S X : Type 0) (spells : X → List Piece → Type 0) (add : S → X → Option S) (size : S → ℕ) → ((s : S) (x : X) (t : S) (ts : List Piece) → spells x ts → add s x ≡ Some t → size t ≤ size s + length ts)
    → (xs : List X) (s t : S) (ts : List Piece) → Chain spells xs ts → added add s xs ≡ Some t → size t ≤ size s + length ts
added_weighs S X spells add size weighs [] s t ts c e = let same : size s ≡ size t = ap (λ (o : Option S). size (unwrap_or o s)) e in omega (arith, same)
added_weighs S X spells add size weighs (x ∷ xs) s t ts (front, back, one, more, whole) e =
    next (add s x) (λ m is. weighs s x m front one is) (λ m k. added_weighs S X spells add size weighs xs m t back more k) e
  where
    next : (r : Option S) → ((m : S) → r ≡ Some m → size m ≤ size s + length front) → ((m : S) → added add m xs ≡ Some t → size t ≤ size m + length back) → option_and_then (λ m. added add m xs) r ≡ Some t → size t ≤ size s + length ts
    next (Some m) here rest e = let a = here m refl in let b = rest m e in let l = ap length whole in let k = length-append front back in omega (arith, a, b, l, k)
    next None here rest e = absurd cc

wrapped_long : (s : Span) (body ts : List Piece) → Wrapped s body ts → length body ≤ length ts
wrapped_long s body ts w = let l = ap length w.whole in let k = length-append body (w.last ∷ []) in omega (arith, l, k)

-- behind its first token
form_long : (s : Span) (a : Piece) (inner ts : List Piece) → Wrapped s (a ∷ inner) ts → length inner ≤ length ts
form_long s a inner ts w = let l = wrapped_long s (a ∷ inner) ts w in omega (arith, l)

-- two parts behind it
pair_long : (s : Span) (a : Piece) (front back ts : List Piece) → Wrapped s (a ∷ (front ++ back)) ts → length front + length back ≤ length ts
pair_long s a front back ts w = let l = form_long s a (front ++ back) ts w in let k = length-append front back in omega (arith, l, k)

length_map : {X Y : Type 0} (f : X → Y) (xs : List X) → length (map f xs) ≡ length xs
length_map f [] = refl
length_map f (x ∷ xs) = ap suc (length_map f xs)

-- ---- variables

abbrev names_in : Listing → ℕ
names_in l = length l.typed + length l.waiting

listing_weighs : (allowed : Allowed) (l : Listing) (x : ListPart) (m : Listing) (ts : List Piece) → SpellsListPart allowed x ts → with_list_part l x ≡ Some m → names_in m ≤ names_in l + length ts
listing_weighs allowed l (l_name x) m ts (p, ok, is, whole) e =
    let same : names_in (record l { waiting = l.waiting ++ x ∷ [] }) ≡ names_in m = ap (λ (o : Option Listing). names_in (unwrap_or o l)) e in
    let k = length-append l.waiting (x ∷ []) in
    let n = ap length whole in
    omega (arith, same, k, n)
listing_weighs allowed l (l_type x) m ts c e = by (length l.waiting == 0) e
  where
    by : (b : Bool) → cond {A = Option Listing} b None (Some (record { typed = l.typed ++ map (of_type x) l.waiting; waiting = [] })) ≡ Some m → names_in m ≤ names_in l + length ts
    by true e = absurd cc
    by false e =
        let same : names_in (record { typed = l.typed ++ map (of_type x) l.waiting; waiting = [] }) ≡ names_in m = ap (λ (o : Option Listing). names_in (unwrap_or o l)) e in
        let k = length-append l.typed (map (of_type x) l.waiting) in
        let n = length_map (of_type x) l.waiting in
        omega (arith, same, k, n)

list_few : (allowed : Allowed) (xs : List TypedName) (ts : List Piece) → SpellsList allowed xs ts → length xs ≤ length ts
list_few allowed xs ts (found, s, is) =
    let w = added_weighs Listing ListPart (SpellsListPart allowed) with_list_part names_in (listing_weighs allowed) s.parts no_names found ts s.spelled s.typed in
    let k = length-append found.typed (map (of_type object_type) found.waiting) in
    let n = length_map (of_type object_type) found.waiting in
    let e = ap length is in
    omega (arith, w, k, n, e)

variables_few : (vs : List TypedName) (ts : List Piece) → SpellsVariables vs ts → length vs ≤ length ts
variables_few vs ts (s, inner, wrapped, spelled) = let a = list_few Variables vs inner spelled in let b = wrapped_long s inner ts wrapped in omega (arith, a, b)

mutual
  cond_few : (c : Cond) (ts : List Piece) → SpellsCond c ts → bindings_in c ≤ length ts
  cond_few (c_all cs s) ts (body, wrapped, inl (none, empty)) = let e = ap bindings_among none in omega (arith, e)
  cond_few (c_all cs s) ts (body, wrapped, inr (a, inner, is, e, spelled)) = let h = conds_few cs inner spelled in let l = wrapped_long s body ts wrapped in let k = ap length e in omega (arith, h, l, k)
  cond_few (c_any cs s) ts (a, inner, is, wrapped, spelled) = let h = conds_few cs inner spelled in let l = form_long s a inner ts wrapped in omega (arith, h, l)
  cond_few (c_not c s) ts (a, inner, is, wrapped, spelled) = let h = cond_few c inner spelled in let l = form_long s a inner ts wrapped in omega (arith, h, l)
  cond_few (c_imply c d s) ts (a, front, back, is, wrapped, one, two) = let h = cond_few c front one in let k = cond_few d back two in let l = pair_long s a front back ts wrapped in omega (arith, h, k, l)
  cond_few (c_forall vs c s) ts (a, front, back, is, wrapped, one, two) = let h = variables_few vs front one in let k = cond_few c back two in let l = pair_long s a front back ts wrapped in omega (arith, h, k, l)
  cond_few (c_exists vs c s) ts (a, front, back, is, wrapped, one, two) = let h = variables_few vs front one in let k = cond_few c back two in let l = pair_long s a front back ts wrapped in omega (arith, h, k, l)
  cond_few (c_atom u s) ts c = omega arith
  cond_few (c_same t u s) ts c = omega arith
  cond_few (c_compare op e f s) ts c = omega arith

  conds_few : (cs : Conds) (ts : List Piece) → SpellsConds cs ts → bindings_among cs ≤ length ts
  conds_few no_conds ts c = omega arith
  conds_few (more_conds c cs) ts (front, back, one, more, whole) =
      let h = cond_few c front one in let k = conds_few cs back more in let l = ap length whole in let n = length-append front back in omega (arith, h, k, l, n)

mutual
  effect_few : (e : Effect) (ts : List Piece) → SpellsEffect e ts → effect_bindings e ≤ length ts
  effect_few (e_all es s) ts (body, wrapped, inl (none, empty)) = let e = ap effects_bindings none in omega (arith, e)
  effect_few (e_all es s) ts (body, wrapped, inr (a, inner, is, e, spelled)) = let h = effects_few es inner spelled in let l = wrapped_long s body ts wrapped in let k = ap length e in omega (arith, h, l, k)
  effect_few (e_forall vs e s) ts (a, front, back, is, wrapped, one, two) = let h = variables_few vs front one in let k = effect_few e back two in let l = pair_long s a front back ts wrapped in omega (arith, h, k, l)
  effect_few (e_when c ls s) ts (a, front, back, is, wrapped, one, two) = let h = cond_few c front one in let l = pair_long s a front back ts wrapped in omega (arith, h, l)
  effect_few (e_leaf x s) ts c = omega arith

  effects_few : (es : Effects) (ts : List Piece) → SpellsEffects es ts → effects_bindings es ≤ length ts
  effects_few no_effects ts c = omega arith
  effects_few (more_effects e es) ts (front, back, one, more, whole) =
      let h = effect_few e front one in let k = effects_few es back more in let l = ap length whole in let n = length-append front back in omega (arith, h, k, l, n)

-- ---- schemas

abbrev variables_in : Keys → ℕ
variables_in ks = length (unwrap_or ks.parameters []) + bindings_in (or_all ks.condition) + effect_bindings (or_nothing ks.effect)

through : (b : Bool) (ks ms : Keys) (n : ℕ) → cond {A = Option Keys} b None (Some ks) ≡ Some ms → variables_in ks ≤ n → variables_in ms ≤ n
through true ks ms n e l = absurd cc
through false ks ms n e l = let same : ks ≡ ms = cc in subst (λ (k : Keys). variables_in k ≤ n) same l

key_weighs : (ks : Keys) (x : Key) (ms : Keys) (ts : List Piece) → SpellsKey x ts → with_key ks x ≡ Some ms → variables_in ms ≤ variables_in ks + length ts
key_weighs ks (k_parameters vs) ms ts (p, inner, is, spelled, whole) e =
    through (is_some ks.parameters) (record ks { parameters = Some vs }) ms (variables_in ks + length ts) e (let h = variables_few vs inner spelled in let l = ap length whole in omega (arith, h, l))
key_weighs ks (k_condition c) ms ts (p, inner, is, spelled, whole) e =
    through (is_some ks.condition) (record ks { condition = Some c }) ms (variables_in ks + length ts) e (let h = cond_few c inner spelled in let l = ap length whole in omega (arith, h, l))
key_weighs ks (k_effect f) ms ts (p, inner, is, spelled, whole) e =
    through (is_some ks.effect) (record ks { effect = Some f }) ms (variables_in ks + length ts) e (let h = effect_few f inner spelled in let l = ap length whole in omega (arith, h, l))

schema_few : (a : Schema) (ts : List Piece) → SpellsSchema a ts → variables_of a ≤ length ts
schema_few a ts s =
    let w = added_weighs Keys Key SpellsKey with_key variables_in key_weighs s.keys no_keys s.found s.body s.spelled s.once in
    let e : variables_of a ≡ variables_in s.found = ap variables_of s.is in
    let l = ap length s.whole in
    omega (arith, w, e, l)

-- ---- events

module _ (n : ℕ) where
  abbrev FewVariables : Schema → Type 0
  FewVariables a = variables_of a ≤ n

  abbrev PartFew : DomainPart → Type 0
  PartFew (d_event a) = FewVariables a
  PartFew _ = Unit {0}

  part_few : (x : DomainPart) (ts : List Piece) → length ts ≤ n → SpellsDomainPart x ts → PartFew x
  part_few (d_event a) ts l (s, p, body, is, wrapped, c, e) = let h = schema_few a body c in let k = form_long s p body ts wrapped in omega (arith, l, h, k)
  part_few (d_requirements xs) ts l c = tt
  part_few (d_types xs) ts l c = tt
  part_few (d_constants xs) ts l c = tt
  part_few (d_predicates xs) ts l c = tt
  part_few (d_functions xs) ts l c = tt
  part_few (d_action a) ts l c = tt
  part_few (d_process a) ts l c = tt

  parts_few : (xs : List DomainPart) (ts : List Piece) → length ts ≤ n → Chain SpellsDomainPart xs ts → AllOf PartFew xs
  parts_few [] ts l c = tt
  parts_few (x ∷ xs) ts l (front, back, one, more, whole) =
      let e = ap length whole in let k = length-append front back in
      (part_few x front (omega (arith, l, e, k)) one, parts_few xs back (omega (arith, l, e, k)) more)

  abbrev EventsFew : DomainParts → Type 0
  EventsFew s = AllByRecursion FewVariables s.events

  all_last : (ss : List Schema) (a : Schema) → AllByRecursion FewVariables ss → FewVariables a → AllByRecursion FewVariables (ss ++ a ∷ [])
  all_last [] a h k = (k, tt)
  all_last (s ∷ ss) a h k = (h.0, all_last ss a h.1 k)

  same_events : (b : Bool) (s t : DomainParts) → cond {A = Option DomainParts} b None (Some s) ≡ Some t → EventsFew s → EventsFew t
  same_events true s t e g = absurd cc
  same_events false s t e g = let same : s ≡ t = cc in subst EventsFew same g

  part_keeps : (s : DomainParts) (x : DomainPart) (t : DomainParts) → EventsFew s → PartFew x → with_domain_part s x ≡ Some t → EventsFew t
  part_keeps s (d_requirements xs) t g x e = same_events (is_some s.requirements) (record s { requirements = Some xs }) t e g
  part_keeps s (d_types xs) t g x e = same_events (is_some s.types) (record s { types = Some xs }) t e g
  part_keeps s (d_constants xs) t g x e = same_events (is_some s.constants) (record s { constants = Some xs }) t e g
  part_keeps s (d_predicates xs) t g x e = same_events (is_some s.predicates) (record s { predicates = Some xs }) t e g
  part_keeps s (d_functions xs) t g x e = same_events (is_some s.functions) (record s { functions = Some xs }) t e g
  part_keeps s (d_action a) t g x e = same_events false (record s { actions = s.actions ++ a ∷ [] }) t e g
  part_keeps s (d_process a) t g x e = same_events false (record s { processes = s.processes ++ a ∷ [] }) t e g
  part_keeps s (d_event a) t g x e = same_events false (record s { events = s.events ++ a ∷ [] }) t e (all_last s.events a g x)

abbrev events_in : DomainParts → ℕ
events_in s = length s.events

as_many : (b : Bool) (s t : DomainParts) (n : ℕ) → cond {A = Option DomainParts} b None (Some s) ≡ Some t → events_in s ≤ n → events_in t ≤ n
as_many true s t n e l = absurd cc
as_many false s t n e l = let same : s ≡ t = cc in subst (λ (p : DomainParts). events_in p ≤ n) same l

part_weighs : (s : DomainParts) (x : DomainPart) (t : DomainParts) (ts : List Piece) → SpellsDomainPart x ts → with_domain_part s x ≡ Some t → events_in t ≤ events_in s + length ts
part_weighs s (d_requirements xs) t ts c e = as_many (is_some s.requirements) (record s { requirements = Some xs }) t (events_in s + length ts) e (omega arith)
part_weighs s (d_types xs) t ts c e = as_many (is_some s.types) (record s { types = Some xs }) t (events_in s + length ts) e (omega arith)
part_weighs s (d_constants xs) t ts c e = as_many (is_some s.constants) (record s { constants = Some xs }) t (events_in s + length ts) e (omega arith)
part_weighs s (d_predicates xs) t ts c e = as_many (is_some s.predicates) (record s { predicates = Some xs }) t (events_in s + length ts) e (omega arith)
part_weighs s (d_functions xs) t ts c e = as_many (is_some s.functions) (record s { functions = Some xs }) t (events_in s + length ts) e (omega arith)
part_weighs s (d_action a) t ts c e = as_many false (record s { actions = s.actions ++ a ∷ [] }) t (events_in s + length ts) e (omega arith)
part_weighs s (d_process a) t ts c e = as_many false (record s { processes = s.processes ++ a ∷ [] }) t (events_in s + length ts) e (omega arith)
part_weighs s (d_event a) t ts (place, p, body, is, wrapped, c, e') e =
    as_many false (record s { events = s.events ++ a ∷ [] }) t (events_in s + length ts) e
    (let l = wrapped_long place (p ∷ body) ts wrapped in let k = length-append s.events (a ∷ []) in omega (arith, l, k))

-- ---- texts

items_few : (n : ℕ) (text : List ℕ) (from : ℕ) → length (items_from n text from) ≤ n
unfolding items_from
items_few zero text from = omega arith
items_few (suc n) text from = by (first_token text from) (λ last. items_few n text last)
  where
    by : (r : Result (Option Token) LexFault) → ((last : ℕ) → length (items_from n text last) ≤ n) → length (items_step (items_from n text) text r) ≤ suc n
    by (Ok None) more = omega arith
    by (Ok (Some t)) more = let h = more t.«end» in omega (arith, h)
    by (Err f) more = omega arith

all_fewer : (ss : List Schema) (n : ℕ) → n < 2 ^ 64 → AllByRecursion (λ (a : Schema). variables_of a ≤ n) ss → AllByRecursion (λ (a : Schema). variables_of a < 2 ^ 64) ss
all_fewer [] n l h = tt
all_fewer (a ∷ ss) n l h = let k = h.0 in (omega (arith, l, k), all_fewer ss n l h.1)

pub few_in_text : FewInText
few_in_text text d (ts, items, t) few =
    let i = items_few (length text + 1 - 0) text 0 in
    let e = ap length items in
    let m = length_map tok ts in
    let body : length t.body ≤ length ts = (let l = ap length t.frame.whole in let k = length-append t.body (t.frame.last ∷ []) in omega (arith, l, k)) in
    let n : ℕ = length text + 1 in
    let within : length t.body ≤ n = omega (arith, i, e, m, body) in
    let events = added_weighs DomainParts DomainPart SpellsDomainPart with_domain_part events_in part_weighs t.parts no_parts t.found t.body t.spelled t.once in
    let all = added_keeps DomainParts DomainPart with_domain_part (EventsFew n) (PartFew n) (part_keeps n) t.parts no_parts t.found tt (parts_few n t.parts t.body within t.spelled) t.once in
    let is : length d.events ≡ length t.found.events = ap (λ (x : Domain). length x.events) t.is in (
      (let l = few in omega (arith, events, within, is, l)),
      All-from_recursion (λ (a : Schema). variables_of a < 2 ^ 64) d.events
          (subst (λ (x : Domain). AllByRecursion (λ (a : Schema). variables_of a < 2 ^ 64) x.events) (sym t.is) (all_fewer t.found.events n (let l = few in omega (arith, l)) all)),
    )
