-- What tokens of a domain or a problem spell within a depth has a shape of that depth.
use Rattle.std.proofs.Common.{◌≡◌, ℕ, suc, Bool, true, false, cond, List, [], ◌∷◌, ◌++◌, Option, Some, None, refl, sym, ap, subst, ◌∙◌, arith}
use Rattle.std.specs.Prelude.{codes, unwrap_or, is_some}
use Rattle.std.proofs.lemmas.Bool.{lt-ltb}
use Rattle.plus_tokens.specs.declared.span.Span.{Span}
use Rattle.plus_tree.specs.declared.names.Spelled.{Spelled}
use Rattle.plus_tree.specs.declared.terms.TypedName.{TypedName}
use Rattle.plus_tree.specs.declared.terms.Use.{Use}
use Rattle.plus_tree.specs.declared.trees.Schema.{Schema}
use Rattle.plus_tree.specs.declared.trees.Domain.{Domain}
use Rattle.plus_tree.specs.declared.trees.Init.{Init}
use Rattle.plus_tree.specs.declared.trees.Init.TheVariants.{Holds, Absent, Value, At, AtNot}
use Rattle.plus_tree.specs.declared.trees.Problem.{Problem}
use Rattle.plus_tree.specs.Cond.{Cond}
use Rattle.plus_parser.specs.declared.phrases.words.Allowed.{Allowed}
use Rattle.plus_parser.specs.declared.phrases.words.Allowed.TheVariants.{Terms, Names}
use Rattle.plus_tokens.specs.Items.{Piece}
use Rattle.plus_parser.specs.Phrases.Spells.{Wrapped, Chain}
use Rattle.plus_parser.proofs.PhraseLemmas.Level.{Level, Even, is_flat, level_append, level_flat, level_none, level_use, number_flat, split_append, after_flat}
use Rattle.plus_parser.specs.declared.parts.Keys.{Keys}
use Rattle.plus_parser.specs.declared.parts.DomainParts.{DomainParts}
use Rattle.plus_parser.specs.declared.parts.ProblemParts.{ProblemParts}
use Rattle.plus_parser.specs.declared.keywords.KeyWord.TheVariants as keys
use Rattle.plus_parser.specs.declared.keywords.DomainWord.TheVariants as domains
use Rattle.plus_parser.specs.declared.keywords.ProblemWord.TheVariants as problems
use Rattle.plus_parser.specs.ReadingDomain.{no_keys, no_parts, or_all, or_nothing}
use Rattle.plus_parser.specs.ReadingProblem.{no_problem_parts, problem_made}
use Rattle.plus_parser.specs.SpellsDomain.{Key, k_parameters, k_condition, k_effect, SpellsKey, with_key, SpellsSchema, DomainPart, d_requirements, d_types, d_constants, d_predicates, d_functions, d_action, d_process, d_event, SpellsDomainPart, with_domain_part, DomainTokens}
use Rattle.plus_parser.specs.SpellsProblem.{SpellsNot, SpellsInit, ProblemPart, p_domain, p_requirements, p_objects, p_init, p_goal, p_metric, SpellsProblemPart, with_problem_part, ProblemTokens}
use Rattle.plus_parser.proofs.Sections.{body_even}
use Rattle.plus_parser.proofs.FormLemmas.FormLevels.{level_cond}
use Rattle.plus_canonical.proofs.Forms.{AllOf, chain_level}
use Rattle.plus_canonical.proofs.Lists.{added_keeps, all_append}
use Rattle.plus_canonical.proofs.Schemas.{key_kind, key_level, schema_level}
use Rattle.plus_canonical.proofs.Inits.{not_level, init_level}
use Rattle.plus_canonical.proofs.GoodDomains as domain_parts
use Rattle.plus_canonical.proofs.GoodProblems as problem_parts
use Rattle.plus_translation.specs.Depth.{form, cond_within, effect_within, init_within}
use Rattle.laws_translation.proofs.DepthLemmas.Depths.{inner_of, both, forms_at, use_inner, use_shape, cond_shape, effect_shape}

-- the members of what tokens spell, each with the room of all
chain_even : (n : ℕ) (X : Type 0) (P : X → List Piece → Type 0) (R : X → Type 0) → ((x : X) (ts : List Piece) → P x ts → Level ts) → ((x : X) (ts : List Piece) → Even n ts → P x ts → R x)
    → (xs : List X) (ts : List Piece) → Even n ts → Chain P xs ts → AllOf R xs
chain_even n X P R level f [] ts l c = tt
chain_even n X P R level f (x ∷ xs) ts l c =
    let m = split_append n c.0 c.1 (level x c.0 c.2) (subst (Even n) c.4 l) in
    (f x c.0 m.0 c.2, chain_even n X P R level f xs c.1 m.1 c.3)

-- ---- schemas

module _ (n : ℕ) where
  -- its condition and its effect have this room
  pub record RuleShape (a : Schema) : Type 0 where
    pub condition : cond_within n a.condition ≡ true
    pub effect : effect_within n a.effect ≡ true

  record KeysShape (ks : Keys) : Type 0 where
    condition : cond_within n (or_all ks.condition) ≡ true
    effect : effect_within n (or_nothing ks.effect) ≡ true

  abbrev KeyShape : Key → Type 0
  KeyShape (k_parameters vs) = Unit {0}
  KeyShape (k_condition c) = cond_within n c ≡ true
  KeyShape (k_effect e) = effect_within n e ≡ true

  behind_flat : (p : Piece) (inner ts : List Piece) → is_flat p.kind ≡ true → ts ≡ p ∷ inner → Even n ts → Even n inner
  behind_flat p inner ts flat whole even = sym (after_flat n p inner flat) ∙ subst (Even n) whole even

  key_shape : (x : Key) (ts : List Piece) → Even n ts → SpellsKey x ts → KeyShape x
  key_shape (k_parameters vs) ts even c = tt
  key_shape (k_condition c) ts even (p, inner, is, spelled, whole) = cond_shape n c inner (behind_flat p inner ts (key_kind p keys.Precondition is (λ e. cc)) whole even) spelled
  key_shape (k_effect e) ts even (p, inner, is, spelled, whole) = effect_shape n e inner (behind_flat p inner ts (key_kind p keys.Effect is (λ e. cc)) whole even) spelled

  keys_through : (b : Bool) (ks ms : Keys) → cond {A = Option Keys} b None (Some ks) ≡ Some ms → KeysShape ks → KeysShape ms
  keys_through true ks ms e g = absurd cc
  keys_through false ks ms e g = let same : ks ≡ ms = cc in subst KeysShape same g

  key_keeps : (ks : Keys) (x : Key) (ms : Keys) → KeysShape ks → KeyShape x → with_key ks x ≡ Some ms → KeysShape ms
  key_keeps ks (k_parameters vs) ms g x e = keys_through (is_some ks.parameters) (record ks { parameters = Some vs }) ms e (record { condition = g.condition; effect = g.effect })
  key_keeps ks (k_condition c) ms g x e = keys_through (is_some ks.condition) (record ks { condition = Some c }) ms e (record { condition = x; effect = g.effect })
  key_keeps ks (k_effect f) ms g x e = keys_through (is_some ks.effect) (record ks { effect = Some f }) ms e (record { condition = g.condition; effect = x })

  rule_shape : form n ≡ true → (a : Schema) (ts : List Piece) → Even n ts → SpellsSchema a ts → RuleShape a
  rule_shape fits a ts even s =
      let body : Even n s.body = behind_flat s.name s.body ts (ap is_flat s.is_name) s.whole even in
      let k = added_keeps Keys Key with_key KeysShape KeyShape key_keeps s.keys no_keys s.found (record { condition = both _ _ fits refl; effect = both _ _ fits refl })
      (chain_even n Key SpellsKey KeyShape key_level key_shape s.keys s.body body s.spelled) s.once in
      record {
        condition = subst (λ (b : Schema). cond_within n b.condition ≡ true) (sym s.is) k.condition;
        effect = subst (λ (b : Schema). effect_within n b.effect ≡ true) (sym s.is) k.effect;
      }

  -- ---- domains

  record PartsShape (s : DomainParts) : Type 0 where
    actions : AllOf RuleShape s.actions
    processes : AllOf RuleShape s.processes
    events : AllOf RuleShape s.events

  abbrev PartShape : DomainPart → Type 0
  PartShape (d_action a) = RuleShape a
  PartShape (d_process a) = RuleShape a
  PartShape (d_event a) = RuleShape a
  PartShape _ = Unit {0}

  section_shape : form n ≡ true → (s : Span) (p : Piece) (body ts : List Piece) (a : Schema) → is_flat p.kind ≡ true → Wrapped s (p ∷ body) ts → Even (suc n) ts → SpellsSchema a body → RuleShape a
  section_shape fits s p body ts a flat wrapped even spelled =
      let i = inner_of (suc n) s p body ts flat wrapped (schema_level a body spelled) even in
      let m : i.room ≡ n = (let e = i.is in omega (arith, e)) in
      rule_shape fits a body (subst (λ k. Even k body) m i.even) spelled

  part_shape : form n ≡ true → (x : DomainPart) (ts : List Piece) → Even (suc n) ts → SpellsDomainPart x ts → PartShape x
  part_shape fits (d_action a) ts even (s, p, body, is, wrapped, c, e) = section_shape fits s p body ts a (domain_parts.part_kind p domains.Action is (λ e. cc)) wrapped even c
  part_shape fits (d_process a) ts even (s, p, body, is, wrapped, c, e) = section_shape fits s p body ts a (domain_parts.part_kind p domains.Process is (λ e. cc)) wrapped even c
  part_shape fits (d_event a) ts even (s, p, body, is, wrapped, c, e) = section_shape fits s p body ts a (domain_parts.part_kind p domains.Event is (λ e. cc)) wrapped even c
  part_shape fits (d_requirements xs) ts even c = tt
  part_shape fits (d_types xs) ts even c = tt
  part_shape fits (d_constants xs) ts even c = tt
  part_shape fits (d_predicates xs) ts even c = tt
  part_shape fits (d_functions xs) ts even c = tt

  parts_through : (b : Bool) (s t : DomainParts) → cond {A = Option DomainParts} b None (Some s) ≡ Some t → PartsShape s → PartsShape t
  parts_through true s t e g = absurd cc
  parts_through false s t e g = let same : s ≡ t = cc in subst PartsShape same g

  part_keeps : (s : DomainParts) (x : DomainPart) (t : DomainParts) → PartsShape s → PartShape x → with_domain_part s x ≡ Some t → PartsShape t
  part_keeps s (d_requirements xs) t g x e = parts_through (is_some s.requirements) (record s { requirements = Some xs }) t e (record { actions = g.actions; processes = g.processes; events = g.events })
  part_keeps s (d_types xs) t g x e = parts_through (is_some s.types) (record s { types = Some xs }) t e (record { actions = g.actions; processes = g.processes; events = g.events })
  part_keeps s (d_constants xs) t g x e = parts_through (is_some s.constants) (record s { constants = Some xs }) t e (record { actions = g.actions; processes = g.processes; events = g.events })
  part_keeps s (d_predicates xs) t g x e = parts_through (is_some s.predicates) (record s { predicates = Some xs }) t e (record { actions = g.actions; processes = g.processes; events = g.events })
  part_keeps s (d_functions xs) t g x e = parts_through (is_some s.functions) (record s { functions = Some xs }) t e (record { actions = g.actions; processes = g.processes; events = g.events })
  part_keeps s (d_action a) t g x e =
      parts_through false (record s { actions = s.actions ++ a ∷ [] }) t e (record { actions = all_append Schema RuleShape s.actions (a ∷ []) g.actions (x, tt); processes = g.processes; events = g.events })
  part_keeps s (d_process a) t g x e =
      parts_through false (record s { processes = s.processes ++ a ∷ [] }) t e (record { actions = g.actions; processes = all_append Schema RuleShape s.processes (a ∷ []) g.processes (x, tt); events = g.events })
  part_keeps s (d_event a) t g x e =
      parts_through false (record s { events = s.events ++ a ∷ [] }) t e (record { actions = g.actions; processes = g.processes; events = all_append Schema RuleShape s.events (a ∷ []) g.events (x, tt) })

  pub record DomainShape (d : Domain) : Type 0 where
    pub actions : AllOf RuleShape d.actions
    pub processes : AllOf RuleShape d.processes
    pub events : AllOf RuleShape d.events

  pub domain_shape : form n ≡ true → (d : Domain) (ts : List Piece) → Even (suc (suc n)) ts → DomainTokens d ts → DomainShape d
  domain_shape fits d ts even t =
      let body : Even (suc n) t.body = body_even (codes "domain") d.name d.span t.body ts t.frame n (chain_level DomainPart SpellsDomainPart domain_parts.part_level t.parts t.body t.spelled) even in
      let g = added_keeps DomainParts DomainPart with_domain_part PartsShape PartShape part_keeps t.parts no_parts t.found (record { actions = tt; processes = tt; events = tt })
      (chain_even (suc n) DomainPart SpellsDomainPart PartShape domain_parts.part_level (part_shape fits) t.parts t.body body t.spelled) t.once in
      record {
        actions = subst (λ (x : Domain). AllOf RuleShape x.actions) (sym t.is) g.actions;
        processes = subst (λ (x : Domain). AllOf RuleShape x.processes) (sym t.is) g.processes;
        events = subst (λ (x : Domain). AllOf RuleShape x.events) (sym t.is) g.events;
      }

  -- ---- problems

  not_inner : (m : ℕ) (allowed : Allowed) (u : Use) (s : Span) (ts : List Piece) → Even m ts → SpellsNot allowed u s ts → (k : ℕ) × (m ≡ suc (suc k))
  not_inner m allowed u s ts even (a, inner, is, wrapped, spelled) =
      let i = inner_of m s a inner ts (ap is_flat is.0) wrapped (level_use allowed u inner spelled) even in
      let v = use_inner i.room allowed u inner i.even spelled in
      (v.0, i.is ∙ ap suc v.1)

  init_shape : (x : Init) (ts : List Piece) → Even n ts → SpellsInit x ts → init_within n x ≡ true
  init_shape (Holds u) ts even spelled = use_shape n Names u ts even spelled
  init_shape (Absent u s) ts even spelled = let r = not_inner n Names u s ts even spelled in lt-ltb 1 n (let e = r.1 in omega (arith, e))
  init_shape (Value u x s) ts even (a, inner, p, is, wrapped, spelled, number) =
      let flat : is_flat p.kind ≡ true = number_flat p x number in
      let i = inner_of n s a (inner ++ p ∷ []) ts (ap is_flat is) wrapped (level_append inner (p ∷ []) (level_use Names u inner spelled) (level_flat p [] flat level_none)) even in
      let b = split_append i.room inner (p ∷ []) (level_use Names u inner spelled) i.even in
      let v = use_inner i.room Names u inner b.0 spelled in
      forms_at n i.room v.0 i.is v.1
  init_shape (At t u s) ts even (a, p, inner, is, time, wrapped, spelled) =
      let flat : is_flat p.kind ≡ true = number_flat p t time.0 in
      let i = inner_of n s a (p ∷ inner) ts (ap is_flat is.0) wrapped (level_flat p inner flat (level_use Terms u inner spelled)) even in
      let v = use_inner i.room Terms u inner (sym (after_flat i.room p inner flat) ∙ i.even) spelled in
      forms_at n i.room v.0 i.is v.1
  init_shape (AtNot t u s) ts even (a, p, inner, is, time, wrapped, spelled) =
      let flat : is_flat p.kind ≡ true = number_flat p t time.0 in
      let i = inner_of n s a (p ∷ inner) ts (ap is_flat is.0) wrapped (level_flat p inner flat (not_level Terms u spelled.0 inner spelled.1)) even in
      let r = not_inner i.room Terms u spelled.0 inner (sym (after_flat i.room p inner flat) ∙ i.even) spelled.1 in
      lt-ltb 2 n (let e = i.is in let f = r.1 in omega (arith, e, f))

  abbrev Found : {A : Type 0} → (A → Type 0) → Option A → Type 0
  Found P None = Unit {0}
  Found P (Some x) = P x

  abbrev InitShape : Init → Type 0
  InitShape x = init_within n x ≡ true

  abbrev GoalShape : Cond → Type 0
  GoalShape c = cond_within n c ≡ true

  record SectionsShape (s : ProblemParts) : Type 0 where
    init : Found (AllOf InitShape) s.init
    goal : Found GoalShape s.goal

  abbrev SectionShape : ProblemPart → Type 0
  SectionShape (p_init xs) = AllOf InitShape xs
  SectionShape (p_goal c) = GoalShape c
  SectionShape _ = Unit {0}

  problem_section : (x : ProblemPart) (ts : List Piece) → Even (suc n) ts → SpellsProblemPart x ts → SectionShape x
  problem_section (p_init xs) ts even (s, p, body, is, wrapped, c) =
      let i = inner_of (suc n) s p body ts (problem_parts.part_kind p problems.Init is (λ e. cc)) wrapped (chain_level Init SpellsInit init_level xs body c) even in
      let m : i.room ≡ n = (let e = i.is in omega (arith, e)) in
      chain_even n Init SpellsInit InitShape init_level init_shape xs body (subst (λ k. Even k body) m i.even) c
  problem_section (p_goal g) ts even (s, p, body, is, wrapped, c) =
      let i = inner_of (suc n) s p body ts (problem_parts.part_kind p problems.Goal is (λ e. cc)) wrapped (level_cond g body c) even in
      let m : i.room ≡ n = (let e = i.is in omega (arith, e)) in
      cond_shape n g body (subst (λ k. Even k body) m i.even) c
  problem_section (p_domain x) ts even c = tt
  problem_section (p_requirements xs) ts even c = tt
  problem_section (p_objects xs) ts even c = tt
  problem_section p_metric ts even c = tt

  sections_through : (b : Bool) (s t : ProblemParts) → cond {A = Option ProblemParts} b None (Some s) ≡ Some t → SectionsShape s → SectionsShape t
  sections_through true s t e g = absurd cc
  sections_through false s t e g = let same : s ≡ t = cc in subst SectionsShape same g

  section_keeps : (s : ProblemParts) (x : ProblemPart) (t : ProblemParts) → SectionsShape s → SectionShape x → with_problem_part s x ≡ Some t → SectionsShape t
  section_keeps s (p_domain y) t g x e = sections_through (is_some s.domain) (record s { domain = Some y }) t e (record { init = g.init; goal = g.goal })
  section_keeps s (p_requirements xs) t g x e = sections_through (is_some s.requirements) (record s { requirements = Some xs }) t e (record { init = g.init; goal = g.goal })
  section_keeps s (p_objects xs) t g x e = sections_through (is_some s.objects) (record s { objects = Some xs }) t e (record { init = g.init; goal = g.goal })
  section_keeps s (p_init xs) t g x e = sections_through (is_some s.init) (record s { init = Some xs }) t e (record { init = x; goal = g.goal })
  section_keeps s (p_goal c) t g x e = sections_through (is_some s.goal) (record s { goal = Some c }) t e (record { init = g.init; goal = x })
  section_keeps s p_metric t g x e = sections_through s.metric (record s { metric = true }) t e (record { init = g.init; goal = g.goal })

  pub record ProblemShape (p : Problem) : Type 0 where
    pub init : AllOf InitShape p.init
    pub goal : cond_within n p.goal ≡ true

  some_problem : (p q : Problem) → ◌≡◌ {A = Option Problem} (Some p) (Some q) → p ≡ q
  some_problem p q e = cc

  abbrev the_parts : Option Spelled → Option (List Spelled) → Option (List TypedName) → Option (List Init) → Option Cond → Bool → ProblemParts
  the_parts d r o i g m = record { domain = d; requirements = r; objects = o; init = i; goal = g; metric = m }

  problem_made_shape : (p : Problem) (d : Option Spelled) (r : Option (List Spelled)) (o : Option (List TypedName)) (i : Option (List Init)) (g : Option Cond) (q : Bool)
      → problem_made p.name (the_parts d r o i g q) p.span ≡ Some p → SectionsShape (the_parts d r o i g q) → ProblemShape p
  problem_made_shape p (Some d) r o (Some i) (Some g) q e shape =
      let is : record { name = p.name; domain = d; requirements = unwrap_or r []; objects = unwrap_or o []; init = i; goal = g; span = p.span } ≡ p = some_problem _ p e in
      record { init = subst (λ (q : Problem). AllOf InitShape q.init) is shape.init; goal = subst (λ (q : Problem). cond_within n q.goal ≡ true) is shape.goal }
  problem_made_shape p None r o i g q e shape = absurd cc
  problem_made_shape p (Some d) r o None g q e shape = absurd cc
  problem_made_shape p (Some d) r o (Some i) None q e shape = absurd cc

  pub problem_shape : (p : Problem) (ts : List Piece) → Even (suc (suc n)) ts → ProblemTokens p ts → ProblemShape p
  problem_shape p ts even t =
      let body : Even (suc n) t.body = body_even (codes "problem") p.name p.span t.body ts t.frame n (chain_level ProblemPart SpellsProblemPart problem_parts.part_level t.parts t.body t.spelled) even in
      let s = t.found in
      problem_made_shape p s.domain s.requirements s.objects s.init s.goal s.metric t.is
      (added_keeps ProblemParts ProblemPart with_problem_part SectionsShape SectionShape section_keeps t.parts no_problem_parts t.found (record { init = tt; goal = tt })
      (chain_even (suc n) ProblemPart SpellsProblemPart SectionShape problem_parts.part_level problem_section t.parts t.body body t.spelled) t.once)
