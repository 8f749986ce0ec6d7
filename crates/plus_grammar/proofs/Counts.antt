-- Parts that a reader adds up are those that are counted, and the other way round.
use Rattle.std.proofs.Common.{◌≡◌, List, [], ◌∷◌, ◌++◌, flat_map, refl, ap, sym, subst, ◌∙◌, append_assoc, append-nil, Option, Some, None}
use Rattle.std.specs.Prelude.{◌↔◌, is_some, unwrap_or, option_to_list}
use Rattle.plus_tree.specs.declared.trees.Schema.{Schema}
use Rattle.plus_tree.specs.declared.trees.Domain.{Domain}
use Rattle.plus_tree.specs.Cond.{Cond, c_all, no_conds}
use Rattle.plus_tree.specs.Effect.{Effect, e_all, no_effects}
use Rattle.plus_parser.specs.Phrases.Grammar.{nowhere}
use Rattle.plus_parser.specs.Phrases.Spells.{added}
use Rattle.plus_parser.proofs.PhraseLemmas.Forms.{some_is}
use Rattle.plus_parser.specs.declared.parts.Keys.{Keys}
use Rattle.plus_parser.specs.declared.parts.DomainParts.{DomainParts}
use Rattle.plus_parser.specs.ReadingDomain.{no_keys, or_all, or_nothing, schema_made, no_parts, domain_made}
use Rattle.plus_parser.specs.SpellsDomain.{Key, k_parameters, k_condition, k_effect, with_key, DomainPart, d_requirements, d_types, d_constants, d_predicates, d_functions, d_action, d_process, d_event, with_domain_part}
use Rattle.plus_grammar.specs.Counts.{IsOneOr, parameters_of, condition_of, effect_of, HasKeys, requirements_of, types_of, constants_of, predicates_of, functions_of, action_of, process_of, event_of, HasSections}
use Rattle.plus_grammar.proofs.Chains.{passed_unless}
use Rattle.plus_grammar.proofs.Once.{fills, filled, free, same_option, one_to, one_from}

-- ---- keys

-- what is there before, and what the keys give, is what is found
abbrev KeysFit : Keys → Keys → List Key → Type 0
KeysFit a b ks =
    (option_to_list a.parameters ++ flat_map parameters_of ks ≡ option_to_list b.parameters)
    × (option_to_list a.condition ++ flat_map condition_of ks ≡ option_to_list b.condition)
    × (option_to_list a.effect ++ flat_map effect_of ks ≡ option_to_list b.effect)

keys_fit : (ks : List Key) (a b : Keys) → added with_key a ks ≡ Some b → KeysFit a b ks
keys_fit [] a b e =
    subst (λ (c : Keys). KeysFit a c []) (some_is a b e)
    (append-nil (option_to_list a.parameters), append-nil (option_to_list a.condition), append-nil (option_to_list a.effect))
keys_fit (k_parameters vs ∷ ks) a b e =
    let p = passed_unless (is_some a.parameters) (record a { parameters = Some vs }) (λ t. added with_key t ks) b e in
    let r = keys_fit ks (record a { parameters = Some vs }) b p.1 in
    (fills a.parameters b.parameters vs (flat_map parameters_of ks) p.0 r.0, r.1, r.2)
keys_fit (k_condition c ∷ ks) a b e =
    let p = passed_unless (is_some a.condition) (record a { condition = Some c }) (λ t. added with_key t ks) b e in
    let r = keys_fit ks (record a { condition = Some c }) b p.1 in
    (r.0, fills a.condition b.condition c (flat_map condition_of ks) p.0 r.1, r.2)
keys_fit (k_effect x ∷ ks) a b e =
    let p = passed_unless (is_some a.effect) (record a { effect = Some x }) (λ t. added with_key t ks) b e in
    let r = keys_fit ks (record a { effect = Some x }) b p.1 in
    (r.0, r.1, fills a.effect b.effect x (flat_map effect_of ks) p.0 r.2)

keys_added : (ks : List Key) (a b : Keys) → KeysFit a b ks → added with_key a ks ≡ Some b
keys_added [] a b h =
    λ i. Some (record { parameters = same_option a.parameters b.parameters h.0 i; condition = same_option a.condition b.condition h.1 i; effect = same_option a.effect b.effect h.2 i })
keys_added (k_parameters vs ∷ ks) a b h =
    let made = record a { parameters = Some vs } in
    free a.parameters b.parameters vs (flat_map parameters_of ks) made (λ t. added with_key t ks) h.0
    ∙ keys_added ks made b (filled a.parameters b.parameters vs (flat_map parameters_of ks) h.0, h.1, h.2)
keys_added (k_condition c ∷ ks) a b h =
    let made = record a { condition = Some c } in
    free a.condition b.condition c (flat_map condition_of ks) made (λ t. added with_key t ks) h.1
    ∙ keys_added ks made b (h.0, filled a.condition b.condition c (flat_map condition_of ks) h.1, h.2)
keys_added (k_effect x ∷ ks) a b h =
    let made = record a { effect = Some x } in
    free a.effect b.effect x (flat_map effect_of ks) made (λ t. added with_key t ks) h.2
    ∙ keys_added ks made b (h.0, h.1, filled a.effect b.effect x (flat_map effect_of ks) h.2)

all_is : (o : Option Cond) → or_all o ≡ unwrap_or o (c_all no_conds nowhere)
all_is None = refl
all_is (Some c) = refl

nothing_is : (o : Option Effect) → or_nothing o ≡ unwrap_or o (e_all no_effects nowhere)
nothing_is None = refl
nothing_is (Some e) = refl

abbrev KeysMake : List Key → Schema → Type 0
KeysMake ks s = (found : Keys) × (added with_key no_keys ks ≡ Some found) × (s ≡ schema_made s.name found s.span)

keys_to : (ks : List Key) (s : Schema) → KeysMake ks s → HasKeys ks s
keys_to ks s h =
    let f = h.0 in
    let r = keys_fit ks no_keys f h.1 in
    record {
      parameters = subst (IsOneOr [] (flat_map parameters_of ks)) (sym (ap (λ (x : Schema). x.params) h.2)) (one_to [] (flat_map parameters_of ks) f.parameters r.0);
      condition =
          subst (IsOneOr (c_all no_conds nowhere) (flat_map condition_of ks)) (sym (ap (λ (x : Schema). x.condition) h.2 ∙ all_is f.condition))
          (one_to (c_all no_conds nowhere) (flat_map condition_of ks) f.condition r.1);
      effect =
          subst (IsOneOr (e_all no_effects nowhere) (flat_map effect_of ks)) (sym (ap (λ (x : Schema). x.effect) h.2 ∙ nothing_is f.effect))
          (one_to (e_all no_effects nowhere) (flat_map effect_of ks) f.effect r.2);
    }

keys_from : (ks : List Key) (s : Schema) → HasKeys ks s → KeysMake ks s
keys_from ks s h =
    let p = one_from [] (flat_map parameters_of ks) s.params h.parameters in
    let c = one_from (c_all no_conds nowhere) (flat_map condition_of ks) s.condition h.condition in
    let e = one_from (e_all no_effects nowhere) (flat_map effect_of ks) s.effect h.effect in
    let params = p.2 in
    let condition = c.2 ∙ sym (all_is c.0) in
    let effect = e.2 ∙ sym (nothing_is e.0) in (
      record { parameters = p.0; condition = c.0; effect = e.0 },
      keys_added ks no_keys (record { parameters = p.0; condition = c.0; effect = e.0 }) (p.1, c.1, e.1),
      λ i. record { name = s.name; params = params i; condition = condition i; effect = effect i; span = s.span },
    )

pub keys_by_counts : (ks : List Key) (s : Schema) → KeysMake ks s ↔ HasKeys ks s
keys_by_counts ks s = (keys_to ks s, keys_from ks s)

-- ---- sections of a domain

abbrev PartsFit : DomainParts → DomainParts → List DomainPart → Type 0
PartsFit a b ps =
    (option_to_list a.requirements ++ flat_map requirements_of ps ≡ option_to_list b.requirements)
    × (option_to_list a.types ++ flat_map types_of ps ≡ option_to_list b.types)
    × (option_to_list a.constants ++ flat_map constants_of ps ≡ option_to_list b.constants)
    × (option_to_list a.predicates ++ flat_map predicates_of ps ≡ option_to_list b.predicates)
    × (option_to_list a.functions ++ flat_map functions_of ps ≡ option_to_list b.functions)
    × (a.actions ++ flat_map action_of ps ≡ b.actions)
    × (a.processes ++ flat_map process_of ps ≡ b.processes)
    × (a.events ++ flat_map event_of ps ≡ b.events)

parts_fit : (ps : List DomainPart) (a b : DomainParts) → added with_domain_part a ps ≡ Some b → PartsFit a b ps
parts_fit [] a b e =
    subst (λ (c : DomainParts). PartsFit a c []) (some_is a b e)
    (append-nil (option_to_list a.requirements), append-nil (option_to_list a.types), append-nil (option_to_list a.constants), append-nil (option_to_list a.predicates), append-nil (option_to_list a.functions), append-nil a.actions, append-nil a.processes, append-nil a.events)
parts_fit (d_requirements xs ∷ ps) a b e =
    let p = passed_unless (is_some a.requirements) (record a { requirements = Some xs }) (λ t. added with_domain_part t ps) b e in
    let r = parts_fit ps (record a { requirements = Some xs }) b p.1 in
    (fills a.requirements b.requirements xs (flat_map requirements_of ps) p.0 r.0, r.1, r.2, r.3, r.4, r.5, r.6, r.7)
parts_fit (d_types xs ∷ ps) a b e =
    let p = passed_unless (is_some a.types) (record a { types = Some xs }) (λ t. added with_domain_part t ps) b e in
    let r = parts_fit ps (record a { types = Some xs }) b p.1 in
    (r.0, fills a.types b.types xs (flat_map types_of ps) p.0 r.1, r.2, r.3, r.4, r.5, r.6, r.7)
parts_fit (d_constants xs ∷ ps) a b e =
    let p = passed_unless (is_some a.constants) (record a { constants = Some xs }) (λ t. added with_domain_part t ps) b e in
    let r = parts_fit ps (record a { constants = Some xs }) b p.1 in
    (r.0, r.1, fills a.constants b.constants xs (flat_map constants_of ps) p.0 r.2, r.3, r.4, r.5, r.6, r.7)
parts_fit (d_predicates xs ∷ ps) a b e =
    let p = passed_unless (is_some a.predicates) (record a { predicates = Some xs }) (λ t. added with_domain_part t ps) b e in
    let r = parts_fit ps (record a { predicates = Some xs }) b p.1 in
    (r.0, r.1, r.2, fills a.predicates b.predicates xs (flat_map predicates_of ps) p.0 r.3, r.4, r.5, r.6, r.7)
parts_fit (d_functions xs ∷ ps) a b e =
    let p = passed_unless (is_some a.functions) (record a { functions = Some xs }) (λ t. added with_domain_part t ps) b e in
    let r = parts_fit ps (record a { functions = Some xs }) b p.1 in
    (r.0, r.1, r.2, r.3, fills a.functions b.functions xs (flat_map functions_of ps) p.0 r.4, r.5, r.6, r.7)
parts_fit (d_action x ∷ ps) a b e =
    let r = parts_fit ps (record a { actions = a.actions ++ x ∷ [] }) b e in
    (r.0, r.1, r.2, r.3, r.4, sym (append_assoc a.actions (x ∷ []) (flat_map action_of ps)) ∙ r.5, r.6, r.7)
parts_fit (d_process x ∷ ps) a b e =
    let r = parts_fit ps (record a { processes = a.processes ++ x ∷ [] }) b e in
    (r.0, r.1, r.2, r.3, r.4, r.5, sym (append_assoc a.processes (x ∷ []) (flat_map process_of ps)) ∙ r.6, r.7)
parts_fit (d_event x ∷ ps) a b e =
    let r = parts_fit ps (record a { events = a.events ++ x ∷ [] }) b e in
    (r.0, r.1, r.2, r.3, r.4, r.5, r.6, sym (append_assoc a.events (x ∷ []) (flat_map event_of ps)) ∙ r.7)

parts_added : (ps : List DomainPart) (a b : DomainParts) → PartsFit a b ps → added with_domain_part a ps ≡ Some b
parts_added [] a b h =
    let actions : a.actions ≡ b.actions = sym (append-nil a.actions) ∙ h.5 in
    let processes : a.processes ≡ b.processes = sym (append-nil a.processes) ∙ h.6 in
    let events : a.events ≡ b.events = sym (append-nil a.events) ∙ h.7 in
    λ i. Some (record {
      requirements = same_option a.requirements b.requirements h.0 i;
      types = same_option a.types b.types h.1 i;
      constants = same_option a.constants b.constants h.2 i;
      predicates = same_option a.predicates b.predicates h.3 i;
      functions = same_option a.functions b.functions h.4 i;
      actions = actions i;
      processes = processes i;
      events = events i;
    })
parts_added (d_requirements xs ∷ ps) a b h =
    let made = record a { requirements = Some xs } in
    free a.requirements b.requirements xs (flat_map requirements_of ps) made (λ t. added with_domain_part t ps) h.0
    ∙ parts_added ps made b (filled a.requirements b.requirements xs (flat_map requirements_of ps) h.0, h.1, h.2, h.3, h.4, h.5, h.6, h.7)
parts_added (d_types xs ∷ ps) a b h =
    let made = record a { types = Some xs } in
    free a.types b.types xs (flat_map types_of ps) made (λ t. added with_domain_part t ps) h.1
    ∙ parts_added ps made b (h.0, filled a.types b.types xs (flat_map types_of ps) h.1, h.2, h.3, h.4, h.5, h.6, h.7)
parts_added (d_constants xs ∷ ps) a b h =
    let made = record a { constants = Some xs } in
    free a.constants b.constants xs (flat_map constants_of ps) made (λ t. added with_domain_part t ps) h.2
    ∙ parts_added ps made b (h.0, h.1, filled a.constants b.constants xs (flat_map constants_of ps) h.2, h.3, h.4, h.5, h.6, h.7)
parts_added (d_predicates xs ∷ ps) a b h =
    let made = record a { predicates = Some xs } in
    free a.predicates b.predicates xs (flat_map predicates_of ps) made (λ t. added with_domain_part t ps) h.3
    ∙ parts_added ps made b (h.0, h.1, h.2, filled a.predicates b.predicates xs (flat_map predicates_of ps) h.3, h.4, h.5, h.6, h.7)
parts_added (d_functions xs ∷ ps) a b h =
    let made = record a { functions = Some xs } in
    free a.functions b.functions xs (flat_map functions_of ps) made (λ t. added with_domain_part t ps) h.4
    ∙ parts_added ps made b (h.0, h.1, h.2, h.3, filled a.functions b.functions xs (flat_map functions_of ps) h.4, h.5, h.6, h.7)
parts_added (d_action x ∷ ps) a b h =
    parts_added ps (record a { actions = a.actions ++ x ∷ [] }) b (h.0, h.1, h.2, h.3, h.4, append_assoc a.actions (x ∷ []) (flat_map action_of ps) ∙ h.5, h.6, h.7)
parts_added (d_process x ∷ ps) a b h =
    parts_added ps (record a { processes = a.processes ++ x ∷ [] }) b (h.0, h.1, h.2, h.3, h.4, h.5, append_assoc a.processes (x ∷ []) (flat_map process_of ps) ∙ h.6, h.7)
parts_added (d_event x ∷ ps) a b h =
    parts_added ps (record a { events = a.events ++ x ∷ [] }) b (h.0, h.1, h.2, h.3, h.4, h.5, h.6, append_assoc a.events (x ∷ []) (flat_map event_of ps) ∙ h.7)

abbrev PartsMake : List DomainPart → Domain → Type 0
PartsMake ps d = (found : DomainParts) × (added with_domain_part no_parts ps ≡ Some found) × (d ≡ domain_made d.name found d.span)

parts_to : (ps : List DomainPart) (d : Domain) → PartsMake ps d → HasSections ps d
parts_to ps d h =
    let f = h.0 in
    let r = parts_fit ps no_parts f h.1 in
    record {
      requirements = subst (IsOneOr [] (flat_map requirements_of ps)) (sym (ap (λ (x : Domain). x.requirements) h.2)) (one_to [] (flat_map requirements_of ps) f.requirements r.0);
      types = subst (IsOneOr [] (flat_map types_of ps)) (sym (ap (λ (x : Domain). x.types) h.2)) (one_to [] (flat_map types_of ps) f.types r.1);
      constants = subst (IsOneOr [] (flat_map constants_of ps)) (sym (ap (λ (x : Domain). x.constants) h.2)) (one_to [] (flat_map constants_of ps) f.constants r.2);
      predicates = subst (IsOneOr [] (flat_map predicates_of ps)) (sym (ap (λ (x : Domain). x.predicates) h.2)) (one_to [] (flat_map predicates_of ps) f.predicates r.3);
      functions = subst (IsOneOr [] (flat_map functions_of ps)) (sym (ap (λ (x : Domain). x.functions) h.2)) (one_to [] (flat_map functions_of ps) f.functions r.4);
      actions = ap (λ (x : Domain). x.actions) h.2 ∙ sym r.5;
      processes = ap (λ (x : Domain). x.processes) h.2 ∙ sym r.6;
      events = ap (λ (x : Domain). x.events) h.2 ∙ sym r.7;
    }

parts_from : (ps : List DomainPart) (d : Domain) → HasSections ps d → PartsMake ps d
parts_from ps d h =
    let re = one_from [] (flat_map requirements_of ps) d.requirements h.requirements in
    let ty = one_from [] (flat_map types_of ps) d.types h.types in
    let co = one_from [] (flat_map constants_of ps) d.constants h.constants in
    let pr = one_from [] (flat_map predicates_of ps) d.predicates h.predicates in
    let fu = one_from [] (flat_map functions_of ps) d.functions h.functions in
    let requirements = re.2 in
    let types = ty.2 in
    let constants = co.2 in
    let predicates = pr.2 in
    let functions = fu.2 in
    let actions = h.actions in
    let processes = h.processes in
    let events = h.events in
    let found : DomainParts = record { requirements = re.0; types = ty.0; constants = co.0; predicates = pr.0; functions = fu.0; actions = flat_map action_of ps; processes = flat_map process_of ps; events = flat_map event_of ps } in (
      found,
      parts_added ps no_parts found (re.1, ty.1, co.1, pr.1, fu.1, refl, refl, refl),
      λ i. record { name = d.name; requirements = requirements i; types = types i; constants = constants i; predicates = predicates i; functions = functions i; actions = actions i; processes = processes i; events = events i; span = d.span },
    )

pub sections_by_counts : (ps : List DomainPart) (d : Domain) → PartsMake ps d ↔ HasSections ps d
sections_by_counts ps d = (parts_to ps d, parts_from ps d)
