-- The tokens of a schema, of a domain, of a problem and of constraints by groups and counts are those that a reader is held to.
use Rattle.std.proofs.Common.{◌≡◌, List, [], ◌∷◌, refl, ap, sym, subst, ◌∙◌, inl, inr}
use Rattle.std.specs.Prelude.{◌↔◌}
use Rattle.plus_tree.specs.declared.trees.Schema.{Schema}
use Rattle.plus_tree.specs.declared.trees.Domain.{Domain}
use Rattle.plus_tree.specs.declared.trees.Problem.{Problem}
use Rattle.plus_tree.specs.declared.trees.Constraint.{Constraint}
use Rattle.plus_parser.specs.declared.phrases.words.Allowed.TheVariants.{Names}
use Rattle.plus_tokens.specs.Items.{Piece}
use Rattle.plus_parser.specs.Phrases.Grammar.{spelled_of}
use Rattle.plus_parser.specs.Phrases.Spells.{Wrapped}
use Rattle.plus_parser.specs.ReadingDomain.{schema_made}
use Rattle.plus_parser.specs.SpellsDomain.{SpellsHead, Key, k_parameters, k_condition, k_effect, SpellsKey, SpellsSchema, DomainPart, d_requirements, d_types, d_constants, d_predicates, d_functions, d_action, d_process, d_event, SpellsDomainPart, DomainTokens}
use Rattle.plus_parser.specs.SpellsProblem.{ProblemPart, p_domain, p_requirements, p_objects, p_init, p_goal, p_metric, SpellsProblemPart, ProblemTokens}
use Rattle.plus_parser.specs.SpellsConstraints.{SpellsConstraint, ConstraintTokens}
use Rattle.plus_grammar.specs.Groups.{IsHead}
use Rattle.plus_grammar.specs.Wholes.{IsKey, IsSchema, IsDomainPart, IsDomain, IsProblemPart, IsProblem, IsConstraint, AreConstraints}
use Rattle.plus_grammar.proofs.Chains.{chain_more}
use Rattle.plus_grammar.proofs.Lists.{lists_by_groups, types_by_groups}
use Rattle.plus_grammar.proofs.Functions.{head_to, head_from, functions_by_groups}
use Rattle.plus_grammar.proofs.Parentheses.{pairs_by_counts}
use Rattle.plus_grammar.proofs.FormLaws.{variables_to, variables_from, cond_to, cond_from, effect_to, effect_from}
use Rattle.plus_grammar.proofs.Counts.{keys_by_counts, sections_by_counts}
use Rattle.plus_grammar.proofs.Problems.{problems_by_counts}

-- ---- schemas

key_to : (k : Key) (ts : List Piece) → SpellsKey k ts → IsKey k ts
key_to (k_parameters vs) ts h = (h.0, h.1, h.2, variables_to vs h.1 h.3, h.4)
key_to (k_condition c) ts h = (h.0, h.1, h.2, cond_to c h.1 h.3, h.4)
key_to (k_effect e) ts h = (h.0, h.1, h.2, effect_to e h.1 h.3, h.4)

key_from : (k : Key) (ts : List Piece) → IsKey k ts → SpellsKey k ts
key_from (k_parameters vs) ts h = (h.0, h.1, h.2, variables_from vs h.1 h.3, h.4)
key_from (k_condition c) ts h = (h.0, h.1, h.2, cond_from c h.1 h.3, h.4)
key_from (k_effect e) ts h = (h.0, h.1, h.2, effect_from e h.1 h.3, h.4)

schema_to : (s : Schema) (ts : List Piece) → SpellsSchema s ts → IsSchema s ts
schema_to s ts h =
    let named : s.name ≡ spelled_of h.name = ap (λ (x : Schema). x.name) h.is in
    record {
      name = h.name;
      body = h.body;
      keys = h.keys;
      is_name = h.is_name;
      named = named;
      spelled = chain_more SpellsKey IsKey key_to h.keys h.body h.spelled;
      has = (keys_by_counts h.keys s).0 (h.found, h.once, h.is ∙ ap (λ n. schema_made n h.found s.span) (sym named));
      whole = h.whole;
    }

schema_from : (s : Schema) (ts : List Piece) → IsSchema s ts → SpellsSchema s ts
schema_from s ts h =
    let m = (keys_by_counts h.keys s).1 h.has in
    record {
      name = h.name;
      body = h.body;
      keys = h.keys;
      found = m.0;
      is_name = h.is_name;
      spelled = chain_more IsKey SpellsKey key_from h.keys h.body h.spelled;
      once = m.1;
      whole = h.whole;
      is = m.2 ∙ ap (λ n. schema_made n m.0 s.span) h.named;
    }

pub schemas_spelled : (s : Schema) (ts : List Piece) → SpellsSchema s ts ↔ IsSchema s ts
schemas_spelled s ts = (schema_to s ts, schema_from s ts)

-- ---- domains

part_to : (x : DomainPart) (ts : List Piece) → SpellsDomainPart x ts → IsDomainPart x ts
part_to (d_requirements xs) ts h = (h.0, (h.1, h.2, h.3, h.4, h.5))
part_to (d_types xs) ts h = (h.0, (h.1, h.2, h.3, h.4, (types_by_groups xs h.2).0 h.5))
part_to (d_constants xs) ts h = (h.0, (h.1, h.2, h.3, h.4, (lists_by_groups Names xs h.2).0 h.5))
part_to (d_predicates hs) ts h = (h.0, (h.1, h.2, h.3, h.4, chain_more SpellsHead IsHead head_to hs h.2 h.5))
part_to (d_functions hs) ts h = (h.0, (h.1, h.2, h.3, h.4, (functions_by_groups hs h.2).0 h.5))
part_to (d_action x) ts h = (h.1, h.2, h.3, subst (λ s. Wrapped s (h.1 ∷ h.2) ts) (sym h.6) h.4, schema_to x h.2 h.5)
part_to (d_process x) ts h = (h.1, h.2, h.3, subst (λ s. Wrapped s (h.1 ∷ h.2) ts) (sym h.6) h.4, schema_to x h.2 h.5)
part_to (d_event x) ts h = (h.1, h.2, h.3, subst (λ s. Wrapped s (h.1 ∷ h.2) ts) (sym h.6) h.4, schema_to x h.2 h.5)

part_from : (x : DomainPart) (ts : List Piece) → IsDomainPart x ts → SpellsDomainPart x ts
part_from (d_requirements xs) ts h = (h.0, h.1.0, h.1.1, h.1.2, h.1.3, h.1.4)
part_from (d_types xs) ts h = (h.0, h.1.0, h.1.1, h.1.2, h.1.3, (types_by_groups xs h.1.1).1 h.1.4)
part_from (d_constants xs) ts h = (h.0, h.1.0, h.1.1, h.1.2, h.1.3, (lists_by_groups Names xs h.1.1).1 h.1.4)
part_from (d_predicates hs) ts h = (h.0, h.1.0, h.1.1, h.1.2, h.1.3, chain_more IsHead SpellsHead head_from hs h.1.1 h.1.4)
part_from (d_functions hs) ts h = (h.0, h.1.0, h.1.1, h.1.2, h.1.3, (functions_by_groups hs h.1.1).1 h.1.4)
part_from (d_action x) ts h = (x.span, h.0, h.1, h.2, h.3, schema_from x h.1 h.4, refl)
part_from (d_process x) ts h = (x.span, h.0, h.1, h.2, h.3, schema_from x h.1 h.4, refl)
part_from (d_event x) ts h = (x.span, h.0, h.1, h.2, h.3, schema_from x h.1 h.4, refl)

domain_to : (d : Domain) (ts : List Piece) → DomainTokens d ts → IsDomain d ts
domain_to d ts h = record {
  body = h.body;
  parts = h.parts;
  frame = h.frame;
  spelled = chain_more SpellsDomainPart IsDomainPart part_to h.parts h.body h.spelled;
  has = (sections_by_counts h.parts d).0 (h.found, h.once, h.is);
}

domain_from : (d : Domain) (ts : List Piece) → IsDomain d ts → DomainTokens d ts
domain_from d ts h =
    let m = (sections_by_counts h.parts d).1 h.has in
    record {
      body = h.body;
      parts = h.parts;
      found = m.0;
      frame = h.frame;
      spelled = chain_more IsDomainPart SpellsDomainPart part_from h.parts h.body h.spelled;
      once = m.1;
      is = m.2;
    }

pub domains_spelled : (d : Domain) (ts : List Piece) → DomainTokens d ts ↔ IsDomain d ts
domains_spelled d ts = (domain_to d ts, domain_from d ts)

-- ---- problems

section_to : (x : ProblemPart) (ts : List Piece) → SpellsProblemPart x ts → IsProblemPart x ts
section_to (p_domain x) ts h = (h.0, h.1, h.2 ∷ [], h.3, h.4, (h.2, h.5, h.6, refl))
section_to (p_requirements xs) ts h = h
section_to (p_objects xs) ts h = (h.0, h.1, h.2, h.3, h.4, (lists_by_groups Names xs h.2).0 h.5)
section_to (p_init xs) ts h = h
section_to (p_goal c) ts h = (h.0, h.1, h.2, h.3, h.4, cond_to c h.2 h.5)
section_to p_metric ts h = (h.0, h.1, h.2, h.3, h.4, (pairs_by_counts h.2).0 h.5)

section_from : (x : ProblemPart) (ts : List Piece) → IsProblemPart x ts → SpellsProblemPart x ts
section_from (p_domain x) ts h =
    let n = h.5 in
    (h.0, h.1, n.0, h.3, subst (λ body. Wrapped h.0 (h.1 ∷ body) ts) n.3 h.4, n.1, n.2)
section_from (p_requirements xs) ts h = h
section_from (p_objects xs) ts h = (h.0, h.1, h.2, h.3, h.4, (lists_by_groups Names xs h.2).1 h.5)
section_from (p_init xs) ts h = h
section_from (p_goal c) ts h = (h.0, h.1, h.2, h.3, h.4, cond_from c h.2 h.5)
section_from p_metric ts h = (h.0, h.1, h.2, h.3, h.4, (pairs_by_counts h.2).1 h.5)

problem_to : (p : Problem) (ts : List Piece) → ProblemTokens p ts → IsProblem p ts
problem_to p ts h = record {
  body = h.body;
  parts = h.parts;
  frame = h.frame;
  spelled = chain_more SpellsProblemPart IsProblemPart section_to h.parts h.body h.spelled;
  has = (problems_by_counts h.parts p).0 (h.found, h.once, h.is);
}

problem_from : (p : Problem) (ts : List Piece) → IsProblem p ts → ProblemTokens p ts
problem_from p ts h =
    let m = (problems_by_counts h.parts p).1 h.has in
    record {
      body = h.body;
      parts = h.parts;
      found = m.0;
      frame = h.frame;
      spelled = chain_more IsProblemPart SpellsProblemPart section_from h.parts h.body h.spelled;
      once = m.1;
      is = m.2;
    }

pub problems_spelled : (p : Problem) (ts : List Piece) → ProblemTokens p ts ↔ IsProblem p ts
problems_spelled p ts = (problem_to p ts, problem_from p ts)

-- ---- constraints

constraint_to : (c : Constraint) (ts : List Piece) → SpellsConstraint c ts → IsConstraint c ts
constraint_to c ts h = (h.0, h.1, h.2, h.3, cond_to c.cond h.1 h.4)

constraint_from : (c : Constraint) (ts : List Piece) → IsConstraint c ts → SpellsConstraint c ts
constraint_from c ts h = (h.0, h.1, h.2, h.3, cond_from c.cond h.1 h.4)

constraints_to : (cs : List Constraint) (ts : List Piece) → ConstraintTokens cs ts → AreConstraints cs ts
constraints_to cs ts (inl m) = inl (m.0, (m.1, m.2, m.3, m.4, chain_more SpellsConstraint IsConstraint constraint_to cs m.2 m.5))
constraints_to cs ts (inr o) = inr (o.0, o.1, constraint_to o.0 ts o.2)

constraints_from : (cs : List Constraint) (ts : List Piece) → AreConstraints cs ts → ConstraintTokens cs ts
constraints_from cs ts (inl m) = inl (m.0, m.1.0, m.1.1, m.1.2, m.1.3, chain_more IsConstraint SpellsConstraint constraint_from cs m.1.1 m.1.4)
constraints_from cs ts (inr o) = inr (o.0, o.1, constraint_from o.0 ts o.2)

pub constraints_spelled : (cs : List Constraint) (ts : List Piece) → ConstraintTokens cs ts ↔ AreConstraints cs ts
constraints_spelled cs ts = (constraints_to cs ts, constraints_from cs ts)
