-- The sections of a problem that a reader adds up are those that are counted, and the other way round.
use Rattle.std.proofs.Common.{◌≡◌, ◌≤◌, Bool, true, false, List, [], ◌∷◌, ◌++◌, flat_map, length, refl, ap, sym, subst, ◌∙◌, append-nil, Option, Some, None, arith}
use Rattle.std.specs.Prelude.{◌↔◌, is_some, unwrap_or, option_to_list}
use Rattle.plus_tokens.specs.declared.span.Span.{Span}
use Rattle.plus_tree.specs.declared.names.Spelled.{Spelled}
use Rattle.plus_tree.specs.declared.terms.TypedName.{TypedName}
use Rattle.plus_tree.specs.declared.trees.Init.{Init}
use Rattle.plus_tree.specs.declared.trees.Problem.{Problem}
use Rattle.plus_tree.specs.Cond.{Cond}
use Rattle.plus_parser.specs.Phrases.Spells.{added}
use Rattle.plus_parser.proofs.PhraseLemmas.Forms.{some_is}
use Rattle.plus_parser.specs.declared.parts.ProblemParts.{ProblemParts}
use Rattle.plus_parser.specs.ReadingProblem.{no_problem_parts, problem_made}
use Rattle.plus_parser.specs.SpellsProblem.{ProblemPart, p_domain, p_requirements, p_objects, p_init, p_goal, p_metric, with_problem_part}
use Rattle.plus_grammar.specs.Counts.{IsOneOr, domain_of, required_of, objects_of, init_of, goal_of, metric_of, HasSectionsOfProblem}
use Rattle.plus_grammar.proofs.Chains.{passed_unless}
use Rattle.plus_grammar.proofs.Once.{fills, filled, free, same_option, one_to, one_from, marks, marked, was_marked, unmarked, same_mark, mark_to}

abbrev PartsFit : ProblemParts → ProblemParts → List ProblemPart → Type 0
PartsFit a b ps =
    (option_to_list a.domain ++ flat_map domain_of ps ≡ option_to_list b.domain)
    × (option_to_list a.requirements ++ flat_map required_of ps ≡ option_to_list b.requirements)
    × (option_to_list a.objects ++ flat_map objects_of ps ≡ option_to_list b.objects)
    × (option_to_list a.init ++ flat_map init_of ps ≡ option_to_list b.init)
    × (option_to_list a.goal ++ flat_map goal_of ps ≡ option_to_list b.goal)
    × (marks p_metric a.metric ++ flat_map metric_of ps ≡ marks p_metric b.metric)

parts_fit : (ps : List ProblemPart) (a b : ProblemParts) → added with_problem_part a ps ≡ Some b → PartsFit a b ps
parts_fit [] a b e =
    subst (λ (c : ProblemParts). PartsFit a c []) (some_is a b e)
    (append-nil (option_to_list a.domain), append-nil (option_to_list a.requirements), append-nil (option_to_list a.objects), append-nil (option_to_list a.init), append-nil (option_to_list a.goal), append-nil (marks p_metric a.metric))
parts_fit (p_domain x ∷ ps) a b e =
    let p = passed_unless (is_some a.domain) (record a { domain = Some x }) (λ t. added with_problem_part t ps) b e in
    let r = parts_fit ps (record a { domain = Some x }) b p.1 in
    (fills a.domain b.domain x (flat_map domain_of ps) p.0 r.0, r.1, r.2, r.3, r.4, r.5)
parts_fit (p_requirements x ∷ ps) a b e =
    let p = passed_unless (is_some a.requirements) (record a { requirements = Some x }) (λ t. added with_problem_part t ps) b e in
    let r = parts_fit ps (record a { requirements = Some x }) b p.1 in
    (r.0, fills a.requirements b.requirements x (flat_map required_of ps) p.0 r.1, r.2, r.3, r.4, r.5)
parts_fit (p_objects x ∷ ps) a b e =
    let p = passed_unless (is_some a.objects) (record a { objects = Some x }) (λ t. added with_problem_part t ps) b e in
    let r = parts_fit ps (record a { objects = Some x }) b p.1 in
    (r.0, r.1, fills a.objects b.objects x (flat_map objects_of ps) p.0 r.2, r.3, r.4, r.5)
parts_fit (p_init x ∷ ps) a b e =
    let p = passed_unless (is_some a.init) (record a { init = Some x }) (λ t. added with_problem_part t ps) b e in
    let r = parts_fit ps (record a { init = Some x }) b p.1 in
    (r.0, r.1, r.2, fills a.init b.init x (flat_map init_of ps) p.0 r.3, r.4, r.5)
parts_fit (p_goal x ∷ ps) a b e =
    let p = passed_unless (is_some a.goal) (record a { goal = Some x }) (λ t. added with_problem_part t ps) b e in
    let r = parts_fit ps (record a { goal = Some x }) b p.1 in
    (r.0, r.1, r.2, r.3, fills a.goal b.goal x (flat_map goal_of ps) p.0 r.4, r.5)
parts_fit (p_metric ∷ ps) a b e =
    let p = passed_unless a.metric (record a { metric = true }) (λ t. added with_problem_part t ps) b e in
    let r = parts_fit ps (record a { metric = true }) b p.1 in
    (r.0, r.1, r.2, r.3, r.4, marked p_metric a.metric b.metric (flat_map metric_of ps) p.0 r.5)

parts_added : (ps : List ProblemPart) (a b : ProblemParts) → PartsFit a b ps → added with_problem_part a ps ≡ Some b
parts_added [] a b h =
    λ i. Some (record {
      domain = same_option a.domain b.domain h.0 i;
      requirements = same_option a.requirements b.requirements h.1 i;
      objects = same_option a.objects b.objects h.2 i;
      init = same_option a.init b.init h.3 i;
      goal = same_option a.goal b.goal h.4 i;
      metric = same_mark p_metric a.metric b.metric h.5 i;
    })
parts_added (p_domain x ∷ ps) a b h =
    let made = record a { domain = Some x } in
    free a.domain b.domain x (flat_map domain_of ps) made (λ t. added with_problem_part t ps) h.0
    ∙ parts_added ps made b (filled a.domain b.domain x (flat_map domain_of ps) h.0, h.1, h.2, h.3, h.4, h.5)
parts_added (p_requirements x ∷ ps) a b h =
    let made = record a { requirements = Some x } in
    free a.requirements b.requirements x (flat_map required_of ps) made (λ t. added with_problem_part t ps) h.1
    ∙ parts_added ps made b (h.0, filled a.requirements b.requirements x (flat_map required_of ps) h.1, h.2, h.3, h.4, h.5)
parts_added (p_objects x ∷ ps) a b h =
    let made = record a { objects = Some x } in
    free a.objects b.objects x (flat_map objects_of ps) made (λ t. added with_problem_part t ps) h.2
    ∙ parts_added ps made b (h.0, h.1, filled a.objects b.objects x (flat_map objects_of ps) h.2, h.3, h.4, h.5)
parts_added (p_init x ∷ ps) a b h =
    let made = record a { init = Some x } in
    free a.init b.init x (flat_map init_of ps) made (λ t. added with_problem_part t ps) h.3
    ∙ parts_added ps made b (h.0, h.1, h.2, filled a.init b.init x (flat_map init_of ps) h.3, h.4, h.5)
parts_added (p_goal x ∷ ps) a b h =
    let made = record a { goal = Some x } in
    free a.goal b.goal x (flat_map goal_of ps) made (λ t. added with_problem_part t ps) h.4
    ∙ parts_added ps made b (h.0, h.1, h.2, h.3, filled a.goal b.goal x (flat_map goal_of ps) h.4, h.5)
parts_added (p_metric ∷ ps) a b h =
    let made = record a { metric = true } in
    unmarked p_metric a.metric b.metric (flat_map metric_of ps) made (λ t. added with_problem_part t ps) h.5
    ∙ parts_added ps made b (h.0, h.1, h.2, h.3, h.4, was_marked p_metric a.metric b.metric (flat_map metric_of ps) h.5)

-- ---- what must stand

record Stand (n : Spelled) (f : ProblemParts) (s : Span) (p : Problem) : Type 0 where
  domain : option_to_list f.domain ≡ p.domain ∷ []
  init : option_to_list f.init ≡ p.init ∷ []
  goal : option_to_list f.goal ≡ p.goal ∷ []
  requirements : p.requirements ≡ unwrap_or f.requirements []
  objects : p.objects ≡ unwrap_or f.objects []

abbrev made_of : Spelled → Option Spelled → Option (List Spelled) → Option (List TypedName) → Option (List Init) → Option Cond → Bool → Span → Option Problem
made_of n d r o i g m s = problem_made n (record { domain = d; requirements = r; objects = o; init = i; goal = g; metric = m }) s

stand : (n : Spelled) (d : Option Spelled) (r : Option (List Spelled)) (o : Option (List TypedName)) (i : Option (List Init)) (g : Option Cond) (m : Bool) (s : Span) (p : Problem)
    → made_of n d r o i g m s ≡ Some p → Stand n (record { domain = d; requirements = r; objects = o; init = i; goal = g; metric = m }) s p
stand n None r o i g m s p e = absurd cc
stand n (Some d) r o None g m s p e = absurd cc
stand n (Some d) r o (Some i) None m s p e = absurd cc
stand n (Some d) r o (Some i) (Some g) m s p e =
    let q : Problem = record { name = n; domain = d; requirements = unwrap_or r []; objects = unwrap_or o []; init = i; goal = g; span = s } in
    let same : q ≡ p = some_is q p e in
    record {
      domain = ap (λ (x : Problem). x.domain ∷ []) same;
      init = ap (λ (x : Problem). x.init ∷ []) same;
      goal = ap (λ (x : Problem). x.goal ∷ []) same;
      requirements = ap (λ (x : Problem). x.requirements) (sym same);
      objects = ap (λ (x : Problem). x.objects) (sym same);
    }

abbrev PartsMake : List ProblemPart → Problem → Type 0
PartsMake ps p = (found : ProblemParts) × (added with_problem_part no_problem_parts ps ≡ Some found) × (problem_made p.name found p.span ≡ Some p)

parts_to : (ps : List ProblemPart) (p : Problem) → PartsMake ps p → HasSectionsOfProblem ps p
parts_to ps p h =
    let f = h.0 in
    let r = parts_fit ps no_problem_parts f h.1 in
    let s = stand p.name f.domain f.requirements f.objects f.init f.goal f.metric p.span p h.2 in
    record {
      domain = r.0 ∙ s.domain;
      requirements = subst (IsOneOr [] (flat_map required_of ps)) (sym s.requirements) (one_to [] (flat_map required_of ps) f.requirements r.1);
      objects = subst (IsOneOr [] (flat_map objects_of ps)) (sym s.objects) (one_to [] (flat_map objects_of ps) f.objects r.2);
      init = r.3 ∙ s.init;
      goal = r.4 ∙ s.goal;
      metric = mark_to p_metric (flat_map metric_of ps) f.metric r.5;
    }

-- the sections `:metric` that stand, once at most
metrics : (ps : List ProblemPart) → length (flat_map metric_of ps) ≤ 1 → (b : Bool) × (flat_map metric_of ps ≡ marks p_metric b)
metrics [] h = (false, refl)
metrics (p_metric ∷ ps) h = (true, ap (λ xs. p_metric ∷ xs) (no_more (flat_map metric_of ps) h))
  where
    no_more : (xs : List ProblemPart) → length (p_metric ∷ xs) ≤ 1 → xs ≡ []
    no_more [] h = refl
    no_more (x ∷ xs) h = absurd (omega (arith, h))
metrics (p_domain x ∷ ps) h = metrics ps h
metrics (p_requirements x ∷ ps) h = metrics ps h
metrics (p_objects x ∷ ps) h = metrics ps h
metrics (p_init x ∷ ps) h = metrics ps h
metrics (p_goal x ∷ ps) h = metrics ps h

parts_from : (ps : List ProblemPart) (p : Problem) → HasSectionsOfProblem ps p → PartsMake ps p
parts_from ps p h =
    let r = one_from [] (flat_map required_of ps) p.requirements h.requirements in
    let o = one_from [] (flat_map objects_of ps) p.objects h.objects in
    let m = metrics ps h.metric in
    let requirements = r.2 in
    let objects = o.2 in
    let found : ProblemParts = record { domain = Some p.domain; requirements = r.0; objects = o.0; init = Some p.init; goal = Some p.goal; metric = m.0 } in (
      found,
      parts_added ps no_problem_parts found (h.domain, r.1, o.1, h.init, h.goal, m.1),
      λ i. Some (record {
        name = p.name;
        domain = p.domain;
        requirements = sym requirements i;
        objects = sym objects i;
        init = p.init;
        goal = p.goal;
        span = p.span;
      }),
    )

pub problems_by_counts : (ps : List ProblemPart) (p : Problem) → PartsMake ps p ↔ HasSectionsOfProblem ps p
problems_by_counts ps p = (parts_to ps p, parts_from ps p)
