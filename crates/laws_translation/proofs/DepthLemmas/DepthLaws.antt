-- The depth of a translation.
use Rattle.std.proofs.Common.{◌≡◌, ℕ, true, List, [], ◌∷◌, refl, ◌∙◌}
use Rattle.std.specs.List.{list_all}
use Rattle.plus_tree.specs.declared.names.Spelled.{Spelled}
use Rattle.plus_tree.specs.declared.trees.Head.{Head}
use Rattle.plus_tree.specs.declared.trees.Schema.{Schema}
use Rattle.plus_tree.specs.declared.trees.Domain.{Domain}
use Rattle.plus_tree.specs.declared.trees.Init.{Init}
use Rattle.plus_tree.specs.declared.trees.Problem.{Problem}
use Rattle.plus_parser.specs.SpellsDomain.{SpellsWithin}
use Rattle.plus_parser.specs.SpellsProblem.{SpellsProblemWithin}
use Rattle.plus_printer.specs.Canon.{domain_text, problem_text}
use Rattle.plus_canonical.specs.Same.{SameDomain, SameProblem}
use Rattle.plus_canonical.proofs.Forms.{AllOf}
use Rattle.plus_canonical.proofs.Fronts.{whole_reads}
use Rattle.plus_canonical.proofs.Heads.{HeadAgain, head_again_of}
use Rattle.plus_canonical.proofs.Sections.{RequirementAgain, requirement_reads}
use Rattle.plus_canonical.proofs.Schemas.{GoodSchema}
use Rattle.plus_canonical.proofs.Inits.{InitAgain}
use Rattle.plus_canonical.proofs.GoodDomains.{GoodDomain}
use Rattle.plus_canonical.proofs.GoodProblems.{GoodProblem}
use Rattle.plus_canonical.proofs.Domains.{domain_reads}
use Rattle.plus_canonical.proofs.Problems.{problem_reads}
use Rattle.plus_translation.specs.Translated.{translated_domain, translated_problem}
use Rattle.laws_translation.specs.Laws.{NestsWithin}
use Rattle.laws_translation.proofs.TextLemmas.Good.{GoodInit}
use Rattle.laws_translation.proofs.TextLemmas.Rooms.{GoodHead, GoodRule, SmallSpelled, GoodTree, GoodTask, tree_reads, task_reads}
use Rattle.laws_translation.proofs.TextLemmas.TextLaws.{translated_good, spells_within_its_depth}
use Rattle.plus_translation.specs.Depth.{cond_within, schema_within, init_within, domain_within, problem_within}
use Rattle.laws_translation.specs.Depth.Laws.{TranslationDepth}
use Rattle.laws_translation.proofs.DepthLemmas.Within.{and_left, and_right, cond_reads, init_reads, schema_reads}
use Rattle.laws_translation.proofs.DepthLemmas.Depths.{both}
use Rattle.laws_translation.proofs.DepthLemmas.Bare.{domain_same, problem_same}
use Rattle.laws_translation.proofs.DepthLemmas.Parts.{RuleShape, domain_shape, problem_shape}

-- ---- by their shape, trees read again within the depth

schemas_good : (ss : List Schema) → AllOf GoodRule ss → list_all (schema_within 63) ss ≡ true → AllOf (GoodSchema 61) ss
schemas_good [] g h = tt
schemas_good (a ∷ more) g h =
    let inner = and_right true _ (and_left (schema_within 63 a) _ h) in
    (schema_reads 61 a g.0 (and_left (cond_within 62 a.condition) _ inner) (and_right (cond_within 62 a.condition) _ inner), schemas_good more g.1 (and_right (schema_within 63 a) _ h))

heads_good : (hs : List Head) → AllOf GoodHead hs → AllOf (HeadAgain 62) hs
heads_good [] g = tt
heads_good (h ∷ hs) g = (head_again_of 61 h g.0.name g.0.params, heads_good hs g.1)

requirements_good : (n : ℕ) (xs : List Spelled) → AllOf SmallSpelled xs → AllOf (RequirementAgain n) xs
requirements_good n [] g = tt
requirements_good n (x ∷ xs) g = (requirement_reads n x g.0, requirements_good n xs g.1)

domain_good : (d : Domain) → GoodTree d → domain_within 64 d ≡ true → GoodDomain 61 d
domain_good d g h =
    let rest = and_right (list_all (schema_within 63) d.actions) _ h in
    record {
      name = g.name;
      requirements = requirements_good 62 d.requirements g.requirements;
      types = g.types;
      constants = g.constants;
      predicates = heads_good d.predicates g.predicates;
      functions = heads_good d.functions g.functions;
      actions = schemas_good d.actions g.actions (and_left (list_all (schema_within 63) d.actions) _ h);
      processes = schemas_good d.processes g.processes (and_left (list_all (schema_within 63) d.processes) _ rest);
      events = schemas_good d.events g.events (and_right (list_all (schema_within 63) d.processes) _ rest);
    }

inits_good : (is : List Init) → AllOf GoodInit is → list_all (init_within 62) is ≡ true → AllOf (InitAgain 62) is
inits_good [] g h = tt
inits_good (x ∷ is) g h = (init_reads 62 x g.0 (and_left (init_within 62 x) _ h), inits_good is g.1 (and_right (init_within 62 x) _ h))

problem_good : (p : Problem) → GoodTask p → problem_within 64 p ≡ true → GoodProblem 62 p
problem_good p g h = record {
  name = g.name;
  domain = g.domain;
  requirements = requirements_good 62 p.requirements g.requirements;
  objects = g.objects;
  init = inits_good p.init g.init (and_left (list_all (init_within 62) p.init) _ h);
  goal = cond_reads 62 p.goal g.goal (and_right (list_all (init_within 62) p.init) _ h);
}

domain_read : (d : Domain) → GoodTree d → domain_within 64 d ≡ true → (again : Domain) × SpellsWithin 64 (domain_text d) again × SameDomain d again
domain_read d g h = let w = whole_reads (domain_text d) (domain_reads 61 d (domain_good d g h)) in (w.are.again, (w.ts, w.items, w.are.spelled, w.are.even), w.are.same)

problem_read : (p : Problem) → GoodTask p → problem_within 64 p ≡ true → (again : Problem) × SpellsProblemWithin 64 (problem_text p) again × SameProblem p again
problem_read p g h = let w = whole_reads (problem_text p) (problem_reads 62 p (problem_good p g h)) in (w.are.again, (w.ts, w.items, w.are.spelled, w.are.even), w.are.same)

-- ---- within the depth, texts spell trees of that shape

rules_within : (ss : List Schema) → AllOf (RuleShape 62) ss → list_all (schema_within 63) ss ≡ true
rules_within [] g = refl
rules_within (a ∷ more) g = both _ _ (both _ _ g.0.condition g.0.effect) (rules_within more g.1)

inits_within : (is : List Init) → AllOf (λ (x : Init). init_within 62 x ≡ true) is → list_all (init_within 62) is ≡ true
inits_within [] g = refl
inits_within (x ∷ is) g = both _ _ g.0 (inits_within is g.1)

domain_fits : (d : Domain) → GoodTree d → NestsWithin 64 (domain_text d) → domain_within 64 d ≡ true
domain_fits d g nests =
    let r = tree_reads d g in
    let w = (spells_within_its_depth 64 (domain_text d) nests).0 r.0 r.1 in
    let s = domain_shape 62 refl r.0 w.0 w.3 w.2 in
    domain_same 64 d r.0 r.2 ∙ both _ _ (rules_within r.0.actions s.actions) (both _ _ (rules_within r.0.processes s.processes) (rules_within r.0.events s.events))

problem_fits : (p : Problem) → GoodTask p → NestsWithin 64 (problem_text p) → problem_within 64 p ≡ true
problem_fits p g nests =
    let r = task_reads p g in
    let w = (spells_within_its_depth 64 (problem_text p) nests).1 r.0 r.1 in
    let s = problem_shape 62 r.0 w.0 w.3 w.2 in
    problem_same 64 p r.0 r.2 ∙ both _ _ (inits_within r.0.init s.init) s.goal

pub translation_depth : TranslationDepth
translation_depth text task d p q sd sp can fits =
    let g = translated_good text task d p q sd sp can fits in
    record {
      reads = λ h. (
        domain_read (translated_domain q d p) g.0 (and_left (domain_within 64 (translated_domain q d p)) _ h),
        problem_read (translated_problem q d p) g.1 (and_right (domain_within 64 (translated_domain q d p)) _ h),
      );
      fits = λ a b. both _ _ (domain_fits (translated_domain q d p) g.0 a) (problem_fits (translated_problem q d p) g.1 b);
    }
