-- What a text says of a problem that it spells: its names are small, and each part of it reads again.
use Rattle.std.proofs.Common.{◌≡◌, ℕ, suc, Bool, true, false, cond, List, [], ◌∷◌, ◌++◌, Option, Some, None, sym, ap, subst}
use Rattle.std.specs.Prelude.{codes, unwrap_or, is_some}
use Rattle.plus_tree.specs.declared.names.Spelled.{Spelled}
use Rattle.plus_tree.specs.declared.terms.TypedName.{TypedName}
use Rattle.plus_tree.specs.declared.trees.Init.{Init}
use Rattle.plus_tree.specs.declared.trees.Problem.{Problem}
use Rattle.plus_tree.specs.Cond.{Cond}
use Rattle.plus_parser.specs.declared.phrases.words.Allowed.TheVariants.{Names}
use Rattle.plus_tokens.specs.Items.{Piece}
use Rattle.plus_parser.specs.declared.parts.ProblemParts.{ProblemParts}
use Rattle.plus_parser.specs.ReadingProblem.{no_problem_parts, problem_made}
use Rattle.plus_parser.specs.SpellsDomain.{SpellsRequirement}
use Rattle.plus_parser.specs.SpellsProblem.{SpellsInit, ProblemPart, p_domain, p_requirements, p_objects, p_init, p_goal, p_metric, SpellsProblemPart, with_problem_part, ProblemTokens}
use Rattle.std.proofs.lemmas.Bool.{cond-false}
use Rattle.plus_parser.specs.Phrases.Words.{is_keyword}
use Rattle.plus_parser.proofs.PhraseLemmas.Names.{keyword_says}
use Rattle.plus_parser.proofs.PhraseLemmas.Level.{Level, is_flat, level_none, level_flat}
use Rattle.plus_parser.proofs.PhraseLemmas.TypedLists.{level_list}
use Rattle.plus_parser.specs.Keywords.{problem_part_of}
use Rattle.plus_parser.specs.declared.keywords.ProblemWord.{ProblemWord}
use Rattle.plus_parser.specs.declared.keywords.ProblemWord.TheVariants as problems
use Rattle.plus_parser.proofs.FormLemmas.FormLevels.{level_cond}
use Rattle.plus_parser.proofs.Skips.{level_balanced}
use Rattle.plus_parser.proofs.Sections.{body_even}
use Rattle.plus_canonical.proofs.Smalls.{Fine, IsSmall, AreLexical, left, name_small, within, lexical_at}
use Rattle.plus_canonical.proofs.Forms.{chain_fine, chain_level, AllOf, chain_all}
use Rattle.plus_canonical.proofs.Lists.{added_keeps, SmallTyped, list_small}
use Rattle.plus_canonical.proofs.Sections.{RequirementAgain, requirement_again, requirement_level, section_inside, section_level}
use Rattle.plus_canonical.proofs.Conds.{CondAgain, cond_again}
use Rattle.plus_canonical.proofs.Inits.{InitAgain, init_again, init_level}

pub record GoodProblem (m : ℕ) (p : Problem) : Type 0 where
  pub name : IsSmall p.name.name
  pub domain : IsSmall p.domain.name
  pub requirements : AllOf (RequirementAgain m) p.requirements
  pub objects : AllOf SmallTyped p.objects
  pub init : AllOf (InitAgain m) p.init
  pub goal : CondAgain m p.goal

-- of each that was found
abbrev Found : {A : Type 0} → (A → Type 0) → Option A → Type 0
Found P None = Unit {0}
Found P (Some x) = P x

abbrev SmallName : Spelled → Type 0
SmallName x = IsSmall x.name

record GoodParts (m : ℕ) (s : ProblemParts) : Type 0 where
  domain : Found SmallName s.domain
  requirements : AllOf (RequirementAgain m) (unwrap_or s.requirements [])
  objects : AllOf SmallTyped (unwrap_or s.objects [])
  init : Found (AllOf (InitAgain m)) s.init
  goal : Found (CondAgain m) s.goal

abbrev GoodPart : ℕ → ProblemPart → Type 0
GoodPart m (p_domain x) = IsSmall x.name
GoodPart m (p_requirements xs) = AllOf (RequirementAgain m) xs
GoodPart m (p_objects xs) = AllOf SmallTyped xs
GoodPart m (p_init xs) = AllOf (InitAgain m) xs
GoodPart m (p_goal c) = CondAgain m c
GoodPart m p_metric = Unit {0}

-- a section begins with a keyword
pub part_kind : (p : Piece) (h : ProblemWord) → problem_part_of p ≡ h → (problems.Other ≡ h → ⊥) → is_flat p.kind ≡ true
part_kind p h e apart = ap is_flat (keyword_says problem_part_of problems.Other (λ q f. cond-false (is_keyword q.kind) _ problems.Other f) p h e apart)

part_good : (m : ℕ) (x : ProblemPart) (ts : List Piece) → Fine (suc m) ts → SpellsProblemPart x ts → GoodPart m x
part_good m (p_domain x) ts l (s, p, n, is, wrapped, name, e) =
    let lex : AreLexical (p ∷ n ∷ []) = within s (p ∷ n ∷ []) ts wrapped l.words in
    subst SmallName (sym e) (name_small n lex.1.0 name)
part_good m (p_requirements xs) ts l (s, p, body, is, wrapped, c) =
    let f = section_inside m s p body ts (part_kind p problems.Requirements is (λ e. cc)) wrapped (chain_level Spelled SpellsRequirement requirement_level xs body c) l in chain_all Spelled SpellsRequirement (RequirementAgain m) (requirement_again m) xs body f.words c
part_good m (p_objects xs) ts l (s, p, body, is, wrapped, c) =
    let f = section_inside m s p body ts (part_kind p problems.Objects is (λ e. cc)) wrapped (level_list Names 0 xs body c) l in list_small Names xs body f.words c
part_good m (p_init xs) ts l (s, p, body, is, wrapped, c) =
    let f = section_inside m s p body ts (part_kind p problems.Init is (λ e. cc)) wrapped (chain_level Init SpellsInit init_level xs body c) l in chain_fine m Init SpellsInit (InitAgain m) init_level (init_again m) xs body f c
part_good m (p_goal xs) ts l (s, p, body, is, wrapped, c) =
    let f = section_inside m s p body ts (part_kind p problems.Goal is (λ e. cc)) wrapped (level_cond xs body c) l in cond_again m xs body f c
part_good m p_metric ts l c = tt

pub part_level : (x : ProblemPart) (ts : List Piece) → SpellsProblemPart x ts → Level ts
part_level (p_domain x) ts (s, p, n, is, wrapped, name, e) = section_level s p (n ∷ []) ts (part_kind p problems.Domain is (λ e. cc)) wrapped (level_flat n [] (ap is_flat name) level_none)
part_level (p_requirements xs) ts (s, p, body, is, wrapped, c) = section_level s p body ts (part_kind p problems.Requirements is (λ e. cc)) wrapped (chain_level Spelled SpellsRequirement requirement_level xs body c)
part_level (p_objects xs) ts (s, p, body, is, wrapped, c) = section_level s p body ts (part_kind p problems.Objects is (λ e. cc)) wrapped (level_list Names 0 xs body c)
part_level (p_init xs) ts (s, p, body, is, wrapped, c) = section_level s p body ts (part_kind p problems.Init is (λ e. cc)) wrapped (chain_level Init SpellsInit init_level xs body c)
part_level (p_goal xs) ts (s, p, body, is, wrapped, c) = section_level s p body ts (part_kind p problems.Goal is (λ e. cc)) wrapped (level_cond xs body c)
part_level p_metric ts (s, p, body, is, wrapped, c) = section_level s p body ts (part_kind p problems.Metric is (λ e. cc)) wrapped (level_balanced body c)

let_through : (m : ℕ) (b : Bool) (s t : ProblemParts) → cond {A = Option ProblemParts} b None (Some s) ≡ Some t → GoodParts m s → GoodParts m t
let_through m true s t e g = absurd cc
let_through m false s t e g = let same : s ≡ t = cc in subst (GoodParts m) same g

part_keeps : (m : ℕ) (s : ProblemParts) (x : ProblemPart) (t : ProblemParts) → GoodParts m s → GoodPart m x → with_problem_part s x ≡ Some t → GoodParts m t
part_keeps m s (p_domain y) t g x e = let_through m (is_some s.domain) (record s { domain = Some y }) t e (record { domain = x; requirements = g.requirements; objects = g.objects; init = g.init; goal = g.goal })
part_keeps m s (p_requirements xs) t g x e = let_through m (is_some s.requirements) (record s { requirements = Some xs }) t e (record { domain = g.domain; requirements = x; objects = g.objects; init = g.init; goal = g.goal })
part_keeps m s (p_objects xs) t g x e = let_through m (is_some s.objects) (record s { objects = Some xs }) t e (record { domain = g.domain; requirements = g.requirements; objects = x; init = g.init; goal = g.goal })
part_keeps m s (p_init xs) t g x e = let_through m (is_some s.init) (record s { init = Some xs }) t e (record { domain = g.domain; requirements = g.requirements; objects = g.objects; init = x; goal = g.goal })
part_keeps m s (p_goal c) t g x e = let_through m (is_some s.goal) (record s { goal = Some c }) t e (record { domain = g.domain; requirements = g.requirements; objects = g.objects; init = g.init; goal = x })
part_keeps m s p_metric t g x e = let_through m s.metric (record s { metric = true }) t e (record { domain = g.domain; requirements = g.requirements; objects = g.objects; init = g.init; goal = g.goal })

some_problem : (p q : Problem) → ◌≡◌ {A = Option Problem} (Some p) (Some q) → p ≡ q
some_problem p q e = cc

abbrev the_parts : Option Spelled → Option (List Spelled) → Option (List TypedName) → Option (List Init) → Option Cond → Bool → ProblemParts
the_parts d r o i g m = record { domain = d; requirements = r; objects = o; init = i; goal = g; metric = m }

made_good : (m : ℕ) (p : Problem) (d : Option Spelled) (r : Option (List Spelled)) (o : Option (List TypedName)) (i : Option (List Init)) (g : Option Cond) (q : Bool)
    → problem_made p.name (the_parts d r o i g q) p.span ≡ Some p → IsSmall p.name.name → GoodParts m (the_parts d r o i g q) → GoodProblem m p
made_good m p (Some d) r o (Some i) (Some g) q e name good =
    let is : record { name = p.name; domain = d; requirements = unwrap_or r []; objects = unwrap_or o []; init = i; goal = g; span = p.span } ≡ p = some_problem _ p e in
    record {
      name = name;
      domain = subst (λ (q : Problem). IsSmall q.domain.name) is good.domain;
      requirements = subst (λ (q : Problem). AllOf (RequirementAgain m) q.requirements) is good.requirements;
      objects = subst (λ (q : Problem). AllOf SmallTyped q.objects) is good.objects;
      init = subst (λ (q : Problem). AllOf (InitAgain m) q.init) is good.init;
      goal = subst (λ (q : Problem). CondAgain m q.goal) is good.goal;
    }
made_good m p None r o i g q e name good = absurd cc
made_good m p (Some d) r o None g q e name good = absurd cc
made_good m p (Some d) r o (Some i) None q e name good = absurd cc

pub problem_good : (m : ℕ) (p : Problem) (ts : List Piece) → Fine (suc (suc m)) ts → ProblemTokens p ts → GoodProblem m p
problem_good m p ts l t =
    let f = t.frame in
    let lex : AreLexical (f.first ∷ f.define ∷ f.inner ∷ f.kind ∷ f.named ∷ f.close ∷ (t.body ++ f.last ∷ [])) = lexical_at ts (f.first ∷ f.define ∷ f.inner ∷ f.kind ∷ f.named ∷ f.close ∷ (t.body ++ f.last ∷ [])) f.whole l.words in
    let name : IsSmall p.name.name = subst SmallName (sym f.name_is) (name_small f.named lex.1.1.1.1.0 f.is_name) in
    let body : Fine (suc m) t.body = record { words = left t.body (f.last ∷ []) lex.1.1.1.1.1.1; even = body_even (codes "problem") p.name p.span t.body ts f m (chain_level ProblemPart SpellsProblemPart part_level t.parts t.body t.spelled) l.even } in
    let start : GoodParts m no_problem_parts = record { domain = tt; requirements = tt; objects = tt; init = tt; goal = tt } in
    let s = t.found in
    made_good m p s.domain s.requirements s.objects s.init s.goal s.metric t.is name
    (added_keeps ProblemParts ProblemPart with_problem_part (GoodParts m) (GoodPart m) (part_keeps m) t.parts no_problem_parts t.found start
    (chain_fine (suc m) ProblemPart SpellsProblemPart (GoodPart m) part_level (part_good m) t.parts t.body body t.spelled) t.once)
