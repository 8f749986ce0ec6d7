-- The sections of a problem read again.
use Rattle.std.proofs.Common.{◌≡◌, ℕ, suc, cond, List, [], ◌∷◌, ◌++◌, Option, Some, None, refl, sym, ap, subst}
use Rattle.std.specs.Prelude.{codes, map, is_some}
use Rattle.plus_tokens.specs.declared.token.Kind.TheVariants as kinds
use Rattle.plus_tree.specs.declared.names.Spelled.{Spelled}
use Rattle.plus_tree.specs.declared.terms.TypedName.{TypedName}
use Rattle.plus_tree.specs.declared.trees.Init.{Init}
use Rattle.plus_tree.specs.Cond.{Cond}
use Rattle.plus_parser.specs.declared.phrases.words.Allowed.TheVariants.{Names}
use Rattle.plus_tokens.specs.Items.{Piece}
use Rattle.plus_parser.specs.Phrases.Spells.{Wrapped, Chain}
use Rattle.plus_parser.specs.declared.parts.ProblemParts.{ProblemParts}
use Rattle.plus_parser.specs.Forms.SpellsForms.{SpellsCond}
use Rattle.plus_parser.specs.SpellsDomain.{SpellsRequirement}
use Rattle.plus_parser.specs.SpellsProblem.{SpellsInit, ProblemPart, p_domain, p_requirements, p_objects, p_init, p_goal, SpellsProblemPart, with_problem_part}
use Rattle.plus_printer.specs.Words.{word, spaced, typed_text, requirements_opening}
use Rattle.plus_printer.specs.Canon.{section, keyword_text, requirements_text, cond_text, init_text}
use Rattle.plus_canonical.specs.Same.{bare_spelled, bare_typed, bare_init, bare_cond}
use Rattle.plus_canonical.proofs.Lexes.{Ended, at_space, Any, Reads, turn, piece, IsToken}
use Rattle.plus_canonical.proofs.Smalls.{even_token, IsSmall}
use Rattle.plus_canonical.proofs.Forms.{head_even, name_reads, spaced_before, HeadForm, Again, AllOf, spaced_leads, spaced_again}
use Rattle.plus_canonical.proofs.Terms.{fixed}
use Rattle.plus_canonical.proofs.Lists.{SmallTyped, SpellsPair, pairs_list, named_all}
use Rattle.plus_canonical.proofs.Sections.{Steps, one_step, Sections, section_reads, section_none, section_some, section_again, RequirementAgain}
use Rattle.plus_canonical.proofs.Conds.{CondAgain}
use Rattle.plus_canonical.proofs.Inits.{InitAgain}

-- what leads from parts that were found to others
abbrev pub ProblemSteps : ProblemParts → ProblemParts → List Piece → Type 0
ProblemSteps = Steps ProblemParts ProblemPart SpellsProblemPart with_problem_part

abbrev pub ProblemSection : {X : Type 0} → (ProblemParts → Option (List X)) → (ProblemParts → Option (List X) → ProblemParts) → List X → List Piece → Type 0
ProblemSection {X} get put = Sections ProblemParts X ProblemPart SpellsProblemPart with_problem_part get put

-- one thing that was not found before
abbrev pub ProblemOne : {X : Type 0} → (ProblemParts → Option X) → (ProblemParts → Option X → ProblemParts) → X → List Piece → Type 0
ProblemOne get put y ts = (s : ProblemParts) → get s ≡ None → ProblemSteps s (put s (Some y)) ts

free : {A : Type 0} (o : Option A) (x : Option ProblemParts) → o ≡ None → cond (is_some o) None x ≡ x
free o x e = ap (λ o. cond (is_some o) None x) e

-- ---- the domain of a problem

abbrev pub get_domain : ProblemParts → Option Spelled
get_domain s = s.domain

abbrev pub put_domain : ProblemParts → Option Spelled → ProblemParts
put_domain s o = record s { domain = o }

domain_made : (m : ℕ) (x : Spelled) (ts : List Piece) → HeadForm kinds.Keyword (codes ":domain") (IsToken kinds.Name x.name) ts → Again (suc m) Spelled (ProblemOne get_domain put_domain) bare_spelled x ts
domain_made m x ts f =
    let n : Piece = piece kinds.Name x.name f.body_is.span in
    let y : Spelled = record { name = x.name; span = f.body_is.span } in
    record {
      again = y;
      spelled = λ s e. one_step ProblemParts ProblemPart SpellsProblemPart with_problem_part s (put_domain s (Some y)) (p_domain y) ts
          (f.span, piece kinds.Keyword (codes ":domain") f.at, n, refl, subst (λ l. Wrapped f.span (piece kinds.Keyword (codes ":domain") f.at ∷ l) ts) f.body_is.whole f.wrapped, refl, refl)
          (free s.domain (Some (put_domain s (Some y))) e);
      even = head_even m ts f refl (even_token m n f.body refl f.body_is.whole);
      same = refl;
    }

pub domain_again : (m : ℕ) (x : Spelled) → IsSmall x.name → Reads Any (32 ∷ 40 ∷ (codes ":domain" ++ ((32 ∷ x.name) ++ (41 ∷ 10 ∷ [])))) (Again (suc m) Spelled (ProblemOne get_domain put_domain) bare_spelled x)
domain_again m x small = turn {after = Any} (32 ∷ 40 ∷ (codes ":domain" ++ ((32 ∷ x.name) ++ (41 ∷ 10 ∷ [])))) (domain_made m x)
    (section_reads {B = IsToken kinds.Name x.name} (codes "domain") (32 ∷ x.name) (fixed 100 (codes "omain") refl refl refl refl) (spaced_before {S = Ended} x.name (name_reads x.name small)) (λ rest ok. at_space))

-- ---- requirements and objects

abbrev pub get_requirements : ProblemParts → Option (List Spelled)
get_requirements s = s.requirements

abbrev pub put_requirements : ProblemParts → Option (List Spelled) → ProblemParts
put_requirements s o = record s { requirements = o }

pub requirements_again : (m : ℕ) (xs : List Spelled) → AllOf (RequirementAgain m) xs → Reads Any (requirements_text xs) (Again (suc m) (List Spelled) (ProblemSection get_requirements put_requirements) (map bare_spelled) xs)
unfolding requirements_text requirements_opening word
requirements_again m [] all = section_none m ProblemParts Spelled ProblemPart SpellsProblemPart with_problem_part get_requirements put_requirements SpellsRequirement bare_spelled p_requirements (codes "requirements")
    (λ ys s at body ts w c. (s, piece kinds.Keyword (codes ":requirements") at, body, refl, w, c)) (λ s ys e. free s.requirements (Some (record s { requirements = Some ys })) e)
    (λ s e. ap (λ (o : Option (List Spelled)). record s { requirements = o }) (sym e))
requirements_again m (x ∷ xs) all = section_some m ProblemParts Spelled ProblemPart SpellsProblemPart with_problem_part get_requirements put_requirements SpellsRequirement bare_spelled p_requirements (codes "requirements")
    (λ ys s at body ts w c. (s, piece kinds.Keyword (codes ":requirements") at, body, refl, w, c)) (λ s ys e. free s.requirements (Some (record s { requirements = Some ys })) e)
    (λ s e. ap (λ (o : Option (List Spelled)). record s { requirements = o }) (sym e)) keyword_text (x ∷ xs) (fixed 114 (codes "equirements") refl refl refl refl) all

abbrev pub get_objects : ProblemParts → Option (List TypedName)
get_objects s = s.objects

abbrev pub put_objects : ProblemParts → Option (List TypedName) → ProblemParts
put_objects s o = record s { objects = o }

pub objects_again : (m : ℕ) (xs : List TypedName) → AllOf SmallTyped xs → Reads Any (section (codes " (:objects") typed_text xs) (Again (suc m) (List TypedName) (ProblemSection get_objects put_objects) (map bare_typed) xs)
objects_again m xs all = section_again m ProblemParts TypedName ProblemPart SpellsProblemPart with_problem_part get_objects put_objects (SpellsPair Names) bare_typed p_objects (codes "objects")
    (λ ys s at body ts w c. (s, piece kinds.Keyword (codes ":objects") at, body, refl, w, pairs_list Names ys body c)) (λ s ys e. free s.objects (Some (record s { objects = Some ys })) e)
    (λ s e. ap (λ (o : Option (List TypedName)). record s { objects = o }) (sym e)) typed_text xs (fixed 111 (codes "bjects") refl refl refl refl) (named_all m xs all)

-- ---- the first state and the goal

abbrev pub get_init : ProblemParts → Option (List Init)
get_init s = s.init

abbrev pub put_init : ProblemParts → Option (List Init) → ProblemParts
put_init s o = record s { init = o }

init_made : (m : ℕ) (xs : List Init) (ts : List Piece) → HeadForm kinds.Keyword (codes ":init") (Again m (List Init) (Chain SpellsInit) (map bare_init) xs) ts → Again (suc m) (List Init) (ProblemOne get_init put_init) (map bare_init) xs ts
init_made m xs ts f = record {
  again = f.body_is.again;
  spelled = λ s e. one_step ProblemParts ProblemPart SpellsProblemPart with_problem_part s (put_init s (Some f.body_is.again)) (p_init f.body_is.again) ts
      (f.span, piece kinds.Keyword (codes ":init") f.at, f.body, refl, f.wrapped, f.body_is.spelled) (free s.init (Some (put_init s (Some f.body_is.again))) e);
  even = head_even m ts f refl f.body_is.even;
  same = f.body_is.same;
}

pub inits_again : (m : ℕ) (xs : List Init) → AllOf (InitAgain m) xs → Reads Any (32 ∷ 40 ∷ (codes ":init" ++ (spaced init_text xs ++ (41 ∷ 10 ∷ [])))) (Again (suc m) (List Init) (ProblemOne get_init put_init) (map bare_init) xs)
inits_again m xs all = turn {after = Any} (32 ∷ 40 ∷ (codes ":init" ++ (spaced init_text xs ++ (41 ∷ 10 ∷ [])))) (init_made m xs)
    (section_reads (codes "init") (spaced init_text xs) (fixed 105 (codes "nit") refl refl refl refl) (spaced_again m Init SpellsInit bare_init init_text xs all) (spaced_leads Init init_text xs))

abbrev pub get_goal : ProblemParts → Option Cond
get_goal s = s.goal

abbrev pub put_goal : ProblemParts → Option Cond → ProblemParts
put_goal s o = record s { goal = o }

goal_made : (m : ℕ) (c : Cond) (ts : List Piece) → HeadForm kinds.Keyword (codes ":goal") (Again m Cond SpellsCond bare_cond c) ts → Again (suc m) Cond (ProblemOne get_goal put_goal) bare_cond c ts
goal_made m c ts f = record {
  again = f.body_is.again;
  spelled = λ s e. one_step ProblemParts ProblemPart SpellsProblemPart with_problem_part s (put_goal s (Some f.body_is.again)) (p_goal f.body_is.again) ts
      (f.span, piece kinds.Keyword (codes ":goal") f.at, f.body, refl, f.wrapped, f.body_is.spelled) (free s.goal (Some (put_goal s (Some f.body_is.again))) e);
  even = head_even m ts f refl f.body_is.even;
  same = f.body_is.same;
}

pub goal_again : (m : ℕ) (c : Cond) → CondAgain m c → Reads Any (32 ∷ 40 ∷ (codes ":goal" ++ ((32 ∷ cond_text c) ++ (41 ∷ 10 ∷ [])))) (Again (suc m) Cond (ProblemOne get_goal put_goal) bare_cond c)
goal_again m c r = turn {after = Any} (32 ∷ 40 ∷ (codes ":goal" ++ ((32 ∷ cond_text c) ++ (41 ∷ 10 ∷ [])))) (goal_made m c)
    (section_reads {B = Again m Cond SpellsCond bare_cond c} (codes "goal") (32 ∷ cond_text c) (fixed 103 (codes "oal") refl refl refl refl) (spaced_before {S = Ended} (cond_text c) r) (λ rest ok. at_space))
