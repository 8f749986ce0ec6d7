-- The text of the problem spells its tree, but for spans.
use Rattle.std.proofs.Common.{◌≡◌, ℕ, zero, suc, ◌+◌, ◌<◌, ◌≤◌, ◌^◌, false, List, [], ◌∷◌, ◌++◌, Some, None, refl, sym, ◌∙◌, subst, arith, append_assoc, append-nil}
use Rattle.std.specs.Prelude.{codes}
use Rattle.plus_tokens.specs.declared.token.Kind.TheVariants as kinds
use Rattle.plus_tokens.specs.declared.span.Span.{Span}
use Rattle.plus_tokens.specs.Items.{Piece}
use Rattle.plus_tree.specs.declared.names.Spelled.{Spelled}
use Rattle.plus_tree.specs.declared.trees.Problem.{Problem}
use Rattle.plus_tree.specs.Cond.{Cond}
use Rattle.plus_parser.specs.declared.parts.ProblemParts.{ProblemParts}
use Rattle.plus_parser.specs.Phrases.Grammar.{around}
use Rattle.plus_parser.specs.Phrases.Spells.{Wrapped, Chain}
use Rattle.plus_parser.specs.Forms.SpellsForms.{SpellsCond}
use Rattle.plus_parser.specs.SpellsProblem.{ProblemPart, p_domain, p_objects, p_init, p_goal, SpellsProblemPart, ProblemTokens, SpellsProblemWithin}
use Rattle.plus_parser.proofs.PhraseLemmas.Level.{Even, even_append}
use Rattle.plus_parser.proofs.Sections.{frame_even}
use Rattle.plus_printer.specs.Canon.{cond_text}
use Rattle.plus_trial.specs.Trial.{farm_problem}
use Rattle.plus_canonical.specs.Same.{no_span, bare_cond, bare_problem, SameProblem}
use Rattle.plus_canonical.proofs.Lexes.{Ended, at_space, at_line, at_close, Any, Reads, Both, both, turn, join, piece, IsToken}
use Rattle.plus_canonical.proofs.Smalls.{even_token}
use Rattle.plus_canonical.proofs.Forms.{open_reads, close_reads, name_reads, keyword_reads, spaced_before, spaced_behind, HeadForm, head_reads, head_even, Again, AllOf}
use Rattle.plus_canonical.proofs.Terms.{fixed}
use Rattle.plus_canonical.proofs.Sections.{section_reads, line_behind}
use Rattle.plus_canonical.proofs.Fronts.{Fronted, framed, whole_reads}
use Rattle.laws_farm.proofs.Trees.{named, inits_of, farm_goal, farm_name, problem_tree, counted}
use Rattle.laws_farm.proofs.Names.{Fit, name_small, domain_small}
use Rattle.laws_farm.proofs.ProblemTexts.{objects_body, inits_body, domain_section, objects_section, inits_section, goal_section, goal_on, inits_on, objects_on, sections_text, sectioned, text_is, sections_are}
use Rattle.laws_farm.proofs.Members.{ObjectsAgain, objects_read, InitsAgain, inits_read, goal_read}

-- ---- the four sections

abbrev GoalAgain : List Piece → Type 0
GoalAgain = Again 62 Cond SpellsCond bare_cond farm_goal

abbrev ForForm : List Piece → Type 0
ForForm = HeadForm kinds.Keyword (codes ":domain") (IsToken kinds.Name (codes "farm"))

abbrev ObjectsForm : List ℕ → List Piece → Type 0
ObjectsForm is = HeadForm kinds.Keyword (codes ":objects") (ObjectsAgain 62 is)

abbrev InitsForm : List ℕ → List Piece → Type 0
InitsForm is = HeadForm kinds.Keyword (codes ":init") (InitsAgain 62 (inits_of is))

abbrev GoalForm : List Piece → Type 0
GoalForm = HeadForm kinds.Keyword (codes ":goal") GoalAgain

abbrev LastClose : List Piece → Type 0
LastClose = IsToken kinds.Close (41 ∷ [])

for_reads : Reads Any domain_section ForForm
for_reads =
    section_reads {B = IsToken kinds.Name (codes "farm")} (codes "domain") (32 ∷ codes "farm") (fixed 100 (codes "omain") refl refl refl refl)
    (spaced_before {S = Ended} (codes "farm") (name_reads (codes "farm") domain_small)) (λ rest ok. at_space)

objects_form : (i : ℕ) (is : List ℕ) → AllOf Fit (i ∷ is) → Reads Any (objects_section (i ∷ is)) (ObjectsForm (i ∷ is))
objects_form i is fits =
    section_reads {B = ObjectsAgain 62 (i ∷ is)} (codes "objects") (objects_body (i ∷ is)) (fixed 111 (codes "bjects") refl refl refl refl)
    (objects_read 62 i is fits) (λ rest ok. at_space)

inits_form : (is : List ℕ) → AllOf Fit is → Reads Any (inits_section is) (InitsForm is)
inits_form is fits =
    section_reads {B = InitsAgain 62 (inits_of is)} (codes "init") (inits_body is) (fixed 105 (codes "nit") refl refl refl refl)
    (inits_read 60 is fits) (λ rest ok. at_line)

goal_form : Reads Any goal_section GoalForm
goal_form =
    spaced_before {S = Any} {P = GoalForm} (40 ∷ (codes ":goal" ++ ((32 ∷ cond_text farm_goal) ++ 41 ∷ [])))
    (head_reads {S = Ended} {k = kinds.Keyword} {w = codes ":goal"} {B = GoalAgain} (codes ":goal") (32 ∷ cond_text farm_goal)
    (keyword_reads (codes "goal") (fixed 103 (codes "oal") refl refl refl refl)) (spaced_before {S = Ended} {P = GoalAgain} (cond_text farm_goal) (goal_read 59)) (λ rest ok. at_space))

abbrev Stated : List ℕ → List Piece → Type 0
Stated is = Both ForForm (Both (ObjectsForm is) (Both (InitsForm is) (Both GoalForm LastClose)))

stated_reads : (i : ℕ) (is : List ℕ) → AllOf Fit (i ∷ is) → Reads Any (sections_text (i ∷ is)) (Stated (i ∷ is))
stated_reads i is fits =
    join {S = Any} {T = Any} {P = ForForm} domain_section (objects_on (i ∷ is)) for_reads
    (join {S = Any} {T = Any} {P = ObjectsForm (i ∷ is)} (objects_section (i ∷ is)) (inits_on (i ∷ is)) (objects_form i is fits)
    (join {S = Any} {T = Any} {P = InitsForm (i ∷ is)} (inits_section (i ∷ is)) goal_on (inits_form (i ∷ is) fits)
    (join {S = Any} {T = Any} {P = GoalForm} {Q = LastClose} goal_section (41 ∷ 10 ∷ []) goal_form (line_behind {P = LastClose} (41 ∷ []) close_reads)
    (λ rest ok. tt)) (λ rest ok. tt)) (λ rest ok. tt)) (λ rest ok. tt)

-- ---- the front

abbrev Word : List ℕ → List Piece → Type 0
Word w = IsToken kinds.Name w

abbrev FirstOpen : List Piece → Type 0
FirstOpen = IsToken kinds.Open (40 ∷ [])

-- a front whose sections stand on its line
front_reads : (n : ℕ) (more : List ℕ) (P : List Piece → Type 0) → Fit n → Reads Any more P
    → Reads Any (40 ∷ ((codes "define" ++ 32 ∷ []) ++ (40 ∷ ((codes "problem" ++ 32 ∷ []) ++ (farm_name n ++ (41 ∷ more)))))) (Fronted (codes "problem") (farm_name n) P)
front_reads n more P fit r =
    turn {after = Any} (40 ∷ ((codes "define" ++ 32 ∷ []) ++ (40 ∷ ((codes "problem" ++ 32 ∷ []) ++ (farm_name n ++ (41 ∷ more)))))) fronted
    (join {S = Any} {T = Any} {P = FirstOpen} (40 ∷ []) ((codes "define" ++ 32 ∷ []) ++ (40 ∷ ((codes "problem" ++ 32 ∷ []) ++ (farm_name n ++ (41 ∷ more))))) open_reads
    (join {S = Any} {T = Any} {P = Word (codes "define")} (codes "define" ++ 32 ∷ []) (40 ∷ ((codes "problem" ++ 32 ∷ []) ++ (farm_name n ++ (41 ∷ more))))
    (spaced_behind (codes "define") (name_reads (codes "define") (fixed 100 (codes "efine") refl refl refl refl)))
    (join {S = Any} {T = Any} {P = FirstOpen} (40 ∷ []) ((codes "problem" ++ 32 ∷ []) ++ (farm_name n ++ (41 ∷ more))) open_reads
    (join {S = Any} {T = Any} {P = Word (codes "problem")} (codes "problem" ++ 32 ∷ []) (farm_name n ++ (41 ∷ more))
    (spaced_behind (codes "problem") (name_reads (codes "problem") (fixed 112 (codes "roblem") refl refl refl refl)))
    (join {S = Ended} {T = Any} {P = Word (farm_name n)} (farm_name n) (41 ∷ more) (name_reads (farm_name n) (name_small n fit))
    (join {S = Any} {T = Any} {P = LastClose} {Q = P} (41 ∷ []) more close_reads r (λ rest ok. tt))
    (λ rest ok. at_close)) (λ rest ok. tt)) (λ rest ok. tt)) (λ rest ok. tt)) (λ rest ok. tt))
  where
    fronted : (ts : List Piece) → Both FirstOpen (Both (Word (codes "define")) (Both FirstOpen (Both (Word (codes "problem")) (Both (Word (farm_name n)) (Both LastClose P))))) ts
        → Fronted (codes "problem") (farm_name n) P ts
    fronted ts (both a a' o (both b b' d (both c c' i (both e e' k (both f f' m (both g g' z p u6) u5) u4) u3) u2) u1) = record {
      first = o.span;
      define = d.span;
      inner = i.span;
      kind = k.span;
      named = m.span;
      close = z.span;
      more = g';
      more_is = p;
      whole = cc (o.whole, d.whole, i.whole, k.whole, m.whole, z.whole, u1, u2, u3, u4, u5, u6);
    }

-- ---- the whole

abbrev Spelt : (n : ℕ) (is : List ℕ) → List Piece → Type 0
Spelt n is = Again 64 Problem ProblemTokens bare_problem (problem_tree n is)

given : (n : ℕ) (is : List ℕ) (ts : List Piece) (f : Fronted (codes "problem") (farm_name n) (Stated is) ts) (more : List Piece) → f.more ≡ more → Stated is more → Spelt n is ts
given n is ts f more behind (both t1 u1 d (both t2 u2 o (both t3 u3 i (both t4 u4 g z w4) w3) w2) w1) =
    let title : Piece = piece kinds.Name (codes "farm") d.body_is.span in
    let own : Spelled = record { name = codes "farm"; span = d.body_is.span } in
    let name : Spelled = record { name = farm_name n; span = f.named } in
    let span : Span = around f.first z.span in
    let body : List Piece = t1 ++ (t2 ++ (t3 ++ t4)) in
    let parts : List ProblemPart = p_domain own ∷ p_objects o.body_is.again ∷ p_init i.body_is.again ∷ p_goal g.body_is.again ∷ [] in
    let found : ProblemParts = record {
      domain = Some own;
      requirements = None;
      objects = Some o.body_is.again;
      init = Some i.body_is.again;
      goal = Some g.body_is.again;
      metric = false;
    } in
    let whole : more ≡ body ++ piece kinds.Close (41 ∷ []) z.span ∷ [] = rw (w1, w2, w3, w4, z.whole) (simp append_assoc) in
    let frame = framed (codes "problem") (farm_name n) (Stated is) ts f body z.span (behind ∙ whole) in
    let first : SpellsProblemPart (p_domain own) t1 = (
      d.span,
      piece kinds.Keyword (codes ":domain") d.at,
      title,
      refl,
      subst (λ (l : List Piece). Wrapped d.span (piece kinds.Keyword (codes ":domain") d.at ∷ l) t1) d.body_is.whole d.wrapped,
      refl,
      refl,
    ) in
    let chain : Chain SpellsProblemPart parts body = (
      t1,
      t2 ++ (t3 ++ t4),
      first,
      (
        t2,
        t3 ++ t4,
        (o.span, piece kinds.Keyword (codes ":objects") o.at, o.body, refl, o.wrapped, o.body_is.spelled),
        (
          t3,
          t4,
          (i.span, piece kinds.Keyword (codes ":init") i.at, i.body, refl, i.wrapped, i.body_is.spelled),
          (t4, [], (g.span, piece kinds.Keyword (codes ":goal") g.at, g.body, refl, g.wrapped, g.body_is.spelled), refl, sym (append-nil t4)),
          refl,
        ),
        refl,
      ),
      refl,
    ) in
    let even : Even 63 body =
    even_append 63 t1 (t2 ++ (t3 ++ t4)) (head_even 62 t1 d refl (even_token 62 title d.body refl d.body_is.whole))
    (even_append 63 t2 (t3 ++ t4) (head_even 62 t2 o refl o.body_is.even)
    (even_append 63 t3 t4 (head_even 62 t3 i refl i.body_is.even) (head_even 62 t4 g refl g.body_is.even))) in
    record {
      again = record {
        name = name;
        domain = own;
        requirements = [];
        objects = o.body_is.again;
        init = i.body_is.again;
        goal = g.body_is.again;
        span = span;
      };
      spelled = record { body = body; parts = parts; found = found; frame = frame; spelled = chain; once = refl; is = refl };
      even = frame_even (codes "problem") name span body ts frame 62 even;
      same = λ j. record {
        name = named (farm_name n);
        domain = named (codes "farm");
        requirements = [];
        objects = o.body_is.same j;
        init = i.body_is.same j;
        goal = g.body_is.same j;
        span = no_span;
      };
    }

text_reads : (n i : ℕ) (is : List ℕ) → Fit n → AllOf Fit (i ∷ is) → Reads Any (sectioned n (i ∷ is)) (Spelt n (i ∷ is))
text_reads n i is fit fits =
    turn {after = Any} {P = Fronted (codes "problem") (farm_name n) (Stated (i ∷ is))} (sectioned n (i ∷ is)) (λ ts f. given n (i ∷ is) ts f f.more refl f.more_is)
    (front_reads n (sections_text (i ∷ is)) (Stated (i ∷ is)) fit (stated_reads i is fits))

-- the tanks have numbers that fit
fits_from : (a k : ℕ) → 0 < a → a + k < 2 ^ 64 → AllOf Fit (counted a k)
fits_from a zero some few = tt
fits_from a (suc k) some few = (record { some = some; few = omega arith }, fits_from (suc a) k (omega arith) (omega arith))

pub problem_spelled : (n : ℕ) → 1 ≤ n → n ≤ 1000 → (p : Problem) × SpellsProblemWithin 64 (farm_problem n) p × SameProblem (problem_tree n (counted 1 n)) p
problem_spelled zero some few = absurd (omega arith)
problem_spelled (suc k) some few =
    let n : ℕ = suc k in
    let fits : AllOf Fit (counted 1 n) = fits_from 1 n (omega arith) (omega arith) in
    let text : Reads Any (farm_problem n) (Spelt n (counted 1 n)) =
    subst (λ (l : List ℕ). Reads Any l (Spelt n (counted 1 n))) (sym (text_is n ∙ sections_are n (counted 1 n))) (text_reads n 1 (counted 2 k) (record { some = omega arith; few = omega arith }) fits) in
    let w = whole_reads (farm_problem n) text in
    (w.are.again, (w.ts, w.items, w.are.spelled, w.are.even), w.are.same)
