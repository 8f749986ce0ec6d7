-- A problem reads again.
use Rattle.std.proofs.Common.{◌≡◌, ◌≤◌, ℕ, zero, suc, arith, ◌+◌, ◌-◌, length, List, [], ◌∷◌, ◌++◌, Some, None, refl, sym, ap, ◌∙◌, subst, append_assoc}
use Rattle.std.specs.Prelude.{codes, map, unwrap_or}
use Rattle.plus_tokens.specs.declared.token.Kind.TheVariants as kinds
use Rattle.plus_tokens.specs.declared.span.Span.{Span}
use Rattle.plus_tree.specs.declared.names.Spelled.{Spelled}
use Rattle.plus_tree.specs.declared.terms.TypedName.{TypedName}
use Rattle.plus_tree.specs.declared.trees.Init.{Init}
use Rattle.plus_tree.specs.declared.trees.Problem.{Problem}
use Rattle.plus_tree.specs.Cond.{Cond}
use Rattle.plus_tokens.specs.Items.{Piece}
use Rattle.plus_parser.specs.Phrases.Grammar.{around}
use Rattle.plus_parser.specs.Phrases.Spells.{room_step, room_after}
use Rattle.plus_parser.specs.declared.parts.ProblemParts.{ProblemParts}
use Rattle.plus_parser.specs.ReadingProblem.{no_problem_parts, problem_made}
use Rattle.plus_parser.specs.SpellsDomain.{Framed}
use Rattle.plus_parser.specs.SpellsProblem.{ProblemPart, SpellsProblemPart, with_problem_part, ProblemTokens, SpellsProblem, SpellsProblemWithin}
use Rattle.plus_printer.specs.Words.{word, spaced, typed_text, problem_opening}
use Rattle.plus_printer.specs.Canon.{section, requirements_text, cond_text, init_text, for_text, titled_text, stated_text, problem_text}
use Rattle.plus_canonical.specs.Same.{bare_spelled, bare_typed, bare_init, bare_cond, bare_problem, SameProblem}
use Rattle.plus_canonical.proofs.Lexes.{Any, Reads, Both, both, turn, join, piece, IsToken}
use Rattle.plus_parser.proofs.PhraseLemmas.Level.{Even, after_name, even_append, even_there}
use Rattle.plus_parser.proofs.Sections.{frame_even, body_short}
use Rattle.plus_parser.proofs.ProblemLaws.{problem_level}
use Rattle.plus_canonical.proofs.Smalls.{Fine, lexical}
use Rattle.plus_canonical.proofs.Forms.{close_reads, Again}
use Rattle.plus_canonical.proofs.Terms.{fixed}
use Rattle.plus_canonical.proofs.Sections.{steps_then, line_behind}
use Rattle.plus_canonical.proofs.Fronts.{Fronted, front_reads, framed, whole_reads}
use Rattle.plus_canonical.proofs.ProblemSections.{ProblemSteps, ProblemSection, ProblemOne, get_domain, put_domain, domain_again, get_requirements, put_requirements, requirements_again, get_objects, put_objects, objects_again, get_init, put_init, inits_again, get_goal, put_goal, goal_again}
use Rattle.plus_canonical.proofs.GoodProblems.{GoodProblem, problem_good}

abbrev For : ℕ → Problem → List Piece → Type 0
For m p = Again (suc m) Spelled (ProblemOne get_domain put_domain) bare_spelled p.domain

abbrev Requirements : ℕ → Problem → List Piece → Type 0
Requirements m p = Again (suc m) (List Spelled) (ProblemSection get_requirements put_requirements) (map bare_spelled) p.requirements

abbrev Objects : ℕ → Problem → List Piece → Type 0
Objects m p = Again (suc m) (List TypedName) (ProblemSection get_objects put_objects) (map bare_typed) p.objects

abbrev First : ℕ → Problem → List Piece → Type 0
First m p = Again (suc m) (List Init) (ProblemOne get_init put_init) (map bare_init) p.init

abbrev Goal : ℕ → Problem → List Piece → Type 0
Goal m p = Again (suc m) Cond (ProblemOne get_goal put_goal) bare_cond p.goal

abbrev Stated : ℕ → Problem → List Piece → Type 0
Stated m p = Both (For m p) (Both (Requirements m p) (Both (Objects m p) (Both (First m p) (Both (Goal m p) (IsToken kinds.Close (41 ∷ []))))))

-- the sections, each on its line, and the last parenthesis
abbrev domain_line : Problem → List ℕ
domain_line p = 32 ∷ 40 ∷ (codes ":domain" ++ ((32 ∷ p.domain.name) ++ (41 ∷ 10 ∷ [])))

abbrev init_line : Problem → List ℕ
init_line p = 32 ∷ 40 ∷ (codes ":init" ++ (spaced init_text p.init ++ (41 ∷ 10 ∷ [])))

abbrev goal_line : Problem → List ℕ
goal_line p = 32 ∷ 40 ∷ (codes ":goal" ++ ((32 ∷ cond_text p.goal) ++ (41 ∷ 10 ∷ [])))

sections_text : Problem → List ℕ
sections_text p = domain_line p ++ (requirements_text p.requirements ++ (section (codes " (:objects") typed_text p.objects ++ (init_line p ++ (goal_line p ++ (41 ∷ 10 ∷ [])))))

stated_reads : (m : ℕ) (p : Problem) → GoodProblem m p → Reads Any (sections_text p) (Stated m p)
unfolding sections_text
stated_reads m p g =
    let objects : List ℕ = section (codes " (:objects") typed_text p.objects in
    join {S = Any} {T = Any} {P = For m p} (domain_line p) (requirements_text p.requirements ++ (objects ++ (init_line p ++ (goal_line p ++ (41 ∷ 10 ∷ []))))) (domain_again m p.domain g.domain)
    (join {S = Any} {T = Any} {P = Requirements m p} (requirements_text p.requirements) (objects ++ (init_line p ++ (goal_line p ++ (41 ∷ 10 ∷ [])))) (requirements_again m p.requirements g.requirements)
    (join {S = Any} {T = Any} {P = Objects m p} objects (init_line p ++ (goal_line p ++ (41 ∷ 10 ∷ []))) (objects_again m p.objects g.objects)
    (join {S = Any} {T = Any} {P = First m p} (init_line p) (goal_line p ++ (41 ∷ 10 ∷ [])) (inits_again m p.init g.init)
    (join {S = Any} {T = Any} {P = Goal m p} {Q = IsToken kinds.Close (41 ∷ [])} (goal_line p) (41 ∷ 10 ∷ []) (goal_again m p.goal g.goal) (line_behind {P = IsToken kinds.Close (41 ∷ [])} (41 ∷ []) close_reads)
    (λ rest ok. tt)) (λ rest ok. tt)) (λ rest ok. tt)) (λ rest ok. tt)) (λ rest ok. tt)

-- what the tokens give
record Given (m : ℕ) (p : Problem) (ts : List Piece) : Type 0 where
  body : List Piece
  last : Span
  found : ProblemParts
  again : Spelled → Span → Problem
  steps : ProblemSteps no_problem_parts found body
  even : Even (suc m) body
  whole : ts ≡ body ++ piece kinds.Close (41 ∷ []) last ∷ []
  named : (n : Spelled) (s : Span) → (again n s).name ≡ n
  placed : (n : Spelled) (s : Span) → (again n s).span ≡ s
  is : (n : Spelled) (s : Span) → problem_made n found s ≡ Some (again n s)
  same : (n : Spelled) (s : Span) → n.name ≡ p.name.name → SameProblem p (again n s)

same_problem : (p q : Problem) → q.name.name ≡ p.name.name → bare_spelled p.domain ≡ bare_spelled q.domain → map bare_spelled p.requirements ≡ map bare_spelled q.requirements
    → map bare_typed p.objects ≡ map bare_typed q.objects → map bare_init p.init ≡ map bare_init q.init → bare_cond p.goal ≡ bare_cond q.goal → SameProblem p q
same_problem p q e1 e2 e3 e4 e5 e6 = cc

given : (m : ℕ) (p : Problem) (ts : List Piece) → Stated m p ts → Given m p ts
given m p ts (both t1 u1 d (both t2 u2 r (both t3 u3 o (both t4 u4 i (both t5 u5 g z w5) w4) w3) w2) w1) =
    let p1 : ProblemParts = put_domain no_problem_parts (Some d.again) in
    let s2 = r.spelled p1 refl in
    let p2 : ProblemParts = put_requirements p1 s2.0 in
    let s3 = o.spelled p2 refl in
    let p3 : ProblemParts = put_objects p2 s3.0 in
    let p4 : ProblemParts = put_init p3 (Some i.again) in
    let p5 : ProblemParts = put_goal p4 (Some g.again) in
    let made : Spelled → Span → Problem = λ n s. record { name = n; domain = d.again; requirements = unwrap_or s2.0 []; objects = unwrap_or s3.0 []; init = i.again; goal = g.again; span = s } in
    record {
      body = t1 ++ (t2 ++ (t3 ++ (t4 ++ t5)));
      last = z.span;
      found = p5;
      again = made;
      steps = steps_then ProblemParts ProblemPart SpellsProblemPart with_problem_part no_problem_parts p1 p5 t1 (t2 ++ (t3 ++ (t4 ++ t5))) (d.spelled no_problem_parts refl)
          (steps_then ProblemParts ProblemPart SpellsProblemPart with_problem_part p1 p2 p5 t2 (t3 ++ (t4 ++ t5)) s2.2
          (steps_then ProblemParts ProblemPart SpellsProblemPart with_problem_part p2 p3 p5 t3 (t4 ++ t5) s3.2
          (steps_then ProblemParts ProblemPart SpellsProblemPart with_problem_part p3 p4 p5 t4 t5 (i.spelled p3 refl) (g.spelled p4 refl))));
      even = even_append (suc m) t1 (t2 ++ (t3 ++ (t4 ++ t5))) d.even (even_append (suc m) t2 (t3 ++ (t4 ++ t5)) r.even
          (even_append (suc m) t3 (t4 ++ t5) o.even (even_append (suc m) t4 t5 i.even g.even)));
      whole = rw (w1, w2, w3, w4, w5, z.whole) (simp append_assoc);
      named = λ n s. refl;
      placed = λ n s. refl;
      is = λ n s. refl;
      same = λ n s name. same_problem p (made n s) name d.same (r.same ∙ ap (map bare_spelled) (sym s2.1)) (o.same ∙ ap (map bare_typed) (sym s3.1)) i.same g.same;
    }

problem_is : (m : ℕ) (p : Problem) (ts : List Piece) → Fronted (codes "problem") p.name.name (Stated m p) ts → Again (suc (suc m)) Problem ProblemTokens bare_problem p ts
problem_is m p ts f =
    let g = given m p f.more f.more_is in
    let name : Spelled = record { name = p.name.name; span = f.named } in
    let span : Span = around f.first g.last in
    let frame = framed (codes "problem") p.name.name (Stated m p) ts f g.body g.last g.whole in
    let again : Problem = g.again name span in
    record {
      again = again;
      spelled = record {
        body = g.body;
        parts = g.steps.parts;
        found = g.found;
        frame = subst (λ n. Framed (codes "problem") n again.span g.body ts) (sym (g.named name span)) (subst (λ s. Framed (codes "problem") name s g.body ts) (sym (g.placed name span)) frame);
        spelled = g.steps.spelled;
        once = g.steps.leads;
        is = subst (λ n. problem_made n g.found again.span ≡ Some again) (sym (g.named name span)) (subst (λ s. problem_made name g.found s ≡ Some again) (sym (g.placed name span)) (g.is name span));
      };
      even = frame_even (codes "problem") name span g.body ts frame m g.even;
      same = g.same name span refl;
    }

-- the text is a front and the sections
stated_is : (p : Problem) → stated_text p ≡ init_line p ++ (goal_line p ++ (41 ∷ 10 ∷ []))
unfolding stated_text word
stated_is p =
    ap (λ l. 32 ∷ 40 ∷ (codes ":init" ++ (spaced init_text p.init ++ (codes ")\n (:goal " ++ l)))) (sym (append_assoc (cond_text p.goal) (41 ∷ 10 ∷ []) (41 ∷ 10 ∷ [])))
    ∙ ap (λ l. 32 ∷ 40 ∷ (codes ":init" ++ l)) (sym (append_assoc (spaced init_text p.init) (41 ∷ 10 ∷ []) (goal_line p ++ (41 ∷ 10 ∷ []))))

text_is : (p : Problem) → problem_text p ≡ (40 ∷ (codes "define" ++ 32 ∷ [])) ++ (40 ∷ ((codes "problem" ++ 32 ∷ []) ++ (p.name.name ++ (41 ∷ 10 ∷ sections_text p))))
unfolding problem_text titled_text for_text problem_opening sections_text word
text_is p =
    let behind : List ℕ = requirements_text p.requirements ++ (section (codes " (:objects") typed_text p.objects ++ stated_text p) in
    ap (λ l. (40 ∷ (codes "define" ++ 32 ∷ [])) ++ (40 ∷ ((codes "problem" ++ 32 ∷ []) ++ l))) (append_assoc p.name.name (41 ∷ 10 ∷ domain_line p) behind)
    ∙ ap (λ l. (40 ∷ (codes "define" ++ 32 ∷ [])) ++ (40 ∷ ((codes "problem" ++ 32 ∷ []) ++ (p.name.name ++ (41 ∷ 10 ∷ (domain_line p
    ++ (requirements_text p.requirements ++ (section (codes " (:objects") typed_text p.objects ++ l)))))))) (stated_is p)

pub problem_reads : (m : ℕ) (p : Problem) → GoodProblem m p → Reads Any (problem_text p) (Again (suc (suc m)) Problem ProblemTokens bare_problem p)
problem_reads m p g =
    subst (λ l. Reads Any l (Again (suc (suc m)) Problem ProblemTokens bare_problem p)) (sym (text_is p))
    (turn {after = Any} ((40 ∷ (codes "define" ++ 32 ∷ [])) ++ (40 ∷ ((codes "problem" ++ 32 ∷ []) ++ (p.name.name ++ (41 ∷ 10 ∷ sections_text p))))) (problem_is m p)
    (front_reads {P = Stated m p} (codes "problem") p.name.name (sections_text p) (fixed 112 (codes "roblem") refl refl refl refl) g.name (stated_reads m p g)))

-- the canonical text of a problem that a text spells within a depth, spells it within that depth but for spans
pub problem_within : (m : ℕ) (text : List ℕ) (p : Problem) → SpellsProblemWithin (suc (suc m)) text p → (again : Problem) × SpellsProblemWithin (suc (suc m)) (problem_text p) again × SameProblem p again
problem_within m text p (ts, items, tokens, fits) =
    let fine : Fine (suc (suc m)) ts = record { words = lexical (length text + 1 - 0) text 0 ts items; even = fits } in
    let w = whole_reads (problem_text p) (problem_reads m p (problem_good m p ts fine tokens)) in
    (w.are.again, (w.ts, w.items, w.are.spelled, w.are.even), w.are.same)

-- the same, of whatever depth
pub problem_again : (text : List ℕ) (p : Problem) → SpellsProblem text p → (again : Problem) × SpellsProblem (problem_text p) again × SameProblem p again
problem_again text p (ts, items, tokens) =
    let short = body_short (codes "problem") p.name p.span tokens.body ts tokens.frame in
    let body : Even (suc (length ts)) tokens.body = even_there tokens.body (suc (length ts)) (problem_level p ts tokens) (omega (arith, short)) in
    let fits : Even (suc (suc (length ts))) ts = frame_even (codes "problem") p.name p.span tokens.body ts tokens.frame (length ts) body in
    let w = problem_within (length ts) text p (ts, items, tokens, fits) in
    let printed = w.1 in
    (w.0, (printed.0, printed.1, printed.2), w.2)

-- the frame alone opens two parentheses
frame_depth : (depth : ℕ) (name : Spelled) (span : Span) (body ts : List Piece) → Framed (codes "problem") name span body ts → Even depth ts → 2 ≤ depth
frame_depth zero name span body ts f even = absurd (let no : Some 0 ≡ None = sym even ∙ ap (room_after 0) f.whole ∙ ap (λ k. room_step k 0 (λ r. room_after r (f.define ∷ f.inner ∷ f.kind ∷ f.named ∷ f.close ∷ (body ++ f.last ∷ [])))) f.opens.0 in cc)
frame_depth (suc zero) name span body ts f even =
    let rest : List Piece = f.kind ∷ f.named ∷ f.close ∷ (body ++ f.last ∷ []) in
    let first : room_after 1 ts ≡ room_after 0 (f.define ∷ f.inner ∷ rest) = ap (room_after 1) f.whole ∙ ap (λ k. room_step k 1 (λ r. room_after r (f.define ∷ f.inner ∷ rest))) f.opens.0 in
    let second : room_after 0 (f.define ∷ f.inner ∷ rest) ≡ None = after_name 0 f.define (f.inner ∷ rest) f.words.0.0 ∙ ap (λ k. room_step k 0 (λ r. room_after r rest)) f.opens.1 in
    absurd (let no : Some 1 ≡ None = sym even ∙ first ∙ second in cc)
frame_depth (suc (suc depth)) name span body ts f even = omega arith

-- the depth is kept
pub problem_kept : (depth : ℕ) (text : List ℕ) (p : Problem) → SpellsProblemWithin depth text p → (again : Problem) × SpellsProblemWithin depth (problem_text p) again × SameProblem p again
problem_kept depth text p spelled =
    let tokens = spelled.2 in
    let le : 2 ≤ depth = frame_depth depth p.name p.span tokens.body spelled.0 tokens.frame spelled.3 in
    let same : suc (suc (depth - 2)) ≡ depth = omega (arith, le) in
    subst (λ n. SpellsProblemWithin n text p → (again : Problem) × SpellsProblemWithin n (problem_text p) again × SameProblem p again) same (problem_within (depth - 2) text p) spelled
