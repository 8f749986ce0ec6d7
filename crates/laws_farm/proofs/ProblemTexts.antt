-- The text of the problem, as a front and four sections.
use Rattle.std.proofs.Common.{◌≡◌, ℕ, List, [], ◌∷◌, ◌++◌, refl, sym, ap, ◌∙◌, decimal, append_assoc}
use Rattle.std.specs.Prelude.{codes}
use Rattle.std.specs.List.{flat_map}
use Rattle.plus_printer.specs.Words.{word, use_text, term_text, typed_text, variable_text, variables_text}
use Rattle.plus_printer.specs.Canon.{cond_text}
use Rattle.plus_trial.specs.Farm.{tanks, numbered, object_text, init_text}
use Rattle.plus_trial.specs.Trial.{farm_problem}
use Rattle.laws_farm.proofs.Trees.{farm_goal, farm_name, counted, tanks_counted}

-- ---- the parts of the text that have no number

unfoldable pub front : List ℕ
front = codes "(define (problem farm"

unfoldable pub behind_name : List ℕ
behind_name = codes ") (:domain farm)\n (:objects"

unfoldable pub behind_objects : List ℕ
behind_objects = codes " - tank)\n (:init\n"

unfoldable pub behind_inits : List ℕ
behind_inits = codes " )\n (:goal (forall (?t - tank) (>= (level ?t) (cap ?t)))))\n"

-- the text with these tanks
abbrev pub text_with : ℕ → List ℕ → List ℕ
text_with n is = numbered front n behind_name ++ (flat_map object_text is ++ (behind_objects ++ (flat_map init_text is ++ behind_inits)))

of_tanks : (n : ℕ) → farm_problem n ≡ text_with n (tanks n)
unfolding farm_problem front behind_name behind_objects behind_inits
of_tanks n = refl

pub text_is : (n : ℕ) → farm_problem n ≡ text_with n (counted 1 n)
text_is n = of_tanks n ∙ ap (text_with n) (tanks_counted n)

-- ---- the same, section by section

abbrev pub objects_body : List ℕ → List ℕ
objects_body is = flat_map object_text is ++ codes " - tank"

abbrev pub inits_body : List ℕ → List ℕ
inits_body is = 10 ∷ (flat_map init_text is ++ 32 ∷ [])

abbrev pub domain_section : List ℕ
domain_section = 32 ∷ 40 ∷ (codes ":domain" ++ ((32 ∷ codes "farm") ++ (41 ∷ 10 ∷ [])))

abbrev pub objects_section : List ℕ → List ℕ
objects_section is = 32 ∷ 40 ∷ (codes ":objects" ++ (objects_body is ++ (41 ∷ 10 ∷ [])))

abbrev pub inits_section : List ℕ → List ℕ
inits_section is = 32 ∷ 40 ∷ (codes ":init" ++ (inits_body is ++ (41 ∷ 10 ∷ [])))

abbrev pub goal_section : List ℕ
goal_section = 32 ∷ 40 ∷ (codes ":goal" ++ ((32 ∷ cond_text farm_goal) ++ 41 ∷ []))

abbrev pub goal_on : List ℕ
goal_on = goal_section ++ (41 ∷ 10 ∷ [])

abbrev pub inits_on : List ℕ → List ℕ
inits_on is = inits_section is ++ goal_on

abbrev pub objects_on : List ℕ → List ℕ
objects_on is = objects_section is ++ inits_on is

abbrev pub sections_text : List ℕ → List ℕ
sections_text is = domain_section ++ objects_on is

abbrev pub sectioned : ℕ → List ℕ → List ℕ
sectioned n is = 40 ∷ ((codes "define" ++ 32 ∷ []) ++ (40 ∷ ((codes "problem" ++ 32 ∷ []) ++ (farm_name n ++ (41 ∷ sections_text is)))))

three : (a b c d : List ℕ) → ((a ++ b) ++ c) ++ d ≡ a ++ (b ++ (c ++ d))
three a b c d = append_assoc (a ++ b) c d ∙ append_assoc a b (c ++ d)

behind_inits_is : behind_inits ≡ 32 ∷ 41 ∷ 10 ∷ goal_on
unfolding behind_inits word use_text term_text typed_text variable_text variables_text
behind_inits_is = refl

inits_are : (is : List ℕ) → behind_objects ++ (flat_map init_text is ++ behind_inits) ≡ codes " - tank" ++ ((41 ∷ 10 ∷ []) ++ inits_on is)
unfolding behind_objects
inits_are is =
    ap (λ (l : List ℕ). codes " - tank)\n (:init\n" ++ l)
    (ap (λ (l : List ℕ). flat_map init_text is ++ l) behind_inits_is ∙ sym (three (flat_map init_text is) (32 ∷ []) (41 ∷ 10 ∷ []) goal_on))

objects_are : (is : List ℕ) → flat_map object_text is ++ (behind_objects ++ (flat_map init_text is ++ behind_inits)) ≡ (objects_body is ++ (41 ∷ 10 ∷ [])) ++ inits_on is
objects_are is =
    ap (λ (l : List ℕ). flat_map object_text is ++ l) (inits_are is) ∙ sym (three (flat_map object_text is) (codes " - tank") (41 ∷ 10 ∷ []) (inits_on is))

pub sections_are : (n : ℕ) (is : List ℕ) → text_with n is ≡ sectioned n is
unfolding front behind_name
sections_are n is =
    let rest : List ℕ = flat_map object_text is ++ (behind_objects ++ (flat_map init_text is ++ behind_inits)) in
    ap (λ (l : List ℕ). codes "(define (problem farm" ++ l) (append_assoc (decimal n) (codes ") (:domain farm)\n (:objects") rest)
    ∙ ap (λ (l : List ℕ). codes "(define (problem farm" ++ (decimal n ++ (codes ") (:domain farm)\n (:objects" ++ l))) (objects_are is)
