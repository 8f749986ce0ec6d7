-- The laws on domains and problems.
use Rattle.std.proofs.Common.{◌≡◌, ℕ, Bool, true, false, ◌||◌, List, [], ◌∷◌, ◌++◌, map, flat_map, refl, ap, ap₂, sym, subst, ◌∙◌, pos, All}
use Rattle.std.specs.Prelude.{codes, if◌then◌else◌}
use Rattle.std.specs.List.{list_any}
use Rattle.std.specs.Str.{bytes_eq}
use Rattle.std.proofs.lemmas.List.Elements.{All-nil, All-cons, All-head, All-tail}
use Rattle.plus_fraction.specs.Fraction.{Fraction, whole, ◌<ℚ◌}
use Rattle.plus_tree.specs.declared.names.Spelled.{Spelled}
use Rattle.plus_tree.specs.declared.terms.Literal.{Literal}
use Rattle.plus_tree.specs.declared.trees.Head.{Head}
use Rattle.plus_tree.specs.declared.trees.Schema.{Schema}
use Rattle.plus_tree.specs.declared.trees.Domain.{Domain}
use Rattle.plus_tree.specs.declared.trees.Init.{Init}
use Rattle.plus_tree.specs.declared.trees.Init.TheVariants.{Holds, Absent, Value, At, AtNot}
use Rattle.plus_tree.specs.declared.trees.Problem as tree
use Rattle.plus_types.specs.declared.faults.File.{File}
use Rattle.plus_types.specs.declared.faults.File.TheVariants as files
use Rattle.plus_types.proofs.TypesLemmas.{same-bytes}
use Rattle.plus_literal.specs.Value.{literal_value}
use Rattle.plus_expansion.proofs.WellTyped.{no-type-fault}
use Rattle.plus_steps.specs.Stepped.{Move, Act, Tick, time_of_step}
use Rattle.plus_steps.specs.Translation.{Old, Step, Fire, strip}
use Rattle.plus_steps.specs.Laws.{CallName, IsOnGrid}
use Rattle.plus_translation.specs.Names.{is_taken, Place, taken_name, taken_list, taken_in, taken_head, taken_schema, taken_action}
use Rattle.plus_translation.specs.Translated.{mark_name, steps_to, time_of}
use Rattle.plus_translation.specs.Laws.{stripped, IsPlanOfTranslation, CanBeTranslated, TranslatedPlansAreStepped, OneOfTranslation, SteppedPlansAreTranslated, IsSteppedPlan}
use Rattle.plus_translation.proofs.Clock.{AllOnGrid, steps_are}
use Rattle.plus_translation.proofs.Calls.{Given, step_name, fire_name, part_of}
use Rattle.plus_translation.proofs.PairLaws.{plan_is_stepped, stepped_is_of_one}

-- a name that is taken is none of these
not_among : {X : Type 0} (name : List ℕ) → is_taken name ≡ true → (f : X → List ℕ) (xs : List X) → All (λ x. is_taken (f x) ≡ false) xs → list_any (bytes_eq name) (map f xs) ≡ false
not_among name n f [] a = refl
not_among name n f (x ∷ xs) a = ap₂ (λ u v. u || v) (by (bytes_eq name (f x)) refl) (not_among name n f xs (All-tail (λ x. is_taken (f x) ≡ false) x xs a))
  where
    by : (b : Bool) → bytes_eq name (f x) ≡ b → bytes_eq name (f x) ≡ false
    by false e = e
    by true e = absurd (let h : true ≡ false = sym n ∙ ap is_taken (same-bytes name (f x) e) ∙ All-head (λ x. is_taken (f x) ≡ false) x xs a in cc)

mark_taken : (k : ℕ) → is_taken (mark_name k) ≡ true
mark_taken k = refl

stripped_is : (calls : List CallName) → strip (map part_of calls) ≡ stripped calls
stripped_is [] = refl
stripped_is (call ∷ calls) = by (bytes_eq call.0 (codes "pp-step")) (bytes_eq call.0 (codes "pp-fire")) (stripped_is calls)
  where
    by : (s f : Bool) → strip (map part_of calls) ≡ stripped calls
        → strip ((if s then Step else (if f then Fire else Old call)) ∷ map part_of calls) ≡ (if s then Tick ∷ stripped calls else (if f then stripped calls else Act call ∷ stripped calls))
    by true f h = ap (λ ms. Tick ∷ ms) h
    by false true h = h
    by false false h = ap (λ ms. Act call ∷ ms) h

-- ---- what is asked of the pair

left_none : (xs ys : List Place) → xs ++ ys ≡ [] → xs ≡ []
left_none [] ys e = refl
left_none (x ∷ xs) ys e = absurd cc

right_none : (xs ys : List Place) → xs ++ ys ≡ [] → ys ≡ []
right_none [] ys e = e
right_none (x ∷ xs) ys e = absurd cc

-- a name at a place where none is taken
free_name : (file : File) (x : Spelled) → taken_name file x ≡ [] → is_taken x.name ≡ false
free_name file x e = by (is_taken x.name) refl e
  where
    by : (b : Bool) → is_taken x.name ≡ b → if◌then◌else◌ {A = List Place} b ((file, x.span) ∷ []) [] ≡ [] → is_taken x.name ≡ false
    by true h k = absurd cc
    by false h k = h

free_names : {X : Type 0} (f : X → List Place) (name : X → Spelled) (rest : X → List Place) → ((x : X) → f x ≡ taken_name files.Domain (name x) ++ rest x) → (xs : List X) → flat_map f xs ≡ [] → All (λ x. is_taken (name x).name ≡ false) xs
free_names f name rest is [] e = All-nil (λ x. is_taken (name x).name ≡ false)
free_names f name rest is (x ∷ xs) e =
    All-cons (λ x. is_taken (name x).name ≡ false) x xs
    (free_name files.Domain (name x) (left_none (taken_name files.Domain (name x)) (rest x) (sym (is x) ∙ left_none (f x) _ e)))
    (free_names f name rest is xs (right_none (f x) _ e))

-- the times as they are counted
counted : (q : Fraction) → whole (pos 0) <ℚ q → (t : Literal) → IsOnGrid q (literal_value t) → literal_value t ≡ time_of_step q (steps_to q t)
counted q positive t h = h.at ∙ ap (time_of_step q) (sym (steps_are q positive t h.steps h.at))

all_grid : (q : Fraction) → whole (pos 0) <ℚ q → (init : List Init) → All (λ (t : Literal). IsOnGrid q (literal_value t)) (flat_map time_of init) → AllOnGrid q init
all_grid q positive [] a = tt
all_grid q positive (Holds u ∷ more) a = (tt, all_grid q positive more a)
all_grid q positive (Absent u s ∷ more) a = (tt, all_grid q positive more a)
all_grid q positive (Value u n s ∷ more) a = (tt, all_grid q positive more a)
all_grid q positive (At t u s ∷ more) a =
    (counted q positive t (All-head (λ (t : Literal). IsOnGrid q (literal_value t)) t (flat_map time_of more) a), all_grid q positive more (All-tail (λ (t : Literal). IsOnGrid q (literal_value t)) t (flat_map time_of more) a))
all_grid q positive (AtNot t u s ∷ more) a =
    (counted q positive t (All-head (λ (t : Literal). IsOnGrid q (literal_value t)) t (flat_map time_of more) a), all_grid q positive more (All-tail (λ (t : Literal). IsOnGrid q (literal_value t)) t (flat_map time_of more) a))

given : (d : Domain) (p : tree.Problem) (q : Fraction) → CanBeTranslated d p q → Given d p q
given d p q c =
    let functions : flat_map taken_head d.functions ++ (flat_map taken_action d.actions ++ (flat_map taken_schema d.processes ++ (flat_map taken_schema d.events ++ taken_in files.Problem p.goal))) ≡ [] = right_none (flat_map taken_head d.predicates) _ c.names in
    let actions : flat_map taken_action d.actions ++ (flat_map taken_schema d.processes ++ (flat_map taken_schema d.events ++ taken_in files.Problem p.goal)) ≡ [] = right_none (flat_map taken_head d.functions) _ functions in
    let free_predicates = free_names taken_head (λ (h : Head). h.name) (λ (h : Head). taken_list files.Domain h.params) (λ h. refl) d.predicates (left_none (flat_map taken_head d.predicates) _ c.names) in
    let free_functions = free_names taken_head (λ (h : Head). h.name) (λ (h : Head). taken_list files.Domain h.params) (λ h. refl) d.functions (left_none (flat_map taken_head d.functions) _ functions) in
    let free_actions = free_names taken_action (λ (a : Schema). a.name) taken_schema (λ a. refl) d.actions (left_none (flat_map taken_action d.actions) _ actions) in
    record {
      positive = c.passes;
      typed = no-type-fault d p c.typed;
      marks = λ k. not_among (mark_name k) (mark_taken k) (λ (h : Head). h.name.name) d.predicates free_predicates;
      clock = not_among (codes "pp-clock") refl (λ (h : Head). h.name.name) d.functions free_functions;
      no_step = not_among step_name refl (λ (a : Schema). a.name.name) d.actions free_actions;
      no_fire = not_among fire_name refl (λ (a : Schema). a.name.name) d.actions free_actions;
      grid = all_grid q c.passes p.init c.grid;
    }

module _ (d : Domain) (p : tree.Problem) (q : Fraction) (c : CanBeTranslated d p q) where
  pub stepped : (calls : List CallName) → IsPlanOfTranslation d p q calls → IsSteppedPlan d p q (stripped calls)
  stepped calls h = subst (IsSteppedPlan d p q) (stripped_is calls) (plan_is_stepped d p q (given d p q c) calls h)

  pub one_of : (moves : List (Move CallName)) → IsSteppedPlan d p q moves → OneOfTranslation d p q moves
  one_of moves h =
      let r = stepped_is_of_one d p q (given d p q c) moves h in
      record {
        calls = r.calls;
        plan = r.plan;
        left = sym (stripped_is r.calls) ∙ r.left;
        one = λ other k e. r.one other k (stripped_is other ∙ e);
      }

pub translated_plans_are_stepped : TranslatedPlansAreStepped
translated_plans_are_stepped d p q calls c h = stepped d p q c calls h

pub stepped_plans_are_translated : SteppedPlansAreTranslated
stepped_plans_are_translated d p q moves c h = one_of d p q c moves h
