-- What is asked of the instances of lines, and what grounding tells of it.
use Rattle.std.proofs.Common.{◌≡◌, ℕ, zero, suc, ◌+◌, ◌<◌, ◌≤◌, Bool, true, false, List, [], ◌∷◌, ◌++◌, refl, ap, sym, subst, ◌∙◌, arith, append_assoc, append-nil, if◌then◌else◌}
use Rattle.std.specs.Prelude.{Some, All, length, slice_get, nat_lt}
use Rattle.std.proofs.lemmas.Grind.{common_steps}
use Rattle.std.proofs.lemmas.List.Elements.{All-head, All-tail}
use Rattle.plus_model.specs.Terms.{Action}
use Rattle.plus_model.specs.Plan.{Called, Instance}
use Rattle.plus_number.specs.Frac.{IsFrac64}
use Rattle.plus_tokens.specs.declared.span.Span.{Span}
use Rattle.plus_tree.specs.declared.terms.Literal.{Literal}
use Rattle.plus_tree.specs.declared.trees.Call.{Call}
use Rattle.plus_literal.specs.Value.{LiteralFits}
use Rattle.plus_expansion.specs.Unfit.{IsFirstUnfitAt}
use Rattle.plus_plan.specs.declared.forms.Line.{Line}
use Rattle.plus_plan.specs.declared.forms.Line.TheVariants as lines
use Rattle.plus_plan.specs.declared.forms.Time.{Time}
use Rattle.plus_expansion.specs.Nodes.{action_nodes}
use Rattle.plus_expansion.specs.Literals.{call_literals}
use Rattle.plus_expansion.specs.Calls.{called_of}
use Rattle.plus_ground.specs.Refusals.{IsTooLarge, HasUnfit, IsInstance}
use Rattle.plus_stretch.specs.Tests.{Test, too_many_nodes, no_number, AllPass, FirstFailing}
use Rattle.plus_timeline.proofs.Stays.{by_bool}
use Rattle.plus_validator.specs.Asking.{is_value, literal_tests, size_tests, call_tests, line_instances, all_instances, or_nothing, instances_of}
use Rattle.plus_validator.specs.Plans.{Pair, line_meant, lines_meant}
use Rattle.plus_validator.proofs.Asking.{all_pass, fails_left, fails_right, number_fails, nodes_fail, nothing_passes}

-- ---- literals

value_is : (l : Literal) → LiteralFits IsFrac64 l → is_value l ≡ true
value_is l f = let a = f.places in let b = f.value in grind (arith, common_steps)

no_value : (l : Literal) → (LiteralFits IsFrac64 l → ⊥) → is_value l ≡ true → ⊥
no_value l n e = n (record { places = grind (arith, common_steps); value = (grind (arith, common_steps), grind (arith, common_steps)) })

values_pass : (ls : List Literal) → All (LiteralFits IsFrac64) ls → AllPass IsFrac64 (literal_tests ls)
values_pass [] a = nothing_passes
values_pass (l ∷ ls) a =
    subst (λ (b : Bool). AllPass IsFrac64 ((if b then [] else no_number l.span.start l.span.«end» ∷ []) ++ literal_tests ls)) (sym (value_is l (All-head (LiteralFits IsFrac64) l ls a)))
    (values_pass ls (All-tail (LiteralFits IsFrac64) l ls a))

first_unfit : (front back : List Literal) (l : Literal) → All (LiteralFits IsFrac64) front → (LiteralFits IsFrac64 l → ⊥) → FirstFailing IsFrac64 (literal_tests (front ++ l ∷ back)) (no_number l.span.start l.span.«end»)
first_unfit [] back l a n =
    subst (λ (b : Bool). FirstFailing IsFrac64 ((if b then [] else no_number l.span.start l.span.«end» ∷ []) ++ literal_tests back) (no_number l.span.start l.span.«end»)) (sym (by_bool (is_value l) (no_value l n)))
    (number_fails l.span.start l.span.«end» (literal_tests back))
first_unfit (x ∷ front) back l a n =
    subst (λ (b : Bool). FirstFailing IsFrac64 ((if b then [] else no_number x.span.start x.span.«end» ∷ []) ++ literal_tests (front ++ l ∷ back)) (no_number l.span.start l.span.«end»)) (sym (value_is x (All-head (LiteralFits IsFrac64) x front a)))
    (first_unfit front back l (All-tail (LiteralFits IsFrac64) x front a) n)

unfit_fails : (ls : List Literal) (span : Span) → IsFirstUnfitAt IsFrac64 ls span → FirstFailing IsFrac64 (literal_tests ls) (no_number span.start span.«end»)
unfit_fails ls span u =
    subst (λ (s : Span). FirstFailing IsFrac64 (literal_tests ls) (no_number s.start s.«end»)) u.span_is
    (subst (λ (ks : List Literal). FirstFailing IsFrac64 (literal_tests ks) (no_number u.literal.span.start u.literal.span.«end»)) (sym u.first.split)
    (first_unfit u.first.front u.first.back u.literal u.first.pass u.first.fails))

-- ---- the size

large_at : (a : Action) → 1000000 < action_nodes a → nat_lt 1000000 (action_nodes a) ≡ true
large_at a h = grind (arith, common_steps)

small_at : (a : Action) → action_nodes a ≤ 1000000 → nat_lt 1000000 (action_nodes a) ≡ false
small_at a h = grind (arith, common_steps)

large_fails : (called : Called) → IsTooLarge called → FirstFailing IsFrac64 (size_tests called) (too_many_nodes 1000000)
large_fails called l =
    subst (λ (c : Called). FirstFailing IsFrac64 (size_tests c) (too_many_nodes 1000000)) (sym l.is)
    (subst (λ (b : Bool). FirstFailing IsFrac64 (if b then too_many_nodes 1000000 ∷ [] else []) (too_many_nodes 1000000)) (sym (large_at l.action l.large)) (nodes_fail 1000000 []))

small_passes : (called : Called) (a : Action) → called ≡ Instance a → action_nodes a ≤ 1000000 → AllPass IsFrac64 (size_tests called)
small_passes called a e s =
    subst (λ (c : Called). AllPass IsFrac64 (size_tests c)) (sym e)
    (subst (λ (b : Bool). AllPass IsFrac64 (if b then too_many_nodes 1000000 ∷ [] else [])) (sym (small_at a s)) nothing_passes)

-- ---- the instance that a call names

module _ (d : Pair) (c : Call) where
  pub call_too_large : IsTooLarge (called_of d.domain d.problem c.name c.args) → FirstFailing IsFrac64 (call_tests d c) (too_many_nodes 1000000)
  call_too_large l = fails_left (size_tests (called_of d.domain d.problem c.name c.args)) (literal_tests (call_literals d.domain c.name)) (too_many_nodes 1000000) (large_fails _ l)

  pub call_unfit : (span : Span) → HasUnfit IsFrac64 d.domain c.name (called_of d.domain d.problem c.name c.args) span → FirstFailing IsFrac64 (call_tests d c) (no_number span.start span.«end»)
  call_unfit span u = fails_right (size_tests (called_of d.domain d.problem c.name c.args)) (literal_tests (call_literals d.domain c.name)) (no_number span.start span.«end»)
      (small_passes _ u.action u.is u.small) (unfit_fails (call_literals d.domain c.name) span u.unfit)

  pub call_passes : (a : Action) → IsInstance IsFrac64 d.domain c.name (called_of d.domain d.problem c.name c.args) a → AllPass IsFrac64 (call_tests d c)
  call_passes a i = all_pass (size_tests (called_of d.domain d.problem c.name c.args)) (literal_tests (call_literals d.domain c.name))
      (small_passes _ a i.is i.small) (values_pass (call_literals d.domain c.name) i.literals)

-- ---- the instances of lines

instance_at : (xs : List (List Test)) (ys : List (List Test)) (i : ℕ) → i < length xs → slice_get (xs ++ ys) i ≡ slice_get xs i
instance_at [] ys i h = absurd (omega arith)
instance_at (x ∷ xs) ys zero h = refl
instance_at (x ∷ xs) ys (suc i) h = instance_at xs ys i (omega arith)

instance_last : (xs : List (List Test)) (x : List Test) (i : ℕ) → i ≡ length xs → slice_get (xs ++ x ∷ []) i ≡ Some x
instance_last [] x zero e = refl
instance_last [] x (suc i) e = absurd (omega arith)
instance_last (y ∷ xs) x zero e = absurd (omega arith)
instance_last (y ∷ xs) x (suc i) e = instance_last xs x i (omega arith)

length-both : {A : Type 0} (xs ys : List A) → length (xs ++ ys) ≡ length xs + length ys
length-both [] ys = omega arith
length-both (x ∷ xs) ys = let k = length-both xs ys in omega arith

same_one : (d : Pair) (l : Line) → length (line_instances d l) ≡ length (line_meant d l)
same_one d lines.Blank = refl
same_one d (lines.Act n t c) = refl
same_one d (lines.End n t) = refl
same_one d (lines.Step n c) = refl

pub same_length : (d : Pair) (ls : List Line) → length (all_instances d ls) ≡ length (lines_meant d ls)
same_length d [] = refl
same_length d (l ∷ ls) =
    let a = same_length d ls in
    let b = same_one d l in
    let e = length-both (line_instances d l) (all_instances d ls) in
    let f = length-both (line_meant d l) (lines_meant d ls) in
    omega arith

all_more : (d : Pair) (xs ys : List Line) → all_instances d (xs ++ ys) ≡ all_instances d xs ++ all_instances d ys
all_more d [] ys = refl
all_more d (x ∷ xs) ys = ap (λ t. line_instances d x ++ t) (all_more d xs ys) ∙ sym (append_assoc (line_instances d x) (all_instances d xs) (all_instances d ys))

-- the instances of lines stay the same whatever lines follow
pub instances_agree : (d : Pair) (ls more : List Line) (i : ℕ) → i < length (lines_meant d ls) → instances_of d ls i ≡ instances_of d (ls ++ more) i
instances_agree d ls more i h =
    let n = same_length d ls in
    ap or_nothing (sym (ap (λ (xs : List (List Test)). slice_get xs i) (all_more d ls more) ∙ instance_at (all_instances d ls) (all_instances d more) i (omega arith)))

-- the instance of the last line
pub instance_is : (d : Pair) (ls : List Line) (n : ℕ) (t : Time) (c : Call) (i : ℕ) → i ≡ length (lines_meant d ls) → instances_of d (ls ++ lines.Act n t c ∷ []) i ≡ call_tests d c
instance_is d ls n t c i e =
    let k = same_length d ls in
    ap or_nothing (ap (λ (xs : List (List Test)). slice_get xs i) (all_more d ls (lines.Act n t c ∷ [])) ∙ instance_last (all_instances d ls) (call_tests d c) i (omega arith))

-- a line that is none of the plan has no instance
pub same_instances : (d : Pair) (ls : List Line) (l : Line) → line_instances d l ≡ [] → instances_of d ls ≡ instances_of d (ls ++ l ∷ [])
same_instances d ls l e =
    let f : all_instances d ls ≡ all_instances d (ls ++ l ∷ []) =
    sym (all_more d ls (l ∷ []) ∙ ap (λ (xs : List (List Test)). all_instances d ls ++ (xs ++ [])) e ∙ append-nil (all_instances d ls)) in
    ap (λ (xs : List (List Test)). λ (i : ℕ). or_nothing (slice_get xs i)) f
