-- How long the text of a plan of few decisions is.
use Rattle.std.proofs.Common.{◌≡◌, ◌≤◌, ◌+◌, ◌*◌, ℕ, suc, Bool, true, false, cond, List, [], ◌∷◌, length, refl, sym, ap, ◌∙◌, subst, arith, All, Option, Some, None, map}
use Rattle.std.specs.Prelude.{◌==◌, pos, slice_get, Result, Ok}
use Rattle.std.proofs.lemmas.List.Elements.{All-head, All-tail}
use Rattle.plus_fraction.specs.Fraction.{Fraction, whole, ◌<ℚ◌}
use Rattle.plus_io.specs.Limits.{text_limit}
use Rattle.plus_model.specs.Terms.{Action}
use Rattle.plus_number.specs.declared.frac.Frac64.{Frac64}
use Rattle.plus_state.specs.declared.outcome.TimedPlan.{TimedPlan}
use Rattle.plus_tree.specs.declared.trees.Domain.{Domain}
use Rattle.plus_tree.specs.declared.trees.Problem.{Problem}
use Rattle.plus_plan.specs.declared.forms.Line.{Line}
use Rattle.plus_plan.specs.declared.forms.PlanForm.TheVariants.{Timed}
use Rattle.plus_plan.specs.declared.faults.PlanFault.{PlanFault}
use Rattle.plus_plan.specs.Cut.{with_front, lines_of}
use Rattle.plus_plan.proofs.Cuttings.{length-numbered}
use Rattle.plus_planner.specs.Grid.{ticks, after_decision, line_for, lines_from, timed}
use Rattle.plus_planner.specs.declared.searching.Answer.TheVariants.{Plan}
use Rattle.plus_plan_command.specs.Planning.Planned.{task_of, IsPlanned}
use Rattle.plus_plan_command.specs.Plan.{answer_text}
use Rattle.plus_reply.specs.Pair.Pair.{depth_limit, SpellsWellTyped}
use Rattle.plus_validator.specs.Plans.{Pair, pair, lines_meant}
use Rattle.laws_found.specs.Text.Written.{TimedCall, HasShortLines, Say, written_plan}
use Rattle.laws_found.proofs.CheckedLemmas.Steps.{NamesArePlain, FoundIsCalled, TextReadsBack}

-- ---- the bytes of short lines

-- those of lines, each with its LF
abbrev size : List (List ℕ) → ℕ
size [] = 0
size (l ∷ ls) = (length l + 1) + size ls

front_size : (b n : ℕ) (ls : List (List ℕ)) → n ≤ size ls → suc n ≤ size (with_front b ls)
front_size b n [] h =
    let e : size (with_front b []) ≡ 2 = refl in
    let f : size [] ≡ 0 = refl in
    omega (arith, h, e, f)
front_size b n (l ∷ ls) h =
    let e : size (with_front b (l ∷ ls)) ≡ (suc (length l) + 1) + size ls = refl in
    let f : size (l ∷ ls) ≡ (length l + 1) + size ls = refl in
    omega (arith, h, e, f)

covers : (text : List ℕ) → length text ≤ size (lines_of text)
covers [] = let e : size [] ≡ 0 = refl in omega (arith, e)
covers (b ∷ bs) = by (b == 10) (covers bs)
  where
    by : (c : Bool) → length bs ≤ size (lines_of bs) → suc (length bs) ≤ size (cond c ([] ∷ lines_of bs) (with_front b (lines_of bs)))
    by true h = let e : size ([] ∷ lines_of bs) ≡ 1 + size (lines_of bs) = refl in omega (arith, h, e)
    by false h = front_size b (length bs) (lines_of bs) h

abbrev IsShort : List ℕ → Type 0
IsShort l = length l ≤ 4096

short_size : (ls : List (List ℕ)) → All IsShort ls → size ls ≤ length ls * 4097
short_size [] h = let e : size [] ≡ 0 = refl in omega (arith, e)
short_size (l ∷ ls) h =
    let one : length l ≤ 4096 = All-head IsShort l ls h in
    let more = short_size ls (All-tail IsShort l ls h) in
    let e : size (l ∷ ls) ≡ (length l + 1) + size ls = refl in
    omega (arith, one, more, e)

few_lines_have_room : (text : List ℕ) → HasShortLines text → length (lines_of text) ≤ 65 → length text ≤ text_limit
few_lines_have_room text h few = let a = covers text in let b = short_size (lines_of text) h in omega (arith, a, b, few)

-- ---- how many lines there are

oks_length : (ls : List Line) → length (map (λ (l : Line). let r : Result Line PlanFault = Ok l in r) ls) ≡ length ls
oks_length [] = refl
oks_length (l ∷ ls) = ap suc (oks_length ls)

-- each line that says a call, or the end, is one of the plan
said_length : (d : Pair) (n : ℕ) (calls : List TimedCall) (last : Fraction) (ls : List Line) → Say n calls last ls → length ls ≡ length (lines_meant d ls)
said_length d n [] last ls h = subst (λ (xs : List Line). length xs ≡ length (lines_meant d xs)) (sym h.2) refl
said_length d n (c ∷ cs) last ls h =
    subst (λ (xs : List Line). length xs ≡ length (lines_meant d xs)) (sym h.3) (ap suc (said_length d (n + 1) cs last h.1 h.4))

-- a decision has one line at most
lines_few : (actions : List Action) (q : Fraction) (n : ℕ) (ds : List ℕ) → length (lines_from actions q n ds) ≤ suc (length ds)
lines_few actions q n [] = omega arith
lines_few actions q n (d ∷ ds) = by (slice_get actions d) (lines_few actions q (after_decision (slice_get actions d) n) ds)
  where
    by : (o : Option Action) → length (lines_from actions q (after_decision (slice_get actions d) n) ds) ≤ suc (length ds)
        → length (line_for o (ticks q n) (lines_from actions q (after_decision (slice_get actions d) n) ds)) ≤ suc (suc (length ds))
    by (Some action) h = omega (arith, h)
    by None h = omega (arith, h)

module _ (domain problem : List ℕ) (d : Domain) (p : Problem) (q : Fraction) (k tries : ℕ) (cut : Bool) (plan : TimedPlan Frac64) where
  pub few_decisions_have_room :
      NamesArePlain → FoundIsCalled → TextReadsBack → SpellsWellTyped domain problem d p → whole (pos 0) <ℚ q → k ≤ 64
      → IsPlanned d p q k tries cut (Plan plan) → HasShortLines (answer_text k (Plan plan)) → length (answer_text k (Plan plan)) ≤ text_limit
  few_decisions_have_room names found back t above few planned short =
      let is = planned.answers in
      let task = task_of d p q in
      let plain = names depth_limit domain problem d p t.spelled.domain_spelled t.spelled.problem_spelled in
      let f = found d p q is.decisions plan plain planned.inside.actions above is.is.goal.ends.plays.times is.timed in
      let text = written_plan f.0 f.1 in
      let r = back f.0 f.1 f.2.plain f.2.ends (subst HasShortLines f.2.text short) in
      let read : length (lines_of text) ≡ length r.0 = sym (length-numbered Timed 1 (lines_of text)) ∙ ap length r.1 ∙ oks_length r.0 in
      let meant : length r.0 ≡ length (timed task is.decisions).lines =
      said_length (pair d p) 1 f.0 f.1 r.0 r.2 ∙ ap length (f.2.meant r.0 r.2) in
      let line : length (timed task is.decisions).lines ≤ suc (length is.decisions) = lines_few task.actions task.interval 0 is.decisions in
      let lines : length (lines_of text) ≤ 65 = (let s = is.is.short in omega (arith, read, meant, line, s, few)) in
      subst (λ (x : List ℕ). length x ≤ text_limit) (sym f.2.text) (few_lines_have_room text (subst HasShortLines f.2.text short) lines)
