-- What `plan` wrote is accepted, so a check of it has an answer that is Valid; and a check has one answer.
use Rattle.std.proofs.Common.{◌≡◌, ℕ, ◌≤◌, Bool, List, ◌++◌, length, Option, Some, None, refl, sym, subst}
use Rattle.std.specs.Prelude.{IfSome, pos}
use Rattle.std.specs.Io.KnownBytes.{append_known}
use Rattle.std.proofs.lemmas.List.{append_cancel_left}
use Rattle.plus_fraction.specs.Fraction.{Fraction, whole, ◌<ℚ◌}
use Rattle.plus_io.specs.Limits.{text_limit}
use Rattle.plus_number.specs.declared.frac.Frac64.{Frac64}
use Rattle.plus_state.specs.declared.outcome.TimedPlan.{TimedPlan}
use Rattle.plus_tree.specs.declared.trees.Domain.{Domain}
use Rattle.plus_tree.specs.declared.trees.Problem.{Problem}
use Rattle.plus_validator.specs.Accepted.{IsAccepted}
use Rattle.plus_planner.specs.Places.{most_entries}
use Rattle.plus_planner.specs.declared.searching.Answer.TheVariants as answers
use Rattle.plus_plan_command.specs.Planning.Planned.{IsPlanned}
use Rattle.plus_plan_command.specs.Plan.{answer_text, Plans}
use Rattle.plus_reply.specs.Pair.Pair.{SpellsWellTyped}
use Rattle.plus_report.specs.declared.status.Status.TheVariants as s
use Rattle.laws_found.specs.Room.{HasRoom, HasFewParameters, AcceptsText}
use Rattle.laws_found.specs.Text.Written.{HasShortLines}
use Rattle.laws_found.proofs.CheckedLemmas.Steps.{NamesArePlain, FoundIsCalled, TextReadsBack}
use Rattle.laws_found.proofs.CheckedLemmas.Written.{plan_written}
use Rattle.plus_run.specs.Command.{Check, Plan, files_of}
use Rattle.plus_run.specs.Checks.{Checks, accepted}
use Rattle.plus_run.specs.Headline.{Answers, IsAnswer}
use Rattle.plus_run.specs.Laws.{AreTold, OneAnswer}
use Rattle.plus_run.proofs.AnswerLemmas.{by_text}
use Rattle.plus_run.proofs.Deciding.{is_told}
use Rattle.plus_run.proofs.OneAnswer.{settled_reply}
use Rattle.laws_answers.specs.Chained.{FewDecisionsHaveRoom, FewParametersHaveShortLines, AreSameFiles, CheckAcceptsPlan}
use Rattle.laws_answers.proofs.ExistingLemmas.{put}
use Rattle.laws_answers.proofs.Room.{few_decisions_have_room}

-- ---- the laws on what is found, as they are stated there

abbrev pub WrittenIsAccepted : Type 0
WrittenIsAccepted =
    (q : Fraction) (k tries most : ℕ) (cut : Bool) (domain problem written : List ℕ) → whole (pos 0) <ℚ q → Plans q k tries cut domain problem s.Valid written
    → HasRoom written → most_entries ≤ most
    → (d : Domain) × (p : Problem) × SpellsWellTyped domain problem d p × AcceptsText d p most written

abbrev pub FoundHasShortLines : Type 0
FoundHasShortLines =
    (domain problem : List ℕ) (d : Domain) (p : Problem) (q : Fraction) (k tries : ℕ) (cut : Bool) (plan : TimedPlan Frac64)
    → SpellsWellTyped domain problem d p → whole (pos 0) <ℚ q → IsPlanned d p q k tries cut (answers.Plan plan) → HasFewParameters d
    → HasShortLines (answer_text k (answers.Plan plan))

-- ---- the text has room

pub few_have_room : NamesArePlain → FoundIsCalled → TextReadsBack → FewDecisionsHaveRoom
few_have_room names found back q k tries cut domain problem written above few plans short =
    let w = plan_written q k tries cut domain problem written plans in
    subst (λ (x : List ℕ). length x ≤ text_limit) (sym w.written_is)
    (few_decisions_have_room domain problem w.d w.p q k tries cut w.plan names found back w.spelled above few w.planned (subst HasShortLines w.written_is short))

pub parameters_have_short_lines : FoundHasShortLines → FewParametersHaveShortLines
parameters_have_short_lines found q k tries cut domain problem written above plans few =
    let w = plan_written q k tries cut domain problem written plans in
    subst HasShortLines (sym w.written_is) (found domain problem w.d w.p q k tries cut w.plan w.spelled above w.planned (few w.d w.p w.spelled))

-- ---- a text that is told

told : (o : Option (List ℕ)) (x : List ℕ) (Q : List ℕ → Type 0) → o ≡ Some x → IfSome o Q → Q x
told None x Q e h = cc e
told (Some y) x Q e h = subst Q (let i : y ≡ x = cc e in i) h

-- ---- what `plan` wrote

taken : (before written w : List ℕ) → Some (before ++ written) ≡ append_known (Some before) w → w ≡ written
taken before written w e =
    let i : before ++ written ≡ before ++ w = cc e in
    sym (append_cancel_left before written w i)

module _ (q : Fraction) (k tries most : ℕ) (cut : Bool) (d p d' p' l domain problem before written : List ℕ) (bytes again : List ℕ → Option (List ℕ)) (same : AreSameFiles bytes again d p d' p' l domain problem written) where
  plans_of : (a b c e : ℕ) → IsAnswer (Some (Plan q k tries cut d p)) bytes (Some before) (Some (before ++ written)) a b c e s.Valid → Plans q k tries cut domain problem s.Valid written
  plans_of a b c e h =
      let r = settled_reply (Some (Plan q k tries cut d p)) bytes (Some before) (Some (before ++ written)) a b c e s.Valid
      (is_told (bytes d) domain same.domain_is, (is_told (bytes p) problem same.problem_is, tt)) h tt in
      let one = told (bytes d) domain (λ ds. IfSome (bytes p) (λ ps. Plans q k tries cut ds ps s.Valid r.written)) same.domain_is r.reply in
      let two = told (bytes p) problem (λ ps. Plans q k tries cut domain ps s.Valid r.written) same.problem_is one in
      subst (Plans q k tries cut domain problem s.Valid) (taken before written r.written r.took) two

  -- the check accepts it
  checks : (x : Domain) (y : Problem) (report : List ℕ) → SpellsWellTyped domain problem x y → IsAccepted x y most written report → Answers (Some (Check d' p' l most)) again s.Valid report
  checks x y report t h =
      put (again d') domain (λ ds. IfSome (again p') (λ ps. Checks most ds ps (again l) s.Valid report)) same.domain_again
      (put (again p') problem (λ ps. Checks most domain ps (again l) s.Valid report) same.problem_again
      (subst (λ o. Checks most domain problem o s.Valid report) (sym same.plan_is) (accepted x y t refl h)))

  all_told : AreTold again (files_of (Some (Check d' p' l most)))
  all_told = (is_told (again d') domain same.domain_again, (is_told (again p') problem same.problem_again, (is_told (again l) written same.plan_is, tt)))

pub check_accepts_plan : WrittenIsAccepted → FewDecisionsHaveRoom → OneAnswer → CheckAcceptsPlan
check_accepts_plan passes room once q k tries most cut d p d' p' l domain problem before written bytes again old new a b c e a' b' c' e' status above few same h short more g settled =
    let plans = plans_of q k tries most cut d p d' p' l domain problem before written bytes again same a b c e h in
    let x = passes q k tries most cut domain problem written above plans
    (record { within = room q k tries cut domain problem written above few plans short; lines = short }) more in
    let f = by_text (Check d' p' l most) again old (append_known old x.3.0) 0 0 0 0 s.Valid s.Valid refl tt x.3.0
    (checks q k tries most cut d p d' p' l domain problem before written bytes again same x.0 x.1 x.3.0 x.2 x.3.1) refl in
    let one = once (Some (Check d' p' l most)) again old (append_known old x.3.0) new 0 0 0 0 a' b' c' e' s.Valid status
    (all_told q k tries most cut d p d' p' l domain problem before written bytes again same) f g tt settled tt in
    sym one.0
