-- The plans over the switch: one is accepted, one is refused at a line, and one is cut off.
use Rattle.std.proofs.Common.{◌≡◌, true, false, List, [], ◌∷◌, ◌++◌, refl, inl, inr, arith, pos, map, Ok, codes, subst, sym, ap, ◌∙◌}
use Rattle.std.proofs.lemmas.List.Elements.{All-nil, All-cons}
use Rattle.std.specs.Prelude.{◌≢◌}
use Rattle.std.specs.Fmt.{digits}
use Rattle.plus_fraction.specs.Gcd.{gcd, gcd_within}
use Rattle.plus_fraction.specs.Fraction.{over, compared}
use Rattle.plus_model.specs.Terms.{Problem}
use Rattle.plus_model.specs.Breach.{UnknownAction, Breaks}
use Rattle.plus_model.specs.Joint.{joint}
use Rattle.plus_model.specs.Firing.{firing, first_shared, effects_of}
use Rattle.plus_model.specs.History.{Part, Act}
use Rattle.plus_model.specs.Plan.{Plan}
use Rattle.plus_model.specs.Trajectory.{literals, first_part, view_of, IsWorked, Prefix, Trajectory}
use Rattle.plus_model.proofs.Final.{breach_is_final}
use Rattle.plus_model.proofs.Longest.{breach_is_longest, worked_is_longest}
use Rattle.plus_model.proofs.Paths.{one_trajectory}
use Rattle.plus_number.specs.Frac.{fraction_of, IsFrac64}
use Rattle.plus_tokens.specs.First.{word_at, number_at, token_at, first_token}
use Rattle.plus_tokens.specs.Items.{items_from}
use Rattle.plus_tokens.specs.Numeral.{numeral_of}
use Rattle.plus_types.specs.Types.{is_above_within, is_above, is_under}
use Rattle.plus_literal.specs.Value.{LiteralFits}
use Rattle.plus_expansion.specs.Counting.{IsGroundable}
use Rattle.plus_expansion.specs.Expansion.{expanded, labels_meant}
use Rattle.plus_plan.specs.declared.forms.PlanForm.TheVariants.{Timed}
use Rattle.plus_plan.specs.Grammar.{colon_of, divisor_of, quotient_of, time_of, name_of, args_of, call_of, end_of, number_of, close_square_of, duration_of, timed_line, untimed_line}
use Rattle.plus_plan.specs.Lines.{read_line, plan_lines}
use Rattle.plus_state.specs.Tested.{AllPass, FirstFailing}
use Rattle.plus_state.specs.declared.outcome.Breach.TheVariants as breaches
use Rattle.plus_state.specs.Tests.{tests_of}
use Rattle.plus_state.specs.Steps.{effect_steps, end_steps, joint_steps}
use Rattle.plus_stretch.specs.Tests.{Passes, breach as broken_by}
use Rattle.plus_timeline.proofs.Played.{tail_is}
use Rattle.plus_timeline.specs.Asked.{fire_tests, round_tests, act_tests, goal_tests, closing_tests, advance_tests, asked}
use Rattle.plus_report.specs.Text.{bottom_text, fraction_text, lines_below, mark_line, value_line, new_value_line, fluents_text, lost_text, changes_text, labels_text, entry_text, literals_text, round_text, act_text, run_text}
use Rattle.plus_report.specs.Refusals.{early_text}
use Rattle.plus_report.specs.declared.refusals.Early.TheVariants as early
use Rattle.plus_report.specs.declared.refusals.Text.TheVariants as texts
use Rattle.plus_report.specs.declared.verdicts.Verdict.TheVariants.{Invalid, Other}
use Rattle.plus_report.specs.Verdicts.{line_text, breach_text, verdict_text}
use Rattle.plus_report.specs.Report.{literals_part, report_from, report_of}
use Rattle.plus_validator.specs.Plans.{pair, plan_of, reading_of, HasValue}
use Rattle.plus_validator.specs.Asking.{instances_of, IsClear, NoneFails, Fails}
use Rattle.plus_validator.proofs.FiresLemmas.{fires_exactly}
use Rattle.plus_validator.proofs.TextStops.{goes_on}
use Rattle.rows.specs.Accepted.Worked.{switch, task, go_line, on, go_history, go_text, go_report, AcceptedRow, stop_text, stop_line, stop_history, RefusedRow, CutOffRow}

abbrev go_plan : Plan
go_plan = plan_of (pair switch task) (go_line ∷ []) true

groundable : IsGroundable IsFrac64 switch task
unfolding is_above_within is_above is_under
groundable = record { counts = refl; literals = All-nil (λ l. LiteralFits IsFrac64 l.1) }

go_read : plan_lines Timed go_text ≡ map Ok (go_line ∷ [])
unfolding colon_of divisor_of quotient_of time_of name_of args_of call_of end_of number_of close_square_of duration_of timed_line untimed_line read_line word_at number_at token_at first_token items_from numeral_of
go_read = refl

go_happens : Trajectory (expanded switch task) go_plan go_history
unfolding firing literals first_shared effects_of joint over gcd gcd_within compared is_above_within is_above is_under
go_happens = record {
  prefix = record {
    ordered = tt;
    rest = _;
    begins = refl;
    follow = (
      inr refl,
      record { action = _; line = refl; due = refl; acts = record { still = refl; may = refl; effect = refl } },
      tt,
    );
  };
  closed = refl;
  worked = record { acted = tt; still = refl; moment = refl; over = refl };
  goal = refl;
}

go_value : HasValue go_line
unfolding over gcd gcd_within
go_value = record { fits = λ t e. subst (λ x. IsFrac64 (over (pos x.top) x.bottom)) e (omega arith, omega arith) }

-- what is asked before the action, and at the end
asked_before : NoneFails (expanded switch task) go_plan 10000 (instances_of (pair switch task) (go_line ∷ [])) (first_part (expanded switch task) ∷ [])
unfolding AllPass tests_of joint_steps effect_steps end_steps fire_tests round_tests act_tests goal_tests closing_tests advance_tests asked firing literals first_shared effects_of joint over gcd gcd_within compared is_above_within is_above is_under
asked_before = tt

asked_last : NoneFails (expanded switch task) go_plan 10000 (instances_of (pair switch task) (go_line ∷ [])) go_history
unfolding AllPass tests_of joint_steps effect_steps end_steps fire_tests round_tests act_tests goal_tests closing_tests advance_tests asked firing literals first_shared effects_of joint over gcd gcd_within compared is_above_within is_above is_under
asked_last = tt

none_behind : (xs : List Part) (part : Part) (rest : List Part) → [] ≡ xs ++ part ∷ rest → ⊥
none_behind [] part rest e = cc e
none_behind (x ∷ xs) part rest e = cc e

first_alone : (xs : List Part) (a part : Part) (rest : List Part) → a ∷ [] ≡ xs ++ part ∷ rest → xs ≡ []
first_alone [] a part rest e = refl
first_alone (x ∷ xs) a part rest e =
    let f : a ∷ [] ≡ x ∷ (xs ++ part ∷ rest) = e in
    let g : [] ≡ xs ++ part ∷ rest = cc f in
    absurd (none_behind xs part rest g)

go_clear : IsClear (expanded switch task) go_plan 10000 (instances_of (pair switch task) (go_line ∷ [])) go_history
go_clear g part rest p e =
    let P = expanded switch task in
    let k : go_history ≡ first_part P ∷ (p.rest ++ part ∷ rest) = e ∙ ap (λ (xs : List Part). xs ++ part ∷ rest) p.begins in
    let n : p.rest ≡ [] = first_alone p.rest (Act 0 on) part rest (tail_is _ _ (Act 0 on ∷ []) (p.rest ++ part ∷ rest) k) in
    subst (NoneFails P go_plan 10000 (instances_of (pair switch task) (go_line ∷ []))) (sym (p.begins ∙ ap (λ (xs : List Part). first_part P ∷ xs) n)) asked_before

go_written : go_report ≡ report_of (labels_meant switch task) (expanded switch task) go_plan go_history ++ codes "valid\n"
unfolding digits gcd gcd_within over compared bottom_text fraction_text lines_below mark_line value_line new_value_line fluents_text lost_text changes_text labels_text entry_text literals_text round_text act_text run_text literals_part report_from report_of is_above_within is_above is_under
go_written = refl

pub accepted_row : AcceptedRow
accepted_row = record {
  groundable = groundable;
  within = omega arith;
  lines = go_line ∷ [];
  read = go_read;
  history = go_history;
  happens = go_happens;
  only = λ other t. one_trajectory (expanded switch task) go_plan other go_history t go_happens;
  fires = fires_exactly (expanded switch task) go_plan go_history go_happens;
  few = omega arith;
  times = All-cons HasValue go_line [] go_value (All-nil HasValue);
  clear = go_clear;
  passed = asked_last;
  written = go_written;
}

-- ---- a refusal

abbrev P : Problem
P = expanded switch task

abbrev stop_plan : Plan
stop_plan = plan_of (pair switch task) (stop_line ∷ []) false

abbrev no_plan : Plan
no_plan = plan_of (pair switch task) [] false

stop_read : plan_lines Timed stop_text ≡ map Ok (stop_line ∷ [])
unfolding colon_of divisor_of quotient_of time_of name_of args_of call_of end_of number_of close_square_of duration_of timed_line untimed_line read_line word_at number_at token_at first_token items_from numeral_of
stop_read = refl

stop_prefix : Prefix P stop_plan stop_history
unfolding literals is_above_within is_above is_under
stop_prefix = record { ordered = tt; rest = []; begins = refl; follow = tt }

none_prefix : Prefix P no_plan stop_history
unfolding literals is_above_within is_above is_under
none_prefix = record { ordered = tt; rest = []; begins = refl; follow = tt }

stop_breaks : Breaks P stop_plan stop_history (UnknownAction 0 (codes "stop"))
unfolding firing literals over gcd gcd_within is_above_within is_above is_under
stop_breaks = record {
  prefix = stop_prefix;
  breach = record {
    begun = inl (λ n. cc n);
    stands = (refl, record { present = record { moment = refl; still = refl }; due = refl });
  };
}

stop_fails : Fails P stop_plan 10000 (instances_of (pair switch task) (stop_line ∷ [])) stop_history (broken_by (UnknownAction 0 (codes "stop")))
unfolding FirstFailing Passes tests_of joint_steps effect_steps end_steps fire_tests round_tests act_tests goal_tests closing_tests advance_tests asked firing literals first_shared effects_of joint over gcd gcd_within compared is_above_within is_above is_under
stop_fails = inl (λ x. x, refl)

stop_clear : IsClear P stop_plan 10000 (instances_of (pair switch task) (stop_line ∷ [])) stop_history
stop_clear g part rest p e =
    let k : stop_history ≡ first_part P ∷ (p.rest ++ part ∷ rest) = e ∙ ap (λ (xs : List Part). xs ++ part ∷ rest) p.begins in
    absurd (none_behind p.rest part rest (tail_is _ _ [] (p.rest ++ part ∷ rest) k))

stop_value : HasValue stop_line
unfolding over gcd gcd_within
stop_value = record { fits = λ t e. subst (λ x. IsFrac64 (over (pos x.top) x.bottom)) e (omega arith, omega arith) }

stop_written : codes "at 0\ninvalid: line 1: unknown action stop\n" ≡ report_of (labels_meant switch task) P stop_plan stop_history ++ verdict_text fraction_of (labels_meant switch task) P (Invalid (breaches.UnknownAction 1 (codes "stop")))
unfolding digits gcd gcd_within over compared bottom_text fraction_text lines_below mark_line value_line new_value_line fluents_text lost_text changes_text labels_text entry_text literals_text round_text act_text run_text literals_part report_from report_of line_text breach_text is_above_within is_above is_under
stop_written = refl

pub refused_row : RefusedRow
refused_row = record {
  groundable = groundable;
  whole = stop_text;
  piece = [];
  cut = refl;
  verdict = Invalid (breaches.UnknownAction 1 (codes "stop"));
  outcome_is = refl;
  refusal = record {
    before = [];
    rest = Ok stop_line ∷ [];
    read = stop_read;
    times = All-nil HasValue;
    reading = reading_of (stop_line ∷ []) false;
    history = stop_history;
    prefix = stop_prefix;
    few = omega arith;
    clear = stop_clear;
    cause = inr (record {
      reads = refl;
      begun = inl (λ n. cc n);
      value = stop_value;
      worked = record { front = stop_history; prefix = none_prefix; waits = inl refl; begins = record { rest = []; is = refl } };
      stands = record { breaks = stop_breaks; first = stop_fails };
      names = refl;
    });
    furthest = λ other p c. (breach_is_longest P stop_plan stop_history _ stop_breaks).longest other p;
    longest = λ l. breach_is_longest P stop_plan stop_history _ stop_breaks;
    final = λ more closed h t. breach_is_final P stop_plan stop_history _ stop_breaks (λ e. cc e) (plan_of (pair switch task) (stop_line ∷ more) closed) h
        (goes_on (pair switch task) (stop_line ∷ []) more false closed) t;
  };
  written = stop_written;
}

-- ---- a text that is cut off

abbrev open_plan : Plan
open_plan = plan_of (pair switch task) (go_line ∷ []) false

open_prefix : Prefix P open_plan go_history
unfolding firing literals first_shared effects_of joint over gcd gcd_within compared is_above_within is_above is_under
open_prefix = record {
  ordered = tt;
  rest = _;
  begins = refl;
  follow = (
    inl (λ n. cc n),
    record { action = _; line = refl; due = refl; acts = record { still = refl; may = refl; effect = refl } },
    tt,
  );
}

open_worked : IsWorked P open_plan (view_of P go_history)
unfolding firing literals over gcd gcd_within compared is_above_within is_above is_under
open_worked = record { acted = tt; still = refl; moment = refl; over = refl }

open_before : NoneFails P open_plan 10000 (instances_of (pair switch task) (go_line ∷ [])) (first_part P ∷ [])
unfolding AllPass tests_of joint_steps effect_steps end_steps fire_tests round_tests act_tests goal_tests closing_tests advance_tests asked firing literals first_shared effects_of joint over gcd gcd_within compared is_above_within is_above is_under
open_before = tt

open_last : NoneFails P open_plan 10000 (instances_of (pair switch task) (go_line ∷ [])) go_history
unfolding AllPass tests_of joint_steps effect_steps end_steps fire_tests round_tests act_tests goal_tests closing_tests advance_tests asked firing literals first_shared effects_of joint over gcd gcd_within compared is_above_within is_above is_under
open_last = tt

open_clear : IsClear P open_plan 10000 (instances_of (pair switch task) (go_line ∷ [])) go_history
open_clear g part rest p e =
    let k : go_history ≡ first_part P ∷ (p.rest ++ part ∷ rest) = e ∙ ap (λ (xs : List Part). xs ++ part ∷ rest) p.begins in
    let n : p.rest ≡ [] = first_alone p.rest (Act 0 on) part rest (tail_is _ _ (Act 0 on ∷ []) (p.rest ++ part ∷ rest) k) in
    subst (NoneFails P open_plan 10000 (instances_of (pair switch task) (go_line ∷ []))) (sym (p.begins ∙ ap (λ (xs : List Part). first_part P ∷ xs) n)) open_before

cut_written : codes "at 0\n  act (go)\n    + (on)\nbeyond: plan text over 1048576 bytes\n" ≡ report_of (labels_meant switch task) P open_plan go_history ++ verdict_text fraction_of (labels_meant switch task) P (Other (early.TooLong texts.Plan))
unfolding digits gcd gcd_within over compared bottom_text fraction_text lines_below mark_line value_line new_value_line fluents_text lost_text changes_text labels_text entry_text literals_text round_text act_text run_text literals_part report_from report_of early_text is_above_within is_above is_under
cut_written = refl

pub cut_off_row : CutOffRow
cut_off_row = record {
  groundable = groundable;
  whole = go_text;
  piece = codes "0";
  cut = record { is = refl; in_one_line = All-cons (λ b. b ≢ 10) 48 [] (λ e. omega (arith, e)) (All-nil (λ b. b ≢ 10)); at_line = inr (codes "0: (go)", refl) };
  verdict = Other (early.TooLong texts.Plan);
  outcome_is = refl;
  refusal = record {
    before = go_line ∷ [];
    rest = [];
    read = go_read;
    times = All-cons HasValue go_line [] go_value (All-nil HasValue);
    reading = reading_of (go_line ∷ []) false;
    history = go_history;
    prefix = open_prefix;
    few = omega arith;
    clear = open_clear;
    cause = record { reads = refl; waits = inr (record { worked = open_worked; passed = open_last }); is = refl };
    furthest = λ other p c. (worked_is_longest P open_plan go_history open_prefix open_worked).longest other p;
    longest = λ l. worked_is_longest P open_plan go_history open_prefix open_worked;
    final = tt;
  };
  written = cut_written;
}
