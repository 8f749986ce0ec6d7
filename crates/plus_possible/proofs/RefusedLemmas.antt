-- An action that can never be done is refused by its condition, wherever it would be tried.
use Rattle.std.proofs.Common.{◌≡◌, ◌⊎◌, inl, inr, ℕ, zero, suc, ◌≤◌, Bool, true, false, ◌||◌, List, [], ◌∷◌, ◌++◌, length, refl, ap, ap₂, sym, subst, ◌∙◌, arith, pos}
use Rattle.std.specs.Prelude.{Option, Some, None, IfSome, slice_get, if◌then◌else◌}
use Rattle.std.proofs.lemmas.Bool.{and_cases}
use Rattle.plus_fraction.specs.Fraction.{Fraction, whole}
use Rattle.plus_model.specs.Terms.{Condition, Always, Never, Both, Either, Atom, Compare, Action, State, Problem}
use Rattle.plus_model.specs.Value.{signed, atom_of}
use Rattle.plus_model.specs.Live.{live, live_both, live_either}
use Rattle.plus_model.specs.Plan.{Instance, Line, ActLine, EndLine, Plan}
use Rattle.plus_model.specs.History.{Part, View, view_after, view_from}
use Rattle.plus_model.specs.Trajectory.{next_line, time_or, least, until, Follow, IsEndOrNone, first_view, view_of, Prefix}
use Rattle.plus_model.specs.Breach as model
use Rattle.plus_model.specs.Breach.{IsPresent}
use Rattle.plus_model.proofs.Paths.{view_is}
use Rattle.plus_state.specs.Tests.{verdict, decided}
use Rattle.plus_state.proofs.Testing.{pass_left, fail_right}
use Rattle.plus_state.proofs.TestsLemmas.{decided_asks, decided_holds}
use Rattle.plus_stretch.specs.Tests.{breach, Passes, AllPass, FirstFailing}
use Rattle.plus_timeline.specs.Asked.{act_tests, advance_tests}
use Rattle.plus_timeline.specs.Played.{entries_of}
use Rattle.plus_timeline.proofs.Acted.{condition_fails}
use Rattle.plus_timeline.proofs.AskedHere.{asked_there}
use Rattle.plus_planner.specs.Grid.{Task, ticks, line_for, after_decision, lines_from, acts_from, timed, AllTimes, asked_in, Plays}
use Rattle.plus_planner.specs.Laws.{ending_at}
use Rattle.plus_planner.specs.Standing.{FailsAt, IsNoLimit}
use Rattle.plus_planner.proofs.Waiting.{at_more, acted_next}
use Rattle.plus_planner.proofs.Ready.{ends_with, acts_next, can_act}
use Rattle.plus_planner.proofs.Walks.{now_of, acts_of, line_end, broken_ends}
use Rattle.plus_never.specs.Adds.{some_adds, action_adds, literal_sets, event_adds, world_adds, something_adds, line_adds}
use Rattle.plus_never.specs.Laws.{IsNeverAdded}
use Rattle.plus_never.proofs.Atoms.{or_left, or_right, literals_add}
use Rattle.plus_never.proofs.Stays.{all_parts}
use Rattle.plus_possible.specs.Possible.{may_be_true, may_hold, possible}
use Rattle.plus_possible.specs.Laws.{NeverDone}

-- ---- a condition that may not hold does not hold, and asks nothing

both_never : (c : Condition) → live_both c Never ≡ Never
both_never Never = refl
both_never c = refl

module _ (may : ℕ → Bool) (s : State) (false_there : (a : ℕ) → may a ≡ false → atom_of s a ≡ false) where
  never_live : (c : Condition) → may_hold may c ≡ false → live c s ≡ Never
  never_live Always e = absurd (let f : true ≡ false = e in cc f)
  never_live Never e = refl
  never_live (Both c d) e = by (and_cases (may_hold may c) (may_hold may d) e) (λ i. never_live c i) (λ i. never_live d i)
    where
      by : (may_hold may c ≡ false) ⊎ (may_hold may d ≡ false) → (may_hold may c ≡ false → live c s ≡ Never) → (may_hold may d ≡ false → live d s ≡ Never) → live_both (live c s) (live d s) ≡ Never
      by (inl i) first second = ap (λ (x : Condition). live_both x (live d s)) (first i)
      by (inr i) first second = ap (live_both (live c s)) (second i) ∙ both_never (live c s)
  never_live (Either c d) e =
      ap₂ live_either (never_live c (or_left (may_hold may c) (may_hold may d) e)) (never_live d (or_right (may_hold may c) (may_hold may d) e))
  never_live (Atom a true) e = ap (λ (b : Bool). if signed true b then Always else Never) (false_there a e)
  never_live (Atom a false) e = absurd (let f : true ≡ false = e in cc f)
  never_live (Compare test left right positive) e = absurd (let f : true ≡ false = e in cc f)

  never_decided : (c : Condition) → may_hold may c ≡ false → Some false ≡ decided c s
  unfolding decided
  never_decided c e = sym (ap verdict (never_live c e))

-- ---- what is false at the beginning and never added is false wherever decisions lead

adds_none : (a : ℕ) (xs : List Action) (k : ℕ) → action_adds a xs ≡ false → IfSome (slice_get xs k) (λ x. some_adds a x.effects ≡ false)
adds_none a [] k e = tt
adds_none a (x ∷ xs) zero e = or_left (some_adds a x.effects) (action_adds a xs) e
adds_none a (x ∷ xs) (suc k) e = adds_none a xs k (or_right (some_adds a x.effects) (action_adds a xs) e)

no_line_adds : (task : Task) (a n : ℕ) (ds : List ℕ) → action_adds a task.actions ≡ false → line_adds a (lines_from task.actions task.interval n ds) ≡ false
no_line_adds task a n [] e = refl
no_line_adds task a n (d ∷ ds) e = go (slice_get task.actions d) (adds_none a task.actions d e) (λ m. no_line_adds task a m ds e)
  where
    or_both : (b c : Bool) → b ≡ false → c ≡ false → (b || c) ≡ false
    or_both true c e f = cc
    or_both false c e f = f

    go : (o : Option Action) → IfSome o (λ x. some_adds a x.effects ≡ false) → ((m : ℕ) → line_adds a (lines_from task.actions task.interval m ds) ≡ false)
        → line_adds a (line_for o (ticks task.interval n) (lines_from task.actions task.interval (after_decision o n) ds)) ≡ false
    go (Some x) i rest = or_both (some_adds a x.effects) _ i (rest n)
    go None i rest = rest (suc n)

-- ---- all actions of a list that was played are done

-- each of these lines is an action's
abbrev AreActs : List Line → Type 0
AreActs [] = Unit {0}
AreActs (ActLine t call ∷ xs) = AreActs xs
AreActs (EndLine t ∷ xs) = ⊥

are_acts : (actions : List Action) (q : Fraction) (n : ℕ) (ds : List ℕ) → AreActs (acts_from actions q n ds)
are_acts actions q n [] = tt
are_acts actions q n (d ∷ ds) = go (slice_get actions d) (λ m. are_acts actions q m ds)
  where
    go : (o : Option Action) → ((m : ℕ) → AreActs (acts_from actions q m ds)) → AreActs (line_for o (ticks q n) (acts_from actions q (after_decision o n) ds))
    go (Some x) rest = rest n
    go None rest = rest (suc n)

end_after : (xs : List Line) (t : Fraction) (k : ℕ) → AreActs xs → k ≤ length xs → IsEndOrNone (slice_get (xs ++ EndLine t ∷ []) k) → k ≡ length xs
end_after [] t k a h e = omega arith
end_after (ActLine u c ∷ xs) t zero a h e = absurd e
end_after (ActLine u c ∷ xs) t (suc k) a h e = ap suc (end_after xs t k a (less k (length xs) h) e)
  where
    less : (k n : ℕ) → suc k ≤ suc n → k ≤ n
    less k n h = omega arith
end_after (EndLine u ∷ xs) t k a h e = absurd a

acted_along : (P : Problem) (xs : List Line) (t : Fraction) (v : View) (ps : List Part) → v.acted ≤ length xs → Follow P (ending_at xs t) v ps → (view_from v ps).acted ≤ length xs
acted_along P xs t v [] h f = h
acted_along P xs t v (q ∷ ps) h f = acted_along P xs t (view_after v q) ps (acted_next P xs t v v.running q h f.1) f.2

-- an action that comes next is due at the time of the end before
times_due : (fits : Fraction → Type 0) (xs : List Line) (t : Fraction) (action : Action) → AllTimes fits (xs ++ EndLine t ∷ []) → AllTimes fits (xs ++ ActLine t (Instance action) ∷ EndLine t ∷ [])
times_due fits [] t action h = (h.0, (h.0, tt))
times_due fits (x ∷ xs) t action h = (h.0, times_due fits xs t action h.1)

module _ (fits : Fraction → Type 0) (task : Task) (ds : List ℕ) (h : List Part) (p : Plays fits task ds h) where
  abbrev pub here : View
  here = view_of task.problem h

  pub all_acted : here.acted ≡ length (acts_of task ds)
  all_acted =
      let x = subst (λ (L : Plan). Prefix task.problem L h) (ends_with task ds) p.prefix in
      end_after (acts_of task ds) (now_of task ds) here.acted (are_acts task.actions task.interval 0 ds)
      (subst (λ (v : View). v.acted ≤ length (acts_of task ds)) (sym (view_is task.problem h x.rest x.begins))
      (acted_along task.problem (acts_of task ds) (now_of task ds) (first_view task.problem) x.rest (omega arith) x.follow))
      (subst (λ (L : Plan). IsEndOrNone (next_line L here)) (ends_with task ds) p.worked.acted)

  false_here : (a : ℕ) → may_be_true task.problem task.actions a ≡ false → atom_of here.state a ≡ false
  false_here a e =
      let P = task.problem in
      let later : something_adds a P task.actions ≡ false = or_right (atom_of P.initial a) (something_adds a P task.actions) e in
      let world : world_adds a P ≡ false = or_left (world_adds a P) (action_adds a task.actions) later in
      let never : IsNeverAdded P (timed task ds) a = record {
        world = world;
        lines = no_line_adds task a 0 ds (or_right (world_adds a P) (action_adds a task.actions) later);
      } in
      subst (λ (v : View). atom_of v.state a ≡ false) (sym (view_is P h p.prefix.rest p.prefix.begins))
      (all_parts P (timed task ds) a (first_view P) p.prefix.rest never p.prefix.follow
      (literals_add a P (whole (pos 0)) P.initial (or_right (event_adds a P.events) (literal_sets a P.timed) world)
      (or_left (atom_of P.initial a) (something_adds a P task.actions) e)))

  present : IsPresent task.problem here
  present = record { moment = p.worked.moment; still = p.worked.still }

  module _ (k : ℕ) (action : Action) (a : slice_get task.actions k ≡ Some action) where
    next_is : next_line (timed task (ds ++ k ∷ [])) here ≡ Some (ActLine (now_of task ds) (Instance action))
    next_is =
        let x = ActLine (now_of task ds) (Instance action) in
        let more = EndLine (now_of task ds) ∷ [] in
        subst (λ (L : Plan). next_line L here ≡ Some x) (sym (acts_next task ds k action a))
        (subst (λ (i : ℕ). slice_get (acts_of task ds ++ x ∷ more) i ≡ Some x) (sym all_acted) (at_more (acts_of task ds) x more))

    until_same : until task.problem (timed task ds) here ≡ until task.problem (timed task (ds ++ k ∷ [])) here
    until_same =
        ap (λ (o : Option Line). least here.time (time_or o here.time) task.problem.timed) (line_end task ds here all_acted)
        ∙ sym (ap (λ (o : Option Line). least here.time (time_or o here.time) task.problem.timed) next_is)

    advance_pass : AllPass fits (advance_tests task.problem task.most (entries_of h) (until task.problem (timed task (ds ++ k ∷ [])) here) here)
    advance_pass =
        subst (λ (u : Fraction). AllPass fits (advance_tests task.problem task.most (entries_of h) u here)) until_same
        (pass_left (Passes fits) (advance_tests task.problem task.most (entries_of h) (until task.problem (timed task ds) here) here) []
        (subst (AllPass fits)
        (asked_there task.problem (timed task ds) task.most (λ i. []) (entries_of h) here (Some (EndLine (now_of task ds))) (line_end task ds here all_acted) present p.worked.over)
        p.passes))

    act_asks : asked_in task.problem (timed task (ds ++ k ∷ [])) task.most h ≡ advance_tests task.problem task.most (entries_of h) (until task.problem (timed task (ds ++ k ∷ [])) here) here ++ act_tests here.acted action here.state
    act_asks =
        asked_there task.problem (timed task (ds ++ k ∷ [])) task.most (λ i. []) (entries_of h) here (Some (ActLine (now_of task ds) (Instance action))) next_is present (sym until_same ∙ p.worked.over)

    pub act_times : AllTimes fits (timed task (ds ++ k ∷ [])).lines
    act_times =
        subst (λ (L : Plan). AllTimes fits L.lines) (sym (acts_next task ds k action a))
        (times_due fits (acts_of task ds) (now_of task ds) action (subst (λ (L : Plan). AllTimes fits L.lines) (ends_with task ds) p.times))

    pub refused : possible task.problem task.actions action ≡ false → FailsAt fits task.problem (timed task (ds ++ k ∷ [])) task.most IsNoLimit h
    refused e =
        let c = can_act fits task ds k action h a p in
        let d = never_decided (may_be_true task.problem task.actions) here.state false_here action.condition e in
        record {
          prefix = c.0;
          clear = c.1;
          test = breach (model.Precondition here.acted);
          first = subst (λ ts. FirstFailing fits ts (breach (model.Precondition here.acted))) (sym act_asks)
              (fail_right (Passes fits) _ _ _ advance_pass
              (condition_fails fits here.acted action here.state (decided_asks fits action.condition false here.state d) (sym (decided_holds action.condition false here.state d))));
          kind = λ l. l;
        }

pub never_done : (fits : Fraction → Type 0) → NeverDone fits
never_done fits task ds k action h a e p =
    broken_ends fits task (ds ++ k ∷ []) (act_times fits task ds h p k action a) h (refused fits task ds h p k action a e)
