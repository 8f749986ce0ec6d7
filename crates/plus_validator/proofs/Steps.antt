-- What one step of the timeline adds to what is told of a run, and what is to be written of it.
use Rattle.std.proofs.Common.{◌≡◌, ℕ, ◌+◌, ◌<◌, pos, Bool, List, [], ◌∷◌, ◌++◌, refl, ap, sym, subst, ◌∙◌, arith, zero-add, add-zero, append-nil}
use Rattle.std.specs.Prelude.{length, All, ◌||◌, if◌then◌else◌}
use Rattle.std.specs.List.{list_any}
use Rattle.plus_fraction.specs.Fraction.{Fraction, ◌-ℚ◌, compared, whole}
use Rattle.plus_model.specs.Terms.{Same, Timed, Action, State, Problem}
use Rattle.plus_model.specs.Value.{passes}
use Rattle.plus_model.specs.Plan.{Plan}
use Rattle.plus_model.specs.History as history
use Rattle.plus_model.specs.History.{Part, Enter, Act, View}
use Rattle.plus_model.specs.Trajectory.{literals}
use Rattle.plus_model.specs.Running.{moved}
use Rattle.plus_state.specs.View.{Labels}
use Rattle.plus_stretch.specs.Tests.{Test}
use Rattle.plus_timeline.specs.Timeline as timeline
use Rattle.plus_timeline.specs.Timeline.{TimelineView, begun}
use Rattle.plus_timeline.specs.Advance.{Advances}
use Rattle.plus_timeline.specs.Act.{DoesAct}
use Rattle.plus_timeline.specs.declared.next.Next.{Next}
use Rattle.plus_timeline.specs.declared.next.Next.TheVariants.{Round, Run, Entry, There}
use Rattle.plus_timeline.specs.Played.{entries_of}
use Rattle.plus_timeline.specs.StepsLeft.{IsMore, a_round, a_run, an_entry}
use Rattle.plus_timeline.proofs.Members.{members_are}
use Rattle.plus_timeline.proofs.Played.{entries_of-append, part_of}
use Rattle.plus_timeline.proofs.Unfired.{firing_below}
use Rattle.plus_report.specs.Text.{entry_text, literals_text, round_text, act_text}
use Rattle.plus_report.specs.Report as report
use Rattle.plus_report.specs.Report.{called_label, part_text, literals_part, report_of}
use Rattle.plus_report.proofs.ReportLemmas.{report_of-append}
use Rattle.plus_validator.specs.Account.{Account}
use Rattle.plus_validator.specs.Asking.{firings_of}
use Rattle.plus_validator.specs.Standing.{IsTold, IsPlayed, next_text, entries_in, firings_in, TellsPart, TellsNext, TellsAct, AccountsNext, MovesThenChanges, IsShown}
use Rattle.plus_validator.specs.Told.{Telling, reports}

-- ---- what is told grows by one part

pub firings_of-append : (h : List Part) (part : Part) → firings_of (h ++ part ∷ []) ≡ firings_of h + firings_of (part ∷ [])
firings_of-append [] part = sym (zero-add (firings_of (part ∷ [])))
firings_of-append (Enter t a s ∷ h) part = firings_of-append h part
firings_of-append (history.Round E s ∷ h) part = let i = firings_of-append h part in omega arith
firings_of-append (Act i s ∷ h) part = firings_of-append h part
firings_of-append (history.Run R ∷ h) part = firings_of-append h part

-- equal in each of its parts
pub account_by : {V : Type 0} {a b : Account V} → a.told ≡ b.told → a.entries ≡ b.entries → a.firings ≡ b.firings → a ≡ b
account_by e f g = λ i. record { told = e i; entries = f i; firings = g i }

-- what is told of a history, grown by a part
pub told_on : {V : Type 0} (P : Problem) (T : Telling P V) (L : Plan) (h : List Part) (before after : Account V) (part : Part) → IsTold P T L before h → T.Tells L (h ++ part ∷ []) after.told → after.entries ≡ before.entries + entries_of (part ∷ []) → after.firings ≡ before.firings + firings_of (part ∷ []) → IsTold P T L after (h ++ part ∷ [])
told_on P T L h before after part t s e f = record {
  tells = s;
  entries = e ∙ ap (λ n. n + entries_of (part ∷ [])) t.entries ∙ sym (entries_of-append h part);
  firings = f ∙ ap (λ n. n + firings_of (part ∷ [])) t.firings ∙ sym (firings_of-append h part);
}

-- how much a step counts is what its part counts
same_entries : {Q : Type 0} (new : TimelineView) (answer : Next Q) → entries_in answer ≡ entries_of (part_of new answer ∷ [])
same_entries new Round = refl
same_entries new Run = refl
same_entries new (Entry t) = refl
same_entries new There = refl

same_firings : {Q : Type 0} (new : TimelineView) (answer : Next Q) → firings_in new answer ≡ firings_of (part_of new answer ∷ [])
same_firings new Round = sym (add-zero (length new.events))
same_firings new Run = refl
same_firings new (Entry t) = refl
same_firings new There = refl

-- what is told of a step is told of its part
told_part : {Q V : Type 0} (P : Problem) (T : Telling P V) (old new : TimelineView) (answer : Next Q) (before after : V) → IsMore answer → TellsNext P T old new answer before after → TellsPart P T old (part_of new answer) before after
told_part P T old new Round before after m t = t
told_part P T old new Run before after m t = t
told_part P T old new (Entry time) before after m t = t
told_part P T old new There before after m t = elim m [ ]

-- and by the part of a step
pub step_told : {Q V : Type 0} (P : Problem) (T : Telling P V) (L : Plan) (instance : ℕ → List Test) (h : List Part) (old new : TimelineView) (answer : Next Q) (before after : Account V) → IsMore answer → IsPlayed P T L instance h old before → AccountsNext P T old new answer before after → IsTold P T L after (h ++ part_of new answer ∷ [])
step_told P T L instance h old new answer before after m p r =
    told_on P T L h before after (part_of new answer) p.beside
    (told_part P T old new answer before.told after.told m r.tells L h p.prefix p.now p.beside.tells)
    (r.entries ∙ ap (λ n. before.entries + n) (same_entries new answer)) (r.firings ∙ ap (λ n. before.firings + n) (same_firings new answer))

-- ---- the report

-- the literals of a moment, as the timeline and as the report tells them
has_literal_in : (t : Fraction) (ls : List Timed) → report.has_literal t ls ≡ list_any (λ (l : Timed). passes Same (compared l.time t)) ls
has_literal_in t [] = refl
has_literal_in t (l ∷ ls) = ap (λ b. passes Same (compared l.time t) || b) (has_literal_in t ls)

pub literals_shown : (N : Labels) (P : Problem) (t : Fraction) (a s : State) → (if timeline.has_literal P t then literals_text N a s else []) ≡ literals_part N P t a s
unfolding literals_part
literals_shown N P t a s = ap (λ b. if b then literals_text N a s else []) (sym (has_literal_in t P.timed))

-- what it writes is the text of that part
next_is_part : {Q : Type 0} (value : Q → Fraction) (N : Labels) (P : Problem) (L : Plan) (u : Fraction) (old new : TimelineView) (answer : Next Q) → IsMore answer → Advances value P u old new answer → next_text value N P new answer ≡ part_text N P L old.now.state (part_of new answer)
next_is_part value N P L u old new Round m a =
    ap (λ (b : State). round_text N P new.events b new.now.state) (ap (λ v. v.before) a.is)
next_is_part value N P L u old new Run m a = refl
next_is_part value N P L u old new (Entry t) m a =
    let b : new.before ≡ old.now.state = ap (λ v. v.before) a.is in
    let time : value t ≡ new.now.time = sym (ap (λ v. v.now.time) a.is) in
    let lit : new.literal ≡ timeline.has_literal P new.now.time = ap (λ v. v.literal) a.is ∙ ap (timeline.has_literal P) time in
    ap (λ (x : Fraction). entry_text N x new.before new.arrival ++ (if new.literal then literals_text N new.arrival new.now.state else [])) time
    ∙ ap (λ (x : State). entry_text N new.now.time x new.arrival ++ (if new.literal then literals_text N new.arrival new.now.state else [])) b
    ∙ ap (λ (x : Bool). entry_text N new.now.time old.now.state new.arrival ++ (if x then literals_text N new.arrival new.now.state else [])) lit
    ∙ ap (λ x. entry_text N new.now.time old.now.state new.arrival ++ x) (literals_shown N P new.now.time new.arrival new.now.state)
next_is_part value N P L u old new There m a = elim m [ ]

-- the report grows by the text of a part
report_part : (N : Labels) (P : Problem) (old : TimelineView) (part : Part) (before after : List ℕ) → ((L : Plan) → after ≡ before ++ part_text N P L old.now.state part) → TellsPart P (reports N P) old part before after
report_part N P old part before after r = λ L h p n t.
    r L ∙ ap (λ (x : List ℕ). x ++ part_text N P L old.now.state part) t
    ∙ ap (λ (v : View). report_of N P L h ++ part_text N P L v.state part) n
    ∙ sym (report_of-append N P L h part p)

-- and so by what is written of a step
pub report_next : {Q : Type 0} (value : Q → Fraction) (N : Labels) (P : Problem) (u : Fraction) (old new : TimelineView) (answer : Next Q) (before after : List ℕ) → Advances value P u old new answer → after ≡ before ++ next_text value N P new answer → TellsNext P (reports N P) old new answer before after
report_next value N P u old new Round before after a r =
    report_part N P old (history.Round new.events new.now.state) before after (λ L. r ∙ ap (λ x. before ++ x) (next_is_part value N P L u old new Round a_round a))
report_next value N P u old new Run before after a r =
    report_part N P old (history.Run new.running) before after (λ L. r ∙ ap (λ x. before ++ x) (next_is_part value N P L u old new Run a_run a))
report_next value N P u old new (Entry time) before after a r =
    report_part N P old (Enter new.now.time new.arrival new.now.state) before after (λ L. r ∙ ap (λ x. before ++ x) (next_is_part value N P L u old new (Entry time) (an_entry time) a))
report_next value N P u old new There before after a r = r ∙ append-nil before

-- by what is written of an action
pub report_act : (N : Labels) (P : Problem) (action : Action) (old new : TimelineView) (before after : List ℕ) → DoesAct P action old new → after ≡ before ++ act_text N action.label new.before new.now.state → TellsAct P (reports N P) action old new before after
report_act N P action old new before after a r = λ L h p n due t.
    let part : Part = Act old.now.acted new.now.state in
    r ∙ ap (λ x. before ++ act_text N action.label x new.now.state) (ap (λ v. v.before) a.is)
    ∙ ap (λ x. before ++ act_text N (called_label x) old.now.state new.now.state) (sym due)
    ∙ ap (λ (x : List ℕ). x ++ part_text N P L old.now.state part) t
    ∙ ap (λ (v : View). report_of N P L h ++ part_text N P L v.state part) n
    ∙ sym (report_of-append N P L h part p)

-- ---- what is to be written

moved_atoms : (s : State) (rs : List Fraction) (x : Fraction) → (moved s rs x).atoms ≡ s.atoms
unfolding moved
moved_atoms s rs x = refl

literal_fluents : (P : Problem) (t : Fraction) (s : State) → (literals P t s).fluents ≡ s.fluents
unfolding literals
literal_fluents P t s = refl

pub step_shown : {Q : Type 0} (value : Q → Fraction) (P : Problem) (u : Fraction) (old new : TimelineView) (answer : Next Q) → Advances value P u old new answer → IsShown P new answer
step_shown value P u old new Round a =
    subst (All (λ e. e < length P.events)) (sym (ap (λ v. v.events) a.is ∙ a.round.all)) (firing_below P old.now.state)
step_shown value P u old new Run a =
    subst (All (λ p. p < length P.processes)) (sym (ap (λ v. v.running) a.is)) (members_are P old.now.state a.may.rate a.members a.may.settled.confirmed).inside
step_shown value P u old new (Entry t) a = record {
  atoms = ap (λ v. v.arrival.atoms) a.is ∙ ap (λ (s : State). s.atoms) a.may.arrival_is ∙ moved_atoms old.now.state a.may.rate (value t -ℚ old.now.time) ∙ sym (ap (λ v. v.before.atoms) a.is);
  fluents = ap (λ v. v.now.state.fluents) a.is ∙ ap (λ (s : State). s.fluents) a.may.after_is ∙ literal_fluents P (value t) a.arrived ∙ sym (ap (λ v. v.arrival.fluents) a.is);
}
step_shown value P u old new There a = tt

pub begun_shown : (P : Problem) (most : ℕ) (t : TimelineView) → t ≡ begun P most → MovesThenChanges t
begun_shown P most t e = record {
  atoms = ap (λ v. v.arrival.atoms) e ∙ sym (ap (λ v. v.before.atoms) e);
  fluents = ap (λ v. v.now.state.fluents) e ∙ literal_fluents P (whole (pos 0)) P.initial ∙ sym (ap (λ v. v.arrival.fluents) e);
}
