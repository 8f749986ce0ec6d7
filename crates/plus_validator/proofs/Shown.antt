-- What is written of a step, and the times that lines may have.
use Rattle.std.proofs.Common.{◌≡◌, ℕ, zero, suc, ◌<◌, Bool, true, false, List, [], ◌∷◌, set, refl, sym, subst, ap, ap₂, ◌∙◌, append-nil, append_assoc, arith}
use Rattle.std.specs.Prelude.{All, length, ◌++◌, Option, Some, None, Result, Ok, Err, MatchResult, OnOk, codes, slice_get, unwrap_or, if◌then◌else◌}
use Rattle.std.proofs.lemmas.List.Elements.{All-nil, All-cons, All-head, All-tail}
use Rattle.plus_io.specs.Taken.{Took}
use Rattle.plus_model.specs.Terms.{State}
use Rattle.plus_state.specs.View.{Labels}
use Rattle.plus_state.specs.Changes.{Changes, patched_list, patched, AreIn, Over, Rises, RisesIn, LeadsTo}
use Rattle.plus_state.specs.Fits.{StateFits}
use Rattle.plus_report.specs.Labels.{label_at}
use Rattle.plus_report.specs.Text.{newline, fraction_text, lines_below, new_value_line, fluents_text, entry_text, literals_text, act_text}
use Rattle.plus_fraction.specs.Fraction.{Fraction, ◌≤ℚ◌}
use Rattle.plus_fraction.proofs.FractionAtMost.{le_by_not}
use Rattle.plus_fraction.proofs.Compared.{less-compared}
use Rattle.plus_model.specs.Terms.{Below, Problem}
use Rattle.plus_model.specs.Value.{passes, fluent_of}
use Rattle.plus_model.specs.Trajectory.{is_below}
use Rattle.plus_number.specs.declared.frac.Frac64.{Frac64}
use Rattle.plus_number.specs.Frac.{fraction_of}
use Rattle.plus_state.specs.declared.term.EventId.{EventId}
use Rattle.plus_state.specs.declared.term.ProcessId.{ProcessId}
use Rattle.plus_plan.specs.declared.forms.Time.{Time}
use Rattle.plus_plan.specs.TimeValue.{value_of}
use Rattle.plus_timeline.specs.Timeline.{TimelineView, event_numbers, process_numbers}
use Rattle.plus_timeline.specs.declared.next.Next.{Next}
use Rattle.plus_timeline.specs.declared.next.Next.TheVariants.{Round, Run as run_answer, Entry}
use Rattle.plus_report.specs.Shown.{AreEvents, AreProcesses}
use Rattle.plus_validator.specs.Standing.{MovesThenChanges, IsShown, next_text}
use Rattle.plus_validator.specs.Playing.{IsInTime}

all_events : (n : ℕ) (es : List EventId) → All (λ e. e < n) (event_numbers es) → All (λ (e : EventId). e.0 < n) es
all_events n [] a = All-nil (λ (e : EventId). e.0 < n)
all_events n (e ∷ es) a = All-cons (λ (e : EventId). e.0 < n) e es (All-head (λ e. e < n) e.0 (event_numbers es) a) (all_events n es (All-tail (λ e. e < n) e.0 (event_numbers es) a))

all_processes : (n : ℕ) (ps : List ProcessId) → All (λ p. p < n) (process_numbers ps) → All (λ (p : ProcessId). p.0 < n) ps
all_processes n [] a = All-nil (λ (p : ProcessId). p.0 < n)
all_processes n (p ∷ ps) a = All-cons (λ (p : ProcessId). p.0 < n) p ps (All-head (λ p. p < n) p.0 (process_numbers ps) a) (all_processes n ps (All-tail (λ p. p < n) p.0 (process_numbers ps) a))

pub events_shown : (P : Problem) (t : TimelineView) (next : Next Frac64) (es : List EventId) → next ≡ Round → IsShown P t next → event_numbers es ≡ t.events → AreEvents P es
events_shown P t next es e s n =
    all_events (length P.events) es (subst (All (λ k. k < length P.events)) (sym n) (subst (IsShown P t) e s))

pub running_shown : (P : Problem) (t : TimelineView) (next : Next Frac64) (ps : List ProcessId) → next ≡ run_answer → IsShown P t next → process_numbers ps ≡ t.running → AreProcesses P ps
running_shown P t next ps e s n =
    all_processes (length P.processes) ps (subst (All (λ k. k < length P.processes)) (sym n) (subst (IsShown P t) e s))

-- ---- an entry

set_twice : {A : Type 0} (xs : List A) (k : ℕ) (x y : A) → set (set xs k x) k y ≡ set xs k y
set_twice [] k x y = refl
set_twice (z ∷ xs) zero x y = refl
set_twice (z ∷ xs) (suc k) x y = ap (λ l. z ∷ l) (set_twice xs k x y)

set_either : {A : Type 0} (xs : List A) (i k : ℕ) (x y : A) → i < k → set (set xs k y) i x ≡ set (set xs i x) k y
set_either [] i k x y h = refl
set_either (z ∷ xs) i zero x y h = absurd (omega arith)
set_either (z ∷ xs) zero (suc k) x y h = refl
set_either (z ∷ xs) (suc i) (suc k) x y h = ap (λ l. z ∷ l) (set_either xs i k x y (omega arith))

-- a change before all others may be made last
set_last : {A : Type 0} (cs : List (ℕ × A)) (xs : List A) (i : ℕ) (x : A) → Over i cs → set (patched_list cs xs) i x ≡ patched_list cs (set xs i x)
set_last [] xs i x o = refl
set_last (c ∷ cs) xs i x o = set_last cs (set xs c.0 c.1) i x o.1 ∙ ap (patched_list cs) (set_either xs i c.0 x c.1 o.0)

-- changes that are made twice are made
patched_twice : {A : Type 0} (cs : List (ℕ × A)) (xs : List A) → Rises cs → patched_list cs (patched_list cs xs) ≡ patched_list cs xs
patched_twice [] xs r = refl
patched_twice (c ∷ cs) xs r =
    ap (patched_list cs) (set_last cs (set xs c.0 c.1) c.0 c.1 r.0 ∙ ap (patched_list cs) (set_twice xs c.0 c.1 c.1))
    ∙ patched_twice cs (set xs c.0 c.1) r.1

-- the changes since the last state lead from the arrival to the present state too
pub from_arrival : (t : TimelineView) (c : Changes) → MovesThenChanges t → LeadsTo t.before c t.now.state → patched t.arrival c ≡ t.now.state
from_arrival t c m l =
    let atoms : patched_list c.atoms t.arrival.atoms ≡ t.now.state.atoms = ap (patched_list c.atoms) m.atoms ∙ sym (ap (λ (s : State). s.atoms) l.is) in
    let made : t.now.state.fluents ≡ patched_list c.fluents t.before.fluents = ap (λ (s : State). s.fluents) l.is in
    let fluents : patched_list c.fluents t.arrival.fluents ≡ t.now.state.fluents =
    ap (patched_list c.fluents) (sym m.fluents ∙ made) ∙ patched_twice c.fluents t.before.fluents l.rises.fluents ∙ sym made in
    ap₂ (λ (x : List Bool) (y : List (Option Fraction)). record { atoms = x; fluents = y }) atoms fluents

-- they are changes of the state on arrival
pub rises_on_arrival : (t : TimelineView) (n m : ℕ) (b a : State) (c : Changes) → b ≡ t.before → StateFits n m b → StateFits n m a → LeadsTo t.before c t.now.state → RisesIn a c
rises_on_arrival t n m b a c e f g l = record {
  atoms = l.rises.atoms;
  fluents = l.rises.fluents;
  within = record {
    atoms_in = subst (λ (k : ℕ). AreIn k c.atoms) (sym (ap (λ (s : State). length s.atoms) e) ∙ f.atoms_fit ∙ sym g.atoms_fit) l.rises.within.atoms_in;
    fluents_in = subst (λ (k : ℕ). AreIn k c.fluents) (sym (ap (λ (s : State). length s.fluents) e) ∙ f.fluents_fit ∙ sym g.fluents_fit) l.rises.within.fluents_in;
  };
}

-- of the state on arrival a moment's lines show the fluents alone
pub shows_fluents : (N : Labels) (time : Fraction) (before s s' : State) → s.fluents ≡ s'.fluents → entry_text N time before s ≡ entry_text N time before s'
unfolding entry_text fluents_text
shows_fluents N time before s s' e =
    ap (λ (vs : List (Option Fraction)). codes "at " ++ (fraction_text time ++ newline)
    ++ lines_below (λ f. new_value_line (codes "  ") (label_at N.fluents f) (fluent_of before f) (unwrap_or (slice_get vs f) None)) (length N.fluents)) e

not_earlier : (x y : Fraction) → false ≡ is_below x y → y ≤ℚ x
not_earlier x y e = le_by_not y x (λ h.
    let f : is_below x y ≡ true = ap (passes Below) (less-compared x y h) in
    cc (e, f))

-- a time that is not below the present one, where no end was read
pub in_time : (ended : Bool) (now : Fraction) (time : Time) (at : Frac64) → fraction_of at ≡ value_of time → ended ≡ false → false ≡ is_below (fraction_of at) now → IsInTime ended now time at
in_time ended now time at i e b = record { is = i; not_ended = e; ahead = not_earlier (fraction_of at) now b }

-- what the report has after an action
pub act_reported : (old new : List ℕ) (N : Labels) (label : List ℕ) (b s b' s' : State) → Took (Some old) (Some new) (act_text N label b s) → b ≡ b' → s ≡ s' → new ≡ old ++ act_text N label b' s'
act_reported old new N label b s b' s' t e f =
    let g : Some new ≡ Some (old ++ act_text N label b s) = t in
    let h : new ≡ old ++ act_text N label b s = cc g in
    h ∙ ap (λ x. old ++ act_text N label x s) e ∙ ap (λ x. old ++ act_text N label b' x) f

pub took_all : (old new text : List ℕ) → Took (Some old) (Some new) text → new ≡ old ++ text
took_all old new text t = let g : Some new ≡ Some (old ++ text) = t in cc g

-- ---- what the report has after a moment

-- its line and what moved
pub moment_line : (N : Labels) (t : TimelineView) (time : Fraction) (b : State) (c : Changes) (old new : List ℕ) → MovesThenChanges t → LeadsTo t.before c t.now.state → b ≡ t.before → Took (Some old) (Some new) (entry_text N time b (patched b c)) → new ≡ old ++ entry_text N time t.before t.arrival
moment_line N t time b c old new m l e w =
    took_all old new (entry_text N time b (patched b c)) w
    ∙ ap (λ (x : State). old ++ entry_text N time x (patched x c)) e
    ∙ ap (λ (x : State). old ++ entry_text N time t.before x) (sym l.is)
    ∙ ap (λ xs. old ++ xs) (shows_fluents N time t.before t.now.state t.arrival m.fluents)

pub moment_plain : (N : Labels) (P : Problem) (t : TimelineView) (time : Frac64) (old new : List ℕ) → t.literal ≡ false → new ≡ old ++ entry_text N (fraction_of time) t.before t.arrival → new ≡ old ++ next_text fraction_of N P t (Entry time)
moment_plain N P t time old new e w =
    w ∙ ap (λ xs. old ++ xs) (sym (append-nil (entry_text N (fraction_of time) t.before t.arrival)))
    ∙ ap (λ (b : Bool). old ++ (entry_text N (fraction_of time) t.before t.arrival ++ (if b then literals_text N t.arrival t.now.state else []))) (sym e)

-- and its literals
pub moment_literals : (N : Labels) (P : Problem) (t : TimelineView) (time : Frac64) (a : State) (c : Changes) (old mid new : List ℕ) → MovesThenChanges t → LeadsTo t.before c t.now.state → a ≡ t.arrival → t.literal ≡ true → mid ≡ old ++ entry_text N (fraction_of time) t.before t.arrival → Took (Some mid) (Some new) (literals_text N a (patched a c)) → new ≡ old ++ next_text fraction_of N P t (Entry time)
moment_literals N P t time a c old mid new m l e k d w =
    took_all mid new (literals_text N a (patched a c)) w
    ∙ ap (λ (x : State). mid ++ literals_text N x (patched x c)) e
    ∙ ap (λ (x : State). mid ++ literals_text N t.arrival x) (from_arrival t c m l)
    ∙ ap (λ xs. xs ++ literals_text N t.arrival t.now.state) d
    ∙ append_assoc old (entry_text N (fraction_of time) t.before t.arrival) (literals_text N t.arrival t.now.state)
    ∙ ap (λ (b : Bool). old ++ (entry_text N (fraction_of time) t.before t.arrival ++ (if b then literals_text N t.arrival t.now.state else []))) (sym k)

-- where a text is written
pub where_written : {T E : Type 0} (r : Result T E) (A B C : Type 0) → (A → C) → MatchResult r (λ _. A) (λ _. B) → OnOk r C
where_written (Ok x) A B C f h = f h
where_written (Err e) A B C f h = tt
