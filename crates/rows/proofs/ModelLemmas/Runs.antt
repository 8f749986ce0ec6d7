-- What a worked row shows by computing: which processes run, which events come, and how far nothing changes.
use Rattle.std.proofs.Common.{◌≡◌, ℕ, zero, suc, true, false, Bool, List, [], ◌∷◌, refl, ap, sym, subst, ◌∙◌, pos, if◌then◌else◌}
use Rattle.std.specs.Prelude.{Some, Ok, slice_get, IsSomeAnd}
use Rattle.plus_fraction.specs.Fraction.{Fraction, whole, ◌+ℚ◌, ◌-ℚ◌, ◌*ℚ◌, ◌<ℚ◌, ◌≤ℚ◌}
use Rattle.plus_fraction.proofs.FractionOrder.{<ℚ_irrefl}
use Rattle.plus_fraction.proofs.Ring.{var, num, ◌⊕◌, ◌⊖◌, ◌⊗◌}
use Rattle.plus_fraction.proofs.FractionRing.{ringℚ}
use Rattle.plus_model.specs.Terms.{Event, Process, State, Problem}
use Rattle.plus_model.specs.Firing.{numbers_of}
use Rattle.plus_model.specs.Running.{rates, moved, JustAfter, GoesOn, holding, Settled}
use Rattle.plus_model.specs.Piece.{IsStraight, NoRoot, after}
use Rattle.plus_model.specs.Live.{live}
use Rattle.plus_model.specs.Plan.{Plan}
use Rattle.plus_model.specs.History.{View}
use Rattle.plus_model.specs.Trajectory.{literals, until, Cause, EnterMayFollow}
use Rattle.plus_model.proofs.Decide.{AllStraight, running_after, goes_on_is}
use Rattle.plus_model.proofs.Truth.{after_is, from_just_after}
use Rattle.plus_model.proofs.Search.{OneTruth, live_truth}
use Rattle.plus_model.proofs.Searched.{NoChange, NoneAfter, SearchedTo, searched_start, enter_by}

-- every process is a line at these rates; every event is
abbrev pub StraightProcesses : List Process → State → List Fraction → Type 0
StraightProcesses [] s rs = Unit {0}
StraightProcesses (p ∷ ps) s rs = IsStraight p.condition s rs × StraightProcesses ps s rs

abbrev pub StraightEvents : List Event → State → List Fraction → Type 0
StraightEvents [] s rs = Unit {0}
StraightEvents (e ∷ es) s rs = IsStraight e.condition s rs × StraightEvents es s rs

-- no live comparison has a root strictly between a and b
abbrev pub RootlessProcesses : List Process → State → List Fraction → Fraction → Fraction → Type 0
RootlessProcesses [] s rs a b = Unit {0}
RootlessProcesses (p ∷ ps) s rs a b = NoRoot (live p.condition s) s rs a b × RootlessProcesses ps s rs a b

abbrev pub RootlessEvents : List Event → State → List Fraction → Fraction → Fraction → Type 0
RootlessEvents [] s rs a b = Unit {0}
RootlessEvents (e ∷ es) s rs a b = NoRoot (live e.condition s) s rs a b × RootlessEvents es s rs a b

-- the events that the test of values and slopes finds just after
abbrev pub events_after : Problem → State → List Fraction → List ℕ
events_after P s rs = numbers_of (λ e. after e.condition s rs) 0 P.events

straight_process : (ps : List Process) (s : State) (rs : List Fraction) → StraightProcesses ps s rs → (k : ℕ) (p : Process) → slice_get ps k ≡ Some p → IsStraight p.condition s rs
straight_process [] s rs h k p e = cc
straight_process (q ∷ ps) s rs h zero p e = subst (λ o. IsSomeAnd o (λ (r : Process). IsStraight r.condition s rs)) e h.0
straight_process (q ∷ ps) s rs h (suc k) p e = straight_process ps s rs h.1 k p e

pub goes : (P : Problem) (s : State) (rs : List Fraction) (R : List ℕ) → StraightProcesses P.processes s rs → running_after P s rs ≡ R → GoesOn P s rs R
goes P s rs R h e = subst (GoesOn P s rs) e (goes_on_is P s rs (straight_process P.processes s rs h))

pub all_straight : (P : Problem) (s : State) (rs : List Fraction) → StraightProcesses P.processes s rs → AllStraight P s rs
all_straight P s rs h = straight_process P.processes s rs h

pub settles : (P : Problem) (s : State) (R : List ℕ) (first own : List Fraction) → StraightProcesses P.processes s first → StraightProcesses P.processes s own → rates P s (holding P s) ≡ Ok first → running_after P s first ≡ R → rates P s R ≡ Ok own → running_after P s own ≡ R → Settled P s R own
settles P s R first own h k a b c d = record {
  choice = record { first = first; first_is = a; chosen = goes P s first R h b };
  own_is = c;
  confirmed = goes P s own R k d;
}

-- no event holds just after, by its place
dropped : (b : Bool) (k : ℕ) (ns : List ℕ) → (if b then k ∷ ns else ns) ≡ [] → (b ≡ false) × (ns ≡ [])
dropped true k ns e = cc
dropped false k ns e = (refl, e)

none_of : (es : List Event) (s : State) (rs : List Fraction) (j : ℕ) → StraightEvents es s rs → numbers_of (λ (e : Event). after e.condition s rs) j es ≡ [] → (k : ℕ) (e : Event) → slice_get es k ≡ Some e → JustAfter s rs e.condition → ⊥
none_of [] s rs j h n k e g a = cc
none_of (d ∷ es) s rs j h n zero e g a = subst (λ o. IsSomeAnd o (λ (r : Event). JustAfter s rs r.condition → ⊥)) g
    (λ b. let t = from_just_after s rs d.condition _ (after_is d.condition s rs h.0) b in
    let f = (dropped (after d.condition s rs) j (numbers_of (λ (x : Event). after x.condition s rs) (suc j) es) n).0 in cc (t, f)) a
none_of (d ∷ es) s rs j h n (suc k) e g a = none_of es s rs (suc j) h.1 (dropped (after d.condition s rs) j (numbers_of (λ (x : Event). after x.condition s rs) (suc j) es) n).1 k e g a

pub none_after : (P : Problem) (s : State) (rs : List Fraction) → StraightEvents P.events s rs → events_after P s rs ≡ [] → NoneAfter P s rs
none_after P s rs h n = none_of P.events s rs 0 h n

truth_process : (ps : List Process) (s : State) (rs : List Fraction) (a b : Fraction) → RootlessProcesses ps s rs a b → (k : ℕ) (p : Process) → slice_get ps k ≡ Some p → OneTruth p.condition s rs a b
truth_process [] s rs a b h k p e = cc
truth_process (q ∷ ps) s rs a b h zero p e = subst (λ o. IsSomeAnd o (λ (r : Process). OneTruth r.condition s rs a b)) e (live_truth q.condition s rs a b h.0)
truth_process (q ∷ ps) s rs a b h (suc k) p e = truth_process ps s rs a b h.1 k p e

truth_event : (es : List Event) (s : State) (rs : List Fraction) (a b : Fraction) → RootlessEvents es s rs a b → (k : ℕ) (e : Event) → slice_get es k ≡ Some e → OneTruth e.condition s rs a b
truth_event [] s rs a b h k e g = cc
truth_event (d ∷ es) s rs a b h zero e g = subst (λ o. IsSomeAnd o (λ (r : Event). OneTruth r.condition s rs a b)) g (live_truth d.condition s rs a b h.0)
truth_event (d ∷ es) s rs a b h (suc k) e g = truth_event es s rs a b h.1 k e g

pub no_change : (P : Problem) (s : State) (rs : List Fraction) (a b : Fraction) → RootlessEvents P.events s rs a b → RootlessProcesses P.processes s rs a b → NoChange P s rs a b
no_change P s rs a b h k = record { events = truth_event P.events s rs a b h; processes = truth_process P.processes s rs a b k }

pub begins : (P : Problem) (s : State) (R : List ℕ) (rs : List Fraction) → StraightProcesses P.processes s rs → running_after P s rs ≡ R → StraightEvents P.events s rs → events_after P s rs ≡ [] → SearchedTo P s R rs (whole (pos 0))
begins P s R rs h r k n = searched_start P s R rs (goes P s rs R h r) (none_after P s rs k n)

-- the end of a stretch, in a state that is written out
pub enters : (P : Problem) (L : Plan) (v : View) (R : List ℕ) (rs : List Fraction) (a t : Fraction) (arrival : State)
    → rates P v.state R ≡ Ok rs → v.time <ℚ t → t ≤ℚ until P L v
    → SearchedTo P v.state R rs a → NoChange P v.state rs a (t -ℚ v.time)
    → moved v.state rs (t -ℚ v.time) ≡ arrival → Cause P R rs (t ≡ until P L v) arrival
    → EnterMayFollow P (until P L v) v R t arrival (literals P t arrival)
enters P L v R rs a t arrival r h k w n m c =
    subst (λ s. EnterMayFollow P (until P L v) v R t s (literals P t s)) m
    (enter_by P L v R rs a t r h k w n (subst (λ s. Cause P R rs (t ≡ until P L v) s) (sym m) c))

-- x rises by 1 from v: it comes to w after w - v
root_is : (v w r : Fraction) → v +ℚ whole (pos 1) *ℚ r ≡ w +ℚ whole (pos 0) *ℚ r → r ≡ w -ℚ v
root_is v w r h =
    ringℚ (v ∷ r ∷ []) (var 1) ((var 0 ⊕ num (pos 1) ⊗ var 1) ⊖ var 0) refl
    ∙ ap (λ z. z -ℚ v) h
    ∙ ringℚ (v ∷ w ∷ r ∷ []) ((var 1 ⊕ num (pos 0) ⊗ var 2) ⊖ var 0) (var 1 ⊖ var 0) refl

-- and not before, and not after
pub not_before : (v w r b : Fraction) → b ≡ w -ℚ v → r <ℚ b → v +ℚ whole (pos 1) *ℚ r ≡ w +ℚ whole (pos 0) *ℚ r → ⊥
not_before v w r b e l h = <ℚ_irrefl b (subst (λ z. z <ℚ b) (root_is v w r h ∙ sym e) l)

pub not_after : (v w r a : Fraction) → a ≡ w -ℚ v → a <ℚ r → v +ℚ whole (pos 1) *ℚ r ≡ w +ℚ whole (pos 0) *ℚ r → ⊥
not_after v w r a e l h = <ℚ_irrefl a (subst (λ z. a <ℚ z) (root_is v w r h ∙ sym e) l)
