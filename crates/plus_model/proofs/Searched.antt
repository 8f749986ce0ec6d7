-- The invariant of the search from root to root, and what each of its ends gives.
use Rattle.std.proofs.Common.{◌≡◌, ℕ, List, refl, sym, subst, inl, inr, pos, arith}
use Rattle.std.specs.Prelude.{Some, Ok, slice_get}
use Rattle.plus_fraction.specs.Fraction.{Fraction, whole, ◌-ℚ◌, ◌<ℚ◌, ◌≤ℚ◌}
use Rattle.plus_fraction.proofs.IntRing.{linear}
use Rattle.plus_fraction.proofs.FractionLinear.{common3, commons, nums, le_num, num_le}
use Rattle.plus_fraction.proofs.FractionOrder.{<ℚ_irrefl, <ℚ_or, <ℚ_trans}
use Rattle.plus_model.specs.Terms.{Event, Process, State, Problem}
use Rattle.plus_model.specs.Running.{rates, moved, JustAfter, GoesOn, IsQuiet, Stretch}
use Rattle.plus_model.specs.Plan.{Plan}
use Rattle.plus_model.specs.History.{View}
use Rattle.plus_model.specs.Trajectory.{literals, until, Cause, EnterMayFollow}
use Rattle.plus_model.specs.Breach.{IsFirst, HoldsAfter, IsMomentless}
use Rattle.plus_model.proofs.Moments.{not_below, ≤ℚ_refl, <ℚ-≤ℚ, ≤ℚ-<ℚ_trans, sub_above}
use Rattle.plus_model.proofs.Search.{OneTruth, quiet_between, moved-zero}

-- no condition of an event or a process changes its truth strictly between a and b
pub record NoChange (P : Problem) (s : State) (rs : List Fraction) (a b : Fraction) : Type 0 where
  pub events : (i : ℕ) (e : Event) → slice_get P.events i ≡ Some e → OneTruth e.condition s rs a b
  pub processes : (i : ℕ) (p : Process) → slice_get P.processes i ≡ Some p → OneTruth p.condition s rs a b

-- no event holds just after the state
abbrev pub NoneAfter : Problem → State → List Fraction → Type 0
NoneAfter P s rs = (i : ℕ) (e : Event) → slice_get P.events i ≡ Some e → JustAfter s rs e.condition → ⊥

-- up to the place a, and just after it, nothing begins
pub record SearchedTo (P : Problem) (s : State) (R : List ℕ) (rs : List Fraction) (a : Fraction) : Type 0 where
  pub start : whole (pos 0) ≤ℚ a
  pub before : Stretch P s R rs a
  pub here : whole (pos 0) <ℚ a → IsQuiet P (moved s rs a) R rs
  pub on : GoesOn P (moved s rs a) rs R
  pub none : NoneAfter P (moved s rs a) rs

pub searched_start : (P : Problem) (s : State) (R : List ℕ) (rs : List Fraction) → GoesOn P s rs R → NoneAfter P s rs → SearchedTo P s R rs (whole (pos 0))
searched_start P s R rs g n = record {
  start = ≤ℚ_refl (whole (pos 0));
  before = λ x p q. absurd (<ℚ_irrefl x (<ℚ_trans x _ x q p));
  here = λ p. absurd (<ℚ_irrefl _ p);
  on = subst (λ t. GoesOn P t rs R) (sym (moved-zero s rs)) g;
  none = subst (λ t. NoneAfter P t rs) (sym (moved-zero s rs)) n;
}

pub stretch_to : (P : Problem) (s : State) (R : List ℕ) (rs : List Fraction) (a b : Fraction) → SearchedTo P s R rs a → NoChange P s rs a b → Stretch P s R rs b
stretch_to P s R rs a b w n x p q = elim (<ℚ_or x a) [
  | inl h ↦ w.before x p h
  | inr o ↦ elim o [
    | inl e ↦ subst (λ z. IsQuiet P (moved s rs z) R rs) (sym e) (w.here (subst (λ z. whole (pos 0) <ℚ z) e p))
    | inr h ↦ quiet_between P s R rs a b x (record { events = n.events; processes = n.processes; none = w.none; on = w.on }) h q
  ]
]

-- the next root is quiet, and no event holds just after it
pub searched_next : (P : Problem) (s : State) (R : List ℕ) (rs : List Fraction) (a b : Fraction) → SearchedTo P s R rs a → a <ℚ b → NoChange P s rs a b → IsQuiet P (moved s rs b) R rs → NoneAfter P (moved s rs b) rs → SearchedTo P s R rs b
searched_next P s R rs a b w h n q z = record {
  start = <ℚ-≤ℚ _ _ (≤ℚ-<ℚ_trans _ a b w.start h);
  before = stretch_to P s R rs a b w n;
  here = λ p. q;
  on = q.on;
  none = z;
}

-- an entry begins at t
pub enter_by : (P : Problem) (L : Plan) (v : View) (R : List ℕ) (rs : List Fraction) (a t : Fraction)
    → rates P v.state R ≡ Ok rs → v.time <ℚ t → t ≤ℚ until P L v
    → SearchedTo P v.state R rs a → NoChange P v.state rs a (t -ℚ v.time)
    → Cause P R rs (t ≡ until P L v) (moved v.state rs (t -ℚ v.time))
    → EnterMayFollow P (until P L v) v R t (moved v.state rs (t -ℚ v.time)) (literals P t (moved v.state rs (t -ℚ v.time)))
enter_by P L v R rs a t r h k w n c = record {
  rate = rs;
  rate_is = r;
  later = h;
  within = k;
  stretch = stretch_to P v.state R rs a (t -ℚ v.time) w n;
  arrival_is = refl;
  after_is = refl;
  cause = c;
}

sub_within : (u t c : Fraction) → u ≤ℚ t → u -ℚ c ≤ℚ t -ℚ c
sub_within u t c h = common3 (u -ℚ c ≤ℚ t -ℚ c) u t c (λ D d U T C.
    let h' = le_num D _ _ U T h in
    num_le D _ _ (search commons) (search commons) (simp nums (omega (arith, linear))))

quiet_upto : (P : Problem) (s : State) (R : List ℕ) (rs : List Fraction) (b : Fraction) → Stretch P s R rs b → (whole (pos 0) <ℚ b → IsQuiet P (moved s rs b) R rs) → (x : Fraction) → whole (pos 0) <ℚ x → x ≤ℚ b → IsQuiet P (moved s rs x) R rs
quiet_upto P s R rs b st q x p l = elim (<ℚ_or x b) [
  | inl h ↦ st x p h
  | inr o ↦ elim o [
    | inl e ↦ subst (λ z. IsQuiet P (moved s rs z) R rs) (sym e) (q (subst (λ z. whole (pos 0) <ℚ z) e p))
    | inr h ↦ absurd (not_below b x h l)
  ]
]

-- an event holds just after t, which is quiet
pub momentless_by : (P : Problem) (L : Plan) (v : View) (R : List ℕ) (rs : List Fraction) (t : Fraction) (e : ℕ)
    → v.running ≡ Some R → rates P v.state R ≡ Ok rs → v.time ≤ℚ t → t <ℚ until P L v
    → Stretch P v.state R rs (t -ℚ v.time) → (whole (pos 0) <ℚ t -ℚ v.time → IsQuiet P (moved v.state rs (t -ℚ v.time)) R rs)
    → IsFirst (HoldsAfter P (moved v.state rs (t -ℚ v.time)) rs) e → IsMomentless P (until P L v) v e t
momentless_by P L v R rs t e m r h k st q f = record {
  running = R;
  runs = m;
  rate = rs;
  rate_is = r;
  from = h;
  before = k;
  quiet = λ u p l. quiet_upto P v.state R rs (t -ℚ v.time) st q (u -ℚ v.time) (sub_above v.time u p) (sub_within u t v.time l);
  first = f;
}
