-- Each action of a plan with a trajectory is an instance; and where all that is asked passes, so does what is asked of the instance.
use Rattle.std.proofs.Common.{◌≡◌, ◌⊎◌, inl, inr, ℕ, zero, suc, ◌≤◌, ◌<◌, Bool, true, false, List, [], ◌∷◌, ◌++◌, refl, ap, sym, subst, ◌∙◌, arith, if◌then◌else◌}
use Rattle.std.specs.Prelude.{Option, Some, None, slice_get}
use Rattle.plus_fraction.specs.Fraction.{Fraction, ◌≤ℚ◌}
use Rattle.plus_model.specs.Terms.{Action, State, Problem}
use Rattle.plus_model.specs.Firing.{firing}
use Rattle.plus_model.specs.Plan.{Called, Instance, Line, ActLine, EndLine, Plan, IsInOrder}
use Rattle.plus_model.specs.History.{Part, Enter, Round, Act, Run, View, view_after, view_from}
use Rattle.plus_model.specs.Trajectory.{is_below, next_line, time_or, until, ActMayFollow, NextBy, Follow, IsEndOrNone, Prefix, Trajectory, first_part, first_view, view_of}
use Rattle.plus_model.proofs.Moments.{not_below, from_below}
use Rattle.plus_model.proofs.Paths.{view_is}
use Rattle.plus_model.proofs.Steps.{until_within}
use Rattle.plus_number.specs.Frac.{IsFrac64}
use Rattle.plus_planner.proofs.Ready.{begin_follow}
use Rattle.plus_state.proofs.Testing.{pass_left, pass_right}
use Rattle.plus_stretch.specs.StretchTests.{if_empty}
use Rattle.plus_stretch.specs.Tests.{Test, Passes, AllPass}
use Rattle.plus_timeline.specs.Asked.{round_tests, act_tests, closing_tests, line_tests, nothing_due, asked}
use Rattle.plus_timeline.specs.Played.{entries_of, IsClear}
use Rattle.plus_timeline.proofs.Stays.{by_bool, asked_is, listed}

-- the line calls an instance, and what is asked of it passes
abbrev pub IsDone : List Line → (ℕ → List Test) → ℕ → Type 0
IsDone lines instance i =
    (t : Fraction) × (a : Action) × (slice_get lines i ≡ Some (ActLine t (Instance a))) × AllPass IsFrac64 (instance i)

due_now : (P : Problem) (L : Plan) (v : View) (line : Line) → next_line L v ≡ Some line → time_or (Some line) v.time ≡ v.time → is_below v.time (until P L v) ≡ false
due_now P L v line e t = by_bool (is_below v.time (until P L v)) (λ b.
    not_below v.time (until P L v) (from_below v.time (until P L v) b)
    (subst (λ (x : Fraction). until P L v ≤ℚ x) (ap (λ (o : Option Line). time_or o v.time) e ∙ t) (until_within P L v)))

module _ (P : Problem) (L : Plan) (most : ℕ) (instance : ℕ → List Test) where
  instance_by : (v : View) (n : ℕ) (t : Fraction) (a : Action) (fs : List ℕ) (b : Bool) (o : Option Line) → fs ≡ [] → b ≡ false → o ≡ Some (ActLine t (Instance a))
      → AllPass IsFrac64 ((round_tests P v.fired v.state ++ if_empty fs (if b then closing_tests P most n v.state else [])) ++ (if nothing_due fs b then line_tests P L instance v o else []))
      → AllPass IsFrac64 (instance v.acted)
  instance_by v n t a (f ∷ fs) b o e d k h = cc e
  instance_by v n t a [] true o e d k h = cc d
  instance_by v n t a [] false o e d k h =
      pass_left (Passes IsFrac64) (instance v.acted) (act_tests v.acted a v.state)
      (subst (λ (x : Option Line). AllPass IsFrac64 (line_tests P L instance v x)) k (pass_right (Passes IsFrac64) (round_tests P v.fired v.state ++ []) (line_tests P L instance v o) h))

  done_by : (v : View) (n : ℕ) (r : Option (List ℕ)) (i : ℕ) (s : State) → NextBy P L v r (Act i s) → AllPass IsFrac64 (listed P L most instance n (until P L v) v r (next_line L v)) → IsDone L.lines instance v.acted
  done_by v n (Some R) i s k h = absurd k
  done_by v n None i s k h = (
    v.time,
    k.action,
    k.due,
    instance_by v n v.time k.action (firing P v.state) (is_below v.time (until P L v)) (next_line L v) k.acts.still
        (due_now P L v (ActLine v.time (Instance k.action)) k.due refl) k.due h,
  )

  -- all that is asked in front of each of these parts passes
  abbrev AskedBefore : View → List Part → Type 0
  AskedBefore v parts =
      (front : List Part) (part : Part) (rest : List Part) → parts ≡ front ++ part ∷ rest
      → (n : ℕ) × AllPass IsFrac64 (asked P L most instance n (view_from v front))

  here : (v : View) (part : Part) (parts : List Part) → AskedBefore v (part ∷ parts) → (n : ℕ) × AllPass IsFrac64 (listed P L most instance n (until P L v) v v.running (next_line L v))
  here v part parts c = let k = c [] part parts refl in (k.0, subst (AllPass IsFrac64) (asked_is P L most instance k.0 v) k.1)

  at_or_above : (k i : ℕ) → k ≤ i → (k ≡ i) ⊎ (suc k ≤ i)
  at_or_above k i h = grind arith

  done_from : (parts : List Part) (v : View) → Follow P L v parts → AskedBefore v parts → (i : ℕ) → v.acted ≤ i → i < (view_from v parts).acted → IsDone L.lines instance i
  done_from [] v f c i h k = absurd (omega arith)
  done_from (Enter t a s ∷ ps) v f c i h k = done_from ps (view_after v (Enter t a s)) f.2 (λ front part rest e. c (Enter t a s ∷ front) part rest (ap (λ xs. Enter t a s ∷ xs) e)) i h k
  done_from (Round E s ∷ ps) v f c i h k = done_from ps (view_after v (Round E s)) f.2 (λ front part rest e. c (Round E s ∷ front) part rest (ap (λ xs. Round E s ∷ xs) e)) i h k
  done_from (Run R ∷ ps) v f c i h k = done_from ps (view_after v (Run R)) f.2 (λ front part rest e. c (Run R ∷ front) part rest (ap (λ xs. Run R ∷ xs) e)) i h k
  done_from (Act j s ∷ ps) v f c i h k =
      let a = here v (Act j s) ps c in
      elim (at_or_above v.acted i h) [
        | inl e ↦ subst (IsDone L.lines instance) e (done_by v a.0 v.running j s f.1 a.1)
        | inr l ↦ done_from ps (view_after v (Act j s)) f.2 (λ front part rest e. c (Act j s ∷ front) part rest (ap (λ xs. Act j s ∷ xs) e)) i l k
      ]

  asked_before : (h : List Part) (p : Prefix P L h) → IsClear IsFrac64 P L most instance h → AskedBefore (first_view P) p.rest
  asked_before h p c = λ front part rest e. (
    entries_of (first_part P ∷ front),
    c (first_part P ∷ front) part rest
        record { ordered = p.ordered; rest = front; begins = refl; follow = begin_follow P L (first_view P) front (part ∷ rest) (subst (Follow P L (first_view P)) e p.follow) }
        (p.begins ∙ ap (λ xs. first_part P ∷ xs) e),
  )

-- ---- no action stands behind the last that is done

none_there : {X : Type 0} (i : ℕ) (x : X) → slice_get [] i ≡ Some x → ⊥
none_there i x e = cc e

after_end : (t : Fraction) (lines : List Line) → IsInOrder (EndLine t ∷ lines) → lines ≡ []
after_end t [] o = refl
after_end t (l ∷ ls) o = absurd o

pub order_behind : (line : Line) (lines : List Line) → IsInOrder (line ∷ lines) → IsInOrder lines
order_behind line [] o = tt
order_behind (ActLine t c) (l ∷ ls) o = o.1
order_behind (EndLine t) (l ∷ ls) o = absurd o

act_before : (lines : List Line) (k i : ℕ) (t : Fraction) (c : Called) → IsInOrder lines → IsEndOrNone (slice_get lines k) → slice_get lines i ≡ Some (ActLine t c) → i < k
act_before [] k i t c o n e = absurd (none_there i (ActLine t c) e)
act_before (ActLine u d ∷ ls) zero i t c o n e = absurd n
act_before (EndLine u ∷ ls) zero zero t c o n e = cc e
act_before (EndLine u ∷ ls) zero (suc i) t c o n e = absurd (none_there i (ActLine t c) (subst (λ (xs : List Line). slice_get xs i ≡ Some (ActLine t c)) (after_end u ls o) e))
act_before (l ∷ ls) (suc k) zero t c o n e = omega arith
act_before (l ∷ ls) (suc k) (suc i) t c o n e = let b : i < k = act_before ls k i t c (order_behind l ls o) n e in omega arith

-- each action of the plan is done
pub all_done : (P : Problem) (lines : List Line) (most : ℕ) (instance : ℕ → List Test) (h : List Part) → Trajectory P record { lines = lines; closed = true } h → IsClear IsFrac64 P record { lines = lines; closed = true } most instance h → (i : ℕ) (t : Fraction) (c : Called) → slice_get lines i ≡ Some (ActLine t c) → IsDone lines instance i
all_done P lines most instance h j clear i t c e =
    let L : Plan = record { lines = lines; closed = true } in
    let v = view_is P h j.prefix.rest j.prefix.begins in
    let b : i < (view_of P h).acted = act_before lines (view_of P h).acted i t c j.prefix.ordered j.worked.acted e in
    done_from P L most instance j.prefix.rest (first_view P) j.prefix.follow (asked_before P L most instance h j.prefix clear) i (omega arith)
    (subst (λ (x : View). i < x.acted) v b)
