-- A plan that is accepted is inside the limits as acts and an end: without what is asked of instances, and with the end that it has, or
-- with one at the time of its last action.
use Rattle.std.proofs.Common.{◌≡◌, ◌⊎◌, inl, inr, ℕ, zero, suc, ◌≤◌, ◌<◌, Bool, true, false, List, [], ◌∷◌, ◌++◌, length, refl, ap, ap₂, sym, subst, ◌∙◌, arith, pos, if◌then◌else◌}
use Rattle.std.specs.Prelude.{Option, Some, None, slice_get}
use Rattle.plus_fraction.specs.Fraction.{Fraction, whole as ratio, ◌≤ℚ◌}
use Rattle.plus_model.specs.Terms.{Action, Problem}
use Rattle.plus_model.specs.Firing.{firing}
use Rattle.plus_model.specs.Laws.{GoesOnFrom}
use Rattle.plus_model.specs.Plan.{Called, Instance, UnknownAction, WrongArguments, Line, ActLine, EndLine, time_of, Plan, IsInOrder}
use Rattle.plus_model.specs.History.{Part, View, view_after, view_from}
use Rattle.plus_model.specs.Trajectory.{is_below, next_line, time_or, least, until, Next, Follow, HasBegun, IsEndOrNone, Prefix, Trajectory, first_part, first_view, view_of}
use Rattle.plus_model.proofs.Later.{later_follow, prefix_goes_on}
use Rattle.plus_model.proofs.Moments.{≤ℚ_refl}
use Rattle.plus_model.proofs.Paths.{view_is}
use Rattle.plus_number.specs.Frac.{IsFrac64}
use Rattle.plus_planner.specs.Grid.{asked_in, IsClearIn}
use Rattle.plus_planner.specs.Laws.{ending_at, last_time}
use Rattle.plus_planner.proofs.Waiting.{Played, AtLast, at_end, start, before_last, last_part}
use Rattle.plus_state.proofs.Testing.{pass_append, pass_left, pass_right}
use Rattle.plus_stretch.specs.StretchTests.{if_empty}
use Rattle.plus_stretch.specs.Tests.{Test, Passes, AllPass}
use Rattle.plus_timeline.specs.Asked.{round_tests, closing_tests, act_tests, line_tests, advance_by, nothing_due, is_there, asked}
use Rattle.plus_timeline.specs.Played.{entries_of, asked_at, IsClear}
use Rattle.plus_timeline.proofs.Played.{tail_is}
use Rattle.plus_timeline.proofs.Stays.{asked_is, asked_stays, listed}
use Rattle.plus_trim.specs.Acts.{Act, lines_of, whole, plan_of, AreAhead}
use Rattle.plus_trim.specs.Judging.{IsInside}
use Rattle.plus_trim.proofs.Lines.{whole_begun}
use Rattle.plus_trim_command.specs.Acts.{acts_in}
use Rattle.plus_trim_command.proofs.Calls.{order_behind}

abbrev closed : List Line → Plan
closed lines = record { lines = lines; closed = true }

-- ---- without what is asked of instances

module _ (P : Problem) (L : Plan) (most : ℕ) (instance : ℕ → List Test) (n : ℕ) (v : View) where
  line_less : (o : Option Line) → AllPass IsFrac64 (line_tests P L instance v o) → AllPass IsFrac64 (line_tests P L (λ i. []) v o)
  line_less None a = a
  line_less (Some (EndLine t)) a = a
  line_less (Some (ActLine t (Instance action))) a = pass_right (Passes IsFrac64) (instance v.acted) (act_tests v.acted action v.state) a
  line_less (Some (ActLine t (UnknownAction name))) a = a
  line_less (Some (ActLine t (WrongArguments name))) a = a

  there_less : (front : List Test) (b : Bool) (o : Option Line) → AllPass IsFrac64 (front ++ (if b then line_tests P L instance v o else [])) → AllPass IsFrac64 (front ++ (if b then line_tests P L (λ i. []) v o else []))
  there_less front false o a = a
  there_less front true o a =
      pass_append (Passes IsFrac64) front (line_tests P L (λ i. []) v o) (pass_left (Passes IsFrac64) front (line_tests P L instance v o) a)
      (line_less o (pass_right (Passes IsFrac64) front (line_tests P L instance v o) a))

  pub asked_less : AllPass IsFrac64 (asked P L most instance n v) → AllPass IsFrac64 (asked P L most (λ i. []) n v)
  asked_less a =
      subst (AllPass IsFrac64) (sym (asked_is P L most (λ i. []) n v))
      (there_less (advance_by P most n (until P L v) v v.running) (is_there P (until P L v) v v.running) (next_line L v)
      (subst (AllPass IsFrac64) (asked_is P L most instance n v) a))

-- a plan that has an end
with_end : (P : Problem) (L : Plan) (most : ℕ) (instance : ℕ → List Test) (h : List Part) → Trajectory P L h → IsClear IsFrac64 P L most instance h → AllPass IsFrac64 (asked_at P L most instance h) → IsInside IsFrac64 P most L
with_end P L most instance h j c a = record {
  history = h;
  happens = j;
  clear = λ g part rest q e. asked_less P L most instance (entries_of g) (view_of P g) (c g part rest q e);
  passes = asked_less P L most instance (entries_of h) (view_of P h) a;
}

-- ---- with an end at the time of the last action

-- what follows up to a part, and the part
follow_up : (P : Problem) (L : Plan) (v : View) (xs : List Part) (part : Part) (ys : List Part) → Follow P L v (xs ++ part ∷ ys) → Follow P L v xs × Next P L (view_from v xs) part
follow_up P L v [] part ys f = (tt, f.1)
follow_up P L v (x ∷ xs) part ys f = let k = follow_up P L (view_after v x) xs part ys f.2 in ((f.0, f.1, k.0), k.1)

ended_some : (ls : List Line) (t : Fraction) → ls ++ EndLine t ∷ [] ≡ [] → ⊥
ended_some [] t e = cc e
ended_some (l ∷ ls) t e = cc e

module _ (P : Problem) (lines : List Line) where
  abbrev ending : Plan
  ending = ending_at lines (last_time lines)

  walked : (ps : List Part) (v : View) → Played lines v → Follow P ending v ps → Played lines (view_from v ps)
  walked [] v p f = p
  walked (p ∷ ps) v (inl h) f = walked ps (view_after v p) (before_last P lines (last_time lines) v v.running p h f.1) f.2
  walked (p ∷ ps) v (inr a) f = walked ps (view_after v p) (inr (last_part P lines (last_time lines) (last_time lines) v v.running p refl a a.moment f.1).1) f.2

-- behind all lines there is none
none_behind : (lines : List Line) (k : ℕ) → length lines ≤ k → slice_get lines k ≡ None
none_behind [] k h = refl
none_behind (l ∷ ls) zero h = absurd (omega arith)
none_behind (l ∷ ls) (suc k) h = none_behind ls k (omega arith)

-- the lines are acts alone
acts_alone : (xs : List Act) (k : ℕ) → k < length (lines_of xs) → IsEndOrNone (slice_get (lines_of xs) k) → ⊥
acts_alone [] k h n = omega arith
acts_alone (x ∷ xs) zero h n = n
acts_alone (x ∷ xs) (suc k) h n = acts_alone xs k (omega arith) n

ended_order : (xs : List Act) → IsInOrder (lines_of xs) → IsInOrder (lines_of xs ++ EndLine (last_time (lines_of xs)) ∷ [])
ended_order [] o = tt
ended_order (x ∷ []) o = (≤ℚ_refl x.0, tt)
ended_order (x ∷ y ∷ ys) o = (o.0, ended_order (y ∷ ys) o.1)

module _ (P : Problem) (xs : List Act) (most : ℕ) (instance : ℕ → List Test) (h : List Part) (j : Trajectory P (closed (lines_of xs)) h) (c : IsClear IsFrac64 P (closed (lines_of xs)) most instance h) (a : AllPass IsFrac64 (asked_at P (closed (lines_of xs)) most instance h)) where
  abbrev ls : List Line
  ls = lines_of xs

  abbrev last : Fraction
  last = last_time ls

  abbrev L : Plan
  L = closed ls

  abbrev L' : Plan
  L' = whole ls last

  goes : GoesOnFrom L L'
  goes = record { more = EndLine last ∷ []; lines = refl }

  follow_end : Follow P (ending_at ls last) (first_view P) j.prefix.rest
  follow_end = later_follow P L (ending_at ls last) (first_view P) j.prefix.rest record { more = EndLine last ∷ []; lines = refl } (inl (ended_some ls last)) j.prefix.follow

  played : Played ls (view_of P h)
  played = subst (Played ls) (sym (view_is P h j.prefix.rest j.prefix.begins)) (walked P ls j.prefix.rest (first_view P) (start P ls) follow_end)

  at_last : AtLast ls (view_of P h)
  at_last = elim played [ inl k ↦ absurd (acts_alone xs (view_of P h).acted k j.worked.acted) | inr l ↦ l ]

  next_none : next_line L (view_of P h) ≡ None
  next_none = none_behind ls (view_of P h).acted (let e = at_last.all in omega arith)

  next_end : next_line L' (view_of P h) ≡ Some (EndLine last)
  next_end = subst (λ (k : ℕ). slice_get (ls ++ EndLine last ∷ []) k ≡ Some (EndLine last)) (sym at_last.all) (at_end ls (EndLine last))

  same_until : until P L' (view_of P h) ≡ until P L (view_of P h)
  same_until =
      ap (λ (o : Option Line). least (view_of P h).time (time_or o (view_of P h).time) P.timed) next_end
      ∙ ap (λ (t : Fraction). least (view_of P h).time t P.timed) (sym at_last.now)
      ∙ sym (ap (λ (o : Option Line). least (view_of P h).time (time_or o (view_of P h).time) P.timed) next_none)

  happens : Trajectory P L' h
  happens = record {
    prefix = prefix_goes_on P L L' h j.prefix goes (ended_order xs j.prefix.ordered) (whole_begun ls last);
    closed = refl;
    worked = record {
      acted = subst IsEndOrNone (sym next_end) tt;
      still = j.worked.still;
      moment = j.worked.moment;
      over = same_until ∙ j.worked.over;
    };
    goal = j.goal;
  }

  clear : IsClearIn IsFrac64 P L' most h
  clear g part rest q e =
      let k : j.prefix.rest ≡ q.rest ++ part ∷ rest = tail_is (first_part P) (first_part P) j.prefix.rest (q.rest ++ part ∷ rest) (sym j.prefix.begins ∙ e ∙ ap (λ ps. ps ++ part ∷ rest) q.begins) in
      let f : Follow P L (first_view P) (q.rest ++ part ∷ rest) = subst (Follow P L (first_view P)) k j.prefix.follow in
      let k' = follow_up P L (first_view P) q.rest part rest f in
      let n : Next P L (view_of P g) part = subst (λ v. Next P L v part) (sym (view_is P g q.rest q.begins)) k'.1 in
      let o : Prefix P L g = record { ordered = j.prefix.ordered; rest = q.rest; begins = q.begins; follow = k'.0 } in
      asked_less P L' most instance (entries_of g) (view_of P g)
      (subst (AllPass IsFrac64) (asked_stays P L L' most instance (entries_of g) (view_of P g) part goes n) (c g part rest o e))

  end_tests : (o o' : Option Line) → o ≡ None → o' ≡ Some (EndLine last) → line_tests P L instance (view_of P h) o ≡ line_tests P L' instance (view_of P h) o'
  end_tests o o' e e' =
      ap (λ (x : Option Line). line_tests P L instance (view_of P h) x) e
      ∙ sym (ap (λ (x : Option Line). line_tests P L' instance (view_of P h) x) e')

  passes : AllPass IsFrac64 (asked_in P L' most h)
  passes =
      let v = view_of P h in
      let n = entries_of h in
      asked_less P L' most instance n v
      (subst (AllPass IsFrac64)
      (asked_is P L most instance n v
      ∙ ap₂ (λ (u : Fraction) (ts : List Test). advance_by P most n u v v.running ++ (if is_there P u v v.running then ts else [])) (sym same_until)
      (end_tests (next_line L v) (next_line L' v) next_none next_end)
      ∙ sym (asked_is P L' most instance n v)) a)

  pub with_last : IsInside IsFrac64 P most (plan_of xs last)
  with_last = record { history = h; happens = happens; clear = clear; passes = passes }

-- ---- a plan of instances is acts and an end, or acts alone

pub data Shaped (lines : List Line) : Type 0 where
  alone : lines ≡ lines_of (acts_in lines) → Shaped lines
  ended : (t : Fraction) → lines ≡ lines_of (acts_in lines) ++ EndLine t ∷ [] → Shaped lines

abbrev pub CallsInstances : List Line → Type 0
CallsInstances lines = (i : ℕ) (t : Fraction) (c : Called) → slice_get lines i ≡ Some (ActLine t c) → (a : Action) × (c ≡ Instance a)

one_more : (t : Fraction) (a : Action) (lines : List Line) → Shaped lines → Shaped (ActLine t (Instance a) ∷ lines)
one_more t a lines (alone e) = alone (ap (λ ks. ActLine t (Instance a) ∷ ks) e)
one_more t a lines (ended u e) = ended u (ap (λ ks. ActLine t (Instance a) ∷ ks) e)

pub shaped : (lines : List Line) → IsInOrder lines → CallsInstances lines → Shaped lines
shaped [] o c = alone refl
shaped (EndLine t ∷ []) o c = ended t refl
shaped (EndLine t ∷ l ∷ ls) o c = absurd o
shaped (ActLine t (Instance a) ∷ ls) o c = one_more t a ls (shaped ls (order_behind (ActLine t (Instance a)) ls o) (λ i. c (suc i)))
shaped (ActLine t (UnknownAction n) ∷ ls) o c = absurd (let e = (c 0 t (UnknownAction n) refl).1 in cc e)
shaped (ActLine t (WrongArguments n) ∷ ls) o c = absurd (let e = (c 0 t (WrongArguments n) refl).1 in cc e)

pub last_ended : (lines : List Line) (t : Fraction) → last_time (lines ++ EndLine t ∷ []) ≡ t
last_ended [] t = refl
last_ended (l ∷ []) t = refl
last_ended (l ∷ m ∷ ms) t = last_ended (m ∷ ms) t

-- ---- times

abbrev head_time : List Act → Fraction → Fraction
head_time [] last = last
head_time (x ∷ xs) last = x.0

ahead : (t : Fraction) (xs : List Act) (last : Fraction) → t ≤ℚ head_time xs last → IsInOrder (lines_of xs ++ EndLine last ∷ []) → AreAhead t xs last
ahead t [] last h o = h
ahead t (x ∷ []) last h o = (h, o.0)
ahead t (x ∷ y ∷ ys) last h o = (h, ahead x.0 (y ∷ ys) last o.0 o.1)

-- each time is at 0 or later
abbrev pub AreLater : List Line → Type 0
AreLater [] = Unit {0}
AreLater (l ∷ ls) = (ratio (pos 0) ≤ℚ time_of l) × AreLater ls

alone_head : (xs : List Act) → AreLater (lines_of xs) → ratio (pos 0) ≤ℚ head_time xs (last_time (lines_of xs))
alone_head [] l = ≤ℚ_refl (ratio (pos 0))
alone_head (x ∷ xs) l = l.0

ended_head : (xs : List Act) (t : Fraction) → AreLater (lines_of xs ++ EndLine t ∷ []) → ratio (pos 0) ≤ℚ head_time xs t
ended_head [] t l = l.0
ended_head (x ∷ xs) t l = l.0

-- ---- all together

pub record IsPlanIn (P : Problem) (most : ℕ) (lines : List Line) : Type 0 where
  pub ahead : AreAhead (ratio (pos 0)) (acts_in lines) (last_time lines)
  pub valid : IsInside IsFrac64 P most (plan_of (acts_in lines) (last_time lines))

module _ (P : Problem) (most : ℕ) (instance : ℕ → List Test) (h : List Part) where
  alone_in : (xs : List Act) → AreLater (lines_of xs) → (j : Trajectory P (closed (lines_of xs)) h) → IsClear IsFrac64 P (closed (lines_of xs)) most instance h → AllPass IsFrac64 (asked_at P (closed (lines_of xs)) most instance h) → AreAhead (ratio (pos 0)) xs (last_time (lines_of xs)) × IsInside IsFrac64 P most (plan_of xs (last_time (lines_of xs)))
  alone_in xs l j c a = (ahead (ratio (pos 0)) xs (last_time (lines_of xs)) (alone_head xs l) (ended_order xs j.prefix.ordered), with_last P xs most instance h j c a)

  ended_in : (xs : List Act) (t : Fraction) → AreLater (lines_of xs ++ EndLine t ∷ []) → (j : Trajectory P (plan_of xs t) h) → IsClear IsFrac64 P (plan_of xs t) most instance h → AllPass IsFrac64 (asked_at P (plan_of xs t) most instance h) → AreAhead (ratio (pos 0)) xs t × IsInside IsFrac64 P most (plan_of xs t)
  ended_in xs t l j c a = (ahead (ratio (pos 0)) xs t (ended_head xs t l) j.prefix.ordered, with_end P (plan_of xs t) most instance h j c a)

  pub plan_in : (lines : List Line) → Shaped lines → AreLater lines → (j : Trajectory P (closed lines) h) → IsClear IsFrac64 P (closed lines) most instance h → AllPass IsFrac64 (asked_at P (closed lines) most instance h) → IsPlanIn P most lines
  plan_in lines (alone e) l j c a =
      let xs = acts_in lines in
      let k = alone_in xs (subst AreLater e l) (subst (λ ks. Trajectory P (closed ks) h) e j) (subst (λ ks. IsClear IsFrac64 P (closed ks) most instance h) e c)
      (subst (λ ks. AllPass IsFrac64 (asked_at P (closed ks) most instance h)) e a) in
      let t : last_time (lines_of xs) ≡ last_time lines = ap last_time (sym e) in
      record {
        ahead = subst (AreAhead (ratio (pos 0)) xs) t k.0;
        valid = subst (λ u. IsInside IsFrac64 P most (plan_of xs u)) t k.1;
      }
  plan_in lines (ended u e) l j c a =
      let xs = acts_in lines in
      let k = ended_in xs u (subst AreLater e l) (subst (λ ks. Trajectory P (closed ks) h) e j) (subst (λ ks. IsClear IsFrac64 P (closed ks) most instance h) e c)
      (subst (λ ks. AllPass IsFrac64 (asked_at P (closed ks) most instance h)) e a) in
      let t : u ≡ last_time lines = sym (last_ended (lines_of xs) u) ∙ ap last_time (sym e) in
      record {
        ahead = subst (AreAhead (ratio (pos 0)) xs) t k.0;
        valid = subst (λ w. IsInside IsFrac64 P most (plan_of xs w)) t k.1;
      }
