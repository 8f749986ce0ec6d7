-- Where all that the plan asks before its parts passes, each stretch has a length that is a value of the type of numbers: it ends
-- at the time up to which it was to go, whose node is asked, or at a root that was worked.
use Rattle.std.proofs.Common.{◌≡◌, ℕ, suc, Bool, true, false, List, [], ◌∷◌, ◌++◌, refl, ap, sym, subst, ◌∙◌, inl, inr, pos, if◌then◌else◌}
use Rattle.std.specs.Prelude.{Option, Some, Result, Ok, slice_get}
use Rattle.plus_fraction.specs.Fraction.{Fraction, whole, ◌-ℚ◌, ◌<ℚ◌, ◌≤ℚ◌}
use Rattle.plus_fraction.proofs.FractionOrder.{<ℚ_or, <ℚ_trans}
use Rattle.plus_fraction.proofs.FractionAtMost.{≤ℚ_refl, ≤ℚ-<ℚ_trans, le_lt, le_equal, le_cases, middle, middle_between}
use Rattle.plus_model.specs.Terms.{Event, Process, State, Problem}
use Rattle.plus_model.specs.Running.{rates, moved, IsQuiet, Stretch}
use Rattle.plus_model.specs.Piece.{after}
use Rattle.plus_model.specs.Live.{live}
use Rattle.plus_model.specs.Plan.{Plan}
use Rattle.plus_model.specs.History.{Part, Enter, View, view_after, view_from}
use Rattle.plus_model.specs.Trajectory.{until, Cause, at_until, event_holds, set_ends, EnterMayFollow, Next, NextBy, Follow, Prefix, first_part, first_view}
use Rattle.plus_model.specs.Breach as model
use Rattle.plus_model.proofs.Moments.{sub_above, -ℚ-lt}
use Rattle.plus_model.proofs.Motion.{no_event}
use Rattle.plus_model.proofs.Search.{OneTruth, IsCalm, spread, quiet_between}
use Rattle.plus_number.specs.Frac.{IsFrac64}
use Rattle.plus_state.specs.declared.term.Sign.TheVariants.{Minus}
use Rattle.plus_state.specs.Tested as tested
use Rattle.plus_state.specs.Asked.{node, NodeFits}
use Rattle.plus_state.proofs.Testing.{pass_left, pass_right}
use Rattle.plus_crossing.specs.Conds.{live_asks}
use Rattle.plus_stretch.specs.Tests.{Test, event, asks, breach, Passes, AllPass}
use Rattle.plus_stretch.specs.Crossings.{Among, all_roots, rising_below}
use Rattle.plus_stretch.specs.StretchTests.{owned, after_tests, root_tests, walk_tests, with_rates, stretch_tests}
use Rattle.plus_stretch.specs.Laws.{AreLeft}
use Rattle.plus_stretch.proofs.Between.{nothing_changes_between}
use Rattle.plus_stretch.proofs.Left.{search_steps}
use Rattle.plus_stretch.proofs.Thinned.{rising_from}
use Rattle.plus_timeline.specs.Asked.{advance_by, advance_tests, asked}
use Rattle.plus_timeline.specs.Played.{entries_of, IsClear}
use Rattle.plus_timeline.proofs.Played.{tail_is}
use Rattle.plus_timeline.proofs.AskedHere.{asked_on}
use Rattle.plus_watcher.specs.Told.{behind, LengthsFit}
use Rattle.plus_watcher.proofs.Histories.{front_is}
use Rattle.plus_watcher.proofs.RootsFit.{root_fits}

-- ---- along one stretch

-- it lasts for x units of time, at most `len`, and goes on there where nothing begins, unless it is over
record Lasts (P : Problem) (s : State) (R : List ℕ) (rs : List Fraction) (len x : Fraction) : Type 0 where
  low : whole (pos 0) <ℚ x
  within : x ≤ℚ len
  stretch : Stretch P s R rs x
  over : IsQuiet P (moved s rs x) R rs → x ≡ len

module _ (P : Problem) (s : State) (R : List ℕ) (rs : List Fraction) (len x : Fraction) (l : Lasts P s R rs len x) (passed : AllPass IsFrac64 (root_tests P s rs)) where
  -- with no root between a and b around x nothing begins there
  module _ (a b : Fraction) (up : whole (pos 0) ≤ℚ a) (ax : a <ℚ x) (xb : x <ℚ b) (none : (z : Fraction) → a <ℚ z → z <ℚ b → Among z (all_roots P s rs) → ⊥) where
    abbrev y : Fraction
    y = middle a x

    ay : a <ℚ y
    ay = (middle_between a x ax).0

    yx : y <ℚ x
    yx = (middle_between a x ax).1

    before : IsQuiet P (moved s rs y) R rs
    before = l.stretch y (≤ℚ-<ℚ_trans (whole (pos 0)) a y up ay) yx

    steady : ((k : ℕ) (e : Event) → slice_get P.events k ≡ Some e → OneTruth e.condition s rs a b) × ((k : ℕ) (p : Process) → slice_get P.processes k ≡ Some p → OneTruth p.condition s rs a b)
    steady = nothing_changes_between IsFrac64 P s rs a b up passed none

    calm : IsCalm P s R rs y b
    calm = record {
      events = λ k e g u v yu ub yv vb. steady.0 k e g u v (<ℚ_trans a y u ay yu) ub (<ℚ_trans a y v ay yv) vb;
      processes = λ k p g u v yu ub yv vb. steady.1 k p g u v (<ℚ_trans a y u ay yu) ub (<ℚ_trans a y v ay yv) vb;
      none = λ k e g j. no_event P (moved s rs y) k e before.still g
          (spread e.condition s rs a b y (steady.0 k e g) (le_lt a y ay) (<ℚ_trans y x b yx xb) j y ay (<ℚ_trans y x b yx xb));
      on = before.on;
    }

    quiet_here : IsQuiet P (moved s rs x) R rs
    quiet_here = quiet_between P s R rs y b x calm yx xb

  module _ (fits : IsFrac64 len) where
    -- it is over, so it ends where it was to end
    to_end : IsQuiet P (moved s rs x) R rs → IsFrac64 x
    to_end q = subst IsFrac64 (sym (l.over q)) fits

    -- or at one of the roots that are left behind a
    search_from : (a : Fraction) (left : List Fraction) → whole (pos 0) ≤ℚ a → a <ℚ x → AreLeft P s rs a len left → ((z : Fraction) → Among z left → Among z (all_roots P s rs)) → IsFrac64 x
    search_from a [] up ax are of = elim (le_cases x len l.within) [
      | inl xl ↦ to_end (quiet_here a len up ax xl (λ z p q i. search_steps.none_left P s rs a len are z p q i))
      | inr e ↦ subst IsFrac64 (sym e) fits
    ]
    search_from a (b ∷ left) up ax are of = elim (<ℚ_or x b) [
      | inl xb ↦ to_end (quiet_here a b up ax xb (λ z p q i. search_steps.none_before P s rs a b len left are z p q i))
      | inr o ↦ elim o [
        | inl e ↦ subst IsFrac64 (sym e) (root_fits IsFrac64 b P s rs passed (of b (inl refl)))
        | inr bx ↦ search_from b left (le_lt (whole (pos 0)) b (≤ℚ-<ℚ_trans (whole (pos 0)) a b up are.rise.0)) bx
            (search_steps.next P s rs a b len left are) (λ z i. of z (inr i))
      ]
    ]

    length_fits : IsFrac64 x
    length_fits =
        search_from (whole (pos 0)) (rising_below len (all_roots P s rs)) (≤ℚ_refl (whole (pos 0))) l.low (search_steps.begin P s rs len)
        (λ z i. rising_from len z (all_roots P s rs) i)

-- ---- what is asked along it

breach_fails : (b : model.Breach) → AllPass IsFrac64 (breach b ∷ []) → ⊥
unfolding tested.AllPass Passes
breach_fails b h = h.0

-- a breach is no test that passes, so the others are asked
no_breach : (b : model.Breach) (z : Bool) (ts : List Test) → AllPass IsFrac64 (if z then breach b ∷ [] else ts) → AllPass IsFrac64 ts
no_breach b true ts h = absurd (breach_fails b h)
no_breach b false ts h = h

-- behind what is asked of the events just after
behind_events : (t : Fraction) (k : ℕ) (es : List Event) (s : State) (rs : List Fraction) (rest : List Test) → AllPass IsFrac64 (after_tests t k es s rs rest) → AllPass IsFrac64 rest
behind_events t k [] s rs rest h = h
behind_events t k (e ∷ es) s rs rest h =
    behind_events t (suc k) es s rs rest
    (no_breach (model.NoFirstMoment k t) (after (live e.condition s) s rs) (after_tests t (suc k) es s rs rest)
    (pass_right (Passes IsFrac64) (owned (event k) (live_asks 0 e.condition s rs)) _ h))

length_then_roots : (u t : Fraction) (xs ys : List Test) → AllPass IsFrac64 (asks (node Minus u t) ∷ (xs ++ ys)) → IsFrac64 (u -ℚ t) × AllPass IsFrac64 xs
unfolding tested.AllPass Passes NodeFits
length_then_roots u t xs ys h = (h.0, pass_left (Passes IsFrac64) xs ys h.1)

module _ (P : Problem) (u : Fraction) (v : View) (R : List ℕ) (rs : List Fraction) (rate : rates P v.state R ≡ Ok rs) where
  abbrev behind_soon : List Test
  behind_soon =
      asks (node Minus u v.time)
      ∷ (root_tests P v.state rs ++ walk_tests P v.time v.state R rs (u -ℚ v.time) (rising_below (u -ℚ v.time) (all_roots P v.state rs)))

  tests_are : stretch_tests P u v R ≡ after_tests v.time 0 P.events v.state rs behind_soon
  unfolding stretch_tests
  tests_are =
      ap (λ (o : Result (List Fraction) ℕ). with_rates o (λ rs. after_tests v.time 0 P.events v.state rs (asks (node Minus u v.time)
      ∷ (root_tests P v.state rs ++ walk_tests P v.time v.state R rs (u -ℚ v.time) (rising_below (u -ℚ v.time) (all_roots P v.state rs)))))) rate

  both_pass : AllPass IsFrac64 (stretch_tests P u v R) → IsFrac64 (u -ℚ v.time) × AllPass IsFrac64 (root_tests P v.state rs)
  both_pass a =
      length_then_roots u v.time (root_tests P v.state rs) _
      (behind_events v.time 0 P.events v.state rs behind_soon (subst (AllPass IsFrac64) tests_are a))

-- ---- at one end

over_by : (P : Problem) (R : List ℕ) (rs : List Fraction) (AtUntil : Type 0) (arrival : State) → Cause P R rs AtUntil arrival → IsQuiet P arrival R rs → AtUntil
over_by P R rs AtUntil arrival c q = elim c [
  | at_until e ↦ e
  | event_holds f ↦ absurd (f q.still)
  | set_ends f ↦ absurd (f q.on)
]

ends_fit : (P : Problem) (u : Fraction) (v : View) (R : List ℕ) (t : Fraction) (arrival s : State) → EnterMayFollow P u v R t arrival s → AllPass IsFrac64 (stretch_tests P u v R) → IsFrac64 (t -ℚ v.time)
ends_fit P u v R t arrival s m a =
    let b = both_pass P u v R m.rate m.rate_is a in
    length_fits P v.state R m.rate (u -ℚ v.time) (t -ℚ v.time) (record {
      low = sub_above v.time t m.later;
      within = elim (le_cases t u m.within) [ inl l ↦ le_lt _ _ (-ℚ-lt t u v.time l) | inr e ↦ le_equal _ _ (ap (λ (z : Fraction). z -ℚ v.time) e) ];
      stretch = m.stretch;
      over = λ q. ap (λ (z : Fraction). z -ℚ v.time) (over_by P R m.rate (t ≡ u) arrival m.cause (subst (λ (z : State). IsQuiet P z R m.rate) (sym m.arrival_is) q));
    }) b.1 b.0

-- ---- along a history

record InFront (P : Problem) (L : Plan) (xs : List Part) (part : Part) : Type 0 where
  prefix : Prefix P L (first_part P ∷ xs)
  next : Next P L (view_from (first_view P) xs) part

follow_front : (P : Problem) (L : Plan) (v : View) (xs ys : List Part) (part : Part) → Follow P L v (xs ++ part ∷ ys) → Follow P L v xs × Next P L (view_from v xs) part
follow_front P L v [] ys part f = (tt, f.1)
follow_front P L v (x ∷ xs) ys part f =
    let k = follow_front P L (view_after v x) xs ys part f.2 in
    ((f.0, f.1, k.0), k.1)

in_front : (P : Problem) (L : Plan) (h xs ys : List Part) (part : Part) → Prefix P L h → h ≡ first_part P ∷ (xs ++ part ∷ ys) → InFront P L xs part
in_front P L h xs ys part p e =
    let k : p.rest ≡ xs ++ part ∷ ys = tail_is (first_part P) (first_part P) p.rest (xs ++ part ∷ ys) (sym p.begins ∙ e) in
    let f = follow_front P L (first_view P) xs ys part (subst (Follow P L (first_view P)) k p.follow) in
    record { prefix = record { ordered = p.ordered; rest = xs; begins = refl; follow = f.0 }; next = f.1 }

module _ (P : Problem) (L : Plan) (most entries : ℕ) (instance : ℕ → List Test) (v : View) (R : List ℕ) (t : Fraction) (arrival s : State) (runs : v.running ≡ Some R)
    (next : Next P L v (Enter t arrival s)) where
  abbrev u : Fraction
  u = until P L v

  asked_is : asked P L most instance entries v ≡ stretch_tests P u v R
  unfolding advance_tests
  asked_is = asked_on P L most instance entries v (Enter t arrival s) tt next ∙ ap (advance_by P most entries u v) runs

  may : EnterMayFollow P u v R t arrival s
  may = subst (λ (o : Option (List ℕ)). NextBy P L v o (Enter t arrival s)) runs next

  end_fits : AllPass IsFrac64 (asked P L most instance entries v) → IsFrac64 (t -ℚ v.time)
  end_fits a = ends_fit P u v R t arrival s may (subst (AllPass IsFrac64) asked_is a)

module _ (P : Problem) (L : Plan) (h : List Part) (most : ℕ) (instance : ℕ → List Test) (p : Prefix P L h) (clear : IsClear IsFrac64 P L most instance h) where
  fit_behind : (xs more : List Part) (t : Fraction) (arrival s : State) (R : List ℕ) → h ≡ first_part P ∷ (xs ++ Enter t arrival s ∷ more)
      → (view_from (first_view P) xs).running ≡ Some R → IsFrac64 (t -ℚ (view_from (first_view P) xs).time)
  fit_behind xs more t arrival s R e runs =
      let k = in_front P L h xs more (Enter t arrival s) p e in
      end_fits P L most (entries_of (first_part P ∷ xs)) instance (view_from (first_view P) xs) R t arrival s runs k.next
      (clear (first_part P ∷ xs) (Enter t arrival s) more k.prefix e)

  pub lengths_fit : LengthsFit P h
  lengths_fit = λ before more t arrival s R e runs. go before more t arrival s R e runs
    where
      go : (before more : List Part) (t : Fraction) (arrival s : State) (R : List ℕ) → h ≡ before ++ Enter t arrival s ∷ more → (behind P before).running ≡ Some R → IsFrac64 (t -ℚ (behind P before).time)
      go [] more t arrival s R e runs = cc runs
      go (x ∷ xs) more t arrival s R e runs =
          let head : first_part P ≡ x = front_is (first_part P) x p.rest (xs ++ Enter t arrival s ∷ more) (sym p.begins ∙ e) in
          subst (λ (y : Part). IsFrac64 (t -ℚ (behind P (y ∷ xs)).time)) head
          (fit_behind xs more t arrival s R (e ∙ ap (λ (y : Part). y ∷ (xs ++ Enter t arrival s ∷ more)) (sym head))
          (subst (λ (y : Part). (behind P (y ∷ xs)).running ≡ Some R) (sym head) runs))
