-- From root to root: how far nothing begins, and what each end of the search gives.
use Rattle.std.proofs.Common.{◌≡◌, ℕ, List, [], ◌∷◌, ◌++◌, map, refl, ap, sym, subst, ◌∙◌, inl, inr, pos}
use Rattle.std.specs.Prelude.{Option, Some, None, Result, Ok, Err}
use Rattle.plus_fraction.specs.Fraction.{Fraction, whole, ◌+ℚ◌, ◌-ℚ◌, ◌<ℚ◌, ◌≤ℚ◌}
use Rattle.plus_fraction.proofs.Ring.{var, num, ◌⊕◌, ◌⊖◌}
use Rattle.plus_fraction.proofs.FractionRing.{ringℚ}
use Rattle.plus_fraction.proofs.FractionAtMost.{le_lt, le_equal, le_cases, ≤ℚ_refl, ≤ℚ-<ℚ_trans, <ℚ-≤ℚ_trans}
use Rattle.plus_fraction.proofs.FractionOrder.{<ℚ_irrefl}
use Rattle.plus_model.specs.Terms.{State, Problem}
use Rattle.plus_model.specs.Running.{rates, moved, GoesOn, IsQuiet, Stretch}
use Rattle.plus_model.specs.Trajectory.{literals, Cause, at_until, event_holds, set_ends, EnterMayFollow}
use Rattle.plus_model.specs.Breach.{IsFirst, HoldsAfter, IsMomentless}
use Rattle.plus_model.proofs.Moments.{sub_above, -ℚ-lt}
use Rattle.plus_model.proofs.Search.{past, short, moved-zero}
use Rattle.plus_model.proofs.Searched.{NoChange, SearchedTo, searched_start, searched_next, stretch_to}
use Rattle.plus_state.specs.declared.term.Sign.TheVariants.{Minus}
use Rattle.plus_state.specs.Asked.{node}
use Rattle.plus_state.specs.Changes.{patched}
use Rattle.plus_state.proofs.Testing.{pass_append, fail_left, fail_right}
use Rattle.plus_crossing.specs.Moves.{moved_nodes}
use Rattle.plus_stretch.specs.declared.halt.Halt.{Halt}
use Rattle.plus_stretch.specs.declared.halt.Halt.TheVariants as halts
use Rattle.plus_stretch.specs.declared.arrival.Arrival.{Arrival}
use Rattle.plus_stretch.specs.declared.arrival.End.{End}
use Rattle.plus_stretch.specs.declared.arrival.End.TheVariants.{EventHolds, SetEnds, Until}
use Rattle.plus_stretch.specs.Tests.{Test, asks, Passes, AllPass, FirstFailing}
use Rattle.plus_stretch.specs.Crossings.{all_roots, rising_below, Among}
use Rattle.plus_stretch.specs.StretchTests.{after_tests, root_tests, crossing_tests, walk_tests, with_rates, stretch_tests, if_none}
use Rattle.plus_stretch.specs.Laws.{AreLeft}
use Rattle.plus_stretch.specs.After.{first_after, NoneHoldsAfter, IsNoneSoon, IsSoon}
use Rattle.plus_stretch.specs.Told.{Told, HaltTold, Never}
use Rattle.plus_stretch.specs.Here.{EndsHere, IsQuietHere, MomentlessHere, IsAlong}
use Rattle.plus_stretch.specs.Arrives.{ComesBy, BeginsThere, CrossingTold, stretch_view, EndsBy, Arrives, IsAtEnd, IsQuietAtFirst, FirstTold, WalkTold, StretchTold}
use Rattle.plus_stretch.proofs.Between.{nothing_changes_between}
use Rattle.plus_stretch.proofs.Left.{search_steps}
use Rattle.plus_stretch.proofs.SoonLemmas.{after_split}
use Rattle.plus_stretch.proofs.Halts.{halt_left, halt_right}
use Rattle.plus_stretch.proofs.CrossingLemmas.{crossing_split, crossing_quiet, crossing_ends}

-- ---- moments
pub later_by : (t r : Fraction) → (t +ℚ r) -ℚ t ≡ r
later_by t r = ringℚ (t ∷ r ∷ []) ((var 0 ⊕ var 1) ⊖ var 0) (var 1) refl

since : (time t r : Fraction) → time ≡ t +ℚ r → time -ℚ t ≡ r
since time t r e = ap (λ (z : Fraction). z -ℚ t) e ∙ later_by t r

pub up_to : (t u : Fraction) → u ≡ t +ℚ (u -ℚ t)
up_to t u = ringℚ (t ∷ u ∷ []) (var 1) (var 0 ⊕ (var 1 ⊖ var 0)) refl

no_time : (t : Fraction) → t -ℚ t ≡ whole (pos 0)
no_time t = ringℚ (t ∷ []) (var 0 ⊖ var 0) (num (pos 0)) refl

-- ---- the search
module _ (fits : Fraction → Type 0) (P : Problem) (t : Fraction) (s : State) (R : List ℕ) (rs : List Fraction) (len : Fraction) (roots : List Fraction) where
  -- it has come to a place up to which nothing begins, with these roots left
  pub record Walking (left : List Fraction) : Type 0 where
    pub at : Fraction
    pub searched : SearchedTo P s R rs at
    pub are : AreLeft P s rs at len left
    pub pass : AllPass fits (walk_tests P t s R rs len left) → AllPass fits (walk_tests P t s R rs len roots)
    pub stop : (m : Test) → FirstFailing fits (walk_tests P t s R rs len left) m → FirstFailing fits (walk_tests P t s R rs len roots) m

  pub walking_start : GoesOn P s rs R → NoneHoldsAfter P s rs → AreLeft P s rs (whole (pos 0)) len roots → Walking roots
  walking_start g n h = record { at = whole (pos 0); searched = searched_start P s R rs g n; are = h; pass = λ a. a; stop = λ m x. x }

  no_change : (a b : Fraction) → whole (pos 0) ≤ℚ a → AllPass fits (root_tests P s rs) → ((x : Fraction) → a <ℚ x → x <ℚ b → Among x (all_roots P s rs) → ⊥) → NoChange P s rs a b
  no_change a b low linear none =
      let n = nothing_changes_between fits P s rs a b low linear none in
      record { events = λ i e g. n.0 i e g; processes = λ i p g. n.1 i p g }

  module _ (linear : AllPass fits (root_tests P s rs)) (b : Fraction) (left : List Fraction) (h : Walking (b ∷ left)) where
    above : h.at <ℚ b
    above = h.are.rise.0

    pub below : b <ℚ len
    below = h.are.inside b (inl refl)

    between : NoChange P s rs h.at b
    between = no_change h.at b h.searched.start linear (search_steps.none_before P s rs h.at b len left h.are)

    pub walking_next : AllPass fits (crossing_tests P t s R rs b []) → IsQuietHere P (moved s rs b) R rs → Walking left
    walking_next a q = record {
      at = b;
      searched = searched_next P s R rs h.at b h.searched above between q.quiet q.soon.none;
      are = search_steps.next P s rs h.at b len left h.are;
      pass = λ c. h.pass (subst (AllPass fits) (sym (crossing_quiet P t s R rs b (walk_tests P t s R rs len left) q)) (pass_append (Passes fits) _ _ a c));
      stop = λ m x. h.stop m (subst (λ (ts : List Test). FirstFailing fits ts m) (sym (crossing_quiet P t s R rs b (walk_tests P t s R rs len left) q)) (fail_right (Passes fits) _ _ m a x));
    }

    pub walking_next_at : (a : AllPass fits (crossing_tests P t s R rs b [])) (q : IsQuietHere P (moved s rs b) R rs) → (walking_next a q).at ≡ b
    unfolding walking_next
    walking_next_at a q = refl

    pub there : Stretch P s R rs b
    there = stretch_to P s R rs h.at b h.searched between

    pub positive : whole (pos 0) <ℚ b
    positive = ≤ℚ-<ℚ_trans _ _ _ h.searched.start above

    -- all tests pass where something begins
    pub walking_pass : (end : End) → AllPass fits (crossing_tests P t s R rs b []) → EndsHere P (moved s rs b) R rs end → AllPass fits (walk_tests P t s R rs len roots)
    walking_pass end a e = h.pass (subst (AllPass fits) (sym (crossing_ends P t s R rs b (walk_tests P t s R rs len left) end e)) a)

    -- the first that fails there is the first of all
    pub walking_fail : (m : Test) → FirstFailing fits (crossing_tests P t s R rs b []) m → FirstFailing fits (walk_tests P t s R rs len roots) m
    walking_fail m x =
        let c = crossing_split P t s R rs b (walk_tests P t s R rs len left) in
        h.stop m (subst (λ (ts : List Test). FirstFailing fits ts m) (sym c.split) (fail_left (Passes fits) _ _ m x))

  -- with no root left nothing begins up to the end
  pub to_end : AllPass fits (root_tests P s rs) → Walking [] → Stretch P s R rs len
  to_end linear h = stretch_to P s R rs h.at len h.searched (no_change h.at len h.searched.start linear (search_steps.none_left P s rs h.at len h.are))

-- ---- the ends
module _ (P : Problem) (u t : Fraction) (s : State) (R : List ℕ) (rs : List Fraction) (rate : rates P s R ≡ Ok rs) where
  -- an entry begins r after t
  enters : (time r : Fraction) (arrival : State) → time ≡ t +ℚ r → t <ℚ time → time ≤ℚ u → Stretch P s R rs r → arrival ≡ moved s rs r → Cause P R rs (time ≡ u) arrival → EnterMayFollow P u (stretch_view t s R) R time arrival (literals P time arrival)
  enters time r arrival e after within st is cause =
      let d = since time t r e in record {
        rate = rs;
        rate_is = rate;
        later = after;
        within = within;
        stretch = subst (λ (z : Fraction). Stretch P s R rs z) (sym d) st;
        arrival_is = is ∙ ap (moved s rs) (sym d);
        after_is = refl;
        cause = cause;
      }

  cause_of : (time : Fraction) (arrival : State) (end : End) → EndsBy P u R rs time arrival end → Cause P R rs (time ≡ u) arrival
  cause_of time arrival EventHolds h = event_holds h.1
  cause_of time arrival SetEnds h = set_ends h.1.ends
  cause_of time arrival Until h = at_until h

  ends_by : (time : Fraction) (arrival : State) (end : End) → time <ℚ u → EndsHere P arrival R rs end → EndsBy P u R rs time arrival end
  ends_by time arrival EventHolds l h = (l, h)
  ends_by time arrival SetEnds l h = (l, h)
  ends_by time arrival Until l h = absurd h

  module _ {Q : Type 0} (value : Q → Fraction) where
    -- at a crossing
    pub arrives_at : (r : Fraction) (a : Arrival Q) → whole (pos 0) <ℚ r → r <ℚ u -ℚ t → Stretch P s R rs r → BeginsThere value P t s R rs r a → Arrives value P u t s R rs a
    arrives_at r a low high st b =
        let after : t <ℚ value a.time = subst (λ (z : Fraction). t <ℚ z) (sym b.time) (past t t r (≤ℚ_refl t) low) in
        let before : value a.time <ℚ u = subst (λ (z : Fraction). z <ℚ u) (sym b.time) (short t u r high) in
        let ends = ends_by (value a.time) (patched s a.changes) a.end before (subst (λ (z : State). EndsHere P z R rs a.end) (sym b.comes.is) b.ends) in record {
          may = enters (value a.time) r (patched s a.changes) b.time after (le_lt _ _ before) st b.comes.is (cause_of (value a.time) (patched s a.changes) a.end ends);
          rises = b.comes.rises;
          ends = ends;
        }

    -- at the end
    pub arrives_until : (len : Fraction) (a : Arrival Q) → t <ℚ u → len ≡ u -ℚ t → Stretch P s R rs len → value a.time ≡ u → a.end ≡ Until → ComesBy s rs len a.changes → Arrives value P u t s R rs a
    arrives_until len a later e st is d c =
        let time : value a.time ≡ t +ℚ len = is ∙ up_to t u ∙ ap (λ (z : Fraction). t +ℚ z) (sym e) in
        let ends : EndsBy P u R rs (value a.time) (patched s a.changes) a.end = subst (EndsBy P u R rs (value a.time) (patched s a.changes)) (sym d) is in record {
          may = enters (value a.time) len (patched s a.changes) time (subst (λ (z : Fraction). t <ℚ z) (sym is) later) (le_equal _ _ is) st c.is (cause_of (value a.time) (patched s a.changes) a.end ends);
          rises = c.rises;
          ends = ends;
        }

  -- ---- an event without a first moment
  quiet_up_to : (time r : Fraction) → time ≡ t +ℚ r → Stretch P s R rs r → IsQuiet P (moved s rs r) R rs → (x : Fraction) → t <ℚ x → x ≤ℚ time → IsQuiet P (moved s rs (x -ℚ t)) R rs
  quiet_up_to time r e st q x l k = elim (le_cases x time k) [
    | inl b ↦ st (x -ℚ t) (sub_above t x l) (subst (λ (z : Fraction). x -ℚ t <ℚ z) (since time t r e) (-ℚ-lt x time t b))
    | inr d ↦ subst (λ (z : Fraction). IsQuiet P (moved s rs z) R rs) (sym (ap (λ (z : Fraction). z -ℚ t) d ∙ since time t r e)) q
  ]

  pub momentless_at : (r : Fraction) (e : ℕ) (time : Fraction) → whole (pos 0) <ℚ r → r <ℚ u -ℚ t → Stretch P s R rs r → MomentlessHere P (t +ℚ r) (moved s rs r) R rs e time → IsMomentless P u (stretch_view t s R) e time
  momentless_at r e time low high st h =
      let is = h.soon.time_is in record {
        running = R;
        runs = refl;
        rate = rs;
        rate_is = rate;
        from = le_lt _ _ (subst (λ (z : Fraction). t <ℚ z) (sym is) (past t t r (≤ℚ_refl t) low));
        before = subst (λ (z : Fraction). z <ℚ u) (sym is) (short t u r high);
        quiet = quiet_up_to time r is st h.quiet;
        first = subst (λ (z : Fraction). IsFirst (HoldsAfter P (moved s rs z) rs) e) (sym (since time t r is)) h.soon.first;
      }

  pub momentless_now : (e : ℕ) (time : Fraction) → t <ℚ u → IsSoon P t s rs e time → IsMomentless P u (stretch_view t s R) e time
  momentless_now e time later h = record {
    running = R;
    runs = refl;
    rate = rs;
    rate_is = rate;
    from = le_equal _ _ (sym h.time_is);
    before = subst (λ (z : Fraction). z <ℚ u) (sym h.time_is) later;
    quiet = λ x l k. absurd (<ℚ_irrefl t (<ℚ-≤ℚ_trans t x t l (subst (λ (z : Fraction). x ≤ℚ z) h.time_is k)));
    first = subst (λ (z : State). IsFirst (HoldsAfter P z rs) e) (sym (ap (moved s rs) (ap (λ (z : Fraction). z -ℚ t) h.time_is ∙ no_time t) ∙ moved-zero s rs)) h.first;
  }

  -- ---- what each step of the search tells
  module _ {Q : Type 0} (v : Q → Fraction) (fits : Fraction → Type 0) (len : Fraction) (roots : List Fraction) (is : len ≡ u -ℚ t) (linear : AllPass fits (root_tests P s rs)) where
    module _ (b : Fraction) (left : List Fraction) (h : Walking fits P t s R rs len roots (b ∷ left)) where
      high : b <ℚ u -ℚ t
      high = subst (λ (z : Fraction). b <ℚ z) is (below fits P t s R rs len roots linear b left h)

      pub walking_halt : (halt : Halt Q) → HaltTold v fits (crossing_tests P t s R rs b []) (MomentlessHere P (t +ℚ b) (moved s rs b) R rs) halt → HaltTold v fits (walk_tests P t s R rs len roots) (IsMomentless P u (stretch_view t s R)) halt
      walking_halt (halts.NoFirstMoment e time) x = (
        walking_fail fits P t s R rs len roots linear b left h _ x.0,
        momentless_at b e.0 (v time) (positive fits P t s R rs len roots linear b left h) high (there fits P t s R rs len roots linear b left h) x.1,
      )
      walking_halt (halts.Limit l) x = walking_fail fits P t s R rs len roots linear b left h _ x
      walking_halt halts.Memory x = tt

      pub walking_arrives : (a : Arrival Q) → AllPass fits (crossing_tests P t s R rs b []) → BeginsThere v P t s R rs b a → AllPass fits (walk_tests P t s R rs len roots) × Arrives v P u t s R rs a
      walking_arrives a p x = (
        walking_pass fits P t s R rs len roots linear b left h a.end p x.ends,
        arrives_at v b a (positive fits P t s R rs len roots linear b left h) high (there fits P t s R rs len roots linear b left h) x,
      )

    pub walking_end : (a : Arrival Q) → t <ℚ u → Walking fits P t s R rs len roots [] → AllPass fits (map asks (moved_nodes s.fluents rs len)) → v a.time ≡ u → a.end ≡ Until → ComesBy s rs len a.changes → AllPass fits (walk_tests P t s R rs len roots) × Arrives v P u t s R rs a
    walking_end a later h p e d c = (h.pass p, arrives_until v len a later is (to_end fits P t s R rs len roots linear h) e d c)

    pub halt_end : (halt : Halt Q) → Walking fits P t s R rs len roots [] → HaltTold v fits (map asks (moved_nodes s.fluents rs len)) Never halt → HaltTold v fits (walk_tests P t s R rs len roots) (IsMomentless P u (stretch_view t s R)) halt
    halt_end (halts.NoFirstMoment e time) h x = absurd x.1
    halt_end (halts.Limit l) h x = h.stop _ x
    halt_end halts.Memory h x = tt

    -- the end, where no root is left
    pub end_tells : (answer : Result (Arrival Q) (Halt Q)) → t <ℚ u → Walking fits P t s R rs len roots [] → Told v fits (map asks (moved_nodes s.fluents rs len)) (IsAtEnd v u s rs len) Never answer → WalkTold v fits P u t s R rs len roots answer
    end_tells (Ok a) later h x = walking_end a later h x.0 x.1.time x.1.end x.1.comes
    end_tells (Err halt) later h x = halt_end halt h x

    -- the first root
    pub first_tells : (b : Fraction) (left : List Fraction) → roots ≡ b ∷ left → Walking fits P t s R rs len roots (b ∷ left) → (answer : Result (Option (Arrival Q)) (Halt Q)) → CrossingTold v fits P t s R rs b answer → FirstTold v fits P u t s R rs len roots answer
    first_tells b left e h (Ok None) x = subst (IsQuietAtFirst fits P t s R rs) (sym e) x
    first_tells b left e h (Ok (Some a)) x = walking_arrives b left h a x.0 x.1
    first_tells b left e h (Err halt) x = walking_halt b left h halt x

  -- ---- all tests of a stretch, in parts
  abbrev walked : List Test
  walked = walk_tests P t s R rs (u -ℚ t) (rising_below (u -ℚ t) (all_roots P s rs))

  abbrev soon_asked : List Test
  soon_asked = after_tests t 0 P.events s rs []

  abbrev rest_asked : List Test
  rest_asked = (asks (node Minus u t) ∷ []) ++ (root_tests P s rs ++ walked)

  whole_is : stretch_tests P u (stretch_view t s R) R ≡ soon_asked ++ if_none (first_after 0 P.events s rs) rest_asked
  unfolding stretch_tests
  whole_is =
      ap (λ (o : Result (List Fraction) ℕ). with_rates o (λ rs. after_tests t 0 P.events s rs (asks (node Minus u t) ∷ (root_tests P s rs ++ walk_tests P t s R rs (u -ℚ t) (rising_below (u -ℚ t) (all_roots P s rs)))))) rate ∙ after_split t P.events s rs rest_asked

  none_soon_is : IsNoneSoon P s rs → stretch_tests P u (stretch_view t s R) R ≡ soon_asked ++ rest_asked
  none_soon_is n = whole_is ∙ ap (λ (o : Option ℕ). soon_asked ++ if_none o rest_asked) n.later

  module _ {Q : Type 0} (v : Q → Fraction) (fits : Fraction → Type 0) where
    abbrev Breaks : ℕ → Fraction → Type 0
    Breaks = IsMomentless P u (stretch_view t s R)

    pub halt_soon : (h : Halt Q) → t <ℚ u → HaltTold v fits (after_tests t 0 P.events s rs []) (IsSoon P t s rs) h → HaltTold v fits (stretch_tests P u (stretch_view t s R) R) Breaks h
    halt_soon h later x = subst (λ (ts : List Test). HaltTold v fits ts Breaks h) (sym whole_is) (halt_left v fits _ _ (IsSoon P t s rs) Breaks h (λ e time m. momentless_now e time later m) x)

    module _ (n : IsNoneSoon P s rs) (a : AllPass fits (after_tests t 0 P.events s rs [])) where
      behind : (h : Halt Q) → HaltTold v fits rest_asked Breaks h → HaltTold v fits (stretch_tests P u (stretch_view t s R) R) Breaks h
      behind h x = subst (λ (ts : List Test). HaltTold v fits ts Breaks h) (sym (none_soon_is n)) (halt_right v fits _ _ Breaks Breaks h a (λ e time m. m) x)

      pub halt_time : (h : Halt Q) → HaltTold v fits (asks (node Minus u t) ∷ []) Never h → HaltTold v fits (stretch_tests P u (stretch_view t s R) R) Breaks h
      halt_time h x = behind h (halt_left v fits _ _ Never Breaks h (λ e time m. absurd m) x)

      module _ (l : AllPass fits (asks (node Minus u t) ∷ [])) where
        pub halt_roots : (h : Halt Q) → HaltTold v fits (root_tests P s rs) Never h → HaltTold v fits (stretch_tests P u (stretch_view t s R) R) Breaks h
        halt_roots h x =
            behind h (halt_right v fits _ _ Breaks Breaks h l (λ e time m. m) (halt_left v fits _ _ Never Breaks h (λ e time m. absurd m) x))

        module _ (c : AllPass fits (root_tests P s rs)) where
          pub halt_walk : (h : Halt Q) → HaltTold v fits (walk_tests P t s R rs (u -ℚ t) (rising_below (u -ℚ t) (all_roots P s rs))) (IsMomentless P u (stretch_view t s R)) h → HaltTold v fits (stretch_tests P u (stretch_view t s R) R) Breaks h
          halt_walk h x = behind h (halt_right v fits _ _ Breaks Breaks h l (λ e time m. m) (halt_right v fits _ _ Breaks Breaks h c (λ e time m. m) x))

          pub stretch_pass : AllPass fits (walk_tests P t s R rs (u -ℚ t) (rising_below (u -ℚ t) (all_roots P s rs))) → AllPass fits (stretch_tests P u (stretch_view t s R) R)
          stretch_pass w = subst (AllPass fits) (sym (none_soon_is n)) (pass_append (Passes fits) _ _ a (pass_append (Passes fits) _ _ l (pass_append (Passes fits) _ _ c w)))

          -- what the search tells, of the length and the roots as the code has them
          pub walk_tells : (len : Fraction) (all roots : List Fraction) (answer : Result (Arrival Q) (Halt Q)) → len ≡ u -ℚ t → roots ≡ rising_below len all → all ≡ all_roots P s rs → WalkTold v fits P u t s R rs len roots answer → StretchTold v fits P u t s R rs answer
          walk_tells len all roots answer e d f x =
              let same : roots ≡ rising_below (u -ℚ t) (all_roots P s rs) = d ∙ ap (λ (z : Fraction). rising_below z all) e ∙ ap (rising_below (u -ℚ t)) f in
              told answer (subst (λ (z : Fraction). WalkTold v fits P u t s R rs z (rising_below (u -ℚ t) (all_roots P s rs)) answer) e
              (subst (λ (l : List Fraction). WalkTold v fits P u t s R rs len l answer) same x))
            where
              told : (answer : Result (Arrival Q) (Halt Q)) → WalkTold v fits P u t s R rs (u -ℚ t) (rising_below (u -ℚ t) (all_roots P s rs)) answer → StretchTold v fits P u t s R rs answer
              told (Ok a) y = (stretch_pass y.0, y.1)
              told (Err h) y = halt_walk h y

-- ---- the beginning
pub all_left : (P : Problem) (s : State) (rs : List Fraction) (len : Fraction) (all roots : List Fraction) → roots ≡ rising_below len all → all ≡ all_roots P s rs → AreLeft P s rs (whole (pos 0)) len roots
all_left P s rs len all roots e d = subst (AreLeft P s rs (whole (pos 0)) len) (sym (e ∙ ap (rising_below len) d)) (search_steps.begin P s rs len)

pub along_start : (s : State) (rs : List Fraction) (t : State) → t ≡ s → IsAlong s rs t
along_start s rs t e = record { at = whole (pos 0); is = e ∙ sym (moved-zero s rs) }
