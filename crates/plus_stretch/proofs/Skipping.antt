-- At a root, what is known of the events and processes that have none there and whose conditions are simple.
use Rattle.std.proofs.Common.{◌≡◌, ℕ, ◌<◌, zero, suc, Bool, true, false, List, [], ◌∷◌, length, refl, sym, subst, ◌∙◌, inl, inr, arith}
use Rattle.std.proofs.lemmas.List.{length-map}
use Rattle.std.specs.Prelude.{Option, Some, None, IsSomeAnd, slice_get}
use Rattle.plus_fraction.specs.Fraction.{Fraction, ◌<ℚ◌}
use Rattle.plus_fraction.proofs.FractionOrder.{<ℚ_irrefl, <ℚ_trans}
use Rattle.plus_fraction.proofs.FractionAtMost.{le_lt, ≤ℚ_refl}
use Rattle.plus_model.specs.Terms.{Condition, Event, Process, State, Problem}
use Rattle.plus_model.specs.Value.{holds}
use Rattle.plus_model.specs.Firing.{is_in}
use Rattle.plus_model.specs.Piece.{after}
use Rattle.plus_model.specs.Live.{live}
use Rattle.plus_model.specs.Running.{moved, JustAfter}
use Rattle.plus_model.proofs.Search.{OneTruth, spread, gathered}
use Rattle.plus_state.specs.Asked.{AllFit}
use Rattle.plus_state.specs.Tests.{tests_of}
use Rattle.plus_state.specs.Walk.{event_conditions, process_conditions}
use Rattle.plus_crossing.specs.Asked as crossing
use Rattle.plus_crossing.specs.Asked.{Ask}
use Rattle.plus_crossing.specs.Conds.{live_asks}
use Rattle.plus_crossing.specs.Next.{cross_asks, LiveRoot}
use Rattle.plus_crossing.specs.Listed.{live_roots}
use Rattle.plus_crossing.proofs.Steady.{one_truth_until_next}
use Rattle.plus_crossing.proofs.Straight.{soon_tells}
use Rattle.plus_settle.specs.Still.Simple.{is_simple}
use Rattle.plus_settle.proofs.StillLemmas.Listed.{item_at, mapped}
use Rattle.plus_settle.proofs.StillLemmas.Simply.{tests_fit, cross_live, simple_same}
use Rattle.plus_settle.specs.Members.{soon as runs_soon}
use Rattle.plus_stretch.specs.Tests.{AllPass}
use Rattle.plus_stretch.specs.Crossings.{all_roots, Among, RisesAbove}
use Rattle.plus_stretch.specs.StretchTests.{root_tests}
use Rattle.plus_stretch.specs.After.{soon}
use Rattle.plus_stretch.specs.Among.{OthersKnown}
use Rattle.plus_stretch.specs.Skips.{OthersSimple}
use Rattle.plus_stretch.proofs.Between.{event_pass, process_pass, none_next}
use Rattle.plus_stretch.proofs.Roots.{listed, event_listed, process_listed}
use Rattle.plus_stretch.proofs.Left.{above_all}
use Rattle.plus_stretch.proofs.SearchLemmas.{Walking}
use Rattle.plus_settle.proofs.ConfirmsLemmas.{both_true}

false_by : (b : Bool) → (b ≡ true → ⊥) → b ≡ false
false_by true f = absurd (f refl)
false_by false f = refl

within : (cs : List Condition) (k : ℕ) (c : Condition) → slice_get cs k ≡ Some c → k < length cs
within [] k c g = cc
within (d ∷ cs) zero c g = omega arith
within (d ∷ cs) (suc k) c g = (let l = within cs k c g in omega arith)

-- the event with a condition of the list
record EventWith (P : Problem) (c : Condition) (k : ℕ) : Type 0 where
  pub event : Event
  pub is : slice_get P.events k ≡ Some event
  pub same : event.condition ≡ c

event_with : (P : Problem) (k : ℕ) (c : Condition) → slice_get (event_conditions P) k ≡ Some c → EventWith P c k
event_with P k c g =
    let i = item_at P.events k (let l = within (event_conditions P) k c g in subst (λ (n : ℕ). k < n) (length-map P.events (λ (e : Event). e.condition)) l) in
    let m : slice_get (event_conditions P) k ≡ Some i.item.condition = mapped (λ (e : Event). e.condition) P.events k i.item i.is in
    record { event = i.item; is = i.is; same = cc }

module _ (fits : Fraction → Type 0) (P : Problem) (t : Fraction) (s : State) (R : List ℕ) (rs : List Fraction) (len : Fraction) (roots : List Fraction) (linear : AllPass fits (root_tests P s rs)) (b : Fraction) (left : List Fraction) (h : Walking fits P t s R rs len roots (b ∷ left)) where
  above : h.at <ℚ b
  above = h.are.rise.0

  -- up to where no other root comes
  abbrev next : List Fraction → Fraction
  next [] = len
  next (x ∷ xs) = x

  behind : (left : List Fraction) → ((x : Fraction) → Among x (b ∷ left) → x <ℚ len) → (y : Fraction) → next left ≡ y → (x : Fraction) → x <ℚ y → x <ℚ len
  behind [] f y e x l = subst (λ (z : Fraction). x <ℚ z) (sym e) l
  behind (z ∷ left) f y e x l = <ℚ_trans x z len (subst (λ (u : Fraction). x <ℚ u) (sym e) l) (f z (inr (inl refl)))

  later : b <ℚ next left
  later = go left h.are.rise.1 h.are.inside
    where
      go : (ls : List Fraction) → RisesAbove b ls → ((x : Fraction) → Among x (b ∷ ls) → x <ℚ len) → b <ℚ next ls
      go [] r f = f b (inl refl)
      go (x ∷ ls) r f = r.0

  none_in : (ls : List Fraction) → RisesAbove b ls → (x : Fraction) → x <ℚ next ls → Among x ls → ⊥
  none_in [] r x l i = elim i [ ]
  none_in (y ∷ ls) r x l i = elim i [
    | inl e ↦ <ℚ_irrefl y (subst (λ (z : Fraction). z <ℚ y) e l)
    | inr j ↦ <ℚ_irrefl y (<ℚ_trans y x y (above_all y x ls r.1 j) l)
  ]

  -- a condition without a root at b has none up to the next one
  no_root : (c : Condition) → ((x : Fraction) → LiveRoot c s rs x → Among x (all_roots P s rs)) → (Among b (live_roots c s rs) → ⊥) → (x : Fraction) → h.at <ℚ x → x <ℚ next left → LiveRoot c s rs x → ⊥
  no_root c f n x l m r = elim (h.are.all x (f x r) l (behind left h.are.inside (next left) refl x m)) [
    | inl e ↦ n (subst (λ (z : Fraction). Among z (live_roots c s rs)) e (listed c s rs x r))
    | inr i ↦ none_in left h.are.rise.1 x m i
  ]

  one : (c : Condition) → crossing.AllPass fits (cross_asks 0 c s rs) → ((x : Fraction) → LiveRoot c s rs x → Among x (all_roots P s rs)) → (Among b (live_roots c s rs) → ⊥) → OneTruth c s rs h.at (next left)
  one c p f n = one_truth_until_next fits c s rs h.at (next left) None h.searched.start p (none_next (LiveRoot c s rs) h.at (next left) (no_root c f n))

  up : h.at <ℚ next left
  up = <ℚ_trans h.at b (next left) above later

  -- it holds just after the last place exactly where it holds just after b, and holds at b only there
  after_back : (c : Condition) → OneTruth c s rs h.at (next left) → JustAfter (moved s rs b) rs c → JustAfter (moved s rs h.at) rs c
  after_back c o j = gathered c s rs h.at (next left) h.at (≤ℚ_refl h.at) up (spread c s rs h.at (next left) b o (le_lt _ _ above) later j)

  after_on : (c : Condition) → OneTruth c s rs h.at (next left) → JustAfter (moved s rs h.at) rs c → JustAfter (moved s rs b) rs c
  after_on c o j = gathered c s rs h.at (next left) b (le_lt _ _ above) later (spread c s rs h.at (next left) h.at o (≤ℚ_refl h.at) up j)

  here_back : (c : Condition) → OneTruth c s rs h.at (next left) → holds c (moved s rs b) ≡ true → JustAfter (moved s rs h.at) rs c
  here_back c o e = gathered c s rs h.at (next left) h.at (≤ℚ_refl h.at) up (λ x l m. o x b l m above later ∙ e)

  asks_there : (c : Condition) → is_simple c rs ≡ true → crossing.AllPass fits (cross_asks 0 c s rs) → crossing.AllPass fits (live_asks 0 c (moved s rs b) rs)
  asks_there c e p = subst (λ (ts : List Ask). crossing.AllPass fits ts) (sym (simple_same 0 c s rs b e)) (cross_live fits 0 c s rs p)

  module _ (events processes : List ℕ) (simple_events : OthersSimple (event_conditions P) rs events) (simple_processes : OthersSimple (process_conditions P) rs processes)
      (no_events : (k : ℕ) (e : Event) → slice_get P.events k ≡ Some e → is_in events k ≡ false → Among b (live_roots e.condition s rs) → ⊥)
      (no_processes : (k : ℕ) (p : Process) → slice_get P.processes k ≡ Some p → is_in processes k ≡ false → Among b (live_roots p.condition s rs) → ⊥) where
    event_asks : (k : ℕ) (e : Event) → slice_get P.events k ≡ Some e → is_in events k ≡ false → crossing.AllPass fits (live_asks 0 e.condition (moved s rs b) rs)
    event_asks k e g n = asks_there e.condition (simple_events k e.condition (mapped (λ (e : Event). e.condition) P.events k e g) n) (event_pass fits P s rs k e g linear)

    event_one : (k : ℕ) (e : Event) → slice_get P.events k ≡ Some e → is_in events k ≡ false → OneTruth e.condition s rs h.at (next left)
    event_one k e g n = one e.condition (event_pass fits P s rs k e g linear) (λ x r. event_listed P s rs k e x g r) (no_events k e g n)

    not_soon : (k : ℕ) (e : Event) → slice_get P.events k ≡ Some e → is_in events k ≡ false → soon e (moved s rs b) rs ≡ false
    unfolding soon
    not_soon k e g n = false_by (after (live e.condition (moved s rs b)) (moved s rs b) rs) (λ d.
        h.searched.none k e g (after_back e.condition (event_one k e g n) ((soon_tells fits 0 e.condition (moved s rs b) rs (event_asks k e g n)).1 d)))

    process_asks : (k : ℕ) (p : Process) → slice_get P.processes k ≡ Some p → is_in processes k ≡ false → crossing.AllPass fits (live_asks 0 p.condition (moved s rs b) rs)
    process_asks k p g n = asks_there p.condition (simple_processes k p.condition (mapped (λ (p : Process). p.condition) P.processes k p g) n) (process_pass fits P s rs k p g linear)

    process_one : (k : ℕ) (p : Process) → slice_get P.processes k ≡ Some p → is_in processes k ≡ false → OneTruth p.condition s rs h.at (next left)
    process_one k p g n = one p.condition (process_pass fits P s rs k p g linear) (λ x r. process_listed P s rs k p x g r) (no_processes k p g n)

    agrees : (k : ℕ) (p : Process) → slice_get P.processes k ≡ Some p → is_in processes k ≡ false → runs_soon p (moved s rs b) rs ≡ is_in R k
    unfolding runs_soon
    agrees k p g n =
        let u = soon_tells fits 0 p.condition (moved s rs b) rs (process_asks k p g n) in
        let o = process_one k p g n in
        let m = h.searched.on.members k in
        both_true (after (live p.condition (moved s rs b)) (moved s rs b) rs) (is_in R k)
        (λ d. m.1 (subst (λ (q : Option Process). IsSomeAnd q (λ x. JustAfter (moved s rs h.at) rs x.condition)) (sym g) (after_back p.condition o (u.1 d))))
        (λ i. u.0 (after_on p.condition o (subst (λ (q : Option Process). IsSomeAnd q (λ x. JustAfter (moved s rs h.at) rs x.condition)) g (m.0 i))))

    pub known_there : OthersKnown fits P R (moved s rs b) rs events processes
    known_there = record {
      pass = λ k c g n. (let w = event_with P k c g in subst (λ (d : Condition). AllFit fits (tests_of d (moved s rs b))) w.same (tests_fit fits 0 w.event.condition (moved s rs b) rs (event_asks k w.event w.is n)));
      silent = λ k c g n. (let w = event_with P k c g in subst (λ (d : Condition). holds d (moved s rs b) ≡ false) w.same
          (false_by (holds w.event.condition (moved s rs b)) (λ e. h.searched.none k w.event w.is (here_back w.event.condition (event_one k w.event w.is n) e))));
      soon = λ k e g n. record { pass = event_asks k e g n; not = not_soon k e g n };
      confirmed = λ k p g n. record { pass = process_asks k p g n; agrees = agrees k p g n };
    }
