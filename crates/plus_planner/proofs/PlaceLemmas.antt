-- A walk that stands behind its decisions, and one decision more or less.
use Rattle.std.proofs.Common.{◌≡◌, ◌⊎◌, inl, inr, ℕ, zero, suc, ◌<◌, ◌≤◌, Bool, true, false, List, [], ◌∷◌, ◌++◌, map, length, refl, ap, sym, subst, ◌∙◌, append-nil, append_assoc, arith}
use Rattle.std.proofs.lemmas.Bool.{cases_lt}
use Rattle.std.specs.Prelude.{Option, Some, None, slice_get, nat_lt, if◌then◌else◌, Result, Ok, Err, IfOk, OnOk}
use Rattle.plus_fraction.specs.Fraction.{Fraction, ◌+ℚ◌, ◌≤ℚ◌}
use Rattle.plus_model.specs.Terms.{Action}
use Rattle.plus_search.specs.declared.spaces.Fate.{Fate}
use Rattle.plus_search.specs.declared.spaces.Fate.TheVariants.{Alive, Broken, Beyond}
use Rattle.plus_stretch.specs.Tests.{AllPass, IsLimit}
use Rattle.plus_timeline.specs.Asked.{act_tests, round_tests}
use Rattle.plus_timeline.specs.Timeline.{TimelineView}
use Rattle.plus_timeline.specs.Act.{DoesAct}
use Rattle.plus_timeline.specs.Finish.{IsPaused}
use Rattle.plus_planner.specs.declared.places.Taken.{Taken}
use Rattle.plus_planner.specs.Grid.{Task, ticks, after_decision, tick_after, timed, AllTimes, IsAlive}
use Rattle.plus_planner.specs.Laws.{AllWaits, EndsWithAction}
use Rattle.plus_state.specs.Fits.{ActionFits}
use Rattle.plus_timeline.specs.Advance.{IsAhead}
use Rattle.plus_timeline.specs.StepsLeft.{HasRoom}
use Rattle.plus_planner.specs.Standing.{CanReach, IsNoLimit, Carried}
use Rattle.plus_planner.specs.Places.{StandsAt, path_of, StandFrom, now_in, base_in, StandsBehind, taken_after, Goes, ActFails, ActEnds, WaitEnds, CanTry, Walks}
use Rattle.plus_planner.proofs.Ready.{ticks_join}
use Rattle.plus_planner.proofs.Resting.{rest_passed}
use Rattle.plus_planner.proofs.Ticks.{ticks_next}
use Rattle.plus_planner.proofs.Walks.{Ends, now_of, broken_ends, halts_at, alive_more, beyond_more, waited, wait_times, later_waits, no_times, act_times, act_fails, acted_on}

-- ---- lists

pub slice_some : {A : Type 0} (xs : List A) (k : ℕ) → k < length xs → (x : A) × (slice_get xs k ≡ Some x)
slice_some [] k h = absurd (omega arith)
slice_some (x ∷ xs) zero h = (x, refl)
slice_some (x ∷ xs) (suc k) h = slice_some xs k (omega arith)

pub slice_none : {A : Type 0} (xs : List A) (k : ℕ) → length xs ≤ k → slice_get xs k ≡ None
slice_none [] k h = refl
slice_none (x ∷ xs) zero h = absurd (omega arith)
slice_none (x ∷ xs) (suc k) h = slice_none xs k (omega arith)

nothing_is : {A : Type 0} (xs ys : List A) (x : A) → [] ≡ xs ++ x ∷ ys → ⊥
nothing_is [] ys x e = cc e
nothing_is (y ∷ xs) ys x e = cc e

snoc_cases : {A : Type 0} (xs front back : List A) (x y : A) → xs ++ x ∷ [] ≡ front ++ y ∷ back → ((front ≡ xs) × (y ≡ x)) ⊎ ((more : List A) × (xs ≡ front ++ y ∷ more))
snoc_cases [] [] back x y e = inl (refl, (let f : x ≡ y = cc e in sym f))
snoc_cases [] (z ∷ front) back x y e = absurd (nothing_is front back y (let f : [] ≡ front ++ y ∷ back = cc e in f))
snoc_cases (w ∷ xs) [] back x y e = inr (xs, (let f : w ≡ y = cc e in ap (λ z. z ∷ xs) f))
snoc_cases (w ∷ xs) (z ∷ front) back x y e =
    let same : w ≡ z = cc e in
    let rest : xs ++ x ∷ [] ≡ front ++ y ∷ back = cc e in
    elim (snoc_cases xs front back x y rest) [
      | inl p ↦ inl (ap (λ t. z ∷ t) p.0 ∙ ap (λ t. t ∷ xs) (sym same), p.1)
      | inr r ↦ inr (r.0, ap (λ t. w ∷ t) r.1 ∙ ap (λ t. t ∷ (front ++ y ∷ r.0)) same)
    ]

pub map-snoc : {A B : Type 0} (f : A → B) (xs : List A) (x : A) → map f (xs ++ x ∷ []) ≡ map f xs ++ f x ∷ []
map-snoc f [] x = refl
map-snoc f (y ∷ xs) x = ap (λ t. f y ∷ t) (map-snoc f xs x)

-- ---- the last action

module _ (fits : Fraction → Type 0) (task : Task) where
  -- the timeline stands at the last action of the decisions, or at the beginning
  pub record IsBase (ds : List ℕ) (t : TimelineView) : Type 0 where
    pub front : List ℕ
    pub waits : List ℕ
    pub is : ds ≡ front ++ waits
    pub ends : EndsWithAction task.actions front
    pub all : AllWaits task.actions waits
    pub stands : StandsAt fits task front t

  one_wait : (ws : List ℕ) (d : ℕ) → AllWaits task.actions ws → slice_get task.actions d ≡ None → AllWaits task.actions (ws ++ d ∷ [])
  one_wait [] d h e = (e, tt)
  one_wait (w ∷ ws) d h e = (h.0, one_wait ws d h.1 e)

-- ---- timelines behind decisions

module _ {Q : Type 0} (fits : Fraction → Type 0) (task : Task) where
  pub head_stands : (ds : List ℕ) (x : Taken Q) (xs : List (Taken Q)) → StandFrom fits task ds (x ∷ xs) → StandsAt fits task (ds ++ x.decision ∷ []) x.timeline
  head_stands ds x xs s = s [] xs x refl

  pub tail_stands : (ds : List ℕ) (x : Taken Q) (xs : List (Taken Q)) → StandFrom fits task ds (x ∷ xs) → StandFrom fits task (ds ++ x.decision ∷ []) xs
  tail_stands ds x xs s front back y e =
      subst (λ z. StandsAt fits task z y.timeline) (sym (append_assoc ds (x.decision ∷ []) (path_of front ++ y.decision ∷ [])))
      (s (x ∷ front) back y (ap (λ t. x ∷ t) e))

  now_from : (ds : List ℕ) (start : TimelineView) (taken : List (Taken Q)) → StandsAt fits task ds start → StandFrom fits task ds taken → StandsAt fits task (ds ++ path_of taken) (now_in start taken)
  now_from ds start [] b s = subst (λ z. StandsAt fits task z start) (sym (append-nil ds)) b
  now_from ds start (x ∷ xs) b s =
      subst (λ z. StandsAt fits task z (now_in x.timeline xs)) (append_assoc ds (x.decision ∷ []) (path_of xs))
      (now_from (ds ++ x.decision ∷ []) x.timeline xs (head_stands ds x xs s) (tail_stands ds x xs s))

  next_base : (ds : List ℕ) (start : TimelineView) (x : Taken Q) → IsBase fits task ds start → StandsAt fits task (ds ++ x.decision ∷ []) x.timeline → (x.decision < length task.actions) ⊎ (length task.actions ≤ x.decision) → (b : Bool) → nat_lt x.decision (length task.actions) ≡ b → IsBase fits task (ds ++ x.decision ∷ []) (if b then x.timeline else start)
  next_base ds start x i s (inl l) true e =
      let a = slice_some task.actions x.decision l in
      record { front = ds ++ x.decision ∷ []; waits = []; is = sym (append-nil (ds ++ x.decision ∷ [])); ends = inr (ds, x.decision, a.0, refl, a.1); all = tt; stands = s }
  next_base ds start x i s (inr l) true e = absurd (above x.decision (length task.actions) l e)
    where
      above : (m n : ℕ) → n ≤ m → nat_lt m n ≡ true → ⊥
      above m n l e = grind (arith, l, e)
  next_base ds start x i s (inl l) false e = absurd (below x.decision (length task.actions) l e)
    where
      below : (m n : ℕ) → m < n → nat_lt m n ≡ false → ⊥
      below m n l e = grind (arith, l, e)
  next_base ds start x i s (inr l) false e = record {
    front = i.front;
    waits = i.waits ++ x.decision ∷ [];
    is = ap (λ z. z ++ x.decision ∷ []) i.is ∙ append_assoc i.front i.waits (x.decision ∷ []);
    ends = i.ends;
    all = one_wait fits task i.waits x.decision i.all (slice_none task.actions x.decision l);
    stands = i.stands;
  }

  base_from : (ds : List ℕ) (start : TimelineView) (taken : List (Taken Q)) → IsBase fits task ds start → StandFrom fits task ds taken → IsBase fits task (ds ++ path_of taken) (base_in (length task.actions) start taken)
  base_from ds start [] i s = subst (λ z. IsBase fits task z start) (sym (append-nil ds)) i
  base_from ds start (x ∷ xs) i s =
      subst (λ z. IsBase fits task z (base_in (length task.actions) (if nat_lt x.decision (length task.actions) then x.timeline else start) xs)) (append_assoc ds (x.decision ∷ []) (path_of xs))
      (base_from (ds ++ x.decision ∷ []) (if nat_lt x.decision (length task.actions) then x.timeline else start) xs
      (next_base ds start x i (head_stands ds x xs s) (cases_lt x.decision (length task.actions)) (nat_lt x.decision (length task.actions)) refl)
      (tail_stands ds x xs s))

  push_stands : (ds : List ℕ) (taken : List (Taken Q)) (x : Taken Q) → StandFrom fits task ds taken → StandsAt fits task (ds ++ (path_of taken ++ x.decision ∷ [])) x.timeline → StandFrom fits task ds (taken ++ x ∷ [])
  push_stands ds taken x s t front back y e = elim (snoc_cases taken front back x y e) [
    | inl p ↦ subst (λ (z : Taken Q). StandsAt fits task (ds ++ (path_of front ++ z.decision ∷ [])) z.timeline) (sym p.1)
        (subst (λ z. StandsAt fits task (ds ++ (path_of z ++ x.decision ∷ [])) x.timeline) (sym p.0) t)
    | inr r ↦ s front r.0 y r.1
  ]

  pub pop_stands : (ds : List ℕ) (taken : List (Taken Q)) (x : Taken Q) → StandFrom fits task ds (taken ++ x ∷ []) → StandFrom fits task ds taken
  pop_stands ds taken x s front back y e = s front (back ++ x ∷ []) y (ap (λ z. z ++ x ∷ []) e ∙ append_assoc front (y ∷ back) (x ∷ []))

  -- ---- the walk

  module _ (start : TimelineView) (taken : List (Taken Q)) (b : StandsBehind fits task start taken) where
    pub now_stands : StandsAt fits task (path_of taken) (now_in start taken)
    now_stands = now_from [] start taken b.first b.each

    pub base_stands : IsBase fits task (path_of taken) (base_in (length task.actions) start taken)
    base_stands = base_from [] start taken record { front = []; waits = []; is = refl; ends = inl refl; all = tt; stands = b.first } b.each

    pub path_one : (x : Taken Q) → path_of (taken ++ x ∷ []) ≡ path_of taken ++ x.decision ∷ []
    path_one x = map-snoc (λ (y : Taken Q). y.decision) taken x

    module _ (d : ℕ) (w : d < suc (length task.actions)) where
      walked : (new : TimelineView) (fate : Fate) → AllTimes fits (timed task (path_of taken ++ d ∷ [])).lines → Ends fits task (path_of taken ++ d ∷ []) new fate → Walks fits task start start taken (taken_after fate taken d new) d fate
      walked new Alive times e =
          let x : Taken Q = record { decision = d; timeline = new } in
          let more : IsAlive fits task (path_of taken ++ d ∷ []) = alive_more fits task (path_of taken) d b.alive w e.history e.plays in
          record {
            told = more;
            path = path_one x;
            stands = record { can = b.can; first = b.first; each = push_stands [] taken x b.each e; alive = subst (IsAlive fits task) (sym (path_one x)) more };
          }
      walked new Broken times e = record { told = broken_ends fits task (path_of taken ++ d ∷ []) times e.0 e.1; path = refl; stands = b }
      walked new Beyond times e = record {
        told = beyond_more fits task (path_of taken) d b.alive w (inr (e.0, halts_at fits task (path_of taken ++ d ∷ []) e.0 e.1));
        path = refl;
        stands = b;
      }

      -- what a timeline that was carried says
      goes_says : (u : Fraction) (old : TimelineView) (taken' : List (Taken Q)) (fate : Fate) → AllTimes fits (timed task (path_of taken ++ d ∷ [])).lines → (g : Goes fits task.problem u old d taken taken' fate) → Ends fits task (path_of taken ++ d ∷ []) g.new fate → Walks fits task start start taken taken' d fate
      goes_says u old taken' fate times g e =
          subst (λ z. Walks fits task start start taken z d fate) (sym g.after) (walked g.new fate times e)

    -- a decision whose timeline is known
    pub taken_again : (x : Taken Q) → x.decision < suc (length task.actions) → StandsAt fits task (path_of taken ++ x.decision ∷ []) x.timeline → Walks fits task start start taken (taken ++ x ∷ []) x.decision Alive
    taken_again x w e = walked x.decision w x.timeline Alive e.plays.times e

    -- an action that is done, and one that is refused
    pub act_goes : (k : ℕ) (action : Action) (done : TimelineView) (taken' : List (Taken Q)) (fate : Fate) → k < suc (length task.actions) → slice_get task.actions k ≡ Some action → AllPass fits (act_tests (now_in start taken).now.acted action (now_in start taken).now.state) → DoesAct task.problem action (now_in start taken) done → Goes fits task.problem (now_in start taken).now.time done k taken taken' fate → Walks fits task start start taken taken' k fate
    act_goes k action done taken' fate w a p d g =
        goes_says k w (now_in start taken).now.time done taken' fate (act_times fits task (path_of taken) k action (now_in start taken) now_stands a) g
        (acted_on fits task (path_of taken) k action (now_in start taken) now_stands a done g.new fate p d g.carried)

    act_kind : (k : ℕ) (action : Action) (fate : Fate) → k < suc (length task.actions) → slice_get task.actions k ≡ Some action → ActFails fits (now_in start taken).now.acted action (now_in start taken).now.state fate → Walks fits task start start taken taken k fate
    act_kind k action Alive w a f = absurd f.kind
    act_kind k action Broken w a f =
        walked k w (now_in start taken) Broken (act_times fits task (path_of taken) k action (now_in start taken) now_stands a)
        (act_fails fits task (path_of taken) k action (now_in start taken) now_stands a IsNoLimit f.test f.first f.kind)
    act_kind k action Beyond w a f =
        walked k w (now_in start taken) Beyond (act_times fits task (path_of taken) k action (now_in start taken) now_stands a)
        (act_fails fits task (path_of taken) k action (now_in start taken) now_stands a IsLimit f.test f.first f.kind)

    pub act_refused : (k : ℕ) (action : Action) (fate : Fate) → k < suc (length task.actions) → slice_get task.actions k ≡ Some action → ActFails fits (now_in start taken).now.acted action (now_in start taken).now.state fate → Walks fits task start start taken taken k fate
    act_refused = act_kind

    -- ---- a wait

    module _ (d : ℕ) (n : slice_get task.actions d ≡ None) where
      -- the time after it
      pub wait_time : now_of task (path_of taken ++ d ∷ []) ≡ (now_in start taken).now.time +ℚ task.interval
      wait_time =
          ap (ticks task.interval) (ticks_join task.actions 0 (path_of taken) (d ∷ []) ∙ ap (λ (o : Option Action). after_decision o (tick_after task.actions 0 (path_of taken))) n)
          ∙ ticks_next task.interval (tick_after task.actions 0 (path_of taken))
          ∙ ap (λ x. x +ℚ task.interval) (sym now_stands.time)

      pub wait_untimed : d < suc (length task.actions) → (fits ((now_in start taken).now.time +ℚ task.interval) → ⊥) → Walks fits task start start taken taken d Beyond
      wait_untimed w h = record {
        told = beyond_more fits task (path_of taken) d b.alive w
            (inl (no_times fits task (path_of taken ++ d ∷ []) (λ f. h (subst fits wait_time f))));
        path = refl;
        stands = b;
      }

      wait_list : base_stands.front ++ (base_stands.waits ++ d ∷ []) ≡ path_of taken ++ d ∷ []
      wait_list = sym (append_assoc base_stands.front base_stands.waits (d ∷ [])) ∙ ap (λ z. z ++ d ∷ []) (sym base_stands.is)

      pub wait_goes : (u : Fraction) (taken' : List (Taken Q)) (fate : Fate) → d < suc (length task.actions) → u ≡ (now_in start taken).now.time +ℚ task.interval → fits u → Goes fits task.problem u (base_in (length task.actions) start taken) d taken taken' fate → Walks fits task start start taken taken' d fate
      wait_goes u taken' fate w e f g =
          let i = base_stands in
          let all = one_wait fits task i.waits d i.all n in
          let there : u ≡ now_of task (path_of taken ++ d ∷ []) = e ∙ sym wait_time in
          let here = subst fits there f in
          let base = base_in (length task.actions) start taken in
          goes_says d w u base taken' fate
          (subst (λ z. AllTimes fits (timed task z).lines) wait_list (wait_times fits task i.front (i.waits ++ d ∷ []) base i.stands b.can.above i.ends all (subst (λ z. fits (now_of task z)) (sym wait_list) here)))
          g
          (subst (λ z. Ends fits task z g.new fate) wait_list
          (waited fits task i.front (i.waits ++ d ∷ []) base i.stands b.can.above i.ends all g.new fate (subst (λ z. fits (now_of task z)) (sym wait_list) here)
          (subst (λ z. Carried fits task.problem z base g.new fate) (there ∙ ap (now_of task) (sym wait_list)) g.carried)))

      -- the timeline of the last action may be carried to it
      pub wait_reach : CanReach task.problem ((now_in start taken).now.time +ℚ task.interval) (base_in (length task.actions) start taken)
      wait_reach =
          let i = base_stands in
          let base = base_in (length task.actions) start taken in
          let all = one_wait fits task i.waits d i.all n in
          let later : now_of task i.front ≤ℚ (now_in start taken).now.time +ℚ task.interval =
          subst (λ (u : Fraction). now_of task i.front ≤ℚ u) (ap (now_of task) wait_list ∙ wait_time) (later_waits fits task i.front (i.waits ++ d ∷ []) b.can.above all) in
          record {
            goes = i.stands.can;
            ahead = subst (λ o. IsAhead o base.now.time ((now_in start taken).now.time +ℚ task.interval)) (sym i.stands.moment)
                (subst (λ (u : Fraction). u ≤ℚ (now_in start taken).now.time +ℚ task.interval) (sym i.stands.time) later);
            room = subst (λ o. HasRoom o base.entries base.most) (sym i.stands.moment) tt;
          }

      -- nothing is due there
      pub wait_paused : IsPaused (base_in (length task.actions) start taken)
      wait_paused = base_stands.stands.paused

      -- and all that a round asks there passes
      pub wait_passed : AllPass fits (round_tests task.problem (base_in (length task.actions) start taken).now.fired (base_in (length task.actions) start taken).now.state)
      wait_passed = rest_passed fits task base_stands.front (base_in (length task.actions) start taken) base_stands.stands

      -- what becomes of a wait
      pub wait_walks : {E : Type 0} (start' : TimelineView) (taken' : List (Taken Q)) (r : Result Fate E) → d < suc (length task.actions) → OnOk r (start' ≡ start) → IfOk r (WaitEnds fits task.problem ((now_in start taken).now.time +ℚ task.interval) d (base_in (length task.actions) start taken) taken taken') → IfOk r (Walks fits task start start' taken taken' d)
      wait_walks start' taken' (Err e) w s h = tt
      wait_walks start' taken' (Ok fate) w s h = subst (λ z. Walks fits task start z taken taken' d fate) (sym s) (elim h [
        | inl k ↦ subst (λ z. Walks fits task start start taken z d fate) (sym k.same) (subst (λ f. Walks fits task start start taken taken d f) (sym k.beyond) (wait_untimed w k.none))
        | inr g ↦ wait_goes ((now_in start taken).now.time +ℚ task.interval) taken' fate w refl g.some g.goes
      ])

    -- all that a round asks at the present moment passes
    pub act_passed : AllPass fits (round_tests task.problem (now_in start taken).now.fired (now_in start taken).now.state)
    act_passed = rest_passed fits task (path_of taken) (now_in start taken) now_stands

    -- an action may be tried, and what becomes of it
    pub act_can : (k : ℕ) (action : Action) → slice_get task.actions k ≡ Some action → CanTry task.problem action (now_in start taken)
    act_can k action a =
        let s = now_stands in
        let t = now_in start taken in
        record {
          goes = s.can;
          paused = s.paused;
          fit = subst (λ x. ActionFits x t.fluents action) (sym s.can.knows.atoms)
              (subst (λ x. ActionFits task.problem.atoms x action) (sym s.can.knows.fluents) (b.can.fit k action a));
        }

    pub act_walks : {E : Type 0} (k : ℕ) (action : Action) (start' : TimelineView) (taken' : List (Taken Q)) (r : Result Fate E) → k < suc (length task.actions) → slice_get task.actions k ≡ Some action → OnOk r (start' ≡ start) → IfOk r (ActEnds fits task.problem action k (now_in start taken) taken taken') → IfOk r (Walks fits task start start' taken taken' k)
    act_walks k action start' taken' (Err e) w a s h = tt
    act_walks k action start' taken' (Ok fate) w a s h = subst (λ z. Walks fits task start z taken taken' k fate) (sym s) (elim h [
      | inl f ↦ subst (λ z. Walks fits task start start taken z k fate) (sym f.same) (act_refused k action fate w a f.fails)
      | inr g ↦ act_goes k action g.done taken' fate w a g.passes g.does g.goes
    ])
