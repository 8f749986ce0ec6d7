-- One decision more: what is played of the list before, and what becomes of it.
use Rattle.std.proofs.Common.{◌≡◌, ◌≢◌, ◌⊎◌, inl, inr, ℕ, suc, ◌+◌, ◌<◌, List, [], ◌∷◌, ◌++◌, length, refl, ap, sym, subst, ◌∙◌, arith, rules, append-nil, add-zero}
use Rattle.std.specs.Prelude.{Option, Some, slice_get, pos}
use Rattle.std.proofs.lemmas.Grind.{common_steps}
use Rattle.plus_fraction.specs.Fraction.{Fraction, whole, ◌<ℚ◌, ◌≤ℚ◌}
use Rattle.plus_fraction.proofs.FractionAtMost.{≤ℚ_trans}
use Rattle.plus_model.specs.Terms.{Action}
use Rattle.plus_model.specs.Firing.{firing}
use Rattle.plus_model.specs.Plan.{Instance, Line, ActLine, EndLine, Plan, IsInOrder}
use Rattle.plus_model.specs.History.{Part, Act, View}
use Rattle.plus_model.specs.Trajectory.{next_line, time_or, least, until, HasBegun, IsEndOrNone, IsWorked, Prefix}
use Rattle.plus_model.specs.Breach.{IsPresent}
use Rattle.plus_model.specs.Laws.{Begins}
use Rattle.plus_model.proofs.Longest.{worked_is_longest}
use Rattle.plus_model.proofs.Paths.{one_path}
use Rattle.plus_state.proofs.Testing.{one_test, pass_none, pass_append, pass_left, fail_right}
use Rattle.plus_search.specs.declared.spaces.Fate.{Fate}
use Rattle.plus_search.specs.declared.spaces.Fate.TheVariants.{Alive, Broken, Beyond}
use Rattle.plus_stretch.specs.Tests.{Test, Passes, AllPass, FirstFailing, IsLimit}
use Rattle.plus_timeline.specs.Asked.{act_tests, advance_tests}
use Rattle.plus_timeline.specs.Timeline.{TimelineView}
use Rattle.plus_timeline.specs.Act.{DoesAct}
use Rattle.plus_timeline.specs.Laws.{AddsChange}
use Rattle.plus_timeline.proofs.Follows.{act_follows}
use Rattle.plus_timeline.specs.Played.{entries_of}
use Rattle.plus_planner.specs.Grid.{Task, ticks, after_decision, line_for, acts_from, tick_after, timed, AllTimes, asked_in, IsClearIn, Plays, IsAlive, Halts, EndsBeyond}
use Rattle.plus_planner.specs.Laws.{ending_at, AllWaits, EndsWithAction}
use Rattle.plus_planner.specs.Standing.{IsPlayed, IsOnWay, IsReached, Arrives, FailsAt, IsNoLimit, Carried}
use Rattle.plus_planner.specs.Places.{StandsAt}
use Rattle.plus_planner.proofs.Waiting.{at_end, at_more}
use Rattle.plus_planner.proofs.Ready.{acts_join, ticks_join, ends_with, acts_next, can_act, can_wait}
use Rattle.plus_timeline.proofs.AskedHere.{asked_there}
use Rattle.plus_timeline.proofs.Played.{played_on, entries_of-append, asked_same}
use Rattle.plus_planner.proofs.Ticks.{ticks_ordered}

-- ---- lines and times

begun : (task : Task) (ds : List ℕ) → HasBegun (timed task ds)
begun task ds = subst HasBegun (sym (ends_with task ds)) (begun_at (acts_from task.actions task.interval 0 ds) (ticks task.interval (tick_after task.actions 0 ds)))
  where
    begun_at : (lines : List Line) (t : Fraction) → HasBegun (ending_at lines t)
    begun_at [] t = inl (λ e. (let f = e in cc))
    begun_at (x ∷ xs) t = inl (λ e. (let f = e in cc))

times_left : (fits : Fraction → Type 0) (xs ys : List Line) → AllTimes fits (xs ++ ys) → AllTimes fits xs
times_left fits [] ys h = tt
times_left fits (x ∷ xs) ys h = (h.0, times_left fits xs ys h.1)

times_join : (fits : Fraction → Type 0) (xs ys : List Line) → AllTimes fits xs → AllTimes fits ys → AllTimes fits (xs ++ ys)
times_join fits [] ys h k = k
times_join fits (x ∷ xs) ys h k = (h.0, times_join fits xs ys h.1 k)

times_right : (fits : Fraction → Type 0) (xs ys : List Line) → AllTimes fits (xs ++ ys) → AllTimes fits ys
times_right fits [] ys h = h
times_right fits (x ∷ xs) ys h = times_right fits xs ys h.1

order_end : (xs : List Line) (t u : Fraction) → IsInOrder (xs ++ EndLine t ∷ []) → t ≤ℚ u → IsInOrder (xs ++ EndLine u ∷ [])
order_end [] t u o l = tt
order_end (EndLine w ∷ []) t u o l = absurd o
order_end (EndLine w ∷ y ∷ ys) t u o l = absurd o
order_end (ActLine w c ∷ []) t u o l = (≤ℚ_trans w t u o.0 l, tt)
order_end (ActLine w c ∷ y ∷ ys) t u o l = (o.0, order_end (y ∷ ys) t u o.1 l)

-- the tick after the last decision, and the actions
abbrev pub now_of : Task → List ℕ → Fraction
now_of task ds = ticks task.interval (tick_after task.actions 0 ds)

abbrev pub acts_of : Task → List ℕ → List Line
acts_of task ds = acts_from task.actions task.interval 0 ds

-- the line that is next once all actions are done is the end
pub line_end : (task : Task) (ds : List ℕ) (v : View) → v.acted ≡ length (acts_of task ds) → next_line (timed task ds) v ≡ Some (EndLine (now_of task ds))
line_end task ds v e =
    subst (λ (L : Plan). next_line L v ≡ Some (EndLine (now_of task ds))) (sym (ends_with task ds))
    (subst (λ k. slice_get (acts_of task ds ++ EndLine (now_of task ds) ∷ []) k ≡ Some (EndLine (now_of task ds))) (sym e) (at_end (acts_of task ds) (EndLine (now_of task ds))))

-- and the action, where one follows
line_act : (task : Task) (ds : List ℕ) (k : ℕ) (action : Action) (v : View) → slice_get task.actions k ≡ Some action → v.acted ≡ length (acts_of task ds) → next_line (timed task (ds ++ k ∷ [])) v ≡ Some (ActLine (now_of task ds) (Instance action))
line_act task ds k action v a e =
    let x = ActLine (now_of task ds) (Instance action) in
    let more = EndLine (now_of task ds) ∷ [] in
    subst (λ (L : Plan). next_line L v ≡ Some x) (sym (acts_next task ds k action a))
    (subst (λ i. slice_get (acts_of task ds ++ x ∷ more) i ≡ Some x) (sym e) (at_more (acts_of task ds) x more))

acts_one : (task : Task) (ds : List ℕ) (k : ℕ) (action : Action) → slice_get task.actions k ≡ Some action → acts_of task (ds ++ k ∷ []) ≡ acts_of task ds ++ ActLine (now_of task ds) (Instance action) ∷ []
acts_one task ds k action a =
    acts_join task.actions task.interval 0 ds (k ∷ [])
    ∙ ap (λ (o : Option Action). acts_of task ds ++ line_for o (now_of task ds) []) a

tick_one : (task : Task) (ds : List ℕ) (k : ℕ) (action : Action) → slice_get task.actions k ≡ Some action → tick_after task.actions 0 (ds ++ k ∷ []) ≡ tick_after task.actions 0 ds
tick_one task ds k action a = ticks_join task.actions 0 ds (k ∷ []) ∙ ap (λ (o : Option Action). after_decision o (tick_after task.actions 0 ds)) a

length_one : {A : Type 0} (xs : List A) (x : A) → length (xs ++ x ∷ []) ≡ suc (length xs)
length_one [] x = refl
length_one (y ∷ xs) x = ap suc (length_one xs x)

wait_acts : (actions : List Action) (q : Fraction) (n : ℕ) (ws : List ℕ) → AllWaits actions ws → acts_from actions q n ws ≡ []
wait_acts actions q n [] h = refl
wait_acts actions q n (w ∷ ws) h =
    ap (λ (o : Option Action). line_for o (ticks q n) (acts_from actions q (after_decision o n) ws)) h.0
    ∙ wait_acts actions q (suc n) ws h.1

acts_waits : (task : Task) (ds ws : List ℕ) → AllWaits task.actions ws → acts_of task (ds ++ ws) ≡ acts_of task ds
acts_waits task ds ws h =
    acts_join task.actions task.interval 0 ds ws
    ∙ ap (λ xs. acts_of task ds ++ xs) (wait_acts task.actions task.interval (tick_after task.actions 0 ds) ws h)
    ∙ append-nil (acts_of task ds)

-- ---- a test that fails at a clear history

module _ (fits : Fraction → Type 0) (task : Task) (ds : List ℕ) where
  -- a history that is played to the end meets none
  pub not_alive : (Kind : Test → Type 0) (h g : List Part) → Plays fits task ds h → FailsAt fits task.problem (timed task ds) task.most Kind g → ⊥
  not_alive Kind h g p s =
      let b = (worked_is_longest task.problem (timed task ds) h p.prefix p.worked).longest g s.prefix in
      at_rest g s b.rest b.is
    where
      at_rest : (g : List Part) → FailsAt fits task.problem (timed task ds) task.most Kind g → (rest : List Part) → h ≡ g ++ rest → ⊥
      at_rest g s [] e = (one_test (Passes fits)).none (asked_in task.problem (timed task ds) task.most g) s.test (subst (λ x. AllPass fits (asked_in task.problem (timed task ds) task.most x)) (e ∙ append-nil g) p.passes) s.first
      at_rest g s (r ∷ rest) e = (one_test (Passes fits)).none (asked_in task.problem (timed task ds) task.most g) s.test (p.clear g r rest s.prefix e) s.first

  -- and of two of them the tests are one
  before_other : (Kind Kind' : Test → Type 0) (h g : List Part) (a : FailsAt fits task.problem (timed task ds) task.most Kind h) (b : FailsAt fits task.problem (timed task ds) task.most Kind' g) → Begins h g → a.test ≡ b.test
  before_other Kind Kind' h g a b c = at_rest c.rest c.is
    where
      at_rest : (rest : List Part) → g ≡ h ++ rest → a.test ≡ b.test
      at_rest [] e =
          (one_test (Passes fits)).one (asked_in task.problem (timed task ds) task.most h) a.test b.test a.first
          (subst (λ x. FirstFailing fits (asked_in task.problem (timed task ds) task.most x) b.test) (e ∙ append-nil h) b.first)
      at_rest (r ∷ rest) e = absurd ((one_test (Passes fits)).none (asked_in task.problem (timed task ds) task.most h) a.test (b.clear h r rest a.prefix e) a.first)

  pub one_failing : (Kind Kind' : Test → Type 0) (h g : List Part) (a : FailsAt fits task.problem (timed task ds) task.most Kind h) (b : FailsAt fits task.problem (timed task ds) task.most Kind' g) → a.test ≡ b.test
  one_failing Kind Kind' h g a b = elim (one_path task.problem (timed task ds) h g a.prefix b.prefix) [
    | inl c ↦ before_other Kind Kind' h g a b c
    | inr c ↦ sym (before_other Kind' Kind g h b a c)
  ]

  -- a breach on the way: the list is not alive, and no limit is its end
  pub broken_ends : AllTimes fits (timed task ds).lines → (g : List Part) → FailsAt fits task.problem (timed task ds) task.most IsNoLimit g → (IsAlive fits task ds → ⊥) × (EndsBeyond fits task ds → ⊥)
  broken_ends times g s = (
    (λ a. (let p = a.each ds [] (sym (append-nil ds)) in not_alive IsNoLimit p.0 g p.1 s)),
    (λ b. elim b.beyond [
      | inl n ↦ n times
      | inr l ↦ (let other : FailsAt fits task.problem (timed task ds) task.most IsLimit l.0 = record { prefix = l.1.prefix; clear = l.1.clear; test = l.1.test; first = l.1.first; kind = l.1.limit } in
          s.kind (subst IsLimit (sym (one_failing IsNoLimit IsLimit g l.0 s other)) l.1.limit))
    ]),
  )

  pub halts_at : (g : List Part) → FailsAt fits task.problem (timed task ds) task.most IsLimit g → Halts fits task ds g
  halts_at g s = record { prefix = s.prefix; clear = s.clear; test = s.test; first = s.first; limit = s.kind }

-- ---- one decision more

list_cases : (ds ps qs : List ℕ) (d : ℕ) → ds ++ d ∷ [] ≡ ps ++ qs → (qs ≢ [] → (more : List ℕ) × (ds ≡ ps ++ more)) × (qs ≡ [] → ps ≡ ds ++ d ∷ [])
list_cases ds ps qs d e = (
  (λ n. shorter ds ps qs e n),
  (λ k. sym (e ∙ ap (λ x. ps ++ x) k ∙ append-nil ps)),
)
  where
    shorter : (ds ps qs : List ℕ) → ds ++ d ∷ [] ≡ ps ++ qs → qs ≢ [] → (more : List ℕ) × (ds ≡ ps ++ more)
    shorter ds [] qs e n = (ds, refl)
    shorter [] (p ∷ ps) qs e n = absurd (nothing ps qs (let f : [] ≡ ps ++ qs = cc e in f) n)
      where
        nothing : (ps qs : List ℕ) → [] ≡ ps ++ qs → qs ≢ [] → ⊥
        nothing [] qs e n = n (sym e)
        nothing (p ∷ ps) qs e n = cc e
    shorter (x ∷ ds) (p ∷ ps) qs e n =
        let same : x ≡ p = cc e in
        let rest : ds ++ d ∷ [] ≡ ps ++ qs = cc e in
        let r = shorter ds ps qs rest n in
        (r.0, ap (λ z. x ∷ z) r.1 ∙ ap (λ z. z ∷ (ps ++ r.0)) same)

some_or_none : (qs : List ℕ) → (qs ≡ []) ⊎ (qs ≢ [])
some_or_none [] = inl refl
some_or_none (q ∷ qs) = inr (λ e. cc e)

within_one : (n : ℕ) (ds ps qs : List ℕ) (d e : ℕ) → ((ps qs : List ℕ) (x : ℕ) → ds ≡ ps ++ x ∷ qs → x < n) → d < n → ds ++ d ∷ [] ≡ ps ++ e ∷ qs → e < n
within_one n [] [] qs d e h l f = (let g : d ≡ e = cc f in subst (λ x. x < n) g l)
within_one n [] (p ∷ ps) qs d e h l f = absurd (nothing ps qs e (let g : [] ≡ ps ++ e ∷ qs = cc f in g))
  where
    nothing : (ps qs : List ℕ) (x : ℕ) → [] ≡ ps ++ x ∷ qs → ⊥
    nothing [] qs x e = cc e
    nothing (p ∷ ps) qs x e = cc e
within_one n (x ∷ ds) [] qs d e h l f = (let g : x ≡ e = cc f in subst (λ z. z < n) g (h [] ds x refl))
within_one n (x ∷ ds) (p ∷ ps) qs d e h l f =
    within_one n ds ps qs d e (λ fs bs z k. h (x ∷ fs) bs z (ap (λ w. x ∷ w) k)) l (let g : ds ++ d ∷ [] ≡ ps ++ e ∷ qs = cc f in g)

-- the beginnings of a list with one more
pub proper_before : (ds ps qs : List ℕ) (d : ℕ) → qs ≢ [] → ds ++ d ∷ [] ≡ ps ++ qs → (more : List ℕ) × (ds ≡ ps ++ more)
proper_before ds ps qs d n e = (list_cases ds ps qs d e).0 n

module _ (fits : Fraction → Type 0) (task : Task) (ds : List ℕ) (d : ℕ) (a : IsAlive fits task ds) (w : d < suc (length task.actions)) where
  within_all : (ps qs : List ℕ) (e : ℕ) → ds ++ d ∷ [] ≡ ps ++ e ∷ qs → e < suc (length task.actions)
  within_all ps qs e f = within_one (suc (length task.actions)) ds ps qs d e (λ fs bs z k. a.within fs bs z k) w f

  alive_before : (ps qs : List ℕ) → ds ≡ ps ++ qs → IsAlive fits task ps
  alive_before ps qs e = record {
    each = λ fs bs f. a.each fs (bs ++ qs) (e ∙ ap (λ z. z ++ qs) f ∙ joined fs bs qs);
    within = λ fs bs z f. a.within fs (bs ++ qs) z (e ∙ ap (λ y. y ++ qs) f ∙ joined fs (z ∷ bs) qs);
  }
    where
      joined : (xs ys zs : List ℕ) → (xs ++ ys) ++ zs ≡ xs ++ (ys ++ zs)
      joined xs ys zs = search (rules, common_steps)

  -- where the whole list is played, it is alive
  pub alive_more : (h : List Part) → Plays fits task (ds ++ d ∷ []) h → IsAlive fits task (ds ++ d ∷ [])
  alive_more h p = record {
    each = λ ps qs e. elim (some_or_none qs) [
      | inl k ↦ (h, subst (λ x. Plays fits task x h) (sym ((list_cases ds ps qs d e).1 k)) p)
      | inr n ↦ (let r = proper_before ds ps qs d n e in a.each ps r.0 r.1)
    ];
    within = within_all;
  }

  -- where a limit is its end, it ends beyond
  pub beyond_more : (AllTimes fits (timed task (ds ++ d ∷ [])).lines → ⊥) ⊎ ((h : List Part) × Halts fits task (ds ++ d ∷ []) h) → EndsBeyond fits task (ds ++ d ∷ [])
  beyond_more b = record {
    before = λ ps qs n e. (let r = proper_before ds ps qs d n e in alive_before ps r.0 r.1);
    within = within_all;
    beyond = b;
  }

-- what becomes of a list whose timeline was carried to its time
abbrev pub Ends : (Fraction → Type 0) → Task → List ℕ → TimelineView → Fate → Type 0
Ends fits task ds new Alive = StandsAt fits task ds new
Ends fits task ds new Broken = (g : List Part) × FailsAt fits task.problem (timed task ds) task.most IsNoLimit g
Ends fits task ds new Beyond = (g : List Part) × FailsAt fits task.problem (timed task ds) task.most IsLimit g

module _ (fits : Fraction → Type 0) (task : Task) where
  played_in : (ds : List ℕ) (t : TimelineView) (s : StandsAt fits task ds t) (L : Plan) → Prefix task.problem L s.history → IsClearIn fits task.problem L task.most s.history → IsPlayed fits task.problem L s.history t
  played_in ds t s L p c = record { prefix = p; now = s.now; entries = s.entries; beside = tt; clear = subst (λ k. IsClearIn fits task.problem L k s.history) (sym s.most) c }

  -- all that is asked at the end of the decisions passes
  passes_end : (ds : List ℕ) (t : TimelineView) (h : List Part) → IsPlayed fits task.problem (timed task ds) h t → t.now.acted ≡ length (acts_of task ds) → IsPresent task.problem t.now → until task.problem (timed task ds) t.now ≡ t.now.time → AllPass fits (advance_tests task.problem t.most t.entries (until task.problem (timed task ds) t.now) t.now) → AllPass fits (asked_in task.problem (timed task ds) t.most h)
  passes_end ds t h p k q o a =
      subst (AllPass fits)
      (sym (asked_there task.problem (timed task ds) t.most (λ i. []) t.entries t.now (Some (EndLine (now_of task ds))) (line_end task ds t.now k) q o) ∙ asked_same p)
      (pass_append (Passes fits) (advance_tests task.problem t.most t.entries (until task.problem (timed task ds) t.now) t.now) [] a (pass_none (Passes fits)))

  -- and where all of it passes, so does what `advance` asks
  advance_passes : (ds : List ℕ) (t : TimelineView) (h : List Part) → IsPlayed fits task.problem (timed task ds) h t → t.now.acted ≡ length (acts_of task ds) → IsPresent task.problem t.now → until task.problem (timed task ds) t.now ≡ t.now.time → AllPass fits (asked_in task.problem (timed task ds) t.most h) → AllPass fits (advance_tests task.problem t.most t.entries (until task.problem (timed task ds) t.now) t.now)
  advance_passes ds t h p k q o a =
      pass_left (Passes fits) (advance_tests task.problem t.most t.entries (until task.problem (timed task ds) t.now) t.now) []
      (subst (AllPass fits)
      (sym (asked_same p) ∙ asked_there task.problem (timed task ds) t.most (λ i. []) t.entries t.now (Some (EndLine (now_of task ds))) (line_end task ds t.now k) q o) a)

  -- a timeline that arrived stands at the end of the decisions
  arrived : (ds : List ℕ) (old new : TimelineView) (h : List Part) (acted : ℕ) → AllTimes fits (timed task ds).lines → Arrives fits task.problem (now_of task ds) old new → old.most ≡ task.most → acted ≡ length (acts_of task ds) → IsReached fits task.problem (timed task ds) (now_of task ds) acted h new → StandsAt fits task ds new
  arrived ds old new h acted times a m k r =
      let most = a.most ∙ m in
      record {
        history = h;
        plays = record {
          times = times;
          prefix = r.played.prefix;
          worked = subst (IsWorked task.problem (timed task ds)) r.played.now
              record { acted = subst IsEndOrNone (sym (line_end task ds new.now (r.acted_is ∙ k))) tt; still = r.present.still; moment = r.present.moment; over = r.over };
          clear = subst (λ n. IsClearIn fits task.problem (timed task ds) n h) most r.played.clear;
          passes = subst (λ n. AllPass fits (asked_in task.problem (timed task ds) n h)) most
              (passes_end ds new h r.played (r.acted_is ∙ k) r.present r.over r.passed);
        };
        now = r.played.now;
        entries = r.played.entries;
        most = most;
        can = a.can;
        paused = a.paused;
        moment = a.moment;
        acted = r.acted_is ∙ k;
        time = r.time_is;
      }

  -- what the fate of a timeline on its way to the end of the decisions says
  pub carried_ends : (ds : List ℕ) (old new : TimelineView) (h : List Part) (acted : ℕ) (fate : Fate) → AllTimes fits (timed task ds).lines → old.most ≡ task.most → acted ≡ length (acts_of task ds) → IsOnWay fits task.problem (timed task ds) (now_of task ds) acted h old → Carried fits task.problem (now_of task ds) old new fate → Ends fits task ds new fate
  carried_ends ds old new h acted Alive times m k w c = (let r = c.reached (timed task ds) acted h (begun task ds) w in arrived ds old new r.0 acted times c m k r.1)
  carried_ends ds old new h acted Broken times m k w c =
      subst (λ n. (g : List Part) × FailsAt fits task.problem (timed task ds) n IsNoLimit g) m (c.fails (timed task ds) acted h (begun task ds) w)
  carried_ends ds old new h acted Beyond times m k w c =
      subst (λ n. (g : List Part) × FailsAt fits task.problem (timed task ds) n IsLimit g) m (c.fails (timed task ds) acted h (begun task ds) w)

  -- ---- a wait

  tick_waits : (n : ℕ) (ws : List ℕ) → AllWaits task.actions ws → tick_after task.actions n ws ≡ n + length ws
  tick_waits n [] h = (let e : n ≡ n + 0 = omega arith in e)
  tick_waits n (w ∷ ws) h =
      ap (λ (o : Option Action). tick_after task.actions (after_decision o n) ws) h.0
      ∙ tick_waits (suc n) ws h.1
      ∙ (let e : suc n + length ws ≡ n + suc (length ws) = omega arith in e)

  pub later_waits : (da ws : List ℕ) → whole (pos 0) <ℚ task.interval → AllWaits task.actions ws → now_of task da ≤ℚ now_of task (da ++ ws)
  later_waits da ws above w =
      subst (λ n. now_of task da ≤ℚ ticks task.interval n)
      (sym (ticks_join task.actions 0 da ws ∙ tick_waits (tick_after task.actions 0 da) ws w))
      (ticks_ordered task.interval (tick_after task.actions 0 da) (length ws) above)

  module _ (da ws : List ℕ) (t : TimelineView) (s : StandsAt fits task da t) (above : whole (pos 0) <ℚ task.interval) (e : EndsWithAction task.actions da) (w : AllWaits task.actions ws) where
    same_acts : timed task (da ++ ws) ≡ ending_at (acts_of task da) (now_of task (da ++ ws))
    same_acts = ends_with task (da ++ ws) ∙ ap (λ xs. ending_at xs (now_of task (da ++ ws))) (acts_waits task da ws w)

    wait_order : IsInOrder (timed task (da ++ ws)).lines
    wait_order = subst (λ (L : Plan). IsInOrder L.lines) (sym same_acts)
        (order_end (acts_of task da) (now_of task da) (now_of task (da ++ ws)) (subst (λ (L : Plan). IsInOrder L.lines) (ends_with task da) s.plays.prefix.ordered)
        (later_waits da ws above w))

    pub wait_times : fits (now_of task (da ++ ws)) → AllTimes fits (timed task (da ++ ws)).lines
    wait_times f = subst (λ (L : Plan). AllTimes fits L.lines) (sym same_acts)
        (times_join fits (acts_of task da) (EndLine (now_of task (da ++ ws)) ∷ [])
        (times_left fits (acts_of task da) (EndLine (now_of task da) ∷ []) (subst (λ (L : Plan). AllTimes fits L.lines) (ends_with task da) s.plays.times)) (f, tt))

    wait_way : IsOnWay fits task.problem (timed task (da ++ ws)) (now_of task (da ++ ws)) t.now.acted s.history t
    wait_way =
        let c = can_wait fits task da ws s.history e w wait_order s.plays in
        record {
          played = played_in da t s (timed task (da ++ ws)) c.0 c.1;
          target_is = ap (λ (o : Option Line). time_or o t.now.time) (line_end task (da ++ ws) t.now (s.acted ∙ sym (ap length (acts_waits task da ws w))));
          acted_is = refl;
        }

    pub waited : (new : TimelineView) (fate : Fate) → fits (now_of task (da ++ ws)) → Carried fits task.problem (now_of task (da ++ ws)) t new fate → Ends fits task (da ++ ws) new fate
    waited new fate f c =
        carried_ends (da ++ ws) t new s.history t.now.acted fate (wait_times f) s.most (s.acted ∙ sym (ap length (acts_waits task da ws w))) wait_way c

  -- the last time of the list is no number
  pub no_times : (ds : List ℕ) → (fits (now_of task ds) → ⊥) → AllTimes fits (timed task ds).lines → ⊥
  no_times ds n a = n (times_right fits (acts_of task ds) (EndLine (now_of task ds) ∷ []) (subst (λ (L : Plan). AllTimes fits L.lines) (ends_with task ds) a)).0

  -- ---- an action

  module _ (ds : List ℕ) (k : ℕ) (action : Action) (t : TimelineView) (s : StandsAt fits task ds t) (a : slice_get task.actions k ≡ Some action) where
    now_same : now_of task (ds ++ k ∷ []) ≡ now_of task ds
    now_same = ap (ticks task.interval) (tick_one task ds k action a)

    pub act_times : AllTimes fits (timed task (ds ++ k ∷ [])).lines
    act_times =
        let x = subst (λ (L : Plan). AllTimes fits L.lines) (ends_with task ds) s.plays.times in
        let end = times_right fits (acts_of task ds) (EndLine (now_of task ds) ∷ []) x in
        subst (λ (L : Plan). AllTimes fits L.lines) (sym (acts_next task ds k action a))
        (times_join fits (acts_of task ds) (ActLine (now_of task ds) (Instance action) ∷ EndLine (now_of task ds) ∷ [])
        (times_left fits (acts_of task ds) (EndLine (now_of task ds) ∷ []) x) (end.0, (end.0, tt)))

    here : IsPlayed fits task.problem (timed task (ds ++ k ∷ [])) s.history t
    here = (let c = can_act fits task ds k action s.history a s.plays in played_in ds t s (timed task (ds ++ k ∷ [])) c.0 c.1)

    next_is : next_line (timed task (ds ++ k ∷ [])) t.now ≡ Some (ActLine (now_of task ds) (Instance action))
    next_is = line_act task ds k action t.now a s.acted

    present : IsPresent task.problem t.now
    present = record { moment = s.moment; still = subst (λ (v : View). firing task.problem v.state ≡ []) (sym s.now) s.plays.worked.still }

    over_before : until task.problem (timed task ds) t.now ≡ t.now.time
    over_before = subst (λ (v : View). until task.problem (timed task ds) v ≡ v.time) (sym s.now) s.plays.worked.over

    until_same : until task.problem (timed task ds) t.now ≡ until task.problem (timed task (ds ++ k ∷ [])) t.now
    until_same =
        ap (λ (o : Option Line). least t.now.time (time_or o t.now.time) task.problem.timed) (line_end task ds t.now s.acted)
        ∙ sym (ap (λ (o : Option Line). least t.now.time (time_or o t.now.time) task.problem.timed) next_is)

    over : until task.problem (timed task (ds ++ k ∷ [])) t.now ≡ t.now.time
    over = sym until_same ∙ over_before

    advance_pass : AllPass fits (advance_tests task.problem t.most t.entries (until task.problem (timed task (ds ++ k ∷ [])) t.now) t.now)
    advance_pass =
        subst (λ (u : Fraction). AllPass fits (advance_tests task.problem t.most t.entries u t.now)) until_same
        (advance_passes ds t s.history (played_in ds t s (timed task ds) s.plays.prefix s.plays.clear) s.acted present over_before
        (subst (λ n. AllPass fits (asked_in task.problem (timed task ds) n s.history)) (sym s.most) s.plays.passes))

    -- what is asked before the action is done
    act_asks : asked_in task.problem (timed task (ds ++ k ∷ [])) t.most s.history ≡ advance_tests task.problem t.most t.entries (until task.problem (timed task (ds ++ k ∷ [])) t.now) t.now ++ act_tests t.now.acted action t.now.state
    act_asks =
        sym (asked_same here)
        ∙ asked_there task.problem (timed task (ds ++ k ∷ [])) t.most (λ i. []) t.entries t.now (Some (ActLine (now_of task ds) (Instance action))) next_is present over

    act_passes : AllPass fits (act_tests t.now.acted action t.now.state) → AllPass fits (asked_in task.problem (timed task (ds ++ k ∷ [])) t.most s.history)
    act_passes p = subst (AllPass fits) (sym act_asks) (pass_append (Passes fits) _ _ advance_pass p)

    -- the action is refused
    pub act_fails : (Kind : Test → Type 0) (test : Test) → FirstFailing fits (act_tests t.now.acted action t.now.state) test → Kind test → (g : List Part) × FailsAt fits task.problem (timed task (ds ++ k ∷ [])) task.most Kind g
    act_fails Kind test f q = (
      s.history,
      record {
        prefix = here.prefix;
        clear = subst (λ n. IsClearIn fits task.problem (timed task (ds ++ k ∷ [])) n s.history) s.most here.clear;
        test = test;
        first = subst (λ n. FirstFailing fits (asked_in task.problem (timed task (ds ++ k ∷ [])) n s.history) test) s.most
            (subst (λ (ts : List Test). FirstFailing fits ts test) (sym act_asks) (fail_right (Passes fits) _ _ test advance_pass f));
        kind = q;
      },
    )

    acted_length : (done : TimelineView) → DoesAct task.problem action t done → done.now.acted ≡ length (acts_of task (ds ++ k ∷ []))
    acted_length done d =
        ap (λ v. v.now.acted) d.is ∙ ap suc s.acted
        ∙ sym (ap length (acts_one task ds k action a) ∙ length_one (acts_of task ds) (ActLine (now_of task ds) (Instance action)))

    act_way : (done : TimelineView) → AllPass fits (act_tests t.now.acted action t.now.state) → DoesAct task.problem action t done → IsOnWay fits task.problem (timed task (ds ++ k ∷ [])) (now_of task (ds ++ k ∷ [])) done.now.acted (s.history ++ Act t.now.acted done.now.state ∷ []) done
    act_way done p d =
        let part = Act t.now.acted done.now.state in
        let due_now : next_line (timed task (ds ++ k ∷ [])) t.now ≡ Some (ActLine t.now.time (Instance action)) = next_is ∙ ap (λ x. Some (ActLine x (Instance action))) (sym s.time) in
        let adds : AddsChange task.problem (timed task (ds ++ k ∷ [])) t done part = act_follows task.problem (timed task (ds ++ k ∷ [])) t done action due_now d in
        record {
          played = played_on (λ g. Unit {0}) done part (begun task (ds ++ k ∷ [])) here (act_passes p)
              (ap (λ v. v.most) d.is) adds.adds
              (ap (λ v. v.entries) d.is ∙ s.entries ∙ sym (entries_of-append s.history part ∙ add-zero (entries_of s.history))) tt;
          target_is = ap (λ (o : Option Line). time_or o done.now.time) (line_end task (ds ++ k ∷ []) done.now (acted_length done d));
          acted_is = refl;
        }

    -- the action is done, and the timeline carried on to the present time
    pub acted_on : (done new : TimelineView) (fate : Fate) → AllPass fits (act_tests t.now.acted action t.now.state) → DoesAct task.problem action t done → Carried fits task.problem t.now.time done new fate → Ends fits task (ds ++ k ∷ []) new fate
    acted_on done new fate p d c =
        carried_ends (ds ++ k ∷ []) done new (s.history ++ Act t.now.acted done.now.state ∷ []) done.now.acted fate act_times (ap (λ v. v.most) d.is ∙ s.most) (acted_length done d)
        (act_way done p d)
        (subst (λ (u : Fraction). Carried fits task.problem u done new fate) (s.time ∙ sym now_same) c)
