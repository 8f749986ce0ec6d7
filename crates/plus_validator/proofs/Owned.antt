-- The owner of a comparison that a list of tests names is an event or a process of the problem.
use Rattle.std.proofs.Common.{◌≡◌, ℕ, suc, ◌+◌, ◌<◌, Bool, true, false, List, [], ◌∷◌, ◌++◌, map, sym, subst, inl, inr, arith}
use Rattle.std.specs.Prelude.{Option, Some, None, Result, Ok, Err, All, length, replicate, slice_get, nat_eq, pos, if◌then◌else◌}
use Rattle.std.proofs.lemmas.List.Elements.{All-nil, All-cons, All-head, All-tail, All-append}
use Rattle.plus_fraction.specs.Fraction.{Fraction, whole, ◌+ℚ◌, ◌-ℚ◌}
use Rattle.plus_model.specs.Terms.{Action, Condition, Event, Process, Rate, State, Problem}
use Rattle.plus_model.specs.Value.{value, fluent_of, holds}
use Rattle.plus_model.specs.Joint as joint
use Rattle.plus_model.specs.Firing.{firing, first_shared, effects_of, is_in}
use Rattle.plus_model.specs.Running.{rated, add_rates, rates_at, rates, moved, holding, first_coupled}
use Rattle.plus_model.specs.Piece.{rate_of, after}
use Rattle.plus_model.specs.Live.{live}
use Rattle.plus_model.specs.History.{View}
use Rattle.plus_model.specs.Trajectory.{is_below}
use Rattle.plus_model.specs.Breach as model
use Rattle.plus_number.specs.Frac.{IsFrac64}
use Rattle.plus_state.specs.declared.term.Sign.TheVariants.{Plus, Minus}
use Rattle.plus_state.specs.Node.{Node}
use Rattle.plus_state.specs.Asked.{node, nodes}
use Rattle.plus_state.specs.Tested as tested
use Rattle.plus_state.specs.Tests.{tests_of}
use Rattle.plus_state.specs.Steps as steps
use Rattle.plus_state.specs.Steps.{Step, guarded, joint_steps}
use Rattle.plus_cascade.specs.Steps.{condition_nodes}
use Rattle.plus_crossing.specs.Asked as crossing
use Rattle.plus_crossing.specs.Asked.{Ask}
use Rattle.plus_crossing.specs.Conds.{live_asks}
use Rattle.plus_crossing.specs.Next.{cross_asks}
use Rattle.plus_crossing.specs.Moves.{moved_nodes}
use Rattle.plus_settle.specs.Steps as settle
use Rattle.plus_settle.specs.Steps.{SettleStep}
use Rattle.plus_settle.specs.Members.{soon}
use Rattle.plus_settle.specs.Rates as rate
use Rattle.plus_settle.specs.Rates.{rates_steps, after_sums}
use Rattle.plus_settle.specs.Confirms.{soon_steps, go_steps, confirm_steps, differ, first_other}
use Rattle.plus_settle.specs.Settles as settles
use Rattle.plus_settle.specs.Settles.{settle_steps}
use Rattle.plus_stretch.specs.Tests.{Whose, event, process, Test, asks, straight, full, breach, FirstFailing, of_step, of_settle}
use Rattle.plus_stretch.specs.Crossings.{all_roots, rising_below}
use Rattle.plus_stretch.specs.StretchTests.{owned, after_tests, root_tests_in, root_tests, if_none, if_empty, here_tests, crossing_tests, walk_tests, with_rates, stretch_tests}
use Rattle.plus_timeline.specs.Asked.{repeated, fire_tests, round_tests, unless, act_tests, goal_tests, count_tests, closing_tests, advance_by, advance_tests}

-- an event or a process of the problem
abbrev pub IsWhose : Problem → Whose → Type 0
IsWhose P (event e) = e < length P.events
IsWhose P (process p) = p < length P.processes

-- where it is the test of a product or a quotient in a comparison, the owner is one of the problem
abbrev pub IsOwned : Problem → Test → Type 0
IsOwned P (straight w k b) = IsWhose P w
IsOwned P _ = Unit {0}

module _ (P : Problem) where
  -- the first that fails is one of the list
  first_in : (ts : List Test) (m : Test) → FirstFailing IsFrac64 ts m → All (IsOwned P) ts → IsOwned P m
  unfolding tested.FirstFailing
  first_in [] m f a = absurd f
  first_in (t ∷ ts) m (inl p) a = subst (IsOwned P) (sym p.1) (All-head (IsOwned P) t ts a)
  first_in (t ∷ ts) m (inr p) a = first_in ts m p.1 (All-tail (IsOwned P) t ts a)

  both : (xs ys : List Test) → All (IsOwned P) xs → All (IsOwned P) ys → All (IsOwned P) (xs ++ ys)
  both xs ys a b = All-append (IsOwned P) xs ys a b

  of_nodes : (ns : List Node) → All (IsOwned P) (map asks ns)
  of_nodes [] = All-nil (IsOwned P)
  of_nodes (n ∷ ns) = All-cons (IsOwned P) (asks n) (map asks ns) tt (of_nodes ns)

  one_step : (s : Step) → IsOwned P (of_step s)
  one_step (steps.asks n) = tt
  one_step (steps.fault (joint.NoValue f)) = tt
  one_step (steps.fault (joint.Conflict f)) = tt

  of_steps : (ss : List Step) → All (IsOwned P) (map of_step ss)
  of_steps [] = All-nil (IsOwned P)
  of_steps (s ∷ ss) = All-cons (IsOwned P) (of_step s) (map of_step ss) (one_step s) (of_steps ss)

  one_breach : (x : model.Breach) → All (IsOwned P) (breach x ∷ [])
  one_breach x = All-cons (IsOwned P) (breach x) [] tt (All-nil (IsOwned P))

  of_unless : (b : Bool) (x : model.Breach) → All (IsOwned P) (unless b x)
  of_unless true x = All-nil (IsOwned P)
  of_unless false x = one_breach x

  -- ---- an action, and the goal

  of_act : (i : ℕ) (action : Action) (s : State) → All (IsOwned P) (act_tests i action s)
  unfolding act_tests
  of_act i action s =
      both (map asks (tests_of action.condition s)) _ (of_nodes (tests_of action.condition s))
      (both (unless (holds action.condition s) (model.Precondition i)) _ (of_unless (holds action.condition s) (model.Precondition i))
      (of_steps (guarded (holds action.condition s) (joint_steps action.effects s))))

  of_goal : (s : State) → All (IsOwned P) (goal_tests P s)
  unfolding goal_tests
  of_goal s = both (map asks (tests_of P.goal s)) _ (of_nodes (tests_of P.goal s)) (of_unless (holds P.goal s) model.Goal)

  -- ---- a cascade

  of_repeated : (o : Option ℕ) → All (IsOwned P) (repeated o)
  of_repeated None = All-nil (IsOwned P)
  of_repeated (Some e) = one_breach (model.Repeats e)

  of_fire : (fired : List ℕ) (s : State) (es : List ℕ) → All (IsOwned P) (fire_tests P fired s es)
  unfolding fire_tests
  of_fire fired s [] = All-nil (IsOwned P)
  of_fire fired s (e ∷ es) = both (repeated (first_shared (e ∷ es) fired)) _ (of_repeated (first_shared (e ∷ es) fired)) (of_steps (joint_steps (effects_of P (e ∷ es)) s))

  of_round : (fired : List ℕ) (s : State) → All (IsOwned P) (round_tests P fired s)
  unfolding round_tests
  of_round fired s = both (map asks (condition_nodes P.events s)) _ (of_nodes (condition_nodes P.events s)) (of_fire fired s (firing P s))

  -- ---- what the conditions of events and processes ask along rates

  of_asks : (w : Whose) (ts : List Ask) → IsWhose P w → All (IsOwned P) (owned w ts)
  of_asks w [] h = All-nil (IsOwned P)
  of_asks w (crossing.asks n ∷ ts) h = All-cons (IsOwned P) (asks n) (owned w ts) tt (of_asks w ts h)
  of_asks w (crossing.straight k b ∷ ts) h = All-cons (IsOwned P) (straight w k b) (owned w ts) h (of_asks w ts h)

  of_after : (t : Fraction) (k : ℕ) (es : List Event) (s : State) (rs : List Fraction) (rest : List Test) → k + length es ≡ length P.events → All (IsOwned P) rest → All (IsOwned P) (after_tests t k es s rs rest)
  of_after t k [] s rs rest h a = a
  of_after t k (e ∷ es) s rs rest h a =
      both (owned (event k) (live_asks 0 e.condition s rs)) _ (of_asks (event k) (live_asks 0 e.condition s rs) (omega arith))
      (stops (after (live e.condition s) s rs) _ (of_after t (suc k) es s rs rest (omega arith) a))
    where
      stops : (b : Bool) (ts : List Test) → All (IsOwned P) ts → All (IsOwned P) (if b then breach (model.NoFirstMoment k t) ∷ [] else ts)
      stops true ts x = one_breach (model.NoFirstMoment k t)
      stops false ts x = x

  of_roots_in : {A : Type 0} (whose : ℕ → Whose) (condition : A → Condition) (n k : ℕ) (xs : List A) (s : State) (rs : List Fraction) → ((j : ℕ) → j < n → IsWhose P (whose j)) → k + length xs ≡ n → All (IsOwned P) (root_tests_in whose condition k xs s rs)
  of_roots_in whose condition n k [] s rs f h = All-nil (IsOwned P)
  of_roots_in whose condition n k (x ∷ xs) s rs f h =
      both (owned (whose k) (cross_asks 0 (condition x) s rs)) _ (of_asks (whose k) (cross_asks 0 (condition x) s rs) (f k (omega arith)))
      (of_roots_in whose condition n (suc k) xs s rs f (omega arith))

  of_roots : (s : State) (rs : List Fraction) → All (IsOwned P) (root_tests P s rs)
  unfolding root_tests
  of_roots s rs =
      both (root_tests_in event (λ (e : Event). e.condition) 0 P.events s rs) _
      (of_roots_in event (λ (e : Event). e.condition) (length P.events) 0 P.events s rs (λ j l. l) (omega arith))
      (of_roots_in process (λ (p : Process). p.condition) (length P.processes) 0 P.processes s rs (λ j l. l) (omega arith))

  -- ---- settling

  abbrev Settles : List SettleStep → Type 0
  Settles ss = All (IsOwned P) (map of_settle ss)

  settles_none : Settles []
  settles_none = All-nil (IsOwned P)

  settles_both : (xs ys : List SettleStep) → Settles xs → Settles ys → Settles (xs ++ ys)
  settles_both [] ys a b = b
  settles_both (x ∷ xs) ys a b = All-cons (IsOwned P) (of_settle x) (map of_settle (xs ++ ys)) (All-head (IsOwned P) (of_settle x) (map of_settle xs) a) (settles_both xs ys (All-tail (IsOwned P) (of_settle x) (map of_settle xs) a) b)

  settles_nodes : (ns : List Node) → Settles (map settle.asks ns)
  settles_nodes [] = settles_none
  settles_nodes (n ∷ ns) = All-cons (IsOwned P) (asks n) (map of_settle (map settle.asks ns)) tt (settles_nodes ns)

  settles_asks : (p : ℕ) (ts : List Ask) → p < length P.processes → Settles (settle.owned p ts)
  unfolding settle.owned
  settles_asks p [] h = settles_none
  settles_asks p (crossing.asks n ∷ ts) h = All-cons (IsOwned P) (asks n) (map of_settle (map (settle.of_ask p) ts)) tt (settles_asks p ts h)
  settles_asks p (crossing.straight k b ∷ ts) h = All-cons (IsOwned P) (straight (process p) k b) (map of_settle (map (settle.of_ask p) ts)) h (settles_asks p ts h)

  settles_soon : (k : ℕ) (p : Process) (s : State) (rs : List Fraction) → k < length P.processes → Settles (soon_steps k p s rs)
  unfolding soon_steps
  settles_soon k p s rs h = settles_asks k (live_asks 0 p.condition s rs) h

  settles_confirm : (R : List ℕ) (k : ℕ) (ps : List Process) (s : State) (rs : List Fraction) → k + length ps ≡ length P.processes → Settles (confirm_steps R k ps s rs)
  settles_confirm R k [] s rs h = settles_none
  settles_confirm R k (p ∷ ps) s rs h =
      settles_both (soon_steps k p s rs) _ (settles_soon k p s rs (omega arith))
      (stops (differ (soon p s rs) (is_in R k)) (confirm_steps R (suc k) ps s rs) (settles_confirm R (suc k) ps s rs (omega arith)))
    where
      stops : (b : Bool) (ss : List SettleStep) → Settles ss → Settles (if b then [] else ss)
      stops true ss a = settles_none
      stops false ss a = a

  settles_go : (R : List ℕ) (s : State) (rs : List Fraction) → Settles (go_steps P R s rs)
  unfolding go_steps
  settles_go R s rs = settles_confirm R 0 P.processes s rs (omega arith)

  settles_chosen : (k : ℕ) (ps : List Process) (s : State) (rs : List Fraction) → k + length ps ≡ length P.processes → Settles (settles.chosen_steps k ps s rs)
  settles_chosen k [] s rs h = settles_none
  settles_chosen k (p ∷ ps) s rs h =
      settles_both (soon_steps k p s rs) _ (settles_soon k p s rs (omega arith)) (settles_chosen (suc k) ps s rs (omega arith))

  settles_need : (f : ℕ) (o : Option Fraction) → Settles (rate.need f o)
  settles_need f None = one_breach (model.NoValue f)
  settles_need f (Some x) = settles_none

  settles_sum : (up : Bool) (y : Fraction) (o : Option Fraction) → Settles (rate.sum_steps up y o)
  settles_sum up y None = settles_none
  settles_sum up y (Some x) = settles_nodes (node (rate.sign_of up) y x ∷ [])

  settles_after : (r : Result (List Fraction) ℕ) (more : List Fraction → List SettleStep) → ((sums : List Fraction) → Settles (more sums)) → Settles (after_sums r more)
  settles_after (Err f) more h = settles_none
  settles_after (Ok sums) more h = h sums

  settles_rate : (r : Rate) (s : State) (sums : List Fraction) → Settles (rate.rate_steps r s sums)
  unfolding rate.rate_steps
  settles_rate r s sums =
      settles_both (map settle.asks (nodes r.amount s)) _ (settles_nodes (nodes r.amount s))
      (settles_both (rate.need r.fluent (value r.amount s)) _ (settles_need r.fluent (value r.amount s))
      (settles_both (rate.need r.fluent (fluent_of s r.fluent)) _ (settles_need r.fluent (fluent_of s r.fluent)) (settles_sum r.up (rate_of sums r.fluent) (value r.amount s))))

  settles_add : (rs : List Rate) (s : State) (sums : List Fraction) → Settles (rate.add_rates_steps rs s sums)
  settles_add [] s sums = settles_none
  settles_add (r ∷ rs) s sums =
      settles_both (rate.rate_steps r s sums) _ (settles_rate r s sums)
      (settles_after (rated r.fluent r.up (value r.amount s) (fluent_of s r.fluent) sums) (rate.add_rates_steps rs s) (λ more. settles_add rs s more))

  settles_sums : (R : List ℕ) (s : State) (sums : List Fraction) → Settles (rate.sum_rates_steps P R s sums)
  settles_sums [] s sums = settles_none
  settles_sums (p ∷ R) s sums =
      settles_both (rate.add_rates_steps (rates_at (slice_get P.processes p)) s sums) _ (settles_add (rates_at (slice_get P.processes p)) s sums)
      (settles_after (add_rates (rates_at (slice_get P.processes p)) s sums) (rate.sum_rates_steps P R s) (λ more. settles_sums R s more))

  settles_rates : (s : State) (R : List ℕ) → Settles (rates_steps P s R)
  unfolding rates_steps
  settles_rates s R = settles_sums R s (replicate (length s.fluents) (whole (pos 0)))

  settles_end : (o : Option ℕ) (c : Option (ℕ × ℕ)) → Settles (settles.end_steps o c)
  settles_end (Some p) c = one_breach (model.Unsettled p)
  settles_end None None = settles_none
  settles_end None (Some c) = one_breach (model.Coupled c.0 c.1)

  settles_own : (s : State) (R : List ℕ) (own : List Fraction) → Settles (settles.own_then P s R own)
  unfolding settles.own_then
  settles_own s R own = settles_both (go_steps P R s own) _ (settles_go R s own) (settles_end (first_other R 0 P.processes s own) (first_coupled P R own))

  settles_members : (s : State) (R : List ℕ) → Settles (settles.members_then P s R)
  unfolding settles.members_then
  settles_members s R = settles_both (rates_steps P s R) _ (settles_rates s R) (settles_after (rates P s R) (settles.own_then P s R) (λ own. settles_own s R own))

  settles_first : (s : State) (first : List Fraction) → Settles (settles.first_then P s first)
  unfolding settles.first_then
  settles_first s first =
      settles_both (settles.chosen_steps 0 P.processes s first) _ (settles_chosen 0 P.processes s first (omega arith)) (settles_members s (settles.running_soon P s first))

  of_settling : (s : State) → All (IsOwned P) (map of_settle (settle_steps P s))
  unfolding settle_steps
  of_settling s =
      settles_both (map settle.asks (settles.condition_nodes P.processes s)) _ (settles_nodes (settles.condition_nodes P.processes s))
      (settles_both (rates_steps P s (holding P s)) _ (settles_rates s (holding P s)) (settles_after (rates P s (holding P s)) (settles.first_then P s) (λ first. settles_first s first)))

  -- ---- closing an entry

  of_count : (b : Bool) (n : ℕ) → All (IsOwned P) (if b then full n ∷ [] else [])
  of_count true n = All-cons (IsOwned P) (full n) [] tt (All-nil (IsOwned P))
  of_count false n = All-nil (IsOwned P)

  of_closing : (most entries : ℕ) (s : State) → All (IsOwned P) (closing_tests P most entries s)
  unfolding closing_tests
  of_closing most entries s = both (count_tests most entries) _ (of_count (nat_eq entries most) most) (of_settling s)

  -- ---- along a running set

  of_unless_some : {A : Type 0} (o : Option A) (ts : List Test) → All (IsOwned P) ts → All (IsOwned P) (if_none o ts)
  of_unless_some None ts a = a
  of_unless_some (Some x) ts a = All-nil (IsOwned P)

  of_unless_any : (xs : List ℕ) (ts : List Test) → All (IsOwned P) ts → All (IsOwned P) (if_empty xs ts)
  of_unless_any [] ts a = a
  of_unless_any (x ∷ xs) ts a = All-nil (IsOwned P)

  of_here : (t : Fraction) (s : State) (R : List ℕ) (rs : List Fraction) (rest : List Test) → All (IsOwned P) rest → All (IsOwned P) (here_tests P t s R rs rest)
  unfolding here_tests
  of_here t s R rs rest a =
      both (map asks (condition_nodes P.events s)) _ (of_nodes (condition_nodes P.events s))
      (of_unless_any (firing P s) _ (both (map of_settle (go_steps P R s rs)) _ (settles_go R s rs)
      (of_unless_some (first_other R 0 P.processes s rs) _ (of_after t 0 P.events s rs rest (omega arith) a))))

  of_crossing : (t : Fraction) (s : State) (R : List ℕ) (rs : List Fraction) (r : Fraction) (rest : List Test) → All (IsOwned P) rest → All (IsOwned P) (crossing_tests P t s R rs r rest)
  unfolding crossing_tests
  of_crossing t s R rs r rest a =
      both (map asks (node Plus t r ∷ moved_nodes s.fluents rs r)) _ (of_nodes (node Plus t r ∷ moved_nodes s.fluents rs r)) (of_here (t +ℚ r) (moved s rs r) R rs rest a)

  of_walk : (t : Fraction) (s : State) (R : List ℕ) (rs : List Fraction) (len : Fraction) (roots : List Fraction) → All (IsOwned P) (walk_tests P t s R rs len roots)
  of_walk t s R rs len [] = of_nodes (moved_nodes s.fluents rs len)
  of_walk t s R rs len (r ∷ roots) = of_crossing t s R rs r (walk_tests P t s R rs len roots) (of_walk t s R rs len roots)

  of_rates : (r : Result (List Fraction) ℕ) (more : List Fraction → List Test) → ((rs : List Fraction) → All (IsOwned P) (more rs)) → All (IsOwned P) (with_rates r more)
  of_rates (Err f) more h = All-nil (IsOwned P)
  of_rates (Ok rs) more h = h rs

  of_stretch : (u : Fraction) (v : View) (R : List ℕ) → All (IsOwned P) (stretch_tests P u v R)
  unfolding stretch_tests
  of_stretch u v R =
      of_rates (rates P v.state R) _ (λ rs.
      of_after v.time 0 P.events v.state rs _ (omega arith)
      (All-cons (IsOwned P) (asks (node Minus u v.time)) _ tt
      (both (root_tests P v.state rs) _ (of_roots v.state rs) (of_walk v.time v.state R rs (u -ℚ v.time) (rising_below (u -ℚ v.time) (all_roots P v.state rs))))))

  -- ---- all together

  of_later : (b : Bool) (most entries : ℕ) (s : State) → All (IsOwned P) (if b then closing_tests P most entries s else [])
  of_later true most entries s = of_closing most entries s
  of_later false most entries s = All-nil (IsOwned P)

  of_advance_by : (most entries : ℕ) (u : Fraction) (v : View) (o : Option (List ℕ)) → All (IsOwned P) (advance_by P most entries u v o)
  of_advance_by most entries u v (Some R) = of_stretch u v R
  of_advance_by most entries u v None =
      both (round_tests P v.fired v.state) _ (of_round v.fired v.state) (of_unless_any (firing P v.state) _ (of_later (is_below v.time u) most entries v.state))

  of_advance : (most entries : ℕ) (u : Fraction) (v : View) → All (IsOwned P) (advance_tests P most entries u v)
  unfolding advance_tests
  of_advance most entries u v = of_advance_by most entries u v v.running

-- ---- so the owner that a limit names is one

pub act_owned : (P : Problem) (i : ℕ) (action : Action) (s : State) (m : Test) → FirstFailing IsFrac64 (act_tests i action s) m → IsOwned P m
act_owned P i action s m f = first_in P (act_tests i action s) m f (of_act P i action s)

pub goal_owned : (P : Problem) (s : State) (m : Test) → FirstFailing IsFrac64 (goal_tests P s) m → IsOwned P m
goal_owned P s m f = first_in P (goal_tests P s) m f (of_goal P s)

pub advance_owned : (P : Problem) (most entries : ℕ) (u : Fraction) (v : View) (m : Test) → FirstFailing IsFrac64 (advance_tests P most entries u v) m → IsOwned P m
advance_owned P most entries u v m f = first_in P (advance_tests P most entries u v) m f (of_advance P most entries u v)
