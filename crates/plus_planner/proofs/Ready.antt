-- What was played of a list is what happens first where it goes on.
use Rattle.std.proofs.Common.{◌≡◌, ◌⊎◌, inl, inr, ℕ, suc, ◌<◌, ◌≤◌, false, List, [], ◌∷◌, ◌++◌, length, refl, ap, sym, subst, ◌∙◌, arith, rules, if◌then◌else◌}
use Rattle.std.specs.Prelude.{Option, Some, None, slice_get}
use Rattle.std.proofs.lemmas.Grind.{common_steps}
use Rattle.std.proofs.lemmas.List.{append-nil}
use Rattle.plus_fraction.specs.Fraction.{Fraction}
use Rattle.plus_fraction.proofs.FractionRing.{zero-*ℚ}
use Rattle.plus_model.specs.Terms.{Action, Problem}
use Rattle.plus_model.specs.Plan.{Called, Line, ActLine, EndLine, Instance, UnknownAction, WrongArguments, time_of, Plan, IsInOrder}
use Rattle.plus_model.specs.History.{Part, Enter, Round, Act, Run, View, view_after, view_from}
use Rattle.plus_model.specs.Trajectory.{next_line, time_or, least, until, Next, NextBy, Follow, first_part, first_view, view_of, Prefix}
use Rattle.plus_model.proofs.Moments.{≤ℚ_refl}
use Rattle.plus_model.proofs.Paths.{view_is}
use Rattle.plus_stretch.specs.Tests.{Test, AllPass}
use Rattle.plus_timeline.specs.Asked.{line_tests, advance_by, advance_tests, is_there, asked}
use Rattle.plus_timeline.specs.Played.{entries_of}
use Rattle.plus_planner.specs.Grid.{Task, ticks, line_for, after_decision, lines_from, acts_from, tick_after, timed, IsClearIn}
use Rattle.plus_planner.specs.Laws.{ending_at, last_time, CanAct, AllWaits, EndsWithAction, CanWait}
use Rattle.plus_planner.proofs.Waiting.{inside_more, at_more, at_end, acted_next, wait_goes_on, act_goes_on}
use Rattle.plus_timeline.proofs.Stays.{asked_is}
use Rattle.plus_timeline.proofs.AskedHere.{IsNoAct, still_due, asked_cut}
use Rattle.plus_timeline.proofs.Played.{tail_is}
use Rattle.plus_planner.proofs.Asking.{asked_goes_on}

-- ---- a beginning of a prefix is one

pub begin_follow : (P : Problem) (L : Plan) (v : View) (xs ys : List Part) → Follow P L v (xs ++ ys) → Follow P L v xs
begin_follow P L v [] ys f = tt
begin_follow P L v (x ∷ xs) ys f = (f.0, f.1, begin_follow P L (view_after v x) xs ys f.2)

pub beginning : (P : Problem) (L : Plan) (g rest g0 : List Part) → g ≡ first_part P ∷ g0 → Prefix P L (g ++ rest) → Prefix P L g
beginning P L g rest g0 a b =
    let e : first_part P ∷ (g0 ++ rest) ≡ first_part P ∷ b.rest = sym (ap (λ z. z ++ rest) a) ∙ b.begins in
    let f = tail_is (first_part P) (first_part P) (g0 ++ rest) b.rest e in
    record { ordered = b.ordered; rest = g0; begins = a; follow = begin_follow P L (first_view P) g0 rest (subst (λ xs. Follow P L (first_view P) xs) (sym f) b.follow) }

pub one_more : (g : List Part) (part : Part) (rest : List Part) → g ++ part ∷ rest ≡ (g ++ part ∷ []) ++ rest
one_more g part rest = search (rules, common_steps)

-- the plan in which an action is due in place of the end
abbrev pub due : List Line → Fraction → Called → List Line → Plan
due lines t call more = record { lines = lines ++ ActLine t call ∷ more; closed = false }

-- ---- where all actions are done no act comes next

no_act : (P : Problem) (lines : List Line) (t : Fraction) (v : View) (o : Option (List ℕ)) (p : Part) → v.acted ≡ length lines → NextBy P (ending_at lines t) v o p → IsNoAct p
no_act P lines t v (Some R) (Act j u) g n = n
no_act P lines t v None (Act j u) g n = differ (sym (subst (λ k. slice_get (lines ++ EndLine t ∷ []) k ≡ Some (EndLine t)) (sym g) (at_end lines (EndLine t))) ∙ n.due)
  where
    differ : {a b : Fraction} {c : Called} → Some (EndLine a) ≡ Some (ActLine b c) → ⊥
    differ h = cc
no_act P lines t v o (Enter a b c) g n = tt
no_act P lines t v o (Round E u) g n = tt
no_act P lines t v o (Run R) g n = tt

-- ---- an action is due in place of the end

same_tests : (P : Problem) (lines more : List Line) (t : Fraction) (call : Called) (instance : ℕ → List Test) (v : View) (line : Option Line) → line_tests P (ending_at lines t) instance v line ≡ line_tests P (due lines t call more) instance v line
same_tests P lines more t call instance v None = refl
same_tests P lines more t call instance v (Some (EndLine s)) = refl
same_tests P lines more t call instance v (Some (ActLine s (Instance a))) = refl
same_tests P lines more t call instance v (Some (ActLine s (UnknownAction n))) = refl
same_tests P lines more t call instance v (Some (ActLine s (WrongArguments n))) = refl

asked_line : (P : Problem) (lines more : List Line) (t : Fraction) (call : Called) (most : ℕ) (instance : ℕ → List Test) (entries : ℕ) (v : View) → next_line (ending_at lines t) v ≡ next_line (due lines t call more) v → asked P (ending_at lines t) most instance entries v ≡ asked P (due lines t call more) most instance entries v
asked_line P lines more t call most instance entries v e =
    asked_is P (ending_at lines t) most instance entries v
    ∙ ap (λ (o : Option Line). advance_by P most entries (least v.time (time_or o v.time) P.timed) v v.running ++ (if is_there P (least v.time (time_or o v.time) P.timed) v v.running then line_tests P (ending_at lines t) instance v o else [])) e
    ∙ ap (λ (ts : List Test). advance_by P most entries (until P (due lines t call more) v) v v.running ++ (if is_there P (until P (due lines t call more) v) v v.running then ts else [])) (same_tests P lines more t call instance v (next_line (due lines t call more) v))
    ∙ sym (asked_is P (due lines t call more) most instance entries v)

asked_due : (P : Problem) (lines more : List Line) (t : Fraction) (call : Called) (most : ℕ) (instance : ℕ → List Test) (entries : ℕ) (v : View) (p : Part) → v.acted ≤ length lines → Next P (ending_at lines t) v p → asked P (ending_at lines t) most instance entries v ≡ asked P (due lines t call more) most instance entries v
asked_due P lines more t call most instance entries v p h n = elim (cases v.acted (length lines) h) [
  | inl g ↦ asked_line P lines more t call most instance entries v (inside_more lines (EndLine t) (ActLine t call) more v.acted g)
  | inr g ↦ (let u = same_until g in let k = still_due P (ending_at lines t) v v.running p (no_act P lines t v v.running p g n) n in
      asked_cut P (ending_at lines t) most instance entries v k
      ∙ ap (λ (x : Fraction). advance_tests P most entries x v) u
      ∙ sym (asked_cut P (due lines t call more) most instance entries v (subst (λ (x : Fraction). is_there P x v v.running ≡ false) u k)))
]
  where
    cases : (k m : ℕ) → k ≤ m → (k < m) ⊎ (k ≡ m)
    cases k m h = grind arith

    same_until : v.acted ≡ length lines → until P (ending_at lines t) v ≡ until P (due lines t call more) v
    same_until g =
        ap (λ o. least v.time (time_or o v.time) P.timed) (subst (λ k. slice_get (lines ++ EndLine t ∷ []) k ≡ Some (EndLine t)) (sym g) (at_end lines (EndLine t)))
        ∙ sym (ap (λ o. least v.time (time_or o v.time) P.timed) (subst (λ k. slice_get (lines ++ ActLine t call ∷ more) k ≡ Some (ActLine t call)) (sym g) (at_more lines (ActLine t call) more)))

walk_end : (P : Problem) (lines : List Line) (t : Fraction) (part : Part) (xs : List Part) (v : View) → v.acted ≤ length lines → Follow P (ending_at lines t) v (xs ++ part ∷ []) → ((view_from v xs).acted ≤ length lines) × Next P (ending_at lines t) (view_from v xs) part
walk_end P lines t part [] v h f = (h, f.1)
walk_end P lines t part (x ∷ xs) v h f = walk_end P lines t part xs (view_after v x) (acted_next P lines t v v.running x h f.1) f.2

-- what comes next in the history, and the history up to it
split : (P : Problem) (L : Plan) (h g : List Part) (part : Part) (rest g0 : List Part) → g ≡ first_part P ∷ g0 → Prefix P L h → h ≡ g ++ part ∷ rest → Prefix P L g × Prefix P L (g ++ part ∷ [])
split P L h g part rest g0 a p e = (
  beginning P L g (part ∷ rest) g0 a (subst (λ x. Prefix P L x) e p),
  beginning P L (g ++ part ∷ []) rest (g0 ++ part ∷ []) (ap (λ z. z ++ part ∷ []) a) (subst (λ x. Prefix P L x) (e ∙ one_more g part rest) p),
)

clear_due : (fits : Fraction → Type 0) (P : Problem) (lines more : List Line) (t : Fraction) (call : Called) (most : ℕ) (h : List Part) → Prefix P (ending_at lines t) h → IsClearIn fits P (ending_at lines t) most h → IsClearIn fits P (due lines t call more) most h
clear_due fits P lines more t call most h p c g part rest a e =
    let s = split P (ending_at lines t) h g part rest a.rest a.begins p e in
    let b = s.1 in
    let f = tail_is (first_part P) (first_part P) (a.rest ++ part ∷ []) b.rest (sym (ap (λ z. z ++ part ∷ []) a.begins) ∙ b.begins) in
    let w = walk_end P lines t part a.rest (first_view P) (omega arith) (subst (λ xs. Follow P (ending_at lines t) (first_view P) xs) (sym f) b.follow) in
    let q : asked P (ending_at lines t) most (λ i. []) (entries_of g) (view_of P g) ≡ asked P (due lines t call more) most (λ i. []) (entries_of g) (view_of P g) =
    subst (λ v. asked P (ending_at lines t) most (λ i. []) (entries_of g) v ≡ asked P (due lines t call more) most (λ i. []) (entries_of g) v) (sym (view_is P g a.rest a.begins))
    (asked_due P lines more t call most (λ i. []) (entries_of g) (view_from (first_view P) a.rest) part w.0 w.1) in
    subst (AllPass fits) q (c g part rest s.0 e)

clear_wait : (fits : Fraction → Type 0) (P : Problem) (lines : List Line) (t : Fraction) (most : ℕ) (h : List Part) → Prefix P (ending_at lines (last_time lines)) h → IsClearIn fits P (ending_at lines (last_time lines)) most h → IsClearIn fits P (ending_at lines t) most h
clear_wait fits P lines t most h p c g part rest a e =
    let s = split P (ending_at lines (last_time lines)) h g part rest a.rest a.begins p e in
    subst (AllPass fits) (asked_goes_on P lines t most (λ i. []) (entries_of g) g part s.0 s.1) (c g part rest s.0 e)

-- ---- the lines of a list of decisions

pub line_joins : (o : Option Action) (t : Fraction) (xs ys : List Line) → line_for o t (xs ++ ys) ≡ line_for o t xs ++ ys
line_joins None t xs ys = refl
line_joins (Some a) t xs ys = refl

pub lines_join : (actions : List Action) (q : Fraction) (n : ℕ) (ds es : List ℕ) → lines_from actions q n (ds ++ es) ≡ acts_from actions q n ds ++ lines_from actions q (tick_after actions n ds) es
lines_join actions q n [] es = refl
lines_join actions q n (d ∷ ds) es =
    ap (line_for (slice_get actions d) (ticks q n)) (lines_join actions q (after_decision (slice_get actions d) n) ds es)
    ∙ line_joins (slice_get actions d) (ticks q n) _ _

pub acts_join : (actions : List Action) (q : Fraction) (n : ℕ) (ds es : List ℕ) → acts_from actions q n (ds ++ es) ≡ acts_from actions q n ds ++ acts_from actions q (tick_after actions n ds) es
acts_join actions q n [] es = refl
acts_join actions q n (d ∷ ds) es =
    ap (line_for (slice_get actions d) (ticks q n)) (acts_join actions q (after_decision (slice_get actions d) n) ds es)
    ∙ line_joins (slice_get actions d) (ticks q n) _ _

pub ticks_join : (actions : List Action) (n : ℕ) (ds es : List ℕ) → tick_after actions n (ds ++ es) ≡ tick_after actions (tick_after actions n ds) es
ticks_join actions n [] es = refl
ticks_join actions n (d ∷ ds) es = ticks_join actions (after_decision (slice_get actions d) n) ds es

abbrev pub plan_of : List Line → Plan
plan_of lines = record { lines = lines; closed = false }

pub ends_with : (task : Task) (ds : List ℕ) → timed task ds ≡ ending_at (acts_from task.actions task.interval 0 ds) (ticks task.interval (tick_after task.actions 0 ds))
ends_with task ds =
    ap plan_of (ap (lines_from task.actions task.interval 0) (sym (append-nil ds)) ∙ lines_join task.actions task.interval 0 ds [])

pub acts_next : (task : Task) (ds : List ℕ) (k : ℕ) (action : Action) → slice_get task.actions k ≡ Some action → timed task (ds ++ k ∷ []) ≡ due (acts_from task.actions task.interval 0 ds) (ticks task.interval (tick_after task.actions 0 ds)) (Instance action) (EndLine (ticks task.interval (tick_after task.actions 0 ds)) ∷ [])
acts_next task ds k action e =
    ap plan_of (lines_join task.actions task.interval 0 ds (k ∷ [])
    ∙ ap (λ (o : Option Action). acts_from task.actions task.interval 0 ds ++ line_for o (ticks task.interval (tick_after task.actions 0 ds)) (EndLine (ticks task.interval (after_decision o (tick_after task.actions 0 ds))) ∷ [])) e)

pub order_due : (xs : List Line) (t : Fraction) (call : Called) → IsInOrder (xs ++ EndLine t ∷ []) → IsInOrder (xs ++ ActLine t call ∷ EndLine t ∷ [])
order_due [] t call o = (≤ℚ_refl t, tt)
order_due (EndLine u ∷ []) t call o = o
order_due (EndLine u ∷ y ∷ ys) t call o = o
order_due (ActLine u c ∷ []) t call o = (o.0, order_due [] t call tt)
order_due (ActLine u c ∷ y ∷ ys) t call o = (o.0, order_due (y ∷ ys) t call o.1)

pub can_act : (fits : Fraction → Type 0) → CanAct fits
can_act fits task ds k action h e p =
    let xs = acts_from task.actions task.interval 0 ds in
    let t = ticks task.interval (tick_after task.actions 0 ds) in
    let more = EndLine t ∷ [] in
    let here = ends_with task ds in
    let there = acts_next task ds k action e in
    let a = subst (λ L. Prefix task.problem L h) here p.prefix in
    let c = subst (λ L. IsClearIn fits task.problem L task.most h) here p.clear in (
      subst (λ L. Prefix task.problem L h) (sym there) (act_goes_on task.problem xs more t (Instance action) false h a (order_due xs t (Instance action) a.ordered)),
      subst (λ L. IsClearIn fits task.problem L task.most h) (sym there) (clear_due fits task.problem xs more t (Instance action) task.most h a c),
    )

pub waits_are : (actions : List Action) (q : Fraction) (n : ℕ) (ws : List ℕ) → AllWaits actions ws → (m : ℕ) × (lines_from actions q n ws ≡ EndLine (ticks q m) ∷ [])
waits_are actions q n [] h = (n, refl)
waits_are actions q n (d ∷ ds) h =
    let r = waits_are actions q (suc n) ds h.1 in
    (r.0, ap (λ (o : Option Action). line_for o (ticks q n) (lines_from actions q (after_decision o n) ds)) h.0 ∙ r.1)

pub last_of : (xs : List Line) (x : Line) → last_time (xs ++ x ∷ []) ≡ time_of x
last_of [] x = refl
last_of (y ∷ []) x = refl
last_of (y ∷ z ∷ zs) x = last_of (z ∷ zs) x

pub last_is : (task : Task) (ds : List ℕ) → EndsWithAction task.actions ds → ticks task.interval (tick_after task.actions 0 ds) ≡ last_time (acts_from task.actions task.interval 0 ds)
last_is task ds (inl e) = subst (λ xs. ticks task.interval (tick_after task.actions 0 xs) ≡ last_time (acts_from task.actions task.interval 0 xs)) (sym e) (zero-*ℚ task.interval)
last_is task ds (inr (es, k, action, e, f)) =
    let A = task.actions in let q = task.interval in let m = tick_after A 0 es in
    let now : tick_after A 0 (es ++ k ∷ []) ≡ m = ticks_join A 0 es (k ∷ []) ∙ ap (λ (o : Option Action). after_decision o m) f in
    let acts : acts_from A q 0 (es ++ k ∷ []) ≡ acts_from A q 0 es ++ ActLine (ticks q m) (Instance action) ∷ [] =
    acts_join A q 0 es (k ∷ []) ∙ ap (λ (o : Option Action). acts_from A q 0 es ++ line_for o (ticks q m) []) f in
    subst (λ xs. ticks q (tick_after A 0 xs) ≡ last_time (acts_from A q 0 xs)) (sym e)
    (ap (ticks q) now ∙ sym (ap last_time acts ∙ last_of (acts_from A q 0 es) (ActLine (ticks q m) (Instance action))))

pub can_wait : (fits : Fraction → Type 0) → CanWait fits
can_wait fits task ds ws h ends waits order p =
    let xs = acts_from task.actions task.interval 0 ds in
    let w = waits_are task.actions task.interval (tick_after task.actions 0 ds) ws waits in
    let t = ticks task.interval w.0 in
    let here : timed task ds ≡ ending_at xs (last_time xs) = ends_with task ds ∙ ap (λ z. ending_at xs z) (last_is task ds ends) in
    let there : timed task (ds ++ ws) ≡ ending_at xs t = ap plan_of (lines_join task.actions task.interval 0 ds ws ∙ ap (λ z. xs ++ z) w.1) in
    let a = subst (λ L. Prefix task.problem L h) here p.prefix in
    let c = subst (λ L. IsClearIn fits task.problem L task.most h) here p.clear in (
      subst (λ L. Prefix task.problem L h) (sym there) (wait_goes_on task.problem xs t h a (subst (λ L. IsInOrder L.lines) there order)),
      subst (λ L. IsClearIn fits task.problem L task.most h) (sym there) (clear_wait fits task.problem xs t task.most h a c),
    )
