-- At a view one breach stands at most.
use Rattle.std.proofs.Common.{◌≡◌, ◌≢◌, ℕ, true, false, List, [], ◌∷◌, ◌++◌, refl, ap, ap₂, sym, subst, ◌∙◌, inl, inr, pos, if◌then◌else◌}
use Rattle.std.proofs.lemmas.Bool.{cases_order}
use Rattle.std.specs.Prelude.{Option, Some, None, Result, Ok, Err, IsSomeAnd, slice_get}
use Rattle.plus_fraction.specs.Fraction.{Fraction, whole, ◌+ℚ◌, ◌-ℚ◌, ◌<ℚ◌}
use Rattle.plus_fraction.proofs.FractionOrder.{<ℚ_irrefl, <ℚ_or}
use Rattle.plus_model.specs.Terms.{Problem, State, Event}
use Rattle.plus_model.specs.Value.{holds}
use Rattle.plus_model.specs.Joint.{Fault, NoValue as no_value, Conflict as conflict, joint}
use Rattle.plus_model.specs.Firing.{firing, first_shared, effects_of}
use Rattle.plus_model.specs.Running.{rates, moved, JustAfter, IsQuiet, first_coupled, GoesOn, Chosen, holding}
use Rattle.plus_model.specs.Plan.{Called, Instance, UnknownAction as unknown, WrongArguments as wrong, Line, ActLine, EndLine, Plan}
use Rattle.plus_model.specs.History.{View}
use Rattle.plus_model.specs.Trajectory.{next_line, until, IsEndOrNone, IsWorked}
use Rattle.plus_model.specs.Breach.{Breach, UnknownAction, WrongArguments, Precondition, Conflict, NoValue, Repeats, Unsettled, Coupled, NoFirstMoment, Goal, IsFirst, IsOpen, IsDue, JointFails, Differs, HoldsAfter, IsMomentless, Stands, IsBreach, LineBreach, TimeGoesBack, AfterEnd, IsLineBreach}
use Rattle.plus_model.specs.Laws.{OneLineBreach, LineBreachIsAlone}
use Rattle.plus_model.proofs.Steps.{due_holds, one_chosen}
use Rattle.plus_model.proofs.Final.{shared_some}
use Rattle.plus_fraction.proofs.Ring.{var, ◌⊕◌, ◌⊖◌}
use Rattle.plus_fraction.proofs.FractionRing.{ringℚ}
use Rattle.plus_model.proofs.Search.{past, short}
use Rattle.plus_model.proofs.Moments.{<ℚ-≤ℚ, sub_above}
use Rattle.plus_model.proofs.Motion.{between_both, no_event, moved-moved}

-- ---- the stages
of_fault : Fault → Breach
of_fault (conflict f) = Conflict f
of_fault (no_value f) = NoValue f

fault_answer : Result State Fault → Option Breach
fault_answer (Ok s) = None
fault_answer (Err why) = Some (of_fault why)

round_by : Option ℕ → Result State Fault → Option Breach
round_by (Some e) r = Some (Repeats e)
round_by None r = fault_answer r

round_answer : Problem → View → Option Breach
round_answer P v = round_by (first_shared (firing P v.state) v.fired) (joint (effects_of P (firing P v.state)) v.state)

act_answer : Called → State → ℕ → Option Breach
act_answer (unknown name) s i = Some (UnknownAction i name)
act_answer (wrong name) s i = Some (WrongArguments i name)
act_answer (Instance a) s i = if holds a.condition s then fault_answer (joint a.effects s) else Some (Precondition i)

data OwnBreach (P : Problem) (s : State) (R : List ℕ) (own : List Fraction) (b : Breach) : Type 0 where
  unsettled : (p : ℕ) → IsFirst (Differs P s R own) p → b ≡ Unsettled p → OwnBreach P s R own b
  coupled : (p f : ℕ) → GoesOn P s own R → first_coupled P R own ≡ Some (p, f) → b ≡ Coupled p f → OwnBreach P s R own b

data ChosenBreach (P : Problem) (s : State) (R : List ℕ) (b : Breach) : Type 0 where
  fails : (f : ℕ) → rates P s R ≡ Err f → b ≡ NoValue f → ChosenBreach P s R b
  owns : (own : List Fraction) → rates P s R ≡ Ok own → OwnBreach P s R own b → ChosenBreach P s R b

data OpenBreach (P : Problem) (s : State) (b : Breach) : Type 0 where
  first_fails : (f : ℕ) → rates P s (holding P s) ≡ Err f → b ≡ NoValue f → OpenBreach P s b
  chooses : (R : List ℕ) → Chosen P s R → ChosenBreach P s R b → OpenBreach P s b

data Stage (P : Problem) (L : Plan) (v : View) (b : Breach) : Type 0 where
  in_run : (e : ℕ) (t : Fraction) → b ≡ NoFirstMoment e t → IsMomentless P (until P L v) v e t → Stage P L v b
  in_round : v.running ≡ None → firing P v.state ≢ [] → round_answer P v ≡ Some b → Stage P L v b
  in_act : (call : Called) → IsDue P L v call → act_answer call v.state v.acted ≡ Some b → Stage P L v b
  in_open : IsOpen P (until P L v) v → OpenBreach P v.state b → Stage P L v b
  in_end : IsWorked P L v → b ≡ Goal → Stage P L v b

-- ---- each breach is at its stage
joint_stage : (P : Problem) (L : Plan) (v : View) (why : Fault) → JointFails P L v why → Stage P L v (of_fault why)
unfolding round_answer round_by fault_answer act_answer
joint_stage P L v why h = elim h.due [
  | inl r ↦ in_round r.moment r.some (ap₂ round_by r.fresh (subst (λ x. joint x v.state ≡ Err why) r.effects_is h.fails))
  | inr a ↦ in_act (Instance a.action) a.due
      (ap (λ b. if b then fault_answer (joint a.action.effects v.state) else Some (Precondition v.acted)) a.may ∙ ap fault_answer (subst (λ x. joint x v.state ≡ Err why) a.effects_is h.fails))
]

stage_of : (P : Problem) (L : Plan) (v : View) (b : Breach) → Stands P L v b → Stage P L v b
unfolding round_answer round_by fault_answer act_answer of_fault
stage_of P L v (UnknownAction i name) h = in_act (unknown name) h.1 (ap (λ j. Some (UnknownAction j name)) (sym h.0))
stage_of P L v (WrongArguments i name) h = in_act (wrong name) h.1 (ap (λ j. Some (WrongArguments j name)) (sym h.0))
stage_of P L v (Precondition i) h = in_act (Instance h.1) h.2 (ap (λ b. if b then fault_answer (joint h.1.effects v.state) else Some (Precondition v.acted)) h.3 ∙ ap (λ j. Some (Precondition j)) (sym h.0))
stage_of P L v (Conflict f) h = joint_stage P L v (conflict f) h
stage_of P L v (NoValue f) h = elim h [
  | inl j ↦ joint_stage P L v (no_value f) j
  | inr r ↦ in_open r.open (elim r.fail [
    | inl e ↦ first_fails f e refl
    | inr c ↦ chooses c.0 c.1 (fails f c.2 refl)
  ])
]
stage_of P L v (Repeats e) h = in_round h.0 (shared_some (firing P v.state) v.fired e h.1) (ap (λ o. round_by o (joint (effects_of P (firing P v.state)) v.state)) h.1)
stage_of P L v (Unsettled p) h = in_open h.open (chooses h.running h.chosen (owns h.own h.own_is (unsettled p h.first refl)))
stage_of P L v (Coupled p f) h = in_open h.open (chooses h.running h.settled.choice (owns h.own h.settled.own_is (coupled p f h.settled.confirmed h.first refl)))
stage_of P L v (NoFirstMoment e t) h = in_run e t refl h
stage_of P L v Goal h = in_end h.1 refl

-- ---- one at each stage
one_first : (Q : ℕ → Type 0) (j k : ℕ) → IsFirst Q j → IsFirst Q k → j ≡ k
one_first Q j k a b = elim (cases_order j k) [
  | inl e ↦ e
  | inr o ↦ absurd (elim o [ inl h ↦ b.none_before j h a.has | inr h ↦ a.none_before k h b.has ])
]

abbrev couple : Option (ℕ × ℕ) → Breach
couple None = Goal
couple (Some c) = Coupled c.0 c.1

one_own : (P : Problem) (s : State) (R : List ℕ) (own : List Fraction) (b c : Breach) → OwnBreach P s R own b → OwnBreach P s R own c → b ≡ c
one_own P s R own b c (unsettled p h e) (unsettled q k f) = let d = one_first _ p q h k in cc (d, e, f)
one_own P s R own b c (unsettled p h e) (coupled q g k l f) = absurd (h.has (k.members p))
one_own P s R own b c (coupled q g k l f) (unsettled p h e) = absurd (h.has (k.members p))
one_own P s R own b c (coupled p f k l e) (coupled q g m n d) = e ∙ ap couple (sym l ∙ n) ∙ sym d

one_by_choice : (P : Problem) (s : State) (R : List ℕ) (b c : Breach) → ChosenBreach P s R b → ChosenBreach P s R c → b ≡ c
one_by_choice P s R b c (fails f h e) (fails g k d) = cc (h, k, e, d)
one_by_choice P s R b c (fails f h e) (owns own k o) = cc (h, k)
one_by_choice P s R b c (owns own k o) (fails f h e) = cc (h, k)
one_by_choice P s R b c (owns own k o) (owns other l u) = let d : own ≡ other = cc (k, l) in one_own P s R other b c (subst (λ x. OwnBreach P s R x b) d o) u

one_open : (P : Problem) (s : State) (b c : Breach) → OpenBreach P s b → OpenBreach P s c → b ≡ c
one_open P s b c (first_fails f h e) (first_fails g k d) = cc (h, k, e, d)
one_open P s b c (first_fails f h e) (chooses R a o) = let k = a.first_is in cc (h, k)
one_open P s b c (chooses R a o) (first_fails f h e) = let k = a.first_is in cc (h, k)
one_open P s b c (chooses R a o) (chooses S d u) = one_by_choice P s S b c (subst (λ x. ChosenBreach P s x b) (one_chosen P s R S a d) o) u

same_run : (P : Problem) (L : Plan) (v : View) (e d : ℕ) (t u : Fraction) (a : IsMomentless P (until P L v) v e t) (b : IsMomentless P (until P L v) v d u) → (a.running ≡ b.running) × (a.rate ≡ b.rate)
same_run P L v e d t u a b =
    let r : a.running ≡ b.running = (let x = a.runs in let y = b.runs in cc (x, y)) in
    (r, let x = a.rate_is in let y = b.rate_is in cc (r, x, y))

-- what holds just after t holds at a later moment, which is to be quiet
later_one : (P : Problem) (L : Plan) (v : View) (e d : ℕ) (t u : Fraction) → IsMomentless P (until P L v) v e t → IsMomentless P (until P L v) v d u → t <ℚ u → ⊥
later_one P L v e d t u a b h = go (slice_get P.events e) refl a.first.has
  where
    shift : (y : Fraction) → (t +ℚ y) -ℚ v.time ≡ (t -ℚ v.time) +ℚ y
    shift y = ringℚ (t ∷ y ∷ v.time ∷ []) ((var 0 ⊕ var 1) ⊖ var 2) ((var 0 ⊖ var 2) ⊕ var 1) refl

    quiet_at : (y : Fraction) → whole (pos 0) <ℚ y → y <ℚ u -ℚ t → firing P (moved v.state a.rate ((t -ℚ v.time) +ℚ y)) ≡ []
    quiet_at y p q =
        let w : IsQuiet P (moved v.state b.rate ((t +ℚ y) -ℚ v.time)) b.running b.rate = b.quiet (t +ℚ y) (past v.time t y a.from p) (<ℚ-≤ℚ _ _ (short t u y q)) in
        subst (λ r. firing P (moved v.state r ((t -ℚ v.time) +ℚ y)) ≡ []) (sym (same_run P L v e d t u a b).1)
        (subst (λ z. firing P (moved v.state b.rate z) ≡ []) (shift y) w.still)

    go : (o : Option Event) → slice_get P.events e ≡ o → IsSomeAnd o (λ ev. JustAfter (moved v.state a.rate (t -ℚ v.time)) a.rate ev.condition) → ⊥
    go None g j = j
    go (Some ev) g j =
        let p = between_both j.until (u -ℚ t) j.above (sub_above t u h) in
        no_event P (moved v.state a.rate ((t -ℚ v.time) +ℚ p.place)) e ev (quiet_at p.place p.above p.second) g
        (subst (λ z. holds ev.condition z ≡ true) (moved-moved v.state a.rate (t -ℚ v.time) p.place) (j.inside p.place p.above p.first))

one_momentless : (P : Problem) (L : Plan) (v : View) (e d : ℕ) (t u : Fraction) → IsMomentless P (until P L v) v e t → IsMomentless P (until P L v) v d u → (e ≡ d) × (t ≡ u)
one_momentless P L v e d t u a b = elim (<ℚ_or t u) [
  | inl h ↦ absurd (later_one P L v e d t u a b h)
  | inr o ↦ elim o [
    | inl f ↦
        let r = (same_run P L v e d t u a b).1 in (
          one_first (HoldsAfter P (moved v.state b.rate (u -ℚ v.time)) b.rate) e d
              (subst (λ x. IsFirst (HoldsAfter P (moved v.state x (u -ℚ v.time)) x) e) r (subst (λ z. IsFirst (HoldsAfter P (moved v.state a.rate (z -ℚ v.time)) a.rate) e) f a.first)) b.first,
          f,
        )
    | inr h ↦ absurd (later_one P L v d e u t b a h)
  ]
]

-- ---- and no two stages
pub data Apart (P : Problem) (L : Plan) (v : View) : Type 0 where
  run_or_moment : (R : List ℕ) → v.running ≡ Some R → v.running ≡ None → Apart P L v
  fires_or_still : firing P v.state ≢ [] → firing P v.state ≡ [] → Apart P L v
  due_or_open : (call : Called) → next_line L v ≡ Some (ActLine v.time call) → v.time <ℚ until P L v → Apart P L v
  due_or_over : (call : Called) → next_line L v ≡ Some (ActLine v.time call) → IsEndOrNone (next_line L v) → Apart P L v
  open_or_over : v.time <ℚ until P L v → until P L v ≡ v.time → Apart P L v

never : (P : Problem) (L : Plan) (v : View) → Apart P L v → ⊥
never P L v (run_or_moment R a b) = cc (a, b)
never P L v (fires_or_still a b) = a b
never P L v (due_or_open call a b) = due_holds P L v call a b
never P L v (due_or_over call a b) = subst IsEndOrNone a b
never P L v (open_or_over a b) = <ℚ_irrefl v.time (subst (λ t. v.time <ℚ t) b a)

one_stage : (P : Problem) (L : Plan) (v : View) (b c : Breach) → Stage P L v b → Stage P L v c → b ≡ c
one_stage P L v b c (in_run e t h a) (in_run d u k m) = let o = one_momentless P L v e d t u a m in let p = o.0 in let q = o.1 in cc (h, k, p, q)
one_stage P L v b c (in_run e t h a) (in_round m f k) = absurd (never P L v (run_or_moment a.running a.runs m))
one_stage P L v b c (in_run e t h a) (in_act call d k) = absurd (never P L v (run_or_moment a.running a.runs d.present.moment))
one_stage P L v b c (in_run e t h a) (in_open o k) = absurd (never P L v (run_or_moment a.running a.runs o.present.moment))
one_stage P L v b c (in_run e t h a) (in_end w k) = absurd (never P L v (run_or_moment a.running a.runs w.moment))
one_stage P L v b c (in_round m f k) (in_run e t h a) = absurd (never P L v (run_or_moment a.running a.runs m))
one_stage P L v b c (in_round m f h) (in_round n g k) = cc (h, k)
one_stage P L v b c (in_round m f h) (in_act call d k) = absurd (f d.present.still)
one_stage P L v b c (in_round m f h) (in_open o k) = absurd (f o.present.still)
one_stage P L v b c (in_round m f h) (in_end w k) = absurd (f w.still)
one_stage P L v b c (in_act call d k) (in_run e t h a) = absurd (never P L v (run_or_moment a.running a.runs d.present.moment))
one_stage P L v b c (in_act call d h) (in_round m f k) = absurd (f d.present.still)
one_stage P L v b c (in_act call d h) (in_act other g k) =
    let e : call ≡ other = (let x = d.due in let y = g.due in cc (x, y)) in
    let f : act_answer other v.state v.acted ≡ Some b = subst (λ x. act_answer x v.state v.acted ≡ Some b) e h in
    cc (f, k)
one_stage P L v b c (in_act call d h) (in_open o k) = absurd (due_holds P L v call d.due o.later)
one_stage P L v b c (in_act call d h) (in_end w k) = absurd (never P L v (due_or_over call d.due w.acted))
one_stage P L v b c (in_open o k) (in_run e t h a) = absurd (never P L v (run_or_moment a.running a.runs o.present.moment))
one_stage P L v b c (in_open o h) (in_round m f k) = absurd (f o.present.still)
one_stage P L v b c (in_open o h) (in_act call d k) = absurd (due_holds P L v call d.due o.later)
one_stage P L v b c (in_open o h) (in_open p k) = one_open P v.state b c h k
one_stage P L v b c (in_open o h) (in_end w k) = absurd (never P L v (open_or_over o.later w.over))
one_stage P L v b c (in_end w k) (in_run e t h a) = absurd (never P L v (run_or_moment a.running a.runs w.moment))
one_stage P L v b c (in_end w h) (in_round m f k) = absurd (f w.still)
one_stage P L v b c (in_end w h) (in_act call d k) = absurd (never P L v (due_or_over call d.due w.acted))
one_stage P L v b c (in_end w h) (in_open o k) = absurd (never P L v (open_or_over o.later w.over))
one_stage P L v b c (in_end w h) (in_end x k) = h ∙ sym k

pub one_breach : (P : Problem) (L : Plan) (v : View) (b c : Breach) → IsBreach P L v b → IsBreach P L v c → b ≡ c
one_breach P L v b c h k = one_stage P L v b c (stage_of P L v b h.stands) (stage_of P L v c k.stands)

-- ---- a line that is read next
after_of : (P : Problem) (L : Plan) (v : View) (line : Line) (b : LineBreach) → IsLineBreach P L v line b → IsWorked P L v × (L.closed ≡ false)
after_of P L v line TimeGoesBack h = (h.3.worked, h.3.open_yet)
after_of P L v line AfterEnd h = (h.2.worked, h.2.open_yet)

-- it has no other breach beside it
pub line_breach_is_alone : LineBreachIsAlone
line_breach_is_alone P L v line b c h k =
    let w = after_of P L v line b h in
    let e : c ≡ Goal = one_stage P L v c Goal (stage_of P L v c k.stands) (in_end w.0 refl) in
    let g : Stands P L v Goal = subst (λ x. Stands P L v x) e k.stands in
    let f = g.0 in
    let o = w.1 in
    cc (f, o)

not_nil : (xs : List Line) (x : Line) → [] ≡ xs ++ x ∷ [] → ⊥
not_nil [] x e = cc
not_nil (y ∷ ys) x e = cc

-- the last line is an action or an end, and not both
one_last : (xs ys : List Line) (t u : Fraction) (call : Called) → xs ++ ActLine t call ∷ [] ≡ ys ++ EndLine u ∷ [] → ⊥
one_last [] [] t u call e = cc
one_last [] (y ∷ ys) t u call e = not_nil ys (EndLine u) (let f : [] ≡ ys ++ EndLine u ∷ [] = cc e in f)
one_last (x ∷ xs) [] t u call e = not_nil xs (ActLine t call) (let f : [] ≡ xs ++ ActLine t call ∷ [] = cc e in f)
one_last (x ∷ xs) (y ∷ ys) t u call e = one_last xs ys t u call (let f : xs ++ ActLine t call ∷ [] ≡ ys ++ EndLine u ∷ [] = cc e in f)

pub one_line_breach : OneLineBreach
one_line_breach P L v line TimeGoesBack TimeGoesBack h k = refl
one_line_breach P L v line AfterEnd AfterEnd h k = refl
one_line_breach P L v line TimeGoesBack AfterEnd h k = absurd (one_last h.0 k.0 h.1 k.1 h.2 (sym h.3.lines ∙ k.2.lines))
one_line_breach P L v line AfterEnd TimeGoesBack h k = absurd (one_last k.0 h.0 k.1 h.1 k.2 (sym k.3.lines ∙ h.2.lines))
