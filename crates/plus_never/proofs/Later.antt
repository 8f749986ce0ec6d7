-- What happens up to the end of lines, beside what happens where the same lines end later.
use Rattle.std.proofs.Common.{◌≡◌, ◌⊎◌, inl, inr, ℕ, zero, suc, ◌≤◌, true, false, Bool, List, [], ◌∷◌, ◌++◌, length, refl, ap, ap₂, sym, subst, ◌∙◌, arith, ◌&&◌, ◌||◌, not, if◌then◌else◌}
use Rattle.std.specs.Prelude.{Option, Some, None, slice_get, unwrap_or}
use Rattle.std.specs.declared.cmp.Ordering.{Ordering}
use Rattle.std.specs.declared.cmp.Ordering.TheVariants.{Less, Equal, Greater}
use Rattle.plus_fraction.specs.Fraction.{Fraction, ◌-ℚ◌, ◌<ℚ◌, ◌≤ℚ◌, compared}
use Rattle.plus_fraction.proofs.FractionOrder.{<ℚ_or, <ℚ_irrefl}
use Rattle.plus_fraction.proofs.FractionAtMost.{<ℚ-≤ℚ_trans, ≤ℚ_trans, ≤ℚ_refl, le_equal, le_not_above, le_by_not}
use Rattle.plus_fraction.proofs.Compared.{compared-equal, less-compared}
use Rattle.plus_model.specs.Terms.{Below, Same, Timed, State, Problem}
use Rattle.plus_model.specs.Value.{passes, atom_of}
use Rattle.plus_model.specs.Joint.{Gains, Loses, new_atoms}
use Rattle.plus_model.specs.Firing.{firing}
use Rattle.plus_model.specs.Running.{moved, IsQuiet}
use Rattle.plus_model.specs.Plan.{Called, Instance, Line, ActLine, EndLine, time_of, Plan}
use Rattle.plus_model.specs.History.{Part, Enter, Round, Act, Run, View, view_after, view_from}
use Rattle.plus_model.specs.Trajectory.{at_until, event_holds, set_ends, is_below, literal_changes, literals, next_line, target, time_or, least, until, EnterMayFollow, NextBy, Next, Follow, first_view, IsEndOrNone, IsWorked}
use Rattle.plus_model.proofs.Moments.{not_below, least_within, from_below, -ℚ-lt, sub_above}
use Rattle.plus_model.proofs.Steps.{one_next}
use Rattle.plus_model.proofs.Paths.{view_is}
use Rattle.plus_never.specs.Laws.{IsNeverAdded, GoesFurther, StaysFalseLater}
use Rattle.plus_never.proofs.Stays.{all_parts}

-- ---- the least of a bound and later literals

to_below : (x y : Fraction) → x <ℚ y → is_below x y ≡ true
to_below x y h = ap (passes Below) (less-compared x y h)

to_not_below : (x y : Fraction) → is_below x y ≡ false → y ≤ℚ x
to_not_below x y e = le_by_not y x (λ h. (let k = to_below x y h in cc))

-- a bound that is no lower gives no lower least
pub least_grows : (time b c : Fraction) (ls : List Timed) → b ≤ℚ c → least time b ls ≤ℚ least time c ls
least_grows time b c [] h = h
least_grows time b c (l ∷ ls) h = go (λ c h. least_grows time b c ls h) (is_below time l.time) (is_below l.time b) refl (is_below l.time c) refl
  where
    go : ((c : Fraction) → b ≤ℚ c → least time b ls ≤ℚ least time c ls) → (p q : Bool) → is_below l.time b ≡ q → (r : Bool) → is_below l.time c ≡ r → (if p && q then least time l.time ls else least time b ls) ≤ℚ (if p && r then least time l.time ls else least time c ls)
    go k false q e r f = k c h
    go k true true e true f = ≤ℚ_refl (least time l.time ls)
    go k true true e false f = absurd (le_not_above c l.time (to_not_below l.time c f) (<ℚ-≤ℚ_trans l.time b c (from_below l.time b e) h))
    go k true false e true f = k l.time (to_not_below l.time b e)
    go k true false e false f = k c h

-- where a higher bound gives a later least, the least is the bound
pub least_is : (time b c : Fraction) (ls : List Timed) → b ≤ℚ c → least time b ls <ℚ least time c ls → least time b ls ≡ b
least_is time b c [] h k = refl
least_is time b c (l ∷ ls) h k = go (λ c h k. least_is time b c ls h k) (is_below time l.time) (is_below l.time b) refl (is_below l.time c) refl k
  where
    go : ((c : Fraction) → b ≤ℚ c → least time b ls <ℚ least time c ls → least time b ls ≡ b) → (p q : Bool) → is_below l.time b ≡ q → (r : Bool) → is_below l.time c ≡ r → (if p && q then least time l.time ls else least time b ls) <ℚ (if p && r then least time l.time ls else least time c ls) → (if p && q then least time l.time ls else least time b ls) ≡ b
    go i false q e r f k = i c h k
    go i true true e true f k = absurd (<ℚ_irrefl (least time l.time ls) k)
    go i true true e false f k = absurd (le_not_above c l.time (to_not_below l.time c f) (<ℚ-≤ℚ_trans l.time b c (from_below l.time b e) h))
    go i true false e true f k = i l.time (to_not_below l.time b e) k
    go i true false e false f k = i c h k

-- a later moment that time passes without a stop has no literal
pub no_literal : (time t c : Fraction) (ls : List Timed) → time <ℚ t → t <ℚ least time c ls → literal_changes t ls ≡ []
no_literal time t c [] h k = refl
no_literal time t c (l ∷ ls) h k = go (λ c k. no_literal time t c ls h k) (passes Same (compared l.time t)) refl (is_below time l.time) refl (is_below l.time c) refl k
  where
    equal_by : (x y : Fraction) → passes Same (compared x y) ≡ true → x ≡ y
    equal_by x y e = by (compared x y) refl e
      where
        by : (o : Ordering) → compared x y ≡ o → passes Same o ≡ true → x ≡ y
        by Less f e = cc
        by Equal f e = compared-equal x y f
        by Greater f e = cc

    rest : ((c : Fraction) → t <ℚ least time c ls → literal_changes t ls ≡ []) → (p q : Bool) → t <ℚ (if p && q then least time l.time ls else least time c ls) → literal_changes t ls ≡ []
    rest i true true k = i l.time k
    rest i true false k = i c k
    rest i false q k = i c k

    go : ((c : Fraction) → t <ℚ least time c ls → literal_changes t ls ≡ []) → (s : Bool) → passes Same (compared l.time t) ≡ s → (p : Bool) → is_below time l.time ≡ p → (q : Bool) → is_below l.time c ≡ q → t <ℚ (if p && q then least time l.time ls else least time c ls) → (if s then (if l.positive then Gains l.atom else Loses l.atom) ∷ literal_changes t ls else literal_changes t ls) ≡ []
    go i false e p f q g k = rest i p q k
    go i true e true f true g k = absurd (not_below t l.time (<ℚ-≤ℚ_trans _ _ _ k (least_within time l.time ls)) (le_equal l.time t (equal_by l.time t e)))
    go i true e true f false g k =
        absurd (not_below t c (<ℚ-≤ℚ_trans _ _ _ k (least_within time c ls)) (subst (λ x. c ≤ℚ x) (equal_by l.time t e) (to_not_below l.time c g)))
    go i true e false f q g k = absurd (not_below time t h (subst (λ x. x ≤ℚ time) (equal_by l.time t e) (to_not_below time l.time f)))

no_change : (k : ℕ) (bs : List Bool) → new_atoms k [] bs ≡ bs
no_change k [] = refl
no_change k (b ∷ bs) = ap₂ (λ x xs. x ∷ xs) (same b) (no_change (suc k) bs)
  where
    same : (b : Bool) → (false || (b && not false)) ≡ b
    same true = refl
    same false = refl

pub unchanged : (P : Problem) (time t c : Fraction) (s : State) → time <ℚ t → t <ℚ least time c P.timed → literals P t s ≡ s
unfolding literals
unchanged P time t c s h k =
    ap (λ bs. record { atoms = bs; fluents = s.fluents }) (ap (λ cs. new_atoms 0 cs s.atoms) (no_literal time t c P.timed h k) ∙ no_change 0 s.atoms)

-- ---- the next line of both plans

-- the two plans wait for the same line, or the one for its end and the other for a line that is no earlier
pub data Waits (L L' : Plan) (v : View) : Type 0 where
  same : (line : Line) → next_line L v ≡ Some line → next_line L' v ≡ Some line → Waits L L' v
  ends : (t : Fraction) (line : Line) → next_line L v ≡ Some (EndLine t) → next_line L' v ≡ Some line → t ≤ℚ time_of line → Waits L L' v

two : (lines more : List Line) (t : Fraction) (line : Line) (k : ℕ) → k ≤ length lines → t ≤ℚ time_of line
    → ((x : Line) × (slice_get (lines ++ EndLine t ∷ []) k ≡ Some x) × (slice_get (lines ++ line ∷ more) k ≡ Some x))
    ⊎ ((k ≡ length lines) × (slice_get (lines ++ EndLine t ∷ []) k ≡ Some (EndLine t)) × (slice_get (lines ++ line ∷ more) k ≡ Some line))
two [] more t line zero h l = inr (refl, refl, refl)
two [] more t line (suc k) h l = absurd (omega arith)
two (x ∷ xs) more t line zero h l = inl (x, refl, refl)
two (x ∷ xs) more t line (suc k) h l = elim (two xs more t line k (omega arith) l) [
  | inl e ↦ inl e
  | inr e ↦ inr (ap suc e.0, e.1, e.2)
]

pub waits : (L L' : Plan) (g : GoesFurther L L') (v : View) → v.acted ≤ length g.lines → Waits L L' v
waits L L' g v h = elim (two g.lines g.more g.last g.line v.acted h g.later) [
  | inl e ↦ same e.0 (subst (λ ls. slice_get ls v.acted ≡ Some e.0) (sym g.is) e.1) (subst (λ ls. slice_get ls v.acted ≡ Some e.0) (sym g.further) e.2)
  | inr e ↦ ends g.last g.line (subst (λ ls. slice_get ls v.acted ≡ Some (EndLine g.last)) (sym g.is) e.1) (subst (λ ls. slice_get ls v.acted ≡ Some g.line) (sym g.further) e.2) g.later
]

-- an action of the first plan stands among the lines before its end
act_before : (xs : List Line) (t u : Fraction) (call : Called) (k : ℕ) → slice_get (xs ++ EndLine t ∷ []) k ≡ Some (ActLine u call) → suc k ≤ length xs
act_before [] t u call zero e = absurd (let f : Some (EndLine t) ≡ Some (ActLine u call) = e in cc)
act_before [] t u call (suc k) e = absurd (let f : None ≡ Some (ActLine u call) = e in cc)
act_before (x ∷ xs) t u call zero e = omega arith
act_before (x ∷ xs) t u call (suc k) e = let h = act_before xs t u call k e in omega arith

pub acted_within : (P : Problem) (L L' : Plan) (g : GoesFurther L L') (v : View) (o : Option (List ℕ)) (p : Part) → NextBy P L v o p → v.acted ≤ length g.lines → (view_after v p).acted ≤ length g.lines
acted_within P L L' g v o (Enter t a s) n h = h
acted_within P L L' g v o (Round E s) n h = h
acted_within P L L' g v o (Run R) n h = h
acted_within P L L' g v (Some R) (Act i s) n h = absurd n
acted_within P L L' g v None (Act i s) n h = act_before g.lines g.last v.time (Instance n.action) v.acted (subst (λ ls. slice_get ls v.acted ≡ Some (ActLine v.time (Instance n.action))) g.is n.due)

target_grows : (L L' : Plan) (v : View) → Waits L L' v → target L v ≤ℚ target L' v
target_grows L L' v (same line e f) = le_equal _ _ (ap (λ o. time_or o v.time) (e ∙ sym f))
target_grows L L' v (ends t line e f h) =
    subst (λ x. x ≤ℚ target L' v) (sym (ap (λ o. time_or o v.time) e)) (subst (λ x. t ≤ℚ x) (sym (ap (λ o. time_or o v.time) f)) h)

pub until_grows : (P : Problem) (L L' : Plan) (v : View) → Waits L L' v → until P L v ≤ℚ until P L' v
until_grows P L L' v w = least_grows v.time (target L v) (target L' v) P.timed (target_grows L L' v w)

same_act : (L L' : Plan) (v : View) (t : Fraction) (call : Called) → Waits L L' v → next_line L v ≡ Some (ActLine t call) → next_line L' v ≡ Some (ActLine t call)
same_act L L' v t call (same line e f) d = f ∙ sym e ∙ d
same_act L L' v t call (ends u line e f h) d = absurd (let g : Some (EndLine u) ≡ Some (ActLine t call) = sym e ∙ d in cc)

-- ---- what comes next in both

-- the state after the part has the same atoms, and after it nothing comes in the first plan
pub record IsPassedBy (P : Problem) (L : Plan) (v : View) (p : Part) : Type 0 where
  pub atoms : (view_after v p).state.atoms ≡ v.state.atoms
  pub last : (r : Part) → Next P L (view_after v p) r → ⊥

-- nothing comes behind a moment at the end at which no event holds
ends_there : (P : Problem) (L : Plan) (t : Fraction) (w : View) (r : Part) → next_line L w ≡ Some (EndLine t) → w.time ≡ t → w.running ≡ None → firing P w.state ≡ [] → Next P L w r → ⊥
ends_there P L t w r e i m f n = go w.running m r n
  where
    go : (o : Option (List ℕ)) → o ≡ None → (r : Part) → NextBy P L w o r → ⊥
    go (Some R) k r n = cc
    go None k (Enter u a s) n = n
    go None k (Round E s) n = n.some (n.all ∙ f)
    go None k (Act j s) n = (let d : Some (EndLine t) ≡ Some (ActLine w.time (Instance n.action)) = sym e ∙ n.due in cc)
    go None k (Run R) n =
        le_not_above (until P L w) w.time
        (subst (λ x. until P L w ≤ℚ x) (ap (λ o. time_or o w.time) e ∙ sym i) (least_within w.time (target L w) P.timed))
        n.later

arrival_atoms : (s x : State) (rs : List Fraction) (y : Fraction) → s ≡ moved x rs y → s.atoms ≡ x.atoms
unfolding moved
arrival_atoms s x rs y e = ap (λ (z : State). z.atoms) e

-- in a stretch
enters : (P : Problem) (L L' : Plan) (v : View) (R : List ℕ) (t u : Fraction) (a s b z : State) → Waits L L' v → EnterMayFollow P (until P L v) v R t a s → EnterMayFollow P (until P L' v) v R u b z → (Enter t a s ≡ Enter u b z) ⊎ IsPassedBy P L v (Enter t a s)
enters P L L' v R t u a s b z w p q = elim (<ℚ_or t u) [
  | inl h ↦ inr (earlier h)
  | inr o ↦ elim o [
    | inl e ↦ inl (
        let r : p.rate ≡ q.rate = cc (p.rate_is, q.rate_is) in
        let f : a ≡ b = p.arrival_is ∙ ap₂ (λ x y. moved v.state x (y -ℚ v.time)) r e ∙ sym q.arrival_is in
        let g : s ≡ z = p.after_is ∙ ap₂ (literals P) e f ∙ sym q.after_is in
        cc (e, f, g))
    | inr h ↦ absurd (later h)
  ]
]
  where
    later : u <ℚ t → ⊥
    later h =
        let e : p.rate ≡ q.rate = cc (p.rate_is, q.rate_is) in
        let quiet : IsQuiet P b R q.rate = subst (λ x. IsQuiet P x R q.rate) (sym q.arrival_is)
        (subst (λ r. IsQuiet P (moved v.state r (u -ℚ v.time)) R r) e
        (p.stretch (u -ℚ v.time) (sub_above v.time u q.later) (-ℚ-lt u t v.time h))) in
        elim q.cause [
          | at_until c ↦ not_below u t h (≤ℚ_trans t (until P L v) u p.within (subst (λ x. until P L v ≤ℚ x) (sym c) (until_grows P L L' v w)))
          | event_holds f ↦ f quiet.still
          | set_ends f ↦ f quiet.on
        ]

    earlier : t <ℚ u → IsPassedBy P L v (Enter t a s)
    earlier h =
        let e : p.rate ≡ q.rate = cc (p.rate_is, q.rate_is) in
        let quiet : IsQuiet P a R p.rate = subst (λ x. IsQuiet P x R p.rate) (sym p.arrival_is)
        (subst (λ r. IsQuiet P (moved v.state r (t -ℚ v.time)) R r) (sym e)
        (q.stretch (t -ℚ v.time) (sub_above v.time t p.later) (-ℚ-lt t u v.time h))) in
        let beyond : t <ℚ until P L' v = <ℚ-≤ℚ_trans t u (until P L' v) h q.within in
        let alike : s ≡ a = p.after_is ∙ unchanged P v.time t (target L' v) a p.later beyond in
        elim p.cause [
          | at_until c ↦ passed quiet.still beyond alike c w
          | event_holds f ↦ absurd (f quiet.still)
          | set_ends f ↦ absurd (f quiet.on)
        ]
      where
        passed : firing P a ≡ [] → t <ℚ until P L' v → s ≡ a → t ≡ until P L v → Waits L L' v → IsPassedBy P L v (Enter t a s)
        passed f beyond alike c (same line d e) = absurd (<ℚ_irrefl t (subst (λ x. t <ℚ x) (sym (c ∙ ap (λ o. least v.time (time_or o v.time) P.timed) (d ∙ sym e))) beyond))
        passed f beyond alike c (ends y line d e k) =
            let goal_time : t ≡ y = c ∙ least_is v.time (target L v) (target L' v) P.timed (target_grows L L' v w) (subst (λ x. x <ℚ until P L' v) c beyond) ∙ ap (λ o. time_or o v.time) d in
            record {
              atoms = arrival_atoms s v.state p.rate (t -ℚ v.time) (alike ∙ p.arrival_is);
              last = λ r n. ends_there P L y (view_after v (Enter t a s)) r d goal_time refl (subst (λ x. firing P x ≡ []) (sym alike) f) n;
            }

one : (P : Problem) (L : Plan) (v : View) (p q : Part) → v.running ≡ None → NextBy P L v None p → NextBy P L v None q → p ≡ q
one P L v p q i n m = one_next P L v p q (subst (λ o. NextBy P L v o p) (sym i) n) (subst (λ o. NextBy P L v o q) (sym i) m)

-- what may come next in the first plan may come in the other, but for the moment of an end
next_in : (P : Problem) (L L' : Plan) (v : View) (o : Option (List ℕ)) (p q : Part) → v.running ≡ o → Waits L L' v → NextBy P L v o p → NextBy P L' v o q → (p ≡ q) ⊎ IsPassedBy P L v p
next_in P L L' v (Some R) (Enter t a s) (Enter u b z) i w n m = enters P L L' v R t u a s b z w n m
next_in P L L' v (Some R) (Enter t a s) (Round F z) i w n m = absurd m
next_in P L L' v (Some R) (Enter t a s) (Act j z) i w n m = absurd m
next_in P L L' v (Some R) (Enter t a s) (Run S) i w n m = absurd m
next_in P L L' v (Some R) (Round E s) q i w n m = absurd n
next_in P L L' v (Some R) (Act j s) q i w n m = absurd n
next_in P L L' v (Some R) (Run S) q i w n m = absurd n
next_in P L L' v None (Enter t a s) q i w n m = absurd n
next_in P L L' v None (Round E s) q i w n m = inl (one P L' v (Round E s) q i n m)
next_in P L L' v None (Act j s) q i w n m =
    inl (one P L' v (Act j s) q i (record { action = n.action; line = n.line; due = same_act L L' v v.time (Instance n.action) w n.due; acts = n.acts }) m)
next_in P L L' v None (Run R) q i w n m =
    inl (one P L' v (Run R) q i (record { still = n.still; later = <ℚ-≤ℚ_trans _ _ _ n.later (until_grows P L L' v w); rate = n.rate; settled = n.settled; uncoupled = n.uncoupled }) m)

pub beside : (P : Problem) (L L' : Plan) (v : View) (p q : Part) → Waits L L' v → Next P L v p → Next P L' v q → (p ≡ q) ⊎ IsPassedBy P L v p
beside P L L' v p q w n m = next_in P L L' v v.running p q refl w n m

-- where the other plan is worked, nothing comes next in the first
none_by : (P : Problem) (L L' : Plan) (v : View) → Waits L L' v → IsWorked P L' v → (o : Option (List ℕ)) → o ≡ None → (p : Part) → NextBy P L v o p → ⊥
none_by P L L' v w k (Some R) e p n = cc
none_by P L L' v w k None e (Enter t a s) n = n
none_by P L L' v w k None e (Round E s) n = n.some (n.all ∙ k.still)
none_by P L L' v w k None e (Act i s) n = subst IsEndOrNone (same_act L L' v v.time (Instance n.action) w n.due) k.acted
none_by P L L' v w k None e (Run R) n = <ℚ_irrefl v.time (subst (λ x. v.time <ℚ x) k.over (<ℚ-≤ℚ_trans _ _ _ n.later (until_grows P L L' v w)))

pub none_in : (P : Problem) (L L' : Plan) (v : View) (p : Part) → Waits L L' v → IsWorked P L' v → Next P L v p → ⊥
none_in P L L' v p w k n = none_by P L L' v w k v.running k.moment p n

nothing : (P : Problem) (L : Plan) (v : View) (ps : List Part) → ((r : Part) → Next P L v r → ⊥) → Follow P L v ps → ps ≡ []
nothing P L v [] n f = refl
nothing P L v (p ∷ ps) n f = absurd (n p f.1)

-- ---- both histories, side by side
pub walk : (P : Problem) (L L' : Plan) (g : GoesFurther L L') (a : ℕ) (v : View) (xs ys : List Part) → IsNeverAdded P L' a → v.acted ≤ length g.lines → Follow P L v xs → Follow P L' v ys → IsWorked P L' (view_from v ys) → atom_of (view_from v xs).state a ≡ false → atom_of (view_from v ys).state a ≡ false
walk P L L' g a v [] ys n h f k w e = all_parts P L' a v ys n k e
walk P L L' g a v (x ∷ xs) [] n h f k w e = absurd (none_in P L L' v x (waits L L' g v h) w f.1)
walk P L L' g a v (x ∷ xs) (y ∷ ys) n h f k w e =
    go (beside P L L' v x y (waits L L' g v h) f.1 k.1)
    (λ d. walk P L L' g a (view_after v x) xs ys n (acted_within P L L' g v v.running x f.1 h) f.2
    (subst (λ p. Follow P L' (view_after v p) ys) (sym d) k.2) (subst (λ p. IsWorked P L' (view_from (view_after v p) ys)) (sym d) w) e)
  where
    go : (x ≡ y) ⊎ IsPassedBy P L v x → (x ≡ y → atom_of (view_from (view_after v x) ys).state a ≡ false) → atom_of (view_from (view_after v y) ys).state a ≡ false
    go (inl d) rest = subst (λ p. atom_of (view_from (view_after v p) ys).state a ≡ false) d (rest d)
    go (inr b) rest =
        let none : xs ≡ [] = nothing P L (view_after v x) xs b.last f.2 in
        let here : atom_of (view_after v x).state a ≡ false = subst (λ ps. atom_of (view_from (view_after v x) ps).state a ≡ false) none e in
        all_parts P L' a v (y ∷ ys) n k (subst (λ bs. unwrap_or (slice_get bs a) false ≡ false) b.atoms here)

pub stays_false_later : StaysFalseLater
stays_false_later P L L' h h' a g n p w q z e =
    subst (λ v. atom_of v.state a ≡ false) (sym (view_is P h' q.rest q.begins))
    (walk P L L' g a (first_view P) p.rest q.rest n (omega arith) p.follow q.follow
    (subst (IsWorked P L') (view_is P h' q.rest q.begins) z) (subst (λ v. atom_of v.state a ≡ false) (view_is P h p.rest p.begins) e))
