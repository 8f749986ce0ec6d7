-- A whole history: what the looks find is what stands over all its moments.
use Rattle.std.proofs.Common.{◌≡◌, true, false, Bool, ℕ, List, [], ◌∷◌, ◌++◌, not, refl, ap, sym, subst, ◌∙◌, inl, inr, pos, if◌then◌else◌}
use Rattle.std.specs.Prelude.{Option, Some, None, Result, Ok, Err}
use Rattle.plus_fraction.specs.Fraction.{Fraction, whole, ◌-ℚ◌, ◌<ℚ◌, ◌≤ℚ◌}
use Rattle.plus_fraction.proofs.FractionAtMost.{≤ℚ_refl, ≤ℚ_trans, le_lt, le_by_not, le_not_above}
use Rattle.plus_model.specs.Terms.{Condition, State, Problem}
use Rattle.plus_model.specs.Value.{holds}
use Rattle.plus_model.specs.Running.{rates, moved}
use Rattle.plus_model.specs.Plan.{Plan}
use Rattle.plus_model.specs.History.{Part, Enter, Round, Act, Run, View, view_after, view_from}
use Rattle.plus_model.specs.Trajectory.{is_below, Next, NextBy, Follow, Prefix, first_view}
use Rattle.plus_model.proofs.Moments.{from_below}
use Rattle.plus_crossing.specs.Asked.{Ask, Passes, AllPass}
use Rattle.plus_state.proofs.Testing.{pass_append, pass_left, pass_right, pass_none}
use Rattle.plus_constraints.specs.Visits.{InStretch, Adds, AllAdd}
use Rattle.plus_constraints.specs.Constraint.{When, Always, Sometime, Within, HoldAfter, Constraint, IsRegarded, is_lasting}
use Rattle.plus_constraints.specs.Place.{Place, At, place_if, or_else}
use Rattle.plus_constraints.proofs.Scanned.{Seen, Bounded, Scanned, Either, One, joined, same_seen, nothing, one_state}
use Rattle.plus_constraints.proofs.Telling.{found}
use Rattle.plus_watch.specs.Looks.{Look, first_found, if_sought, looks_ask, state_look, stretch_looks, regards, moment_looks, rated_looks, running_looks, part_looks, parts_looks, history_looks}
use Rattle.plus_watch.specs.Laws.{found_along, LooksTell}
use Rattle.plus_stretch.proofs.Rising.{to_below}
use Rattle.plus_watch.proofs.Walking.{rest_asked, one_bounded}
use Rattle.plus_watch.proofs.Stretches.{Along, stretch_scanned}

-- ---- several looks and then several more
pub or_else_assoc : (o p q : Option Place) → or_else (or_else o p) q ≡ or_else o (or_else p q)
or_else_assoc None p q = refl
or_else_assoc (Some x) p q = refl

pub found_append : (xs ys : List Look) → first_found (xs ++ ys) ≡ or_else (first_found xs) (first_found ys)
found_append [] ys = refl
found_append (x ∷ xs) ys = ap (or_else x.finds) (found_append xs ys) ∙ sym (or_else_assoc x.finds (first_found xs) (first_found ys))

sought_left : (fits : Fraction → Type 0) (o : Option Place) (ts us : List Ask) → (AllPass fits ts → AllPass fits us) → AllPass fits (if_sought o ts) → AllPass fits (if_sought o us)
sought_left fits None ts us f h = f h
sought_left fits (Some p) ts us f h = h

pub asked_left : (fits : Fraction → Type 0) (xs ys : List Look) → AllPass fits (looks_ask (xs ++ ys)) → AllPass fits (looks_ask xs)
asked_left fits [] ys h = pass_none (Passes fits)
asked_left fits (x ∷ xs) ys h =
    pass_append (Passes fits) x.asked _ (pass_left (Passes fits) x.asked _ h)
    (sought_left fits x.finds (looks_ask (xs ++ ys)) (looks_ask xs) (asked_left fits xs ys) (pass_right (Passes fits) x.asked _ h))

left_none : (o p : Option Place) → or_else o p ≡ None → (o ≡ None) × (p ≡ None)
left_none None p e = (refl, e)
left_none (Some x) p e = cc

pub asked_right : (fits : Fraction → Type 0) (xs ys : List Look) → AllPass fits (looks_ask (xs ++ ys)) → first_found xs ≡ None → AllPass fits (looks_ask ys)
asked_right fits [] ys h e = h
asked_right fits (x ∷ xs) ys h e =
    let n = left_none x.finds (first_found xs) e in
    asked_right fits xs ys (rest_asked fits x (xs ++ ys) h n.0) n.1

-- ---- one state of a part
when_regarded : (w : When) (t : Fraction) → regards w t ≡ true → IsRegarded w t
when_regarded Always t e = tt
when_regarded Sometime t e = tt
when_regarded (Within u) t e = le_by_not t u (λ l. clash (is_below u t) (to_below u t l) e)
  where
    clash : (b : Bool) → b ≡ true → not b ≡ true → ⊥
    clash true e f = cc
    clash false e f = cc
when_regarded (HoldAfter u) t e = le_by_not u t (λ l. clash (is_below t u) (to_below t u l) e)
  where
    clash : (b : Bool) → b ≡ true → not b ≡ true → ⊥
    clash true e f = cc
    clash false e f = cc

when_not : (w : When) (t : Fraction) → regards w t ≡ false → IsRegarded w t → ⊥
when_not Always t e r = cc
when_not Sometime t e r = cc
when_not (Within u) t e r = le_not_above t u r (from_below u t (flip (is_below u t) e))
  where
    flip : (b : Bool) → not b ≡ false → b ≡ true
    flip true e = refl
    flip false e = cc
when_not (HoldAfter u) t e r = le_not_above u t r (from_below t u (flip (is_below t u) e))
  where
    flip : (b : Bool) → not b ≡ false → b ≡ true
    flip true e = refl
    flip false e = cc

-- one of the states is regarded where its time is
abbrev pub Only : Seen → When → Seen
Only V w t s = V t s × IsRegarded w t

or_none : (o : Option Place) → o ≡ or_else o None
or_none None = refl
or_none (Some p) = refl

moment_scanned : (w : When) (c : Condition) (t : Fraction) (s : State) → Scanned c (is_lasting w) t t (Only (One t s) w) (first_found (moment_looks w c t s))
unfolding moment_looks state_look
moment_scanned w c t s = go (regards w t) refl
  where
    go : (b : Bool) → regards w t ≡ b → Scanned c (is_lasting w) t t (Only (One t s) w) (first_found (if b then state_look (is_lasting w) c [] t s ∷ [] else []))
    go true e =
        subst (λ (o : Option Place). Scanned c (is_lasting w) t t (Only (One t s) w) o) (or_none (place_if (is_lasting w) (holds c s) (At t)))
        (same_seen c (is_lasting w) t t (One t s) (Only (One t s) w) _ (λ x now h. (h, subst (IsRegarded w) (sym h.0) (when_regarded w t e))) (λ x now h. h.0) (one_state c (is_lasting w) t s))
    go false e = nothing c (is_lasting w) t t (Only (One t s) w) (≤ℚ_refl t) (λ x now h. when_not w t e (subst (IsRegarded w) h.0.0 h.1))

-- ---- one part
only_bounded : (first last : Fraction) (V : Seen) (w : When) → Bounded first last V → Bounded first last (Only V w)
only_bounded first last V w b x now h = b x now h.0

inside_bounded : (P : Problem) (v : View) (o : Option (List ℕ)) (last : Fraction) → Bounded v.time last (InStretch P v o last)
inside_bounded P v None last x now h = elim h [ ]
inside_bounded P v (Some running) last x now h = (le_lt v.time x h.later, le_lt x last h.earlier)

-- time does not fall, and rises along a running set
abbrev pub RisesIf : Option (List ℕ) → Fraction → Fraction → Type 0
RisesIf None time t = Unit {0}
RisesIf (Some running) time t = time <ℚ t

abbrev pub NotBack : View → Part → Type 0
NotBack v (Enter t a s) = (v.time ≤ℚ t) × RisesIf v.running v.time t
NotBack v (Round events s) = Unit {0}
NotBack v (Act i s) = Unit {0}
NotBack v (Run running) = Unit {0}

same_rates : (a b : List Fraction) (r : Result (List Fraction) ℕ) → r ≡ Ok a → r ≡ Ok b → a ≡ b
same_rates a b r e f = cc

no_rates : (a : List Fraction) (n : ℕ) (r : Result (List Fraction) ℕ) → r ≡ Ok a → r ≡ Err n → ⊥
no_rates a n r e f = cc

module _ (fits : Fraction → Type 0) (P : Problem) (c : Constraint) (v : View) where
  running_scanned : (last : Fraction) (o : Option (List ℕ)) → v.time ≤ℚ last → RisesIf o v.time last → AllPass fits (looks_ask (running_looks P c.when c.condition v last o))
      → Scanned c.condition (is_lasting c.when) v.time last (Only (InStretch P v o last) c.when) (first_found (running_looks P c.when c.condition v last o))
  running_scanned last None le lt a = nothing c.condition (is_lasting c.when) v.time last (Only (InStretch P v None last) c.when) le (λ x now h. h.0)
  running_scanned last (Some R) le lt a = go (rates P v.state R) refl a
    where
      go : (r : Result (List Fraction) ℕ) → rates P v.state R ≡ r → AllPass fits (looks_ask (rated_looks c.when c.condition v last r))
          → Scanned c.condition (is_lasting c.when) v.time last (Only (InStretch P v (Some R) last) c.when) (first_found (rated_looks c.when c.condition v last r))
      go (Err f) e a = nothing c.condition (is_lasting c.when) v.time last (Only (InStretch P v (Some R) last) c.when) le (λ x now h. no_rates h.0.rate f (rates P v.state R) h.0.rate_is e)
      go (Ok rs) e a = same_seen c.condition (is_lasting c.when) v.time last (Along c.when v.time v.state rs last) (Only (InStretch P v (Some R) last) c.when) (first_found (stretch_looks c.when c.condition v.time v.state rs last))
          (λ x now h. (record { rate = rs; rate_is = e; later = h.0.0; earlier = h.0.1; state_is = h.0.2 }, h.1))
          (λ x now h. ((h.0.later, h.0.earlier, h.0.state_is ∙ ap (λ (q : List Fraction). moved v.state q (x -ℚ v.time)) (same_rates h.0.rate rs (rates P v.state R) h.0.rate_is e)), h.1))
          (stretch_scanned fits c.condition v.time v.state rs last lt c.when a)

  part_scanned : (part : Part) → NotBack v part → AllPass fits (looks_ask (part_looks P c v part))
      → Scanned c.condition (is_lasting c.when) v.time (view_after v part).time (Only (Adds P v part) c.when) (first_found (part_looks P c v part))
  part_scanned (Enter t arrival now) nb a =
      let w = c.when in
      let k = c.condition in
      let b = is_lasting c.when in
      let xs = running_looks P w k v t v.running in
      let ys = moment_looks w k t arrival in
      let zs = moment_looks w k t now in
      let V = Only (InStretch P v v.running t) w in
      let Y = Only (One t arrival) w in
      let Z = Only (One t now) w in
      let bY = only_bounded t t (One t arrival) w (one_bounded t arrival) in
      let bZ = only_bounded t t (One t now) w (one_bounded t now) in
      subst (λ (o : Option Place). Scanned k b v.time t (Only (Adds P v (Enter t arrival now)) w) o)
      (sym (found_append xs (ys ++ zs) ∙ ap (or_else (first_found xs)) (found_append ys zs)))
      (same_seen k b v.time t (Either V (Either Y Z)) (Only (Adds P v (Enter t arrival now)) w) _
      (λ x s h. elim h [
        | inl i ↦ (inl i.0, i.1)
        | inr h ↦ elim h [ inl y ↦ (inr (y.0.0, inl y.0.1), y.1) | inr z ↦ (inr (z.0.0, inr z.0.1), z.1) ]
      ])
      (λ x s h. elim h.0 [
        | inl i ↦ inl (i, h.1)
        | inr m ↦ elim m.1 [ inl y ↦ inr (inl ((m.0, y), h.1)) | inr z ↦ inr (inr ((m.0, z), h.1)) ]
      ])
      (joined k b v.time t t V (Either Y Z) (first_found xs) (or_else (first_found ys) (first_found zs))
      (running_scanned t v.running nb.0 nb.1 (asked_left fits xs (ys ++ zs) a)) (≤ℚ_refl t)
      (λ x s h. elim h [ inl y ↦ bY x s y | inr z ↦ bZ x s z ])
      (λ e. joined k b t t t Y Z (first_found ys) (first_found zs) (moment_scanned w k t arrival) (≤ℚ_refl t) bZ (λ f. moment_scanned w k t now))))
  part_scanned (Round events s) nb a = moment_scanned c.when c.condition v.time s
  part_scanned (Act i s) nb a = moment_scanned c.when c.condition v.time s
  part_scanned (Run running) nb a = nothing c.condition (is_lasting c.when) v.time v.time (Only (Adds P v (Run running)) c.when) (≤ℚ_refl v.time) (λ x now h. h.0)

-- ---- all parts
abbrev pub AllNotBack : View → List Part → Type 0
AllNotBack v [] = Unit {0}
AllNotBack v (part ∷ parts) = NotBack v part × AllNotBack (view_after v part) parts

rises : (v : View) (part : Part) → NotBack v part → v.time ≤ℚ (view_after v part).time
rises v (Enter t a s) h = h.0
rises v (Round events s) h = ≤ℚ_refl v.time
rises v (Act i s) h = ≤ℚ_refl v.time
rises v (Run running) h = ≤ℚ_refl v.time

rise_all : (v : View) (parts : List Part) → AllNotBack v parts → v.time ≤ℚ (view_from v parts).time
rise_all v [] h = ≤ℚ_refl v.time
rise_all v (part ∷ parts) h = ≤ℚ_trans _ (view_after v part).time _ (rises v part h.0) (rise_all (view_after v part) parts h.1)

adds_bounded : (P : Problem) (v : View) (part : Part) → NotBack v part → Bounded v.time (view_after v part).time (Adds P v part)
adds_bounded P v (Enter t a s) h x now k = elim k [
  | inl i ↦ inside_bounded P v v.running t x now i
  | inr m ↦ (subst (λ (z : Fraction). v.time ≤ℚ z) (sym m.0) h.0, subst (λ (z : Fraction). z ≤ℚ t) (sym m.0) (≤ℚ_refl t))
]
adds_bounded P v (Round events s) h x now k = one_bounded v.time s x now k
adds_bounded P v (Act i s) h x now k = one_bounded v.time s x now k
adds_bounded P v (Run running) h x now k = elim k [ ]

all_bounded : (P : Problem) (v : View) (parts : List Part) → AllNotBack v parts → Bounded v.time (view_from v parts).time (AllAdd P v parts)
all_bounded P v [] h x now k = elim k [ ]
all_bounded P v (part ∷ parts) h x now k =
    let mid = (view_after v part).time in
    let last = (view_from (view_after v part) parts).time in
    elim k [
      | inl i ↦ (let b = adds_bounded P v part h.0 x now i in (b.0, ≤ℚ_trans x mid last b.1 (rise_all (view_after v part) parts h.1)))
      | inr i ↦ (let b = all_bounded P (view_after v part) parts h.1 x now i in (≤ℚ_trans v.time mid x (rises v part h.0) b.0, b.1))
    ]

parts_scanned : (fits : Fraction → Type 0) (P : Problem) (c : Constraint) (v : View) (parts : List Part) → AllNotBack v parts → AllPass fits (looks_ask (parts_looks P c v parts))
    → Scanned c.condition (is_lasting c.when) v.time (view_from v parts).time (Only (AllAdd P v parts) c.when) (first_found (parts_looks P c v parts))
parts_scanned fits P c v [] h a = nothing c.condition (is_lasting c.when) v.time v.time (Only (AllAdd P v []) c.when) (≤ℚ_refl v.time) (λ x now k. k.0)
parts_scanned fits P c v (part ∷ parts) h a =
    let next = view_after v part in
    let xs = part_looks P c v part in
    let ys = parts_looks P c next parts in
    let V = Only (Adds P v part) c.when in
    let W = Only (AllAdd P next parts) c.when in
    let last = (view_from next parts).time in
    subst (λ (o : Option Place). Scanned c.condition (is_lasting c.when) v.time last (Only (AllAdd P v (part ∷ parts)) c.when) o) (sym (found_append xs ys))
    (same_seen c.condition (is_lasting c.when) v.time last (Either V W) (Only (AllAdd P v (part ∷ parts)) c.when) _
    (λ x s k. elim k [ inl i ↦ (inl i.0, i.1) | inr i ↦ (inr i.0, i.1) ])
    (λ x s k. elim k.0 [ inl i ↦ inl (i, k.1) | inr i ↦ inr (i, k.1) ])
    (joined c.condition (is_lasting c.when) v.time next.time last V W (first_found xs) (first_found ys)
    (part_scanned fits P c v part h.0 (asked_left fits xs ys a)) (rise_all next parts h.1)
    (only_bounded next.time last (AllAdd P next parts) c.when (all_bounded P next parts h.1))
    (λ e. parts_scanned fits P c next parts h.1 (asked_right fits xs ys a e))))

-- ---- time does not fall along a prefix
rises_by : (o : Option (List ℕ)) (t u : Fraction) → t <ℚ u → RisesIf o t u
rises_by None t u h = tt
rises_by (Some R) t u h = h

next_not_back : (P : Problem) (L : Plan) (v : View) (part : Part) → Next P L v part → NotBack v part
next_not_back P L v (Enter t a s) n = go v.running n
  where
    go : (o : Option (List ℕ)) → NextBy P L v o (Enter t a s) → NotBack v (Enter t a s)
    go None n = elim n [ ]
    go (Some R) n = (le_lt v.time t n.later, rises_by v.running v.time t n.later)
next_not_back P L v (Round events s) n = tt
next_not_back P L v (Act i s) n = tt
next_not_back P L v (Run running) n = tt

follow_not_back : (P : Problem) (L : Plan) (v : View) (parts : List Part) → Follow P L v parts → AllNotBack v parts
follow_not_back P L v [] f = tt
follow_not_back P L v (part ∷ parts) f = (next_not_back P L v part f.1, follow_not_back P L (view_after v part) parts f.2)

prefix_not_back : (P : Problem) (L : Plan) (h : List Part) → Prefix P L h → AllNotBack (first_view P) h
prefix_not_back P L h p = subst (AllNotBack (first_view P)) (sym p.begins) ((≤ℚ_refl (whole (pos 0)), tt), follow_not_back P L (first_view P) p.rest p.follow)

pub looks_tell : (fits : Fraction → Type 0) → LooksTell fits
unfolding found_along
looks_tell fits P L h c p a =
    found P h c (whole (pos 0)) (view_from (first_view P) h).time (first_found (history_looks P c h)) (parts_scanned fits P c (first_view P) h (prefix_not_back P L h p) a)
