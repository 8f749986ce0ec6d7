-- What one step of a timeline leaves to be done: it may be carried on, and fewer steps are left.
use Rattle.std.proofs.Common.{◌≡◌, ℕ, suc, ◌+◌, ◌-◌, ◌*◌, ◌<◌, ◌≤◌, List, ◌++◌, ap, ap₂, sym, subst, ◌∙◌, arith}
use Rattle.std.proofs.Math.Nat.{add-mul}
use Rattle.std.specs.Prelude.{Option, Some, None, length}
use Rattle.plus_fraction.specs.Fraction.{Fraction, ◌<ℚ◌, ◌≤ℚ◌}
use Rattle.plus_fraction.proofs.FractionAtMost.{<ℚ-≤ℚ_trans}
use Rattle.plus_model.specs.Terms.{Problem}
use Rattle.plus_model.specs.Trajectory.{least}
use Rattle.plus_model.proofs.Moments.{≤ℚ_refl, ≤ℚ_trans, least_within}
use Rattle.plus_timeline.specs.declared.next.Next.{Next}
use Rattle.plus_timeline.specs.declared.next.Next.TheVariants.{Round, Run, Entry, There}
use Rattle.plus_timeline.specs.Timeline.{TimelineView}
use Rattle.plus_timeline.specs.Advance.{IsAhead, Advances, FiresRound, ClosesEntry, BeginsEntry, IsThere}
use Rattle.plus_timeline.specs.StepsLeft.{CanReach, HasRoom, pending, unfired, steps_left, IsMore}
use Rattle.plus_timeline.proofs.Unfired.{unfired_within, round_less}

-- ---- the timeline may go on after a step

room_of : (o : Option (List ℕ)) (R : List ℕ) (entries most : ℕ) → o ≡ Some R → HasRoom o entries most → entries < most
room_of o R entries most e h = subst (λ o. HasRoom o entries most) e h

round_goes : (Known Known' : Type 0) (P : Problem) (u : Fraction) (old new : TimelineView) → CanReach Known u old → FiresRound P old new → Known' → CanReach Known' u new
round_goes Known Known' P u old new c r known =
    let runs : new.now.running ≡ None = ap (λ v. v.now.running) r.is in
    let time : new.now.time ≡ old.now.time = ap (λ v. v.now.time) r.is in
    let e : new.entries ≡ old.entries = ap (λ v. v.entries) r.is in
    let m : new.most ≡ old.most = ap (λ v. v.most) r.is in
    let here : old.now.time ≤ℚ u = subst (λ o. IsAhead o old.now.time u) r.moment c.ahead in
    let w = c.goes.within in
    record {
      goes = record { knows = known; going = ap (λ v. v.ended) r.is ∙ c.goes.going; within = omega arith };
      ahead = subst (λ o. IsAhead o new.now.time u) (sym runs) (subst (λ t. t ≤ℚ u) (sym time) here);
      room = subst (λ o. HasRoom o new.entries new.most) (sym runs) tt;
    }

run_goes : (Known Known' : Type 0) (P : Problem) (u : Fraction) (old new : TimelineView) → CanReach Known u old → ClosesEntry P (least old.now.time u P.timed) old new → Known' → CanReach Known' u new
run_goes Known Known' P u old new c r known =
    let runs : new.now.running ≡ Some r.members = ap (λ v. v.now.running) r.is in
    let time : new.now.time ≡ old.now.time = ap (λ v. v.now.time) r.is in
    let e : new.entries ≡ old.entries = ap (λ v. v.entries) r.is in
    let m : new.most ≡ old.most = ap (λ v. v.most) r.is in
    let here : old.now.time <ℚ u = <ℚ-≤ℚ_trans _ _ _ r.may.later (least_within old.now.time u P.timed) in
    let w = c.goes.within in
    let k = r.room in
    record {
      goes = record { knows = known; going = ap (λ v. v.ended) r.is ∙ c.goes.going; within = omega arith };
      ahead = subst (λ o. IsAhead o new.now.time u) (sym runs) (subst (λ t. t <ℚ u) (sym time) here);
      room = subst (λ o. HasRoom o new.entries new.most) (sym runs) (let j : new.entries < new.most = omega arith in j);
    }

entry_goes : (Known Known' : Type 0) (P : Problem) (u t : Fraction) (old new : TimelineView) → CanReach Known u old → BeginsEntry P (least old.now.time u P.timed) t old new → Known' → CanReach Known' u new
entry_goes Known Known' P u t old new c r known =
    let runs : new.now.running ≡ None = ap (λ v. v.now.running) r.is in
    let time : new.now.time ≡ t = ap (λ v. v.now.time) r.is in
    let e : new.entries ≡ suc old.entries = ap (λ v. v.entries) r.is in
    let m : new.most ≡ old.most = ap (λ v. v.most) r.is in
    let here : t ≤ℚ u = ≤ℚ_trans _ _ _ r.may.within (least_within old.now.time u P.timed) in
    let k : old.entries < old.most = room_of old.now.running r.members old.entries old.most r.runs c.room in
    record {
      goes = record { knows = known; going = ap (λ v. v.ended) r.is ∙ c.goes.going; within = omega arith };
      ahead = subst (λ o. IsAhead o new.now.time u) (sym runs) (subst (λ x. x ≤ℚ u) (sym time) here);
      room = subst (λ o. HasRoom o new.entries new.most) (sym runs) tt;
    }

there_goes : (Known Known' : Type 0) (P : Problem) (u : Fraction) (old new : TimelineView) → CanReach Known u old → IsThere P u old new → Known' → CanReach Known' u new
there_goes Known Known' P u old new c r known =
    let runs : new.now.running ≡ None = ap (λ v. v.now.running) r.is ∙ r.moment in
    let time : new.now.time ≡ u = ap (λ v. v.now.time) r.is ∙ r.time in
    let e : new.entries ≡ old.entries = ap (λ v. v.entries) r.is in
    let m : new.most ≡ old.most = ap (λ v. v.most) r.is in
    let w = c.goes.within in
    record {
      goes = record { knows = known; going = ap (λ v. v.ended) r.is ∙ c.goes.going; within = omega arith };
      ahead = subst (λ o. IsAhead o new.now.time u) (sym runs) (subst (λ x. x ≤ℚ u) (sym time) (≤ℚ_refl u));
      room = subst (λ o. HasRoom o new.entries new.most) (sym runs) tt;
    }

pub step_goes : {Q : Type 0} (value : Q → Fraction) (Known Known' : Type 0) (P : Problem) (u : Fraction) (old new : TimelineView) (answer : Next Q) → CanReach Known u old → Advances value P u old new answer → Known' → CanReach Known' u new
step_goes value Known Known' P u old new Round c a known = round_goes Known Known' P u old new c a known
step_goes value Known Known' P u old new Run c a known = run_goes Known Known' P u old new c a known
step_goes value Known Known' P u old new (Entry t) c a known = entry_goes Known Known' P u (value t) old new c a known
step_goes value Known Known' P u old new There c a known = there_goes Known Known' P u old new c a known

pub step_most : {Q : Type 0} (value : Q → Fraction) (P : Problem) (u : Fraction) (old new : TimelineView) (answer : Next Q) → Advances value P u old new answer → new.most ≡ old.most
step_most value P u old new Round a = ap (λ v. v.most) a.is
step_most value P u old new Run a = ap (λ v. v.most) a.is
step_most value P u old new (Entry t) a = ap (λ v. v.most) a.is
step_most value P u old new There a = ap (λ v. v.most) a.is

-- ---- fewer steps are left: by how many entries and parts, and by how many rounds

rounds_lower : (k k' x y : ℕ) → k' ≡ k → x < y → k' + x < k + y
rounds_lower k k' x y e h = omega arith

parts_lower : (k k' n n' x y : ℕ) → n' ≡ n → k ≡ k' + 1 → x ≤ n' → k' * (n' + 1) + x < k * (n + 1) + y
parts_lower k k' n n' x y e f h =
    let g : k * (n + 1) ≡ k' * (n' + 1) + (n' + 1) = ap (λ (i : ℕ). i * (n + 1)) f ∙ add-mul k' 1 (n + 1) ∙ one_more k' n n' e in
    omega arith
  where
    one_more : (k n n' : ℕ) → n' ≡ n → k * (n + 1) + 1 * (n + 1) ≡ k * (n' + 1) + (n' + 1)
    one_more k n n' e = subst (λ (i : ℕ). k * (n + 1) + 1 * (n + 1) ≡ k * (i + 1) + (i + 1)) (sym e) (omega arith)

-- the entries and parts that are left
abbrev parts_left : TimelineView → ℕ
parts_left t = 2 * (t.most - t.entries) + pending t.now.running

pub step_less : {Q : Type 0} (value : Q → Fraction) (P : Problem) (u : Fraction) (old new : TimelineView) (answer : Next Q) → old.event_count ≡ length P.events → HasRoom old.now.running old.entries old.most → IsMore answer → Advances value P u old new answer → steps_left new < steps_left old
unfolding steps_left
step_less value P u old new Round events room m a =
    let runs : pending new.now.running ≡ pending old.now.running = ap (λ v. pending v.now.running) a.is ∙ sym (ap pending a.moment) in
    let e : new.entries ≡ old.entries = ap (λ v. v.entries) a.is in
    let k : new.most ≡ old.most = ap (λ v. v.most) a.is in
    let n : new.event_count ≡ old.event_count = ap (λ v. v.event_count) a.is in
    let f : new.now.fired ≡ old.now.fired ++ a.fired = ap (λ v. v.now.fired) a.is in
    let parts : parts_left new ≡ parts_left old = ap₂ (λ (x y : ℕ). x + y) (ap₂ (λ (x y : ℕ). 2 * (x - y)) k e) runs in
    let left = subst (λ (i : ℕ). unfired i (old.now.fired ++ a.fired) < unfired i old.now.fired) (sym events) (round_less P old.now.fired old.now.state a.fired a.after a.round) in
    rounds_lower (parts_left old * (old.event_count + 1)) (parts_left new * (new.event_count + 1)) (unfired new.event_count new.now.fired) (unfired old.event_count old.now.fired)
    (ap₂ (λ (x y : ℕ). x * (y + 1)) parts n)
    (subst (λ (i : ℕ). unfired i new.now.fired < unfired old.event_count old.now.fired) (sym n) (subst (λ (xs : List ℕ). unfired old.event_count xs < unfired old.event_count old.now.fired) (sym f) left))
step_less value P u old new Run events room m a =
    let runs : new.now.running ≡ Some a.members = ap (λ v. v.now.running) a.is in
    let e : new.entries ≡ old.entries = ap (λ v. v.entries) a.is in
    let k : new.most ≡ old.most = ap (λ v. v.most) a.is in
    let p : pending new.now.running ≡ 0 = ap pending runs in
    let q : pending old.now.running ≡ 1 = ap pending a.moment in
    parts_lower (parts_left old) (parts_left new) old.event_count new.event_count (unfired new.event_count new.now.fired) (unfired old.event_count old.now.fired)
    (ap (λ v. v.event_count) a.is) (omega arith) (unfired_within new.event_count new.now.fired)
step_less value P u old new (Entry t) events room m a =
    let runs : new.now.running ≡ None = ap (λ v. v.now.running) a.is in
    let e : new.entries ≡ suc old.entries = ap (λ v. v.entries) a.is in
    let k : new.most ≡ old.most = ap (λ v. v.most) a.is in
    let p : pending new.now.running ≡ 1 = ap pending runs in
    let q : pending old.now.running ≡ 0 = ap pending a.runs in
    let l : old.entries < old.most = room_of old.now.running a.members old.entries old.most a.runs room in
    parts_lower (parts_left old) (parts_left new) old.event_count new.event_count (unfired new.event_count new.now.fired) (unfired old.event_count old.now.fired)
    (ap (λ v. v.event_count) a.is) (omega arith) (unfired_within new.event_count new.now.fired)
step_less value P u old new There events room m a = elim m [ ]
