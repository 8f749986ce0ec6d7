-- What a decision tells, by the calls that it makes.
use Rattle.std.proofs.Common.{◌≡◌, ◌≢◌, ◌≤◌, ◌<◌, inl, inr, ℕ, zero, suc, false, List, [], ◌∷◌, map, length, refl, ap, sym, subst, ◌∙◌, arith}
use Rattle.std.specs.Prelude.{Option, Some, None, Result, Ok, Err, IfOk, IsSomeAnd, slice_get, slice_index_or}
use Rattle.plus_fraction.specs.Fraction.{Fraction, ◌≤ℚ◌}
use Rattle.plus_fraction.proofs.FractionAtMost.{≤ℚ_refl}
use Rattle.plus_model.specs.Terms.{Action, Problem}
use Rattle.plus_model.specs.Breach as model
use Rattle.plus_search.specs.declared.spaces.Fate.{Fate}
use Rattle.plus_search.specs.declared.spaces.Fate.TheVariants.{Broken, Beyond}
use Rattle.plus_stretch.specs.Tests.{breach, AllPass, FirstFailing, of_limit, breach_of}
use Rattle.plus_timeline.specs.Timeline.{TimelineView}
use Rattle.plus_timeline.specs.Act.{DoesAct, BreaksAct, ActTold}
use Rattle.plus_timeline.specs.Advance.{IsAhead}
use Rattle.plus_timeline.specs.Asked.{act_tests}
use Rattle.plus_timeline.specs.declared.stop.Stop.{Stop}
use Rattle.plus_timeline.specs.declared.stop.Stop.TheVariants as stops
use Rattle.plus_timeline.proofs.Serving.{act_serves}
use Rattle.plus_planner.specs.declared.places.Taken.{Taken}
use Rattle.plus_timeline.specs.StepsLeft.{HasRoom}
use Rattle.plus_planner.specs.Standing.{CanGoOn, CanReach, refused_by}
use Rattle.plus_planner.specs.Places.{ActFails, Goes, ActEnds, WaitEnds}
use Rattle.plus_planner.proofs.Carries.{limit_kind, goes_on}

-- ---- a wait

pub wait_told : {Q E : Type 0} (fits : Fraction → Type 0) (P : Problem) (u v : Fraction) (d : ℕ) (base base' : TimelineView) (taken taken' : List (Taken Q)) (r : Result Fate E) → u ≡ v → fits u → base' ≡ base → IfOk r (Goes fits P u base' d taken taken') → IfOk r (WaitEnds fits P v d base taken taken')
wait_told fits P u v d base base' taken taken' (Err e) k f b h = tt
wait_told fits P u v d base base' taken taken' (Ok fate) k f b h = inr record {
  some = subst fits k f;
  goes = subst (λ z. Goes fits P z base d taken taken' fate) k (subst (λ z. Goes fits P u z d taken taken' fate) b h);
}

-- ---- an action

within_same : {a b m n : ℕ} → a ≡ b → m ≡ n → a ≤ m → b ≤ n
within_same {a} {b} {m} {n} e f h = subst (λ z. z ≤ n) e (subst (λ z. a ≤ z) f h)

-- the timeline after it may be carried to the present time
pub reach_done : (P : Problem) (action : Action) (t done : TimelineView) (u : Fraction) → CanGoOn P t → DoesAct P action t done → u ≡ t.now.time → CanReach P u done
reach_done P action t done u c d e =
    let runs = ap (λ v. v.now.running) d.is in
    let time = ap (λ v. v.now.time) d.is in
    record {
      goes = record {
        knows = act_serves P action t done d c.knows;
        going = ap (λ v. v.ended) d.is ∙ c.going;
        within = within_same (sym (ap (λ v. v.entries) d.is)) (sym (ap (λ v. v.most) d.is)) c.within;
      };
      ahead = subst (λ o. IsAhead o done.now.time u) (sym runs) (subst (λ z. z ≤ℚ u) (sym time) (subst (λ z. z ≤ℚ u) e (≤ℚ_refl u)));
      room = subst (λ o. HasRoom o done.entries done.most) (sym runs) tt;
    }

pub act_told : {Q E : Type 0} (fits : Fraction → Type 0) (P : Problem) (action : Action) (u : Fraction) (d : ℕ) (t t' done : TimelineView) (taken taken' : List (Taken Q)) (r : Result Fate E) → t' ≡ t → u ≡ t'.now.time → AllPass fits (act_tests t'.now.acted action t'.now.state) → DoesAct P action t' done → IfOk r (Goes fits P u done d taken taken') → IfOk r (ActEnds fits P action d t taken taken')
act_told fits P action u d t t' done taken taken' (Err e) s k p a h = tt
act_told fits P action u d t t' done taken taken' (Ok fate) s k p a h =
    subst (λ z. ActEnds fits P action d z taken taken' fate) s
    (inr record { done = done; passes = p; does = a; goes = subst (λ z. Goes fits P z done d taken taken' fate) k h })

breach_act : (fits : Fraction → Type 0) (action : Action) (t : TimelineView) (o : Option model.Breach) → IsSomeAnd o (λ c. FirstFailing fits (act_tests t.now.acted action t.now.state) (breach c)) → ActFails fits t.now.acted action t.now.state Broken
breach_act fits action t None h = absurd h
breach_act fits action t (Some c) h = record { test = breach c; first = h; kind = λ l. l }

act_stops : {Q : Type 0} (value : Q → Fraction) (fits : Fraction → Type 0) (P : Problem) (action : Action) (line : ℕ) (t new : TimelineView) (stop : Stop Q) (fate : Fate) → refused_by stop ≡ Some fate → ActTold {A = Unit {0}} value fits P action line t new (Err stop) → ActFails fits t.now.acted action t.now.state fate
act_stops value fits P action line t new (stops.Breach b) fate e h =
    let f : Broken ≡ fate = cc e in
    subst (ActFails fits t.now.acted action t.now.state) f (breach_act fits action t (breach_of value t.now.acted b) h.first)
act_stops value fits P action line t new (stops.Limit l) fate e h =
    let f : Beyond ≡ fate = cc e in
    subst (ActFails fits t.now.acted action t.now.state) f record { test = of_limit value l; first = h.first; kind = limit_kind value l }
act_stops value fits P action line t new stops.Ended fate e h = absurd (cc e)
act_stops value fits P action line t new stops.Memory fate e h = absurd (cc e)

pub refusal_told : {Q E : Type 0} (value : Q → Fraction) (fits : Fraction → Type 0) (P : Problem) (action : Action) (d line : ℕ) (t t' new : TimelineView) (taken taken' : List (Taken Q)) (stop : Stop Q) (r : Result Fate E) → t' ≡ t → taken' ≡ taken → ActTold {A = Unit {0}} value fits P action line t' new (Err stop) → IfOk r (λ fate. refused_by stop ≡ Some fate) → IfOk r (ActEnds fits P action d t taken taken')
refusal_told value fits P action d line t t' new taken taken' stop (Err e) s q h k = tt
refusal_told value fits P action d line t t' new taken taken' stop (Ok fate) s q h k =
    subst (λ z. ActEnds fits P action d z taken taken' fate) s
    (inl record { fails = act_stops value fits P action line t' new stop fate k h; same = q })

pub act_goes : {Q : Type 0} (value : Q → Fraction) (fits : Fraction → Type 0) (P : Problem) (action : Action) (line : ℕ) (t new : TimelineView) (stop : Stop Q) → t.ended ≡ false → ActTold {A = Unit {0}} value fits P action line t new (Err stop) → stop ≢ stops.Ended
act_goes value fits P action line t new stop g h =
    goes_on {A = Unit {0}} value fits t.now.acted t.ended (act_tests t.now.acted action t.now.state) (λ _. DoesAct P action t new) (BreaksAct action line t.now.state) stop g h

-- the action with a number
pub action_at : {A B : Type 0} (f : A → B) (xs : List A) (k : ℕ) (x : A) → k < length xs → x ≡ slice_index_or xs k x → slice_get (map f xs) k ≡ Some (f x)
action_at f [] k x h e = absurd (omega arith)
action_at f (y ∷ ys) zero x h e = ap (λ z. Some (f z)) (sym e)
action_at f (y ∷ ys) (suc k) x h e = action_at f ys k x (omega arith) e

pub length_mapped : {A B : Type 0} (f : A → B) (xs : List A) → length (map f xs) ≡ length xs
length_mapped f [] = refl
length_mapped f (x ∷ xs) = ap suc (length_mapped f xs)

-- the number behind those of the actions
pub full : {A B : Type 0} (f : A → B) (xs : List A) (d : ℕ) → length xs ≤ d → d < suc (length xs) → d ≡ length (map f xs)
full f xs d h k = (let e : d ≡ length xs = omega arith in e ∙ sym (length_mapped f xs))

pub inside : {A B : Type 0} (f : A → B) (xs : List A) (d : ℕ) → d < suc (length xs) → d < suc (length (map f xs))
inside f xs d h = subst (λ n. d < suc n) (sym (length_mapped f xs)) h
