-- Calls lifted one by one.
use Rattle.std.specs.Prelude.{◌≡◌, ℕ, zero, suc, ◌+◌, ◌<◌, ◌≤◌, Bool, true, false, List, [], ◌∷◌, ◌++◌, length, drop, get_or, All, codes, refl, if◌then◌else◌}
use Rattle.std.specs.Str.{bytes_eq}
use Rattle.std.proofs.lemmas.List.{map-append}
use Rattle.std.proofs.Common.{ap, sym, ◌∙◌, subst, arith, add-one, append-nil, append_assoc, drop-cons}
use Rattle.std.proofs.lemmas.List.{drop_all}
use Rattle.std.proofs.lemmas.List.Elements.{All-append}
use Rattle.plus_fraction.specs.Fraction.{Fraction}
use Rattle.plus_number.specs.declared.frac.Frac64.{Frac64}
use Rattle.plus_number.specs.Frac.{fraction_of, IsFrac64}
use Rattle.plus_tree.specs.declared.trees.Call.{Call}
use Rattle.plus_expansion.specs.Numbers.{label_of}
use Rattle.plus_steps.specs.Stepped.{Move, Act, Tick, time_of_step, timed_acts, steps_after}
use Rattle.plus_steps.specs.Laws.{CallName}
use Rattle.plus_translation.specs.Laws.{stripped}
use Rattle.plus_report.specs.Plans.{acts_of}
use Rattle.plus_lift.specs.declared.fault.LiftFault.{LiftFault}
use Rattle.plus_lift.specs.declared.fault.LiftFault.TheVariants.{Number, Memory}
use Rattle.plus_lift.specs.Lifts.{names_of, labelled, counts, IsOverflow, IsFirstOverflow, IsNotLifted}

-- the moves that are left
abbrev pub moves : List Call → ℕ → List (Move CallName)
moves steps i = stripped (names_of (drop i steps))

pub record LiftSoFar (interval : Frac64) (steps : List Call) (i count : ℕ) (acts : List (Frac64 × List ℕ)) : Type 0 where
  pub few : count ≤ i
  pub acts_are : acts_of fraction_of acts ++ labelled (timed_acts (fraction_of interval) count (moves steps i)) ≡ labelled (timed_acts (fraction_of interval) 0 (stripped (names_of steps)))
  pub ends : steps_after count (moves steps i) ≡ steps_after 0 (stripped (names_of steps))
  pub before : List ℕ
  pub split : counts 0 (stripped (names_of steps)) ≡ before ++ counts count (moves steps i)
  pub fit : All (λ n. IsFrac64 (time_of_step (fraction_of interval) n)) before

front : {A : Type 0} (xs : List A) (i : ℕ) (x : A) → i < length xs → x ≡ get_or xs i x → drop i xs ≡ x ∷ drop (suc i) xs
front xs i x h m = drop-cons xs i x h ∙ ap (λ y. y ∷ drop (suc i) xs) (sym m)

none_yet : {A : Type 0} (P : A → Type 0) → All P []
none_yet P k d h = absurd (omega (arith, h))

alone : {A : Type 0} (P : A → Type 0) (x : A) → P x → All P (x ∷ [])
alone P x p zero d h = p
alone P x p (suc k) d h = absurd (omega (arith, h))

pub lift_begin : (interval : Frac64) (steps : List Call) → LiftSoFar interval steps 0 0 []
lift_begin interval steps = record { few = omega arith; acts_are = refl; ends = refl; before = []; split = refl; fit = none_yet (λ n. IsFrac64 (time_of_step (fraction_of interval) n)) }

next_call : (steps : List Call) (i : ℕ) (x : Call) → i < length steps → x ≡ get_or steps i x
    → moves steps i ≡ (if bytes_eq x.name (codes "pp-step") then Tick ∷ moves steps (suc i)
    else (if bytes_eq x.name (codes "pp-fire") then moves steps (suc i) else Act (x.name, x.args) ∷ moves steps (suc i)))
next_call steps i x h m = ap (λ cs. stripped (names_of cs)) (front steps i x h m)

chosen_step : (a b : Bool) (act : Move CallName) (rest : List (Move CallName)) → a ≡ true → (if a then Tick ∷ rest else (if b then rest else act ∷ rest)) ≡ Tick ∷ rest
chosen_step a b act rest e = ap (λ c. if c then Tick ∷ rest else (if b then rest else act ∷ rest)) e

chosen_fire : (a b : Bool) (act : Move CallName) (rest : List (Move CallName)) → a ≡ false → b ≡ true → (if a then Tick ∷ rest else (if b then rest else act ∷ rest)) ≡ rest
chosen_fire a b act rest e f = ap (λ c. if c then Tick ∷ rest else (if b then rest else act ∷ rest)) e ∙ ap (λ c. if c then rest else act ∷ rest) f

chosen_act : (a b : Bool) (act : Move CallName) (rest : List (Move CallName)) → a ≡ false → b ≡ false → (if a then Tick ∷ rest else (if b then rest else act ∷ rest)) ≡ act ∷ rest
chosen_act a b act rest e f = ap (λ c. if c then Tick ∷ rest else (if b then rest else act ∷ rest)) e ∙ ap (λ c. if c then rest else act ∷ rest) f

-- ---- a step, a round, an action
step_done : (interval : Frac64) (steps : List Call) (i count : ℕ) (x : Call) (acts : List (Frac64 × List ℕ)) → i < length steps → x ≡ get_or steps i x
    → bytes_eq x.name (codes "pp-step") ≡ true → LiftSoFar interval steps i count acts → LiftSoFar interval steps (suc i) (suc count) acts
step_done interval steps i count x acts h m e inv =
    let q : Fraction = fraction_of interval in
    let n : moves steps i ≡ Tick ∷ moves steps (suc i) = next_call steps i x h m ∙ chosen_step _ _ _ _ e in
    record {
      few = let f = inv.few in omega (arith, f);
      acts_are = ap (λ ms. acts_of fraction_of acts ++ labelled (timed_acts q count ms)) (sym n) ∙ inv.acts_are;
      ends = ap (steps_after count) (sym n) ∙ inv.ends;
      before = inv.before;
      split = inv.split ∙ ap (λ ms. inv.before ++ counts count ms) n;
      fit = inv.fit;
    }

fire_done : (interval : Frac64) (steps : List Call) (i count : ℕ) (x : Call) (acts : List (Frac64 × List ℕ)) → i < length steps → x ≡ get_or steps i x
    → bytes_eq x.name (codes "pp-step") ≡ false → bytes_eq x.name (codes "pp-fire") ≡ true → LiftSoFar interval steps i count acts → LiftSoFar interval steps (suc i) count acts
fire_done interval steps i count x acts h m e f inv =
    let q : Fraction = fraction_of interval in
    let n : moves steps i ≡ moves steps (suc i) = next_call steps i x h m ∙ chosen_fire _ _ _ _ e f in
    record {
      few = let f = inv.few in omega (arith, f);
      acts_are = ap (λ ms. acts_of fraction_of acts ++ labelled (timed_acts q count ms)) (sym n) ∙ inv.acts_are;
      ends = ap (steps_after count) (sym n) ∙ inv.ends;
      before = inv.before;
      split = inv.split ∙ ap (λ ms. inv.before ++ counts count ms) n;
      fit = inv.fit;
    }

act_done : (interval : Frac64) (steps : List Call) (i count : ℕ) (x : Call) (acts : List (Frac64 × List ℕ)) (now : Frac64) (label : List ℕ)
    → i < length steps → x ≡ get_or steps i x
    → bytes_eq x.name (codes "pp-step") ≡ false → bytes_eq x.name (codes "pp-fire") ≡ false → LiftSoFar interval steps i count acts
    → fraction_of now ≡ time_of_step (fraction_of interval) count → label ≡ label_of x.name x.args
    → LiftSoFar interval steps (suc i) count (acts ++ (now, label) ∷ [])
act_done interval steps i count x acts now label h m e f inv t l =
    let q : Fraction = fraction_of interval in
    let n : moves steps i ≡ Act (x.name, x.args) ∷ moves steps (suc i) = next_call steps i x h m ∙ chosen_act _ _ _ _ e f in
    let P = λ (k : ℕ). IsFrac64 (time_of_step q k) in
    record {
      few = let f = inv.few in omega (arith, f);
      acts_are =
          ap (λ as'. as' ++ labelled (timed_acts q count (moves steps (suc i)))) (map-append (λ (a : Frac64 × List ℕ). (fraction_of a.0, a.1)) acts ((now, label) ∷ []))
          ∙ append_assoc (acts_of fraction_of acts) ((fraction_of now, label) ∷ []) (labelled (timed_acts q count (moves steps (suc i))))
          ∙ ap (λ y. acts_of fraction_of acts ++ (y, label) ∷ labelled (timed_acts q count (moves steps (suc i)))) t
          ∙ ap (λ y. acts_of fraction_of acts ++ (time_of_step q count, y) ∷ labelled (timed_acts q count (moves steps (suc i)))) l
          ∙ ap (λ ms. acts_of fraction_of acts ++ labelled (timed_acts q count ms)) (sym n) ∙ inv.acts_are;
      ends = ap (steps_after count) (sym n) ∙ inv.ends;
      before = inv.before ++ count ∷ [];
      split = inv.split ∙ ap (λ ms. inv.before ++ counts count ms) n ∙ sym (append_assoc inv.before (count ∷ []) (counts count (moves steps (suc i))));
      fit = All-append P inv.before (count ∷ []) inv.fit (alone P count (subst IsFrac64 t (now.top_fits, now.bottom_fits)));
    }

pub lift_step : (interval : Frac64) (steps : List Call) (i count : ℕ) (x : Call) (acts : List (Frac64 × List ℕ)) → i < length steps → x ≡ get_or steps i x
    → bytes_eq x.name (codes "pp-step") ≡ true → LiftSoFar interval steps i count acts → LiftSoFar interval steps (i + 1) (count + 1) acts
lift_step interval steps i count x acts h m e inv =
    subst (λ (n : ℕ). LiftSoFar interval steps n (count + 1) acts) (sym (add-one i))
    (subst (λ (n : ℕ). LiftSoFar interval steps (suc i) n acts) (sym (add-one count)) (step_done interval steps i count x acts h m e inv))

pub lift_fire : (interval : Frac64) (steps : List Call) (i count : ℕ) (x : Call) (acts : List (Frac64 × List ℕ)) → i < length steps → x ≡ get_or steps i x
    → bytes_eq x.name (codes "pp-step") ≡ false → bytes_eq x.name (codes "pp-fire") ≡ true → LiftSoFar interval steps i count acts → LiftSoFar interval steps (i + 1) count acts
lift_fire interval steps i count x acts h m e f inv =
    subst (λ (n : ℕ). LiftSoFar interval steps n count acts) (sym (add-one i)) (fire_done interval steps i count x acts h m e f inv)

pub lift_act : (interval : Frac64) (steps : List Call) (i count : ℕ) (x : Call) (acts new : List (Frac64 × List ℕ)) (now : Frac64) (label : List ℕ)
    → i < length steps → x ≡ get_or steps i x
    → bytes_eq x.name (codes "pp-step") ≡ false → bytes_eq x.name (codes "pp-fire") ≡ false → LiftSoFar interval steps i count acts
    → fraction_of now ≡ time_of_step (fraction_of interval) count → label ≡ label_of x.name x.args → new ≡ acts ++ (now, label) ∷ []
    → LiftSoFar interval steps (i + 1) count new
lift_act interval steps i count x acts new now label h m e f inv t l push =
    subst (λ (n : ℕ). LiftSoFar interval steps n count new) (sym (add-one i))
    (subst (λ (as' : List (Frac64 × List ℕ)). LiftSoFar interval steps (suc i) count as') (sym push) (act_done interval steps i count x acts now label h m e f inv t l))

-- a time that is no value, at an action and at the end
pub lift_off : (interval : Frac64) (steps : List Call) (i count : ℕ) (x : Call) (acts : List (Frac64 × List ℕ)) (fault : LiftFault)
    → i < length steps → x ≡ get_or steps i x
    → bytes_eq x.name (codes "pp-step") ≡ false → bytes_eq x.name (codes "pp-fire") ≡ false → LiftSoFar interval steps i count acts
    → IsOverflow interval count fault → IsFirstOverflow interval (counts 0 (stripped (names_of steps))) fault
lift_off interval steps i count x acts fault h m e f inv o =
    let n : moves steps i ≡ Act (x.name, x.args) ∷ moves steps (suc i) = next_call steps i x h m ∙ chosen_act _ _ _ _ e f in
    record {
      before = inv.before;
      count = count;
      after = counts count (moves steps (suc i));
      split = inv.split ∙ ap (λ ms. inv.before ++ counts count ms) n;
      fit = inv.fit;
      overflow = o;
    }

no_moves : (steps : List Call) (i : ℕ) → length steps ≤ i → moves steps i ≡ []
no_moves steps i h = ap (λ cs. stripped (names_of cs)) (drop_all i steps h)

pub lift_off_end : (interval : Frac64) (steps : List Call) (i count : ℕ) (acts : List (Frac64 × List ℕ)) (fault : LiftFault) → length steps ≤ i
    → LiftSoFar interval steps i count acts → IsOverflow interval count fault → IsFirstOverflow interval (counts 0 (stripped (names_of steps))) fault
lift_off_end interval steps i count acts fault h inv o = record {
  before = inv.before;
  count = count;
  after = [];
  split = inv.split ∙ ap (λ ms. inv.before ++ counts count ms) (no_moves steps i h);
  fit = inv.fit;
  overflow = o;
}

pub lift_end : (interval : Frac64) (steps : List Call) (i count : ℕ) (acts : List (Frac64 × List ℕ)) → length steps ≤ i → LiftSoFar interval steps i count acts
    → acts_of fraction_of acts ≡ labelled (timed_acts (fraction_of interval) 0 (stripped (names_of steps)))
lift_end interval steps i count acts h inv =
    sym (append-nil (acts_of fraction_of acts))
    ∙ ap (λ ms. acts_of fraction_of acts ++ labelled (timed_acts (fraction_of interval) count ms)) (sym (no_moves steps i h)) ∙ inv.acts_are

pub lift_end_time : (interval : Frac64) (steps : List Call) (i count : ℕ) (acts : List (Frac64 × List ℕ)) → length steps ≤ i → LiftSoFar interval steps i count acts
    → time_of_step (fraction_of interval) count ≡ time_of_step (fraction_of interval) (steps_after 0 (stripped (names_of steps)))
lift_end_time interval steps i count acts h inv =
    ap (time_of_step (fraction_of interval)) (ap (steps_after count) (sym (no_moves steps i h)) ∙ inv.ends)

told : (interval : Frac64) (steps : List Call) (count : ℕ) (fault : LiftFault) → IsOverflow interval count fault
    → IsFirstOverflow interval (counts 0 (stripped (names_of steps))) fault → IsNotLifted interval steps fault
told interval steps count (Number o) h f = f
told interval steps count Memory h f = absurd h

pub off_at_act : (interval : Frac64) (steps : List Call) (i count : ℕ) (x : Call) (acts : List (Frac64 × List ℕ)) (fault : LiftFault)
    → i < length steps → x ≡ get_or steps i x
    → bytes_eq x.name (codes "pp-step") ≡ false → bytes_eq x.name (codes "pp-fire") ≡ false → LiftSoFar interval steps i count acts
    → IsOverflow interval count fault → IsNotLifted interval steps fault
off_at_act interval steps i count x acts fault h m e f inv o = told interval steps count fault o (lift_off interval steps i count x acts fault h m e f inv o)

pub off_at_end : (interval : Frac64) (steps : List Call) (i count : ℕ) (acts : List (Frac64 × List ℕ)) (fault : LiftFault) → length steps ≤ i
    → LiftSoFar interval steps i count acts → IsOverflow interval count fault → IsNotLifted interval steps fault
off_at_end interval steps i count acts fault h inv o = told interval steps count fault o (lift_off_end interval steps i count acts fault h inv o)

pub ruleset lifting = (lift_begin, lift_step, lift_fire, lift_act, lift_end, lift_end_time, off_at_act, off_at_end)
