-- `step` in the translation is a step of time: the processes that hold move the fluents, the literals of the new time
-- come by the clock, the marks go and the clock goes on.
use Rattle.std.proofs.Common.{◌≡◌, ℕ, zero, suc, ◌<◌, ◌≤◌, ◌+◌, Bool, true, false, not, ◌&&◌, ◌||◌, List, [], ◌∷◌, ◌++◌, length, replicate, refl, ap, ap₂, sym, subst, ◌∙◌, arith, pos, ◌*ℤ◌, ◌<ℤ◌}
use Rattle.std.proofs.lemmas.Bool.Decides.{nat_tests}
use Rattle.std.proofs.lemmas.List.Elements.{All-head, All-tail}
use Rattle.std.specs.Prelude.{Some, None, Result, Ok, Err, nat_eq, slice_get, unwrap_or, if◌then◌else◌}
use Rattle.std.specs.List.{All, list_any, flat_map}
use Rattle.std.specs.declared.cmp.Ordering.{Ordering}
use Rattle.std.specs.declared.cmp.Ordering.TheVariants.{Less, Equal, Greater}
use Rattle.plus_fraction.specs.Fraction.{Fraction, whole, compared, ◌+ℚ◌, ◌-ℚ◌, ◌*ℚ◌, ◌/ℚ◌, ◌<ℚ◌}
use Rattle.plus_fraction.proofs.Compared.{compared-equal, equal-compared, less-compared}
use Rattle.plus_fraction.proofs.FractionOrder.{<ℚ_irrefl, *ℚ-lt, lt_by}
use Rattle.plus_fraction.proofs.IntRing.{products, linear}
use Rattle.plus_fraction.proofs.FractionRing.{ringℚ, zero-*ℚ, whole-add, Is-whole}
use Rattle.plus_fraction.proofs.FractionLaws.{*ℚ_comm}
use Rattle.plus_fraction.proofs.FractionSigns.{*ℚ-/ℚ, *ℚ_cancel}
use Rattle.plus_fraction.proofs.Ring.{var, num, ◌⊕◌, ◌⊖◌}
use Rattle.plus_model.specs.Terms.{Same, Below, Number, Fluent, Compare, Always, Increase, Add, Delete, Condition, Effect, Timed, State, Problem}
use Rattle.plus_model.specs.Value.{holds, passes, stand, fluent_of}
use Rattle.plus_model.specs.Joint.{Fault, Moves, given, Stays, Moving, Gains, Loses, Change, gains, loses, new_atoms, change_of, joint, new_value, value_before}
use Rattle.plus_model.specs.Firing.{firing}
use Rattle.plus_model.specs.Running.{rates, moved, moved_values, holding}
use Rattle.plus_model.specs.Trajectory.{literals, literal_changes, is_below}
use Rattle.plus_model.specs.Plan.{Called}
use Rattle.plus_state.specs.Fits.{StateFits, AllEffectsFit}
use Rattle.plus_steps.specs.Stepped.{Does, time_of_step}
use Rattle.plus_steps.specs.Laws.{IsOnGrid, CanBeStepped}
use Rattle.plus_steps.specs.Translation.{step_action, whenever, flows_of, is_later, has_clock, literal_write, literals_at_steps, clock_effects, clears_from, none_hold, clock_value}
use Rattle.plus_steps.proofs.Pads.{marks_from, pad}
use Rattle.plus_steps.proofs.Mirrors.{StepDoes}
use Rattle.plus_steps.proofs.Tally.{when, change_gains, change_loses, change_written, change_fine, both_written, gained, lost, wrote, fine, atoms_by, values_by, gained-append, lost-append, wrote-append, fine-append}
use Rattle.plus_steps.proofs.Inside.{other, get_right, wrote_same, fine_same, none_wrote}
use Rattle.plus_steps.proofs.Apart.{Values, values_alike, Parts, joint_parts, parts_of}
use Rattle.plus_steps.proofs.Conds.{is_empty, empty_is}
use Rattle.plus_steps.proofs.Marks.{or_true, or_false, and_true, stays_right, clears_gain, clears_fine, clears_write, clears_keep, clears_lose, all_lost}
use Rattle.plus_steps.proofs.OldStep.{still_is}
use Rattle.plus_steps.proofs.Flows.{Drifts, sum_at, Flowing, flows, stops, rates_are, all_flow, flows_fit, values_move, flows_gain, flows_lose}

-- ---- the clock tells the time of a literal
same_passes : (x y : Fraction) → passes Same (compared x y) ≡ true → x ≡ y
same_passes x y h = by (compared x y) refl h
  where
    by : (o : Ordering) → o ≡ compared x y → passes Same o ≡ true → x ≡ y
    by Less e k = cc
    by Equal e k = compared-equal x y (sym e)
    by Greater e k = cc

passes_same : (x y : Fraction) → x ≡ y → passes Same (compared x y) ≡ true
passes_same x y e = ap (passes Same) (equal-compared x y e)

same_truth : (a b : Bool) → (a ≡ true → b ≡ true) → (b ≡ true → a ≡ true) → a ≡ b
same_truth true true f g = refl
same_truth true false f g = sym (f refl)
same_truth false true f g = g refl
same_truth false false f g = refl

module _ (q : Fraction) (positive : whole (pos 0) <ℚ q) where
  pub not_zero : q ≡ whole (pos 0) → ⊥
  not_zero e = <ℚ_irrefl q (subst (λ (x : Fraction). x <ℚ q) (sym e) positive)

  pub suc_is : (n : ℕ) → whole (pos (suc n)) ≡ whole (pos n) +ℚ whole (pos 1)
  suc_is n = let e : suc n ≡ n + 1 = omega arith in ap (λ (i : ℕ). whole (pos i)) e ∙ whole-add (pos n) (pos 1)

  pub less_one : (x : Fraction) → (x +ℚ whole (pos 1)) -ℚ whole (pos 1) ≡ x
  less_one x = ringℚ (x ∷ []) ((var 0 ⊕ num (pos 1)) ⊖ num (pos 1)) (var 0) refl

  more_one : (x : Fraction) → (x -ℚ whole (pos 1)) +ℚ whole (pos 1) ≡ x
  more_one x = ringℚ (x ∷ []) ((var 0 ⊖ num (pos 1)) ⊕ num (pos 1)) (var 0) refl

  pub clock_tells : (n : ℕ) (time : Fraction) → IsOnGrid q time → passes Same (compared (whole (pos n)) (time /ℚ q -ℚ whole (pos 1))) ≡ passes Same (compared time (time_of_step q (suc n)))
  clock_tells n time g =
      let k : Fraction = whole (pos g.steps) in
      let back : time /ℚ q ≡ k = ap (λ (x : Fraction). x /ℚ q) g.at ∙ *ℚ-/ℚ k q not_zero in
      same_truth _ _
      (λ h.
      let e : whole (pos n) ≡ k -ℚ whole (pos 1) = same_passes _ _ h ∙ ap (λ (x : Fraction). x -ℚ whole (pos 1)) back in
      let f : k ≡ whole (pos (suc n)) = sym (more_one k) ∙ ap (λ (x : Fraction). x +ℚ whole (pos 1)) (sym e) ∙ sym (suc_is n) in
      passes_same time (time_of_step q (suc n)) (g.at ∙ ap (λ (x : Fraction). x *ℚ q) f))
      (λ h.
      let e : k *ℚ q ≡ whole (pos (suc n)) *ℚ q = sym g.at ∙ same_passes _ _ h in
      let f : k ≡ whole (pos (suc n)) = *ℚ_cancel q k (whole (pos (suc n))) not_zero (*ℚ_comm q k ∙ e ∙ *ℚ_comm (whole (pos (suc n))) q) in
      passes_same (whole (pos n)) (time /ℚ q -ℚ whole (pos 1))
      (sym (less_one (whole (pos n))) ∙ ap (λ (x : Fraction). x -ℚ whole (pos 1)) (sym (suc_is n) ∙ sym f ∙ sym back)))

  step_above : (n : ℕ) → whole (pos 0) <ℚ time_of_step q (suc n)
  step_above n = subst (λ (x : Fraction). x <ℚ time_of_step q (suc n)) (zero-*ℚ q) (*ℚ-lt (whole (pos 0)) (whole (pos (suc n))) q (lt_by (Is-whole (pos 0)) (Is-whole (pos (suc n))) (above n)) positive)
    where
      above : (n : ℕ) → (pos 0 *ℤ pos 1) <ℤ (pos (suc n) *ℤ pos 1)
      above n = simp products (omega (arith, linear))

  pub is_above : (n : ℕ) → is_below (whole (pos 0)) (time_of_step q (suc n)) ≡ true
  is_above n = ap (passes Below) (less-compared (whole (pos 0)) (time_of_step q (suc n)) (step_above n))

  -- a literal that is not later than time 0 is at time 0, and no step ends there
  step_later : (n : ℕ) → time_of_step q (suc n) ≡ whole (pos 0) → ⊥
  step_later n e = <ℚ_irrefl (whole (pos 0)) (subst (λ (x : Fraction). whole (pos 0) <ℚ x) e (step_above n))

  at_zero : (time : Fraction) → IsOnGrid q time → is_below (whole (pos 0)) time ≡ false → time ≡ whole (pos 0)
  at_zero time g h = by g.steps g.at
    where
      by : (k : ℕ) → time ≡ time_of_step q k → time ≡ whole (pos 0)
      by zero e = e ∙ zero-*ℚ q
      by (suc k) e = absurd (let b : is_below (whole (pos 0)) time ≡ true = ap (is_below (whole (pos 0))) e ∙ is_above k in cc)

  not_due : (n : ℕ) (time : Fraction) → IsOnGrid q time → is_below (whole (pos 0)) time ≡ false → passes Same (compared time (time_of_step q (suc n))) ≡ false
  not_due n time g h = by (passes Same (compared time (time_of_step q (suc n)))) refl
    where
      by : (b : Bool) → b ≡ passes Same (compared time (time_of_step q (suc n))) → passes Same (compared time (time_of_step q (suc n))) ≡ false
      by false e = sym e
      by true e = absurd (step_later n (sym (same_passes _ _ (sym e)) ∙ at_zero time g h))

-- ---- the literals of a step, by the clock
module _ (q : Fraction) (positive : whole (pos 0) <ℚ q) (m n : ℕ) (t : State) (clock_is : fluent_of t m ≡ Some (whole (pos n))) where
  due : Timed → Bool
  due l = passes Same (compared l.time (time_of_step q (suc n)))

  guard : Timed → Condition
  guard l = Compare Same (Fluent m) (Number (l.time /ℚ q -ℚ whole (pos 1))) true

  guard_is : (l : Timed) → IsOnGrid q l.time → holds (guard l) t ≡ due l
  unfolding guard due
  guard_is l g = ap (λ o. stand Same o (Some (l.time /ℚ q -ℚ whole (pos 1)))) clock_is ∙ clock_tells q positive n l.time g

  write_is : (l : Timed) → change_of (literal_write l) t ≡ Ok (if l.positive then Gains l.atom else Loses l.atom)
  write_is l = by l.positive
    where
      by : (b : Bool) → change_of (if b then Add l.atom else Delete l.atom) t ≡ Ok (if b then Gains l.atom else Loses l.atom)
      by true = refl
      by false = refl

  gains_more : (b : Bool) (a : ℕ) (l : Timed) (cs : List Change) → gains a (if b then (if l.positive then Gains l.atom else Loses l.atom) ∷ cs else cs) ≡ when b (change_gains a (Ok (if l.positive then Gains l.atom else Loses l.atom))) false || gains a cs
  gains_more false a l cs = refl
  gains_more true a l cs = by l.positive
    where
      by : (b : Bool) → gains a ((if b then Gains l.atom else Loses l.atom) ∷ cs) ≡ change_gains a (Ok (if b then Gains l.atom else Loses l.atom)) || gains a cs
      by true = refl
      by false = refl

  loses_more : (b : Bool) (a : ℕ) (l : Timed) (cs : List Change) → loses a (if b then (if l.positive then Gains l.atom else Loses l.atom) ∷ cs else cs) ≡ when b (change_loses a (Ok (if l.positive then Gains l.atom else Loses l.atom))) false || loses a cs
  loses_more false a l cs = refl
  loses_more true a l cs = by l.positive
    where
      by : (b : Bool) → loses a ((if b then Gains l.atom else Loses l.atom) ∷ cs) ≡ change_loses a (Ok (if b then Gains l.atom else Loses l.atom)) || loses a cs
      by true = refl
      by false = refl

  abbrev changes : List Timed → List Change
  changes ls = literal_changes (time_of_step q (suc n)) ls

  pub literals_gain : (a : ℕ) (ls : List Timed) → All (λ (l : Timed). IsOnGrid q l.time) ls → gained a (literals_at_steps q m ls) t ≡ gains a (literal_changes (time_of_step q (suc n)) ls)
  unfolding gained guard due
  literals_gain a [] h = refl
  literals_gain a (l ∷ ls) h =
      let g = All-head (λ (l : Timed). IsOnGrid q l.time) l ls h in
      by (is_later l) refl g (guard_is l g) (write_is l) (literals_gain a ls (All-tail (λ (l : Timed). IsOnGrid q l.time) l ls h))
    where
      by : (b : Bool) → b ≡ is_later l → IsOnGrid q l.time → holds (guard l) t ≡ due l → change_of (literal_write l) t ≡ Ok (if l.positive then Gains l.atom else Loses l.atom)
          → gained a (literals_at_steps q m ls) t ≡ gains a (changes ls)
          → gained a (if b then whenever (guard l) (literal_write l) ∷ literals_at_steps q m ls else literals_at_steps q m ls) t ≡ gains a (if due l then (if l.positive then Gains l.atom else Loses l.atom) ∷ changes ls else changes ls)
      by true e g k w rest = ap₂ (λ x y. x || y) (ap₂ (λ (c : Bool) r. when c (change_gains a r) false) k w) rest ∙ sym (gains_more (due l) a l (changes ls))
      by false e g k w rest = rest ∙ ap (λ (c : Bool). gains a (if c then (if l.positive then Gains l.atom else Loses l.atom) ∷ changes ls else changes ls)) (sym (not_due q positive n l.time g (sym e)))

  pub literals_lose : (a : ℕ) (ls : List Timed) → All (λ (l : Timed). IsOnGrid q l.time) ls → lost a (literals_at_steps q m ls) t ≡ loses a (literal_changes (time_of_step q (suc n)) ls)
  unfolding lost guard due
  literals_lose a [] h = refl
  literals_lose a (l ∷ ls) h =
      let g = All-head (λ (l : Timed). IsOnGrid q l.time) l ls h in
      by (is_later l) refl g (guard_is l g) (write_is l) (literals_lose a ls (All-tail (λ (l : Timed). IsOnGrid q l.time) l ls h))
    where
      by : (b : Bool) → b ≡ is_later l → IsOnGrid q l.time → holds (guard l) t ≡ due l → change_of (literal_write l) t ≡ Ok (if l.positive then Gains l.atom else Loses l.atom)
          → lost a (literals_at_steps q m ls) t ≡ loses a (changes ls)
          → lost a (if b then whenever (guard l) (literal_write l) ∷ literals_at_steps q m ls else literals_at_steps q m ls) t ≡ loses a (if due l then (if l.positive then Gains l.atom else Loses l.atom) ∷ changes ls else changes ls)
      by true e g k w rest = ap₂ (λ x y. x || y) (ap₂ (λ (c : Bool) r. when c (change_loses a r) false) k w) rest ∙ sym (loses_more (due l) a l (changes ls))
      by false e g k w rest = rest ∙ ap (λ (c : Bool). loses a (if c then (if l.positive then Gains l.atom else Loses l.atom) ∷ changes ls else changes ls)) (sym (not_due q positive n l.time g (sym e)))

-- what literals write, whatever holds
when_same : {A : Type 0} (b : Bool) (d : A) → when b d d ≡ d
when_same true d = refl
when_same false d = refl

module _ (q : Fraction) (m : ℕ) (t : State) where
  pub literals_fine : (ls : List Timed) → fine (literals_at_steps q m ls) t ≡ true
  unfolding fine
  literals_fine [] = refl
  literals_fine (l ∷ ls) = by (is_later l) l.positive (literals_fine ls)
    where
      by : (b p : Bool) → fine (literals_at_steps q m ls) t ≡ true → fine (if b then whenever (Compare Same (Fluent m) (Number (l.time /ℚ q -ℚ whole (pos 1))) true) (if p then Add l.atom else Delete l.atom) ∷ literals_at_steps q m ls else literals_at_steps q m ls) t ≡ true
      by false p r = r
      by true true r = ap₂ (λ x y. x && y) (when_same (holds (Compare Same (Fluent m) (Number (l.time /ℚ q -ℚ whole (pos 1))) true) t) true) r
      by true false r = ap₂ (λ x y. x && y) (when_same (holds (Compare Same (Fluent m) (Number (l.time /ℚ q -ℚ whole (pos 1))) true) t) true) r

  pub literals_write : (f : ℕ) (ls : List Timed) → wrote f (literals_at_steps q m ls) t ≡ Stays
  unfolding wrote
  literals_write f [] = refl
  literals_write f (l ∷ ls) = by (is_later l) l.positive (literals_write f ls)
    where
      by : (b p : Bool) → wrote f (literals_at_steps q m ls) t ≡ Stays → wrote f (if b then whenever (Compare Same (Fluent m) (Number (l.time /ℚ q -ℚ whole (pos 1))) true) (if p then Add l.atom else Delete l.atom) ∷ literals_at_steps q m ls else literals_at_steps q m ls) t ≡ Stays
      by false p r = r
      by true true r = ap₂ both_written (when_same (holds (Compare Same (Fluent m) (Number (l.time /ℚ q -ℚ whole (pos 1))) true) t) Stays) r
      by true false r = ap₂ both_written (when_same (holds (Compare Same (Fluent m) (Number (l.time /ℚ q -ℚ whole (pos 1))) true) t) Stays) r

  pub literals_outside : (n a : ℕ) → n ≤ a → (ls : List Timed) → All (λ (l : Timed). l.atom < n) ls → gained a (literals_at_steps q m ls) t ≡ false
  unfolding gained
  literals_outside n a k [] h = refl
  literals_outside n a k (l ∷ ls) h = by (is_later l) l.positive (All-head (λ (l : Timed). l.atom < n) l ls h) (literals_outside n a k ls (All-tail (λ (l : Timed). l.atom < n) l ls h))
    where
      by : (b p : Bool) → l.atom < n → gained a (literals_at_steps q m ls) t ≡ false → gained a (if b then whenever (Compare Same (Fluent m) (Number (l.time /ℚ q -ℚ whole (pos 1))) true) (if p then Add l.atom else Delete l.atom) ∷ literals_at_steps q m ls else literals_at_steps q m ls) t ≡ false
      by false p i r = r
      by true true i r = ap₂ (λ x y. x || y) (ap (λ x. when (holds (Compare Same (Fluent m) (Number (l.time /ℚ q -ℚ whole (pos 1))) true) t) x false) (other a l.atom n i k) ∙ when_same (holds (Compare Same (Fluent m) (Number (l.time /ℚ q -ℚ whole (pos 1))) true) t) false) r
      by true false i r = ap₂ (λ x y. x || y) (when_same (holds (Compare Same (Fluent m) (Number (l.time /ℚ q -ℚ whole (pos 1))) true) t) false) r

-- where no literal is later than time 0, none comes at the end of a step
none_due : (q : Fraction) → whole (pos 0) <ℚ q → (n : ℕ) (ls : List Timed) → All (λ (l : Timed). IsOnGrid q l.time) ls → list_any is_later ls ≡ false → literal_changes (time_of_step q (suc n)) ls ≡ []
none_due q positive n [] h g = refl
none_due q positive n (l ∷ ls) h g =
    let e = neither (is_later l) (list_any is_later ls) g in
    ap (λ (c : Bool). if c then (if l.positive then Gains l.atom else Loses l.atom) ∷ literal_changes (time_of_step q (suc n)) ls else literal_changes (time_of_step q (suc n)) ls)
    (not_due q positive n l.time (All-head (λ (l : Timed). IsOnGrid q l.time) l ls h) e.0)
    ∙ none_due q positive n ls (All-tail (λ (l : Timed). IsOnGrid q l.time) l ls h) e.1
  where
    neither : (x y : Bool) → x || y ≡ false → (x ≡ false) × (y ≡ false)
    neither true y e = cc
    neither false y e = (refl, e)

zeros_at : (n f : ℕ) → sum_at (replicate n (whole (pos 0))) f ≡ whole (pos 0)
zeros_at zero f = refl
zeros_at (suc n) zero = refl
zeros_at (suc n) (suc f) = zeros_at n f

zeros_many : (n : ℕ) → length (replicate n (whole (pos 0))) ≡ n
zeros_many zero = refl
zeros_many (suc n) = ap suc (zeros_many n)

-- ---- the step
module _ {C : Type 0} (P : Problem) (q : Fraction) (meant : C → Called) (c : CanBeStepped P q meant) (fired : List ℕ) (n : ℕ) (s : State) (z : StateFits P.atoms P.fluents s) where
  abbrev t : State
  t = pad P fired n s

  abbrev flow : List Effect
  flow = flat_map (flows_of q) P.processes

  abbrev tail : List Effect
  tail = clock_effects P q ++ clears_from P.atoms P.events

  abbrev es : List Effect
  es = flow ++ tail

  abbrev changes_now : List Change
  changes_now = literal_changes (time_of_step q (suc n)) P.timed

  fit : AllEffectsFit P.atoms P.fluents flow
  fit = flows_fit P.atoms P.fluents q P.processes c.processes

  -- where there is a clock, it shows n
  clock_shows : true ≡ has_clock P → fluent_of t P.fluents ≡ Some (whole (pos n))
  clock_shows e =
      let m0 : length s.fluents + 0 ≡ P.fluents = let f = z.fluents_fit in omega arith in
      ap (λ o. unwrap_or o None) (ap (λ (i : ℕ). slice_get t.fluents i) (sym m0) ∙ get_right s.fluents (clock_value (has_clock P) n) 0 ∙ ap (λ (b : Bool). slice_get (clock_value b n) 0) (sym e))

  -- ---- the clock and the literals
  tick_change : true ≡ has_clock P → change_of (Increase P.fluents (Number (whole (pos 1)))) t ≡ Ok (Moves P.fluents (whole (pos 1)))
  tick_change e = ap (λ o. given P.fluents (Some (whole (pos 1))) (λ x. given P.fluents o (λ v. Ok (Moves P.fluents x)))) (clock_shows e)

  clock_fine : fine (clock_effects P q) t ≡ true
  unfolding fine
  clock_fine = by (has_clock P) refl
    where
      by : (b : Bool) → b ≡ has_clock P → fine (if b then whenever Always (Increase P.fluents (Number (whole (pos 1)))) ∷ literals_at_steps q P.fluents P.timed else []) t ≡ true
      by false e = refl
      by true e = ap₂ (λ x y. change_fine x && y) (tick_change e) (literals_fine q P.fluents t P.timed)

  clock_gains : (a : ℕ) → gained a (clock_effects P q) t ≡ gains a changes_now
  unfolding gained
  clock_gains a = by (has_clock P) refl
    where
      by : (b : Bool) → b ≡ has_clock P → gained a (if b then whenever Always (Increase P.fluents (Number (whole (pos 1)))) ∷ literals_at_steps q P.fluents P.timed else []) t ≡ gains a changes_now
      by false e = ap (gains a) (sym (none_due q c.passes n P.timed c.grid (sym e)))
      by true e = ap₂ (λ x y. change_gains a x || y) (tick_change e) (literals_gain q c.passes P.fluents n t (clock_shows e) a P.timed c.grid)

  clock_loses : (a : ℕ) → lost a (clock_effects P q) t ≡ loses a changes_now
  unfolding lost
  clock_loses a = by (has_clock P) refl
    where
      by : (b : Bool) → b ≡ has_clock P → lost a (if b then whenever Always (Increase P.fluents (Number (whole (pos 1)))) ∷ literals_at_steps q P.fluents P.timed else []) t ≡ loses a changes_now
      by false e = ap (loses a) (sym (none_due q c.passes n P.timed c.grid (sym e)))
      by true e = ap₂ (λ x y. change_loses a x || y) (tick_change e) (literals_lose q c.passes P.fluents n t (clock_shows e) a P.timed c.grid)

  clock_writes : (f : ℕ) → f < P.fluents → wrote f (clock_effects P q) t ≡ Stays
  unfolding wrote
  clock_writes f h = by (has_clock P) refl
    where
      by : (b : Bool) → b ≡ has_clock P → wrote f (if b then whenever Always (Increase P.fluents (Number (whole (pos 1)))) ∷ literals_at_steps q P.fluents P.timed else []) t ≡ Stays
      by false e = refl
      by true e = ap₂ both_written (ap (change_written f) (tick_change e) ∙ ap (λ (b : Bool). if b then Moving (whole (pos 1)) else Stays) (below f P.fluents h)) (literals_write q P.fluents t f P.timed)
        where
          below : (f m : ℕ) → f < m → nat_eq f m ≡ false
          below f m h = grind (arith, nat_tests)

  clock_outside : (a : ℕ) → P.atoms ≤ a → gained a (clock_effects P q) t ≡ false
  unfolding gained
  clock_outside a h = by (has_clock P) refl
    where
      by : (b : Bool) → b ≡ has_clock P → gained a (if b then whenever Always (Increase P.fluents (Number (whole (pos 1)))) ∷ literals_at_steps q P.fluents P.timed else []) t ≡ false
      by false e = refl
      by true e = ap₂ (λ x y. change_gains a x || y) (tick_change e) (literals_outside q P.fluents t P.atoms a h P.timed c.timed)

  -- ---- the parts of the state after
  fine_all : fine es t ≡ fine flow s
  fine_all =
      fine-append t flow tail
      ∙ ap₂ (λ x y. x && y) (fine_same P.atoms P.fluents s _ _ z flow fit) (fine-append t (clock_effects P q) (clears_from P.atoms P.events) ∙ ap₂ (λ x y. x && y) clock_fine (clears_fine t P.atoms P.events))
      ∙ and_true (fine flow s)

  gained_all : (a : ℕ) → a < P.atoms → gained a es t ≡ gains a changes_now
  gained_all a h =
      gained-append t a flow tail
      ∙ ap₂ (λ x y. x || y) (flows_gain q t a P.processes) (gained-append t a (clock_effects P q) (clears_from P.atoms P.events) ∙ ap₂ (λ x y. x || y) (clock_gains a) (clears_gain t a P.atoms P.events) ∙ or_false (gains a changes_now))

  lost_all : (a : ℕ) → a < P.atoms → lost a es t ≡ loses a changes_now
  lost_all a h =
      lost-append t a flow tail
      ∙ ap₂ (λ x y. x || y) (flows_lose q t a P.processes) (lost-append t a (clock_effects P q) (clears_from P.atoms P.events) ∙ ap₂ (λ x y. x || y) (clock_loses a) (clears_keep t a P.atoms h P.events) ∙ or_false (loses a changes_now))

  wrote_all : (f : ℕ) → f < P.fluents → wrote f es t ≡ wrote f flow s
  wrote_all f h =
      wrote-append t f flow tail
      ∙ ap₂ both_written (wrote_same P.atoms P.fluents s _ _ z f flow fit) (wrote-append t f (clock_effects P q) (clears_from P.atoms P.events) ∙ ap₂ both_written (clock_writes f h) (clears_write t f P.atoms P.events))
      ∙ stays_right (wrote f flow s)

  atoms_from : (k : ℕ) (bs : List Bool) → k + length bs ≤ P.atoms → atoms_by k es t bs ≡ new_atoms k changes_now bs
  atoms_from k [] h = refl
  atoms_from k (b ∷ bs) h = ap₂ (λ x y. x ∷ y) (ap₂ (λ x y. x || (b && not y)) (gained_all k (omega arith)) (lost_all k (omega arith))) (atoms_from (suc k) bs (omega arith))

  atoms_all : atoms_by 0 es t s.atoms ≡ new_atoms 0 changes_now s.atoms
  atoms_all = atoms_from 0 s.atoms (let e = z.atoms_fit in omega arith)

  values_all : values_by 0 es t s.fluents ≡ values_by 0 flow s s.fluents
  values_all = values_alike 0 P.fluents es t flow s (record { fine_is = fine_all; gained_is = λ a h. absurd (omega arith); lost_is = λ a h. absurd (omega arith); wrote_is = wrote_all }) 0 s.fluents (let e = z.fluents_fit in omega arith)

  marks : atoms_by P.atoms es t (marks_from fired 0 P.events) ≡ marks_from [] 0 P.events
  marks = all_lost fired es t P.atoms 0 P.events (λ j l. (
    gained-append t (P.atoms + j) flow tail ∙ ap₂ (λ x y. x || y) (flows_gain q t (P.atoms + j) P.processes)
        (gained-append t (P.atoms + j) (clock_effects P q) (clears_from P.atoms P.events) ∙ ap₂ (λ x y. x || y) (clock_outside (P.atoms + j) (omega arith)) (clears_gain t (P.atoms + j) P.atoms P.events)),
    lost-append t (P.atoms + j) flow tail ∙ ap (λ y. lost (P.atoms + j) flow t || y)
        (lost-append t (P.atoms + j) (clock_effects P q) (clears_from P.atoms P.events) ∙ ap (λ y. lost (P.atoms + j) (clock_effects P q) t || y) (clears_lose t P.atoms j P.events l) ∙ or_true (lost (P.atoms + j) (clock_effects P q) t))
        ∙ or_true (lost (P.atoms + j) flow t),
  ))

  clock_wrote : true ≡ has_clock P → wrote P.fluents es t ≡ Moving (whole (pos 1))
  unfolding wrote
  clock_wrote e =
      wrote-append t P.fluents flow tail
      ∙ ap₂ both_written (none_wrote P.atoms P.fluents t P.fluents (omega arith) flow fit)
      (wrote-append t P.fluents (clock_effects P q) (clears_from P.atoms P.events) ∙ ap₂ both_written (here e) (clears_write t P.fluents P.atoms P.events))
    where
      same : (m : ℕ) → nat_eq m m ≡ true
      same m = grind (arith, nat_tests)

      here : true ≡ has_clock P → wrote P.fluents (clock_effects P q) t ≡ Moving (whole (pos 1))
      here e = ap (λ (b : Bool). wrote P.fluents (if b then whenever Always (Increase P.fluents (Number (whole (pos 1)))) ∷ literals_at_steps q P.fluents P.timed else []) t) (sym e)
          ∙ ap₂ both_written (ap (change_written P.fluents) (tick_change e) ∙ ap (λ (b : Bool). if b then Moving (whole (pos 1)) else Stays) (same P.fluents)) (literals_write q P.fluents t P.fluents P.timed)

  clock : values_by P.fluents es t (clock_value (has_clock P) n) ≡ Ok (clock_value (has_clock P) (suc n))
  clock = by (has_clock P) refl
    where
      by : (b : Bool) → b ≡ has_clock P → values_by P.fluents es t (clock_value b n) ≡ Ok (clock_value b (suc n))
      by false e = refl
      by true e = ap (λ w. value_before (new_value P.fluents w (Some (whole (pos n)))) (Ok [])) (clock_wrote e) ∙ ap (λ (x : Fraction). Ok (Some x ∷ [])) (sym (suc_is q c.passes n))

  -- ---- what the flows come to
  moved_by : (rate : List Fraction) → length rate ≡ length (replicate (length s.fluents) (whole (pos 0))) → ((f : ℕ) → f < length (replicate (length s.fluents) (whole (pos 0))) → Drifts q (wrote f flow s) (sum_at (replicate (length s.fluents) (whole (pos 0))) f) (sum_at rate f)) → values_by 0 flow s s.fluents ≡ Ok (moved_values s.fluents rate q)
  moved_by rate l d = values_move q flow s 0 s.fluents rate (l ∙ zeros_many (length s.fluents)) (λ j h.
      let j0 : j ≡ 0 + j = omega arith in
      subst (λ (i : ℕ). Drifts q (wrote i flow s) (whole (pos 0)) (sum_at rate j)) j0
      (subst (λ (x : Fraction). Drifts q (wrote j flow s) x (sum_at rate j)) (zeros_at (length s.fluents) j) (d j (subst (λ (k : ℕ). j < k) (sym (zeros_many (length s.fluents))) h))))

  flowing : Flowing q flow s (replicate (length s.fluents) (whole (pos 0))) (rates P s (holding P s))
  flowing = subst (λ r. Flowing q flow s (replicate (length s.fluents) (whole (pos 0))) r) (sym (rates_are P s)) (all_flow q s P.processes (replicate (length s.fluents) (whole (pos 0))))

  step_from : (t' : State) → Parts es t P.atoms P.fluents s _ _ _ _ z marks clock refl t' → holds (none_hold P.events) t ≡ true → Flowing q flow s (replicate (length s.fluents) (whole (pos 0))) (rates P s (holding P s)) → StepDoes P q n s t'
  unfolding literals moved
  step_from t' p may (stops g e f) = absurd (let x = sym fine_all ∙ p.fine_is in cc)
  step_from t' p may (flows rate e f l d) =
      record {
        after = literals P (time_of_step q (suc n)) (moved s rate q);
        still = empty_is (firing P s) (sym (still_is P q meant c fired n s z) ∙ may);
        passes = record { rate = rate; rate_is = e; after_is = refl };
        is = p.is ∙ ap₂ (λ (x : List Bool) (y : Values). record { atoms = x ++ marks_from [] 0 P.events; fluents = y ++ clock_value (has_clock P) (suc n) })
            atoms_all (same_ok p.values (moved_values s.fluents rate q) (sym p.values_is ∙ values_all ∙ moved_by rate l d));
      }
    where
      values_or : Result Values Fault → Values
      values_or (Ok v) = v
      values_or (Err e) = []

      same_ok : (x y : Values) → (let r : Result Values Fault = Ok x in r) ≡ Ok y → x ≡ y
      same_ok x y h = ap values_or h

  pub step_does : (t' : State) → Does (step_action P q) t t' → StepDoes P q n s t'
  step_does t' d = step_from t' (parts_of es t P.atoms P.fluents s _ _ _ _ z marks clock refl t' d.effect) d.may flowing

  step_to : (t' : State) → StepDoes P q n s t' → Flowing q flow s (replicate (length s.fluents) (whole (pos 0))) (rates P s (holding P s)) → joint es t ≡ Ok t'
  unfolding literals moved
  step_to t' d (stops g e f) = absurd (let x = d.passes.rate_is in no_rates g d.passes.rate (sym e ∙ x))
    where
      no_rates : (g : ℕ) (rs : List Fraction) → Err g ≡ (let r : Result (List Fraction) ℕ = Ok rs in r) → ⊥
      no_rates g rs h = cc
  step_to t' d (flows rate e f l m) =
      let same : rate ≡ d.passes.rate = same_rates rate d.passes.rate (sym e ∙ d.passes.rate_is) in
      joint_parts es t P.atoms P.fluents s _ _ _ _ z marks clock refl (moved_values s.fluents rate q) (fine_all ∙ f) (values_all ∙ moved_by rate l m)
      ∙ ap₂ (λ (x : List Bool) (y : Values). Ok (record { atoms = x ++ marks_from [] 0 P.events; fluents = y ++ clock_value (has_clock P) (suc n) })) atoms_all (ap (λ rs. moved_values s.fluents rs q) same)
      ∙ ap (λ (u : State). Ok (pad P [] (suc n) u)) (sym d.passes.after_is) ∙ ap Ok (sym d.is)
    where
      rates_or : Result (List Fraction) ℕ → List Fraction
      rates_or (Ok v) = v
      rates_or (Err e) = []

      same_rates : (x y : List Fraction) → (let r : Result (List Fraction) ℕ = Ok x in r) ≡ Ok y → x ≡ y
      same_rates x y h = ap rates_or h

  pub does_step : (t' : State) → StepDoes P q n s t' → Does (step_action P q) t t'
  does_step t' d = record {
    may = still_is P q meant c fired n s z ∙ ap is_empty d.still;
    effect = step_to t' d flowing;
  }
