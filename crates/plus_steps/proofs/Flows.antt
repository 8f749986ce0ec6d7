-- The rates of the processes that hold, and what their flows in a step write.
use Rattle.std.proofs.Common.{◌≡◌, ℕ, zero, suc, ◌<◌, ◌+◌, Bool, true, false, ◌&&◌, ◌||◌, List, [], ◌∷◌, ◌++◌, length, map, get_or, replicate, refl, ap, ap₂, sym, subst, ◌∙◌, arith, append_assoc, length-append, pos}
use Rattle.std.proofs.lemmas.Bool.Decides.{nat_tests}
use Rattle.std.proofs.lemmas.List.Elements.{All-head, All-tail}
use Rattle.std.specs.Prelude.{Option, Some, None, Result, Ok, Err, option_map, nat_eq, slice_get, if◌then◌else◌}
use Rattle.std.specs.List.{All, flat_map}
use Rattle.plus_fraction.specs.Fraction.{Fraction, whole, ◌+ℚ◌, ◌*ℚ◌, neg_ℚ}
use Rattle.plus_fraction.proofs.FractionLaws.{+ℚ_assoc, *ℚ_comm, *ℚ-+ℚ}
use Rattle.plus_fraction.proofs.Ring.{var, minus, ◌⊗◌}
use Rattle.plus_fraction.proofs.FractionRing.{ringℚ, +ℚ-zero, *ℚ-zero, zero-*ℚ, zero-+ℚ}
use Rattle.plus_model.specs.Terms.{Number, Product, Condition, Write, Increase, Decrease, Effect, Rate, Process, State, Problem}
use Rattle.plus_model.specs.Value.{holds, value, fluent_of, on_both}
use Rattle.plus_model.specs.Joint.{Fault, NoValue, Written, Stays, Clash, Becoming, Moving, given, Change, change_of, Moves, new_value, value_before}
use Rattle.plus_model.specs.Firing.{numbers_of}
use Rattle.plus_model.specs.Running.{add_at, rated, then_rates, add_rates, rates_at, sum_rates, rates, moved_values, holding}
use Rattle.plus_state.specs.Fits.{Fits, RateFits, AllEffectsFit}
use Rattle.plus_steps.specs.Laws.{ProcessInside}
use Rattle.plus_steps.specs.Translation.{whenever, flow_write, flows_of}
use Rattle.plus_steps.proofs.Tally.{when, change_gains, change_loses, change_written, change_fine, both_written, gained, lost, wrote, fine, values_by, gained-append, lost-append, wrote-append, fine-append}
use Rattle.plus_steps.proofs.Marks.{and_false}

-- ---- the rates of the processes that hold, one process after the other
abbrev pub run_rates : List Process → State → List Fraction → Result (List Fraction) ℕ
run_rates [] s sums = Ok sums
run_rates (p ∷ ps) s sums = if holds p.condition s then then_rates (add_rates p.rates s sums) (run_rates ps s) else run_rates ps s sums

at_place : (pre : List Process) (p : Process) (ps : List Process) → slice_get (pre ++ p ∷ ps) (length pre) ≡ Some p
at_place [] p ps = refl
at_place (x ∷ pre) p ps = at_place pre p ps

sum_from : (P : Problem) (s : State) (k : ℕ) (pre ps : List Process) → P.processes ≡ pre ++ ps → k ≡ length pre → (sums : List Fraction) → sum_rates P (numbers_of (λ (p : Process). holds p.condition s) k ps) s sums ≡ run_rates ps s sums
sum_from P s k pre [] h g sums = refl
sum_from P s k pre (p ∷ ps) h g sums =
    let rest = sum_from P s (suc k) (pre ++ p ∷ []) ps (h ∙ sym (append_assoc pre (p ∷ []) ps)) (omega (arith, g, length-append pre (p ∷ []))) in
    let here : rates_at (slice_get P.processes k) ≡ p.rates = ap₂ (λ xs (i : ℕ). rates_at (slice_get xs i)) h g ∙ ap rates_at (at_place pre p ps) in
    by (holds p.condition s) rest here
  where
    by : (b : Bool) → ((x : List Fraction) → sum_rates P (numbers_of (λ (p : Process). holds p.condition s) (suc k) ps) s x ≡ run_rates ps s x) → rates_at (slice_get P.processes k) ≡ p.rates
        → sum_rates P (if b then k ∷ numbers_of (λ (p : Process). holds p.condition s) (suc k) ps else numbers_of (λ (p : Process). holds p.condition s) (suc k) ps) s sums ≡ (if b then then_rates (add_rates p.rates s sums) (run_rates ps s) else run_rates ps s sums)
    by true rest here = λ i. then_rates (add_rates (here i) s sums) (λ x. rest x i)
    by false rest here = rest sums

pub rates_are : (P : Problem) (s : State) → rates P s (holding P s) ≡ run_rates P.processes s (replicate (length s.fluents) (whole (pos 0)))
unfolding rates
rates_are P s = sum_from P s 0 [] P.processes refl refl (replicate (length s.fluents) (whole (pos 0)))

-- ---- a sum goes from x to y as this is written, for a step of q
abbrev pub Drifts : Fraction → Written → Fraction → Fraction → Type 0
Drifts q Stays x y = y ≡ x
Drifts q (Moving w) x y = q *ℚ y ≡ q *ℚ x +ℚ w
Drifts q (Becoming w) x y = ⊥
Drifts q Clash x y = ⊥

drifts_then : (q : Fraction) (v w : Written) (x y z : Fraction) → Drifts q v x y → Drifts q w y z → Drifts q (both_written v w) x z
drifts_then q Stays Stays x y z h k = k ∙ h
drifts_then q Stays (Moving w) x y z h k = k ∙ ap (λ u. q *ℚ u +ℚ w) h
drifts_then q Stays (Becoming w) x y z h k = absurd k
drifts_then q Stays Clash x y z h k = absurd k
drifts_then q (Moving v) Stays x y z h k = ap (λ u. q *ℚ u) k ∙ h
drifts_then q (Moving v) (Moving w) x y z h k = k ∙ ap (λ u. u +ℚ w) h ∙ +ℚ_assoc (q *ℚ x) v w
drifts_then q (Moving v) (Becoming w) x y z h k = absurd k
drifts_then q (Moving v) Clash x y z h k = absurd k
drifts_then q (Becoming v) w x y z h k = absurd h
drifts_then q Clash w x y z h k = absurd h

abbrev pub sum_at : List Fraction → ℕ → Fraction
sum_at sums f = get_or sums f (whole (pos 0))

pub data Flowing (q : Fraction) (es : List Effect) (s : State) (sums : List Fraction) (r : Result (List Fraction) ℕ) : Type 0 where
  flows : (after : List Fraction) → r ≡ Ok after → fine es s ≡ true → length after ≡ length sums → ((f : ℕ) → f < length sums → Drifts q (wrote f es s) (sum_at sums f) (sum_at after f)) → Flowing q es s sums r
  stops : (g : ℕ) → r ≡ Err g → fine es s ≡ false → Flowing q es s sums r

module _ (q : Fraction) (s : State) where
  no_flow : (sums : List Fraction) → Flowing q [] s sums (Ok sums)
  unfolding fine wrote
  no_flow sums = flows sums refl refl refl (λ f l. refl)

  flowing_then : (es fs : List Effect) (sums : List Fraction) (r : Result (List Fraction) ℕ) (more : List Fraction → Result (List Fraction) ℕ) → Flowing q es s sums r → ((after : List Fraction) → Flowing q fs s after (more after)) → Flowing q (es ++ fs) s sums (then_rates r more)
  flowing_then es fs sums r more (stops g h k) rest = stops g (ap (λ x. then_rates x more) h) (fine-append s es fs ∙ ap (λ x. x && fine fs s) k)
  flowing_then es fs sums r more (flows after h k l d) rest = by (rest after)
    where
      by : Flowing q fs s after (more after) → Flowing q (es ++ fs) s sums (then_rates r more)
      by (stops g e f) = stops g (ap (λ x. then_rates x more) h ∙ e) (fine-append s es fs ∙ ap (λ x. fine es s && x) f ∙ and_false (fine es s))
      by (flows last e f i j) = flows last (ap (λ x. then_rates x more) h ∙ e) (fine-append s es fs ∙ ap₂ (λ x y. x && y) k f) (i ∙ l)
          (λ a b. subst (λ w. Drifts q w (sum_at sums a) (sum_at last a)) (sym (wrote-append s a es fs))
          (drifts_then q (wrote a es s) (wrote a fs s) (sum_at sums a) (sum_at after a) (sum_at last a) (d a b) (j a (subst (λ (n : ℕ). a < n) (sym l) b))))

  length-add_at : (k : ℕ) (x : Fraction) (ys : List Fraction) → length (add_at k x ys) ≡ length ys
  length-add_at k x [] = refl
  length-add_at zero x (y ∷ ys) = refl
  length-add_at (suc k) x (y ∷ ys) = ap suc (length-add_at k x ys)

  get-add_at : (k : ℕ) (x : Fraction) (ys : List Fraction) (f : ℕ) → f < length ys → sum_at (add_at k x ys) f ≡ (if nat_eq f k then sum_at ys f +ℚ x else sum_at ys f)
  get-add_at k x [] f h = absurd (omega arith)
  get-add_at zero x (y ∷ ys) zero h = refl
  get-add_at zero x (y ∷ ys) (suc f) h = ap (λ (b : Bool). if b then sum_at ys f +ℚ x else sum_at ys f) (sym (apart f))
    where
      apart : (f : ℕ) → nat_eq (suc f) 0 ≡ false
      apart f = grind (arith, nat_tests)
  get-add_at (suc k) x (y ∷ ys) zero h = ap (λ (b : Bool). if b then y +ℚ x else y) (sym (apart k))
    where
      apart : (k : ℕ) → nat_eq 0 (suc k) ≡ false
      apart k = grind (arith, nat_tests)
  get-add_at (suc k) x (y ∷ ys) (suc f) h = get-add_at k x ys f (omega arith) ∙ ap (λ (b : Bool). if b then sum_at ys f +ℚ x else sum_at ys f) (sym (both f k))
    where
      both : (f k : ℕ) → nat_eq (suc f) (suc k) ≡ nat_eq f k
      both f k = grind (arith, nat_tests)

  drifts_here : (b : Bool) (x w : Fraction) → Drifts q (if b then Moving (q *ℚ w) else Stays) x (if b then x +ℚ w else x)
  drifts_here true x w = *ℚ-+ℚ q x w
  drifts_here false x w = refl

  neg_out : (w : Fraction) → q *ℚ neg_ℚ w ≡ neg_ℚ (q *ℚ w)
  neg_out w = ringℚ (q ∷ w ∷ []) (var 0 ⊗ minus (var 1)) (minus (var 0 ⊗ var 1)) refl

  -- one rate
  one_flow : (c : Condition) → true ≡ holds c s → (r : Rate) (sums : List Fraction) → Flowing q (whenever c (flow_write q r) ∷ []) s sums (rated r.fluent r.up (value r.amount s) (fluent_of s r.fluent) sums)
  unfolding fine wrote
  one_flow c h r sums = by r.up (value r.amount s) refl (fluent_of s r.fluent) refl
    where
      write : Bool → Write
      write up = if up then Increase r.fluent (Product (Number q) r.amount) else Decrease r.fluent (Product (Number q) r.amount)

      change : Bool → Option Fraction → Option Fraction → Result Change Fault
      change true o p = given r.fluent (on_both (λ x y. Some (x *ℚ y)) (Some q) o) (λ x. given r.fluent p (λ v. Ok (Moves r.fluent x)))
      change false o p = given r.fluent (on_both (λ x y. Some (x *ℚ y)) (Some q) o) (λ x. given r.fluent p (λ v. Ok (Moves r.fluent (neg_ℚ x))))

      change_is : (up : Bool) → change_of (write up) s ≡ change up (value r.amount s) (fluent_of s r.fluent)
      change_is true = refl
      change_is false = refl

      fine_is : (up : Bool) (o p : Option Fraction) → o ≡ value r.amount s → p ≡ fluent_of s r.fluent → fine (whenever c (write up) ∷ []) s ≡ change_fine (change up o p) && true
      fine_is up o p e g = ap₂ (λ (d : Bool) x. when d (change_fine x) true && true) (sym h) (change_is up ∙ ap₂ (change up) (sym e) (sym g))

      wrote_is : (up : Bool) (o p : Option Fraction) → o ≡ value r.amount s → p ≡ fluent_of s r.fluent → (f : ℕ) → wrote f (whenever c (write up) ∷ []) s ≡ both_written (change_written f (change up o p)) Stays
      wrote_is up o p e g f = ap₂ (λ (d : Bool) x. both_written (when d (change_written f x) Stays) Stays) (sym h) (change_is up ∙ ap₂ (change up) (sym e) (sym g))

      if_stays : (b : Bool) (w : Fraction) → both_written (if b then Moving w else Stays) Stays ≡ (if b then Moving w else Stays)
      if_stays true w = refl
      if_stays false w = refl

      by : (up : Bool) (o : Option Fraction) → o ≡ value r.amount s → (p : Option Fraction) → p ≡ fluent_of s r.fluent → Flowing q (whenever c (write up) ∷ []) s sums (rated r.fluent up o p sums)
      by true None e p g = stops r.fluent refl (fine_is true None p e g)
      by false None e p g = stops r.fluent refl (fine_is false None p e g)
      by true (Some x) e None g = stops r.fluent refl (fine_is true (Some x) None e g)
      by false (Some x) e None g = stops r.fluent refl (fine_is false (Some x) None e g)
      by true (Some x) e (Some v) g = flows (add_at r.fluent x sums) refl (fine_is true (Some x) (Some v) e g) (length-add_at r.fluent x sums)
          (λ f l. subst (λ y. Drifts q (wrote f (whenever c (write true) ∷ []) s) (sum_at sums f) y) (sym (get-add_at r.fluent x sums f l))
          (subst (λ w. Drifts q w (sum_at sums f) (if nat_eq f r.fluent then sum_at sums f +ℚ x else sum_at sums f)) (sym (wrote_is true (Some x) (Some v) e g f ∙ if_stays (nat_eq f r.fluent) (q *ℚ x)))
          (drifts_here (nat_eq f r.fluent) (sum_at sums f) x)))
      by false (Some x) e (Some v) g = flows (add_at r.fluent (neg_ℚ x) sums) refl (fine_is false (Some x) (Some v) e g) (length-add_at r.fluent (neg_ℚ x) sums)
          (λ f l. subst (λ y. Drifts q (wrote f (whenever c (write false) ∷ []) s) (sum_at sums f) y) (sym (get-add_at r.fluent (neg_ℚ x) sums f l))
          (subst (λ w. Drifts q w (sum_at sums f) (if nat_eq f r.fluent then sum_at sums f +ℚ neg_ℚ x else sum_at sums f)) (sym (wrote_is false (Some x) (Some v) e g f ∙ if_stays (nat_eq f r.fluent) (neg_ℚ (q *ℚ x)) ∙ ap (λ u. if nat_eq f r.fluent then Moving u else Stays) (sym (neg_out x))))
          (drifts_here (nat_eq f r.fluent) (sum_at sums f) (neg_ℚ x))))

  rates_flow : (c : Condition) → true ≡ holds c s → (rs : List Rate) (sums : List Fraction) → Flowing q (map (λ r. whenever c (flow_write q r)) rs) s sums (add_rates rs s sums)
  rates_flow c h [] sums = no_flow sums
  rates_flow c h (r ∷ rs) sums = flowing_then (whenever c (flow_write q r) ∷ []) (map (λ r. whenever c (flow_write q r)) rs) sums (rated r.fluent r.up (value r.amount s) (fluent_of s r.fluent) sums) (add_rates rs s) (one_flow c h r sums) (rates_flow c h rs)

  -- a process that does not hold
  rates_rest : (c : Condition) → false ≡ holds c s → (rs : List Rate) (sums : List Fraction) → Flowing q (map (λ r. whenever c (flow_write q r)) rs) s sums (Ok sums)
  unfolding fine wrote
  rates_rest c h rs sums = flows sums refl (fine_rest rs) refl (λ f l. subst (λ w. Drifts q w (sum_at sums f) (sum_at sums f)) (sym (rest f rs)) refl)
    where
      fine_rest : (rs : List Rate) → fine (map (λ r. whenever c (flow_write q r)) rs) s ≡ true
      fine_rest [] = refl
      fine_rest (r ∷ rs) = ap₂ (λ (d : Bool) y. when d (change_fine (change_of (flow_write q r) s)) true && y) (sym h) (fine_rest rs)

      rest : (f : ℕ) (rs : List Rate) → wrote f (map (λ r. whenever c (flow_write q r)) rs) s ≡ Stays
      rest f [] = refl
      rest f (r ∷ rs) = ap₂ (λ (d : Bool) y. both_written (when d (change_written f (change_of (flow_write q r) s)) Stays) y) (sym h) (rest f rs)

  pub all_flow : (ps : List Process) (sums : List Fraction) → Flowing q (flat_map (flows_of q) ps) s sums (run_rates ps s sums)
  all_flow [] sums = no_flow sums
  all_flow (p ∷ ps) sums = by (holds p.condition s) refl (all_flow ps)
    where
      by : (b : Bool) → b ≡ holds p.condition s → ((x : List Fraction) → Flowing q (flat_map (flows_of q) ps) s x (run_rates ps s x)) → Flowing q (flows_of q p ++ flat_map (flows_of q) ps) s sums (if b then then_rates (add_rates p.rates s sums) (run_rates ps s) else run_rates ps s sums)
      by true h rest = flowing_then (flows_of q p) (flat_map (flows_of q) ps) sums (add_rates p.rates s sums) (run_rates ps s) (rates_flow p.condition h p.rates sums) rest
      by false h rest = flowing_then (flows_of q p) (flat_map (flows_of q) ps) sums (Ok sums) (run_rates ps s) (rates_rest p.condition h p.rates sums) rest

-- ---- flows write no atom, and fluents inside
when_same : {A : Type 0} (b : Bool) (d : A) → when b d d ≡ d
when_same true d = refl
when_same false d = refl

pub flows_fit : (n m : ℕ) (q : Fraction) (ps : List Process) → All (ProcessInside n m) ps → AllEffectsFit n m (flat_map (flows_of q) ps)
flows_fit n m q [] h = tt
flows_fit n m q (p ∷ ps) h =
    let here = All-head (ProcessInside n m) p ps h in
    fit_append (flows_of q p) (flat_map (flows_of q) ps) (rates_fit here.condition p.rates here.rates) (flows_fit n m q ps (All-tail (ProcessInside n m) p ps h))
  where
    fit_append : (es fs : List Effect) → AllEffectsFit n m es → AllEffectsFit n m fs → AllEffectsFit n m (es ++ fs)
    fit_append [] fs a b = b
    fit_append (e ∷ es) fs a b = (a.0, fit_append es fs a.1 b)

    one : Fits n m p.condition → (r : Rate) → RateFits m r → (up : Bool) → AllEffectsFit n m (whenever p.condition (if up then Increase r.fluent (Product (Number q) r.amount) else Decrease r.fluent (Product (Number q) r.amount)) ∷ [])
    one c r h true = ((c, (h.0, (tt, h.1))), tt)
    one c r h false = ((c, (h.0, (tt, h.1))), tt)

    rates_fit : Fits n m p.condition → (rs : List Rate) → All (RateFits m) rs → AllEffectsFit n m (map (λ r. whenever p.condition (flow_write q r)) rs)
    rates_fit c [] h = tt
    rates_fit c (r ∷ rs) h = ((one c r (All-head (RateFits m) r rs h) r.up).0, rates_fit c rs (All-tail (RateFits m) r rs h))

-- ---- moved values
pub values_move : (q : Fraction) (es : List Effect) (t : State) (k : ℕ) (vs : List (Option Fraction)) (rs : List Fraction) → length rs ≡ length vs → ((j : ℕ) → j < length vs → Drifts q (wrote (k + j) es t) (whole (pos 0)) (sum_at rs j)) → values_by k es t vs ≡ Ok (moved_values vs rs q)
values_move q es t k [] [] l h = refl
values_move q es t k [] (r ∷ rs) l h = absurd (omega (arith, l))
values_move q es t k (v ∷ vs) [] l h = absurd (omega (arith, l))
values_move q es t k (v ∷ vs) (r ∷ rs) l h =
    let k0 : k + 0 ≡ k = omega arith in
    ap₂ value_before (moves (wrote k es t) (subst (λ (i : ℕ). Drifts q (wrote i es t) (whole (pos 0)) r) k0 (h 0 (omega arith))) v)
    (values_move q es t (suc k) vs rs (omega (arith, l)) (λ j b. let kj : k + suc j ≡ suc k + j = omega arith in subst (λ (i : ℕ). Drifts q (wrote i es t) (whole (pos 0)) (sum_at rs j)) kj (h (suc j) (omega arith))))
  where
    none_moves : (x : Fraction) → r ≡ whole (pos 0) → x ≡ x +ℚ r *ℚ q
    none_moves x e = sym (ap (λ u. x +ℚ u *ℚ q) e ∙ ap (λ u. x +ℚ u) (zero-*ℚ q) ∙ +ℚ-zero x)

    all_moves : (w x : Fraction) → q *ℚ r ≡ q *ℚ whole (pos 0) +ℚ w → x +ℚ w ≡ x +ℚ r *ℚ q
    all_moves w x e = ap (λ u. x +ℚ u) (sym (*ℚ_comm r q ∙ e ∙ ap (λ u. u +ℚ w) (*ℚ-zero q) ∙ zero-+ℚ w))

    moves : (w : Written) → Drifts q w (whole (pos 0)) r → (v : Option Fraction) → new_value k w v ≡ Ok (option_map (λ u. u +ℚ r *ℚ q) v)
    moves Stays d None = refl
    moves Stays d (Some x) = ap (λ u. Ok (Some u)) (none_moves x d)
    moves (Moving w) d None = refl
    moves (Moving w) d (Some x) = ap (λ u. Ok (Some u)) (all_moves w x d)
    moves (Becoming w) d v = absurd d
    moves Clash d v = absurd d

-- the flows write no atom
flow_quiet : (A : Type 0) (g : Result Change Fault → A) (d : A) → ((e : Fault) → g (Err e) ≡ d) → ((f : ℕ) (x : Fraction) → g (Ok (Moves f x)) ≡ d) → (q : Fraction) (r : Rate) (s : State) → g (change_of (flow_write q r) s) ≡ d
flow_quiet A g d none move q r s = by r.up
  where
    by_given : (f : ℕ) (o : Option Fraction) (k : Fraction → Result Change Fault) → ((x : Fraction) → g (k x) ≡ d) → g (given f o k) ≡ d
    by_given f None k h = none (NoValue f)
    by_given f (Some x) k h = h x

    by : (up : Bool) → g (change_of (if up then Increase r.fluent (Product (Number q) r.amount) else Decrease r.fluent (Product (Number q) r.amount)) s) ≡ d
    by true = by_given r.fluent _ _ (λ x. by_given r.fluent (fluent_of s r.fluent) _ (λ v. move r.fluent x))
    by false = by_given r.fluent _ _ (λ x. by_given r.fluent (fluent_of s r.fluent) _ (λ v. move r.fluent (neg_ℚ x)))

module _ (q : Fraction) (s : State) where
  pub flows_gain : (a : ℕ) (ps : List Process) → gained a (flat_map (flows_of q) ps) s ≡ false
  unfolding gained
  flows_gain a [] = refl
  flows_gain a (p ∷ ps) = gained-append s a (flows_of q p) (flat_map (flows_of q) ps) ∙ ap₂ (λ x y. x || y) (rest p.rates) (flows_gain a ps)
    where
      rest : (rs : List Rate) → gained a (map (λ r. whenever p.condition (flow_write q r)) rs) s ≡ false
      rest [] = refl
      rest (r ∷ rs) = ap₂ (λ x y. x || y) (ap (λ x. when (holds p.condition s) x false) (flow_quiet Bool (change_gains a) false (λ e. refl) (λ f x. refl) q r s) ∙ when_same (holds p.condition s) false) (rest rs)

  pub flows_lose : (a : ℕ) (ps : List Process) → lost a (flat_map (flows_of q) ps) s ≡ false
  unfolding lost
  flows_lose a [] = refl
  flows_lose a (p ∷ ps) = lost-append s a (flows_of q p) (flat_map (flows_of q) ps) ∙ ap₂ (λ x y. x || y) (rest p.rates) (flows_lose a ps)
    where
      rest : (rs : List Rate) → lost a (map (λ r. whenever p.condition (flow_write q r)) rs) s ≡ false
      rest [] = refl
      rest (r ∷ rs) = ap₂ (λ x y. x || y) (ap (λ x. when (holds p.condition s) x false) (flow_quiet Bool (change_loses a) false (λ e. refl) (λ f x. refl) q r s) ∙ when_same (holds p.condition s) false) (rest rs)
