-- How far rates are added.
use Rattle.std.proofs.Common.{◌≡◌, ℕ, ◌<◌, zero, suc, Bool, true, false, List, [], ◌∷◌, ◌++◌, length, map, set, replicate, refl, ap, ap₂, sym, subst, ◌∙◌, arith, pos}
use Rattle.std.proofs.lemmas.List.{length-set, length-map, length-replicate}
use Rattle.std.proofs.lemmas.List.Elements.{All-head, All-tail}
use Rattle.std.specs.Prelude.{Option, Some, None, Result, Ok, Err, slice_get}
use Rattle.std.specs.List.{All}
use Rattle.plus_fraction.specs.Fraction.{Fraction, whole as whole_of, ◌+ℚ◌, ◌-ℚ◌, neg_ℚ}
use Rattle.plus_fraction.proofs.Ring.{var, ◌⊕◌, ◌⊖◌, minus}
use Rattle.plus_fraction.proofs.FractionRing.{ringℚ}
use Rattle.plus_model.specs.Terms.{Rate, State, Problem}
use Rattle.plus_model.specs.Value.{value, fluent_of}
use Rattle.plus_model.specs.Piece.{rate_of}
use Rattle.plus_model.specs.Running.{add_at, rated, then_rates, add_rates, rates_at, sum_rates, rates}
use Rattle.plus_number.specs.declared.exact.Exact.{Ghosts}
use Rattle.plus_state.specs.declared.problem.Ground.{Ground}
use Rattle.plus_state.specs.View.{process_of, problem_of}
use Rattle.plus_state.specs.Fits.{RateFits}
use Rattle.plus_state.specs.Node.{Node}
use Rattle.plus_state.specs.Asked.{result_of, node, nodes, AllFit, FirstUnfit, NodeFits}
use Rattle.plus_settle.specs.declared.stops.RateStop.{RateStop}
use Rattle.plus_settle.specs.declared.stops.RateStop.TheVariants.{NoValue, Number, Memory}
use Rattle.plus_settle.specs.Steps.{SettleStep, asks, no_value, AllPass, FirstStop, Passes}
use Rattle.plus_settle.specs.Rates.{sign_of, need, sum_steps, rate_steps, after_sums, add_rates_steps, sum_rates_steps, rates_steps, RateStops, NoRates}
use Rattle.plus_state.proofs.Testing.{pass_none, pass_append, pass_one, fail_left, fail_right, fail_one, fail_here, carry_pass, carry_fail}
use Rattle.plus_settle.proofs.StepsLemmas.{nodes_carry}

-- ---- one node
pub one_passes : (fits : Fraction → Type 0) (n : Node) (z : Fraction) → z ≡ result_of n.sign n.left n.right → fits z → AllPass fits (asks n ∷ [])
unfolding Passes NodeFits
one_passes fits n z e h = pass_one (Passes fits) (asks n) (subst fits e h)

pub one_stops : (fits : Fraction → Type 0) (n m : Node) → (fits (result_of n.sign n.left n.right) → ⊥) → m ≡ n → FirstStop fits (asks n ∷ []) (asks m)
unfolding Passes NodeFits
one_stops fits n m h e = fail_one (Passes fits) (asks n) (asks m) h (ap asks e)

pub ruleset summing = (one_passes, one_stops)

-- ---- one rate
add_at_is : (k : ℕ) (x : Fraction) (ys : List Fraction) → k < length ys → add_at k x ys ≡ set ys k (rate_of ys k +ℚ x)
add_at_is k x [] h = absurd (omega arith)
add_at_is zero x (y ∷ ys) h = refl
add_at_is (suc k) x (y ∷ ys) h = ap (λ (zs : List Fraction). y ∷ zs) (add_at_is k x ys (omega arith))

take_away : (x y : Fraction) → x -ℚ y ≡ x +ℚ neg_ℚ y
take_away x y = ringℚ (x ∷ y ∷ []) (var 0 ⊖ var 1) (var 0 ⊕ minus (var 1)) refl

rated_is : (f : ℕ) (up : Bool) (x w z : Fraction) (sums : List Fraction) → f < length sums → z ≡ result_of (sign_of up) (rate_of sums f) x → rated f up (Some x) (Some w) sums ≡ Ok (set sums f z)
rated_is f true x w z sums h e = ap Ok (add_at_is f x sums h ∙ ap (set sums f) (sym e))
rated_is f false x w z sums h e = ap Ok (add_at_is f (neg_ℚ x) sums h ∙ ap (set sums f) (sym (take_away (rate_of sums f) x) ∙ sym e))

module _ (fits : Fraction → Type 0) (r : Rate) (s : State) (sums : List Fraction) where
  pub rate_unfit : (m : Node) → FirstUnfit fits (nodes r.amount s) m → FirstStop fits (rate_steps r s sums) (asks m)
  unfolding rate_steps
  rate_unfit m h = fail_left (Passes fits) _ _ _ (carry_fail (nodes_carry fits) _ m h)

  pub rate_no_amount : AllFit fits (nodes r.amount s) → None ≡ value r.amount s → FirstStop fits (rate_steps r s sums) (no_value r.fluent)
  unfolding rate_steps Passes
  rate_no_amount a e =
      fail_right (Passes fits) _ _ _ (carry_pass (nodes_carry fits) _ a)
      (subst (λ (o : Option Fraction). FirstStop fits (need r.fluent o ++ (need r.fluent (fluent_of s r.fluent) ++ sum_steps r.up (rate_of sums r.fluent) o)) (no_value r.fluent)) e (fail_here (Passes fits) _ _ (λ z. z)))

  pub rate_no_fluent : (x : Fraction) → AllFit fits (nodes r.amount s) → Some x ≡ value r.amount s → None ≡ fluent_of s r.fluent → FirstStop fits (rate_steps r s sums) (no_value r.fluent)
  unfolding rate_steps Passes
  rate_no_fluent x a e d =
      fail_right (Passes fits) _ _ _ (carry_pass (nodes_carry fits) _ a)
      (subst (λ (o : Option Fraction). FirstStop fits (need r.fluent o ++ (need r.fluent (fluent_of s r.fluent) ++ sum_steps r.up (rate_of sums r.fluent) o)) (no_value r.fluent)) e
      (subst (λ (o : Option Fraction). FirstStop fits (need r.fluent o ++ sum_steps r.up (rate_of sums r.fluent) (Some x)) (no_value r.fluent)) d (fail_here (Passes fits) _ _ (λ z. z))))

  summed : (x w : Fraction) → Some x ≡ value r.amount s → Some w ≡ fluent_of s r.fluent → map asks (nodes r.amount s) ++ asks (node (sign_of r.up) (rate_of sums r.fluent) x) ∷ [] ≡ rate_steps r s sums
  unfolding rate_steps
  summed x w e d = ap₂ (λ (o p : Option Fraction). map asks (nodes r.amount s) ++ (need r.fluent o ++ (need r.fluent p ++ sum_steps r.up (rate_of sums r.fluent) o))) e d

  pub rate_sum_unfit : (x w y : Fraction) (m : SettleStep) → AllFit fits (nodes r.amount s) → Some x ≡ value r.amount s → Some w ≡ fluent_of s r.fluent → y ≡ rate_of sums r.fluent → FirstStop fits (asks (node (sign_of r.up) y x) ∷ []) m → FirstStop fits (rate_steps r s sums) m
  rate_sum_unfit x w y m a e d k h =
      subst (λ (ns : List SettleStep). FirstStop fits ns m) (summed x w e d)
      (fail_right (Passes fits) _ _ m (carry_pass (nodes_carry fits) _ a) (subst (λ (z : Fraction). FirstStop fits (asks (node (sign_of r.up) z x) ∷ []) m) k h))

  pub rate_pass : (x w y : Fraction) → AllFit fits (nodes r.amount s) → Some x ≡ value r.amount s → Some w ≡ fluent_of s r.fluent → y ≡ rate_of sums r.fluent → AllPass fits (asks (node (sign_of r.up) y x) ∷ []) → AllPass fits (rate_steps r s sums)
  rate_pass x w y a e d k h =
      subst (AllPass fits) (summed x w e d)
      (pass_append (Passes fits) _ _ (carry_pass (nodes_carry fits) _ a) (subst (λ (z : Fraction). AllPass fits (asks (node (sign_of r.up) z x) ∷ [])) k h))

pub rated_no_amount : (f : ℕ) (up : Bool) (o w : Option Fraction) (sums : List Fraction) → None ≡ o → rated f up o w sums ≡ Err f
rated_no_amount f up o w sums e = sym (ap (λ (p : Option Fraction). rated f up p w sums) e)

pub rated_no_fluent : (f : ℕ) (up : Bool) (o w : Option Fraction) (x : Fraction) (sums : List Fraction) → Some x ≡ o → None ≡ w → rated f up o w sums ≡ Err f
rated_no_fluent f up o w x sums e d = sym (ap₂ (λ (p q : Option Fraction). rated f up p q sums) e d)

pub rated_sum : (f : ℕ) (up : Bool) (o w : Option Fraction) (x v y z : Fraction) (sums new : List Fraction) → Some x ≡ o → Some v ≡ w → y ≡ rate_of sums f → f < length sums → z ≡ result_of (sign_of up) y x → new ≡ set sums f z → rated f up o w sums ≡ Ok new
rated_sum f up o w x v y z sums new e d k h q n =
    sym (ap₂ (λ (p r : Option Fraction). rated f up p r sums) e d)
    ∙ rated_is f up x v z sums h (q ∙ ap (λ (t : Fraction). result_of (sign_of up) t x) k) ∙ ap Ok (sym n)

pub set_size : (sums new : List Fraction) (f : ℕ) (z : Fraction) → new ≡ set sums f z → length new ≡ length sums
set_size sums new f z e = ap length e ∙ length-set sums f z

pub ruleset rating = (rate_unfit, rate_no_amount, rate_no_fluent, rate_sum_unfit, rate_pass, rated_no_amount, rated_no_fluent, rated_sum, set_size)

-- ---- the rates of one process
pub record Adding (fits : Fraction → Type 0) (rest whole : List Rate) (s : State) (now old : List Fraction) : Type 0 where
  pub inside : All (RateFits (length s.fluents)) rest
  pub size : length now ≡ length old
  pub so_far : add_rates rest s now ≡ add_rates whole s old
  pub pass : AllPass fits (add_rates_steps rest s now) → AllPass fits (add_rates_steps whole s old)
  pub stop : (m : SettleStep) → FirstStop fits (add_rates_steps rest s now) m → FirstStop fits (add_rates_steps whole s old) m

module _ (fits : Fraction → Type 0) (r : Rate) (rest whole : List Rate) (s : State) (now old : List Fraction) (h : Adding fits (r ∷ rest) whole s now old) where
  pub adding_inside : RateFits (length s.fluents) r
  adding_inside = All-head (RateFits (length s.fluents)) r rest h.inside

  pub adding_next : (new : List Fraction) → length new ≡ length now → AllPass fits (rate_steps r s now) → rated r.fluent r.up (value r.amount s) (fluent_of s r.fluent) now ≡ Ok new → Adding fits rest whole s new old
  adding_next new n a e = record {
    inside = All-tail (RateFits (length s.fluents)) r rest h.inside;
    size = n ∙ h.size;
    so_far = sym (ap (λ (o : Result (List Fraction) ℕ). then_rates o (add_rates rest s)) e) ∙ h.so_far;
    pass = λ b. h.pass (pass_append (Passes fits) _ _ a (subst (λ (o : Result (List Fraction) ℕ). AllPass fits (after_sums o (add_rates_steps rest s))) (sym e) b));
    stop = λ m u. h.stop m (fail_right (Passes fits) _ _ m a (subst (λ (o : Result (List Fraction) ℕ). FirstStop fits (after_sums o (add_rates_steps rest s)) m) (sym e) u));
  }

  pub adding_stop : {Q : Type 0} (v : Q → Fraction) (e : RateStop Q) → RateStops v fits (rate_steps r s now) e → NoRates (rated r.fluent r.up (value r.amount s) (fluent_of s r.fluent) now) e → RateStops v fits (add_rates_steps whole s old) e × NoRates (add_rates whole s old) e
  adding_stop v (NoValue f) k n = (h.stop _ (fail_left (Passes fits) _ _ _ k), sym h.so_far ∙ ap (λ (o : Result (List Fraction) ℕ). then_rates o (add_rates rest s)) n)
  adding_stop v (Number o) k n = (h.stop _ (fail_left (Passes fits) _ _ _ k), tt)
  adding_stop v Memory k n = (tt, tt)

pub adding_end : (fits : Fraction → Type 0) (whole : List Rate) (s : State) (now old : List Fraction) → Adding fits [] whole s now old → AllPass fits (add_rates_steps whole s old) × (add_rates whole s old ≡ Ok now)
adding_end fits whole s now old h = (h.pass (pass_none (Passes fits)), sym h.so_far)

-- ---- the rates of members
pub record Summing (fits : Fraction → Type 0) (P : Problem) (rest whole : List ℕ) (s : State) (now : List Fraction) : Type 0 where
  pub inside : All (λ p. p < length P.processes) rest
  pub size : length now ≡ length s.fluents
  pub so_far : sum_rates P rest s now ≡ rates P s whole
  pub pass : AllPass fits (sum_rates_steps P rest s now) → AllPass fits (rates_steps P s whole)
  pub stop : (m : SettleStep) → FirstStop fits (sum_rates_steps P rest s now) m → FirstStop fits (rates_steps P s whole) m

pub summing_start : (fits : Fraction → Type 0) (P : Problem) (whole : List ℕ) (s : State) (now : List Fraction) (n : ℕ) → now ≡ replicate n (whole_of (pos 0)) → n ≡ length s.fluents → All (λ p. p < length P.processes) whole → Summing fits P whole whole s now
unfolding rates rates_steps
summing_start fits P whole s now n e d h =
    subst (λ (x : List Fraction). Summing fits P whole whole s x) (sym (e ∙ ap (λ (k : ℕ). replicate k (whole_of (pos 0))) d))
    (record { inside = h; size = length-replicate (length s.fluents) (whole_of (pos 0)); so_far = refl; pass = λ a. a; stop = λ m u. u })

module _ (fits : Fraction → Type 0) (P : Problem) (p : ℕ) (rest whole : List ℕ) (s : State) (now : List Fraction) (rs : List Rate) (h : Summing fits P (p ∷ rest) whole s now) (k : rates_at (slice_get P.processes p) ≡ rs) where
  here : then_rates (add_rates rs s now) (sum_rates P rest s) ≡ rates P s whole
  here = ap (λ (x : List Rate). then_rates (add_rates x s now) (sum_rates P rest s)) (sym k) ∙ h.so_far

  steps_here : add_rates_steps rs s now ++ after_sums (add_rates rs s now) (sum_rates_steps P rest s) ≡ sum_rates_steps P (p ∷ rest) s now
  steps_here = ap (λ (x : List Rate). add_rates_steps x s now ++ after_sums (add_rates x s now) (sum_rates_steps P rest s)) (sym k)

  pub summing_next : (new : List Fraction) → length new ≡ length now → AllPass fits (add_rates_steps rs s now) → add_rates rs s now ≡ Ok new → Summing fits P rest whole s new
  summing_next new n a e = record {
    inside = All-tail (λ p. p < length P.processes) p rest h.inside;
    size = n ∙ h.size;
    so_far = sym (ap (λ (o : Result (List Fraction) ℕ). then_rates o (sum_rates P rest s)) e) ∙ here;
    pass = λ b. h.pass (subst (AllPass fits) steps_here (pass_append (Passes fits) _ _ a (subst (λ (o : Result (List Fraction) ℕ). AllPass fits (after_sums o (sum_rates_steps P rest s))) (sym e) b)));
    stop = λ m u. h.stop m (subst (λ (ns : List SettleStep). FirstStop fits ns m) steps_here (fail_right (Passes fits) _ _ m a (subst (λ (o : Result (List Fraction) ℕ). FirstStop fits (after_sums o (sum_rates_steps P rest s)) m) (sym e) u)));
  }

  early : (m : SettleStep) → FirstStop fits (add_rates_steps rs s now) m → FirstStop fits (rates_steps P s whole) m
  early m u = h.stop m (subst (λ (ns : List SettleStep). FirstStop fits ns m) steps_here (fail_left (Passes fits) _ _ m u))

  pub summing_stop : {Q : Type 0} (v : Q → Fraction) (e : RateStop Q) → RateStops v fits (add_rates_steps rs s now) e → NoRates (add_rates rs s now) e → RateStops v fits (rates_steps P s whole) e × NoRates (rates P s whole) e
  summing_stop v (NoValue f) u n = (early _ u, sym here ∙ ap (λ (o : Result (List Fraction) ℕ). then_rates o (sum_rates P rest s)) n)
  summing_stop v (Number o) u n = (early _ u, tt)
  summing_stop v Memory u n = (tt, tt)

pub summing_inside : {Q : Type 0} {E : Ghosts Q} (v : Q → Fraction) (fits : Fraction → Type 0) (g : Ground Q E) (p : ℕ) (rest whole : List ℕ) (s : State) (now : List Fraction) → Summing fits (problem_of v g) (p ∷ rest) whole s now → p < length g.processes.items
summing_inside v fits g p rest whole s now h =
    let below : p < length (map (process_of v) g.processes.items) = All-head (λ p. p < length (map (process_of v) g.processes.items)) p rest h.inside in
    rw length-map at below

pub summing_end : (fits : Fraction → Type 0) (P : Problem) (whole : List ℕ) (s : State) (now : List Fraction) → Summing fits P [] whole s now → AllPass fits (rates_steps P s whole) × (rates P s whole ≡ Ok now)
summing_end fits P whole s now h = (h.pass (pass_none (Passes fits)), sym h.so_far)
