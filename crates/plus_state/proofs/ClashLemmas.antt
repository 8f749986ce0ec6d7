-- Writes that clash, found side by side where they stand fluent by fluent.
use Rattle.std.proofs.Common.{◌≡◌, ℕ, suc, ◌+◌, ◌<◌, ◌≤◌, Bool, true, false, not, ◌&&◌, List, [], ◌∷◌, ◌++◌, length, refl, ap, sym, subst, ◌∙◌, arith, ap₂, eq-or-lt_of_le}
use mathlib.Core.Bool.{true≢false}
use mathlib.Core.Logic.{⊎_elim}
use Rattle.std.proofs.lemmas.Bool.{eqb-true, eqb-false}
use Rattle.std.specs.Prelude.{Option, Some, None, nat_eq, if◌then◌else◌}
use Rattle.plus_fraction.specs.Fraction.{Fraction}
use Rattle.plus_model.specs.Joint.{Conflict}
use Rattle.plus_state.specs.Due.{Update, Due, puts, updates, updates_on, by_fluent, is_move, all_moves, clash}
use Rattle.plus_state.specs.Steps.{fault, Passes, AllPass, FirstStop, clash_steps}
use Rattle.plus_state.proofs.Testing.{pass_none, fail_here}
use Rattle.plus_state.specs.Writes.{on, From, Ordered, sets, clashes, clash_after}
use Rattle.plus_state.proofs.SortLemmas.{on_cases, on_here, on_below, over_from}

no_option : {A : Type 0} (x : A) → Some x ≡ None → ⊥
no_option {A} x e = subst (λ (o : Option A). is_there o) e tt where
  is_there : Option A → Type 0
  is_there None = ⊥
  is_there (Some y) = Unit {0}

-- one more write before some
moves_on : (u w : Update) (us : List Update) → not (is_move u.op && is_move w.op) ≡ false → clash (w ∷ us) ≡ false → clash (u ∷ w ∷ us) ≡ false
moves_on u w [] h k = by (is_move u.op) (is_move w.op) h where
  by : (a b : Bool) → not (a && b) ≡ false → not (a && (b && true)) ≡ false
  by true true h = refl
  by true false h = h
  by false b h = h
moves_on u w (x ∷ us) h k = by (is_move u.op) (is_move w.op) (all_moves (x ∷ us)) h k where
  by : (a b c : Bool) → not (a && b) ≡ false → not (b && c) ≡ false → not (a && (b && c)) ≡ false
  by true b c h k = k
  by false b c h k = h

clash_on : (u : Update) (us : List Update) → clash us ≡ true → clash (u ∷ us) ≡ true
clash_on u [] h = absurd (true≢false (sym h))
clash_on u (w ∷ []) h = absurd (true≢false (sym h))
clash_on u (w ∷ x ∷ us) h = by (is_move u.op) (is_move w.op && all_moves (x ∷ us)) h where
  by : (a b : Bool) → not b ≡ true → not (a && b) ≡ true
  by true b h = h
  by false b h = refl

clash_two : (u w : Update) (us : List Update) → not (is_move u.op && is_move w.op) ≡ true → clash (u ∷ w ∷ us) ≡ true
clash_two u w us h = by (is_move u.op) (is_move w.op) (all_moves us) h where
  by : (a b c : Bool) → not (a && b) ≡ true → not (a && (b && c)) ≡ true
  by true true c h = absurd (true≢false (sym h))
  by true false c h = refl
  by false b c h = refl

pub and_left : (a b : Bool) → a && b ≡ true → a ≡ true
and_left true b h = refl
and_left false b h = h

pub and_right : (a b : Bool) → a && b ≡ true → b ≡ true
and_right true b h = h
and_right false b h = absurd (true≢false (sym h))

and_other : (a b : Bool) → a && b ≡ false → a ≡ true → b ≡ false
and_other true b h e = h
and_other false b h e = absurd (true≢false (sym e))

abbrev Clear : ℕ → List (ℕ × Update) → Type 0
Clear g ps = clash (on g ps) ≡ false

-- a pair side by side that goes together
clear_more : (g : ℕ) (p q : ℕ × Update) (qs : List (ℕ × Update)) → p.0 ≤ q.0 → From q.0 qs → clashes (Some p) q ≡ false → Clear g (q ∷ qs) → Clear g (p ∷ q ∷ qs)
clear_more g p q qs l o c h = on_cases (λ us. clash us ≡ false) g p (q ∷ qs) (λ e. here e (same q.0 e)) (λ n. h) where
  same : (n : ℕ) → g ≡ p.0 → (p.0 ≡ q.0 → ⊥) → on g (q ∷ qs) ≡ []
  same n e d = on_below g (q ∷ qs) (omega (arith, l, d, e), over_from g q.0 qs (omega (arith, l, d, e)) o)

  by : (b : Bool) → nat_eq p.0 q.0 ≡ b → g ≡ p.0 → ((p.0 ≡ q.0 → ⊥) → on g (q ∷ qs) ≡ []) → clash (p.1 ∷ on g (q ∷ qs)) ≡ false
  by false b e s = ap (λ us. clash (p.1 ∷ us)) (s (eqb-false p.0 q.0 b))
  by true b e s =
      let eq : g ≡ q.0 = e ∙ eqb-true p.0 q.0 b in
      ap (λ us. clash (p.1 ∷ us)) (on_here g q qs eq) ∙ moves_on p.1 q.1 (on g qs) (and_other _ _ c b) (sym (ap clash (on_here g q qs eq)) ∙ h)

  here : g ≡ p.0 → ((p.0 ≡ q.0 → ⊥) → on g (q ∷ qs) ≡ []) → clash (p.1 ∷ on g (q ∷ qs)) ≡ false
  here e s = by (nat_eq p.0 q.0) refl e s

one_clear : (g : ℕ) (p : ℕ × Update) → Clear g (p ∷ [])
one_clear g p = on_cases (λ us. clash us ≡ false) g p [] (λ _. refl) (λ _. refl)

-- no write clashes with the one before it
pub none_clash : (p : ℕ × Update) (qs : List (ℕ × Update)) → Ordered (p ∷ qs) → clash_after (Some p) qs ≡ None → (g : ℕ) → Clear g (p ∷ qs)
none_clash p [] o h g = one_clear g p
none_clash p (q ∷ qs) o h g = none_by p q qs o (clashes (Some p) q) refl h g (none_clash q qs o.1) where
  none_by : (p q : ℕ × Update) (qs : List (ℕ × Update)) → Ordered (p ∷ q ∷ qs) → (b : Bool) → clashes (Some p) q ≡ b → (if b then Some q.0 else clash_after (Some q) qs) ≡ None → (g : ℕ) → (clash_after (Some q) qs ≡ None → (g : ℕ) → Clear g (q ∷ qs)) → Clear g (p ∷ q ∷ qs)
  none_by p q qs o true e h g next = absurd (no_option _ h)
  none_by p q qs o false e h g next = clear_more g p q qs o.0.0 o.1.0 e (next h g)

-- the first that does
pub record FirstClash (f : ℕ) (ps : List (ℕ × Update)) : Type 0 where
  pub here : clash (on f ps) ≡ true
  pub before : (g : ℕ) → g < f → Clear g ps

some_same : (f g : ℕ) → Some f ≡ Some g → f ≡ g
some_same f g e = ap (λ (o : Option ℕ). number o) e where
  number : Option ℕ → ℕ
  number None = 0
  number (Some n) = n

pub first_is : (p : ℕ × Update) (qs : List (ℕ × Update)) (f : ℕ) → Ordered (p ∷ qs) → clash_after (Some p) qs ≡ Some f → FirstClash f (p ∷ qs)
first_is p [] f o h = absurd (no_option _ (sym h))
first_is p (q ∷ qs) f o h = first_by p q qs f o (clashes (Some p) q) refl h (first_is q qs f o.1) where
  first_by : (p q : ℕ × Update) (qs : List (ℕ × Update)) (f : ℕ) → Ordered (p ∷ q ∷ qs) → (b : Bool) → clashes (Some p) q ≡ b → (if b then Some q.0 else clash_after (Some q) qs) ≡ Some f → (clash_after (Some q) qs ≡ Some f → FirstClash f (q ∷ qs)) → FirstClash f (p ∷ q ∷ qs)
  first_by p q qs f o true e h next =
      let qf : f ≡ q.0 = sym (some_same _ _ h) in
      let pf : f ≡ p.0 = qf ∙ sym (eqb-true p.0 q.0 (and_left _ _ e)) in
      record {
        here = ap clash (on_here f p (q ∷ qs) pf ∙ ap (λ us. p.1 ∷ us) (on_here f q qs qf)) ∙ clash_two p.1 q.1 (on f qs) (and_right _ _ e);
        before = λ g l. ap clash (on_below g (p ∷ q ∷ qs) (omega (arith, l, pf), (omega (arith, l, qf), over_from g q.0 qs (omega (arith, l, qf)) o.1.0)));
      }
  first_by p q qs f o false e h next =
      let n = next h in
      record {
        here = on_cases (λ us. clash us ≡ true) f p (q ∷ qs) (λ _. clash_on p.1 _ n.here) (λ _. n.here);
        before = λ g l. clear_more g p q qs o.0.0 o.1.0 e (n.before g l);
      }

-- the writes on each of these fluents, of which the first has number k
abbrev pub lists : ℕ → List (ℕ × Update) → List (Option Fraction) → List (List Update)
lists k ps [] = []
lists k ps (v ∷ vs) = on k ps ∷ lists (suc k) ps vs

pub on_sets : (f : ℕ) (ds : List Due) → updates_on f ds ≡ on f (sets ds)
on_sets f [] = refl
on_sets f (puts a b ∷ ds) = on_sets f ds
on_sets f (updates g u ∷ ds) = ap (λ us. if nat_eq f g then u ∷ us else us) (on_sets f ds)

pub lists_are : (k : ℕ) (ds : List Due) (ps : List (ℕ × Update)) (vs : List (Option Fraction)) → ((g : ℕ) → on g ps ≡ on g (sets ds)) → by_fluent k ds vs ≡ lists k ps vs
lists_are k ds ps [] h = refl
lists_are k ds ps (v ∷ vs) h = ap₂ (λ us rest. us ∷ rest) (on_sets k ds ∙ sym (h k)) (lists_are (suc k) ds ps vs h)

module _ (fits : Fraction → Type 0) (ps : List (ℕ × Update)) where
  clear_step : (k : ℕ) (rest : List (List Update)) → Clear k ps → clash_steps (suc k) rest ≡ clash_steps k (on k ps ∷ rest)
  clear_step k rest e = ap (λ (b : Bool). (if b then fault (Conflict k) ∷ [] else []) ++ clash_steps (suc k) rest) (sym e)

  pub pass_by : (k : ℕ) (vs : List (Option Fraction)) → ((g : ℕ) → Clear g ps) → AllPass fits (clash_steps k (lists k ps vs))
  pass_by k [] h = pass_none (Passes fits)
  pass_by k (v ∷ vs) h = subst (AllPass fits) (clear_step k (lists (suc k) ps vs) (h k)) (pass_by (suc k) vs h)

  stop_here : (k : ℕ) (rest : List (List Update)) → clash (on k ps) ≡ true → FirstStop fits (clash_steps k (on k ps ∷ rest)) (fault (Conflict k))
  unfolding Passes
  stop_here k rest e = subst (λ (b : Bool). FirstStop fits ((if b then fault (Conflict k) ∷ [] else []) ++ clash_steps (suc k) rest) (fault (Conflict k))) (sym e) (fail_here (Passes fits) _ _ (λ h. h))

  pub stop_by : (k : ℕ) (f : ℕ) (vs : List (Option Fraction)) → FirstClash f ps → k ≤ f → f < k + length vs → FirstStop fits (clash_steps k (lists k ps vs)) (fault (Conflict f))
  stop_by k f [] h l m = absurd (omega (arith, l, m))
  stop_by k f (v ∷ vs) h l m = ⊎_elim
      (λ (e : k ≡ f). subst (λ (n : ℕ). FirstStop fits (clash_steps k (on k ps ∷ lists (suc k) ps vs)) (fault (Conflict n))) e (stop_here k (lists (suc k) ps vs) (ap (λ (n : ℕ). clash (on n ps)) e ∙ h.here)))
      (λ (e : k < f). subst (λ ns. FirstStop fits ns (fault (Conflict f))) (clear_step k (lists (suc k) ps vs) (h.before k e)) (stop_by (suc k) f vs h (omega (arith, e)) (omega (arith, m))))
      (eq-or-lt_of_le l)
