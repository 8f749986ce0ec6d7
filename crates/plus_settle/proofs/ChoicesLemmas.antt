-- How far processes are gathered.
use Rattle.std.proofs.Common.{◌≡◌, ℕ, ◌<◌, ◌≤◌, ◌+◌, zero, suc, Bool, true, false, List, [], ◌∷◌, ◌++◌, length, refl, ap, sym, subst, ◌∙◌, inl, inr, arith}
use Rattle.std.proofs.lemmas.Bool.{cases_lt}
use Rattle.std.proofs.lemmas.List.{append-nil}
use Rattle.std.proofs.lemmas.List.Elements.{All-head, All-tail, All-nil, All-cons}
use Rattle.std.specs.Prelude.{Option, Some, None, IsSomeAnd, slice_get, ◌↔◌, if◌then◌else◌}
use Rattle.std.specs.List.{All}
use Rattle.plus_fraction.specs.Fraction.{Fraction}
use Rattle.plus_model.specs.Terms.{Process, State, Problem}
use Rattle.plus_model.specs.Value.{holds}
use Rattle.plus_model.specs.Firing.{numbers_of, is_in}
use Rattle.plus_model.specs.Running.{JustAfter, GoesOn, holding}
use Rattle.plus_model.proofs.Decide.{rising-numbers, place_of, in_numbers}
use Rattle.plus_state.specs.Fits.{ProcessFits}
use Rattle.plus_state.specs.Node.{Node}
use Rattle.plus_settle.specs.declared.stops.GoStop.{GoStop}
use Rattle.plus_settle.specs.declared.stops.GoStop.TheVariants as go
use Rattle.plus_settle.specs.Steps.{SettleStep, AllPass, FirstStop, Passes}
use Rattle.plus_state.specs.Numbers.{AreMembers}
use Rattle.plus_settle.specs.Members.{soon}
use Rattle.plus_settle.specs.Confirms.{soon_steps, GoStops}
use Rattle.plus_settle.specs.Settles.{chosen_steps, running_soon, ConditionStops, ChosenStops, of_go, of_walk}
use Rattle.plus_state.specs.declared.walk.WalkStop.{WalkStop}
use Rattle.plus_state.specs.declared.walk.WalkStop.TheVariants as walk
use Rattle.plus_state.specs.Walk.{process_conditions}
use Rattle.plus_state.specs.Looked.{WalkStops}
use Rattle.plus_state.proofs.LookingLemmas.{numbers_by, choose}
use Rattle.plus_state.proofs.Testing.{pass_none, pass_append, fail_left, fail_right}

-- ---- which hold
pub holding_found : (P : Problem) (s : State) (found : List ℕ) → found ≡ numbers_of (λ c. holds c s) 0 (process_conditions P) → found ≡ holding P s
holding_found P s found h = h ∙ numbers_by (λ (p : Process). p.condition) s 0 P.processes

pub walk_stops : {Q : Type 0} (v : Q → Fraction) (fits : Fraction → Type 0) (ns : List Node) (stop : WalkStop Q) → WalkStops v fits ns stop → ConditionStops v fits ns (of_walk stop)
walk_stops v fits ns (walk.Number o) u = u
walk_stops v fits ns walk.Memory u = tt

-- ---- which hold just after
pub record Choosing (fits : Fraction → Type 0) (P : Problem) (found : List ℕ) (k : ℕ) (rest : List Process) (s : State) (rs : List Fraction) : Type 0 where
  pub inside : All (ProcessFits (length s.atoms) (length s.fluents)) rest
  pub so_far : found ++ numbers_of (λ (p : Process). soon p s rs) k rest ≡ running_soon P s rs
  pub pass : AllPass fits (chosen_steps k rest s rs) → AllPass fits (chosen_steps 0 P.processes s rs)
  pub stop : (m : SettleStep) → FirstStop fits (chosen_steps k rest s rs) m → FirstStop fits (chosen_steps 0 P.processes s rs) m
  pub tells : (j : ℕ) (p : Process) → j < k → slice_get P.processes j ≡ Some p → (soon p s rs ≡ true) ↔ JustAfter s rs p.condition

pub choosing_start : (fits : Fraction → Type 0) (P : Problem) (found : List ℕ) (s : State) (rs : List Fraction) → found ≡ [] → All (ProcessFits (length s.atoms) (length s.fluents)) P.processes → Choosing fits P found 0 P.processes s rs
unfolding running_soon
choosing_start fits P found s rs e h = record {
  inside = h;
  so_far = ap (λ (x : List ℕ). x ++ numbers_of (λ (p : Process). soon p s rs) 0 P.processes) e;
  pass = λ a. a;
  stop = λ m u. u;
  tells = λ j p l d. absurd (omega arith);
}

module _ (fits : Fraction → Type 0) (P : Problem) (found : List ℕ) (k : ℕ) (p : Process) (rest : List Process) (s : State) (rs : List Fraction) (h : Choosing fits P found k (p ∷ rest) s rs) where
  pub choosing_inside : ProcessFits (length s.atoms) (length s.fluents) p
  choosing_inside = All-head (ProcessFits (length s.atoms) (length s.fluents)) p rest h.inside

  pub choosing_stops : {Q : Type 0} (v : Q → Fraction) (e : GoStop Q) → GoStops v fits (soon_steps k p s rs) e → ChosenStops v fits (chosen_steps 0 P.processes s rs) (of_go e)
  choosing_stops v (go.Number o) u = h.stop _ (fail_left (Passes fits) _ _ _ u)
  choosing_stops v (go.Nonlinear q c) u = h.stop _ (fail_left (Passes fits) _ _ _ u)

  same_process : (j : ℕ) (q : Process) → j ≡ k → slice_get P.processes k ≡ Some p → slice_get P.processes j ≡ Some q → p ≡ q
  same_process j q d e f = let g : slice_get P.processes j ≡ slice_get P.processes k = ap (slice_get P.processes) d in cc

  pub choosing_next : (b : Bool) (new : List ℕ) → AllPass fits (soon_steps k p s rs) → b ≡ soon p s rs → ((soon p s rs ≡ true) ↔ JustAfter s rs p.condition) → slice_get P.processes k ≡ Some p → new ≡ found ++ (if b then k ∷ [] else []) → Choosing fits P new (k + 1) rest s rs
  choosing_next b new a d t e n =
      let one : suc k ≡ k + 1 = omega arith in
      let more : List ℕ = numbers_of (λ (p : Process). soon p s rs) (suc k) rest in
      subst (λ (i : ℕ). Choosing fits P new i rest s rs) one (record {
        inside = All-tail (ProcessFits (length s.atoms) (length s.fluents)) p rest h.inside;
        so_far = ap (λ (x : List ℕ). x ++ more) n ∙ choose found k b more ∙ ap (λ (c : Bool). found ++ (if c then k ∷ more else more)) d ∙ h.so_far;
        pass = λ r. h.pass (pass_append (Passes fits) _ _ a r);
        stop = λ m u. h.stop m (fail_right (Passes fits) _ _ m a u);
        tells = λ j q l f. elim (cases_lt j k) [
          | inl b ↦ h.tells j q b f
          | inr b ↦ subst (λ (x : Process). (soon x s rs ≡ true) ↔ JustAfter s rs x.condition) (same_process j q (omega arith) e f) t
        ];
      })

past : (ps : List Process) (j : ℕ) (p : Process) → slice_get ps j ≡ Some p → j < length ps
past [] j p e = cc
past (q ∷ ps) zero p e = omega arith
past (q ∷ ps) (suc j) p e = let h = past ps j p e in omega arith

runs_by : (P : Problem) (s : State) (rs : List Fraction) → ((j : ℕ) (p : Process) → slice_get P.processes j ≡ Some p → (soon p s rs ≡ true) ↔ JustAfter s rs p.condition) → (k : ℕ) (o : Option Process) → slice_get P.processes k ≡ o → IsSomeAnd o (λ p. soon p s rs ≡ true) → IsSomeAnd o (λ p. JustAfter s rs p.condition)
runs_by P s rs t k None e h = h
runs_by P s rs t k (Some p) e h = (t k p e).0 h

test_by : (P : Problem) (s : State) (rs : List Fraction) → ((j : ℕ) (p : Process) → slice_get P.processes j ≡ Some p → (soon p s rs ≡ true) ↔ JustAfter s rs p.condition) → (k : ℕ) (o : Option Process) → slice_get P.processes k ≡ o → IsSomeAnd o (λ p. JustAfter s rs p.condition) → IsSomeAnd o (λ p. soon p s rs ≡ true)
test_by P s rs t k None e h = h
test_by P s rs t k (Some p) e h = (t k p e).1 h

goes_on_soon : (P : Problem) (s : State) (rs : List Fraction) → ((j : ℕ) (p : Process) → slice_get P.processes j ≡ Some p → (soon p s rs ≡ true) ↔ JustAfter s rs p.condition) → GoesOn P s rs (running_soon P s rs)
unfolding running_soon
goes_on_soon P s rs t = record {
  rising = rising-numbers _ 0 P.processes;
  members = λ k. (
    (λ h. let q = place_of (λ (p : Process). soon p s rs) 0 P.processes k h in
        let e : q.place ≡ k = (let d = q.sum in omega arith) in
        runs_by P s rs t k (slice_get P.processes k) refl (subst (λ j. IsSomeAnd (slice_get P.processes j) (λ p. soon p s rs ≡ true)) e q.passes)),
    (λ h. let e : 0 + k ≡ k = omega arith in
        subst (λ j. is_in (numbers_of (λ (p : Process). soon p s rs) 0 P.processes) j ≡ true) e (in_numbers (λ (p : Process). soon p s rs) 0 P.processes k (test_by P s rs t k (slice_get P.processes k) refl h))),
  );
}

pub choosing_end : (fits : Fraction → Type 0) (P : Problem) (found : List ℕ) (k : ℕ) (s : State) (rs : List Fraction) → Choosing fits P found k [] s rs → length P.processes ≤ k → AllPass fits (chosen_steps 0 P.processes s rs) × (found ≡ running_soon P s rs) × GoesOn P s rs (running_soon P s rs)
choosing_end fits P found k s rs h l = (
  h.pass (pass_none (Passes fits)),
  sym (append-nil found) ∙ h.so_far,
  goes_on_soon P s rs (λ j p e. h.tells j p (let b = past P.processes j p e in omega arith) e),
)

-- ---- numbers of members
below_if : (n k : ℕ) (b : Bool) (ns : List ℕ) → k < n → All (λ p. p < n) ns → All (λ p. p < n) (if b then k ∷ ns else ns)
below_if n k true ns h r = All-cons (λ p. p < n) k ns h r
below_if n k false ns h r = r

below : (test : Process → Bool) (k n : ℕ) (ps : List Process) → k + length ps ≡ n → All (λ p. p < n) (numbers_of test k ps)
below test k n [] h = All-nil (λ p. p < n)
below test k n (p ∷ ps) h = below_if n k (test p) _ (omega arith) (below test (suc k) n ps (omega arith))

pub members_by : (test : Process → Bool) (ps : List Process) (n : ℕ) (members : List ℕ) → length ps ≡ n → members ≡ numbers_of test 0 ps → AreMembers n members
members_by test ps n members h e = subst (AreMembers n) (sym e) (record { inside = below test 0 n ps (omega arith); rising = rising-numbers test 0 ps })

pub holding_members : (P : Problem) (s : State) (n : ℕ) (members : List ℕ) → length P.processes ≡ n → members ≡ holding P s → AreMembers n members
holding_members P s n members h e = members_by (λ (p : Process). holds p.condition s) P.processes n members h e

pub soon_members : (P : Problem) (s : State) (rs : List Fraction) (n : ℕ) (members : List ℕ) → length P.processes ≡ n → members ≡ running_soon P s rs → AreMembers n members
unfolding running_soon
soon_members P s rs n members h e = members_by (λ (p : Process). soon p s rs) P.processes n members h e
