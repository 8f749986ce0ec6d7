-- How far processes agree with their membership.
use Rattle.std.proofs.Common.{◌≡◌, ℕ, ◌<◌, ◌≤◌, ◌+◌, suc, Bool, true, false, List, [], ◌∷◌, ◌++◌, length, refl, ap, sym, subst, ◌∙◌, inl, inr, ◌⊎◌, arith}
use Rattle.std.proofs.lemmas.Bool.{cases_lt}
use Rattle.std.proofs.lemmas.List.Elements.{All-head, All-tail}
use Rattle.std.specs.Prelude.{Option, Some, None, IsSomeAnd, slice_get, ◌↔◌, if◌then◌else◌}
use Rattle.std.specs.List.{All}
use Rattle.plus_fraction.specs.Fraction.{Fraction}
use Rattle.plus_model.specs.Terms.{Process, State, Problem}
use Rattle.plus_model.specs.Firing.{is_in}
use Rattle.plus_model.specs.Piece.{after}
use Rattle.plus_model.specs.Live.{live}
use Rattle.plus_model.specs.Running.{JustAfter, RunsAfter, GoesOn}
use Rattle.plus_model.specs.Breach.{IsFirst, Differs}
use Rattle.plus_state.specs.Fits.{ProcessFits}
use Rattle.plus_crossing.specs.Asked as crossing
use Rattle.plus_crossing.specs.Conds.{live_asks}
use Rattle.plus_crossing.proofs.Straight.{soon_tells}
use Rattle.plus_settle.specs.declared.stops.GoStop.{GoStop}
use Rattle.plus_settle.specs.declared.stops.GoStop.TheVariants.{Number, Nonlinear}
use Rattle.plus_settle.specs.Steps.{SettleStep, AllPass, FirstStop, of_ask, Passes}
use Rattle.plus_settle.specs.Members.{AreMembers, soon}
use Rattle.plus_settle.specs.Confirms.{soon_steps, differ, confirm_steps, go_steps, first_other, GoStops}
use Rattle.plus_state.proofs.Testing.{pass_none, pass_append, fail_left, fail_right}
use Rattle.plus_settle.proofs.StepsLemmas.{pass_owned, stop_owned}
use Rattle.plus_settle.proofs.MembersLemmas.{all_in, past_end}

-- ---- one process
pub both_true : (b c : Bool) → ((b ≡ true) → (c ≡ true)) → ((c ≡ true) → (b ≡ true)) → b ≡ c
both_true true c f g = sym (f refl)
both_true false true f g = g refl
both_true false false f g = refl

pub soon_pass : (fits : Fraction → Type 0) (k : ℕ) (p : Process) (s : State) (rs : List Fraction) (b : Bool) → crossing.AllPass fits (live_asks 0 p.condition s rs) → ((b ≡ true) ↔ JustAfter s rs p.condition) → AllPass fits (soon_steps k p s rs) × (b ≡ soon p s rs) × ((soon p s rs ≡ true) ↔ JustAfter s rs p.condition)
unfolding soon_steps soon
soon_pass fits k p s rs b a t =
    let u = soon_tells fits 0 p.condition s rs a in (
      pass_owned fits k _ a,
      both_true b (after (live p.condition s) s rs) (λ e. u.0 (t.0 e)) (λ e. t.1 (u.1 e)),
      (u.1, u.0),
    )

pub soon_stop : (fits : Fraction → Type 0) (k : ℕ) (p : Process) (s : State) (rs : List Fraction) (m : crossing.Ask) → crossing.FirstFailing fits (live_asks 0 p.condition s rs) m → FirstStop fits (soon_steps k p s rs) (of_ask k m)
unfolding soon_steps
soon_stop fits k p s rs m h = stop_owned fits k _ m h

-- ---- all processes
pub record Confirming (fits : Fraction → Type 0) (P : Problem) (members : List ℕ) (k : ℕ) (rest : List Process) (s : State) (rs : List Fraction) : Type 0 where
  pub inside : All (ProcessFits (length s.atoms) (length s.fluents)) rest
  pub so_far : first_other members k rest s rs ≡ first_other members 0 P.processes s rs
  pub pass : AllPass fits (confirm_steps members k rest s rs) → AllPass fits (go_steps P members s rs)
  pub stop : (m : SettleStep) → FirstStop fits (confirm_steps members k rest s rs) m → FirstStop fits (go_steps P members s rs) m
  pub agree : (j : ℕ) → j < k → (is_in members j ≡ true) ↔ RunsAfter P s rs j

pub confirming_start : (fits : Fraction → Type 0) (P : Problem) (members : List ℕ) (s : State) (rs : List Fraction) → All (ProcessFits (length s.atoms) (length s.fluents)) P.processes → Confirming fits P members 0 P.processes s rs
unfolding go_steps
confirming_start fits P members s rs h = record { inside = h; so_far = refl; pass = λ a. a; stop = λ m u. u; agree = λ j l. absurd (omega arith) }

module _ (fits : Fraction → Type 0) (P : Problem) (members : List ℕ) (k : ℕ) (p : Process) (rest : List Process) (s : State) (rs : List Fraction) (h : Confirming fits P members k (p ∷ rest) s rs) where
  pub confirming_inside : ProcessFits (length s.atoms) (length s.fluents) p
  confirming_inside = All-head (ProcessFits (length s.atoms) (length s.fluents)) p rest h.inside

  confirming_stop : (m : SettleStep) → FirstStop fits (soon_steps k p s rs) m → FirstStop fits (go_steps P members s rs) m
  confirming_stop m u = h.stop m (fail_left (Passes fits) _ _ m u)

  pub confirming_stops : {Q : Type 0} (v : Q → Fraction) (e : GoStop Q) → GoStops v fits (soon_steps k p s rs) e → GoStops v fits (go_steps P members s rs) e
  confirming_stops v (Number o) u = confirming_stop _ u
  confirming_stops v (Nonlinear q c) u = confirming_stop _ u

  -- what the place of the process tells
  runs_here : slice_get P.processes k ≡ Some p → ((soon p s rs ≡ true) ↔ JustAfter s rs p.condition) → (soon p s rs ≡ true) ↔ RunsAfter P s rs k
  runs_here e t = (
    λ d. subst (λ (o : Option Process). IsSomeAnd o (λ q. JustAfter s rs q.condition)) (sym e) (t.0 d),
    λ r. t.1 (subst (λ (o : Option Process). IsSomeAnd o (λ q. JustAfter s rs q.condition)) e r),
  )

  alike : (x y : Bool) → differ x y ≡ false → x ≡ y
  alike true true e = refl
  alike true false e = cc
  alike false y e = sym e

  unlike : (x y : Bool) → differ x y ≡ true → x ≡ y → ⊥
  unlike true true e d = cc
  unlike true false e d = cc
  unlike false true e d = cc
  unlike false false e d = cc

  chosen : (b : Bool) → differ (soon p s rs) (is_in members k) ≡ b → soon_steps k p s rs ++ (if b then [] else confirm_steps members (suc k) rest s rs) ≡ confirm_steps members k (p ∷ rest) s rs
  chosen b e = ap (λ (c : Bool). soon_steps k p s rs ++ (if c then [] else confirm_steps members (suc k) rest s rs)) (sym e)

  up_to : (j : ℕ) → j < suc k → (j < k) ⊎ (j ≡ k)
  up_to j l = elim (cases_lt j k) [ inl b ↦ inl b | inr b ↦ inr (omega arith) ]

  pub confirming_next : AllPass fits (soon_steps k p s rs) → ((soon p s rs ≡ true) ↔ JustAfter s rs p.condition) → slice_get P.processes k ≡ Some p → differ (soon p s rs) (is_in members k) ≡ false → Confirming fits P members (k + 1) rest s rs
  confirming_next a t e d =
      let one : suc k ≡ k + 1 = omega arith in
      let r = runs_here e t in
      let w : soon p s rs ≡ is_in members k = alike _ _ d in
      subst (λ (i : ℕ). Confirming fits P members i rest s rs) one (record {
        inside = All-tail (ProcessFits (length s.atoms) (length s.fluents)) p rest h.inside;
        so_far = ap (λ (c : Bool). if c then Some k else first_other members (suc k) rest s rs) (sym d) ∙ h.so_far;
        pass = λ b. h.pass (subst (AllPass fits) (chosen false d) (pass_append (Passes fits) _ _ a b));
        stop = λ m u. h.stop m (subst (λ (ns : List SettleStep). FirstStop fits ns m) (chosen false d) (fail_right (Passes fits) _ _ m a u));
        agree = λ j l. elim (up_to j l) [
          | inl b ↦ h.agree j b
          | inr q ↦ subst (λ (i : ℕ). (is_in members i ≡ true) ↔ RunsAfter P s rs i) (sym q) ((λ m. r.0 (w ∙ m)), (λ x. sym w ∙ r.1 x))
        ];
      })

  pub confirming_found : AllPass fits (soon_steps k p s rs) → ((soon p s rs ≡ true) ↔ JustAfter s rs p.condition) → slice_get P.processes k ≡ Some p → differ (soon p s rs) (is_in members k) ≡ true → AllPass fits (go_steps P members s rs) × (Some k ≡ first_other members 0 P.processes s rs) × IsFirst (Differs P s members rs) k
  confirming_found a t e d =
      let r = runs_here e t in (
        h.pass (subst (AllPass fits) (chosen true d) (pass_append (Passes fits) _ _ a (pass_none (Passes fits)))),
        ap (λ (c : Bool). if c then Some k else first_other members (suc k) rest s rs) (sym d) ∙ h.so_far,
        record {
          has = λ x. unlike _ _ d (both_true _ _ (λ y. x.1 (r.0 y)) (λ y. r.1 (x.0 y)));
          none_before = λ j l x. x (h.agree j l);
        },
      )

pub confirming_end : (fits : Fraction → Type 0) (P : Problem) (members : List ℕ) (k : ℕ) (s : State) (rs : List Fraction) → Confirming fits P members k [] s rs → length P.processes ≤ k → AreMembers (length P.processes) members → AllPass fits (go_steps P members s rs) × (None ≡ first_other members 0 P.processes s rs) × GoesOn P s rs members
confirming_end fits P members k s rs h l a = (
  h.pass (pass_none (Passes fits)),
  h.so_far,
  record {
    rising = a.rising;
    members = λ j. (
      (λ e. (h.agree j (let b = all_in (length P.processes) members j a.inside e in omega arith)).0 e),
      (λ r. elim (below_or j) [ inl b ↦ (h.agree j b).1 r | inr b ↦ absurd (past j b r) ]),
    );
  },
)
  where
    below_or : (j : ℕ) → (j < k) ⊎ (length P.processes ≤ j)
    below_or j = elim (cases_lt j k) [ inl b ↦ inl b | inr b ↦ inr (omega arith) ]

    past : (j : ℕ) → length P.processes ≤ j → RunsAfter P s rs j → ⊥
    past j b r = let q : IsSomeAnd None (λ (p : Process). JustAfter s rs p.condition) = subst (λ (o : Option Process). IsSomeAnd o (λ p. JustAfter s rs p.condition)) (past_end P.processes j b) r in elim q [ ]

-- a set that goes on has no process that differs
pub differs_stops : (P : Problem) (members : List ℕ) (s : State) (rs : List Fraction) (k : ℕ) → IsFirst (Differs P s members rs) k → GoesOn P s rs members → ⊥
differs_stops P members s rs k d g = d.has (g.members k)
