-- How far events are known not to hold just after.
use Rattle.std.proofs.Common.{◌≡◌, ℕ, ◌<◌, ◌≤◌, ◌+◌, zero, suc, Bool, true, false, List, [], ◌∷◌, ◌++◌, length, drop, refl, ap, sym, subst, ◌∙◌, inl, inr, ◌⊎◌, arith, append_assoc}
use Rattle.std.proofs.lemmas.Bool.{cases_lt}
use Rattle.std.proofs.lemmas.List.Elements.{All-head, All-tail}
use Rattle.std.specs.Prelude.{Option, Some, None, IsSomeAnd, slice_get, ◌↔◌, if◌then◌else◌}
use Rattle.std.specs.List.{All}
use Rattle.plus_fraction.specs.Fraction.{Fraction}
use Rattle.plus_model.specs.Terms.{Event, State, Problem}
use Rattle.plus_model.specs.Piece.{after}
use Rattle.plus_model.specs.Live.{live}
use Rattle.plus_model.specs.Running.{JustAfter}
use Rattle.plus_model.specs.Breach as model
use Rattle.plus_model.specs.Breach.{IsFirst, HoldsAfter}
use Rattle.plus_state.specs.Numbers.{AreMembers}
use Rattle.plus_state.specs.Fits.{EventFits}
use Rattle.plus_state.proofs.Testing.{pass_none, pass_append, fail_here, fail_left, fail_right, carry_pass, carry_fail}
use Rattle.plus_crossing.specs.Asked as crossing
use Rattle.plus_crossing.specs.Conds.{live_asks}
use Rattle.plus_crossing.proofs.Straight.{soon_tells}
use Rattle.plus_stretch.specs.Tests.{event, Test, breach, Passes, AllPass, FirstFailing, of_ask}
use Rattle.plus_stretch.specs.StretchTests.{after_tests, if_none}
use Rattle.plus_settle.proofs.StillLemmas.Listed.{PassesOver, Walked, walked_start, walked_here, walked_end, item_at, from_item, none_left}
use Rattle.plus_stretch.specs.After.{soon, event_tests, soon_tests, first_after, NoneHoldsAfter}
use Rattle.plus_stretch.specs.Among.{IsNotSoon, OthersNotSoon}
use Rattle.plus_stretch.proofs.Layers.{asks_carry}
use Rattle.plus_settle.proofs.ConfirmsLemmas.{both_true}

-- ---- one event
pub soon_pass : (fits : Fraction → Type 0) (k : ℕ) (e : Event) (s : State) (rs : List Fraction) (b : Bool) → crossing.AllPass fits (live_asks 0 e.condition s rs) → ((b ≡ true) ↔ JustAfter s rs e.condition) → AllPass fits (event_tests k e s rs) × (b ≡ soon e s rs) × ((soon e s rs ≡ true) ↔ JustAfter s rs e.condition)
unfolding event_tests soon
soon_pass fits k e s rs b a t =
    let u = soon_tells fits 0 e.condition s rs a in (
      carry_pass (asks_carry fits (event k)) _ a,
      both_true b (after (live e.condition s) s rs) (λ e. u.0 (t.0 e)) (λ e. t.1 (u.1 e)),
      (u.1, u.0),
    )

pub soon_stop : (fits : Fraction → Type 0) (k : ℕ) (e : Event) (s : State) (rs : List Fraction) (m : crossing.Ask) → crossing.FirstFailing fits (live_asks 0 e.condition s rs) m → FirstFailing fits (event_tests k e s rs) (of_ask (event k) m)
unfolding event_tests
soon_stop fits k e s rs m h = carry_fail (asks_carry fits (event k)) _ m h

-- ---- all events
pub record Waiting (fits : Fraction → Type 0) (P : Problem) (k : ℕ) (rest : List Event) (s : State) (rs : List Fraction) : Type 0 where
  pub inside : All (EventFits (length s.atoms) (length s.fluents)) rest
  pub so_far : first_after k rest s rs ≡ first_after 0 P.events s rs
  pub pass : AllPass fits (soon_tests k rest s rs) → AllPass fits (soon_tests 0 P.events s rs)
  pub stop : (m : Test) → FirstFailing fits (soon_tests k rest s rs) m → FirstFailing fits (soon_tests 0 P.events s rs) m
  pub none : (j : ℕ) → j < k → HoldsAfter P s rs j → ⊥

pub waiting_start : (fits : Fraction → Type 0) (P : Problem) (s : State) (rs : List Fraction) → All (EventFits (length s.atoms) (length s.fluents)) P.events → Waiting fits P 0 P.events s rs
waiting_start fits P s rs h = record { inside = h; so_far = refl; pass = λ a. a; stop = λ m u. u; none = λ j l. absurd (omega arith) }

module _ (fits : Fraction → Type 0) (P : Problem) (k : ℕ) (e : Event) (rest : List Event) (s : State) (rs : List Fraction) (h : Waiting fits P k (e ∷ rest) s rs) where
  pub waiting_inside : EventFits (length s.atoms) (length s.fluents) e
  waiting_inside = All-head (EventFits (length s.atoms) (length s.fluents)) e rest h.inside

  pub waiting_stop : (m : Test) → FirstFailing fits (event_tests k e s rs) m → FirstFailing fits (soon_tests 0 P.events s rs) m
  waiting_stop m u = h.stop m (fail_left (Passes fits) _ _ m u)

  -- what the place of the event tells
  holds_here : slice_get P.events k ≡ Some e → ((soon e s rs ≡ true) ↔ JustAfter s rs e.condition) → (soon e s rs ≡ true) ↔ HoldsAfter P s rs k
  holds_here g t = (
    λ d. subst (λ (o : Option Event). IsSomeAnd o (λ x. JustAfter s rs x.condition)) (sym g) (t.0 d),
    λ r. t.1 (subst (λ (o : Option Event). IsSomeAnd o (λ x. JustAfter s rs x.condition)) g r),
  )

  chosen : (b : Bool) → soon e s rs ≡ b → event_tests k e s rs ++ (if b then [] else soon_tests (suc k) rest s rs) ≡ soon_tests k (e ∷ rest) s rs
  chosen b d = ap (λ (c : Bool). event_tests k e s rs ++ (if c then [] else soon_tests (suc k) rest s rs)) (sym d)

  up_to : (j : ℕ) → j < suc k → (j < k) ⊎ (j ≡ k)
  up_to j l = elim (cases_lt j k) [ inl b ↦ inl b | inr b ↦ inr (omega arith) ]

  differ : (b : Bool) → b ≡ false → b ≡ true → ⊥
  differ b f t = cc

  pub waiting_next : AllPass fits (event_tests k e s rs) → ((soon e s rs ≡ true) ↔ JustAfter s rs e.condition) → slice_get P.events k ≡ Some e → soon e s rs ≡ false → Waiting fits P (k + 1) rest s rs
  waiting_next a t g d =
      let one : suc k ≡ k + 1 = omega arith in
      let r = holds_here g t in
      subst (λ (i : ℕ). Waiting fits P i rest s rs) one (record {
        inside = All-tail (EventFits (length s.atoms) (length s.fluents)) e rest h.inside;
        so_far = ap (λ (c : Bool). if c then Some k else first_after (suc k) rest s rs) (sym d) ∙ h.so_far;
        pass = λ b. h.pass (subst (AllPass fits) (chosen false d) (pass_append (Passes fits) _ _ a b));
        stop = λ m u. h.stop m (subst (λ (ns : List Test). FirstFailing fits ns m) (chosen false d) (fail_right (Passes fits) _ _ m a u));
        none = λ j l x. elim (up_to j l) [
          | inl b ↦ h.none j b x
          | inr q ↦ differ (soon e s rs) d (r.1 (subst (HoldsAfter P s rs) q x))
        ];
      })

  pub waiting_found : AllPass fits (event_tests k e s rs) → ((soon e s rs ≡ true) ↔ JustAfter s rs e.condition) → slice_get P.events k ≡ Some e → soon e s rs ≡ true → AllPass fits (soon_tests 0 P.events s rs) × (Some k ≡ first_after 0 P.events s rs) × IsFirst (HoldsAfter P s rs) k
  waiting_found a t g d =
      let r = holds_here g t in (
        h.pass (subst (AllPass fits) (chosen true d) (pass_append (Passes fits) _ _ a (pass_none (Passes fits)))),
        ap (λ (c : Bool). if c then Some k else first_after (suc k) rest s rs) (sym d) ∙ h.so_far,
        record { has = r.0 d; none_before = h.none },
      )

within : (es : List Event) (i : ℕ) (e : Event) → slice_get es i ≡ Some e → i < length es
within [] i e g = cc
within (d ∷ es) zero e g = omega arith
within (d ∷ es) (suc i) e g = let l = within es i e g in omega arith

pub waiting_end : (fits : Fraction → Type 0) (P : Problem) (k : ℕ) (s : State) (rs : List Fraction) → Waiting fits P k [] s rs → length P.events ≤ k → AllPass fits (soon_tests 0 P.events s rs) × (None ≡ first_after 0 P.events s rs) × NoneHoldsAfter P s rs
waiting_end fits P k s rs h l = (
  h.pass (pass_none (Passes fits)),
  h.so_far,
  λ i e g j. h.none i (let b = within P.events i e g in omega arith) (subst (λ (o : Option Event). IsSomeAnd o (λ x. JustAfter s rs x.condition)) (sym g) j),
)

-- ---- a look at some events
module _ (fits : Fraction → Type 0) (P : Problem) (s : State) (rs : List Fraction) where
  -- no event up to number k holds just after
  abbrev pub NotYet : ℕ → Type 0
  NotYet k = Waiting fits P k (drop k P.events) s rs

  not_soon_tells : (k : ℕ) (e : Event) → IsNotSoon fits s rs e → AllPass fits (event_tests k e s rs) × (soon e s rs ≡ soon e s rs) × ((soon e s rs ≡ true) ↔ JustAfter s rs e.condition)
  unfolding soon
  not_soon_tells k e h =
      let u = soon_tells fits 0 e.condition s rs h.pass in
      soon_pass fits k e s rs (after (live e.condition s) s rs) h.pass (u.1, u.0)

  passes_over : (listed : List ℕ) → OthersNotSoon fits P s rs listed → PassesOver NotYet (length P.events) listed
  passes_over listed o k l n h =
      let i = item_at P.events k l in
      let q = o k i.item i.is n in
      let t = not_soon_tells k i.item q in
      waiting_next fits P k i.item (drop (k + 1) P.events) s rs (subst (λ (es : List Event). Waiting fits P k es s rs) (from_item P.events k i.item i.is) h) t.0 t.2 i.is q.not

  pub not_yet_start : (listed : List ℕ) → All (EventFits (length s.atoms) (length s.fluents)) P.events → AreMembers (length P.events) listed → Walked NotYet (length P.events) listed listed
  not_yet_start listed f m = walked_start NotYet (length P.events) listed m (waiting_start fits P s rs f)

  -- no event before a listed one does
  pub waiting_at : (listed : List ℕ) (k : ℕ) (rest : List ℕ) (e : Event) → OthersNotSoon fits P s rs listed → slice_get P.events k ≡ Some e → Walked NotYet (length P.events) (k ∷ rest) listed → Waiting fits P k (e ∷ drop (k + 1) P.events) s rs
  waiting_at listed k rest e o g w =
      subst (λ (es : List Event). Waiting fits P k es s rs) (from_item P.events k e g) (walked_here NotYet (length P.events) k rest listed w (passes_over listed o))

  pub not_yet_end : (listed : List ℕ) → OthersNotSoon fits P s rs listed → Walked NotYet (length P.events) [] listed → AllPass fits (soon_tests 0 P.events s rs) × (None ≡ first_after 0 P.events s rs) × NoneHoldsAfter P s rs
  not_yet_end listed o w =
      let h : NotYet (length P.events) = walked_end NotYet (length P.events) listed w (passes_over listed o) in
      waiting_end fits P (length P.events) s rs (subst (λ (es : List Event). Waiting fits P (length P.events) es s rs) (none_left P.events) h) (omega arith)

-- ---- the list of the tests with the breach, and then the rest
abbrev breach_at : Fraction → Option ℕ → List Test → List Test
breach_at t None rest = rest
breach_at t (Some k) rest = breach (model.NoFirstMoment k t) ∷ []

next_or : (t : Fraction) (k : ℕ) (es : List Event) (s : State) (rs : List Fraction) (rest : List Test) (b : Bool) → after_tests t (suc k) es s rs rest ≡ soon_tests (suc k) es s rs ++ breach_at t (first_after (suc k) es s rs) rest → (if b then breach (model.NoFirstMoment k t) ∷ [] else after_tests t (suc k) es s rs rest) ≡ (if b then [] else soon_tests (suc k) es s rs) ++ breach_at t (if b then Some k else first_after (suc k) es s rs) rest
next_or t k es s rs rest true h = refl
next_or t k es s rs rest false h = h

pub after_is : (t : Fraction) (k : ℕ) (es : List Event) (s : State) (rs : List Fraction) (rest : List Test) → after_tests t k es s rs rest ≡ soon_tests k es s rs ++ breach_at t (first_after k es s rs) rest
unfolding event_tests soon
after_is t k [] s rs rest = refl
after_is t k (e ∷ es) s rs rest =
    ap (λ (ts : List Test). event_tests k e s rs ++ ts) (next_or t k es s rs rest (soon e s rs) (after_is t (suc k) es s rs rest))
    ∙ sym (append_assoc (event_tests k e s rs) (if soon e s rs then [] else soon_tests (suc k) es s rs) (breach_at t (first_after k (e ∷ es) s rs) rest))

breach_split : (t : Fraction) (o : Option ℕ) (rest : List Test) → breach_at t o rest ≡ breach_at t o [] ++ if_none o rest
breach_split t None rest = refl
breach_split t (Some k) rest = refl

-- what stands behind them comes where no event holds just after
pub after_split : (t : Fraction) (es : List Event) (s : State) (rs : List Fraction) (rest : List Test) → after_tests t 0 es s rs rest ≡ after_tests t 0 es s rs [] ++ if_none (first_after 0 es s rs) rest
after_split t es s rs rest =
    let o : Option ℕ = first_after 0 es s rs in
    after_is t 0 es s rs rest ∙ ap (λ (ts : List Test). soon_tests 0 es s rs ++ ts) (breach_split t o rest)
    ∙ sym (append_assoc (soon_tests 0 es s rs) (breach_at t o []) (if_none o rest))
    ∙ ap (λ (ts : List Test). ts ++ if_none o rest) (sym (after_is t 0 es s rs []))

-- ---- whether none holds, told of these tests
module _ (fits : Fraction → Type 0) (t : Fraction) (P : Problem) (s : State) (rs : List Fraction) where
  pub soon_fails : (m : Test) → FirstFailing fits (soon_tests 0 P.events s rs) m → FirstFailing fits (after_tests t 0 P.events s rs []) m
  soon_fails m h = subst (λ (ts : List Test). FirstFailing fits ts m) (sym (after_is t 0 P.events s rs [])) (fail_left (Passes fits) _ _ m h)

  found : (o : Option ℕ) → first_after 0 P.events s rs ≡ o → after_tests t 0 P.events s rs [] ≡ soon_tests 0 P.events s rs ++ breach_at t o []
  found o e = after_is t 0 P.events s rs [] ∙ ap (λ (p : Option ℕ). soon_tests 0 P.events s rs ++ breach_at t p []) e

  pub soon_breaks : (e : ℕ) → AllPass fits (soon_tests 0 P.events s rs) → Some e ≡ first_after 0 P.events s rs → FirstFailing fits (after_tests t 0 P.events s rs []) (breach (model.NoFirstMoment e t))
  unfolding Passes
  soon_breaks e a d =
      subst (λ (ts : List Test). FirstFailing fits ts (breach (model.NoFirstMoment e t))) (sym (found (Some e) (sym d)))
      (fail_right (Passes fits) _ _ _ a (fail_here (Passes fits) (breach (model.NoFirstMoment e t)) [] (λ h. h)))

  pub soon_passes : AllPass fits (soon_tests 0 P.events s rs) → None ≡ first_after 0 P.events s rs → AllPass fits (after_tests t 0 P.events s rs [])
  soon_passes a d = subst (AllPass fits) (sym (found None (sym d))) (pass_append (Passes fits) _ _ a (pass_none (Passes fits)))
