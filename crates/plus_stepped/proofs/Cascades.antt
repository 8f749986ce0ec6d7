-- How far a cascade is worked, and that a breach stands in no cascade.
use Rattle.std.proofs.Common.{◌≡◌, ℕ, zero, suc, ◌<◌, Bool, true, false, List, [], ◌∷◌, ◌++◌, length, map, set, replicate, refl, ap, ap₂, sym, subst, ◌∙◌, arith, cond, inl, inr}
use Rattle.std.proofs.lemmas.List.{length-set, length-replicate}
use Rattle.std.specs.Prelude.{◌≢◌, Option, Some, None, Result, Ok, Err, find}
use Rattle.std.specs.List.{All}
use Rattle.plus_fraction.specs.Fraction.{Fraction}
use Rattle.plus_model.specs.Terms.{State, Problem}
use Rattle.plus_model.specs.Joint as model
use Rattle.plus_model.specs.Joint.{Fault, joint}
use Rattle.plus_model.specs.Firing.{firing, effects_of, is_in, first_shared, IsRound, Cascade}
use Rattle.plus_state.specs.Fits.{StateFits}
use Rattle.plus_state.specs.Steps as joint_steps
use Rattle.plus_state.specs.Steps.{joint_steps}
use Rattle.plus_state.proofs.Testing.{pass_none, none_fails, pass_append, fail_left, fail_right, fail_split, carry_pass, carry_fail, carry_from}
use Rattle.plus_state.proofs.JointLemmas.{joint_stops}
use Rattle.plus_cascade.specs.Fired.{has_fired, first_repeated, with_fired, IsSetOf}
use Rattle.plus_cascade.specs.Steps.{RoundStep, asks, fails, repeats, Passes, AllPass, FirstStop, of_step, condition_nodes, repeat_steps, fire_steps, round_steps}
use Rattle.plus_cascade.specs.declared.rounds.CascadeStop.{CascadeStop}
use Rattle.plus_cascade.specs.declared.rounds.CascadeStop.TheVariants.{Repeats, Conflict, NoValue, Number, Memory}
use Rattle.plus_cascade.specs.Rounds.{Fires, StopIs}
use Rattle.plus_cascade.proofs.SetLemmas.{empty_at_first, rounds_go_on, firing_all}
use Rattle.plus_cascade.proofs.StepsLemmas.{nodes_carry, joint_carries}
use Rattle.plus_steps.specs.Stepped.{Rests}
use Rattle.plus_stepped.specs.Tests as tests
use Rattle.plus_stepped.specs.Tests.{StepTest, IsBreach, of_round}
use Rattle.plus_stepped.specs.Asked.{where_ok, after_round, rounds_steps, cascade_tests}
use Rattle.plus_state.specs.View.{overflow_of}
use Rattle.plus_stepped.specs.Stops.{of_cascade}
use Rattle.plus_stepped.specs.Told.{Told}
use Rattle.plus_stepped.specs.Never.{CannotRest}
use Rattle.plus_stepped.specs.Laws.{BreachIsNoCascade}
use Rattle.plus_stepped.proofs.Layers.{rounds_carry}
use Rattle.plus_stepped.proofs.Unfired.{unfired, unfired-none, fewer_unfired}

-- what comes behind a round that is there
round_after : (P : Problem) (s : State) (events : List ℕ) (after : State) (more : State → List RoundStep) → events ≢ [] → joint (effects_of P events) s ≡ Ok after → after_round P s events more ≡ more after
round_after P s [] after more z j = absurd (z refl)
round_after P s (e ∷ es) after more z j = ap (λ (r : Result State Fault). where_ok r more) j

length-fired : (fired : List Bool) (events : List ℕ) → length (with_fired fired events) ≡ length fired
length-fired fired [] = refl
length-fired fired (e ∷ es) = length-fired _ es ∙ length_set fired e
  where
    length_set : (bs : List Bool) (k : ℕ) → length (set bs k true) ≡ length bs
    length_set bs k = length-set bs k true

-- ---- how far a cascade is worked: the state now, the events that have fired, and how many rounds may be left
pub record Cascading (fits : Fraction → Type 0) (P : Problem) (start now : State) (fired : List Bool) : Type 0 where
  pub before : List ℕ
  pub same : IsSetOf fired before
  pub size : length fired ≡ length P.events
  pub left : ℕ
  pub enough : unfired fired < left
  pub fit : StateFits P.atoms P.fluents now
  pub on : (last : State) → Rests P before now last → Rests P [] start last
  pub pass : AllPass fits (rounds_steps left P fired now) → tests.AllPass fits (cascade_tests P start)
  pub stop : (m : RoundStep) → FirstStop fits (rounds_steps left P fired now) m → tests.FirstFailing fits (cascade_tests P start) (of_round m)

pub cascading_start : (fits : Fraction → Type 0) (P : Problem) (s : State) (fired : List Bool) → StateFits P.atoms P.fluents s → fired ≡ replicate (length P.events) false → Cascading fits P s s fired
unfolding cascade_tests
cascading_start fits P s fired f e = subst (λ (bs : List Bool). Cascading fits P s s bs) (sym e) (record {
  before = [];
  same = empty_at_first (length P.events);
  size = length-replicate (length P.events) false;
  left = suc (length P.events);
  enough = let h = unfired-none (length P.events) in omega arith;
  fit = f;
  on = λ last r. r;
  pass = λ a. carry_pass (rounds_carry fits) _ a;
  stop = λ m u. carry_fail (rounds_carry fits) _ m u;
})

module _ (fits : Fraction → Type 0) (P : Problem) (start now : State) (fired : List Bool) (h : Cascading fits P start now fired) where
  -- some round is left
  left_is : (n : ℕ) → unfired fired < n → (k : ℕ) × (n ≡ suc k)
  left_is zero l = absurd (omega arith)
  left_is (suc k) l = (k, refl)

  pub cascading_end : AllPass fits (round_steps P fired now) → firing P now ≡ [] → tests.AllPass fits (cascade_tests P start) × Rests P [] start now
  cascading_end a e =
      let k = left_is h.left h.enough in
      let rest : after_round P now (firing P now) (λ after. rounds_steps k.0 P (with_fired fired (firing P now)) after) ≡ [] = ap (λ (es : List ℕ). after_round P now es (λ after. rounds_steps k.0 P (with_fired fired es) after)) e in (
        h.pass (subst (λ (n : ℕ). AllPass fits (rounds_steps n P fired now)) (sym k.1) (pass_append (Passes fits) _ _ a (subst (AllPass fits) (sym rest) (pass_none (Passes fits))))),
        h.on now (record { rounds = []; cascade = (e, refl) }),
      )

  pub cascading_stop : (m : RoundStep) → FirstStop fits (round_steps P fired now) m → tests.FirstFailing fits (cascade_tests P start) (of_round m)
  cascading_stop m u =
      let k = left_is h.left h.enough in
      h.stop m (subst (λ (n : ℕ). FirstStop fits (rounds_steps n P fired now) m) (sym k.1) (fail_left (Passes fits) _ _ m u))

  pub cascading_next : (events : List ℕ) (after : State) → AllPass fits (round_steps P fired now) → Fires P fired now events after → StateFits P.atoms P.fluents after → Cascading fits P start after (with_fired fired events)
  cascading_next events after a f z =
      let k = left_is h.left h.enough in
      let g = rounds_go_on P fired h.before now events after h.size h.same f in
      let inside : All (λ e. e < length fired) events = firing_all P now (length fired) events (sym h.size) f.all in
      let less = fewer_unfired fired events f.some inside f.fresh in
      let enough = h.enough in
      let is = k.1 in
      let rest : after_round P now (firing P now) (λ next. rounds_steps k.0 P (with_fired fired (firing P now)) next) ≡ rounds_steps k.0 P (with_fired fired events) after
      = sym (ap (λ (es : List ℕ). after_round P now es (λ next. rounds_steps k.0 P (with_fired fired es) next)) f.all) ∙ round_after P now events after (λ next. rounds_steps k.0 P (with_fired fired events) next) f.some f.effect in
      record {
        before = h.before ++ events;
        same = g.1;
        size = length-fired fired events ∙ h.size;
        left = k.0;
        enough = omega arith;
        fit = z;
        on = λ last r. h.on last (record { rounds = (events, after) ∷ r.rounds; cascade = (g.0, r.cascade) });
        pass = λ b. h.pass (subst (λ (n : ℕ). AllPass fits (rounds_steps n P fired now)) (sym is) (pass_append (Passes fits) _ _ a (subst (AllPass fits) (sym rest) b)));
        stop = λ m u. h.stop m (subst (λ (n : ℕ). FirstStop fits (rounds_steps n P fired now) m) (sym is) (fail_right (Passes fits) _ _ m a (subst (λ (ns : List RoundStep). FirstStop fits ns m) (sym rest) u)));
      }

-- ---- a breach stands in no cascade
find_same : (f g : ℕ → Bool) (xs : List ℕ) → ((k : ℕ) → f k ≡ g k) → find f xs ≡ find g xs
find_same f g [] h = refl
find_same f g (x ∷ xs) h = ap₂ (λ (b : Bool) (o : Option ℕ). cond b (Some x) o) (h x) (find_same f g xs h)

round_fresh : (fired : List Bool) (before events : List ℕ) → IsSetOf fired before → first_shared events before ≡ None → first_repeated fired events ≡ None
unfolding first_shared first_repeated
round_fresh fired before events same h = find_same (has_fired fired) (is_in before) events same.same ∙ h

module _ (fits : Fraction → Type 0) (P : Problem) where
  abbrev Breaks : RoundStep → Type 0
  Breaks m = IsBreach (of_round m)

  no_asks : (ns : List _) (m : RoundStep) → FirstStop fits (map asks ns) m → Breaks m → ⊥
  no_asks ns m u b = let k = carry_from (nodes_carry fits) ns m u in subst Breaks k.1.1 b

  joint_breaks : (s : State) (es : List _) (k : joint_steps.Step) (m : RoundStep) → joint_steps.FirstStop fits (joint_steps es s) k → m ≡ of_step k → Breaks m → (after : State) → joint es s ≡ Ok after → ⊥
  joint_breaks s es (joint_steps.asks n) m u e b after j = subst Breaks e b
  joint_breaks s es (joint_steps.fault f) m u e b after j =
      let g : joint es s ≡ Err f = joint_stops fits es s f u in
      cc

  repeat_breaks : (o : Option ℕ) (m : RoundStep) → FirstStop fits (repeat_steps o) m → o ≡ None → ⊥
  repeat_breaks None m u e = none_fails (Passes fits) m u
  repeat_breaks (Some x) m u e = cc

  fire_breaks : (fired : List Bool) (s : State) (events : List ℕ) (m : RoundStep) → FirstStop fits (fire_steps P fired s events) m → Breaks m → first_repeated fired events ≡ None → (after : State) → joint (effects_of P events) s ≡ Ok after → ⊥
  unfolding fire_steps
  fire_breaks fired s [] m u b f after j = none_fails (Passes fits) m u
  fire_breaks fired s (e ∷ es) m u b f after j = elim (fail_split (Passes fits) (repeat_steps (first_repeated fired (e ∷ es))) _ m u) [
    | inl x ↦ repeat_breaks (first_repeated fired (e ∷ es)) m x f
    | inr y ↦ (let k = carry_from (joint_carries fits) (joint_steps (effects_of P (e ∷ es)) s) m y.1 in joint_breaks s (effects_of P (e ∷ es)) k.0 m k.1.0 k.1.1 b after j)
  ]

  -- where no event holds, a round asks conditions alone
  still_breaks : (fired : List Bool) (s : State) (m : RoundStep) → FirstStop fits (round_steps P fired s) m → Breaks m → firing P s ≡ [] → ⊥
  unfolding round_steps fire_steps
  still_breaks fired s m u b e = elim (fail_split (Passes fits) (map asks (condition_nodes P.events s)) _ m u) [
    | inl x ↦ no_asks (condition_nodes P.events s) m x b
    | inr y ↦ none_fails (Passes fits) m (subst (λ (es : List ℕ). FirstStop fits (fire_steps P fired s es) m) e y.1)
  ]

  round_breaks : (fired : List Bool) (before : List ℕ) (s : State) (m : RoundStep) → IsSetOf fired before → FirstStop fits (round_steps P fired s) m → Breaks m → (events : List ℕ) (after : State) → IsRound P before s events after → ⊥
  unfolding round_steps
  round_breaks fired before s m same u b events after r = elim (fail_split (Passes fits) (map asks (condition_nodes P.events s)) _ m u) [
    | inl x ↦ no_asks (condition_nodes P.events s) m x b
    | inr y ↦ fire_breaks fired s events m (subst (λ (es : List ℕ). FirstStop fits (fire_steps P fired s es) m) (sym r.all) y.1) b (round_fresh fired before events same r.fresh) after r.effect
  ]

  no_cascade : (n : ℕ) (fired : List Bool) (before : List ℕ) (s : State) (m : RoundStep) → length fired ≡ length P.events → IsSetOf fired before → FirstStop fits (rounds_steps n P fired s) m → Breaks m → (rounds : List (List ℕ × State)) (last : State) → Cascade P before s rounds last → ⊥
  no_cascade zero fired before s m z same u b rounds last c = none_fails (Passes fits) m u
  no_cascade (suc n) fired before s m z same u b [] last c = elim (fail_split (Passes fits) (round_steps P fired s) _ m u) [
    | inl x ↦ still_breaks fired s m x b c.0
    | inr y ↦ none_fails (Passes fits) m (subst (λ (es : List ℕ). FirstStop fits (after_round P s es (λ after. rounds_steps n P (with_fired fired es) after)) m) c.0 y.1)
  ]
  no_cascade (suc n) fired before s m z same u b (r ∷ rounds) last c = elim (fail_split (Passes fits) (round_steps P fired s) _ m u) [
    | inl x ↦ round_breaks fired before s m same x b r.0 r.1 c.0
    | inr y ↦ (
        let f : Fires P fired s r.0 r.1 = record { all = c.0.all; some = c.0.some; fresh = round_fresh fired before r.0 same c.0.fresh; effect = c.0.effect } in
        let g = rounds_go_on P fired before s r.0 r.1 z same f in
        let v : FirstStop fits (after_round P s r.0 (λ after. rounds_steps n P (with_fired fired r.0) after)) m = subst (λ (es : List ℕ). FirstStop fits (after_round P s es (λ after. rounds_steps n P (with_fired fired es) after)) m) (sym c.0.all) y.1 in
        let w : FirstStop fits (rounds_steps n P (with_fired fired r.0) r.1) m = subst (λ (ns : List RoundStep). FirstStop fits ns m) (round_after P s r.0 r.1 (λ after. rounds_steps n P (with_fired fired r.0) after) c.0.some c.0.effect) v in
        no_cascade n (with_fired fired r.0) (before ++ r.0) r.1 m (length-fired fired r.0 ∙ z) g.1 w b rounds last c.1
        )
  ]

pub breach_is_no_cascade : (fits : Fraction → Type 0) → BreachIsNoCascade fits
unfolding cascade_tests
breach_is_no_cascade fits P s m u b last r =
    let k = carry_from (rounds_carry fits) (rounds_steps (suc (length P.events)) P (replicate (length P.events) false) s) m u in
    no_cascade fits P (suc (length P.events)) (replicate (length P.events) false) [] s k.0 (length-replicate (length P.events) false) (empty_at_first (length P.events)) k.1.0 (subst IsBreach k.1.1 b) r.rounds last r.cascade

-- a round is refused
pub cascade_told : {Q A : Type 0} (v : Q → Fraction) (fits : Fraction → Type 0) (P : Problem) (start now : State) (fired : List Bool) (Done : A → Type 0) → Cascading fits P start now fired → (stop : CascadeStop Q) → StopIs v fits (round_steps P fired now) stop
    → Told v fits (cascade_tests P start) Done (CannotRest P start) (Err (of_cascade stop))
cascade_told v fits P start now fired Done h (Repeats e) u =
    let first = cascading_stop fits P start now fired h (repeats e.0) u in
    record { first = first; never = breach_is_no_cascade fits P start _ first tt }
cascade_told v fits P start now fired Done h (Conflict f) u =
    let first = cascading_stop fits P start now fired h (fails (model.Conflict f.0)) u in
    record { first = first; never = breach_is_no_cascade fits P start _ first tt }
cascade_told v fits P start now fired Done h (NoValue f) u =
    let first = cascading_stop fits P start now fired h (fails (model.NoValue f.0)) u in
    record { first = first; never = breach_is_no_cascade fits P start _ first tt }
cascade_told v fits P start now fired Done h (Number o) u = cascading_stop fits P start now fired h (asks (overflow_of v o)) u
cascade_told v fits P start now fired Done h Memory u = tt
