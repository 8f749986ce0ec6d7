-- What is asked in a state on the way, in parts.
use Rattle.std.proofs.Common.{◌≡◌, ◌≢◌, ℕ, Bool, true, false, List, [], ◌∷◌, ◌++◌, map, refl, ap, sym, subst, ◌∙◌, append_assoc, length, pos}
use Rattle.std.proofs.lemmas.List.{append-nil}
use Rattle.std.specs.Prelude.{Option, Some, None}
use Rattle.plus_fraction.specs.Fraction.{Fraction, whole}
use Rattle.plus_model.specs.Terms.{State, Problem}
use Rattle.plus_model.specs.Value.{holds}
use Rattle.plus_model.specs.Firing.{numbers_of, firing}
use Rattle.plus_model.specs.Running.{GoesOn}
use Rattle.plus_state.specs.declared.term.Sign.{Sign}
use Rattle.plus_state.specs.View.{overflow_of}
use Rattle.plus_state.specs.Node.{Node}
use Rattle.plus_state.specs.Asked.{node, result_of, NodeFits, AllFit, FirstUnfit}
use Rattle.plus_state.specs.Tested.{Carries}
use Rattle.plus_state.proofs.Testing.{pass_append, pass_one, fail_one, fail_left, fail_right, carry_pass, carry_fail}
use Rattle.plus_cascade.specs.Steps.{condition_nodes}
use Rattle.plus_state.specs.Fits.{StateFits}
use Rattle.plus_state.specs.Walk.{event_conditions}
use Rattle.plus_cascade.proofs.FiringLemmas.{firing_found}
use Rattle.plus_state.specs.Changes.{Changes, patched, Within, RisesIn}
use Rattle.plus_model.proofs.Search.{moved-zero}
use Rattle.plus_crossing.specs.Moves.{MovesTo}
use Rattle.plus_crossing.proofs.Moving.{moved_fits}
use Rattle.plus_stretch.specs.Arrives.{ComesBy}
use Rattle.plus_settle.specs.declared.stops.GoStop.{GoStop}
use Rattle.plus_settle.specs.declared.stops.GoStop.TheVariants as go
use Rattle.plus_settle.specs.Steps as settle
use Rattle.plus_settle.specs.Confirms.{go_steps, first_other, GoStops}
use Rattle.plus_stretch.specs.declared.halt.Halt.{Halt}
use Rattle.plus_stretch.specs.Tests.{Test, process, asks, straight, Passes, AllPass, FirstFailing, of_settle}
use Rattle.plus_stretch.specs.StretchTests.{if_none, if_empty, after_tests, here_tests}
use Rattle.plus_stretch.specs.After.{first_after, IsNoneSoon, IsSoon}
use Rattle.plus_stretch.specs.Told.{HaltTold, Never}
use Rattle.plus_stretch.specs.Here.{is_some_of, of_go, IsQuietHere, SetEndsHere, MomentlessHere, IsAlong}
use Rattle.plus_stretch.proofs.Layers.{nodes_carry}
use Rattle.plus_stretch.proofs.Halts.{halt_left, halt_right}
use Rattle.plus_stretch.proofs.SoonLemmas.{after_split}

-- ---- halts
pub settle_carry : (fits : Fraction → Type 0) → Carries of_settle (settle.Passes fits) (Passes fits)
unfolding settle.Passes Passes
settle_carry fits = record {
  there = λ t. elim t as (λ t. settle.Passes fits t → Passes fits (of_settle t)) [
    | settle.asks n ↦ λ h. h
    | settle.straight p k b ↦ λ h. h
    | settle.no_value f ↦ λ h. h
    | settle.unsettled p ↦ λ h. h
    | settle.coupled p f ↦ λ h. h
  ];
  back = λ t. elim t as (λ t. Passes fits (of_settle t) → settle.Passes fits t) [
    | settle.asks n ↦ λ h. h
    | settle.straight p k b ↦ λ h. h
    | settle.no_value f ↦ λ h. h
    | settle.unsettled p ↦ λ h. h
    | settle.coupled p f ↦ λ h. h
  ];
}

pub nodes_pass : (fits : Fraction → Type 0) (ns : List Node) → AllFit fits ns → AllPass fits (map asks ns)
nodes_pass fits ns h = carry_pass (nodes_carry fits) ns h

pub nodes_fail : (fits : Fraction → Type 0) (ns : List Node) (m : Node) → FirstUnfit fits ns m → FirstFailing fits (map asks ns) (asks m)
nodes_fail fits ns m h = carry_fail (nodes_carry fits) ns m h

-- ---- one node
pub node_pass : (fits : Fraction → Type 0) (sign : Sign) (x y z : Fraction) → z ≡ result_of sign x y → fits z → AllPass fits (asks (node sign x y) ∷ [])
unfolding Passes NodeFits
node_pass fits sign x y z e h = pass_one (Passes fits) (asks (node sign x y)) (subst fits e h)

pub node_fail : (fits : Fraction → Type 0) (sign : Sign) (x y : Fraction) (m : Node) → (fits (result_of sign x y) → ⊥) → m ≡ node sign x y → FirstFailing fits (asks (node sign x y) ∷ []) (asks m)
unfolding Passes NodeFits
node_fail fits sign x y m h e = fail_one (Passes fits) (asks (node sign x y)) (asks m) h (ap asks e)

-- ---- whether an event holds
-- one more that holds, and one that does not
pub one_holds : (held : List ℕ) (k : ℕ) → true ≡ is_some_of (held ++ k ∷ [])
one_holds [] k = refl
one_holds (x ∷ held) k = refl

pub none_holds : (held : List ℕ) (found : Bool) → found ≡ is_some_of held → found ≡ is_some_of (held ++ [])
none_holds held found e = e ∙ ap is_some_of (sym (append-nil held))

-- whether an event is found
pub some_found : (P : Problem) (s : State) (found : List ℕ) (b : Bool) → found ≡ numbers_of (λ c. holds c s) 0 (event_conditions P) → b ≡ is_some_of found → b ≡ is_some_of (firing P s)
some_found P s found b h e = e ∙ ap is_some_of (firing_found P s found h)

none_of : (xs : List ℕ) → false ≡ is_some_of xs → xs ≡ []
none_of [] e = refl
none_of (x ∷ xs) e = cc

some_of : (xs : List ℕ) → true ≡ is_some_of xs → xs ≢ []
some_of [] e n = cc
some_of (x ∷ xs) e n = cc

-- ---- the tests there, in parts
empty_is : (xs : List ℕ) (ts : List Test) → xs ≡ [] → if_empty xs ts ≡ ts
empty_is xs ts e = ap (λ (l : List ℕ). if_empty l ts) e

none_is : (o : Option ℕ) (ts : List Test) → o ≡ None → if_none o ts ≡ ts
none_is o ts e = ap (λ (p : Option ℕ). if_none p ts) e

some_is : (o : Option ℕ) (p : ℕ) (ts : List Test) → o ≡ Some p → if_none o ts ≡ []
some_is o p ts e = ap (λ (q : Option ℕ). if_none q ts) e

empty_not : (xs : List ℕ) (ts : List Test) → xs ≢ [] → if_empty xs ts ≡ []
empty_not [] ts n = absurd (n refl)
empty_not (x ∷ xs) ts n = refl

empty_append : (xs : List ℕ) (ts us : List Test) → if_empty xs (ts ++ us) ≡ if_empty xs ts ++ if_empty xs us
empty_append [] ts us = refl
empty_append (x ∷ xs) ts us = refl

none_append : (o : Option ℕ) (ts us : List Test) → if_none o (ts ++ us) ≡ if_none o ts ++ if_none o us
none_append None ts us = refl
none_append (Some p) ts us = refl

module _ (P : Problem) (t : Fraction) (s : State) (R : List ℕ) (rs : List Fraction) where
  abbrev events_asked : List Test
  events_asked = map asks (condition_nodes P.events s)

  abbrev processes_asked : List Test
  processes_asked = map of_settle (go_steps P R s rs)

  -- an event holds
  pub here_firing : (rest : List Test) → firing P s ≢ [] → here_tests P t s R rs rest ≡ events_asked
  unfolding here_tests
  here_firing rest n = ap (λ (ts : List Test). events_asked ++ ts) (empty_not (firing P s) _ n) ∙ append-nil events_asked

  pub here_still : (rest : List Test) → firing P s ≡ [] → here_tests P t s R rs rest ≡ events_asked ++ (processes_asked ++ if_none (first_other R 0 P.processes s rs) (after_tests t 0 P.events s rs rest))
  unfolding here_tests
  here_still rest e = ap (λ (ts : List Test). events_asked ++ ts) (empty_is (firing P s) _ e)

  -- a process differs
  pub here_ends : (rest : List Test) (p : ℕ) → firing P s ≡ [] → first_other R 0 P.processes s rs ≡ Some p → here_tests P t s R rs rest ≡ events_asked ++ processes_asked
  here_ends rest p e o =
      here_still rest e
      ∙ ap (λ (ts : List Test). events_asked ++ (processes_asked ++ ts)) (some_is (first_other R 0 P.processes s rs) p (after_tests t 0 P.events s rs rest) o)
      ∙ ap (λ (ts : List Test). events_asked ++ ts) (append-nil processes_asked)

  -- none does
  pub here_on : (rest : List Test) → firing P s ≡ [] → first_other R 0 P.processes s rs ≡ None → here_tests P t s R rs rest ≡ events_asked ++ (processes_asked ++ after_tests t 0 P.events s rs rest)
  here_on rest e o =
      here_still rest e ∙ ap (λ (ts : List Test). events_asked ++ (processes_asked ++ ts)) (none_is (first_other R 0 P.processes s rs) (after_tests t 0 P.events s rs rest) o)

  abbrev more : List Test → List Test
  more rest = if_empty (firing P s) (if_none (first_other R 0 P.processes s rs) (if_none (first_after 0 P.events s rs) rest))

  -- the rest stands behind, if at all
  pub here_split : (rest : List Test) → here_tests P t s R rs rest ≡ here_tests P t s R rs [] ++ more rest
  unfolding here_tests
  here_split rest =
      let xs : List ℕ = firing P s in
      let o : Option ℕ = first_other R 0 P.processes s rs in
      let asked : List Test = after_tests t 0 P.events s rs [] in
      ap (λ (ts : List Test). events_asked ++ if_empty xs (processes_asked ++ if_none o ts)) (after_split t P.events s rs rest)
      ∙ ap (λ (ts : List Test). events_asked ++ if_empty xs (processes_asked ++ ts)) (none_append o asked _)
      ∙ ap (λ (ts : List Test). events_asked ++ if_empty xs ts) (sym (append_assoc processes_asked (if_none o asked) _))
      ∙ ap (λ (ts : List Test). events_asked ++ ts) (empty_append xs _ _)
      ∙ sym (append_assoc events_asked _ _)

  -- nothing begins: it does
  pub here_quiet : (rest : List Test) → IsQuietHere P s R rs → here_tests P t s R rs rest ≡ here_tests P t s R rs [] ++ rest
  here_quiet rest h =
      here_split rest ∙ ap (λ (ts : List Test). here_tests P t s R rs [] ++ ts)
      (empty_is (firing P s) _ h.quiet.still ∙ none_is (first_other R 0 P.processes s rs) _ h.other ∙ none_is (first_after 0 P.events s rs) rest h.soon.later)

  module _ (fits : Fraction → Type 0) where
    pub stop_events : {Q : Type 0} (v : Q → Fraction) (Means : ℕ → Fraction → Type 0) (h : Halt Q) → HaltTold v fits (map asks (condition_nodes P.events s)) Never h → HaltTold v fits (here_tests P t s R rs []) Means h
    unfolding here_tests
    stop_events v Means h u = halt_left v fits _ _ Never Means h (λ e x m. absurd m) u

    pub holds_here : AllPass fits (map asks (condition_nodes P.events s)) → true ≡ is_some_of (firing P s) → AllPass fits (here_tests P t s R rs []) × (firing P s ≢ [])
    holds_here a e =
        let n = some_of (firing P s) e in
        (subst (AllPass fits) (sym (here_firing [] n)) a, n)

    -- the stop of a process
    pub stop_processes : {Q : Type 0} (v : Q → Fraction) (Means : ℕ → Fraction → Type 0) (stop : GoStop Q) → AllPass fits (map asks (condition_nodes P.events s)) → false ≡ is_some_of (firing P s) → GoStops v fits (go_steps P R s rs) stop → HaltTold v fits (here_tests P t s R rs []) Means (of_go stop)
    stop_processes v Means (go.Number o) a e u =
        subst (λ (ts : List Test). FirstFailing fits ts (asks (overflow_of v o))) (sym (here_still [] (none_of (firing P s) e)))
        (fail_right (Passes fits) _ _ _ a (fail_left (Passes fits) _ _ _ (carry_fail (settle_carry fits) _ _ u)))
    stop_processes v Means (go.Nonlinear p k) a e u =
        subst (λ (ts : List Test). FirstFailing fits ts (straight (process p.0) k false)) (sym (here_still [] (none_of (firing P s) e)))
        (fail_right (Passes fits) _ _ _ a (fail_left (Passes fits) _ _ _ (carry_fail (settle_carry fits) _ _ u)))

    pub ends_here : (p : ℕ) → AllPass fits (map asks (condition_nodes P.events s)) → false ≡ is_some_of (firing P s) → settle.AllPass fits (go_steps P R s rs) → Some p ≡ first_other R 0 P.processes s rs → (GoesOn P s rs R → ⊥) → AllPass fits (here_tests P t s R rs []) × SetEndsHere P s R rs
    ends_here p a e b o n =
        let still = none_of (firing P s) e in (
          subst (AllPass fits) (sym (here_ends [] p still (sym o))) (pass_append (Passes fits) _ _ a (carry_pass (settle_carry fits) _ b)),
          record { still = still; process = p; other = sym o; ends = n },
        )

    pub on_here : AllPass fits (map asks (condition_nodes P.events s)) → false ≡ is_some_of (firing P s) → settle.AllPass fits (go_steps P R s rs) → None ≡ first_other R 0 P.processes s rs → GoesOn P s rs R → AllPass fits (after_tests t 0 P.events s rs []) → IsNoneSoon P s rs → AllPass fits (here_tests P t s R rs []) × IsQuietHere P s R rs
    on_here a e b o g c n =
        let still = none_of (firing P s) e in (
          subst (AllPass fits) (sym (here_on [] still (sym o))) (pass_append (Passes fits) _ _ a (pass_append (Passes fits) _ _ (carry_pass (settle_carry fits) _ b) c)),
          record { quiet = record { still = still; on = g }; other = sym o; soon = n },
        )

    pub stop_soon : {Q : Type 0} (v : Q → Fraction) (h : Halt Q) → AllPass fits (map asks (condition_nodes P.events s)) → false ≡ is_some_of (firing P s) → settle.AllPass fits (go_steps P R s rs) → None ≡ first_other R 0 P.processes s rs → GoesOn P s rs R → HaltTold v fits (after_tests t 0 P.events s rs []) (IsSoon P t s rs) h → HaltTold v fits (here_tests P t s R rs []) (MomentlessHere P t s R rs) h
    stop_soon v h a e b o g u =
        let still = none_of (firing P s) e in
        subst (λ (ts : List Test). HaltTold v fits ts (MomentlessHere P t s R rs) h) (sym (here_on [] still (sym o)))
        (halt_right v fits _ _ (MomentlessHere P t s R rs) (MomentlessHere P t s R rs) h a (λ k x m. m)
        (halt_right v fits _ _ (IsSoon P t s rs) (MomentlessHere P t s R rs) h (carry_pass (settle_carry fits) _ b) (λ k x m. record { quiet = record { still = still; on = g }; soon = m }) u))

-- ---- along the rates
pub comes_by : (s : State) (rs : List Fraction) (r : Fraction) (c : Changes) → RisesIn s c → MovesTo s rs r c → ComesBy s rs r c
comes_by s rs r c h m = record { rises = h; is = ap (λ (t : State). patched t c) (sym (moved-zero s rs)) ∙ m (whole (pos 0)) }

pub fits_along : (s : State) (rs : List Fraction) (t : State) → IsAlong s rs t → StateFits (length s.atoms) (length s.fluents) t
fits_along s rs t h = moved_fits s t rs h.at h.is

pub within_along : (s : State) (rs : List Fraction) (t : State) (c : Changes) → IsAlong s rs t → RisesIn s c → Within (length t.atoms) (length t.fluents) c
within_along s rs t c h r =
    let f = fits_along s rs t h in
    subst (λ (n : ℕ). Within n (length t.fluents) c) (sym f.atoms_fit) (subst (λ (n : ℕ). Within (length s.atoms) n c) (sym f.fluents_fit) r.within)

pub moves_along : (s : State) (rs : List Fraction) (r : Fraction) (t new : State) (c : Changes) → IsAlong s rs t → MovesTo s rs r c → new ≡ patched t c → IsAlong s rs new
moves_along s rs r t new c h m e = record { at = r; is = e ∙ ap (λ (x : State). patched x c) h.is ∙ m h.at }
