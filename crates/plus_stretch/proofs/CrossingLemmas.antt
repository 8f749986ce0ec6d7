-- What is asked at one crossing, in parts.
use Rattle.std.proofs.Common.{◌≡◌, ℕ, List, [], ◌∷◌, ◌++◌, map, refl, ap, sym, subst, ◌∙◌, length, append_assoc}
use Rattle.std.specs.Prelude.{Option, Some, None, IfSome, IsSomeAnd}
use Rattle.plus_fraction.specs.Fraction.{Fraction, ◌+ℚ◌}
use Rattle.plus_model.specs.Terms.{State, Problem}
use Rattle.plus_model.specs.Running.{moved}
use Rattle.plus_state.specs.declared.term.Sign.TheVariants.{Plus}
use Rattle.plus_state.specs.Asked.{node, AllFit}
use Rattle.plus_state.specs.Fits.{StateFits}
use Rattle.plus_state.proofs.Testing.{pass_append}
use Rattle.plus_crossing.specs.Moves.{moved_nodes}
use Rattle.plus_crossing.specs.Motions.{Extends, MayDrift}
use Rattle.plus_stretch.specs.declared.halt.Halt.{Halt}
use Rattle.plus_stretch.specs.declared.arrival.End.{End}
use Rattle.plus_stretch.specs.declared.arrival.End.TheVariants.{EventHolds, SetEnds, Until}
use Rattle.plus_stretch.specs.Tests.{Test, asks, Passes, AllPass}
use Rattle.plus_stretch.specs.StretchTests.{here_tests, crossing_tests}
use Rattle.plus_stretch.specs.Told.{HaltTold, Never}
use Rattle.plus_stretch.specs.Here.{EndsHere, HereIs, IsQuietHere, MomentlessHere, IsAlong}
use Rattle.plus_stretch.proofs.Halts.{halt_left, halt_right}
use Rattle.plus_stretch.proofs.HereLemmas.{here_split, here_quiet, here_firing, here_ends, fits_along}

module _ (P : Problem) (t : Fraction) (s : State) (R : List ℕ) (rs : List Fraction) (r : Fraction) where
  abbrev time_asked : List Test
  time_asked = asks (node Plus t r) ∷ []

  abbrev moves_asked : List Test
  moves_asked = map asks (moved_nodes s.fluents rs r)

  abbrev here_asked : List Test → List Test
  here_asked rest = here_tests P (t +ℚ r) (moved s rs r) R rs rest

  crossing_is : (rest : List Test) → crossing_tests P t s R rs r rest ≡ time_asked ++ (moves_asked ++ here_asked rest)
  unfolding crossing_tests
  crossing_is rest = refl

  behind_both : (rest more : List Test) → here_asked rest ≡ here_asked [] ++ more → crossing_tests P t s R rs r rest ≡ crossing_tests P t s R rs r [] ++ more
  behind_both rest more e =
      crossing_is rest ∙ ap (λ (ts : List Test). time_asked ++ (moves_asked ++ ts)) e
      ∙ ap (λ (ts : List Test). time_asked ++ ts) (sym (append_assoc moves_asked (here_asked []) more))
      ∙ ap (λ (ts : List Test). ts ++ more) (sym (crossing_is []))

  -- what stands behind it, if anything does
  pub record Behind (rest : List Test) : Type 0 where
    pub tests : List Test
    pub split : crossing_tests P t s R rs r rest ≡ crossing_tests P t s R rs r [] ++ tests

  pub crossing_split : (rest : List Test) → Behind rest
  crossing_split rest = record { tests = _; split = behind_both rest _ (here_split P (t +ℚ r) (moved s rs r) R rs rest) }

  pub crossing_quiet : (rest : List Test) → IsQuietHere P (moved s rs r) R rs → crossing_tests P t s R rs r rest ≡ crossing_tests P t s R rs r [] ++ rest
  crossing_quiet rest h = behind_both rest rest (here_quiet P (t +ℚ r) (moved s rs r) R rs rest h)

  same_here : (rest : List Test) → here_asked rest ≡ here_asked [] → crossing_tests P t s R rs r rest ≡ crossing_tests P t s R rs r []
  same_here rest e = crossing_is rest ∙ ap (λ (ts : List Test). time_asked ++ (moves_asked ++ ts)) e ∙ sym (crossing_is [])

  pub crossing_ends : (rest : List Test) (end : End) → EndsHere P (moved s rs r) R rs end → crossing_tests P t s R rs r rest ≡ crossing_tests P t s R rs r []
  crossing_ends rest EventHolds h = same_here rest (here_firing P (t +ℚ r) (moved s rs r) R rs rest h ∙ sym (here_firing P (t +ℚ r) (moved s rs r) R rs [] h))
  crossing_ends rest SetEnds h =
      same_here rest (here_ends P (t +ℚ r) (moved s rs r) R rs rest h.process h.still h.other ∙ sym (here_ends P (t +ℚ r) (moved s rs r) R rs [] h.process h.still h.other))
  crossing_ends rest Until h = absurd h

  -- ---- what its parts tell
  abbrev Breaks : ℕ → Fraction → Type 0
  Breaks = MomentlessHere P (t +ℚ r) (moved s rs r) R rs

  module _ {Q : Type 0} (v : Q → Fraction) (fits : Fraction → Type 0) where
    pub halt_moment : (h : Halt Q) → HaltTold v fits (asks (node Plus t r) ∷ []) Never h → HaltTold v fits (crossing_tests P t s R rs r []) (MomentlessHere P (t +ℚ r) (moved s rs r) R rs) h
    halt_moment h u = subst (λ (ts : List Test). HaltTold v fits ts Breaks h) (sym (crossing_is [])) (halt_left v fits _ _ Never Breaks h (λ e x m. absurd m) u)

    pub halt_moves : (h : Halt Q) → AllPass fits (asks (node Plus t r) ∷ []) → HaltTold v fits (map asks (moved_nodes s.fluents rs r)) Never h → HaltTold v fits (crossing_tests P t s R rs r []) (MomentlessHere P (t +ℚ r) (moved s rs r) R rs) h
    halt_moves h a u =
        subst (λ (ts : List Test). HaltTold v fits ts Breaks h) (sym (crossing_is []))
        (halt_right v fits _ _ Breaks Breaks h a (λ e x m. m) (halt_left v fits _ _ Never Breaks h (λ e x m. absurd m) u))

    -- what a state and a time tell that are those of the crossing
    pub halt_here : (h : Halt Q) (time : Fraction) (now : State) → time ≡ t +ℚ r → now ≡ moved s rs r → AllPass fits (asks (node Plus t r) ∷ []) → AllPass fits (map asks (moved_nodes s.fluents rs r)) → HaltTold v fits (here_tests P time now R rs []) (MomentlessHere P time now R rs) h → HaltTold v fits (crossing_tests P t s R rs r []) (MomentlessHere P (t +ℚ r) (moved s rs r) R rs) h
    halt_here h time now e d a b u =
        let w = subst (λ (x : Fraction). HaltTold v fits (here_tests P x (moved s rs r) R rs []) (MomentlessHere P x (moved s rs r) R rs) h) e
        (subst (λ (x : State). HaltTold v fits (here_tests P time x R rs []) (MomentlessHere P time x R rs) h) d u) in
        subst (λ (ts : List Test). HaltTold v fits ts Breaks h) (sym (crossing_is []))
        (halt_right v fits _ _ Breaks Breaks h a (λ k x m. m) (halt_right v fits _ _ Breaks Breaks h b (λ k x m. m) w))

  pub pass_here : (fits : Fraction → Type 0) (o : Option End) (time : Fraction) (now : State) → time ≡ t +ℚ r → now ≡ moved s rs r → AllPass fits (asks (node Plus t r) ∷ []) → AllPass fits (map asks (moved_nodes s.fluents rs r)) → AllPass fits (here_tests P time now R rs []) × HereIs P now R rs o → AllPass fits (crossing_tests P t s R rs r []) × HereIs P (moved s rs r) R rs o
  pass_here fits o time now e d a b u =
      let w = subst (λ (x : Fraction). AllPass fits (here_tests P x (moved s rs r) R rs [])) e (subst (λ (x : State). AllPass fits (here_tests P time x R rs [])) d u.0) in (
        subst (AllPass fits) (sym (crossing_is [])) (pass_append (Passes fits) _ _ a (pass_append (Passes fits) _ _ b w)),
        subst (λ (x : State). HereIs P x R rs o) d u.1,
      )

-- ---- the state ahead
pub fits_ahead : (atoms fluents : ℕ) (s : State) (rs : List Fraction) (t : State) → StateFits atoms fluents s → IsAlong s rs t → StateFits atoms fluents t
fits_ahead atoms fluents s rs t h k =
    let f = fits_along s rs t k in
    record { atoms_fit = f.atoms_fit ∙ h.atoms_fit; fluents_fit = f.fluents_fit ∙ h.fluents_fit }

pub rates_ahead : (s : State) (rs : List Fraction) (t : State) → length rs ≡ length s.fluents → IsAlong s rs t → length rs ≡ length t.fluents
rates_ahead s rs t h k = h ∙ sym (fits_along s rs t k).fluents_fit

-- where the state ahead is set to so much time after the beginning, from whatever time it is at
pub there_along : (s : State) (rs : List Fraction) (x : Fraction) (t new : State) → IsAlong s rs t → ((from : Fraction) → t ≡ moved s rs from → new ≡ moved s rs x) → new ≡ moved s rs x
there_along s rs x t new h f = f h.at h.is

pub along_there : (s : State) (rs : List Fraction) (x : Fraction) (t new : State) → IsAlong s rs t → ((from : Fraction) → t ≡ moved s rs from → new ≡ moved s rs x) → IsAlong s rs new
along_there s rs x t new h f = record { at = x; is = f h.at h.is }

-- what goes no further than is known may move for so long
pub known_to_fit : (fits : Fraction → Type 0) (o : Option ℕ) (vs : List (Option Fraction)) (rs : List Fraction) (x : Fraction) → IfSome o (Extends vs rs) → IsSomeAnd o (λ e. MayDrift fits e x) → AllFit fits (moved_nodes vs rs x)
known_to_fit fits (Some e) vs rs x h d = d vs rs h
known_to_fit fits None vs rs x h d = absurd d
