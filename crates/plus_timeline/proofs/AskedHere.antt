-- What is asked at a history, by what comes next there.
use Rattle.std.proofs.Common.{◌≡◌, ℕ, Bool, false, not, List, [], ◌++◌, refl, ap, ap₂, sym, subst, ◌∙◌, append-nil, if◌then◌else◌}
use Rattle.std.specs.Prelude.{Option, Some, None}
use Rattle.plus_fraction.specs.Fraction.{Fraction}
use Rattle.plus_model.specs.Terms.{Problem}
use Rattle.plus_model.specs.Firing.{firing}
use Rattle.plus_model.specs.Plan.{Line, Plan}
use Rattle.plus_model.specs.History.{Part, Enter, Round, Act, Run, View}
use Rattle.plus_model.specs.Trajectory.{is_below, next_line, target, until, Next, NextBy}
use Rattle.plus_model.specs.Breach.{IsPresent}
use Rattle.plus_state.proofs.Testing.{fail_left}
use Rattle.plus_stretch.proofs.Rising.{to_below}
use Rattle.plus_stretch.specs.Tests.{Test, Passes, FirstFailing}
use Rattle.plus_timeline.specs.Asked.{line_tests, advance_tests, nothing_due, is_there, asked}
use Rattle.plus_timeline.proofs.Stays.{not_there, advance_first, line_behind}

-- no act
abbrev pub IsNoAct : Part → Type 0
IsNoAct (Act i s) = ⊥
IsNoAct _ = Unit {0}

-- where a part but an act comes next, something is due, or time goes on
pub still_due : (P : Problem) (L : Plan) (v : View) (o : Option (List ℕ)) (part : Part) → IsNoAct part → NextBy P L v o part → is_there P (until P L v) v o ≡ false
still_due P L v None (Enter t a s) q n = absurd n
still_due P L v None (Round E s) q n = not_there (firing P v.state) (is_below v.time (until P L v)) (λ e. n.some (n.all ∙ e))
still_due P L v None (Act i s) q n = absurd q
still_due P L v None (Run R) q n =
    ap (λ (xs : List ℕ). nothing_due xs (is_below v.time (until P L v))) n.still
    ∙ ap not (to_below v.time (until P L v) n.later)
still_due P L v (Some R) part q n = refl

module _ (P : Problem) (L : Plan) (most : ℕ) (instance : ℕ → List Test) (entries : ℕ) (v : View) where
  -- then what `advance` asks is all
  pub asked_cut : is_there P (until P L v) v v.running ≡ false → asked P L most instance entries v ≡ advance_tests P most entries (until P L v) v
  unfolding asked
  asked_cut e =
      ap (λ (c : Bool). advance_tests P most entries (until P L v) v ++ (if c then line_tests P L instance v (next_line L v) else [])) e
      ∙ append-nil (advance_tests P most entries (until P L v) v)

  pub asked_on : (part : Part) → IsNoAct part → Next P L v part → asked P L most instance entries v ≡ advance_tests P most entries (until P L v) v
  asked_on part q n = asked_cut (still_due P L v v.running part q n)

  -- where nothing is due and time goes no further, the tests of the next line stand behind
  pub asked_there : (o : Option Line) → next_line L v ≡ o → IsPresent P v → until P L v ≡ v.time → asked P L most instance entries v ≡ advance_tests P most entries (until P L v) v ++ line_tests P L instance v o
  asked_there o e p u =
      line_behind P L most instance entries v p u
      ∙ ap₂ (λ (x : Fraction) (line : Option Line). advance_tests P most entries x v ++ line_tests P L instance v line) (sym u) e

  -- what `advance` finds to fail first is the first that fails
  pub advance_fails : (fits : Fraction → Type 0) (t : Test) → FirstFailing fits (advance_tests P most entries (until P L v) v) t → FirstFailing fits (asked P L most instance entries v) t
  advance_fails fits t f =
      let a = advance_first P L most instance entries v (target L v) refl in
      subst (λ (ts : List Test). FirstFailing fits ts t) (sym a.1) (fail_left (Passes fits) (advance_tests P most entries (until P L v) v) a.0 t f)
