-- The looks at a moment, one after the other.
use Rattle.std.proofs.Common.{◌≡◌, Bool, true, false, [], ◌∷◌, refl, sym, subst, if◌then◌else◌}
use Rattle.std.specs.Prelude.{Option, None, Result}
use Rattle.plus_fraction.specs.Fraction.{Fraction}
use Rattle.plus_model.specs.Terms.{Condition, State}
use Rattle.plus_state.proofs.Testing.{pass_none}
use Rattle.plus_crossing.specs.Asked.{Passes, AllPass}
use Rattle.plus_constraints.specs.Constraint.{When, is_lasting}
use Rattle.plus_watch.specs.declared.place.Place.{Place}
use Rattle.plus_watch.specs.declared.place.WatchStop.{WatchStop}
use Rattle.plus_watch.specs.Looks.{first_found, looks_ask, state_look, regards, moment_looks}
use Rattle.plus_watch.specs.Told.{LooksTold}

-- a time that is regarded, and one that is not
pub moment_told : {Q : Type 0} (v : Q → Fraction) (fits : Fraction → Type 0) (w : When) (c : Condition) (t : Fraction) (s : State) (lasting : Bool) (answer : Result (Option (Place Q)) (WatchStop Q))
    → lasting ≡ is_lasting w → regards w t ≡ true → LooksTold v fits (state_look lasting c [] t s ∷ []) answer → LooksTold v fits (moment_looks w c t s) answer
unfolding moment_looks
moment_told v fits w c t s lasting answer l e h =
    subst (λ (b : Bool). LooksTold v fits (if b then state_look (is_lasting w) c [] t s ∷ [] else []) answer) (sym e)
    (subst (λ (b : Bool). LooksTold v fits (state_look b c [] t s ∷ []) answer) l h)

pub moment_none : (fits : Fraction → Type 0) (w : When) (c : Condition) (t : Fraction) (s : State) → regards w t ≡ false → AllPass fits (looks_ask (moment_looks w c t s)) × (None ≡ first_found (moment_looks w c t s))
unfolding moment_looks
moment_none fits w c t s e =
    subst (λ (b : Bool). AllPass fits (looks_ask (if b then state_look (is_lasting w) c [] t s ∷ [] else [])) × (None ≡ first_found (if b then state_look (is_lasting w) c [] t s ∷ [] else []))) (sym e) (pass_none (Passes fits), refl)
