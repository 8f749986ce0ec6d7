-- In each state of a trajectory exactly the events fire that hold there.
use Rattle.std.proofs.Common.{◌≡◌, ℕ, List, [], ◌∷◌, ◌++◌, refl, ap, sym, subst, ◌∙◌}
use Rattle.std.specs.Prelude.{Option, Some, None, Result, Ok, Err}
use Rattle.plus_fraction.specs.Fraction.{Fraction, ◌-ℚ◌}
use Rattle.plus_model.specs.Terms.{Problem}
use Rattle.plus_model.specs.Firing.{firing}
use Rattle.plus_model.specs.Running.{rates, moved}
use Rattle.plus_model.specs.Plan.{Plan}
use Rattle.plus_model.specs.History.{Part, Enter, Round, Act, Run, View, view_after, view_from}
use Rattle.plus_model.specs.Trajectory.{first_view, until, NextBy, Follow, EnterMayFollow, Trajectory}
use Rattle.plus_model.proofs.Moments.{sub_above, -ℚ-lt}
use Rattle.plus_validator.specs.Fires.{FiresAt, FiresExactly}

enters_quietly : (P : Problem) (L : Plan) (v : View) (R : List ℕ) (t : Fraction) (a s : _) → v.running ≡ Some R → EnterMayFollow P (until P L v) v R t a s → FiresAt P v (Enter t a s)
enters_quietly P L v R t a s e m x l h R' rs r q =
    let same : R' ≡ R = ap (λ (o : Option (List ℕ)). elim o [ None ↦ [] | Some y ↦ y ]) (sym r ∙ e) in
    let one : rates P v.state R ≡ Ok rs = ap (rates P v.state) (sym same) ∙ q in
    let rate : m.rate ≡ rs = ap (λ (o : Result (List Fraction) ℕ). elim o [ Ok y ↦ y | Err f ↦ [] ]) (sym m.rate_is ∙ one) in
    let quiet = m.stretch (x -ℚ v.time) (sub_above v.time x l) (-ℚ-lt x t v.time h) in
    subst (λ (ys : List Fraction). firing P (moved v.state ys (x -ℚ v.time)) ≡ []) rate quiet.still

by_part : (P : Problem) (L : Plan) (v : View) (part : Part) (o : Option (List ℕ)) → v.running ≡ o → NextBy P L v o part → FiresAt P v part
by_part P L v (Enter t a s) None e n = absurd n
by_part P L v (Round events s) None e n = (n.all, n.some)
by_part P L v (Act i s) None e n = n.acts.still
by_part P L v (Run R) None e n = n.still
by_part P L v (Enter t a s) (Some R) e n = enters_quietly P L v R t a s e n
by_part P L v (Round events s) (Some R) e n = absurd n
by_part P L v (Act i s) (Some R) e n = absurd n
by_part P L v (Run R') (Some R) e n = absurd n

at_part : (P : Problem) (L : Plan) (v : View) (before : List Part) (part : Part) (rest : List Part) → Follow P L v (before ++ part ∷ rest) → FiresAt P (view_from v before) part
at_part P L v [] part rest f = by_part P L v part v.running refl f.1
at_part P L v (p ∷ before) part rest f = at_part P L (view_after v p) before part rest f.2

abbrev tail_of : List Part → List Part
tail_of [] = []
tail_of (p ∷ ps) = ps

pub fires_exactly : (P : Problem) (L : Plan) (h : List Part) → Trajectory P L h → FiresExactly P h
fires_exactly P L h t = record {
  each = λ before part rest e.
      let same : t.prefix.rest ≡ before ++ part ∷ rest = ap tail_of (sym t.prefix.begins ∙ e) in
      at_part P L (first_view P) before part rest (subst (Follow P L (first_view P)) same t.prefix.follow);
  none_left = t.worked.still;
}
