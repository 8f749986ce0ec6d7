-- A prefix never passes the line that is next.
use Rattle.std.proofs.Common.{◌≡◌, ℕ, zero, suc, List, [], ◌∷◌, refl, sym, subst}
use Rattle.std.specs.Prelude.{Option, Some, None, slice_get}
use Rattle.plus_fraction.specs.Fraction.{Fraction, ◌≤ℚ◌}
use Rattle.plus_model.specs.Terms.{Problem}
use Rattle.plus_model.specs.Plan.{Instance, Line, ActLine, EndLine, time_of, Plan, IsInOrder}
use Rattle.plus_model.specs.History.{Part, Enter, Round, Act, Run, View, view_after, view_from}
use Rattle.plus_model.specs.Trajectory.{next_line, target, time_or, NextBy, Follow, first_view, Prefix, view_of}
use Rattle.plus_model.specs.Laws.{BeginsInTime, UntilIsAhead}
use Rattle.plus_model.proofs.Moments.{≤ℚ_refl, ≤ℚ_trans, least_above}
use Rattle.plus_model.proofs.Steps.{until_within}
use Rattle.plus_model.proofs.Paths.{view_is}

-- a line is not below the line before
in_order : (ls : List Line) (i : ℕ) (x y : Line) → IsInOrder ls → slice_get ls i ≡ Some x → slice_get ls (suc i) ≡ Some y → time_of x ≤ℚ time_of y
in_order [] i x y o e f = cc
in_order (w ∷ []) zero x y o e f = cc
in_order (w ∷ []) (suc i) x y o e f = cc
in_order (EndLine t ∷ z ∷ ls) i x y o e f = elim o [ ]
in_order (ActLine t c ∷ z ∷ ls) zero x y o e f = subst (λ r. time_of x ≤ℚ time_of r) (let g : z ≡ y = cc f in g) (subst (λ r. time_of r ≤ℚ time_of z) (let g : ActLine t c ≡ x = cc e in g) o.0)
in_order (ActLine t c ∷ z ∷ ls) (suc i) x y o e f = in_order (z ∷ ls) i x y o.1 e f

time_kept : (o : Option Line) (t u : Fraction) → t ≤ℚ time_or o u → t ≤ℚ time_or o t
time_kept None t u h = ≤ℚ_refl t
time_kept (Some line) t u h = h

-- one more part keeps it
step_in_time : (P : Problem) (L : Plan) (v : View) (p : Part) → IsInOrder L.lines → (o : Option (List ℕ)) → NextBy P L v o p → v.time ≤ℚ target L v → (view_after v p).time ≤ℚ target L (view_after v p)
step_in_time P L v (Enter t a s) o None n h = elim n [ ]
step_in_time P L v (Enter t a s) o (Some R) n h = time_kept (next_line L v) t v.time (≤ℚ_trans _ _ _ n.within (until_within P L v))
step_in_time P L v (Round E s) o None n h = h
step_in_time P L v (Round E s) o (Some R) n h = elim n [ ]
step_in_time P L v (Act i s) o None n h = next_by (slice_get L.lines (suc v.acted)) refl
  where
    next_by : (q : Option Line) → slice_get L.lines (suc v.acted) ≡ q → v.time ≤ℚ time_or q v.time
    next_by None e = ≤ℚ_refl v.time
    next_by (Some y) e = in_order L.lines v.acted (ActLine v.time (Instance n.action)) y o n.due e
step_in_time P L v (Act i s) o (Some R) n h = elim n [ ]
step_in_time P L v (Run R) o None n h = h
step_in_time P L v (Run R) o (Some S) n h = elim n [ ]

follow_in_time : (P : Problem) (L : Plan) (v : View) (ps : List Part) → IsInOrder L.lines → Follow P L v ps → v.time ≤ℚ target L v → (view_from v ps).time ≤ℚ target L (view_from v ps)
follow_in_time P L v [] o f h = h
follow_in_time P L v (p ∷ ps) o f h = follow_in_time P L (view_after v p) ps o f.2 (step_in_time P L v p o v.running f.1 h)

pub in_time : (P : Problem) (L : Plan) (h : List Part) → BeginsInTime L → Prefix P L h → (view_of P h).time ≤ℚ target L (view_of P h)
in_time P L h b a = subst (λ v. v.time ≤ℚ target L v) (sym (view_is P h a.rest a.begins)) (follow_in_time P L (first_view P) a.rest a.ordered a.follow b)

pub until_is_ahead : UntilIsAhead
until_is_ahead P L h b a = least_above (view_of P h).time (target L (view_of P h)) P.timed (in_time P L h b a)
