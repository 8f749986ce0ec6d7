-- A prefix for the lines read is one for every plan that begins with them.
use Rattle.std.proofs.Common.{◌≡◌, ℕ, zero, suc, List, [], ◌∷◌, ◌++◌, refl, ap, sym, subst, ◌∙◌}
use Rattle.std.specs.Prelude.{Option, Some, None, slice_get}
use Rattle.plus_fraction.specs.Fraction.{◌<ℚ◌, ◌≤ℚ◌}
use Rattle.plus_fraction.proofs.FractionAtMost.{<ℚ-≤ℚ_trans}
use Rattle.plus_model.specs.Terms.{Problem}
use Rattle.plus_model.specs.Plan.{Line, Plan}
use Rattle.plus_model.specs.History.{Part, Enter, Round, Act, Run, View, view_after}
use Rattle.plus_model.specs.Trajectory.{at_until, event_holds, set_ends, next_line, time_or, least, until, NextBy, HasBegun, Follow, first_view}
use Rattle.plus_model.specs.Laws.{GoesOnFrom, PrefixGoesOn}
use Rattle.plus_model.proofs.Moments.{not_below}
use Rattle.plus_model.proofs.Steps.{until_within}

slice_get_more : (xs ys : List Line) (k : ℕ) (x : Line) → slice_get xs k ≡ Some x → slice_get (xs ++ ys) k ≡ Some x
slice_get_more [] ys k x e = cc
slice_get_more (w ∷ xs) ys zero x e = e
slice_get_more (w ∷ xs) ys (suc k) x e = slice_get_more xs ys k x e

-- the line that is next stays so
pub same_line : (L L' : Plan) (v : View) (line : Line) → GoesOnFrom L L' → next_line L v ≡ Some line → next_line L' v ≡ Some line
same_line L L' v line g e = subst (λ ls. slice_get ls v.acted ≡ Some line) (sym g.lines) (slice_get_more L.lines g.more v.acted line e)

-- and so does `until`, where time is to pass
pub same_until : (P : Problem) (L L' : Plan) (v : View) → GoesOnFrom L L' → v.time <ℚ until P L v → until P L v ≡ until P L' v
same_until P L L' v g h = go (next_line L v) refl
  where
    go : (o : Option Line) → next_line L v ≡ o → until P L v ≡ until P L' v
    go None e = absurd (not_below v.time (until P L v) h (subst (λ o. until P L v ≤ℚ time_or o v.time) e (until_within P L v)))
    go (Some line) e = ap (λ o. least v.time (time_or o v.time) P.timed) (e ∙ sym (same_line L L' v line g e))

pub still_later : (P : Problem) (L L' : Plan) (v : View) → GoesOnFrom L L' → v.time <ℚ until P L v → v.time <ℚ until P L' v
still_later P L L' v g h = subst (λ t. v.time <ℚ t) (same_until P L L' v g h) h

later_by : (P : Problem) (L L' : Plan) (v : View) → GoesOnFrom L L' → (o : Option (List ℕ)) (p : Part) → NextBy P L v o p → NextBy P L' v o p
later_by P L L' v g None (Enter t a s) n = n
later_by P L L' v g None (Round E s) n = n
later_by P L L' v g None (Act i s) n = record { action = n.action; line = n.line; due = same_line L L' v _ g n.due; acts = n.acts }
later_by P L L' v g None (Run R) n = record { still = n.still; later = still_later P L L' v g n.later; rate = n.rate; settled = n.settled; uncoupled = n.uncoupled }
later_by P L L' v g (Some R) (Enter t a s) n =
    let e : until P L v ≡ until P L' v = same_until P L L' v g (<ℚ-≤ℚ_trans _ _ _ n.later n.within) in
    record {
      rate = n.rate;
      rate_is = n.rate_is;
      later = n.later;
      within = subst (λ u. t ≤ℚ u) e n.within;
      stretch = n.stretch;
      arrival_is = n.arrival_is;
      after_is = n.after_is;
      cause = elim n.cause [ at_until c ↦ at_until (c ∙ e) | event_holds f ↦ event_holds f | set_ends f ↦ set_ends f ];
    }
later_by P L L' v g (Some R) (Round E s) n = n
later_by P L L' v g (Some R) (Act i s) n = n
later_by P L L' v g (Some R) (Run S) n = n

pub later_follow : (P : Problem) (L L' : Plan) (v : View) (xs : List Part) → GoesOnFrom L L' → HasBegun L' → Follow P L v xs → Follow P L' v xs
later_follow P L L' v [] g b f = tt
later_follow P L L' v (x ∷ xs) g b f = (b, later_by P L L' v g v.running x f.1, later_follow P L L' (view_after v x) xs g b f.2)

pub prefix_goes_on : PrefixGoesOn
prefix_goes_on P L L' h a g o b = record { ordered = o; rest = a.rest; begins = a.begins; follow = later_follow P L L' (first_view P) a.rest g b a.follow }
