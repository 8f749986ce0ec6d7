-- What a call of a timeline leaves.
use Rattle.std.proofs.Common.{◌≡◌, ℕ, true, false, List, refl, ap, sym, subst, ◌∙◌}
use Rattle.std.specs.Prelude.{Option, Some, None}
use Rattle.std.specs.declared.cmp.Ordering.{Ordering}
use Rattle.std.specs.declared.cmp.Ordering.TheVariants.{Less, Equal, Greater}
use Rattle.plus_fraction.specs.Fraction.{Fraction, ◌<ℚ◌, ◌≤ℚ◌, compared}
use Rattle.plus_fraction.proofs.Compared.{compared-equal, compared-greater}
use Rattle.plus_fraction.proofs.FractionAtMost.{le_equal, le_lt}
use Rattle.plus_model.specs.Terms.{Problem, Action, Below}
use Rattle.plus_model.specs.Value.{passes}
use Rattle.plus_model.specs.Trajectory.{is_below}
use Rattle.plus_model.proofs.Moments.{from_below}
use Rattle.plus_number.specs.Frac.{IsFrac64}
use Rattle.plus_timeline.specs.declared.next.Next.{Next}
use Rattle.plus_timeline.specs.declared.next.Next.TheVariants.{Round, Run, Entry, There}
use Rattle.plus_timeline.specs.Timeline.{TimelineView, begun}
use Rattle.plus_timeline.specs.Stops.{IsGoing}
use Rattle.plus_timeline.specs.Advance.{Advances, IsAhead}
use Rattle.plus_timeline.specs.Finish.{IsPaused}
use Rattle.plus_timeline.specs.Act.{DoesAct}
use Rattle.plus_timeline.proofs.Serving.{advance_goes, there_pauses, there_rests, by_serves, before_serves}
use Rattle.plus_indexed.specs.Indexed.{IndexedView}
use Rattle.plus_indexed.specs.Knows.{Knows}
use Rattle.plus_replay.specs.Replay.{Goes, Rests}

pub goes_on : {Q : Type 0} (value : Q → Fraction) (P : Problem) (u : Fraction) (old new : IndexedView) (answer : Next Q) → Advances value P u old.line new.line answer → Knows IsFrac64 P new → Goes P old → Goes P new
goes_on value P u old new answer a k g = record {
  knows = k;
  going = advance_goes value P u old.line new.line answer a g.going;
}

-- nothing runs after a round or the beginning of an entry
pub moment_after : {Q : Type 0} (value : Q → Fraction) (P : Problem) (u : Fraction) (old new : TimelineView) (answer : Next Q) → Advances value P u old new answer → (answer ≡ Run → ⊥) → new.now.running ≡ None
moment_after value P u old new Round a other = ap (λ v. v.now.running) a.is
moment_after value P u old new Run a other = absurd (other refl)
moment_after value P u old new (Entry t) a other = ap (λ v. v.now.running) a.is
moment_after value P u old new There a other = there_rests P u old new a

-- what is not below comes from there on
from_not_below : (x y : Fraction) → is_below x y ≡ false → y ≤ℚ x
from_not_below x y e = go (compared x y) refl e
  where
    go : (o : Ordering) → compared x y ≡ o → passes Below o ≡ false → y ≤ℚ x
    go Less c k = cc
    go Equal c k = le_equal y x (sym (compared-equal x y c))
    go Greater c k = le_lt y x (compared-greater x y c)

pub ahead_before : (o : Option (List ℕ)) (time u : Fraction) → is_below time u ≡ true → IsAhead o time u
ahead_before o time u e = before_serves o time u (from_below time u e)

pub ahead_at : (o : Option (List ℕ)) (time u : Fraction) → o ≡ None → is_below u time ≡ false → IsAhead o time u
ahead_at o time u none e = by_serves o time u none (from_not_below u time e)

pub acted : (P : Problem) (action : Action) (old new : IndexedView) → DoesAct P action old.line new.line → Knows IsFrac64 P new → Rests P old → Rests P new
acted P action old new a k r = record {
  goes = record { knows = k; going = ap (λ v. v.ended) a.is ∙ r.goes.going };
  moment = ap (λ v. v.now.running) a.is;
}

pub begun_rests : (P : Problem) (most : ℕ) (t : IndexedView) → t.line ≡ begun P most → Knows IsFrac64 P t → Rests P t
begun_rests P most t e k = record { goes = record { knows = k; going = ap (λ v. v.ended) e }; moment = ap (λ v. v.now.running) e }

pub ruleset playing = (begun_rests, goes_on, moment_after, ahead_before, ahead_at, there_pauses, there_rests, acted)
