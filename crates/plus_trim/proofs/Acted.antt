-- Acts one behind the other.
use Rattle.std.proofs.Common.{◌≡◌, ℕ, suc, ◌<◌, List, [], ◌∷◌, ◌++◌, length, ap, sym, subst, ◌∙◌, refl, append_assoc, append-nil}
use Rattle.std.specs.Prelude.{Some, None, Option, slice_get, All}
use Rattle.std.proofs.lemmas.List.Elements.{All-head, All-tail}
use Rattle.plus_fraction.specs.Fraction.{Fraction, ◌≤ℚ◌}
use Rattle.plus_model.specs.Terms.{Problem}
use Rattle.plus_model.specs.Plan.{Instance, Line, ActLine, EndLine, Plan, IsInOrder}
use Rattle.plus_timeline.specs.Timeline.{TimelineView}
use Rattle.plus_timeline.specs.Advance.{IsAhead}
use Rattle.plus_timeline.specs.StepsLeft.{HasRoom}
use Rattle.plus_timeline.specs.declared.stop.Stop.{Stop}
use Rattle.plus_planner.specs.Standing.{CanReach}
use Rattle.plus_planner.proofs.PlaceLemmas.{slice_some}
use Rattle.plus_trim.specs.Acts.{Act, lines_of, whole, with_some, chosen, AreAhead}
use Rattle.plus_trim.specs.Judging.{Halts}
use Rattle.plus_trim.specs.Standing.{Continues, StandsBehind, Rests, ActsAt}
use Rattle.plus_trim.proofs.Lines.{whole_begun}

pub lines_join : (xs ys : List Act) → lines_of (xs ++ ys) ≡ lines_of xs ++ lines_of ys
lines_join [] ys = refl
lines_join (x ∷ xs) ys = ap (λ ls. ActLine x.0 (Instance x.1) ∷ ls) (lines_join xs ys)

with_join : {X : Type 0} (o : Option X) (xs ys : List X) → with_some o (xs ++ ys) ≡ with_some o xs ++ ys
with_join None xs ys = refl
with_join (Some x) xs ys = refl

pub chosen_join : {X : Type 0} (xs : List X) (ps qs : List ℕ) → chosen xs (ps ++ qs) ≡ chosen xs ps ++ chosen xs qs
chosen_join xs [] qs = refl
chosen_join xs (p ∷ ps) qs = ap (with_some (slice_get xs p)) (chosen_join xs ps qs) ∙ with_join (slice_get xs p) (chosen xs ps) (chosen xs qs)

-- a line for each act, and an act for each place
pub lines_long : (xs : List Act) → length (lines_of xs) ≡ length xs
lines_long [] = refl
lines_long (x ∷ xs) = ap suc (lines_long xs)

pub chosen_long : {X : Type 0} (xs : List X) (ps : List ℕ) → All (λ p. p < length xs) ps → length (chosen xs ps) ≡ length ps
chosen_long xs [] a = refl
chosen_long xs (p ∷ ps) a =
    let s = slice_some xs p (All-head (λ q. q < length xs) p ps a) in
    ap (λ o. length (with_some o (chosen xs ps))) s.1 ∙ ap suc (chosen_long xs ps (All-tail (λ q. q < length xs) p ps a))

-- the acts at the first places are played, and those at the others are left
pub record IsAt (fits : Fraction → Type 0) (P : Problem) (xs : List Act) (last : Fraction) (done left : List ℕ) (start now : TimelineView) : Type 0 where
  pub behind : (lines : List Line) → StandsBehind fits P lines start → StandsBehind fits P (lines ++ lines_of (chosen xs done)) now
  pub rests : Rests P now
  pub most : now.most ≡ start.most
  pub ahead : AreAhead now.now.time (chosen xs left) last

module _ (fits : Fraction → Type 0) (P : Problem) (xs : List Act) (last : Fraction) (start : TimelineView) where
  pub at_start : (left : List ℕ) → Rests P start → AreAhead start.now.time (chosen xs left) last → IsAt fits P xs last [] left start start
  at_start left r a = record {
    behind = λ lines s. subst (λ ls. StandsBehind fits P ls start) (sym (append-nil lines)) s;
    rests = r;
    most = refl;
    ahead = a;
  }

  module _ (done left : List ℕ) (p : ℕ) (x : Act) (e : slice_get xs p ≡ Some x) (now : TimelineView) (i : IsAt fits P xs last done (p ∷ left) start now) where
    next_ahead : AreAhead now.now.time (x ∷ chosen xs left) last
    next_ahead = subst (λ o. AreAhead now.now.time (with_some o (chosen xs left)) last) e i.ahead

    pub time_ahead : now.now.time ≤ℚ x.0
    time_ahead = next_ahead.0

    done_more : chosen xs (done ++ p ∷ []) ≡ chosen xs done ++ x ∷ []
    done_more = chosen_join xs done (p ∷ []) ∙ ap (λ o. chosen xs done ++ with_some o []) e

    lines_more : (lines : List Line) → (lines ++ lines_of (chosen xs done)) ++ ActLine x.0 (Instance x.1) ∷ [] ≡ lines ++ lines_of (chosen xs (done ++ p ∷ []))
    lines_more lines =
        append_assoc lines (lines_of (chosen xs done)) (ActLine x.0 (Instance x.1) ∷ [])
        ∙ ap (λ ls. lines ++ ls) (sym (ap lines_of done_more ∙ lines_join (chosen xs done) (x ∷ [])))

    pub at_next : (new : TimelineView) → ActsAt P x.0 now new → ((lines : List Line) → StandsBehind fits P lines now → StandsBehind fits P (lines ++ ActLine x.0 (Instance x.1) ∷ []) new) → IsAt fits P xs last (done ++ p ∷ []) left start new
    at_next new a b = record {
      behind = λ lines s. subst (λ ls. StandsBehind fits P ls new) (lines_more lines) (b (lines ++ lines_of (chosen xs done)) (i.behind lines s));
      rests = a.rests;
      most = a.most ∙ i.most;
      ahead = subst (λ t. AreAhead t (chosen xs left) last) (sym a.time) next_ahead.1;
    }

    -- the whole plan goes on with the next act
    pub goes_with : (lines : List Line) → IsInOrder ((lines ++ lines_of (chosen xs (done ++ p ∷ left))) ++ EndLine last ∷ []) → Continues ((lines ++ lines_of (chosen xs done)) ++ ActLine x.0 (Instance x.1) ∷ []) (whole (lines ++ lines_of (chosen xs (done ++ p ∷ left))) last)
    goes_with lines o = record {
      begun = whole_begun (lines ++ lines_of (chosen xs (done ++ p ∷ left))) last;
      ordered = o;
      more = lines_of (chosen xs left) ++ EndLine last ∷ [];
      is = ap (λ ls. (lines ++ ls) ++ EndLine last ∷ []) split ∙ regroup lines (lines_of (chosen xs done)) (ActLine x.0 (Instance x.1)) (lines_of (chosen xs left)) (EndLine last);
    }
      where
        split : lines_of (chosen xs (done ++ p ∷ left)) ≡ lines_of (chosen xs done) ++ ActLine x.0 (Instance x.1) ∷ lines_of (chosen xs left)
        split =
            ap lines_of (chosen_join xs done (p ∷ left) ∙ ap (λ o. chosen xs done ++ with_some o (chosen xs left)) e)
            ∙ lines_join (chosen xs done) (x ∷ chosen xs left)

        regroup : (front bs : List Line) (y : Line) (cs : List Line) (z : Line) → (front ++ (bs ++ y ∷ cs)) ++ z ∷ [] ≡ ((front ++ bs) ++ y ∷ []) ++ (cs ++ z ∷ [])
        regroup front bs y cs z =
            ap (λ ls. ls ++ z ∷ []) (sym (append_assoc front bs (y ∷ cs)))
            ∙ append_assoc (front ++ bs) (y ∷ cs) (z ∷ [])
            ∙ sym (append_assoc (front ++ bs) (y ∷ []) (cs ++ z ∷ []))

pub rests_reach : (P : Problem) (t : TimelineView) (u : Fraction) → Rests P t → t.now.time ≤ℚ u → CanReach P u t
rests_reach P t u r h = record {
  goes = r.can;
  ahead = subst (λ o. IsAhead o t.now.time u) (sym r.moment) h;
  room = subst (λ o. HasRoom o t.entries t.most) (sym r.moment) tt;
}

pub halts_most : {Q : Type 0} (v : Q → Fraction) (fits : Fraction → Type 0) (P : Problem) (m n : ℕ) (L M : Plan) (stop : Stop Q) → m ≡ n → L ≡ M → Halts v fits P m L stop → Halts v fits P n M stop
halts_most v fits P m n L M stop e f h = subst (λ L. Halts v fits P n L stop) f (subst (λ k. Halts v fits P k L stop) e h)
