-- A timeline behind lines: at the beginning, after one more action, and at the end.
use Rattle.std.proofs.Common.{◌≡◌, ℕ, suc, ◌≤◌, true, List, [], ◌∷◌, ◌++◌, length, refl, ap, sym, subst, ◌∙◌, arith, append-nil, add-zero}
use Rattle.std.specs.Prelude.{Some, Result, Ok, Err, OnOk, IfErr}
use Rattle.std.proofs.lemmas.List.{length_push}
use Rattle.plus_fraction.specs.Fraction.{Fraction}
use Rattle.plus_model.specs.Terms.{Action, State, Problem}
use Rattle.plus_model.specs.Value.{holds}
use Rattle.plus_model.specs.Plan.{Instance, Line, ActLine, EndLine, time_of, Plan, IsInOrder}
use Rattle.plus_model.specs.History.{Part, Act, View}
use Rattle.plus_model.specs.Trajectory.{first_part, next_line, time_or, until, IsWorked, IsEndOrNone}
use Rattle.plus_model.proofs.Paths.{prefix_begins}
use Rattle.plus_state.specs.declared.outcome.Breach as outcome
use Rattle.plus_state.specs.declared.outcome.Breach.TheVariants.{Precondition}
use Rattle.plus_state.proofs.Testing.{pass_append, fail_right}
use Rattle.plus_stretch.specs.Tests.{Test, Passes, AllPass, FirstFailing, of_limit, breach_of}
use Rattle.plus_timeline.specs.declared.stop.Stop.{Stop}
use Rattle.plus_timeline.specs.declared.stop.Stop.TheVariants.{Breach, Limit, Ended, Memory}
use Rattle.plus_timeline.specs.Timeline.{TimelineView, begun}
use Rattle.plus_timeline.specs.Act.{DoesAct, BreaksAct, ActTold}
use Rattle.plus_timeline.specs.Asked.{act_tests, goal_tests, line_tests, advance_tests}
use Rattle.plus_timeline.specs.Finish.{BreaksFinish, FinishTold}
use Rattle.plus_timeline.proofs.AskedHere.{asked_there}
use Rattle.plus_timeline.proofs.Follows.{act_follows}
use Rattle.plus_timeline.proofs.Played.{clear_first, entries_of-append, played_on, asked_same}
use Rattle.plus_timeline.proofs.Serving.{begun_serves, act_serves, act_goes, act_rests}
use Rattle.plus_timeline.specs.Played.{entries_of}
use Rattle.plus_planner.specs.Grid.{asked_in}
use Rattle.plus_planner.specs.Standing.{IsPlayed, IsOnWay, IsReached}
use Rattle.plus_planner.proofs.Ready.{last_of}
use Rattle.plus_trim.specs.Acts.{whole}
use Rattle.plus_trim.specs.Judging.{IsInside, IsPlaced, Named, HaltsBy, Halts}
use Rattle.plus_trim.specs.Standing.{Continues, StandsBehind, Comes, WayHalts, ActsAt}
use Rattle.plus_trim.proofs.Lines.{one_fewer, next_is, whole_begun}
use Rattle.plus_trim.proofs.Ways.{named_breach}

-- a refused call
abbrev refused : {Q : Type 0} → Stop Q → Result (Unit {0}) (Stop Q)
refused stop = Err stop

-- ---- at the beginning

pub begun_behind : (fits : Fraction → Type 0) (P : Problem) (most : ℕ) (t : TimelineView) → 1 ≤ most → t ≡ begun P most → StandsBehind fits P [] t
begun_behind fits P most t m e = subst (StandsBehind fits P []) (sym e) record {
  can = record { knows = begun_serves P most; going = refl; within = m };
  moment = refl;
  acted = refl;
  time = refl;
  played = λ L c. (
    first_part P ∷ [],
    record { prefix = prefix_begins P L c.ordered; now = refl; entries = refl; beside = tt; clear = clear_first fits P L most (λ i. []) },
  );
}

-- ---- on the way to the next line

-- in each plan that goes on with a line it is on its way to the time of that line
on_way : (fits : Fraction → Type 0) (P : Problem) (lines : List Line) (x : Line) (t : TimelineView) (L : Plan) → StandsBehind fits P lines t → Continues (lines ++ x ∷ []) L → (h : List Part) × IsOnWay fits P L (time_of x) (length lines) h t
on_way fits P lines x t L s c =
    let p = s.played L (one_fewer lines x L c) in (
      p.0,
      record {
        played = p.1;
        target_is = ap (λ o. time_or o t.now.time) (next_is lines x L t.now c s.acted);
        acted_is = s.acted;
      },
    )

-- and what stands on the way stands in the plan
pub stops_on_way : {Q : Type 0} (v : Q → Fraction) (fits : Fraction → Type 0) (P : Problem) (lines : List Line) (x : Line) (t : TimelineView) (stop : Stop Q) (L : Plan) → StandsBehind fits P lines t → WayHalts v fits P (time_of x) t stop → Continues (lines ++ x ∷ []) L → Halts v fits P t.most L stop
stops_on_way v fits P lines x t (Breach b) L s w c = (let o = on_way fits P lines x t L s c in w.halts L (length lines) o.0 c.begun o.1)
stops_on_way v fits P lines x t (Limit l) L s w c = (let o = on_way fits P lines x t L s c in w.halts L (length lines) o.0 c.begun o.1)
stops_on_way v fits P lines x t Ended L s w c = w
stops_on_way v fits P lines x t Memory L s w c = tt

-- where it comes to the time of the line, that line is due
comes_there : (fits : Fraction → Type 0) (P : Problem) (lines : List Line) (x : Line) (old mid : TimelineView) (L : Plan) → StandsBehind fits P lines old → Comes fits P (time_of x) old mid → Continues (lines ++ x ∷ []) L → (h : List Part) × IsReached fits P L (time_of x) (length lines) h mid × (next_line L mid.now ≡ Some x)
comes_there fits P lines x old mid L s a c =
    let o = on_way fits P lines x old L s c in
    let r = a.arrives.reached L (length lines) o.0 c.begun o.1 in
    (r.0, r.1, next_is lines x L mid.now c r.1.acted_is)

-- the tests there are those of the way and those of the line
asked_by : (fits : Fraction → Type 0) (P : Problem) (L : Plan) (u : Fraction) (acted : ℕ) (h : List Part) (x : Line) (mid : TimelineView) → IsReached fits P L u acted h mid → next_line L mid.now ≡ Some x → advance_tests P mid.most mid.entries (until P L mid.now) mid.now ++ line_tests P L (λ i. []) mid.now (Some x) ≡ asked_in P L mid.most h
asked_by fits P L u acted h x mid r n =
    sym (asked_there P L mid.most (λ i. []) mid.entries mid.now (Some x) n r.present r.over) ∙ asked_same r.played

line_passes : (fits : Fraction → Type 0) (P : Problem) (L : Plan) (u : Fraction) (acted : ℕ) (h : List Part) (x : Line) (mid : TimelineView) → IsReached fits P L u acted h mid → next_line L mid.now ≡ Some x → AllPass fits (line_tests P L (λ i. []) mid.now (Some x)) → AllPass fits (asked_in P L mid.most h)
line_passes fits P L u acted h x mid r n a =
    subst (AllPass fits) (asked_by fits P L u acted h x mid r n) (pass_append (Passes fits) _ _ r.passed a)

line_fails : (fits : Fraction → Type 0) (P : Problem) (L : Plan) (u : Fraction) (acted : ℕ) (h : List Part) (x : Line) (mid : TimelineView) (test : Test) → IsReached fits P L u acted h mid → next_line L mid.now ≡ Some x → FirstFailing fits (line_tests P L (λ i. []) mid.now (Some x)) test → FirstFailing fits (asked_in P L mid.most h) test
line_fails fits P L u acted h x mid test r n a =
    subst (λ (ts : List Test). FirstFailing fits ts test) (asked_by fits P L u acted h x mid r n) (fail_right (Passes fits) _ _ _ r.passed a)

halts_at : {Q : Type 0} (fits : Fraction → Type 0) (P : Problem) (lines : List Line) (u : Fraction) (old mid : TimelineView) → Comes fits P u old mid → (v : Q → Fraction) (stop : Stop Q) (x : Line) (L : Plan) (h : List Part) (test : Test) → IsReached fits P L u (length lines) h mid → next_line L mid.now ≡ Some x → FirstFailing fits (line_tests P L (λ i. []) mid.now (Some x)) test → Named v mid.now.acted stop test → HaltsBy v fits P old.most L stop
halts_at fits P lines u old mid a v stop x L h test r n f k = subst (λ m. HaltsBy v fits P m L stop) a.arrives.most record {
  history = h;
  fails = record {
    prefix = r.played.prefix;
    clear = r.played.clear;
    test = test;
    first = line_fails fits P L u (length lines) h x mid test r n f;
    kind = subst (λ i. Named v i stop test) (ap (λ z. z.acted) r.played.now) k;
  };
}

-- ---- one more action

-- a breach by the action names its position
act_placed : {Q : Type 0} (action : Action) (number : ℕ) (s : State) (acted : ℕ) (b : outcome.Breach Q) → number ≡ suc acted → BreaksAct action number s b → IsPlaced acted b
act_placed action number s acted (Precondition line label) e h = h.line_is ∙ e
act_placed action number s acted b e h = tt

module _ (fits : Fraction → Type 0) (P : Problem) (lines : List Line) (u : Fraction) (action : Action) (old mid : TimelineView) (s : StandsBehind fits P lines old) (a : Comes fits P u old mid) where
  act_played : (new : TimelineView) (L : Plan) → AllPass fits (act_tests mid.now.acted action mid.now.state) → DoesAct P action mid new → Continues (lines ++ ActLine u (Instance action) ∷ []) L → (h : List Part) × IsPlayed fits P L h new
  act_played new L p d c =
      let r = comes_there fits P lines (ActLine u (Instance action)) old mid L s a c in
      let due : next_line L mid.now ≡ Some (ActLine mid.now.time (Instance action)) = subst (λ t. next_line L mid.now ≡ Some (ActLine t (Instance action))) (sym a.time_is) r.2 in
      let part = Act mid.now.acted new.now.state in (
        r.0 ++ part ∷ [],
        played_on (λ g. Unit {0}) new part c.begun r.1.played
            (line_passes fits P L u (length lines) r.0 (ActLine u (Instance action)) mid r.1 r.2 p)
            (ap (λ v. v.most) d.is)
            (act_follows P L mid new action due d).adds
            (ap (λ v. v.entries) d.is ∙ r.1.played.entries ∙ sym (entries_of-append r.0 part ∙ add-zero (entries_of r.0)))
            tt,
      )

  acted_behind : (new : TimelineView) → AllPass fits (act_tests mid.now.acted action mid.now.state) → DoesAct P action mid new → StandsBehind fits P (lines ++ ActLine u (Instance action) ∷ []) new
  acted_behind new p d =
      let e : new.entries ≡ mid.entries = ap (λ v. v.entries) d.is in
      let m : new.most ≡ mid.most = ap (λ v. v.most) d.is in
      let w = a.arrives.can.within in
      let n : new.now.acted ≡ suc (length lines) = ap (λ v. v.now.acted) d.is ∙ ap suc (a.acted_is ∙ s.acted) in
      let l = length_push lines (ActLine u (Instance action)) in
      record {
        can = record { knows = act_serves P action mid new d a.arrives.can.knows; going = act_goes fits P action mid new d a.arrives.can.going; within = omega arith };
        moment = act_rests fits P action mid new d;
        acted = omega arith;
        time = ap (λ v. v.now.time) d.is ∙ a.time_is ∙ sym (last_of lines (ActLine u (Instance action)));
        played = λ L c. act_played new L p d c;
      }

  act_halts : {Q : Type 0} (v : Q → Fraction) (number : ℕ) (new : TimelineView) (stop : Stop Q) (L : Plan) → number ≡ suc mid.now.acted → ActTold v fits P action number mid new (refused stop) → Continues (lines ++ ActLine u (Instance action) ∷ []) L → Halts v fits P old.most L stop
  act_halts v number new (Breach b) L e t c =
      let r = comes_there fits P lines (ActLine u (Instance action)) old mid L s a c in
      let p = act_placed action number mid.now.state mid.now.acted b e t.means in
      let n = named_breach v fits mid.now.acted (act_tests mid.now.acted action mid.now.state) b (breach_of v mid.now.acted b) p refl t.first in
      halts_at fits P lines u old mid a v (Breach b) (ActLine u (Instance action)) L r.0 n.0 r.1 r.2 n.1 n.2
  act_halts v number new (Limit l) L e t c =
      let r = comes_there fits P lines (ActLine u (Instance action)) old mid L s a c in
      halts_at fits P lines u old mid a v (Limit l) (ActLine u (Instance action)) L r.0 (of_limit v l) r.1 r.2 t.first refl
  act_halts v number new Ended L e t c = (let g = a.arrives.can.going in cc (g, t))
  act_halts v number new Memory L e t c = tt

-- ---- the end

-- a breach at the end is not by an action
end_placed : {Q : Type 0} (P : Problem) (s : State) (acted : ℕ) (b : outcome.Breach Q) → BreaksFinish P s b → IsPlaced acted b
end_placed P s acted (Precondition line label) h = absurd h
end_placed P s acted b h = tt

module _ (fits : Fraction → Type 0) (P : Problem) (lines : List Line) (last : Fraction) (old mid : TimelineView) (s : StandsBehind fits P lines old) (a : Comes fits P last old mid) (o : IsInOrder (lines ++ EndLine last ∷ [])) where
  ends : Continues (lines ++ EndLine last ∷ []) (whole lines last)
  ends = record { begun = whole_begun lines last; ordered = o; more = []; is = sym (append-nil (lines ++ EndLine last ∷ [])) }

  closed_inside : AllPass fits (goal_tests P mid.now.state) → holds P.goal mid.now.state ≡ true → IsInside fits P old.most (whole lines last)
  closed_inside p g =
      let r = comes_there fits P lines (EndLine last) old mid (whole lines last) s a ends in
      subst (λ m. IsInside fits P m (whole lines last)) a.arrives.most record {
        history = r.0;
        happens = record {
          prefix = r.1.played.prefix;
          closed = refl;
          worked = subst (IsWorked P (whole lines last)) r.1.played.now
              record { acted = subst IsEndOrNone (sym r.2) tt; still = r.1.present.still; moment = r.1.present.moment; over = r.1.over };
          goal = subst (λ (v : View). holds P.goal v.state ≡ true) r.1.played.now g;
        };
        clear = r.1.played.clear;
        passes = line_passes fits P (whole lines last) last (length lines) r.0 (EndLine last) mid r.1 r.2 p;
      }

  close_halts : {Q : Type 0} (v : Q → Fraction) (stop : Stop Q) → FinishTold v fits P mid (refused stop) → Halts v fits P old.most (whole lines last) stop
  close_halts v (Breach b) t =
      let r = comes_there fits P lines (EndLine last) old mid (whole lines last) s a ends in
      let p = end_placed P mid.now.state mid.now.acted b t.means in
      let n = named_breach v fits mid.now.acted (goal_tests P mid.now.state) b (breach_of v mid.now.acted b) p refl t.first in
      halts_at fits P lines last old mid a v (Breach b) (EndLine last) (whole lines last) r.0 n.0 r.1 r.2 n.1 n.2
  close_halts v (Limit l) t =
      let r = comes_there fits P lines (EndLine last) old mid (whole lines last) s a ends in
      halts_at fits P lines last old mid a v (Limit l) (EndLine last) (whole lines last) r.0 (of_limit v l) r.1 r.2 t.first refl
  close_halts v Ended t = (let g = a.arrives.can.going in cc (g, t))
  close_halts v Memory t = tt

-- ---- as the calls tell it

module _ {Q A : Type 0} (v : Q → Fraction) (fits : Fraction → Type 0) (P : Problem) (u : Fraction) (old mid new : TimelineView) (a : Comes fits P u old mid) where
  pub act_behind : (action : Action) (number : ℕ) (r : Result A (Stop Q)) → ActTold v fits P action number mid new r → OnOk r ((lines : List Line) → StandsBehind fits P lines old → StandsBehind fits P (lines ++ ActLine u (Instance action) ∷ []) new)
  act_behind action number (Ok x) t = λ lines s. acted_behind fits P lines u action old mid s a new t.pass t.does
  act_behind action number (Err stop) t = tt

  pub act_refused : (action : Action) (number : ℕ) (r : Result A (Stop Q)) → number ≡ suc old.now.acted → ActTold v fits P action number mid new r → IfErr r (λ stop. (lines : List Line) (L : Plan) → StandsBehind fits P lines old → Continues (lines ++ ActLine u (Instance action) ∷ []) L → Halts v fits P old.most L stop)
  act_refused action number (Ok x) e t = tt
  act_refused action number (Err stop) e t = λ lines L s c. act_halts fits P lines u action old mid s a v number new stop L (e ∙ ap suc (sym a.acted_is)) (told_again stop t) c
    where
      told_again : (stop : Stop Q) → ActTold {A = A} v fits P action number mid new (Err stop) → ActTold v fits P action number mid new (refused stop)
      told_again (Breach b) t = t
      told_again (Limit l) t = t
      told_again Ended t = t
      told_again Memory t = t

  pub act_acts : (action : Action) (number : ℕ) (r : Result A (Stop Q)) → ActTold v fits P action number mid new r → OnOk r (ActsAt P u old new)
  act_acts action number (Err stop) t = tt
  act_acts action number (Ok x) t =
      let d = t.does in
      let e : new.entries ≡ mid.entries = ap (λ v. v.entries) d.is in
      let m : new.most ≡ mid.most = ap (λ v. v.most) d.is in
      let w = a.arrives.can.within in
      record {
        rests = record {
          can = record { knows = act_serves P action mid new d a.arrives.can.knows; going = act_goes fits P action mid new d a.arrives.can.going; within = omega arith };
          moment = act_rests fits P action mid new d;
        };
        most = m ∙ a.arrives.most;
        time = ap (λ v. v.now.time) d.is ∙ a.time_is;
        acted = ap (λ v. v.now.acted) d.is ∙ ap suc a.acted_is;
      }

  pub close_inside : (r : Result A (Stop Q)) → FinishTold v fits P mid r → OnOk r ((lines : List Line) → StandsBehind fits P lines old → IsInOrder (lines ++ EndLine u ∷ []) → IsInside fits P old.most (whole lines u))
  close_inside (Err stop) t = tt
  close_inside (Ok x) t = λ lines s o. closed_inside fits P lines u old mid s a o t.pass t.does

  pub close_refused : (r : Result A (Stop Q)) → FinishTold v fits P mid r → IfErr r (λ stop. (lines : List Line) → StandsBehind fits P lines old → IsInOrder (lines ++ EndLine u ∷ []) → Halts v fits P old.most (whole lines u) stop)
  close_refused (Ok x) t = tt
  close_refused (Err stop) t = λ lines s o. close_halts fits P lines u old mid s a o v stop (told_again stop t)
    where
      told_again : (stop : Stop Q) → FinishTold {A = A} v fits P mid (Err stop) → FinishTold v fits P mid (refused stop)
      told_again (Breach b) t = t
      told_again (Limit l) t = t
      told_again Ended t = t
      told_again Memory t = t
