-- What becomes of a run as its plan is read line by line.
use Rattle.std.proofs.Common.{◌≡◌, ℕ, zero, suc, ◌+◌, ◌<◌, Bool, true, false, List, [], ◌∷◌, ◌++◌, refl, ap, sym, subst, ◌∙◌, arith, append-nil, inl, inr}
use Rattle.std.specs.Prelude.{◌⊎◌, Some, None, length, slice_get}
use Rattle.plus_fraction.specs.Fraction.{Fraction, ◌≤ℚ◌}
use Rattle.plus_model.specs.Terms.{Problem}
use Rattle.plus_model.specs.Plan.{Called, Line, ActLine, EndLine, time_of, Plan, IsInOrder}
use Rattle.plus_model.specs.History.{Part, View}
use Rattle.plus_model.specs.Trajectory.{next_line, time_or, target, HasBegun, IsWorked, IsEndOrNone}
use Rattle.plus_model.proofs.Later.{prefix_goes_on}
use Rattle.plus_model.proofs.Reading.{order_grows}
use Rattle.plus_timeline.specs.Timeline.{TimelineView}
use Rattle.plus_stretch.specs.Tests.{Test}
use Rattle.plus_validator.specs.Account.{Account}
use Rattle.plus_validator.specs.Standing.{IsPlayed, EndsBy, AllActed, HasWorked, IsReady, IsReached}
use Rattle.plus_validator.specs.Playing.{closed}
use Rattle.plus_validator.specs.Told.{Telling}
use Rattle.plus_validator.proofs.Asking.{open_passes}
use Rattle.plus_validator.proofs.Clear.{clear_grows}

-- the plan with one more line
abbrev pub with_line : Plan → Line → Plan
with_line L line = record { lines = L.lines ++ line ∷ []; closed = L.closed }

begun_with : (ls : List Line) (line : Line) → (ls ++ line ∷ [] ≡ []) → ⊥
begun_with [] line e = cc
begun_with (x ∷ ls) line e = cc

pub has_begun : (L : Plan) (line : Line) → HasBegun (with_line L line)
has_begun L line = inl (begun_with L.lines line)

-- two ways to tell what is asked of the instances of a plan's actions are the same
abbrev pub Agree : Plan → (ℕ → List Test) → (ℕ → List Test) → Type 0
Agree L instance instance' = (i : ℕ) → i < length L.lines → instance i ≡ instance' i

-- a run goes on as one of a longer plan
grown : {V : Type 0} (P : Problem) (T : Telling P V) (L L' : Plan) (instance instance' : ℕ → List Test) (more : List Line) (h : List Part) (t : TimelineView) (account : Account V) → L'.lines ≡ L.lines ++ more → Agree L instance instance' → IsInOrder L'.lines → HasBegun L' → IsPlayed P T L instance h t account → IsPlayed P T L' instance' h t account
grown P T L L' instance instance' more h t account e a o b p =
    let is : L' ≡ record { lines = L.lines ++ more; closed = L'.closed } = λ i. record { lines = e i; closed = L'.closed } in
    record {
      prefix = prefix_goes_on P L L' h p.prefix (record { more = more; lines = e }) o b;
      now = p.now;
      entries = p.entries;
      beside = record {
        tells = subst (λ (M : Plan). T.Tells M h account.told) (sym is) (T.stays L more L'.closed h account.told p.prefix p.beside.tells);
        entries = p.beside.entries;
        firings = p.beside.firings;
      };
      clear = clear_grows P L L' t.most instance instance' (record { more = more; lines = e }) a h p.prefix p.clear;
    }

-- lines stay in order when one is read that is not before the last, which is no end
order_on : (ls : List Line) (time : Fraction) (line : Line) → IsInOrder ls → EndsBy ls false time → time ≤ℚ time_of line → IsInOrder (ls ++ line ∷ [])
order_on ls time line o (inl e) h = subst (λ ks. IsInOrder (ks ++ line ∷ [])) (sym e.0) tt
order_on ls time line o (inr e) h =
    subst (λ ks. IsInOrder (ks ++ line ∷ [])) (sym e.2) (order_grows e.0 time e.1 line (subst IsInOrder e.2 o) h)

-- the line at the end of a list
get_last : (ls : List Line) (k : ℕ) (line : Line) → k ≡ length ls → slice_get (ls ++ line ∷ []) k ≡ Some line
get_last [] zero line e = refl
get_last [] (suc k) line e = absurd (omega arith)
get_last (x ∷ ls) zero line e = absurd (omega arith)
get_last (x ∷ ls) (suc k) line e = get_last ls k line (omega arith)

get_none : (ls : List Line) (k : ℕ) → k ≡ length ls → slice_get ls k ≡ None
get_none [] k e = refl
get_none (x ∷ ls) zero e = absurd (omega arith)
get_none (x ∷ ls) (suc k) e = get_none ls k (omega arith)

length_with : (ls : List Line) (line : Line) → length (ls ++ line ∷ []) ≡ suc (length ls)
length_with [] line = refl
length_with (x ∷ ls) line = ap suc (length_with ls line)

-- a line is read: the run is on its way to it
pub read_on : {V : Type 0} (P : Problem) (T : Telling P V) (L : Plan) (instance instance' : ℕ → List Test) (h : List Part) (t : TimelineView) (account : Account V) (line : Line) → Agree L instance instance' → IsReady P T L instance false h t account → t.now.time ≤ℚ time_of line → IsPlayed P T (with_line L line) instance' h t account
read_on P T L instance instance' h t account line a r le =
    grown P T L (with_line L line) instance instance' (line ∷ []) h t account refl a
    (order_on L.lines t.now.time line r.played.prefix.ordered r.last le) (has_begun L line) r.played

pub read_next : {V : Type 0} (P : Problem) (T : Telling P V) (L : Plan) (instance : ℕ → List Test) (h : List Part) (t : TimelineView) (account : Account V) (line : Line) → IsReady P T L instance false h t account → next_line (with_line L line) t.now ≡ Some line
read_next P T L instance h t account line r = get_last L.lines t.now.acted line r.acted

pub read_target : {V : Type 0} (P : Problem) (T : Telling P V) (L : Plan) (instance : ℕ → List Test) (h : List Part) (t : TimelineView) (account : Account V) (line : Line) → IsReady P T L instance false h t account → target (with_line L line) t.now ≡ time_of line
read_target P T L instance h t account line r = ap (λ o. time_or o t.now.time) (read_next P T L instance h t account line r)

-- the action of the last line is due
pub act_due : {V : Type 0} (P : Problem) (T : Telling P V) (L : Plan) (instance : ℕ → List Test) (h : List Part) (t : TimelineView) (account : Account V) (call : Called) (time : Fraction) → IsReached P T (with_line L (ActLine time call)) instance (length L.lines) time h t account → next_line (with_line L (ActLine time call)) t.now ≡ Some (ActLine t.now.time call)
act_due P T L instance h t account call time r =
    get_last L.lines t.now.acted (ActLine time call) r.acted_is ∙ ap (λ x. Some (ActLine x call)) (sym r.time_is)

-- once it is acted, time is to go no further
pub acted_target : (L : Plan) (line : Line) (v : View) → v.acted ≡ suc (length L.lines) → target (with_line L line) v ≡ v.time
acted_target L line v e = ap (λ o. time_or o v.time) (get_none (L.lines ++ line ∷ []) v.acted (e ∙ sym (length_with L.lines line)))

-- where no action is left, the lines are worked, and all that is asked there passes
worked_there : {V : Type 0} (P : Problem) (T : Telling P V) (L : Plan) (instance : ℕ → List Test) (acted : ℕ) (time : Fraction) (h : List Part) (t : TimelineView) (account : Account V) → L.closed ≡ false → IsEndOrNone (next_line L t.now) → IsReached P T L instance acted time h t account → HasWorked P L instance t
worked_there P T L instance acted time h t account c n r = record {
  worked = record { acted = n; still = r.present.still; moment = r.present.moment; over = r.over };
  passed = open_passes P L t.most instance t.entries t.now c n r.present r.over r.passed;
}

-- an action line is worked
pub act_ready : {V : Type 0} (P : Problem) (T : Telling P V) (L : Plan) (instance : ℕ → List Test) (h : List Part) (t : TimelineView) (account : Account V) (call : Called) (time : Fraction) → L.closed ≡ false → IsReached P T (with_line L (ActLine time call)) instance (suc (length L.lines)) time h t account → IsReady P T (with_line L (ActLine time call)) instance false h t account
act_ready P T L instance h t account call time open_yet r =
    let all : t.now.acted ≡ length (L.lines ++ ActLine time call ∷ []) = r.acted_is ∙ sym (length_with L.lines (ActLine time call)) in
    let none : next_line (with_line L (ActLine time call)) t.now ≡ None = get_none (L.lines ++ ActLine time call ∷ []) t.now.acted all in
    record {
      played = r.played;
      not_closed = open_yet;
      last = inr (L.lines, call, ap (λ x. L.lines ++ ActLine x call ∷ []) (sym r.time_is));
      acted = all;
      moment = r.present.moment;
      worked = inr (worked_there P T (with_line L (ActLine time call)) instance (suc (length L.lines)) time h t account open_yet (subst IsEndOrNone (sym none) tt) r);
    }

-- an end line is worked
pub end_ready : {V : Type 0} (P : Problem) (T : Telling P V) (L : Plan) (instance : ℕ → List Test) (h : List Part) (t : TimelineView) (account : Account V) (time : Fraction) → L.closed ≡ false → IsReached P T (with_line L (EndLine time)) instance (length L.lines) time h t account → IsReady P T (with_line L (EndLine time)) instance true h t account
end_ready P T L instance h t account time open_yet r =
    let next : next_line (with_line L (EndLine time)) t.now ≡ Some (EndLine time) = get_last L.lines t.now.acted (EndLine time) r.acted_is in
    record {
      played = r.played;
      not_closed = open_yet;
      last = (L.lines, ap (λ x. L.lines ++ EndLine x ∷ []) (sym r.time_is));
      acted = (let k = length_with L.lines (EndLine time) in let j = r.acted_is in omega arith);
      moment = r.present.moment;
      worked = inr (worked_there P T (with_line L (EndLine time)) instance (length L.lines) time h t account open_yet (subst IsEndOrNone (sym next) tt) r);
    }

-- ---- the end of the text

pub close_played : {V : Type 0} (P : Problem) (T : Telling P V) (L : Plan) (instance : ℕ → List Test) (ended : Bool) (h : List Part) (t : TimelineView) (account : Account V) → IsReady P T L instance ended h t account → IsPlayed P T (closed L) instance h t account
close_played P T L instance ended h t account r =
    grown P T L (closed L) instance instance [] h t account (sym (append-nil L.lines)) (λ i l. refl) r.played.prefix.ordered (inr refl) r.played

get_end : (before : List Line) (line : Line) (k : ℕ) (ls : List Line) → ls ≡ before ++ line ∷ [] → k + 1 ≡ length ls → slice_get ls k ≡ Some line
get_end before line k ls e n =
    let m : length ls ≡ suc (length before) = ap length e ∙ length_with before line in
    subst (λ ks. slice_get ks k ≡ Some line) (sym e) (get_last before k line (omega arith))

-- the line that is next at the end of the text is an end at the present time, or there is none
close_by : (L : Plan) (ended : Bool) (v : View) → EndsBy L.lines ended v.time → AllActed L.lines ended v.acted → (next_line L v ≡ None) ⊎ (next_line L v ≡ Some (EndLine v.time))
close_by L true v e a = inr (get_end e.0 (EndLine v.time) v.acted L.lines e.1 a)
close_by L false v e a = inl (get_none L.lines v.acted a)

pub close_target : {V : Type 0} (P : Problem) (T : Telling P V) (L : Plan) (instance : ℕ → List Test) (ended : Bool) (h : List Part) (t : TimelineView) (account : Account V) → IsReady P T L instance ended h t account → target (closed L) t.now ≡ t.now.time
close_target P T L instance ended h t account r = elim (close_by L ended t.now r.last r.acted) [
  | inl e ↦ ap (λ o. time_or o t.now.time) e
  | inr e ↦ ap (λ o. time_or o t.now.time) e
]

pub close_worked : {V : Type 0} (P : Problem) (T : Telling P V) (L : Plan) (instance : ℕ → List Test) (ended : Bool) (h h' : List Part) (t t' : TimelineView) (account account' : Account V) → IsReady P T L instance ended h t account → IsReached P T (closed L) instance t.now.acted t.now.time h' t' account' → IsWorked P (closed L) t'.now
close_worked P T L instance ended h h' t t' account account' r d =
    record {
      acted = subst (λ k. IsEndOrNone (slice_get L.lines k)) (sym d.acted_is) (elim (close_by L ended t.now r.last r.acted) [
        | inl e ↦ subst IsEndOrNone (sym e) tt
        | inr e ↦ subst IsEndOrNone (sym e) tt
      ]);
      still = d.present.still;
      moment = d.present.moment;
      over = d.over;
    }
