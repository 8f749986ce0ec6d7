-- A history that a timeline is played along: it grows by the part that a step adds, and all that is asked there passes. What stands
-- beside the timeline is told apart: `Beside` of the history before the step, `Beside'` of the one after it.
use Rattle.std.proofs.Common.{◌≡◌, ℕ, suc, ◌+◌, List, [], ◌∷◌, ◌++◌, refl, ap, sym, subst, ◌∙◌, arith, zero-add, add-zero}
use Rattle.std.specs.Prelude.{Option, Some, None, slice_get}
use Rattle.plus_fraction.specs.Fraction.{Fraction, ◌≤ℚ◌}
use Rattle.plus_model.specs.Terms.{Problem}
use Rattle.plus_model.specs.Plan.{Line, Plan}
use Rattle.plus_model.specs.History as history
use Rattle.plus_model.specs.History.{Part, Enter, Act, View, view_after}
use Rattle.plus_model.specs.Trajectory.{next_line, time_or, target, least, until, HasBegun, first_part, Next as MayFollow}
use Rattle.plus_model.proofs.Moments.{not_below, ≤ℚ_trans, least_within}
use Rattle.plus_model.proofs.Paths.{prefix_grows}
use Rattle.plus_stretch.specs.Tests.{Test, AllPass, FirstFailing}
use Rattle.plus_timeline.specs.declared.next.Next.{Next}
use Rattle.plus_timeline.specs.declared.next.Next.TheVariants.{Round, Run, Entry, There}
use Rattle.plus_timeline.specs.Timeline.{TimelineView}
use Rattle.plus_timeline.specs.Advance.{Advances, IsThere}
use Rattle.plus_timeline.specs.Asked.{advance_tests, asked}
use Rattle.plus_timeline.specs.Laws.{AddsPart, IsDone}
use Rattle.plus_timeline.specs.Played.{entries_of, asked_at, NoneFails, IsClear, IsPlayed, IsOnWay, IsReached}
use Rattle.plus_timeline.specs.StepsLeft.{IsMore}
use Rattle.plus_timeline.proofs.Follows.{done_follows, advance_follows}
use Rattle.plus_timeline.proofs.AskedHere.{IsNoAct, asked_on, advance_fails}
use Rattle.plus_timeline.proofs.StepsLeft.{step_most}

-- ---- the shorter histories

pub tail_is : (x y : Part) (xs ys : List Part) → x ∷ xs ≡ y ∷ ys → xs ≡ ys
tail_is x y xs ys e = cc e

nothing_is : (xs ys : List Part) (x : Part) → [] ≡ xs ++ x ∷ ys → ⊥
nothing_is [] ys x e = cc e
nothing_is (y ∷ xs) ys x e = cc e

-- a proper front of a list with one more is the list, or a proper front of it
data Fronted (h g : List Part) : Type 0 where
  whole : g ≡ h → Fronted h g
  proper : (part : Part) (rest : List Part) → h ≡ g ++ part ∷ rest → Fronted h g

fronted : (h g : List Part) (x part : Part) (rest : List Part) → h ++ x ∷ [] ≡ g ++ part ∷ rest → Fronted h g
fronted [] [] x part rest e = whole refl
fronted [] (y ∷ g) x part rest e = absurd (nothing_is g rest part (tail_is x y [] (g ++ part ∷ rest) e))
fronted (z ∷ h) [] x part rest e = proper z h refl
fronted (z ∷ h) (y ∷ g) x part rest e =
    let head : y ≡ z = cc e in
    elim (fronted h g x part rest (tail_is z y (h ++ x ∷ []) (g ++ part ∷ rest) e)) [
      | whole i ↦ whole (ap (λ w. w ∷ g) head ∙ ap (λ t. z ∷ t) i)
      | proper p r i ↦ proper p r (ap (λ t. z ∷ t) i ∙ ap (λ w. w ∷ (g ++ p ∷ r)) (sym head))
    ]

pub clear_part : (fits : Fraction → Type 0) (P : Problem) (L : Plan) (most : ℕ) (instance : ℕ → List Test) (h : List Part) (x : Part) → IsClear fits P L most instance h → NoneFails fits P L most instance h → IsClear fits P L most instance (h ++ x ∷ [])
clear_part fits P L most instance h x c n = λ g part rest q e. elim (fronted h g x part rest e) [
  | whole i ↦ subst (NoneFails fits P L most instance) (sym i) n
  | proper p r i ↦ c g p r q i
]

-- there is none before the first entry
pub clear_first : (fits : Fraction → Type 0) (P : Problem) (L : Plan) (most : ℕ) (instance : ℕ → List Test) → IsClear fits P L most instance (first_part P ∷ [])
clear_first fits P L most instance = λ g part rest q e.
    absurd (nothing_is q.rest rest part (tail_is (first_part P) (first_part P) [] (q.rest ++ part ∷ rest) (e ∙ ap (λ xs. xs ++ part ∷ rest) q.begins)))

-- ---- the history grows by one part

pub entries_of-append : (h : List Part) (part : Part) → entries_of (h ++ part ∷ []) ≡ entries_of h + entries_of (part ∷ [])
entries_of-append [] part = sym (zero-add (entries_of (part ∷ [])))
entries_of-append (Enter t a s ∷ h) part = let i = entries_of-append h part in omega arith
entries_of-append (history.Round E s ∷ h) part = entries_of-append h part
entries_of-append (Act i s ∷ h) part = entries_of-append h part
entries_of-append (history.Run R ∷ h) part = entries_of-append h part

-- a history that the timeline follows, grown by a part
pub played_on : {fits : Fraction → Type 0} {P : Problem} {L : Plan} {instance : ℕ → List Test} {Beside : List Part → Type 0} {h : List Part} {old : TimelineView} (Beside' : List Part → Type 0) (new : TimelineView) (part : Part) → HasBegun L → IsPlayed fits P L instance Beside h old → NoneFails fits P L old.most instance h → new.most ≡ old.most → AddsPart P L old new part → new.entries ≡ entries_of (h ++ part ∷ []) → Beside' (h ++ part ∷ []) → IsPlayed fits P L instance Beside' (h ++ part ∷ []) new
played_on {fits} {P} {L} {instance} {Beside} {h} {old} Beside' new part b p q m a n beside =
    let g = prefix_grows P L h part b p.prefix (subst (λ v. MayFollow P L v part) p.now a.next) in
    record {
      prefix = g.0;
      now = a.now ∙ ap (λ v. view_after v part) p.now ∙ sym g.1;
      entries = n;
      beside = beside;
      clear = subst (λ k. IsClear fits P L k instance (h ++ part ∷ [])) (sym m) (clear_part fits P L old.most instance h part p.clear q);
    }

-- the part that an answer adds
abbrev pub part_of : {Q : Type 0} → TimelineView → Next Q → Part
part_of new Round = history.Round new.events new.now.state
part_of new Run = history.Run new.running
part_of new (Entry t) = Enter new.now.time new.arrival new.now.state
part_of new There = history.Run []

no_act : {Q : Type 0} (new : TimelineView) (answer : Next Q) → IsNoAct (part_of new answer)
no_act new Round = tt
no_act new Run = tt
no_act new (Entry t) = tt
no_act new There = tt

-- what it adds may come next
adds_part : {Q : Type 0} (value : Q → Fraction) (P : Problem) (L : Plan) (u : Fraction) (old new : TimelineView) (answer : Next Q) → IsMore answer → target L old.now ≡ u → Advances value P u old new answer → AddsPart P L old new (part_of new answer)
adds_part value P L u old new Round m e a = (advance_follows value P L old new u Round e a).adds
adds_part value P L u old new Run m e a = advance_follows value P L old new u Run e a
adds_part value P L u old new (Entry t) m e a = (advance_follows value P L old new u (Entry t) e a).adds
adds_part value P L u old new There m e a = elim m [ ]

next_entries : {Q : Type 0} (value : Q → Fraction) (P : Problem) (u : Fraction) (old new : TimelineView) (answer : Next Q) → IsMore answer → Advances value P u old new answer → new.entries ≡ old.entries + entries_of (part_of new answer ∷ [])
next_entries value P u old new Round m a = ap (λ v. v.entries) a.is ∙ sym (add-zero old.entries)
next_entries value P u old new Run m a = ap (λ v. v.entries) a.is ∙ sym (add-zero old.entries)
next_entries value P u old new (Entry t) m a = let e : new.entries ≡ suc old.entries = ap (λ v. v.entries) a.is in omega arith
next_entries value P u old new There m a = elim m [ ]

-- ---- what is asked where a step is taken

-- what `advance` asks on the way to the time u
abbrev pub way_tests : Problem → Fraction → TimelineView → List Test
way_tests P u t = advance_tests P t.most t.entries (least t.now.time u P.timed) t.now

-- what is asked of the timeline is asked at its history
pub asked_same : {fits : Fraction → Type 0} {P : Problem} {L : Plan} {instance : ℕ → List Test} {Beside : List Part → Type 0} {h : List Part} {t : TimelineView} → IsPlayed fits P L instance Beside h t → asked P L t.most instance t.entries t.now ≡ asked_at P L t.most instance h
asked_same {fits} {P} {L} {instance} {Beside} {h} {t} p =
    ap (λ (n : ℕ). asked P L t.most instance n t.now) p.entries ∙ ap (λ (v : View). asked P L t.most instance (entries_of h) v) p.now

-- the tests of the way are those up to the next line
way_is : (P : Problem) (L : Plan) (u : Fraction) (t : TimelineView) → target L t.now ≡ u → way_tests P u t ≡ advance_tests P t.most t.entries (until P L t.now) t.now
way_is P L u t e = ap (λ (x : Fraction). advance_tests P t.most t.entries (least t.now.time x P.timed) t.now) (sym e)

-- what `advance` finds to fail first is the first that fails
pub way_fails : (fits : Fraction → Type 0) (P : Problem) (L : Plan) (instance : ℕ → List Test) (u : Fraction) (t : TimelineView) (test : Test) → target L t.now ≡ u → FirstFailing fits (way_tests P u t) test → FirstFailing fits (asked P L t.most instance t.entries t.now) test
way_fails fits P L instance u t test e f =
    advance_fails P L t.most instance t.entries t.now fits test (subst (λ (ts : List Test). FirstFailing fits ts test) (way_is P L u t e) f)

-- ---- the time that is aimed at stays the same
target_by : (o : Option Line) (t t' u : Fraction) → time_or o t ≡ u → (o ≡ None → t' ≡ t) → time_or o t' ≡ u
target_by None t t' u e f = f refl ∙ e
target_by (Some line) t t' u e f = e

step_acted : {Q : Type 0} (value : Q → Fraction) (P : Problem) (u : Fraction) (old new : TimelineView) (answer : Next Q) → Advances value P u old new answer → new.now.acted ≡ old.now.acted
step_acted value P u old new Round a = ap (λ v. v.now.acted) a.is
step_acted value P u old new Run a = ap (λ v. v.now.acted) a.is
step_acted value P u old new (Entry t) a = ap (λ v. v.now.acted) a.is
step_acted value P u old new There a = ap (λ v. v.now.acted) a.is

-- with no line to come time does not pass
time_kept : {Q : Type 0} (value : Q → Fraction) (P : Problem) (L : Plan) (u : Fraction) (old new : TimelineView) (answer : Next Q) → target L old.now ≡ u → Advances value P u old new answer → next_line L old.now ≡ None → new.now.time ≡ old.now.time
time_kept value P L u old new Round e a n = ap (λ v. v.now.time) a.is
time_kept value P L u old new Run e a n = ap (λ v. v.now.time) a.is
time_kept value P L u old new (Entry t) e a n =
    let here : old.now.time ≡ u = sym (ap (λ o. time_or o old.now.time) n) ∙ e in
    absurd (not_below old.now.time (value t) a.may.later
    (≤ℚ_trans _ _ _ a.may.within (subst (λ x. least old.now.time u P.timed ≤ℚ x) (sym here) (least_within old.now.time u P.timed))))
time_kept value P L u old new There e a n = ap (λ v. v.now.time) a.is

step_target : {Q : Type 0} (value : Q → Fraction) (P : Problem) (L : Plan) (u : Fraction) (old new : TimelineView) (answer : Next Q) → target L old.now ≡ u → Advances value P u old new answer → target L new.now ≡ u
step_target value P L u old new answer e a =
    let k : new.now.acted ≡ old.now.acted = step_acted value P u old new answer a in
    subst (λ i. time_or (slice_get L.lines i) new.now.time ≡ u) (sym k)
    (target_by (slice_get L.lines old.now.acted) old.now.time new.now.time u e (time_kept value P L u old new answer e a))

-- ---- a step

-- it adds a part, and the timeline is on its way still
module _ {Q : Type 0} (value : Q → Fraction) (fits : Fraction → Type 0) (P : Problem) (L : Plan) (instance : ℕ → List Test) (Beside Beside' : List Part → Type 0) (u : Fraction) (acted : ℕ) (h : List Part) (old new : TimelineView) where
  step_clear : (answer : Next Q) → IsMore answer → IsOnWay fits P L instance Beside u acted h old → Advances value P u old new answer → AllPass fits (way_tests P u old) → NoneFails fits P L old.most instance h
  step_clear answer m w a x =
      subst (AllPass fits)
      (way_is P L u old w.target_is
      ∙ sym (asked_on P L old.most instance old.entries old.now (part_of new answer) (no_act new answer) (adds_part value P L u old new answer m w.target_is a).next)
      ∙ asked_same w.played) x

  pub step_way : (answer : Next Q) → IsMore answer → HasBegun L → IsOnWay fits P L instance Beside u acted h old → Advances value P u old new answer → AllPass fits (way_tests P u old) → Beside' (h ++ part_of new answer ∷ []) → IsOnWay fits P L instance Beside' u acted (h ++ part_of new answer ∷ []) new
  step_way answer m b w a x beside = record {
    played = played_on Beside' new (part_of new answer) b w.played (step_clear answer m w a x) (step_most value P u old new answer a)
        (adds_part value P L u old new answer m w.target_is a)
        (next_entries value P u old new answer m a ∙ ap (λ n. n + entries_of (part_of new answer ∷ [])) w.played.entries ∙ sym (entries_of-append h (part_of new answer)))
        beside;
    target_is = step_target value P L u old new answer w.target_is a;
    acted_is = step_acted value P u old new answer a ∙ w.acted_is;
  }

-- it adds none, and the time is reached
pub step_done : (fits : Fraction → Type 0) (P : Problem) (L : Plan) (instance : ℕ → List Test) (Beside Beside' : List Part → Type 0) (u : Fraction) (acted : ℕ) (h : List Part) (old new : TimelineView) → IsOnWay fits P L instance Beside u acted h old → IsThere P u old new → AllPass fits (way_tests P u old) → Beside' h → IsReached fits P L instance Beside' u acted h new
step_done fits P L instance Beside Beside' u acted h old new w a x beside =
    let p = w.played in
    let d : IsDone P L old new = done_follows P L old new u w.target_is a in
    record {
      played = record { prefix = p.prefix; now = d.now ∙ p.now; entries = ap (λ v. v.entries) a.is ∙ p.entries; beside = beside; clear = subst (λ k. IsClear fits P L k instance h) (sym (ap (λ v. v.most) a.is)) p.clear };
      present = d.present;
      over = d.over;
      passed = subst (AllPass fits) (way_is P L u old w.target_is ∙ sym (ap (λ (v : TimelineView). advance_tests P v.most v.entries (until P L v.now) v.now) a.is)) x;
      acted_is = ap (λ v. v.now.acted) a.is ∙ w.acted_is;
      time_is = ap (λ v. v.now.time) a.is ∙ a.time;
    }
