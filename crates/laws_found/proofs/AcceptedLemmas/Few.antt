-- A history whose shorter histories all pass enters no more moments than are allowed.
use Rattle.std.proofs.Common.{◌≡◌, ℕ, suc, ◌+◌, ◌≤◌, ◌<◌, Bool, true, false, List, [], ◌∷◌, ◌++◌, refl, sym, ap, subst, ◌∙◌, arith, if◌then◌else◌}
use Rattle.std.specs.Prelude.{Option, Some, None}
use Rattle.plus_fraction.specs.Fraction.{Fraction}
use Rattle.plus_model.specs.Terms.{State, Problem}
use Rattle.plus_model.specs.Firing.{firing}
use Rattle.plus_model.specs.Plan.{Line, Plan}
use Rattle.plus_model.specs.History.{Part, Enter, Round, Act, Run, View, view_after, view_from}
use Rattle.plus_model.specs.Trajectory.{is_below, next_line, until, Next, NextBy, Follow, Prefix, first_part, first_view}
use Rattle.plus_state.proofs.Testing.{pass_left, pass_right}
use Rattle.plus_stretch.specs.Tests.{Passes, AllPass}
use Rattle.plus_stretch.specs.StretchTests.{if_empty}
use Rattle.plus_stretch.proofs.Rising.{to_below}
use Rattle.plus_timeline.specs.Asked.{round_tests, closing_tests, line_tests, nothing_due, asked}
use Rattle.plus_timeline.specs.Played.{entries_of}
use Rattle.plus_planner.specs.Grid.{IsClearIn}
use Rattle.plus_timeline.specs.StepsLeft.{HasRoom}
use Rattle.plus_timeline.proofs.Stays.{listed, asked_is}
use Rattle.plus_planner.proofs.Ready.{begin_follow}
use Rattle.laws_found.proofs.AcceptedLemmas.Lifting.{nothing, below_most, closing_count}

-- ---- the first parts of a history

pub next_behind : (P : Problem) (L : Plan) (v : View) (xs : List Part) (part : Part) (ys : List Part) → Follow P L v (xs ++ part ∷ ys) → Next P L (view_from v xs) part
next_behind P L v [] part ys f = f.1
next_behind P L v (x ∷ xs) part ys f = next_behind P L (view_after v x) xs part ys f.2

pub entries_front : (xs ys : List Part) → entries_of xs ≤ entries_of (xs ++ ys)
entries_front [] ys = omega arith
entries_front (Enter t a s ∷ xs) ys = let k = entries_front xs ys in omega arith
entries_front (Round E s ∷ xs) ys = entries_front xs ys
entries_front (Act i s ∷ xs) ys = entries_front xs ys
entries_front (Run R ∷ xs) ys = entries_front xs ys

-- ---- part by part

module _ (fits : Fraction → Type 0) (P : Problem) (L : Plan) (most : ℕ) where
  -- all that is asked in front of each of these parts passes, where so many moments are entered before
  abbrev AskedBefore : ℕ → View → List Part → Type 0
  AskedBefore n v parts =
      (front : List Part) (part : Part) (rest : List Part) → parts ≡ front ++ part ∷ rest
      → (m : ℕ) → m ≡ n + entries_of front → AllPass fits (asked P L most nothing m (view_from v front))

  -- an entry follows a running set, which has room for it
  enters : (v : View) (n : ℕ) (r : Option (List ℕ)) (t : Fraction) (a s : State) → NextBy P L v r (Enter t a s) → HasRoom r n most → n < most
  enters v n None t a s k h = absurd k
  enters v n (Some R) t a s k h = h

  -- a running set follows where the number of entries was asked for
  closes : (v : View) (n : ℕ) (fs : List ℕ) (b : Bool) (o : Option Line) → n ≤ most → fs ≡ [] → b ≡ true → AllPass fits ((round_tests P v.fired v.state ++ if_empty fs (if b then closing_tests P most n v.state else [])) ++ (if nothing_due fs b then line_tests P L nothing v o else [])) → n < most
  closes v n (f ∷ fs) b o h e d a = cc e
  closes v n [] false o h e d a = cc d
  closes v n [] true o h e d a =
      let round = round_tests P v.fired v.state in
      let closing = closing_tests P most n v.state in
      below_most fits most n h (closing_count fits P most n v.state (pass_right (Passes fits) round closing (pass_left (Passes fits) (round ++ closing) [] a)))

  runs_by : (v : View) (n : ℕ) (r : Option (List ℕ)) (R : List ℕ) → n ≤ most → NextBy P L v r (Run R) → AllPass fits (listed P L most nothing n (until P L v) v r (next_line L v)) → n < most
  runs_by v n (Some S) R h k a = absurd k
  runs_by v n None R h k a = closes v n (firing P v.state) (is_below v.time (until P L v)) (next_line L v) h k.still (to_below v.time (until P L v) k.later) a

  runs : (v : View) (n : ℕ) (R : List ℕ) → n ≤ most → Next P L v (Run R) → AllPass fits (asked P L most nothing n v) → n < most
  runs v n R h k a = runs_by v n v.running R h k (subst (AllPass fits) (asked_is P L most nothing n v) a)

  few_from : (parts : List Part) (v : View) (n : ℕ) → Follow P L v parts → AskedBefore n v parts → n ≤ most → HasRoom v.running n most → n + entries_of parts ≤ most
  few_from [] v n f c h r = omega arith
  few_from (Enter t a s ∷ ps) v n f c h r =
      let b : n < most = enters v n v.running t a s f.1 r in
      let k = few_from ps (view_after v (Enter t a s)) (suc n) f.2 (λ front part rest e m i. c (Enter t a s ∷ front) part rest (ap (λ xs. Enter t a s ∷ xs) e) m (omega arith)) (omega arith) tt in
      omega arith
  few_from (Round E s ∷ ps) v n f c h r = few_from ps (view_after v (Round E s)) n f.2 (λ front part rest e m i. c (Round E s ∷ front) part rest (ap (λ xs. Round E s ∷ xs) e) m i) h tt
  few_from (Act j s ∷ ps) v n f c h r = few_from ps (view_after v (Act j s)) n f.2 (λ front part rest e m i. c (Act j s ∷ front) part rest (ap (λ xs. Act j s ∷ xs) e) m i) h tt
  few_from (Run R ∷ ps) v n f c h r =
      let a : AllPass fits (asked P L most nothing n v) = c [] (Run R) ps refl n (omega arith) in
      few_from ps (view_after v (Run R)) n f.2 (λ front part rest e m i. c (Run R ∷ front) part rest (ap (λ xs. Run R ∷ xs) e) m i) h (runs v n R h f.1 a)

  asked_before : (h : List Part) (p : Prefix P L h) → IsClearIn fits P L most h → AskedBefore 1 (first_view P) p.rest
  asked_before h p c = λ front part rest e m i.
      let n : suc (entries_of front) ≡ m = omega arith in
      subst (λ (k : ℕ). AllPass fits (asked P L most nothing k (view_from (first_view P) front))) n
      (c (first_part P ∷ front) part rest
      record { ordered = p.ordered; rest = front; begins = refl; follow = begin_follow P L (first_view P) front (part ∷ rest) (subst (Follow P L (first_view P)) e p.follow) }
      (p.begins ∙ ap (λ xs. first_part P ∷ xs) e))

  pub few : (h : List Part) → 1 ≤ most → Prefix P L h → IsClearIn fits P L most h → entries_of h ≤ most
  few h o p c =
      let k : 1 + entries_of p.rest ≤ most = few_from p.rest (first_view P) 1 p.follow (asked_before h p c) o tt in
      subst (λ (xs : List Part). entries_of xs ≤ most) (sym p.begins) (omega arith)
