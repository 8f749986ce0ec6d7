-- What a search asked at a history passes still where more is asked there: with more moments allowed, tests in front of each action,
-- and the goal where the text is read to its end.
use Rattle.std.proofs.Common.{◌≡◌, ℕ, ◌≤◌, ◌<◌, Bool, true, false, List, [], ◌∷◌, ◌++◌, map, refl, sym, subst, ◌∙◌, arith, if◌then◌else◌}
use Rattle.std.specs.Prelude.{Option, Some, None, nat_eq}
use Rattle.std.proofs.lemmas.Bool.Decides.{nat_tests}
use Rattle.plus_fraction.specs.Fraction.{Fraction}
use Rattle.plus_model.specs.Terms.{State, Problem}
use Rattle.plus_model.specs.Firing.{firing}
use Rattle.plus_model.specs.Plan.{Instance, UnknownAction, WrongArguments, Line, ActLine, EndLine, Plan}
use Rattle.plus_model.specs.History.{Part, Enter, Round, Act, Run, View}
use Rattle.plus_model.specs.Trajectory.{is_below, next_line, until, IsEndOrNone, Next, NextBy}
use Rattle.plus_state.proofs.Testing.{pass_none, pass_append, pass_left, pass_right, chosen_pass}
use Rattle.plus_settle.specs.Settles.{settle_steps}
use Rattle.plus_stretch.specs.Tests.{Test, full, of_settle, Passes, AllPass}
use Rattle.plus_stretch.specs.StretchTests.{if_empty}
use Rattle.plus_stretch.proofs.Rising.{to_below}
use Rattle.plus_timeline.specs.Asked.{round_tests, act_tests, goal_tests, count_tests, closing_tests, line_tests, nothing_due, is_there, asked}
use Rattle.plus_timeline.proofs.Stays.{listed, asked_is}

-- an action of a search asks nothing before its condition
abbrev pub nothing : ℕ → List Test
nothing i = []

-- these lines, while more may follow and where they are all
abbrev pub so_far : List Line → Plan
so_far lines = record { lines = lines; closed = false }

abbrev pub whole : List Line → Plan
whole lines = record { lines = lines; closed = true }

-- ---- the moments that are allowed

module _ (fits : Fraction → Type 0) where
  pub below_most : (most entries : ℕ) → entries ≤ most → AllPass fits (count_tests most entries) → entries < most
  unfolding Passes
  below_most most entries h a =
      let n : nat_eq entries most ≡ false = chosen_pass (Passes fits) (full most) (nat_eq entries most) (λ x. x) a in
      grind (arith, nat_tests)

  count_passes : (most entries : ℕ) → entries < most → AllPass fits (count_tests most entries)
  count_passes most entries h =
      let n : nat_eq entries most ≡ false = grind (arith, nat_tests) in
      subst (λ (b : Bool). AllPass fits (if b then full most ∷ [] else [])) (sym n) (pass_none (Passes fits))

  pub closing_count : (P : Problem) (most entries : ℕ) (s : State) → AllPass fits (closing_tests P most entries s) → AllPass fits (count_tests most entries)
  unfolding closing_tests
  closing_count P most entries s a = pass_left (Passes fits) (count_tests most entries) (map of_settle (settle_steps P s)) a

  closing_more : (P : Problem) (most most' entries : ℕ) (s : State) → entries ≤ most → most ≤ most' → AllPass fits (closing_tests P most entries s) → AllPass fits (closing_tests P most' entries s)
  unfolding closing_tests
  closing_more P most most' entries s h k a =
      let b : entries < most = below_most most entries h (closing_count P most entries s a) in
      pass_append (Passes fits) (count_tests most' entries) (map of_settle (settle_steps P s))
      (count_passes most' entries (omega arith))
      (pass_right (Passes fits) (count_tests most entries) (map of_settle (settle_steps P s)) a)

-- ---- all that is asked

module _ (fits : Fraction → Type 0) (P : Problem) (lines : List Line) (most most' : ℕ) (instance : ℕ → List Test) (entries : ℕ) (v : View) (within : entries ≤ most) (more : most ≤ most') (clean : (i : ℕ) → AllPass fits (instance i)) where
  abbrev GoalPasses : Type 0
  GoalPasses = AllPass fits (goal_tests P v.state)

  line_more : (o : Option Line) → (IsEndOrNone o → GoalPasses) → AllPass fits (line_tests P (so_far lines) nothing v o) → AllPass fits (line_tests P (whole lines) instance v o)
  line_more None g a = g tt
  line_more (Some (EndLine t)) g a = g tt
  line_more (Some (ActLine t (Instance action))) g a = pass_append (Passes fits) (instance v.acted) (act_tests v.acted action v.state) (clean v.acted) a
  line_more (Some (ActLine t (UnknownAction name))) g a = a
  line_more (Some (ActLine t (WrongArguments name))) g a = a

  abbrev at_moment : Plan → ℕ → (ℕ → List Test) → List ℕ → Bool → Option Line → List Test
  at_moment L m inst fs b o =
      (round_tests P v.fired v.state ++ if_empty fs (if b then closing_tests P m entries v.state else []))
      ++ (if nothing_due fs b then line_tests P L inst v o else [])

  moment_more : (fs : List ℕ) (b : Bool) (o : Option Line) → (nothing_due fs b ≡ true → IsEndOrNone o → GoalPasses) → AllPass fits (at_moment (so_far lines) most nothing fs b o) → AllPass fits (at_moment (whole lines) most' instance fs b o)
  moment_more (f ∷ fs) b o g a = a
  moment_more [] true o g a =
      let round = round_tests P v.fired v.state in
      let closing = closing_tests P most entries v.state in
      let closing' = closing_tests P most' entries v.state in
      let b = pass_left (Passes fits) (round ++ closing) [] a in
      pass_append (Passes fits) (round ++ closing') []
      (pass_append (Passes fits) round closing' (pass_left (Passes fits) round closing b)
      (closing_more fits P most most' entries v.state within more (pass_right (Passes fits) round closing b)))
      (pass_none (Passes fits))
  moment_more [] false o g a =
      let round = round_tests P v.fired v.state ++ [] in
      pass_append (Passes fits) round (line_tests P (whole lines) instance v o)
      (pass_left (Passes fits) round (line_tests P (so_far lines) nothing v o) a)
      (line_more o (g refl) (pass_right (Passes fits) round (line_tests P (so_far lines) nothing v o) a))

  listed_more : (u : Fraction) (r : Option (List ℕ)) (o : Option Line) → (is_there P u v r ≡ true → IsEndOrNone o → GoalPasses) → AllPass fits (listed P (so_far lines) most nothing entries u v r o) → AllPass fits (listed P (whole lines) most' instance entries u v r o)
  listed_more u (Some R) o g a = a
  listed_more u None o g a = moment_more (firing P v.state) (is_below v.time u) o g a

  -- where the end comes next, so does the goal pass
  pub asked_more : (is_there P (until P (whole lines) v) v v.running ≡ true → IsEndOrNone (next_line (whole lines) v) → GoalPasses) → AllPass fits (asked P (so_far lines) most nothing entries v) → AllPass fits (asked P (whole lines) most' instance entries v)
  asked_more g a =
      subst (AllPass fits) (sym (asked_is P (whole lines) most' instance entries v))
      (listed_more (until P (whole lines) v) v.running (next_line (whole lines) v) g
      (subst (AllPass fits) (asked_is P (so_far lines) most nothing entries v) a))

-- ---- where a part comes next, the end does not

pub record NothingDue (xs : List ℕ) (later : Bool) : Type 0 where
  pub none : xs ≡ []
  pub over : later ≡ false

due_none : (xs : List ℕ) (later : Bool) → nothing_due xs later ≡ true → NothingDue xs later
due_none [] true e = cc e
due_none [] false e = record { none = refl; over = refl }
due_none (x ∷ xs) later e = cc e

not_there : (P : Problem) (L : Plan) (v : View) (r : Option (List ℕ)) (part : Part) → NextBy P L v r part → is_there P (until P L v) v r ≡ true → IsEndOrNone (next_line L v) → ⊥
not_there P L v (Some R) part n t e = cc t
not_there P L v None (Enter u a s) n t e = n
not_there P L v None (Round E s) n t e = n.some (n.all ∙ (due_none (firing P v.state) (is_below v.time (until P L v)) t).none)
not_there P L v None (Act i s) n t e = subst IsEndOrNone n.due e
not_there P L v None (Run R) n t e = differ (sym (to_below v.time (until P L v) n.later) ∙ (due_none (firing P v.state) (is_below v.time (until P L v)) t).over)
  where
    differ : true ≡ false → ⊥
    differ e = cc

pub goes_on : (P : Problem) (L : Plan) (v : View) (part : Part) → Next P L v part → is_there P (until P L v) v v.running ≡ true → IsEndOrNone (next_line L v) → ⊥
goes_on P L v part n t e = not_there P L v v.running part n t e
