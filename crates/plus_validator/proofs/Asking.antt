-- What is asked at a history by the next line, and for other instances and longer plans.
use Rattle.std.proofs.Common.{◌≡◌, ℕ, zero, suc, ◌<◌, Bool, true, false, List, [], ◌∷◌, ◌++◌, refl, ap, sym, subst, ◌∙◌, arith, if◌then◌else◌}
use Rattle.std.specs.Prelude.{Option, Some, None, length, slice_get}
use Rattle.plus_model.specs.Terms.{State, Problem}
use Rattle.plus_model.specs.Plan.{Instance, UnknownAction, WrongArguments, Line, ActLine, EndLine, Plan}
use Rattle.plus_model.specs.History.{Part, Enter, Round, Act, Run, View}
use Rattle.plus_model.specs.Trajectory.{next_line, until, IsEndOrNone, Next, NextBy}
use Rattle.plus_model.specs.Breach.{Breach, IsPresent}
use Rattle.plus_model.specs.Laws.{GoesOnFrom}
use Rattle.plus_number.specs.Frac.{IsFrac64}
use Rattle.plus_state.proofs.Testing.{pass_append, fail_left, fail_right, pass_none, fail_here, one_test}
use Rattle.plus_stretch.specs.Tests.{Test, too_many_nodes, no_number, breach, Passes, AllPass, FirstFailing}
use Rattle.plus_timeline.specs.Asked.{goal_tests, act_tests, line_tests, advance_by, advance_tests, is_there, asked}
use Rattle.plus_timeline.proofs.Stays.{asked_is, asked_stays}
use Rattle.plus_timeline.proofs.AskedHere.{IsNoAct, asked_on, asked_there}

-- ---- lists of tests

pub all_pass : (xs ys : List Test) → AllPass IsFrac64 xs → AllPass IsFrac64 ys → AllPass IsFrac64 (xs ++ ys)
all_pass xs ys a b = pass_append (Passes IsFrac64) xs ys a b

pub fails_left : (xs ys : List Test) (t : Test) → FirstFailing IsFrac64 xs t → FirstFailing IsFrac64 (xs ++ ys) t
fails_left xs ys t f = fail_left (Passes IsFrac64) xs ys t f

pub fails_right : (xs ys : List Test) (t : Test) → AllPass IsFrac64 xs → FirstFailing IsFrac64 ys t → FirstFailing IsFrac64 (xs ++ ys) t
fails_right xs ys t a f = fail_right (Passes IsFrac64) xs ys t a f

pub none_fails : (xs : List Test) (t : Test) → AllPass IsFrac64 xs → FirstFailing IsFrac64 xs t → ⊥
none_fails xs t a f = (one_test (Passes IsFrac64)).none xs t a f

pub nothing_passes : AllPass IsFrac64 []
nothing_passes = pass_none (Passes IsFrac64)

-- the tests that are listed only where they fail
pub breach_fails : (b : Breach) (xs : List Test) → FirstFailing IsFrac64 (breach b ∷ xs) (breach b)
unfolding Passes
breach_fails b xs = fail_here (Passes IsFrac64) (breach b) xs (λ x. x)

pub nodes_fail : (n : ℕ) (xs : List Test) → FirstFailing IsFrac64 (too_many_nodes n ∷ xs) (too_many_nodes n)
unfolding Passes
nodes_fail n xs = fail_here (Passes IsFrac64) (too_many_nodes n) xs (λ x. x)

pub number_fails : (start last : ℕ) (xs : List Test) → FirstFailing IsFrac64 (no_number start last ∷ xs) (no_number start last)
unfolding Passes
number_fails start last xs = fail_here (Passes IsFrac64) (no_number start last) xs (λ x. x)

-- ---- the next line

module _ (P : Problem) (L : Plan) (most : ℕ) (instance : ℕ → List Test) (entries : ℕ) (v : View) where
  pub line_passes : (o : Option Line) → next_line L v ≡ o → IsPresent P v → until P L v ≡ v.time → AllPass IsFrac64 (advance_tests P most entries (until P L v) v) → AllPass IsFrac64 (line_tests P L instance v o) → AllPass IsFrac64 (asked P L most instance entries v)
  line_passes o e p u a b = subst (AllPass IsFrac64) (sym (asked_there P L most instance entries v o e p u)) (all_pass (advance_tests P most entries (until P L v) v) (line_tests P L instance v o) a b)

  pub line_fails : (o : Option Line) (t : Test) → next_line L v ≡ o → IsPresent P v → until P L v ≡ v.time → AllPass IsFrac64 (advance_tests P most entries (until P L v) v) → FirstFailing IsFrac64 (line_tests P L instance v o) t → FirstFailing IsFrac64 (asked P L most instance entries v) t
  line_fails o t e p u a f = subst (λ (ts : List Test). FirstFailing IsFrac64 ts t) (sym (asked_there P L most instance entries v o e p u)) (fails_right (advance_tests P most entries (until P L v) v) (line_tests P L instance v o) t a f)

  -- a line that is no action asks for the goal, at the end of the text
  end_asks : (o : Option Line) → IsEndOrNone o → line_tests P L instance v o ≡ (if L.closed then goal_tests P v.state else [])
  end_asks None h = refl
  end_asks (Some (EndLine t)) h = refl
  end_asks (Some (ActLine t call)) h = absurd h

  end_is : (b : Bool) → L.closed ≡ b → IsEndOrNone (next_line L v) → line_tests P L instance v (next_line L v) ≡ (if b then goal_tests P v.state else [])
  end_is b c h = end_asks (next_line L v) h ∙ ap (λ (x : Bool). if x then goal_tests P v.state else []) c

  -- while it is not at its end, nothing more is asked
  pub open_passes : L.closed ≡ false → IsEndOrNone (next_line L v) → IsPresent P v → until P L v ≡ v.time → AllPass IsFrac64 (advance_tests P most entries (until P L v) v) → AllPass IsFrac64 (asked P L most instance entries v)
  open_passes c h p u a = line_passes (next_line L v) refl p u a (subst (AllPass IsFrac64) (sym (end_is false c h)) nothing_passes)

  pub goal_passes : L.closed ≡ true → IsEndOrNone (next_line L v) → IsPresent P v → until P L v ≡ v.time → AllPass IsFrac64 (advance_tests P most entries (until P L v) v) → AllPass IsFrac64 (goal_tests P v.state) → AllPass IsFrac64 (asked P L most instance entries v)
  goal_passes c h p u a g = line_passes (next_line L v) refl p u a (subst (AllPass IsFrac64) (sym (end_is true c h)) g)

  pub goal_fails : (t : Test) → L.closed ≡ true → IsEndOrNone (next_line L v) → IsPresent P v → until P L v ≡ v.time → AllPass IsFrac64 (advance_tests P most entries (until P L v) v) → FirstFailing IsFrac64 (goal_tests P v.state) t → FirstFailing IsFrac64 (asked P L most instance entries v) t
  goal_fails t c h p u a g = line_fails (next_line L v) t refl p u a (subst (λ (ts : List Test). FirstFailing IsFrac64 ts t) (sym (end_is true c h)) g)

-- ---- other instances

same_line_tests : (P : Problem) (L : Plan) (instance instance' : ℕ → List Test) (v : View) (o : Option Line) → instance v.acted ≡ instance' v.acted → line_tests P L instance v o ≡ line_tests P L instance' v o
same_line_tests P L instance instance' v None e = refl
same_line_tests P L instance instance' v (Some (EndLine t)) e = refl
same_line_tests P L instance instance' v (Some (ActLine t (UnknownAction name))) e = refl
same_line_tests P L instance instance' v (Some (ActLine t (WrongArguments name))) e = refl
same_line_tests P L instance instance' v (Some (ActLine t (Instance action))) e = ap (λ (ts : List Test). ts ++ act_tests v.acted action v.state) e

-- a line that stands there
pub line_below : (ls : List Line) (i : ℕ) (line : Line) → slice_get ls i ≡ Some line → i < length ls
line_below [] i line e = cc e
line_below (x ∷ ls) zero line e = omega arith
line_below (x ∷ ls) (suc i) line e = let k = line_below ls i line e in omega arith

module _ (P : Problem) (L : Plan) (most : ℕ) (instance instance' : ℕ → List Test) (entries : ℕ) (v : View) (agree : (i : ℕ) → i < length L.lines → instance i ≡ instance' i) where
  same_act : instance v.acted ≡ instance' v.acted → asked P L most instance entries v ≡ asked P L most instance' entries v
  same_act e =
      asked_is P L most instance entries v
      ∙ ap (λ (ts : List Test). advance_by P most entries (until P L v) v v.running ++ (if is_there P (until P L v) v v.running then ts else [])) (same_line_tests P L instance instance' v (next_line L v) e)
      ∙ sym (asked_is P L most instance' entries v)

  same_on : (part : Part) → IsNoAct part → Next P L v part → asked P L most instance entries v ≡ asked P L most instance' entries v
  same_on part q n = asked_on P L most instance entries v part q n ∙ sym (asked_on P L most instance' entries v part q n)

  act_below : (o : Option (List ℕ)) (i : ℕ) (s : State) → NextBy P L v o (Act i s) → v.acted < length L.lines
  act_below None i s n = line_below L.lines v.acted _ n.due
  act_below (Some R) i s n = absurd n

  same_by : (part : Part) → Next P L v part → asked P L most instance entries v ≡ asked P L most instance' entries v
  same_by (Enter t a s) n = same_on (Enter t a s) tt n
  same_by (Round E s) n = same_on (Round E s) tt n
  same_by (Act i s) n = same_act (agree v.acted (act_below v.running i s n))
  same_by (Run R) n = same_on (Run R) tt n

-- where a part comes next, all that is asked passes still when the plan goes on
pub passes_on : (P : Problem) (L L' : Plan) (most : ℕ) (instance instance' : ℕ → List Test) (entries : ℕ) (v : View) (part : Part) → GoesOnFrom L L' → ((i : ℕ) → i < length L.lines → instance i ≡ instance' i) → Next P L v part → AllPass IsFrac64 (asked P L most instance entries v) → AllPass IsFrac64 (asked P L' most instance' entries v)
passes_on P L L' most instance instance' entries v part g agree n a =
    subst (AllPass IsFrac64) (same_by P L most instance instance' entries v agree part n ∙ asked_stays P L L' most instance' entries v part g n) a
