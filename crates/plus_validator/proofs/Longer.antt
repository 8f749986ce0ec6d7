-- What fails for the lines read so far fails first for every plan that goes on from them.
use Rattle.std.proofs.Common.{◌≡◌, ℕ, ◌<◌, Bool, true, false, List, [], ◌∷◌, ◌++◌, refl, ap, sym, subst, ◌∙◌, inl, inr, append-nil, if◌then◌else◌}
use Rattle.std.specs.Prelude.{◌≢◌, ◌⊎◌, Option, Some, None, length}
use Rattle.plus_fraction.specs.Fraction.{Fraction, ◌<ℚ◌}
use Rattle.plus_fraction.proofs.FractionOrder.{<ℚ_irrefl}
use Rattle.plus_model.specs.Terms.{Problem}
use Rattle.plus_model.specs.Firing.{firing}
use Rattle.plus_model.specs.Plan.{Instance, UnknownAction, WrongArguments, Line, ActLine, EndLine, Plan}
use Rattle.plus_model.specs.History.{Part, Enter, Round, Act, Run, View, view_after, view_from}
use Rattle.plus_model.specs.Trajectory.{is_below, least, next_line, time_or, until, NextBy, Follow, Prefix, first_view, view_of}
use Rattle.plus_model.specs.Laws.{GoesOnFrom}
use Rattle.plus_model.proofs.Moments.{from_below}
use Rattle.plus_model.proofs.Later.{same_line}
use Rattle.plus_number.specs.Frac.{IsFrac64}
use Rattle.plus_stretch.specs.Tests.{Test, FirstFailing}
use Rattle.plus_stretch.specs.StretchTests.{if_empty}
use Rattle.plus_timeline.specs.Asked.{round_tests, closing_tests, act_tests, goal_tests, line_tests, advance_by, advance_tests, is_there, asked}
use Rattle.plus_timeline.specs.Played.{entries_of}
use Rattle.plus_timeline.proofs.Follows.{least_same}
use Rattle.plus_validator.specs.Asking.{Fails}
use Rattle.plus_validator.proofs.Asking.{fails_left, line_below}

-- ---- where a set runs, a line is next

until_now : (P : Problem) (L : Plan) (v : View) → next_line L v ≡ None → until P L v ≡ v.time
until_now P L v e = ap (λ (o : Option Line). least v.time (time_or o v.time) P.timed) e ∙ least_same v.time P.timed

abbrev pub RunsTo : Plan → View → Type 0
RunsTo L v = (v.running ≡ None) ⊎ (next_line L v ≢ None)

runs_after : (P : Problem) (L : Plan) (v : View) (o : Option (List ℕ)) (part : Part) → NextBy P L v o part → RunsTo L (view_after v part)
runs_after P L v o (Enter t a s) n = inl refl
runs_after P L v o (Round E s) n = inl refl
runs_after P L v o (Act i s) n = inl refl
runs_after P L v None (Run R) n = inr (λ e. <ℚ_irrefl v.time (subst (λ (x : Fraction). v.time <ℚ x) (until_now P L v e) n.later))
runs_after P L v (Some S) (Run R) n = absurd n

runs_from : (P : Problem) (L : Plan) (v : View) (xs : List Part) → RunsTo L v → Follow P L v xs → RunsTo L (view_from v xs)
runs_from P L v [] r f = r
runs_from P L v (x ∷ xs) r f = runs_from P L (view_after v x) xs (runs_after P L v v.running x f.1) f.2

pub runs_to : (P : Problem) (L : Plan) (h : List Part) → Prefix P L h → RunsTo L (view_of P h)
runs_to P L h p = subst (λ (g : List Part). RunsTo L (view_of P g)) (sym p.begins) (runs_from P L (first_view P) p.rest (inl refl) p.follow)

-- ---- lists that begin with the same

drop_none : (b : Bool) (xs : List Test) (t : Test) → FirstFailing IsFrac64 (xs ++ (if b then [] else [])) t → FirstFailing IsFrac64 xs t
drop_none true xs t f = subst (λ (ts : List Test). FirstFailing IsFrac64 ts t) (append-nil xs) f
drop_none false xs t f = subst (λ (ts : List Test). FirstFailing IsFrac64 ts t) (append-nil xs) f

nothing_if : (xs : List ℕ) → if_empty xs [] ≡ []
nothing_if [] = refl
nothing_if (x ∷ xs) = refl

never_below : (x : Fraction) (b : Bool) → is_below x x ≡ b → b ≡ false
never_below x true e = absurd (<ℚ_irrefl x (from_below x x e))
never_below x false e = refl

module _ (P : Problem) (L L' : Plan) (most : ℕ) (instance instance' : ℕ → List Test) (entries : ℕ) (v : View) (g : GoesOnFrom L L') (agree : (i : ℕ) → i < length L.lines → instance i ≡ instance' i) (still_open : L.closed ≡ false) (t : Test) where
  abbrev whole_list : Plan → (ℕ → List Test) → Fraction → Option Line → List Test
  whole_list K inst u o = advance_tests P most entries u v ++ (if is_there P u v v.running then line_tests P K inst v o else [])

  asked_is : (K : Plan) (inst : ℕ → List Test) (o : Option Line) (u : Fraction) → next_line K v ≡ o → until P K v ≡ u → asked P K most inst entries v ≡ whole_list K inst u o
  unfolding asked
  asked_is K inst o u e f = ap (λ (x : Fraction). whole_list K inst x (next_line K v)) f ∙ ap (λ (x : Option Line). whole_list K inst u x) e

  -- by the line that is next
  line_on : (line : Line) (u : Fraction) → instance v.acted ≡ instance' v.acted → FirstFailing IsFrac64 (whole_list L instance u (Some line)) t → FirstFailing IsFrac64 (whole_list L' instance' u (Some line)) t
  line_on (ActLine x (UnknownAction name)) u e f = f
  line_on (ActLine x (WrongArguments name)) u e f = f
  line_on (ActLine x (Instance action)) u e f =
      subst (λ (ts : List Test). FirstFailing IsFrac64 (advance_tests P most entries u v ++ (if is_there P u v v.running then ts ++ act_tests v.acted action v.state else [])) t) e f
  line_on (EndLine x) u e f =
      fails_left (advance_tests P most entries u v) _ t
      (drop_none (is_there P u v v.running) (advance_tests P most entries u v) t
      (subst (λ (c : Bool). FirstFailing IsFrac64 (advance_tests P most entries u v ++ (if is_there P u v v.running then (if c then goal_tests P v.state else []) else [])) t) still_open f))

  some_on : (line : Line) → next_line L v ≡ Some line → FirstFailing IsFrac64 (asked P L most instance entries v) t → FirstFailing IsFrac64 (asked P L' most instance' entries v) t
  some_on line e f =
      let e' : next_line L' v ≡ Some line = same_line L L' v line g e in
      let u : until P L' v ≡ until P L v = ap (λ (o : Option Line). least v.time (time_or o v.time) P.timed) (e' ∙ sym e) in
      subst (λ (ts : List Test). FirstFailing IsFrac64 ts t) (sym (asked_is L' instance' (Some line) (until P L v) e' u))
      (line_on line (until P L v) (agree v.acted (line_below L.lines v.acted line e))
      (subst (λ (ts : List Test). FirstFailing IsFrac64 ts t) (asked_is L instance (Some line) (until P L v) e refl) f))

  -- the tests at a moment begin with those of a round
  moment_is : (u : Fraction) → v.running ≡ None → advance_tests P most entries u v ≡ round_tests P v.fired v.state ++ if_empty (firing P v.state) (if is_below v.time u then closing_tests P most entries v.state else [])
  unfolding advance_tests
  moment_is u e = ap (λ (o : Option (List ℕ)). advance_by P most entries u v o) e

  moment_now : v.running ≡ None → advance_tests P most entries v.time v ≡ round_tests P v.fired v.state
  moment_now e =
      moment_is v.time e
      ∙ ap (λ (b : Bool). round_tests P v.fired v.state ++ if_empty (firing P v.state) (if b then closing_tests P most entries v.state else [])) (never_below v.time (is_below v.time v.time) refl)
      ∙ ap (λ (ts : List Test). round_tests P v.fired v.state ++ ts) (nothing_if (firing P v.state))
      ∙ append-nil (round_tests P v.fired v.state)

  none_on : next_line L v ≡ None → v.running ≡ None → FirstFailing IsFrac64 (asked P L most instance entries v) t → FirstFailing IsFrac64 (asked P L' most instance' entries v) t
  none_on e r f =
      let now : FirstFailing IsFrac64 (advance_tests P most entries v.time v ++ (if is_there P v.time v v.running then (if L.closed then goal_tests P v.state else []) else [])) t =
      subst (λ (ts : List Test). FirstFailing IsFrac64 ts t) (asked_is L instance None v.time e (until_now P L v e)) f in
      let round : FirstFailing IsFrac64 (round_tests P v.fired v.state) t =
      subst (λ (ts : List Test). FirstFailing IsFrac64 ts t) (moment_now r)
      (drop_none (is_there P v.time v v.running) (advance_tests P most entries v.time v) t
      (subst (λ (c : Bool). FirstFailing IsFrac64 (advance_tests P most entries v.time v ++ (if is_there P v.time v v.running then (if c then goal_tests P v.state else []) else [])) t) still_open now)) in
      subst (λ (ts : List Test). FirstFailing IsFrac64 ts t) (sym (asked_is L' instance' (next_line L' v) (until P L' v) refl refl))
      (fails_left (advance_tests P most entries (until P L' v) v) _ t
      (subst (λ (ts : List Test). FirstFailing IsFrac64 ts t) (sym (moment_is (until P L' v) r)) (fails_left (round_tests P v.fired v.state) _ t round)))

  by_next : (o : Option Line) → next_line L v ≡ o → RunsTo L v → FirstFailing IsFrac64 (asked P L most instance entries v) t → FirstFailing IsFrac64 (asked P L' most instance' entries v) t
  by_next (Some line) e r f = some_on line e f
  by_next None e (inl r) f = none_on e r f
  by_next None e (inr n) f = absurd (n e)

-- at a history of both
pub fails_longer : (P : Problem) (L L' : Plan) (most : ℕ) (instance instance' : ℕ → List Test) (h : List Part) (t : Test) → GoesOnFrom L L' → ((i : ℕ) → i < length L.lines → instance i ≡ instance' i) → L.closed ≡ false → Prefix P L h → Fails P L most instance h t → Fails P L' most instance' h t
fails_longer P L L' most instance instance' h t g a c p f =
    by_next P L L' most instance instance' (entries_of h) (view_of P h) g a c t (next_line L (view_of P h)) refl (runs_to P L h p) f
