-- What is asked where a part comes next does not depend on the lines that follow.
use Rattle.std.proofs.Common.{◌≡◌, ◌≢◌, ℕ, Bool, true, false, not, List, [], ◌∷◌, ◌++◌, refl, ap, ap₂, sym, subst, ◌∙◌, if◌then◌else◌}
use Rattle.std.specs.Prelude.{Option, Some, None}
use Rattle.plus_fraction.specs.Fraction.{Fraction, ◌<ℚ◌, ◌≤ℚ◌}
use Rattle.plus_fraction.proofs.FractionOrder.{<ℚ_irrefl}
use Rattle.plus_fraction.proofs.FractionAtMost.{<ℚ-≤ℚ_trans}
use Rattle.plus_model.specs.Terms.{Problem}
use Rattle.plus_model.specs.Plan.{Line, ActLine, Instance, Plan}
use Rattle.plus_model.specs.Firing.{firing}
use Rattle.plus_model.specs.History.{Part, Enter, Round, Act, Run, View}
use Rattle.plus_model.specs.Trajectory.{is_below, least, next_line, time_or, until, NextBy}
use Rattle.plus_model.specs.Laws.{GoesOnFrom}
use Rattle.plus_model.proofs.Later.{same_line, same_until}
use Rattle.plus_model.proofs.Moments.{not_below, from_below}
use Rattle.plus_model.proofs.Steps.{until_within}
use Rattle.plus_stretch.proofs.Rising.{to_below}
use Rattle.plus_stretch.specs.Tests.{Test}
use Rattle.plus_stretch.specs.StretchTests.{if_empty, stretch_tests}
use Rattle.plus_timeline.specs.Asked.{round_tests, closing_tests, line_tests, advance_by, advance_tests, nothing_due, is_there, asked}
use Rattle.plus_timeline.specs.AskedLaws.{AskedStays, AdvanceFirst, LineBehind}

-- what is asked, by what runs and by the next line
abbrev pub listed : Problem → Plan → ℕ → (ℕ → List Test) → ℕ → Fraction → View → Option (List ℕ) → Option Line → List Test
listed P L most instance entries u v o line =
    advance_by P most entries u v o ++ (if is_there P u v o then line_tests P L instance v line else [])

pub asked_is : (P : Problem) (L : Plan) (most : ℕ) (instance : ℕ → List Test) (entries : ℕ) (v : View) → asked P L most instance entries v ≡ listed P L most instance entries (until P L v) v v.running (next_line L v)
unfolding asked advance_tests
asked_is P L most instance entries v = refl

pub no_tests : (xs : List ℕ) (ts : List Test) → xs ≢ [] → if_empty xs ts ≡ []
no_tests [] ts n = absurd (n refl)
no_tests (x ∷ xs) ts n = refl

pub not_there : (xs : List ℕ) (b : Bool) → xs ≢ [] → nothing_due xs b ≡ false
not_there [] b n = absurd (n refl)
not_there (x ∷ xs) b n = refl

pub by_bool : (b : Bool) → (b ≡ true → ⊥) → b ≡ false
by_bool true f = absurd (f refl)
by_bool false f = refl

module _ (P : Problem) (L L' : Plan) (most : ℕ) (instance : ℕ → List Test) (entries : ℕ) (v : View) (g : GoesOnFrom L L') where
  -- a round is due, whatever the lines say
  in_round : (u : Fraction) (K : Plan) (line : Option Line) → firing P v.state ≢ [] → listed P K most instance entries u v None line ≡ (round_tests P v.fired v.state ++ []) ++ []
  in_round u K line n = ap₂ (λ (xs : List Test) (b : Bool). (round_tests P v.fired v.state ++ xs) ++ (if b then line_tests P K instance v line else []))
      (no_tests (firing P v.state) _ n) (not_there (firing P v.state) (is_below v.time u) n)

  -- time is to go on
  in_time : (u : Fraction) (K : Plan) (line : Option Line) → firing P v.state ≡ [] → is_below v.time u ≡ true → listed P K most instance entries u v None line ≡ (round_tests P v.fired v.state ++ closing_tests P most entries v.state) ++ []
  in_time u K line s b =
      ap (λ (xs : List ℕ). (round_tests P v.fired v.state ++ if_empty xs (if is_below v.time u then closing_tests P most entries v.state else [])) ++ (if nothing_due xs (is_below v.time u) then line_tests P K instance v line else [])) s
      ∙ ap (λ (c : Bool). (round_tests P v.fired v.state ++ (if c then closing_tests P most entries v.state else [])) ++ (if not c then line_tests P K instance v line else [])) b

  -- a line is due
  in_line : (u : Fraction) (K : Plan) (line : Option Line) → firing P v.state ≡ [] → is_below v.time u ≡ false → listed P K most instance entries u v None line ≡ (round_tests P v.fired v.state ++ []) ++ line_tests P K instance v line
  in_line u K line s b =
      ap (λ (xs : List ℕ). (round_tests P v.fired v.state ++ if_empty xs (if is_below v.time u then closing_tests P most entries v.state else [])) ++ (if nothing_due xs (is_below v.time u) then line_tests P K instance v line else [])) s
      ∙ ap (λ (c : Bool). (round_tests P v.fired v.state ++ (if c then closing_tests P most entries v.state else [])) ++ (if not c then line_tests P K instance v line else [])) b

  below_true : (x y : Fraction) → x <ℚ y → is_below x y ≡ true
  below_true x y h = to_below x y h

  due_below : (K : Plan) (line : Line) → next_line K v ≡ Some line → time_or (Some line) v.time ≡ v.time → is_below v.time (until P K v) ≡ false
  due_below K line e t = by_bool (is_below v.time (until P K v)) (λ b.
      not_below v.time (until P K v) (from_below v.time (until P K v) b) (subst (λ (x : Fraction). until P K v ≤ℚ x) (ap (λ (o : Option Line). time_or o v.time) e ∙ t) (until_within P K v)))

  stays_by : (o : Option (List ℕ)) (part : Part) → NextBy P L v o part → listed P L most instance entries (until P L v) v o (next_line L v) ≡ listed P L' most instance entries (until P L' v) v o (next_line L' v)
  stays_by None (Enter t a s) n = absurd n
  stays_by None (Round E s) n =
      let some : firing P v.state ≢ [] = λ e. n.some (n.all ∙ e) in
      in_round (until P L v) L (next_line L v) some ∙ sym (in_round (until P L' v) L' (next_line L' v) some)
  stays_by None (Act i s) n =
      let line = ActLine v.time (Instance n.action) in
      let d : next_line L' v ≡ Some line = same_line L L' v line g n.due in
      in_line (until P L v) L (next_line L v) n.acts.still (due_below L line n.due refl) ∙
      ap (λ (o : Option Line). (round_tests P v.fired v.state ++ []) ++ line_tests P L instance v o) n.due
      ∙ sym (ap (λ (o : Option Line). (round_tests P v.fired v.state ++ []) ++ line_tests P L' instance v o) d)
      ∙ sym (in_line (until P L' v) L' (next_line L' v) n.acts.still (due_below L' line d refl))
  stays_by None (Run R) n =
      let same = same_until P L L' v g n.later in
      in_time (until P L v) L (next_line L v) n.still (below_true v.time (until P L v) n.later)
      ∙ sym (in_time (until P L' v) L' (next_line L' v) n.still (below_true v.time (until P L' v) (subst (λ t. v.time <ℚ t) same n.later)))
  stays_by (Some R) (Enter t a s) n =
      ap (λ (u : Fraction). stretch_tests P u v R ++ []) (same_until P L L' v g (<ℚ-≤ℚ_trans v.time t (until P L v) n.later n.within))
  stays_by (Some R) (Round E s) n = absurd n
  stays_by (Some R) (Act i s) n = absurd n
  stays_by (Some R) (Run S) n = absurd n

pub asked_stays : AskedStays
asked_stays P L L' most instance entries v part g n =
    asked_is P L most instance entries v ∙ stays_by P L L' most instance entries v g v.running part n ∙ sym (asked_is P L' most instance entries v)

-- ---- by the time of the next line
pub advance_first : AdvanceFirst
unfolding asked
advance_first P L most instance entries v u e =
    let rest = if is_there P (until P L v) v v.running then line_tests P L instance v (next_line L v) else [] in
    (rest, ap (λ (x : Fraction). advance_tests P most entries (least v.time x P.timed) v ++ rest) e)

never_below : (x : Fraction) → is_below x x ≡ false
never_below x = by_bool (is_below x x) (λ b. <ℚ_irrefl x (from_below x x b))

pub line_behind : LineBehind
unfolding asked
line_behind P L most instance entries v h e =
    let there : is_there P (until P L v) v v.running ≡ true =
    ap (is_there P (until P L v) v) h.moment ∙ ap (λ (xs : List ℕ). nothing_due xs (is_below v.time (until P L v))) h.still
    ∙ ap (λ (u : Fraction). not (is_below v.time u)) e ∙ ap not (never_below v.time) in
    ap₂ (λ (u : Fraction) (b : Bool). advance_tests P most entries u v ++ (if b then line_tests P L instance v (next_line L v) else [])) e there
