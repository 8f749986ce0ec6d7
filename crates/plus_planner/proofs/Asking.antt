-- What is asked where a part comes next does not depend on how late the end is.
use Rattle.std.proofs.Common.{◌≡◌, ◌≢◌, inl, inr, ℕ, Bool, List, [], ◌∷◌, ◌++◌, refl, ap, ap₂, sym, subst, ◌∙◌, if◌then◌else◌}
use Rattle.std.specs.Prelude.{Option, Some, None}
use Rattle.plus_fraction.specs.Fraction.{Fraction}
use Rattle.plus_model.specs.Terms.{Problem}
use Rattle.plus_model.specs.Firing.{firing}
use Rattle.plus_model.specs.Plan.{Line, ActLine, EndLine, Instance, UnknownAction, WrongArguments, Plan}
use Rattle.plus_model.specs.History.{Part, Enter, Round, Act, Run, View, view_after, view_from}
use Rattle.plus_model.specs.Trajectory.{is_below, next_line, time_or, least, until, Next, NextBy, Follow, first_part, first_view}
use Rattle.plus_model.proofs.Paths.{view_is}
use Rattle.plus_stretch.specs.Tests.{Test}
use Rattle.plus_timeline.specs.Asked.{round_tests, line_tests, advance_by, is_there, asked}
use Rattle.plus_timeline.proofs.Stays.{no_tests, not_there, listed, asked_is}
use Rattle.plus_planner.specs.Laws.{ending_at, last_time, AskedGoesOn}
use Rattle.plus_planner.proofs.Waiting.{Played, AtLast, inside, last_part, before_last, start, no_act, no_run}

-- the view before the last part of what is played
pub walk : (P : Problem) (lines : List Line) (part : Part) (xs : List Part) (v : View) → Played lines v → Follow P (ending_at lines (last_time lines)) v (xs ++ part ∷ []) → Played lines (view_from v xs) × Next P (ending_at lines (last_time lines)) (view_from v xs) part
walk P lines part [] v played f = (played, f.1)
walk P lines part (x ∷ xs) v (inl h) f = walk P lines part xs (view_after v x) (before_last P lines (last_time lines) v v.running x h f.1) f.2
walk P lines part (x ∷ xs) v (inr a) f = walk P lines part xs (view_after v x) (inr (last_part P lines (last_time lines) (last_time lines) v v.running x refl a a.moment f.1).1) f.2

line_same : (P : Problem) (lines : List Line) (u t : Fraction) (instance : ℕ → List Test) (v : View) (line : Option Line) → line_tests P (ending_at lines u) instance v line ≡ line_tests P (ending_at lines t) instance v line
line_same P lines u t instance v None = refl
line_same P lines u t instance v (Some (EndLine s)) = refl
line_same P lines u t instance v (Some (ActLine s (Instance a))) = refl
line_same P lines u t instance v (Some (ActLine s (UnknownAction n))) = refl
line_same P lines u t instance v (Some (ActLine s (WrongArguments n))) = refl

-- by the next line alone
pub by_line : (P : Problem) (lines : List Line) (u t : Fraction) (most : ℕ) (instance : ℕ → List Test) (entries : ℕ) (v : View) → next_line (ending_at lines u) v ≡ next_line (ending_at lines t) v → asked P (ending_at lines u) most instance entries v ≡ asked P (ending_at lines t) most instance entries v
by_line P lines u t most instance entries v e =
    asked_is P (ending_at lines u) most instance entries v
    ∙ ap (λ (o : Option Line). advance_by P most entries (least v.time (time_or o v.time) P.timed) v v.running ++ (if is_there P (least v.time (time_or o v.time) P.timed) v v.running then line_tests P (ending_at lines u) instance v o else [])) e
    ∙ ap (λ (ts : List Test). advance_by P most entries (until P (ending_at lines t) v) v v.running ++ (if is_there P (until P (ending_at lines t) v) v v.running then ts else [])) (line_same P lines u t instance v (next_line (ending_at lines t) v))
    ∙ sym (asked_is P (ending_at lines t) most instance entries v)

-- a round is due, whatever the lines say
in_round : (P : Problem) (L : Plan) (most : ℕ) (instance : ℕ → List Test) (entries : ℕ) (u : Fraction) (v : View) (line : Option Line) → firing P v.state ≢ [] → listed P L most instance entries u v None line ≡ (round_tests P v.fired v.state ++ []) ++ []
in_round P L most instance entries u v line n =
    ap₂ (λ (xs : List Test) (b : Bool). (round_tests P v.fired v.state ++ xs) ++ (if b then line_tests P L instance v line else []))
    (no_tests (firing P v.state) _ n) (not_there (firing P v.state) (is_below v.time u) n)

round_due : (P : Problem) (lines : List Line) (u : Fraction) (v : View) (o : Option (List ℕ)) (p : Part) → u ≡ last_time lines → AtLast lines v → o ≡ None → NextBy P (ending_at lines u) v o p → firing P v.state ≢ []
round_due P lines u v (Some R) p e a none n = absurd (some none)
  where
    some : Some R ≡ None → ⊥
    some h = cc
round_due P lines u v None (Round E s) e a none n = λ f. n.some (n.all ∙ f)
round_due P lines u v None (Enter s b c) e a none n = absurd n
round_due P lines u v None (Act i s) e a none n = absurd (no_act P lines u v i s e a n)
round_due P lines u v None (Run R) e a none n = absurd (no_run P lines u v R e a n)

by_view : (P : Problem) (lines : List Line) (t : Fraction) (most : ℕ) (instance : ℕ → List Test) (entries : ℕ) (v : View) (p : Part) → Played lines v → Next P (ending_at lines (last_time lines)) v p → asked P (ending_at lines (last_time lines)) most instance entries v ≡ asked P (ending_at lines t) most instance entries v
by_view P lines t most instance entries v p (inl h) n = by_line P lines (last_time lines) t most instance entries v (inside lines (EndLine (last_time lines)) (EndLine t) v.acted h)
by_view P lines t most instance entries v p (inr a) n =
    let some = round_due P lines (last_time lines) v v.running p refl a a.moment n in
    let u = until P (ending_at lines (last_time lines)) v in
    let w = until P (ending_at lines t) v in
    asked_is P (ending_at lines (last_time lines)) most instance entries v
    ∙ ap (λ (o : Option (List ℕ)). listed P (ending_at lines (last_time lines)) most instance entries u v o (next_line (ending_at lines (last_time lines)) v)) a.moment
    ∙ in_round P (ending_at lines (last_time lines)) most instance entries u v (next_line (ending_at lines (last_time lines)) v) some
    ∙ sym (in_round P (ending_at lines t) most instance entries w v (next_line (ending_at lines t) v) some)
    ∙ sym (ap (λ (o : Option (List ℕ)). listed P (ending_at lines t) most instance entries w v o (next_line (ending_at lines t) v)) a.moment)
    ∙ sym (asked_is P (ending_at lines t) most instance entries v)

pub asked_goes_on : AskedGoesOn
asked_goes_on P lines t most instance entries h part a b =
    let e : first_part P ∷ (a.rest ++ part ∷ []) ≡ first_part P ∷ b.rest = sym (ap (λ z. z ++ part ∷ []) a.begins) ∙ b.begins in
    let f : a.rest ++ part ∷ [] ≡ b.rest = tails (first_part P) (a.rest ++ part ∷ []) b.rest e in
    let w = walk P lines part a.rest (first_view P) (start P lines) (subst (λ xs. Follow P (ending_at lines (last_time lines)) (first_view P) xs) (sym f) b.follow) in
    subst (λ v. asked P (ending_at lines (last_time lines)) most instance entries v ≡ asked P (ending_at lines t) most instance entries v) (sym (view_is P h a.rest a.begins))
    (by_view P lines t most instance entries (view_from (first_view P) a.rest) part w.0 w.1)
  where
    tails : (x : Part) (xs ys : List Part) → x ∷ xs ≡ x ∷ ys → xs ≡ ys
    tails x xs ys e = cc
