-- The list without one act, and what stands on it.
use Rattle.std.proofs.Common.{◌≡◌, ℕ, zero, suc, ◌+◌, ◌-◌, ◌<◌, ◌≤◌, List, [], ◌∷◌, ◌++◌, length, take, drop, get_or, refl, ap, sym, subst, ◌∙◌, arith, drop-cons}
use Rattle.std.specs.Prelude.{◌≢◌, Some, None, slice_get, slice_index_or, pos, All, Result, Ok, Err, IfOk}
use Rattle.std.proofs.lemmas.List.{length-drop, length-take-le, take-append-drop, take_rest}
use Rattle.std.proofs.lemmas.List.Elements.{All-head, All-tail, All-take, All-drop}
use Rattle.std.proofs.lemmas.Option.{slice_get_read}
use Rattle.plus_fraction.specs.Fraction.{Fraction, whole as ratio, ◌≤ℚ◌}
use Rattle.plus_fraction.proofs.FractionAtMost.{≤ℚ_trans}
use Rattle.plus_model.specs.Terms.{Problem}
use Rattle.plus_model.specs.Plan.{Line, EndLine, Plan, IsInOrder}
use Rattle.plus_state.specs.declared.outcome.Breach as outcome
use Rattle.plus_state.specs.declared.outcome.Limit as limits
use Rattle.plus_stretch.specs.Tests.{IsLimit}
use Rattle.plus_timeline.specs.declared.stop.Stop.{Stop}
use Rattle.plus_timeline.specs.declared.stop.Stop.TheVariants.{Breach, Limit, Ended, Memory}
use Rattle.plus_indexed.specs.Indexed.{IndexedView}
use Rattle.plus_planner.specs.Laws.{last_time}
use Rattle.plus_planner.specs.Standing.{IsNoLimit}
use Rattle.plus_planner.proofs.Carries.{limit_kind}
use Rattle.plus_planner.proofs.PlaceLemmas.{slice_some}
use Rattle.plus_trim.specs.Acts.{Act, lines_of, whole, plan_of, without, with_some, chosen, AreAhead}
use Rattle.plus_trim.specs.Judging.{IsInside, Fails, HaltsBy, Halts}
use Rattle.plus_trim.specs.Standing.{Rests}
use Rattle.plus_trim.specs.Work.{IsMark, AreMarked, tried_by, TriedIs}
use Rattle.plus_trim.specs.declared.tries.Tried.{Tried}
use Rattle.plus_trim.specs.declared.tries.Tried.TheVariants as tried
use Rattle.plus_trim.proofs.Lines.{acts_ordered}
use Rattle.plus_trim.proofs.Acted.{lines_join, chosen_join, lines_long, chosen_long, halts_most}

-- ---- the list without one

pub without_is : {X : Type 0} (i : ℕ) (xs : List X) → without i xs ≡ take i xs ++ drop (suc i) xs
without_is zero [] = refl
without_is (suc i) [] = refl
without_is zero (x ∷ xs) = refl
without_is (suc i) (x ∷ xs) = ap (λ t. x ∷ t) (without_is i xs)

without_none : {X : Type 0} (i : ℕ) → without {X = X} i [] ≡ []
without_none zero = refl
without_none (suc i) = refl

pub chosen_without : {X : Type 0} (xs : List X) (i : ℕ) (ps : List ℕ) → All (λ p. p < length xs) ps → without i (chosen xs ps) ≡ chosen xs (without i ps)
chosen_without xs i [] a = without_none i ∙ ap (chosen xs) (sym (without_none i))
chosen_without xs zero (p ∷ ps) a = (let s = slice_some xs p (All-head (λ q. q < length xs) p ps a) in ap (λ o. without 0 (with_some o (chosen xs ps))) s.1)
chosen_without xs (suc i) (p ∷ ps) a =
    let s = slice_some xs p (All-head (λ q. q < length xs) p ps a) in
    ap (λ o. without (suc i) (with_some o (chosen xs ps))) s.1
    ∙ ap (λ t. s.0 ∷ t) (chosen_without xs i ps (All-tail (λ q. q < length xs) p ps a))
    ∙ sym (ap (λ o. with_some o (chosen xs (without i ps))) s.1)

-- the lines before and behind it
lines_without : (xs : List Act) (i : ℕ) (ps : List ℕ) → All (λ p. p < length xs) ps → lines_of (chosen xs (take i ps)) ++ lines_of (chosen xs (drop (suc i) ps)) ≡ lines_of (without i (chosen xs ps))
lines_without xs i ps a =
    sym (lines_join (chosen xs (take i ps)) (chosen xs (drop (suc i) ps)))
    ∙ ap lines_of (sym (chosen_join xs (take i ps) (drop (suc i) ps)))
    ∙ ap (λ qs. lines_of (chosen xs qs)) (sym (without_is i ps))
    ∙ ap lines_of (sym (chosen_without xs i ps a))

-- the acts in front of a place, the act there, and those behind it
pub chosen_at : {X : Type 0} (xs : List X) (i : ℕ) (ps : List ℕ) (x : X) → i < length ps → slice_get xs (get_or ps i 0) ≡ Some x → chosen xs (take i ps) ++ (x ∷ chosen xs (drop (suc i) ps)) ≡ chosen xs ps
chosen_at xs i ps x h e =
    ap (λ o. chosen xs (take i ps) ++ with_some o (chosen xs (drop (suc i) ps))) (sym e)
    ∙ sym (chosen_join xs (take i ps) (get_or ps i 0 ∷ drop (suc i) ps))
    ∙ ap (chosen xs) (ap (λ t. take i ps ++ t) (sym (drop-cons ps i 0 h)) ∙ take-append-drop i ps)

-- ---- times

ahead_earlier : (t u : Fraction) (xs : List Act) (last : Fraction) → t ≤ℚ u → AreAhead u xs last → AreAhead t xs last
ahead_earlier t u [] last h a = ≤ℚ_trans t u last h a
ahead_earlier t u (x ∷ xs) last h a = (≤ℚ_trans t u x.0 h a.0, a.1)

pub ahead_without : (t : Fraction) (i : ℕ) (xs : List Act) (last : Fraction) → AreAhead t xs last → AreAhead t (without i xs) last
ahead_without t i [] last a = subst (λ ys. AreAhead t ys last) (sym (without_none i)) a
ahead_without t zero (x ∷ xs) last a = ahead_earlier t x.0 xs last a.0 a.1
ahead_without t (suc i) (x ∷ xs) last a = (a.0, ahead_without x.0 i xs last a.1)

abbrev last_from : Fraction → List Act → Fraction
last_from t [] = t
last_from t (x ∷ xs) = last_from x.0 xs

ahead_from : (t : Fraction) (ys zs : List Act) (last : Fraction) → AreAhead t (ys ++ zs) last → AreAhead (last_from t ys) zs last
ahead_from t [] zs last a = a
ahead_from t (y ∷ ys) zs last a = ahead_from y.0 ys zs last a.1

last_is : (x : Act) (xs : List Act) → last_from x.0 xs ≡ last_time (lines_of (x ∷ xs))
last_is x [] = refl
last_is x (y ∷ ys) = last_is y ys

last_all : (xs : List Act) → last_from (ratio (pos 0)) xs ≡ last_time (lines_of xs)
last_all [] = refl
last_all (x ∷ xs) = last_is x xs

-- behind the first acts the others are ahead
pub ahead_behind : (ys zs : List Act) (last : Fraction) → AreAhead (ratio (pos 0)) (ys ++ zs) last → AreAhead (last_time (lines_of ys)) zs last
ahead_behind ys zs last a = subst (λ t. AreAhead t zs last) (last_all ys) (ahead_from (ratio (pos 0)) ys zs last a)

-- ---- the kind of what stands

pub halts_breach : {Q : Type 0} (v : Q → Fraction) (fits : Fraction → Type 0) (P : Problem) (most : ℕ) (L : Plan) (b : outcome.Breach Q) → HaltsBy v fits P most L (Breach b) → Fails fits P most L IsNoLimit
halts_breach v fits P most L b h = record {
  history = h.history;
  fails = record { prefix = h.fails.prefix; clear = h.fails.clear; test = h.fails.test; first = h.fails.first; kind = λ l. subst IsLimit h.fails.kind.test_is l };
}

pub halts_limit : {Q : Type 0} (v : Q → Fraction) (fits : Fraction → Type 0) (P : Problem) (most : ℕ) (L : Plan) (l : limits.Limit Q) → HaltsBy v fits P most L (Limit l) → Fails fits P most L IsLimit
halts_limit v fits P most L l h = record {
  history = h.history;
  fails = record { prefix = h.fails.prefix; clear = h.fails.clear; test = h.fails.test; first = h.fails.first; kind = subst IsLimit (sym h.fails.kind) (limit_kind v l) };
}

pub halts_going : {Q : Type 0} (v : Q → Fraction) (fits : Fraction → Type 0) (P : Problem) (most : ℕ) (L : Plan) (stop : Stop Q) → Halts v fits P most L stop → stop ≢ Ended
halts_going v fits P most L (Breach b) h e = cc e
halts_going v fits P most L (Limit l) h e = cc e
halts_going v fits P most L Ended h e = h
halts_going v fits P most L Memory h e = cc e

-- ---- a timeline behind the first acts

pub mark_rests : (fits : Fraction → Type 0) (P : Problem) (most : ℕ) (ys : List Act) (line : IndexedView) → IsMark fits P most ys line → Rests P line.line
mark_rests fits P most ys line m = record { can = m.behind.can; moment = m.behind.moment }

module _ (fits : Fraction → Type 0) (P : Problem) (most : ℕ) (xs : List Act) (last : Fraction) (places : List ℕ) (marks : List IndexedView) (w : AreMarked fits P most xs last places marks) where
  pub mark_read : (i : ℕ) (m line : IndexedView) → i < length marks → m ≡ slice_index_or marks i m → line ≡ m → IsMark fits P most (chosen xs (take i places)) line
  mark_read i m line h e f = subst (IsMark fits P most (chosen xs (take i places))) (sym f) (w.each i m (slice_get_read marks (length marks) i m refl h e))

  -- ---- from the beginning all acts are played

  module _ (line : IndexedView) (m : IsMark fits P most [] line) (ps : List ℕ) (e : ps ≡ places) where
    pub first_ahead : AreAhead line.line.now.time (chosen xs ps) last
    first_ahead =
        subst (λ qs. AreAhead line.line.now.time (chosen xs qs) last) (sym e)
        (subst (λ t. AreAhead t (chosen xs places) last) (sym m.behind.time) w.ahead)

    pub first_order : IsInOrder (lines_of (chosen xs ps) ++ EndLine last ∷ [])
    first_order = subst (λ qs. IsInOrder (lines_of (chosen xs qs) ++ EndLine last ∷ [])) (sym e) (acts_ordered (ratio (pos 0)) (chosen xs places) last w.ahead)

    pub first_inside : IsInside fits P line.line.most (whole (lines_of (chosen xs ps)) last) → IsInside fits P most (plan_of (chosen xs places) last)
    first_inside i = subst (λ qs. IsInside fits P most (plan_of (chosen xs qs) last)) e (subst (λ (n : ℕ). IsInside fits P n (plan_of (chosen xs ps) last)) m.most_is i)

    pub first_halts : {Q : Type 0} (v : Q → Fraction) (stop : Stop Q) → Halts v fits P line.line.most (whole (lines_of (chosen xs ps)) last) stop → Halts v fits P most (plan_of (chosen xs places) last) stop
    first_halts v stop h = halts_most v fits P line.line.most most (plan_of (chosen xs ps) last) (plan_of (chosen xs places) last) stop m.most_is (ap (λ qs. plan_of (chosen xs qs) last) e) h

  -- ---- from behind the first acts the others are played, but for the next

  module _ (i : ℕ) (h : i < length places) (line : IndexedView) (m : IsMark fits P most (chosen xs (take i places)) line) where
    -- so many acts are done
    pub mark_acted : line.line.now.acted ≡ i
    mark_acted =
        m.behind.acted ∙ lines_long (chosen xs (take i places))
        ∙ chosen_long xs (take i places) (All-take (λ p. p < length xs) i places w.inside) ∙ length-take-le i places (omega arith)

    -- the next act, and those behind it, are ahead
    pub next_ahead : (x : Act) → slice_get xs (get_or places i 0) ≡ Some x → AreAhead line.line.now.time (x ∷ chosen xs (drop (suc i) places)) last
    next_ahead x e =
        subst (λ t. AreAhead t (x ∷ chosen xs (drop (suc i) places)) last) (sym m.behind.time)
        (ahead_behind (chosen xs (take i places)) (x ∷ chosen xs (drop (suc i) places)) last
        (subst (λ ys. AreAhead (ratio (pos 0)) ys last) (sym (chosen_at xs i places x h e)) w.ahead))

    module _ (ps : List ℕ) (e : ps ≡ drop (suc i) places) where
      pub try_ahead : AreAhead line.line.now.time (chosen xs ps) last
      try_ahead =
          let s = slice_some xs (get_or places i 0) (w.inside i 0 h) in
          let a = next_ahead s.0 s.1 in
          subst (λ qs. AreAhead line.line.now.time (chosen xs qs) last) (sym e)
          (ahead_earlier line.line.now.time s.0.0 (chosen xs (drop (suc i) places)) last a.0 a.1)

      pub try_few : i + length ps ≤ 200
      try_few = (let f = w.few in let n = ap length e in let l = length-drop (suc i) places in omega arith)

      pub try_inside : All (λ p. p < length xs) ps
      try_inside = subst (All (λ p. p < length xs)) (sym e) (All-drop (λ p. p < length xs) (suc i) places w.inside)

      -- the lines that are played are those without the act
      try_lines : lines_of (chosen xs (take i places)) ++ lines_of (chosen xs ps) ≡ lines_of (without i (chosen xs places))
      try_lines = ap (λ qs. lines_of (chosen xs (take i places)) ++ lines_of (chosen xs qs)) e ∙ lines_without xs i places w.inside

      pub try_order : IsInOrder ((lines_of (chosen xs (take i places)) ++ lines_of (chosen xs ps)) ++ EndLine last ∷ [])
      try_order =
          subst (λ (ls : List Line). IsInOrder (ls ++ EndLine last ∷ [])) (sym try_lines)
          (acts_ordered (ratio (pos 0)) (without i (chosen xs places)) last (ahead_without (ratio (pos 0)) i (chosen xs places) last w.ahead))

      pub try_valid : IsInside fits P line.line.most (whole (lines_of (chosen xs (take i places)) ++ lines_of (chosen xs ps)) last) → IsInside fits P most (plan_of (without i (chosen xs places)) last)
      try_valid v = subst (λ (ls : List Line). IsInside fits P most (whole ls last)) try_lines
          (subst (λ (n : ℕ). IsInside fits P n (whole (lines_of (chosen xs (take i places)) ++ lines_of (chosen xs ps)) last)) m.most_is v)

      pub try_halts : {Q : Type 0} (v : Q → Fraction) (stop : Stop Q) → Halts v fits P line.line.most (whole (lines_of (chosen xs (take i places)) ++ lines_of (chosen xs ps)) last) stop → Halts v fits P most (plan_of (without i (chosen xs places)) last) stop
      try_halts v stop a =
          halts_most v fits P line.line.most most (whole (lines_of (chosen xs (take i places)) ++ lines_of (chosen xs ps)) last) (plan_of (without i (chosen xs places)) last) stop
          m.most_is (ap (λ (ls : List Line). whole ls last) try_lines) a

-- what is left of a slice behind a place
pub rest_behind : (ps places : List ℕ) (i : ℕ) → ps ≡ places → take (length ps - (i + 1)) (drop (i + 1) ps) ≡ drop (suc i) places
rest_behind ps places i e = take_rest ps (i + 1) ∙ ap (drop (i + 1)) e ∙ ap (λ (n : ℕ). drop n places) (let f : i + 1 ≡ suc i = omega arith in f)

-- ---- what a try says

halts_tried : {Q : Type 0} (v : Q → Fraction) (fits : Fraction → Type 0) (P : Problem) (most : ℕ) (ys : List Act) (last : Fraction) (i : ℕ) (stop : Stop Q) (t : Tried) → Halts v fits P most (plan_of (without i ys) last) stop → tried_by stop ≡ Some t → TriedIs fits P most ys last i t
halts_tried v fits P most ys last i (Breach b) t h e =
    subst (TriedIs fits P most ys last i) (let f : tried.Breach ≡ t = cc e in f) (halts_breach v fits P most (plan_of (without i ys) last) b h)
halts_tried v fits P most ys last i (Limit l) t h e =
    subst (TriedIs fits P most ys last i) (let f : tried.Limit ≡ t = cc e in f) (halts_limit v fits P most (plan_of (without i ys) last) l h)
halts_tried v fits P most ys last i Ended t h e = absurd h
halts_tried v fits P most ys last i Memory t h e = absurd (let f : None ≡ Some t = e in cc f)

pub tells_tried : {Q E : Type 0} (v : Q → Fraction) (fits : Fraction → Type 0) (P : Problem) (most : ℕ) (ys : List Act) (last : Fraction) (i : ℕ) (stop : Stop Q) (r : Result Tried E) → Halts v fits P most (plan_of (without i ys) last) stop → IfOk r (λ t. tried_by stop ≡ Some t) → IfOk r (TriedIs fits P most ys last i)
tells_tried v fits P most ys last i stop (Ok t) h e = halts_tried v fits P most ys last i stop t h e
tells_tried v fits P most ys last i stop (Err x) h e = tt
