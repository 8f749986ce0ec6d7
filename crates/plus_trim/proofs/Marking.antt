-- One more timeline behind the acts that are kept.
use Rattle.std.proofs.Common.{◌≡◌, ◌⊎◌, inl, inr, ℕ, zero, suc, ◌+◌, ◌<◌, List, [], ◌∷◌, ◌++◌, length, map, take, drop, get_or, refl, ap, sym, subst, ◌∙◌, arith, append_assoc}
use Rattle.std.specs.Prelude.{Some, None, slice_get, slice_index_or, pos, All}
use Rattle.std.proofs.lemmas.List.{get_or_read, length-map, length_push, take_more, take-append-drop}
use Rattle.plus_fraction.specs.Fraction.{Fraction, whole as ratio}
use Rattle.plus_model.specs.Terms.{Problem}
use Rattle.plus_model.specs.Plan.{Instance, ActLine, EndLine, Plan}
use Rattle.plus_stretch.specs.Tests.{IsLimit}
use Rattle.plus_timeline.specs.declared.stop.Stop.{Stop}
use Rattle.plus_timeline.specs.declared.stop.Stop.TheVariants.{Breach, Limit, Ended, Memory}
use Rattle.plus_indexed.specs.Indexed.{IndexedView}
use Rattle.plus_indexed.specs.Knows.{Knows}
use Rattle.plus_planner.specs.Standing.{IsNoLimit}
use Rattle.plus_planner.proofs.DecidingLemmas.{action_at}
use Rattle.plus_trim.specs.declared.acts.TimedAction.{TimedAction}
use Rattle.plus_trim.specs.Acts.{Act, act_of, lines_of, plan_of, with_some, chosen}
use Rattle.plus_trim.specs.Judging.{IsInside, Halts}
use Rattle.plus_trim.specs.Standing.{Continues, StandsBehind}
use Rattle.plus_trim.specs.Work.{IsMark, AreMarked, IsWork, IsMemory}
use Rattle.plus_trim.proofs.Failing.{none_inside}
use Rattle.plus_trim.proofs.Lines.{whole_begun, acts_ordered}
use Rattle.plus_trim.proofs.Acted.{lines_join, chosen_join}
use Rattle.plus_trim.proofs.Working.{halts_breach, halts_limit}

-- on a plan that is valid nothing stands
pub only_memory : {Q : Type 0} (v : Q → Fraction) (fits : Fraction → Type 0) (P : Problem) (most : ℕ) (L : Plan) (stop : Stop Q) → IsInside fits P most L → Halts v fits P most L stop → IsMemory stop
only_memory v fits P most L (Breach b) a h = absurd (none_inside fits P most L IsNoLimit a (halts_breach v fits P most L b h))
only_memory v fits P most L (Limit l) a h = absurd (none_inside fits P most L IsLimit a (halts_limit v fits P most L l h))
only_memory v fits P most L Ended a h = h
only_memory v fits P most L Memory a h = tt

pub get_one : {X : Type 0} (xs : List X) (x m : X) (j : ℕ) → slice_get (xs ++ x ∷ []) j ≡ Some m → (slice_get xs j ≡ Some m) ⊎ ((j ≡ length xs) × (x ≡ m))
get_one [] x m zero e = inr (refl, (let f : x ≡ m = cc e in f))
get_one [] x m (suc j) e = absurd (let f : None ≡ Some m = e in cc f)
get_one (y ∷ ys) x m zero e = inl e
get_one (y ∷ ys) x m (suc j) e = elim (get_one ys x m j e) [ inl f ↦ inl f | inr f ↦ inr (ap suc f.0, f.1) ]

-- the act at a place that was read
module _ {Q : Type 0} (v : Q → Fraction) (acts : List (TimedAction Q)) (places : List ℕ) (i place : ℕ) (w : All (λ p. p < length (map (act_of v) acts)) places) (h : i < length places) (e : place ≡ slice_index_or places i place) where
  pub place_inside : place < length acts
  place_inside =
      let k = get_or_read places i place h e 0 in
      let n = length-map acts (act_of v) in
      let l = w i 0 h in
      omega arith

  pub act_there : (a : TimedAction Q) → a ≡ slice_index_or acts place a → slice_get (map (act_of v) acts) (get_or places i 0) ≡ Some (act_of v a)
  act_there a f =
      subst (λ (q : ℕ). slice_get (map (act_of v) acts) q ≡ Some (act_of v a)) (get_or_read places i place h e 0)
      (action_at (act_of v) acts place a place_inside f)

module _ (fits : Fraction → Type 0) (P : Problem) (most : ℕ) (xs : List Act) (last : Fraction) (places : List ℕ) (marks : List IndexedView) (w : AreMarked fits P most xs last places marks) where
  module _ (i : ℕ) (x : Act) (e : slice_get xs (get_or places i 0) ≡ Some x) (h : i < length places) where
    lines_next : lines_of (chosen xs (take i places)) ++ ActLine x.0 (Instance x.1) ∷ [] ≡ lines_of (chosen xs (take (i + 1) places))
    lines_next =
        sym (lines_join (chosen xs (take i places)) (x ∷ []))
        ∙ ap lines_of (sym (chosen_join xs (take i places) (get_or places i 0 ∷ []) ∙ ap (λ o. chosen xs (take i places) ++ with_some o []) e))
        ∙ ap (λ ps. lines_of (chosen xs ps)) (sym (take_more places i 0 h))

    -- the plan that is kept goes on with the next act
    pub plan_goes_on : Continues (lines_of (chosen xs (take i places)) ++ ActLine x.0 (Instance x.1) ∷ []) (plan_of (chosen xs places) last)
    plan_goes_on = record {
      begun = whole_begun (lines_of (chosen xs places)) last;
      ordered = acts_ordered (ratio (pos 0)) (chosen xs places) last w.ahead;
      more = lines_of (chosen xs (drop (i + 1) places)) ++ EndLine last ∷ [];
      is = ap (λ ls. ls ++ EndLine last ∷ []) all ∙ append_assoc (lines_of (chosen xs (take (i + 1) places))) (lines_of (chosen xs (drop (i + 1) places))) (EndLine last ∷ [])
          ∙ ap (λ ls. ls ++ (lines_of (chosen xs (drop (i + 1) places)) ++ EndLine last ∷ [])) (sym lines_next);
    }
      where
        all : lines_of (chosen xs places) ≡ lines_of (chosen xs (take (i + 1) places)) ++ lines_of (chosen xs (drop (i + 1) places))
        all =
            ap (λ ps. lines_of (chosen xs ps)) (sym (take-append-drop (i + 1) places))
            ∙ ap lines_of (chosen_join xs (take (i + 1) places) (drop (i + 1) places))
            ∙ lines_join (chosen xs (take (i + 1) places)) (chosen xs (drop (i + 1) places))

    -- the timeline in which it is done stands behind it
    pub mark_is : (n : ℕ) (new : IndexedView) → n ≡ i + 1 → Knows fits P new → StandsBehind fits P (lines_of (chosen xs (take i places)) ++ ActLine x.0 (Instance x.1) ∷ []) new.line → new.line.most ≡ most → IsMark fits P most (chosen xs (take n places)) new
    mark_is n new d k b m =
        subst (λ (q : ℕ). IsMark fits P most (chosen xs (take q places)) new) (sym d)
        record { knows = k; behind = subst (λ ls. StandsBehind fits P ls new.line) lines_next b; most_is = m }

  pub marked_more : (new : IndexedView) (all : List IndexedView) → all ≡ marks ++ new ∷ [] → IsMark fits P most (chosen xs (take (length marks) places)) new → AreMarked fits P most xs last places all
  marked_more new all a m = subst (AreMarked fits P most xs last places) (sym a) record {
    rising = w.rising;
    inside = w.inside;
    few = w.few;
    ahead = w.ahead;
    some = (let l = length_push marks new in omega arith);
    each = λ j z f. elim (get_one marks new z j f) [
      | inl g ↦ w.each j z g
      | inr g ↦ subst (IsMark fits P most (chosen xs (take j places))) g.1
          (subst (λ (q : ℕ). IsMark fits P most (chosen xs (take q places)) new) (sym g.0) m)
    ];
  }

-- a plan that is kept stays the same where one more timeline stands
pub work_more : (fits : Fraction → Type 0) (P : Problem) (most : ℕ) (xs : List Act) (last : Fraction) (places : List ℕ) (marks all : List IndexedView) (new : IndexedView) → IsWork fits P most xs last places marks → all ≡ marks ++ new ∷ [] → IsMark fits P most (chosen xs (take (length marks) places)) new → IsWork fits P most xs last places all
work_more fits P most xs last places marks all new w a m = record { marked = marked_more fits P most xs last places marks w.marked new all a m; valid = w.valid }
