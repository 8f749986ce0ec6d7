-- What one who watches tells of a history, grown by what a call does at one part more.
use Rattle.std.proofs.Common.{◌≡◌, ℕ, suc, true, false, List, [], ◌∷◌, ◌++◌, refl, ap, ap₂, sym, subst, ◌∙◌}
use Rattle.std.specs.Prelude.{Option, Some, None}
use Rattle.plus_fraction.specs.Fraction.{Fraction}
use Rattle.plus_model.specs.Terms.{Problem}
use Rattle.plus_model.specs.History.{Part, view_after}
use Rattle.plus_number.specs.Frac.{fraction_of, IsFrac64}
use Rattle.plus_state.specs.Tested as tested
use Rattle.plus_crossing.specs.Asked.{cond_stop_of}
use Rattle.plus_constraints.specs.Constraint.{Constraint}
use Rattle.plus_constraints.specs.Place.{Place, or_else}
use Rattle.plus_watch.specs.Asked.{Passes, AllPass, rules_ask}
use Rattle.plus_watch.specs.Looks.{Look, first_found, part_looks, history_looks}
use Rattle.plus_watch.specs.Watched.{firsts_along, asked_by, found_by, places_of}
use Rattle.plus_watch.proofs.Calls.{calls_tell}
use Rattle.plus_watcher.specs.declared.rules.Rules.{Rules}
use Rattle.plus_watcher.specs.declared.watcher.Standing.{Standing}
use Rattle.plus_watcher.specs.declared.watcher.Standing.TheVariants.{Going, Limit, Lost}
use Rattle.plus_watcher.specs.declared.watcher.Watcher.{Watcher}
use Rattle.plus_watcher.specs.Told.{behind, LengthsFit, AreWatched, IsLimited}
use Rattle.plus_watcher.specs.Stands.{constraints_in, AreOver, HasSeen, StandsBy, TellsOf}
use Rattle.plus_watcher.specs.Looked.{is_going, SeesBy, Looked, still, seen, lost}
use Rattle.plus_watcher.proofs.Histories.{behind_more, lengths_less, watched_more, limited_more, limited_here}

-- where it goes on, all is looked at
going_seen : (P : Problem) (h : List Part) (w : Watcher) (s : Standing) → is_going s ≡ true → StandsBy P h w s → HasSeen P h w
going_seen P h w Going g k = k
going_seen P h w (Limit index stop) g k = cc g
going_seen P h w Lost g k = cc g

-- and where it does not, a limit stays
decided_stays : (P : Problem) (h : List Part) (part : Part) (w : Watcher) (s : Standing) → is_going s ≡ false → StandsBy P h w s → StandsBy P (h ++ part ∷ []) w s
decided_stays P h part w Going g k = cc g
decided_stays P h part w (Limit index stop) g k = limited_more P h part (constraints_in w.rules) index stop k
decided_stays P h part w Lost g k = k

module _ (P : Problem) (h : List Part) (part : Part) (time : Fraction) (looks : Constraint → List Look) (old new : Watcher) (was : HasSeen P h old)
    (looks_are : (c : Constraint) → part_looks P c (behind P h) part ≡ looks c) (time_is : time ≡ (view_after (behind P h) part).time) where
  abbrev cs : List Constraint
  cs = constraints_in old.rules

  all_looks : (λ c. part_looks P c (behind P h) part) ≡ looks
  all_looks = λ i c. looks_are c i

  asked_is : asked_by looks 1 cs (places_of fraction_of old.firsts.items) ≡ rules_ask P 1 cs h part
  asked_is =
      ap (asked_by looks 1 cs) was.firsts
      ∙ ap (λ (l : Constraint → List Look). asked_by l 1 cs (firsts_along P cs h)) (sym all_looks)
      ∙ sym (calls_tell.asked P cs h part)

  found_is : found_by looks cs (places_of fraction_of old.firsts.items) ≡ firsts_along P cs (h ++ part ∷ [])
  found_is =
      ap (found_by looks cs) was.firsts
      ∙ ap (λ (l : Constraint → List Look). found_by l cs (firsts_along P cs h)) (sym all_looks)
      ∙ sym (calls_tell.found P cs h part)

  stands_on : (s : Standing) → new.rules ≡ old.rules → fraction_of new.since ≡ time → SeesBy looks old new s → StandsBy P (h ++ part ∷ []) new s
  stands_on Going r t k = record {
    since = t ∙ time_is ∙ ap (λ v. v.time) (sym (behind_more P h part));
    firsts = k.1 ∙ found_is ∙ ap (λ (q : Rules). firsts_along P (constraints_in q) (h ++ part ∷ [])) (sym r);
    passed = subst (λ (q : Rules). AreWatched P (constraints_in q) (h ++ part ∷ [])) (sym r) (watched_more P h part cs was.passed (subst (AllPass IsFrac64) asked_is k.0));
  }
  stands_on (Limit index stop) r t k =
      subst (λ (q : Rules). IsLimited P (constraints_in q) (h ++ part ∷ []) index stop) (sym r)
      (limited_here P h part cs index stop was.passed
      (subst (λ (ts : List _). tested.FirstFailing (Passes IsFrac64) ts (suc index, cond_stop_of fraction_of stop)) asked_is k))
  stands_on Lost r t k = k

module _ (P : Problem) (h : List Part) (part : Part) (Ready : Type 0) (time : Fraction) (looks : Constraint → List Look) (old new : Watcher)
    (looks_are : HasSeen P h old → (c : Constraint) → part_looks P c (behind P h) part ≡ looks c)
    (time_is : HasSeen P h old → time ≡ (view_after (behind P h) part).time)
    (ready : AreOver P old.rules → LengthsFit P (h ++ part ∷ []) → HasSeen P h old → Ready)
    (before : TellsOf P h old) where
  seen_before : is_going old.standing ≡ true → new.rules ≡ old.rules → AreOver P new.rules → LengthsFit P (h ++ part ∷ []) → HasSeen P h old
  seen_before g r over fit = going_seen P h old old.standing g (before (subst (AreOver P) r over) (lengths_less P h part fit))

  pub grown : Looked Ready time looks old new → TellsOf P (h ++ part ∷ []) new
  grown (still g e) = λ over fit.
      subst (λ w. StandsBy P (h ++ part ∷ []) w w.standing) (sym e)
      (decided_stays P h part old old.standing g (before (subst (λ w. AreOver P w.rules) e over) (lengths_less P h part fit)))
  grown (seen g s) = λ over fit.
      let was = seen_before g s.rules over fit in
      stands_on P h part time looks old new was (looks_are was) (time_is was) new.standing s.rules s.since s.told
  grown (lost g n r) = λ over fit. absurd (n (ready (subst (AreOver P) r over) fit (seen_before g r over fit)))

-- ---- nothing is looked at

none_asked : (k : ℕ) (cs : List Constraint) (fs : List (Option Place)) → AllPass IsFrac64 (asked_by (λ c. []) k cs fs)
unfolding tested.AllPass
none_asked k [] fs = tt
none_asked k (c ∷ cs) [] = tt
none_asked k (c ∷ cs) (None ∷ fs) = none_asked (suc k) cs fs
none_asked k (c ∷ cs) (Some p ∷ fs) = none_asked (suc k) cs fs

none_more : (o : Option Place) → or_else o None ≡ o
none_more None = refl
none_more (Some p) = refl

none_found : (P : Problem) (h : List Part) (cs : List Constraint) → firsts_along P cs h ≡ found_by (λ c. []) cs (firsts_along P cs h)
none_found P h [] = refl
none_found P h (c ∷ cs) = ap₂ (λ (o : Option Place) (os : List (Option Place)). o ∷ os) (sym (none_more (first_found (history_looks P c h)))) (none_found P h cs)

-- a part at which nothing is looked at
module _ (P : Problem) (h : List Part) (part : Part) (w : Watcher) (no_looks : (c : Constraint) → part_looks P c (behind P h) part ≡ [])
    (same_time : (view_after (behind P h) part).time ≡ (behind P h).time) (before : TellsOf P h w) where
  stands_still : (s : Standing) → w.standing ≡ s → StandsBy P h w s → StandsBy P (h ++ part ∷ []) w s
  stands_still Going e k =
      stands_on P h part (fraction_of w.since) (λ c. []) w w k no_looks (k.since ∙ sym same_time) Going refl refl (
        none_asked 1 (constraints_in w.rules) (places_of fraction_of w.firsts.items),
        k.firsts ∙ none_found P h (constraints_in w.rules) ∙ ap (found_by (λ c. []) (constraints_in w.rules)) (sym k.firsts),
      )
  stands_still (Limit index stop) e k = limited_more P h part (constraints_in w.rules) index stop k
  stands_still Lost e k = k

  pub grown_still : TellsOf P (h ++ part ∷ []) w
  grown_still = λ over fit. stands_still w.standing refl (before over (lengths_less P h part fit))
