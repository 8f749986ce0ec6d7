-- What looks tell, one after the other.
use Rattle.std.proofs.Common.{◌≡◌, true, false, Bool, List, [], ◌∷◌, ◌++◌, map, refl, ap, sym, subst, ◌∙◌, append_assoc, if◌then◌else◌}
use Rattle.std.proofs.lemmas.List.{map-append}
use Rattle.std.specs.Prelude.{Option, Some, None, Result, Ok, Err, ◌↔◌}
use Rattle.plus_fraction.specs.Fraction.{Fraction, ◌+ℚ◌}
use Rattle.plus_model.specs.Terms.{Condition, State}
use Rattle.plus_model.specs.Value.{holds}
use Rattle.plus_model.specs.Piece.{after}
use Rattle.plus_model.specs.Live.{live}
use Rattle.plus_model.specs.Running.{moved, JustAfter}
use Rattle.plus_model.specs.Trajectory.{is_below}
use Rattle.plus_state.specs.declared.term.Sign.TheVariants.{Plus}
use Rattle.plus_state.specs.Node.{Node}
use Rattle.plus_state.specs.Tested.{Carries}
use Rattle.plus_state.specs.Asked.{node, NodeFits, AllFit, FirstUnfit}
use Rattle.plus_state.specs.Tests.{tests_of}
use Rattle.plus_state.proofs.Testing.{pass_none, pass_one, pass_append, fail_one, fail_left, fail_right, carry_pass, carry_fail}
use Rattle.plus_crossing.specs.Asked.{Ask, asks, Passes, AllPass, FirstFailing}
use Rattle.plus_crossing.specs.Conds.{live_asks}
use Rattle.plus_crossing.specs.Moves.{moved_nodes}
use Rattle.plus_crossing.proofs.Straight.{soon_tells}
use Rattle.plus_constraints.specs.Place as model
use Rattle.plus_constraints.specs.Place.{place_if, or_else}
use Rattle.plus_watch.specs.declared.place.Place.{Place}
use Rattle.plus_watch.specs.declared.place.WatchStop.{WatchStop}
use Rattle.plus_watch.specs.declared.place.WatchStop.TheVariants.{Condition as OfCondition, Memory}
use Rattle.plus_watch.specs.View.{place_of}
use Rattle.plus_crossing.specs.Next.{cross_asks}
use Rattle.plus_crossing.specs.Listed.{live_roots}
use Rattle.plus_stretch.specs.Crossings.{rising_below}
use Rattle.plus_settle.proofs.ConfirmsLemmas.{both_true}
use Rattle.plus_watch.specs.Between.{above}
use Rattle.plus_watch.specs.Looks.{Look, first_found, if_sought, looks_ask, state_look, after_look, node_look, roots_look, root_look, walk_looks, inner_looks}
use Rattle.plus_watch.specs.Told.{StopTold, LooksTold}
use Rattle.plus_watch.proofs.Histories.{found_append}
use Rattle.plus_watch.proofs.Growing.{asks_append}

-- ---- nodes
-- nodes as tests: where all fit these pass, and the first that does not fit is the first that fails
pub nodes_told : (fits : Fraction → Type 0) (ns : List Node) → (AllFit fits ns → AllPass fits (map asks ns)) × ((m : Node) → FirstUnfit fits ns m → FirstFailing fits (map asks ns) (asks m))
unfolding Passes
nodes_told fits ns =
    let as_tests : Carries asks (NodeFits fits) (Passes fits) = record { there = λ t p. p; back = λ t p. p } in
    (λ h. carry_pass as_tests ns h, λ m h. carry_fail as_tests ns m h)

pub moment_pass : (fits : Fraction → Type 0) (b r z : Fraction) → z ≡ b +ℚ r → fits z → AllPass fits (asks (node Plus b r) ∷ [])
unfolding Passes NodeFits
moment_pass fits b r z e h = pass_one (Passes fits) (asks (node Plus b r)) (subst fits e h)

pub moment_fail : (fits : Fraction → Type 0) (b r : Fraction) (m : Node) → (fits (b +ℚ r) → ⊥) → m ≡ node Plus b r → FirstFailing fits (asks (node Plus b r) ∷ []) (asks m)
unfolding Passes NodeFits
moment_fail fits b r m h e = fail_one (Passes fits) (asks (node Plus b r)) (asks m) h (ap asks e)

-- ---- how far a list of looks is gone through
pub record Comes (fits : Fraction → Type 0) (rest whole : List Look) : Type 0 where
  pub found : first_found rest ≡ first_found whole
  pub pass : AllPass fits (looks_ask rest) → AllPass fits (looks_ask whole)
  pub stop : (m : Ask) → FirstFailing fits (looks_ask rest) m → FirstFailing fits (looks_ask whole) m

pub comes_start : (fits : Fraction → Type 0) (whole : List Look) → Comes fits whole whole
comes_start fits whole = record { found = refl; pass = λ a. a; stop = λ m u. u }

-- one list asks and finds what another does
pub comes_as : (fits : Fraction → Type 0) (rest whole : List Look) → looks_ask rest ≡ looks_ask whole → first_found rest ≡ first_found whole → Comes fits rest whole
comes_as fits rest whole e f = record { found = f; pass = λ a. subst (AllPass fits) e a; stop = λ m u. subst (λ ts. FirstFailing fits ts m) e u }

module _ (fits : Fraction → Type 0) (xs rest whole : List Look) (h : Comes fits (xs ++ rest) whole) where
  pub comes_over : AllPass fits (looks_ask xs) → first_found xs ≡ None → Comes fits rest whole
  comes_over a n = record {
    found = sym (found_append xs rest ∙ ap (λ o. or_else o (first_found rest)) n) ∙ h.found;
    pass = λ b. h.pass (subst (AllPass fits) (sym (asks_append xs rest)) (pass_append (Passes fits) (looks_ask xs) _ a (subst (λ o. AllPass fits (if_sought o (looks_ask rest))) (sym n) b)));
    stop = λ m u. h.stop m (subst (λ ts. FirstFailing fits ts m) (sym (asks_append xs rest)) (fail_right (Passes fits) (looks_ask xs) _ m a (subst (λ o. FirstFailing fits (if_sought o (looks_ask rest)) m) (sym n) u)));
  }

  pub comes_found : (p : model.Place) → AllPass fits (looks_ask xs) → first_found xs ≡ Some p → AllPass fits (looks_ask whole) × (Some p ≡ first_found whole)
  comes_found p a n = (
    h.pass (subst (AllPass fits) (sym (asks_append xs rest)) (pass_append (Passes fits) (looks_ask xs) _ a (subst (λ o. AllPass fits (if_sought o (looks_ask rest))) (sym n) (pass_none (Passes fits))))),
    sym (found_append xs rest ∙ ap (λ o. or_else o (first_found rest)) n) ∙ h.found,
  )

  pub comes_stop : (m : Ask) → FirstFailing fits (looks_ask xs) m → FirstFailing fits (looks_ask whole) m
  comes_stop m u = h.stop m (subst (λ ts. FirstFailing fits ts m) (sym (asks_append xs rest)) (fail_left (Passes fits) (looks_ask xs) _ m u))

  module _ {Q : Type 0} (v : Q → Fraction) where
    -- by what a call tells
    pub told_over : LooksTold v fits xs (Ok None) → Comes fits rest whole
    told_over t = comes_over t.0 (sym t.1)

    pub told_found : (p : Place Q) → LooksTold v fits xs (Ok (Some p)) → LooksTold v fits whole (Ok (Some p))
    told_found p t = comes_found (place_of v p) t.0 (sym t.1)

    pub told_stop : (w : WatchStop Q) → StopTold v fits (looks_ask xs) w → StopTold v fits (looks_ask whole) w
    told_stop (OfCondition w) u = comes_stop _ u
    told_stop Memory u = tt

    -- the last looks tell what all do
    pub told_last : (r : Result (Option (Place Q)) (WatchStop Q)) → rest ≡ [] → LooksTold v fits xs r → LooksTold v fits whole r
    told_last (Ok None) e t = (let k = comes_over t.0 (sym t.1) in (k.pass (subst (λ ls. AllPass fits (looks_ask ls)) (sym e) (pass_none (Passes fits))), sym (ap first_found e) ∙ k.found))
    told_last (Ok (Some p)) e t = told_found p t
    told_last (Err w) e t = told_stop w t

pub told_end : (fits : Fraction → Type 0) (whole : List Look) → Comes fits [] whole → AllPass fits (looks_ask whole) × (None ≡ first_found whole)
told_end fits whole h = (h.pass (pass_none (Passes fits)), h.found)

-- ---- one look
or_none : (o : Option model.Place) → or_else o None ≡ o
or_none None = refl
or_none (Some p) = refl

single_pass : (fits : Fraction → Type 0) (l : Look) → AllPass fits l.asked → AllPass fits (looks_ask (l ∷ []))
single_pass fits l a = pass_append (Passes fits) l.asked _ a (go l.finds)
  where
    go : (o : Option model.Place) → AllPass fits (if_sought o [])
    go None = pass_none (Passes fits)
    go (Some p) = pass_none (Passes fits)

single_fail : (fits : Fraction → Type 0) (l : Look) (m : Ask) → FirstFailing fits l.asked m → FirstFailing fits (looks_ask (l ∷ [])) m
single_fail fits l m u = fail_left (Passes fits) l.asked _ m u

-- in a state
pub state_found : (fits : Fraction → Type 0) (lasting : Bool) (c : Condition) (t : Fraction) (s : State) (b : Bool) (o : Option model.Place) → AllFit fits (tests_of c s) → b ≡ holds c s → o ≡ place_if lasting b (model.At t) → AllPass fits (looks_ask (state_look lasting c [] t s ∷ [])) × (o ≡ first_found (state_look lasting c [] t s ∷ []))
unfolding state_look
state_found fits lasting c t s b o a e f =
    let l = state_look lasting c [] t s in (
      single_pass fits l ((nodes_told fits (tests_of c s)).0 a),
      f ∙ ap (λ z. place_if lasting z (model.At t)) e ∙ sym (or_none (place_if lasting (holds c s) (model.At t))),
    )

pub state_stop : (fits : Fraction → Type 0) (lasting : Bool) (c : Condition) (t : Fraction) (s : State) (m : Node) → FirstUnfit fits (tests_of c s) m → FirstFailing fits (looks_ask (state_look lasting c [] t s ∷ [])) (asks m)
unfolding state_look
state_stop fits lasting c t s m u = single_fail fits (state_look lasting c [] t s) (asks m) ((nodes_told fits (tests_of c s)).1 m u)

-- just after
pub after_found : (fits : Fraction → Type 0) (lasting : Bool) (c : Condition) (t : Fraction) (s : State) (rs : List Fraction) (b : Bool) (o : Option model.Place) → AllPass fits (live_asks 0 c s rs) → ((b ≡ true) ↔ JustAfter s rs c) → o ≡ place_if lasting b (model.After t) → AllPass fits (looks_ask (after_look lasting c t s rs ∷ [])) × (o ≡ first_found (after_look lasting c t s rs ∷ []))
unfolding after_look
after_found fits lasting c t s rs b o a e f =
    let l = after_look lasting c t s rs in
    let u = soon_tells fits 0 c s rs a in
    let same = both_true b (after (live c s) s rs) (λ d. u.0 (e.0 d)) (λ d. e.1 (u.1 d)) in (
      single_pass fits l a,
      f ∙ ap (λ z. place_if lasting z (model.After t)) same ∙ sym (or_none (place_if lasting (after (live c s) s rs) (model.After t))),
    )

pub after_stop : (fits : Fraction → Type 0) (lasting : Bool) (c : Condition) (t : Fraction) (s : State) (rs : List Fraction) (m : Ask) → FirstFailing fits (live_asks 0 c s rs) m → FirstFailing fits (looks_ask (after_look lasting c t s rs ∷ [])) m
unfolding after_look
after_stop fits lasting c t s rs m u = single_fail fits (after_look lasting c t s rs) m u

-- ---- a root
abbrev pub nodes_look : List Node → Look
nodes_look ns = record { asked = map asks ns; finds = None }

abbrev pub root_looks : Bool → Condition → Fraction → State → List Fraction → Fraction → List Look
root_looks lasting c t s rs r = root_look lasting c t s rs r ∷ after_look lasting c (t +ℚ r) (moved s rs r) rs ∷ []

-- the moment, the moved state, and then the condition there and just after
abbrev pub parted : Bool → Condition → Fraction → State → List Fraction → Fraction → List Look
parted lasting c t s rs r = node_look (node Plus t r) ∷ nodes_look (moved_nodes s.fluents rs r) ∷ state_look lasting c [] (t +ℚ r) (moved s rs r) ∷ after_look lasting c (t +ℚ r) (moved s rs r) rs ∷ []

pub parts : (n : Node) (ns ts : List Node) (k : List Ask) → asks n ∷ (map asks ns ++ (map asks ts ++ k)) ≡ map asks ((n ∷ ns) ++ ts) ++ k
parts n ns ts k = ap (λ l. asks n ∷ l) (sym (append_assoc (map asks ns) (map asks ts) k) ∙ ap (λ l. l ++ k) (sym (map-append asks ns ts)))

pub root_parts : (fits : Fraction → Type 0) (lasting : Bool) (c : Condition) (t : Fraction) (s : State) (rs : List Fraction) (r : Fraction) → Comes fits (parted lasting c t s rs r) (root_looks lasting c t s rs r)
unfolding root_look state_look node_look
root_parts fits lasting c t s rs r = comes_as fits (parted lasting c t s rs r) (root_looks lasting c t s rs r) (parts (node Plus t r) (moved_nodes s.fluents rs r) (tests_of c (moved s rs r)) _) refl

module _ (fits : Fraction → Type 0) (lasting : Bool) (c : Condition) (t : Fraction) (s : State) (rs : List Fraction) (r : Fraction) where
  pub root_moment_stop : (m : Ask) → FirstFailing fits (asks (node Plus t r) ∷ []) m → FirstFailing fits (looks_ask (root_looks lasting c t s rs r)) m
  unfolding node_look
  root_moment_stop m u = (root_parts fits lasting c t s rs r).stop m (fail_left (Passes fits) (asks (node Plus t r) ∷ []) _ m u)

  pub root_ahead_stop : (m : Ask) → AllPass fits (asks (node Plus t r) ∷ []) → FirstFailing fits (map asks (moved_nodes s.fluents rs r)) m → FirstFailing fits (looks_ask (root_looks lasting c t s rs r)) m
  unfolding node_look
  root_ahead_stop m a u = (root_parts fits lasting c t s rs r).stop m (fail_right (Passes fits) (asks (node Plus t r) ∷ []) _ m a (fail_left (Passes fits) (map asks (moved_nodes s.fluents rs r)) _ m u))

  -- what is left, in the names of the code
  abbrev pub left_looks : Fraction → State → List Look
  left_looks time there = state_look lasting c [] time there ∷ after_look lasting c time there rs ∷ []

  pub root_left : (time : Fraction) (there : State) → time ≡ t +ℚ r → there ≡ moved s rs r → AllPass fits (asks (node Plus t r) ∷ []) → AllPass fits (map asks (moved_nodes s.fluents rs r)) → Comes fits (left_looks time there) (root_looks lasting c t s rs r)
  unfolding node_look
  root_left time there e f a b = subst (λ (x : Fraction). Comes fits (left_looks x there) (root_looks lasting c t s rs r)) (sym e) (subst (λ (y : State). Comes fits (left_looks (t +ℚ r) y) (root_looks lasting c t s rs r)) (sym f) at)
    where
      at : Comes fits (left_looks (t +ℚ r) (moved s rs r)) (root_looks lasting c t s rs r)
      at = record {
        found = (root_parts fits lasting c t s rs r).found;
        pass = λ p. (root_parts fits lasting c t s rs r).pass (pass_append (Passes fits) (asks (node Plus t r) ∷ []) _ a (pass_append (Passes fits) (map asks (moved_nodes s.fluents rs r)) _ b p));
        stop = λ m u. (root_parts fits lasting c t s rs r).stop m (fail_right (Passes fits) (asks (node Plus t r) ∷ []) _ m a (fail_right (Passes fits) (map asks (moved_nodes s.fluents rs r)) _ m b u));
      }

-- a stop of a part
pub stop_by : {Q : Type 0} (v : Q → Fraction) (fits : Fraction → Type 0) (ts us : List Ask) (w : WatchStop Q) → ((m : Ask) → FirstFailing fits ts m → FirstFailing fits us m) → StopTold v fits ts w → StopTold v fits us w
stop_by v fits ts us (OfCondition w) f u = f _ u
stop_by v fits ts us Memory f u = tt

-- ---- from root to root
pub walk_more : (lasting : Bool) (c : Condition) (t : Fraction) (s : State) (rs : List Fraction) (low r : Fraction) (roots : List Fraction) → walk_looks lasting c t s rs (above low (r ∷ [])) [] ++ walk_looks lasting c t s rs (above low roots) [] ≡ walk_looks lasting c t s rs (above low (r ∷ roots)) []
walk_more lasting c t s rs low r roots = go (is_below low r)
  where
    go : (b : Bool) → walk_looks lasting c t s rs (if b then r ∷ [] else []) [] ++ walk_looks lasting c t s rs (above low roots) [] ≡ walk_looks lasting c t s rs (if b then r ∷ above low roots else above low roots) []
    go true = refl
    go false = refl

pub walk_next : (fits : Fraction → Type 0) (lasting : Bool) (c : Condition) (t : Fraction) (s : State) (rs : List Fraction) (low r : Fraction) (roots : List Fraction) (whole : List Look) → Comes fits (walk_looks lasting c t s rs (above low (r ∷ roots)) []) whole → Comes fits (walk_looks lasting c t s rs (above low (r ∷ [])) [] ++ walk_looks lasting c t s rs (above low roots) []) whole
walk_next fits lasting c t s rs low r roots whole h = subst (λ ls. Comes fits ls whole) (sym (walk_more lasting c t s rs low r roots)) h

-- at a root that is above the bound or not
pub above_none : (fits : Fraction → Type 0) (lasting : Bool) (c : Condition) (t : Fraction) (s : State) (rs : List Fraction) (low r : Fraction) → is_below low r ≡ false → AllPass fits (looks_ask (walk_looks lasting c t s rs (above low (r ∷ [])) [])) × (None ≡ first_found (walk_looks lasting c t s rs (above low (r ∷ [])) []))
above_none fits lasting c t s rs low r e = subst (λ (b : Bool). AllPass fits (looks_ask (walk_looks lasting c t s rs (if b then r ∷ [] else []) [])) × (None ≡ first_found (walk_looks lasting c t s rs (if b then r ∷ [] else []) []))) (sym e) (pass_none (Passes fits), refl)

pub above_told : {Q : Type 0} (v : Q → Fraction) (fits : Fraction → Type 0) (lasting : Bool) (c : Condition) (t : Fraction) (s : State) (rs : List Fraction) (low r : Fraction) (answer : Result (Option (Place Q)) (WatchStop Q)) → is_below low r ≡ true → LooksTold v fits (root_looks lasting c t s rs r) answer → LooksTold v fits (walk_looks lasting c t s rs (above low (r ∷ [])) []) answer
above_told v fits lasting c t s rs low r answer e h = subst (λ (b : Bool). LooksTold v fits (walk_looks lasting c t s rs (if b then r ∷ [] else []) []) answer) (sym e) h

-- what all looks of a list tell
pub told_all : {Q : Type 0} (v : Q → Fraction) (fits : Fraction → Type 0) (xs whole : List Look) (r : Result (Option (Place Q)) (WatchStop Q)) → Comes fits xs whole → LooksTold v fits xs r → LooksTold v fits whole r
told_all v fits xs whole (Ok o) h t = (h.pass t.0, t.1 ∙ h.found)
told_all v fits xs whole (Err (OfCondition w)) h t = h.stop _ t
told_all v fits xs whole (Err Memory) h t = tt

-- ---- a portion of a stretch
module _ (fits : Fraction → Type 0) (lasting : Bool) (c : Condition) (t : Fraction) (s : State) (rs : List Fraction) (low from : Fraction) (start : State) (high : Fraction) where
  abbrev pub portion : List Look
  portion = inner_looks lasting c t s rs low from start high []

  -- behind the look just after the beginning
  abbrev pub behind : List Look
  behind = roots_look c s rs ∷ walk_looks lasting c t s rs (above low (rising_below high (live_roots c s rs))) []

  pub portion_start : Comes fits (after_look lasting c from start rs ∷ behind) portion
  unfolding inner_looks
  portion_start = comes_start fits portion

  pub roots_stop : {Q : Type 0} (v : Q → Fraction) (w : WatchStop Q) → Comes fits behind portion → StopTold v fits (cross_asks 0 c s rs) w → StopTold v fits (looks_ask portion) w
  unfolding roots_look
  roots_stop v w h u = stop_by v fits (cross_asks 0 c s rs) (looks_ask portion) w (λ m f. h.stop m (fail_left (Passes fits) (cross_asks 0 c s rs) _ m f)) u

  pub roots_over : (roots : List Fraction) → roots ≡ rising_below high (live_roots c s rs) → Comes fits behind portion → AllPass fits (cross_asks 0 c s rs) → Comes fits (walk_looks lasting c t s rs (above low roots) []) portion
  unfolding roots_look
  roots_over roots e h a = subst (λ (l : List Fraction). Comes fits (walk_looks lasting c t s rs (above low l) []) portion) (sym e) at
    where
      at : Comes fits (walk_looks lasting c t s rs (above low (rising_below high (live_roots c s rs))) []) portion
      at = record {
        found = h.found;
        pass = λ p. h.pass (pass_append (Passes fits) (cross_asks 0 c s rs) _ a p);
        stop = λ m f. h.stop m (fail_right (Passes fits) (cross_asks 0 c s rs) _ m a f);
      }
