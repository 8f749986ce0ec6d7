-- A whole stretch, one that is regarded up to a moment inside, and one that is regarded from a moment inside on.
use Rattle.std.proofs.Common.{◌≡◌, true, false, Bool, if◌then◌else◌, List, [], ◌∷◌, ◌++◌, map, refl, ap, sym, subst, ◌∙◌, pos, append_assoc}
use Rattle.std.proofs.lemmas.List.{map-append}
use Rattle.std.specs.Prelude.{Option, None, Result}
use Rattle.plus_fraction.specs.Fraction.{Fraction, whole, ◌+ℚ◌, ◌-ℚ◌}
use Rattle.plus_model.specs.Terms.{Condition, State}
use Rattle.plus_model.specs.Running.{moved}
use Rattle.plus_state.specs.declared.term.Sign.TheVariants.{Minus}
use Rattle.plus_state.specs.Node.{Node}
use Rattle.plus_state.specs.Asked.{node, NodeFits}
use Rattle.plus_state.specs.Tests.{tests_of}
use Rattle.plus_state.proofs.Testing.{pass_none, pass_one, fail_one, pass_append, fail_left, fail_right}
use Rattle.plus_crossing.specs.Asked.{Ask, asks, Passes, AllPass, FirstFailing}
use Rattle.plus_crossing.specs.Listed.{live_roots}
use Rattle.plus_crossing.specs.Moves.{moved_nodes}
use Rattle.plus_watch.specs.Between.{rising_between}
use Rattle.plus_model.specs.Trajectory.{is_below}
use Rattle.plus_constraints.specs.Constraint.{When, Within, HoldAfter}
use Rattle.plus_watch.specs.declared.place.Place.{Place}
use Rattle.plus_watch.specs.declared.place.WatchStop.{WatchStop}
use Rattle.plus_watch.specs.Looks.{Look, first_found, looks_ask, state_look, after_look, node_look, roots_look, root_look, walk_looks, inner_looks, whole_looks, up_to_looks, from_on_looks, stretch_looks}
use Rattle.plus_watch.specs.Told.{LooksTold}
use Rattle.plus_watch.proofs.Telling.{Comes, comes_as, comes_over, nodes_look, parts}

-- ---- how long it is till a time
pub wait_pass : (fits : Fraction → Type 0) (u t z : Fraction) → z ≡ u -ℚ t → fits z → AllPass fits (asks (node Minus u t) ∷ [])
unfolding Passes NodeFits
wait_pass fits u t z e h = pass_one (Passes fits) (asks (node Minus u t)) (subst fits e h)

pub wait_fail : (fits : Fraction → Type 0) (u t : Fraction) (m : Node) → (fits (u -ℚ t) → ⊥) → m ≡ node Minus u t → FirstFailing fits (asks (node Minus u t) ∷ []) (asks m)
unfolding Passes NodeFits
wait_fail fits u t m h e = fail_one (Passes fits) (asks (node Minus u t)) (asks m) h (ap asks e)

-- ---- a whole stretch
pub whole_told : {Q : Type 0} (v : Q → Fraction) (fits : Fraction → Type 0) (lasting : Bool) (c : Condition) (t : Fraction) (s : State) (rs : List Fraction) (last low high : Fraction) (r : Result (Option (Place Q)) (WatchStop Q)) → low ≡ whole (pos 0) → high ≡ last -ℚ t → LooksTold v fits (inner_looks lasting c t s rs low t s high []) r → LooksTold v fits (whole_looks lasting c t s rs last) r
unfolding whole_looks
whole_told v fits lasting c t s rs last low high r e f h = subst (λ (x : Fraction). LooksTold v fits (inner_looks lasting c t s rs x t s (last -ℚ t) []) r) e (subst (λ (y : Fraction). LooksTold v fits (inner_looks lasting c t s rs low t s y []) r) f h)

-- ---- looks behind others
same_list : (fits : Fraction → Type 0) (xs ys : List Look) → xs ≡ ys → Comes fits xs ys
same_list fits xs ys e = comes_as fits xs ys (ap looks_ask e) (ap first_found e)

walk_append : (lasting : Bool) (c : Condition) (t : Fraction) (s : State) (rs roots : List Fraction) (rest : List Look) → walk_looks lasting c t s rs roots [] ++ rest ≡ walk_looks lasting c t s rs roots rest
walk_append lasting c t s rs [] rest = refl
walk_append lasting c t s rs (r ∷ roots) rest = ap (λ ls. root_look lasting c t s rs r ∷ after_look lasting c (t +ℚ r) (moved s rs r) rs ∷ ls) (walk_append lasting c t s rs roots rest)

inner_append : (lasting : Bool) (c : Condition) (t : Fraction) (s : State) (rs : List Fraction) (low from : Fraction) (start : State) (high : Fraction) (rest : List Look) → inner_looks lasting c t s rs low from start high [] ++ rest ≡ inner_looks lasting c t s rs low from start high rest
unfolding inner_looks
inner_append lasting c t s rs low from start high rest = ap (λ ls. after_look lasting c from start rs ∷ roots_look c s rs ∷ ls) (walk_append lasting c t s rs (rising_between low high (live_roots c s rs)) rest)

-- ---- up to a moment inside
module _ (fits : Fraction → Type 0) (c : Condition) (t : Fraction) (s : State) (rs : List Fraction) (u : Fraction) where
  -- behind the length: the moments before it, and then the state there
  abbrev pub till : Fraction → Fraction → List Look
  till low high = inner_looks false c t s rs low t s high []

  abbrev pub there_looks : Fraction → List Look
  there_looks high = state_look false c (moved_nodes s.fluents rs high) u (moved s rs high) ∷ []

  up_start : Comes fits (node_look (node Minus u t) ∷ (till (whole (pos 0)) (u -ℚ t) ++ there_looks (u -ℚ t))) (up_to_looks c t s rs u)
  unfolding up_to_looks
  up_start = same_list fits _ _ (ap (λ ls. node_look (node Minus u t) ∷ ls) (inner_append false c t s rs (whole (pos 0)) t s (u -ℚ t) (there_looks (u -ℚ t))))

  pub up_wait_stop : (m : Ask) → FirstFailing fits (asks (node Minus u t) ∷ []) m → FirstFailing fits (looks_ask (up_to_looks c t s rs u)) m
  unfolding node_look
  up_wait_stop m f = up_start.stop m (fail_left (Passes fits) (asks (node Minus u t) ∷ []) _ m f)

  up_behind : AllPass fits (asks (node Minus u t) ∷ []) → Comes fits (till (whole (pos 0)) (u -ℚ t) ++ there_looks (u -ℚ t)) (up_to_looks c t s rs u)
  unfolding node_look
  up_behind a = comes_over fits (node_look (node Minus u t) ∷ []) (till (whole (pos 0)) (u -ℚ t) ++ there_looks (u -ℚ t)) (up_to_looks c t s rs u) up_start a refl

  pub up_over : (low high : Fraction) → low ≡ whole (pos 0) → high ≡ u -ℚ t → AllPass fits (asks (node Minus u t) ∷ []) → Comes fits (till low high ++ there_looks high) (up_to_looks c t s rs u)
  up_over low high e f a = subst (λ (x : Fraction). Comes fits (till x high ++ there_looks high) (up_to_looks c t s rs u)) (sym e) (subst (λ (y : Fraction). Comes fits (till (whole (pos 0)) y ++ there_looks y) (up_to_looks c t s rs u)) (sym f) (up_behind a))

-- ---- a state that is moved to
later_parts : (ns ts : List Node) (k : List Ask) → map asks ns ++ (map asks ts ++ k) ≡ map asks (ns ++ ts) ++ k
later_parts ns ts k = sym (append_assoc (map asks ns) (map asks ts) k) ∙ ap (λ l. l ++ k) (sym (map-append asks ns ts))

module _ (fits : Fraction → Type 0) (lasting : Bool) (c : Condition) (s : State) (rs : List Fraction) (delay time : Fraction) where
  abbrev pub later_looks : List Look
  later_looks = state_look lasting c (moved_nodes s.fluents rs delay) time (moved s rs delay) ∷ []

  later_start : Comes fits (nodes_look (moved_nodes s.fluents rs delay) ∷ state_look lasting c [] time (moved s rs delay) ∷ []) later_looks
  unfolding state_look
  later_start = comes_as fits _ _ (later_parts (moved_nodes s.fluents rs delay) (tests_of c (moved s rs delay)) _) refl

  pub later_stop : (m : Ask) → FirstFailing fits (map asks (moved_nodes s.fluents rs delay)) m → FirstFailing fits (looks_ask later_looks) m
  later_stop m f = later_start.stop m (fail_left (Passes fits) (map asks (moved_nodes s.fluents rs delay)) _ m f)

  pub later_over : (there : State) → there ≡ moved s rs delay → AllPass fits (map asks (moved_nodes s.fluents rs delay)) → Comes fits (state_look lasting c [] time there ∷ []) later_looks
  later_over there e a = subst (λ (y : State). Comes fits (state_look lasting c [] time y ∷ []) later_looks) (sym e) at
    where
      at : Comes fits (state_look lasting c [] time (moved s rs delay) ∷ []) later_looks
      at = record {
        found = later_start.found;
        pass = λ p. later_start.pass (pass_append (Passes fits) (map asks (moved_nodes s.fluents rs delay)) _ a p);
        stop = λ m f. later_start.stop m (fail_right (Passes fits) (map asks (moved_nodes s.fluents rs delay)) _ m a f);
      }

-- ---- from a moment inside on
module _ (fits : Fraction → Type 0) (c : Condition) (t : Fraction) (s : State) (rs : List Fraction) (u last : Fraction) where
  abbrev pub onward : Fraction → State → Fraction → List Look
  onward low there high = inner_looks true c t s rs low u there high []

  from_start : Comes fits (node_look (node Minus u t) ∷ nodes_look (moved_nodes s.fluents rs (u -ℚ t)) ∷ state_look true c [] u (moved s rs (u -ℚ t)) ∷ onward (u -ℚ t) (moved s rs (u -ℚ t)) (last -ℚ t)) (from_on_looks c t s rs u last)
  unfolding from_on_looks state_look node_look
  from_start = comes_as fits _ _ (parts (node Minus u t) (moved_nodes s.fluents rs (u -ℚ t)) (tests_of c (moved s rs (u -ℚ t))) _) refl

  pub from_wait_stop : (m : Ask) → FirstFailing fits (asks (node Minus u t) ∷ []) m → FirstFailing fits (looks_ask (from_on_looks c t s rs u last)) m
  unfolding node_look
  from_wait_stop m f = from_start.stop m (fail_left (Passes fits) (asks (node Minus u t) ∷ []) _ m f)

  pub from_ahead_stop : (low : Fraction) (m : Ask) → low ≡ u -ℚ t → AllPass fits (asks (node Minus u t) ∷ []) → FirstFailing fits (map asks (moved_nodes s.fluents rs low)) m → FirstFailing fits (looks_ask (from_on_looks c t s rs u last)) m
  unfolding node_look
  from_ahead_stop low m e a f = from_start.stop m (fail_right (Passes fits) (asks (node Minus u t) ∷ []) _ m a (fail_left (Passes fits) (map asks (moved_nodes s.fluents rs (u -ℚ t))) _ m (subst (λ (x : Fraction). FirstFailing fits (map asks (moved_nodes s.fluents rs x)) m) e f)))

  from_behind : AllPass fits (asks (node Minus u t) ∷ []) → AllPass fits (map asks (moved_nodes s.fluents rs (u -ℚ t))) → Comes fits (state_look true c [] u (moved s rs (u -ℚ t)) ∷ onward (u -ℚ t) (moved s rs (u -ℚ t)) (last -ℚ t)) (from_on_looks c t s rs u last)
  unfolding node_look
  from_behind a b = record {
    found = from_start.found;
    pass = λ p. from_start.pass (pass_append (Passes fits) (asks (node Minus u t) ∷ []) _ a (pass_append (Passes fits) (map asks (moved_nodes s.fluents rs (u -ℚ t))) _ b p));
    stop = λ m f. from_start.stop m (fail_right (Passes fits) (asks (node Minus u t) ∷ []) _ m a (fail_right (Passes fits) (map asks (moved_nodes s.fluents rs (u -ℚ t))) _ m b f));
  }

  pub from_left : (low high : Fraction) (there : State) → low ≡ u -ℚ t → high ≡ last -ℚ t → there ≡ moved s rs low → AllPass fits (asks (node Minus u t) ∷ []) → AllPass fits (map asks (moved_nodes s.fluents rs low)) → Comes fits (state_look true c [] u there ∷ onward low there high) (from_on_looks c t s rs u last)
  from_left low high there e f g a b =
      subst (λ (y : State). Comes fits (state_look true c [] u y ∷ onward low y high) (from_on_looks c t s rs u last)) (sym g)
      (subst (λ (z : Fraction). Comes fits (state_look true c [] u (moved s rs low) ∷ onward low (moved s rs low) z) (from_on_looks c t s rs u last)) (sym f)
      (subst (λ (x : Fraction). Comes fits (state_look true c [] u (moved s rs x) ∷ onward x (moved s rs x) (last -ℚ t)) (from_on_looks c t s rs u last)) (sym e)
      (from_behind a (subst (λ (x : Fraction). AllPass fits (map asks (moved_nodes s.fluents rs x))) e b))))

-- ---- nothing is regarded
pub none_within : (fits : Fraction → Type 0) (w : When) (c : Condition) (t : Fraction) (s : State) (rs : List Fraction) (last u : Fraction) (b : Bool) → w ≡ Within u → b ≡ is_below t u → b ≡ false → AllPass fits (looks_ask (stretch_looks w c t s rs last)) × (None ≡ first_found (stretch_looks w c t s rs last))
none_within fits w c t s rs last u true e f n = cc
none_within fits w c t s rs last u false e f n =
    subst (λ (x : When). AllPass fits (looks_ask (stretch_looks x c t s rs last)) × (None ≡ first_found (stretch_looks x c t s rs last))) (sym e)
    (subst (λ (b : Bool). AllPass fits (looks_ask (if b then if is_below u last then up_to_looks c t s rs u else whole_looks false c t s rs last else [])) × (None ≡ first_found (if b then if is_below u last then up_to_looks c t s rs u else whole_looks false c t s rs last else []))) f (pass_none (Passes fits), refl))

pub none_after : (fits : Fraction → Type 0) (w : When) (c : Condition) (t : Fraction) (s : State) (rs : List Fraction) (last u : Fraction) (b : Bool) → w ≡ HoldAfter u → b ≡ is_below u last → b ≡ false → AllPass fits (looks_ask (stretch_looks w c t s rs last)) × (None ≡ first_found (stretch_looks w c t s rs last))
none_after fits w c t s rs last u true e f n = cc
none_after fits w c t s rs last u false e f n =
    subst (λ (x : When). AllPass fits (looks_ask (stretch_looks x c t s rs last)) × (None ≡ first_found (stretch_looks x c t s rs last))) (sym e)
    (subst (λ (b : Bool). AllPass fits (looks_ask (if b then if is_below t u then from_on_looks c t s rs u last else whole_looks true c t s rs last else [])) × (None ≡ first_found (if b then if is_below t u then from_on_looks c t s rs u last else whole_looks true c t s rs last else []))) f (pass_none (Passes fits), refl))
