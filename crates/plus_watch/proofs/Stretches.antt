-- A stretch: what the looks at its regarded portion find is what stands over the moments of that portion.
use Rattle.std.proofs.Common.{◌≡◌, true, false, Bool, List, [], ◌∷◌, not, refl, ap, sym, subst, ◌∙◌, inl, inr, pos, if◌then◌else◌}
use Rattle.std.specs.Prelude.{Option, Some, None}
use Rattle.plus_fraction.specs.Fraction.{Fraction, whole, ◌+ℚ◌, ◌-ℚ◌, ◌<ℚ◌, ◌≤ℚ◌}
use Rattle.plus_fraction.proofs.Ring.{var, num, ◌⊕◌, ◌⊖◌}
use Rattle.plus_fraction.proofs.FractionRing.{ringℚ}
use Rattle.plus_fraction.proofs.FractionOrder.{<ℚ_trans}
use Rattle.plus_fraction.proofs.FractionAtMost.{≤ℚ_refl, ≤ℚ_trans, le_lt, le_not_above, ≤ℚ-<ℚ_trans, <ℚ-≤ℚ_trans, le_cases}
use Rattle.plus_model.specs.Terms.{Condition, State}
use Rattle.plus_model.specs.Value.{holds}
use Rattle.plus_model.specs.Running.{moved}
use Rattle.plus_model.specs.Piece.{after}
use Rattle.plus_model.specs.Live.{live}
use Rattle.plus_model.specs.Trajectory.{is_below}
use Rattle.plus_model.proofs.Motion.{moved-moved, between_both}
use Rattle.plus_model.proofs.Moments.{sub_above, -ℚ-lt, from_below}
use Rattle.plus_model.proofs.Search.{moved-zero, past, short}
use Rattle.plus_state.specs.declared.term.Sign.TheVariants.{Minus}
use Rattle.plus_state.specs.Asked.{node}
use Rattle.plus_crossing.specs.Moves.{moved_nodes}
use Rattle.plus_crossing.specs.Asked.{AllPass}
use Rattle.plus_crossing.specs.Conds.{TruthAfter}
use Rattle.plus_crossing.specs.Listed.{live_roots}
use Rattle.plus_constraints.specs.Constraint.{When, Always, Sometime, Within, HoldAfter, IsRegarded, is_lasting}
use Rattle.plus_constraints.specs.Place.{Place, At, After, place_if, or_else}
use Rattle.plus_constraints.proofs.Scanned.{Seen, Bounded, Scanned, Either, One, Open, joined, same_seen, nothing, one_state, soon_found, place_cases}
use Rattle.plus_stretch.proofs.Marks.{at_most as not_below}
use Rattle.plus_stretch.proofs.Roots.{listed, live_above}
use Rattle.plus_stretch.proofs.SearchLemmas.{up_to as plus_rest}
use Rattle.plus_watch.specs.Between.{rising_between}
use Rattle.plus_watch.specs.Looks.{Look, first_found, looks_ask, state_look, after_look, node_look, roots_look, walk_looks, inner_looks, whole_looks, up_to_looks, from_on_looks, stretch_looks}
use Rattle.plus_watch.proofs.BetweenLemmas.{rise, all, inside}
use Rattle.plus_watch.proofs.Walking.{AreLeft, walk, truth_soon, rest_asked, look_asked, later_by, open_bounded, either_bounded, one_bounded}

-- ---- all roots are left at the beginning
all_left : (c : Condition) (s : State) (rs : List Fraction) (low high : Fraction) → AreLeft c s rs low high (rising_between low high (live_roots c s rs))
all_left c s rs low high = record {
  rise = rise (whole (pos 0)) low high (live_roots c s rs) (live_above c s rs);
  inside = λ x i. inside low high x (live_roots c s rs) i;
  all = λ x h l m. all low high x (live_roots c s rs) (listed c s rs x h) l m;
}

-- ---- where the truth that is sought stands just after the beginning
from_low : (t low x : Fraction) → low +ℚ (x -ℚ (t +ℚ low)) ≡ x -ℚ t
from_low t low x = ringℚ (t ∷ low ∷ x ∷ []) (var 1 ⊕ (var 2 ⊖ (var 0 ⊕ var 1))) (var 2 ⊖ var 0) refl

past_low : (t low x : Fraction) → t +ℚ low <ℚ x → whole (pos 0) <ℚ x -ℚ (t +ℚ low)
past_low t low x h = sub_above (t +ℚ low) x h

short_of : (t low p x : Fraction) → x <ℚ t +ℚ (low +ℚ p) → x -ℚ (t +ℚ low) <ℚ p
short_of t low p x h =
    subst (λ (z : Fraction). x -ℚ (t +ℚ low) <ℚ z) (ringℚ (t ∷ low ∷ p ∷ []) ((var 0 ⊕ (var 1 ⊕ var 2)) ⊖ (var 0 ⊕ var 1)) (var 2) refl) (-ℚ-lt x (t +ℚ (low +ℚ p)) (t +ℚ low) h)

further : (low p : Fraction) → whole (pos 0) <ℚ p → low <ℚ low +ℚ p
further low p h = past low low p (≤ℚ_refl low) h

at_once : (lasting : Bool) (c : Condition) (t : Fraction) (s : State) (rs : List Fraction) (low high : Fraction) (z : Bool) → low <ℚ high → TruthAfter (moved s rs low) rs c z → z ≡ not lasting → Scanned c lasting (t +ℚ low) (t +ℚ high) (Open t s rs (t +ℚ low) (t +ℚ high)) (Some (After (t +ℚ low)))
at_once lasting c t s rs low high z lt soon e =
    let b = between_both soon.until (high -ℚ low) soon.above (sub_above low high lt) in
    soon_found c lasting t s rs (t +ℚ low) (t +ℚ (low +ℚ b.place)) (t +ℚ high) z
    (later_by t low (low +ℚ b.place) (further low b.place b.above))
    (le_lt _ _ (later_by t (low +ℚ b.place) high (short low high b.place b.second)))
    (λ x p q. sym (ap (λ (y : Fraction). holds c (moved s rs y)) (from_low t low x)) ∙ sym (ap (holds c) (moved-moved s rs low (x -ℚ (t +ℚ low))))
    ∙ soon.inside (x -ℚ (t +ℚ low)) (past_low t low x p) (<ℚ_trans _ _ _ (short_of t low b.place x q) b.first))
    e

-- ---- a portion
module _ (fits : Fraction → Type 0) (lasting : Bool) (c : Condition) (t : Fraction) (s : State) (rs : List Fraction) (low high last : Fraction) (W : Seen) (rest : List Look)
    (up : whole (pos 0) ≤ℚ low) (lt : low <ℚ high) (le : t +ℚ high ≤ℚ last) (bW : Bounded (t +ℚ high) last W) (end : AllPass fits (looks_ask rest) → Scanned c lasting (t +ℚ high) last W (first_found rest)) where
  portion_by : AllPass fits (looks_ask (inner_looks lasting c t s rs low (t +ℚ low) (moved s rs low) high rest)) → Scanned c lasting (t +ℚ low) last (Either (Open t s rs (t +ℚ low) (t +ℚ high)) W) (first_found (inner_looks lasting c t s rs low (t +ℚ low) (moved s rs low) high rest))
  unfolding inner_looks after_look roots_look
  portion_by asked =
      let start = moved s rs low in
      let z = after (live c start) start rs in
      let soon_look = after_look lasting c (t +ℚ low) start rs in
      let cross = roots_look c s rs in
      let more = walk_looks lasting c t s rs (rising_between low high (live_roots c s rs)) rest in
      let soon = truth_soon fits c start rs (look_asked fits soon_look (cross ∷ more) asked) in
      let walked : (place_if lasting z (After (t +ℚ low)) ≡ None) → Scanned c lasting (t +ℚ low) last (Either (Open t s rs (t +ℚ low) (t +ℚ high)) W) (or_else (place_if lasting z (After (t +ℚ low))) (first_found more)) =
      λ e. let a = rest_asked fits soon_look (cross ∷ more) asked e in
      walk fits lasting c t s rs high last W rest (look_asked fits cross more a) le bW end low z (rising_between low high (live_roots c s rs)) up lt (all_left c s rs low high) soon (λ n. rest_asked fits cross more a refl) in
      let found : (z ≡ not lasting) → Scanned c lasting (t +ℚ low) last (Either (Open t s rs (t +ℚ low) (t +ℚ high)) W) (Some (After (t +ℚ low))) =
      λ e. joined c lasting (t +ℚ low) (t +ℚ high) last (Open t s rs (t +ℚ low) (t +ℚ high)) W (Some (After (t +ℚ low))) None (at_once lasting c t s rs low high z lt soon e) le bW (λ e. cc) in
      elim (place_cases lasting z (After (t +ℚ low))) [
        | inl e ↦ walked e
        | inr e ↦ subst (λ (o : Option Place). Scanned c lasting (t +ℚ low) last (Either (Open t s rs (t +ℚ low) (t +ℚ high)) W) (or_else o (first_found more))) (sym e.1) (found e.0)
      ]

-- the same, with the names that the looks use
pub portion : (fits : Fraction → Type 0) (lasting : Bool) (c : Condition) (t : Fraction) (s : State) (rs : List Fraction) (low high last : Fraction) (W : Seen) (rest : List Look) (from : Fraction) (start : State) (stop : Fraction)
    → from ≡ t +ℚ low → start ≡ moved s rs low → stop ≡ t +ℚ high
    → whole (pos 0) ≤ℚ low → low <ℚ high → stop ≤ℚ last → Bounded stop last W → (AllPass fits (looks_ask rest) → Scanned c lasting stop last W (first_found rest))
    → AllPass fits (looks_ask (inner_looks lasting c t s rs low from start high rest))
    → Scanned c lasting from last (Either (Open t s rs from stop) W) (first_found (inner_looks lasting c t s rs low from start high rest))
portion fits lasting c t s rs low high last W rest from start stop e f g up lt le bW end asked = by_stop (sym g) (by_start (sym f) (by_from (sym e) (
    portion_by fits lasting c t s rs low high last W rest up lt (subst (λ (x : Fraction). x ≤ℚ last) g le) (subst (λ (x : Fraction). Bounded x last W) g bW)
    (λ a. subst (λ (x : Fraction). Scanned c lasting x last W (first_found rest)) g (end a))
    (subst (λ (x : Fraction). AllPass fits (looks_ask (inner_looks lasting c t s rs low x (moved s rs low) high rest))) e (subst (λ (y : State). AllPass fits (looks_ask (inner_looks lasting c t s rs low from y high rest))) f asked)))))
  where
    by_from : t +ℚ low ≡ from → Scanned c lasting (t +ℚ low) last (Either (Open t s rs (t +ℚ low) (t +ℚ high)) W) (first_found (inner_looks lasting c t s rs low (t +ℚ low) (moved s rs low) high rest)) → Scanned c lasting from last (Either (Open t s rs from (t +ℚ high)) W) (first_found (inner_looks lasting c t s rs low from (moved s rs low) high rest))
    by_from q a = subst (λ (x : Fraction). Scanned c lasting x last (Either (Open t s rs x (t +ℚ high)) W) (first_found (inner_looks lasting c t s rs low x (moved s rs low) high rest))) q a

    by_start : moved s rs low ≡ start → Scanned c lasting from last (Either (Open t s rs from (t +ℚ high)) W) (first_found (inner_looks lasting c t s rs low from (moved s rs low) high rest)) → Scanned c lasting from last (Either (Open t s rs from (t +ℚ high)) W) (first_found (inner_looks lasting c t s rs low from start high rest))
    by_start q a = subst (λ (y : State). Scanned c lasting from last (Either (Open t s rs from (t +ℚ high)) W) (first_found (inner_looks lasting c t s rs low from y high rest))) q a

    by_stop : t +ℚ high ≡ stop → Scanned c lasting from last (Either (Open t s rs from (t +ℚ high)) W) (first_found (inner_looks lasting c t s rs low from start high rest)) → Scanned c lasting from last (Either (Open t s rs from stop) W) (first_found (inner_looks lasting c t s rs low from start high rest))
    by_stop q a = subst (λ (x : Fraction). Scanned c lasting from last (Either (Open t s rs from x) W) (first_found (inner_looks lasting c t s rs low from start high rest))) q a

-- ---- nothing
abbrev pub Empty : Seen
Empty t s = ⊥

empty_bounded : (first last : Fraction) → Bounded first last Empty
empty_bounded first last t s h = absurd h

empty : (c : Condition) (lasting : Bool) (first last : Fraction) → first ≤ℚ last → Scanned c lasting first last Empty None
empty c lasting first last le = nothing c lasting first last Empty le (λ t s h. h)

-- ---- sums of times
plus_zero : (t : Fraction) → t ≡ t +ℚ whole (pos 0)
plus_zero t = ringℚ (t ∷ []) (var 0) (var 0 ⊕ num (pos 0)) refl

less_rest : (t u last : Fraction) → u <ℚ last → u -ℚ t <ℚ last -ℚ t
less_rest t u last h = -ℚ-lt u last t h

-- ---- the states of a stretch that are regarded
abbrev pub Along : When → Fraction → State → List Fraction → Fraction → Seen
Along w t s rs last x now = Open t s rs t last x now × IsRegarded w x

module _ (fits : Fraction → Type 0) (c : Condition) (t : Fraction) (s : State) (rs : List Fraction) (last : Fraction) (lt : t <ℚ last) where
  -- all of it
  pub whole_scanned : (lasting : Bool) → AllPass fits (looks_ask (whole_looks lasting c t s rs last)) → Scanned c lasting t last (Either (Open t s rs t last) Empty) (first_found (whole_looks lasting c t s rs last))
  unfolding whole_looks
  whole_scanned lasting asked =
      portion fits lasting c t s rs (whole (pos 0)) (last -ℚ t) last Empty [] t s last (plus_zero t) (sym (moved-zero s rs)) (plus_rest t last)
      (≤ℚ_refl _) (sub_above t last lt) (≤ℚ_refl last) (empty_bounded last last) (λ a. empty c lasting last last (≤ℚ_refl last)) asked

  all_regarded : (w : When) (lasting : Bool) → is_lasting w ≡ lasting → ((x : Fraction) → t <ℚ x → x <ℚ last → IsRegarded w x) → AllPass fits (looks_ask (whole_looks lasting c t s rs last)) → Scanned c lasting t last (Along w t s rs last) (first_found (whole_looks lasting c t s rs last))
  all_regarded w lasting e f asked =
      same_seen c lasting t last (Either (Open t s rs t last) Empty) (Along w t s rs last) (first_found (whole_looks lasting c t s rs last))
      (λ x now h. elim h [ inl o ↦ (o, f x o.0 o.1) | inr n ↦ absurd n ]) (λ x now h. inl h.0) (whole_scanned lasting asked)

  none_regarded : (w : When) (lasting : Bool) → ((x : Fraction) → t <ℚ x → x <ℚ last → IsRegarded w x → ⊥) → Scanned c lasting t last (Along w t s rs last) None
  none_regarded w lasting f = nothing c lasting t last (Along w t s rs last) (le_lt t last lt) (λ x now h. f x h.0.0 h.0.1 h.1)

  -- up to a moment inside
  up_to_scanned : (u : Fraction) → t <ℚ u → u <ℚ last → AllPass fits (looks_ask (up_to_looks c t s rs u)) → Scanned c false t last (Along (Within u) t s rs last) (first_found (up_to_looks c t s rs u))
  unfolding up_to_looks node_look state_look
  up_to_scanned u l m asked =
      let there = moved s rs (u -ℚ t) in
      let le = le_lt u last m in
      let W : Seen = Either (One u there) Empty in
      let bW = either_bounded u u last (One u there) Empty (≤ℚ_refl u) le (one_bounded u there) (empty_bounded u last) in
      let tail = state_look false c (moved_nodes s.fluents rs (u -ℚ t)) u there in
      let head = node_look (node Minus u t) in
      let looks = inner_looks false c t s rs (whole (pos 0)) t s (u -ℚ t) (tail ∷ []) in
      same_seen c false t last (Either (Open t s rs t u) W) (Along (Within u) t s rs last) (first_found looks)
      (λ x now h. elim h [
        | inl o ↦ ((o.0, <ℚ_trans x u last o.1 m, o.2), le_lt x u o.1)
        | inr h ↦ elim h [
          | inl o ↦ ((subst (λ (z : Fraction). t <ℚ z) (sym o.0) l, subst (λ (z : Fraction). z <ℚ last) (sym o.0) m, o.1 ∙ ap (λ (z : Fraction). moved s rs (z -ℚ t)) (sym o.0)), subst (λ (z : Fraction). z ≤ℚ u) (sym o.0) (≤ℚ_refl u))
          | inr n ↦ absurd n
        ]
      ])
      (λ x now h. elim (le_cases x u h.1) [
        | inl i ↦ inl (h.0.0, i, h.0.2)
        | inr e ↦ inr (inl (e, h.0.2 ∙ ap (λ (z : Fraction). moved s rs (z -ℚ t)) e))
      ])
      (portion fits false c t s rs (whole (pos 0)) (u -ℚ t) last W (tail ∷ []) t s u (plus_zero t) (sym (moved-zero s rs)) (plus_rest t u)
      (≤ℚ_refl _) (sub_above t u l) le bW
      (λ a. joined c false u u last (One u there) Empty (place_if false (holds c there) (At u)) None (one_state c false u there) le (empty_bounded u last) (λ e. empty c false u last le))
      (rest_asked fits head looks asked refl))

  -- from a moment inside on
  from_on_scanned : (u : Fraction) → t <ℚ u → u <ℚ last → AllPass fits (looks_ask (from_on_looks c t s rs u last)) → Scanned c true t last (Along (HoldAfter u) t s rs last) (first_found (from_on_looks c t s rs u last))
  unfolding from_on_looks state_look
  from_on_scanned u l m asked =
      let there = moved s rs (u -ℚ t) in
      let le = le_lt u last m in
      let Y : Seen = Either (Open t s rs u last) Empty in
      let bY = either_bounded u last last (Open t s rs u last) Empty le (≤ℚ_refl last) (open_bounded t s rs u last) (empty_bounded last last) in
      let X : Seen = Either (One u there) Y in
      let bX = either_bounded u u last (One u there) Y (≤ℚ_refl u) le (one_bounded u there) bY in
      let head = state_look true c (node Minus u t ∷ moved_nodes s.fluents rs (u -ℚ t)) u there in
      let looks = inner_looks true c t s rs (u -ℚ t) u there (last -ℚ t) [] in
      same_seen c true t last (Either Empty X) (Along (HoldAfter u) t s rs last) (first_found (head ∷ looks))
      (λ x now h. elim h [
        | inl n ↦ absurd n
        | inr h ↦ elim h [
          | inl o ↦ ((subst (λ (z : Fraction). t <ℚ z) (sym o.0) l, subst (λ (z : Fraction). z <ℚ last) (sym o.0) m, o.1 ∙ ap (λ (z : Fraction). moved s rs (z -ℚ t)) (sym o.0)), subst (λ (z : Fraction). u ≤ℚ z) (sym o.0) (≤ℚ_refl u))
          | inr h ↦ elim h [
            | inl o ↦ ((<ℚ_trans t u x l o.0, o.1, o.2), le_lt u x o.0)
            | inr n ↦ absurd n
          ]
        ]
      ])
      (λ x now h. elim (le_cases u x h.1) [
        | inl i ↦ inr (inr (inl (i, h.0.1, h.0.2)))
        | inr e ↦ inr (inl (sym e, h.0.2 ∙ ap (λ (z : Fraction). moved s rs (z -ℚ t)) (sym e)))
      ])
      (joined c true t u last Empty X None (first_found (head ∷ looks)) (empty c true t u (le_lt t u l)) le bX
      (λ e. joined c true u u last (One u there) Y head.finds (first_found looks) (one_state c true u there) le bY
      (λ n. portion fits true c t s rs (u -ℚ t) (last -ℚ t) last Empty [] u there last (plus_rest t u) refl (plus_rest t last)
      (le_lt _ _ (sub_above t u l)) (less_rest t u last m) (≤ℚ_refl last) (empty_bounded last last) (λ a. empty c true last last (≤ℚ_refl last))
      (rest_asked fits head looks asked n))))

-- ---- by what is regarded
pub stretch_scanned : (fits : Fraction → Type 0) (c : Condition) (t : Fraction) (s : State) (rs : List Fraction) (last : Fraction) → t <ℚ last → (w : When) → AllPass fits (looks_ask (stretch_looks w c t s rs last)) → Scanned c (is_lasting w) t last (Along w t s rs last) (first_found (stretch_looks w c t s rs last))
stretch_scanned fits c t s rs last lt Always asked = all_regarded fits c t s rs last lt Always true refl (λ x p q. tt) asked
stretch_scanned fits c t s rs last lt Sometime asked = all_regarded fits c t s rs last lt Sometime false refl (λ x p q. tt) asked
stretch_scanned fits c t s rs last lt (Within u) asked = go (is_below t u) (is_below u last) refl refl asked
  where
    go : (p q : Bool) → is_below t u ≡ p → is_below u last ≡ q → AllPass fits (looks_ask (if p then if q then up_to_looks c t s rs u else whole_looks false c t s rs last else []))
        → Scanned c false t last (Along (Within u) t s rs last) (first_found (if p then if q then up_to_looks c t s rs u else whole_looks false c t s rs last else []))
    go true true e f a = up_to_scanned fits c t s rs last lt u (from_below t u e) (from_below u last f) a
    go true false e f a = all_regarded fits c t s rs last lt (Within u) false refl (λ x p q. ≤ℚ_trans x last u (le_lt x last q) (not_below u last f)) a
    go false q e f a = none_regarded fits c t s rs last lt (Within u) false (λ x p q r. le_not_above x u r (≤ℚ-<ℚ_trans u t x (not_below t u e) p))
stretch_scanned fits c t s rs last lt (HoldAfter u) asked = go (is_below u last) (is_below t u) refl refl asked
  where
    go : (p q : Bool) → is_below u last ≡ p → is_below t u ≡ q → AllPass fits (looks_ask (if p then if q then from_on_looks c t s rs u last else whole_looks true c t s rs last else []))
        → Scanned c true t last (Along (HoldAfter u) t s rs last) (first_found (if p then if q then from_on_looks c t s rs u last else whole_looks true c t s rs last else []))
    go true true e f a = from_on_scanned fits c t s rs last lt u (from_below t u f) (from_below u last e) a
    go true false e f a = all_regarded fits c t s rs last lt (HoldAfter u) true refl (λ x p q. ≤ℚ_trans u t x (not_below t u f) (le_lt t x p)) a
    go false q e f a = none_regarded fits c t s rs last lt (HoldAfter u) true (λ x p q r. le_not_above u x r (<ℚ-≤ℚ_trans x last u q (not_below u last e)))
