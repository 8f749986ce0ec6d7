-- From root to root along a stretch: what is found there is what stands over all moments of the stretch.
use Rattle.std.proofs.Common.{◌≡◌, Bool, List, [], ◌∷◌, refl, ap, sym, subst, ◌∙◌, inl, inr, pos, arith}
use Rattle.std.specs.Prelude.{Option, None}
use Rattle.plus_fraction.specs.Fraction.{Fraction, whole, ◌+ℚ◌, ◌-ℚ◌, ◌<ℚ◌, ◌≤ℚ◌}
use Rattle.plus_fraction.proofs.IntRing.{linear}
use Rattle.plus_fraction.proofs.FractionLinear.{common3, commons, nums, lt_num, num_lt}
use Rattle.plus_fraction.proofs.FractionOrder.{<ℚ_trans, <ℚ_or}
use Rattle.plus_fraction.proofs.FractionAtMost.{≤ℚ_refl, ≤ℚ_trans, le_lt}
use Rattle.plus_model.specs.Terms.{Condition, State}
use Rattle.plus_model.specs.Value.{holds}
use Rattle.plus_model.specs.Running.{moved}
use Rattle.plus_model.specs.Piece.{after}
use Rattle.plus_model.specs.Live.{live}
use Rattle.plus_model.proofs.Alive.{live_holds}
use Rattle.plus_model.proofs.Truth.{after_is}
use Rattle.plus_model.proofs.Motion.{moved-moved, between_both}
use Rattle.plus_model.proofs.Moments.{sub_above, -ℚ-lt}
use Rattle.plus_model.proofs.Search.{past, short}
use Rattle.plus_state.proofs.Testing.{pass_left, pass_right}
use Rattle.plus_crossing.specs.Asked.{Passes, AllPass}
use Rattle.plus_crossing.specs.Conds.{live_asks, TruthAfter}
use Rattle.plus_crossing.specs.Next.{cross_asks, LiveRoot}
use Rattle.plus_crossing.proofs.Straight.{straight_live}
use Rattle.plus_crossing.proofs.Steady.{one_truth_until_next}
use Rattle.plus_constraints.specs.Place.{Place, At, After, place_if, or_else}
use Rattle.plus_constraints.proofs.Scanned.{Seen, Bounded, Scanned, Either, One, Open, joined, same_seen, one_state, one_truth}
use Rattle.plus_stretch.specs.Crossings.{Among, RisesAbove}
use Rattle.plus_stretch.proofs.Between.{none_next}
use Rattle.plus_stretch.proofs.Left.{above_all}
use Rattle.plus_stretch.proofs.SearchLemmas.{later_by as back_again}
use Rattle.plus_watch.specs.Looks.{Look, first_found, if_sought, looks_ask, state_look, after_look, root_look, walk_looks}

-- ---- what is asked by several looks
pub rest_asked : (fits : Fraction → Type 0) (l : Look) (ls : List Look) → AllPass fits (looks_ask (l ∷ ls)) → l.finds ≡ None → AllPass fits (looks_ask ls)
rest_asked fits l ls h e = subst (λ (o : Option Place). AllPass fits (if_sought o (looks_ask ls))) e (pass_right (Passes fits) l.asked _ h)

pub look_asked : (fits : Fraction → Type 0) (l : Look) (ls : List Look) → AllPass fits (looks_ask (l ∷ ls)) → AllPass fits l.asked
look_asked fits l ls h = pass_left (Passes fits) l.asked _ h

-- ---- just after
pub truth_soon : (fits : Fraction → Type 0) (c : Condition) (s : State) (rs : List Fraction) → AllPass fits (live_asks 0 c s rs) → TruthAfter s rs c (after (live c s) s rs)
unfolding moved
truth_soon fits c s rs h =
    let t = after_is (live c s) s rs (straight_live fits 0 c s rs h) in
    record { until = t.until; above = t.above; inside = λ x p q. sym (live_holds c s (moved s rs x) refl) ∙ t.holds x p q }

-- ---- times, counted from the beginning of the plan and from that of the stretch
after_in : (t low x : Fraction) → t +ℚ low <ℚ x → low <ℚ x -ℚ t
after_in t low x h = subst (λ (z : Fraction). z <ℚ x -ℚ t) (back_again t low) (-ℚ-lt (t +ℚ low) x t h)

before_in : (t high x : Fraction) → x <ℚ t +ℚ high → x -ℚ t <ℚ high
before_in t high x h = subst (λ (z : Fraction). x -ℚ t <ℚ z) (back_again t high) (-ℚ-lt x (t +ℚ high) t h)

pub later_by : (t low high : Fraction) → low <ℚ high → t +ℚ low <ℚ t +ℚ high
later_by t low high h = common3 (t +ℚ low <ℚ t +ℚ high) t low high (λ D d T L H.
    let h' = lt_num D _ _ L H h in
    num_lt D _ _ (search commons) (search commons) (simp nums (omega (arith, linear))))

-- ---- between two roots
steady : (fits : Fraction → Type 0) (c : Condition) (t : Fraction) (s : State) (rs : List Fraction) (low high : Fraction) (z : Bool)
    → whole (pos 0) ≤ℚ low → low <ℚ high → AllPass fits (cross_asks 0 c s rs) → ((x : Fraction) → low <ℚ x → x <ℚ high → LiveRoot c s rs x → ⊥) → TruthAfter (moved s rs low) rs c z
    → (x : Fraction) → t +ℚ low <ℚ x → x <ℚ t +ℚ high → holds c (moved s rs (x -ℚ t)) ≡ z
steady fits c t s rs low high z up lt pass none soon x p q =
    let b = between_both soon.until (high -ℚ low) soon.above (sub_above low high lt) in
    one_truth_until_next fits c s rs low high None up pass (none_next (LiveRoot c s rs) low high none) (x -ℚ t) (low +ℚ b.place)
    (after_in t low x p) (before_in t high x q) (past low low b.place (≤ℚ_refl low) b.above) (short low high b.place b.second)
    ∙ sym (ap (holds c) (moved-moved s rs low b.place)) ∙ soon.inside b.place b.above b.first

-- ---- a time inside cuts an open interval in two
module _ (t : Fraction) (s : State) (rs : List Fraction) (first mid last : Fraction) (W : Seen) (f : first <ℚ mid) (l : mid <ℚ last) where
  abbrev Cut : Seen
  Cut = Either (Open t s rs first mid) (Either (One mid (moved s rs (mid -ℚ t))) (Either (Open t s rs mid last) W))

  cut_back : (x : Fraction) (now : State) → Cut x now → Either (Open t s rs first last) W x now
  cut_back x now h = elim h [
    | inl o ↦ inl (o.0, <ℚ_trans x mid last o.1 l, o.2)
    | inr h ↦ elim h [
      | inl o ↦ inl (subst (λ (z : Fraction). first <ℚ z) (sym o.0) f, subst (λ (z : Fraction). z <ℚ last) (sym o.0) l, o.1 ∙ ap (λ (z : Fraction). moved s rs (z -ℚ t)) (sym o.0))
      | inr h ↦ elim h [
        | inl o ↦ inl (<ℚ_trans first mid x f o.0, o.1, o.2)
        | inr w ↦ inr w
      ]
    ]
  ]

  cut : (x : Fraction) (now : State) → Either (Open t s rs first last) W x now → Cut x now
  cut x now h = elim h [
    | inl o ↦ elim (<ℚ_or x mid) [
      | inl i ↦ inl (o.0, i, o.2)
      | inr m ↦ elim m [
        | inl e ↦ inr (inl (e, o.2 ∙ ap (λ (z : Fraction). moved s rs (z -ℚ t)) e))
        | inr i ↦ inr (inr (inl (i, o.1, o.2)))
      ]
    ]
    | inr w ↦ inr (inr (inr w))
  ]

-- ---- bounds
pub open_bounded : (t : Fraction) (s : State) (rs : List Fraction) (first last : Fraction) → Bounded first last (Open t s rs first last)
open_bounded t s rs first last x now h = (le_lt first x h.0, le_lt x last h.1)

pub either_bounded : (first mid last : Fraction) (V W : Seen) → first ≤ℚ mid → mid ≤ℚ last → Bounded first mid V → Bounded mid last W → Bounded first last (Either V W)
either_bounded first mid last V W f l a b x now h = elim h [
  | inl v ↦ ((a x now v).0, ≤ℚ_trans x mid last (a x now v).1 l)
  | inr w ↦ (≤ℚ_trans first mid x f (b x now w).0, (b x now w).1)
]

pub one_bounded : (u : Fraction) (now : State) → Bounded u u (One u now)
one_bounded u now x y h = (subst (λ (z : Fraction). u ≤ℚ z) (sym h.0) (≤ℚ_refl u), subst (λ (z : Fraction). z ≤ℚ u) (sym h.0) (≤ℚ_refl u))

-- ---- the roots that are left of a walk that has come to `low`
pub record AreLeft (c : Condition) (s : State) (rs : List Fraction) (low high : Fraction) (left : List Fraction) : Type 0 where
  pub rise : RisesAbove low left
  pub inside : (x : Fraction) → Among x left → x <ℚ high
  pub all : (x : Fraction) → LiveRoot c s rs x → low <ℚ x → x <ℚ high → Among x left

left_next : (c : Condition) (s : State) (rs : List Fraction) (low high r : Fraction) (left : List Fraction) → AreLeft c s rs low high (r ∷ left) → AreLeft c s rs r high left
left_next c s rs low high r left a = record {
  rise = a.rise.1;
  inside = λ x i. a.inside x (inr i);
  all = λ x h l m. elim (a.all x h (<ℚ_trans low r x a.rise.0 l) m) [
    | inl e ↦ absurd (same_not r x l e)
    | inr i ↦ i
  ];
}
  where
    same_not : (r x : Fraction) → r <ℚ x → x ≡ r → ⊥
    same_not r x l e = let k : r <ℚ r = subst (λ (z : Fraction). r <ℚ z) e l in let m = k.cross in omega (arith, linear)

before_first : (c : Condition) (s : State) (rs : List Fraction) (low high r : Fraction) (left : List Fraction) → AreLeft c s rs low high (r ∷ left) → (x : Fraction) → low <ℚ x → x <ℚ r → LiveRoot c s rs x → ⊥
before_first c s rs low high r left a x l m h = elim (a.all x h l (<ℚ_trans x r high m (a.inside r (inl refl)))) [
  | inl e ↦ not_self x r m e
  | inr i ↦ not_both x r m (above_all r x left a.rise.1 i)
]
  where
    not_self : (x r : Fraction) → x <ℚ r → x ≡ r → ⊥
    not_self x r l e = let k : x <ℚ x = subst (λ (z : Fraction). x <ℚ z) (sym e) l in let m = k.cross in omega (arith, linear)

    not_both : (x r : Fraction) → x <ℚ r → r <ℚ x → ⊥
    not_both x r l m = let a = l.cross in let b = m.cross in omega (arith, linear)

-- ---- the walk
-- a truth of the moved state, where the time is told from the beginning of the plan
at_root : (lasting : Bool) (c : Condition) (t : Fraction) (s : State) (rs : List Fraction) (r : Fraction) → Scanned c lasting (t +ℚ r) (t +ℚ r) (One (t +ℚ r) (moved s rs ((t +ℚ r) -ℚ t))) (place_if lasting (holds c (moved s rs r)) (At (t +ℚ r)))
at_root lasting c t s rs r =
    subst (λ (x : Fraction). Scanned c lasting (t +ℚ r) (t +ℚ r) (One (t +ℚ r) (moved s rs ((t +ℚ r) -ℚ t))) (place_if lasting (holds c (moved s rs x)) (At (t +ℚ r))))
    (back_again t r) (one_state c lasting (t +ℚ r) (moved s rs ((t +ℚ r) -ℚ t)))

module _ (fits : Fraction → Type 0) (lasting : Bool) (c : Condition) (t : Fraction) (s : State) (rs : List Fraction) (high last : Fraction) (W : Seen) (rest : List Look)
    (pass : AllPass fits (cross_asks 0 c s rs)) (le : t +ℚ high ≤ℚ last) (bW : Bounded (t +ℚ high) last W) (end : AllPass fits (looks_ask rest) → Scanned c lasting (t +ℚ high) last W (first_found rest)) where
  ahead_bounded : (low : Fraction) → low <ℚ high → Bounded (t +ℚ low) last (Either (Open t s rs (t +ℚ low) (t +ℚ high)) W)
  ahead_bounded low lt = either_bounded (t +ℚ low) (t +ℚ high) last _ W (le_lt _ _ (later_by t low high lt)) le (open_bounded t s rs (t +ℚ low) (t +ℚ high)) bW

  pub walk : (low : Fraction) (z : Bool) (left : List Fraction) → whole (pos 0) ≤ℚ low → low <ℚ high → AreLeft c s rs low high left → TruthAfter (moved s rs low) rs c z
      → (place_if lasting z (After (t +ℚ low)) ≡ None → AllPass fits (looks_ask (walk_looks lasting c t s rs left rest)))
      → Scanned c lasting (t +ℚ low) last (Either (Open t s rs (t +ℚ low) (t +ℚ high)) W) (or_else (place_if lasting z (After (t +ℚ low))) (first_found (walk_looks lasting c t s rs left rest)))
  unfolding root_look state_look after_look
  walk low z [] up lt are soon asked =
      joined c lasting (t +ℚ low) (t +ℚ high) last (Open t s rs (t +ℚ low) (t +ℚ high)) W (place_if lasting z (After (t +ℚ low))) (first_found rest)
      (one_truth c lasting t s rs (t +ℚ low) (t +ℚ high) z (later_by t low high lt) (steady fits c t s rs low high z up lt pass (λ x l m h. absurd (are.all x h l m)) soon))
      le bW (λ e. end (asked e))
  walk low z (r ∷ left) up lt are soon asked =
      let inner = are.inside r (inl refl) in
      let first = later_by t low r are.rise.0 in
      let second = later_by t r high inner in
      let within = ≤ℚ_trans _ (t +ℚ high) last (le_lt _ _ second) le in
      let here = root_look lasting c t s rs r in
      let soon_there = after_look lasting c (t +ℚ r) (moved s rs r) rs in
      let more = walk_looks lasting c t s rs left rest in
      let at_r : Seen = One (t +ℚ r) (moved s rs ((t +ℚ r) -ℚ t)) in
      let beyond : Seen = Either (Open t s rs (t +ℚ r) (t +ℚ high)) W in
      let ahead = ahead_bounded r inner in
      let at_place = place_if lasting z (After (t +ℚ low)) in
      let from_here = or_else here.finds (or_else soon_there.finds (first_found more)) in
      same_seen c lasting (t +ℚ low) last (Cut t s rs (t +ℚ low) (t +ℚ r) (t +ℚ high) W first second) (Either (Open t s rs (t +ℚ low) (t +ℚ high)) W) (or_else at_place from_here)
      (cut_back t s rs (t +ℚ low) (t +ℚ r) (t +ℚ high) W first second) (cut t s rs (t +ℚ low) (t +ℚ r) (t +ℚ high) W first second)
      (joined c lasting (t +ℚ low) (t +ℚ r) last (Open t s rs (t +ℚ low) (t +ℚ r)) (Either at_r beyond) at_place from_here
      (one_truth c lasting t s rs (t +ℚ low) (t +ℚ r) z first (steady fits c t s rs low r z up are.rise.0 pass (before_first c s rs low high r left are) soon))
      within (either_bounded (t +ℚ r) (t +ℚ r) last at_r beyond (≤ℚ_refl _) within (one_bounded _ _) ahead)
      (λ e. joined c lasting (t +ℚ r) (t +ℚ r) last at_r beyond here.finds (or_else soon_there.finds (first_found more))
      (at_root lasting c t s rs r) within ahead
      (λ n. let a = rest_asked fits here (soon_there ∷ more) (asked e) n in
      walk r (after (live c (moved s rs r)) (moved s rs r) rs) left (≤ℚ_trans _ low r up (le_lt low r are.rise.0)) inner (left_next c s rs low high r left are)
      (truth_soon fits c (moved s rs r) rs (look_asked fits soon_there more a))
      (λ m. rest_asked fits soon_there more a m))))
