-- The least root, by cases; what this asks.
use Rattle.std.proofs.Common.{◌≡◌, true, false, Bool, List, ◌++◌, refl, ap, sym, subst, if◌then◌else◌, inl, inr, ◌⊎◌}
use Rattle.std.specs.Prelude.{Option, Some, None}
use Rattle.std.specs.declared.cmp.Ordering.{Ordering}
use Rattle.std.specs.declared.cmp.Ordering.TheVariants.{Less, Equal, Greater}
use Rattle.plus_fraction.specs.Fraction.{Fraction, ◌<ℚ◌, compared}
use Rattle.plus_fraction.proofs.FractionOrder.{<ℚ_irrefl, <ℚ_trans, <ℚ_or}
use Rattle.plus_fraction.proofs.Compared.{compared-less}
use Rattle.plus_fraction.proofs.Compared.{less-compared}
use Rattle.plus_model.specs.Terms.{Below}
use Rattle.plus_model.specs.Value.{passes}
use Rattle.plus_model.specs.Piece.{Piece, Missing, Straight}
use Rattle.plus_crossing.specs.Asked.{Ask, Passes, AllPass, FirstFailing}
use Rattle.plus_crossing.specs.Pieces.{if_straight}
use Rattle.plus_crossing.specs.Roots.{IsRoot, root_asks}
use Rattle.plus_crossing.specs.Next.{root_on, cross_sides, RootSides, IsNext, is_below, lesser}
use Rattle.plus_state.proofs.Testing.{pass_none, pass_append, fail_left, fail_right}
use Rattle.plus_crossing.proofs.Meeting.{one_root}

below_is : (x y : Fraction) → is_below x y ≡ true → x <ℚ y
below_is x y e = go (compared x y) refl e
  where
    go : (o : Ordering) → compared x y ≡ o → passes Below o ≡ true → x <ℚ y
    go Less e f = compared-less x y e
    go Equal e f = cc
    go Greater e f = cc

is_below-lt : (x y : Fraction) → x <ℚ y → is_below x y ≡ true
is_below-lt x y h = ap (passes Below) (less-compared x y h)

-- ---- one comparison
pub cross_fail : (fits : Fraction → Type 0) (p q : Piece) (xs ys : List Ask) (t : Ask) → FirstFailing fits xs t → FirstFailing fits (cross_sides p xs q ys) t
unfolding cross_sides
cross_fail fits p q xs ys t h = fail_left (Passes fits) xs _ t h

pub cross_missing : (fits : Fraction → Type 0) (p q : Piece) (xs ys : List Ask) → AllPass fits xs → Missing ≡ p → AllPass fits (cross_sides p xs q ys)
unfolding cross_sides
cross_missing fits p q xs ys h e = pass_append (Passes fits) xs _ h (subst (λ p. AllPass fits (if_straight p (ys ++ root_on p q))) e (pass_none (Passes fits)))

pub cross_right_fail : (fits : Fraction → Type 0) (p q : Piece) (xs ys : List Ask) (v m : Fraction) (t : Ask) → AllPass fits xs → Straight v m ≡ p → FirstFailing fits ys t → FirstFailing fits (cross_sides p xs q ys) t
unfolding cross_sides
cross_right_fail fits p q xs ys v m t h e k = fail_right (Passes fits) xs _ t h (subst (λ p. FirstFailing fits (if_straight p (ys ++ root_on p q)) t) e (fail_left (Passes fits) ys _ t k))

pub cross_right_missing : (fits : Fraction → Type 0) (p q : Piece) (xs ys : List Ask) (v m : Fraction) → AllPass fits xs → Straight v m ≡ p → AllPass fits ys → Missing ≡ q → AllPass fits (cross_sides p xs q ys)
unfolding cross_sides
cross_right_missing fits p q xs ys v m h e k f = pass_append (Passes fits) xs _ h
    (subst (λ p. AllPass fits (if_straight p (ys ++ root_on p q))) e (pass_append (Passes fits) ys _ k (subst (λ q. AllPass fits (root_on (Straight v m) q)) f (pass_none (Passes fits)))))

pub cross_pass : (fits : Fraction → Type 0) (p q : Piece) (xs ys : List Ask) (v m w n : Fraction) → AllPass fits (root_asks v m w n) → AllPass fits xs → Straight v m ≡ p → AllPass fits ys → Straight w n ≡ q → AllPass fits (cross_sides p xs q ys)
unfolding cross_sides
cross_pass fits p q xs ys v m w n g h e k f = pass_append (Passes fits) xs _ h
    (subst (λ p. AllPass fits (if_straight p (ys ++ root_on p q))) e (pass_append (Passes fits) ys _ k (subst (λ q. AllPass fits (root_on (Straight v m) q)) f g)))

pub cross_root_fail : (fits : Fraction → Type 0) (p q : Piece) (xs ys : List Ask) (v m w n : Fraction) (t : Ask) → FirstFailing fits (root_asks v m w n) t → AllPass fits xs → Straight v m ≡ p → AllPass fits ys → Straight w n ≡ q → FirstFailing fits (cross_sides p xs q ys) t
unfolding cross_sides
cross_root_fail fits p q xs ys v m w n t g h e k f = fail_right (Passes fits) xs _ t h
    (subst (λ p. FirstFailing fits (if_straight p (ys ++ root_on p q)) t) e (fail_right (Passes fits) ys _ t k (subst (λ q. FirstFailing fits (root_on (Straight v m) q) t) f g)))

pub none_left : (p q : Piece) (a u : Fraction) → Missing ≡ p → IsNext (RootSides p q) a u None
unfolding IsNext RootSides
none_left p q a u e = subst (λ p. IsNext (RootSides p q) a u None) e (λ x h k z. z)

pub none_right : (p q : Piece) (a u v m : Fraction) → Straight v m ≡ p → Missing ≡ q → IsNext (RootSides p q) a u None
unfolding IsNext RootSides
none_right p q a u v m e f = subst (λ p. IsNext (RootSides p q) a u None) e (subst (λ q. IsNext (RootSides (Straight v m) q) a u None) f (λ x h k z. z))

lines : (p q : Piece) (a u v m w n : Fraction) (o : Option Fraction) → Straight v m ≡ p → Straight w n ≡ q → IsNext (RootSides (Straight v m) (Straight w n)) a u o → IsNext (RootSides p q) a u o
lines p q a u v m w n o e f h = subst (λ p. IsNext (RootSides p q) a u o) e (subst (λ q. IsNext (RootSides (Straight v m) q) a u o) f h)

pub none_lines : (p q : Piece) (a u v m w n : Fraction) → ((x : Fraction) → IsRoot v m w n x → ⊥) → Straight v m ≡ p → Straight w n ≡ q → IsNext (RootSides p q) a u None
unfolding IsNext RootSides
none_lines p q a u v m w n h e f = lines p q a u v m w n None e f (λ x i j k. h x k)

pub root_in : (p q : Piece) (a u v m w n r : Fraction) → IsRoot v m w n r → true ≡ is_below a r → true ≡ is_below r u → Straight v m ≡ p → Straight w n ≡ q → IsNext (RootSides p q) a u (Some r)
unfolding IsNext RootSides
root_in p q a u v m w n r h i j e f = lines p q a u v m w n (Some r) e f
    (record { after = below_is a r (sym i); before = below_is r u (sym j); root = h; none = λ x k l z. <ℚ_irrefl r (subst (λ y. y <ℚ r) (one_root v m w n x r z h) l) })

pub root_early : (p q : Piece) (a u v m w n r : Fraction) → IsRoot v m w n r → false ≡ is_below a r → Straight v m ≡ p → Straight w n ≡ q → IsNext (RootSides p q) a u None
unfolding IsNext RootSides
root_early p q a u v m w n r h i e f = lines p q a u v m w n None e f
    (λ x k l z. let b : is_below a r ≡ true = is_below-lt a r (subst (λ y. a <ℚ y) (one_root v m w n x r z h) k) in cc)

pub root_late : (p q : Piece) (a u v m w n r : Fraction) → IsRoot v m w n r → false ≡ is_below r u → Straight v m ≡ p → Straight w n ≡ q → IsNext (RootSides p q) a u None
unfolding IsNext RootSides
root_late p q a u v m w n r h i e f = lines p q a u v m w n None e f
    (λ x k l z. let b : is_below r u ≡ true = is_below-lt r u (subst (λ y. y <ℚ u) (one_root v m w n x r z h) l) in cc)

pub ruleset sides = (cross_fail, cross_missing, cross_right_fail, cross_right_missing, cross_pass, cross_root_fail, none_left, none_right, none_lines, root_in, root_early, root_late)

-- ---- a condition
not_below : (q r x : Fraction) → is_below q r ≡ false → x <ℚ r → x <ℚ q
not_below q r x e h = elim (<ℚ_or q r) [
  | inl k ↦ (let b : is_below q r ≡ true = is_below-lt q r k in cc)
  | inr o ↦ elim o [
    | inl d ↦ subst (λ y. x <ℚ y) (sym d) h
    | inr k ↦ <ℚ_trans _ _ _ h k
  ]
]

-- the least root of the whole that is found so far: what is left before it lies in the rest
pub record Before (W R : Fraction → Type 0) (a u r : Fraction) : Type 0 where
  pub after : a <ℚ r
  pub before : r <ℚ u
  pub root : W r
  pub left : (x : Fraction) → a <ℚ x → x <ℚ r → W x → R x

unfoldable pub SoFar : (Fraction → Type 0) → (Fraction → Type 0) → Fraction → Fraction → Option Fraction → Type 0
SoFar W R a u None = (x : Fraction) → a <ℚ x → x <ℚ u → W x → R x
SoFar W R a u (Some r) = Before W R a u r

pub so_far_start : (W : Fraction → Type 0) (a u : Fraction) → SoFar W W a u None
unfolding SoFar
so_far_start W a u = λ x i j w. w

module _ (W R P S : Fraction → Type 0) (a u : Fraction) (inside : (x : Fraction) → R x → W x) (to : (x : Fraction) → R x → P x ⊎ S x) (from : (x : Fraction) → P x → R x) where
  rest : (r x : Fraction) → ((y : Fraction) → a <ℚ y → y <ℚ r → P y → ⊥) → a <ℚ x → x <ℚ r → R x → S x
  rest r x none i j w = elim (to x w) [ inl p ↦ absurd (none x i j p) | inr s ↦ s ]

  pub so_far_next : (found least : Option Fraction) → SoFar W R a u found → IsNext P a u least → SoFar W S a u (lesser found least)
  unfolding SoFar IsNext
  so_far_next None None h k = λ x i j w. rest u x k i j (h x i j w)
  so_far_next None (Some q) h k = record {
    after = k.after;
    before = k.before;
    root = inside q (from q k.root);
    left = λ x i j w. rest q x k.none i j (h x i (<ℚ_trans _ _ _ j k.before) w);
  }
  so_far_next (Some r) None h k = record {
    after = h.after;
    before = h.before;
    root = h.root;
    left = λ x i j w. rest u x k i (<ℚ_trans _ _ _ j h.before) (h.left x i j w);
  }
  so_far_next (Some r) (Some q) h k = go (is_below q r) refl
    where
      go : (b : Bool) → is_below q r ≡ b → SoFar W S a u (if b then Some q else Some r)
      go true e = record {
        after = k.after;
        before = k.before;
        root = inside q (from q k.root);
        left = λ x i j w. rest q x k.none i j (h.left x i (<ℚ_trans _ _ _ j (below_is q r e)) w);
      }
      go false e = record {
        after = h.after;
        before = h.before;
        root = h.root;
        left = λ x i j w. rest q x k.none i (not_below q r x e j) (h.left x i j w);
      }

pub so_far_end : (W R : Fraction → Type 0) (a u : Fraction) (found : Option Fraction) → ((x : Fraction) → R x → ⊥) → SoFar W R a u found → IsNext W a u found
unfolding SoFar IsNext
so_far_end W R a u None e h = λ x i j w. e x (h x i j w)
so_far_end W R a u (Some r) e h = record { after = h.after; before = h.before; root = h.root; none = λ x i j w. e x (h.left x i j w) }

pub next_none : (P : Fraction → Type 0) (a u : Fraction) → ((x : Fraction) → P x → ⊥) → IsNext P a u None
unfolding IsNext
next_none P a u e = λ x i j p. e x p
