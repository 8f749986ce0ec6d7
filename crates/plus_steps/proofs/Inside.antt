-- A state with more atoms and fluents behind the old ones: terms whose ids are inside the old ones mean the same, and
-- effects write nothing outside.
use Rattle.std.proofs.Common.{◌≡◌, ℕ, zero, suc, ◌<◌, ◌≤◌, ◌+◌, Bool, true, false, ◌&&◌, ◌||◌, List, [], ◌∷◌, ◌++◌, length, refl, ap, ap₂, sym, subst, ◌∙◌, arith}
use Rattle.std.specs.Prelude.{Option, Some, None, Result, Ok, Err, nat_eq, slice_get, unwrap_or, if◌then◌else◌}
use Rattle.std.proofs.lemmas.Bool.{ne_eqb}
use Rattle.plus_fraction.specs.Fraction.{Fraction, ◌+ℚ◌, ◌-ℚ◌, ◌*ℚ◌, ◌/ℚ◌, neg_ℚ}
use Rattle.plus_model.specs.Terms.{Expression, Number, Fluent, Sum, Difference, Product, Quotient, Condition, Always, Never, Both, Either, Atom, Compare, Write, Add, Delete, Assign, Increase, Decrease, ScaleUp, ScaleDown, Effect, State}
use Rattle.plus_model.specs.Value.{holds, value, fluent_of, atom_of, is_zero, on_both, quotient, stand, signed}
use Rattle.plus_model.specs.Joint.{Fault, NoValue, Change, Gains, Loses, Becomes, Moves, given, change_of, Written, Stays, Becoming, Moving}
use Rattle.plus_state.specs.Fits.{IsIn, Fits, WriteFits, AllEffectsFit, StateFits}
use Rattle.plus_steps.proofs.Tally.{change_gains, change_loses, change_written, change_fine, when, both_written, gained, lost, wrote, fine}

pub get_left : {A : Type 0} (xs ys : List A) (i : ℕ) → i < length xs → slice_get (xs ++ ys) i ≡ slice_get xs i
get_left [] ys i h = absurd (omega arith)
get_left (x ∷ xs) ys zero h = refl
get_left (x ∷ xs) ys (suc i) h = get_left xs ys i (omega arith)

pub get_right : {A : Type 0} (xs ys : List A) (i : ℕ) → slice_get (xs ++ ys) (length xs + i) ≡ slice_get ys i
get_right [] ys i = let e : 0 + i ≡ i = omega arith in ap (λ (k : ℕ). slice_get ys k) e
get_right (x ∷ xs) ys i = let e : suc (length xs) + i ≡ suc (length xs + i) = omega arith in ap (λ (k : ℕ). slice_get (x ∷ (xs ++ ys)) k) e ∙ get_right xs ys i

pub other : (a b n : ℕ) → b < n → n ≤ a → nat_eq a b ≡ false
other a b n h k = ne_eqb a b (λ e. omega arith)

abbrev pub longer : State → List Bool → List (Option Fraction) → State
longer s bs vs = record { atoms = s.atoms ++ bs; fluents = s.fluents ++ vs }

module _ (n m : ℕ) (s : State) (bs : List Bool) (vs : List (Option Fraction)) (z : StateFits n m s) where
  pub fluent_same : (f : ℕ) → f < m → fluent_of (longer s bs vs) f ≡ fluent_of s f
  fluent_same f h = ap (λ o. unwrap_or o None) (get_left s.fluents vs f (subst (λ (k : ℕ). f < k) (sym z.fluents_fit) h))

  pub atom_same : (a : ℕ) → a < n → atom_of (longer s bs vs) a ≡ atom_of s a
  atom_same a h = ap (λ o. unwrap_or o false) (get_left s.atoms bs a (subst (λ (k : ℕ). a < k) (sym z.atoms_fit) h))

  pub value_same : (e : Expression) → IsIn m e → value e (longer s bs vs) ≡ value e s
  value_same (Number x) h = refl
  value_same (Fluent f) h = fluent_same f h
  value_same (Sum a b) h = ap₂ (on_both (λ x y. Some (x +ℚ y))) (value_same a h.0) (value_same b h.1)
  value_same (Difference a b) h = ap₂ (on_both (λ x y. Some (x -ℚ y))) (value_same a h.0) (value_same b h.1)
  value_same (Product a b) h = ap₂ (on_both (λ x y. Some (x *ℚ y))) (value_same a h.0) (value_same b h.1)
  value_same (Quotient a b) h = ap₂ (on_both quotient) (value_same a h.0) (value_same b h.1)

  pub holds_same : (c : Condition) → Fits n m c → holds c (longer s bs vs) ≡ holds c s
  holds_same Always h = refl
  holds_same Never h = refl
  holds_same (Both c d) h = ap₂ (λ x y. x && y) (holds_same c h.0) (holds_same d h.1)
  holds_same (Either c d) h = ap₂ (λ x y. x || y) (holds_same c h.0) (holds_same d h.1)
  holds_same (Atom a positive) h = ap (signed positive) (atom_same a h)
  holds_same (Compare test left right positive) h = ap (signed positive) (ap₂ (stand test) (value_same left h.0) (value_same right h.1))

  pub change_same : (w : Write) → WriteFits n m w → change_of w (longer s bs vs) ≡ change_of w s
  change_same (Add a) h = refl
  change_same (Delete a) h = refl
  change_same (Assign f e) h = ap (λ o. given f o (λ x. Ok (Becomes f x))) (value_same e h.1)
  change_same (Increase f e) h = ap₂ (λ o p. given f o (λ x. given f p (λ v. Ok (Moves f x)))) (value_same e h.1) (fluent_same f h.0)
  change_same (Decrease f e) h = ap₂ (λ o p. given f o (λ x. given f p (λ v. Ok (Moves f (neg_ℚ x))))) (value_same e h.1) (fluent_same f h.0)
  change_same (ScaleUp f e) h = ap₂ (λ o p. given f o (λ x. given f p (λ v. Ok (Becomes f (v *ℚ x))))) (value_same e h.1) (fluent_same f h.0)
  change_same (ScaleDown f e) h = ap₂ (λ o p. given f o (λ x. given f p (λ v. if is_zero x then Err (NoValue f) else Ok (Becomes f (v /ℚ x))))) (value_same e h.1) (fluent_same f h.0)

  pub gained_same : (a : ℕ) (es : List Effect) → AllEffectsFit n m es → gained a es (longer s bs vs) ≡ gained a es s
  unfolding gained
  gained_same a [] h = refl
  gained_same a (e ∷ es) h = ap₂ (λ x y. x || y) (ap₂ (λ b r. when b (change_gains a r) false) (holds_same e.guard h.0.0) (change_same e.write h.0.1)) (gained_same a es h.1)

  pub lost_same : (a : ℕ) (es : List Effect) → AllEffectsFit n m es → lost a es (longer s bs vs) ≡ lost a es s
  unfolding lost
  lost_same a [] h = refl
  lost_same a (e ∷ es) h = ap₂ (λ x y. x || y) (ap₂ (λ b r. when b (change_loses a r) false) (holds_same e.guard h.0.0) (change_same e.write h.0.1)) (lost_same a es h.1)

  pub wrote_same : (f : ℕ) (es : List Effect) → AllEffectsFit n m es → wrote f es (longer s bs vs) ≡ wrote f es s
  unfolding wrote
  wrote_same f [] h = refl
  wrote_same f (e ∷ es) h = ap₂ both_written (ap₂ (λ b r. when b (change_written f r) Stays) (holds_same e.guard h.0.0) (change_same e.write h.0.1)) (wrote_same f es h.1)

  pub fine_same : (es : List Effect) → AllEffectsFit n m es → fine es (longer s bs vs) ≡ fine es s
  unfolding fine
  fine_same [] h = refl
  fine_same (e ∷ es) h = ap₂ (λ x y. x && y) (ap₂ (λ b r. when b (change_fine r) true) (holds_same e.guard h.0.0) (change_same e.write h.0.1)) (fine_same es h.1)

-- ---- nothing is written outside
by_given : (A : Type 0) (g : Result Change Fault → A) (d : A) → ((e : Fault) → g (Err e) ≡ d) → (f : ℕ) (o : Option Fraction) (r : Fraction → Result Change Fault) → ((x : Fraction) → g (r x) ≡ d) → g (given f o r) ≡ d
by_given A g d none f None r h = none (NoValue f)
by_given A g d none f (Some x) r h = h x

by_zero : (A : Type 0) (g : Result Change Fault → A) (d : A) → ((e : Fault) → g (Err e) ≡ d) → (b : Bool) (f : ℕ) (r : Result Change Fault) → g r ≡ d → g (if b then Err (NoValue f) else r) ≡ d
by_zero A g d none true f r h = none (NoValue f)
by_zero A g d none false f r h = h

when_same : {A : Type 0} (b : Bool) (x d : A) → x ≡ d → when b x d ≡ d
when_same true x d h = h
when_same false x d h = refl

-- a write is seen as nothing where its changes are
module _ (A : Type 0) (g : Result Change Fault → A) (d : A) (none : (e : Fault) → g (Err e) ≡ d) (s : State) where
  unseen_at : (f : ℕ) → ((x : Fraction) → g (Ok (Becomes f x)) ≡ d) → ((x : Fraction) → g (Ok (Moves f x)) ≡ d) → (e : Expression)
      → (g (change_of (Assign f e) s) ≡ d) × (g (change_of (Increase f e) s) ≡ d) × (g (change_of (Decrease f e) s) ≡ d) × (g (change_of (ScaleUp f e) s) ≡ d) × (g (change_of (ScaleDown f e) s) ≡ d)
  unseen_at f r t e = (
    by_given A g d none f (value e s) _ (λ x. r x),
    by_given A g d none f (value e s) _ (λ x. by_given A g d none f (fluent_of s f) _ (λ v. t x)),
    by_given A g d none f (value e s) _ (λ x. by_given A g d none f (fluent_of s f) _ (λ v. t (neg_ℚ x))),
    by_given A g d none f (value e s) _ (λ x. by_given A g d none f (fluent_of s f) _ (λ v. r (v *ℚ x))),
    by_given A g d none f (value e s) _ (λ x. by_given A g d none f (fluent_of s f) _ (λ v. by_zero A g d none (is_zero x) f _ (r (v /ℚ x)))),
  )

  pub unseen : (n m : ℕ) → ((a : ℕ) → a < n → g (Ok (Gains a)) ≡ d) → ((a : ℕ) → a < n → g (Ok (Loses a)) ≡ d)
      → ((f : ℕ) → f < m → (x : Fraction) → g (Ok (Becomes f x)) ≡ d) → ((f : ℕ) → f < m → (x : Fraction) → g (Ok (Moves f x)) ≡ d)
      → (w : Write) → WriteFits n m w → g (change_of w s) ≡ d
  unseen n m p q r t (Add a) h = p a h
  unseen n m p q r t (Delete a) h = q a h
  unseen n m p q r t (Assign f e) h = (unseen_at f (r f h.0) (t f h.0) e).0
  unseen n m p q r t (Increase f e) h = (unseen_at f (r f h.0) (t f h.0) e).1
  unseen n m p q r t (Decrease f e) h = (unseen_at f (r f h.0) (t f h.0) e).2
  unseen n m p q r t (ScaleUp f e) h = (unseen_at f (r f h.0) (t f h.0) e).3
  unseen n m p q r t (ScaleDown f e) h = (unseen_at f (r f h.0) (t f h.0) e).4

module _ (n m : ℕ) (s : State) where
  pub none_gained : (a : ℕ) → n ≤ a → (es : List Effect) → AllEffectsFit n m es → gained a es s ≡ false
  unfolding gained
  none_gained a k [] h = refl
  none_gained a k (e ∷ es) h = ap₂ (λ x y. x || y)
      (when_same (holds e.guard s) _ false (unseen Bool (change_gains a) false (λ f. refl) s n m (λ b l. other a b n l k) (λ b l. refl) (λ f l x. refl) (λ f l x. refl) e.write h.0.1))
      (none_gained a k es h.1)

  pub none_lost : (a : ℕ) → n ≤ a → (es : List Effect) → AllEffectsFit n m es → lost a es s ≡ false
  unfolding lost
  none_lost a k [] h = refl
  none_lost a k (e ∷ es) h = ap₂ (λ x y. x || y)
      (when_same (holds e.guard s) _ false (unseen Bool (change_loses a) false (λ f. refl) s n m (λ b l. refl) (λ b l. other a b n l k) (λ f l x. refl) (λ f l x. refl) e.write h.0.1))
      (none_lost a k es h.1)

  pub none_wrote : (f : ℕ) → m ≤ f → (es : List Effect) → AllEffectsFit n m es → wrote f es s ≡ Stays
  unfolding wrote
  none_wrote f k [] h = refl
  none_wrote f k (e ∷ es) h = ap₂ both_written
      (when_same (holds e.guard s) _ Stays (unseen Written (change_written f) Stays (λ x. refl) s n m (λ b l. refl) (λ b l. refl)
      (λ g l x. ap (λ (b : Bool). if b then Becoming x else Stays) (other f g m l k)) (λ g l x. ap (λ (b : Bool). if b then Moving x else Stays) (other f g m l k)) e.write h.0.1))
      (none_wrote f k es h.1)
