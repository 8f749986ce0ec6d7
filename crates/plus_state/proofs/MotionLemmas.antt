-- Values of fluents, some of which move.
use Rattle.std.proofs.Common.{◌≡◌, ℕ, zero, suc, ◌+◌, ◌<◌, ◌≤◌, Bool, List, [], ◌∷◌, ◌++◌, length, map, get_or, set, take, refl, ap, ap₂, sym, ◌∙◌, arith}
use Rattle.std.proofs.lemmas.List.{length-map, map-set, get_or-map, take_more}
use Rattle.std.proofs.lemmas.Option.{none-some, same_Some, slice_get-get_or}
use Rattle.std.specs.Prelude.{Option, Some, None, slice_get, unwrap_or}
use Rattle.plus_fraction.specs.Fraction.{Fraction}
use Rattle.plus_model.specs.Terms.{State}
use Rattle.plus_model.specs.Value.{fluent_of}
use Rattle.plus_state.specs.Motions.{laid}

pub length-laid : (vs ms : List (Option Fraction)) → length (laid vs ms) ≡ length vs
length-laid [] ms = refl
length-laid (v ∷ vs) [] = refl
length-laid (v ∷ vs) (None ∷ ms) = ap suc (length-laid vs ms)
length-laid (v ∷ vs) (Some x ∷ ms) = ap suc (length-laid vs ms)

pub laid_none : (vs : List (Option Fraction)) → laid vs [] ≡ vs
laid_none [] = refl
laid_none (v ∷ vs) = refl

-- room for one more motion moves nothing
pub laid_room : (vs ms : List (Option Fraction)) → laid vs (ms ++ None ∷ []) ≡ laid vs ms
laid_room [] ms = refl
laid_room (v ∷ vs) [] = ap (λ l. v ∷ l) (laid_none vs)
laid_room (v ∷ vs) (None ∷ ms) = ap (λ l. v ∷ l) (laid_room vs ms)
laid_room (v ∷ vs) (Some x ∷ ms) = ap (λ l. Some x ∷ l) (laid_room vs ms)

-- a value that is set where there is room for a motion
pub laid_still : (vs ms : List (Option Fraction)) (k : ℕ) (v : Option Fraction) → k < length ms → laid (set vs k v) (set ms k None) ≡ set (laid vs ms) k v
laid_still vs [] k v h = absurd (omega arith)
laid_still [] (m ∷ ms) k v h = refl
laid_still (u ∷ vs) (None ∷ ms) zero v h = refl
laid_still (u ∷ vs) (Some x ∷ ms) zero v h = refl
laid_still (u ∷ vs) (None ∷ ms) (suc k) v h = ap (λ l. u ∷ l) (laid_still vs ms k v (omega arith))
laid_still (u ∷ vs) (Some x ∷ ms) (suc k) v h = ap (λ l. Some x ∷ l) (laid_still vs ms k v (omega arith))

-- and where there is none
pub laid_past : (vs ms : List (Option Fraction)) (k : ℕ) (v : Option Fraction) → length ms ≤ k → laid (set vs k v) ms ≡ set (laid vs ms) k v
laid_past [] ms k v h = refl
laid_past (u ∷ vs) [] k v h = laid_none (set (u ∷ vs) k v)
laid_past (u ∷ vs) (m ∷ ms) zero v h = absurd (omega arith)
laid_past (u ∷ vs) (None ∷ ms) (suc k) v h = ap (λ l. u ∷ l) (laid_past vs ms k v (omega arith))
laid_past (u ∷ vs) (Some x ∷ ms) (suc k) v h = ap (λ l. Some x ∷ l) (laid_past vs ms k v (omega arith))

-- a motion that is set
pub laid_moving : (vs ms : List (Option Fraction)) (k : ℕ) (x : Fraction) → k < length ms → laid vs (set ms k (Some x)) ≡ set (laid vs ms) k (Some x)
laid_moving vs [] k x h = absurd (omega arith)
laid_moving [] (m ∷ ms) k x h = refl
laid_moving (u ∷ vs) (None ∷ ms) zero x h = refl
laid_moving (u ∷ vs) (Some y ∷ ms) zero x h = refl
laid_moving (u ∷ vs) (None ∷ ms) (suc k) x h = ap (λ l. u ∷ l) (laid_moving vs ms k x (omega arith))
laid_moving (u ∷ vs) (Some y ∷ ms) (suc k) x h = ap (λ l. Some y ∷ l) (laid_moving vs ms k x (omega arith))

-- what is read where something moves, and where nothing does
pub read_moving : (vs ms : List (Option Fraction)) (k : ℕ) (x : Fraction) → k < length vs → slice_get ms k ≡ Some (Some x) → unwrap_or (slice_get (laid vs ms) k) None ≡ Some x
read_moving [] ms k x h e = absurd (omega arith)
read_moving (u ∷ vs) [] k x h e = absurd (none-some _ e)
read_moving (u ∷ vs) (None ∷ ms) zero x h e = absurd (none-some x (same_Some _ _ e))
read_moving (u ∷ vs) (Some y ∷ ms) zero x h e = same_Some _ _ e
read_moving (u ∷ vs) (None ∷ ms) (suc k) x h e = read_moving vs ms k x (omega arith) e
read_moving (u ∷ vs) (Some y ∷ ms) (suc k) x h e = read_moving vs ms k x (omega arith) e

pub read_still : (vs ms : List (Option Fraction)) (k : ℕ) → slice_get ms k ≡ Some None → slice_get (laid vs ms) k ≡ slice_get vs k
read_still [] ms k e = refl
read_still (u ∷ vs) [] k e = refl
read_still (u ∷ vs) (None ∷ ms) zero e = refl
read_still (u ∷ vs) (Some y ∷ ms) zero e = absurd (none-some y (sym (same_Some _ _ e)))
read_still (u ∷ vs) (None ∷ ms) (suc k) e = read_still vs ms k e
read_still (u ∷ vs) (Some y ∷ ms) (suc k) e = read_still vs ms k e

pub read_past : (vs ms : List (Option Fraction)) (k : ℕ) → slice_get ms k ≡ None → slice_get (laid vs ms) k ≡ slice_get vs k
read_past [] ms k e = refl
read_past (u ∷ vs) [] k e = refl
read_past (u ∷ vs) (m ∷ ms) zero e = absurd (none-some m (sym e))
read_past (u ∷ vs) (None ∷ ms) (suc k) e = read_past vs ms k e
read_past (u ∷ vs) (Some x ∷ ms) (suc k) e = read_past vs ms k e

-- a state whose fluents are worked from `xs` by f, where nothing of `ms` moves
module _ {A : Type 0} (f : A → Option Fraction) (xs : List A) (ms : List (Option Fraction)) (bs : List Bool) (s : State) (is : record { atoms = bs; fluents = laid (map f xs) ms } ≡ s) where
  fluents_are : laid (map f xs) ms ≡ s.fluents
  fluents_are = ap (λ (t : State). t.fluents) is

  pub length-fluents : length s.fluents ≡ length xs
  length-fluents = ap length (sym fluents_are) ∙ length-laid (map f xs) ms ∙ length-map xs f

  with_fluents : (ys zs : List (Option Fraction)) → ys ≡ zs → ◌≡◌ {A = State} (record { atoms = bs; fluents = ys }) (record { atoms = s.atoms; fluents = zs })
  with_fluents ys zs e = ap₂ (λ (x : List Bool) (y : List (Option Fraction)). record { atoms = x; fluents = y }) (ap (λ (t : State). t.atoms) is) e

  pub given_still : (k : ℕ) (a : A) → k < length ms → ◌≡◌ {A = State} (record { atoms = bs; fluents = laid (map f (set xs k a)) (set ms k None) }) (record { atoms = s.atoms; fluents = set s.fluents k (f a) })
  given_still k a h = with_fluents _ _ (ap (λ l. laid l (set ms k None)) (map-set f xs k a) ∙ laid_still (map f xs) ms k (f a) h ∙ ap (λ l. set l k (f a)) fluents_are)

  pub given_past : (k : ℕ) (a : A) → length ms ≤ k → ◌≡◌ {A = State} (record { atoms = bs; fluents = laid (map f (set xs k a)) ms }) (record { atoms = s.atoms; fluents = set s.fluents k (f a) })
  given_past k a h = with_fluents _ _ (ap (λ l. laid l ms) (map-set f xs k a) ∙ laid_past (map f xs) ms k (f a) h ∙ ap (λ l. set l k (f a)) fluents_are)

  pub given_motion : (k : ℕ) (x : Fraction) → k < length ms → ◌≡◌ {A = State} (record { atoms = bs; fluents = laid (map f xs) (set ms k (Some x)) }) (record { atoms = s.atoms; fluents = set s.fluents k (Some x) })
  given_motion k x h = with_fluents _ _ (laid_moving (map f xs) ms k x h ∙ ap (λ l. set l k (Some x)) fluents_are)

  pub moving_value : (k : ℕ) (x : Fraction) → k < length s.fluents → slice_get ms k ≡ Some (Some x) → fluent_of s k ≡ Some x
  moving_value k x h e =
      let long : k < length (map f xs) = omega (arith, length-fluents, length-map xs f, h) in
      ap (λ (l : List (Option Fraction)). unwrap_or (slice_get l k) None) (sym fluents_are) ∙ read_moving (map f xs) ms k x long e

  own_value : (k : ℕ) (a : A) → k < length s.fluents → get_or xs k a ≡ a → slice_get (laid (map f xs) ms) k ≡ slice_get (map f xs) k → fluent_of s k ≡ f a
  own_value k a h e r =
      let long : k < length xs = omega (arith, length-fluents, h) in
      let there : k < length (map f xs) = omega (arith, long, length-map xs f) in
      ap (λ (l : List (Option Fraction)). unwrap_or (slice_get l k) None) (sym fluents_are) ∙ ap (λ o. unwrap_or o None) (r ∙ slice_get-get_or (map f xs) k None there) ∙ get_or-map f xs k a None long ∙ ap f e

  pub still_value : (k : ℕ) (a : A) → k < length s.fluents → get_or xs k a ≡ a → slice_get ms k ≡ Some None → fluent_of s k ≡ f a
  still_value k a h e m = own_value k a h e (read_still (map f xs) ms k m)

  pub past_value : (k : ℕ) (a : A) → k < length s.fluents → get_or xs k a ≡ a → slice_get ms k ≡ None → fluent_of s k ≡ f a
  past_value k a h e m = own_value k a h e (read_past (map f xs) ms k m)

-- one more of a list is copied
pub copied_more : {X : Type 0} (xs ys zs : List X) (i : ℕ) (x y : X) → zs ≡ ys ++ y ∷ [] → ys ≡ take i xs → y ≡ x → x ≡ get_or xs i x → i < length xs → zs ≡ take (i + 1) xs
copied_more xs ys zs i x y e front same is lt = e ∙ ap (λ l. l ++ y ∷ []) front ∙ ap (λ z. take i xs ++ z ∷ []) (same ∙ is) ∙ sym (take_more xs i x lt)
