-- Sums over lists.
use Rattle.std.proofs.Common.{◌≡◌, ℕ, ◌+◌, ◌*◌, List, [], ◌∷◌, length, map, arith, refl, ap, ap₂, sym, ◌∙◌}
use Rattle.std.specs.List.{sum_by, flat_map}
use Rattle.std.proofs.lemmas.List.Sums.{sum_by-cons, sum_by-append}

pub sum_by-same : {X : Type 0} (f : X → ℕ) (n : ℕ) → ((x : X) → f x ≡ n) → (xs : List X) → sum_by f xs ≡ length xs * n
sum_by-same f n h [] = omega arith
sum_by-same f n h (x ∷ xs) = sum_by-cons f x xs ∙ ap₂ (λ (a b : ℕ). a + b) (h x) (sum_by-same f n h xs) ∙ omega arith

pub sum_by-equal : {X : Type 0} (f g : X → ℕ) → ((x : X) → f x ≡ g x) → (xs : List X) → sum_by f xs ≡ sum_by g xs
sum_by-equal f g h [] = refl
sum_by-equal f g h (x ∷ xs) = sum_by-cons f x xs ∙ ap₂ (λ (a b : ℕ). a + b) (h x) (sum_by-equal f g h xs) ∙ sym (sum_by-cons g x xs)

pub sum_by-map : {X Y : Type 0} (f : Y → ℕ) (g : X → Y) (xs : List X) → sum_by f (map g xs) ≡ sum_by (λ x. f (g x)) xs
sum_by-map f g [] = refl
sum_by-map f g (x ∷ xs) = sum_by-cons f (g x) (map g xs) ∙ ap (λ (n : ℕ). f (g x) + n) (sum_by-map f g xs) ∙ sym (sum_by-cons (λ x. f (g x)) x xs)

pub sum_by-flat_map : {X Y : Type 0} (f : Y → ℕ) (g : X → List Y) (xs : List X) → sum_by f (flat_map g xs) ≡ sum_by (λ x. sum_by f (g x)) xs
sum_by-flat_map f g [] = refl
sum_by-flat_map f g (x ∷ xs) =
    sum_by-append f (g x) (flat_map g xs) ∙ ap (λ (n : ℕ). sum_by f (g x) + n) (sum_by-flat_map f g xs) ∙ sym (sum_by-cons (λ x. sum_by f (g x)) x xs)
