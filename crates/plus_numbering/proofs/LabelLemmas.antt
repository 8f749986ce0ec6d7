-- Lists of labels that grow by one.
use Rattle.std.proofs.Common.{◌≡◌, ℕ, zero, suc, ◌+◌, ◌<◌, ◌≤◌, List, [], ◌∷◌, ◌++◌, ap, sym, refl, ◌∙◌, map, length, take, get_or, append_assoc, arith}
use Rattle.std.proofs.lemmas.List.{take_more}

mapped : {A B : Type 0} (f : A → B) (xs ys : List A) → map f (xs ++ ys) ≡ map f xs ++ map f ys
mapped f [] ys = refl
mapped f (x ∷ xs) ys = ap (λ zs. f x ∷ zs) (mapped f xs ys)

all-taken : {A : Type 0} (xs : List A) (i : ℕ) → length xs ≤ i → take i xs ≡ xs
all-taken [] zero h = refl
all-taken [] (suc i) h = refl
all-taken (x ∷ xs) zero h = absurd (omega arith)
all-taken (x ∷ xs) (suc i) h = ap (λ ys. x ∷ ys) (all-taken xs i (omega arith))

-- one more, of the member at this place
pub labels-more :
    {A B : Type 0} (f : A → B) (start before after : List B) (xs : List A) (i : ℕ) (d : A) (y : B)
    → i < length xs → y ≡ f (get_or xs i d) → before ≡ start ++ map f (take i xs) → after ≡ before ++ y ∷ [] → after ≡ start ++ map f (take (i + 1) xs)
labels-more f start before after xs i d y h e b a =
    a ∙ ap (λ ys. ys ++ y ∷ []) b ∙ append_assoc start (map f (take i xs)) (y ∷ []) ∙ ap (λ z. start ++ (map f (take i xs) ++ z ∷ [])) e
    ∙ ap (λ ys. start ++ ys) (sym (mapped f (take i xs) (get_or xs i d ∷ []))) ∙ ap (λ ys. start ++ map f ys) (sym (take_more xs i d h))

-- at the end they are those of all members
pub labels-all : {A B : Type 0} (f : A → B) (start now : List B) (xs : List A) (i : ℕ) → length xs ≤ i → now ≡ start ++ map f (take i xs) → now ≡ start ++ map f xs
labels-all f start now xs i h n = n ∙ ap (λ ys. start ++ map f ys) (all-taken xs i h)
