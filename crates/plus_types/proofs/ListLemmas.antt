-- The list of a quantifier, and the names that are bound around it.
use Rattle.std.proofs.Common.{◌≡◌, ℕ, zero, suc, ◌≤◌, Bool, true, false, List, [], ◌∷◌, ◌++◌, ap, sym, refl, ◌∙◌, ◌||◌, length, drop, take, arith}
use Rattle.std.specs.List.{list_any}
use Rattle.plus_tree.specs.declared.terms.TypedName.{TypedName}
use Rattle.plus_types.specs.declared.faults.File.{File}
use Rattle.plus_types.specs.declared.faults.TypeFault.{TypeFault}
use Rattle.plus_types.specs.Types.{Binding, bound_names}
use Rattle.plus_types.specs.Faults.{list_faults}

pub or-none : (a b : Bool) → (a || b) ≡ false → a ≡ false
or-none true b e = e
or-none false b e = refl

pub or-rest : (a b : Bool) → (a || b) ≡ false → b ≡ false
or-rest true b e = cc
or-rest false b e = e

-- what is nowhere is not in a part
pub none-before : {X : Type 0} (t : X → Bool) (n : ℕ) (xs : List X) → list_any t xs ≡ false → list_any t (take n xs) ≡ false
none-before t zero [] e = refl
none-before t (suc n) [] e = refl
none-before t zero (x ∷ xs) e = refl
none-before t (suc n) (x ∷ xs) e = ap (λ b. b || list_any t (take n xs)) (or-none (t x) (list_any t xs) e) ∙ none-before t n xs (or-rest (t x) (list_any t xs) e)

pub none-after : {X : Type 0} (t : X → Bool) (n : ℕ) (xs : List X) → list_any t xs ≡ false → list_any t (drop n xs) ≡ false
none-after t zero [] e = refl
none-after t (suc n) [] e = refl
none-after t zero (x ∷ xs) e = e
none-after t (suc n) (x ∷ xs) e = none-after t n xs (or-rest (t x) (list_any t xs) e)

-- what a list still has to be walked for, once the first n names of the table are bound around it
abbrev pub list_left : List Binding → File → ℕ → List Binding → List TypedName → List TypeFault
list_left types file n table xs = list_faults types file (take n (bound_names table)) (drop n (bound_names table)) xs

-- all names of a table are bound around a list whose table it is at first
pub take-all : {X : Type 0} (xs : List X) → take (length xs) xs ≡ xs
take-all [] = refl
take-all (x ∷ xs) = ap (λ ys. x ∷ ys) (take-all xs)

pub drop-all : {X : Type 0} (xs : List X) → drop (length xs) xs ≡ []
drop-all [] = refl
drop-all (x ∷ xs) = drop-all xs

pub length-names : (bs : List Binding) → length (bound_names bs) ≡ length bs
length-names [] = refl
length-names (b ∷ bs) = ap suc (length-names bs)

pub take-names : (bs : List Binding) → take (length bs) (bound_names bs) ≡ bound_names bs
take-names bs = ap (λ n. take n (bound_names bs)) (sym (length-names bs)) ∙ take-all (bound_names bs)

pub drop-names : (bs : List Binding) → drop (length bs) (bound_names bs) ≡ []
drop-names bs = ap (λ n. drop n (bound_names bs)) (sym (length-names bs)) ∙ drop-all (bound_names bs)

pub ruleset all_around = (take-names, drop-names)
