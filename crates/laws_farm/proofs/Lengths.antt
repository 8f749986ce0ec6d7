-- The text of the problem is within the limit of a text.
use Rattle.std.proofs.Common.{ℕ, zero, suc, ◌+◌, ◌*◌, ◌<◌, ◌≤◌, List, [], ◌++◌, length, length-append, le_trans, refl, subst, sym, arith, decimal}
use Rattle.std.specs.Prelude.{codes}
use Rattle.std.specs.List.{flat_map}
use Rattle.std.proofs.lemmas.Fmt.{length-decimal-le_wide}
use Rattle.std.proofs.lemmas.Bool.{leb-true}
use Rattle.plus_io.specs.Limits.{text_limit}
use Rattle.plus_trial.specs.Farm.{rate_of, capacity_of, numbered, object_text, init_text}
use Rattle.plus_trial.specs.Trial.{farm_problem}
use Rattle.laws_farm.proofs.Trees.{counted}
use Rattle.laws_farm.proofs.ProblemTexts.{front, behind_name, behind_objects, behind_inits, text_with, text_is}

numbered_short : (a : List ℕ) (n : ℕ) (b : List ℕ) → n ≤ 1000 → length (numbered a n b) ≤ length a + 4 + length b
numbered_short a n b few =
    let d : length (decimal n) ≤ 4 = length-decimal-le_wide 4 n (omega arith) (omega arith) (omega arith) in
    omega (arith, d, length-append a (decimal n ++ b), length-append (decimal n) b)

both_short : (a b : List ℕ) (x y : ℕ) → length a ≤ x → length b ≤ y → length (a ++ b) ≤ x + y
both_short a b x y s t = omega (arith, s, t, length-append a b)

object_short : (i : ℕ) → i ≤ 1000 → length (object_text i) ≤ 100
object_short i few = le_trans (numbered_short (codes " t") i [] few) (leb-true 6 100 refl)

init_short : (i : ℕ) → i ≤ 1000 → length (init_text i) ≤ 100
init_short i few =
    let level : List ℕ = numbered (codes "  (= (level t") i (codes ") 0)") in
    let rate : List ℕ = numbered (codes " (= (rate t") i (codes ") ") in
    let rated : List ℕ = numbered [] (rate_of i) (codes ")") in
    let cap : List ℕ = numbered (codes " (= (cap t") i (codes ") ") in
    let capped : List ℕ = numbered [] (capacity_of i) (codes ")\n") in
    let whole : length (level ++ (rate ++ (rated ++ (cap ++ capped)))) ≤ 21 + (17 + (5 + (16 + 6))) =
    both_short level (rate ++ (rated ++ (cap ++ capped))) 21 (17 + (5 + (16 + 6))) (numbered_short (codes "  (= (level t") i (codes ") 0)") few)
    (both_short rate (rated ++ (cap ++ capped)) 17 (5 + (16 + 6)) (numbered_short (codes " (= (rate t") i (codes ") ") few)
    (both_short rated (cap ++ capped) 5 (16 + 6) (numbered_short [] (rate_of i) (codes ")") (omega arith))
    (both_short cap capped 16 6 (numbered_short (codes " (= (cap t") i (codes ") ") few) (numbered_short [] (capacity_of i) (codes ")\n") (omega arith))))) in
    le_trans whole (leb-true 65 100 refl)

all_short : (f : ℕ → List ℕ) (a k : ℕ) → ((i : ℕ) → i < a + k → length (f i) ≤ 100) → length (flat_map f (counted a k)) ≤ 100 * k
all_short f a zero short = omega arith
all_short f a (suc k) short =
    let one : length (f a) ≤ 100 = short a (omega arith) in
    let more : length (flat_map f (counted (suc a) k)) ≤ 100 * k = all_short f (suc a) k (λ i l. short i (omega arith)) in
    omega (arith, one, more, length-append (f a) (flat_map f (counted (suc a) k)))

text_short : (n : ℕ) → n ≤ 1000 → length (text_with n (counted 1 n)) ≤ text_limit
unfolding front behind_name behind_objects behind_inits
text_short n few =
    let head : List ℕ = numbered front n behind_name in
    let objects : List ℕ = flat_map object_text (counted 1 n) in
    let inits : List ℕ = flat_map init_text (counted 1 n) in
    let whole : length (head ++ (objects ++ (behind_objects ++ (inits ++ behind_inits)))) ≤ 100 + (100 * n + (100 + (100 * n + 100))) =
    both_short head (objects ++ (behind_objects ++ (inits ++ behind_inits))) 100 (100 * n + (100 + (100 * n + 100))) (le_trans (numbered_short front n behind_name few) (leb-true 52 100 refl))
    (both_short objects (behind_objects ++ (inits ++ behind_inits)) (100 * n) (100 + (100 * n + 100)) (all_short object_text 1 n (λ i l. object_short i (omega arith)))
    (both_short behind_objects (inits ++ behind_inits) 100 (100 * n + 100) (leb-true (length behind_objects) 100 refl)
    (both_short inits behind_inits (100 * n) 100 (all_short init_text 1 n (λ i l. init_short i (omega arith))) (leb-true (length behind_inits) 100 refl)))) in
    omega (arith, whole, few)

pub problem_short : (n : ℕ) → n ≤ 1000 → length (farm_problem n) ≤ text_limit
problem_short n few = subst (λ (l : List ℕ). length l ≤ text_limit) (sym (text_is n)) (text_short n few)
