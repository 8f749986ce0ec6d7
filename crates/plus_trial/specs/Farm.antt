-- A farm of n tanks, as a domain, a problem and a plan. Tank i is opened at the time i, is filled at its rate, and is closed
-- by its event when it is full.
use Rattle.std.specs.Prelude.{ℕ, zero, suc, ◌+◌, ◌%◌, List, [], ◌∷◌, ◌++◌, codes, decimal}
use Rattle.std.specs.List.{flat_map}

-- the tanks, from 1 to n
abbrev pub tanks : ℕ → List ℕ
tanks zero = []
tanks (suc n) = tanks n ++ suc n ∷ []

abbrev pub rate_of : ℕ → ℕ
rate_of i = 1 + i % 3

abbrev pub capacity_of : ℕ → ℕ
capacity_of i = 1 + i % 5

-- a number between two texts
abbrev pub numbered : List ℕ → ℕ → List ℕ → List ℕ
numbered front n back = front ++ (decimal n ++ back)

-- ---- the domain

abbrev pub domain_text : List ℕ
domain_text =
    codes "(define (domain farm) (:types tank)\n"
    ++ (codes " (:predicates (open ?t - tank)) (:functions (level ?t - tank) (rate ?t - tank) (cap ?t - tank))\n"
    ++ (codes " (:action open-valve :parameters (?t - tank) :precondition (not (open ?t)) :effect (open ?t))\n"
    ++ (codes " (:process fill :parameters (?t - tank) :precondition (open ?t) :effect (increase (level ?t) (* #t (rate ?t))))\n"
    ++ codes " (:event full :parameters (?t - tank) :precondition (and (open ?t) (>= (level ?t) (cap ?t))) :effect (not (open ?t))))\n")))

-- ---- the problem

abbrev pub object_text : ℕ → List ℕ
object_text i = numbered (codes " t") i []

-- a tank is empty at first
abbrev pub init_text : ℕ → List ℕ
init_text i =
    numbered (codes "  (= (level t") i (codes ") 0)")
    ++ (numbered (codes " (= (rate t") i (codes ") ") ++ (numbered [] (rate_of i) (codes ")")
    ++ (numbered (codes " (= (cap t") i (codes ") ") ++ numbered [] (capacity_of i) (codes ")\n"))))

abbrev pub problem_text : ℕ → List ℕ
problem_text n =
    numbered (codes "(define (problem farm") n (codes ") (:domain farm)\n (:objects")
    ++ (flat_map object_text (tanks n) ++ (codes " - tank)\n (:init\n"
    ++ (flat_map init_text (tanks n) ++ codes " )\n (:goal (forall (?t - tank) (>= (level ?t) (cap ?t)))))\n")))

-- ---- the plan

abbrev pub line_text : ℕ → List ℕ
line_text i = numbered [] i (codes ": (open-valve t") ++ numbered [] i (codes ")\n")

abbrev pub plan_text : ℕ → List ℕ
plan_text n = flat_map line_text (tanks n) ++ numbered [] (n + 5) (codes ": @end\n")
