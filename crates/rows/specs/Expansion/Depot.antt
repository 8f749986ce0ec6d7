-- A pair with subtypes, a constant before the objects, and a type without an object.
--
--     (define (domain d)
--      (:types van - truck truck place boat)
--      (:constants home - place)
--      (:predicates (at ?t - truck ?p - place) (seen ?p - place) (done))
--      (:functions (fuel ?t - truck))
--      (:action drive :parameters (?t - truck ?f ?g - place)
--       :precondition (and (at ?t ?f) (not (= ?f ?g)))
--       :effect (and (not (at ?t ?f)) (at ?t ?g)
--                    (forall (?p - place) (when (at ?t ?p) (seen ?p)))
--                    (decrease (fuel ?t) 1)))
--      (:action sail :parameters (?b - boat))
--      (:process idle :parameters (?t - truck) :precondition (exists (?p - place) (at ?t ?p))
--       :effect (and (increase (fuel ?t) #t) (decrease (fuel ?t) (* (fuel ?t) #t))))
--      (:event stop :parameters (?t - truck) :precondition (not (> (fuel ?t) 0)) :effect (done)))
--
--     (define (problem q) (:domain d) (:objects a - place v - van t - truck)
--      (:init (at v a) (= (fuel v) 10) (not (at t a)))
--      (:goal (and (imply (at v a) (seen home)) (forall (?b - boat) (done)) (exists (?p - place) (seen ?p)))))
--
-- And a problem for it with timed literals.
--
--     (define (problem r) (:domain d) (:objects a - place v - van t - truck)
--      (:init (at 3 (not (done))) (at v a) (at 2 (seen a)) (at 3 (at t a)) (at 0.5 (done)) (at 2 (not (seen a))))
--      (:goal (done)))
use Rattle.std.specs.Prelude.{false, [], ◌∷◌}
use Rattle.plus_tree.specs.declared.terms.Comparison.TheVariants.{Greater}
use Rattle.plus_tree.specs.declared.terms.Literal.{Literal}
use Rattle.plus_tree.specs.declared.trees.Domain.{Domain}
use Rattle.plus_tree.specs.declared.trees.Init.TheVariants.{Holds, Absent, Value, At, AtNot}
use Rattle.plus_tree.specs.declared.trees.LeafNode.TheVariants.{Add, Delete, Increase, Decrease}
use Rattle.plus_tree.specs.declared.trees.Problem.{Problem}
use Rattle.plus_tree.specs.declared.trees.Schema.{Schema}
use Rattle.plus_tree.specs.Expr.{x_product, exprs_of}
use Rattle.plus_tree.specs.Cond.{Cond, c_not, c_imply, c_same, c_compare}
use Rattle.plus_tree.specs.Effect.{e_when}
use Rattle.plus_typing.specs.Worked.Words.{name_at, form_at, typed, untyped, the, var, use_of, literal, number, clock, fluent, atom, both, every, some, leaf, write, all, for_all, head, schema, bare, problem}

abbrev pub drive : Schema
drive =
    schema 30 "drive" (typed 31 "t" "truck" ∷ typed 33 "f" "place" ∷ typed 35 "g" "place" ∷ [])
    (both (atom 37 "at" (var 39 "t" ∷ var 40 "f" ∷ []) ∷ c_not (c_same (var 41 "f") (var 42 "g") (form_at 0)) (form_at 0) ∷ []))
    (all (
    write 43 (Delete (use_of 43 "at" (var 45 "t" ∷ var 46 "f" ∷ [])))
    ∷ write 47 (Add (use_of 47 "at" (var 49 "t" ∷ var 50 "g" ∷ [])))
    ∷ for_all (typed 51 "p" "place" ∷ [])
    (e_when (atom 53 "at" (var 55 "t" ∷ var 56 "p" ∷ [])) (leaf 57 (Add (use_of 57 "seen" (var 59 "p" ∷ []))) ∷ []) (form_at 0))
    ∷ write 60 (Decrease (use_of 60 "fuel" (var 62 "t" ∷ [])) (number 63 1))
    ∷ []))

abbrev pub sail : Schema
sail = schema 64 "sail" (typed 65 "b" "boat" ∷ []) (both []) (all [])

abbrev pub idle : Schema
idle =
    schema 67 "idle" (typed 68 "t" "truck" ∷ []) (some (typed 70 "p" "place" ∷ []) (atom 72 "at" (var 74 "t" ∷ var 75 "p" ∷ [])))
    (all (
    write 76 (Increase (use_of 76 "fuel" (var 78 "t" ∷ [])) (clock 79))
    ∷ write 80 (Decrease (use_of 80 "fuel" (var 82 "t" ∷ [])) (x_product (exprs_of (fluent 83 "fuel" (var 85 "t" ∷ []) ∷ clock 86 ∷ [])) (form_at 0)))
    ∷ []))

abbrev pub stop : Schema
stop =
    schema 87 "stop" (typed 88 "t" "truck" ∷ [])
    (c_not (c_compare Greater (fluent 90 "fuel" (var 92 "t" ∷ [])) (number 93 0) (form_at 0)) (form_at 0))
    (write 94 (Add (use_of 94 "done" [])))

abbrev pub depot : Domain
depot = record bare {
  types = typed 10 "van" "truck" ∷ untyped 12 "truck" ∷ untyped 13 "place" ∷ untyped 14 "boat" ∷ [];
  constants = typed 15 "home" "place" ∷ [];
  predicates =
      head 17 "at" (typed 18 "t" "truck" ∷ typed 20 "p" "place" ∷ []) ∷ head 22 "seen" (typed 23 "p" "place" ∷ []) ∷ head 25 "done" [] ∷ [];
  functions = head 26 "fuel" (typed 27 "t" "truck" ∷ []) ∷ [];
  actions = drive ∷ sail ∷ [];
  processes = idle ∷ [];
  events = stop ∷ [];
}

abbrev pub goal : Cond
goal = both (
    c_imply (atom 120 "at" (the 122 "v" ∷ the 123 "a" ∷ [])) (atom 124 "seen" (the 126 "home" ∷ [])) (form_at 0)
    ∷ every (typed 127 "b" "boat" ∷ []) (atom 129 "done" [])
    ∷ some (typed 131 "p" "place" ∷ []) (atom 133 "seen" (var 135 "p" ∷ []))
    ∷ [])

abbrev pub delivery : Problem
delivery = problem (typed 100 "a" "place" ∷ typed 102 "v" "van" ∷ typed 104 "t" "truck" ∷ []) (
    Holds (use_of 106 "at" (the 108 "v" ∷ the 109 "a" ∷ []))
    ∷ Value (use_of 110 "fuel" (the 112 "v" ∷ [])) (literal 113 10) (form_at 0)
    ∷ Absent (use_of 114 "at" (the 116 "t" ∷ the 117 "a" ∷ [])) (form_at 0)
    ∷ []) goal

-- 0.5
abbrev pub half : Literal
half = record { negative = false; digits = 5; places = 1; span = name_at 160 }

abbrev pub shifts : Problem
shifts = problem (typed 100 "a" "place" ∷ typed 102 "v" "van" ∷ typed 104 "t" "truck" ∷ []) (
    AtNot (literal 140 3) (use_of 141 "done" []) (form_at 0)
    ∷ Holds (use_of 142 "at" (the 144 "v" ∷ the 145 "a" ∷ []))
    ∷ At (literal 146 2) (use_of 147 "seen" (the 149 "a" ∷ [])) (form_at 0)
    ∷ At (literal 150 3) (use_of 151 "at" (the 153 "t" ∷ the 154 "a" ∷ [])) (form_at 0)
    ∷ At half (use_of 161 "done" []) (form_at 0)
    ∷ AtNot (literal 163 2) (use_of 164 "seen" (the 166 "a" ∷ [])) (form_at 0)
    ∷ []) (atom 167 "done" [])
