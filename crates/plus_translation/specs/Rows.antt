-- Worked rows: a tank that fills while it is open, and closes where it is open and the level is at least 5, as domains and
-- problems; the canonical texts of its translations, and plans of them.
use Rattle.std.specs.Prelude.{◌≡◌, ℕ, List, [], ◌∷◌, codes, pos}
use Rattle.plus_fraction.specs.Fraction.{whole, over}
use Rattle.plus_tree.specs.declared.terms.Use.{Use}
use Rattle.plus_tree.specs.declared.terms.Comparison.TheVariants.{AtLeast}
use Rattle.plus_tree.specs.declared.trees.LeafNode.TheVariants.{Add, Delete, Increase}
use Rattle.plus_tree.specs.declared.trees.Schema.{Schema}
use Rattle.plus_tree.specs.declared.trees.Domain.{Domain}
use Rattle.plus_tree.specs.declared.trees.Init.{Init}
use Rattle.plus_tree.specs.declared.trees.Init.TheVariants.{Holds, Value, At, AtNot}
use Rattle.plus_tree.specs.declared.trees.Problem.{Problem}
use Rattle.plus_tree.specs.Expr.{Expr, x_number, x_clock, x_fluent, x_product, no_exprs, more_exprs}
use Rattle.plus_tree.specs.Cond.{Cond, c_not, c_atom, c_compare}
use Rattle.plus_tree.specs.Effect.{Effect}
use Rattle.plus_printer.specs.Canon.{domain_text, problem_text}
use Rattle.plus_steps.specs.Stepped.{Act, Tick}
use Rattle.plus_steps.specs.Laws.{CallName}
use Rattle.plus_translation.specs.Renamed.{nowhere, spelled}
use Rattle.plus_translation.specs.Translated.{natural, leaf, writes, both, translated_domain, translated_problem}
use Rattle.plus_translation.specs.Laws.{IsSteppedPlan, IsPlanOfTranslation}

abbrev pub named : List ℕ → Use
named name = record { head = spelled name; args = []; span = nowhere }

abbrev pub opened : Cond
opened = c_atom (named (codes "open")) nowhere

abbrev pub at_least : ℕ → Cond
at_least n = c_compare AtLeast (x_fluent (named (codes "level")) nowhere) (x_number (natural n) nowhere) nowhere

-- `(* #t 2)`
abbrev pub two_a_unit : Expr
two_a_unit = x_product (more_exprs (x_clock nowhere) (more_exprs (x_number (natural 2) nowhere) no_exprs)) nowhere

abbrev pub schema : List ℕ → Cond → Effect → Schema
schema name c e = record { name = spelled name; params = []; condition = c; effect = e; span = nowhere }

abbrev pub tank : Domain
tank = record {
  name = spelled (codes "tank");
  requirements = [];
  types = [];
  constants = [];
  predicates = record { name = spelled (codes "open"); params = []; span = nowhere } ∷ [];
  functions = record { name = spelled (codes "level"); params = []; span = nowhere } ∷ [];
  actions = schema (codes "open-valve") (c_not opened nowhere) (writes (leaf (Add (named (codes "open"))))) ∷ [];
  processes = schema (codes "fill") opened (writes (leaf (Increase (named (codes "level")) two_a_unit))) ∷ [];
  events = schema (codes "full") (both (opened ∷ at_least 5 ∷ [])) (writes (leaf (Delete (named (codes "open"))))) ∷ [];
  span = nowhere;
}

-- the tank, empty at first
abbrev pub tank_problem : List Init → Cond → Problem
tank_problem init goal = record {
  name = spelled (codes "tank1");
  domain = spelled (codes "tank");
  requirements = [];
  objects = [];
  init = Value (named (codes "level")) (natural 0) nowhere ∷ init;
  goal = goal;
  span = nowhere;
}

-- its goal: it is closed at a level of at least 5
abbrev pub full_problem : Problem
full_problem = tank_problem [] (both (c_not opened nowhere ∷ at_least 5 ∷ []))

-- opened at 2, and closed at 3
abbrev pub literal_problem : Problem
literal_problem = tank_problem (At (natural 2) (named (codes "open")) nowhere ∷ AtNot (natural 3) (named (codes "open")) nowhere ∷ []) (at_least 2)

-- opened at 0, with an atom that a literal of time 0 deletes: both are done in the initial state
abbrev pub early_problem : Problem
early_problem = tank_problem (Holds (named (codes "open")) ∷ AtNot (natural 0) (named (codes "open")) nowhere ∷ []) opened

-- ---- the texts

-- in steps of 1/2
abbrev pub HalfTexts : Type 0
HalfTexts =
    (domain_text (translated_domain (over (pos 1) 2) tank full_problem)
    ≡ codes "(define (domain tank)\n (:requirements :adl :fluents)\n (:predicates (open) (pp-f1))\n (:functions (level))\n (:action open-valve :parameters () :precondition (and (not (open)) (not (and (open) (>= (level) 5)))) :effect (and (open) (not (pp-f1))))\n (:action pp-step :parameters () :precondition (and (not (and (open) (>= (level) 5)))) :effect (and (when (open) (increase (level) (* (/ 1 2) 2))) (not (pp-f1))))\n (:action pp-fire :parameters () :precondition (and (or (and (open) (>= (level) 5))) (not (and (and (open) (>= (level) 5)) (pp-f1)))) :effect (and (when (and (open) (>= (level) 5)) (not (open))) (when (and (open) (>= (level) 5)) (pp-f1))))\n)\n")
    × (problem_text (translated_problem (over (pos 1) 2) tank full_problem)
    ≡ codes "(define (problem tank1)\n (:domain tank)\n (:init (= (level) 0))\n (:goal (and (and (not (open)) (>= (level) 5)) (not (and (open) (>= (level) 5)))))\n)\n")

-- in steps of 1, with literals at 2 and at 3
abbrev pub LiteralTexts : Type 0
LiteralTexts =
    (domain_text (translated_domain (whole (pos 1)) tank literal_problem)
    ≡ codes "(define (domain tank)\n (:requirements :adl :fluents)\n (:predicates (open) (pp-f1))\n (:functions (level) (pp-clock))\n (:action open-valve :parameters () :precondition (and (not (open)) (not (and (open) (>= (level) 5)))) :effect (and (open) (not (pp-f1))))\n (:action pp-step :parameters () :precondition (and (not (and (open) (>= (level) 5)))) :effect (and (when (open) (increase (level) (* 1 2))) (increase (pp-clock) 1) (when (= (pp-clock) 1) (open)) (when (= (pp-clock) 2) (not (open))) (not (pp-f1))))\n (:action pp-fire :parameters () :precondition (and (or (and (open) (>= (level) 5))) (not (and (and (open) (>= (level) 5)) (pp-f1)))) :effect (and (when (and (open) (>= (level) 5)) (not (open))) (when (and (open) (>= (level) 5)) (pp-f1))))\n)\n")
    × (problem_text (translated_problem (whole (pos 1)) tank literal_problem)
    ≡ codes "(define (problem tank1)\n (:domain tank)\n (:init (= (level) 0) (= (pp-clock) 0))\n (:goal (and (>= (level) 2) (not (and (open) (>= (level) 5)))))\n)\n")

-- literals of time 0 need no clock: what they delete is not there at first
abbrev pub EarlyTexts : Type 0
EarlyTexts =
    problem_text (translated_problem (whole (pos 1)) tank early_problem)
    ≡ codes "(define (problem tank1)\n (:domain tank)\n (:init (= (level) 0))\n (:goal (and (open) (not (and (open) (>= (level) 5)))))\n)\n"

-- ---- plans

abbrev pub call : List ℕ → CallName
call name = (name, [])

abbrev pub step : CallName
step = call (codes "pp-step")

-- In steps of 1 four of them are a plan of the translation with literals: the tank is open during the third. What they
-- leave is a stepped plan of the tank.
abbrev pub FourSteps : Type 0
FourSteps =
    IsPlanOfTranslation tank literal_problem (whole (pos 1)) (step ∷ step ∷ step ∷ step ∷ [])
    × IsSteppedPlan tank literal_problem (whole (pos 1)) (Tick ∷ Tick ∷ Tick ∷ Tick ∷ [])

-- two of them are none
abbrev pub TwoSteps : Type 0
TwoSteps = IsPlanOfTranslation tank literal_problem (whole (pos 1)) (step ∷ step ∷ []) → ⊥

-- In steps of 1/2 the valve is opened, five steps fill the tank to 5, and a round of events closes it. What this leaves
-- is a stepped plan, in which the round is no move.
abbrev pub HalfSteps : Type 0
HalfSteps =
    IsPlanOfTranslation tank full_problem (over (pos 1) 2) (call (codes "open-valve") ∷ step ∷ step ∷ step ∷ step ∷ step ∷ call (codes "pp-fire") ∷ [])
    × IsSteppedPlan tank full_problem (over (pos 1) 2) (Act (call (codes "open-valve")) ∷ Tick ∷ Tick ∷ Tick ∷ Tick ∷ Tick ∷ [])
