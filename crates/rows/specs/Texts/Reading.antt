-- Texts, and the canonical texts of the trees that they spell; and the places of refusals.
use Rattle.std.specs.Prelude.{◌≡◌, ℕ, List, [], ◌∷◌, ◌++◌, map, Result, Ok, Err, codes}
use Prim.Native.String.{String}
use Rattle.plus_tokens.specs.Items.{items_of}
use Rattle.plus_tokens.specs.declared.token.LexFault.TheVariants as lex
use Rattle.plus_tree.specs.declared.faults.TextFault.{TextFault}
use Rattle.plus_tree.specs.declared.faults.TextFault.TheVariants as faults
use Rattle.plus_tree.specs.declared.trees.Rule.{Rule}
use Rattle.plus_tree.specs.declared.trees.Rule.TheVariants.{Always, Sometime, Within, HoldAfter}
use Rattle.plus_tree.specs.declared.trees.Constraint.{Constraint}
use Rattle.plus_parser.specs.ReadingDomain.{domain_of}
use Rattle.plus_parser.specs.ReadingProblem.{problem_of}
use Rattle.plus_parser.specs.ReadingConstraints.{constraints_of}
use Rattle.plus_printer.specs.Words.{literal_text}
use Rattle.plus_printer.specs.Canon.{cond_text, domain_text, problem_text}

-- what is told of the tree that is read, or the refusal
abbrev pub shown : {A B : Type 0} → (A → B) → Result A TextFault → Result B TextFault
shown f (Ok x) = Ok (f x)
shown f (Err e) = Err e

-- the text spells a domain, or a problem, with this canonical text
abbrev pub Shows : String → String → Type 0
Shows text canon = shown domain_text (domain_of 64 (items_of (codes text))) ≡ Ok (codes canon)

abbrev pub ShowsProblem : String → String → Type 0
ShowsProblem text canon = shown problem_text (problem_of 64 (items_of (codes text))) ≡ Ok (codes canon)

-- words in letters of both sizes, sections and keys out of order, names that share a type, a type that no text writes, a comment
abbrev pub DomainRow : Type 0
DomainRow = Shows
    "; a comment\n(DEFINE (domain D) (:EVENT stop :effect (P))\n (:types van - truck truck object) (:functions (f) - number (g ?t - van) (h ?x)) (:predicates (p) (at ?t - truck ?x ?y))\n(:constants home)\n(:action go :effect (and (p) (not (at ?t home)) (assign (f) 02.50) (increase (f) 2) (decrease (f) 2) (scale-up (f) 2) (scale-down (f) 2) (forall (?x - van) (when (p) (p))) (when (p) ()) (when () (and (p) (not (p)))))\n :parameters (?t - truck ?u ?w - van) :precondition (or (not (p)) (imply (p) (at ?t Home)) (forall (?x ?y - van) (p)) (exists () (p)) (= ?t home) (< (+ (f) 2 2) (* (f) 2)) (<= (- (f)) (- (f) 2)) (= (/ (f) 2) 0.050) (>= (f) -1.50) (> (f) (g ?u))))\n(:process flow :effect (increase (f) (* #T 2))) (:action idle :precondition ()) (:requirements :ADL))"
    "(define (domain d)\n (:requirements :adl)\n (:types van - truck truck - object)\n (:constants home - object)\n (:predicates (p) (at ?t - truck ?x - object ?y - object))\n (:functions (f) (g ?t - van) (h ?x - object))\n (:action go :parameters (?t - truck ?u - van ?w - van) :precondition (or (not (p)) (imply (p) (at ?t home)) (forall (?x - van ?y - van) (p)) (exists () (p)) (= ?t home) (< (+ (f) 2 2) (* (f) 2)) (<= (- (f)) (- (f) 2)) (= (/ (f) 2) 0.05) (>= (f) -1.5) (> (f) (g ?u))) :effect (and (p) (not (at ?t home)) (assign (f) 2.5) (increase (f) 2) (decrease (f) 2) (scale-up (f) 2) (scale-down (f) 2) (forall (?x - van) (when (p) (p))) (when (p) (and)) (when (and) (and (p) (not (p))))))\n (:action idle :parameters () :precondition (and) :effect (and))\n (:process flow :parameters () :precondition (and) :effect (increase (f) (* #t 2)))\n (:event stop :parameters () :precondition (and) :effect (p))\n)\n"

-- a metric leaves nothing; `at` with a number is a timed literal, and else an atom
abbrev pub ProblemRow : Type 0
ProblemRow = ShowsProblem
    "(define (problem Q) (:metric minimize (+ (f) [ 3 ])) (:goal (and)) (:init (at a) (not (p)) (= (f) -0.0) (at 5 (p ?x)) (at 2.50 (not (p))) (at)) (:domain d) (:objects a b - van c))"
    "(define (problem q)\n (:domain d)\n (:objects a - van b - van c - object)\n (:init (at a) (not (p)) (= (f) 0) (at 5 (p ?x)) (at 2.5 (not (p))) (at))\n (:goal (and))\n)\n"

-- the text spells no domain, or no problem, for this reason
abbrev pub Refused : String → TextFault → Type 0
Refused text fault = domain_of 64 (items_of (codes text)) ≡ Err fault

abbrev pub RefusedProblem : String → TextFault → Type 0
RefusedProblem text fault = problem_of 64 (items_of (codes text)) ≡ Err fault

-- behind the token at this place no text of the grammar goes on
abbrev pub form : ℕ → ℕ → TextFault
form start last = faults.Form (record { start = start; «end» = last })

-- each refusal at its place
pub record FaultRows : Type 0 where
  pub empty : Refused "" faults.Unclosed
  pub unclosed : Refused "(define (domain a)" faults.Unclosed
  pub durative : Refused "(define (domain d) (:durative-action))" (form 20 36)
  pub behind : Refused "(define (domain d)) )" (form 20 21)
  pub byte_behind : Refused "(define (domain d)) !" (faults.Lex (lex.BadByte 20))
  pub reserved : Refused "(define (domain d) (:predicates (and)))" (form 33 36)
  pub reserved_case : Refused "(define (domain d) (:predicates (ScaLE-up)))" (form 33 41)
  pub twice : Refused "(define (domain d) (:types) (:types))" (form 29 35)
  pub key_twice : Refused "(define (domain d) (:action a :effect (p) :effect (p)))" (form 42 49)
  pub type_first : Refused "(define (domain d) (:types - a))" (form 27 28)
  pub no_type : Refused "(define (domain d) (:types a - ))" (form 31 32)
  pub one_operand : Refused "(define (domain d) (:event e :precondition (< (+ 1) 2)))" (form 50 51)
  pub nested_when : Refused "(define (domain d) (:event e :effect (when () (when () ()))))" (form 47 51)
  pub forall_in_when : Refused "(define (domain d) (:event e :effect (when () (forall () ()))))" (form 47 53)
  pub function_type : Refused "(define (domain d) (:functions (f) - van))" (form 37 40)
  pub bare_fluent : Refused "(define (domain d) (:event e :precondition (< f 2)))" (form 46 47)
  pub init_variable : RefusedProblem "(define (problem q) (:init (p ?x)))" (form 30 32)
  pub at_negative : RefusedProblem "(define (problem q) (:init (at -0 (p))))" (form 31 33)
  pub no_goal : RefusedProblem "(define (problem q) (:domain d) (:init))" (form 39 40)
  pub not_timed : RefusedProblem "(define (problem q) (:init (not (at 5 (p)))))" (form 36 37)

-- ---- constraints

-- the words of a rule, and the canonical text of its condition
abbrev pub rule_text : Rule → List ℕ
rule_text Always = codes "always"
rule_text Sometime = codes "sometime"
rule_text (Within t) = codes "within " ++ literal_text t
rule_text (HoldAfter t) = codes "hold-after " ++ literal_text t

abbrev pub constraint_text : Constraint → List ℕ
constraint_text c = rule_text c.rule ++ (codes " " ++ cond_text c.cond)

-- the text spells these constraints
abbrev pub ShowsConstraints : String → List (List ℕ) → Type 0
ShowsConstraints text told = shown (map constraint_text) (constraints_of 64 (items_of (codes text))) ≡ Ok told

abbrev pub RefusedConstraints : String → TextFault → Type 0
RefusedConstraints text fault = constraints_of 64 (items_of (codes text)) ≡ Err fault

-- a list of all rules, an empty one, and a single constraint; and each refusal at its place
pub record ConstraintRows : Type 0 where
  pub list : ShowsConstraints
      "(and (always (<= (level) 5)) (sometime (open)) (within 3 (>= (level) 5)) (hold-after 3.5 (not (open))) (always (<= (level) 4)))"
      (codes "always (<= (level) 5)" ∷ codes "sometime (open)" ∷ codes "within 3 (>= (level) 5)" ∷ codes "hold-after 3.5 (not (open))" ∷ codes "always (<= (level) 4)" ∷ [])
  pub none : ShowsConstraints "(and)" []
  pub single : ShowsConstraints "(Within 02.50 (P))" (codes "within 2.5 (p)" ∷ [])
  pub places : shown (map (λ (c : Constraint). c.span)) (constraints_of 64 (items_of (codes "(and (always (p)) (sometime ()) )"))) ≡ Ok (record { start = 5; «end» = 17 } ∷ record { start = 18; «end» = 31 } ∷ [])
  pub empty : RefusedConstraints "" faults.Unclosed
  pub unclosed : RefusedConstraints "(and (always (p))" faults.Unclosed
  pub bare : RefusedConstraints "()" (form 1 2)
  pub condition : RefusedConstraints "(not (p))" (form 1 4)
  pub nested : RefusedConstraints "(and (and))" (form 6 9)
  pub behind : RefusedConstraints "(and) (and)" (form 6 7)
  pub no_condition : RefusedConstraints "(always)" (form 7 8)
  pub two_conditions : RefusedConstraints "(always (p) (p))" (form 12 13)
  pub no_time : RefusedConstraints "(within (p))" (form 8 9)
  pub time : RefusedConstraints "(sometime 3 (p))" (form 10 11)
  pub negative : RefusedConstraints "(within -1 (p))" (form 8 10)
  pub negative_zero : RefusedConstraints "(hold-after -0 (p))" (form 12 14)
  pub fraction : RefusedConstraints "(within 1/2 (p))" (form 9 10)
