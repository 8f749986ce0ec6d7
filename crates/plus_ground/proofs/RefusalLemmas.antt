-- A refusal of grounding, by what is tested: the counts of names, all counts, the literals.
use Rattle.std.proofs.Common.{◌≡◌, Bool, true, false, cond, List, [], ◌∷◌, ◌++◌, All, Result, Ok, Err, MatchResult, Option, Some, None, nat_lt}
use Rattle.plus_fraction.specs.Fraction.{Fraction}
use Rattle.plus_tree.specs.declared.trees.Domain.{Domain}
use Rattle.plus_tree.specs.declared.trees.Problem as tree
use Rattle.plus_types.specs.Faults.{problem_context}
use Rattle.plus_literal.specs.Value.{LiteralFits}
use Rattle.plus_expansion.specs.Expansion.{expanded}
use Rattle.plus_expansion.specs.Counts.{Counted, first_over, name_counts}
use Rattle.plus_expansion.specs.Counting.{form_counts, counts_of, IsGroundable}
use Rattle.plus_expansion.specs.Literals.{literals_of}
use Rattle.plus_numbering.specs.declared.faults.GroundFault.{GroundFault}
use Rattle.plus_numbering.specs.declared.faults.GroundFault.TheVariants.{TooMany, Literal, Memory}
use Rattle.plus_numbering.specs.Refusals.{RefusesCount, RefusesLiteral}
use Rattle.plus_ground.specs.Refusals.{RefusesGround}

-- what is over first stays so, whatever is counted later
over-first : (xs ys : List Counted) (x : Counted) → first_over xs ≡ Some x → first_over (xs ++ ys) ≡ Some x
over-first [] ys x e = cc e
over-first (c ∷ cs) ys x e = by (nat_lt c.most c.number) e (over-first cs ys x)
  where
    by :
        (b : Bool) → cond b (Some c) (first_over cs) ≡ Some x → (first_over cs ≡ Some x → first_over (cs ++ ys) ≡ Some x)
        → cond b (Some c) (first_over (cs ++ ys)) ≡ Some x
    by true e more = e
    by false e more = more e

-- too many objects, ground atoms or ground fluents
pub names_refused : (fits : Fraction → Type 0) (d : Domain) (p : tree.Problem) (fault : GroundFault) → RefusesCount (name_counts (problem_context d p)) fault → RefusesGround fits d p fault
names_refused fits d p (TooMany kind most) h = (h.0, over-first (name_counts (problem_context d p)) (form_counts (expanded d p)) (record { kind = kind; most = most; number = h.0 }) h.1)
names_refused fits d p (Literal file span) h = absurd h
names_refused fits d p Memory h = tt

-- too many of what is counted
pub counts_refused : (fits : Fraction → Type 0) (d : Domain) (p : tree.Problem) (fault : GroundFault) → RefusesCount (counts_of d p) fault → RefusesGround fits d p fault
counts_refused fits d p (TooMany kind most) h = h
counts_refused fits d p (Literal file span) h = absurd h
counts_refused fits d p Memory h = tt

-- nothing is too many, and the literals are tested
pub literals_tested :
    {A : Type 0} (fits : Fraction → Type 0) (d : Domain) (p : tree.Problem) (r : Result A GroundFault) → first_over (counts_of d p) ≡ None
    → MatchResult r (λ _. All (λ l. LiteralFits fits l.1) (literals_of d p)) (RefusesLiteral fits (literals_of d p))
    → MatchResult r (λ _. IsGroundable fits d p) (RefusesGround fits d p)
literals_tested fits d p (Ok x) e h = record { counts = e; literals = h }
literals_tested fits d p (Err (TooMany kind most)) e h = absurd h
literals_tested fits d p (Err (Literal file span)) e h = record { counts = e; unfit = h }
literals_tested fits d p (Err Memory) e h = absurd h
