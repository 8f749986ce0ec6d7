-- The refusal of a pair and an answer to a plan for it exclude each other.
use Rattle.std.proofs.Common.{◌≡◌, ℕ, List, sym, subst, ◌∙◌}
use Rattle.std.specs.Prelude.{Some, None, All}
use Rattle.plus_number.specs.Frac.{IsFrac64}
use Rattle.plus_tree.specs.declared.trees.Domain.{Domain}
use Rattle.plus_tree.specs.declared.trees.Problem.{Problem}
use Rattle.plus_tree.specs.declared.terms.Literal.{Literal}
use Rattle.plus_types.specs.declared.faults.File.{File}
use Rattle.plus_literal.specs.Value.{LiteralFits}
use Rattle.plus_numbering.specs.declared.faults.GroundFault.{GroundFault}
use Rattle.plus_numbering.specs.declared.faults.GroundFault.TheVariants as faults
use Rattle.plus_ground.specs.Refusals.{RefusesGround}
use Rattle.plus_expansion.specs.Counting.{IsGroundable}
use Rattle.plus_validator.specs.Validates.{TellsFault}
use Rattle.plus_validator.specs.Laws.{IsJudgedFor, accepted, refused, PairOrPlan}
use Rattle.plus_validator.proofs.Inside.{one_of}

-- the literal is a value of the type of numbers
abbrev Fits : File × Literal → Type 0
Fits l = LiteralFits IsFrac64 l.1

pub not_groundable : (d : Domain) (p : Problem) (line : List ℕ) (fault : GroundFault) → RefusesGround IsFrac64 d p fault → TellsFault fault line → IsGroundable IsFrac64 d p → ⊥
not_groundable d p line (faults.TooMany kind most) r t g = let e : None ≡ Some _ = sym g.counts ∙ r.1 in cc e
not_groundable d p line (faults.Literal file span) r t g =
    r.unfit.first.fails (one_of Fits r.unfit.first.front r.unfit.first.back (file, r.unfit.literal) (subst (All Fits) r.unfit.first.split g.literals))
not_groundable d p line faults.Memory r t g = t

groundable : (d : Domain) (p : Problem) → IsJudgedFor d p → IsGroundable IsFrac64 d p
groundable d p (accepted most text bytes a) = a.groundable
groundable d p (refused most text goes_on outcome bytes r) = r.groundable

pub pair_or_plan : PairOrPlan
pair_or_plan d p line u j = not_groundable d p line u.fault u.refused u.tells (groundable d p j)
