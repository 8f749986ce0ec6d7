-- What the rules and the walk of a check have to do with each other.
use Rattle.std.specs.Prelude.{◌≡◌, ◌↔◌, ℕ, false, List, [], ◌∷◌, ◌++◌, All, IsTrue}
use Rattle.std.specs.Bool.{Decides}
use Rattle.plus_tree.specs.declared.trees.Domain.{Domain}
use Rattle.plus_tree.specs.declared.trees.Problem.{Problem}
use Rattle.plus_tokens.specs.declared.span.Span.{Span}
use Rattle.plus_types.specs.declared.faults.File.{File}
use Rattle.plus_types.specs.declared.faults.Wrong.{Wrong}
use Rattle.plus_types.specs.declared.faults.TypeFault.{TypeFault}
use Rattle.plus_types.specs.declared.faults.TypeFault.TheVariants.{At, Memory}
use Rattle.plus_types.specs.Types.{Binding, is_above}
use Rattle.plus_types.specs.Faults.{type_faults, is_well_typed, IsFirstFault}
use Rattle.plus_typing.specs.WellTyped.{IsAbove, Rule, IsWellTyped}
use Rattle.plus_typing.specs.Asked.{Asked, ask, broken, rules_asked}

-- a pair has no faults exactly where it obeys the rules
abbrev pub WellTypedByStatements : Type 0
WellTypedByStatements = (d : Domain) (p : Problem) → (type_faults d p ≡ []) ↔ IsWellTyped d p

-- so the test that other definitions cite tells exactly whether it does
abbrev pub WellTypedIsDecided : Type 0
WellTypedIsDecided = (d : Domain) (p : Problem) → Decides (is_well_typed d p) (IsWellTyped d p)

-- its faults are those of the rules that are not met, in the order in which they are asked
abbrev pub FirstBroken : Type 0
FirstBroken = (d : Domain) (p : Problem) → type_faults d p ≡ broken (rules_asked d p)

-- a rule that is not met, behind others that all are
pub record IsFirstUnmet (asked : List Asked) (wrong : Wrong) (file : File) (span : Span) : Type 0 where
  pub before : List Asked
  pub after : List Asked
  pub whole : asked ≡ before ++ ask false wrong file span ∷ after
  pub met : All (λ q. IsTrue q.met) before

-- the first fault is that of the first rule that is not met
abbrev pub FirstFaultIsFirstUnmet : Type 0
FirstFaultIsFirstUnmet =
    (d : Domain) (p : Problem) (wrong : Wrong) (file : File) (span : Span)
    → IsFirstFault (type_faults d p) (At wrong file span) → IsFirstUnmet (rules_asked d p) wrong file span

-- the fault names a rule that is broken
abbrev pub NamesBroken : Domain → Problem → TypeFault → Type 0
NamesBroken d p (At wrong file span) = Rule wrong d p → ⊥
NamesBroken d p Memory = ⊥

-- so does each of its faults, the first one too
abbrev pub FaultsNameRules : Type 0
FaultsNameRules = (d : Domain) (p : Problem) → All (NamesBroken d p) (type_faults d p)

-- the test of a check, which takes so many steps up and no more, says exactly whether one type is above another
abbrev pub AboveIsDecided : Type 0
AboveIsDecided = (types : List Binding) (high low : List ℕ) → Decides (is_above types high low) (IsAbove types high low)
