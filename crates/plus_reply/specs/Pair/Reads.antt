-- What reading a text, a domain, a problem and a pair answers. What stands under a name is said where the shelf tells it.
-- A read fault comes only where the shelf's count rose; want of memory is free.
use Rattle.std.specs.Prelude.{◌≡◌, ℕ, ◌<◌, ◌≤◌, List, length, Option, IfSome}
use Rattle.plus_io.specs.Faults.{Rose}
use Rattle.plus_tree.specs.declared.trees.Domain.{Domain}
use Rattle.plus_tree.specs.declared.trees.Problem.{Problem}
use Rattle.plus_grammar.specs.Texts.{IsDomainText, IsProblemText}
use Rattle.plus_report.specs.declared.refusals.Text.{Text}
use Rattle.plus_report.specs.declared.refusals.Early.TheVariants.{TooLong}
use Rattle.plus_reply.specs.declared.pair.pair.Refusal.{Refusal}
use Rattle.plus_reply.specs.declared.pair.pair.Refusal.TheVariants.{Early, ReadFault, NoMemory}
use Rattle.plus_reply.specs.Pair.Pair.{depth_limit, DomainRefused, ProblemRefused, PairRefused, SpellsPair}
use Rattle.plus_io.specs.Limits.{text_limit}

-- the text is too long, or a fault or want of memory came
abbrev pub NotRead : Text → Option (List ℕ) → ℕ → ℕ → Refusal → Type 0
NotRead text bytes before now (Early e) = (e ≡ TooLong text) × IfSome bytes (λ bs. text_limit < length bs)
NotRead text bytes before now ReadFault = Rose before now
NotRead text bytes before now NoMemory = Unit {0}

abbrev pub ReadsDomain : Option (List ℕ) → Domain → Type 0
ReadsDomain bytes d = IfSome bytes (λ bs. IsDomainText depth_limit bs d × (length bs ≤ text_limit))

abbrev pub ReadsProblem : Option (List ℕ) → Problem → Type 0
ReadsProblem bytes p = IfSome bytes (λ bs. IsProblemText depth_limit bs p × (length bs ≤ text_limit))

abbrev pub ReadsPair : Option (List ℕ) → Option (List ℕ) → Domain → Problem → Type 0
ReadsPair domain problem d p = IfSome domain (λ ds. IfSome problem (λ ps. SpellsPair ds ps d p))

abbrev pub NoDomain : Option (List ℕ) → ℕ → ℕ → Refusal → Type 0
NoDomain bytes before now (Early e) = IfSome bytes (λ bs. DomainRefused bs e)
NoDomain bytes before now ReadFault = Rose before now
NoDomain bytes before now NoMemory = Unit {0}

abbrev pub NoProblem : Option (List ℕ) → ℕ → ℕ → Refusal → Type 0
NoProblem bytes before now (Early e) = IfSome bytes (λ bs. ProblemRefused bs e)
NoProblem bytes before now ReadFault = Rose before now
NoProblem bytes before now NoMemory = Unit {0}

abbrev pub NoPair : Option (List ℕ) → Option (List ℕ) → ℕ → ℕ → Refusal → Type 0
NoPair domain problem before now (Early e) = IfSome domain (λ ds. IfSome problem (λ ps. PairRefused ds ps e))
NoPair domain problem before now ReadFault = Rose before now
NoPair domain problem before now NoMemory = Unit {0}

-- ---- texts at hand: no shelf fails

abbrev pub NotDomain : List ℕ → Refusal → Type 0
NotDomain text (Early e) = DomainRefused text e
NotDomain text ReadFault = ⊥
NotDomain text NoMemory = Unit {0}

abbrev pub NotProblem : List ℕ → Refusal → Type 0
NotProblem text (Early e) = ProblemRefused text e
NotProblem text ReadFault = ⊥
NotProblem text NoMemory = Unit {0}

abbrev pub NotPair : List ℕ → List ℕ → Refusal → Type 0
NotPair domain problem (Early e) = PairRefused domain problem e
NotPair domain problem ReadFault = ⊥
NotPair domain problem NoMemory = Unit {0}
