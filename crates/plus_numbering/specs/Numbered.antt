-- What a numbering is for.
use Rattle.plus_types.specs.Faults.{Context, problem_context}
use Rattle.plus_numbering.specs.declared.numbering.Numbering.{Numbering}

-- what is declared in its pair
abbrev pub context : Numbering → Context
context n = problem_context n.typed.now.domain n.typed.now.problem
