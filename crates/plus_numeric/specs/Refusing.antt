-- A pair that is refused before its plan is read: the first test that fails is one of those of the pair.
use Rattle.std.specs.Prelude.{◌≡◌, ℕ, List}
use Rattle.plus_tree.specs.declared.trees.Domain.{Domain}
use Rattle.plus_tree.specs.declared.trees.Problem as tree
use Rattle.plus_numeric.specs.declared.answer.Stop.{Stop}
use Rattle.plus_numeric.specs.declared.answer.Stop.TheVariants.{Refused, ReadFault, NoMemory}
use Rattle.plus_numeric.specs.declared.source.Source.{Source}
use Rattle.plus_numeric.specs.Tests.{Test, FirstFailing}
use Rattle.plus_numeric.specs.Asked.{pair_tests}
use Rattle.plus_numeric.specs.Verdicts.{verdict_of, line_of, kind_of}
use Rattle.plus_numeric.specs.declared.answer.Refused as answers

pub record IsRefusedPair (source : Source) (d : Domain) (p : tree.Problem) (r : answers.Refused) : Type 0 where
  pub test : Test
  pub first : FirstFailing (pair_tests d p) test
  pub kind_is : r.kind ≡ kind_of (verdict_of source test)
  pub says : r.line.items ≡ line_of d p (verdict_of source test)

-- that is told, or memory is wanting
abbrev pub StopsPair : Source → Domain → tree.Problem → Stop → Type 0
StopsPair source d p (Refused r) = IsRefusedPair source d p r
StopsPair source d p ReadFault = ⊥
StopsPair source d p NoMemory = Unit {0}
