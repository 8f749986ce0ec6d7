use Rattle.std.proofs.Common.{◌≡◌, length}
use Rattle.plus_plan.specs.Grammar.{args_of}
use Rattle.plus_plan.proofs.Names.{with_front}
use Rattle.plus_plan.proofs.grammar.args.Given as goal

abbrev pub invariant-names : goal.invariant-names
invariant-names l = with_front l.args (args_of l.reader) ≡ args_of l.initial.reader

abbrev pub decreases-names : goal.decreases-names
decreases-names l = length l.reader
