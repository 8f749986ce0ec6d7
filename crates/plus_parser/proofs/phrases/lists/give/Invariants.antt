use Rattle.std.proofs.Common.{◌≡◌, map, ◌++◌}
use Rattle.plus_parser.specs.Phrases.Grammar.{of_type, spelled_of}
use Rattle.plus_tokens.specs.Seen.{seen}
use Rattle.plus_parser.proofs.phrases.lists.give.Given as goal

abbrev pub invariant-names : goal.invariant-names
invariant-names l = l.typed.items ≡ l.initial.typed.items ++ map (of_type (spelled_of (seen l.fn.kind))) l.yielded
