use Rattle.std.proofs.Common.{◌≡◌, ◌++◌, take}
use Rattle.plus_drawing.specs.Markup.{escaped}
use Rattle.plus_drawing.proofs.markup.append_escaped.Given as goal

abbrev pub invariant-bytes : goal.invariant-bytes
invariant-bytes l = l.into.items ≡ l.initial.into.items ++ escaped (take l.byte-index l.text)
