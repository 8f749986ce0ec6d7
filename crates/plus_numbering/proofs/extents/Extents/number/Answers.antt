use Rattle.std.proofs.Common.{◌∙◌, sym}
use Rattle.std.specs.Str.{bytes_eq}
use Rattle.plus_numbering.proofs.NumberLemmas.{position-none, position-some}
use Rattle.plus_numbering.proofs.extents.Extents.number.Goals as goal

pub returns-in-None : goal.returns-in-None
returns-in-None c = c.len.ensures ∙ sym (position-none (bytes_eq c.args.kind.now) c.args.self.now.names (sym c.in-None.ensures.place))

pub returns-in-Some : goal.returns-in-Some
returns-in-Some c = sym (position-some (bytes_eq c.args.kind.now) c.args.self.now.names c.in-Some.place (sym c.in-Some.ensures.place))
