use Rattle.std.proofs.Common.{drop}
use Rattle.plus_printer.specs.Canon.{schemas_text}
use Rattle.plus_printer.proofs.AppendedLemmas.{Halfway}
use Rattle.plus_printer.proofs.sections.schemas.Given as goal

abbrev pub invariant-members : goal.invariant-members
invariant-members l =
    Halfway l.initial.text.items l.text.items (schemas_text l.opens l.schemas) (schemas_text l.opens (drop l.member-index l.schemas))
