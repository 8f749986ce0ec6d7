use Rattle.std.proofs.Common.{sym}
use Rattle.plus_parser.specs.Forms.ReadingForms.{compared_of}
use Rattle.plus_parser.proofs.forms.conditions.compared.Goals as goal

pub returns-then-is_same-clause-gives : goal.returns-then-is_same-clause-gives
unfolding compared_of
returns-then-is_same-clause-gives c = rw (c.in_ok-token.ensures.gives, sym c.if-is_same.ensures) c.same.ensures.gives
