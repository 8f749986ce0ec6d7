use Rattle.plus_typing.proofs.RulesRows.{rule_rows}
use Rattle.plus_typing.proofs.rows.rule_rows.Goals as goal

pub returns : goal.returns
returns c = rule_rows
