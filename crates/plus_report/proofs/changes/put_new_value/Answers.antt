use Rattle.std.proofs.Common.{sym, ◌∙◌}
use Rattle.plus_report.proofs.PutsLemmas.{worded, nothing}
use Rattle.plus_report.proofs.TextLemmas.{new_value_line-none, new_value_line-first, new_value_line-same, new_value_line-other}
use Rattle.plus_report.proofs.changes.put_new_value.Goals as goal

pub returns-in_default : goal.returns-in_default
returns-in_default g c = worded (nothing tt) (new_value_line-none g.Q.Exact.value _ _ _ _ c.in_default.is)

pub returns-then-is_same : goal.returns-then-is_same
returns-then-is_same g c =
    worded (nothing tt) (new_value_line-same g.Q.Exact.value _ _ _ _ _ _ c.in-Some-old.is c.in-Some.is (sym c.is_same.ensures ∙ c.if-is_same.true))

pub returns-in-Some-old : goal.returns-in-Some-old
returns-in-Some-old g c =
    worded c.put_value.ensures (new_value_line-other g.Q.Exact.value _ _ _ _ _ _ c.in-Some-old.is c.in-Some.is (sym c.is_same.ensures ∙ c.if-is_same.false))

pub returns : goal.returns
returns g c = worded c.put_value-2.ensures (new_value_line-first g.Q.Exact.value _ _ _ _ _ c.in_default-old.is c.in-Some.is)
