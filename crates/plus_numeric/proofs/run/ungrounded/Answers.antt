use Rattle.std.proofs.Common.{◌≡◌, subst}
use Rattle.plus_number.specs.Frac.{IsFrac64}
use Rattle.plus_report.specs.declared.refusals.Early.TheVariants.{Literal}
use Rattle.plus_report.specs.declared.refusals.Text.{Text}
use Rattle.plus_report.specs.Refusals.{early_text}
use Rattle.plus_ground.specs.Refusals.{RefusesGround}
use Rattle.plus_numeric.specs.Telling.{TellsLine}
use Rattle.plus_numeric.specs.Verdicts.{early_kind}
use Rattle.plus_numeric.proofs.RunLemmas.{tells_literal}
use Rattle.plus_numeric.proofs.run.ungrounded.Goals as goal

pub returns-in-Literal : goal.returns-in-Literal
returns-in-Literal c = λ d p l r.
    tells_literal c.args.source d p c.in-Literal.file c.in-Literal.span c.told_early.result l
    (subst (λ f. RefusesGround IsFrac64 d p f) c.in-Literal.is r)
    (subst (λ (t : Text). TellsLine (early_kind (Literal t c.in-Literal.span.start c.in-Literal.span.«end»)) (early_text (Literal t c.in-Literal.span.start c.in-Literal.span.«end»)) c.told_early.result) c.text.ensures c.told_early.ensures)
