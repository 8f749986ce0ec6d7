use Rattle.std.proofs.Common.{◌≡◌, subst}
use Rattle.plus_report.specs.declared.refusals.Early.TheVariants.{TooMany}
use Rattle.plus_report.specs.declared.refusals.Kinds.{Kinds}
use Rattle.plus_report.specs.Refusals.{early_text}
use Rattle.plus_numeric.specs.Telling.{TellsLine}
use Rattle.plus_numeric.specs.Verdicts.{early_kind}
use Rattle.plus_numeric.proofs.RunLemmas.{tells_many}
use Rattle.plus_numeric.proofs.run.too_many.Goals as goal

pub returns : goal.returns
returns c = λ d p l r.
    tells_many c.args.source d p c.args.kind c.args.most c.told_early.result l r
    (subst (λ (k : Kinds). TellsLine (early_kind (TooMany k c.args.most)) (early_text (TooMany k c.args.most)) c.told_early.result) c.kind_of.ensures c.told_early.ensures)
