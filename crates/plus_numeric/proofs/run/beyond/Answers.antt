use Rattle.std.proofs.Common.{◌≡◌, subst}
use Rattle.plus_report.specs.declared.refusals.Early.TheVariants.{BadText}
use Rattle.plus_report.specs.declared.refusals.Text.{Text}
use Rattle.plus_report.specs.declared.refusals.Word.TheVariants.{NotLevelTwo}
use Rattle.plus_report.specs.Refusals.{early_text}
use Rattle.plus_numeric.specs.Telling.{TellsLine}
use Rattle.plus_numeric.specs.Verdicts.{early_kind}
use Rattle.plus_numeric.proofs.RunLemmas.{tells_beyond}
use Rattle.plus_numeric.proofs.run.beyond.Goals as goal

pub returns : goal.returns
returns c = λ d p h.
    tells_beyond c.args.source d p c.args.place c.told_early.result h
    (subst (λ (t : Text). TellsLine (early_kind (BadText t c.args.place.span.start c.args.place.span.«end» NotLevelTwo)) (early_text (BadText t c.args.place.span.start c.args.place.span.«end» NotLevelTwo)) c.told_early.result) c.text.ensures c.told_early.ensures)
