use Rattle.std.proofs.Common.{◌∙◌}
use Rattle.planplus.proofs.FilesLemmas.{place_of_text}
use Rattle.planplus.proofs.files.place.Goals as goal

pub returns : goal.returns
returns c = c.first_named.ensures ∙ place_of_text c.args.names.now c.args.name.now
