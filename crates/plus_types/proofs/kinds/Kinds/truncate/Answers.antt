use Rattle.std.proofs.Common.{◌∙◌, ap, sym, map}
use Rattle.std.proofs.lemmas.List.{take-map}
use Rattle.plus_types.proofs.KindsLemmas.{shown}
use Rattle.plus_types.proofs.kinds.Kinds.truncate.Goals as goal

pub returns : goal.returns
returns c = rw (← c.self.view_is) (ap (map shown) c.truncate.ensures.entries ∙ sym (take-map shown c.args.len c.self.inside.table.entries))
