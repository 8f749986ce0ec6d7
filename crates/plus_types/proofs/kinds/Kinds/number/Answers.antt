use Rattle.std.proofs.Common.{◌∙◌, Vec, Global, ℕ}
use Rattle.std.specs.Str.{bytes_eq}
use Rattle.plus_types.proofs.NamesLemmas.{position-map}
use Rattle.plus_types.proofs.KindsLemmas.{names-shown}
use Rattle.plus_types.proofs.kinds.Kinds.number.Goals as goal

pub returns-clause-place : goal.returns-clause-place
returns-clause-place c =
    rw (← c.self.view_is, names-shown c.self.inside.table.entries)
    (c.get_index_of.ensures.index ∙ position-map (bytes_eq c.args.name.now) (λ (key : Vec ℕ Global). key.items) _)
