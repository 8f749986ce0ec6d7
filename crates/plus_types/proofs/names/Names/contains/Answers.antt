use Rattle.std.proofs.Common.{◌∙◌, sym, Vec, Global, ℕ}
use Rattle.std.specs.Str.{bytes_eq}
use Rattle.plus_types.proofs.NamesLemmas.{list_any-map}
use Rattle.plus_types.proofs.names.Names.contains.Goals as goal

pub returns : goal.returns
returns c = rw (← c.self.view_is) (c.contains.ensures ∙ sym (list_any-map (bytes_eq c.args.name.now) (λ (key : Vec ℕ Global). key.items) c.self.inside.table.keys))
