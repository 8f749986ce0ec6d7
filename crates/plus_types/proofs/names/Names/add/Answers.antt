use Rattle.std.proofs.Common.{◌∙◌, ap, sym, not, Vec, Global, ℕ}
use Rattle.std.specs.Str.{bytes_eq}
use Rattle.plus_types.proofs.NamesLemmas.{list_any-map}
use Rattle.plus_types.proofs.names.Names.add.Goals as goal

pub returns-clause-fresh : goal.returns-clause-fresh
returns-clause-fresh c =
    let f = λ (key : Vec ℕ Global). key.items in
    let keys = c.self.inside.table.keys in
    rw (← c.self.view_is, ← c.in_ok-key.ensures.items) (c.in_ok-fresh.ensures.added ∙ ap not (sym (list_any-map (bytes_eq c.in_ok-key.key.items) f keys)))
