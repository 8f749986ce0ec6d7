use Rattle.std.proofs.Common.{◌∙◌, ap, map}
use Rattle.std.specs.Str.{bytes_eq}
use Rattle.plus_types.proofs.KindsLemmas.{shown, any-shown, insert-new, map-append}
use Rattle.plus_types.proofs.kinds.Kinds.bind.Goals as goal

pub returns : goal.returns
returns c =
    let es = c.self.inside.table.entries in
    let fresh = rw (← c.self.view_is, ← c.in_ok-name.ensures.items, any-shown (bytes_eq c.in_ok-name.name.items) es) at c.requires in
    let added = c.in_ok-insert.ensures.entries ∙ insert-new _ es c.in_ok-name.name c.in_ok-kind.kind fresh in
    rw (← c.self.view_is, ← c.in_ok-name.ensures.items, ← c.in_ok-kind.ensures.ok) (ap (map shown) added ∙ map-append shown es _)
